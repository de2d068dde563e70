-- A text is kept in a query exactly where it is well formed and its identifiers evaluate there. Assumes nothing.
use Rattle.std.specs.Prelude.{◌≡◌, false, ℕ, zero, suc, ◌≤◌, eqb, ltb, length}
use Rattle.std.proofs.Math.Path.{refl, subst}
use Rattle.std.proofs.Common.{sym, ap, ◌∙◌, arith, eqb-true, ltb-false, ne_eqb, le-ltb, eq-eqb}
use Rattle.std.proofs.Math.Logic.{⊎_elim}
use mathlib.Core.List.Memᴰ.{cases_cons as mem-∷}
use mathlib.Core.List.Memᴰ.{head as here}
use mathlib.Core.List.Memᴰ.{tail as there}
use mathlib.Core.List.{List, [], ◌∷◌, ◌++◌, map, Memᴰ as Mem}
use Rattle.std.proofs.lemmas.Bool.{eqb-false}
use Rattle.text.specs.Choice.{split}
use Rattle.limits.specs.Limits.{most_identifier}
use Rattle.record.specs.Query.{Query}
use Rattle.principal.specs.Principal.{Principal, same, policy}
use Rattle.compliance.specs.Licensees.{named, licensees}
use Rattle.expression.specs.Names.{Environment, environment}
use Rattle.naming.specs.Source.{Source, Sources, one, and, or, k_of, Licensees, missing, empty, given, Author, sources}
use Rattle.naming.specs.Naming.{identified, people, author, licensed}
use Rattle.naming.specs.Fault.{Fault, clear, faulty, size_fault, source_fault, verified, policy_fault, author_fault, first_fault, licensees_fault}
use Rattle.assertion.specs.Assertion.{Assertion}
use Rattle.assertion.specs.Read.{kept, dropped}
use Rattle.assertion.specs.Said.{Said}
use Rattle.assertion.specs.Form.{Form, formed, unformed}
use Rattle.assertion.specs.Resolved.{meant, fault_of, judged, resolved}
use Rattle.assertion.specs.Evaluates.{Identifies, Evaluates}
use Rattle.assertion.specs.Theorems.StandIn.{never, clear_both}

map-split : {A B : Type 0} (f : A → B) (l m : List A) → map f (l ++ m) ≡ map f l ++ map f m
map-split f [] m = refl
map-split f (a ∷ l) m = ap (λ c. f a ∷ c) (map-split f l m)

-- the principals named are those identified, in the text's order
pub people-named : (env : Environment) (e : Sources) → named (people env e) ≡ map (identified env) (sources e)
unfolding people named sources
people-named env (one x) = refl
people-named env (and a b) = cc (people-named env a, people-named env b, map-split (identified env) (sources a) (sources b))
people-named env (or a b) = cc (people-named env a, people-named env b, map-split (identified env) (sources a) (sources b))
people-named env (k_of k xs) = refl

-- ---- one identifier

not-zero : (n : ℕ) → eqb n 0 ≡ false → 1 ≤ n
not-zero zero e = let z : ◌≡◌ {A = ℕ} 0 0 → ⊥ = eqb-false 0 0 e in absurd (z refl)
not-zero (suc n) e = omega arith

pub size-clear : (at : ℕ) (p : Principal) → Identifies p → size_fault at p ≡ clear
unfolding size_fault
size-clear at p i = rw (ne_eqb (length p) 0 (λ e. omega (arith, e, i.some)), le-ltb most_identifier (length p) i.short)

pub clear-size : (at : ℕ) (p : Principal) → size_fault at p ≡ clear → Identifies p
unfolding size_fault
clear-size at p h =
    split (eqb (length p) 0) (λ e. never 10 at (rw e at h))
    (λ e. split (ltb most_identifier (length p)) (λ f. never 10 at (rw (e, f) at h))
    (λ f. record { some = not-zero (length p) e; short = ltb-false most_identifier (length p) f }))

policy-clear : (standing at : ℕ) (p : Principal) → (standing ≡ verified → same p policy ≡ false) → policy_fault standing at p ≡ clear
unfolding policy_fault
policy-clear standing at p h = split (eqb standing verified) (λ e. rw (e, h (eqb-true standing verified e))) (λ e. rw e)

clear-policy : (standing at : ℕ) (p : Principal) → policy_fault standing at p ≡ clear → standing ≡ verified → same p policy ≡ false
unfolding policy_fault
clear-policy standing at p h e = split (same p policy) (λ f. never 9 at (rw (eq-eqb standing verified e, f) at h)) (λ f. f)

-- ---- the licensees

module _ (env : Environment) where
  abbrev All : List Source → Type 0
  All l = (p : Principal) → Mem p (map (identified env) l) → Identifies p

  all-clear : (l : List Source) → All l → first_fault (map (source_fault env) l) ≡ clear
  unfolding first_fault source_fault
  all-clear [] h = refl
  all-clear (x ∷ l) h = rw (size-clear x.place (identified env x) (h (identified env x) (here refl))) (all-clear l (λ p m. h p (there m)))

  clear-all : (l : List Source) → first_fault (map (source_fault env) l) ≡ clear → All l
  unfolding first_fault source_fault
  clear-all [] h p m = elim m [ ]
  clear-all (x ∷ l) h p m =
      let k : _ = clear_both (size_fault x.place (identified env x)) (first_fault (map (source_fault env) l)) h in
      ⊎_elim (λ (e : p ≡ identified env x). subst Identifies (sym e) (clear-size x.place (identified env x) k.0)) (λ n. clear-all l k.1 p n) (mem-∷ m)

module _ (q : Query) where
  licensees-clear : (l : Licensees) → ((p : Principal) → Mem p (licensees (licensed q l)) → Identifies p) → licensees_fault q l ≡ clear
  unfolding licensees_fault licensed licensees
  licensees-clear missing h = refl
  licensees-clear empty h = refl
  licensees-clear (given cs e) h =
      all-clear (environment q cs) (sources e) (λ p m. h p (subst (λ (l : List Principal). Mem p l) (sym (people-named (environment q cs) e)) m))

  clear-licensees : (l : Licensees) → licensees_fault q l ≡ clear → (p : Principal) → Mem p (licensees (licensed q l)) → Identifies p
  unfolding licensees_fault licensed licensees
  clear-licensees missing h p m = elim m [ ]
  clear-licensees empty h p m = elim m [ ]
  clear-licensees (given cs e) h p m =
      clear-all (environment q cs) (sources e) h p (subst (λ (l : List Principal). Mem p l) (people-named (environment q cs) e) m)

  module _ (standing : ℕ) where
    author-clear : (a : Author) → Identifies (author q a) → (standing ≡ verified → same (author q a) policy ≡ false) → author_fault standing q a ≡ clear
    unfolding author_fault source_fault author
    author-clear a i h = rw (size-clear a.by.place (author q a) i) (policy-clear standing a.by.place (author q a) h)

    clear-author : (a : Author) → author_fault standing q a ≡ clear → Identifies (author q a) × (standing ≡ verified → same (author q a) policy ≡ false)
    unfolding author_fault source_fault author
    clear-author a h =
        let k : _ = clear_both (size_fault a.by.place (author q a)) (policy_fault standing a.by.place (author q a)) h in
        (clear-size a.by.place (author q a) k.0, clear-policy standing a.by.place (author q a) k.1)

    -- nothing is against a text exactly where its identifiers evaluate
    pub evaluates-clear : (a : Said) → Evaluates q standing a → fault_of q standing a ≡ clear
    unfolding fault_of
    evaluates-clear a h = rw (author-clear a.author h.made h.unbarred) (licensees-clear a.licensees h.licensed-to)

    pub clear-evaluates : (a : Said) → fault_of q standing a ≡ clear → Evaluates q standing a
    unfolding fault_of
    clear-evaluates a h =
        let k : _ = clear_both (author_fault standing q a.author) (licensees_fault q a.licensees) h in
        let m : _ = clear-author a.author k.0 in
        record { made = m.0; licensed-to = clear-licensees a.licensees k.1; unbarred = m.1 }

    -- then it is kept
    pub evaluates-kept : (a : Said) → Evaluates q standing a → resolved q standing (formed a) ≡ kept (meant q a)
    evaluates-kept a h = ap (judged q a) (evaluates-clear a h)

    not-dropped : {P : Type 0} (r p : ℕ) (c : Assertion) → dropped r p ≡ kept c → P
    not-dropped r p c h = absurd (let z : ◌≡◌ {A = ℕ} 0 1 = cc in omega arith)

    judged-kept : (a : Said) (c : Assertion) (f : Fault) → fault_of q standing a ≡ f → judged q a f ≡ kept c → Evaluates q standing a × (c ≡ meant q a)
    judged-kept a c clear e h = (clear-evaluates a e, cc)
    judged-kept a c (faulty r p) e h = not-dropped r p c h

    -- and only then
    pub kept-evaluates : (r : Form) (c : Assertion) → resolved q standing r ≡ kept c
        → (a : Said) × ((r ≡ formed a) × (Evaluates q standing a × (c ≡ meant q a)))
    kept-evaluates (unformed r p) c h = not-dropped r p c h
    kept-evaluates (formed a) c h = (a, (refl, judged-kept a c (fault_of q standing a) refl h))

    -- else it is set aside with the reason against the text, or with the first against its identifiers
    pub data SetAside (r p : ℕ) : Form → Type 0 where
      ill-formed : SetAside r p (unformed r p)
      unidentified : (a : Said) → fault_of q standing a ≡ faulty r p → SetAside r p (formed a)

    judged-dropped : (a : Said) (r p : ℕ) (f : Fault) → fault_of q standing a ≡ f → judged q a f ≡ dropped r p → SetAside r p (formed a)
    judged-dropped a r p clear e h = not-dropped r p (meant q a) (sym h)
    judged-dropped a r p (faulty x y) e h = unidentified a (e ∙ (let z : faulty x y ≡ faulty r p = cc in z))

    pub dropped-why : (r p : ℕ) (f : Form) → resolved q standing f ≡ dropped r p → SetAside r p f
    dropped-why r p (unformed x y) h = let e : r ≡ x = cc in let g : p ≡ y = cc in rw (e, g) ill-formed
    dropped-why r p (formed a) h = judged-dropped a r p (fault_of q standing a) refl h
