-- "Both only in a text otherwise well formed, the earliest place first": the reason given is against the text, and none that is against it stands earlier.
-- Assumes nothing.
use Rattle.std.specs.Prelude.{◌≡◌, true, ◌⊎◌, ℕ, ◌≤◌, eqb, leb, ltb, length}
use Rattle.std.proofs.Math.Path.{refl}
use Rattle.std.proofs.Common.{sym, ap, ◌∙◌, inl, inr, arith, leb-true, leb-false, eqb-true, eq-eqb}
use Rattle.std.proofs.Math.Logic.{⊎_elim}
use mathlib.Core.List.Memᴰ.{cases_cons as mem-∷}
use mathlib.Core.List.Memᴰ.{head as here}
use mathlib.Core.List.Memᴰ.{tail as there}
use mathlib.Core.List.{List, [], ◌∷◌, map, Memᴰ as Mem}
use Rattle.text.specs.Choice.{pick, split}
use Rattle.limits.specs.Limits.{most_identifier}
use Rattle.record.specs.Query.{Query, Attribute}
use Rattle.principal.specs.Principal.{Principal, same, policy}
use Rattle.expression.specs.Names.{Environment, environment}
use Rattle.naming.specs.Source.{Source, Sources, Licensees, missing, empty, given, sources}
use Rattle.naming.specs.Naming.{identified, author}
use Rattle.naming.specs.Fault.{Fault, clear, faulty, earlier, size_fault, source_fault, verified, policy_fault, author_fault, first_fault, licensees_fault}
use Rattle.assertion.specs.Said.{Said}
use Rattle.assertion.specs.Resolved.{fault_of}
use Rattle.assertion.specs.Evaluates.{Identifies}
use Rattle.assertion.specs.Theorems.StandIn.{never}
use Rattle.assertion.specs.Theorems.Evaluated.{size-clear, clear-size}

-- what is against a well-formed text in a query: a reason and its place
pub data Against (q : Query) (standing : ℕ) (a : Said) : ℕ → ℕ → Type 0 where
  author-nobody : (Identifies (author q a.author) → ⊥) → Against q standing a 10 a.author.by.place
  author-policy : standing ≡ verified → same (author q a.author) policy ≡ true → Against q standing a 9 a.author.by.place
  licensee-nobody : (cs : List Attribute) (e : Sources) (x : Source) → a.licensees ≡ given cs e → Mem x (sources e)
      → (Identifies (identified (environment q cs) x) → ⊥) → Against q standing a 10 x.place

-- ---- the earlier of two

place_is : {r p r' p' : ℕ} → faulty r p ≡ faulty r' p' → p ≡ p'
place_is e = cc

earlier-from : (f g : Fault) (r p : ℕ) → earlier f g ≡ faulty r p → (f ≡ faulty r p) ⊎ (g ≡ faulty r p)
earlier-from clear g r p h = inr h
earlier-from (faulty x y) clear r p h = inl h
earlier-from (faulty x y) (faulty x' y') r p h = split (leb y y') (λ e. inl (rw e at h)) (λ e. inr (rw e at h))

-- it stands no later than either
abbrev NoLater : ℕ → Fault → Type 0
NoLater p f = (r' p' : ℕ) → f ≡ faulty r' p' → p ≤ p'

no-later-clear : (p : ℕ) → NoLater p clear
no-later-clear p r' p' e = never r' p' (sym e)

earlier-first : (f g : Fault) (r p : ℕ) → earlier f g ≡ faulty r p → NoLater p f × NoLater p g
earlier-first clear g r p h = (no-later-clear p, λ r' p' e. let z : p ≡ p' = place_is (sym h ∙ e) in omega (arith, z))
earlier-first (faulty x y) clear r p h = (λ r' p' e. let z : p ≡ p' = place_is (sym h ∙ e) in omega (arith, z), no-later-clear p)
earlier-first (faulty x y) (faulty x' y') r p h =
    split (leb y y')
    (λ l. let k : faulty x y ≡ faulty r p = rw l at h in let w : y ≡ p = place_is k in
    (λ r' p' e. let z : y ≡ p' = place_is e in omega (arith, z, w), λ r' p' e. let z : y' ≡ p' = place_is e in omega (arith, z, w, leb-true y y' l)))
    (λ l. let k : faulty x' y' ≡ faulty r p = rw l at h in let w : y' ≡ p = place_is k in
    (λ r' p' e. let z : y ≡ p' = place_is e in omega (arith, z, w, leb-false y y' l), λ r' p' e. let z : y' ≡ p' = place_is e in omega (arith, z, w)))

-- where one is a fault, so is the earlier
record Some (z : Fault) (p : ℕ) : Type 0 where
  reason : ℕ
  place : ℕ
  is : z ≡ faulty reason place
  least : place ≤ p

some-earlier : (f g z : Fault) → earlier f g ≡ z → (r p : ℕ) → (f ≡ faulty r p) ⊎ (g ≡ faulty r p) → Some z p
some-earlier f g (faulty r' p') h r p k =
    let b : NoLater p' f × NoLater p' g = earlier-first f g r' p' h in record { reason = r'; place = p'; is = refl; least = ⊎_elim (b.0 r p) (b.1 r p) k }
some-earlier clear clear clear h r p k = ⊎_elim (λ e. never r p (sym e)) (λ e. never r p (sym e)) k
some-earlier clear (faulty x y) clear h r p k = never x y h
some-earlier (faulty x y) clear clear h r p k = never x y h
some-earlier (faulty x y) (faulty x' y') clear h r p k = split (leb y y') (λ e. never x y (rw e at h)) (λ e. never x' y' (rw e at h))

some-less : {z : Fault} {p p' : ℕ} → Some z p → p ≤ p' → Some z p'
some-less s h = record { reason = s.reason; place = s.place; is = s.is; least = omega (arith, s.least, h) }

-- ---- one identifier

size-nobody : (at : ℕ) (p : Principal) → (Identifies p → ⊥) → size_fault at p ≡ faulty 10 at
unfolding size_fault
size-nobody at p un =
    split (eqb (length p) 0) (λ e. rw e)
    (λ e. split (ltb most_identifier (length p)) (λ f. rw (e, f))
    (λ f. let z : pick (eqb (length p) 0) (faulty 10 at) (pick (ltb most_identifier (length p)) (faulty 10 at) clear) ≡ clear = rw (e, f) in
    absurd (un (clear-size at p z))))

nobody-size : (at : ℕ) (p : Principal) (r x : ℕ) → size_fault at p ≡ faulty r x → (Identifies p → ⊥) × ((r ≡ 10) × (x ≡ at))
nobody-size at p r x h =
    let un : Identifies p → ⊥ = λ i. never r x (sym h ∙ size-clear at p i) in
    let z : faulty 10 at ≡ faulty r x = sym (size-nobody at p un) ∙ h in
    (un, (cc, cc))

policy-barred : (standing at : ℕ) (p : Principal) → standing ≡ verified → same p policy ≡ true → policy_fault standing at p ≡ faulty 9 at
unfolding policy_fault
policy-barred standing at p e s = rw (eq-eqb standing verified e, s)

barred-policy : (standing at : ℕ) (p : Principal) (r x : ℕ) → policy_fault standing at p ≡ faulty r x
    → (standing ≡ verified) × ((same p policy ≡ true) × ((r ≡ 9) × (x ≡ at)))
unfolding policy_fault
barred-policy standing at p r x h =
    split (eqb standing verified)
    (λ e. split (same p policy)
    (λ s. let z : faulty 9 at ≡ faulty r x = rw (e, s) at h in (eqb-true standing verified e, (s, (cc, cc))))
    (λ s. let z : clear ≡ faulty r x = rw (e, s) at h in never r x (sym z)))
    (λ e. let z : clear ≡ faulty r x = rw e at h in never r x (sym z))

-- ---- the licensees

record Found (env : Environment) (l : List Source) (r p : ℕ) : Type 0 where
  one : Source
  among : Mem one l
  is : source_fault env one ≡ faulty r p

module _ (env : Environment) where
  first-from : (l : List Source) (r p : ℕ) → first_fault (map (source_fault env) l) ≡ faulty r p → Found env l r p
  unfolding first_fault
  first-from [] r p h = never r p (sym h)
  first-from (x ∷ l) r p h = ⊎_elim
      (λ e. record { one = x; among = here refl; is = e })
      (λ e. let f : Found env l r p = first-from l r p e in record { one = f.one; among = there f.among; is = f.is })
      (earlier-from (source_fault env x) (first_fault (map (source_fault env) l)) r p h)

  -- where one of them is at fault, the first is no later
  first-no-later : (l : List Source) (x : Source) → Mem x l → (r p : ℕ) → source_fault env x ≡ faulty r p → Some (first_fault (map (source_fault env) l)) p
  unfolding first_fault
  first-no-later [] x m r p e = elim m [ ]
  first-no-later (y ∷ l) x m r p e = ⊎_elim
      (λ (w : x ≡ y). some-earlier (source_fault env y) (first_fault (map (source_fault env) l)) _ refl r p (inl (ap (source_fault env) (sym w) ∙ e)))
      (λ k. let s : Some (first_fault (map (source_fault env) l)) p = first-no-later l x k r p e in
      some-less (some-earlier (source_fault env y) (first_fault (map (source_fault env) l)) _ refl s.reason s.place (inr s.is)) s.least)
      (mem-∷ m)

-- ---- the text

module _ (q : Query) (standing : ℕ) (a : Said) where
  author-against : (r p : ℕ) → author_fault standing q a.author ≡ faulty r p → Against q standing a r p
  unfolding author_fault source_fault author
  author-against r p h = ⊎_elim
      (λ e. let (un, (i, j)) = nobody-size a.author.by.place (author q a.author) r p e in rw (i, j) (author-nobody un))
      (λ e. let (v, (s, (i, j))) = barred-policy standing a.author.by.place (author q a.author) r p e in rw (i, j) (author-policy v s))
      (earlier-from (size_fault a.author.by.place (author q a.author)) (policy_fault standing a.author.by.place (author q a.author)) r p h)

  licensees-against : (l : Licensees) → a.licensees ≡ l → (r p : ℕ) → licensees_fault q l ≡ faulty r p → Against q standing a r p
  unfolding licensees_fault source_fault
  licensees-against missing is r p h = never r p (sym h)
  licensees-against empty is r p h = never r p (sym h)
  licensees-against (given cs e) is r p h =
      let f : Found (environment q cs) (sources e) r p = first-from (environment q cs) (sources e) r p h in
      let (un, (i, j)) = nobody-size f.one.place (identified (environment q cs) f.one) r p f.is in
      rw (i, j) (licensee-nobody cs e f.one is f.among un)

  -- the reason given is against the text
  pub fault-against : (r p : ℕ) → fault_of q standing a ≡ faulty r p → Against q standing a r p
  unfolding fault_of
  fault-against r p h =
      ⊎_elim (author-against r p) (licensees-against a.licensees refl r p)
      (earlier-from (author_fault standing q a.author) (licensees_fault q a.licensees) r p h)

  author-some : (r p : ℕ)
      → (size_fault a.author.by.place (author q a.author) ≡ faulty r p)
      ⊎ (policy_fault standing a.author.by.place (author q a.author) ≡ faulty r p)
      → Some (author_fault standing q a.author) p
  unfolding author_fault source_fault author
  author-some r p k =
      some-earlier (size_fault a.author.by.place (author q a.author)) (policy_fault standing a.author.by.place (author q a.author)) _ refl r p k

  licensees-some : (l : Licensees) (cs : List Attribute) (e : Sources) (x : Source) → l ≡ given cs e → Mem x (sources e)
      → (Identifies (identified (environment q cs) x) → ⊥)
      → Some (licensees_fault q l) x.place
  unfolding licensees_fault source_fault
  licensees-some l cs e x is m un =
      rw is (first-no-later (environment q cs) (sources e) x m 10 x.place (size-nobody x.place (identified (environment q cs) x) un))

  module _ (r p : ℕ) (h : fault_of q standing a ≡ faulty r p) where
    both_first : NoLater p (author_fault standing q a.author) × NoLater p (licensees_fault q a.licensees)
    unfolding fault_of
    both_first = earlier-first (author_fault standing q a.author) (licensees_fault q a.licensees) r p h

    before-author : {p' : ℕ} → Some (author_fault standing q a.author) p' → p ≤ p'
    before-author s = omega (arith, both_first.0 s.reason s.place s.is, s.least)

    before-licensees : {p' : ℕ} → Some (licensees_fault q a.licensees) p' → p ≤ p'
    before-licensees s = omega (arith, both_first.1 s.reason s.place s.is, s.least)

    -- "the earliest place first"
    pub fault-first : (r' p' : ℕ) → Against q standing a r' p' → p ≤ p'
    fault-first r' p' (author-nobody un) =
        before-author (author-some 10 a.author.by.place (inl (size-nobody a.author.by.place (author q a.author) un)))
    fault-first r' p' (author-policy v s) =
        before-author (author-some 9 a.author.by.place (inr (policy-barred standing a.author.by.place (author q a.author) v s)))
    fault-first r' p' (licensee-nobody cs e x is m un) = before-licensees (licensees-some a.licensees cs e x is m un)
