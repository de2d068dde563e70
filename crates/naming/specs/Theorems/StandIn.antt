-- POLICY stands in, in the tables, for an expression that identifies nobody: they are sound all the same, and where nothing is at fault it
-- stands in nowhere. Assumes nothing.
use Rattle.std.specs.Prelude.{◌≡◌, ℕ, leb, length}
use Rattle.std.proofs.Math.Path.{refl, sym, ap}
use Rattle.std.proofs.Common.{◌∙◌, arith, le-leb, leb-true, leb-false}
use mathlib.Core.List.{List, [], ◌∷◌, ◌++◌, map}
use Rattle.std.proofs.lemmas.List.{length-map}
use Rattle.std.proofs.lemmas.Bool.{lt-leb}
use Rattle.text.specs.Choice.{split}
use Rattle.record.specs.Query.{Query}
use Rattle.principal.specs.Principal.{Principal, policy}
use Rattle.compliance.specs.Licensees as Compliance
use Rattle.expression.specs.Names.{Environment, environment}
use Rattle.naming.specs.Source.{Source, Sources, one, and, or, k_of, Licensees, missing, empty, given, sources}
use Rattle.naming.specs.Naming.{identified, people, licensed}
use Rattle.naming.specs.Fault.{Fault, clear, faulty, earlier, source_fault, first_fault, licensees_fault}

abbrev pub instead : Fault → Principal → Principal
instead clear p = p
instead (faulty r at) p = policy

-- whom the tables hold for an expression
unfoldable pub entered : Environment → Source → Principal
entered env x = instead (source_fault env x) (identified env x)

unfoldable pub people_now : Environment → Sources → Compliance.Expression
people_now env (one x) = Compliance.name (entered env x)
people_now env (and a b) = Compliance.and (people_now env a) (people_now env b)
people_now env (or a b) = Compliance.or (people_now env a) (people_now env b)
people_now env (k_of k xs) = Compliance.k_of k (map (entered env) xs)

unfoldable pub licensed_now : Query → Licensees → Compliance.Licensees
licensed_now q missing = Compliance.missing
licensed_now q empty = Compliance.empty
licensed_now q (given constants e) = Compliance.given (people_now (environment q constants) e)

-- the faults of a list of expressions, and that of all licensees
unfoldable pub faults : Environment → List Source → Fault
faults env xs = first_fault (map (source_fault env) xs)

-- the earliest of three
pub earlier-clear : (f : Fault) → earlier f clear ≡ f
earlier-clear clear = refl
earlier-clear (faulty r p) = refl

pub earlier-assoc : (f g h : Fault) → earlier (earlier f g) h ≡ earlier f (earlier g h)
earlier-assoc clear g h = refl
earlier-assoc (faulty r p) clear h = refl
earlier-assoc (faulty r p) (faulty r' p') clear = earlier-clear (earlier (faulty r p) (faulty r' p'))
earlier-assoc (faulty r p) (faulty r' p') (faulty r'' p'') =
    split (leb p p')
    (λ a. split (leb p' p'')
    (λ b. rw (a, b) (rw (a, le-leb p p'' (omega (arith, leb-true p p' a, leb-true p' p'' b)))))
    (λ b. rw (a, b)))
    (λ a. split (leb p' p'') (λ b. rw (a, b) (rw a))
    (λ b. rw (a, b) (rw (lt-leb p p'' (omega (arith, leb-false p p' a, leb-false p' p'' b))))))

module _ (env : Environment) where
  pub faults-one : (x : Source) → faults env (x ∷ []) ≡ source_fault env x
  unfolding faults first_fault
  faults-one x = earlier-clear (source_fault env x)

  pub faults-append : (xs ys : List Source) → faults env (xs ++ ys) ≡ earlier (faults env xs) (faults env ys)
  unfolding faults first_fault
  faults-append [] ys = refl
  faults-append (x ∷ xs) ys =
      ap (earlier (source_fault env x)) (faults-append xs ys) ∙ sym (earlier-assoc (source_fault env x) (faults env xs) (faults env ys))

  map-append : (xs ys : List Source) → map (entered env) (xs ++ ys) ≡ map (entered env) xs ++ map (entered env) ys
  map-append [] ys = refl
  map-append (x ∷ xs) ys = ap (λ (l : List Principal). entered env x ∷ l) (map-append xs ys)

  -- the principals named, one for each licensee
  pub named-are : (e : Sources) → Compliance.named (people_now env e) ≡ map (entered env) (sources e)
  unfolding people_now sources Compliance.named
  named-are (one x) = refl
  named-are (and a b) = rw (named-are a, named-are b) (sym (map-append (sources a) (sources b)))
  named-are (or a b) = rw (named-are a, named-are b) (sym (map-append (sources a) (sources b)))
  named-are (k_of k xs) = refl

  pub named_count : (e : Sources) → length (Compliance.named (people_now env e)) ≡ length (sources e)
  named_count e = ap length (named-are e) ∙ length-map (sources e) (entered env)

never : {P : Type 0} (r p : ℕ) → faulty r p ≡ clear → P
never r p h = absurd (let z : ◌≡◌ {A = ℕ} 0 1 = cc in omega arith)

clear_both : (f g : Fault) → earlier f g ≡ clear → (f ≡ clear) × (g ≡ clear)
clear_both clear g h = (refl, h)
clear_both (faulty r p) clear h = never r p h
clear_both (faulty r p) (faulty r' p') h = split (leb p p') (λ e. never r p (rw e at h)) (λ e. never r' p' (rw e at h))

module _ (env : Environment) where
  clear-parts : (xs ys : List Source) → faults env (xs ++ ys) ≡ clear → (faults env xs ≡ clear) × (faults env ys ≡ clear)
  clear-parts xs ys h = clear_both (faults env xs) (faults env ys) (sym (faults-append env xs ys) ∙ h)

  pub entered-is : (x : Source) → source_fault env x ≡ clear → entered env x ≡ identified env x
  unfolding entered
  entered-is x h = rw h

  all-entered : (xs : List Source) → faults env xs ≡ clear → map (entered env) xs ≡ map (identified env) xs
  unfolding faults first_fault
  all-entered [] h = refl
  all-entered (x ∷ xs) h =
      let k : (source_fault env x ≡ clear) × (faults env xs ≡ clear) = clear_both (source_fault env x) (faults env xs) h in
      cc (entered-is x k.0, all-entered xs k.1)

  people-is : (e : Sources) → faults env (sources e) ≡ clear → people_now env e ≡ people env e
  unfolding people_now people sources
  people-is (one x) h = ap Compliance.name (entered-is x (sym (faults-one env x) ∙ h))
  people-is (and a b) h = let k : _ = clear-parts (sources a) (sources b) h in cc (people-is a k.0, people-is b k.1)
  people-is (or a b) h = let k : _ = clear-parts (sources a) (sources b) h in cc (people-is a k.0, people-is b k.1)
  people-is (k_of k xs) h = ap (Compliance.k_of k) (all-entered xs h)

-- what the tables hold of Licensees is what they name, where nothing is at fault
pub licensed-is : (q : Query) (f : Licensees) → licensees_fault q f ≡ clear → licensed_now q f ≡ licensed q f
unfolding licensed_now licensed licensees_fault faults
licensed-is q missing h = refl
licensed-is q empty h = refl
licensed-is q (given constants e) h = ap Compliance.given (people-is (environment q constants) e h)
