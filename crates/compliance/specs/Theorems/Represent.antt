-- Tables that represent a system: the answer over them is the system's. Assumes nothing.
use Rattle.std.specs.Prelude.{◌≡◌}
use Rattle.std.proofs.Math.Path.{refl, sym}
use Rattle.std.proofs.Common.{◌∙◌, ⊎_elim}
use Rattle.std.proofs.Math.Bool.{true, false}
use mathlib.Core.List.Memᴰ.{cases_cons as mem-∷}
use mathlib.Core.List.Memᴰ.{head as here}
use mathlib.Core.List.Memᴰ.{tail as there}
use mathlib.Core.List.{List, [], ◌∷◌, map, Memᴰ as Mem}
use Prim.Native.Nat.{ℕ, ◌+◌}
use native.Mathlib.Omega.{arith}
use Rattle.std.proofs.Math.Dec.{eqb}
use Rattle.std.proofs.Math.ListN.{length}
use borrow.Author.Tests.{eqb-true, eq-eqb}
use Rattle.text.specs.Choice.{pick, split, clash}
use Rattle.principal.specs.Principal.{Principal}
use Rattle.principal.specs.Members.{member, Distinct, d[], d∷, member-none, member-here, member-there, member-cases, member-same}
use Rattle.compliance.specs.Highest.{at_least}
use Rattle.compliance.specs.Licensees.{Rank}
use Rattle.compliance.specs.System.{System, round}
use Rattle.compliance.specs.Reach.{reach, InReach}
use Rattle.compliance.specs.Theorems.Monotone.{round-alike}
use Rattle.compliance.specs.Theorems.Index.{Even}
use Rattle.compliance.specs.Theorems.Flags.{flagged}
use Rattle.compliance.specs.Working.Rounds.{changes_of}

pub changes-none : (f g : Rank) (names : List Principal) → ((q : Principal) → Mem q names → f q ≡ g q) → changes_of (map f names) (map g names) ≡ 0
unfolding changes_of
changes-none f g [] h = refl
changes-none f g (p ∷ names) h = rw (eq-eqb (f p) (g p) (h p (here refl))) (omega (arith, changes-none f g names (λ q m. h q (there m))))

pub none-changed : (f g : Rank) (names : List Principal) → changes_of (map f names) (map g names) ≡ 0 → (q : Principal) → Mem q names → f q ≡ g q
unfolding changes_of
none-changed f g [] e q m = elim m [ ]
none-changed f g (p ∷ names) e q m = split (eqb (f p) (g p))
    (λ h. let e' : 0 + changes_of (map f names) (map g names) ≡ 0 = rw h at e in
    ⊎_elim (λ z. rw z (eqb-true _ _ h)) (none-changed f g names (omega arith) q) (mem-∷ m))
    (λ h. let e' : 1 + changes_of (map f names) (map g names) ≡ 0 = rw h at e in absurd (omega arith))

pub flag-none : (l : List Principal) (p : Principal) → member p l ≡ false → flagged l p ≡ 0
unfolding flagged
flag-none l p e = rw e

-- ---- how many of the names are in a list

unfoldable pub among : List Principal → List Principal → List Principal
among l [] = []
among l (q ∷ names) = pick (member q l) (q ∷ among l names) (among l names)

pub among-count : (l names : List Principal) → at_least 1 (map (flagged l) names) ≡ length (among l names)
unfolding among at_least flagged
among-count l [] = refl
among-count l (q ∷ names) = split (member q l) (λ e. rw e (omega (arith, among-count l names))) (λ e. rw e (omega (arith, among-count l names)))

pub among_of : (l names : List Principal) (q : Principal) → member q (among l names) ≡ true → (member q l ≡ true) × (member q names ≡ true)
unfolding among
among_of l [] q i = member-none q i
among_of l (p ∷ names) q i = split (member p l)
    (λ e. ⊎_elim
    (λ x. (member-same q p l x ∙ e, member-here q p names x))
    (λ x. let k = among_of l names q x in (k.0, member-there q p names k.1))
    (member-cases q p (among l names) (rw e at i)))
    (λ e. let k = among_of l names q (rw e at i) in (k.0, member-there q p names k.1))

pub among-all : (l names : List Principal) (q : Principal) → member q l ≡ true → member q names ≡ true → member q (among l names) ≡ true
unfolding among
among-all l [] q i m = member-none q m
among-all l (p ∷ names) q i m = ⊎_elim
    (λ x. rw (sym (member-same q p l x) ∙ i) (member-here q p (among l names) x))
    (λ x. let k = among-all l names q i x in split (member p l) (λ e. rw e (member-there q p (among l names) k)) (λ e. rw e k))
    (member-cases q p names m)

pub among-distinct : (l : List Principal) {names : List Principal} → Distinct names → Distinct (among l names)
unfolding among
among-distinct l d[] = d[]
among-distinct l (d∷ {p = p} {l = names} n d) = split (member p l)
    (λ e. rw e (d∷ (split (member p (among l names)) (λ x. clash (among_of l names p x).1 n) (λ x. x)) (among-distinct l d)))
    (λ e. rw e (among-distinct l d))

-- ---- the tables

-- a round's rank on the reach, and 0 outside: what the tables hold
unfoldable pub held : System → ℕ → Rank
held s n q = pick (member q (reach s)) (round s n q) 0

pub held-even : (s : System) (n : ℕ) → Even (held s n)
unfolding held
held-even s n p q e = rw (member-same p q (reach s) e, round-alike s n p q e)

pub held_in : (s : System) (n : ℕ) (q : Principal) → InReach s q → held s n q ≡ round s n q
unfolding held
held_in s n q i = rw i

pub held_out : (s : System) (n : ℕ) (q : Principal) → member q (reach s) ≡ false → held s n q ≡ 0
unfolding held
held_out s n q i = rw i
