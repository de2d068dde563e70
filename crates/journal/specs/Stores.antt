-- Single byte stores, in the order in which they are made. Assumes nothing.
use Rattle.std.specs.Prelude.{List, [], ◌∷◌, ℕ, zero, suc, ◌+◌, set}

-- a place, and the byte stored there
abbrev pub Store : Type 0
Store = ℕ × ℕ

-- the page after stores
unfoldable pub stored : List ℕ → List Store → List ℕ
stored p [] = p
stored p (s ∷ ss) = stored (set p s.0 s.1) ss

-- bytes stored from a place on, the first one first
unfoldable pub placed : ℕ → List ℕ → List Store
placed at [] = []
placed at (b ∷ bs) = (at, b) ∷ placed (at + 1) bs

-- zeros stored at n places from a place on, the last place first
unfoldable pub cleared : ℕ → ℕ → List Store
cleared zero at = []
cleared (suc n) at = (at + n, 0) ∷ cleared n at

-- the page after some of these stores, whichever: what may have reached a medium that promises no order. The stores of an operation go to places
-- of their own, so that their order makes no difference to the page
pub data SomeOf : List ℕ → List Store → List ℕ → Type 0 where
  s[] : {p : List ℕ} → SomeOf p [] p
  made : {p q : List ℕ} {s : Store} {ss : List Store} → SomeOf (set p s.0 s.1) ss q → SomeOf p (s ∷ ss) q
  lost : {p q : List ℕ} {s : Store} {ss : List Store} → SomeOf p ss q → SomeOf p (s ∷ ss) q
