-- Worked instances of what demand 3 supposes: queries of which it holds, and of which it doesn't. Assumes nothing.
use Rattle.std.specs.Prelude.{◌≡◌, ◌⊎◌, List, [], ◌∷◌, ℕ, length}
use Rattle.record.specs.Query.{Attribute}
use Rattle.expression.specs.Reads.{Alike, alike[], alike∷}
use Rattle.keynote.specs.Rulings.{bytes}

-- the same for the suppositions of `Mission`, where the names that may differ are these three
abbrev pub Secret : List ℕ → Type 0
Secret n = (n ≡ bytes "idle") ⊎ ((n ≡ bytes "hidden") ⊎ (n ≡ bytes "unread"))

pub value-differs : {R : List ℕ → Type 0} {a b : Attribute} → R a.name → (length a.value ≡ length b.value → ⊥) → Alike R (a ∷ []) (b ∷ []) → ⊥
value-differs r d (alike∷ e g t) = d (cc (g r))

pub rest : {R : List ℕ → Type 0} {a b : Attribute} {l m : List Attribute} → Alike R (a ∷ l) (b ∷ m) → Alike R l m
rest (alike∷ e g t) = t

pub head_of : {R : List ℕ → Type 0} {a b : Attribute} {l m : List Attribute} → Alike R (a ∷ l) (b ∷ m) → Alike R (a ∷ []) (b ∷ [])
head_of (alike∷ e g t) = alike∷ e g alike[]
