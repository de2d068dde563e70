-- What one byte of a string is asked to be. Assumes nothing.
use Rattle.std.specs.Prelude.{Bool, true, false, ◌&&◌, ◌||◌, not, List, [], ◌∷◌, ℕ, eqb, leb}

-- a byte of a set is the range from it to itself
pub data Item : Type 0 where
  range : (low high : ℕ) → Item

-- what one byte is asked to be: "." is any byte
pub data Class : Type 0 where
  any : Class
  only : ℕ → Class
  among : List Item → Class
  besides : List Item → Class

unfoldable pub in_item : Item → ℕ → Bool
in_item (range low high) b = leb low b && leb b high

unfoldable pub in_items : List Item → ℕ → Bool
in_items [] b = false
in_items (x ∷ xs) b = in_item x b || in_items xs b

unfoldable pub accepts : Class → ℕ → Bool
accepts any b = true
accepts (only c) b = eqb c b
accepts (among xs) b = in_items xs b
accepts (besides xs) b = not (in_items xs b)
