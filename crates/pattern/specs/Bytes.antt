-- The bytes of a pattern that the grammar speaks of. Assumes nothing.
use Rattle.std.specs.Prelude.{Bool, true, false, List, ℕ, ◌+◌, eqb, ltb, leb, length, get_or}
use Rattle.text.specs.Choice.{pick}

-- ^ . [ $ ( ) | * + ? { \
unfoldable pub special : ℕ → Bool
special b = pick (eqb b 94) true (pick (eqb b 46) true (pick (eqb b 91) true (pick (eqb b 36) true (pick (eqb b 40) true (pick (eqb b 41) true
    (pick (eqb b 124) true (pick (eqb b 42) true (pick (eqb b 43) true (pick (eqb b 63) true (pick (eqb b 123) true (eqb b 92)))))))))))

-- the byte b stands at i
unfoldable pub stands : List ℕ → ℕ → ℕ → Bool
stands p i b = pick (ltb i (length p)) (eqb (get_or p i 0) b) false

-- "[" before . = : stands at i
unfoldable pub opens_name : List ℕ → ℕ → Bool
opens_name p i = pick (leb (length p) i) false (pick (eqb (get_or p i 0) 91)
    (pick (stands p (i + 1) 46) true (pick (stands p (i + 1) 61) true (stands p (i + 1) 58))) false)
