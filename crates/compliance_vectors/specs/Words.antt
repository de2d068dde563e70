-- The reach as words, worked: three flags in two words. Assumes nothing.
use Rattle.std.specs.Prelude.{◌≡◌, refl, List, [], ◌∷◌, ℕ, replicate}
use Rattle.compliance.specs.Highest.{at_least}
use Rattle.compliance.specs.Working.Words.{digits, flags_of, flags_in, spare_in}

-- the flags 0, 2 and 64
abbrev words : List ℕ
words = 5 ∷ 1 ∷ []

pub ones-are : at_least 1 (flags_of words) ≡ 3
unfolding digits flags_of at_least
ones-are = refl

-- of 65 principals: no bit to spare is set, as `parted-count` supposes, and the ones are the flags
pub spare-none : spare_in 65 words ≡ replicate 63 0
unfolding digits flags_of spare_in
spare-none = refl

pub flags-are : at_least 1 (flags_in 65 words) ≡ 3
unfolding digits flags_of flags_in at_least
flags-are = refl

-- of 64: one is set, and the ones are more than the flags
pub spare-one : at_least 1 (spare_in 64 words) ≡ 1
unfolding digits flags_of spare_in at_least
spare-one = refl

pub flags-fewer : at_least 1 (flags_in 64 words) ≡ 2
unfolding digits flags_of flags_in at_least
flags-fewer = refl
