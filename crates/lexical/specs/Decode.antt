-- A literal decoded into a lent buffer. Assumes nothing.
use Rattle.std.specs.Prelude.{Bool, true, false, List, Result, Ok, Err, ℕ, ◌-◌, ltb, length}
use Rattle.std.proofs.lemmas.List.Edits.{sets}
use Rattle.text.specs.Choice.{pick}
use Rattle.lexical.specs.Literal.{decoded_at}
use Rattle.lexical.specs.declared.literal.DecodeError.{DecodeError}
use Rattle.lexical.specs.declared.literal.DecodeError.TheVariants.{Long, Full}

-- whether it was written, and what the buffer holds then
pub data Ran : Type 0 where
  ran : Bool → List ℕ → Ran

-- the decoded bytes stored from `at` on where they fit, else nothing
unfoldable pub decode_into : List ℕ → ℕ → List ℕ → ℕ → Ran
decode_into s start m at =
    pick (ltb (length m) at) (ran false m)
    (pick (ltb (length m - at) (length (decoded_at s start))) (ran false m) (ran true (sets m at (decoded_at s start))))

-- the same of at most so many bytes: what it tells, and what the buffer holds then
pub data Within : Type 0 where
  within : Result ℕ DecodeError → List ℕ → Within

abbrev pub on_into : ℕ → Ran → Within
on_into n (ran true m) = within (Ok n) m
on_into n (ran false m) = within (Err Full) m

unfoldable pub decode_within : List ℕ → ℕ → List ℕ → ℕ → ℕ → Within
decode_within s start m at most =
    pick (ltb most (length (decoded_at s start))) (within (Err Long) m) (on_into (length (decoded_at s start)) (decode_into s start m at))
