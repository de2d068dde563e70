-- What decoding leaves in the buffer: the decoded bytes from the place on where they fit, and else nothing; every other byte as it was. Assumes nothing.
use Rattle.std.specs.Prelude.{◌≡◌, true, false, List, ◌++◌, ℕ, ◌+◌, ◌-◌, ◌≤◌, ◌<◌, ltb, length, take, drop}
use Rattle.std.proofs.Common.{ap, arith}
use Rattle.std.proofs.lemmas.List.Edits.{sets-eq}
use borrow.Author.Tests.{lt-ltb, le-ltb, ltb-false}
use Rattle.text.specs.Choice.{split}
use Rattle.lexical.specs.Literal.{decoded_at}
use Rattle.lexical.specs.Decode.{ran, decode_into}

module _ (s : List ℕ) (start : ℕ) (m : List ℕ) (at : ℕ) where
  pub decode-fits : at + length (decoded_at s start) ≤ length m
      → decode_into s start m at ≡ ran true (take at m ++ decoded_at s start ++ drop (at + length (decoded_at s start)) m)
  unfolding decode_into
  decode-fits h =
      rw (le-ltb (length m) at (omega (arith, h)), le-ltb (length m - at) (length (decoded_at s start)) (omega (arith, h)))
      (ap (ran true) (sets-eq (decoded_at s start) m at h))

  pub decode-full : length m < at + length (decoded_at s start) → decode_into s start m at ≡ ran false m
  unfolding decode_into
  decode-full h =
      split (ltb (length m) at) (λ e. rw e)
      (λ e. rw (e, lt-ltb (length m - at) (length (decoded_at s start)) (omega (arith, h, ltb-false (length m) at e))))
