-- What `judge` gives is what the Conditions field says. Assumes nothing.
use Rattle.std.specs.Prelude.{◌≡◌, List, ℕ, ◌+◌, ◌-◌, ◌<◌, ◌≤◌, leb, length, take}
use Rattle.std.proofs.Math.Path.{refl}
use Rattle.std.proofs.Common.{arith}
use Rattle.std.proofs.lemmas.List.{length-replicate}
use borrow.Author.Tests.{le-ltb, leb-true}
use Rattle.text.specs.Choice.{split}
use Rattle.lexical.specs.Kind.{IN_FIELD}
use Rattle.lexical.specs.declared.token.Token.{Token}
use Rattle.syntax.specs.Expr.{Program}
use Rattle.syntax.specs.Code.{ProgramCodes}
use Rattle.syntax.specs.Parsed.{Parsed, ok}
use Rattle.syntax.specs.Stood.{stood-at}
use Rattle.expression.specs.Names.{Environment}
use Rattle.expression.specs.Operands.{rank_in}
use Rattle.expression.specs.Conditions.{conditions}
use Rattle.expression.specs.Tables.{Shows}
use Rattle.machine.specs.Theorems.Runs.{run-conditions}
use Rattle.conditions.specs.Word.{next_at}
use Rattle.conditions.specs.Program.{read_program}
use Rattle.conditions.specs.Working.Compiled.{Compiled, refused, compiled}
use Rattle.conditions.proofs.Working.Compiled.{conditions-compiled}
use Rattle.conditions.specs.Working.Behind.{read_behind}
use Rattle.conditions.specs.Working.Emit.{Ran}
use Rattle.conditions.specs.Working.Program.{conditions_at}
use Rattle.judge.specs.Working.Judging.{left_by, rank_at, judged_of, judged_in, code_size, code_room, judged_here}
use Rattle.judge.specs.Theorems.Rooms.{read-need, read-room}
use Rattle.judge.specs.Theorems.Judges.{Wide, Judging, judged-aside, judged-on, rank-byte}

module _ {rec consts values names constants : List ℕ} {env : Environment} (shows : Shows rec consts values names constants env) (few : length env.values ≤ 256)
    (s : List ℕ) (short : length s < 65536) (depth space : ℕ) (deep : 208 ≤ depth) (wide : Wide space) where
  -- the code of what was read gives its rank
  rank-read : (t : Token) (q : Program) (n : Token) → read_program s t ≡ ok q n → (b : List ℕ) (u : ℕ) (c : List ℕ) → u ≤ length b → take u b ≡ c → ProgramCodes s q c
      → rank_at b u s rec consts values names constants depth space ≡ conditions env q
  unfolding rank_at left_by rank_in
  rank-read t q n e b u c fit k codes =
      rw (le-ltb _ _ fit, k, run-conditions shows depth space s q c codes (omega (arith, deep, read-need s t q n e)) (omega (arith, wide, read-room s t q n e)))
      (rank-byte env q few)

  module _ (at : ℕ) (m : List ℕ) (room : length s - (next_at s at).start + 2 ≤ length m) where
    abbrev ranks : List ℕ → ℕ → ℕ
    ranks b u = rank_at b u s rec consts values names constants depth space

    both-judge : (p : Parsed Program) (r : Ran) → read_program s (next_at s at) ≡ p → Compiled s m 0 p r → Judging s env p (judged_of ranks r)
    both-judge _ _ e (refused r p b k i) = judged-aside r p k
    both-judge _ _ e (compiled q x p u n b c stop l h k codes) =
        rw (rank-read (next_at s at) q n e b u c (omega (arith, l, h)) k codes) (judged-on q n (read_behind s (next_at s at) q n e (stood-at s IN_FIELD at)))

    -- With at most 256 values, a text below 65,536 bytes and buffers of these sizes, `judge` gives the field's rank or its first fault.
    pub judge-read : Judging s env (read_program s (next_at s at)) (judged_in s (next_at s at) rec consts values names constants m depth space)
    unfolding judged_in
    judge-read = both-judge (read_program s (next_at s at)) (conditions_at s m 0 (next_at s at)) refl (conditions-compiled s m 0 at short (omega arith) (omega (arith, room)))

-- With at most 256 values and a text of at most 8,192 bytes, `judge_field` gives the field's rank or its first fault.
module _ {rec consts values names constants : List ℕ} {env : Environment} (shows : Shows rec consts values names constants env) (few : length env.values ≤ 256)
    (s : List ℕ) (short : length s ≤ 8192) (at : ℕ) where
  size_fits : (n : ℕ) → n ≤ 8192 → n + 2 ≤ code_size n
  unfolding code_size
  size_fits n h =
      split (leb n 126) (λ f. rw f (omega (arith, leb-true n 126 f)))
      (λ f. split (leb n 254) (λ d. rw (f, d) (omega (arith, leb-true n 254 d)))
      (λ d. split (leb n 510) (λ g. rw (f, d, g) (omega (arith, leb-true n 510 g)))
      (λ g. split (leb n 2046) (λ e. rw (f, d, g, e) (omega (arith, leb-true n 2046 e))) (λ e. rw (f, d, g, e) (omega (arith, h))))))

  code_fits : length s - (next_at s at).start + 2 ≤ length (code_room s (next_at s at))
  code_fits = rw (length-replicate {A = ℕ} (code_size (length s - (next_at s at).start)) 0) (size_fits (length s - (next_at s at).start) (omega (arith, short)))

  pub judge-field-read : Judging s env (read_program s (next_at s at)) (judged_here s (next_at s at) rec consts values names constants)
  unfolding judged_here
  judge-field-read = judge-read shows few s (omega (arith, short)) 208 77824 (omega arith) (omega arith) at (code_room s (next_at s at)) code_fits
