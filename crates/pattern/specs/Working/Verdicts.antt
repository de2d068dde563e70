-- What the code's test answers is a verdict. Assumes nothing.
use Rattle.std.specs.Prelude.{◌≡◌, refl, Bool, ◌||◌, List, ℕ, zero, ◌+◌, ◌*◌, ◌<◌, ◌≤◌, eqb, ltb, length, replicate, Some, None}
use Rattle.std.proofs.Common.{sym, ap, ◌∙◌, subst, arith, le_refl}
use Rattle.std.proofs.Math.Bool.{true, false}
use Rattle.std.proofs.lemmas.List.{length-replicate, get_or-replicate}
use borrow.Author.Tests.{ltb-true, ltb-false, eqb-true, eqb-false}
use Rattle.text.specs.Choice.{clash, split}
use Rattle.pattern.specs.Tree.{Re}
use Rattle.pattern.specs.Match.{Found}
use Rattle.pattern.specs.Grammar.{Expr, Pattern}
use Rattle.pattern.specs.Working.GrammarLaws.{expr-fits}
use Rattle.pattern.specs.Working.Sets.{follow}
use Rattle.pattern.specs.Working.Places.{row, word_at, nowhere}
use Rattle.pattern.specs.Working.Bits.{has, has-nowhere}
use Rattle.pattern.specs.Working.Meaning.{part_of, table_of}
use Rattle.pattern.specs.Working.Table.{table-has}
use Rattle.pattern.specs.Working.Decide.{runs-sound, runs-shows}
use Rattle.pattern.specs.Working.Parse.{Ran, ran, got, expr_at}
use Rattle.pattern.specs.Working.ParseSound.{expr-at-sure, bad-got, got-next}
use Rattle.pattern.specs.Working.ParseShows.{expr-all, t-end}
use Rattle.pattern.specs.Working.Sim.{runs, on_parsed, test_with}
use Rattle.pattern.specs.declared.places.Part.{Part}
use Rattle.pattern.specs.Verdict.{Answer, Verdict, v-yes, v-no, v-error}

-- an empty table
abbrev pub zeros : List ℕ
zeros = replicate 1024 0

word-zero : (i : ℕ) → word_at zeros i ≡ 0
unfolding word_at
word-zero i = split (ltb i 1024) (λ e. rw (length-replicate 1024 (the_zero), e) (get_or-replicate 1024 i 0 0 (ltb-true _ _ e))) (λ e. rw (length-replicate 1024 the_zero, e))
  where
    the_zero : ℕ
    the_zero = 0

zero_row : (k : ℕ) → ◌≡◌ {A = Bool} (has (record { a = 0; b = 0; c = 0; d = 0 }) k) false
unfolding nowhere
zero_row k = has-nowhere k

module _ (t : List ℕ) (empty : (i : ℕ) → word_at t i ≡ 0) (size : 1024 ≤ length t) where
  row-empty : (q k : ℕ) → has (row t q) k ≡ false
  unfolding row
  row-empty q k = split (ltb q 256)
      (λ e. rw (e, empty (4 * q), empty (4 * q + 1), empty (4 * q + 2), empty (4 * q + 3)) (zero_row k))
      (λ e. rw e (has-nowhere k))

  module _ (p s : List ℕ) (r : Re) (pattern : Pattern p r) where
    follows : (q k : ℕ) → q < 256 → k < 256 → has (row (table_of r t) q) k ≡ follow r q k
    follows q k h l = table-has (expr-fits pattern.whole) pattern.short t size q k h l ∙ ap (λ (b : Bool). b || follow r q k) (row-empty q k)

    pub answer-sound : runs p s (table_of r t) (part_of r) ≡ true → Found s r
    answer-sound e = runs-sound p s r 0 (length p) (expr-fits pattern.whole) pattern.short (table_of r t) follows e

    pub answer-shows : Found s r → runs p s (table_of r t) (part_of r) ≡ true
    answer-shows f = runs-shows p s r 0 (length p) (expr-fits pattern.whole) pattern.short (table_of r t) follows f

    pub parsed : expr_at 2000 p 0 t ≡ ran (got (part_of r) (length p)) (table_of r t)
    parsed = expr-all p pattern.whole (t-end (le_refl (length p))) 2000 (omega (arith, pattern.short)) t

  answered-verdict : (p s : List ℕ) (r : Re) → Pattern p r → (b : Bool) → runs p s (table_of r t) (part_of r) ≡ b → Verdict p s (Some b)
  answered-verdict p s r w true e = v-yes r w (answer-sound p s r w e)
  answered-verdict p s r w false e = v-no r w (λ f. clash (answer-shows p s r w f) e)

  got-verdict : (p s : List ℕ) (r : Re) → Pattern p r → (f : Part) (u : List ℕ) → f ≡ part_of r → u ≡ table_of r t → Verdict p s (Some (runs p s u f))
  got-verdict p s r w f u ef eu = rw (ef, eu) (answered-verdict p s r w (runs p s (table_of r t) (part_of r)) refl)

  parsed-verdict : (p s : List ℕ) → length p ≤ 256 → (x : Ran) → expr_at 2000 p 0 t ≡ x → Verdict p s (on_parsed p s x)
  parsed-verdict p s h (ran None u) e = v-error (λ r w. bad-got (sym e ∙ parsed p s r w))
  parsed-verdict p s h (ran (Some y) u) e = split (eqb y.next (length p))
      (λ a. let x = expr-at-sure p 2000 0 t y.part y.next u e in
      let w : Pattern p x.tree = record { short = h; whole = subst (λ (k : ℕ). Expr p 0 k x.tree) (eqb-true _ _ a) x.derived } in
      rw a (got-verdict p s x.tree w y.part u x.known x.table))
      (λ a. rw a (v-error (λ r w. eqb-false _ _ a (got-next (sym e ∙ parsed p s r w)))))

  pub test-verdict : (p s : List ℕ) → Verdict p s (test_with t p s)
  unfolding test_with
  test-verdict p s = split (ltb 256 (length p))
      (λ e. rw e (v-error (λ r w. omega (arith, ltb-true 256 (length p) e, w.short))))
      (λ e. rw e (parsed-verdict p s (ltb-false 256 (length p) e) (expr_at 2000 p 0 t) refl))

pub zeros-verdict : (p s : List ℕ) (a : Answer) → a ≡ test_with zeros p s → Verdict p s a
zeros-verdict p s a e = subst (Verdict p s) (sym e) (test-verdict zeros word-zero (omega (arith, length-replicate 1024 zero)) p s)
