-- What a reader has read, by its sort and its level: trees, and how they grow. Assumes nothing.
use Rattle.std.specs.Prelude.{refl, List, [], ◌∷◌, ℕ, ◌≤◌}
use Rattle.std.proofs.Common.{sym, subst, append-nil, arith}
use Rattle.lexical.specs.Kind
use Rattle.lexical.specs.declared.token.Token.{Token}
use Rattle.syntax.specs.Operator.{Sort, a-string, an-integer, a-float, a_test}
use Rattle.syntax.specs.Expr.{Expr, truth}
use Rattle.conditions.specs.Table.{PartSort, sorted, word, Want, want-any}
use Rattle.grammar.specs.Trees.{literal-tree, text-one, number-tree, number-one, number_up, number-term, decimal-tree, decimal-one, decimal-up, decimal-term, float-less-op, equal-op, compare-numbers, compare-floats, compare-texts}
use Rattle.grammar.specs.Working.Marks.{mark}
use Rattle.grammar.specs.Working.Told.{Completes, Goal, Suits, Told, completes, completes-lower, goal-decimal, goal-float, goal-integer, goal-number, goal-test, goal-text, lower, suits-any, suits-decimal, suits-float, suits-integer, suits-number, suits-text, test-operand, told-float, told-number, told-test, told-word, told_text}

module _ (s : List ℕ) where
  -- a comparison with something
  text-test : (ts : List Token) (e : Expr) → Told s (sorted a-string) 0 ts e → Completes s want-any 7 ts
  text-test _ _ (told_text _ ts e d) =
      completes (mark Kind.EQUAL ∷ mark Kind.LITERAL ∷ []) _ a_test goal-test
      (told-test 7 _ _ (compare-texts (mark Kind.EQUAL) ts (mark Kind.LITERAL ∷ []) e _ _ equal-op d (text-one _ _ (literal-tree (mark Kind.LITERAL) refl))))

  number-test : (ts : List Token) (e : Expr) → Told s (sorted an-integer) 0 ts e → Completes s want-any 7 ts
  number-test _ _ (told-number _ ts e d) =
      completes (mark Kind.EQUAL ∷ mark Kind.DIGITS ∷ []) _ a_test goal-test
      (told-test 7 _ _ (compare-numbers (mark Kind.EQUAL) ts (mark Kind.DIGITS ∷ []) e _ _ equal-op d (number-term _ _ (number_up _ _ (number-one _ _ (number-tree (mark Kind.DIGITS) refl))))))

  float_test : (ts : List Token) (e : Expr) → Told s (sorted a-float) 0 ts e → Completes s want-any 7 ts
  float_test _ _ (told-float _ ts e d) =
      completes (mark Kind.LESS ∷ mark Kind.FLOAT ∷ []) _ a_test goal-test
      (told-test 7 _ _ (compare-floats (mark Kind.LESS) ts (mark Kind.FLOAT ∷ []) e _ _ float-less-op d (decimal-term _ _ (decimal-up _ _ (decimal-one _ _ (decimal-tree (mark Kind.FLOAT) refl))))))

  as-it-is : (want : Want) (w : Sort) (level : ℕ) (ts : List Token) (e : Expr) → Goal want w → Told s (sorted w) level ts e → Completes s want level ts
  as-it-is want w level ts e γ d = completes [] e w γ (subst (λ (l : List Token). Told s (sorted w) level l e) (sym (append-nil ts)) d)

  -- what was read can be completed to what is wanted
  pub finish : (want : Want) (sort : PartSort) (level l : ℕ) (ts : List Token) (e : Expr) → level ≤ 7 → level ≤ l → Suits want sort → Told s sort l ts e → Completes s want level ts
  finish _ _ level l ts e h i (suits-any (sorted a_test)) d = as-it-is _ a_test level ts e goal-test (lower s (sorted a_test) level l ts e i d)
  finish _ _ level l ts e h i (suits-any (sorted a-string)) d = completes-lower s want-any level 7 ts h (text-test ts e (lower s (sorted a-string) 0 l ts e (omega arith) d))
  finish _ _ level l ts e h i (suits-any (sorted an-integer)) d = completes-lower s want-any level 7 ts h (number-test ts e (lower s (sorted an-integer) 0 l ts e (omega arith) d))
  finish _ _ level l ts e h i (suits-any (sorted a-float)) d = completes-lower s want-any level 7 ts h (float_test ts e (lower s (sorted a-float) 0 l ts e (omega arith) d))
  finish _ _ level l _ _ h i (suits-any (word _)) (told-word b _ ts e d g) = as-it-is _ a_test level ts (truth b) goal-test (test-operand s level ts (truth b) h g)
  finish _ _ level l ts e h i suits-text d = as-it-is _ a-string level ts e goal-text (lower s (sorted a-string) level l ts e i d)
  finish _ _ level l ts e h i suits-number d = as-it-is _ an-integer level ts e goal-number (lower s (sorted an-integer) level l ts e i d)
  finish _ _ level l ts e h i suits-decimal d = as-it-is _ a-float level ts e goal-decimal (lower s (sorted a-float) level l ts e i d)
  finish _ _ level l ts e h i suits-integer d = as-it-is _ an-integer level ts e goal-integer (lower s (sorted an-integer) level l ts e i d)
  finish _ _ level l ts e h i suits-float d = as-it-is _ a-float level ts e goal-float (lower s (sorted a-float) level l ts e i d)
