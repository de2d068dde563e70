-- Values of attributes that Conditions do not read from the query do not matter. Assumes nothing.
use Rattle.std.specs.Prelude.{◌≡◌, Bool, true, false, List, ℕ}
use Rattle.std.proofs.Math.Path.{refl, ap}
use Rattle.std.proofs.Common.{◌∙◌}
use Rattle.text.specs.Choice.{split}
use Rattle.text.specs.Equal.{equal-refl}
use Rattle.record.specs.Query.{Attribute}
use Rattle.syntax.specs.Operator.{is_lookup}
use Rattle.syntax.specs.Expr.{Expr, literal, name, number, truth, decimal, unary, binary, Program, none, also, Clause, plain, valued, nested}
use Rattle.expression.specs.Names.{Environment, from_query, lookup}
use Rattle.expression.specs.Operations.{held, unary_of}
use Rattle.expression.specs.Conditions.{evaluate, conditions, clause}
use Rattle.expression.specs.Reads.{reads, program_reads, clause_reads, is_set, Alike, with_attributes}
use Rattle.expression.specs.Theorems.Unread.{look-all, look-nothing, max-same, or_left, or_right, setting-alike, setting-other}

module _ (env : Environment) (R : List ℕ → Type 0) {l m : List Attribute} (same : Alike R l m) where
  abbrev Free : (List ℕ → Bool) → Type 0
  Free rs = (n : List ℕ) → rs n ≡ true → is_set env.constants n ≡ false → R n

  query-same : (n : List ℕ) → R n → from_query (with_attributes env l) n ≡ from_query (with_attributes env m) n
  unfolding from_query with_attributes
  query-same n r = rw (setting-alike R n r same)

  -- a name that is set, or of which R holds, stands for the same
  pub lookup-same : (n : List ℕ) → (is_set env.constants n ≡ false → R n) → lookup (with_attributes env l) n ≡ lookup (with_attributes env m) n
  unfolding lookup with_attributes
  lookup-same n h = setting-other env.constants n _ _ (λ s. query-same n (h s))

  pub evaluate-same : (e : Expr) → Free (reads e) → evaluate (with_attributes env l) e ≡ evaluate (with_attributes env m) e
  unfolding evaluate reads
  evaluate-same (literal b) h = refl
  evaluate-same (name n) h = ap held (lookup-same n (h n (equal-refl n)))
  evaluate-same (number k) h = refl
  evaluate-same (truth t) h = refl
  evaluate-same (decimal b) h = refl
  evaluate-same (unary op e) h =
      ap (unary_of (lookup (with_attributes env l)) op) (evaluate-same e (λ n r. h n (or_right (is_lookup op) _ r)))
      ∙ split (is_lookup op)
      (λ o. look-all op _ _ (evaluate (with_attributes env m) e) (λ n. lookup-same n (h n (or_left _ _ o))))
      (λ o. look-nothing op _ _ (evaluate (with_attributes env m) e) o)
  evaluate-same (binary op e f) h =
      cc (evaluate-same e (λ n r. h n (or_left _ _ r)), evaluate-same f (λ n r. h n (or_right (reads e n) _ r)))

  same-values : (with_attributes env l).values ≡ (with_attributes env m).values
  unfolding with_attributes
  same-values = refl

  mutual
    unfolding conditions clause program_reads clause_reads

    -- Conditions that read no name from the query but where R holds are worth the same
    pub conditions-same : (p : Program) → Free (program_reads p) → conditions (with_attributes env l) p ≡ conditions (with_attributes env m) p
    conditions-same none h = refl
    conditions-same (also p q) h =
        max-same (conditions-same p (λ n r. h n (or_left _ _ r))) (clause-same q (λ n r. h n (or_right (program_reads p n) _ r)))

    clause-same : (q : Clause) → Free (clause_reads q) → clause (with_attributes env l) q ≡ clause (with_attributes env m) q
    clause-same (plain e) h = cc (evaluate-same e h, same-values)
    clause-same (valued e f) h =
        cc (evaluate-same e (λ n r. h n (or_left _ _ r)), evaluate-same f (λ n r. h n (or_right (reads e n) _ r)), same-values)
    clause-same (nested e p) h =
        cc (evaluate-same e (λ n r. h n (or_left _ _ r)), conditions-same p (λ n r. h n (or_right (reads e n) _ r)))
