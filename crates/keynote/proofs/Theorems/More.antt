-- "More paper never lowers a class": an assertion more, the assertions in another order, and one replaced outside the reach; of the
-- definition, and of what two records give. Assumes nothing.
use Rattle.std.specs.Prelude.{◌≡◌, ℕ, ◌≤◌, length}
use Rattle.std.proofs.Common.{sym, ◌∙◌, arith}
use Rattle.std.proofs.Math.Path.{ap, subst}
use mathlib.Core.List.{List, ◌∷◌, ◌++◌, Memᴰ as Mem, Permᴰ as Perm}
use Rattle.record.specs.Query.{Query, Supplied}
use Rattle.record.specs.Read.{accepted}
use Rattle.record.specs.Record.{read_record}
use Rattle.compliance.specs.Reach.{InReach}
use Rattle.expression.specs.Conditions.{top}
use Rattle.keynote.specs.Answer.{reading, system, class_given, rounds_of, reached_of}
use Rattle.keynote.specs.Paper.{EqualBut, Outside}
use Rattle.keynote.specs.Outcome.{answer, outcome}
use Rattle.keynote.specs.declared.Outcome.{Outcome}
use Rattle.keynote.specs.Theorems.Answered.{outcome-answered}
use Rattle.keynote.specs.Theorems.Numbers.{answered-fits}
use Rattle.compliance.specs.Theorems.Outside.{SameWithin, policy-within, rounds-within, reached-within}
use Rattle.keynote.specs.Theorems.More.{answer-reordered, class-grows, equal-back, other, outside-not, reading-equal, system-moves}

module _ (q q' : Query) (k : EqualBut q q') (x y : Supplied) (front back : List Supplied)
    (e : q.assertions ≡ front ++ (x ∷ back)) (e' : q'.assertions ≡ front ++ (y ∷ back)) (old : Outside q x) (new : Outside q y) where
  systems-within : SameWithin (system q) (system q')
  unfolding system
  systems-within = record {
    there-too = λ b m i. system-moves k b m (λ z a n f g. subst (λ (l : List Supplied). Mem z l) (sym e')
        (other front back x y (λ w. outside-not q (reading q x) old a (sym (ap (reading q) w) ∙ f) (subst (InReach (system q)) g i)) (subst (λ (l : List Supplied). Mem z l) e n)));
    here-too = λ b m i. system-moves (equal-back k) b m (λ z a n f g. subst (λ (l : List Supplied). Mem z l) (sym e)
        (other front back y x (λ w. outside-not q (reading q y) new a (sym (ap (reading q) w) ∙ reading-equal k z ∙ f) (subst (InReach (system q)) g i)) (subst (λ (l : List Supplied). Mem z l) e' n)));
    asked = k.requesters;
    topped = ap top k.values;
  }

  -- "replacing an assertion outside the reach .. changes only its own report entry"
  pub answer-replaced : answer q ≡ answer q'
  unfolding answer class_given rounds_of reached_of
  answer-replaced = cc (policy-within (system q) (system q') systems-within, rounds-within (system q) (system q') systems-within, reached-within (system q) (system q') systems-within)

-- ---- of two records, each read as a query and answered on a page of any size: number 0

module _ (s s' : List ℕ) (q q' : Query) (is : read_record s ≡ accepted q) (is' : read_record s' ≡ accepted q') (k : EqualBut q q')
    (page page' : List ℕ) (ok : (outcome s (length page)).number ≡ 0) (ok' : (outcome s' (length page')).number ≡ 0) where
  told : outcome s (length page) ≡ answer q
  told = outcome-answered s q is (length page) (answered-fits s q is (length page) ok)

  told' : outcome s' (length page') ≡ answer q'
  told' = outcome-answered s' q' is' (length page') (answered-fits s' q' is' (length page') ok')

  -- "adding an assertion never lowers the rank"
  pub rank-added : ((x : Supplied) → Mem x q.assertions → Mem x q'.assertions) → (outcome s (length page)).rank ≤ (outcome s' (length page')).rank
  unfolding answer
  rank-added h =
      let a : (outcome s (length page)).rank ≡ class_given q = ap (λ (o : Outcome). o.rank) told in
      let b : (outcome s' (length page')).rank ≡ class_given q' = ap (λ (o : Outcome). o.rank) told' in
      omega (arith, a, b, class-grows q q' k h)

  -- "reordering assertions changes no rank, rounds or reached, and permutes the report's entries"
  pub outcome-reordered : Perm q.assertions q'.assertions → outcome s (length page) ≡ outcome s' (length page')
  outcome-reordered d = told ∙ answer-reordered q q' k d ∙ sym told'

  -- "replacing an assertion outside the reach by any text that is set aside, or whose authorizer stays outside that reach, changes only its own report entry"
  module _ (x y : Supplied) (front back : List Supplied) (e : q.assertions ≡ front ++ (x ∷ back)) (e' : q'.assertions ≡ front ++ (y ∷ back)) (old : Outside q x) (new : Outside q y) where
    pub outcome-replaced : outcome s (length page) ≡ outcome s' (length page')
    outcome-replaced = told ∙ answer-replaced q q' k x y front back e e' old new ∙ sym told'
