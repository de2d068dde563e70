-- What is left is the same with more room, but where the machine could not go on. Assumes nothing.
use Rattle.std.specs.Prelude.{◌≡◌, refl, Bool, true, false, eqb, leb, ltb, take, drop, Some}
use Rattle.std.proofs.Common.{sym, ap, ◌∙◌, arith}
use mathlib.Core.List.{List, [], ◌∷◌, map}
use Prim.Native.Nat.{ℕ, zero, suc, ◌+◌, ◌-◌, ◌/◌, ◌%◌, ◌≤◌}
use Rattle.std.proofs.Math.ListN.{length}
use borrow.Author.Tests.{le-leb, leb-true, le-ltb, ltb-false}
use Rattle.text.specs.Choice.{pick, split, clash}
use Rattle.text.specs.Counted.{counted}
use Rattle.expression.specs.Operands.{width, is_text, is_fault, rank_in}
use Rattle.expression.specs.Conditions.{top}
use Rattle.expression.specs.Tables.{lookup_in}
use Rattle.expression.specs.declared.value.Operand.{Operand}
use Rattle.expression.specs.declared.value.Operand.TheVariants.{Fault}
use Rattle.machine.specs.Working.Machine.{State, on, stuck, placed, text_step, top_of, below, unary_on, unary_step, lookup_on, lookup_step, put_below_on, binary_on, binary_step, raised, push_step, is_idle, clause_step, act_of, step_of, stepped, ahead, exec_behind, exec, result_of}
use Rattle.machine.specs.Working.Passing.{exec-stuck}
use Rattle.machine.specs.Working.Left.{left_in}
use Rattle.machine.specs.Working.Given.{gave, string_of, string_in}
use Rattle.limits.specs.Limits.{most_string}

-- the machine could not go on, or is where it is with more room
data Kept : State → State → Type 0 where
  lost : {b : State} → Kept stuck b
  same : {a : State} → Kept a a

kept-pick : (t : Bool) {a b c d : State} → Kept a c → Kept b d → Kept (pick t a b) (pick t c d)
kept-pick true k l = k
kept-pick false k l = l

module _ (depth depth' : ℕ) (d : depth ≤ depth') where
  placed-kept : (vs bs : List ℕ) (v : Operand) → Kept (placed depth vs bs v) (placed depth' vs bs v)
  unfolding placed
  placed-kept vs bs v =
      split (ltb (depth - length vs) 2)
      (λ f. rw f lost)
      (λ f. let l : 2 ≤ depth - length vs = ltb-false _ _ f in rw (f, le-ltb (depth' - length vs) 2 (omega (arith, l, d))) same)

  put-below-kept : (vs bs : List ℕ) (base : ℕ) (v : Operand) → Kept (put_below_on depth vs bs base v) (put_below_on depth' vs bs base v)
  unfolding put_below_on
  put-below-kept vs bs base v = kept-pick (ltb (length bs - base) (width v)) (same {a = stuck}) (placed-kept vs (take (base + width v) bs) v)

  module _ (vals : List (List ℕ)) (op : ℕ) where
    unary_kept : (vs bs : List ℕ) → Kept (unary_step depth vals op vs bs) (unary_step depth' vals op vs bs)
    unfolding unary_step unary_on
    unary_kept vs bs =
        kept-pick (ltb (length vs) 2) (same {a = stuck}) (kept-pick (ltb (length bs) (width (top_of vs))) (same {a = stuck}) (placed-kept _ _ _))

    binary-kept : (vs bs : List ℕ) → Kept (binary_step depth vals op vs bs) (binary_step depth' vals op vs bs)
    unfolding binary_step binary_on
    binary-kept vs bs =
        kept-pick (ltb (length vs) 4) (same {a = stuck})
        (kept-pick (ltb (length bs) (width (top_of vs))) (same {a = stuck})
        (kept-pick (ltb (length bs - width (top_of vs)) (width (top_of (below vs)))) (same {a = stuck}) (put-below-kept _ _ _ _)))

  raised-kept : (vals : List (List ℕ)) (a b : State) → Kept a b → Kept (raised depth vals a) (raised depth' vals b)
  unfolding raised
  raised-kept vals _ b lost = lost
  raised-kept vals (on vs bs) _ same = binary-kept vals 47 vs bs
  raised-kept vals stuck _ same = same

  clause-kept : (vals : List (List ℕ)) (op : ℕ) (vs bs : List ℕ) → Kept (clause_step depth vals op vs bs) (clause_step depth' vals op vs bs)
  unfolding clause_step
  clause-kept vals op vs bs =
      kept-pick (eqb op 43) (placed-kept vs bs _)
      (kept-pick (eqb op 44) (raised-kept vals _ _ (unary_kept vals op vs bs))
      (kept-pick (is_idle vs) (same {a = on (below vs) bs}) (raised-kept vals _ _ (binary-kept vals op vs bs))))

module _ (depth depth' : ℕ) (d : depth ≤ depth') (room room' : ℕ) (h : room ≤ room') (look : List ℕ → List ℕ) where
  text-kept : (b vs bs : List ℕ) → Kept (text_step depth room b vs bs) (text_step depth' room' b vs bs)
  unfolding text_step
  text-kept b vs bs =
      kept-pick (ltb most_string (length b)) (placed-kept depth depth' d vs bs Fault)
      (split (leb (length bs + length b) room)
      (λ f. let l : length bs + length b ≤ room = leb-true _ _ f in rw (f, le-leb (length bs + length b) room' (omega (arith, l, h))) (placed-kept depth depth' d _ _ _))
      (λ f. rw f lost))

  lookup-kept : (vs bs : List ℕ) → Kept (lookup_step depth room look vs bs) (lookup_step depth' room' look vs bs)
  unfolding lookup_step lookup_on
  lookup-kept vs bs =
      kept-pick (ltb (length vs) 2) (same {a = stuck})
      (kept-pick (ltb (length bs) (width (top_of vs))) (same {a = stuck})
      (kept-pick (is_text (top_of vs)) (text-kept (look (drop (length bs - width (top_of vs)) bs)) (below vs) (take (length bs - width (top_of vs)) bs))
      (placed-kept depth depth' d (below vs) (take (length bs - width (top_of vs)) bs) Fault)))

  module _ (s : List ℕ) (vals : List (List ℕ)) where
    push_kept : (op at : ℕ) (vs bs : List ℕ) → Kept (push_step depth room s look op at vs bs) (push_step depth' room' s look op at vs bs)
    unfolding push_step
    push_kept op at vs bs =
        kept-pick (eqb op 0) (text-kept _ vs bs)
        (kept-pick (eqb op 1) (text-kept _ vs bs) (kept-pick (eqb op 2) (placed-kept depth depth' d vs bs _)
        (kept-pick (eqb op 5) (placed-kept depth depth' d vs bs _) (placed-kept depth depth' d vs bs _))))

    step_kept : (e : ℕ) (vs bs : List ℕ) → Kept (stepped depth room s look vals e vs bs) (stepped depth' room' s look vals e vs bs)
    unfolding stepped step_of act_of
    step_kept e vs bs =
        kept-pick (leb (e / 65536) 5) (push_kept (e / 65536) (e % 65536) vs bs)
        (kept-pick (eqb (e / 65536) 6) (lookup-kept vs bs)
        (kept-pick (leb (e / 65536) 11) (unary_kept depth depth' d vals (e / 65536) vs bs)
        (kept-pick (leb (e / 65536) 42) (binary-kept depth depth' d vals (e / 65536) vs bs) (clause-kept depth depth' d vals (e / 65536) vs bs))))

    -- over code of which it holds behind any number of entries
    after_kept : (op : ℕ) (c : List ℕ)
        → ((m : ℕ) (a b : State) → Kept a b → Kept (exec_behind depth room s look vals m c a) (exec_behind depth' room' s look vals m c b)) → (a b : State) → Kept a b
        → Kept (exec_behind depth room s look vals (ahead (top vals) op a c) c a) (exec_behind depth' room' s look vals (ahead (top vals) op b c) c b)
    after_kept op c behind _ b lost = rw (exec-stuck depth room s look vals op c) lost
    after_kept op c behind a _ same = behind (ahead (top vals) op a c) a a same

    exec_kept : (m : ℕ) (c : List ℕ) (a b : State) → Kept a b → Kept (exec_behind depth room s look vals m c a) (exec_behind depth' room' s look vals m c b)
    unfolding exec_behind
    exec_kept m [] a b k = k
    exec_kept (suc m) (e ∷ c) a b k = exec_kept m c a b k
    exec_kept zero (e ∷ c) _ _ lost = lost
    exec_kept zero (e ∷ c) (on vs bs) _ same =
        after_kept (e / 65536) c (λ m a b k. exec_kept m c a b k) (stepped depth room s look vals e vs bs) (stepped depth' room' s look vals e vs bs) (step_kept e vs bs)
    exec_kept zero (e ∷ c) stuck _ same = same

kept_result : (a b : State) → Kept a b → is_fault (result_of a) ≡ false → result_of a ≡ result_of b
unfolding result_of is_fault
kept_result _ _ lost f = clash refl f
kept_result _ _ same f = refl

-- an operand that is no fault is left with more room too
pub left-wider : (depth depth' room room' : ℕ) (code s rec consts values names constants : List ℕ) → depth ≤ depth' → room ≤ room'
    → is_fault (left_in depth room code s rec consts values names constants) ≡ false
    → left_in depth room code s rec consts values names constants ≡ left_in depth' room' code s rec consts values names constants
unfolding left_in
left-wider depth depth' room room' code s rec consts values names constants d h f =
    kept_result _ _
    (exec_kept depth depth' d room room' h (lookup_in rec consts values names constants) s (map (counted rec) values) 0 code (on [] []) (on [] []) same) f

-- the ways out of `run_within` and `run_on`
module _ (code s rec consts values names constants : List ℕ) where
  pub run-left : (depth room : ℕ) (v : Operand)
      → v ≡ result_of (exec depth room s (lookup_in rec consts values names constants) (map (counted rec) values) code (on [] []))
      → v ≡ left_in depth room code s rec consts values names constants
  unfolding left_in
  run-left depth room v e = e

  run-enough : (depth room : ℕ) → depth ≤ 208 → room ≤ 77824 → (v : Operand) → v ≡ left_in depth room code s rec consts values names constants → (f : Bool) → f ≡ is_fault v → f ≡ false
      → v ≡ left_in 208 77824 code s rec consts values names constants
  run-enough depth room d h v ve f fe ff = ve ∙ left-wider depth 208 room 77824 code s rec consts values names constants d h (ap is_fault (sym ve) ∙ sym fe ∙ ff)

  -- `run_on`
  module _ (v : Operand) (k : ℕ) (ke : k ≡ rank_in v) where
    module _ (f : Bool) (fe : f ≡ is_fault v) (ff : f ≡ false) where
      pub rank-narrow : v ≡ left_in 32 256 code s rec consts values names constants → k ≡ rank_in (left_in 208 77824 code s rec consts values names constants)
      rank-narrow ve = ke ∙ ap rank_in (run-enough 32 256 (omega arith) (omega arith) v ve f fe ff)

      pub rank-middle : v ≡ left_in 208 8192 code s rec consts values names constants → k ≡ rank_in (left_in 208 77824 code s rec consts values names constants)
      rank-middle ve = ke ∙ ap rank_in (run-enough 208 8192 (omega arith) (omega arith) v ve f fe ff)

    pub rank-wide : v ≡ left_in 208 77824 code s rec consts values names constants → k ≡ rank_in (left_in 208 77824 code s rec consts values names constants)
    rank-wide ve = ke ∙ ap rank_in ve

-- a string that is given is given with more room too
kept-string : (a b : State) → Kept a b → (out : List ℕ) (n : ℕ) (to : List ℕ) → gave (Some n) to ≡ string_of a out → gave (Some n) to ≡ string_of b out
unfolding string_of
kept-string _ _ lost out n to h = absurd (let z : ◌≡◌ {A = ℕ} 0 1 = cc in omega arith)
kept-string _ _ same out n to h = h

pub string-wider : (depth depth' room room' : ℕ) (code s rec consts values names constants out : List ℕ) → depth ≤ depth' → room ≤ room' → (n : ℕ) (to : List ℕ)
    → gave (Some n) to ≡ string_in depth room code s rec consts values names constants out
    → gave (Some n) to ≡ string_in depth' room' code s rec consts values names constants out
unfolding string_in
string-wider depth depth' room room' code s rec consts values names constants out d h n to e =
    kept-string _ _
    (exec_kept depth depth' d room room' h (lookup_in rec consts values names constants) s (map (counted rec) values) 0 code (on [] []) (on [] []) same) out n to e
