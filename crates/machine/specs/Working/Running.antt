-- Working laws: the ways out of the functions that choose a step, and of the loop over the code. Assumes nothing.
use Rattle.std.specs.Prelude.{◌≡◌, Bool, eqb, leb, ltb, Float as Single, length, get_or, take, Some, None}
use Rattle.std.proofs.Math.Path.{refl, sym, ap}
use Rattle.std.proofs.Common.{◌∙◌, arith, add-one, drop_of_length-le, drop-cons, length-take-le}
use Rattle.std.proofs.Math.Bool.{true, false}
use mathlib.Core.List.{List, [], map}
use Prim.Native.Nat.{ℕ, suc, ◌+◌, ◌-◌, ◌/◌, ◌%◌, ◌<◌, ◌≤◌, min}
use Rattle.std.proofs.Math.ListN.{drop}
use Rattle.std.proofs.lemmas.List.{length-map}
use Rattle.std.proofs.Math.Seq.{drop-drop, get_or-take}
use borrow.Author.Tests.{le-leb, lt-leb, lt-ltb, le-ltb, ltb-true, ltb-false, eq-eqb, ne_eqb}
use Rattle.text.specs.Choice.{pick, split, clash}
use Rattle.text.specs.Class.{word}
use Rattle.text.specs.Counted.{counted}
use Rattle.text.specs.Digits.{digits_at, value}
use Rattle.lexical.specs.Literal.{decoded_at}
use Rattle.float.specs.Written.{float_of}
use Rattle.syntax.specs.Code.{decimal_at}
use Rattle.expression.specs.Value.{operand}
use Rattle.expression.specs.Integers.{ranged}
use Rattle.expression.specs.Conditions.{top}
use Rattle.expression.specs.Working.Arithmetic.{range-out}
use Rattle.expression.specs.declared.value.Operand.{Operand}
use Rattle.expression.specs.declared.value.Operand.TheVariants.{Test, Rank, Float, Fault}
use Rattle.machine.specs.Working.Machine.{State, on, stuck, text_step, top_of, unary_step, lookup_step, binary_step, raised, run_at, push_step, is_idle, clause_step, act_of, step_of, stepped, needless, ahead, exec_behind, exec, result_of}
use Rattle.machine.specs.Working.Live.{tops, Reached, Live, landed, put_at}
use Rattle.machine.specs.Working.Passing.{exec-stuck, exec-drop}
use Rattle.machine.specs.Working.Stepping.{put-live, below-is}
use Rattle.machine.specs.declared.Tops.{Tops}

pub live_in : (r : Reached) (st m : List ℕ) (x : State) (w : Tops) → r ≡ Some w → Live r st m x → (w.numbers ≤ length st) × ((w.bytes ≤ length m) × (x ≡ on (take w.numbers st) (take w.bytes m)))
live_in r st m x w re l =
    let l' : Live (Some w) st m x = rw re at l in
    (l'.within.0, (l'.within.1, sym l'.holds))

pub live_out : (r : Reached) (st m : List ℕ) (x : State) → r ≡ None → Live r st m x → x ≡ stuck
live_out r st m x re l = let l' : Live None st m x = rw re at l in sym l'.holds

-- a number held where the code holds it is in range just where it is
held-ranged : (m : ℕ) → operand (ranged false (min m 4294967295)) ≡ operand (ranged false m)
held-ranged m =
    split (ltb 2147483648 m)
    (λ t. let h : 2147483648 < m = ltb-true _ _ t in sym (range-out false (min m 4294967295) (omega arith)) ∙ range-out false m h)
    (λ t. let h : m ≤ 2147483648 = ltb-false _ _ t in let e : min m 4294967295 ≡ m = omega arith in rw e)

-- the ways out of `push_step`
module _ (s : List ℕ) (look : List ℕ → List ℕ) (op at : ℕ) where
  module _ (depth room : ℕ) (vs bs : List ℕ) (r : Reached) (st m : List ℕ) where
    pub push-literal : op ≡ 0 → Live r st m (text_step depth room (decoded_at s at) vs bs) → Live r st m (push_step depth room s look op at vs bs)
    unfolding push_step
    push-literal h l = rw (eq-eqb op 0 h) l

    module _ (n0 : op ≡ 0 → ⊥) where
      pub push-name : op ≡ 1 → (a : List ℕ) → a ≡ run_at word s at → (b : List ℕ) → b ≡ look a → Live r st m (text_step depth room b vs bs) → Live r st m (push_step depth room s look op at vs bs)
      unfolding push_step
      push-name h a ae b be l = let q : b ≡ look (run_at word s at) = be ∙ ap look ae in rw (ne_eqb op 0 n0, eq-eqb op 1 h, ← q) l

  module _ (n0 : op ≡ 0 → ⊥) (n1 : op ≡ 1 → ⊥) (room : ℕ) (st m : List ℕ) (n t : ℕ) (hn : n ≤ length st) (ht : t ≤ length m) (r : Reached) (st' : List ℕ) where
    pub push-number : op ≡ 2 → (k : ℕ) → k ≡ min (value (digits_at s at)) 4294967295 → (v : Operand) → v ≡ operand (ranged false k)
        → landed r st' ≡ put_at st n t v → Live r st' m (push_step (length st) room s look op at (take n st) (take t m))
    unfolding push_step run_at digits_at
    push-number h k ke v ve is =
        let q : v ≡ operand (ranged false (value (digits_at s at))) = ve ∙ ap (λ (j : ℕ). operand (ranged false j)) ke ∙ held-ranged (value (digits_at s at)) in
        rw (ne_eqb op 0 n0, ne_eqb op 1 n1, eq-eqb op 2 h, ← q) (put-live st m n t v hn ht r st' is)

    pub push-decimal : (op ≡ 2 → ⊥) → op ≡ 5 → (x : Single) → x ≡ float_of (decimal_at s at) → landed r st' ≡ put_at st n t (Float x)
        → Live r st' m (push_step (length st) room s look op at (take n st) (take t m))
    unfolding push_step
    push-decimal n2 h x xe is = rw (ne_eqb op 0 n0, ne_eqb op 1 n1, ne_eqb op 2 n2, eq-eqb op 5 h, ← xe) (put-live st m n t (Float x) hn ht r st' is)

    pub push-test : (op ≡ 2 → ⊥) → (op ≡ 5 → ⊥) → (b : Bool) → b ≡ eqb op 3 → landed r st' ≡ put_at st n t (Test b) → Live r st' m (push_step (length st) room s look op at (take n st) (take t m))
    unfolding push_step
    push-test n2 n5 b be is = rw (ne_eqb op 0 n0, ne_eqb op 1 n1, ne_eqb op 2 n2, ne_eqb op 5 n5, ← be) (put-live st m n t (Test b) hn ht r st' is)

-- the ways out of `plain_step`
module _ (vals : List (List ℕ)) (depth : ℕ) (vs bs m : List ℕ) (r : Reached) (st' : List ℕ) (l : Live r st' m (unary_step depth vals 44 vs bs)) where
  pub plain-stuck : r ≡ None → Live None st' m (raised depth vals (unary_step depth vals 44 vs bs))
  unfolding raised
  plain-stuck re = rw (live_out r st' m _ re l) (record { within = tt; holds = refl })

  pub plain-raised : (w : Tops) → r ≡ Some w → length st' ≡ depth → (r' : Reached) (st'' : List ℕ) → Live r' st'' m (binary_step (length st') vals 47 (take w.numbers st') (take w.bytes m))
      → Live r' st'' m (raised depth vals (unary_step depth vals 44 vs bs))
  unfolding raised
  plain-raised w re de r' st'' l' = rw ((live_in r st' m _ w re l).1.1, ← de) l'

-- the ways out of `is_idle`
module _ (st : List ℕ) (n : ℕ) (hn : n ≤ length st) where
  pub idle-few : n < 4 → false ≡ is_idle (take n st)
  unfolding is_idle
  idle-few h = rw (length-take-le n st hn, lt-ltb n 4 h)

  module _ (h : 4 ≤ n) where
    pub idle-false : get_or st (n - 2) 0 ≡ 3 → (b : Bool) → b ≡ eqb (get_or st (n - 4) 0) 5 → b ≡ is_idle (take n st)
    unfolding is_idle
    idle-false k b be =
        rw (length-take-le n st hn, le-ltb n 4 h, get_or-take n st (n - 2) 0 (omega (arith, h)), get_or-take n st (n - 4) 0 (omega (arith, h)), eq-eqb (get_or st (n - 2) 0) 3 k) be

    pub idle-other : (get_or st (n - 2) 0 ≡ 3 → ⊥) → false ≡ is_idle (take n st)
    unfolding is_idle
    idle-other k = rw (length-take-le n st hn, le-ltb n 4 h, get_or-take n st (n - 2) 0 (omega (arith, h)), ne_eqb (get_or st (n - 2) 0) 3 k)

  module _ (b : Bool) (be : b ≡ is_idle (take n st)) (bt : b ≡ true) where
    idle-four : 4 ≤ n
    unfolding is_idle
    idle-four =
        let q : is_idle (take n st) ≡ true = sym be ∙ bt in
        let q' : pick (ltb n 4) false (pick (eqb (get_or (take n st) (n - 2) 0) 3) (eqb (get_or (take n st) (n - 4) 0) 5) false) ≡ true = rw (length-take-le n st hn) at q in
        split (ltb n 4) (λ f. clash (rw f at q') refl) (λ f. ltb-false n 4 f)

    pub idle-two : 2 ≤ n
    idle-two = omega (arith, idle-four)

-- the ways out of `clause_step`
module _ (vals : List (List ℕ)) (op : ℕ) where
  pub clause-begin : op ≡ 43 → (st m : List ℕ) (n t : ℕ) → n ≤ length st → t ≤ length m → (r : Reached) (st' : List ℕ) → landed r st' ≡ put_at st n t (Rank 0)
      → Live r st' m (clause_step (length st) vals op (take n st) (take t m))
  unfolding clause_step
  clause-begin h st m n t hn ht r st' is = rw (eq-eqb op 43 h) (put-live st m n t (Rank 0) hn ht r st' is)

  module _ (n43 : op ≡ 43 → ⊥) (depth : ℕ) (vs bs m : List ℕ) (r : Reached) (st' : List ℕ) where
    pub clause-plain : op ≡ 44 → Live r st' m (raised depth vals (unary_step depth vals 44 vs bs)) → Live r st' m (clause_step depth vals op vs bs)
    unfolding clause_step
    clause-plain h l = rw (h) l

    module _ (n44 : op ≡ 44 → ⊥) (b : Bool) (be : b ≡ is_idle vs) (bf : b ≡ false) (l : Live r st' m (binary_step depth vals op vs bs)) where
      pub clause-stuck : r ≡ None → Live None st' m (clause_step depth vals op vs bs)
      unfolding clause_step raised
      clause-stuck re = rw (ne_eqb op 43 n43, ne_eqb op 44 n44, ← be, bf, live_out r st' m _ re l) (record { within = tt; holds = refl })

      pub clause-raised : (w : Tops) → r ≡ Some w → length st' ≡ depth → (r' : Reached) (st'' : List ℕ) → Live r' st'' m (binary_step (length st') vals 47 (take w.numbers st') (take w.bytes m))
          → Live r' st'' m (clause_step depth vals op vs bs)
      unfolding clause_step raised
      clause-raised w re de r' st'' l' = rw (ne_eqb op 43 n43, ne_eqb op 44 n44, ← be, bf, (live_in r st' m _ w re l).1.1, ← de) l'

  -- a test that is idle
  module _ (st m : List ℕ) (n t : ℕ) (hn : n ≤ length st) (b : Bool) (be : b ≡ is_idle (take n st)) (bt : b ≡ true) where
    pub clause-idle : t ≤ length m → (op ≡ 43 → ⊥) → (op ≡ 44 → ⊥) → Live (tops (n - 2) t) st m (clause_step (length st) vals op (take n st) (take t m))
    unfolding clause_step
    clause-idle ht n43 n44 =
        rw (ne_eqb op 43 n43, ne_eqb op 44 n44, ← be, bt, below-is st n hn (idle-two st n hn b be bt))
        (record { within = (omega (arith, hn), ht); holds = refl })

-- the ways out of `act`
module _ (depth room : ℕ) (look : List ℕ → List ℕ) (vals : List (List ℕ)) (op : ℕ) (vs bs : List ℕ) (r : Reached) (st m : List ℕ) where
  pub act-lookup : op ≡ 6 → Live r st m (lookup_step depth room look vs bs) → Live r st m (act_of depth room look vals op vs bs)
  unfolding act_of
  act-lookup h l = rw (eq-eqb op 6 h) l

  module _ (n6 : op ≡ 6 → ⊥) where
    pub act-unary : op ≤ 11 → Live r st m (unary_step depth vals op vs bs) → Live r st m (act_of depth room look vals op vs bs)
    unfolding act_of
    act-unary h l = rw (ne_eqb op 6 n6, le-leb op 11 h) l

    module _ (n11 : 11 < op) where
      pub act-binary : op ≤ 42 → Live r st m (binary_step depth vals op vs bs) → Live r st m (act_of depth room look vals op vs bs)
      unfolding act_of
      act-binary h l = rw (ne_eqb op 6 n6, lt-leb op 11 n11, le-leb op 42 h) l

      pub act-clause : 42 < op → Live r st m (clause_step depth vals op vs bs) → Live r st m (act_of depth room look vals op vs bs)
      unfolding act_of
      act-clause h l = rw (ne_eqb op 6 n6, lt-leb op 11 n11, lt-leb op 42 h) l

-- what is left of the code from i on
unfoldable pub exec_from : ℕ → ℕ → List ℕ → (List ℕ → List ℕ) → List (List ℕ) → List ℕ → ℕ → List ℕ → List ℕ → State
exec_from depth room s look vals code i vs bs = exec depth room s look vals (drop i code) (on vs bs)

pub exec-start : (depth room : ℕ) (s : List ℕ) (look : List ℕ → List ℕ) (vals : List (List ℕ)) (code st m : List ℕ)
    → exec_from depth room s look vals code 0 (take 0 st) (take 0 m) ≡ exec depth room s look vals code (on [] [])
unfolding exec_from
exec-start depth room s look vals code st m = refl

module _ (depth room : ℕ) (s : List ℕ) (look : List ℕ → List ℕ) (vals : List (List ℕ)) (code : List ℕ) (i : ℕ) (st m : List ℕ) (n t : ℕ) (a : State)
    (inv : exec_from depth room s look vals code i (take n st) (take t m) ≡ a) where
  -- the end of the code: what lies on the stacks
  pub exec-live : length code ≤ i → n ≤ length st → t ≤ length m → Live (tops n t) st m a
  unfolding exec_from exec_behind
  exec-live h w v = record { within = (w, v); holds = rw (drop_of_length-le code h) at inv }

  module _ (h : i < length code) (e : ℕ) (ee : e ≡ get_or code i 0) (op : ℕ) (oe : op ≡ e / 65536) (p : ℕ) (pe : p ≡ e % 65536) (de : length st ≡ depth) (me : length m ≡ room)
      (r : Reached) (st' m' : List ℕ) where
    abbrev made : State
    made = step_of (length st) (length m) s look vals op p (take n st) (take t m)

    step_is : exec_behind depth room s look vals (ahead (top vals) op made (drop (suc i) code)) (drop (suc i) code) made ≡ a
    unfolding exec_from exec_behind stepped
    step_is = rw (de, me, pe, oe, ee) (rw (drop-cons code i 0 h) at inv)

    stuck-is : Live r st' m' made → r ≡ None → Live None st' m' a
    stuck-is l re =
        let q : made ≡ stuck = live_out r st' m' _ re l in
        record { within = tt; holds = sym (exec-stuck depth room s look vals op (drop (suc i) code)) ∙ (rw q at step_is) }

    more-is : Live r st' m' made → (w : Tops) → r ≡ Some w → (x : ℕ) → x ≡ pick (leb op 5) 0 (needless (top vals) (take w.numbers st') (drop (suc i) code))
        → exec_from depth room s look vals code (suc i + x) (take w.numbers st') (take w.bytes m') ≡ a
    unfolding exec_from
    more-is l w re x xe =
        let c : List ℕ = drop (suc i) code in
        let y : State = on (take w.numbers st') (take w.bytes m') in
        let q : exec_behind depth room s look vals (ahead (top vals) op y c) c y ≡ a = rw (live_in r st' m' _ w re l).1.1 at step_is in
        rw (xe, ← drop-drop (ahead (top vals) op y c) (suc i) code) (sym (exec-drop depth room s look vals (ahead (top vals) op y c) c y) ∙ q)

    -- what is put on the stacks
    module _ (h4 : op ≤ 5) (l : Live r st' m' (push_step (length st) (length m) s look op p (take n st) (take t m))) where
      pushed : Live r st' m' made
      unfolding step_of
      pushed = rw (le-leb op 5 h4) l

      pub push-stuck : r ≡ None → Live None st' m' a
      push-stuck = stuck-is pushed

      pub push-more : (w : Tops) → r ≡ Some w → exec_from depth room s look vals code (i + 1) (take w.numbers st') (take w.bytes m') ≡ a
      push-more w re =
          let z : suc i + 0 ≡ i + 1 = omega arith in
          rw (sym z) (more-is pushed w re 0 (rw (le-leb op 5 h4)))

    -- an operation on what lies there
    module _ (h4 : 5 < op) (l : Live r st' m' (act_of (length st) (length m) look vals op (take n st) (take t m))) where
      acted : Live r st' m' made
      unfolding step_of
      acted = rw (lt-leb op 5 h4) l

      pub act-stuck : r ≡ None → Live None st' m' a
      act-stuck = stuck-is acted

      act-on : (w : Tops) → r ≡ Some w → (j : ℕ) → j ≡ i + 1 + needless (top vals) (take w.numbers st') (drop (i + 1) code)
          → exec_from depth room s look vals code j (take w.numbers st') (take w.bytes m') ≡ a
      act-on w re j je =
          let je' : j ≡ suc i + needless (top vals) (take w.numbers st') (drop (suc i) code) = rw (add-one i) at je in
          rw je' (more-is acted w re _ (rw (lt-leb op 5 h4)))

-- the highest rank is that of the values shown
pub act-more : (rec values : List ℕ) (depth room : ℕ) (s : List ℕ) (look : List ℕ → List ℕ) (code : List ℕ) (i : ℕ) (st m : List ℕ) (n t : ℕ) (a : State)
    → exec_from depth room s look (map (counted rec) values) code i (take n st) (take t m) ≡ a
    → i < length code → (e : ℕ) → e ≡ get_or code i 0 → (op : ℕ) → op ≡ e / 65536 → (p : ℕ) → p ≡ e % 65536 → length st ≡ depth → length m ≡ room
    → (r : Reached) (st' m' : List ℕ) → 5 < op → Live r st' m' (act_of (length st) (length m) look (map (counted rec) values) op (take n st) (take t m))
    → (w : Tops) → r ≡ Some w → (j : ℕ) → j ≡ i + 1 + needless (length values - 1) (take w.numbers st') (drop (i + 1) code)
    → exec_from depth room s look (map (counted rec) values) code j (take w.numbers st') (take w.bytes m') ≡ a
unfolding top
act-more rec values depth room s look code i st m n t a inv h e ee op oe p pe de me r st' m' h4 l w re j je =
    act-on depth room s look (map (counted rec) values) code i st m n t a inv h e ee op oe p pe de me r st' m' h4 l w re j
    (je ∙ ap (λ (x : ℕ). i + 1 + needless (x - 1) (take w.numbers st') (drop (i + 1) code)) (sym (length-map values (counted rec))))

-- the loop comes nearer to the code's end
pub exec-less : (l i j x : ℕ) → i < l → j ≡ i + 1 + x → l - j < l - i
exec-less l i j x h e = omega (arith, h, e)

-- the tops stay within the buffers
pub numbers-within : (r : Reached) (st m : List ℕ) (x : State) (w : Tops) → r ≡ Some w → Live r st m x → w.numbers ≤ length st
numbers-within r st m x w re l = (live_in r st m x w re l).0

pub bytes-within : (r : Reached) (st m : List ℕ) (x : State) (w : Tops) → r ≡ Some w → Live r st m x → w.bytes ≤ length m
bytes-within r st m x w re l = (live_in r st m x w re l).1.0

-- the operand that lies on top where the code ends, or the fault of a machine that is stuck
pub live-fault : (r : Reached) (st m : List ℕ) (x : State) → Live r st m x → r ≡ None → Fault ≡ result_of x
unfolding result_of
live-fault r st m x l re = ap result_of (sym (live_out r st m x re l))

pub live-top : (r : Reached) (st m : List ℕ) (x : State) → Live r st m x → (w : Tops) → r ≡ Some w → (v : Operand) → v ≡ top_of (take w.numbers st) → v ≡ result_of x
unfolding result_of
live-top r st m x l w re v ve = ve ∙ ap result_of (sym (live_in r st m x w re l).1.1)
