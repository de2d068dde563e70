-- "." of two strings on top, by their numbers: the ways out of the functions that take them. Assumes nothing.
use Rattle.std.specs.Prelude.{◌≡◌, Bool, true, false, List, ◌++◌, ℕ, ◌+◌, ◌-◌, ◌<◌, ◌≤◌, eqb, ltb, get_or, take, drop, None}
use Rattle.std.proofs.Math.Path.{refl, ap}
use Rattle.std.proofs.Common.{sym, ◌∙◌, arith, length-drop}
use Rattle.std.proofs.Math.Nat.{add-zero}
use Rattle.std.proofs.Math.ListN.{length}
use Rattle.std.proofs.Math.Seq.{length-take-le, take-take, take_all}
use borrow.Author.Tests.{lt-ltb, le-ltb, ltb-true, ltb-false, eq-eqb, ne_eqb, eqb-true}
use Rattle.text.specs.Choice.{pick, split}
use Rattle.expression.specs.Value.{text, operand}
use Rattle.expression.specs.Operands.{width, value_of}
use Rattle.expression.specs.Operations.{held}
use Rattle.expression.specs.Working.Numbered.{textual, of_texts, is_textual, binary_by}
use Rattle.expression.specs.Working.Clauses.{combined}
use Rattle.expression.specs.Working.Operating.{join-over, join-in}
use Rattle.expression.specs.declared.value.Operand.{Operand}
use Rattle.expression.specs.declared.value.Operand.TheVariants.{Text, Fault}
use Rattle.machine.specs.Working.Machine.{State, stuck, placed, put_below_on, binary_on, binary_step}
use Rattle.machine.specs.Working.Live.{Reached, Live, landed, put_at}
use Rattle.machine.specs.Working.Stepping.{live-stuck, put-live, binary-two}
use Rattle.machine.specs.Working.Quick.{top-first, top-second, pick-both}
use Rattle.machine.specs.Working.Alike.{text-kind}
use Rattle.limits.specs.Limits.{most_string}

-- ".", and the kinds of strings
unfoldable pub is_joining : ℕ → ℕ → ℕ → Bool
is_joining op x y = pick (eqb op 12) (pick (eqb x 0) (eqb y 0) false) false

-- two strings of so many bytes give way to the one that they make where they lie
unfoldable pub join_on : ℕ → ℕ → ℕ → List ℕ → List ℕ → State
join_on depth wx wy vs bs =
    pick (ltb (length bs) wy) stuck
    (pick (ltb (length bs - wy) wx) stuck
    (pick (ltb most_string (wx + wy)) (placed depth vs (take (length bs - wy - wx) bs) Fault) (placed depth vs bs (Text (wx + wy)))))

-- the ways out of `is_joining`
module _ (op x y : ℕ) where
  pub joining-other : (op ≡ 12 → ⊥) → false ≡ is_joining op x y
  unfolding is_joining
  joining-other h = rw (ne_eqb op 12 h)

  module _ (h : op ≡ 12) where
    pub joining-first : (x ≡ 0 → ⊥) → false ≡ is_joining op x y
    unfolding is_joining
    joining-first n = rw (eq-eqb op 12 h, ne_eqb x 0 n)

    pub joining-second : x ≡ 0 → (b : Bool) → b ≡ eqb y 0 → b ≡ is_joining op x y
    unfolding is_joining
    joining-second e b be = rw (eq-eqb op 12 h, eq-eqb x 0 e) be

-- the ways out of `join_step`
module _ (st m : List ℕ) (n t : ℕ) (two : n + 2 ≤ length st) (ht : t ≤ length m) (wx wy : ℕ) where
  pub join-short : t < wy → (st' : List ℕ) → Live None st' m (join_on (length st) wx wy (take n st) (take t m))
  unfolding join_on
  join-short h st' = live-stuck None st' m _ refl (rw (length-take-le t m ht, lt-ltb t wy h))

  module _ (up : wy ≤ t) where
    pub join-shorter : t - wy < wx → (st' : List ℕ) → Live None st' m (join_on (length st) wx wy (take n st) (take t m))
    unfolding join_on
    join-shorter h st' = live-stuck None st' m _ refl (rw (length-take-le t m ht, le-ltb t wy up, lt-ltb (t - wy) wx h))

    module _ (in_bytes : wx ≤ t - wy) (r : Reached) (st' : List ℕ) where
      pub join-long : most_string < wx + wy → landed r st' ≡ put_at st n (t - wy - wx) Fault → Live r st' m (join_on (length st) wx wy (take n st) (take t m))
      unfolding join_on
      join-long h is =
          rw (length-take-le t m ht, le-ltb t wy up, le-ltb (t - wy) wx in_bytes, lt-ltb most_string (wx + wy) h, take-take (t - wy - wx) t m (omega arith))
          (put-live st m n (t - wy - wx) Fault (omega (arith, two)) (omega (arith, ht)) r st' is)

      pub join-held : wx + wy ≤ most_string → landed r st' ≡ put_at st n t (Text (wx + wy)) → Live r st' m (join_on (length st) wx wy (take n st) (take t m))
      unfolding join_on
      join-held h is =
          rw (length-take-le t m ht, le-ltb t wy up, le-ltb (t - wy) wx in_bytes, le-ltb most_string (wx + wy) h)
          (put-live st m n t (Text (wx + wy)) (omega (arith, two)) ht r st' is)

-- what the operation gives
made : (vals : List (List ℕ)) (a b : List ℕ) (v : Operand) → v ≡ operand (held (a ++ b)) → operand (combined vals 12 (text a) (text b)) ≡ v
unfolding combined binary_by is_textual of_texts textual
made vals a b v e = sym e

module _ (vals : List (List ℕ)) (depth wx wy : ℕ) (vs bs : List ℕ) (up : wy ≤ length bs) (in_bytes : wx ≤ length bs - wy) where
  base : ℕ
  base = length bs - wy - wx

  first : List ℕ
  first = drop base (take (length bs - wy) bs)

  second : List ℕ
  second = drop (length bs - wy) bs

  first-long : length first ≡ wx
  unfolding first base
  first-long = rw (length-drop (length bs - wy - wx) (take (length bs - wy) bs), length-take-le (length bs - wy) bs (omega arith)) (omega (arith, in_bytes))

  second-long : length second ≡ wy
  unfolding second
  second-long = rw (length-drop (length bs - wy) bs) (omega (arith, up))

  on-long : most_string < wx + wy → put_below_on depth vs bs base (operand (combined vals 12 (text first) (text second))) ≡ placed depth vs (take base bs) Fault
  unfolding put_below_on width
  on-long h =
      rw (made vals first second Fault (join-over first second (omega (arith, h, first-long, second-long))), le-ltb (length bs - base) 0 (omega arith), add-zero base)

  on-held : wx + wy ≤ most_string → put_below_on depth vs bs base (operand (combined vals 12 (text first) (text second))) ≡ placed depth vs bs (Text (wx + wy))
  unfolding put_below_on width base
  on-held h =
      let k : length first + length second ≡ wx + wy = omega (arith, first-long, second-long) in
      let e : Text (wx + wy) ≡ operand (held (first ++ second)) = ap Text (sym k) ∙ join-in first second (omega (arith, h, k)) in
      rw (
        made vals first second (Text (wx + wy)) e,
        le-ltb (length bs - (length bs - wy - wx)) (wx + wy) (omega (arith, up, in_bytes)),
        take_all (length bs - wy - wx + (wx + wy)) bs (omega (arith, up, in_bytes)),
      )

join-on : (vals : List (List ℕ)) (depth wx wy : ℕ) (vs bs : List ℕ) → binary_on depth vals 12 (Text wx) (Text wy) vs bs ≡ join_on depth wx wy vs bs
unfolding binary_on join_on width value_of base first second
join-on vals depth wx wy vs bs =
    split (ltb (length bs) wy) (λ e. rw e)
    (λ e. split (ltb (length bs - wy) wx) (λ f. rw (e, f))
    (λ f. let up : wy ≤ length bs = ltb-false _ _ e in
    let i : wx ≤ length bs - wy = ltb-false _ _ f in
    split (ltb most_string (wx + wy)) (λ g. rw (e, f, g) (on-long vals depth wx wy vs bs up i (ltb-true _ _ g)))
    (λ g. rw (e, f, g) (on-held vals depth wx wy vs bs up i (ltb-false _ _ g)))))

-- the way out of `operator_step`
pub join_step : (vals : List (List ℕ)) (op : ℕ) (st m : List ℕ) (n t : ℕ) → n ≤ length st → 4 ≤ n → (b : Bool) → b ≡ is_joining op (get_or st (n - 4) 0) (get_or st (n - 2) 0) → b ≡ true
    → (wx : ℕ) → wx ≡ get_or st (n - 3) 0 → (wy : ℕ) → wy ≡ get_or st (n - 1) 0 → (r : Reached) (st' : List ℕ)
    → Live r st' m (join_on (length st) wx wy (take (n - 4) st) (take t m)) → Live r st' m (binary_step (length st) vals op (take n st) (take t m))
unfolding is_joining
join_step vals op st m n t hn four b be bt wx wxe wy wye r st' l =
    let p : (eqb op 12 ≡ true) × (pick (eqb (get_or st (n - 4) 0) 0) (eqb (get_or st (n - 2) 0) 0) false ≡ true) = pick-both _ _ (sym be ∙ bt) in
    let q : (eqb (get_or st (n - 4) 0) 0 ≡ true) × (eqb (get_or st (n - 2) 0) 0 ≡ true) = pick-both _ _ p.1 in
    rw (eqb-true op 12 p.0)
    (binary-two (length st) vals 12 st m n t hn st' four (Text wy) (top-first st n hn four (Text wy) (ap Text wye ∙ text-kind _ _ (eqb-true _ _ q.1))) (Text wx)
    (top-second st n hn four (Text wx) (ap Text wxe ∙ text-kind _ _ (eqb-true _ _ q.0))) r (rw (join-on vals (length st) wx wy (take (n - 4) st) (take t m)) l))
