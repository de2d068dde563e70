-- Working laws: what each step makes of values on top of the stacks. Assumes nothing.
use Rattle.std.specs.Prelude.{◌≡◌, refl, true, false, ℕ, ◌+◌, ◌-◌, ◌≤◌, eqb, leb, ltb, take, drop}
use Rattle.std.proofs.Common.{ap, ◌∙◌, take_at, drop_at}
use mathlib.Core.List.{List, [], ◌∷◌, ◌++◌, append_assoc, append-nil}
use native.Mathlib.Omega.{arith}
use Rattle.std.proofs.Math.ListN.{length, length-append}
use Rattle.std.proofs.Math.Seq.{get_or-append-add, take-append-add}
use borrow.Author.Tests.{le-ltb, le-leb, ltb-false}
use Rattle.text.specs.Choice.{pick, split}
use Rattle.float.specs.Theorems.Held.{float_back}
use Rattle.syntax.specs.Operator as Operator
use Rattle.expression.specs.Value.{Value, text, integer, test, rank, float, fault, operand, bytes_of, on_text}
use Rattle.expression.specs.Operands.{kind_of, size_of, unpacked, width, value_of, is_text}
use Rattle.expression.specs.Operations.{held, unary_of}
use Rattle.expression.specs.Working.Clauses.{applied, combined}
use Rattle.expression.specs.declared.value.Operand.TheVariants.{Text, Float, Fault}
use Rattle.machine.specs.Working.Machine.{State, on, placed, text_step, top_of, below, is_false, is_highest, is_idle, unary_on, unary_step, lookup_on, lookup_step, put_below_on, binary_on, binary_step}
use Rattle.machine.specs.Working.Kinds.{Said}
use Rattle.machine.specs.Working.Widths.{plain-applied, Front, front-combined}
use Rattle.limits.specs.Limits.{most_string}

-- the numbers of a value's operand, and the stacks with a value on top
unfoldable pub pair : Value → List ℕ
pair v = kind_of (operand v) ∷ size_of (operand v) ∷ []

unfoldable pub topped : List ℕ → List ℕ → Value → State
topped vs bs v = on (vs ++ pair v) (bs ++ bytes_of v)

-- a value's operand is what its two numbers say, and has as many bytes as its value
unpack-is : (v : Value) → Said v → unpacked (kind_of (operand v)) (size_of (operand v)) ≡ operand v
unfolding unpacked kind_of size_of operand
unpack-is (text b) h = refl
unpack-is (integer i) h = split i.negative (λ f. rw f) (λ f. rw f)
unpack-is (test true) h = refl
unpack-is (test false) h = refl
unpack-is (rank n) h = refl
unpack-is (float x) h = ap Float (float_back x h)
unpack-is fault h = refl

pub width_is : (v : Value) → width (operand v) ≡ length (bytes_of v)
unfolding width operand bytes_of
width_is (text b) = refl
width_is (integer i) = refl
width_is (test t) = refl
width_is (rank n) = refl
width_is (float x) = refl
width_is fault = refl

value-is : (v : Value) → value_of (operand v) (bytes_of v) ≡ v
unfolding value_of operand bytes_of
value-is (text b) = refl
value-is (integer i) = refl
value-is (test t) = refl
value-is (rank n) = refl
value-is (float x) = refl
value-is fault = refl

module _ (vs : List ℕ) (v : Value) where
  pub count-is : length (vs ++ pair v) ≡ length vs + 2
  unfolding pair
  count-is = length-append vs (pair v)

  pub top-is : Said v → top_of (vs ++ pair v) ≡ operand v
  unfolding top_of pair
  top-is z =
      let a : length vs + 2 - 2 ≡ length vs + 0 = omega arith in
      let b : length vs + 2 - 1 ≡ length vs + 1 = omega arith in
      rw (
        length-append vs (kind_of (operand v) ∷ size_of (operand v) ∷ []),
        le-ltb (length vs + 2) 2 (omega arith),
        a,
        b,
        get_or-append-add vs (kind_of (operand v) ∷ size_of (operand v) ∷ []) 0 0,
        get_or-append-add vs (kind_of (operand v) ∷ size_of (operand v) ∷ []) 1 0,
      )
      (unpack-is v z)

  pub false-top : is_false (vs ++ pair v) ≡ eqb (kind_of (operand v)) 3
  unfolding is_false pair
  false-top =
      let a : length vs + 2 - 2 ≡ length vs + 0 = omega arith in
      rw (
        length-append vs (kind_of (operand v) ∷ size_of (operand v) ∷ []),
        le-ltb (length vs + 2) 2 (omega arith),
        a,
        get_or-append-add vs (kind_of (operand v) ∷ size_of (operand v) ∷ []) 0 0,
      )

  pub high-top : (high : ℕ) → is_highest high (vs ++ pair v) ≡ pick (eqb (kind_of (operand v)) 5) (leb high (size_of (operand v))) false
  unfolding is_highest pair
  high-top high =
      let a : length vs + 2 - 2 ≡ length vs + 0 = omega arith in
      let b : length vs + 2 - 1 ≡ length vs + 1 = omega arith in
      rw (
        length-append vs (kind_of (operand v) ∷ size_of (operand v) ∷ []),
        le-ltb (length vs + 2) 2 (omega arith),
        a,
        b,
        get_or-append-add vs (kind_of (operand v) ∷ size_of (operand v) ∷ []) 0 0,
        get_or-append-add vs (kind_of (operand v) ∷ size_of (operand v) ∷ []) 1 0,
      )

  pub below-is : below (vs ++ pair v) ≡ vs
  unfolding below
  below-is = let e : length (vs ++ pair v) - 2 ≡ length vs = rw count-is (omega arith) in rw e (take_at vs (pair v) (length vs) refl)

-- a test below a value that is no rank is not idle
pub idle-top : (vs : List ℕ) (v w : Value) → is_idle ((vs ++ pair v) ++ pair w) ≡ pick (eqb (kind_of (operand w)) 3) (eqb (kind_of (operand v)) 5) false
unfolding is_idle pair
idle-top vs v w =
    let p : List ℕ = kind_of (operand v) ∷ size_of (operand v) ∷ [] in
    let q : List ℕ = kind_of (operand w) ∷ size_of (operand w) ∷ [] in
    let a : length vs + 4 - 2 ≡ length vs + 2 = omega arith in
    let b : length vs + 4 - 4 ≡ length vs + 0 = omega arith in
    rw (append_assoc vs p q, length-append vs (p ++ q), le-ltb (length vs + 4) 4 (omega arith), a, b, get_or-append-add vs (p ++ q) 2 0, get_or-append-add vs (p ++ q) 0 0)

pub idle-not : (vs : List ℕ) (v w : Value) → eqb (kind_of (operand v)) 5 ≡ false → is_idle ((vs ++ pair v) ++ pair w) ≡ false
idle-not vs v w h = idle-top vs v w ∙ split (eqb (kind_of (operand w)) 3) (λ f. rw (f, h)) (λ f. rw f)

-- strings at the end of the bytes
module _ (bs b : List ℕ) where
  end_is : length (bs ++ b) - length b ≡ length bs
  end_is = rw (length-append bs b) (omega arith)

  front-is : take (length (bs ++ b) - length b) (bs ++ b) ≡ bs
  front-is = rw end_is (take_at bs b (length bs) refl)

  back_is : drop (length (bs ++ b) - length b) (bs ++ b) ≡ b
  back_is = rw end_is (drop_at bs b (length bs) refl)

  long-is : ltb (length (bs ++ b)) (length b) ≡ false
  long-is = le-ltb (length (bs ++ b)) (length b) (rw (length-append bs b) (omega arith))

module _ (depth : ℕ) (vs : List ℕ) (h : length vs + 2 ≤ depth) where
  pub place_is : (bs : List ℕ) (v : Value) → bytes_of v ≡ [] → placed depth vs bs (operand v) ≡ topped vs bs v
  unfolding placed topped pair
  place_is bs v p = rw (le-ltb (depth - length vs) 2 (omega arith), p, append-nil bs)

  place-text : (bs b : List ℕ) → placed depth vs (bs ++ b) (Text (length b)) ≡ topped vs bs (text b)
  unfolding placed topped pair operand bytes_of
  place-text bs b = rw (le-ltb (depth - length vs) 2 (omega arith))

  place-fault : (bs : List ℕ) → placed depth vs bs Fault ≡ topped vs bs fault
  unfolding placed topped pair operand bytes_of
  place-fault bs = rw (le-ltb (depth - length vs) 2 (omega arith), append-nil bs)

  -- a string
  pub text-is : (room : ℕ) (bs b : List ℕ) → length bs + most_string ≤ room → text_step depth room b vs bs ≡ topped vs bs (held b)
  unfolding text_step held
  text-is room bs b k =
      split (ltb most_string (length b))
      (λ f. rw f (place-fault bs))
      (λ f. let l : length b ≤ most_string = ltb-false _ _ f in rw (f, le-leb (length bs + length b) room (omega arith)) (place-text bs b))

  -- one operand
  pub unary-is : (vals : List (List ℕ)) (op : ℕ) (bs : List ℕ) (v : Value) → Said v → unary_step depth vals op (vs ++ pair v) (bs ++ bytes_of v) ≡ topped vs bs (applied vals op v)
  unfolding unary_step unary_on
  unary-is vals op bs v z =
      rw (count-is vs v, le-ltb (length vs + 2) 2 (omega arith), top-is vs v z, below-is vs v, width_is v, long-is bs (bytes_of v), front-is bs (bytes_of v), back_is bs (bytes_of v), value-is v)
      (place_is bs (applied vals op v) (plain-applied vals op v).none)

  -- "$"
  module _ (room : ℕ) (look look' : List ℕ → List ℕ) (same : (n : List ℕ) → look n ≡ look' n) where
    lookup-on : (bs : List ℕ) (v : Value) → length bs + most_string ≤ room
        → pick (is_text (operand v)) (text_step depth room (look (bytes_of v)) vs bs) (placed depth vs bs Fault) ≡ topped vs bs (on_text (λ a. held (look' a)) v)
    unfolding is_text operand bytes_of
    lookup-on bs (text b) k = rw (same b) (text-is room bs (look' b) k)
    lookup-on bs (integer i) k = place-fault bs
    lookup-on bs (test t) k = place-fault bs
    lookup-on bs (rank n) k = place-fault bs
    lookup-on bs (float x) k = place-fault bs
    lookup-on bs fault k = place-fault bs

    pub lookup-is : (bs : List ℕ) (v : Value) → Said v → length bs + most_string ≤ room
        → lookup_step depth room look (vs ++ pair v) (bs ++ bytes_of v) ≡ topped vs bs (unary_of look' Operator.lookup v)
    unfolding lookup_step lookup_on unary_of
    lookup-is bs v z k =
        rw (count-is vs v, le-ltb (length vs + 2) 2 (omega arith), top-is vs v z, below-is vs v, width_is v, long-is bs (bytes_of v), front-is bs (bytes_of v), back_is bs (bytes_of v))
        (lookup-on bs v k)

  -- two operands
  put-below-is : (bs l : List ℕ) (v : Value) → Front v l → put_below_on depth vs (bs ++ l) (length bs) (operand v) ≡ topped vs bs v
  unfolding put_below_on placed topped pair
  put-below-is bs l v f =
      let e : length (bs ++ l) - length bs ≡ length l = rw (length-append bs l) (omega arith) in
      rw (width_is v, e, le-ltb (length l) (length (bytes_of v)) f.fits, take-append-add bs l (length (bytes_of v)), f.is, le-ltb (depth - length vs) 2 (omega arith))

  pub binary-is : (vals : List (List ℕ)) (op : ℕ) (bs : List ℕ) (v w : Value) → Said v → Said w
      → binary_step depth vals op ((vs ++ pair v) ++ pair w) ((bs ++ bytes_of v) ++ bytes_of w) ≡ topped vs bs (combined vals op v w)
  unfolding binary_step binary_on
  binary-is vals op bs v w z y =
      let four : 4 ≤ length ((vs ++ pair v) ++ pair w) = rw (count-is (vs ++ pair v) w, count-is vs v) (omega arith) in
      rw (
        le-ltb (length ((vs ++ pair v) ++ pair w)) 4 four,
        top-is (vs ++ pair v) w y,
        below-is (vs ++ pair v) w,
        top-is vs v z,
        below-is vs v,
        width_is w,
        width_is v,
        long-is (bs ++ bytes_of v) (bytes_of w),
        front-is (bs ++ bytes_of v) (bytes_of w),
        back_is (bs ++ bytes_of v) (bytes_of w),
        end_is (bs ++ bytes_of v) (bytes_of w),
        long-is bs (bytes_of v),
        back_is bs (bytes_of v),
        end_is bs (bytes_of v),
        value-is w,
        value-is v,
        append_assoc bs (bytes_of v) (bytes_of w),
      )
      (put-below-is bs (bytes_of v ++ bytes_of w) (combined vals op v w) (front-combined vals op v w))
