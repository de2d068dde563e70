-- "==" and "!=" of two strings on top, by their numbers and bytes: the ways out of the functions that take them. Assumes nothing.
use Rattle.std.specs.Prelude.{◌≡◌, Bool, true, false, not, List, ℕ, ◌+◌, ◌-◌, ◌<◌, ◌≤◌, eqb, ltb, length, get_or, take, drop, None}
use Rattle.std.proofs.Math.Path.{refl, ap}
use Rattle.std.proofs.Common.{sym, ◌∙◌, arith, add-zero}
use Rattle.std.proofs.Math.Seq.{length-take-le, take-take}
use borrow.Author.Tests.{lt-ltb, le-ltb, eq-eqb, ne_eqb, eqb-true}
use Rattle.text.specs.Choice.{pick, split}
use Rattle.text.specs.Equal.{equal}
use Rattle.expression.specs.Value.{text, operand}
use Rattle.expression.specs.Operands.{pack, unpacked, width, value_of}
use Rattle.expression.specs.Working.Numbered.{of_texts, is_textual, binary_by}
use Rattle.expression.specs.Working.Clauses.{combined}
use Rattle.expression.specs.Working.Operating.{does-equal, does-differ}
use Rattle.expression.specs.declared.value.Operand.TheVariants.{Text, Test}
use Rattle.expression.specs.declared.value.Packed.{Packed}
use Rattle.machine.specs.Working.Machine.{State, stuck, placed, put_below_on, binary_on, binary_step}
use Rattle.machine.specs.Working.Live.{Reached, Live, landed}
use Rattle.machine.specs.Working.Stepping.{drop-take, live-stuck, put-live, binary-two}
use Rattle.machine.specs.Working.Quick.{put_two, two-put, top-first, top-second, pick-both}

-- "==" or "!=" of strings, and the kinds of strings
unfoldable pub is_alike : ℕ → ℕ → ℕ → Bool
is_alike op x y = pick (eqb x 0) (pick (eqb y 0) (pick (eqb op 19) true (eqb op 20)) false) false

unfoldable pub agrees : ℕ → Bool → Bool
agrees op same = pick (eqb op 19) same (not same)

-- two strings of so many bytes give way to a test
unfoldable pub alike_on : ℕ → ℕ → ℕ → ℕ → List ℕ → List ℕ → State
alike_on depth op wx wy vs bs =
    pick (ltb (length bs) wy) stuck
    (pick (ltb (length bs - wy) wx) stuck
    (placed depth vs (take (length bs - wy - wx) bs) (Test (agrees op (equal (drop (length bs - wy - wx) (take (length bs - wy) bs)) (drop (length bs - wy) bs))))))

-- the ways out of `is_alike` and `agreed`
module _ (op x y : ℕ) where
  pub alike-first : (x ≡ 0 → ⊥) → false ≡ is_alike op x y
  unfolding is_alike
  alike-first h = rw (ne_eqb x 0 h)

  module _ (x0 : x ≡ 0) where
    pub alike-second : (y ≡ 0 → ⊥) → false ≡ is_alike op x y
    unfolding is_alike
    alike-second h = rw (eq-eqb x 0 x0, ne_eqb y 0 h)

    module _ (y0 : y ≡ 0) where
      pub alike-equal : op ≡ 19 → true ≡ is_alike op x y
      unfolding is_alike
      alike-equal h = rw (eq-eqb x 0 x0, eq-eqb y 0 y0, eq-eqb op 19 h)

      pub alike-unequal : (op ≡ 19 → ⊥) → (b : Bool) → b ≡ eqb op 20 → b ≡ is_alike op x y
      unfolding is_alike
      alike-unequal h b e = rw (eq-eqb x 0 x0, eq-eqb y 0 y0, ne_eqb op 19 h) e

module _ (op : ℕ) (s : Bool) where
  pub agree-equal : op ≡ 19 → s ≡ agrees op s
  unfolding agrees
  agree-equal h = rw (eq-eqb op 19 h)

  module _ (h : op ≡ 19 → ⊥) where
    pub agree_same : s ≡ true → false ≡ agrees op s
    unfolding agrees
    agree_same e = rw (ne_eqb op 19 h, e)

    pub agree-other : s ≡ false → true ≡ agrees op s
    unfolding agrees
    agree-other e = rw (ne_eqb op 19 h, e)

-- the ways out of `texts_step`
module _ (op : ℕ) (st m : List ℕ) (n t : ℕ) (two : n + 2 ≤ length st) (ht : t ≤ length m) (wx wy : ℕ) where
  pub texts-short : t < wy → (st' : List ℕ) → Live None st' m (alike_on (length st) op wx wy (take n st) (take t m))
  unfolding alike_on
  texts-short h st' = live-stuck None st' m _ refl (rw (length-take-le t m ht, lt-ltb t wy h))

  module _ (up : wy ≤ t) where
    pub texts-shorter : t - wy < wx → (st' : List ℕ) → Live None st' m (alike_on (length st) op wx wy (take n st) (take t m))
    unfolding alike_on
    texts-shorter h st' = live-stuck None st' m _ refl (rw (length-take-le t m ht, le-ltb t wy up, lt-ltb (t - wy) wx h))

    pub texts-in : wx ≤ t - wy → (s : Bool) → s ≡ equal (take (t - wy - (t - wy - wx)) (drop (t - wy - wx) m)) (take (t - (t - wy)) (drop (t - wy) m))
        → (z : Bool) → z ≡ agrees op s → (q : Packed) → q ≡ pack (Test z) → (r : Reached) (st' : List ℕ)
        → landed r st' ≡ put_two st n (t - wy - wx) q.kind q.size → Live r st' m (alike_on (length st) op wx wy (take n st) (take t m))
    unfolding alike_on
    texts-in h s se z ze q qe r st' is =
        rw (
          length-take-le t m ht,
          le-ltb t wy up,
          le-ltb (t - wy) wx h,
          take-take (t - wy) t m (omega arith),
          take-take (t - wy - wx) t m (omega arith),
          drop-take (t - wy - wx) (t - wy) m,
          drop-take (t - wy) t m,
          ← se,
          ← ze,
        )
        (put-live st m n (t - wy - wx) (Test z) (omega (arith, two)) (omega (arith, ht)) r st'
        (is ∙ ap (λ (k : Packed). put_two st n (t - wy - wx) k.kind k.size) qe ∙ two-put st n (t - wy - wx) (Test z) two))

-- what the operation gives
told-texts : (vals : List (List ℕ)) (op : ℕ) (a b : List ℕ) → pick (eqb op 19) true (eqb op 20) ≡ true → operand (combined vals op (text a) (text b)) ≡ Test (agrees op (equal a b))
unfolding combined binary_by is_textual of_texts agrees
told-texts vals op a b h =
    split (eqb op 19)
    (λ e. let o : op ≡ 19 = eqb-true op 19 e in rw o (sym (does-equal 19 a b (λ z. omega (arith, z)) refl (equal a b) refl)))
    (λ e. let f : eqb op 20 ≡ true = rw e at h in
    let o : op ≡ 20 = eqb-true op 20 f in
    rw o (sym (does-differ 20 a b (λ z. omega (arith, z)) (λ z. omega (arith, z)) refl (equal a b) refl (not (equal a b)) refl)))

alike-on : (vals : List (List ℕ)) (op : ℕ) → pick (eqb op 19) true (eqb op 20) ≡ true → (depth wx wy : ℕ) (vs bs : List ℕ)
    → binary_on depth vals op (Text wx) (Text wy) vs bs ≡ alike_on depth op wx wy vs bs
unfolding binary_on alike_on put_below_on width value_of
alike-on vals op h depth wx wy vs bs =
    let base : ℕ = length bs - wy - wx in
    rw (told-texts vals op (drop base (take (length bs - wy) bs)) (drop (length bs - wy) bs) h, le-ltb (length bs - base) 0 (omega arith), add-zero base)

pub text-kind : (k m : ℕ) → k ≡ 0 → Text m ≡ unpacked k m
unfolding unpacked
text-kind k m e = rw e

-- the way out of `operator_step`
pub alike-step : (vals : List (List ℕ)) (op : ℕ) (st m : List ℕ) (n t : ℕ) → n ≤ length st → 4 ≤ n → (b : Bool) → b ≡ is_alike op (get_or st (n - 4) 0) (get_or st (n - 2) 0) → b ≡ true
    → (wx : ℕ) → wx ≡ get_or st (n - 3) 0 → (wy : ℕ) → wy ≡ get_or st (n - 1) 0 → (r : Reached) (st' : List ℕ)
    → Live r st' m (alike_on (length st) op wx wy (take (n - 4) st) (take t m)) → Live r st' m (binary_step (length st) vals op (take n st) (take t m))
unfolding is_alike
alike-step vals op st m n t hn four b be bt wx wxe wy wye r st' l =
    let p : (eqb (get_or st (n - 4) 0) 0 ≡ true) × (pick (eqb (get_or st (n - 2) 0) 0) (pick (eqb op 19) true (eqb op 20)) false ≡ true) = pick-both _ _ (sym be ∙ bt) in
    let q : (eqb (get_or st (n - 2) 0) 0 ≡ true) × (pick (eqb op 19) true (eqb op 20) ≡ true) = pick-both _ _ p.1 in
    binary-two (length st) vals op st m n t hn st' four (Text wy) (top-first st n hn four (Text wy) (ap Text wye ∙ text-kind _ _ (eqb-true _ _ q.0))) (Text wx)
    (top-second st n hn four (Text wx) (ap Text wxe ∙ text-kind _ _ (eqb-true _ _ p.0))) r (rw (alike-on vals op q.1 (length st) wx wy (take (n - 4) st) (take t m)) l)
