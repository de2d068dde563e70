-- Steps on operands without bytes, by their numbers alone: the ways out of the functions that take them. Assumes nothing.
use Rattle.std.specs.Prelude.{◌≡◌, refl, true, ℕ, suc, ◌+◌, ◌-◌, ◌≤◌, max, leb, ltb, get_or, drop, set}
use Rattle.std.proofs.Common.{sym, ◌∙◌, take-suc}
use Rattle.std.proofs.Math.Path.{ap}
use Rattle.std.proofs.Math.Bool.{Bool, false}
use mathlib.Core.List.{List, [], ◌∷◌, ◌++◌, map, append_assoc, append-nil}
use native.Mathlib.Omega.{arith}
use Rattle.std.proofs.Math.Nat.{add-zero}
use Rattle.std.proofs.Math.Dec.{eqb}
use Rattle.std.proofs.Math.ListN.{length, take}
use Rattle.std.proofs.lemmas.List.{length-map}
use Rattle.std.proofs.Math.Seq.{length-take-le, take-length}
use borrow.Author.Tests.{le-ltb, le-leb, lt-leb, eq-eqb, ne_eqb, eqb-true, ltb-false, leb-true}
use Rattle.text.specs.Choice.{pick, split, clash}
use Rattle.text.specs.Counted.{counted}
use Rattle.text.specs.Decimal.{integer as signed}
use Rattle.text.specs.declared.Integer.{Integer}
use Rattle.expression.specs.Value.{integer, test, rank, operand, bytes_of}
use Rattle.expression.specs.Operands.{kind_of, size_of, pack, unpacked, width, value_of, rank_in}
use Rattle.expression.specs.Working.Numbered.{arithmetic, logical, of_integers, of_tests, is_textual, binary_by}
use Rattle.expression.specs.Conditions.{gate, top}
use Rattle.expression.specs.Working.Clauses.{applied, combined}
use Rattle.expression.specs.declared.value.Operand.{Operand}
use Rattle.expression.specs.declared.value.Operand.TheVariants.{Number, Test, Rank}
use Rattle.expression.specs.declared.value.Packed.{Packed}
use Rattle.machine.specs.Working.Machine.{placed, top_of, unary_on, unary_step, put_below_on, binary_on, binary_step, raised}
use Rattle.machine.specs.Working.Live.{tops, Reached, Live, Landed, landed, put_at}
use Rattle.machine.specs.Working.Widths.{front-combined}
use Rattle.machine.specs.Working.Stacking.{pair, width_is, place_is, binary-is}
use Rattle.machine.specs.Working.Stepping.{put-live, top-some, below-is, binary-two}

-- two numbers put on a stack that has room
unfoldable pub put_two : List ℕ → ℕ → ℕ → ℕ → ℕ → Landed
put_two st n t k m = landed (tops (n + 2) t) (set (set st n k) (n + 1) m)

-- an operation on integers, and the kinds of integers without a sign
unfoldable pub is_integral : ℕ → Bool
is_integral op = pick (ltb op 13) false (pick (leb op 18) true (pick (ltb op 26) false (leb op 31)))

unfoldable pub is_natural : ℕ → ℕ → ℕ → Bool
is_natural op x y = pick (eqb x 1) (pick (eqb y 1) (is_integral op) false) false

-- "&&" or "||", and the kinds of tests
unfoldable pub is_told : ℕ → Bool
is_told k = pick (eqb k 3) true (eqb k 4)

unfoldable pub is_logical : ℕ → ℕ → ℕ → Bool
is_logical op x y = pick (ltb op 41) false (pick (ltb 42 op) false (pick (is_told x) (is_told y) false))

unfoldable pub decides : ℕ → Bool → Bool → Bool
decides op x y = pick (eqb op 41) (pick x y false) (pick x true y)

-- the ways out of `is_logical`, `decided` and `rank_told`
module _ (op x y : ℕ) (low : 41 ≤ op) (high : op ≤ 42) (a : Bool) (ae : a ≡ is_told x) where
  pub logical-both : a ≡ true → (b : Bool) → b ≡ is_told y → b ≡ is_logical op x y
  unfolding is_logical
  logical-both at b be = rw (le-ltb op 41 low, le-ltb 42 op high, ← ae, at) be

  pub logical-none : a ≡ false → false ≡ is_logical op x y
  unfolding is_logical
  logical-none af = rw (le-ltb op 41 low, le-ltb 42 op high, ← ae, af)

module _ (op : ℕ) (x y : Bool) where
  module _ (h : op ≡ 41) where
    pub both-second : x ≡ true → y ≡ decides op x y
    unfolding decides
    both-second e = rw (h, e)

    pub both_false : x ≡ false → false ≡ decides op x y
    unfolding decides
    both_false e = rw (h, e)

  module _ (h : op ≡ 41 → ⊥) where
    pub either_true : x ≡ true → true ≡ decides op x y
    unfolding decides
    either_true e = rw (ne_eqb op 41 h, e)

    pub either_second : x ≡ false → y ≡ decides op x y
    unfolding decides
    either_second e = rw (ne_eqb op 41 h, e)

pub rank-held : (k n : ℕ) → k ≡ 4 → (m : ℕ) → m ≡ n → m ≡ pick (eqb k 4) n 0
rank-held k n h m e = rw (eq-eqb k 4 h) e

pub rank-unheld : (k n : ℕ) → (k ≡ 4 → ⊥) → 0 ≡ pick (eqb k 4) n 0
rank-unheld k n h = rw (ne_eqb k 4 h)

-- the way out of `land`
pub land-in : (st : List ℕ) (n t k m : ℕ) → landed (tops (n + 2) t) (set (set st n k) (n + 1) m) ≡ put_two st n t k m
unfolding put_two
land-in st n t k m = refl

pub two-put : (st : List ℕ) (n t : ℕ) (v : Operand) → n + 2 ≤ length st → put_two st n t (kind_of v) (size_of v) ≡ put_at st n t v
unfolding put_two put_at
two-put st n t v h = rw (le-ltb (length st) n (omega (arith, h)), le-ltb (length st - n) 2 (omega (arith, h)))

-- an operand without bytes
pub data Still : Operand → Type 0 where
  still-number : (b : Bool) (m : ℕ) → Still (Number b m)
  still-test : (t : Bool) → Still (Test t)
  still-rank : (m : ℕ) → Still (Rank m)

still-width : (x : Operand) → Still x → width x ≡ 0
unfolding width
still-width _ (still-number b m) = refl
still-width _ (still-test t) = refl
still-width _ (still-rank m) = refl

still-value : (x : Operand) → Still x → (a : List ℕ) → value_of x a ≡ value_of x []
unfolding value_of
still-value _ (still-number b m) a = refl
still-value _ (still-test t) a = refl
still-value _ (still-rank m) a = refl

still-bytes : (x : Operand) → Still x → bytes_of (value_of x []) ≡ []
unfolding value_of bytes_of
still-bytes _ (still-number b m) = refl
still-bytes _ (still-test t) = refl
still-bytes _ (still-rank m) = refl

module _ (vals : List (List ℕ)) (op : ℕ) (x y : Operand) (sx : Still x) (sy : Still y) where
  abbrev made : Operand
  made = operand (combined vals op (value_of x []) (value_of y []))

  made-width : width made ≡ 0
  made-width =
      let f : length (bytes_of (combined vals op (value_of x []) (value_of y []))) ≤ length (bytes_of (value_of x []) ++ bytes_of (value_of y [])) = (front-combined vals op (value_of x []) (value_of y [])).fits in
      let e : length (bytes_of (value_of x []) ++ bytes_of (value_of y [])) ≡ 0 = rw (still-bytes x sx, still-bytes y sy) in
      width_is (combined vals op (value_of x []) (value_of y [])) ∙ omega (arith, f, e)

  on-still : (depth : ℕ) (vs bs : List ℕ) → binary_on depth vals op x y vs bs ≡ placed depth vs bs made
  unfolding binary_on put_below_on
  on-still depth vs bs =
      let a : length bs - 0 ≡ length bs = omega arith in
      rw (
        still-width x sx,
        still-width y sy,
        a,
        a,
        still-value x sx (drop (length bs) (take (length bs) bs)),
        still-value y sy (drop (length bs) bs),
        made-width,
        le-ltb (length bs) 0 (omega arith),
        le-ltb (length bs - length bs) 0 (omega arith),
        add-zero (length bs),
        take-length bs,
      )

  module _ (st m : List ℕ) (n t : ℕ) (hn : n ≤ length st) (ht : t ≤ length m) (four : 4 ≤ n) (xe : x ≡ top_of (take (n - 2) st)) (ye : y ≡ top_of (take n st))
      (v : Operand) (ve : v ≡ made) (r : Reached) (st' : List ℕ) (is : landed r st' ≡ put_two st (n - 4) t (kind_of v) (size_of v)) where
    still-live : Live r st' m (binary_step (length st) vals op (take n st) (take t m))
    still-live =
        binary-two (length st) vals op st m n t hn st' four y ye x xe r
        (rw (on-still (length st) (take (n - 4) st) (take t m), ← ve) (put-live st m (n - 4) t v (omega (arith, hn)) ht r st' (is ∙ two-put st (n - 4) t v (omega (arith, four, hn)))))

-- the operand of two numbers
natural-kind : (k m : ℕ) → k ≡ 1 → Number false m ≡ unpacked k m
unfolding unpacked
natural-kind k m e = rw e

rank-kind : (k m : ℕ) → k ≡ 5 → Rank m ≡ unpacked k m
unfolding unpacked
rank-kind k m e = rw e

told-kind : (k m : ℕ) → is_told k ≡ true → Test (eqb k 4) ≡ unpacked k m
unfolding unpacked is_told
told-kind k m h =
    split (eqb k 3)
    (λ e. let z : k ≡ 3 = eqb-true k 3 e in rw z)
    (λ e. let f : eqb k 4 ≡ true = rw e at h in let z : k ≡ 4 = eqb-true k 4 f in rw z)

module _ (st : List ℕ) (n : ℕ) (hn : n ≤ length st) (four : 4 ≤ n) where
  pub top-first : (x : Operand) → x ≡ unpacked (get_or st (n - 2) 0) (get_or st (n - 1) 0) → x ≡ top_of (take n st)
  top-first x e = top-some st n hn (omega (arith, four)) x e

  pub top-second : (x : Operand) → x ≡ unpacked (get_or st (n - 4) 0) (get_or st (n - 3) 0) → x ≡ top_of (take (n - 2) st)
  top-second x e =
      let a : n - 4 ≡ n - 2 - 2 = omega (arith, four) in
      let b : n - 3 ≡ n - 2 - 1 = omega (arith, four) in
      top-some st (n - 2) (omega (arith, hn)) (omega (arith, four)) x (rw (a, b) at e)

pub pick-both : (a b : Bool) → pick a b false ≡ true → (a ≡ true) × (b ≡ true)
pick-both true b h = (refl, h)
pick-both false b h = clash h refl

pick-neither : (a b : Bool) → pick a false b ≡ true → (a ≡ false) × (b ≡ true)
pick-neither true b h = clash h refl
pick-neither false b h = (refl, h)

-- what the operations give
integral-is : (vals : List (List ℕ)) (op : ℕ) (a b : Integer) → is_integral op ≡ true → combined vals op (integer a) (integer b) ≡ arithmetic op a b
unfolding combined binary_by is_textual of_integers is_integral
integral-is vals op a b h =
    let p : (ltb op 13 ≡ false) × (pick (leb op 18) true (pick (ltb op 26) false (leb op 31)) ≡ true) = pick-neither _ _ h in
    let low : 13 ≤ op = ltb-false op 13 p.0 in
    split (leb op 18)
    (λ e. let high : op ≤ 18 = leb-true op 18 e in
    rw (le-leb op 42 (omega (arith, high)), ne_eqb op 12 (λ z. omega (arith, low, z)), e, le-leb op 31 (omega (arith, high))))
    (λ e. let q : (ltb op 26 ≡ false) × (leb op 31 ≡ true) = pick-neither _ _ (rw e at p.1) in
    let up : 26 ≤ op = ltb-false op 26 q.0 in
    let high : op ≤ 31 = leb-true op 31 q.1 in
    rw (le-leb op 42 (omega (arith, high)), ne_eqb op 12 (λ z. omega (arith, low, z)), e, lt-leb op 25 (omega (arith, up)), q.1))

logical-is : (vals : List (List ℕ)) (op : ℕ) (s u : Bool) → ltb op 41 ≡ false → ltb 42 op ≡ false → combined vals op (test s) (test u) ≡ test (decides op s u)
unfolding combined binary_by is_textual of_tests logical decides
logical-is vals op s u f g =
    let low : 41 ≤ op = ltb-false op 41 f in
    let high : op ≤ 42 = ltb-false 42 op g in
    rw (le-leb op 42 high, ne_eqb op 12 (λ z. omega (arith, low, z)), lt-leb op 18 (omega (arith, low)), lt-leb op 25 (omega (arith, low)), lt-leb op 31 (omega (arith, low)), lt-leb op 40 (omega (arith, low)))
    (split (eqb op 41) (λ e. rw e (both s)) (λ e. rw e (either s)))
  where
    both : (s : Bool) → pick s (test u) (test false) ≡ test (pick s u false)
    both true = refl
    both false = refl

    either : (s : Bool) → pick s (test true) (test u) ≡ test (pick s true u)
    either true = refl
    either false = refl

raise-pairs : (vals : List (List ℕ)) (depth : ℕ) (vs bs : List ℕ) → length vs + 2 ≤ depth → (a b : ℕ)
    → binary_step depth vals 47 ((vs ++ (5 ∷ a ∷ [])) ++ (5 ∷ b ∷ [])) bs ≡ placed depth vs bs (Rank (max a b))
unfolding pair bytes_of operand kind_of size_of combined rank_in
raise-pairs vals depth vs bs h a b =
    ap (λ (l : List ℕ). binary_step depth vals 47 ((vs ++ pair (rank a)) ++ pair (rank b)) l) (sym (append-nil (bs ++ []) ∙ append-nil bs))
    ∙ binary-is depth vs h vals 47 bs (rank a) (rank b) tt tt ∙ sym (place_is depth vs h bs (rank (max a b)) refl)

-- the quick ways out of `operator_step` and `raise_step`
module _ (vals : List (List ℕ)) (op : ℕ) (st m : List ℕ) (n t : ℕ) (hn : n ≤ length st) (ht : t ≤ length m) (four : 4 ≤ n) (r : Reached) (st' : List ℕ) where
  pub natural-step : (b : Bool) → b ≡ is_natural op (get_or st (n - 4) 0) (get_or st (n - 2) 0) → b ≡ true
      → (q : Packed) → q ≡ pack (operand (arithmetic op (signed false (get_or st (n - 3) 0)) (signed false (get_or st (n - 1) 0))))
      → landed r st' ≡ put_two st (n - 4) t q.kind q.size → Live r st' m (binary_step (length st) vals op (take n st) (take t m))
  unfolding is_natural value_of
  natural-step b be bt q qe is =
      let p : (eqb (get_or st (n - 4) 0) 1 ≡ true) × (pick (eqb (get_or st (n - 2) 0) 1) (is_integral op) false ≡ true) = pick-both _ _ (sym be ∙ bt) in
      let p' : (eqb (get_or st (n - 2) 0) 1 ≡ true) × (is_integral op ≡ true) = pick-both _ _ p.1 in
      still-live vals op (Number false (get_or st (n - 3) 0)) (Number false (get_or st (n - 1) 0)) (still-number false _) (still-number false _) st m n t hn ht four
      (top-second st n hn four _ (natural-kind _ _ (eqb-true _ _ p.0))) (top-first st n hn four _ (natural-kind _ _ (eqb-true _ _ p'.0)))
      (operand (arithmetic op (signed false (get_or st (n - 3) 0)) (signed false (get_or st (n - 1) 0)))) (ap operand (sym (integral-is vals op _ _ p'.1))) r st'
      (is ∙ ap (λ (k : Packed). put_two st (n - 4) t k.kind k.size) qe)

  pub logical-step : (b : Bool) → b ≡ is_logical op (get_or st (n - 4) 0) (get_or st (n - 2) 0) → b ≡ true
      → (x : Bool) → x ≡ eqb (get_or st (n - 4) 0) 4 → (y : Bool) → y ≡ eqb (get_or st (n - 2) 0) 4 → (h : Bool) → h ≡ decides op x y → (q : Packed) → q ≡ pack (Test h)
      → landed r st' ≡ put_two st (n - 4) t q.kind q.size → Live r st' m (binary_step (length st) vals op (take n st) (take t m))
  unfolding is_logical value_of operand
  logical-step b be bt x xe y ye h he q qe is =
      let p : (ltb op 41 ≡ false) × (pick (ltb 42 op) false (pick (is_told (get_or st (n - 4) 0)) (is_told (get_or st (n - 2) 0)) false) ≡ true) = pick-neither _ _ (sym be ∙ bt) in
      let p' : (ltb 42 op ≡ false) × (pick (is_told (get_or st (n - 4) 0)) (is_told (get_or st (n - 2) 0)) false ≡ true) = pick-neither _ _ p.1 in
      let p'' : (is_told (get_or st (n - 4) 0) ≡ true) × (is_told (get_or st (n - 2) 0) ≡ true) = pick-both _ _ p'.1 in
      still-live vals op (Test x) (Test y) (still-test x) (still-test y) st m n t hn ht four
      (top-second st n hn four _ (ap Test xe ∙ told-kind _ _ p''.0)) (top-first st n hn four _ (ap Test ye ∙ told-kind _ _ p''.1))
      (Test h) (ap Test he ∙ ap operand (sym (logical-is vals op x y p.0 p'.0))) r st'
      (is ∙ ap (λ (k : Packed). put_two st (n - 4) t k.kind k.size) qe)

module _ (vals : List (List ℕ)) (st m : List ℕ) (n t : ℕ) (hn : n ≤ length st) (ht : t ≤ length m) (four : 4 ≤ n) (r : Reached) (st' : List ℕ) where
  pub raise-quick : get_or st (n - 4) 0 ≡ 5 → get_or st (n - 2) 0 ≡ 5 → (g : ℕ) → g ≡ max (get_or st (n - 3) 0) (get_or st (n - 1) 0)
      → landed r st' ≡ put_two st (n - 4) t 5 g → Live r st' m (binary_step (length st) vals 47 (take n st) (take t m))
  unfolding value_of operand combined rank_in kind_of size_of
  raise-quick kx ky g ge is =
      still-live vals 47 (Rank (get_or st (n - 3) 0)) (Rank (get_or st (n - 1) 0)) (still-rank _) (still-rank _) st m n t hn ht four
      (top-second st n hn four _ (rank-kind _ _ kx)) (top-first st n hn four _ (rank-kind _ _ ky)) (Rank g) (ap Rank ge) r st' is

  -- the quick way out of `plain_step`
  two-more : take (n - 2) st ≡ take (n - 4) st ++ (get_or st (n - 4) 0 ∷ get_or st (n - 3) 0 ∷ [])
  two-more =
      let a : n - 2 ≡ suc (n - 3) = omega (arith, four) in
      let b : n - 3 ≡ suc (n - 4) = omega (arith, four) in
      ap (λ (k : ℕ). take k st) a ∙ take-suc st (n - 3) 0 (omega (arith, hn, four))
      ∙ ap (λ (k : List ℕ). k ++ (get_or st (n - 3) 0 ∷ [])) (ap (λ (k : ℕ). take k st) b ∙ take-suc st (n - 4) 0 (omega (arith, hn, four)))
      ∙ append_assoc (take (n - 4) st) (get_or st (n - 4) 0 ∷ []) (get_or st (n - 3) 0 ∷ [])

  told-unary : (u : Bool) → Test u ≡ top_of (take n st) → unary_step (length st) vals 44 (take n st) (take t m) ≡ placed (length st) (take (n - 2) st) (take t m) (operand (rank (gate (test u) (top vals))))
  unfolding unary_step unary_on width applied value_of
  told-unary u e =
      let a : t - 0 ≡ t = omega arith in
      rw (length-take-le n st hn, le-ltb n 2 (omega (arith, four)), ← e, below-is st n hn (omega (arith, four)), length-take-le t m ht, le-ltb t 0 (omega arith), a)
      (ap (λ (k : List ℕ). placed (length st) (take (n - 2) st) k (operand (rank (gate (test u) (top vals))))) (ap (λ (k : ℕ). take k (take t m)) (sym (length-take-le t m ht)) ∙ take-length (take t m)))

  quick-plain : get_or st (n - 4) 0 ≡ 5 → (b : Bool) → b ≡ is_told (get_or st (n - 2) 0) → b ≡ true → (g : ℕ) → g ≡ pick (eqb (get_or st (n - 2) 0) 4) (length vals - 1) 0
      → (k : ℕ) → k ≡ max (get_or st (n - 3) 0) g → landed r st' ≡ put_two st (n - 4) t 5 k → Live r st' m (raised (length st) vals (unary_step (length st) vals 44 (take n st) (take t m)))
  unfolding raised operand placed top kind_of size_of
  quick-plain kx b be bt g ge k ke is =
      let u : Bool = eqb (get_or st (n - 2) 0) 4 in
      let tu : Test u ≡ top_of (take n st) = top-first st n hn four (Test u) (told-kind _ _ (sym be ∙ bt)) in
      rw (
        told-unary u tu,
        length-take-le (n - 2) st (omega (arith, hn)),
        le-ltb (length st - (n - 2)) 2 (omega (arith, hn, four)),
        two-more,
        kx,
        ← ge,
        raise-pairs vals (length st) (take (n - 4) st) (take t m) (rw (length-take-le (n - 4) st (omega (arith, hn))) (omega (arith, hn, four))) (get_or st (n - 3) 0) g,
        ← ke,
      )
      (put-live st m (n - 4) t (Rank k) (omega (arith, hn)) ht r st' (is ∙ two-put st (n - 4) t (Rank k) (omega (arith, four, hn))))

pub plain-quick : (rec values st m : List ℕ) (n t : ℕ) → n ≤ length st → t ≤ length m → 4 ≤ n → (r : Reached) (st' : List ℕ) → get_or st (n - 4) 0 ≡ 5
    → (b : Bool) → b ≡ is_told (get_or st (n - 2) 0) → b ≡ true → (g : ℕ) → g ≡ pick (eqb (get_or st (n - 2) 0) 4) (length values - 1) 0
    → (k : ℕ) → k ≡ max (get_or st (n - 3) 0) g → landed r st' ≡ put_two st (n - 4) t 5 k
    → Live r st' m (raised (length st) (map (counted rec) values) (unary_step (length st) (map (counted rec) values) 44 (take n st) (take t m)))
plain-quick rec values st m n t hn ht four r st' kx b be bt g ge k ke is =
    quick-plain (map (counted rec) values) st m n t hn ht four r st' kx b be bt g
    (ge ∙ ap (λ (j : ℕ). pick (eqb (get_or st (n - 2) 0) 4) (j - 1) 0) (sym (length-map values (counted rec)))) k ke is
