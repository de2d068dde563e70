-- Working definitions: literals that give their bytes as they stand, told by a test in blocks; and the ways out of the functions that make it.
-- Assumes nothing.
use Rattle.std.specs.Prelude.{Some, ◌≡◌, Bool, true, false, not, eqb, leb, ltb, length, get_or, take, drop}
use Rattle.std.proofs.Math.Path.{refl}
use Rattle.std.proofs.Common.{sym, ap, ◌∙◌, lt_of_le_of_lt, Fits, length-drop, get_or-drop, get_or-take, length-take-le}
use mathlib.Core.List.{List, [], ◌∷◌}
use Prim.Native.Nat.{ℕ, zero, suc, ◌+◌, ◌-◌, ◌≤◌, ◌<◌, ◌^◌}
use native.Mathlib.Omega.{arith}
use Rattle.std.specs.Int.{w64}
use borrow.Author.Tests.{lt-ltb, le-ltb, le-leb, lt-leb, eq-eqb, ne_eqb, eqb-true, leb-true, ltb-true, ltb-false}
use Rattle.text.specs.Choice.{pick, split, clash, bool_iff}
use Rattle.text.specs.Scan.{past, past_more, past_stop}
use Rattle.text.specs.All.{all, all-empty, all-fails, all-passes}
use Rattle.lexical.specs.Kind
use Rattle.lexical.specs.Unit.{barred}
use Rattle.lexical.specs.Working.Plain.{plain, bare_end}
use Rattle.lexical.specs.declared.token.Token.{Token}
use Rattle.limits.specs.Limits.{most_identifier}

-- not this byte
unfoldable pub other : ℕ → ℕ → Bool
other x b = not (eqb b x)

-- no control byte
unfoldable pub printed : ℕ → Bool
printed b = leb 32 b

-- neither backslash nor quote nor control byte
unfoldable pub clear : ℕ → Bool
clear b = pick (other 92 b) (pick (other 34 b) (printed b) false) false

-- what stands between the quotes of a literal from start to stop
abbrev pub inner : List ℕ → ℕ → ℕ → List ℕ
inner s start stop = take (stop - 1 - (start + 1)) (drop (start + 1) s)

-- are these 1 to 256 clear bytes, with a quote behind them?
unfoldable pub whole_at : List ℕ → ℕ → ℕ → Bool
whole_at s start stop =
    pick (ltb (length s) stop) false
    (pick (leb stop start) false
    (pick (ltb (stop - start) 3) false
    (pick (ltb (most_identifier + 2) (stop - start)) false (pick (eqb (get_or s (stop - 1) 0) 34) (all clear (inner s start stop)) false))))

-- is t such a literal?
unfoldable pub whole : List ℕ → Token → Bool
whole s t = pick (eqb t.kind Kind.LITERAL) (whole_at s t.start t.end) false

-- a loop over the n bytes from i on
module _ (p : ℕ → Bool) (s : List ℕ) (i : ℕ) where
  pub bytes-none : true ≡ all p (take 0 (drop i s))
  bytes-none = sym (all-empty p)

  pub bytes-done : (b : Bool) (j n : ℕ) → b ≡ all p (take j (drop i s)) → j ≤ n → n ≤ j → b ≡ all p (take n (drop i s))
  bytes-done b j n e l h = let z : j ≡ n = omega (arith, l, h) in rw (sym z) e

  module _ (n j : ℕ) (h : i + n ≤ length s) (l : j < n) where
    within : j < length (drop i s)
    within = rw (length-drop i s) (omega (arith, h, l))

    fails : p (get_or s (i + j) 0) ≡ false → false ≡ all p (take (j + 1) (drop i s))
    fails e = sym (all-fails p (drop i s) j within (rw (get_or-drop i s j 0) e))

    goes : p (get_or s (i + j) 0) ≡ true → all p (take j (drop i s)) ≡ all p (take (j + 1) (drop i s))
    goes e = sym (all-passes p (drop i s) j within (rw (get_or-drop i s j 0) e))

module _ (s : List ℕ) (i n j : ℕ) (h : i + n ≤ length s) (l : j < n) where
  -- `is_without`
  module _ (x : ℕ) where
    pub without-held : get_or s (i + j) 0 ≡ x → (f : Bool) → f ≡ false → f ≡ all (other x) (take (j + 1) (drop i s))
    unfolding other
    without-held y f e = e ∙ fails (other x) s i n j h l (rw (eq-eqb _ _ y))

    pub without_more : (get_or s (i + j) 0 ≡ x → ⊥) → (b f : Bool) → b ≡ all (other x) (take j (drop i s)) → f ≡ b → f ≡ all (other x) (take (j + 1) (drop i s))
    unfolding other
    without_more y b f e g = g ∙ e ∙ goes (other x) s i n j h l (rw (ne_eqb _ _ y))

  -- `is_printed`
  pub printed-not : get_or s (i + j) 0 < 32 → (f : Bool) → f ≡ false → f ≡ all printed (take (j + 1) (drop i s))
  unfolding printed
  printed-not y f e = e ∙ fails printed s i n j h l (lt-leb _ _ y)

  pub printed-more : 32 ≤ get_or s (i + j) 0 → (b f : Bool) → b ≡ all printed (take j (drop i s)) → f ≡ b → f ≡ all printed (take (j + 1) (drop i s))
  unfolding printed
  printed-more y b f e g = g ∙ e ∙ goes printed s i n j h l (le-leb _ _ y)

never : (t u : Bool) → pick t (pick u false false) false ≡ false
never true true = refl
never true false = refl
never false u = refl

-- the three tests of each byte are three tests of all
clear-all : (l : List ℕ) → pick (all (other 92) l) (pick (all (other 34) l) (all printed l) false) false ≡ all clear l
unfolding all clear
clear-all [] = refl
clear-all (x ∷ l) =
    split (other 92 x)
    (λ a. split (other 34 x)
    (λ b. split (printed x) (λ c. rw (a, b, c) (clear-all l)) (λ c. rw (a, b, c) (never (all (other 92) l) (all (other 34) l))))
    (λ b. rw (a, b) (never (all (other 92) l) true)))
    (λ a. rw a)

-- `is_clear`
module _ (l : List ℕ) (a : Bool) (ae : a ≡ all (other 92) l) where
  pub clear-slash : a ≡ false → false ≡ all clear l
  clear-slash n = rw (sym ae ∙ n) at (clear-all l)

  module _ (y : a ≡ true) (b : Bool) (be : b ≡ all (other 34) l) where
    pub clear-quote : b ≡ false → false ≡ all clear l
    clear-quote n = rw (sym ae ∙ y, sym be ∙ n) at (clear-all l)

    pub clear-rest : b ≡ true → (r : Bool) → r ≡ all printed l → r ≡ all clear l
    clear-rest z r re = re ∙ (rw (sym ae ∙ y, sym be ∙ z) at (clear-all l))

-- `is_clear_byte`
module _ (b : ℕ) where
  pub byte-slash : b ≡ 92 → false ≡ clear b
  unfolding clear other
  byte-slash h = rw (eq-eqb _ _ h)

  pub byte-quote : (b ≡ 92 → ⊥) → b ≡ 34 → false ≡ clear b
  unfolding clear other
  byte-quote n h = rw (ne_eqb _ _ n, eq-eqb _ _ h)

  pub byte-rest : (b ≡ 92 → ⊥) → (b ≡ 34 → ⊥) → (r : Bool) → r ≡ leb 32 b → r ≡ clear b
  unfolding clear other printed
  byte-rest n m r e = e ∙ rw (ne_eqb _ _ n, ne_eqb _ _ m)

-- each byte from i to e passes
abbrev Pass : (ℕ → Bool) → List ℕ → ℕ → ℕ → Type 0
Pass p s i e = (k : ℕ) → i ≤ k → k < e → p (get_or s k 0) ≡ true

module _ (p : ℕ → Bool) where
  all-at : (l : List ℕ) → all p l ≡ true → (j : ℕ) → j < length l → p (get_or l j 0) ≡ true
  unfolding all
  all-at [] h j u = let no : ⊥ = omega (arith, u) in absurd no
  all-at (x ∷ l) h zero u = split (p x) (λ e. e) (λ e. clash h (rw e))
  all-at (x ∷ l) h (suc j) u = split (p x) (λ e. all-at l (rw e at h) j (omega (arith, u))) (λ e. clash h (rw e))

  all_of : (l : List ℕ) → ((j : ℕ) → j < length l → p (get_or l j 0) ≡ true) → all p l ≡ true
  unfolding all
  all_of [] f = refl
  all_of (x ∷ l) f = rw (f 0 (omega arith)) (all_of l (λ j u. f (suc j) (omega (arith, u))))

  module _ (s : List ℕ) (i n : ℕ) (h : i + n ≤ length s) where
    size : length (take n (drop i s)) ≡ n
    size = length-take-le n (drop i s) (rw (length-drop i s) (omega (arith, h)))

    byte_at : (j : ℕ) → j < n → get_or (take n (drop i s)) j 0 ≡ get_or s (i + j) 0
    byte_at j l = get_or-take n (drop i s) j 0 l ∙ get_or-drop i s j 0

    pass : all p (take n (drop i s)) ≡ true → Pass p s i (i + n)
    pass e k a b =
        let z : i + (k - i) ≡ k = omega (arith, a) in
        let l : k - i < n = omega (arith, a, b) in
        ap (λ (x : ℕ). p (get_or s x 0)) (sym z) ∙ ap p (sym (byte_at (k - i) l)) ∙ all-at (take n (drop i s)) e (k - i) (omega (arith, l, size))

    passed : Pass p s i (i + n) → all p (take n (drop i s)) ≡ true
    passed f =
        all_of (take n (drop i s)) (λ j u. let l : j < n = omega (arith, u, size) in ap p (byte_at j l) ∙ f (i + j) (omega arith) (omega (arith, l)))

  -- the bytes from i to e, of which those to a passed: a test of some of them that reaches to e tells of all
  module _ (s : List ℕ) (i e a : ℕ) (il : i ≤ a) (al : a ≤ e) (el : e ≤ length s) (front : all p (take (a - i) (drop i s)) ≡ true) where
    before : Pass p s i a
    before k u v = pass s i (a - i) (omega (arith, il, al, el)) front k u (omega (arith, v, il))

    longer : (b n : ℕ) → b ≤ a → b + n ≤ length s → i ≤ b + n → all p (take n (drop b s)) ≡ true → all p (take (b + n - i) (drop i s)) ≡ true
    longer b n h l g t =
        passed s i (b + n - i) (omega (arith, l, g))
        (λ k u v. split (ltb k a) (λ q. before k u (ltb-true k a q)) (λ q. pass s b n l t k (omega (arith, h, ltb-false k a q)) (omega (arith, v, g))))

    shorter : (b n : ℕ) → i ≤ b → b + n ≤ e → all p (take (e - i) (drop i s)) ≡ true → all p (take n (drop b s)) ≡ true
    shorter b n g l t =
        passed s b n (omega (arith, l, el)) (λ k u v. pass s i (e - i) (omega (arith, il, al, el)) t k (omega (arith, g, u)) (omega (arith, l, v, il, al)))

    pub block_more : (n : ℕ) → n < e - a → (t : Bool) → t ≡ all p (take n (drop a s)) → t ≡ true → all p (take (a + n - i) (drop i s)) ≡ true
    block_more n h t te y = longer a n (omega arith) (omega (arith, h, el)) (omega (arith, il)) (sym te ∙ y)

    stops : (n : ℕ) → n ≤ e - a → (t : Bool) → t ≡ all p (take n (drop a s)) → t ≡ false → false ≡ all p (take (e - i) (drop i s))
    stops n h t te y = split (all p (take (e - i) (drop i s))) (λ q. clash (shorter a n il (omega (arith, h, al)) q) (sym te ∙ y)) (λ q. sym q)

    pub block-stops : (n : ℕ) → n < e - a → (t : Bool) → t ≡ all p (take n (drop a s)) → t ≡ false → false ≡ all p (take (e - i) (drop i s))
    block-stops n h t te y = stops n (omega (arith, h)) t te y

    pub block_last : (n : ℕ) → i + n ≤ e → e - a ≤ n → (r : Bool) → r ≡ all p (take n (drop (e - n) s)) → r ≡ all p (take (e - i) (drop i s))
    block_last n g h r re =
        let z : e - n + n ≡ e = omega (arith, g) in
        re ∙ bool_iff _ _
        (λ t. let w : all p (take (e - n + n - i) (drop i s)) ≡ true = longer (e - n) n (omega (arith, h)) (omega (arith, z, el)) (omega (arith, z, il, al)) t in rw z at w)
        (λ t. shorter (e - n) n (omega (arith, g)) (omega (arith, z)) t)

    pub byte_more : a < e → (t : Bool) → t ≡ p (get_or s a 0) → t ≡ true → all p (take (a + 1 - i) (drop i s)) ≡ true
    byte_more h t te y =
        passed s i (a + 1 - i) (omega (arith, h, el, il))
        (λ k u v. split (ltb k a) (λ q. before k u (ltb-true k a q)) (λ q. let z : k ≡ a = omega (arith, v, il, ltb-false k a q) in rw z (sym te ∙ y)))

    pub byte-stops : a < e → (t : Bool) → t ≡ p (get_or s a 0) → t ≡ false → false ≡ all p (take (e - i) (drop i s))
    byte-stops h t te y =
        split (all p (take (e - i) (drop i s)))
        (λ q. clash (pass s i (e - i) (omega (arith, il, al, el)) q a il (omega (arith, h, il))) (sym te ∙ y)) (λ q. sym q)

    pub byte_last : e ≤ a → true ≡ all p (take (e - i) (drop i s))
    byte_last h = let z : a ≡ e = omega (arith, h, al) in sym (rw z at front)

  pub bytes-start : (s : List ℕ) (i : ℕ) → all p (take (i - i) (drop i s)) ≡ true
  unfolding all
  bytes-start s i = let z : i - i ≡ 0 = omega arith in rw z

  -- two blocks, at the beginning and at the end
  module _ (s : List ℕ) (i e n : ℕ) (il : i ≤ e) (el : e ≤ length s) (h : n ≤ e - i) (t : Bool) (te : t ≡ all p (take n (drop i s))) where
    pub pair-stops : t ≡ false → false ≡ all p (take (e - i) (drop i s))
    pair-stops y = stops s i e i (omega arith) il el (bytes-start s i) n h t te y

    pub pair-last : e - i < n + n → t ≡ true → (r : Bool) → r ≡ all p (take n (drop (e - n) s)) → r ≡ all p (take (e - i) (drop i s))
    pair-last g y r re =
        let z : i + n - i ≡ n = omega arith in
        block_last s i e (i + n) (omega arith) (omega (arith, h, il)) el (rw z (sym te ∙ y)) n (omega (arith, h, il)) (omega (arith, g)) r re

-- `is_whole`
module _ (s : List ℕ) (t : Token) where
  pub whole-other : (t.kind ≡ Kind.LITERAL → ⊥) → false ≡ whole s t
  unfolding whole
  whole-other h = rw (ne_eqb _ _ h)

  module _ (k : t.kind ≡ Kind.LITERAL) where
    pub whole_out : length s < t.end → false ≡ whole s t
    unfolding whole whole_at
    whole_out h = rw (eq-eqb _ _ k, lt-ltb _ _ h)

    module _ (l : t.end ≤ length s) where
      pub whole_back : t.end ≤ t.start → false ≡ whole s t
      unfolding whole whole_at
      whole_back h = rw (eq-eqb _ _ k, le-ltb _ _ l, le-leb _ _ h)

      module _ (m : t.start < t.end) where
        pub whole-few : t.end - t.start < 3 → false ≡ whole s t
        unfolding whole whole_at
        whole-few h = rw (eq-eqb _ _ k, le-ltb _ _ l, lt-leb _ _ m, lt-ltb _ _ h)

        module _ (n : 3 ≤ t.end - t.start) where
          pub whole-many : 258 < t.end - t.start → false ≡ whole s t
          unfolding whole whole_at
          whole-many h = rw (eq-eqb _ _ k, le-ltb _ _ l, lt-leb _ _ m, le-ltb _ _ n, lt-ltb 258 (t.end - t.start) h)

          module _ (o : t.end - t.start ≤ 258) where
            pub whole_open : (get_or s (t.end - 1) 0 ≡ 34 → ⊥) → false ≡ whole s t
            unfolding whole whole_at
            whole_open h = rw (eq-eqb _ _ k, le-ltb _ _ l, lt-leb _ _ m, le-ltb _ _ n, le-ltb 258 (t.end - t.start) o, ne_eqb _ _ h)

            pub whole-closed : get_or s (t.end - 1) 0 ≡ 34 → (r : Bool) → r ≡ all clear (inner s t.start t.end) → r ≡ whole s t
            unfolding whole whole_at
            whole-closed h r e = e ∙ rw (eq-eqb _ _ k, le-ltb _ _ l, lt-leb _ _ m, le-ltb _ _ n, le-ltb 258 (t.end - t.start) o, eq-eqb _ _ h)

clear-plain : (b : ℕ) → clear b ≡ true → plain b ≡ true
unfolding clear other printed plain barred
clear-plain b h =
    split (eqb b 92) (λ a. clash h (rw a))
    (λ a. split (eqb b 34) (λ q. clash h (rw (a, q)))
    (λ q.
    let l : 32 ≤ b = leb-true 32 b (rw (a, q) at h) in
    simp (
      a,
      q,
      ne_eqb b 0 (λ z. let no : ⊥ = omega (arith, l, z) in no),
      ne_eqb b 10 (λ z. let no : ⊥ = omega (arith, l, z) in no),
      ne_eqb b 13 (λ z. let no : ⊥ = omega (arith, l, z) in no),
    )))

-- a run goes on to the first byte that does not pass
reach : (p : ℕ → Bool) (s : List ℕ) (n i e : ℕ) → i + n ≡ e → e < length s → Pass p s i e → p (get_or s e 0) ≡ false → past p s i ≡ e
reach p s zero i e z l f h = let w : i ≡ e = omega (arith, z) in rw w (past_stop p s e l h)
reach p s (suc n) i e z l f h =
    past_more p s i (omega (arith, z, l)) (f i (omega arith) (omega (arith, z)))
    ∙ reach p s n (i + 1) e (omega (arith, z)) l (λ k a b. f k (omega (arith, a)) b) h

-- such a literal
pub record Whole (s : List ℕ) (t : Token) : Type 0 where
  pub literal : t.kind ≡ Kind.LITERAL
  pub in_text : t.end ≤ length s
  pub some : 3 ≤ t.end - t.start
  pub few : t.end - t.start ≤ 258
  pub closed : bare_end s t.start ≡ Some (t.end - 1)

closes : (s : List ℕ) (start stop : ℕ) → stop ≤ length s → 3 ≤ stop - start → get_or s (stop - 1) 0 ≡ 34 → all clear (inner s start stop) ≡ true → bare_end s start ≡ Some (stop - 1)
unfolding bare_end plain
closes s start stop l n q h =
    let z : start + 1 + (stop - 1 - (start + 1)) ≡ stop - 1 = omega (arith, n) in
    let f : Pass clear s (start + 1) (stop - 1) = rw z at (pass clear s (start + 1) (stop - 1 - (start + 1)) (omega (arith, z, l)) h) in
    let r : past plain s (start + 1) ≡ stop - 1 =
    reach plain s (stop - 1 - (start + 1)) (start + 1) (stop - 1) z (omega (arith, l, n)) (λ k a b. clear-plain (get_or s k 0) (f k a b)) (rw (q)) in
    rw (r, eq-eqb _ _ q)

pub whole_is : (s : List ℕ) (t : Token) → whole s t ≡ true → Whole s t
unfolding whole whole_at
whole_is s t h =
    split (eqb t.kind Kind.LITERAL)
    (λ k. split (ltb (length s) t.end) (λ a. clash h (rw (k, a)))
    (λ a. split (leb t.end t.start) (λ b. clash h (rw (k, a, b)))
    (λ b. split (ltb (t.end - t.start) 3) (λ c. clash h (rw (k, a, b, c)))
    (λ c. split (ltb 258 (t.end - t.start)) (λ d. clash h (rw (k, a, b, c, d)))
    (λ d. split (eqb (get_or s (t.end - 1) 0) 34)
    (λ q.
    let g : all clear (inner s t.start t.end) ≡ true = rw (k, a, b, c, d, q) at h in
    record {
      literal = eqb-true _ _ k;
      in_text = ltb-false _ _ a;
      some = ltb-false _ _ c;
      few = ltb-false _ _ d;
      closed = closes s t.start t.end (ltb-false _ _ a) (ltb-false _ _ c) (eqb-true _ _ q) g;
    })
    (λ q. clash h (rw (k, a, b, c, d, q))))))))
    (λ k. clash h (rw k))

-- what stands between its quotes is a part of the text
module _ (s : List ℕ) (t : Token) (w : Bool) (we : w ≡ whole s t) (y : w ≡ true) where
  is : Whole s t
  is = whole_is s t (sym we ∙ y)

  pub whole-some : 1 ≤ t.end
  whole-some = omega (arith, is.some)

  pub whole-fits : length s < 2 ^ 64 → Fits w64 (t.start + 1)
  whole-fits l = let k : t.start + 1 ≤ length s = omega (arith, is.some, is.in_text) in record { fits = lt_of_le_of_lt k l }

  pub whole_from : t.start + 1 ≤ t.end - 1
  whole_from = omega (arith, is.some)

  pub whole-within : t.end - 1 ≤ length s
  whole-within = omega (arith, is.in_text)
