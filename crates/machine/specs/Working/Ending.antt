-- Working laws: the entries that are passed by once a program has the highest rank, and the ways out of the functions that find them. Assumes nothing.
use Rattle.std.specs.Prelude.{◌≡◌, refl, Bool, true, false, List, [], ◌∷◌, ◌++◌, ℕ, suc, ◌+◌, ◌-◌, ◌/◌, ◌<◌, ◌≤◌, eqb, leb, length, get_or, take, drop}
use Rattle.std.proofs.Math.Path.{sym, ap}
use Rattle.std.proofs.Common.{◌∙◌, append_assoc, add-one, drop_of_length-le, length-append, drop-cons, length-take-le}
use native.Mathlib.Omega.{arith}
use Rattle.std.proofs.Math.Seq.{get_or-take}
use borrow.Author.Tests.{le-leb, lt-leb, lt-ltb, le-ltb, eq-eqb, ne_eqb}
use Rattle.text.specs.Choice.{pick, split}
use Rattle.syntax.specs.Expr.{Expr, Program, none, also, Clause, plain, valued, nested}
use Rattle.syntax.specs.Operation.{unary_number, binary_number}
use Rattle.syntax.specs.Theorems.Numbers.{unary-between, binary-between}
use Rattle.syntax.specs.Code.{entry, Codes, code-literal, code-name, code-number, code-true, code-false, code-decimal, code-unary, code-binary, ProgramCodes, code-none, code-also, ClauseCodes, code-plain, code-valued, code-nested}
use Rattle.machine.specs.Working.Machine.{is_false, go_on, is_highest, closing, begun, ended, needless}
use Rattle.machine.specs.Working.Passing.{entry-op, on-shift}

-- code that is passed by from k programs to k'
abbrev Across : ℕ → ℕ → List ℕ → Type 0
Across k k' c = (j : ℕ) (rest : List ℕ) → ended k j (c ++ rest) ≡ ended k' (j + length c) rest

across : (k l n : ℕ) (c d : List ℕ) → Across k l c → Across l n d → Across k n (c ++ d)
across k l n c d p q j rest =
    let z : j + length c + length d ≡ j + length (c ++ d) = rw (length-append c d) (omega arith) in
    ap (ended k j) (append_assoc c d rest) ∙ p j (d ++ rest) ∙ q (j + length c) rest ∙ ap (λ (x : ℕ). ended n x rest) z

-- one entry, by its operation
module _ (k op at : ℕ) (p : at < 65536) where
  across-entry : (op ≡ 43 → ⊥) → (op ≡ 46 → ⊥) → Across k k (entry op at ∷ [])
  unfolding ended closing begun
  across-entry a b j rest = rw (entry-op op at p, ne_eqb op 46 b, ne_eqb op 43 a)

across-begin : (k : ℕ) → Across k (k + 1) (entry 43 0 ∷ [])
unfolding ended closing begun
across-begin k j rest = rw (entry-op 43 0 (omega arith))

across-end : (k : ℕ) → Across (k + 1) k (entry 46 0 ∷ [])
unfolding ended closing begun
across-end k j rest =
    let z : k + 1 - 1 ≡ k = omega arith in
    rw (entry-op 46 0 (omega arith), ne_eqb (k + 1) 0 (λ y. omega arith), z)

pub end-here : (rest : List ℕ) → ended 0 0 (entry 46 0 ∷ rest) ≡ 0
unfolding ended closing
end-here rest = rw (entry-op 46 0 (omega arith))

-- expressions, programs and clauses
across-code : {s : List ℕ} {e : Expr} {c : List ℕ} → Codes s e c → (k : ℕ) → Across k k c
across-code (code-literal at p) k = across-entry k 0 at p (λ z. omega arith) (λ z. omega arith)
across-code (code-name at p) k = across-entry k 1 at p (λ z. omega arith) (λ z. omega arith)
across-code (code-number at p) k = across-entry k 2 at p (λ z. omega arith) (λ z. omega arith)
across-code code-true k = across-entry k 3 0 (omega arith) (λ z. omega arith) (λ z. omega arith)
across-code code-false k = across-entry k 4 0 (omega arith) (λ z. omega arith) (λ z. omega arith)
across-code (code-decimal at p) k = across-entry k 5 at p (λ z. omega arith) (λ z. omega arith)
across-code (code-unary {op = o} {c = c} l) k =
    let op : ℕ = unary_number o in
    let b : (6 ≤ op) × (op ≤ 11) = unary-between o in
    across k k k c (entry op 0 ∷ []) (across-code l k) (across-entry k op 0 (omega arith) (λ z. omega (arith, z, b.1)) (λ z. omega (arith, z, b.1)))
across-code (code-binary {op = o} {c = c} {d = d} l m) k =
    let op : ℕ = binary_number o in
    let b : (12 ≤ op) × (op ≤ 42) = binary-between o in
    across k k k (c ++ d) (entry op 0 ∷ []) (across k k k c d (across-code l k) (across-code m k)) (across-entry k op 0 (omega arith) (λ z. omega (arith, z, b.1)) (λ z. omega (arith, z, b.1)))

mutual
  across-program : {s : List ℕ} (p : Program) {c : List ℕ} → ProgramCodes s p c → (k : ℕ) → Across k (k + 1) c
  across-program none code-none k = across-begin k
  across-program (also p q) (code-also {c = c} {d = d} l m) k = across k (k + 1) (k + 1) c d (across-program p l k) (across-clause q m (k + 1))

  pub across-clause : {s : List ℕ} (q : Clause) {c : List ℕ} → ClauseCodes s q c → (k : ℕ) → Across k k c
  across-clause (plain e) (code-plain {c = c} l) k =
      across k k k c (entry 44 0 ∷ []) (across-code l k) (across-entry k 44 0 (omega arith) (λ z. omega arith) (λ z. omega arith))
  across-clause (valued e f) (code-valued {c = c} {d = d} l m) k =
      across k k k (c ++ d) (entry 45 0 ∷ []) (across k k k c d (across-code l k) (across-code m k)) (across-entry k 45 0 (omega arith) (λ z. omega arith) (λ z. omega arith))
  across-clause (nested e p) (code-nested {c = c} {d = d} l m) k =
      across k (k + 1) k (c ++ d) (entry 46 0 ∷ []) (across k k (k + 1) c d (across-code l k) (across-program p m k)) (across-end k)

-- places counted from n on
pub end-shift : (n k j : ℕ) (es : List ℕ) → ended k (n + j) es ≡ n + ended k j es
unfolding ended
end-shift n k j [] = refl
end-shift n k j (e ∷ es) =
    let q : n + j + 1 ≡ n + (j + 1) = omega arith in
    split (closing (e / 65536) k) (λ a. rw a) (λ a. rw (a, q) (end-shift n (begun (e / 65536) k) (j + 1) es))

-- the ways out of `finished`
module _ (code : List ℕ) (k j r : ℕ) (inv : ended k j (drop j code) ≡ r) where
  pub end-end : length code ≤ j → j ≡ r
  unfolding ended
  end-end h = rw (drop_of_length-le code h) at inv

  module _ (h : j < length code) (op : ℕ) (oe : op ≡ get_or code j 0 / 65536) (b : Bool) (be : b ≡ closing op k) where
    step : pick b j (ended (begun op k) (j + 1) (drop (suc j) code)) ≡ r
    unfolding ended
    step = rw (be, oe) (rw (drop-cons code j 0 h) at inv)

    pub end-closed : b ≡ true → j ≡ r
    end-closed y = rw y at step

    pub end_more : b ≡ false → (n y : ℕ) → n ≡ j + 1 → y ≡ begun op k → ended y n (drop n code) ≡ r
    end_more f n y ne ye =
        let z : ended (begun op k) (j + 1) (drop (suc j) code) ≡ r = rw f at step in
        rw (ye, ne, add-one j) (rw (add-one j) at z)

-- the ways out of `is_closing`, `begun_then` and `concluded`
module _ (op k : ℕ) where
  pub closing-none : (op ≡ 46 → ⊥) → false ≡ closing op k
  unfolding closing
  closing-none h = rw (ne_eqb op 46 h)

  pub closing-nested : op ≡ 46 → (b : Bool) → b ≡ eqb k 0 → b ≡ closing op k
  unfolding closing
  closing-nested h b e = rw (eq-eqb op 46 h) e

  pub begun_more : op ≡ 43 → k + 1 ≡ begun op k
  unfolding begun
  begun_more h = rw (eq-eqb op 43 h)

  module _ (n43 : op ≡ 43 → ⊥) where
    pub begun-same : (op ≡ 46 → ⊥) → k ≡ begun op k
    unfolding begun
    begun-same h = rw (ne_eqb op 43 n43, ne_eqb op 46 h)

    module _ (h : op ≡ 46) where
      pub begun-fewer : k - 1 ≡ begun op k
      unfolding begun
      begun-fewer = rw (ne_eqb op 43 n43, eq-eqb op 46 h)

      pub begun-none : k ≡ 0 → 0 ≡ begun op k
      begun-none e = let z : k - 1 ≡ 0 = omega (arith, e) in sym z ∙ begun-fewer

  begun-most : begun op k ≤ k + 1
  unfolding begun
  begun-most = split (eqb op 43) (λ a. rw a (omega arith)) (λ a. split (eqb op 46) (λ b. rw (a, b) (omega arith)) (λ b. rw (a, b) (omega arith)))

  pub begun-within : (j y : ℕ) → k ≤ j → y ≡ begun op k → y ≤ j + 1
  begun-within j y h e = omega (arith, h, e, begun-most)

module _ (high rank i x m : ℕ) (me : m ≡ high) where
  pub concluded-low : rank < m → i ≡ pick (leb high rank) x i
  concluded-low h = rw (lt-leb high rank (omega (arith, h, me)))

  pub concluded-high : m ≤ rank → (r : ℕ) → r ≡ x → r ≡ pick (leb high rank) x i
  concluded-high h r e = rw (le-leb high rank (omega (arith, h, me))) e

-- the ways out of `onward`
module _ (high : ℕ) (st : List ℕ) (n : ℕ) (hn : n ≤ length st) (c : List ℕ) (i : ℕ) where
  pub onward-few : n < 2 → i ≡ i + needless high (take n st) c
  unfolding needless is_false is_highest
  onward-few h = rw (length-take-le n st hn, lt-ltb n 2 h) (omega arith)

  module _ (h : 2 ≤ n) where
    kind-is : is_false (take n st) ≡ eqb (get_or st (n - 2) 0) 3
    unfolding is_false
    kind-is = rw (length-take-le n st hn, le-ltb n 2 h, get_or-take n st (n - 2) 0 (omega (arith, h)))

    rank_is : is_highest high (take n st) ≡ pick (eqb (get_or st (n - 2) 0) 5) (leb high (get_or st (n - 1) 0)) false
    unfolding is_highest
    rank_is = rw (length-take-le n st hn, le-ltb n 2 h, get_or-take n st (n - 2) 0 (omega (arith, h)), get_or-take n st (n - 1) 0 (omega (arith, h)))

    pub onward-passed : get_or st (n - 2) 0 ≡ 3 → (r : ℕ) → r ≡ go_on 0 i i c → r ≡ i + needless high (take n st) c
    unfolding needless
    onward-passed b r re =
        let z : i + 0 ≡ i = omega arith in
        rw (kind-is, eq-eqb (get_or st (n - 2) 0) 3 b) (re ∙ ap (λ (x : ℕ). go_on 0 x x c) (sym z) ∙ on-shift i 0 0 0 c)

    module _ (n3 : get_or st (n - 2) 0 ≡ 3 → ⊥) where
      pub onward-other : (get_or st (n - 2) 0 ≡ 5 → ⊥) → i ≡ i + needless high (take n st) c
      unfolding needless
      onward-other b = rw (kind-is, ne_eqb (get_or st (n - 2) 0) 3 n3, rank_is, ne_eqb (get_or st (n - 2) 0) 5 b) (omega arith)

      pub onward-ranked : get_or st (n - 2) 0 ≡ 5 → (r : ℕ) → r ≡ pick (leb high (get_or st (n - 1) 0)) (ended 0 i c) i → r ≡ i + needless high (take n st) c
      unfolding needless
      onward-ranked b r re =
          let z : i + 0 ≡ i = omega arith in
          rw (kind-is, ne_eqb (get_or st (n - 2) 0) 3 n3, rank_is, eq-eqb (get_or st (n - 2) 0) 5 b)
          (split (leb high (get_or st (n - 1) 0)) (λ f. rw f ((rw f at re) ∙ ap (λ (x : ℕ). ended 0 x c) (sym z) ∙ end-shift i 0 0 c)) (λ f. rw f ((rw f at re) ∙ sym z)))
