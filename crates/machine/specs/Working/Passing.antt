-- Working laws: the entries that are passed by once a test is decided, and the ways out of the functions that find them. Assumes nothing.
use Rattle.std.specs.Prelude.{◌≡◌, Bool, true, false, not, eqb, leb, get_or, drop}
use Rattle.std.proofs.Math.Path.{refl, ap}
use Rattle.std.proofs.Common.{sym, ◌∙◌, add-one, drop_of_length-le, length-append, drop-cons}
use mathlib.Core.List.{List, [], ◌∷◌, ◌++◌, append_assoc}
use Prim.Native.Nat.{ℕ, zero, suc, ◌+◌, ◌-◌, ◌/◌, ◌<◌, ◌≤◌}
use native.Mathlib.Omega.{arith}
use Rattle.std.proofs.Math.ListN.{length}
use borrow.Author.Tests.{le-leb, lt-leb, lt-ltb, le-ltb, eq-eqb, ne_eqb}
use Rattle.text.specs.Choice.{pick, split}
use Rattle.syntax.specs.Expr.{Expr, Program}
use Rattle.syntax.specs.Operation.{unary_number, binary_number}
use Rattle.syntax.specs.Theorems.Numbers.{unary-between, binary-between}
use Rattle.syntax.specs.Code.{entry, Codes, code-literal, code-name, code-number, code-true, code-false, code-decimal, code-unary, code-binary, ProgramCodes, code-none, code-also}
use Rattle.expression.specs.Conditions.{top}
use Rattle.machine.specs.Working.Machine.{State, stuck, outer, above, behind_of, stop_at, go_on, ahead, exec_behind}

-- entries passed by are left out
module _ (depth room : ℕ) (s : List ℕ) (look : List ℕ → List ℕ) (vals : List (List ℕ)) where
  pub exec-drop : (m : ℕ) (c : List ℕ) (st : State) → exec_behind depth room s look vals m c st ≡ exec_behind depth room s look vals 0 (drop m c) st
  unfolding exec_behind
  exec-drop zero c st = refl
  exec-drop (suc m) [] st = refl
  exec-drop (suc m) (e ∷ c) st = exec-drop m c st

  pub exec-pass : (c rest : List ℕ) (m : ℕ) (st : State) → exec_behind depth room s look vals (length c + m) (c ++ rest) st ≡ exec_behind depth room s look vals m rest st
  unfolding exec_behind
  exec-pass [] rest m st = let z : length {A = ℕ} [] + m ≡ m = omega arith in ap (λ (k : ℕ). exec_behind depth room s look vals k rest st) z
  exec-pass (e ∷ c) rest m st =
      let z : length (e ∷ c) + m ≡ suc (length c + m) = omega arith in
      ap (λ (k : ℕ). exec_behind depth room s look vals k (e ∷ (c ++ rest)) st) z ∙ exec-pass c rest m st

  pub exec-stuck : (op : ℕ) (c : List ℕ) → exec_behind depth room s look vals (ahead (top vals) op stuck c) c stuck ≡ stuck
  unfolding exec_behind
  exec-stuck op [] = refl
  exec-stuck op (e ∷ c) = refl

-- one entry of `go_on`, by its operation
module _ (k known j e : ℕ) (es : List ℕ) (op : ℕ) (oe : e / 65536 ≡ op) where
  pub on-push : op ≤ 5 → go_on k known j (e ∷ es) ≡ go_on (k + 1) known (j + 1) es
  unfolding go_on outer above behind_of
  on-push h = rw (oe, le-leb op 5 h, le-leb op 11 (omega (arith, h)))

  module _ (n5 : 5 < op) where
    pub on-clause : 42 < op → go_on k known j (e ∷ es) ≡ stop_at op k known j
    unfolding go_on outer
    on-clause h = rw (oe, lt-leb op 5 n5, lt-ltb 42 op h)

    module _ (n42 : op ≤ 42) where
      pub on_none : k ≡ 0 → go_on k known j (e ∷ es) ≡ known
      unfolding go_on outer stop_at
      on_none h = rw (oe, lt-leb op 5 n5, le-ltb 42 op n42, eq-eqb k 0 h, ne_eqb op 45 (λ z. omega (arith, z, n42)))

      module _ (n0 : k ≡ 0 → ⊥) where
        pub on-unary : op ≤ 11 → go_on k known j (e ∷ es) ≡ go_on k known (j + 1) es
        unfolding go_on outer above behind_of
        on-unary h = rw (oe, lt-leb op 5 n5, le-ltb 42 op n42, ne_eqb k 0 n0, le-leb op 11 h)

        module _ (n11 : 11 < op) where
          pub on-inner : (k ≡ 1 → ⊥) → go_on k known j (e ∷ es) ≡ go_on (k - 1) known (j + 1) es
          unfolding go_on outer above behind_of
          on-inner h = rw (oe, lt-leb op 5 n5, le-ltb 42 op n42, ne_eqb k 0 n0, lt-leb op 11 n11, ne_eqb k 1 h)

          pub on_both_lem : k ≡ 1 → op ≡ 41 → go_on k known j (e ∷ es) ≡ go_on 0 (j + 1) (j + 1) es
          unfolding go_on outer above behind_of
          on_both_lem h b = rw (oe, lt-leb op 5 n5, le-ltb 42 op n42, ne_eqb k 0 n0, lt-leb op 11 n11, eq-eqb k 1 h, eq-eqb op 41 b, h)

          pub on-other : k ≡ 1 → (op ≡ 41 → ⊥) → go_on k known j (e ∷ es) ≡ known
          unfolding go_on outer stop_at
          on-other h b = rw (oe, lt-leb op 5 n5, le-ltb 42 op n42, ne_eqb k 0 n0, lt-leb op 11 n11, eq-eqb k 1 h, ne_eqb op 41 b, ne_eqb op 45 (λ z. omega (arith, z, n42)))

pub entry-op : (op at : ℕ) → at < 65536 → entry op at / 65536 ≡ op
unfolding entry
entry-op op at h = omega arith

-- the code of an expression puts one operand more above the test
pub on-code : {s : List ℕ} {e : Expr} {c : List ℕ} → Codes s e c → (k known j : ℕ) (rest : List ℕ) → go_on k known j (c ++ rest) ≡ go_on (k + 1) known (j + length c) rest
on-code (code-literal at p) k known j rest = on-push k known j (entry 0 at) rest 0 (entry-op 0 at p) (omega arith)
on-code (code-name at p) k known j rest = on-push k known j (entry 1 at) rest 1 (entry-op 1 at p) (omega arith)
on-code (code-number at p) k known j rest = on-push k known j (entry 2 at) rest 2 (entry-op 2 at p) (omega arith)
on-code code-true k known j rest = on-push k known j (entry 3 0) rest 3 (entry-op 3 0 (omega arith)) (omega arith)
on-code code-false k known j rest = on-push k known j (entry 4 0) rest 4 (entry-op 4 0 (omega arith)) (omega arith)
on-code (code-decimal at p) k known j rest = on-push k known j (entry 5 at) rest 5 (entry-op 5 at p) (omega arith)
on-code (code-unary {op = o} {c = c} l) k known j rest =
    let op : ℕ = unary_number o in
    let low : 6 ≤ op = (unary-between o).0 in
    let high : op ≤ 11 = (unary-between o).1 in
    let z : j + length c + 1 ≡ j + length (c ++ (entry op 0 ∷ [])) = rw (length-append c (entry op 0 ∷ [])) (omega arith) in
    ap (go_on k known j) (append_assoc c (entry op 0 ∷ []) rest) ∙ on-code l k known j (entry op 0 ∷ rest)
    ∙ on-unary (k + 1) known (j + length c) (entry op 0) rest op (entry-op op 0 (omega arith)) (omega arith) (omega arith) (λ z. omega arith) high
    ∙ ap (λ (x : ℕ). go_on (k + 1) known x rest) z
on-code (code-binary {op = o} {c = c} {d = d} l m) k known j rest =
    let op : ℕ = binary_number o in
    let low : 12 ≤ op = (binary-between o).0 in
    let high : op ≤ 42 = (binary-between o).1 in
    let x : List ℕ = entry op 0 ∷ [] in
    let z : j + length c + length d + 1 ≡ j + length ((c ++ d) ++ x) = rw (length-append (c ++ d) x, length-append c d) (omega arith) in
    let y : k + 1 + 1 - 1 ≡ k + 1 = omega arith in
    ap (go_on k known j) (append_assoc (c ++ d) x rest ∙ append_assoc c d (entry op 0 ∷ rest)) ∙ on-code l k known j (d ++ (entry op 0 ∷ rest))
    ∙ on-code m (k + 1) known (j + length c) (entry op 0 ∷ rest)
    ∙ on-inner (k + 1 + 1) known (j + length c + length d) (entry op 0) rest op (entry-op op 0 (omega arith)) (omega arith) high (λ z. omega arith) (omega arith) (λ z. omega arith)
    ∙ ap (λ (n : ℕ). go_on n known (j + length c + length d + 1) rest) y
    ∙ ap (λ (n : ℕ). go_on (k + 1) known n rest) z

-- a program begins with an entry before which nothing is passed by
pub on-program : {s : List ℕ} {p : Program} {c : List ℕ} → ProgramCodes s p c → (rest : List ℕ) → go_on 0 0 0 (c ++ rest) ≡ 0
unfolding stop_at
on-program code-none rest = on-clause 0 0 0 (entry 43 0) rest 43 (entry-op 43 0 (omega arith)) (omega arith) (omega arith)
on-program (code-also {c = c} {d = d} k l) rest = ap (go_on 0 0 0) (append_assoc c d rest) ∙ on-program k (d ++ rest)

-- places counted from n on
behind-shift : (n op k known next : ℕ) → behind_of op k (n + known) (n + next) ≡ n + behind_of op k known next
unfolding behind_of
behind-shift n op k known next = split (leb op 11) (λ a. rw a) (λ a. split (eqb k 1) (λ b. rw (a, b)) (λ b. rw (a, b)))

pub stop-same : (op k n : ℕ) → stop_at op k n n ≡ n
unfolding stop_at
stop-same op k n = split (eqb op 45) (λ a. split (eqb k 1) (λ b. rw (a, b)) (λ b. rw (a, b))) (λ a. rw a)

stop-shift : (n op k known here : ℕ) → stop_at op k (n + known) (n + here) ≡ n + stop_at op k known here
unfolding stop_at
stop-shift n op k known here = split (eqb op 45) (λ a. split (eqb k 1) (λ b. rw (a, b)) (λ b. rw (a, b))) (λ a. rw a)

pub on-shift : (n k known j : ℕ) (es : List ℕ) → go_on k (n + known) (n + j) es ≡ n + go_on k known j es
unfolding go_on
on-shift n k known j [] = refl
on-shift n k known j (e ∷ es) =
    let q : n + j + 1 ≡ n + (j + 1) = omega arith in
    split (outer (e / 65536) k) (λ a. rw (a, stop-shift n (e / 65536) k known j))
    (λ a. rw (a, q, behind-shift n (e / 65536) k known (j + 1)) (on-shift n (above (e / 65536) k) (behind_of (e / 65536) k known (j + 1)) (j + 1) es))

-- the ways out of `passed`
module _ (code : List ℕ) (k known j r : ℕ) (inv : go_on k known j (drop j code) ≡ r) where
  pub pass-end : length code ≤ j → known ≡ r
  unfolding go_on
  pass-end h = rw (drop_of_length-le code h) at inv

  module _ (h : j < length code) (op : ℕ) (oe : op ≡ get_or code j 0 / 65536) (o : Bool) (oo : o ≡ outer op k) where
    step : pick o (stop_at op k known j) (go_on (above op k) (behind_of op k known (j + 1)) (j + 1) (drop (suc j) code)) ≡ r
    unfolding go_on
    step = rw (oo, oe) (rw (drop-cons code j 0 h) at inv)

    pub pass-outer : o ≡ true → (x : ℕ) → x ≡ stop_at op k known j → x ≡ r
    pass-outer y x xe = xe ∙ (rw y at step)

    pub pass-more : o ≡ false → (n x y : ℕ) → n ≡ j + 1 → x ≡ behind_of op k known n → y ≡ above op k → go_on y x n (drop n code) ≡ r
    pass-more f n x y ne xe ye =
        let z : go_on (above op k) (behind_of op k known (j + 1)) (j + 1) (drop (suc j) code) ≡ r = rw f at step in
        rw (ye, xe, ne, add-one j) (rw (add-one j) at z)

-- the ways out of `is_outer`, `above_it`, `behind_it` and `stop_at`
module _ (op k : ℕ) where
  pub outer-push : op ≤ 5 → false ≡ outer op k
  unfolding outer
  outer-push h = rw (le-leb op 5 h)

  pub above-push : op ≤ 5 → k + 1 ≡ above op k
  unfolding above
  above-push h = rw (le-leb op 5 h)

  module _ (n5 : 5 < op) where
    pub outer-clause : 42 < op → true ≡ outer op k
    unfolding outer
    outer-clause h = rw (lt-leb op 5 n5, lt-ltb 42 op h)

    module _ (n42 : op ≤ 42) where
      pub outer-none : k ≡ 0 → true ≡ outer op k
      unfolding outer
      outer-none h = rw (lt-leb op 5 n5, le-ltb 42 op n42, eq-eqb k 0 h)

      module _ (n0 : k ≡ 0 → ⊥) where
        pub outer-unary : op ≤ 11 → false ≡ outer op k
        unfolding outer
        outer-unary h = rw (lt-leb op 5 n5, le-ltb 42 op n42, ne_eqb k 0 n0, le-leb op 11 h)

        module _ (n11 : 11 < op) where
          pub outer-inner : (k ≡ 1 → ⊥) → false ≡ outer op k
          unfolding outer
          outer-inner h = rw (lt-leb op 5 n5, le-ltb 42 op n42, ne_eqb k 0 n0, lt-leb op 11 n11, ne_eqb k 1 h)

          pub outer-left : (k ≡ 1) → (b : Bool) → b ≡ not (eqb op 41) → b ≡ outer op k
          unfolding outer
          outer-left h b be = rw (lt-leb op 5 n5, le-ltb 42 op n42, ne_eqb k 0 n0, lt-leb op 11 n11, eq-eqb k 1 h) be

    pub above-unary : op ≤ 11 → k ≡ above op k
    unfolding above
    above-unary h = rw (lt-leb op 5 n5, le-leb op 11 h)

    module _ (n11 : 11 < op) where
      pub above-binary : k - 1 ≡ above op k
      unfolding above
      above-binary = rw (lt-leb op 5 n5, lt-leb op 11 n11)

      pub above_zero : k ≡ 0 → 0 ≡ above op k
      above_zero e = let z : k - 1 ≡ 0 = omega (arith, e) in sym z ∙ above-binary

  above_most : above op k ≤ k + 1
  unfolding above
  above_most = split (leb op 5) (λ a. rw a (omega arith)) (λ a. split (leb op 11) (λ b. rw (a, b) (omega arith)) (λ b. rw (a, b) (omega arith)))

  pub above_within : (j y : ℕ) → k ≤ j → y ≡ above op k → y ≤ j + 1
  above_within j y h e = omega (arith, h, e, above_most)

  module _ (known next : ℕ) where
    pub behind-low : op ≤ 11 → known ≡ behind_of op k known next
    unfolding behind_of
    behind-low h = rw (le-leb op 11 h)

    module _ (n11 : 11 < op) where
      pub behind-here : k ≡ 1 → next ≡ behind_of op k known next
      unfolding behind_of
      behind-here h = rw (lt-leb op 11 n11, eq-eqb k 1 h)

      pub behind-known : (k ≡ 1 → ⊥) → known ≡ behind_of op k known next
      unfolding behind_of
      behind-known h = rw (lt-leb op 11 n11, ne_eqb k 1 h)

    pub stop-other : (op ≡ 45 → ⊥) → known ≡ stop_at op k known next
    unfolding stop_at
    stop-other h = rw (ne_eqb op 45 h)

    module _ (h : op ≡ 45) where
      pub stop-known : (k ≡ 1 → ⊥) → known ≡ stop_at op k known next
      unfolding stop_at
      stop-known b = rw (eq-eqb op 45 h, ne_eqb k 1 b)

      pub stop-here : k ≡ 1 → next ≡ stop_at op k known next
      unfolding stop_at
      stop-here b = rw (eq-eqb op 45 h, eq-eqb k 1 b)
