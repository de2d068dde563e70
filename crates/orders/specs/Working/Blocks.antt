-- Two strings compared from the front, block by block, and the ways out of the functions that do it. Assumes nothing.
use Rattle.std.specs.Prelude.{◌≡◌, refl, Option, Some, None, MatchOption, Bool, true, false, not, List, [], ◌∷◌, ◌++◌, ℕ, zero, suc, ◌+◌, ◌*◌, ◌%◌, ◌<◌, ◌≤◌, eqb, length, get_or, take, drop}
use Rattle.std.proofs.Common.{Bor, sym, ap, ◌∙◌, arith, length-take-le, take-append-drop, drop-drop, eq-eqb}
use Rattle.std.proofs.Math.Nat.{suc-mul, add-mul}
use Rattle.std.specs.Option.{is_some}
use Rattle.std.specs.Cmp.Lexicographic.{pointwise}
use Rattle.std.specs.Simd.{first_chunks}
use Rattle.std.specs.List.{starts_with}
use Rattle.text.specs.Choice.{clash}
use Rattle.text.specs.Equal.{equal, equal-refl, equal-true}
use Rattle.text.specs.Working.Backward.{same-pointwise, both-none}
use Rattle.text.specs.Working.Blocks.{take_more}
use Rattle.orders.specs.Working.Comparing.{differ}

-- a block of a string that has it
block-at : (n c k : ℕ) (a d : List ℕ) → k < c → get_or (first_chunks n c a) k d ≡ take n (drop (k * n) a)
block-at n zero k a d h = let no : ⊥ = omega (arith, h) in absurd no
block-at n (suc c) zero a d h = let m : 0 * n ≡ 0 = omega arith in ap (λ (x : ℕ). take n (drop x a)) (sym m)
block-at n (suc c) (suc k) a d h =
    let m : n + k * n ≡ suc k * n = omega (arith, suc-mul k n) in
    block-at n c k (drop n a) d (omega (arith, h)) ∙ ap (take n) (drop-drop (k * n) n a ∙ ap (λ (x : ℕ). drop x a) m)

pub block-is : (n c k : ℕ) (a : List ℕ) (xs : List (List ℕ)) (x : List ℕ) → xs ≡ first_chunks n c a → k < c → x ≡ get_or xs k x → x ≡ take n (drop (k * n) a)
block-is n c k a xs x xe h e = e ∙ ap (λ (l : List (List ℕ)). get_or l k x) xe ∙ block-at n c k a x h

-- the ways out of `behind_blocks`
not-not : (t : Bool) → not (not t) ≡ t
not-not true = refl
not-not false = refl

same-behind : (x u v : List ℕ) → equal (x ++ u) (x ++ v) ≡ equal u v
unfolding equal
same-behind [] u v = refl
same-behind (c ∷ x) u v = rw (eq-eqb c c refl) (same-behind x u v)

module _ (a b : List ℕ) (n k : ℕ) (x y : List ℕ) (xe : x ≡ take n (drop (k * n) a)) (ye : y ≡ take n (drop (k * n) b)) (t : Bool) (te : t ≡ not (pointwise eqb x y)) where
  alike-told : not t ≡ equal x y
  alike-told = ap not te ∙ not-not (pointwise eqb x y) ∙ same-pointwise x y

  pub blocks-unlike : t ≡ true → false ≡ equal a b
  blocks-unlike e = differ a b (λ q. let z : x ≡ y = xe ∙ rw q (sym ye) in clash (alike-told ∙ rw z (equal-refl y)) (ap not e))

  pub blocks-like : t ≡ false → take (k * n) a ≡ take (k * n) b → take ((k + 1) * n) a ≡ take ((k + 1) * n) b
  blocks-like e inv =
      let m : (k + 1) * n ≡ k * n + n = omega (arith, add-mul k 1 n) in
      let z : x ≡ y = equal-true x y (sym alike-told ∙ ap not e) in
      let w : (c : List ℕ) → take ((k + 1) * n) c ≡ take (k * n) c ++ take n (drop (k * n) c) = λ c. ap (λ (i : ℕ). take i c) m ∙ take_more (k * n) n c in
      w a ∙ ap (λ (c : List ℕ). c ++ take n (drop (k * n) a)) inv ∙ ap (λ (c : List ℕ). take (k * n) b ++ c) (sym xe ∙ z ∙ ye) ∙ sym (w b)

pub blocks_done : (a b : List ℕ) (m : ℕ) (u v : List ℕ) → take m a ≡ take m b → u ≡ drop m a → v ≡ drop m b → equal u v ≡ equal a b
blocks_done a b m u v inv ue ve =
    rw (ue, ve) (sym (ap (λ (c : List ℕ). equal c b) (sym (take-append-drop m a)) ∙ ap (equal (take m a ++ drop m a)) (sym (take-append-drop m b) ∙ ap (λ (c : List ℕ). c ++ drop m b) (sym inv))
    ∙ same-behind (take m a) (drop m a) (drop m b)))

-- `same_from_front`: behind blocks of one byte nothing is left
pub front_end : (u v : List ℕ) (r : Bool) (o : Option (Bor (List ℕ) × Bor (List ℕ)))
    → MatchOption o (false ≡ equal u v) (λ p. (equal p.0.now p.1.now ≡ equal u v) × (length p.0.now ≡ length u % 1) × (length p.1.now ≡ length u % 1))
    → (t : Bool) → t ≡ is_some o → equal u v ≡ r → t ≡ r
front_end u v r None m t te e = te ∙ m ∙ e
front_end u v r (Some (x, y)) m t te e =
    let h : length x.now ≡ 0 = omega (arith, m.1) in
    te ∙ both-none x.now y.now (m.1 ∙ sym m.2) h ∙ m.0 ∙ e

pub front-unlike : (a b : List ℕ) (n : ℕ) → n ≤ length b → (t : Bool) → t ≡ starts_with eqb a (take n b) → t ≡ false → false ≡ equal a b
front-unlike a b n h t te tf =
    differ a b (λ q. let l : length (take n b) ≡ n = length-take-le n b h in
    let z : pointwise eqb (take n b) (take (length (take n b)) a) ≡ true = rw (q, l) (same-pointwise (take n b) (take n b) ∙ equal-refl (take n b)) in
    clash (te ∙ z) tf)
