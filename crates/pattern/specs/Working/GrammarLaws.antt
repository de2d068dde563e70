-- Derivations go forward, their trees' places are their own, and how they begin. Assumes nothing.
use Rattle.std.specs.Prelude.{◌≡◌, Bool, true, List, ℕ, ◌<◌, ◌≤◌, length, get_or}
use Rattle.std.proofs.Common.{sym, ◌∙◌, arith}
use Rattle.pattern.specs.Class.{Item, Class}
use Rattle.pattern.specs.Tree.{Re}
use Rattle.pattern.specs.Working.Sets.{Fits, f-bol, f-eol, f-one, f-cat, f-alt, f-star, f-plus, f-opt}
use Rattle.pattern.specs.Grammar.{Items, i-close, i-first-dash, i-last-dash, i-byte, i-range, One, o-any, o-escape, o-byte, o-set, o-not, Expr, e-one, e-or, Branch, b-one, b-more, Piece, p-bol, p-eol, p_atom, p-star, p-plus, p_opt, Atom, a_one, a-group}
use Rattle.pattern.specs.Bytes.{special}
use Rattle.pattern.specs.Working.Scan.{accepts_at}
use Rattle.pattern.specs.Working.OneLaws.{accepts-is, other}

items-less : {p : List ℕ} {f : Bool} {i j : ℕ} {xs : List Item} → Items p f i j xs → i < j
items-less (i-close a e) = omega arith
items-less (i-first-dash a x) = omega (arith, items-less x)
items-less (i-last-dash a b x) = omega (arith, items-less x)
items-less (i-byte s x) = omega (arith, items-less x)
items-less (i-range s d r l x) = omega (arith, items-less x)

pub one_less : {p : List ℕ} {i j : ℕ} {c : Class} → One p i j c → i < j
one_less (o-any a e) = omega arith
one_less (o-escape a f s e) = omega arith
one_less (o-byte a s e) = omega arith
one_less (o-set a l n x) = omega (arith, items-less x)
one_less (o-not a f x) = omega (arith, items-less x)

-- a wider range
pub widen : {ok : ℕ → ℕ → Bool} {lo hi : ℕ} (l h : ℕ) {r : Re} → l ≤ lo → hi ≤ h → Fits ok lo hi r → Fits ok l h r
widen l h u v (f-bol e) = let z : l ≤ h = omega arith in f-bol z
widen l h u v (f-eol e) = let z : l ≤ h = omega arith in f-eol z
widen l h u v (f-one {at = at} a b o) = let z : l ≤ at = omega arith in let y : at < h = omega arith in f-one z y o
widen l h u v (f-cat m f g) = f-cat m (widen l m u (omega arith) f) (widen m h (omega arith) v g)
widen l h u v (f-alt m f g) = f-alt m (widen l m u (omega arith) f) (widen m h (omega arith) v g)
widen l h u v (f-star f) = f-star (widen l h u v f)
widen l h u v (f-plus f) = f-plus (widen l h u v f)
widen l h u v (f-opt f) = f-opt (widen l h u v f)

mutual
  pub expr-fits : {p : List ℕ} {i j : ℕ} {r : Re} → Expr p i j r → Fits (accepts_at p) i j r
  expr-fits (e-one b) = branch_fits b
  expr-fits (e-or {i = i} {j = j} {k = k} e a b) = f-alt j (expr-fits e) (widen j k (omega arith) (omega arith) (branch_fits b))

  pub branch_fits : {p : List ℕ} {i j : ℕ} {r : Re} → Branch p i j r → Fits (accepts_at p) i j r
  branch_fits (b-one x) = piece-fits x
  branch_fits (b-more {j = j} b x) = f-cat j (branch_fits b) (piece-fits x)

  pub piece-fits : {p : List ℕ} {i j : ℕ} {r : Re} → Piece p i j r → Fits (accepts_at p) i j r
  piece-fits (p-bol {i = i} {j = j} a e) = let z : i ≤ j = omega arith in f-bol z
  piece-fits (p-eol {i = i} {j = j} a e) = let z : i ≤ j = omega arith in f-eol z
  piece-fits (p_atom x) = atom-fits x
  piece-fits (p-star {i = i} {j = j} {k = k} x a e) = f-star (widen i k (omega arith) (omega arith) (atom-fits x))
  piece-fits (p-plus {i = i} {j = j} {k = k} x a e) = f-plus (widen i k (omega arith) (omega arith) (atom-fits x))
  piece-fits (p_opt {i = i} {j = j} {k = k} x a e) = f-opt (widen i k (omega arith) (omega arith) (atom-fits x))

  pub atom-fits : {p : List ℕ} {i j : ℕ} {r : Re} → Atom p i j r → Fits (accepts_at p) i j r
  atom-fits {p} (a_one {i = i} {j = j} x) = let z : i ≤ i = omega arith in f-one z (one_less x) (accepts-is p x)
  atom-fits (a-group {i = i} {j = j} {k = k} a e b z) = widen i k (omega arith) (omega arith) (expr-fits e)

-- going forward
mutual
  pub expr-less : {p : List ℕ} {i j : ℕ} {r : Re} → Expr p i j r → i < j
  expr-less (e-one b) = branch_less b
  expr-less (e-or e a b) = omega (arith, expr-less e, branch_less b)

  pub branch_less : {p : List ℕ} {i j : ℕ} {r : Re} → Branch p i j r → i < j
  branch_less (b-one x) = piece-less x
  branch_less (b-more b x) = omega (arith, branch_less b, piece-less x)

  pub piece-less : {p : List ℕ} {i j : ℕ} {r : Re} → Piece p i j r → i < j
  piece-less (p-bol a e) = omega arith
  piece-less (p-eol a e) = omega arith
  piece-less (p_atom x) = atom-less x
  piece-less (p-star x a e) = omega (arith, atom-less x)
  piece-less (p-plus x a e) = omega (arith, atom-less x)
  piece-less (p_opt x a e) = omega (arith, atom-less x)

  pub atom-less : {p : List ℕ} {i j : ℕ} {r : Re} → Atom p i j r → i < j
  atom-less (a_one x) = one_less x
  atom-less (a-group a e b z) = omega (arith, expr-less e)

-- the byte at i can begin a piece: it is none of ) | * + ?
pub record Begins (p : List ℕ) (i : ℕ) : Type 0 where
  pub inside : i < length p
  pub not : (b : ℕ) → special b ≡ true → (b ≡ 46 → ⊥) → (b ≡ 92 → ⊥) → (b ≡ 91 → ⊥) → (b ≡ 40 → ⊥) → (b ≡ 94 → ⊥) → (b ≡ 36 → ⊥) → get_or p i 0 ≡ b → ⊥

pub record OneBegins (p : List ℕ) (i : ℕ) : Type 0 where
  pub inside : i < length p
  pub not : (b : ℕ) → special b ≡ true → (b ≡ 46 → ⊥) → (b ≡ 92 → ⊥) → (b ≡ 91 → ⊥) → get_or p i 0 ≡ b → ⊥

pub one-begins : {p : List ℕ} {i j : ℕ} {c : Class} → One p i j c → OneBegins p i
one-begins (o-any a e) = record { inside = a.inside; not = λ b s x y z w. x (sym w ∙ a.byte) }
one-begins (o-escape a f t e) = record { inside = a.inside; not = λ b s x y z w. y (sym w ∙ a.byte) }
one-begins (o-byte a t e) = record { inside = a.inside; not = λ b s x y z w. other t s (sym a.byte ∙ w) }
one-begins (o-set a l n x) = record { inside = a.inside; not = λ b s x y z w. z (sym w ∙ a.byte) }
one-begins (o-not a f x) = record { inside = a.inside; not = λ b s x y z w. z (sym w ∙ a.byte) }

atom-begins : {p : List ℕ} {i j : ℕ} {r : Re} → Atom p i j r → Begins p i
atom-begins (a_one x) = let y = one-begins x in record { inside = y.inside; not = λ b s u v w x₁ x₂ x₃ e. y.not b s u v w e }
atom-begins (a-group a e b z) = record { inside = a.inside; not = λ b s u v w x₁ x₂ x₃ e. x₁ (sym e ∙ a.byte) }

pub piece-begins : {p : List ℕ} {i j : ℕ} {r : Re} → Piece p i j r → Begins p i
piece-begins (p-bol a z) = record { inside = a.inside; not = λ b s u v w x₁ x₂ x₃ e. x₂ (sym e ∙ a.byte) }
piece-begins (p-eol a z) = record { inside = a.inside; not = λ b s u v w x₁ x₂ x₃ e. x₃ (sym e ∙ a.byte) }
piece-begins (p_atom x) = atom-begins x
piece-begins (p-star x a e) = atom-begins x
piece-begins (p-plus x a e) = atom-begins x
piece-begins (p_opt x a e) = atom-begins x
