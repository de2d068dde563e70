-- Bytes that are a pattern have one tree. Assumes nothing.
use Rattle.std.specs.Prelude.{◌≡◌, refl, Bool, true, false, List, ◌∷◌, ℕ, zero, suc, ◌+◌, ◌≤◌, length}
use Rattle.std.proofs.Common.{sym, ap, ap₂, ◌∙◌, subst, arith, le_refl}
use Rattle.text.specs.Choice.{clash}
use Rattle.pattern.specs.Class.{Item, range, Class, only, among, besides}
use Rattle.pattern.specs.Tree.{Re, bol, eol, one, cat, alt, star, plus, opt}
use Rattle.pattern.specs.Bytes.{special}
use Rattle.pattern.specs.Grammar.{At, Self, Items, i-close, i-first-dash, i-last-dash, i-byte, i-range, One, o-any, o-escape, o-byte, o-set, o-not, Expr, e-one, e-or, Branch, b-one, b-more, Piece, p-bol, p-eol, p_atom, p-star, p-plus, p_opt, Atom, a_one, a-group, Pattern}
use Rattle.pattern.specs.Working.GrammarLaws.{expr-less, branch_less, piece-less, Begins, one-begins, piece-begins}
use Rattle.pattern.specs.Working.OneLaws.{other, special-46, special-92, special-91, special-40, special-94, special-36, special-124, special-41, special-42, special-43, special-63}

-- one byte stands at a place
same_at : {p : List ℕ} {i b c : ℕ} → At p i b → At p i c → b ≡ c
same_at a x = sym a.byte ∙ x.byte

not-both : {A : Type 0} {p : List ℕ} {i : ℕ} (b c : ℕ) → At p i b → At p i c → (b ≡ c → ⊥) → A
not-both b c a x n = absurd (n (same_at a x))

untrue : {A : Type 0} → ◌≡◌ {A = Bool} false true → A
untrue e = clash refl (sym e)

-- what an expression, a set or an atom is, and where it ends
abbrev Same : (A : Type 0) → A → A → ℕ → ℕ → Type 0
Same A x y j k = (x ≡ y) × (j ≡ k)

module _ (p : List ℕ) where
  no-close : {i b : ℕ} → Self p false i b → At p i 93 → ⊥
  no-close x a = untrue (x.bracket (same_at x.at a))

  no-dash-at : {f : Bool} {i b : ℕ} → Self p f i b → At p i 45 → ⊥
  no-dash-at x a = x.no-dash (same_at x.at a)

  -- no set goes on from the "-" of a range
  dash-ends : {i j h : ℕ} {xs : List Item} → At p i 45 → (k : ℕ) → k ≡ i + 1 → Self p false k h → Items p false i j xs → ⊥
  dash-ends a k e s (i-close b z) = not-both 45 93 a b (λ y. omega (arith, y))
  dash-ends a k e s (i-last-dash b c x) = no-close s (subst (λ (m : ℕ). At p m 93) (sym e) c)
  dash-ends a k e s (i-byte x y) = no-dash-at x a
  dash-ends a k e s (i-range x b y l z) = no-dash-at x a

  items-one : {f : Bool} {i j k : ℕ} {xs ys : List Item} → Items p f i j xs → Items p f i k ys → Same (List Item) xs ys j k
  items-one (i-close a y) (i-close b z) = (refl, y ∙ sym z)
  items-one (i-close a y) (i-last-dash b c x) = not-both 93 45 a b (λ y. omega (arith, y))
  items-one (i-close a y) (i-byte s x) = absurd (no-close s a)
  items-one (i-close a y) (i-range s b t l x) = absurd (no-close s a)
  items-one (i-first-dash a x) (i-first-dash b y) = let q = items-one x y in (ap (λ (l : List Item). range 45 45 ∷ l) q.0, q.1)
  items-one (i-first-dash a x) (i-byte s y) = absurd (no-dash-at s a)
  items-one (i-first-dash a x) (i-range s b t l y) = absurd (no-dash-at s a)
  items-one (i-last-dash a c x) (i-close b z) = not-both 45 93 a b (λ y. omega (arith, y))
  items-one (i-last-dash a c x) (i-last-dash b d y) = let q = items-one x y in (ap (λ (l : List Item). range 45 45 ∷ l) q.0, q.1)
  items-one (i-last-dash a c x) (i-byte s y) = absurd (no-dash-at s a)
  items-one (i-last-dash a c x) (i-range s b t l y) = absurd (no-dash-at s a)
  items-one (i-byte s x) (i-close b z) = absurd (no-close s b)
  items-one (i-byte s x) (i-first-dash b y) = absurd (no-dash-at s b)
  items-one (i-byte s x) (i-last-dash b c y) = absurd (no-dash-at s b)
  items-one (i-byte s x) (i-byte t y) = let q = items-one x y in (ap₂ (λ (b : ℕ) (l : List Item). range b b ∷ l) (same_at s.at t.at) q.0, q.1)
  items-one (i-byte {i = i} s x) (i-range t b u l y) = absurd (dash-ends b (i + 2) (omega arith) u x)
  items-one (i-range s a t l x) (i-close b z) = absurd (no-close s b)
  items-one (i-range s a t l x) (i-first-dash b y) = absurd (no-dash-at s b)
  items-one (i-range s a t l x) (i-last-dash b c y) = absurd (no-dash-at s b)
  items-one (i-range {i = i} s a t l x) (i-byte u y) = absurd (dash-ends a (i + 2) (omega arith) t y)
  items-one (i-range s a t l x) (i-range u b v m y) =
      let q = items-one x y in
      let e = same_at s.at u.at in
      let f = same_at t.at v.at in
      (ap₂ (λ (b : Item) (r : List Item). b ∷ r) (ap₂ (λ (b c : ℕ). range b c) e f) q.0, q.1)

  -- an atom for one byte
  plain : {A : Type 0} {i b : ℕ} (c : ℕ) → At p i b → special b ≡ false → At p i c → special c ≡ true → A
  plain c a s x t = absurd (other s t (same_at a x))

  one_only : {i j k : ℕ} {c d : Class} → One p i j c → One p i k d → Same Class c d j k
  one_only (o-any a y) (o-any b z) = (refl, y ∙ sym z)
  one_only (o-any a y) (o-escape b c s z) = not-both 46 92 a b (λ y. omega (arith, y))
  one_only (o-any a y) (o-byte b s z) = plain 46 b s a special-46
  one_only (o-any a y) (o-set b l n x) = not-both 46 91 a b (λ y. omega (arith, y))
  one_only (o-any a y) (o-not b c x) = not-both 46 91 a b (λ y. omega (arith, y))
  one_only (o-escape a c s y) (o-any b z) = not-both 92 46 a b (λ y. omega (arith, y))
  one_only (o-escape a c s y) (o-escape b d t z) = (ap only (same_at c d), y ∙ sym z)
  one_only (o-escape a c s y) (o-byte b t z) = plain 92 b t a special-92
  one_only (o-escape a c s y) (o-set b l n x) = not-both 92 91 a b (λ y. omega (arith, y))
  one_only (o-escape a c s y) (o-not b d x) = not-both 92 91 a b (λ y. omega (arith, y))
  one_only (o-byte a s y) (o-any b z) = plain 46 a s b special-46
  one_only (o-byte a s y) (o-escape b d t z) = plain 92 a s b special-92
  one_only (o-byte a s y) (o-byte b t z) = (ap only (same_at a b), y ∙ sym z)
  one_only (o-byte a s y) (o-set b l n x) = plain 91 a s b special-91
  one_only (o-byte a s y) (o-not b d x) = plain 91 a s b special-91
  one_only (o-set a l n x) (o-any b z) = not-both 91 46 a b (λ y. omega (arith, y))
  one_only (o-set a l n x) (o-escape b d t z) = not-both 91 92 a b (λ y. omega (arith, y))
  one_only (o-set a l n x) (o-byte b t z) = plain 91 b t a special-91
  one_only (o-set a l n x) (o-set b m o y) = let q = items-one x y in (ap among q.0, q.1)
  one_only (o-set a l n x) (o-not b c y) = absurd (n c.byte)
  one_only (o-not a c x) (o-any b z) = not-both 91 46 a b (λ y. omega (arith, y))
  one_only (o-not a c x) (o-escape b d t z) = not-both 91 92 a b (λ y. omega (arith, y))
  one_only (o-not a c x) (o-byte b t z) = plain 91 b t a special-91
  one_only (o-not a c x) (o-set b m o y) = absurd (o c.byte)
  one_only (o-not a c x) (o-not b d y) = let q = items-one x y in (ap besides q.0, q.1)

  -- what stands behind a piece repeats nothing
  record Still (n : ℕ) : Type 0 where
    pub no-star : At p n 42 → ⊥
    pub no_plus : At p n 43 → ⊥
    pub no-opt : At p n 63 → ⊥

  data Stop (n : ℕ) : Type 0 where
    s-end : length p ≤ n → Stop n
    s-bar : At p n 124 → Stop n
    s-close : At p n 41 → Stop n

  stop-still : {n : ℕ} → Stop n → Still n
  stop-still (s-end h) = record { no-star = λ a. omega (arith, h, a.inside); no_plus = λ a. omega (arith, h, a.inside); no-opt = λ a. omega (arith, h, a.inside) }
  stop-still (s-bar b) = record { no-star = λ a. not-both 124 42 b a (λ e. omega (arith, e)); no_plus = λ a. not-both 124 43 b a (λ e. omega (arith, e)); no-opt = λ a. not-both 124 63 b a (λ e. omega (arith, e)) }
  stop-still (s-close b) = record { no-star = λ a. not-both 41 42 b a (λ e. omega (arith, e)); no_plus = λ a. not-both 41 43 b a (λ e. omega (arith, e)); no-opt = λ a. not-both 41 63 b a (λ e. omega (arith, e)) }

  begins-still : {n : ℕ} → Begins p n → Still n
  begins-still b = record {
    no-star = λ a. b.not 42 special-42 (λ e. omega arith) (λ e. omega arith) (λ e. omega arith) (λ e. omega arith) (λ e. omega arith) (λ e. omega arith) a.byte;
    no_plus = λ a. b.not 43 special-43 (λ e. omega arith) (λ e. omega arith) (λ e. omega arith) (λ e. omega arith) (λ e. omega arith) (λ e. omega arith) a.byte;
    no-opt = λ a. b.not 63 special-63 (λ e. omega arith) (λ e. omega arith) (λ e. omega arith) (λ e. omega arith) (λ e. omega arith) (λ e. omega arith) a.byte;
  }

  begins-goes : {n : ℕ} → Begins p n → Stop n → ⊥
  begins-goes b (s-end h) = omega (arith, h, b.inside)
  begins-goes b (s-bar a) = b.not 124 special-124 (λ e. omega arith) (λ e. omega arith) (λ e. omega arith) (λ e. omega arith) (λ e. omega arith) (λ e. omega arith) a.byte
  begins-goes b (s-close a) = b.not 41 special-41 (λ e. omega arith) (λ e. omega arith) (λ e. omega arith) (λ e. omega arith) (λ e. omega arith) (λ e. omega arith) a.byte

  -- behind a whole expression no "|" stands
  data StopAll (n : ℕ) : Type 0 where
    t-end : length p ≤ n → StopAll n
    t-close : At p n 41 → StopAll n

  stop-all : {n : ℕ} → StopAll n → Stop n
  stop-all (t-end h) = s-end h
  stop-all (t-close a) = s-close a

  no-bar : {n : ℕ} → StopAll n → At p n 124 → ⊥
  no-bar (t-end h) a = omega (arith, h, a.inside)
  no-bar (t-close b) a = not-both 41 124 b a (λ e. omega (arith, e))

  -- from left to right: with the tree a up to j, what follows up to n makes r
  data Pieces : ℕ → Re → ℕ → Re → Type 0 where
    no-piece : {j : ℕ} {a : Re} → Pieces j a j a
    piece-on : {j k n : ℕ} {a b r : Re} → Piece p j k b → Pieces k (cat a b) n r → Pieces j a n r

  record PieceFirst (i n : ℕ) (r : Re) : Type 0 where
    pub to : ℕ
    pub tree : Re
    pub first : Piece p i to tree
    pub rest : Pieces to tree n r

  piece-last : {j m n : ℕ} {a c b : Re} → Pieces j a m c → Piece p m n b → Pieces j a n (cat c b)
  piece-last no-piece y = piece-on y no-piece
  piece-last (piece-on x l) y = piece-on x (piece-last l y)

  pieces : {i n : ℕ} {r : Re} → Branch p i n r → PieceFirst i n r
  pieces (b-one {j = j} {a = a} x) = record { to = j; tree = a; first = x; rest = no-piece }
  pieces (b-more x y) = let f = pieces x in record { to = f.to; tree = f.tree; first = f.first; rest = piece-last f.rest y }

  data Branches : ℕ → Re → ℕ → Re → Type 0 where
    no-branch : {j : ℕ} {a : Re} → Branches j a j a
    branch-on : {j k n : ℕ} {a b r : Re} → At p j 124 → Branch p (j + 1) k b → Branches k (alt a b) n r → Branches j a n r

  record BranchFirst (i n : ℕ) (r : Re) : Type 0 where
    pub to : ℕ
    pub tree : Re
    pub first : Branch p i to tree
    pub rest : Branches to tree n r

  branch-last : {j m n : ℕ} {a c b : Re} → Branches j a m c → At p m 124 → Branch p (m + 1) n b → Branches j a n (alt c b)
  branch-last no-branch s y = branch-on s y no-branch
  branch-last (branch-on t x l) s y = branch-on t x (branch-last l s y)

  branches : {i n : ℕ} {r : Re} → Expr p i n r → BranchFirst i n r
  branches (e-one {j = j} {a = a} x) = record { to = j; tree = a; first = x; rest = no-branch }
  branches (e-or x s y) = let f = branches x in record { to = f.to; tree = f.tree; first = f.first; rest = branch-last f.rest s y }

  pieces-on : {j n : ℕ} {a r : Re} → Pieces j a n r → j ≤ n
  pieces-on no-piece = le_refl _
  pieces-on (piece-on x l) = omega (arith, piece-less x, pieces-on l)

  branches-on : {j n : ℕ} {a r : Re} → Branches j a n r → j ≤ n
  branches-on no-branch = le_refl _
  branches-on (branch-on s x l) = omega (arith, branch_less x, branches-on l)

  -- what a piece is: an anchor, or an atom with what repeats it
  data Tail : ℕ → ℕ → Re → Re → Type 0 where
    t-once : {j : ℕ} {a : Re} → Tail j j a a
    t-star : {j k : ℕ} {a : Re} → At p j 42 → k ≡ j + 1 → Tail j k a (star a)
    t-plus : {j k : ℕ} {a : Re} → At p j 43 → k ≡ j + 1 → Tail j k a (plus a)
    t-opt : {j k : ℕ} {a : Re} → At p j 63 → k ≡ j + 1 → Tail j k a (opt a)

  data View (i n : ℕ) : Re → Type 0 where
    v-start : At p i 94 → n ≡ i + 1 → View i n bol
    v-end : At p i 36 → n ≡ i + 1 → View i n eol
    v-atom : {j : ℕ} {a r : Re} → Atom p i j a → Tail j n a r → View i n r

  view : {i n : ℕ} {r : Re} → Piece p i n r → View i n r
  view (p-bol a z) = v-start a z
  view (p-eol a z) = v-end a z
  view (p_atom x) = v-atom x t-once
  view (p-star x a z) = v-atom x (t-star a z)
  view (p-plus x a z) = v-atom x (t-plus a z)
  view (p_opt x a z) = v-atom x (t-opt a z)

  tail-one : {j n m : ℕ} {a r q : Re} → Tail j n a r → Tail j m a q → Still n → Still m → Same Re r q n m
  tail-one t-once t-once s t = (refl, refl)
  tail-one t-once (t-star b z) s t = absurd (s.no-star b)
  tail-one t-once (t-plus b z) s t = absurd (s.no_plus b)
  tail-one t-once (t-opt b z) s t = absurd (s.no-opt b)
  tail-one (t-star a y) t-once s t = absurd (t.no-star a)
  tail-one (t-star a y) (t-star b z) s t = (refl, y ∙ sym z)
  tail-one (t-star a y) (t-plus b z) s t = not-both 42 43 a b (λ e. omega (arith, e))
  tail-one (t-star a y) (t-opt b z) s t = not-both 42 63 a b (λ e. omega (arith, e))
  tail-one (t-plus a y) t-once s t = absurd (t.no_plus a)
  tail-one (t-plus a y) (t-star b z) s t = not-both 43 42 a b (λ e. omega (arith, e))
  tail-one (t-plus a y) (t-plus b z) s t = (refl, y ∙ sym z)
  tail-one (t-plus a y) (t-opt b z) s t = not-both 43 63 a b (λ e. omega (arith, e))
  tail-one (t-opt a y) t-once s t = absurd (t.no-opt a)
  tail-one (t-opt a y) (t-star b z) s t = not-both 63 42 a b (λ e. omega (arith, e))
  tail-one (t-opt a y) (t-plus b z) s t = not-both 63 43 a b (λ e. omega (arith, e))
  tail-one (t-opt a y) (t-opt b z) s t = (refl, y ∙ sym z)

  tail-on : {j n : ℕ} {a r : Re} → Tail j n a r → j ≤ n
  tail-on t-once = le_refl _
  tail-on (t-star a y) = omega (arith, y)
  tail-on (t-plus a y) = omega (arith, y)
  tail-on (t-opt a y) = omega (arith, y)

  atom-not : {i n : ℕ} {r : Re} → Atom p i n r → (b : ℕ) → special b ≡ true → (b ≡ 46 → ⊥) → (b ≡ 92 → ⊥) → (b ≡ 91 → ⊥) → (b ≡ 40 → ⊥) → At p i b → ⊥
  atom-not (a_one x) b s u v w y a = (one-begins x).not b s u v w a.byte
  atom-not (a-group c e d z) b s u v w y a = y (same_at a c)

  no_start : {i n : ℕ} {r : Re} → Atom p i n r → At p i 94 → ⊥
  no_start x = atom-not x 94 special-94 (λ e. omega (arith, e)) (λ e. omega (arith, e)) (λ e. omega (arith, e)) (λ e. omega (arith, e))

  no_end : {i n : ℕ} {r : Re} → Atom p i n r → At p i 36 → ⊥
  no_end x = atom-not x 36 special-36 (λ e. omega (arith, e)) (λ e. omega (arith, e)) (λ e. omega (arith, e)) (λ e. omega (arith, e))

  no-group : {A : Type 0} {i n : ℕ} {c : Class} → One p i n c → At p i 40 → A
  no-group x a = absurd ((one-begins x).not 40 special-40 (λ e. omega (arith, e)) (λ e. omega (arith, e)) (λ e. omega (arith, e)) a.byte)

  -- what stands behind the first piece, and behind the first branch
  pieces-still : {j n : ℕ} {a r : Re} → Pieces j a n r → Stop n → Still j
  pieces-still no-piece s = stop-still s
  pieces-still (piece-on x l) s = begins-still (piece-begins x)

  branches-stop : {j n : ℕ} {a r : Re} → Branches j a n r → StopAll n → Stop j
  branches-stop no-branch s = stop-all s
  branches-stop (branch-on b x l) s = s-bar b

  abbrev ExprOne : ℕ → Type 0
  ExprOne d = (i n m : ℕ) (r q : Re) → Expr p i n r → Expr p i m q → StopAll n → StopAll m → n ≤ i + d → Same Re r q n m

  module _ (d : ℕ) (inner : ExprOne d) where
    atom-one : {i n m : ℕ} {r q : Re} → Atom p i n r → Atom p i m q → n ≤ i + suc d → Same Re r q n m
    atom-one (a_one {i = i} x) (a_one y) l = let s = one_only x y in (ap (one i) s.0, s.1)
    atom-one (a_one x) (a-group b e c z) l = no-group x b
    atom-one (a-group a e b y) (a_one x) l = no-group x a
    atom-one (a-group {i = i} {j = j} {a = r} a e b y) (a-group {j = k} {a = q} c f g z) l =
        let s = inner (i + 1) j k r q e f (t-close b) (t-close g) (omega (arith, l, y)) in
        (s.0, y ∙ ap (λ (m : ℕ). m + 1) s.1 ∙ sym z)

    view-one : {i n m : ℕ} {r q : Re} → View i n r → View i m q → Still n → Still m → n ≤ i + suc d → Same Re r q n m
    view-one (v-start a y) (v-start b z) s t l = (refl, y ∙ sym z)
    view-one (v-start a y) (v-end b z) s t l = not-both 94 36 a b (λ e. omega (arith, e))
    view-one (v-start a y) (v-atom x g) s t l = absurd (no_start x a)
    view-one (v-end a y) (v-start b z) s t l = not-both 36 94 a b (λ e. omega (arith, e))
    view-one (v-end a y) (v-end b z) s t l = (refl, y ∙ sym z)
    view-one (v-end a y) (v-atom x g) s t l = absurd (no_end x a)
    view-one (v-atom x g) (v-start b z) s t l = absurd (no_start x b)
    view-one (v-atom x g) (v-end b z) s t l = absurd (no_end x b)
    view-one {m = m} {q = q} (v-atom {j = j} {a = a} x g) (v-atom {j = k} {a = b} y h) s t l =
        let w = atom-one x y (omega (arith, tail-on g, l)) in
        tail-one g (subst (λ (c : Re). Tail j m c q) (sym w.0) (subst (λ (e : ℕ). Tail e m b q) (sym w.1) h)) s t

    piece-one : {i n m : ℕ} {r q : Re} → Piece p i n r → Piece p i m q → Still n → Still m → n ≤ i + suc d → Same Re r q n m
    piece-one x y s t l = view-one (view x) (view y) s t l

    pieces-one : {j n m : ℕ} {a r q : Re} → Pieces j a n r → Pieces j a m q → Stop n → Stop m → n ≤ j + suc d → Same Re r q n m
    pieces-one no-piece no-piece s t l = (refl, refl)
    pieces-one no-piece (piece-on y k) s t l = absurd (begins-goes (piece-begins y) s)
    pieces-one (piece-on x h) no-piece s t l = absurd (begins-goes (piece-begins x) t)
    pieces-one {m = m} {a = a} {q = q} (piece-on {k = j} {b = b} x h) (piece-on {k = k} {b = c} y g) s t l =
        let w = piece-one x y (pieces-still h s) (pieces-still g t) (omega (arith, pieces-on h, l)) in
        pieces-one h (subst (λ (e : Re). Pieces j (cat a e) m q) (sym w.0) (subst (λ (e : ℕ). Pieces e (cat a c) m q) (sym w.1) g)) s t (omega (arith, piece-less x, l))

    branch_one : {i n m : ℕ} {r q : Re} → Branch p i n r → Branch p i m q → Stop n → Stop m → n ≤ i + suc d → Same Re r q n m
    branch_one {m = m} {q = q} x y s t l =
        let f = pieces x in
        let g = pieces y in
        let w = piece-one f.first g.first (pieces-still f.rest s) (pieces-still g.rest t) (omega (arith, pieces-on f.rest, l)) in
        pieces-one f.rest (subst (λ (e : Re). Pieces f.to e m q) (sym w.0) (subst (λ (e : ℕ). Pieces e g.tree m q) (sym w.1) g.rest)) s t
        (omega (arith, piece-less f.first, l))

    branches-one : {j n m : ℕ} {a r q : Re} → Branches j a n r → Branches j a m q → StopAll n → StopAll m → n ≤ j + suc d → Same Re r q n m
    branches-one no-branch no-branch s t l = (refl, refl)
    branches-one no-branch (branch-on b y g) s t l = absurd (no-bar s b)
    branches-one (branch-on b x h) no-branch s t l = absurd (no-bar t b)
    branches-one {m = m} {a = a} {q = q} (branch-on {k = j} {b = b} u x h) (branch-on {k = k} {b = c} v y g) s t l =
        let w = branch_one x y (branches-stop h s) (branches-stop g t) (omega (arith, branches-on h, l)) in
        branches-one h (subst (λ (e : Re). Branches j (alt a e) m q) (sym w.0) (subst (λ (e : ℕ). Branches e (alt a c) m q) (sym w.1) g)) s t (omega (arith, branch_less x, l))

    expr-one : ExprOne (suc d)
    expr-one i n m r q x y s t l =
        let f = branches x in
        let g = branches y in
        let w = branch_one f.first g.first (branches-stop f.rest s) (branches-stop g.rest t) (omega (arith, branches-on f.rest, l)) in
        branches-one f.rest (subst (λ (e : Re). Branches f.to e m q) (sym w.0) (subst (λ (e : ℕ). Branches e g.tree m q) (sym w.1) g.rest)) s t
        (omega (arith, branch_less f.first, l))

  expr-all : (d : ℕ) → ExprOne d
  expr-all zero i n m r q x y s t l = absurd (let bad : ⊥ = omega (arith, expr-less x, l) in bad)
  expr-all (suc d) i n m r q x y s t l = expr-one d (expr-all d) i n m r q x y s t l

  -- the tree of a pattern
  pub one-tree : (r q : Re) → Pattern p r → Pattern p q → r ≡ q
  one-tree r q x y = (expr-all (length p) 0 (length p) (length p) r q x.whole y.whole (t-end (le_refl _)) (t-end (le_refl _)) (omega arith)).0
