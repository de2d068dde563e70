-- What the parser accepts is a pattern of the grammar, and what it leaves is its tree's. Assumes nothing.
use Rattle.std.specs.Prelude.{◌≡◌, refl, false, ℕ, zero, suc, ◌+◌, ◌-◌, ◌<◌, ◌≤◌, eqb, ltb, leb, length, get_or, Some, None}
use Rattle.std.proofs.Math.Path.{sym, ap}
use Rattle.std.proofs.Common.{◌∙◌, subst, arith, eq-eqb, ltb-true, leb-true, leb-false, eqb-true}
use mathlib.Core.List.{List}
use Rattle.std.proofs.lemmas.Bool.{eqb-false}
use Rattle.text.specs.Choice.{clash, split}
use Rattle.pattern.specs.Tree.{Re, bol, eol, one, cat, alt, star, plus, opt}
use Rattle.pattern.specs.Grammar.{At, Expr, e-one, e-or, Branch, b-one, b-more, Piece, p-bol, p-eol, p_atom, p-star, p-plus, p_opt, Atom, a_one, a-group}
use Rattle.pattern.specs.Working.Places.{start_part, end_part, sequence, choice, or_empty, link}
use Rattle.pattern.specs.Working.Scan.{Scan, fits, one_end}
use Rattle.pattern.specs.Working.OneLaws.{one-sound}
use Rattle.pattern.specs.Working.Meaning.{part_of, table_of}
use Rattle.pattern.specs.Working.Parse
use Rattle.pattern.specs.Working.Parse.{eat_at, Ran, ran, got, on_got, on_end, atom_body, repeated, piece_body, atom_at, piece_at, branch_rest_at, branch_at, expr_rest_at, expr_at}
use Rattle.pattern.specs.declared.places.Part.{Part}

pub bad-got : {P : Type 0} {t u : List ℕ} {f : Part} {n : ℕ} → ran None t ≡ ran (got f n) u → P
bad-got e = absurd (let z : ◌≡◌ {A = ℕ} 0 1 = cc in omega arith)

pub got-part : {t u : List ℕ} {f g : Part} {m n : ℕ} → ran (got f m) t ≡ ran (got g n) u → f ≡ g
got-part {g = g} e = ap (λ (x : Ran). part_in g x) e
  where
    part_in : Part → Ran → Part
    part_in g (ran None t) = g
    part_in g (ran (Some x) t) = x.part

pub got-next : {t u : List ℕ} {f g : Part} {m n : ℕ} → ran (got f m) t ≡ ran (got g n) u → m ≡ n
got-next {n = n} e = ap (λ (x : Ran). next_in n x) e
  where
    next_in : ℕ → Ran → ℕ
    next_in n (ran None t) = n
    next_in n (ran (Some x) t) = x.next

pub got-table : {t u : List ℕ} {f g : Part} {m n : ℕ} → ran (got f m) t ≡ ran (got g n) u → t ≡ u
got-table e = cc

record Moved (p : List ℕ) (i b : ℕ) : Type 0 where
  pub at : At p i b
  pub to : eat_at p i b ≡ i + 1

eat-moved : (p : List ℕ) (i b : ℕ) → eqb (eat_at p i b) i ≡ false → Moved p i b
unfolding eat_at
eat-moved p i b e = split (ltb i (length p))
    (λ f. split (eqb (get_or p i 0) b) (λ g. record { at = record { inside = ltb-true _ _ f; byte = eqb-true _ _ g }; to = rw (f, g) })
    (λ g. clash (eq-eqb i i refl) (rw (f, g) at e)))
    (λ f. clash (eq-eqb i i refl) (rw f at e))

-- a tree that is derived, whose part and table are these
pub record As (G : ℕ → ℕ → Re → Type 0) (i n : ℕ) (t : List ℕ) (f : Part) (u : List ℕ) : Type 0 where
  pub tree : Re
  pub derived : G i n tree
  pub known : f ≡ part_of tree
  pub table : u ≡ table_of tree t

abbrev Sure : (ℕ → ℕ → Re → Type 0) → (ℕ → List ℕ → Ran) → Type 0
Sure G r = (i : ℕ) (t : List ℕ) (f : Part) (n : ℕ) (u : List ℕ) → r i t ≡ ran (got f n) u → As G i n t f u

-- what was got before
record Before (x : Ran) (k : Part → ℕ → List ℕ → Ran) (f : Part) (n : ℕ) (u : List ℕ) : Type 0 where
  pub part : Part
  pub place : ℕ
  pub table : List ℕ
  pub was : x ≡ ran (got part place) table
  pub then : k part place table ≡ ran (got f n) u

before : (x : Ran) (k : Part → ℕ → List ℕ → Ran) (f : Part) (n : ℕ) (u : List ℕ) → on_got x k ≡ ran (got f n) u → Before x k f n u
before (ran None t) k f n u e = bad-got e
before (ran (Some x) t) k f n u e = record { part = x.part; place = x.next; table = t; was = refl; then = e }

module _ (p : List ℕ) where
  end-atom : (x : Scan) (i : ℕ) (t : List ℕ) (f : Part) (n : ℕ) (u : List ℕ) → one_end p i ≡ x → on_end x i t ≡ ran (got f n) u → As (Atom p) i n t f u
  unfolding part_of table_of
  end-atom None i t f n u w e = bad-got e
  end-atom (Some x) i t f n u w e =
      let o = one-sound p i n x.hit (w ∙ ap (λ (k : ℕ). fits k x.hit) (got-next e)) in
      record { tree = one i o.class; derived = a_one o.derived; known = sym (got-part e); table = sym (got-table e) }

  atom-sure : (E : ℕ → List ℕ → Ran) → Sure (Expr p) E → Sure (Atom p) (λ i t. atom_body E p i t)
  atom-sure E hE i t f n u e = split (eqb (eat_at p i 40) i)
      (λ a. end-atom (one_end p i) i t f n u refl (rw a at e))
      (λ a. let m = eat-moved p i 40 a in
      let b = before (E (eat_at p i 40) t) _ f n u (rw a at e) in
      let x = hE (eat_at p i 40) t b.part b.place b.table b.was in
      split (eqb (eat_at p b.place 41) b.place)
      (λ c. bad-got (rw c at b.then))
      (λ c. let o = eat-moved p b.place 41 c in
      let w : ran (got b.part (eat_at p b.place 41)) b.table ≡ ran (got f n) u = rw c at b.then in
      record { tree = x.tree; derived = a-group m.at (subst (λ (k : ℕ). Expr p k b.place x.tree) m.to x.derived) o.at (sym (got-next w) ∙ o.to); known = sym (got-part w) ∙ x.known; table = sym (got-table w) ∙ x.table }))

  repeat-sure : (i m : ℕ) (t₀ : List ℕ) (g : Part) (t : List ℕ) → As (Atom p) i m t₀ g t → (f : Part) (n : ℕ) (u : List ℕ) → repeated p g m t ≡ ran (got f n) u → As (Piece p) i n t₀ f u
  unfolding repeated part_of table_of
  repeat-sure i m t₀ g t x f n u e = split (eqb (eat_at p m 42) m)
      (λ a. split (eqb (eat_at p m 43) m)
      (λ b. split (eqb (eat_at p m 63) m)
      (λ c. let w : ran (got g m) t ≡ ran (got f n) u = rw (a, b, c) at e in
      record { tree = x.tree; derived = p_atom (subst (λ (k : ℕ). Atom p i k x.tree) (got-next w) x.derived); known = sym (got-part w) ∙ x.known; table = sym (got-table w) ∙ x.table })
      (λ c. let w : ran (got (or_empty g) (eat_at p m 63)) t ≡ ran (got f n) u = rw (a, b, c) at e in
      let o = eat-moved p m 63 c in
      record { tree = opt x.tree; derived = p_opt x.derived o.at (sym (got-next w) ∙ o.to); known = sym (got-part w) ∙ ap or_empty x.known; table = sym (got-table w) ∙ x.table }))
      (λ b. let w : ran (got g (eat_at p m 43)) (link t g.lm g.fm) ≡ ran (got f n) u = rw (a, b) at e in
      let o = eat-moved p m 43 b in
      record {
        tree = plus x.tree;
        derived = p-plus x.derived o.at (sym (got-next w) ∙ o.to);
        known = sym (got-part w) ∙ x.known;
        table = sym (got-table w) ∙ linked x.known x.table;
      }))
      (λ a. let w : ran (got (or_empty g) (eat_at p m 42)) (link t g.lm g.fm) ≡ ran (got f n) u = rw a at e in
      let o = eat-moved p m 42 a in
      record {
        tree = star x.tree;
        derived = p-star x.derived o.at (sym (got-next w) ∙ o.to);
        known = sym (got-part w) ∙ ap or_empty x.known;
        table = sym (got-table w) ∙ linked x.known x.table;
      })
    where
      linked : {k : Part} {v : List ℕ} → g ≡ k → t ≡ v → link t g.lm g.fm ≡ link v k.lm k.fm
      linked e₁ e₂ = cc

  piece-sure : (A : ℕ → List ℕ → Ran) → Sure (Atom p) A → Sure (Piece p) (λ i t. piece_body A p i t)
  unfolding part_of table_of
  piece-sure A hA i t f n u e = split (eqb (eat_at p i 94) i)
      (λ a. split (eqb (eat_at p i 36) i)
      (λ b. let c = before (A i t) _ f n u (rw (a, b) at e) in
      repeat-sure i c.place t c.part c.table (hA i t c.part c.place c.table c.was) f n u c.then)
      (λ b. let w : ran (got end_part (eat_at p i 36)) t ≡ ran (got f n) u = rw (a, b) at e in
      let o = eat-moved p i 36 b in
      record { tree = eol; derived = p-eol o.at (sym (got-next w) ∙ o.to); known = sym (got-part w); table = sym (got-table w) }))
      (λ a. let w : ran (got start_part (eat_at p i 94)) t ≡ ran (got f n) u = rw a at e in
      let o = eat-moved p i 94 a in
      record { tree = bol; derived = p-bol o.at (sym (got-next w) ∙ o.to); known = sym (got-part w); table = sym (got-table w) })

as_is : {G : ℕ → ℕ → Re → Type 0} {i n : ℕ} {t : List ℕ} {f : Part} {u : List ℕ} (g : Part) (m : ℕ) (v : List ℕ) → As G i n t f u → ran (got f n) u ≡ ran (got g m) v → As G i m t g v
as_is {G} {i} g m v x e = record { tree = x.tree; derived = subst (λ (k : ℕ). G i k x.tree) (got-next e) x.derived; known = sym (got-part e) ∙ x.known; table = sym (got-table e) ∙ x.table }

module _ (p : List ℕ) (k : ℕ) where
  module _ (hP : Sure (Piece p) (λ i t. piece_at k p i t)) (i₀ : ℕ) (t₀ : List ℕ) (g : Part) (m : ℕ) (w : List ℕ) where
    longer : {i n : ℕ} {f h : Part} {t v : List ℕ} → As (Branch p) i₀ i t₀ f t → As (Piece p) i n t h v → As (Branch p) i₀ n t₀ (sequence f h) (link v f.lm h.fm)
    unfolding part_of table_of
    longer {i} {n} {f} {h} {t} {v} x y = record {
      tree = cat x.tree y.tree;
      derived = b-more x.derived y.derived;
      known = both x.known y.known;
      table = tables x.known y.known (y.table ∙ ap (table_of y.tree) x.table);
    }
      where
        both : {a b : Part} → f ≡ a → h ≡ b → sequence f h ≡ sequence a b
        both e₁ e₂ = cc

        tables : {a b : Part} {z : List ℕ} → f ≡ a → h ≡ b → v ≡ z → link v f.lm h.fm ≡ link z a.lm b.fm
        tables e₁ e₂ e₃ = cc

    branch-case : (f : Part) (i : ℕ) (t : List ℕ)
        → ((h : Part) (n : ℕ) (v : List ℕ) → i < n → As (Branch p) i₀ n t₀ h v → Parse.branch_rest k p h n v ≡ ran (got g m) w → As (Branch p) i₀ m t₀ g w)
        → i < length p → (get_or p i 0 ≡ 124 → ⊥) → (get_or p i 0 ≡ 41 → ⊥) → As (Branch p) i₀ i t₀ f t → (x : Ran) → x ≡ piece_at k p i t
        → Parse.branch_rest k p f i t ≡ ran (got g m) w → As (Branch p) i₀ m t₀ g w
    branch-case f i t ih h n₁ n₂ y (ran None v) xe e = bad-got (Parse.branch-piece-bad k p f i t _ refl h n₁ n₂ None v xe refl ∙ e)
    branch-case f i t ih h n₁ n₂ y (ran (Some x) v) xe e = split (leb x.next i)
        (λ l. bad-got (Parse.branch_stuck k p f i t _ refl h n₁ n₂ (Some x) v xe x refl (leb-true _ _ l) ∙ e))
        (λ l. ih (sequence f x.part) x.next (link v f.lm x.part.fm) (leb-false _ _ l) (longer y (hP i t x.part x.next v (sym xe)))
        (Parse.branch-next k p f i t _ refl h n₁ n₂ (Some x) v xe x refl (leb-false _ _ l) _ refl _ refl ∙ e))

    branch-sure : (c : ℕ) (f : Part) (i : ℕ) (t : List ℕ) → length p - i ≤ c → As (Branch p) i₀ i t₀ f t → Parse.branch_rest k p f i t ≡ ran (got g m) w → As (Branch p) i₀ m t₀ g w
    branch-sure zero f i t l y e = as_is g m w y (Parse.branch-end k p f i t _ refl (omega arith) ∙ e)
    branch-sure (suc c) f i t l y e = split (leb (length p) i)
        (λ a. as_is g m w y (Parse.branch-end k p f i t _ refl (leb-true _ _ a) ∙ e))
        (λ a. let h = leb-false (length p) i a in split (eqb (get_or p i 0) 124)
        (λ b. as_is g m w y (Parse.branch-bar k p f i t _ refl h (eqb-true _ _ b) ∙ e))
        (λ b. split (eqb (get_or p i 0) 41)
        (λ z. as_is g m w y (Parse.branch-closed k p f i t _ refl h (eqb-false _ _ b) (eqb-true _ _ z) ∙ e))
        (λ z. branch-case f i t (λ q n v o x s. branch-sure c q n v (omega arith) x s) h (eqb-false _ _ b) (eqb-false _ _ z) y (piece_at k p i t) refl e)))

  module _ (hB : Sure (Branch p) (λ i t. branch_at k p i t)) (i₀ : ℕ) (t₀ : List ℕ) (g : Part) (m : ℕ) (w : List ℕ) where
    other-branch : {i n : ℕ} {f h : Part} {t v : List ℕ} → At p i 124 → As (Expr p) i₀ i t₀ f t → As (Branch p) (i + 1) n t h v → As (Expr p) i₀ n t₀ (choice f h) v
    unfolding part_of table_of
    other-branch {i} {n} {f} {h} {t} {v} a x y = record {
      tree = alt x.tree y.tree;
      derived = e-or x.derived a y.derived;
      known = both x.known y.known;
      table = y.table ∙ ap (table_of y.tree) x.table;
    }
      where
        both : {a b : Part} → f ≡ a → h ≡ b → choice f h ≡ choice a b
        both e₁ e₂ = cc

    expr-case : (f : Part) (i : ℕ) (t : List ℕ)
        → ((h : Part) (n : ℕ) (v : List ℕ) → i < n → As (Expr p) i₀ n t₀ h v → Parse.expr_rest k p h n v ≡ ran (got g m) w → As (Expr p) i₀ m t₀ g w)
        → i < length p → get_or p i 0 ≡ 124 → As (Expr p) i₀ i t₀ f t → (x : Ran) → x ≡ branch_at k p (i + 1) t
        → Parse.expr_rest k p f i t ≡ ran (got g m) w → As (Expr p) i₀ m t₀ g w
    expr-case f i t ih h b y (ran None v) xe e = bad-got (Parse.expr-branch-bad k p f i t _ refl h b None v xe refl ∙ e)
    expr-case f i t ih h b y (ran (Some x) v) xe e = split (leb x.next i)
        (λ l. bad-got (Parse.expr-stuck k p f i t _ refl h b (Some x) v xe x refl (leb-true _ _ l) ∙ e))
        (λ l. ih (choice f x.part) x.next v (leb-false _ _ l) (other-branch (record { inside = h; byte = b }) y (hB (i + 1) t x.part x.next v (sym xe)))
        (Parse.expr-next k p f i t _ refl h b (Some x) v xe x refl (leb-false _ _ l) _ refl ∙ e))

    expr-sure : (c : ℕ) (f : Part) (i : ℕ) (t : List ℕ) → length p - i ≤ c → As (Expr p) i₀ i t₀ f t → Parse.expr_rest k p f i t ≡ ran (got g m) w → As (Expr p) i₀ m t₀ g w
    expr-sure zero f i t l y e = as_is g m w y (Parse.expr-end k p f i t _ refl (omega arith) ∙ e)
    expr-sure (suc c) f i t l y e = split (leb (length p) i)
        (λ a. as_is g m w y (Parse.expr-end k p f i t _ refl (leb-true _ _ a) ∙ e))
        (λ a. let h = leb-false (length p) i a in split (eqb (get_or p i 0) 124)
        (λ b. expr-case f i t (λ q n v o x s. expr-sure c q n v (omega arith) x s) h (eqb-true _ _ b) y (branch_at k p (i + 1) t) refl e)
        (λ b. as_is g m w y (Parse.expr-other k p f i t _ refl h (eqb-false _ _ b) ∙ e)))

pub rest-suc : (d : ℕ) (p : List ℕ) (f : Part) (i : ℕ) (t : List ℕ) → branch_rest_at (suc d) p f i t ≡ Parse.branch_rest d p f i t
unfolding atom_at Parse.branch_rest
rest-suc d p f i t = refl

pub rest-suc-expr : (d : ℕ) (p : List ℕ) (f : Part) (i : ℕ) (t : List ℕ) → expr_rest_at (suc d) p f i t ≡ Parse.expr_rest d p f i t
unfolding atom_at Parse.expr_rest
rest-suc-expr d p f i t = refl

branch-of : {p : List ℕ} {i n : ℕ} {t : List ℕ} {f : Part} {u : List ℕ} → As (Piece p) i n t f u → As (Branch p) i n t f u
branch-of x = record { tree = x.tree; derived = b-one x.derived; known = x.known; table = x.table }

expr-of : {p : List ℕ} {i n : ℕ} {t : List ℕ} {f : Part} {u : List ℕ} → As (Branch p) i n t f u → As (Expr p) i n t f u
expr-of x = record { tree = x.tree; derived = e-one x.derived; known = x.known; table = x.table }

mutual
  unfolding atom_at

  pub atom-at-sure : (p : List ℕ) (d : ℕ) (i : ℕ) (t : List ℕ) (f : Part) (n : ℕ) (u : List ℕ) → atom_at d p i t ≡ ran (got f n) u → As (Atom p) i n t f u
  atom-at-sure p zero i t f n u e = bad-got e
  atom-at-sure p (suc d) i t f n u e = atom-sure p (λ j v. expr_at d p j v) (λ j v g m w x. expr-at-sure p d j v g m w x) i t f n u e

  pub piece-at-sure : (p : List ℕ) (d : ℕ) (i : ℕ) (t : List ℕ) (f : Part) (n : ℕ) (u : List ℕ) → piece_at d p i t ≡ ran (got f n) u → As (Piece p) i n t f u
  piece-at-sure p zero i t f n u e = bad-got e
  piece-at-sure p (suc d) i t f n u e = piece-sure p (λ j v. atom_at d p j v) (λ j v g m w x. atom-at-sure p d j v g m w x) i t f n u e

  pub branch-rest-sure : (p : List ℕ) (d : ℕ) (i₀ : ℕ) (t₀ : List ℕ) (g : Part) (m : ℕ) (w : List ℕ) (f : Part) (i : ℕ) (t : List ℕ)
      → As (Branch p) i₀ i t₀ f t → branch_rest_at d p f i t ≡ ran (got g m) w → As (Branch p) i₀ m t₀ g w
  branch-rest-sure p zero i₀ t₀ g m w f i t y e = bad-got e
  branch-rest-sure p (suc d) i₀ t₀ g m w f i t y e = branch-sure p d (λ j v h n z x. piece-at-sure p d j v h n z x) i₀ t₀ g m w (length p) f i t (omega arith) y (sym (rest-suc d p f i t) ∙ e)

  pub branch-at-sure : (p : List ℕ) (d : ℕ) (i : ℕ) (t : List ℕ) (f : Part) (n : ℕ) (u : List ℕ) → branch_at d p i t ≡ ran (got f n) u → As (Branch p) i n t f u
  branch-at-sure p zero i t f n u e = bad-got e
  branch-at-sure p (suc d) i t f n u e =
      let b = before (piece_at d p i t) (λ g m w. branch_rest_at d p g m w) f n u e in
      branch-rest-sure p d i t f n u b.part b.place b.table (branch-of (piece-at-sure p d i t b.part b.place b.table b.was)) b.then

  pub expr-rest-sure : (p : List ℕ) (d : ℕ) (i₀ : ℕ) (t₀ : List ℕ) (g : Part) (m : ℕ) (w : List ℕ) (f : Part) (i : ℕ) (t : List ℕ)
      → As (Expr p) i₀ i t₀ f t → expr_rest_at d p f i t ≡ ran (got g m) w → As (Expr p) i₀ m t₀ g w
  expr-rest-sure p zero i₀ t₀ g m w f i t y e = bad-got e
  expr-rest-sure p (suc d) i₀ t₀ g m w f i t y e = expr-sure p d (λ j v h n z x. branch-at-sure p d j v h n z x) i₀ t₀ g m w (length p) f i t (omega arith) y (sym (rest-suc-expr d p f i t) ∙ e)

  pub expr-at-sure : (p : List ℕ) (d : ℕ) (i : ℕ) (t : List ℕ) (f : Part) (n : ℕ) (u : List ℕ) → expr_at d p i t ≡ ran (got f n) u → As (Expr p) i n t f u
  expr-at-sure p zero i t f n u e = bad-got e
  expr-at-sure p (suc d) i t f n u e =
      let b = before (branch_at d p i t) (λ g m w. expr_rest_at d p g m w) f n u e in
      expr-rest-sure p d i t f n u b.part b.place b.table (expr-of (branch-at-sure p d i t b.part b.place b.table b.was)) b.then
