-- The parser accepts each pattern of the grammar, with what its tree says. Assumes nothing.
use Rattle.std.specs.Prelude.{◌≡◌, refl, true, List, ℕ, ◌+◌, ◌-◌, ◌*◌, ◌≤◌, eqb, ltb, length, get_or}
use Rattle.std.proofs.Common.{sym, ap, ◌∙◌, arith, lt-ltb, eq-eqb, ltb-true, eqb-true}
use Rattle.text.specs.Choice.{split}
use Rattle.pattern.specs.Tree.{Re}
use Rattle.pattern.specs.Grammar.{At, Expr, e-one, e-or, Branch, b-one, b-more, Piece, p-bol, p-eol, p_atom, p-star, p-plus, p_opt, Atom, a_one, a-group}
use Rattle.pattern.specs.Working.GrammarLaws.{one_less, expr-less, branch_less, piece-less, Begins, one-begins, piece-begins}
use Rattle.pattern.specs.Working.Places.{start_part, end_part, byte_part, sequence, choice, link}
use Rattle.pattern.specs.Bytes.{special}
use Rattle.pattern.specs.Working.Scan.{one_end}
use Rattle.pattern.specs.Working.OneLaws.{one-shows, special-40, special-94, special-36, special-124, special-41, special-42, special-43, special-63}
use Rattle.pattern.specs.Working.Meaning.{part_of, table_of}
use Rattle.pattern.specs.Working.Parse
use Rattle.pattern.specs.Working.Parse.{eat_at, Ran, ran, repeated, atom_at, piece_at, branch_rest_at, branch_at, expr_rest_at, expr_at}
use Rattle.pattern.specs.declared.places.Part.{Part}
use Rattle.pattern.specs.Working.Parse.{got}

eat-at : {p : List ℕ} {i b : ℕ} → At p i b → eat_at p i b ≡ i + 1
unfolding eat_at
eat-at {p} {i} {b} a = rw (lt-ltb i (length p) a.inside, eq-eqb (get_or p i 0) b a.byte)

eat-not : (p : List ℕ) (i b : ℕ) → (At p i b → ⊥) → eat_at p i b ≡ i
unfolding eat_at
eat-not p i b n = split (ltb i (length p))
    (λ f. split (eqb (get_or p i 0) b) (λ g. absurd (n (record { inside = ltb-true _ _ f; byte = eqb-true _ _ g }))) (λ g. rw (f, g)))
    (λ f. rw f)

moved : {p : List ℕ} {i b : ℕ} → At p i b → eat_at p i b ≡ i → ⊥
moved a e = omega (arith, eat-at a, e)

apart : {p : List ℕ} {i b : ℕ} (c : ℕ) → At p i b → (b ≡ c → ⊥) → At p i c → ⊥
apart c a n x = n (sym a.byte ∙ x.byte)

record NoRepeat (p : List ℕ) (n : ℕ) : Type 0 where
  pub no-star : At p n 42 → ⊥
  pub no_plus : At p n 43 → ⊥
  pub no-opt : At p n 63 → ⊥

begins-plain : {p : List ℕ} {n : ℕ} → Begins p n → NoRepeat p n
begins-plain b = record {
  no-star = λ a. b.not 42 special-42 (λ e. omega arith) (λ e. omega arith) (λ e. omega arith) (λ e. omega arith) (λ e. omega arith) (λ e. omega arith) a.byte;
  no_plus = λ a. b.not 43 special-43 (λ e. omega arith) (λ e. omega arith) (λ e. omega arith) (λ e. omega arith) (λ e. omega arith) (λ e. omega arith) a.byte;
  no-opt = λ a. b.not 63 special-63 (λ e. omega arith) (λ e. omega arith) (λ e. omega arith) (λ e. omega arith) (λ e. omega arith) (λ e. omega arith) a.byte;
}

-- what stands behind a branch
data Stop (p : List ℕ) (n : ℕ) : Type 0 where
  s-end : length p ≤ n → Stop p n
  s-bar : At p n 124 → Stop p n
  s-close : At p n 41 → Stop p n

stop-plain : {p : List ℕ} {n : ℕ} → Stop p n → NoRepeat p n
stop-plain (s-end h) = record { no-star = λ a. omega (arith, a.inside); no_plus = λ a. omega (arith, a.inside); no-opt = λ a. omega (arith, a.inside) }
stop-plain (s-bar b) = record { no-star = apart 42 b (λ e. omega arith); no_plus = apart 43 b (λ e. omega arith); no-opt = apart 63 b (λ e. omega arith) }
stop-plain (s-close b) = record { no-star = apart 42 b (λ e. omega arith); no_plus = apart 43 b (λ e. omega arith); no-opt = apart 63 b (λ e. omega arith) }

branch-stops : (p : List ℕ) (d : ℕ) (f : Part) (n : ℕ) (u : List ℕ) → (d ≡ 0 → ⊥) → Stop p n → branch_rest_at d p f n u ≡ ran (got f n) u
branch-stops p d f n u z (s-end h) = sym (Parse.branch-start d z p f n u) ∙ sym (Parse.branch-end (d - 1) p f n u _ refl h)
branch-stops p d f n u z (s-bar a) = sym (Parse.branch-start d z p f n u) ∙ sym (Parse.branch-bar (d - 1) p f n u _ refl a.inside a.byte)
branch-stops p d f n u z (s-close a) = sym (Parse.branch-start d z p f n u) ∙ sym (Parse.branch-closed (d - 1) p f n u _ refl a.inside (λ e. omega (arith, a.byte, e)) a.byte)

-- what stands behind an expression
pub data StopAll (p : List ℕ) (n : ℕ) : Type 0 where
  t-end : length p ≤ n → StopAll p n
  t-close : At p n 41 → StopAll p n

stop-all : {p : List ℕ} {n : ℕ} → StopAll p n → Stop p n
stop-all (t-end h) = s-end h
stop-all (t-close a) = s-close a

expr-stops : (p : List ℕ) (d : ℕ) (f : Part) (n : ℕ) (u : List ℕ) → (d ≡ 0 → ⊥) → StopAll p n → expr_rest_at d p f n u ≡ ran (got f n) u
expr-stops p d f n u z (t-end h) = sym (Parse.expr-start d z p f n u) ∙ sym (Parse.expr-end (d - 1) p f n u _ refl h)
expr-stops p d f n u z (t-close a) = sym (Parse.expr-start d z p f n u) ∙ sym (Parse.expr-other (d - 1) p f n u _ refl a.inside (λ e. omega (arith, a.byte, e)))

atom-not : {p : List ℕ} {i n : ℕ} {r : Re} → Atom p i n r → (b : ℕ) → special b ≡ true → (b ≡ 46 → ⊥) → (b ≡ 92 → ⊥) → (b ≡ 91 → ⊥) → (b ≡ 40 → ⊥) → At p i b → ⊥
atom-not (a_one x) b s u v w y a = (one-begins x).not b s u v w a.byte
atom-not (a-group c e d z) b s u v w y a = y (sym a.byte ∙ c.byte)

-- an atom and what stands behind it
module _ (p : List ℕ) {i m : ℕ} {r : Re} (x : Atom p i m r) (d : ℕ) (z : d ≡ 0 → ⊥) (t : List ℕ) (w : atom_at (d - 1) p i t ≡ ran (got (part_of r) m) (table_of r t)) where
  behind : (y : Ran) → y ≡ repeated p (part_of r) m (table_of r t) → piece_at d p i t ≡ y
  behind y ye = sym (Parse.piece-atom d p i t z (eat-not p i 94 (atom-not x 94 special-94 (λ e. omega arith) (λ e. omega arith) (λ e. omega arith) (λ e. omega arith)))
      (eat-not p i 36 (atom-not x 36 special-36 (λ e. omega arith) (λ e. omega arith) (λ e. omega arith) (λ e. omega arith)))
      (got (part_of r) m) (table_of r t) (sym w) (record { part = part_of r; next = m }) refl y ye)

mutual
  unfolding part_of table_of

  atom-shows : (p : List ℕ) {i n : ℕ} {r : Re} → Atom p i n r → (d : ℕ) → 6 * (n - i) ≤ d → (t : List ℕ) → atom_at d p i t ≡ ran (got (part_of r) n) (table_of r t)
  atom-shows p (a_one {i = i} {j = j} x) d l t =
      let o = one-shows p x in let b = one-begins x in
      sym (Parse.atom-one d p i t (λ z. omega (arith, one_less x))
      (eat-not p i 40 (λ a. b.not 40 special-40 (λ e. omega arith) (λ e. omega arith) (λ e. omega arith) a.byte)) (one_end p i) refl (record { at = j; hit = o.hit }) o.ended (byte_part i) refl)
  atom-shows p (a-group {i = i} {j = j} {k = k} {a = r} a e b z) d l t =
      let w = expr-shows p e (s-close b) (d - 1) (omega (arith, expr-less e)) t ∙ expr-stops p (d - 1 - 1) (part_of r) j (table_of r t) (λ y. omega (arith, expr-less e)) (t-close b) in
      sym (Parse.atom-group d p i t (λ y. omega (arith, expr-less e)) (eat_at p i 40) (refl, moved a) (got (part_of r) j) (table_of r t)
      (sym (ap (λ (m : ℕ). expr_at (d - 1) p m t) (eat-at a) ∙ w)) (record { part = part_of r; next = j }) refl k (z ∙ sym (eat-at b), λ y. omega arith))

  piece-shows : (p : List ℕ) {i n : ℕ} {r : Re} → Piece p i n r → NoRepeat p n → (d : ℕ) → 6 * (n - i) + 1 ≤ d → (t : List ℕ) → piece_at d p i t ≡ ran (got (part_of r) n) (table_of r t)
  piece-shows p (p-bol {i = i} {j = j} a z) q d l t = sym (Parse.piece-bol d p i t (λ y. omega arith) j (z ∙ sym (eat-at a), λ y. omega arith) start_part refl)
  piece-shows p (p-eol {i = i} {j = j} a z) q d l t =
      sym (Parse.piece-eol d p i t (λ y. omega arith) (eat-not p i 94 (apart 94 a (λ e. omega arith))) j (z ∙ sym (eat-at a), λ y. omega arith) end_part refl)
  piece-shows p (p_atom {i = i} {j = j} {a = r} x) q d l t =
      behind p x d (λ y. omega arith) t (atom-shows p x (d - 1) (omega arith) t) _
      (Parse.way-once p (part_of r) j (table_of r t) (eat-not p j 42 q.no-star) (eat-not p j 43 q.no_plus) (eat-not p j 63 q.no-opt))
  piece-shows p (p-star {i = i} {j = j} {k = k} {a = r} x a z) q d l t =
      behind p x d (λ y. omega arith) t (atom-shows p x (d - 1) (omega arith) t) _
      (Parse.way-star p (part_of r) j (table_of r t) k (z ∙ sym (eat-at a), λ y. omega arith) _ refl _ refl)
  piece-shows p (p-plus {i = i} {j = j} {k = k} {a = r} x a z) q d l t =
      behind p x d (λ y. omega arith) t (atom-shows p x (d - 1) (omega arith) t) _
      (Parse.way-plus p (part_of r) j (table_of r t) (eat-not p j 42 (apart 42 a (λ e. omega arith))) k (z ∙ sym (eat-at a), λ y. omega arith) _ refl)
  piece-shows p (p_opt {i = i} {j = j} {k = k} {a = r} x a z) q d l t =
      behind p x d (λ y. omega arith) t (atom-shows p x (d - 1) (omega arith) t) _
      (Parse.way-opt p (part_of r) j (table_of r t) (eat-not p j 42 (apart 42 a (λ e. omega arith))) (eat-not p j 43 (apart 43 a (λ e. omega arith)))
      k (z ∙ sym (eat-at a), λ y. omega arith) _ refl)

  branch-shows : (p : List ℕ) {i n : ℕ} {r : Re} → Branch p i n r → NoRepeat p n → (d : ℕ) → 6 * (n - i) + 3 ≤ d → (t : List ℕ) → branch_at d p i t ≡ branch_rest_at (d - 1) p (part_of r) n (table_of r t)
  branch-shows p (b-one {i = i} {j = n} {a = r} x) q d l t =
      sym (Parse.branch-more d p i t (λ y. omega arith) (got (part_of r) n) (table_of r t) (sym (piece-shows p x q (d - 1) (omega arith) t)) (record { part = part_of r; next = n }) refl _ refl)
  branch-shows p (b-more {i = i} {j = j} {k = n} {a = a} {b = b} x y) q d l t =
      let g = piece-begins y in
      branch-shows p x (begins-plain g) d (omega (arith, piece-less y, branch_less x)) t
      ∙ sym (Parse.branch-start (d - 1) (λ z. omega arith) p (part_of a) j (table_of a t))
      ∙ sym (Parse.branch-next (d - 1 - 1) p (part_of a) j (table_of a t) _ refl g.inside
      (λ e. g.not 124 special-124 (λ z. omega arith) (λ z. omega arith) (λ z. omega arith) (λ z. omega arith) (λ z. omega arith) (λ z. omega arith) e)
      (λ e. g.not 41 special-41 (λ z. omega arith) (λ z. omega arith) (λ z. omega arith) (λ z. omega arith) (λ z. omega arith) (λ z. omega arith) e)
      (got (part_of b) n) (table_of b (table_of a t)) (sym (piece-shows p y q (d - 1 - 1) (omega (arith, branch_less x, piece-less y)) (table_of a t))) (record { part = part_of b; next = n }) refl (piece-less y) _ refl _ refl)
      ∙ Parse.branch-start (d - 1) (λ z. omega arith) p (sequence (part_of a) (part_of b)) n (link (table_of b (table_of a t)) (part_of a).lm (part_of b).fm)

  expr-shows : (p : List ℕ) {i n : ℕ} {r : Re} → Expr p i n r → Stop p n → (d : ℕ) → 6 * (n - i) + 5 ≤ d → (t : List ℕ) → expr_at d p i t ≡ expr_rest_at (d - 1) p (part_of r) n (table_of r t)
  expr-shows p (e-one {i = i} {j = n} {a = r} b) s d l t =
      sym (Parse.expr-more d p i t (λ y. omega arith) (got (part_of r) n) (table_of r t)
      (sym (branch-shows p b (stop-plain s) (d - 1) (omega arith) t ∙ branch-stops p (d - 1 - 1) (part_of r) n (table_of r t) (λ z. omega arith) s)) (record { part = part_of r; next = n }) refl _ refl)
  expr-shows p (e-or {i = i} {j = j} {k = n} {a = a} {b = b} x c y) s d l t =
      expr-shows p x (s-bar c) d (omega (arith, branch_less y, expr-less x)) t
      ∙ sym (Parse.expr-start (d - 1) (λ z. omega arith) p (part_of a) j (table_of a t))
      ∙ sym (Parse.expr-next (d - 1 - 1) p (part_of a) j (table_of a t) _ refl c.inside c.byte (got (part_of b) n) (table_of b (table_of a t))
      (sym (branch-shows p y (stop-plain s) (d - 1 - 1) (omega (arith, expr-less x, branch_less y)) (table_of a t)
      ∙ branch-stops p (d - 1 - 1 - 1) (part_of b) n (table_of b (table_of a t)) (λ z. omega (arith, expr-less x, branch_less y)) s)) (record { part = part_of b; next = n }) refl (omega (arith, branch_less y)) _ refl)
      ∙ Parse.expr-start (d - 1) (λ z. omega arith) p (choice (part_of a) (part_of b)) n (table_of b (table_of a t))

pub expr-all : (p : List ℕ) {i n : ℕ} {r : Re} → Expr p i n r → StopAll p n → (d : ℕ) → 6 * (n - i) + 5 ≤ d → (t : List ℕ) → expr_at d p i t ≡ ran (got (part_of r) n) (table_of r t)
expr-all p {i} {n} {r} e s d l t = expr-shows p e (stop-all s) d l t ∙ expr-stops p (d - 1) (part_of r) n (table_of r t) (λ z. omega arith) s
