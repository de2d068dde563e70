-- The parser as the code has it: what is known of the pattern's part, where it ends, and the table that it leaves. Assumes nothing.
use Rattle.std.specs.Prelude.{◌≡◌, refl, eqb, ltb, leb, length, get_or, Option, Some, None, MatchOption}
use Rattle.std.proofs.Math.Path.{sym, ap}
use Rattle.std.proofs.Common.{◌∙◌, arith}
use mathlib.Core.List.{List}
use Prim.Native.Nat.{ℕ, zero, suc, ◌+◌, ◌-◌, ◌<◌, ◌≤◌}
use borrow.Author.Tests.{lt-ltb, le-ltb, le-leb, lt-leb, eq-eqb, ne_eqb}
use Rattle.text.specs.Choice.{pick, split}
use Rattle.text.specs.Loop.{Step, next, done, loop, loop-next, loop-done}
use Rattle.pattern.specs.Working.Places.{start_part, end_part, byte_part, sequence, choice, or_empty, link}
use Rattle.pattern.specs.Working.Scan.{Scan, one_end}
use Rattle.pattern.specs.declared.places.Part.{Part}
use Rattle.pattern.specs.declared.atoms.End.{End}
use Rattle.pattern.specs.declared.reader.Parsed.{Parsed}

-- the part that was parsed, and where it ends
abbrev pub got : Part → ℕ → Option Parsed
got f n = Some (record { part = f; next = n })

-- past the byte b, or where it was
unfoldable pub eat_at : List ℕ → ℕ → ℕ → ℕ
eat_at p i b = pick (ltb i (length p)) (pick (eqb (get_or p i 0) b) (i + 1) i) i

-- what `eat` answers of it
abbrev pub Ate : List ℕ → ℕ → ℕ → Option ℕ → Type 0
Ate p i b o = MatchOption o (eat_at p i b ≡ i) (λ k. (k ≡ eat_at p i b) × (k ≡ i → ⊥))

pub eat-in : (p : List ℕ) (i b : ℕ) → i < length p → get_or p i 0 ≡ b → (i + 1 ≡ eat_at p i b) × (i + 1 ≡ i → ⊥)
unfolding eat_at
eat-in p i b h e = (rw (lt-ltb _ _ h, eq-eqb _ _ e), λ z. omega (arith, z))

pub eat-other : (p : List ℕ) (i b : ℕ) → (get_or p i 0 ≡ b → ⊥) → eat_at p i b ≡ i
unfolding eat_at
eat-other p i b n = split (ltb i (length p)) (λ e. rw (e, ne_eqb _ _ n)) (λ e. rw e)

pub eat-past : (p : List ℕ) (i b : ℕ) → length p ≤ i → eat_at p i b ≡ i
unfolding eat_at
eat-past p i b h = rw (le-ltb _ _ h)

-- an answer, and what the table holds
pub data Ran : Type 0 where
  ran : Option Parsed → List ℕ → Ran

abbrev pub on_got : Ran → (Part → ℕ → List ℕ → Ran) → Ran
on_got (ran None t) k = ran None t
on_got (ran (Some x) t) k = k x.part x.next t

abbrev pub on_end : Scan → ℕ → List ℕ → Ran
on_end None i t = ran None t
on_end (Some x) i t = ran (got (byte_part i) x.at) t

abbrev pub atom_body : (ℕ → List ℕ → Ran) → List ℕ → ℕ → List ℕ → Ran
atom_body expr p i t = pick (eqb (eat_at p i 40) i) (on_end (one_end p i) i t)
    (on_got (expr (eat_at p i 40) t) (λ f n u. pick (eqb (eat_at p n 41) n) (ran None u) (ran (got f (eat_at p n 41)) u)))

-- * + ? behind an atom
unfoldable pub repeated : List ℕ → Part → ℕ → List ℕ → Ran
repeated p f n t = pick (eqb (eat_at p n 42) n) (pick (eqb (eat_at p n 43) n) (pick (eqb (eat_at p n 63) n) (ran (got f n) t)
    (ran (got (or_empty f) (eat_at p n 63)) t)) (ran (got f (eat_at p n 43)) (link t f.lm f.fm)))
    (ran (got (or_empty f) (eat_at p n 42)) (link t f.lm f.fm))

abbrev pub piece_body : (ℕ → List ℕ → Ran) → List ℕ → ℕ → List ℕ → Ran
piece_body atom p i t = pick (eqb (eat_at p i 94) i) (pick (eqb (eat_at p i 36) i) (on_got (atom i t) (λ f n u. repeated p f n u))
    (ran (got end_part (eat_at p i 36)) t)) (ran (got start_part (eat_at p i 94)) t)

abbrev pub on_piece : ℕ → Part → Ran → Step (ℕ × Part × List ℕ) Ran
on_piece i f (ran None u) = done (ran None u)
on_piece i f (ran (Some x) u) = pick (leb x.next i) (done (ran None u)) (next (x.next, sequence f x.part, link u f.lm x.part.fm))

abbrev pub branch_turn : (ℕ → List ℕ → Ran) → List ℕ → ℕ × Part × List ℕ → Step (ℕ × Part × List ℕ) Ran
branch_turn piece p s = pick (leb (length p) s.0) (done (ran (got s.1 s.0) s.2)) (pick (eqb (get_or p s.0 0) 124) (done (ran (got s.1 s.0) s.2))
    (pick (eqb (get_or p s.0 0) 41) (done (ran (got s.1 s.0) s.2)) (on_piece s.0 s.1 (piece s.0 s.2))))

abbrev pub branch_loop : (ℕ → List ℕ → Ran) → List ℕ → Part → ℕ → List ℕ → Ran
branch_loop piece p f i t = loop (λ s. length p - s.0) (λ s. ran None s.2) (branch_turn piece p) (i, f, t)

abbrev pub on_branch : ℕ → Part → Ran → Step (ℕ × Part × List ℕ) Ran
on_branch i f (ran None u) = done (ran None u)
on_branch i f (ran (Some x) u) = pick (leb x.next i) (done (ran None u)) (next (x.next, choice f x.part, u))

abbrev pub expr_turn : (ℕ → List ℕ → Ran) → List ℕ → ℕ × Part × List ℕ → Step (ℕ × Part × List ℕ) Ran
expr_turn branch p s = pick (leb (length p) s.0) (done (ran (got s.1 s.0) s.2))
    (pick (eqb (get_or p s.0 0) 124) (on_branch s.0 s.1 (branch (s.0 + 1) s.2)) (done (ran (got s.1 s.0) s.2)))

abbrev pub expr_loop : (ℕ → List ℕ → Ran) → List ℕ → Part → ℕ → List ℕ → Ran
expr_loop branch p f i t = loop (λ s. length p - s.0) (λ s. ran None s.2) (expr_turn branch p) (i, f, t)

unfoldable mutual
  pub atom_at : ℕ → List ℕ → ℕ → List ℕ → Ran
  atom_at zero p i t = ran None t
  atom_at (suc d) p i t = atom_body (λ j u. expr_at d p j u) p i t

  pub piece_at : ℕ → List ℕ → ℕ → List ℕ → Ran
  piece_at zero p i t = ran None t
  piece_at (suc d) p i t = piece_body (λ j u. atom_at d p j u) p i t

  pub branch_rest_at : ℕ → List ℕ → Part → ℕ → List ℕ → Ran
  branch_rest_at zero p f i t = ran None t
  branch_rest_at (suc d) p f i t = branch_loop (λ j u. piece_at d p j u) p f i t

  pub branch_at : ℕ → List ℕ → ℕ → List ℕ → Ran
  branch_at zero p i t = ran None t
  branch_at (suc d) p i t = on_got (piece_at d p i t) (λ f n u. branch_rest_at d p f n u)

  pub expr_rest_at : ℕ → List ℕ → Part → ℕ → List ℕ → Ran
  expr_rest_at zero p f i t = ran None t
  expr_rest_at (suc d) p f i t = expr_loop (λ j u. branch_at d p j u) p f i t

  pub expr_at : ℕ → List ℕ → ℕ → List ℕ → Ran
  expr_at zero p i t = ran None t
  expr_at (suc d) p i t = on_got (branch_at d p i t) (λ f n u. expr_rest_at d p f n u)

unfoldable pub branch_rest : ℕ → List ℕ → Part → ℕ → List ℕ → Ran
branch_rest k p f i t = branch_loop (λ j u. piece_at k p j u) p f i t

unfoldable pub expr_rest : ℕ → List ℕ → Part → ℕ → List ℕ → Ran
expr_rest k p f i t = expr_loop (λ j u. branch_at k p j u) p f i t

less : (d : ℕ) → suc d - 1 ≡ d
less d = omega arith

-- `repeated`
module _ (p : List ℕ) (f : Part) (n : ℕ) (t : List ℕ) where
  pub way-star : (x : ℕ) → (x ≡ eat_at p n 42) × (x ≡ n → ⊥) → (u : List ℕ) → u ≡ link t f.lm f.fm → (g : Part) → g ≡ or_empty f → ran (got g x) u ≡ repeated p f n t
  unfolding repeated
  way-star x e u ue g ge = rw (← e.0, ne_eqb _ _ e.1, ← ue, ge)

  module _ (h : eat_at p n 42 ≡ n) where
    pub way-plus : (y : ℕ) → (y ≡ eat_at p n 43) × (y ≡ n → ⊥) → (u : List ℕ) → u ≡ link t f.lm f.fm → ran (got f y) u ≡ repeated p f n t
    unfolding repeated
    way-plus y e u ue = rw (h, eq-eqb n n refl, ← e.0, ne_eqb _ _ e.1, ← ue)

    module _ (k : eat_at p n 43 ≡ n) where
      pub way-opt : (z : ℕ) → (z ≡ eat_at p n 63) × (z ≡ n → ⊥) → (g : Part) → g ≡ or_empty f → ran (got g z) t ≡ repeated p f n t
      unfolding repeated
      way-opt z e g ge = simp (h, k, eq-eqb n n refl, sym e.0, ne_eqb _ _ e.1, ge)

      pub way-once : eat_at p n 63 ≡ n → ran (got f n) t ≡ repeated p f n t
      unfolding repeated
      way-once l = simp (h, k, l, eq-eqb n n refl)

atom-unfold : (d : ℕ) → (d ≡ 0 → ⊥) → (p : List ℕ) (i : ℕ) (t : List ℕ) → atom_at d p i t ≡ atom_body (λ j u. expr_at (d - 1) p j u) p i t
unfolding atom_at
atom-unfold zero z p i t = absurd (z refl)
atom-unfold (suc k) z p i t = ap (λ (m : ℕ). atom_body (λ j u. expr_at m p j u) p i t) (sym (less k))

piece-unfold : (d : ℕ) → (d ≡ 0 → ⊥) → (p : List ℕ) (i : ℕ) (t : List ℕ) → piece_at d p i t ≡ piece_body (λ j u. atom_at (d - 1) p j u) p i t
unfolding atom_at
piece-unfold zero z p i t = absurd (z refl)
piece-unfold (suc k) z p i t = ap (λ (m : ℕ). piece_body (λ j u. atom_at m p j u) p i t) (sym (less k))

pub branch-start : (d : ℕ) → (d ≡ 0 → ⊥) → (p : List ℕ) (f : Part) (i : ℕ) (t : List ℕ) → branch_rest (d - 1) p f i t ≡ branch_rest_at d p f i t
unfolding atom_at branch_rest
branch-start zero z p f i t = absurd (z refl)
branch-start (suc k) z p f i t = ap (λ (m : ℕ). branch_loop (λ j u. piece_at m p j u) p f i t) (less k)

branch-unfold : (d : ℕ) → (d ≡ 0 → ⊥) → (p : List ℕ) (i : ℕ) (t : List ℕ) → branch_at d p i t ≡ on_got (piece_at (d - 1) p i t) (λ f n u. branch_rest_at (d - 1) p f n u)
unfolding atom_at
branch-unfold zero z p i t = absurd (z refl)
branch-unfold (suc k) z p i t = ap (λ (m : ℕ). on_got (piece_at m p i t) (λ f n u. branch_rest_at m p f n u)) (sym (less k))

pub expr-start : (d : ℕ) → (d ≡ 0 → ⊥) → (p : List ℕ) (f : Part) (i : ℕ) (t : List ℕ) → expr_rest (d - 1) p f i t ≡ expr_rest_at d p f i t
unfolding atom_at expr_rest
expr-start zero z p f i t = absurd (z refl)
expr-start (suc k) z p f i t = ap (λ (m : ℕ). expr_loop (λ j u. branch_at m p j u) p f i t) (less k)

expr-unfold : (d : ℕ) → (d ≡ 0 → ⊥) → (p : List ℕ) (i : ℕ) (t : List ℕ) → expr_at d p i t ≡ on_got (branch_at (d - 1) p i t) (λ f n u. expr_rest_at (d - 1) p f n u)
unfolding atom_at
expr-unfold zero z p i t = absurd (z refl)
expr-unfold (suc k) z p i t = ap (λ (m : ℕ). on_got (branch_at m p i t) (λ f n u. expr_rest_at m p f n u)) (sym (less k))

module _ (d : ℕ) (p : List ℕ) (i : ℕ) (t : List ℕ) where
  module _ (z : d ≡ 0) where
    pub atom-0 : ran None t ≡ atom_at d p i t
    unfolding atom_at
    atom-0 = rw z

    pub piece-0 : ran None t ≡ piece_at d p i t
    unfolding atom_at
    piece-0 = rw z

    pub branch-rest-0 : (f : Part) → ran None t ≡ branch_rest_at d p f i t
    unfolding atom_at
    branch-rest-0 f = rw z

    pub branch-0 : ran None t ≡ branch_at d p i t
    unfolding atom_at
    branch-0 = rw z

    pub expr-rest-0 : (f : Part) → ran None t ≡ expr_rest_at d p f i t
    unfolding atom_at
    expr-rest-0 f = rw z

    pub expr-0 : ran None t ≡ expr_at d p i t
    unfolding atom_at
    expr-0 = rw z

  module _ (nz : d ≡ 0 → ⊥) where
    module _ (o : ℕ) (n : (o ≡ eat_at p i 40) × (o ≡ i → ⊥)) (r : Option Parsed) (u : List ℕ) (re : ran r u ≡ expr_at (d - 1) p o t) where
      pub atom-bad : r ≡ None → ran None u ≡ atom_at d p i t
      atom-bad e = simp (atom-unfold d nz, sym n.0, ne_eqb _ _ n.1, sym re, e)

      module _ (x : Parsed) (rv : r ≡ Some x) where
        pub atom-open : eat_at p x.next 41 ≡ x.next → ran None u ≡ atom_at d p i t
        atom-open e = simp (atom-unfold d nz, sym n.0, ne_eqb _ _ n.1, sym re, rv, e, eq-eqb x.next x.next refl)

        pub atom-group : (m : ℕ) → (m ≡ eat_at p x.next 41) × (m ≡ x.next → ⊥) → ran (got x.part m) u ≡ atom_at d p i t
        atom-group m e = simp (atom-unfold d nz, sym n.0, ne_eqb _ _ n.1, sym re, rv, sym e.0, ne_eqb _ _ e.1)

    module _ (n : eat_at p i 40 ≡ i) (x : Scan) (xe : x ≡ one_end p i) where
      pub atom-unfit : x ≡ None → ran None t ≡ atom_at d p i t
      atom-unfit e = simp (atom-unfold d nz, n, eq-eqb i i refl, sym xe, e)

      pub atom-one : (y : End) → x ≡ Some y → (f : Part) → f ≡ byte_part i → ran (got f y.at) t ≡ atom_at d p i t
      atom-one y e f fe = simp (atom-unfold d nz, n, eq-eqb i i refl, sym xe, e, fe)

    pub piece-bol : (o : ℕ) → (o ≡ eat_at p i 94) × (o ≡ i → ⊥) → (f : Part) → f ≡ start_part → ran (got f o) t ≡ piece_at d p i t
    piece-bol o n f fe = simp (piece-unfold d nz, sym n.0, ne_eqb _ _ n.1, fe)

    module _ (n : eat_at p i 94 ≡ i) where
      pub piece-eol : (v : ℕ) → (v ≡ eat_at p i 36) × (v ≡ i → ⊥) → (f : Part) → f ≡ end_part → ran (got f v) t ≡ piece_at d p i t
      piece-eol v m f fe = simp (piece-unfold d nz, n, eq-eqb i i refl, sym m.0, ne_eqb _ _ m.1, fe)

      module _ (m : eat_at p i 36 ≡ i) (r : Option Parsed) (u : List ℕ) (re : ran r u ≡ atom_at (d - 1) p i t) where
        pub piece-bad : r ≡ None → ran None u ≡ piece_at d p i t
        piece-bad e = simp (piece-unfold d nz, n, m, eq-eqb i i refl, sym re, e)

        pub piece-atom : (x : Parsed) → r ≡ Some x → (y : Ran) → y ≡ repeated p x.part x.next u → y ≡ piece_at d p i t
        piece-atom x e y ye = simp (piece-unfold d nz, n, m, eq-eqb i i refl, sym re, e) ye

    module _ (r : Option Parsed) (u : List ℕ) where
      module _ (re : ran r u ≡ piece_at (d - 1) p i t) where
        pub branch-bad : r ≡ None → ran None u ≡ branch_at d p i t
        branch-bad e = simp (branch-unfold d nz, sym re, e)

        pub branch-more : (x : Parsed) → r ≡ Some x → (y : Ran) → y ≡ branch_rest_at (d - 1) p x.part x.next u → y ≡ branch_at d p i t
        branch-more x e y ye = simp (branch-unfold d nz, sym re, e) ye

      module _ (re : ran r u ≡ branch_at (d - 1) p i t) where
        pub expr-bad : r ≡ None → ran None u ≡ expr_at d p i t
        expr-bad e = simp (expr-unfold d nz, sym re, e)

        pub expr-more : (x : Parsed) → r ≡ Some x → (y : Ran) → y ≡ expr_rest_at (d - 1) p x.part x.next u → y ≡ expr_at d p i t
        expr-more x e y ye = simp (expr-unfold d nz, sym re, e) ye

-- a turn of a branch, with the invariant `branch_rest .. ≡ a`
module _ (k : ℕ) (p : List ℕ) (f : Part) (i : ℕ) (t : List ℕ) (a : Ran) (inv : branch_rest k p f i t ≡ a) where
  pub branch-end : length p ≤ i → ran (got f i) t ≡ a
  unfolding branch_rest
  branch-end h = sym (loop-done _ _ _ (i, f, t) (ran (got f i) t) (simp (le-leb _ _ h))) ∙ inv

  module _ (h : i < length p) where
    pub branch-bar : get_or p i 0 ≡ 124 → ran (got f i) t ≡ a
    unfolding branch_rest
    branch-bar e = sym (loop-done _ _ _ (i, f, t) (ran (got f i) t) (simp (lt-leb _ _ h, eq-eqb _ _ e))) ∙ inv

    module _ (n : get_or p i 0 ≡ 124 → ⊥) where
      pub branch-closed : get_or p i 0 ≡ 41 → ran (got f i) t ≡ a
      unfolding branch_rest
      branch-closed e = sym (loop-done _ _ _ (i, f, t) (ran (got f i) t) (simp (lt-leb _ _ h, ne_eqb _ _ n, eq-eqb _ _ e))) ∙ inv

      module _ (m : get_or p i 0 ≡ 41 → ⊥) (r : Option Parsed) (u : List ℕ) (re : ran r u ≡ piece_at k p i t) where
        pub branch-piece-bad : r ≡ None → ran None u ≡ a
        unfolding branch_rest
        branch-piece-bad e = sym (loop-done _ _ _ (i, f, t) (ran None u) (simp (lt-leb _ _ h, ne_eqb _ _ n, ne_eqb _ _ m, sym re, e))) ∙ inv

        module _ (x : Parsed) (rv : r ≡ Some x) where
          pub branch_stuck : x.next ≤ i → ran None u ≡ a
          unfolding branch_rest
          branch_stuck l = sym (loop-done _ _ _ (i, f, t) (ran None u) (simp (lt-leb _ _ h, ne_eqb _ _ n, ne_eqb _ _ m, sym re, rv, le-leb _ _ l))) ∙ inv

          pub branch-next : i < x.next → (w : List ℕ) → w ≡ link u f.lm x.part.fm → (y : Part) → y ≡ sequence f x.part → branch_rest k p y x.next w ≡ a
          unfolding branch_rest
          branch-next l w we y ye = sym (loop-next _ _ _ (i, f, t) (x.next, y, w) (simp (lt-leb _ _ h, ne_eqb _ _ n, ne_eqb _ _ m, sym re, rv, lt-leb _ _ l, sym we, sym ye)) (omega arith)) ∙ inv

-- a turn of an expression
module _ (k : ℕ) (p : List ℕ) (f : Part) (i : ℕ) (t : List ℕ) (a : Ran) (inv : expr_rest k p f i t ≡ a) where
  pub expr-end : length p ≤ i → ran (got f i) t ≡ a
  unfolding expr_rest
  expr-end h = sym (loop-done _ _ _ (i, f, t) (ran (got f i) t) (simp (le-leb _ _ h))) ∙ inv

  module _ (h : i < length p) where
    pub expr-other : (get_or p i 0 ≡ 124 → ⊥) → ran (got f i) t ≡ a
    unfolding expr_rest
    expr-other e = sym (loop-done _ _ _ (i, f, t) (ran (got f i) t) (simp (lt-leb _ _ h, ne_eqb _ _ e))) ∙ inv

    module _ (n : get_or p i 0 ≡ 124) (r : Option Parsed) (u : List ℕ) (re : ran r u ≡ branch_at k p (i + 1) t) where
      pub expr-branch-bad : r ≡ None → ran None u ≡ a
      unfolding expr_rest
      expr-branch-bad e = sym (loop-done _ _ _ (i, f, t) (ran None u) (simp (lt-leb _ _ h, eq-eqb _ _ n, sym re, e))) ∙ inv

      module _ (x : Parsed) (rv : r ≡ Some x) where
        pub expr-stuck : x.next ≤ i → ran None u ≡ a
        unfolding expr_rest
        expr-stuck l = sym (loop-done _ _ _ (i, f, t) (ran None u) (simp (lt-leb _ _ h, eq-eqb _ _ n, sym re, rv, le-leb _ _ l))) ∙ inv

        pub expr-next : i < x.next → (y : Part) → y ≡ choice f x.part → expr_rest k p y x.next u ≡ a
        unfolding expr_rest
        expr-next l y ye = sym (loop-next _ _ _ (i, f, t) (x.next, y, u) (simp (lt-leb _ _ h, eq-eqb _ _ n, sym re, rv, lt-leb _ _ l, sym ye)) (omega arith)) ∙ inv
