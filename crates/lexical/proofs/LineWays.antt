-- The ways out of the functions of `line`. Assumes nothing.
use mathlib.Core.Path.{◌≡◌, refl, sym, ap, ◌∙◌}
use mathlib.Core.Bool.{Bool, true, false}
use mathlib.Core.List.{List}
use Prim.Native.Nat.{ℕ, ◌+◌, ◌-◌, ◌≤◌, ◌<◌, ◌^◌}
use native.Mathlib.Omega.{arith}
use mir.Syntax.{w64}
use mir.Val.{Fits}
use lib.Dec.{eqb, leb}
use lib.ListN.{length, get_or}
use borrow.Author.Tests.{le-leb, lt-leb, eq-eqb, ne_eqb, eqb-true, eqb-false, leb-true, leb-false}
use Rattle.text.specs.Choice.{split, clash}
use Rattle.text.specs.Loop.{loop-next, loop-done}
use Rattle.text.specs.Scan.{past}
use Rattle.lexical.specs.Kind
use Rattle.lexical.specs.Class.{class_of, or, NEWLINE, HASH}
use Rattle.lexical.specs.Run.{in_run, BLANKS}
use Rattle.lexical.specs.Label.{label_kind}
use Rattle.lexical.specs.Token.{end_of, next_line, width_of, token_from}
use Rattle.lexical.specs.Theorems.KindLaws.{label-wide}
use Rattle.lexical.specs.Line.{rest_of_line, visible, in_line, line_at, lines_from, token_at}
use Rattle.lexical.specs.Theorems.LineLaws.{fine-next, line-fine}
use Rattle.lexical.specs.declared.token.Token.{Token}
use Rattle.lexical.specs.Working.Open.{literal_from, completed, below_of, completed-other, completed-line, completed-open, literal-other, rest-kept}
use Rattle.lexical.proofs.TokenWays.{wide_fits}

-- two tests of which none holds
neither : (t u : Bool) → or t u ≡ false → (t ≡ false) × (u ≡ false)
neither true u h = clash refl h
neither false u h = (refl, h)

module _ (s : List ℕ) (mode i : ℕ) where
  kept : (r : Token) (j : ℕ) → r ≡ rest_of_line s j → completed s r ≡ r
  kept r j e = rw e (rest-kept s j)

  pub visible-end : length s ≤ i → (r : Token) → r ≡ end_of s → completed s r ≡ visible s mode i
  unfolding visible completed
  visible-end h r re = rw re (simp (le-leb _ _ h))

  module _ (h : i < length s) where
    pub visible-next : (t : Bool) → t ≡ eqb (class_of (get_or s i 0)) NEWLINE → t ≡ true → (r : Token) → r ≡ next_line (i + 1) → completed s r ≡ visible s mode i
    unfolding visible
    visible-next t te e r re = ap (completed s) re ∙ completed-line s (next_line (i + 1)) refl refl ∙ simp (lt-leb _ _ h, sym te, e)

    module _ (u : Bool) (ue : u ≡ or (eqb (class_of (get_or s i 0)) NEWLINE) (eqb (class_of (get_or s i 0)) HASH)) (r : Token) where
      pub visible-hash : (t : Bool) → t ≡ eqb (class_of (get_or s i 0)) NEWLINE → u ≡ true → t ≡ false → r ≡ rest_of_line s i → completed s r ≡ visible s mode i
      unfolding visible
      visible-hash t te e n re =
          let k : u ≡ eqb (class_of (get_or s i 0)) HASH = rw (sym te, n) at ue in
          kept r i re ∙ simp (lt-leb _ _ h, sym te, n, sym k, e) re

      pub visible-token : u ≡ false → completed s r ≡ token_from s mode i → completed s r ≡ visible s mode i
      unfolding visible
      visible-token e re =
          let k : (eqb (class_of (get_or s i 0)) NEWLINE ≡ false) × (eqb (class_of (get_or s i 0)) HASH ≡ false) = neither _ _ (sym ue ∙ e) in
          let n : eqb (class_of (get_or s i 0)) NEWLINE ≡ false = k.0 in
          let m : eqb (class_of (get_or s i 0)) HASH ≡ false = k.1 in
          simp (lt-leb _ _ h, n, m) re

  module _ (r : Token) where
    pub in-comment : mode ≡ Kind.IN_COMMENT → r ≡ rest_of_line s i → completed s r ≡ in_line s mode i
    unfolding in_line
    in-comment e re = kept r i re ∙ simp (eq-eqb _ _ e) re

    pub in_field_lem : (e : ℕ) → (mode ≡ Kind.IN_COMMENT → ⊥) → e ≡ past (in_run BLANKS) s i → completed s r ≡ visible s mode e → completed s r ≡ in_line s mode i
    unfolding in_line
    in_field_lem e n ee re = simp (ne_eqb _ _ n, sym ee) re

module _ (s : List ℕ) (i k w : ℕ) (ke : k ≡ label_kind s i) (we : w ≡ width_of k) where
  pub label-fits : length s < 2 ^ 64 → Fits w64 i → Fits w64 (i + w)
  label-fits l f = wide_fits s i k w (rw ke (label-wide s i)) we l f

module _ (s : List ℕ) (mode i : ℕ) (r : Token) (inv : lines_from s mode i ≡ r) where
  module _ (t : Token) (te : t ≡ line_at s mode i) where
    past-end : length s ≤ i → t ≡ end_of s
    unfolding line_at
    past-end h = te ∙ simp (le-leb _ _ h)

    pub lines-found : (t.kind ≡ Kind.NEXT → ⊥) → t ≡ r
    unfolding lines_from
    lines-found n =
        split (leb (length s) i)
        (λ l. past-end (leb-true _ _ l) ∙ sym (loop-done _ _ _ i (end_of s) (simp l)) ∙ inv)
        (λ l. sym (loop-done _ _ _ i t (simp (l, sym te, ne_eqb _ _ n))) ∙ inv)

    module _ (n : t.kind ≡ Kind.NEXT) where
      h : i < length s
      h =
          split (leb (length s) i)
          (λ l. let z : Kind.END ≡ Kind.NEXT = sym (ap (λ (u : Token). u.kind) (past-end (leb-true _ _ l))) ∙ n in let no : ⊥ = omega (arith, z) in absurd no)
          (λ l. leb-false _ _ l)

      next-line : (i < t.end) × (t.end ≤ length s)
      next-line = fine-next s i t (rw te (line-fine s mode i)) n

      pub lines_more : lines_from s mode t.end ≡ r
      unfolding lines_from
      lines_more = sym (loop-next _ _ _ i t.end (simp (lt-leb _ _ h, sym te, eq-eqb _ _ n)) (omega (arith, h, next-line.0, next-line.1))) ∙ inv

      pub lines-less : length s - t.end < length s - i
      lines-less = omega (arith, h, next-line.0, next-line.1)

module _ (s : List ℕ) (mode at : ℕ) where
  pub token-first : (r : Token) → at ≡ 0 → r ≡ below_of s mode 0 0 → r ≡ token_at s mode at
  unfolding token_at below_of
  token-first r z e = simp (eq-eqb _ _ z) e

  module _ (n : at ≡ 0 → ⊥) where
    is-here : (r : Token) → r ≡ in_line s mode at → (r.kind ≡ Kind.NEXT → ⊥) → r ≡ token_at s mode at
    unfolding token_at
    is-here r e h = simp (ne_eqb _ _ n, sym e, ne_eqb _ _ h)

    is_below : (r : Token) → r ≡ in_line s mode at → r.kind ≡ Kind.NEXT → lines_from s mode r.end ≡ token_at s mode at
    unfolding token_at
    is_below r e h = simp (ne_eqb _ _ n, sym e, eq-eqb _ _ h)

    module _ (t : Token) (te : completed s t ≡ in_line s mode at) where
      pub token-below : (r : Token) → t.kind ≡ Kind.NEXT → r ≡ below_of s mode t.start t.end → r ≡ token_at s mode at
      unfolding below_of
      token-below r h e =
          split (eqb t.start t.end)
          (λ q. (rw q at e) ∙ is_below t (sym (completed-line s t h (eqb-true _ _ q)) ∙ te) h)
          (λ q. let z : r ≡ literal_from s t.start t.end = rw q at e in
          is-here r (z ∙ sym (completed-open s t h (eqb-false _ _ q)) ∙ te) (rw z (literal-other s t.start t.end)))

      pub token-here : (t.kind ≡ Kind.NEXT → ⊥) → t ≡ token_at s mode at
      token-here h = is-here t (sym (completed-other s t h) ∙ te) h

pub ruleset seen = (visible-end, visible-next, visible-hash, visible-token)

pub ruleset inside = (in-comment, in_field_lem)

pub ruleset label = (label-fits)

pub ruleset lines = (lines-found)

pub ruleset next = (token-first, token-here)
