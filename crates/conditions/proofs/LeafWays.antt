-- The ways out of the functions of `leaf`. Assumes nothing.
use mathlib.Core.Path.{◌≡◌, sym, ◌∙◌}
use mathlib.Core.Bool.{Bool, true, false}
use mathlib.Core.List.{List}
use Prim.Native.Nat.{ℕ, ◌-◌, ◌≤◌}
use native.Mathlib.Omega.{arith}
use lib.ListN.{length}
use lib.Dec.{leb, ltb}
use borrow.Author.Tests.{lt-ltb, le-ltb, leb-true, leb-false, eq-eqb, ne_eqb}
use Rattle.lexical.specs.Kind
use Rattle.lexical.specs.Literal.{decoded_at}
use Rattle.lexical.specs.Number.{LIMIT, number_at}
use Rattle.lexical.specs.Word.{spells, word_true, word_false}
use Rattle.lexical.specs.declared.token.Token.{Token}
use Rattle.syntax.specs.Op
use Rattle.conditions.specs.Working.Numbered.{ANY, TEXT, INTEGER, FLOAT, TRUE, FALSE, word_sort}
use Rattle.conditions.specs.Word.{next_at}
use Rattle.conditions.specs.Working.Emit.{found, Ran, ran, above, put}
use Rattle.conditions.specs.Working.Leaf.{literal_read, name_read, digits_read, float_read, leaf_read}
use Rattle.syntax.specs.Working.Faults.{against}
use Rattle.limits.specs.Limits.{most_float, most_literal}
use Rattle.std.specs.Prelude.{Err}

module _ (s : List ℕ) (want start end : ℕ) where
  pub word-settled : (want ≡ ANY → ⊥) → TEXT ≡ word_sort s want start end
  unfolding word_sort
  word-settled h = simp (ne_eqb _ _ h)

  module _ (w : want ≡ ANY) (t : Bool) (te : t ≡ spells s start end word_true) where
    pub word-is-true : t ≡ true → TRUE ≡ word_sort s want start end
    unfolding word_sort
    word-is-true h = simp (eq-eqb _ _ w, sym te, h)

    module _ (tn : t ≡ false) (f : Bool) (fe : f ≡ spells s start end word_false) where
      pub word-is-false : f ≡ true → FALSE ≡ word_sort s want start end
      unfolding word_sort
      word-is-false h = simp (eq-eqb _ _ w, sym te, tn, sym fe, h)

      pub word-other : f ≡ false → TEXT ≡ word_sort s want start end
      unfolding word_sort
      word-other h = simp (eq-eqb _ _ w, sym te, tn, sym fe, h)

module _ (s m : List ℕ) (top : ℕ) (t : Token) where
  module _ (f : Bool) (fe : f ≡ leb (length (decoded_at s t.start)) most_literal) where
    pub literal-made : f ≡ true → (u : ℕ) (b : List ℕ) (x : Token) → u ≡ above m top → b ≡ put m top Op.LITERAL t.start → x ≡ next_at s t.end
        → ran (found TEXT 0 u x) b ≡ literal_read s m top t
    unfolding literal_read
    literal-made h u b x ue be xe = simp (le-ltb _ _ (leb-true (length (decoded_at s t.start)) most_literal (sym fe ∙ h)), sym ue, sym be, sym xe)

    pub literal-long : f ≡ false → ran (Err (against 7 t.start)) m ≡ literal_read s m top t
    unfolding literal_read
    literal-long h = simp (lt-ltb _ _ (leb-false (length (decoded_at s t.start)) most_literal (sym fe ∙ h)))

  module _ (v : Bool) (ve : v ≡ leb LIMIT (number_at s t.start t.end)) where
    pub digits-large : v ≡ true → ran (Err (against 5 t.start)) m ≡ digits_read s m top t
    unfolding digits_read
    digits-large h = simp (sym ve, h)

    pub digits-made : v ≡ false → (u : ℕ) (b : List ℕ) (x : Token) → u ≡ above m top → b ≡ put m top Op.NUMBER t.start → x ≡ next_at s t.end
        → ran (found INTEGER 0 u x) b ≡ digits_read s m top t
    unfolding digits_read
    digits-made h u b x ue be xe = simp (sym ve, h, sym ue, sym be, sym xe)

  module _ (want w : ℕ) (we : w ≡ word_sort s want t.start t.end) (x : Token) (xe : x ≡ next_at s t.end) where
    pub name-bare : (w ≡ TEXT → ⊥) → ran (found w t.start top x) m ≡ name_read s m top want t
    unfolding name_read
    name-bare h = simp (sym we, ne_eqb _ _ h, sym xe)

    pub name-made : w ≡ TEXT → (u : ℕ) (b : List ℕ) → u ≡ above m top → b ≡ put m top Op.NAME t.start → ran (found TEXT 0 u x) b ≡ name_read s m top want t
    unfolding name_read
    name-made h u b ue be = simp (sym we, eq-eqb _ _ h, sym ue, sym be, sym xe)

pub wide-none : (start end : ℕ) → end ≤ start → false ≡ ltb most_float (end - start)
wide-none start end h = sym (le-ltb most_float (end - start) (omega (arith, h)))

module _ (s m : List ℕ) (top : ℕ) (t : Token) (v : Bool) (ve : v ≡ ltb most_float (t.end - t.start)) where
  pub float-wide : v ≡ true → ran (Err (against 7 t.start)) m ≡ float_read s m top t
  unfolding float_read
  float-wide h = simp (sym ve, h)

  pub float-made : v ≡ false → (u : ℕ) (b : List ℕ) (x : Token) → u ≡ above m top → b ≡ put m top Op.DECIMAL t.start → x ≡ next_at s t.end → ran (found FLOAT 0 u x) b ≡ float_read s m top t
  unfolding float_read
  float-made h u b x ue be xe = simp (sym ve, h, sym ue, sym be, sym xe)

module _ (s m : List ℕ) (top want : ℕ) (t : Token) (r : Ran) where
  pub leaf-literal : t.kind ≡ Kind.LITERAL → r ≡ literal_read s m top t → r ≡ leaf_read s m top want t
  unfolding leaf_read
  leaf-literal h e = simp (eq-eqb _ _ h) e

  module _ (l : t.kind ≡ Kind.LITERAL → ⊥) where
    pub leaf-name : t.kind ≡ Kind.NAME → r ≡ name_read s m top want t → r ≡ leaf_read s m top want t
    unfolding leaf_read
    leaf-name h e = simp (ne_eqb _ _ l, eq-eqb _ _ h) e

    pub leaf-digits : (t.kind ≡ Kind.NAME → ⊥) → t.kind ≡ Kind.DIGITS → r ≡ digits_read s m top t → r ≡ leaf_read s m top want t
    unfolding leaf_read
    leaf-digits n h e = simp (ne_eqb _ _ l, ne_eqb _ _ n, eq-eqb _ _ h) e

    pub leaf-float : (t.kind ≡ Kind.NAME → ⊥) → (t.kind ≡ Kind.DIGITS → ⊥) → r ≡ float_read s m top t → r ≡ leaf_read s m top want t
    unfolding leaf_read
    leaf-float n d e = simp (ne_eqb _ _ l, ne_eqb _ _ n, ne_eqb _ _ d) e
