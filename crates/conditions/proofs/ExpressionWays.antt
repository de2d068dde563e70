-- The ways out of the functions of `expression`. Assumes nothing.
use mathlib.Core.Path.{◌≡◌, refl, sym, ap, ◌∙◌}
use mathlib.Core.Bool.{Bool, true, false}
use mathlib.Core.List.{List}
use Prim.Native.Nat.{ℕ, zero, suc, ◌+◌, ◌-◌, ◌<◌, ◌≤◌}
use native.Mathlib.Omega.{arith}
use lib.ListN.{length}
use borrow.Author.Tests.{le-leb, lt-leb, eq-eqb, ne_eqb}
use Rattle.text.specs.Choice.{pick, split, clash}
use Rattle.text.specs.Loop.{loop-next, loop-done}
use Rattle.lexical.specs.Kind
use Rattle.lexical.specs.declared.token.Token.{Token}
use Rattle.conditions.specs.Working.Numbered
use Rattle.conditions.specs.Word.{next_at}
use Rattle.conditions.specs.Working.Emit.{found, Out, Ran, ran, word_top, word_written, refused, finish_at, closed_at}
use Rattle.conditions.specs.Working.Leaf.{leaf_read}
use Rattle.conditions.specs.Working.Expression.{expr_at, operand_at, prefixed_at, bracketed_at, chain_at, joined_at, expr_body, operand_body, prefixed_body, bracketed_body, joined_body, chain_loop, chain_rest}
use Rattle.syntax.specs.Working.Faults.{against}
use Rattle.syntax.specs.declared.fault.Fault.{Fault}
use Rattle.limits.specs.Limits.{most_brackets, most_prefixes}
use Rattle.conditions.specs.declared.emit.Found.{Found}
use Rattle.std.specs.Prelude.{Ok, Err}

less : (d : ℕ) → suc d - 1 ≡ d
less d = omega arith

-- at a depth that is not 0 each definition is its body
module _ (s m : List ℕ) (top nest : ℕ) where
  expr-unfold : (d : ℕ) → (d ≡ 0 → ⊥) → (level want row : ℕ) (t : Token) → expr_at d s m top level want row nest t
      ≡ expr_body (λ m top want row nest t. operand_at (d - 1) s m top want row nest t) (λ m top level nest sort place t. chain_at (d - 1) s m top level nest sort place t) m top level want row nest t
  unfolding expr_at
  expr-unfold zero nz level want row t = absurd (nz refl)
  expr-unfold (suc d) nz level want row t =
      ap (λ (k : ℕ). expr_body (λ m top want row nest t. operand_at k s m top want row nest t) (λ m top level nest sort place t. chain_at k s m top level nest sort place t) m top level want row nest t) (sym (less d))

  operand-unfold : (d : ℕ) → (d ≡ 0 → ⊥) → (want row : ℕ) (t : Token) → operand_at d s m top want row nest t
      ≡ operand_body (λ m top op want row nest t. prefixed_at (d - 1) s m top op want row nest t) (λ m top want nest t. bracketed_at (d - 1) s m top want nest t) s m top want row nest t
  unfolding expr_at
  operand-unfold zero nz want row t = absurd (nz refl)
  operand-unfold (suc d) nz want row t =
      ap (λ (k : ℕ). operand_body (λ m top op want row nest t. prefixed_at k s m top op want row nest t) (λ m top want nest t. bracketed_at k s m top want nest t) s m top want row nest t) (sym (less d))

  prefixed-unfold : (d : ℕ) → (d ≡ 0 → ⊥) → (op want row : ℕ) (t : Token) → prefixed_at d s m top op want row nest t
      ≡ prefixed_body (λ m top level want row nest t. expr_at (d - 1) s m top level want row nest t) s m top op want row nest t
  unfolding expr_at
  prefixed-unfold zero nz op want row t = absurd (nz refl)
  prefixed-unfold (suc d) nz op want row t =
      ap (λ (k : ℕ). prefixed_body (λ m top level want row nest t. expr_at k s m top level want row nest t) s m top op want row nest t) (sym (less d))

  bracketed-unfold : (d : ℕ) → (d ≡ 0 → ⊥) → (want : ℕ) (t : Token) → bracketed_at d s m top want nest t
      ≡ bracketed_body (λ m top level want row nest t. expr_at (d - 1) s m top level want row nest t) s m top want nest t
  unfolding expr_at
  bracketed-unfold zero nz want t = absurd (nz refl)
  bracketed-unfold (suc d) nz want t =
      ap (λ (k : ℕ). bracketed_body (λ m top level want row nest t. expr_at k s m top level want row nest t) s m top want nest t) (sym (less d))

  joined-unfold : (d : ℕ) → (d ≡ 0 → ⊥) → (op sort place at : ℕ) → joined_at d s m top op nest sort place at
      ≡ joined_body (λ m top level want row nest t. expr_at (d - 1) s m top level want row nest t) s m top op nest sort place at
  unfolding expr_at
  joined-unfold zero nz op sort place at = absurd (nz refl)
  joined-unfold (suc d) nz op sort place at =
      ap (λ (k : ℕ). joined_body (λ m top level want row nest t. expr_at k s m top level want row nest t) s m top op nest sort place at) (sym (less d))

  pub chain-start : (d : ℕ) → (d ≡ 0 → ⊥) → (level sort place : ℕ) (t : Token) → chain_rest (d - 1) s m top level nest sort place t ≡ chain_at d s m top level nest sort place t
  unfolding expr_at chain_rest
  chain-start zero nz level sort place t = absurd (nz refl)
  chain-start (suc d) nz level sort place t =
      ap (λ (k : ℕ). chain_loop (λ m top op nest sort place at. joined_at k s m top op nest sort place at) s m top level nest sort place t) (less d)

module _ (d : ℕ) (s m : List ℕ) (top : ℕ) where
  pub expr-0 : (level want row nest : ℕ) (t : Token) → d ≡ 0 → ran (Err (against 0 t.start)) m ≡ expr_at d s m top level want row nest t
  unfolding expr_at
  expr-0 level want row nest t z = rw z

  pub operand-0 : (want row nest : ℕ) (t : Token) → d ≡ 0 → ran (Err (against 0 t.start)) m ≡ operand_at d s m top want row nest t
  unfolding expr_at
  operand-0 want row nest t z = rw z

  pub prefixed-0 : (op want row nest : ℕ) (t : Token) → d ≡ 0 → ran (Err (against 0 t.start)) m ≡ prefixed_at d s m top op want row nest t
  unfolding expr_at
  prefixed-0 op want row nest t z = rw z

  pub bracketed-0 : (want nest : ℕ) (t : Token) → d ≡ 0 → ran (Err (against 0 t.start)) m ≡ bracketed_at d s m top want nest t
  unfolding expr_at
  bracketed-0 want nest t z = rw z

  pub joined-0 : (op nest sort place at : ℕ) → d ≡ 0 → ran (Err (against 0 at)) m ≡ joined_at d s m top op nest sort place at
  unfolding expr_at
  joined-0 op nest sort place at z = rw z

  pub chain-0 : (level nest sort place : ℕ) (t : Token) → d ≡ 0 → ran (Err (against 0 t.start)) m ≡ chain_at d s m top level nest sort place t
  unfolding expr_at
  chain-0 level nest sort place t z = rw z

module _ (d : ℕ) (s m : List ℕ) (top level want row nest : ℕ) (t : Token) (nz : d ≡ 0 → ⊥)
    (r : Out) (b : List ℕ) (re : ran r b ≡ operand_at (d - 1) s m top want row nest t) where
  pub expr-aside : (f : Fault) → r ≡ Err f → ran (Err f) b ≡ expr_at d s m top level want row nest t
  expr-aside f e = simp (expr-unfold s m top nest d nz, sym re, e)

  pub expr-found : (q : Found) → r ≡ Ok q → (y : Ran) → y ≡ chain_at (d - 1) s b q.top level nest q.sort q.place q.next → y ≡ expr_at d s m top level want row nest t
  expr-found q e y ye = simp (expr-unfold s m top nest d nz, sym re, e) ye

module _ (d : ℕ) (s m : List ℕ) (top want row nest : ℕ) (t : Token) (nz : d ≡ 0 → ⊥) (a : Bool) (ae : a ≡ Numbered.allows want t.kind) where
  pub operand-not : a ≡ false → (r : Out) → r ≡ refused t → ran r m ≡ operand_at d s m top want row nest t
  operand-not h r e = simp (operand-unfold s m top nest d nz, sym ae, h, e)

  module _ (at : a ≡ true) (o : ℕ) (oe : o ≡ Numbered.prefix_operator t.kind) (y : Ran) where
    pub operand-prefixed : (o ≡ Numbered.NONE → ⊥) → y ≡ prefixed_at (d - 1) s m top o want row nest t → y ≡ operand_at d s m top want row nest t
    operand-prefixed h ye = simp (operand-unfold s m top nest d nz, sym ae, at, sym oe, ne_eqb _ _ h) ye

    module _ (on : o ≡ Numbered.NONE) where
      pub operand-bracketed : t.kind ≡ Kind.OPEN → y ≡ bracketed_at (d - 1) s m top want nest t → y ≡ operand_at d s m top want row nest t
      operand-bracketed h ye = simp (operand-unfold s m top nest d nz, sym ae, at, sym oe, eq-eqb _ _ on, eq-eqb _ _ h) ye

      pub operand-leaf : (t.kind ≡ Kind.OPEN → ⊥) → y ≡ leaf_read s m top want t → y ≡ operand_at d s m top want row nest t
      operand-leaf h ye = simp (operand-unfold s m top nest d nz, sym ae, at, sym oe, eq-eqb _ _ on, ne_eqb _ _ h) ye

module _ (d : ℕ) (s m : List ℕ) (top op want row nest : ℕ) (t : Token) (nz : d ≡ 0 → ⊥) where
  pub prefixed-row : most_prefixes ≤ row → ran (Err (against 7 t.start)) m ≡ prefixed_at d s m top op want row nest t
  prefixed-row h = simp (prefixed-unfold s m top nest d nz, le-leb _ _ h)

  module _ (h : row < most_prefixes) (n : Token) (ne : n ≡ next_at s t.end) (l w : ℕ) (le : l ≡ Numbered.operand_level op) (we : w ≡ Numbered.operand_want op want)
      (r : Out) (b : List ℕ) (re : ran r b ≡ expr_at (d - 1) s m top l w (row + 1) nest n) where
    pub prefixed-aside : (f : Fault) → r ≡ Err f → ran (Err f) b ≡ prefixed_at d s m top op want row nest t
    prefixed-aside f e = simp (prefixed-unfold s m top nest d nz, lt-leb _ _ h, sym ne, sym le, sym we, sym re, e)

    pub prefixed-found : (q : Found) → r ≡ Ok q → (y : Ran) → y ≡ finish_at b q.top (Numbered.prefix_of op q.sort) q.sort q.place q.next → y ≡ prefixed_at d s m top op want row nest t
    prefixed-found q e y ye = simp (prefixed-unfold s m top nest d nz, lt-leb _ _ h, sym ne, sym le, sym we, sym re, e) ye

module _ (d : ℕ) (s m : List ℕ) (top want nest : ℕ) (t : Token) (nz : d ≡ 0 → ⊥) where
  pub bracketed-full : most_brackets ≤ nest → ran (Err (against 7 t.start)) m ≡ bracketed_at d s m top want nest t
  bracketed-full h = simp (bracketed-unfold s m top nest d nz, le-leb _ _ h)

  module _ (h : nest < most_brackets) (n : Token) (ne : n ≡ next_at s t.end) (l : ℕ) (le : l ≡ Numbered.inside_level want)
      (r : Out) (b : List ℕ) (re : ran r b ≡ expr_at (d - 1) s m top l want 0 (nest + 1) n) where
    pub bracketed-aside : (f : Fault) → r ≡ Err f → ran (Err f) b ≡ bracketed_at d s m top want nest t
    bracketed-aside f e = simp (bracketed-unfold s m top nest d nz, lt-leb _ _ h, sym ne, sym le, sym re, e)

    pub bracketed-found : (q : Found) → r ≡ Ok q → (o : Out) → o ≡ closed_at s q.sort q.place q.top q.next → ran o b ≡ bracketed_at d s m top want nest t
    bracketed-found q e o oe = simp (bracketed-unfold s m top nest d nz, lt-leb _ _ h, sym ne, sym le, sym re, e, oe)

module _ (d : ℕ) (s m : List ℕ) (top op nest sort place at : ℕ) (nz : d ≡ 0 → ⊥)
    (q : ℕ) (c : List ℕ) (qe : q ≡ word_top m top sort) (ce : c ≡ word_written m top (Numbered.operand_of op) sort place) (n : Token) (ne : n ≡ next_at s at)
    (l v : ℕ) (le : l ≡ Numbered.right_level op) (ve : v ≡ Numbered.right_want op) (r : Out) (b : List ℕ) (re : ran r b ≡ expr_at (d - 1) s c q l v 0 nest n) where
  pub joined-aside : (f : Fault) → r ≡ Err f → ran (Err f) b ≡ joined_at d s m top op nest sort place at
  joined-aside f e = simp (joined-unfold s m top nest d nz, sym qe, sym ce, sym ne, sym le, sym ve, sym re, e)

  pub joined-found : (q : Found) → r ≡ Ok q → (y : Ran) → y ≡ finish_at b q.top op q.sort q.place q.next → y ≡ joined_at d s m top op nest sort place at
  joined-found q e y ye = simp (joined-unfold s m top nest d nz, sym qe, sym ce, sym ne, sym le, sym ve, sym re, e) ye

loose : (level o : ℕ) (f : Bool) → f ≡ pick (Numbered.binds level o) false true → f ≡ true → Numbered.binds level o ≡ false
loose level o f e h = split (Numbered.binds level o) (λ k. clash h (e ∙ rw k)) (λ k. k)

bound : (level o : ℕ) (f : Bool) → f ≡ pick (Numbered.binds level o) false true → f ≡ false → Numbered.binds level o ≡ true
bound level o f e h = split (Numbered.binds level o) (λ k. k) (λ k. clash (e ∙ rw k) h)

-- a turn of `chain`, with the invariant `chain_rest .. ≡ a`
module _ (k : ℕ) (s m : List ℕ) (top level nest sort place : ℕ) (t : Token) (a : Ran) (inv : chain_rest k s m top level nest sort place t ≡ a) where
  pub chain-end : length s ≤ t.start → ran (found sort place top t) m ≡ a
  unfolding chain_rest
  chain-end h = sym (loop-done _ _ _ (t, sort, place, top, m) _ (simp (le-leb _ _ h))) ∙ inv

  module _ (in-s : t.start < length s) (o : ℕ) (oe : o ≡ Numbered.operator sort t.kind) (f : Bool) (fe : f ≡ pick (Numbered.binds level o) false true) where
    pub chain-other : f ≡ true → ran (found sort place top t) m ≡ a
    unfolding chain_rest
    chain-other h = sym (loop-done _ _ _ (t, sort, place, top, m) _ (simp (lt-leb _ _ in-s, sym oe, loose level o f fe h))) ∙ inv

    module _ (ff : f ≡ false) where
      module _ (r : Out) (b : List ℕ) (re : ran r b ≡ joined_at k s m top o nest sort place t.end) where
        pub chain-aside : (w : Fault) → r ≡ Err w → ran (Err w) b ≡ a
        unfolding chain_rest
        chain-aside w e =
            sym (loop-done _ _ _ (t, sort, place, top, m) (ran (Err w) b) (simp (lt-leb _ _ in-s, sym oe, bound level o f fe ff, sym re, e))) ∙ inv

        module _ (q : Found) (e : r ≡ Ok q) where
          pub chain-stuck : q.next.start ≤ t.start → ran (Err (against 0 t.start)) b ≡ a
          unfolding chain_rest
          chain-stuck h =
              sym (loop-done _ _ _ (t, sort, place, top, m) (ran (Err (against 0 t.start)) b) (simp (lt-leb _ _ in-s, sym oe, bound level o f fe ff, sym re, e, le-leb _ _ h))) ∙ inv

          pub chain_more : t.start < q.next.start → chain_rest k s b q.top level nest q.sort q.place q.next ≡ a
          unfolding chain_rest
          chain_more h =
              sym (loop-next _ _ _ (t, sort, place, top, m) (q.next, q.sort, q.place, q.top, b) (simp (lt-leb _ _ in-s, sym oe, bound level o f fe ff, sym re, e, lt-leb _ _ h)) (omega arith)) ∙ inv
