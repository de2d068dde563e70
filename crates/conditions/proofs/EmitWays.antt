-- The ways out of the functions of `emit`. Assumes nothing.
use mathlib.Core.Path.{◌≡◌, sym, ◌∙◌, ap}
use mathlib.Core.Bool.{Bool, true, false}
use mathlib.Core.List.{List}
use Prim.Native.Nat.{ℕ, ◌+◌, ◌*◌, ◌<◌, ◌≤◌}
use lib.ListN.{length, set}
use borrow.Author.Tests.{lt-ltb, le-ltb, le-leb, lt-leb, eq-eqb, ne_eqb}
use Rattle.lexical.specs.Kind
use Rattle.lexical.specs.Token.{token}
use Rattle.lexical.specs.declared.token.Token.{Token}
use Rattle.syntax.specs.Op
use Rattle.syntax.specs.Code.{entry}
use Rattle.conditions.specs.Working.Numbered.{TEST, TEXT, TRUE, fits}
use Rattle.conditions.specs.Working.Numbered.{operand_of, result_of, prefix_of}
use Rattle.conditions.specs.Word.{next_at}
use Rattle.conditions.specs.Working.Emit.{found, Out, slot_of, above, put, word_top, word_written, Ran, ran, refused, finish_at, ended_at, valued_at, closed_at}
use Rattle.syntax.specs.Working.Faults.{misplaced_at}
use Rattle.syntax.specs.declared.fault.Fault.{Fault}
use Rattle.std.specs.Prelude.{Err}

module _ (op at : ℕ) where
  pub slot-far : 65536 ≤ at → 0 ≡ slot_of op at
  unfolding slot_of
  slot-far h = simp (le-leb _ _ h)

  module _ (h : at < 65536) where
    pub slot-no : 64 ≤ op → 0 ≡ slot_of op at
    unfolding slot_of
    slot-no k = simp (lt-leb _ _ h, le-leb _ _ k)

    pub slot-made : (a : ℕ) → op < 64 → a ≡ at → op * 65536 + a ≡ slot_of op at
    unfolding slot_of entry
    slot-made a k e = simp (lt-leb _ _ h, lt-leb _ _ k, e)

module _ (m : List ℕ) (top op at : ℕ) where
  pub push-full : length m ≤ top → top ≡ above m top
  unfolding above
  push-full h = simp (le-leb _ _ h)

  pub push_kept : length m ≤ top → m ≡ put m top op at
  unfolding put
  push_kept h = simp (le-leb _ _ h)

  pub push-top : top < length m → top + 1 ≡ above m top
  unfolding above
  push-top h = simp (lt-leb _ _ h)

  pub push-set : (x : ℕ) → top < length m → x ≡ slot_of op at → set m top x ≡ put m top op at
  unfolding put
  push-set x h e = simp (lt-leb _ _ h, e)

module _ (m : List ℕ) (top wanted sort place : ℕ) where
  pub write-word-top : sort < TRUE → top ≡ word_top m top sort
  unfolding word_top
  write-word-top h = simp (lt-ltb _ _ h)

  pub write-word-kept : sort < TRUE → m ≡ word_written m top wanted sort place
  unfolding word_written
  write-word-kept h = simp (lt-ltb _ _ h)

  module _ (h : TRUE ≤ sort) where
    pub write-word-above : (r : ℕ) → r ≡ above m top → r ≡ word_top m top sort
    unfolding word_top
    write-word-above r e = simp (le-ltb _ _ h) e

    module _ (b : List ℕ) where
      pub write-word-name : wanted ≡ TEXT → b ≡ put m top Op.NAME place → b ≡ word_written m top wanted sort place
      unfolding word_written
      write-word-name w e = simp (le-ltb _ _ h, eq-eqb _ _ w) e

      pub write-word-true : (wanted ≡ TEXT → ⊥) → sort ≡ TRUE → b ≡ put m top Op.TRUE 0 → b ≡ word_written m top wanted sort place
      unfolding word_written
      write-word-true w t e = simp (le-ltb _ _ h, ne_eqb _ _ w, eq-eqb _ _ t) e

      pub write-word-false : (wanted ≡ TEXT → ⊥) → (sort ≡ TRUE → ⊥) → b ≡ put m top Op.FALSE 0 → b ≡ word_written m top wanted sort place
      unfolding word_written
      write-word-false w t e = simp (le-ltb _ _ h, ne_eqb _ _ w, ne_eqb _ _ t) e

pub write-word-needed : (m : List ℕ) (top op sort place w : ℕ) (b : List ℕ) → w ≡ operand_of op → b ≡ word_written m top w sort place → b ≡ word_written m top (operand_of op) sort place
write-word-needed m top op sort place w b we be = be ∙ ap (λ (y : ℕ). word_written m top y sort place) we

pub unexpected-made : (t : Token) (f : Fault) → f ≡ misplaced_at t → Err f ≡ refused t
unfolding refused
unexpected-made t f e = simp e

module _ (m : List ℕ) (top op sort place : ℕ) (next : Token) (w : ℕ) (we : w ≡ operand_of op) (f : Bool) (fe : f ≡ fits w sort) where
  pub finish-made : f ≡ true → (u : ℕ) (b : List ℕ) → u ≡ word_top m top sort → b ≡ word_written m top (operand_of op) sort place
      → (v x : ℕ) (c : List ℕ) → v ≡ above b u → c ≡ put b u op 0 → x ≡ result_of op
      → ran (found x 0 v next) c ≡ finish_at m top op sort place next
  unfolding finish_at
  finish-made h u b ue be v x c ve ce xe = simp (ap (λ (y : ℕ). fits y sort) (sym we), sym fe, h, sym ue, sym be, sym ve, sym ce, sym xe)

  pub finish-not : f ≡ false → (r : Out) → r ≡ refused next → ran r m ≡ finish_at m top op sort place next
  unfolding finish_at
  finish-not h r e = simp (sym we, sym fe, h, e)

module _ (m : List ℕ) (top op sort place : ℕ) (next : Token) (h : sort < TRUE) (w : ℕ) (we : w ≡ operand_of op) where
  pub finish-wrong : (sort ≡ w → ⊥) → (r : Out) → r ≡ refused next → ran r m ≡ finish_at m top op sort place next
  unfolding finish_at fits
  finish-wrong n r e = simp (sym we, ne_eqb _ _ n, lt-ltb _ _ h, e)

  pub finish-quick : sort ≡ w → (v x : ℕ) (c : List ℕ) → v ≡ above m top → c ≡ put m top op 0 → x ≡ result_of op
      → ran (found x 0 v (token next.kind next.start next.end)) c ≡ finish_at m top op sort place next
  unfolding finish_at fits word_written word_top
  finish-quick e v x c ve ce xe = simp (sym we, eq-eqb _ _ e, lt-ltb _ _ h, sym ve, sym ce, sym xe)

module _ (s m : List ℕ) (top op : ℕ) (t : Token) where
  pub ended-not : (t.kind ≡ Kind.SEMICOLON → ⊥) → (r : Out) → r ≡ refused t → ran r m ≡ ended_at s m top op t
  unfolding ended_at
  ended-not h r e = simp (ne_eqb _ _ h, e)

  pub ended-made : t.kind ≡ Kind.SEMICOLON → (u : ℕ) (b : List ℕ) (n : Token) → u ≡ above m top → b ≡ put m top op 0 → n ≡ next_at s t.end
      → ran (found TEST 0 u n) b ≡ ended_at s m top op t
  unfolding ended_at
  ended-made h u b n ue be ne = simp (eq-eqb _ _ h, sym ue, sym be, sym ne)

module _ (s m : List ℕ) (top sort place : ℕ) (t : Token) (f : Bool) (fe : f ≡ fits TEXT sort) where
  pub valued-made : f ≡ true → (u : ℕ) (b : List ℕ) → u ≡ word_top m top sort → b ≡ word_written m top TEXT sort place
      → (r : Ran) → r ≡ ended_at s b u Op.VALUED t → r ≡ valued_at s m top sort place t
  unfolding valued_at
  valued-made h u b ue be r e = simp (sym fe, h, sym ue, sym be) e

  pub valued_not : f ≡ false → (r : Out) → r ≡ refused t → ran r m ≡ valued_at s m top sort place t
  unfolding valued_at
  valued_not h r e = simp (sym fe, h, e)

module _ (s : List ℕ) (sort place top : ℕ) (t : Token) where
  pub closed-not : (t.kind ≡ Kind.CLOSE → ⊥) → (r : Out) → r ≡ refused t → r ≡ closed_at s sort place top t
  unfolding closed_at
  closed-not h r e = simp (ne_eqb _ _ h) e

  pub closed-made : t.kind ≡ Kind.CLOSE → (n : Token) → n ≡ next_at s t.end → found sort place top n ≡ closed_at s sort place top t
  unfolding closed_at
  closed-made h n e = simp (eq-eqb _ _ h, sym e)

pub prefix-finished : (m : List ℕ) (top op sort place q : ℕ) (n : Token) → q ≡ prefix_of op sort → (y : Ran) → y ≡ finish_at m top q sort place n → y ≡ finish_at m top (prefix_of op sort) sort place n
prefix-finished m top op sort place q n e y ye = simp (sym e) ye
