-- Conditions: its reader gives reason 2 where the grammar allows no continuation, and else reads a sentence and gives a tree of it. Assumes nothing.
use Rattle.std.specs.Prelude.{◌≡◌, true, ℕ, ◌+◌, eqb}
use Rattle.std.proofs.Math.Path.{refl}
use Rattle.std.proofs.Common.{arith, eqb-true, ne_eqb}
use Rattle.std.proofs.Math.Bool.{false}
use mathlib.Core.List.{List}
use Rattle.text.specs.Choice.{split}
use Rattle.lexical.specs.Kind
use Rattle.lexical.specs.declared.token.Token.{Token}
use Rattle.syntax.specs.Operator.{a-string, a_test}
use Rattle.conditions.specs.Table.{PartSort, sorted, word, want-any, want-string}
use Rattle.conditions.specs.Table
use Rattle.grammar.specs.Spelled.{kind_in}
use Rattle.grammar.specs.Working.States.{TEXT, in-clause, value, State, p-dead, p-begin, p-arrow, p-block, p-any, p-text, p-have, flat, step}
use Rattle.grammar.specs.Working.Accepts.{Behind, held-end}
use Rattle.grammar.specs.Working.Joints.{Fits, fit-test, fit_word, binds-less, kind-same}
use Rattle.grammar.specs.Working.Onward.{after, any-test}

-- the automaton where a clause begins and ends
pub clause-wrong : (d : ℕ) (sort : PartSort) (k : ℕ) → Fits a_test sort → Table.binds 0 (Table.operator sort k) ≡ false → eqb k Kind.ARROW ≡ false → eqb k Kind.SEMICOLON ≡ false
    → step (after (p-any (in-clause d)) sort) k ≡ p-dead
unfolding step Table.operator
clause-wrong d _ k fit-test b f g =
    rw (binds-less 0 3 (Table.operator (sorted a_test) k) b (omega arith), binds-less 0 2 (Table.operator (sorted a_test) k) b (omega arith), b, f, g) refl
clause-wrong d _ k (fit_word w) b f g =
    rw (binds-less 0 3 (Table.operator (word true) k) b (omega arith), binds-less 0 2 (Table.operator (word true) k) b (omega arith), b, f, g) refl

pub clause-right : (d : ℕ) (sort : PartSort) (k : ℕ) (p : State) → Fits a_test sort → Behind d k p → step (after (p-any (in-clause d)) sort) k ≡ p
clause-right d sort k p f b = any-test (in-clause d) k p (held-end d k p b) sort f

pub value-wrong : (d k : ℕ) → Table.binds 3 (Table.operator (sorted a-string) k) ≡ false → eqb k Kind.SEMICOLON ≡ false → step (p-have TEXT (value d)) k ≡ p-dead
unfolding step
value-wrong d k b f = rw (b, f) refl

pub block-wrong : (d k : ℕ) → eqb k Kind.SEMICOLON ≡ false → step (p-block d) k ≡ p-dead
unfolding step
block-wrong d k f = rw f refl

pub begin-same : (d k : ℕ) → Table.stops d k ≡ false → step (p-begin d) k ≡ step (p-any (in-clause d)) k
unfolding step
begin-same d k h = split (Table.allows want-any (flat k)) (λ e. rw e refl) (λ e. rw (e, h) refl)

pub arrow-same : (d k : ℕ) → eqb k Kind.OPEN_BRACE ≡ false → step (p-arrow d) k ≡ step (p-text TEXT (value d)) k
unfolding step
arrow-same d k h = split (Table.allows want-string (flat k)) (λ e. rw e refl) (λ e. rw (e, h) refl)

pub stops-kind : (s : List ℕ) (u : Token) (d : ℕ) → Table.stops d (kind_in s u) ≡ Table.stops d u.kind
unfolding Table.stops Kind.ending
stops-kind s u d = kind-same s u (λ (k : ℕ). Table.stops d k) refl

-- the end of a program in brackets
pub closing-brace : (d k : ℕ) → Table.stops (d + 1) k ≡ true → k ≡ Kind.CLOSE_BRACE
unfolding Table.stops Kind.ending
closing-brace d k h = let z : eqb (d + 1) 0 ≡ false = ne_eqb (d + 1) 0 (λ n. let bad : ⊥ = omega (arith, n) in bad) in eqb-true k Kind.CLOSE_BRACE (rw z at h)
