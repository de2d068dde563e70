-- Authorizer as a string expression (W-203): its reader gives reason 2 where the grammar allows no continuation, and else reads a sentence and gives
-- a tree of it. Assumes nothing.
use Rattle.std.specs.Prelude.{◌≡◌, refl, false, List, ℕ, eqb}
use Rattle.std.proofs.Common.{◌∙◌, arith}
use Rattle.lexical.specs.Kind
use Rattle.lexical.specs.Kind.{ending}
use Rattle.lexical.specs.declared.token.Token.{Token}
use Rattle.conditions.specs.Table
use Rattle.grammar.specs.Fields.{Ends, end-of-text, next-version, next-constants, next-authorizer, next-licensees, next-conditions, next-comment, next-signature}
use Rattle.grammar.specs.Spelled.{kind_in}
use Rattle.grammar.specs.Working.Joints.{kind-same}
use Rattle.grammar.specs.Working.States.{TEXT, alone, p-dead, p-over, p-have, step}
use Rattle.grammar.specs.Working.Strings.{leaves}

-- what ends the field
pub ends-alone : (k : ℕ) → Ends k → step (p-have TEXT alone) k ≡ p-over
unfolding step Table.binds Table.operator Table.text_operator Table.level_of Table.comparison ending
ends-alone _ end-of-text = refl
ends-alone _ next-version = refl
ends-alone _ next-constants = refl
ends-alone _ next-authorizer = refl
ends-alone _ next-licensees = refl
ends-alone _ next-conditions = refl
ends-alone _ next-comment = refl
ends-alone _ next-signature = refl

pub over-dead : p-over ≡ p-dead → ⊥
over-dead z = let v : ◌≡◌ {A = ℕ} 0 1 = cc in omega (arith, v)

pub step-over : (k : ℕ) → step p-over k ≡ p-dead
unfolding step
step-over k = refl

pub ending-kind : (s : List ℕ) (u : Token) → ending (kind_in s u) ≡ ending u.kind
unfolding ending
ending-kind s u = kind-same s u (λ (k : ℕ). ending k) refl

pub alone-wrong : (k : ℕ) → eqb k Kind.DOT ≡ false → ending k ≡ false → step (p-have TEXT alone) k ≡ p-dead
alone-wrong k e f = leaves alone k e ∙ rw f refl
