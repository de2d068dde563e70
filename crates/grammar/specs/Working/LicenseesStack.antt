-- A machine with a stack of operators that makes the tree of a Licensees field from its tokens: by it a field has one tree. Assumes nothing.
use Rattle.std.specs.Prelude.{◌≡◌, ℕ, eqb}
use Rattle.std.proofs.Math.Path.{refl}
use mathlib.Core.List.{List, [], ◌∷◌, ◌++◌}
use Rattle.text.specs.Choice.{pick}
use Rattle.lexical.specs.Kind
use Rattle.lexical.specs.declared.token.Token.{Token}
use Rattle.syntax.specs.Operator as Operator
use Rattle.syntax.specs.Expr.{Expr, literal, unary, binary}
use Rattle.naming.specs.Source.{Source, Sources, one, and, or, k_of}
use Rattle.grammar.specs.Sourced.{Plain, plain_here, plain-behind}
use Rattle.grammar.specs.Working.Pending.{Entry, pending, opening}

-- the stack: operators and brackets that wait
abbrev pub Waiting : Type 0
Waiting = List (Entry Sources)

-- inside a list: its number, the items so far, and what waits around it
pub data Context : Type 0 where
  top : Context
  listing : ℕ → List Source → Waiting → Context

-- an operand is wanted, or one was read, or the number of a K-of, or its "-of", or none of them fits
pub data Machine : Type 0 where
  z-want : Context → Waiting → Machine
  z-have : Context → Sources → Waiting → Machine
  z-number : ℕ → Waiting → Machine
  z-of : ℕ → Waiting → Machine
  z-lost : Machine

abbrev pub source : ℕ → Expr → Source
source p e = record { place = p; says = e }

-- the string that an expression is
abbrev pub source_of : Sources → Source
source_of (one x) = x
source_of (and a b) = source 0 (literal [])
source_of (or a b) = source 0 (literal [])
source_of (k_of k xs) = source 0 (literal [])

abbrev pub dotted : Sources → Sources → Sources
dotted a b = one (source (source_of a).place (binary Operator.join (source_of a).says (source_of b).says))

abbrev pub looked : ℕ → Sources → Sources
looked p a = one (source p (unary Operator.lookup (source_of a).says))

abbrev pub joined : ℕ → Sources → Sources → Sources
joined k e f = pick (eqb k Kind.AND) (and e f) (pick (eqb k Kind.DOT) (dotted e f) (or e f))

abbrev pub level_of : ℕ → ℕ
level_of k = pick (eqb k Kind.AND) 1 (pick (eqb k Kind.DOT) 2 0)

abbrev pub closed_in : Context → Sources × Waiting → Machine
closed_in top (e, []) = z-lost
closed_in (listing k xs P) (e, []) = z-have top (k_of k (xs ++ source_of e ∷ [])) P
closed_in C (e, opening ∷ P) = z-have C e P
closed_in C (e, pending m f ∷ P) = z-lost

abbrev pub item_in : Context → Sources × Waiting → Machine
item_in top x = z-lost
item_in (listing k xs P) x = z-want (listing k (xs ++ source_of x.0 ∷ []) P) []

abbrev pub operated : Context → ℕ → Sources × Waiting → Machine
operated C k x = z-want C (pending (level_of k) (joined k x.0) ∷ x.1)

-- two places of one first token
pub plain-one : (ts : List Token) (p q : ℕ) → Plain ts p → Plain ts q → p ≡ q
plain-one _ _ _ (plain_here t ts h) (plain_here _ _ g) = refl
plain-one _ _ _ (plain_here t ts h) (plain-behind _ _ q g b) = absurd (h g)
plain-one _ _ _ (plain-behind t ts p h a) (plain_here _ _ g) = absurd (g h)
plain-one _ _ _ (plain-behind t ts p h a) (plain-behind _ _ q g b) = plain-one ts p q a b
