-- For the theorems' premises, cases where they hold and where they don't. Assumes nothing.
use Rattle.std.specs.Prelude.{◌≡◌, true, false, List, [], ◌∷◌, ℕ}
use Rattle.std.proofs.Math.Path.{refl}
use Rattle.text.specs.Equal.{equal}
use Rattle.text.specs.Scan.{past}
use Rattle.record.specs.Query.{Query}
use Rattle.lexical.specs.Kind
use Rattle.lexical.specs.Class.{class_of}
use Rattle.lexical.specs.Run.{has_class, in_run}
use Rattle.lexical.specs.Operator.{equal_pair, pair_of, mark_kind, is_of, operator_kind}
use Rattle.lexical.specs.Token.{token, width_of, operator_at, operator_token, token_from}
use Rattle.lexical.specs.Line.{visible, in_line, token_at}
use Rattle.principal.specs.Canonical.{front, behind, canonical_with, canonical}
use Rattle.principal.specs.Principal.{Principal, same, same_refl, policy}
use Rattle.principal.specs.Places.{place}
use Rattle.conditions.specs.Table.{begins_string}
use Rattle.conditions.specs.Word.{next_at}
use Rattle.compliance.specs.Licensees as Compliance
use Rattle.syntax.specs.Expr.{literal}
use Rattle.expression.specs.Value.{bytes_of}
use Rattle.expression.specs.Operations.{held}
use Rattle.expression.specs.Conditions.{evaluate}
use Rattle.naming.specs.Source.{Licensees, Author, one, given, sources}
use Rattle.naming.specs.String.{plain_from}
use Rattle.naming.specs.Naming.{identified, people, author, licensed}
use Rattle.naming.specs.Fault.{clear, faulty, size_fault, source_fault, policy_fault, first_fault, licensees_fault, author_fault}
use Rattle.naming.specs.Theorems.StandIn.{entered, people_now, licensed_now, licensed-is}

-- `"a"` and `""`, at place 3
abbrev someone : Licensees
someone = given [] (one (record { place = 3; says = literal (97 ∷ []) }))

abbrev nobody : Licensees
nobody = given [] (one (record { place = 3; says = literal [] }))

module _ (q : Query) where
  -- `licensed-is`: nothing is at fault
  someone-clear : licensees_fault q someone ≡ clear
  unfolding licensees_fault first_fault sources source_fault size_fault identified evaluate held bytes_of
  someone-clear = refl

  pub someone-is : licensed_now q someone ≡ licensed q someone
  someone-is = licensed-is q someone someone-clear

  -- reason 10, and POLICY stands in, which the field doesn't name
  pub nobody-fault : licensees_fault q nobody ≡ faulty 10 3
  unfolding licensees_fault first_fault sources source_fault size_fault identified evaluate held bytes_of
  nobody-fault = refl

  pub nobody-now : licensed_now q nobody ≡ Compliance.given (Compliance.name policy)
  unfolding licensed_now people_now entered source_fault size_fault identified evaluate held bytes_of
  nobody-now = refl

  pub nobody-named : licensed q nobody ≡ Compliance.given (Compliance.name [])
  unfolding licensed people identified evaluate held bytes_of
  nobody-named = refl

-- an authorizer that is POLICY: 9 of a verified credential, nothing of a local assertion
abbrev root : Author
root = record { constants = []; by = record { place = 3; says = literal policy } }

pub root-verified : (q : Query) → author_fault 2 q root ≡ faulty 9 3
unfolding author_fault policy_fault author source_fault size_fault identified evaluate held bytes_of same canonical canonical_with front behind equal policy
root-verified q = refl

pub root-local : (q : Query) → author_fault 1 q root ≡ clear
unfolding author_fault policy_fault source_fault size_fault identified evaluate held bytes_of policy
root-local q = refl

-- `licensees-read` and `author-read`: POLICY is first in the index
pub policy-first : (names : List Principal) → place (policy ∷ names) policy ≡ 0
unfolding place
policy-first names = rw (same_refl policy)

-- and behind another it isn't
pub policy-second : place ((97 ∷ []) ∷ policy ∷ []) policy ≡ 1
unfolding place same canonical canonical_with front behind equal policy
policy-second = refl

-- `string-refused`: ` ()` begins no string, ` (x` does
abbrev opening : ℕ → List ℕ
opening b = 32 ∷ 40 ∷ b ∷ []

pub none-begins : begins_string (plain_from 16 (opening 41) (token Kind.OPEN 1 2)).kind ≡ false
unfolding begins_string plain_from token_at in_line visible token_from operator_token operator_at operator_kind equal_pair pair_of mark_kind is_of width_of class_of has_class in_run past
none-begins = refl

pub one-begins : begins_string (plain_from 16 (opening 120) (token Kind.OPEN 1 2)).kind ≡ true
unfolding begins_string plain_from token_at in_line visible token_from class_of has_class in_run past
one-begins = refl

-- `plain-named-read`: behind the name of ` x` stands the end, behind that of ` x.` a "."
pub alone : (next_at (32 ∷ 120 ∷ []) 2).kind ≡ Kind.END
unfolding token_at in_line visible class_of has_class in_run past
alone = refl

pub longer : (next_at (32 ∷ 120 ∷ 46 ∷ []) 2).kind ≡ Kind.DOT
unfolding token_at in_line visible token_from operator_token operator_at operator_kind equal_pair pair_of mark_kind is_of width_of class_of has_class in_run past
longer = refl
