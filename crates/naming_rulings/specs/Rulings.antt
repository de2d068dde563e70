-- The rulings on W-203 (R01 to R10 and I02) and those of the base that it moves, computed from the definitions as one table: texts are read, named in a
-- query and answered. Assumes nothing.
use Rattle.std.specs.Prelude.{◌≡◌, refl, List, [], ◌∷◌, ◌++◌, map, ℕ, zero, suc}
use Prim.Native.String.{String}
use Rattle.record.specs.Query.{Query, Attribute}
use Rattle.compliance.specs.Highest.{highest}
use Rattle.expression.specs.Value.{bytes_of}
use Rattle.keynote.specs.Answer.{worth, ranked, reading, readings, kept_of, system, class_given}
use Rattle.keynote.specs.Report.{reason_of, place_of}
use Rattle.keynote.specs.Rulings.{bytes, set}
use Rattle.text.specs.Counted as TextCounted
use Rattle.syntax.specs.Parsed as SyntaxParsed
use Rattle.text.specs.Class as TextClass
use Rattle.text.specs.Decimal as TextDecimal
use Rattle.text.specs.Digits as TextDigits
use Rattle.text.specs.Equal as TextEqual
use Rattle.text.specs.Loop as TextLoop
use Rattle.text.specs.Order as TextOrder
use Rattle.text.specs.Scan as TextScan
use Rattle.lexical.specs.Class as LexicalClass
use Rattle.lexical.specs.Kind as LexicalKind
use Rattle.lexical.specs.Label as LexicalLabel
use Rattle.lexical.specs.Line as LexicalLine
use Rattle.lexical.specs.Literal as LexicalLiteral
use Rattle.lexical.specs.Number as LexicalNumber
use Rattle.lexical.specs.Operator as LexicalOperator
use Rattle.lexical.specs.Reason as LexicalReason
use Rattle.lexical.specs.Run as LexicalRun
use Rattle.lexical.specs.Token as LexicalToken
use Rattle.lexical.specs.Unit as LexicalUnit
use Rattle.lexical.specs.Word as LexicalWord
use Rattle.fields.specs.Constants as FieldsConstants
use Rattle.naming.specs.Source as NamingSource
use Rattle.naming.specs.String as NamingString
use Rattle.naming.specs.Authorizer as NamingAuthorizer
use Rattle.naming.specs.Licensees as NamingLicensees
use Rattle.naming.specs.Naming as NamingNaming
use Rattle.naming.specs.Fault as NamingFault
use Rattle.assertion.specs.Labels as AssertionLabels
use Rattle.assertion.specs.Form as AssertionForm
use Rattle.assertion.specs.Resolved as AssertionResolved
use Rattle.conditions.specs.Expression as ConditionsExpression
use Rattle.conditions.specs.Operand as ConditionsOperand
use Rattle.conditions.specs.Program as ConditionsProgram
use Rattle.conditions.specs.Table as ConditionsTable
use Rattle.conditions.specs.Word as ConditionsWord
use Rattle.syntax.specs.Code as SyntaxCode
use Rattle.compliance.specs.Licensees as ComplianceLicensees
use Rattle.compliance.specs.Reach as ComplianceReach
use Rattle.compliance.specs.Rounds as ComplianceRounds
use Rattle.compliance.specs.System as ComplianceSystem
use Rattle.principal.specs.Canonical as PrincipalCanonical
use Rattle.principal.specs.Members as PrincipalMembers
use Rattle.principal.specs.Principal as PrincipalPrincipal
use Rattle.expression.specs.Conditions as ExpressionConditions
use Rattle.expression.specs.Integers as ExpressionIntegers
use Rattle.expression.specs.Operations as ExpressionOperations
use Rattle.expression.specs.Names as ExpressionNames
use Rattle.fields.specs.Signature as FieldsSignature
use Rattle.text.specs.Join as TextJoin

-- POLICY's Authorizer, before the text's other fields
unfoldable pub heading : List ℕ
heading = bytes "Authorizer: \"POLICY\"\n"

-- a text so many times
unfoldable pub times : ℕ → String → List ℕ
times zero t = []
times (suc n) t = bytes t ++ times n t

-- an attribute with a long value
unfoldable pub long : String → ℕ → String → Attribute
long n k v = record { name = bytes n; value = times k v }

-- reasons, places and the rank
unfoldable pub tells : Query → List ℕ × List ℕ × ℕ
tells q = (map reason_of (readings q), map place_of (readings q), class_given q)

-- values, requesters, attributes, and texts of one standing
unfoldable pub asked : List String → List String → List Attribute → ℕ → List (List ℕ) → List ℕ × List ℕ × ℕ
asked values requesters attributes level texts = tells (record {
  values = map bytes values;
  requesters = map bytes requesters;
  attributes = attributes;
  assertions = map (λ t. record { standing = level; text = t }) texts;
})

-- one text; the requester is a
unfoldable pub standing : ℕ → List Attribute → List ℕ → List ℕ × List ℕ × ℕ
standing level attributes t = asked ("hold" ∷ "immediate" ∷ []) ("a" ∷ []) attributes level (t ∷ [])

abbrev pub knowing : List Attribute → List ℕ → List ℕ × List ℕ × ℕ
knowing attributes t = standing 1 attributes t

abbrev pub plain : List ℕ → List ℕ × List ℕ × ℕ
plain t = standing 1 [] t

-- kept, with that rank; or set aside
abbrev pub keeps : ℕ → List ℕ × List ℕ × ℕ
keeps rank = (0 ∷ [], 0 ∷ [], rank)

abbrev pub aside : ℕ → ℕ → List ℕ × List ℕ × ℕ
aside reason place = (reason ∷ [], place ∷ [], 0)

pub record NamingRulings : Type 0 where
  -- R01. Which fields hold string expressions
  pub r01-1 : plain (bytes "Authorizer: (\"POLICY\")") ≡ keeps 1
  pub r01-2 : plain (bytes "Authorizer: \"POL\" . (\"IC\" . \"Y\")") ≡ keeps 1
  pub r01-3 : knowing (set "p" "POLICY" ∷ []) (bytes "Authorizer: $(\"p\")") ≡ keeps 1
  pub r01-4 : plain (heading ++ bytes "Licensees: (\"a\" || \"b\") . \"c\"") ≡ aside 2 45
  pub r01-5 : plain (heading ++ bytes "Licensees: ((\"\" . \"a\")) . \"\" || \"b\"") ≡ keeps 1
  pub r01-6 : plain (heading ++ bytes "Licensees: (\"a\") && (\"a\" . \"\") || \"b\"") ≡ keeps 1
  pub r01-7 : plain (heading ++ bytes "Licensees: 1-of((\"a\"), \"b\" . \"c\")") ≡ keeps 1
  pub r01-8 : plain (heading ++ bytes "Licensees: 1-of((\"a\" && \"b\"))") ≡ aside 2 42
  pub r01-9 : plain (heading ++ bytes "Licensees: 1-of(1-of(\"a\"))") ≡ aside 2 37
  pub r01-10 : plain (heading ++ bytes "Licensees: \"a\" . 1") ≡ aside 2 38
  pub r01-11 : plain (heading ++ bytes "Licensees: @x") ≡ aside 2 32
  pub r01-12 : plain (bytes "Authorizer: \"POLICY\" . ") ≡ aside 2 23
  pub r01-13 : plain (bytes "Authorizer:") ≡ aside 2 11
  pub r01-14 : plain (bytes "Authorizer: x.5") ≡ aside 2 14
  pub r01-15 : plain (bytes "Authorizer: 1.5") ≡ aside 2 12
  pub r01-16 : plain (heading ++ bytes "Licensees: \"a\" || $") ≡ aside 2 40
  pub r01-17 : plain (heading ++ bytes "Licensees: (\"a\") (\"b\")") ≡ aside 2 38
  pub r01-18 : plain (heading ++ bytes "Licensees: \"a\" . (\"b\" || \"c\")") ≡ aside 2 43
  pub r01-19 : plain (heading ++ bytes "Licensees: $(\"a\" || \"b\")") ≡ aside 2 38
  pub r01-20 : plain (heading ++ bytes "Licensees: \"a\" . 1-of(\"b\")") ≡ aside 2 38
  pub r01-21 : plain (bytes "Authorizer: \"a\" \"b\"") ≡ aside 2 16
  pub r01-22 : plain (heading ++ bytes "Signature: \"a\" . \"b\"") ≡ keeps 1
  pub r01-23 : plain (heading ++ bytes "Signature: x") ≡ aside 2 32
  pub r01-24 : plain (bytes "Local-Constants: x = \"a\" . \"b\"\nAuthorizer: \"POLICY\"") ≡ aside 2 25
  -- R02. "Both only in a text otherwise well formed"
  pub r02-1 : standing 2 [] (heading ++ bytes "?") ≡ aside 3 21
  pub r02-3 : standing 2 [] (heading ++ bytes "Conditions: true") ≡ aside 2 37
  pub r02-4 : plain (bytes "Authorizer: \"\"\nLicensees: \"a\" &&") ≡ aside 2 32
  pub r02-5 : plain (bytes "Authorizer: \"\"\nLicensees: \"a\"") ≡ aside 10 12
  pub r02-6 : standing 2 [] (bytes "Licensees: x\nAuthorizer: \"POLICY\"") ≡ aside 10 11
  pub r02-7 : standing 2 [] (bytes "Authorizer: \"POLICY\"\nLicensees: x") ≡ aside 9 12
  pub r02-8 : standing 2 (set "p" "POLICY" ∷ []) (bytes "Authorizer: (p)") ≡ aside 9 13
  pub r02-9 : standing 2 (set "p" "policy" ∷ []) (bytes "Authorizer: p") ≡ keeps 0
  pub r02-10 : standing 0 [] (bytes "Authorizer: x") ≡ aside 9 0
  -- R03. What is counted as a licensee
  pub r03-1 : plain (heading ++ bytes "Licensees: \"a\"" ++ times 15 "||(\"b\" . \"c\")") ≡ keeps 1
  pub r03-2 : plain (heading ++ bytes "Licensees: \"a\"" ++ times 15 "||\"b\"" ++ bytes "||((\"c\") . \"d\")") ≡ aside 7 114
  pub r03-3 : plain (heading ++ bytes "Licensees: \"a\"" ++ times 15 "||\"b\"" ++ bytes "||$x") ≡ aside 7 112
  pub r03-4 : plain (heading ++ bytes "Licensees: \"a\"" ++ times 15 "||\"b\"" ++ bytes "||x") ≡ aside 7 112
  pub r03-5 : plain (heading ++ bytes "Licensees: \"a\"" ++ times 15 "||\"b\"" ++ bytes "||\"c\" .") ≡ aside 7 112
  pub r03-6 : plain (heading ++ bytes "Licensees: \"a\"" ++ times 15 "||\"b\"" ++ bytes "||($") ≡ aside 7 113
  pub r03-7 : plain (heading ++ bytes "Licensees: \"a\"" ++ times 15 "||\"b\"" ++ bytes "||(") ≡ aside 2 113
  pub r03-8 : plain (heading ++ bytes "Licensees: \"a\"" ++ times 15 "||\"b\"" ++ bytes "||1-of(\"c\")") ≡ aside 7 117
  pub r03-9 : plain (heading ++ bytes "Licensees: \"a\" || 2-of(\"a\" . \"b\")") ≡ aside 5 53
  pub r03-10 : plain (heading ++ bytes "Licensees: 2-of((\"a\"), ($x)) || \"a\"") ≡ aside 10 45
  pub r03-11 : plain (heading ++ bytes "Licensees: 2-of((\"a\") . ((\"b\")), (\"a\"))") ≡ keeps 0
  -- R04. Place of reason 10
  pub r04-1 : plain (heading ++ bytes "Licensees: \"a\" || ((x))") ≡ aside 10 41
  pub r04-2 : plain (heading ++ bytes "Licensees: \"a\" || ($(\"x\") . \"\")") ≡ aside 10 40
  pub r04-3 : plain (heading ++ bytes "Licensees: 1-of(\"a\", x, y)") ≡ aside 10 42
  pub r04-4 : plain (bytes "Authorizer: (((\"\")))") ≡ aside 10 15
  -- R05. Identifiers of a wrong length
  pub r05-1 : plain (heading ++ bytes "Licensees: \"" ++ times 257 "n" ++ bytes "\"") ≡ aside 10 32
  pub r05-2 : plain (heading ++ bytes "Licensees: \"" ++ times 128 "n" ++ bytes "\" . \"" ++ times 128 "n" ++ bytes "\" || \"a\"") ≡ keeps 1
  pub r05-3 : plain (heading ++ bytes "Licensees: \"" ++ times 2049 "n" ++ bytes "\"") ≡ aside 7 32
  pub r05-4 : plain (bytes "Local-Constants: e = \"\"\nAuthorizer: e") ≡ aside 10 36
  pub r05-5 : knowing (set "e" "POLICY" ∷ []) (bytes "Local-Constants: e = \"\"\nAuthorizer: e") ≡ aside 10 36
  pub r05-6 : knowing (long "x" 2048 "v" ∷ []) (heading ++ bytes "Licensees: x . x . x") ≡ aside 10 32
  -- R06. An error while a string is built
  pub r06-1 : knowing (long "x" 2048 "v" ∷ []) (heading ++ bytes "Licensees: \"a\" || $(x . x . x) . \"b\"") ≡ aside 10 39
  pub r06-2 : knowing (long "x" 2048 "v" ∷ []) (heading ++ bytes "Licensees: \"a\" || $(x . x) . \"b\"") ≡ keeps 1
  pub r06-3 : knowing (long "x" 2048 "v" ∷ []) (heading ++ bytes "Licensees: \"a\" || $(x . x . \"v\") . \"b\"") ≡ aside 10 39
  -- R07. Which names are looked up
  pub r07-1 : knowing (set "p" "POLICY" ∷ []) (bytes "Authorizer: p\nLocal-Constants: p=\"b\"") ≡ keeps 1
  pub r07-2 : knowing (set "p" "POLICY" ∷ []) (bytes "Local-Constants: p=\"b\"\nAuthorizer: p") ≡ keeps 0
  pub r07-3 : plain (heading ++ bytes "Licensees: _ACTION_AUTHORIZERS") ≡ keeps 1
  pub r07-4 : asked ("hold" ∷ "immediate" ∷ []) ("a" ∷ "b" ∷ []) [] 1 ((heading ++ bytes "Licensees: _ACTION_AUTHORIZERS") ∷ []) ≡ keeps 0
  pub r07-5 : asked ("POLICY" ∷ "x" ∷ []) ("a" ∷ []) [] 1 ((bytes "Authorizer: _MIN_TRUST") ∷ []) ≡ keeps 1
  pub r07-6 : plain (heading ++ bytes "Licensees: _0") ≡ aside 10 32
  pub r07-7 : knowing (set "true" "a" ∷ []) (heading ++ bytes "Licensees: true") ≡ keeps 1
  pub r07-8 : knowing (set "x" "y" ∷ set "y" "a" ∷ []) (heading ++ bytes "Licensees: $x") ≡ keeps 1
  pub r07-9 : knowing (set "x" "y" ∷ set "y" "a" ∷ []) (heading ++ bytes "Licensees: $$\"x\"") ≡ keeps 1
  -- R08. Limits on expressions outside Conditions
  pub r08-1 : knowing (set "x" "a" ∷ []) (heading ++ bytes "Licensees: \"a\" || " ++ times 16 "$" ++ bytes "x . \"a\"") ≡ keeps 1
  pub r08-2 : plain (heading ++ bytes "Licensees: \"a\" || " ++ times 17 "$" ++ bytes "x") ≡ aside 7 55
  pub r08-3 : plain (bytes "Authorizer: " ++ times 16 "(" ++ bytes "\"POLICY\"" ++ times 16 ")") ≡ keeps 1
  pub r08-4 : plain (bytes "Authorizer: " ++ times 17 "(" ++ bytes "\"POLICY\"" ++ times 17 ")") ≡ aside 7 28
  pub r08-5 : plain (heading ++ bytes "Licensees: " ++ times 15 "(" ++ bytes "1-of(((\"a\")))" ++ times 15 ")") ≡ aside 7 52
  -- R09. Reason 4
  pub r09-1 : plain (heading ++ bytes "Licensees: x || \"a\"") ≡ aside 10 32
  pub r09-2 : plain (bytes "Local-Constants: _x=\"1\"\nAuthorizer: \"POLICY\"") ≡ aside 4 17
  -- R10. One principal in many spellings
  pub r10-1 : asked ("hold" ∷ "immediate" ∷ []) ("a" ∷ []) (set "x" "b" ∷ []) 1
      ((heading ++ bytes "Licensees: x || \"b\" || \"\" . x") ∷ (bytes "Authorizer: x\nLicensees: \"a\"") ∷ [])
      ≡ (0 ∷ 0 ∷ [], 0 ∷ 0 ∷ [], 1)
  pub r10-2 : plain (heading ++ bytes "Licensees: x\nConditions: false;") ≡ aside 10 32
  -- I02. W-203 and W-205
  pub i02-1 : standing 2 [] (bytes "Authorizer: \"policy:x\"") ≡ keeps 0
  pub i02-2 : asked ("hold" ∷ "immediate" ∷ []) ("K:1" ∷ []) (set "x" "K" ∷ []) 1 ((heading ++ bytes "Licensees: x . \":1\"") ∷ []) ≡ keeps 1
  -- rulings of the base that are others with this request
  pub b12-01 : plain (bytes "Authorizer: (\"POLICY\")") ≡ keeps 1
  pub b12-02 : plain (bytes "Authorizer: \"POL\" . \"ICY\"") ≡ keeps 1
  pub b12-03 : plain (heading ++ bytes "Licensees: \"a\" . \"b\"") ≡ keeps 0
  pub b12-04 : plain (heading ++ bytes "Licensees: $x") ≡ aside 10 32
  pub b12-07 : plain (heading ++ bytes "Licensees: 1-of((\"a\"))") ≡ keeps 1
  pub b15-04 : plain (heading ++ bytes "Licensees: \"\\\n\" || \"a\"") ≡ aside 10 32
  pub b32-04 : plain (heading ++ bytes "Licensees: \"" ++ times 257 "n" ++ bytes "\"") ≡ aside 10 32
  pub b32-08 : plain (bytes "Authorizer: \"\"") ≡ aside 10 12
  pub b33-01 : plain (bytes "Local-Constants: e = \"\"\nAuthorizer: e") ≡ aside 10 36
  pub b34-01 : plain (bytes "Authorizer: p\nLocal-Constants: p = \"POLICY\"") ≡ aside 10 12
  pub b40-03 : plain (heading ++ bytes "Licensees: \"a\"" ++ times 15 "||\"a\"" ++ bytes "||x") ≡ aside 7 112
  pub b42-05 : standing 2 [] (heading ++ bytes "?") ≡ aside 3 21

pub naming-rulings : NamingRulings
unfolding heading times long asked standing tells SyntaxCode.name_at TextClass.is_letter TextClass.is_word FieldsConstants.is_set FieldsConstants.reserved FieldsConstants.constant_value FieldsConstants.assigned FieldsConstants.name_fault FieldsConstants.constant FieldsConstants.constants_from TextOrder.order ExpressionNames.setting_or ExpressionNames.from_query ExpressionNames.lookup set bytes worth ranked reading readings kept_of system class_given reason_of highest TextClass.is_digit TextClass.in_class TextDecimal.in_range TextDecimal.rounded_down TextDecimal.with_fraction TextDecimal.unsigned TextDecimal.decimal TextDigits.digits_at TextDigits.value_from TextDigits.value TextEqual.equal TextLoop.turns TextLoop.loop TextScan.past LexicalClass.class_of LexicalKind.opened LexicalLabel.label_kind LexicalLine.visible LexicalLine.in_line LexicalLine.blank_to LexicalLine.line_at LexicalLine.lines_from LexicalLine.token_at LexicalLiteral.units LexicalLiteral.units_at LexicalLiteral.literal_end LexicalLiteral.decoded_at LexicalNumber.number_at LexicalOperator.equal_pair LexicalOperator.pair_of LexicalOperator.mark_kind LexicalOperator.is_of LexicalOperator.operator_kind LexicalRun.has_class LexicalRun.in_run LexicalToken.width_of LexicalToken.operator_at LexicalToken.operator_token LexicalToken.literal_token LexicalToken.float_end LexicalToken.number_token LexicalToken.token_from LexicalUnit.barred LexicalUnit.unit_at LexicalWord.lower LexicalWord.stands LexicalWord.spells LexicalKind.ending AssertionLabels.without AssertionLabels.total ConditionsExpression.read_expression ConditionsOperand.read_literal ConditionsOperand.read_name ConditionsOperand.read_digits ConditionsOperand.read_leaf ConditionsOperand.settled_tree ConditionsOperand.applied ConditionsProgram.clause_end ConditionsProgram.valuing ConditionsProgram.stopping ConditionsProgram.read_program ConditionsProgram.read_block ConditionsTable.begins_string ConditionsTable.begins_number ConditionsTable.begins_float ConditionsTable.allows ConditionsTable.comparison ConditionsTable.number_operator ConditionsTable.text_operator ConditionsTable.test_operator ConditionsTable.operator ConditionsTable.prefix_operator ConditionsTable.level_of ConditionsTable.operand_level ConditionsTable.operand_want ConditionsTable.right_want ConditionsTable.right_level ConditionsTable.binds ConditionsTable.inside_level ConditionsTable.fits ConditionsTable.stops ConditionsWord.word_sort SyntaxCode.number_from ComplianceLicensees.value ComplianceLicensees.licensed ComplianceLicensees.named ComplianceLicensees.licensees ComplianceReach.licensees_of ComplianceReach.reach_from ComplianceReach.namings ComplianceReach.reach ComplianceRounds.mentioned ComplianceRounds.rank ComplianceSystem.direct ComplianceSystem.asserted ComplianceSystem.delegated ComplianceSystem.equations ComplianceSystem.round PrincipalMembers.member PrincipalCanonical.fold PrincipalCanonical.folded PrincipalCanonical.front PrincipalCanonical.behind PrincipalCanonical.is_hex PrincipalCanonical.canonical_with PrincipalCanonical.canonical PrincipalPrincipal.same PrincipalPrincipal.policy ExpressionConditions.evaluate ExpressionConditions.index_from ExpressionConditions.rank_of ExpressionConditions.top ExpressionConditions.clause ExpressionIntegers.ranged ExpressionIntegers.negated ExpressionIntegers.differ ExpressionIntegers.over ExpressionIntegers.raised_to ExpressionIntegers.odd ExpressionIntegers.sign_of_power ExpressionIntegers.power ExpressionIntegers.sizes ExpressionIntegers.compared ExpressionOperations.held ExpressionOperations.relates ExpressionOperations.on_texts ExpressionOperations.on_integers ExpressionOperations.binary_of ExpressionOperations.converted ExpressionOperations.negative ExpressionOperations.opposite ExpressionOperations.unary_of ExpressionNames.environment place_of TextCounted.part TextCounted.pair_at SyntaxParsed.refusal LexicalReason.reason_of TextClass.is_plain NamingSource.sources NamingString.plain_from NamingString.source NamingAuthorizer.authorizer NamingLicensees.licensee NamingLicensees.listed NamingLicensees.list_from NamingLicensees.list_opened NamingLicensees.of_read NamingLicensees.threshold NamingLicensees.closed NamingLicensees.primary NamingLicensees.expression NamingLicensees.licensees NamingNaming.identified NamingNaming.people NamingNaming.author NamingNaming.licensed NamingFault.size_fault NamingFault.source_fault NamingFault.policy_fault NamingFault.author_fault NamingFault.first_fault NamingFault.licensees_fault AssertionForm.finished AssertionForm.field AssertionForm.fields_from AssertionForm.read_assertion AssertionResolved.meant AssertionResolved.fault_of bytes_of FieldsSignature.signature TextJoin.joined TextJoin.followed ConditionsExpression.read_chain LexicalLine.indented LexicalLine.rest_of_line
naming-rulings = record {
  r01-1 = refl;
  r01-2 = refl;
  r01-3 = refl;
  r01-4 = refl;
  r01-5 = refl;
  r01-6 = refl;
  r01-7 = refl;
  r01-8 = refl;
  r01-9 = refl;
  r01-10 = refl;
  r01-11 = refl;
  r01-12 = refl;
  r01-13 = refl;
  r01-14 = refl;
  r01-15 = refl;
  r01-16 = refl;
  r01-17 = refl;
  r01-18 = refl;
  r01-19 = refl;
  r01-20 = refl;
  r01-21 = refl;
  r01-22 = refl;
  r01-23 = refl;
  r01-24 = refl;
  r02-1 = refl;
  r02-3 = refl;
  r02-4 = refl;
  r02-5 = refl;
  r02-6 = refl;
  r02-7 = refl;
  r02-8 = refl;
  r02-9 = refl;
  r02-10 = refl;
  r03-1 = refl;
  r03-2 = refl;
  r03-3 = refl;
  r03-4 = refl;
  r03-5 = refl;
  r03-6 = refl;
  r03-7 = refl;
  r03-8 = refl;
  r03-9 = refl;
  r03-10 = refl;
  r03-11 = refl;
  r04-1 = refl;
  r04-2 = refl;
  r04-3 = refl;
  r04-4 = refl;
  r05-1 = refl;
  r05-2 = refl;
  r05-3 = refl;
  r05-4 = refl;
  r05-5 = refl;
  r05-6 = refl;
  r06-1 = refl;
  r06-2 = refl;
  r06-3 = refl;
  r07-1 = refl;
  r07-2 = refl;
  r07-3 = refl;
  r07-4 = refl;
  r07-5 = refl;
  r07-6 = refl;
  r07-7 = refl;
  r07-8 = refl;
  r07-9 = refl;
  r08-1 = refl;
  r08-2 = refl;
  r08-3 = refl;
  r08-4 = refl;
  r08-5 = refl;
  r09-1 = refl;
  r09-2 = refl;
  r10-1 = refl;
  r10-2 = refl;
  i02-1 = refl;
  i02-2 = refl;
  b12-01 = refl;
  b12-02 = refl;
  b12-03 = refl;
  b12-04 = refl;
  b12-07 = refl;
  b15-04 = refl;
  b32-04 = refl;
  b32-08 = refl;
  b33-01 = refl;
  b34-01 = refl;
  b40-03 = refl;
  b42-05 = refl;
}
