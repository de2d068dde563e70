-- The starred rulings of 01, and a few others, computed from the definitions as a single table: texts are read, answers given; then worked
-- instances of what demand 3 and W-211 suppose. Assumes nothing.
use Rattle.std.specs.Prelude.{◌≡◌, refl, Bool, true, false, List, [], ◌∷◌, ◌++◌, map, ℕ, length, replicate}
use Prim.Native.Char.{code}
use Prim.Native.String.{String, [] as nothing, ◌∷◌ as ◌then◌}
use Rattle.record.specs.Query.{Query, Attribute, Supplied}
use Rattle.record.specs.Encode.{string_bytes, assertion_bytes, items_bytes, group_bytes, encode}
use Rattle.record.specs.Field as RecordField
use Rattle.record.specs.Item as RecordItem
use Rattle.record.specs.Record as RecordRecord
use Rattle.text.specs.Counted as TextCounted
use Rattle.assertion.specs.Read.{dropped}
use Rattle.syntax.specs.Parsed as SyntaxParsed
use Rattle.compliance.specs.Highest.{highest}
use Rattle.keynote.specs.Answer.{worth, ranked, reading, readings, kept_of, system, class_given, rounds_of, reached_of}
use Rattle.text.specs.Counted.{pair_bytes}
use Rattle.keynote.specs.Report.{reason_of, place_of, entry_bytes, entries_bytes, report, report_size}
use Rattle.keynote.specs.Outcome.{refused_with, answer, needed, judged, outcome, written, page_after}
use Rattle.keynote.specs.Secrets.{dereferences, any_reads, author_reads, licensees_read, naming_reads}
use Rattle.keynote.specs.Mission.{standing, computed, any_names, any_computes, author_names, licensees_name, licensees_compute, naming, naming_computed}
use Rattle.keynote.specs.Working.Hearing.{such_in, heard_such, any_such, supplied_such}
use Rattle.keynote.specs.Working.Outsiders.{is_outside}
use Rattle.text.specs.Class as TextClass
use Rattle.text.specs.Decimal as TextDecimal
use Rattle.text.specs.Digits as TextDigits
use Rattle.text.specs.Equal as TextEqual
use Rattle.text.specs.Loop as TextLoop
use Rattle.text.specs.Order as TextOrder
use Rattle.text.specs.Scan as TextScan
use Rattle.lexical.specs.Class as LexicalClass
use Rattle.lexical.specs.Kind as LexicalKind
use Rattle.lexical.specs.Label as LexicalLabel
use Rattle.lexical.specs.Line as LexicalLine
use Rattle.lexical.specs.Literal as LexicalLiteral
use Rattle.lexical.specs.Number as LexicalNumber
use Rattle.lexical.specs.Operator as LexicalOperator
use Rattle.lexical.specs.Reason as LexicalReason
use Rattle.lexical.specs.Run as LexicalRun
use Rattle.lexical.specs.Token as LexicalToken
use Rattle.lexical.specs.Unit as LexicalUnit
use Rattle.lexical.specs.Word as LexicalWord
use Rattle.fields.specs.Constants as FieldsConstants
use Rattle.naming.specs.Source as NamingSource
use Rattle.naming.specs.String as NamingString
use Rattle.naming.specs.Authorizer as NamingAuthorizer
use Rattle.naming.specs.Licensees as NamingLicensees
use Rattle.naming.specs.Naming as NamingNaming
use Rattle.naming.specs.Fault as NamingFault
use Rattle.assertion.specs.Labels as AssertionLabels
use Rattle.assertion.specs.Form as AssertionForm
use Rattle.assertion.specs.Resolved as AssertionResolved
use Rattle.conditions.specs.Expression as ConditionsExpression
use Rattle.conditions.specs.Operand as ConditionsOperand
use Rattle.conditions.specs.Program as ConditionsProgram
use Rattle.conditions.specs.Table as ConditionsTable
use Rattle.conditions.specs.Word as ConditionsWord
use Rattle.syntax.specs.Code as SyntaxCode
use Rattle.compliance.specs.Licensees as ComplianceLicensees
use Rattle.compliance.specs.Reach as ComplianceReach
use Rattle.compliance.specs.Rounds as ComplianceRounds
use Rattle.compliance.specs.System as ComplianceSystem
use Rattle.principal.specs.Canonical as PrincipalCanonical
use Rattle.principal.specs.Members as PrincipalMembers
use Rattle.principal.specs.Principal as PrincipalPrincipal
use Rattle.expression.specs.Conditions as ExpressionConditions
use Rattle.expression.specs.Integers as ExpressionIntegers
use Rattle.expression.specs.Operations as ExpressionOperations
use Rattle.expression.specs.Value.{bytes_of}
use Rattle.expression.specs.Names as ExpressionNames
use Rattle.expression.specs.Reads as ExpressionReads
use Rattle.expression.specs.Standing as ExpressionStanding

-- the bytes of a text
unfoldable pub bytes : String → List ℕ
bytes nothing = []
bytes (c then s) = code c ∷ bytes s

-- "every standing is 1"
unfoldable pub supplied : List ℕ → Supplied
supplied t = record { standing = 1; text = t }

-- compliance values, requesters, and the texts of assertions
unfoldable pub query : List String → List String → List (List ℕ) → Query
query values requesters texts = record { values = map bytes values; requesters = map bytes requesters; attributes = []; assertions = map supplied texts }

-- "The compliance values are "hold" and "immediate", weakest first, unless said"
abbrev pub desk : List String → List String → Query
desk requesters texts = query ("hold" ∷ "immediate" ∷ []) requesters (map bytes texts)

-- the reason of each assertion; 0 is kept
unfoldable pub reasons : Query → List ℕ
reasons q = map reason_of (readings q)

-- reasons, then rank, rounds and reached
unfoldable pub told : Query → List ℕ × List ℕ
told q = (reasons q, class_given q ∷ rounds_of q ∷ reached_of q ∷ [])

-- reasons, then the rank
unfoldable pub class : Query → List ℕ × ℕ
class q = (reasons q, class_given q)

-- what a test is worth as POLICY's Conditions: 1 where it is true
unfoldable pub tested : String → List ℕ × ℕ
tested t = class (query ("hold" ∷ "immediate" ∷ []) ("a" ∷ []) ((bytes "Authorizer: \"POLICY\"\nConditions: " ++ bytes t ++ bytes ";") ∷ []))

-- kept, and true or false
abbrev pub holds : List ℕ × ℕ
holds = (0 ∷ [], 1)

abbrev pub fails : List ℕ × ℕ
fails = (0 ∷ [], 0)

-- POLICY licenses a
abbrev pub first : Query
first = desk ("a" ∷ []) ("Authorizer: \"POLICY\"\nLicensees: \"a\"" ∷ [])

-- POLICY to a, a to b, b to a
abbrev pub ring : List String
ring =
    "Authorizer: \"POLICY\"\nLicensees: \"a\""
    ∷ "Authorizer: \"a\"\nLicensees: \"b\""
    ∷ "Authorizer: \"b\"\nLicensees: \"a\""
    ∷ []

-- five principals that give their ranks to the requester, and POLICY that asks for three of them
abbrev pub five : List String
five =
    "Authorizer: \"POLICY\"\nLicensees: 3-of(\"a\",\"b\",\"c\",\"d\",\"e\")"
    ∷ "Authorizer: \"a\"\nLicensees: \"r\"\nConditions: true -> \"none\";"
    ∷ "Authorizer: \"b\"\nLicensees: \"r\"\nConditions: true -> \"low\";"
    ∷ "Authorizer: \"c\"\nLicensees: \"r\"\nConditions: true -> \"high\";"
    ∷ "Authorizer: \"d\"\nLicensees: \"r\"\nConditions: true -> \"high\";"
    ∷ "Authorizer: \"e\"\nLicensees: \"r\"\nConditions: true -> \"full\";"
    ∷ []

-- ---- queries for demand 3

-- an attribute and its value
unfoldable pub set : String → String → Attribute
set n v = record { name = bytes n; value = bytes v }

-- POLICY licenses a; a licenses r, under Conditions in which a constant hides "hidden"; b, whom POLICY doesn't reach, reads "idle" in his Conditions
-- and licenses somebody
unfoldable pub secret_texts : String → String → List (List ℕ)
secret_texts test somebody =
    bytes "Authorizer: \"POLICY\"\nLicensees: \"a\""
    ∷ (bytes "Local-Constants: hidden=\"x\"\nAuthorizer: \"a\"\nLicensees: \"r\"\nConditions: hidden==\"x\"&&" ++ bytes test ++ bytes ";")
    ∷ (bytes "Authorizer: \"b\"\nLicensees: " ++ bytes somebody ++ bytes "\nConditions: idle==\"x\";")
    ∷ []

unfoldable pub secret_query : String → String → Attribute → Attribute → Attribute → Attribute → Query
secret_query test somebody i h u v = record {
  values = map bytes ("hold" ∷ "immediate" ∷ []);
  requesters = bytes "r" ∷ [];
  attributes = i ∷ h ∷ u ∷ v ∷ [];
  assertions = map supplied (secret_texts test somebody);
}

-- a reads "seen" itself
abbrev pub one : Query
one = secret_query "seen==\"y\"" "\"r\"" (set "idle" "x") (set "hidden" "x") (set "unread" "") (set "seen" "y")

-- other values, of other lengths, of the three that nobody who is reached reads and by which nobody is named
abbrev pub other : Query
other = secret_query "seen==\"y\"" "\"r\"" (set "idle" "longer") (set "hidden" "") (set "unread" "zz") (set "seen" "y")

-- and another value of "seen"
abbrev pub seen : Query
seen = secret_query "seen==\"y\"" "\"r\"" (set "idle" "longer") (set "hidden" "") (set "unread" "zz") (set "seen" "")

-- a computes the name
abbrev pub computing : Query
computing = secret_query "$\"seen\"==\"y\"" "\"r\"" (set "idle" "x") (set "hidden" "x") (set "unread" "") (set "seen" "y")

-- b licenses whom "unread" says: first nobody, then zz
abbrev pub naming_b : Query
naming_b = secret_query "seen==\"y\"" "unread" (set "idle" "x") (set "hidden" "x") (set "unread" "") (set "seen" "y")

abbrev pub naming_other : Query
naming_other = secret_query "seen==\"y\"" "unread" (set "idle" "x") (set "hidden" "x") (set "unread" "zz") (set "seen" "y")

-- b computes the name
abbrev pub naming_computing : Query
naming_computing = secret_query "seen==\"y\"" "$\"seen\"" (set "idle" "x") (set "hidden" "x") (set "unread" "") (set "seen" "y")

-- ---- one principal in many spellings, for W-203

abbrev pub spelled : Query
spelled = record {
  values = map bytes ("hold" ∷ "immediate" ∷ []);
  requesters = bytes "a" ∷ [];
  attributes = set "x" "b" ∷ [];
  assertions = map supplied (bytes "Authorizer: \"POLICY\"\nLicensees: x || \"b\" || \"\" . x" ∷ bytes "Authorizer: x\nLicensees: \"a\"" ∷ []);
}

-- ---- assertions for W-211

abbrev pub by_policy : String
by_policy = "Authorizer: \"POLICY\"\nLicensees: \"a\""

abbrev pub by_a : String
by_a = "Authorizer: \"a\"\nLicensees: \"r\""

-- b is not reached
abbrev pub by_b : String
by_b = "Authorizer: \"b\"\nLicensees: \"r\""

-- a text that is set aside
abbrev pub broken : String
broken = "Licensees: \"a\""

abbrev pub paper_web : Query
paper_web = desk ("r" ∷ []) (by_policy ∷ by_a ∷ by_b ∷ [])

-- is the name dereferenced by an assertion heard?
unfoldable pub is_read : Query → String → Bool
is_read q n = heard_such (λ c. dereferences c (bytes n)) q

-- is it dereferenced in Authorizer or Licensees of a text?
unfoldable pub is_named : Query → String → Bool
is_named q n = supplied_such (λ a. naming_reads a (bytes n)) q

-- does it stand in the Conditions of one?
unfoldable pub stands : Query → String → Bool
stands q n = heard_such (λ c. standing c (bytes n)) q

-- does it stand in Authorizer or Licensees of a text?
unfoldable pub stands_naming : Query → String → Bool
stands_naming q n = supplied_such (λ a. naming a (bytes n)) q

pub record Rulings : Type 0 where
  -- "POLICY licenses "a", requester a: rank 1, rounds 2, reached 2."
  pub licence : told first ≡ (0 ∷ [], 1 ∷ 2 ∷ 2 ∷ [])
  -- "POLICY to a, a to b, b to a: requester c gives 0, 0, 3; requester b gives 1, 3, 3."
  pub ring-c : told (desk ("c" ∷ []) ring) ≡ (0 ∷ 0 ∷ 0 ∷ [], 0 ∷ 0 ∷ 3 ∷ [])
  pub ring-b : told (desk ("b" ∷ []) ring) ≡ (0 ∷ 0 ∷ 0 ∷ [], 1 ∷ 3 ∷ 3 ∷ [])
  -- "No assertions, requester a: 0, 0, 1."
  pub no-assertions : told (desk ("a" ∷ []) []) ≡ ([], 0 ∷ 0 ∷ 1 ∷ [])
  -- "2-of("a","b","c"), requesters a and c: 1. 3-of: 0."
  pub two-of : class (desk ("a" ∷ "c" ∷ []) ("Authorizer: \"POLICY\"\nLicensees: 2-of(\"a\",\"b\",\"c\")" ∷ [])) ≡ (0 ∷ [], 1)
  pub three-of : class (desk ("a" ∷ "c" ∷ []) ("Authorizer: \"POLICY\"\nLicensees: 3-of(\"a\",\"b\",\"c\")" ∷ [])) ≡ (0 ∷ [], 0)
  -- "2-of("a","a"), requester a: 1."
  pub twice : class (desk ("a" ∷ []) ("Authorizer: \"POLICY\"\nLicensees: 2-of(\"a\",\"a\")" ∷ [])) ≡ (0 ∷ [], 1)
  -- "Ranks 0, 1, 2, 2, 3 with K = 3: 2.", of the definition and of a query
  pub third : highest 3 (0 ∷ 1 ∷ 2 ∷ 2 ∷ 3 ∷ []) ≡ 2
  pub third-asked : class (query ("none" ∷ "low" ∷ "high" ∷ "full" ∷ []) ("r" ∷ []) (map bytes five)) ≡ (0 ∷ 0 ∷ 0 ∷ 0 ∷ 0 ∷ 0 ∷ [], 2)
  -- "Tests: `1/0 == 1 || true` and `!(1/0 == 1)` false; `true || 1/0 == 1` true."
  pub error-first : tested "1/0 == 1 || true" ≡ fails
  pub error-opposite : tested "!(1/0 == 1)" ≡ fails
  pub error-unmet : tested "true || 1/0 == 1" ≡ holds
  -- "`-2^2 == 4`, `2^3^2 == 64`, `-7/2 == -3` true."
  pub minus-power : tested "-2^2 == 4" ≡ holds
  pub power-power : tested "2^3^2 == 64" ≡ holds
  pub toward_zero : tested "-7/2 == -3" ≡ holds
  -- "@ of "-1.5" is -2; of "1e3" 0; of "2147483648" 0."
  pub rounds-down : tested "@\"-1.5\" == -2" ≡ holds
  pub no-exponent : tested "@\"1e3\" == 0" ≡ holds
  pub out_of_range : tested "@\"2147483648\" == 0" ≡ holds
  -- not starred: "Text `Licensees: "a"`: reason 3 at 14. `Authorizer: "POLICY"`, newline, `Licensees: "a" &&`: reason 2 at 38."
  pub no-authorizer : reading first (supplied (bytes "Licensees: \"a\"")) ≡ dropped 3 14
  pub no-licensee : reading first (supplied (bytes "Authorizer: \"POLICY\"\nLicensees: \"a\" &&")) ≡ dropped 2 38
  -- not starred: "The first ruling [..] is a record of 63 bytes", here with a page of 8 bytes that are 7
  pub first-long : length (encode first) ≡ 63
  pub first-outcome : outcome (encode first) 8 ≡ record { number = 0; place = 0; rank = 1; rounds = 2; reached = 2 }
  pub first-page : page_after (encode first) (replicate 8 7) ≡ 1 ∷ 0 ∷ 3 ∷ 0 ∷ 0 ∷ 0 ∷ 7 ∷ 7 ∷ []
  -- W-206: a requester named POLICY, told at its first byte; one that only resembles it
  pub asked-as-policy : outcome (encode (desk ("POLICY" ∷ []) [])) 8 ≡ refused_with 10 22
  pub asked-as-policy-last : outcome (encode (desk ("a" ∷ "POLICY" ∷ []) [])) 8 ≡ refused_with 10 25
  pub asked-in-small : told (desk ("policy" ∷ []) ("Authorizer: \"POLICY\"\nLicensees: \"a\"" ∷ [])) ≡ (0 ∷ [], 0 ∷ 0 ∷ 2 ∷ [])
  -- W-205: one key in two spellings, as requester, authorizer and licensee; two keys
  pub one_key : told (desk ("DSA:ab" ∷ []) ("Authorizer: \"POLICY\"\nLicensees: \"dsa:ab\" || \"Dsa:ab\"" ∷ [])) ≡ (0 ∷ [], 1 ∷ 2 ∷ 2 ∷ [])
  pub two-keys : told (desk ("DSA:ab" ∷ []) ("Authorizer: \"POLICY\"\nLicensees: \"dsa:AB\"" ∷ [])) ≡ (0 ∷ [], 0 ∷ 0 ∷ 2 ∷ [])
  -- W-203: "Principals are what the expressions evaluate to"
  pub many-spellings : told spelled ≡ (0 ∷ 0 ∷ [], 1 ∷ 3 ∷ 3 ∷ [])
  -- instances of demand 3: read only outside the reach, hidden by a constant, or unread; and read within the reach, though not by POLICY
  pub idle-unread : is_read one "idle" ≡ false
  pub hidden-unread : is_read one "hidden" ≡ false
  pub unread-unread : is_read one "unread" ≡ false
  pub seen_read : is_read one "seen" ≡ true
  -- with "$" all are read but what is hidden
  pub computed-idle : is_read computing "idle" ≡ true
  pub computed-hidden : is_read computing "hidden" ≡ false
  -- in Authorizer or Licensees none of them stands; with another licensee "unread" does, outside the reach; with "$" all do
  pub idle-unnamed : is_named one "idle" ≡ false
  pub hidden-unnamed : is_named one "hidden" ≡ false
  pub unread-unnamed : is_named one "unread" ≡ false
  pub unread-named : is_named naming_b "unread" ≡ true
  pub unread-still-unread : is_read naming_b "unread" ≡ false
  pub computed-named : is_named naming_computing "unread" ≡ true
  -- in the words of the four suppositions
  pub idle-stands : stands one "idle" ≡ false
  pub hidden-stands : stands one "hidden" ≡ false
  pub unread-stands : stands one "unread" ≡ false
  pub seen-stands : stands one "seen" ≡ true
  pub none-computed : heard_such computed one ≡ false
  pub one-computed : heard_such computed computing ≡ true
  pub idle-stands-naming : stands_naming one "idle" ≡ false
  pub hidden-stands-naming : stands_naming one "hidden" ≡ false
  pub unread-stands-naming : stands_naming one "unread" ≡ false
  pub b-stands-naming : stands_naming naming_b "unread" ≡ true
  pub none-naming-computed : supplied_such naming_computed one ≡ false
  pub b-naming-computed : supplied_such naming_computed naming_computing ≡ true
  -- the answers: equal where only what isn't read differs, another where what is read does
  pub one_told : told one ≡ (0 ∷ 0 ∷ 0 ∷ [], 1 ∷ 3 ∷ 3 ∷ [])
  pub other-told : told other ≡ (0 ∷ 0 ∷ 0 ∷ [], 1 ∷ 3 ∷ 3 ∷ [])
  pub seen-told : told seen ≡ (0 ∷ 0 ∷ 0 ∷ [], 0 ∷ 1 ∷ 3 ∷ [])
  pub naming-told : told naming_b ≡ (0 ∷ 0 ∷ 10 ∷ [], 1 ∷ 3 ∷ 3 ∷ [])
  pub naming-other-told : told naming_other ≡ (0 ∷ 0 ∷ 0 ∷ [], 1 ∷ 3 ∷ 3 ∷ [])
  -- W-211: an assertion that raises the class, and one that changes nothing
  pub paper-less : told (desk ("r" ∷ []) (by_policy ∷ [])) ≡ (0 ∷ [], 0 ∷ 0 ∷ 2 ∷ [])
  pub paper-raises : told (desk ("r" ∷ []) (by_policy ∷ by_a ∷ [])) ≡ (0 ∷ 0 ∷ [], 1 ∷ 3 ∷ 3 ∷ [])
  pub paper-idle : told paper_web ≡ (0 ∷ 0 ∷ 0 ∷ [], 1 ∷ 3 ∷ 3 ∷ [])
  -- three assertions in two orders
  pub paper-ordered : told (desk ("r" ∷ []) (broken ∷ by_policy ∷ by_a ∷ [])) ≡ (3 ∷ 0 ∷ 0 ∷ [], 1 ∷ 3 ∷ 3 ∷ [])
  pub paper-reordered : told (desk ("r" ∷ []) (by_a ∷ broken ∷ by_policy ∷ [])) ≡ (0 ∷ 3 ∷ 0 ∷ [], 1 ∷ 3 ∷ 3 ∷ [])
  -- one replaced outside the reach; it was outside, and what is in its place too
  pub paper-replaced : told (desk ("r" ∷ []) (by_policy ∷ by_a ∷ broken ∷ [])) ≡ (0 ∷ 0 ∷ 3 ∷ [], 1 ∷ 3 ∷ 3 ∷ [])
  pub outside_b : is_outside paper_web (reading paper_web (supplied (bytes by_b))) ≡ true
  pub outside-broken : is_outside paper_web (reading paper_web (supplied (bytes broken))) ≡ true
  pub inside-a : is_outside paper_web (reading paper_web (supplied (bytes by_a))) ≡ false

pub rulings : Rulings
unfolding is_outside refused_with SyntaxCode.name_at TextClass.is_letter TextClass.is_word FieldsConstants.is_set FieldsConstants.reserved FieldsConstants.constant_value FieldsConstants.assigned FieldsConstants.name_fault FieldsConstants.constant FieldsConstants.constants_from TextOrder.order ExpressionNames.setting_or ExpressionNames.from_query ExpressionNames.lookup set secret_texts secret_query is_read stands standing computed dereferences such_in heard_such ExpressionReads.reads ExpressionReads.program_reads ExpressionReads.clause_reads ExpressionReads.is_set ExpressionStanding.names ExpressionStanding.program_names ExpressionStanding.clause_names ExpressionStanding.computes ExpressionStanding.program_computes ExpressionStanding.clause_computes bytes supplied query reasons told class tested worth ranked reading readings kept_of system class_given rounds_of reached_of reason_of highest TextClass.is_digit TextClass.in_class TextDecimal.in_range TextDecimal.rounded_down TextDecimal.with_fraction TextDecimal.unsigned TextDecimal.decimal TextDigits.digits_at TextDigits.value_from TextDigits.value TextEqual.equal TextLoop.turns TextLoop.loop TextScan.past LexicalClass.class_of LexicalKind.opened LexicalLabel.label_kind LexicalLine.visible LexicalLine.in_line LexicalLine.blank_to LexicalLine.line_at LexicalLine.lines_from LexicalLine.token_at LexicalLiteral.units LexicalLiteral.units_at LexicalLiteral.literal_end LexicalLiteral.decoded_at LexicalNumber.number_at LexicalOperator.equal_pair LexicalOperator.pair_of LexicalOperator.mark_kind LexicalOperator.is_of LexicalOperator.operator_kind LexicalRun.has_class LexicalRun.in_run LexicalToken.width_of LexicalToken.operator_at LexicalToken.operator_token LexicalToken.literal_token LexicalToken.float_end LexicalToken.number_token LexicalToken.token_from LexicalUnit.barred LexicalUnit.unit_at LexicalWord.lower LexicalWord.stands LexicalWord.spells LexicalKind.ending AssertionLabels.without AssertionLabels.total ConditionsExpression.read_expression ConditionsOperand.read_literal ConditionsOperand.read_name ConditionsOperand.read_digits ConditionsOperand.read_leaf ConditionsOperand.settled_tree ConditionsOperand.applied ConditionsProgram.clause_end ConditionsProgram.valuing ConditionsProgram.stopping ConditionsProgram.read_program ConditionsProgram.read_block ConditionsTable.begins_string ConditionsTable.begins_number ConditionsTable.begins_float ConditionsTable.allows ConditionsTable.comparison ConditionsTable.number_operator ConditionsTable.text_operator ConditionsTable.test_operator ConditionsTable.operator ConditionsTable.prefix_operator ConditionsTable.level_of ConditionsTable.operand_level ConditionsTable.operand_want ConditionsTable.right_want ConditionsTable.right_level ConditionsTable.binds ConditionsTable.inside_level ConditionsTable.fits ConditionsTable.stops ConditionsWord.word_sort SyntaxCode.number_from ComplianceLicensees.value ComplianceLicensees.licensed ComplianceLicensees.named ComplianceLicensees.licensees ComplianceReach.licensees_of ComplianceReach.reach_from ComplianceReach.namings ComplianceReach.reach ComplianceRounds.equal_on ComplianceRounds.settled ComplianceRounds.reached ComplianceRounds.first_settled ComplianceRounds.rounds ComplianceRounds.mentioned ComplianceRounds.rank ComplianceSystem.direct ComplianceSystem.asserted ComplianceSystem.delegated ComplianceSystem.equations ComplianceSystem.round PrincipalMembers.member PrincipalCanonical.fold PrincipalCanonical.folded PrincipalCanonical.front PrincipalCanonical.behind PrincipalCanonical.is_hex PrincipalCanonical.canonical_with PrincipalCanonical.canonical PrincipalPrincipal.same PrincipalPrincipal.policy ExpressionConditions.evaluate ExpressionConditions.index_from ExpressionConditions.rank_of ExpressionConditions.top ExpressionConditions.clause ExpressionIntegers.ranged ExpressionIntegers.negated ExpressionIntegers.differ ExpressionIntegers.over ExpressionIntegers.raised_to ExpressionIntegers.odd ExpressionIntegers.sign_of_power ExpressionIntegers.power ExpressionIntegers.sizes ExpressionIntegers.compared ExpressionOperations.held ExpressionOperations.relates ExpressionOperations.on_texts ExpressionOperations.on_integers ExpressionOperations.binary_of ExpressionOperations.converted ExpressionOperations.negative ExpressionOperations.opposite ExpressionOperations.unary_of ExpressionNames.environment string_bytes assertion_bytes items_bytes group_bytes encode place_of pair_bytes entry_bytes entries_bytes report report_size answer needed judged outcome written page_after TextCounted.part TextCounted.pair_at SyntaxParsed.refusal LexicalReason.reason_of TextClass.is_plain RecordField.count_at RecordField.length_at RecordField.content_at RecordField.field_at RecordField.name_front RecordField.among RecordItem.plain_at RecordItem.value_at RecordItem.requester_at RecordItem.attribute_name_at RecordItem.attribute_at RecordItem.assertion_at RecordItem.items_at RecordItem.group_at RecordRecord.query_at RecordRecord.read_record NamingSource.sources NamingString.plain_from NamingString.source NamingAuthorizer.authorizer NamingLicensees.licensee NamingLicensees.listed NamingLicensees.list_from NamingLicensees.list_opened NamingLicensees.of_read NamingLicensees.threshold NamingLicensees.closed NamingLicensees.primary NamingLicensees.expression NamingLicensees.licensees NamingNaming.identified NamingNaming.people NamingNaming.author NamingNaming.licensed NamingFault.size_fault NamingFault.source_fault NamingFault.policy_fault NamingFault.author_fault NamingFault.first_fault NamingFault.licensees_fault AssertionForm.finished AssertionForm.field AssertionForm.fields_from AssertionForm.read_assertion AssertionResolved.meant AssertionResolved.fault_of bytes_of any_reads author_reads licensees_read naming_reads any_names any_computes author_names licensees_name licensees_compute naming naming_computed any_such supplied_such is_named stands_naming
rulings = record {
  licence = refl;
  ring-c = refl;
  ring-b = refl;
  no-assertions = refl;
  two-of = refl;
  three-of = refl;
  twice = refl;
  third = refl;
  third-asked = refl;
  error-first = refl;
  error-opposite = refl;
  error-unmet = refl;
  minus-power = refl;
  power-power = refl;
  toward_zero = refl;
  rounds-down = refl;
  no-exponent = refl;
  out_of_range = refl;
  no-authorizer = refl;
  no-licensee = refl;
  first-long = refl;
  first-outcome = refl;
  first-page = refl;
  asked-as-policy = refl;
  asked-as-policy-last = refl;
  asked-in-small = refl;
  one_key = refl;
  two-keys = refl;
  many-spellings = refl;
  idle-unread = refl;
  hidden-unread = refl;
  unread-unread = refl;
  seen_read = refl;
  computed-idle = refl;
  computed-hidden = refl;
  idle-unnamed = refl;
  hidden-unnamed = refl;
  unread-unnamed = refl;
  unread-named = refl;
  unread-still-unread = refl;
  computed-named = refl;
  idle-stands = refl;
  hidden-stands = refl;
  unread-stands = refl;
  seen-stands = refl;
  none-computed = refl;
  one-computed = refl;
  idle-stands-naming = refl;
  hidden-stands-naming = refl;
  unread-stands-naming = refl;
  b-stands-naming = refl;
  none-naming-computed = refl;
  b-naming-computed = refl;
  one_told = refl;
  other-told = refl;
  seen-told = refl;
  naming-told = refl;
  naming-other-told = refl;
  paper-less = refl;
  paper-raises = refl;
  paper-idle = refl;
  paper-ordered = refl;
  paper-reordered = refl;
  paper-replaced = refl;
  outside_b = refl;
  outside-broken = refl;
  inside-a = refl;
}
