-- For the premises of `names-spoken` and `names-given`, a text where they hold and one where they don't. Assumes nothing.
use Rattle.std.specs.Prelude.{◌≡◌, refl, List, [], ◌∷◌, ℕ}
use Rattle.text.specs.Scan.{past}
use Rattle.lexical.specs.Kind
use Rattle.lexical.specs.Kind.{ending}
use Rattle.lexical.specs.Class.{class_of}
use Rattle.lexical.specs.Run.{has_class, in_run}
use Rattle.lexical.specs.Operator.{equal_pair, pair_of, mark_kind, is_of, operator_kind}
use Rattle.lexical.specs.Token.{token, width_of, operator_at, operator_token, token_from}
use Rattle.lexical.specs.Line.{visible, in_line, token_at}
use Rattle.lexical.specs.Word.{lower, stands, spells}
use Rattle.lexical.specs.declared.token.Token.{Token}
use Rattle.grammar.specs.Fields.{Ends, end-of-text}
use Rattle.grammar.specs.Conditions.{any_name, str-name, str-one}
use Rattle.grammar.specs.Naming.{Licensees, somebody, either, principal}
use Rattle.grammar.specs.Spelled.{kind_in, kinds_in}
use Rattle.grammar.specs.Viable.{TokensIn, at_once, and-on}

-- `a||b` behind a blank, and the tokens behind that blank
abbrev pub joined : List ℕ
joined = 32 ∷ 97 ∷ 124 ∷ 124 ∷ 98 ∷ []

abbrev pub joined_tokens : List Token
joined_tokens = token Kind.NAME 1 2 ∷ token Kind.OR 2 4 ∷ token Kind.NAME 4 5 ∷ []

abbrev pub end : Token
end = token Kind.END 5 5

pub joined-path : TokensIn joined Kind.IN_LICENSEES (token_at joined Kind.IN_LICENSEES 1) joined_tokens end
unfolding token_at in_line visible token_from operator_token operator_at width_of operator_kind pair_of equal_pair mark_kind is_of class_of in_run has_class past
joined-path = and-on (token Kind.NAME 1 2) end _ (and-on (token Kind.OR 2 4) end _ (and-on (token Kind.NAME 4 5) end [] (at_once end)))

joined-kinds : kinds_in joined joined_tokens ≡ Kind.NAME ∷ Kind.OR ∷ Kind.NAME ∷ []
unfolding kind_in spells lower stands
joined-kinds = refl

pub joined-sentence : Licensees (kinds_in joined joined_tokens)
joined-sentence = rw joined-kinds (somebody _ (either (Kind.NAME ∷ []) (Kind.NAME ∷ []) (principal _ (str-one _ (str-name Kind.NAME any_name))) (principal _ (str-one _ (str-name Kind.NAME any_name)))))

pub joined_end : Ends (kind_in joined end)
unfolding kind_in
joined_end = end-of-text
