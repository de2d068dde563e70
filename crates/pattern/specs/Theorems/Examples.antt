-- The examples that OPEN-POINTS-02 rules, M01 to M06, in the definition's words: the matcher is computed, and what it answers is the verdict.
-- Assumes nothing.
use Rattle.std.specs.Prelude.{◌≡◌, refl, List, [], ◌∷◌, map, ℕ}
use Rattle.std.proofs.Common.{ap}
use Prim.Native.Char.{code}
use Prim.Native.String.{String, [] as nothing, ◌∷◌ as ◌then◌}
use Rattle.text.specs.Loop.{turns, loop}
use Rattle.pattern.specs.Bytes.{special, stands, opens_name}
use Rattle.pattern.specs.Working.Places.{nowhere, power, only_at, join, gated, start_part, end_part, byte_part, sequence, choice, or_empty, or_at, word_at, add_row, row, add_if, link_word, link}
use Rattle.pattern.specs.Working.Scan.{ends_range, ranges, within, range_at, byte_at, dash_at, item_at, set_rest, negated, hit_of, set_at, accepts_at, one_end}
use Rattle.pattern.specs.Working.Parse.{eat_at, repeated, atom_at}
use Rattle.pattern.specs.Working.Sim.{flag, visit, sweep_one, sweep, step_at, chosen, run_from, runs, test_with}
use Rattle.pattern.specs.Verdict.{Answer, yes, no, error, Verdict}
use Rattle.pattern.specs.Working.Verdicts.{zeros, zeros-verdict}

-- the bytes of a text
unfoldable pub bytes : String → List ℕ
bytes nothing = []
bytes (c then s) = code c ∷ bytes s

-- a pattern, a string and the answer
pub data Row : Type 0 where
  asked : List ℕ → List ℕ → Answer → Row

unfoldable pub says : String → String → Answer → Row
says p s a = asked (bytes p) (bytes s) a

unfoldable answer_in : Row → Answer
answer_in (asked p s a) = a

unfoldable computed : Row → Answer
computed (asked p s a) = test_with zeros p s

-- the verdicts are the answers
pub data Ruled : List Row → Type 0 where
  none : Ruled []
  also : {p s : List ℕ} {a : Answer} {l : List Row} → Verdict p s a → Ruled l → Ruled (asked p s a ∷ l)

head : List Answer → Answer
head [] = error
head (a ∷ l) = a

tail : List Answer → List Answer
tail [] = []
tail (a ∷ l) = l

ruled : (l : List Row) → map answer_in l ≡ map computed l → Ruled l
unfolding answer_in computed head tail
ruled [] e = none
ruled (asked p s a ∷ l) e = also (zeros-verdict p s a (ap head e)) (ruled l (ap tail e))

abbrev pub rows : List Row
rows =
    says "^*" "" error
    ∷ says "^+a" "a" error
    ∷ says "a$?" "a" error
    ∷ says "(^)*a" "ba" yes
    ∷ says "(^)+a" "ba" no
    ∷ says "(^)+a" "ab" yes
    ∷ says "a^b" "ab" no
    ∷ says "a^b" "a^b" no
    ∷ says "x*^a" "a" yes
    ∷ says "^^a$$" "a" yes
    ∷ says "^$" "" yes
    ∷ says "$^" "" yes
    ∷ asked (bytes "a$") (97 ∷ 10 ∷ []) no
    ∷ says "(a|^b)c" "xbc" no
    ∷ says "(a|^b)c" "bc" yes
    ∷ says "" "" error
    ∷ says "|a" "a" error
    ∷ says "a|" "a" error
    ∷ says "a||b" "a" error
    ∷ says "()" "a" error
    ∷ says "(|a)" "a" error
    ∷ says "*a" "a" error
    ∷ says "(*a)" "a" error
    ∷ says "a|*" "a" error
    ∷ says "a**" "a" error
    ∷ says "a+?" "a" error
    ∷ says "(a*)*" "" yes
    ∷ says "(a" "a" error
    ∷ says "a)" "a)" error
    ∷ says ")" ")" error
    ∷ says "((((a)|b)))c" "abc" yes
    ∷ says "a{2}" "aa" error
    ∷ says "{" "{" error
    ∷ asked (92 ∷ 123 ∷ 50 ∷ 125 ∷ []) (bytes "{2}") yes
    ∷ says "a}" "a}" yes
    ∷ says "]" "]" yes
    ∷ asked (92 ∷ 93 ∷ []) (bytes "]") error
    ∷ asked (92 ∷ 125 ∷ []) (bytes "}") error
    ∷ says "-" "a-b" yes
    ∷ says "^[]]$" "]" yes
    ∷ says "^[^]]$" "]" no
    ∷ says "[]" "]" error
    ∷ says "[^]" "a" error
    ∷ says "^[a]]$" "a]" yes
    ∷ says "^[]a]$" "a" yes
    ∷ says "^[]-a]$" "^" yes
    ∷ says "^[^]-a]$" "^" no
    ∷ says "^[a-]]$" "-]" yes
    ∷ says "^[-]$" "-" yes
    ∷ says "^[--]$" "-" yes
    ∷ says "^[^--]$" "-" no
    ∷ says "[---]" "-" error
    ∷ says "^[-a]$" "-" yes
    ∷ says "^[a-]$" "-" yes
    ∷ says "^[a-c-]$" "-" yes
    ∷ says "[a-c-e]" "a" error
    ∷ says "[--a]" "a" error
    ∷ says "[+--]" "," error
    ∷ says "[a--]" "a" error
    ∷ says "^[-a-c]$" "b" yes
    ∷ says "^[]-]$" "-" yes
    ∷ says "[b-a]" "a" error
    ∷ says "^[a-a]$" "a" yes
    ∷ says "^[.]$" "a" no
    ∷ says "^[:=.]$" ":" yes
    ∷ says "[[:alpha:]]" "a" error
    ∷ says "[[.a.]]" "a" error
    ∷ says "[a[=]" "a" error
    ∷ says "^[[]$" "[" yes
    ∷ says "^[a[]$" "[" yes
    ∷ says "^[[-a]$" "^" yes
    ∷ says "^[A-[]$" "[" yes
    ∷ says "[A-[:]" "A" error
    ∷ says "[^[:a]" "b" error
    ∷ asked (94 ∷ 91 ∷ 65 ∷ 45 ∷ 92 ∷ 93 ∷ 36 ∷ []) (bytes "Z") yes
    ∷ says "^[^^]$" "^" no
    ∷ says "^[a^]$" "^" yes
    ∷ asked (94 ∷ 91 ∷ 92 ∷ 93 ∷ 36 ∷ []) (92 ∷ []) yes
    ∷ asked (94 ∷ 91 ∷ 92 ∷ 110 ∷ 93 ∷ 36 ∷ []) (bytes "n") yes
    ∷ asked (91 ∷ 92 ∷ 93 ∷ 93 ∷ []) (bytes "]") no
    ∷ asked (94 ∷ 91 ∷ 92 ∷ 93 ∷ 93 ∷ 36 ∷ []) (92 ∷ 93 ∷ []) yes
    ∷ says "[a" "a" error
    ∷ says "[a-" "a" error
    ∷ says "^[*.$(|]+$" "$(|*." yes
    ∷ asked (94 ∷ 91 ∷ 128 ∷ 45 ∷ 255 ∷ 93 ∷ 36 ∷ []) (233 ∷ []) yes
    ∷ asked (92 ∷ 46 ∷ []) (bytes "a") no
    ∷ asked (92 ∷ 110 ∷ []) (bytes "n") error
    ∷ asked (97 ∷ 92 ∷ []) (bytes "a") error
    ∷ asked (92 ∷ 47 ∷ []) (bytes "/") error
    ∷ asked (40 ∷ 97 ∷ 41 ∷ 92 ∷ 49 ∷ []) (bytes "aa") error
    ∷ asked (92 ∷ 94 ∷ 92 ∷ 46 ∷ 92 ∷ 91 ∷ 92 ∷ 36 ∷ 92 ∷ 40 ∷ 92 ∷ 41 ∷ 92 ∷ 124 ∷ 92 ∷ 42 ∷ 92 ∷ 43 ∷ 92 ∷ 63 ∷ 92 ∷ 123 ∷ 92 ∷ 92 ∷ []) (94 ∷ 46 ∷ 91 ∷ 36 ∷ 40 ∷ 41 ∷ 124 ∷ 42 ∷ 43 ∷ 63 ∷ 123 ∷ 92 ∷ []) yes
    ∷ asked (bytes "^.$") (10 ∷ []) yes
    ∷ asked (bytes "a.c") (120 ∷ 97 ∷ 10 ∷ 99 ∷ []) yes
    ∷ asked (bytes "^[^a]$") (10 ∷ []) yes
    ∷ says "A" "a" no
    ∷ asked (bytes "^..$") (195 ∷ 169 ∷ []) yes
    ∷ says "b*" "aaa" yes
    ∷ says "ab?c+" "xxaccc" yes
    ∷ says "^(ab|c)+$" "abcab" yes
    ∷ says "^(ab|c)+$" "abca" no
    ∷ says "^(a|ab)(c|bcd)$" "abcd" yes ∷ []

-- "error" where the bytes are no pattern, "yes" where the pattern's tree is found in the string, "no" where it isn't
pub rows-ruled : Ruled rows
unfolding turns loop special stands opens_name nowhere power only_at join gated start_part end_part byte_part sequence choice or_empty or_at word_at add_row row add_if link_word link ends_range ranges within range_at byte_at dash_at item_at set_rest negated hit_of set_at accepts_at one_end eat_at repeated atom_at flag visit sweep_one sweep step_at chosen run_from runs test_with bytes says answer_in computed
rows-ruled = ruled rows refl

ruled-first : {p s : List ℕ} {a : Answer} {l : List Row} → Ruled (asked p s a ∷ l) → Verdict p s a
ruled-first (also v r) = v

ruled-rest : {p s : List ℕ} {a : Answer} {l : List Row} → Ruled (asked p s a ∷ l) → Ruled l
ruled-rest (also v r) = r

-- one row of each kind: no pattern; a pattern that is found, and one that isn't
pub no-pattern : Verdict (bytes "^*") (bytes "") error
unfolding says
no-pattern = ruled-first rows-ruled

pub pattern-found : Verdict (bytes "(^)*a") (bytes "ba") yes
unfolding says
pattern-found = ruled-first (ruled-rest (ruled-rest (ruled-rest rows-ruled)))

pub pattern-missed : Verdict (bytes "(^)+a") (bytes "ba") no
unfolding says
pattern-missed = ruled-first (ruled-rest (ruled-rest (ruled-rest (ruled-rest rows-ruled))))
