-- The lines that are printed of a record's answer or refusal, with `end` behind each. Assumes nothing.
use Rattle.std.specs.Prelude.{List, [], ◌∷◌, ◌++◌, ℕ, zero, suc, ◌+◌, ◌*◌, ◌/◌, eqb, get_or, replicate}
use Prim.Native.Char.{code}
use Prim.Native.String.{String, [] as nothing, ◌∷◌ as ◌then◌}
use Rattle.limits.specs.Limits.{most_report}
use Rattle.text.specs.Choice.{pick}
use Rattle.text.specs.Counted.{pair_at}
use Rattle.keynote.specs.Outcome.{outcome, page_after}
use Rattle.keynote.specs.declared.Outcome.{Outcome}
use Rattle.printed.specs.Numeral.{decimal}

-- a text's bytes
abbrev pub bytes : String → List ℕ
bytes nothing = []
bytes (c then s) = code c ∷ bytes s

-- a text and a number
unfoldable pub said : List ℕ → ℕ → List ℕ
said word n = word ++ decimal n

-- a line with one number, and a line with two
unfoldable pub line : List ℕ → ℕ → List ℕ → List ℕ
line word n end = said word n ++ end

unfoldable pub pair_line : List ℕ → ℕ → List ℕ → ℕ → List ℕ → List ℕ
pair_line first m second n end = said first m ++ said second n ++ end

-- "rank R of N", "rounds R", "reached R"
unfoldable pub head_lines : Outcome → ℕ → List ℕ → List ℕ
head_lines o values end =
    pair_line (bytes "rank ") o.rank (bytes " of ") values end
    ++ line (bytes "rounds ") o.rounds end
    ++ line (bytes "reached ") o.reached end

-- "assertion I reason R at P": entry I of the report is a reason byte and a two-byte place
unfoldable pub assertion_line : List ℕ → List ℕ → ℕ → List ℕ
assertion_line page end i =
    said (bytes "assertion ") i ++ pair_line (bytes " reason ") (get_or page (3 + 3 * i) 0) (bytes " at ") (pair_at page (4 + 3 * i)) end

-- the lines of the first n assertions, in the query's order
unfoldable pub assertion_lines : List ℕ → List ℕ → ℕ → List ℕ
assertion_lines page end zero = []
assertion_lines page end (suc n) = assertion_lines page end n ++ assertion_line page end n

-- "A refusal prints only `refused N at P`"
unfoldable pub refusal_line : Outcome → List ℕ → List ℕ
refusal_line o end = pair_line (bytes "refused ") o.number (bytes " at ") o.place end

-- an outcome with its page; the report's two-byte length 3n gives n
unfoldable pub outcome_lines : Outcome → ℕ → List ℕ → List ℕ → List ℕ
outcome_lines o values page end = pick (eqb o.number 0) (head_lines o values end ++ assertion_lines page end (pair_at page 1 / 3)) (refusal_line o end)

-- the page that is lent: any report fits
abbrev pub blank : List ℕ
blank = replicate most_report 0

-- what is printed of a record; how many compliance values there are stands in its byte 1
unfoldable pub lines : List ℕ → List ℕ → List ℕ
lines s end = outcome_lines (outcome s most_report) (get_or s 1 0) (page_after s blank) end
