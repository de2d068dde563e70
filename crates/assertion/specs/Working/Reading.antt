-- Working definitions: an assertion read into the tables. Assumes nothing.
use Rattle.std.specs.Prelude.{Bool, true, false, List, ℕ, eqb, get_or, Result, Ok, Err}
use Rattle.text.specs.Choice.{pick}
use Rattle.text.specs.Loop.{Step, next, done, loop}
use Rattle.lexical.specs.Kind
use Rattle.lexical.specs.Kind.{ending}
use Rattle.lexical.specs.Line.{token_at}
use Rattle.lexical.specs.declared.token.Token.{Token}
use Rattle.compliance.specs.Codes.{top_code}
use Rattle.fields.specs.Signature.{signature}
use Rattle.fields.specs.Working.Outs.{out_of, Out}
use Rattle.naming.specs.Working.Code.{above, pushed}
use Rattle.naming.specs.Working.Faults.{clear_at, first_of}
use Rattle.syntax.specs.Working.Faults.{against, misplaced_at}
use Rattle.syntax.specs.declared.fault.Fault.{Fault}
use Rattle.index.specs.Working.Adding.{index_of}
use Rattle.index.specs.declared.Index.{Index}
use Rattle.assertion.specs.Labels.{labels, without, total}
use Rattle.assertion.specs.Read.{first}
use Rattle.assertion.specs.Working.Field.{Given, Tables, tabled, Moved, moved, field_at}
use Rattle.assertion.specs.declared.Assessed.{Assessed}
use Rattle.assertion.specs.declared.field.Partial.{Partial}

-- what is kept of an assertion, or what is against it
abbrev pub Assessment : Type 0
Assessment = Result Assessed Fault

abbrev pub assessed : ℕ → Index → ℕ → ℕ → Assessment
assessed i x z k = Ok (record { author = i; index = x; size = z; rank = k })

-- an answer and the licensees' programs
pub data Finished : Type 0 where
  finished_by : Assessment → List ℕ → Finished

-- an answer and the tables
pub data ReadInto : Type 0 where
  read_by : Assessment → Tables → ReadInto

abbrev pub kept_at : Partial → ℕ → Assessment
kept_at d size = assessed d.author d.index size d.rank

unfoldable pub kept_in : List ℕ → Partial → Finished
kept_in code d =
    pick d.licensed (finished_by (kept_at d d.size) code) (finished_by (kept_at d (above code d.size)) (pushed code d.size top_code))

-- what is against the identifiers sets the text aside
abbrev pub faulted_in : List ℕ → Partial → Fault → Finished
faulted_in code d f = pick (eqb f.reason 0) (kept_in code d) (finished_by (Err f) code)

unfoldable pub finished_in : List ℕ → Partial → ℕ → Finished
finished_in code d end = pick d.authored (faulted_in code d (first_of d.against d.besides)) (finished_by (Err (against 3 end)) code)

abbrev pub on_signed : List ℕ → Partial → Out → Finished
on_signed code d (Ok t) = finished_in code d t.end
on_signed code d (Err f) = finished_by (Err f) code

unfoldable pub signed_in : List ℕ → List ℕ → Partial → Token → Finished
signed_in s code d t = on_signed code d (out_of (signature s t))

abbrev pub with_code : Tables → Finished → ReadInto
with_code x (finished_by r code) = read_by r (tabled x.consts x.constants x.pool x.places code)

-- the labels that may still stand, what is read so far, the token behind it, and the tables
abbrev pub State : Type 0
State = List ℕ × Partial × Token × Tables

abbrev pub on_moved : List ℕ → Moved → Step State ReadInto
on_moved free (moved (Ok w) x) = next (free, w.partial, w.next, x)
on_moved free (moved (Err f) x) = done (read_by (Err f) x)

-- is a token of that kind the last to be looked at?
unfoldable pub last_at : List ℕ → ℕ → Bool
last_at free kind = pick (eqb kind Kind.END) true (pick (ending kind) (pick (eqb (get_or free kind 0) 1) (eqb kind Kind.SIGNATURE) true) true)

unfoldable pub last_in : List ℕ → List ℕ → List ℕ → Partial → Token → Finished
last_in s free code d t =
    pick (eqb t.kind Kind.END) (finished_in code d t.start)
    (pick (ending t.kind) (pick (eqb (get_or free t.kind 0) 1) (signed_in s code d (first s t)) (finished_by (Err (against 3 t.start)) code))
    (finished_by (Err (misplaced_at t)) code))

abbrev pub fields_turn : Given → State → Step State ReadInto
fields_turn g (free, d, t, x) =
    pick (last_at free t.kind) (done (with_code x (last_in g.text free x.code d t)))
    (on_moved (without free t.kind) (field_at g t.kind x d (first g.text t)))

unfoldable pub fields_in : Given → List ℕ → Tables → Partial → Token → ReadInto
fields_in g free x d t = loop (λ y. total y.0) (λ y. read_by (Err (against 3 y.2.start)) y.3) (fields_turn g) (free, d, t, x)

-- nothing read: the rank of missing Conditions, and the ends of the index and of the code
abbrev pub begun : ℕ → Index → ℕ → Fault → Fault → Partial
begun top index size a b = record { authored = false; author = 0; licensed = false; rank = top; known = 0; index = index; size = size; against = a; besides = b }

abbrev pub fresh : ℕ → ℕ → ℕ → ℕ → Partial
fresh top count end size = begun top (index_of count end) size clear_at clear_at

unfoldable pub read_in : Given → ℕ → Tables → ℕ → ℕ → ℕ → ReadInto
read_in g top x count end size =
    pick (eqb g.standing 0) (read_by (Err (against 9 0)) x) (fields_in g labels x (fresh top count end size) (token_at g.text Kind.BEFORE 0))
