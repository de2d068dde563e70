-- Working definitions: a field read into the tables. Assumes nothing.
use Rattle.std.specs.Prelude.{true, List, ℕ, eqb, take, Result, Ok, Err}
use Rattle.text.specs.Choice.{pick}
use Rattle.lexical.specs.Kind
use Rattle.lexical.specs.declared.token.Token.{Token}
use Rattle.judge.specs.Working.Judging.{judged_here, Judged}
use Rattle.fields.specs.Version.{version}
use Rattle.fields.specs.Working.Outs.{out_of, ended_out, Out}
use Rattle.fields.specs.Working.Setting.{Stored, stored, constants_in}
use Rattle.naming.specs.Working.Identifying.{Sight, sight}
use Rattle.naming.specs.Working.Authorizing.{Made, made, authorizer_in}
use Rattle.naming.specs.Working.List.{Ran, ran}
use Rattle.naming.specs.Working.Chain.{field_in}
use Rattle.syntax.specs.declared.fault.Fault.{Fault}
use Rattle.index.specs.declared.Index.{Index}
use Rattle.naming.specs.declared.list.State.{State}
use Rattle.assertion.specs.declared.field.Partial.{Partial}
use Rattle.assertion.specs.declared.field.Went.{Went}

-- what stays as it is: the text and its standing, the query's record, the places of its values and attributes, and where constants begin
pub record Given : Type 0 where
  pub text : List ℕ
  pub standing : ℕ
  pub query : List ℕ
  pub values : List ℕ
  pub names : List ℕ
  pub start : ℕ

abbrev pub given : List ℕ → ℕ → List ℕ → List ℕ → List ℕ → ℕ → Given
given s standing query values names start = record {
  text = s;
  standing = standing;
  query = query;
  values = values;
  names = names;
  start = start;
}

-- the buffer of constants and the places of their names, the pool of identifiers and their places, and the licensees' programs
pub record Tables : Type 0 where
  pub consts : List ℕ
  pub constants : List ℕ
  pub pool : List ℕ
  pub places : List ℕ
  pub code : List ℕ

abbrev pub tabled : List ℕ → List ℕ → List ℕ → List ℕ → List ℕ → Tables
tabled consts constants pool places code = record { consts = consts; constants = constants; pool = pool; places = places; code = code }

-- what is read with one field more and the token behind it, or the first fault
abbrev pub Going : Type 0
Going = Result Went Fault

abbrev pub went : Partial → Token → Going
went d t = Ok (record { partial = d; next = t })

-- an answer and the tables
pub data Moved : Type 0 where
  moved : Going → Tables → Moved

-- what is read so far with one field more
abbrev pub knowing : Partial → ℕ → Partial
knowing d n = record { authored = d.authored; author = d.author; licensed = d.licensed; rank = d.rank; known = n; index = d.index; size = d.size; against = d.against; besides = d.besides }

abbrev pub authored_by : Partial → ℕ → Index → Fault → Partial
authored_by d i x f =
    record { authored = true; author = i; licensed = d.licensed; rank = d.rank; known = d.known; index = x; size = d.size; against = f; besides = d.besides }

abbrev pub licensed_to : Partial → State → Partial
licensed_to d u = record { authored = d.authored; author = d.author; licensed = true; rank = d.rank; known = d.known; index = u.index; size = u.size; against = d.against; besides = u.fault }

abbrev pub ranked_at : Partial → ℕ → Partial
ranked_at d k = record { authored = d.authored; author = d.author; licensed = d.licensed; rank = k; known = d.known; index = d.index; size = d.size; against = d.against; besides = d.besides }

-- a field that says nothing to the tables
abbrev pub passed_on : Partial → Out → Going
passed_on d (Ok t) = went d t
passed_on d (Err f) = Err f

-- an answer and two tables, or three
pub data Settled : Type 0 where
  settled : Going → List ℕ → List ℕ → Settled

pub data Listing : Type 0 where
  listed : Going → List ℕ → List ℕ → List ℕ → Listing

abbrev pub settled_as : Partial → Stored → Settled
settled_as d (stored (Ok y) c q) = settled (went (knowing d y.index.count) y.next) c q
settled_as d (stored (Err f) c q) = settled (Err f) c q

abbrev pub made_as : Partial → Made → Settled
made_as d (made (Ok a) p l) = settled (went (authored_by d a.number a.index a.fault) a.next) p l
made_as d (made (Err f) p l) = settled (Err f) p l

abbrev pub listed_as : Partial → Ran → Listing
listed_as d (ran (Ok w) p l k) = listed (went (licensed_to d w.state) w.next) p l k
listed_as d (ran (Err f) p l k) = listed (Err f) p l k

-- the tables with those
abbrev pub into_constants : Tables → Settled → Moved
into_constants x (settled r c q) = moved r (tabled c q x.pool x.places x.code)

abbrev pub into_index : Tables → Settled → Moved
into_index x (settled r p l) = moved r (tabled x.consts x.constants p l x.code)

abbrev pub into_code : Tables → Listing → Moved
into_code x (listed r p l k) = moved r (tabled x.consts x.constants p l k)

abbrev pub on_judged : Partial → Judged → Going
on_judged d (Ok k) = went (ranked_at d k.rank) k.next
on_judged d (Err f) = Err f

-- the constants that are known
abbrev pub known : Partial → Tables → List ℕ
known d x = take d.known x.constants

-- where names are looked up
abbrev pub seen : Given → Tables → Partial → Sight
seen g x d = sight g.query x.consts g.values g.names (known d x)

unfoldable pub constants_at : Given → Tables → Partial → Token → Moved
constants_at g x d t = into_constants x (settled_as d (constants_in g.text x.consts x.constants 0 g.start t))

unfoldable pub authorizer_at : Given → Tables → Partial → Token → Moved
authorizer_at g x d t =
    into_index x (made_as d (authorizer_in g.text g.standing (seen g x d) x.pool x.places d.index.count d.index.end t))

unfoldable pub licensees_at : Given → Tables → Partial → Token → Moved
licensees_at g x d t =
    into_code x (listed_as d (field_in g.text (seen g x d) x.pool x.places x.code d.index.count d.index.end d.size t))

abbrev pub judged_by : Given → Tables → Partial → Token → Judged
judged_by g x d t = judged_here g.text t g.query x.consts g.values g.names (known d x)

unfoldable pub conditions_at : Given → Tables → Partial → Token → Moved
conditions_at g x d t = moved (on_judged d (judged_by g x d t)) x

-- the field with that label, whose first token is t
unfoldable pub field_at : Given → ℕ → Tables → Partial → Token → Moved
field_at g kind x d t =
    pick (eqb kind Kind.KEYNOTE_VERSION) (moved (passed_on d (out_of (version g.text t))) x)
    (pick (eqb kind Kind.LOCAL_CONSTANTS) (constants_at g x d t)
    (pick (eqb kind Kind.AUTHORIZER) (authorizer_at g x d t)
    (pick (eqb kind Kind.LICENSEES) (licensees_at g x d t)
    (pick (eqb kind Kind.CONDITIONS) (conditions_at g x d t) (moved (passed_on d (ended_out t)) x)))))
