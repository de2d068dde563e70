-- Licensees read into the index and written as a postfix program are what the meaning reads. Assumes nothing.
use Rattle.std.specs.Prelude.{◌≡◌, true, List, ◌++◌, ℕ, ◌+◌, ◌-◌, ◌*◌, ◌<◌, ◌≤◌, length, take, Err}
use Rattle.std.proofs.Common.{arith, le-ltb}
use Rattle.text.specs.Choice.{split}
use Rattle.limits.specs.Limits.{most_brackets, most_licensees, most_counted, most_numbers, most_code}
use Rattle.record.specs.Query.{Query, Attribute}
use Rattle.principal.specs.Principal.{Principal, policy}
use Rattle.principal.specs.Members.{member}
use Rattle.compliance.specs.Codes.{zero_code}
use Rattle.compliance.specs.Licensees as Compliance
use Rattle.principal.specs.Places.{place}
use Rattle.compliance.specs.Tables.{compiled, Formed}
use Rattle.expression.specs.Names.{environment}
use Rattle.expression.specs.Tables.{Shows}
use Rattle.index.specs.Index.{enter_all, Holds}
use Rattle.lexical.specs.declared.token.Token.{Token}
use Rattle.syntax.specs.Parsed.{Parsed, ok, aside, and_then, refusal}
use Rattle.syntax.specs.Stood.{Stood}
use Rattle.lexical.specs.Kind.{ending}
use Rattle.fields.specs.Parsed.{ended}
use Rattle.naming.specs.Working.Code.{above, pushed}
use Rattle.fields.specs.Theorems.Together.{both, refusal-some}
use Rattle.naming.specs.Theorems.Code.{compile-short}
use Rattle.naming.specs.Source.{Sources, Licensees, empty, given}
use Rattle.naming.specs.Licensees.{primary, expression, licensees}
use Rattle.naming.specs.Fault.{licensees_fault}
use Rattle.naming.specs.Working.Faults.{meant, clear_at}
use Rattle.syntax.specs.Working.Faults.{against}
use Rattle.naming.specs.Working.Identifying.{sight}
use Rattle.naming.specs.Working.List.{Ran, ran, state_of, read_to}
use Rattle.naming.specs.Working.Chain.{on_on, primary_at, operand_at, more_at, chain_at, end_in, field_in}
use Rattle.naming.specs.declared.list.State.{State}
use Rattle.naming.specs.Theorems.StandIn.{people_now, licensed_now, faults}
use Rattle.naming.specs.Theorems.Growing.{Ready, Stays, Grown, grown-none, grown-push}
use Rattle.naming.specs.Theorems.Listed.{ExpressionRead, expression-aside, expression-on}
use Rattle.naming.specs.Theorems.Chained.{expression-reads, primary-reads}

-- the principals that the tables hold for a field
abbrev pub held_by : Query → Licensees → List Principal
held_by q f = Compliance.licensees (licensed_now q f)

-- the same fault, or the same field and token behind: the index holds its licensees behind the others, POLICY where an expression identifies
-- nobody; the code ends with its program; and the fault kept is the field's
pub data LicenseesRead (q : Query) (s pool places code : List ℕ) (count end size : ℕ) (names : List Principal) : Parsed Licensees → Ran → Type 0 where
  licensees-aside : (r p : ℕ) (pool' places' code' : List ℕ) → (r ≡ 0 → ⊥)
      → length pool' ≡ length pool → length places' ≡ length places → length code' ≡ length code → Holds pool' places' count end names → take size code' ≡ take size code
      → LicenseesRead q s pool places code count end size names (aside r p) (ran (Err (against r p)) pool' places' code')
  licensees-on : (f : Licensees) (u : State) (n : Token) (pool' places' code' : List ℕ) → Stood s n
      → Holds pool' places' u.index.count u.index.end (enter_all names (held_by q f)) → u.index.end ≤ most_counted * u.index.count
      → u.index.end ≤ end + most_counted * length (held_by q f)
      → take u.size code' ≡ take size code ++ compiled (enter_all names (held_by q f)) (licensed_now q f)
      → u.size ≡ size + length (compiled (enter_all names (held_by q f)) (licensed_now q f)) → u.size ≤ size + most_code
      → length (held_by q f) ≤ most_licensees → ((e : Compliance.Expression) → licensed_now q f ≡ Compliance.given e → Formed e) → (licensed_now q f ≡ Compliance.missing → ⊥)
      → meant u.fault ≡ licensees_fault q f
      → length pool' ≡ length pool → length places' ≡ length places → length code' ≡ length code
      → LicenseesRead q s pool places code count end size names (ok f n) (ran (read_to u n) pool' places' code')

given-formed : (x e : Compliance.Expression) → Formed x → Compliance.given x ≡ Compliance.given e → Formed e
given-formed x e f h = let z : x ≡ e = cc in rw (← z) f

given-some : (x : Compliance.Expression) → Compliance.given x ≡ Compliance.missing → ⊥
given-some x h = let z : ◌≡◌ {A = ℕ} 0 1 = cc in let no : ⊥ = omega (arith, z) in no

empty-formed : (e : Compliance.Expression) → Compliance.empty ≡ Compliance.given e → Formed e
empty-formed e h = let z : ◌≡◌ {A = ℕ} 0 1 = cc in let no : ⊥ = omega (arith, z) in absurd no

empty-some : Compliance.empty ≡ Compliance.missing → ⊥
empty-some h = let z : ◌≡◌ {A = ℕ} 0 1 = cc in let no : ⊥ = omega (arith, z) in no

module _ (q : Query) (constants : List Attribute) (s pool places code : List ℕ) (count end size : ℕ) (names : List Principal) where
  abbrev Read : Parsed Licensees → Ran → Type 0
  Read = LicenseesRead q s pool places code count end size names

  abbrev start_state : State
  start_state = state_of count end size 0 clear_at

  set-aside : (r p : ℕ) (pool' places' code' : List ℕ) → (r ≡ 0 → ⊥) → Stays pool places code start_state names pool' places' code' → Read (aside r p) (ran (Err (against r p)) pool' places' code')
  set-aside r p pool' places' code' h more = licensees-aside r p pool' places' code' h more.same_pool more.same_places more.same_code more.held more.front

  set-down : (f : Licensees) (u : State) (n : Token) (pool' places' code' : List ℕ) → Stood s n
      → Grown pool places code start_state names (held_by q f) (compiled (enter_all names (held_by q f)) (licensed_now q f)) (licensees_fault q f) u pool' places' code'
      → length (compiled (enter_all names (held_by q f)) (licensed_now q f)) ≤ most_code
      → ((e : Compliance.Expression) → licensed_now q f ≡ Compliance.given e → Formed e) → (licensed_now q f ≡ Compliance.missing → ⊥)
      → Read (ok f n) (ran (read_to u n) pool' places' code')
  unfolding meant
  set-down f u n pool' places' code' sn grown short formed some =
      licensees-on f u n pool' places' code' sn grown.holds grown.low grown.end_up grown.wrote grown.size (omega (arith, grown.size, short)) (omega (arith, grown.listed, grown.few))
      formed some grown.faulted grown.stays.same_pool grown.stays.same_places grown.stays.same_code

  -- "an empty one 0"
  empty-read : Ready pool places code start_state names → size < length code → (t : Token) → Stood s t
      → Read (ok empty t) (ran (read_to (state_of count end (above code size) 0 clear_at) t) pool places (pushed code size zero_code))
  unfolding licensed_now Compliance.licensees compiled licensees_fault
  empty-read ready room t st =
      set-down empty (state_of count end (above code size) 0 clear_at) t pool places (pushed code size zero_code) st (grown-push (grown-none ready) zero_code room) (omega arith) empty-formed empty-some

  given-read : (p : Parsed Sources) (r : Ran) → ExpressionRead (environment q constants) s pool places code start_state names p r
      → Read (and_then p (λ e u. ended (given constants e) u)) (on_on r (λ u n p q m. ran (end_in u n) p q m))
  unfolding end_in licensed_now Compliance.licensees compiled licensees_fault faults
  given-read _ _ (expression-aside r p pool' places' code' h more) = set-aside r p pool' places' code' h more
  given-read _ _ (expression-on x u n pool' places' code' sn f grown) =
      split (ending n.kind)
      (λ g. rw g (set-down (given constants x) u n pool' places' code' sn grown
      (omega (arith, compile-short (enter_all names (Compliance.named (people_now (environment q constants) x))) f, grown.listed, grown.few))
      (λ e. given-formed (people_now (environment q constants) x) e f) (given-some (people_now (environment q constants) x))))
      (λ g. rw g (set-aside (refusal n.kind) n.start pool' places' code' (refusal-some n.kind) grown.stays))

-- In a text of at most 8,192 bytes, where the index holds POLICY first and has room, what is entered and written is what the meaning reads.
pub licensees-read : {rec consts values keys known : List ℕ} (q : Query) (constants : List Attribute) → Shows rec consts values keys known (environment q constants)
    → (s : List ℕ) → length s ≤ 8192 → (pool places code : List ℕ) (count end size : ℕ) (names : List Principal) (t : Token)
    → Stood s t → Holds pool places count end names → member policy names ≡ true → place names policy ≡ 0 → end ≤ most_counted * count
    → count + most_licensees ≤ length places → length names + most_licensees ≤ most_numbers → end + most_licensees * most_counted ≤ length pool → size + most_code ≤ length code
    → LicenseesRead q s pool places code count end size names (licensees s constants t) (field_in s (sight rec consts values keys known) pool places code count end size t)
unfolding licensees expression field_in chain_at operand_at more_at
licensees-read {rec} {consts} {values} {keys} {known} q constants shows s short pool places code count end size names t st holds here first low table_room names_room pool_room code_room =
    rw (le-ltb (length code) size (omega arith), le-ltb (length code - size) most_code (omega arith))
    (both (LicenseesRead q s pool places code count end size names) (ending t.kind) _ _ _ _
    (λ f. empty-read q constants s pool places code count end size names ready (omega arith) t st)
    (λ f. given-read q constants s pool places code count end size names _ _
    (expression-reads (environment q constants) s (λ n t. primary s most_brackets n t) (λ p q m u n. primary_at most_brackets s (sight rec consts values keys known) p q m u n)
    (primary-reads shows s short most_brackets) pool places code (state_of count end size 0 clear_at) names t st ready)))
  where
    ready : Ready pool places code (state_of count end size 0 clear_at) names
    ready = record {
      holds = holds;
      low = low;
      known = here;
      first = first;
      few = omega arith;
      table_room = omega (arith, table_room);
      names_room = omega (arith, names_room, holds.counted);
      pool_room = omega (arith, pool_room);
      code_room = omega (arith, code_room);
    }
