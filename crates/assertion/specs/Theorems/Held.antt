-- What the tables hold of the fields read so far. Assumes nothing.
use Rattle.std.specs.Prelude.{◌≡◌, Bool, true, false, ℕ, ◌+◌, ◌*◌, ◌≤◌, length, get_or, take}
use Rattle.std.proofs.Common.{sym, ap, ◌∙◌, arith, take-take, take_at, length-take-le}
use Rattle.std.proofs.Math.Option.{Option, none, some}
use mathlib.Core.List.{List, ◌++◌, Memᴰ as Mem}
use Rattle.limits.specs.Limits.{most_licensees, most_named, most_counted, most_code}
use Rattle.record.specs.Query.{Query}
use Rattle.record.specs.Lies.{Lie, AttributeAt}
use Rattle.lexical.specs.Kind
use Rattle.lexical.specs.declared.token.Token.{Token}
use Rattle.principal.specs.Principal.{Principal}
use Rattle.principal.specs.Members.{member, member-left}
use Rattle.compliance.specs.Licensees.{Expression, Licensees, missing, given, licensees}
use Rattle.principal.specs.Places.{place}
use Rattle.compliance.specs.Tables.{compiled, Formed}
use Rattle.compliance.specs.Theorems.Fill.{place-stays, compiled-stays}
use Rattle.index.specs.Index.{enter_all, Holds}
use Rattle.index.specs.EnterLaws.{fresh_all, enter-all-is}
use Rattle.syntax.specs.Stood.{Stood}
use Rattle.naming.specs.Theorems.Entry.{holds-before}
use Rattle.naming.specs.Fault.{licensees_fault}
use Rattle.naming.specs.Working.Faults.{meant}
use Rattle.assertion.specs.Labels.{without}
use Rattle.assertion.specs.Sketch.{Sketch, labelled}
use Rattle.assertion.specs.Working.StandIn.{entered_by}
use Rattle.naming.specs.Theorems.StandIn.{licensed_now}
use Rattle.assertion.specs.Working.OnePass.{against_of}
use Rattle.assertion.specs.Working.Field.{Given, Tables}
use Rattle.assertion.specs.declared.field.Partial.{Partial}
use Rattle.assertion.specs.Theorems.Left.{without-most, enter-all-length}
use Rattle.assertion.specs.Theorems.Ready.{Ready, After, worth}

-- the Authorizer's number among the names, where there was one
pub data Authored (names : List Principal) : Option Principal → Bool → ℕ → Type 0 where
  unauthored : (i : ℕ) → Authored names none false i
  authored : (p : Principal) (i : ℕ) → i ≡ place names p → member p names ≡ true → Authored names (some p) true i

-- the Licensees' program behind the old ones, where there was one: then their label is used up
pub data Listed (names : List Principal) (old : List ℕ) (size left : ℕ) (code : List ℕ) : Licensees → Bool → ℕ → Type 0 where
  unlisted : (z : ℕ) → z ≡ size → take size code ≡ old → Listed names old size left code missing false z
  listed : (f : Licensees) (z : ℕ) → left ≡ 0 → take z code ≡ old ++ compiled names f → z ≡ size + length (compiled names f) → z ≤ size + most_code
      → ((p : Principal) → Mem p (licensees f) → member p names ≡ true) → ((e : Expression) → f ≡ given e → Formed e) → length (licensees f) ≤ most_licensees
      → Listed names old size left code f true z

-- the index with the principals ps behind the names, and the room that is left
pub record Indexed (names : List Principal) (end : ℕ) (free : List ℕ) (ps : List Principal) (c e : ℕ) (pool places : List ℕ) : Type 0 where
  pub holds : Holds pool places c e (enter_all names ps)
  pub low : e ≤ most_counted * c
  pub near : e ≤ end + most_counted * length ps
  pub room : length ps + most_licensees * get_or free Kind.LICENSEES 0 + get_or free Kind.AUTHORIZER 0 ≤ most_named

-- more names in the index
pub author-more : (names more : List Principal) {a : Option Principal} {b : Bool} {i : ℕ} → Authored names a b i → Authored (names ++ more) a b i
author-more names more (unauthored i) = unauthored i
author-more names more (authored p i e m) = authored p i (e ∙ sym (place-stays names more p m)) (member-left p names more m)

pub listed_more : (names more : List Principal) {old : List ℕ} {size left : ℕ} {code : List ℕ} {f : Licensees} {b : Bool} {z : ℕ}
    → Listed names old size left code f b z → Listed (names ++ more) old size left code f b z
listed_more names more (unlisted z e w) = unlisted z e w
listed_more names more {old} {size} (listed f z l w k h m d n) =
    let s : compiled names f ≡ compiled (names ++ more) f = sym (compiled-stays names more f m) in
    listed f z l (w ∙ ap (λ (c : List ℕ). old ++ c) s) (k ∙ ap (λ (c : List ℕ). size + length c) s) h (λ p i. member-left p names more (m p i)) d n

-- fewer labels left
pub listed-less : {names : List Principal} {old : List ℕ} {size left less : ℕ} {code : List ℕ} {f : Licensees} {b : Bool} {z : ℕ} → less ≤ left
    → Listed names old size left code f b z → Listed names old size less code f b z
listed-less h (unlisted z e w) = unlisted z e w
listed-less h (listed f z l w k i m d n) = listed f z (omega (arith, h, l)) w k i m d n

-- the old programs stand
pub listed-front : {names : List Principal} (m : List ℕ) (size : ℕ) {left : ℕ} (code : List ℕ) {f : Licensees} {b : Bool} {z : ℕ} → size ≤ length m
    → Listed names (take size m) size left code f b z → take size code ≡ take size m
listed-front m size code h (unlisted z e w) = w
listed-front {names} m size code h (listed f z l w k i o d n) =
    sym (take-take size z code (omega (arith, k))) ∙ ap (take size) w ∙ take_at (take size m) (compiled names f) size (length-take-le size m h)

-- while the label is left there is no program
pub listed-none : {names : List Principal} {old : List ℕ} {size left : ℕ} {code : List ℕ} {f : Licensees} {b : Bool} {z : ℕ} → left ≡ 1
    → Listed names old size left code f b z → z ≡ size
listed-none h (unlisted z e w) = e
listed-none h (listed f z l w k i m d n) = let no : ⊥ = omega (arith, h, l) in absurd no

pub index-less : {names : List Principal} {end : ℕ} (free : List ℕ) (k : ℕ) {ps : List Principal} {c e : ℕ} {pool places : List ℕ} → Indexed names end free ps c e pool places
    → Indexed names end (without free k) ps c e pool places
index-less free k i = record {
  holds = i.holds;
  low = i.low;
  near = i.near;
  room = omega (arith, i.room, without-most free k Kind.LICENSEES, without-most free k Kind.AUTHORIZER);
}

-- what was in front before the assertion is there
pub record Front (g : Given) (x : Tables) (names : List Principal) (count end size : ℕ) (y : Tables) : Type 0 where
  pub after : After g x y
  pub holds : Holds y.pool y.places count end names
  pub code : take size y.code ≡ take size x.code

-- the sketch d is what u and the tables y say, POLICY standing in for nobody, and t is the token behind
pub record Held (q : Query) (g : Given) (top : ℕ) (x : Tables) (names : List Principal) (end size : ℕ) (free : List ℕ) (d : Sketch) (u : Partial) (t : Token) (y : Tables) : Type 0 where
  pub ps : List Principal
  pub after : After g x y
  pub stood : Stood g.text t
  pub constants : Lie (AttributeAt y.consts) (take u.known y.constants) d.constants
  pub index : Indexed names end free ps u.index.count u.index.end y.pool y.places
  pub author : Authored (enter_all names ps) (entered_by q d.author) u.authored u.author
  pub against : meant u.against ≡ against_of q g.standing d.author
  pub list : Listed (enter_all names ps) (take size x.code) size (get_or free Kind.LICENSEES 0) y.code (licensed_now q d.licensees) u.licensed u.size
  pub besides : meant u.besides ≡ licensees_fault q d.licensees
  pub rank : u.rank ≡ worth top q d.conditions

-- an index with more principals holds the names
pub names-before : {q : Query} {g : Given} {x : Tables} {names : List Principal} {count end size : ℕ} → Ready q g x names count end size
    → (ps : List Principal) {pool places : List ℕ} {c e : ℕ} → Holds pool places c e (enter_all names ps) → Holds pool places count end names
names-before {names = names} ready ps holds = holds-before names (fresh_all names ps) ready.holds (rw (enter-all-is names ps) at holds)

module _ {q : Query} {g : Given} {top : ℕ} {x : Tables} {names : List Principal} {count end size : ℕ} (ready : Ready q g x names count end size)
    {free : List ℕ} {d : Sketch} {u : Partial} {t : Token} {y : Tables} (held : Held q g top x names end size free d u t y) where
  pub held-front : Front g x names count end size y
  held-front = record {
    after = held.after;
    holds = names-before ready held.ps held.index.holds;
    code = listed-front x.code size y.code (omega (arith, ready.code-room)) held.list;
  }

  -- a label used up, before another token
  pub held-used : (k : ℕ) (n : Token) → Stood g.text n → Held q g top x names end size (without free k) (labelled d k) u n y
  held-used k n sn = record {
    ps = held.ps;
    after = held.after;
    stood = sn;
    constants = held.constants;
    index = index-less free k held.index;
    author = held.author;
    against = held.against;
    list = listed-less (without-most free k Kind.LICENSEES) held.list;
    besides = held.besides;
    rank = held.rank;
  }

  -- how many principals the index has, and what is left of its room
  pub held-count : u.index.count ≤ count + length held.ps
  held-count = omega (arith, held.index.holds.counted, enter-all-length names held.ps, ready.holds.counted)
