-- A field read into the tables is what the meaning reads. Assumes nothing.
use Rattle.std.specs.Prelude.{◌≡◌, refl, true, List, [], ◌∷◌, ◌++◌, ℕ, ◌+◌, ◌*◌, ◌≤◌, eqb, length, get_or, take}
use Rattle.std.proofs.Common.{ap, ◌∙◌, arith, length-append, eqb-true}
use Rattle.limits.specs.Limits.{most_counted}
use Rattle.text.specs.Choice.{split}
use Rattle.record.specs.Query.{Query, Attribute}
use Rattle.lexical.specs.Kind
use Rattle.lexical.specs.Kind.{ending}
use Rattle.lexical.specs.Line.{token_at}
use Rattle.lexical.specs.declared.token.Token.{Token}
use Rattle.principal.specs.Principal.{Principal}
use Rattle.compliance.specs.Licensees as Compliance
use Rattle.compliance.specs.Licensees.{licensees as licensees_of}
use Rattle.index.specs.Index.{enter, enter_all, Holds}
use Rattle.index.specs.EnterLaws.{fresh, fresh_all, enter-all-append, enter-member, enter-all-member}
use Rattle.syntax.specs.Expr.{Program}
use Rattle.syntax.specs.Parsed.{Parsed, ok, and_then, refusal}
use Rattle.syntax.specs.Stood.{Stood, stood-at}
use Rattle.expression.specs.Names.{environment}
use Rattle.expression.specs.Conditions.{conditions}
use Rattle.expression.specs.Tables.{Shows}
use Rattle.constants.specs.Theorems.Begun.{begun-shows}
use Rattle.conditions.specs.Word.{next_at}
use Rattle.conditions.specs.Program.{read_program}
use Rattle.judge.specs.Theorems.Judges.{Judging, judged-aside, judged-on}
use Rattle.judge.proofs.Theorems.Judges.{judge-field-read}
use Rattle.judge.specs.Working.Judging.{Judged}
use Rattle.fields.specs.Parsed.{ended}
use Rattle.fields.specs.Constants.{constants_from}
use Rattle.naming.specs.Source.{Author, Licensees}
use Rattle.naming.specs.Authorizer.{authorizer}
use Rattle.naming.specs.Licensees.{licensees}
use Rattle.fields.specs.Working.Outs.{out_of, ended_out}
use Rattle.fields.specs.Working.Setting.{Stored}
use Rattle.naming.specs.Working.Authorizing.{Made}
use Rattle.naming.specs.Working.List.{Ran as Listing}
use Rattle.fields.specs.Theorems.Together.{both, refusal-some}
use Rattle.fields.specs.Theorems.Versioned.{VersionRead, version-aside, version-on, version-read}
use Rattle.fields.specs.Theorems.Constanted.{ConstantsRead, constants-aside, constants-on, constants-read}
use Rattle.naming.specs.Theorems.Authorized.{author_now, AuthorRead, author-aside, author-on, author-read}
use Rattle.naming.specs.Theorems.Licensed.{LicenseesRead, licensees-aside, licensees-on, licensees-read}
use Rattle.assertion.specs.Labels.{without}
use Rattle.assertion.specs.Sketch.{Sketch, labelled, with_constants, with_author, with_licensees, with_program}
use Rattle.assertion.specs.Form.{field}
use Rattle.naming.specs.Theorems.StandIn.{licensed_now}
use Rattle.assertion.specs.Working.Field.{Given, Tables, tabled, Moved, moved, knowing, authored_by, licensed_to, ranked_at, passed_on, settled_as, made_as, listed_as, on_judged, into_constants, into_index, into_code, known, constants_at, authorizer_at, licensees_at, conditions_at, field_at}
use Rattle.assertion.specs.declared.field.Partial.{Partial}
use Rattle.assertion.specs.Theorems.Left.{without-most, without-none, enter-all-length, First, first_more}
use Rattle.assertion.specs.Theorems.Ready.{Ready, After, worth}
use Rattle.assertion.specs.Theorems.Held.{authored, Listed, listed, Indexed, author-more, listed_more, listed-less, listed-none, index-less, names-before, Front, Held, held-front, held-used, held-count}
use Rattle.index.specs.Working.Adding.{index_of}
use Rattle.assertion.specs.Theorems.Fielded.{FieldRead, all-behind, entered-one, field-aside, field-on, one-behind, opened-conditions}

-- the tables with some that are as long
module _ {g : Given} {x y : Tables} (after : After g x y) where
  after-constants : (m q : List ℕ) → length m ≡ length y.consts → length q ≡ length y.constants → take g.start m ≡ take g.start y.consts
      → After g x (tabled m q y.pool y.places y.code)
  after-constants m q hm hq e = record {
    consts = hm ∙ after.consts;
    constants = hq ∙ after.constants;
    pool = after.pool;
    places = after.places;
    code = after.code;
    begun = e ∙ after.begun;
  }

  pub after-code : (p l m : List ℕ) → length p ≡ length y.pool → length l ≡ length y.places → length m ≡ length y.code
      → After g x (tabled y.consts y.constants p l m)
  after-code p l m hp hl hm = record {
    consts = after.consts;
    constants = after.constants;
    pool = hp ∙ after.pool;
    places = hl ∙ after.places;
    code = hm ∙ after.code;
    begun = after.begun;
  }

module _ {q : Query} {g : Given} {top : ℕ} {x : Tables} {names : List Principal} {count end size : ℕ} (ready : Ready q g x names count end size)
    {free : List ℕ} {d : Sketch} (de : d.free ≡ free) {u : Partial} {t : Token} {y : Tables} (held : Held q g top x names end size free d u t y) where
  abbrev Reads : ℕ → Parsed Sketch → Moved → Type 0
  Reads k = FieldRead q g top x names count end size (without free k)

  left : (k : ℕ) → without d.free k ≡ without free k
  left k = ap (λ (f : List ℕ). without f k) de

  less : (k : ℕ) → Listed (enter_all names held.ps) (take size x.code) size (get_or (without free k) Kind.LICENSEES 0) y.code (licensed_now q d.licensees) u.licensed u.size
  less k = listed-less (without-most free k Kind.LICENSEES) held.list

  front : Front g x names count end size y
  front = held-front ready held

  -- KeyNote-Version and Comment
  version-field : (k : ℕ) (p : Parsed ℕ) → VersionRead g.text p → Reads k (and_then p (λ v n. ok (labelled d k) n)) (moved (passed_on u (out_of p)) y)
  version-field k _ (version-aside r p h) = field-aside r p y h front
  version-field k _ (version-on n sn) = field-on (labelled d k) u n y (left k) (held-used ready held k n sn)

  comment-field : (k : ℕ) (n : Token) → Stood g.text n → Reads k (ended (labelled d k) n) (moved (passed_on u (ended_out n)) y)
  unfolding ended_out
  comment-field k n sn =
      split (ending n.kind)
      (λ f. rw f (field-on (labelled d k) u n y (left k) (held-used ready held k n sn)))
      (λ f. rw f (field-aside (refusal n.kind) n.start y (refusal-some n.kind) front))

  -- Local-Constants
  constants-field : (k : ℕ) (p : Parsed (List Attribute)) (r : Stored) → ConstantsRead g.text y.consts y.constants g.start p r
      → Reads k (and_then p (λ cs n. ok (with_constants (labelled d k) cs) n)) (into_constants y (settled_as u r))
  constants-field k _ _ (constants-aside r p m m' h hm hq e) =
      field-aside r p (tabled m m' y.pool y.places y.code) h
      (record { after = after-constants held.after m m' hm hq e; holds = front.holds; code = front.code })
  constants-field k _ _ (constants-on cs c e n m m' number few lie sn hm hq b) =
      field-on (with_constants (labelled d k) cs) (knowing u c) n (tabled m m' y.pool y.places y.code) (left k)
      (record {
        ps = held.ps;
        after = after-constants held.after m m' hm hq b;
        stood = sn;
        constants = lie;
        index = index-less free k held.index;
        author = held.author;
        against = held.against;
        list = less k;
        besides = held.besides;
        rank = held.rank;
      })

  -- Authorizer
  author-index : get_or free Kind.AUTHORIZER 0 ≡ 1 → (p : Principal) (c e : ℕ) (pool places : List ℕ) → Holds pool places c e (enter (enter_all names held.ps) p) → e ≤ most_counted * c
      → e ≤ u.index.end + most_counted → Indexed names end (without free Kind.AUTHORIZER) (held.ps ++ (p ∷ [])) c e pool places
  author-index one p c e pool places holds low near =
      let l : length (held.ps ++ (p ∷ [])) ≡ length held.ps + 1 = length-append held.ps (p ∷ []) in
      record {
        holds = rw (entered-one names held.ps p) holds;
        low = low;
        near = omega (arith, near, held.index.near);
        room = omega (arith, held.index.room, one, without-none free Kind.AUTHORIZER, without-most free Kind.AUTHORIZER Kind.LICENSEES);
      }

  author-field : (k : ℕ) → k ≡ Kind.AUTHORIZER → get_or free Kind.AUTHORIZER 0 ≡ 1 → (p : Parsed Author) (r : Made)
      → AuthorRead g.standing q g.text y.pool y.places u.index.count u.index.end (enter_all names held.ps) p r
      → Reads k (and_then p (λ a n. ok (with_author (labelled d k) a) n)) (into_index y (made_as u r))
  author-field k ke one _ _ (author-aside r p pool places h hp hl holds) =
      field-aside r p (tabled y.consts y.constants pool places y.code) h
      (record { after = after-code held.after pool places y.code hp hl refl; holds = names-before ready held.ps holds; code = front.code })
  author-field k ke one _ _ (author-on a i c e f n pool places sn ie holds low near fe hp hl) =
      let p : Principal = author_now q a in
      field-on (with_author (labelled d k) a) (authored_by u i (index_of c e) f) n (tabled y.consts y.constants pool places y.code) (left k)
      (record {
        ps = held.ps ++ (p ∷ []);
        after = after-code held.after pool places y.code hp hl refl;
        stood = sn;
        constants = held.constants;
        index = rw ke (author-index one p c e pool places holds low near);
        author = rw (entered-one names held.ps p) (authored p i ie (enter-member (enter_all names held.ps) p));
        against = fe;
        list = rw (one-behind names held.ps p) (listed_more (enter_all names held.ps) (fresh (enter_all names held.ps) p) (less k));
        besides = held.besides;
        rank = held.rank;
      })

  -- Licensees
  list-field : (k : ℕ) → k ≡ Kind.LICENSEES → get_or free Kind.LICENSEES 0 ≡ 1 → (p : Parsed Licensees) (r : Listing)
      → LicenseesRead q g.text y.pool y.places y.code u.index.count u.index.end u.size (enter_all names held.ps) p r
      → Reads k (and_then p (λ l n. ok (with_licensees (labelled d k) l) n)) (into_code y (listed_as u r))
  list-field k ke one _ _ (licensees-aside r p pool places code h hp hl hm holds same) =
      let z : u.size ≡ size = listed-none one held.list in
      field-aside r p (tabled y.consts y.constants pool places code) h
      (record {
        after = after-code held.after pool places code hp hl hm;
        holds = names-before ready held.ps holds;
        code = (rw z at same) ∙ front.code;
      })
  list-field k ke one _ _ (licensees-on l st n pool places code sn holds low near wrote ends most few formed some fe hp hl hm) =
      let f : Compliance.Licensees = licensed_now q l in
      let z : u.size ≡ size = listed-none one held.list in
      let e : enter_all names (held.ps ++ licensees_of f) ≡ enter_all (enter_all names held.ps) (licensees_of f) = enter-all-append names held.ps (licensees_of f) in
      let b : length (held.ps ++ licensees_of f) ≡ length held.ps + length (licensees_of f) = length-append held.ps (licensees_of f) in
      field-on (with_licensees (labelled d k) l) (licensed_to u st) n (tabled y.consts y.constants pool places code) (left k)
      (record {
        ps = held.ps ++ licensees_of f;
        after = after-code held.after pool places code hp hl hm;
        stood = sn;
        constants = held.constants;
        index = record {
          holds = rw e holds;
          low = low;
          near = omega (arith, near, held.index.near);
          room = rw ke (omega (arith, held.index.room, one, few, without-none free Kind.LICENSEES, without-most free Kind.LICENSEES Kind.AUTHORIZER));
        };
        author = rw (all-behind names held.ps (licensees_of f)) (author-more (enter_all names held.ps) (fresh_all (enter_all names held.ps) (licensees_of f)) held.author);
        against = held.against;
        list = rw e (listed f st.size (rw ke (without-none free Kind.LICENSEES)) ((rw (z, front.code) at wrote)) (rw z at ends) (rw z at most)
            (enter-all-member (enter_all names held.ps) (licensees_of f)) formed few);
        besides = fe;
        rank = held.rank;
      })

  -- Conditions
  shown : Shows g.query y.consts g.values g.names (known u y) (environment q d.constants)
  unfolding environment
  shown =
      let b = begun-shows y.consts _ _ g.start (held.after.begun ∙ ready.begun) ready.values-short ready.requesters-short in
      record { values-lie = ready.values; attributes-lie = ready.attributes; constants-lie = held.constants; values-joined = b.0; requesters-joined = b.1 }

  judged-field : (k : ℕ) (p : Parsed Program) (r : Judged) → Judging g.text (environment q d.constants) p r
      → Reads k (and_then p (λ p n. ok (with_program (labelled d k) p) n)) (moved (on_judged u r) y)
  unfolding worth
  judged-field k _ _ (judged-aside r p h) = field-aside r p y h front
  judged-field k _ _ (judged-on p n sn) =
      field-on (with_program (labelled d k) p) (ranked_at u (conditions (environment q d.constants) p)) n y (left k)
      (record {
        ps = held.ps;
        after = held.after;
        stood = sn;
        constants = held.constants;
        index = index-less free k held.index;
        author = held.author;
        against = held.against;
        list = less k;
        besides = held.besides;
        rank = refl;
      })

  few-values : length (environment q d.constants).values ≤ 256
  unfolding environment
  few-values = ready.few

  conditions-field : (k at : ℕ) → Reads k (and_then (read_program g.text (next_at g.text at)) (λ p n. ok (with_program (labelled d k) p) n))
      (conditions_at g y u (next_at g.text at))
  unfolding conditions_at
  conditions-field k at = judged-field k _ _ (judge-field-read shown few-values g.text ready.short at)

  conditions-here : (k : ℕ) → k ≡ Kind.CONDITIONS → (at : ℕ)
      → Reads k (and_then (read_program g.text (token_at g.text (Kind.opened k) at)) (λ p n. ok (with_program (labelled d k) p) n))
      (conditions_at g y u (token_at g.text (Kind.opened k) at))
  conditions-here k ke at = rw (opened-conditions k ke) (conditions-field k at)

  constants-here : (k : ℕ) (n : Token) → Stood g.text n → Reads k (and_then (constants_from g.text [] n) (λ cs n. ok (with_constants (labelled d k) cs) n)) (constants_at g y u n)
  unfolding constants_at
  constants-here k n sn =
      constants-field k _ _ (constants-read g.text y.consts y.constants g.start n sn (omega (arith, ready.short))
      (omega (arith, held.after.constants, ready.constants-room)) (omega (arith, held.after.consts, ready.consts-room, ready.short)))

  author-here : (k : ℕ) → k ≡ Kind.AUTHORIZER → get_or free Kind.AUTHORIZER 0 ≡ 1 → (n : Token) → Stood g.text n
      → Reads k (and_then (authorizer g.text d.constants n) (λ a n. ok (with_author (labelled d k) a) n)) (authorizer_at g y u n)
  unfolding authorizer_at
  author-here k ke one n sn =
      let f : First (enter_all names held.ps) = first_more names held.ps ready.first in
      author-field k ke one _ _ (author-read q d.constants shown g.standing g.text ready.short y.pool y.places u.index.count u.index.end (enter_all names held.ps) n
      sn held.index.holds f.known f.at held.index.low
      (omega (arith, held.index.holds.counted, enter-all-length names held.ps, held.index.room, one, ready.numbers))
      (omega (arith, held-count ready held, held.index.room, one, ready.places-room, held.after.places))
      (omega (arith, held.index.near, held.index.room, one, ready.pool-room, held.after.pool)))

  list-here : (k : ℕ) → k ≡ Kind.LICENSEES → get_or free Kind.LICENSEES 0 ≡ 1 → (n : Token) → Stood g.text n
      → Reads k (and_then (licensees g.text d.constants n) (λ l n. ok (with_licensees (labelled d k) l) n)) (licensees_at g y u n)
  unfolding licensees_at
  list-here k ke one n sn =
      let f : First (enter_all names held.ps) = first_more names held.ps ready.first in
      list-field k ke one _ _ (licensees-read q d.constants shown g.text ready.short y.pool y.places y.code u.index.count u.index.end u.size (enter_all names held.ps) n
      sn held.index.holds f.known f.at held.index.low
      (omega (arith, held-count ready held, held.index.room, one, ready.places-room, held.after.places))
      (omega (arith, enter-all-length names held.ps, held.index.room, one, ready.numbers))
      (omega (arith, held.index.near, held.index.room, one, ready.pool-room, held.after.pool))
      (omega (arith, listed-none one held.list, ready.code-room, held.after.code)))

  free_one : (k j : ℕ) → k ≡ j → eqb (get_or free k 0) 1 ≡ true → get_or free j 0 ≡ 1
  free_one k j ke e = let z : get_or free k 0 ≡ 1 = eqb-true _ _ e in rw ke at z

  -- the field whose label is of that kind
  field-from : (k at : ℕ) → eqb (get_or free k 0) 1 ≡ true → (n : Token) → n ≡ token_at g.text (Kind.opened k) at → Stood g.text n
      → Reads k (field g.text k (labelled d k) n) (field_at g k y u n)
  unfolding field field_at
  field-from k at one n ne sn =
      both (Reads k) (eqb k Kind.KEYNOTE_VERSION) _ _ _ _ (λ f. version-field k _ (version-read g.text n))
      (λ f. both (Reads k) (eqb k Kind.LOCAL_CONSTANTS) _ _ _ _ (λ h. constants-here k n sn)
      (λ h. both (Reads k) (eqb k Kind.AUTHORIZER) _ _ _ _ (λ i. author-here k (eqb-true _ _ i) (free_one k Kind.AUTHORIZER (eqb-true _ _ i) one) n sn)
      (λ i. both (Reads k) (eqb k Kind.LICENSEES) _ _ _ _ (λ j. list-here k (eqb-true _ _ j) (free_one k Kind.LICENSEES (eqb-true _ _ j) one) n sn)
      (λ j. both (Reads k) (eqb k Kind.CONDITIONS) _ _ _ _ (λ l. rw ne (conditions-here k (eqb-true _ _ l) at)) (λ l. comment-field k n sn)))))

  pub field-read : (k at : ℕ) → eqb (get_or free k 0) 1 ≡ true
      → FieldRead q g top x names count end size (without free k) (field g.text k (labelled d k) (token_at g.text (Kind.opened k) at))
      (field_at g k y u (token_at g.text (Kind.opened k) at))
  field-read k at one = field-from k at one (token_at g.text (Kind.opened k) at) refl (stood-at g.text (Kind.opened k) at)
