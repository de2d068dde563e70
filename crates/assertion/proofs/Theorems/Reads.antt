-- An assertion read into the tables is what the meaning reads. Assumes nothing.
use Rattle.std.specs.Prelude.{◌≡◌, Bool, true, ℕ, ◌<◌, eqb, get_or, take, Err}
use Rattle.std.proofs.Math.Path.{refl, ap}
use Rattle.std.proofs.Common.{sym, ◌∙◌}
use Rattle.std.proofs.Math.Option.{Option, none, some}
use mathlib.Core.List.{List, []}
use native.Mathlib.Omega.{arith}
use Rattle.std.proofs.Math.ListN.{length}
use Rattle.std.proofs.lemmas.Bool.{eqb-false}
use Rattle.text.specs.Choice.{pick, split}
use Rattle.text.specs.Loop.{Step, done}
use Rattle.record.specs.Query.{Query}
use Rattle.record.specs.Lies.{lie[]}
use Rattle.lexical.specs.Kind
use Rattle.lexical.specs.Kind.{ending}
use Rattle.lexical.specs.Line.{token_at}
use Rattle.lexical.specs.declared.token.Token.{Token}
use Rattle.principal.specs.Principal.{Principal}
use Rattle.principal.specs.Members.{member}
use Rattle.compliance.specs.Codes.{top_code}
use Rattle.compliance.specs.Licensees.{Licensees}
use Rattle.principal.specs.Places.{place}
use Rattle.index.specs.Index.{enter_all}
use Rattle.syntax.specs.Parsed.{Parsed, refusal}
use Rattle.syntax.specs.Stood.{Stood, stood-at}
use Rattle.fields.specs.Signature.{signature}
use Rattle.fields.specs.Working.Outs.{out_of}
use Rattle.naming.specs.Working.Code.{above, pushed}
use Rattle.fields.specs.Theorems.Together.{both, Steps, both-next, both-done, loop-same, refusal-some}
use Rattle.naming.specs.Theorems.Code.{pushed-length}
use Rattle.fields.specs.Theorems.Versioned.{SignatureRead, signature-aside, signature-on, signature-read}
use Rattle.naming.specs.Source.{Author}
use Rattle.naming.specs.Fault.{licensees_fault}
use Rattle.naming.specs.Working.Faults.{meant, clear_at, first_of, first-meant}
use Rattle.assertion.specs.Labels.{labels, without, total}
use Rattle.assertion.specs.Said.{Said}
use Rattle.assertion.specs.Sketch.{Sketch, blank, labelled}
use Rattle.assertion.specs.Form.{Form, formed, unformed, finished, on_signature, field, on_field, turn, fields_from, read_assertion}
use Rattle.assertion.specs.Form.{State as Reading}
use Rattle.assertion.specs.Resolved.{fault_of, resolved}
use Rattle.assertion.specs.Read.{Read, kept, dropped, first}
use Rattle.assertion.specs.Working.StandIn.{entered_by, entered_as}
use Rattle.naming.specs.Theorems.Authorized.{author_now}
use Rattle.naming.specs.Theorems.StandIn.{licensed_now}
use Rattle.assertion.specs.Theorems.StandIn.{resolved-clear, resolved-faulty}
use Rattle.assertion.specs.Working.Field.{Given, Tables, tabled, Moved, field_at}
use Rattle.assertion.specs.Working.Reading.{finished_by, ReadInto, read_by, kept_at, kept_in, faulted_in, finished_in, on_signed, signed_in, with_code, State, on_moved, last_at, last_in, fields_turn, fields_in, fresh, read_in}
use Rattle.assertion.specs.Working.ReadingWays.{without-less}
use Rattle.assertion.specs.declared.field.Partial.{Partial}
use Rattle.assertion.specs.Theorems.Ready.{Ready, After, worth, ReadAs, as_dropped, as-kept}
use Rattle.assertion.specs.Working.OnePass.{against_of}
use Rattle.assertion.specs.Theorems.Held.{Authored, unauthored, authored, Listed, unlisted, listed, Front, Held, held-front}
use Rattle.assertion.specs.Theorems.Fielded.{FieldRead, field-aside, field-on}
use Rattle.assertion.proofs.Theorems.Fielded.{field-read, after-code}
use Rattle.syntax.specs.Working.Faults.{against}
use Rattle.assertion.specs.Theorems.Reads.{Belong, Ended, belong, meant-none, meant-some, missing-ends}

module _ {q : Query} {g : Given} (top : ℕ) {x : Tables} {names : List Principal} {count end size : ℕ} (ready : Ready q g x names count end size) where
  abbrev Means : Read → ReadInto → Type 0
  Means = ReadAs q g top x names count end size

  abbrev As : Form → ReadInto → Type 0
  As f r = Means (resolved q g.standing f) r

  dropped-as : (r p : ℕ) (y : Tables) → (r ≡ 0 → ⊥) → Front g x names count end size y → Means (dropped r p) (read_by (Err (against r p)) y)
  dropped-as r p y h front = as_dropped r p y h front.after front.holds front.code

  module _ {free : List ℕ} {d : Sketch} {u : Partial} {t : Token} {y : Tables} (held : Held q g top x names end size free d u t y) where
    front : Front g x names count end size y
    front = held-front ready held

    module _ (a : Author) (ie : u.author ≡ place (enter_all names held.ps) (author_now q a)) (m : member (author_now q a) (enter_all names held.ps) ≡ true) where
      abbrev says : Said
      says = record { author = a; licensees = d.licensees; conditions = d.conditions }

      kept-as : (z : ℕ) (code : List ℕ) → length code ≡ length y.code
          → Ended (enter_all names held.ps) (take size x.code) size (licensed_now q d.licensees) z code
          → Means (kept (entered_as q says)) (with_code y (finished_by (kept_at u z) code))
      unfolding entered_as
      kept-as z code l ended =
          as-kept (record { authorizer = author_now q a; licensees = licensed_now q d.licensees; conditions = d.conditions }) held.ps u.author u.rank u.index.count u.index.end z
          (tabled y.consts y.constants y.pool y.places code) (after-code held.after y.pool y.places code refl refl l)
          (omega (arith, held.index.room)) held.index.holds held.index.low ie m ended.named ended.formed ended.few ended.wrote ended.ends ended.most held.rank

      listed-as : (f : Licensees) (b : Bool) (z : ℕ) → licensed_now q d.licensees ≡ f → u.licensed ≡ b → u.size ≡ z
          → Listed (enter_all names held.ps) (take size x.code) size (get_or free Kind.LICENSEES 0) y.code f b z
          → Means (kept (entered_as q says)) (with_code y (kept_in y.code u))
      unfolding kept_in
      listed-as _ _ _ fe be ze (unlisted z e w) =
          let s : u.size ≡ size = ze ∙ e in
          let room : size < length y.code = omega (arith, ready.code-room, held.after.code) in
          rw (be, s) (kept-as (above y.code size) (pushed y.code size top_code) (pushed-length y.code size top_code room)
          (rw fe (missing-ends (enter_all names held.ps) (take size x.code) y.code size room w)))
      listed-as _ _ _ fe be ze (listed f z l w k h o r n) =
          rw (be, ze) (kept-as z y.code refl
          (rw fe (record { wrote = w; ends = k; most = h; named = o; formed = r; few = n })))

      -- what is against the identifiers
      module _ (ae : d.author ≡ some a) where
        fault : meant (first_of u.against u.besides) ≡ fault_of q g.standing says
        unfolding fault_of
        fault = first-meant u.against u.besides ∙ cc (held.against ∙ ap (against_of q g.standing) ae, held.besides)

        judged-as : As (formed says) (with_code y (faulted_in y.code u (first_of u.against u.besides)))
        judged-as =
            split (eqb (first_of u.against u.besides).reason 0)
            (λ e. rw (e, resolved-clear q g.standing says (sym fault ∙ meant-none (first_of u.against u.besides) e))
            (listed-as (licensed_now q d.licensees) u.licensed u.size refl refl refl held.list))
            (λ e. rw (e, resolved-faulty q g.standing says (first_of u.against u.besides).reason (first_of u.against u.besides).place (sym fault ∙ meant-some (first_of u.against u.besides) e))
            (dropped-as _ _ y (eqb-false _ _ e) front))

    finished_from : (at : ℕ) (o : Option Author) (b : Bool) (i : ℕ) → d.author ≡ o → u.authored ≡ b → u.author ≡ i → Authored (enter_all names held.ps) (entered_by q o) b i
        → As (finished d at) (with_code y (finished_in y.code u at))
    unfolding finished finished_in kept_in
    finished_from at none _ _ ae be ie (unauthored i) = rw (ae, be) (dropped-as 3 at y (λ z. omega (arith, z)) front)
    finished_from at (some a) _ _ ae be ie (authored p i e m) = rw (ae, be) (judged-as a (ie ∙ e) m ae)

    finished_as : (at : ℕ) → As (finished d at) (with_code y (finished_in y.code u at))
    finished_as at = finished_from at d.author u.authored u.author refl refl refl held.author

    signed-as : (n : Token) (p : Parsed (List ℕ)) → SignatureRead g.text n p → As (on_signature d p) (with_code y (on_signed y.code u (out_of p)))
    signed-as n _ (signature-aside r p h) = dropped-as r p y h front
    signed-as n _ (signature-on k h) = finished_as n.end

module _ {q : Query} {g : Given} (top : ℕ) {x : Tables} {names : List Principal} {count end size : ℕ} (ready : Ready q g x names count end size) where
  abbrev Turns : Reading → State → Step Reading Form → Step State ReadInto → Type 0
  Turns = Steps (λ z. total z.0.free) (λ z. unformed 3 z.1.start) (turn g.text)
      (λ z. total z.0) (λ z. read_by (Err (against 3 z.2.start)) z.3) (fields_turn g) (Belong q g top x names end size) (As top ready)

  module _ {free : List ℕ} {d : Sketch} (de : d.free ≡ free) {u : Partial} {t : Token} {y : Tables} (held : Held q g top x names end size free d u t y) where
    abbrev Here : Step Reading Form → Step State ReadInto → Type 0
    Here = Turns (d, t) (free, u, t, y)

    aside-here : (r p : ℕ) → (r ≡ 0 → ⊥) → Here (done (unformed r p)) (done (with_code y (finished_by (Err (against r p)) y.code)))
    aside-here r p h = both-done _ _ (dropped-as top ready r p y h (held-front ready held))

    field-here : eqb (get_or free t.kind 0) 1 ≡ true → (p : Parsed Sketch) (m : Moved) → FieldRead q g top x names count end size (without free t.kind) p m
        → Here (on_field p) (on_moved (without free t.kind) m)
    field-here one _ _ (field-aside r p z h front) = both-done _ _ (dropped-as top ready r p z h front)
    field-here one _ _ (field-on e v n z ee more) =
        let l : total (without free t.kind) < total free = without-less free t.kind one in
        both-next (e, n) (without free t.kind, v, n, z) (belong e (without free t.kind) v n z ee more) (rw (ee, de) l) l

    label-here : eqb (get_or free t.kind 0) 1 ≡ true
        → Here (pick (eqb t.kind Kind.SIGNATURE) (done (on_signature d (signature g.text (first g.text t))))
        (on_field (field g.text t.kind (labelled d t.kind) (first g.text t))))
        (pick (eqb t.kind Kind.SIGNATURE) (done (with_code y (signed_in g.text y.code u (first g.text t))))
        (on_moved (without free t.kind) (field_at g t.kind y u (first g.text t))))
    unfolding signed_in
    label-here one =
        split (eqb t.kind Kind.SIGNATURE)
        (λ f. rw f (both-done _ _ (signed-as top ready held (first g.text t) _ (signature-read g.text (first g.text t)))))
        (λ f. rw f (field-here one _ _ (field-read ready de held t.kind t.end one)))

    same-free : {b : Bool} → eqb (get_or free t.kind 0) 1 ≡ b → eqb (get_or d.free t.kind 0) 1 ≡ b
    same-free h = ap (λ (l : List ℕ). eqb (get_or l t.kind 0) 1) de ∙ h

    turn-here : Here (turn g.text (d, t)) (fields_turn g (free, u, t, y))
    unfolding last_at last_in
    turn-here =
        split (eqb t.kind Kind.END) (λ e. rw e (both-done _ _ (finished_as top ready held t.start)))
        (λ e. split (ending t.kind)
        (λ f. split (eqb (get_or free t.kind 0) 1) (λ h. rw (e, f, same-free h, h) (label-here h)) (λ h. rw (e, f, same-free h, h) (aside-here 3 t.start (λ z. omega (arith, z)))))
        (λ f. rw (e, f) (aside-here (refusal t.kind) t.start (refusal-some t.kind))))

  turns : (a : Reading) (b : State) → Belong q g top x names end size a b → Turns a b (turn g.text a) (fields_turn g b)
  turns _ _ (belong d free u t y de held) = turn-here de held

  unread : After g x x
  unread = record { consts = refl; constants = refl; pool = refl; places = refl; code = refl; begun = refl }

  held-blank : (t : Token) → Stood g.text t → Held q g top x names end size labels blank (fresh top count end size) t x
  unfolding enter_all worth licensed_now licensees_fault
  held-blank t st = record {
    ps = [];
    after = unread;
    stood = st;
    constants = lie[];
    index = record { holds = ready.holds; low = ready.tight; near = omega arith; room = omega arith };
    author = unauthored 0;
    against = meant-none clear_at refl;
    list = unlisted size refl refl;
    besides = meant-none clear_at refl;
    rank = refl;
  }

  -- Where the tables are ready, what is read into them is what the text asserts in the query, or why it is set aside.
  pub read_as : ReadAs q g top x names count end size (resolved q g.standing (read_assertion g.standing g.text)) (read_in g top x count end size)
  unfolding read_assertion fields_from read_in fields_in
  read_as =
      both (As top ready) (eqb g.standing 0) _ _ _ _
      (λ f. as_dropped 9 0 x (λ z. omega (arith, z)) unread ready.holds refl)
      (λ f. loop-same _ _ (turn g.text) _ _ (fields_turn g) (Belong q g top x names end size) (As top ready) turns
      (blank, token_at g.text Kind.BEFORE 0) (labels, fresh top count end size, token_at g.text Kind.BEFORE 0, x)
      (belong blank labels (fresh top count end size) (token_at g.text Kind.BEFORE 0) x refl (held-blank _ (stood-at g.text Kind.BEFORE 0))))
