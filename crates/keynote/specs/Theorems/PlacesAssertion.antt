-- An assertion that is set aside has a reason from 1 to 10 and a place in its text or at its end: so the report is bytes. Assumes nothing.
use Rattle.std.specs.Prelude.{◌≡◌, refl, Bool, true, false, ℕ, zero, suc, ◌*◌, ◌/◌, ◌%◌, ◌≤◌, ◌<◌, eqb, leb, ltb, length, get_or}
use Rattle.std.proofs.Common.{sym, subst, zero-le, arith, eqb-true, ne_eqb}
use Rattle.std.proofs.Math.Option.{Option, none, some}
use mathlib.Core.List.Memᴰ.{head as here}
use mathlib.Core.List.Memᴰ.{tail as there}
use mathlib.Core.List.{List, [], ◌∷◌, ◌++◌, map, Memᴰ as Mem}
use Rattle.std.proofs.lemmas.List.{length-map}
use Rattle.text.specs.Choice.{pick, split}
use Rattle.limits.specs.Limits.{most_identifier, most_text, most_assertions}
use Rattle.record.specs.Query.{Query, Supplied}
use Rattle.record.specs.Read.{accepted}
use Rattle.record.specs.Record.{read_record}
use Rattle.record.specs.Valid.{Each, each∷, SuppliedOk}
use Rattle.record.specs.RoundTrip.{Bytes}
use Rattle.record.proofs.Laws.RoundTrip.{read_back}
use Rattle.lexical.specs.Kind
use Rattle.lexical.specs.Kind.{ending}
use Rattle.lexical.specs.declared.token.Token.{Token}
use Rattle.principal.specs.Principal.{Principal, same, policy}
use Rattle.syntax.specs.Parsed.{Parsed, refusal}
use Rattle.syntax.specs.Stood.{Stood, stood-at}
use Rattle.expression.specs.Names.{Environment, environment}
use Rattle.conditions.specs.Word.{next_at}
use Rattle.conditions.specs.Program.{read_program}
use Rattle.naming.specs.Source.{Source, Licensees, Author, sources}
use Rattle.naming.specs.Naming.{identified, author}
use Rattle.naming.specs.Fault.{Fault, clear, faulty, earlier, size_fault, source_fault, verified, policy_fault, author_fault, first_fault, licensees_fault}
use Rattle.assertion.specs.Assertion.{Assertion}
use Rattle.assertion.specs.Read.{Read, kept, dropped, first}
use Rattle.assertion.specs.Said.{Said}
use Rattle.assertion.specs.Sketch.{Sketch, labelled, with_constants, with_author, with_licensees, with_program}
use Rattle.assertion.specs.Form.{Form, formed, unformed, signed_by, finished, on_signature, field, State, on_field, turn, fields_from, read_assertion}
use Rattle.assertion.specs.Resolved.{fault_of, judged, resolved}
use Rattle.keynote.specs.Answer.{reading, readings}
use Rattle.text.specs.Counted.{pair_bytes}
use Rattle.keynote.specs.Report.{reason_of, place_of, entry_bytes, entries_bytes, report}
use Rattle.keynote.specs.Theorems.Keeping.{Keeps, k-next, k-done, keeps-pick, loop-keeps}
use Rattle.keynote.specs.Theorems.Places.{In, token-in, Placed, p-ok, p-aside, refusal-small, refusal-some, version-placed, signature-placed, constants-placed}
use Rattle.keynote.specs.Theorems.PlacesConditions.{program-placed, program-reasoned}
use Rattle.keynote.specs.Theorems.PlacesNaming.{Sound, s-ok, s-aside, sound-pick, sound-then, placed-sound, SourceIn, source_in, Strings, strings-placed, strings-reasoned, LicenseesIn, missing-in, empty-in, given-in, author-sound, licensees-sound}

-- ---- what a text says

pub data AuthorIn (s : List ℕ) : Option Author → Type 0 where
  nobody-in : AuthorIn s none
  by_in : (a : Author) → SourceIn s a.by → AuthorIn s (some a)

-- a reading of a text: whom it names stands there; or a reason from `low` to `high`, and a place
pub data FormIn (s : List ℕ) (low high : ℕ) : Form → Type 0 where
  formed-in : (a : Said) → SourceIn s a.author.by → LicenseesIn s a.licensees → FormIn s low high (formed a)
  unformed-in : (r p : ℕ) → low ≤ r → r ≤ high → p ≤ length s → FormIn s low high (unformed r p)

-- a reader of programs
abbrev Programs : List ℕ → ℕ → Type 0
Programs s low = (at : ℕ) → Placed s low (read_program s (next_at s at))

module _ (s : List ℕ) (low : ℕ) (least : low ≤ 1) (strings : Strings s low) (programs : Programs s low) where
  abbrev SketchIn : Sketch → Type 0
  SketchIn d = AuthorIn s d.author × LicenseesIn s d.licensees

  signed-in : (d : Sketch) (end : ℕ) → end ≤ length s → {o : Option Author} → AuthorIn s o → LicenseesIn s d.licensees → FormIn s low 8 (signed_by d end o)
  signed-in d end h nobody-in l = unformed-in 3 end (omega arith) (omega arith) h
  signed-in d end h (by_in a i) l = formed-in _ i l

  finished-in : (d : Sketch) (end : ℕ) → end ≤ length s → SketchIn d → FormIn s low 8 (finished d end)
  unfolding finished
  finished-in d end h k = signed-in d end h k.0 k.1

  signature-in : (d : Sketch) → SketchIn d → {r : Parsed (List ℕ)} → Placed s 1 r → FormIn s low 8 (on_signature d r)
  signature-in d k (p-ok b t i) = finished-in d t.end i.ends k
  signature-in d k (p-aside r p h g l) = unformed-in r p (omega arith) g l

  -- the first token of Conditions is one of the field
  opened_in_lem : (t : Token) → eqb t.kind Kind.CONDITIONS ≡ true → first s t ≡ next_at s t.end
  unfolding Kind.opened
  opened_in_lem t e = rw (eqb-true t.kind Kind.CONDITIONS e)

  program-in : {A : Type 0} {x : Parsed A} → Placed s low x → Sound s low (λ a. Unit {0}) x
  program-in (p-ok a t i) = s-ok a t i tt
  program-in (p-aside r p l g k) = s-aside r p l g k

  field_in_lem : (kind : ℕ) (d : Sketch) → SketchIn d → (t : Token) → Stood s t → In s t → (eqb kind Kind.CONDITIONS ≡ true → Placed s low (read_program s t))
      → Sound s low SketchIn (field s kind d t)
  unfolding field
  field_in_lem kind d k t st i program =
      sound-pick (eqb kind Kind.KEYNOTE_VERSION) (sound-then _ (placed-sound least (version-placed s t i)) (λ v n j u. s-ok d n j k))
      (sound-pick (eqb kind Kind.LOCAL_CONSTANTS) (sound-then _ (placed-sound least (constants-placed s [] t i)) (λ cs n j u. s-ok (with_constants d cs) n j k))
      (sound-pick (eqb kind Kind.AUTHORIZER)
      (sound-then _ (author-sound s low least strings d.constants t st) (λ a n j u. s-ok (with_author d a) n j (by_in a u, k.1)))
      (sound-pick (eqb kind Kind.LICENSEES)
      (sound-then _ (licensees-sound s low least strings d.constants t st) (λ l n j u. s-ok (with_licensees d l) n j (k.0, u)))
      (split (eqb kind Kind.CONDITIONS)
      (λ e. rw e (sound-then _ (program-in (program e)) (λ p n j u. s-ok (with_program d p) n j k)))
      (λ e. rw e (sound-pick (ending t.kind) (s-ok d t i k)
      (s-aside (refusal t.kind) t.start (omega (arith, refusal-some t.kind)) (refusal-small t.kind) i.starts)))))))

  abbrev StateIn : State → Type 0
  StateIn x = SketchIn x.0 × In s x.1

  on-field : {r : Parsed Sketch} → Sound s low SketchIn r → Keeps StateIn (FormIn s low 8) (on_field r)
  on-field (s-ok d n i k) = k-next (d, n) (k, i)
  on-field (s-aside r p h g l) = k-done (unformed r p) (unformed-in r p h g l)

  first-in : (t : Token) → In s (first s t)
  first-in t = token-in s (Kind.opened t.kind) t.end

  turn_in : (x : State) → StateIn x → Keeps StateIn (FormIn s low 8) (turn s x)
  turn_in (d, t) (k, i) =
      keeps-pick _ _ (eqb t.kind Kind.END) (k-done _ (finished-in d t.start i.starts k))
      (keeps-pick _ _ (ending t.kind)
      (keeps-pick _ _ (eqb (get_or d.free t.kind 0) 1)
      (keeps-pick _ _ (eqb t.kind Kind.SIGNATURE) (k-done _ (signature-in d k (signature-placed s (first s t) (first-in t))))
      (on-field (field_in_lem t.kind (labelled d t.kind) k (first s t) (stood-at s (Kind.opened t.kind) t.end) (first-in t)
      (λ e. subst (λ (u : Token). Placed s low (read_program s u)) (sym (opened_in_lem t e)) (programs t.end)))))
      (k-done _ (unformed-in 3 t.start (omega arith) (omega arith) i.starts)))
      (k-done _ (unformed-in (refusal t.kind) t.start (omega (arith, refusal-some t.kind)) (refusal-small t.kind) i.starts)))

  fields_in_lem : (d : Sketch) → SketchIn d → (t : Token) → In s t → FormIn s low 8 (fields_from s d t)
  unfolding fields_from
  fields_in_lem d k t i = loop-keeps StateIn (FormIn s low 8) _ _ (turn s) (λ x j. unformed-in 3 _ (omega arith) (omega arith) j.1.starts) turn_in (d, t) (k, i)

  -- a text that is read has a reason up to 8
  text_in : (standing : ℕ) → eqb standing 0 ≡ false → FormIn s low 8 (read_assertion standing s)
  unfolding read_assertion
  text_in standing e = rw e (fields_in_lem _ (nobody-in, missing-in) _ (token-in s Kind.BEFORE 0))

  form_in : (standing : ℕ) → FormIn s low 9 (read_assertion standing s)
  unfolding read_assertion
  form_in standing = split (eqb standing 0) (λ e. rw e (unformed-in 9 0 (omega arith) (omega arith) zero-le)) (λ e. higher (text_in standing e))
    where
      higher : {r : Form} → FormIn s low 8 r → FormIn s low 9 r
      higher (formed-in a i l) = formed-in a i l
      higher (unformed-in r p h k l) = unformed-in r p h (omega arith) l

-- of any text
pub assertion-in : (standing : ℕ) (s : List ℕ) → FormIn s 0 9 (read_assertion standing s)
assertion-in standing s = form_in s 0 (omega arith) (strings-placed s) (λ at. program-placed s (next_at s at) (token-in s Kind.IN_FIELD at)) standing

-- and the reasons are document 01's
pub assertion-reasoned : (standing : ℕ) (s : List ℕ) → length s < 65536 → FormIn s 1 9 (read_assertion standing s)
assertion-reasoned standing s short = form_in s 1 (omega arith) (strings-reasoned s short) (program-reasoned s short) standing

-- "otherwise well formed": a text of another standing than 0 that isn't has a reason from 1 to 8
pub text-reasoned : (standing : ℕ) (s : List ℕ) → length s < 65536 → (standing ≡ 0 → ⊥) → FormIn s 1 8 (read_assertion standing s)
text-reasoned standing s short n = text_in s 1 (omega arith) (strings-reasoned s short) (program-reasoned s short) standing (ne_eqb standing 0 n)

-- ---- what it asserts in a query

pub data FaultIn (s : List ℕ) : Fault → Type 0 where
  clear_in : FaultIn s clear
  faulty-in : (r p : ℕ) → 9 ≤ r → r ≤ 10 → p ≤ length s → FaultIn s (faulty r p)

module _ (s : List ℕ) where
  fault-pick : (b : Bool) {f g : Fault} → FaultIn s f → FaultIn s g → FaultIn s (pick b f g)
  fault-pick true i j = i
  fault-pick false i j = j

  earlier-in : {f g : Fault} → FaultIn s f → FaultIn s g → FaultIn s (earlier f g)
  earlier-in clear_in j = j
  earlier-in (faulty-in r p h k l) clear_in = faulty-in r p h k l
  earlier-in (faulty-in r p h k l) (faulty-in r' p' h' k' l') = fault-pick (leb p p') (faulty-in r p h k l) (faulty-in r' p' h' k' l')

  size_in : (at : ℕ) (p : Principal) → at ≤ length s → FaultIn s (size_fault at p)
  unfolding size_fault
  size_in at p h =
      fault-pick (eqb (length p) 0) (faulty-in 10 at (omega arith) (omega arith) h)
      (fault-pick (ltb most_identifier (length p)) (faulty-in 10 at (omega arith) (omega arith) h) clear_in)

  identified-in : (env : Environment) (x : Source) → SourceIn s x → FaultIn s (source_fault env x)
  unfolding source_fault
  identified-in env x h = size_in x.place (identified env x) (source_in s x h)

  policy-in : (standing at : ℕ) (p : Principal) → at ≤ length s → FaultIn s (policy_fault standing at p)
  unfolding policy_fault
  policy-in standing at p h = fault-pick (eqb standing verified) (fault-pick (same p policy) (faulty-in 9 at (omega arith) (omega arith) h) clear_in) clear_in

  author-in : (standing : ℕ) (q : Query) (a : Author) → SourceIn s a.by → FaultIn s (author_fault standing q a)
  unfolding author_fault
  author-in standing q a h =
      earlier-in (identified-in (environment q a.constants) a.by h) (policy-in standing a.by.place (author q a) (source_in s a.by h))

  first-fault-in : (env : Environment) (l : List Source) → ((x : Source) → Mem x l → SourceIn s x) → FaultIn s (first_fault (map (source_fault env) l))
  unfolding first_fault
  first-fault-in env [] h = clear_in
  first-fault-in env (x ∷ l) h = earlier-in (identified-in env x (h x (here refl))) (first-fault-in env l (λ y m. h y (there m)))

  licensees-in : (q : Query) {l : Licensees} → LicenseesIn s l → FaultIn s (licensees_fault q l)
  unfolding licensees_fault
  licensees-in q missing-in = clear_in
  licensees-in q empty-in = clear_in
  licensees-in q (given-in cs e h) = first-fault-in (environment q cs) (sources e) h.inside

  fault-in : (q : Query) (standing : ℕ) (a : Said) → SourceIn s a.author.by → LicenseesIn s a.licensees → FaultIn s (fault_of q standing a)
  unfolding fault_of
  fault-in q standing a i l = earlier-in (author-in standing q a.author i) (licensees-in q l)

-- an assertion kept, or set aside with a reason from 1 to 10 and a place
pub data PlacedRead (s : List ℕ) : Read → Type 0 where
  is-kept : (a : Assertion) → PlacedRead s (kept a)
  is-dropped : (r p : ℕ) → 1 ≤ r → r ≤ 10 → p ≤ length s → PlacedRead s (dropped r p)

module _ (q : Query) (standing : ℕ) (s : List ℕ) where
  judged-placed : (a : Said) {f : Fault} → FaultIn s f → PlacedRead s (judged q a f)
  judged-placed a clear_in = is-kept _
  judged-placed a (faulty-in r p h k l) = is-dropped r p (omega arith) (omega arith) l

  resolved-placed : {r : Form} → FormIn s 1 9 r → PlacedRead s (resolved q standing r)
  resolved-placed (formed-in a i l) = judged-placed a (fault-in s q standing a i l)
  resolved-placed (unformed-in r p h k l) = is-dropped r p h (omega arith) l

  pub assertion-placed : length s < 65536 → PlacedRead s (resolved q standing (read_assertion standing s))
  assertion-placed short = resolved-placed (assertion-reasoned standing s short)

-- ---- the report is bytes

pub record Small (r : Read) : Type 0 where
  pub reason : reason_of r ≤ 10
  pub place : place_of r < 65536

small-read : {s : List ℕ} {r : Read} → PlacedRead s r → length s ≤ most_text → Small r
unfolding reason_of place_of
small-read (is-kept a) h = record { reason = zero-le; place = omega arith }
small-read (is-dropped r p g k l) h = record { reason = k; place = omega arith }

pub data AllSmall : List Read → Type 0 where
  small[] : AllSmall []
  small∷ : {r : Read} {l : List Read} → Small r → AllSmall l → AllSmall (r ∷ l)

small-each : (q : Query) (seen l : List Supplied) → Each SuppliedOk seen l → AllSmall (map (reading q) l)
unfolding reading
small-each q seen [] e = small[]
small-each q seen (a ∷ l) (each∷ k t) = small∷ (small-read (assertion-placed q a.standing a.text (omega (arith, k.1.1))) k.1.1) (small-each q _ l t)

-- every reason is at most 10, every place below 65536
pub readings-small : (s : List ℕ) → Bytes s → (q : Query) → read_record s ≡ accepted q → AllSmall (readings q)
unfolding readings
readings-small s b q e = small-each q [] q.assertions (read_back s b q e).0.assertions.1

bytes-nil : Bytes []
bytes-nil i = omega arith

bytes-cons : (x : ℕ) (l : List ℕ) → x < 256 → Bytes l → Bytes (x ∷ l)
bytes-cons x l h b zero = h
bytes-cons x l h b (suc i) = b i

pair-bytes : (x n : ℕ) (l : List ℕ) → x < 256 → n < 65536 → Bytes l → Bytes (x ∷ pair_bytes n ++ l)
unfolding pair_bytes
pair-bytes x n l h k b = bytes-cons x (n / 256 ∷ n % 256 ∷ l) h (bytes-cons (n / 256) (n % 256 ∷ l) (omega arith) (bytes-cons (n % 256) l (omega arith) b))

entries-bytes : {l : List Read} → AllSmall l → Bytes (entries_bytes l)
unfolding entries_bytes entry_bytes
entries-bytes small[] = bytes-nil
entries-bytes (small∷ {r = r} {l = l} h t) = pair-bytes (reason_of r) (place_of r) (entries_bytes l) (omega (arith, h.reason)) h.place (entries-bytes t)

report-small : {l : List Read} → AllSmall l → length l ≤ most_assertions → Bytes (report l)
unfolding report
report-small {l} a h = pair-bytes 1 (3 * length l) (entries_bytes l) (omega arith) (omega arith) (entries-bytes a)

-- the report of an accepted record is bytes
pub report-bytes : (s : List ℕ) → Bytes s → (q : Query) → read_record s ≡ accepted q → Bytes (report (readings q))
unfolding readings
report-bytes s b q e = report-small (readings-small s b q e) (omega (arith, length-map q.assertions (reading q), (read_back s b q e).0.assertions.0.1))

-- ---- "0 is kept"

kept_from : {s : List ℕ} {r : Read} → PlacedRead s r → reason_of r ≡ 0 → (a : Assertion) × (r ≡ kept a)
unfolding reason_of
kept_from (is-kept a) e = (a, refl)
kept_from (is-dropped r p h k l) e = absurd (omega arith)

-- reason 0 is given of kept assertions only
pub zero-kept : (q : Query) (a : Supplied) → length a.text < 65536 → reason_of (reading q a) ≡ 0 → (b : Assertion) × (reading q a ≡ kept b)
unfolding reading
zero-kept q a short e = kept_from (assertion-placed q a.standing a.text short) e
