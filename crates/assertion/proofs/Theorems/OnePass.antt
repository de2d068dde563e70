-- An assertion read, then resolved, is what one pass gives. Assumes nothing.
use Rattle.std.specs.Prelude.{◌≡◌, ℕ, eqb, get_or}
use Rattle.std.proofs.Math.Path.{refl, ap}
use Rattle.std.proofs.Common.{sym, ◌∙◌}
use mathlib.Core.List.{List, []}
use Rattle.std.proofs.Math.Option.{Option, none, some}
use Rattle.text.specs.Choice.{split}
use Rattle.text.specs.Loop.{Step}
use Rattle.record.specs.Query.{Query}
use Rattle.lexical.specs.Kind
use Rattle.lexical.specs.Kind.{ending}
use Rattle.lexical.specs.Line.{token_at}
use Rattle.lexical.specs.declared.token.Token.{Token}
use Rattle.syntax.specs.Parsed.{Parsed, ok, aside, and_then}
use Rattle.conditions.specs.Program.{read_program}
use Rattle.conditions.specs.Working.Same.{both, Steps, both-next, both-done, loop-same}
use Rattle.fields.specs.Parsed.{ended}
use Rattle.fields.specs.Version.{version}
use Rattle.fields.specs.Constants.{constants_from}
use Rattle.fields.specs.Signature.{signature}
use Rattle.naming.specs.Source.{Author}
use Rattle.naming.specs.Authorizer.{authorizer}
use Rattle.naming.specs.Licensees.{licensees}
use Rattle.naming.specs.Naming.{author}
use Rattle.naming.specs.Fault.{Fault, clear, faulty, earlier, author_fault, licensees_fault}
use Rattle.assertion.specs.Labels.{total}
use Rattle.assertion.specs.Read.{Read, dropped, first}
use Rattle.assertion.specs.Sketch.{Sketch, blank, labelled, with_constants, with_author, with_licensees, with_program}
use Rattle.assertion.specs.Form.{Form, unformed, signed_by, finished, on_signature, field, State, on_field, turn, fields_from, read_assertion}
use Rattle.assertion.specs.Resolved.{meant, fault_of, judged, resolved}
use Rattle.assertion.specs.Working.OnePass.{Pass, author_of, against_of, passed, with_constants_now, with_author_now, with_licensees_now, with_program_now, kept_now, signed_now, finished_now, on_signature_now, field_now, StateNow, on_field_now, turn_now, fields_now, read_now}

module _ (q : Query) (standing : ℕ) where
  -- the two readings, side by side
  data Told : Form → Read → Type 0 where
    told : (r : Form) (z : Read) → resolved q standing r ≡ z → Told r z

  data Belong : State → StateNow q standing → Type 0 where
    belong : (d : Sketch) (t : Token) → Belong (d, t) (passed q standing d, t)

  data Fielded : Parsed Sketch → Parsed Pass → Type 0 where
    fielded-aside : (r p : ℕ) → Fielded (aside r p) (aside r p)
    fielded-ok : (d : Sketch) (n : Token) → Fielded (ok d n) (ok (passed q standing d) n)

  then-fielded : {A : Type 0} (p : Parsed A) (f : A → Sketch) (g : A → Pass) → ((a : A) → g a ≡ passed q standing (f a))
      → Fielded (and_then p (λ a n. ok (f a) n)) (and_then p (λ a n. ok (g a) n))
  then-fielded (aside r p) f g h = fielded-aside r p
  then-fielded (ok a n) f g h = rw (h a) (fielded-ok (f a) n)

  ended-fielded : (d : Sketch) (t : Token) → Fielded (ended d t) (ended (passed q standing d) t)
  ended-fielded d t = both Fielded (ending t.kind) _ _ _ _ (λ e. fielded-ok d t) (λ e. fielded-aside _ _)

  field-now : (s : List ℕ) (kind : ℕ) (d : Sketch) (t : Token) → Fielded (field s kind d t) (field_now q standing s kind (passed q standing d) t)
  unfolding field field_now
  field-now s kind d t =
      both Fielded (eqb kind Kind.KEYNOTE_VERSION) _ _ _ _ (λ e. then-fielded (version s t) (λ v. d) (λ v. passed q standing d) (λ v. refl))
      (λ e. both Fielded (eqb kind Kind.LOCAL_CONSTANTS) _ _ _ _
      (λ f. then-fielded (constants_from s [] t) (with_constants d) (with_constants_now q standing (passed q standing d)) (λ cs. refl))
      (λ f. both Fielded (eqb kind Kind.AUTHORIZER) _ _ _ _
      (λ g. then-fielded (authorizer s d.constants t) (with_author d) (with_author_now q standing (passed q standing d)) (λ a. refl))
      (λ g. both Fielded (eqb kind Kind.LICENSEES) _ _ _ _
      (λ h. then-fielded (licensees s d.constants t) (with_licensees d) (with_licensees_now q standing (passed q standing d)) (λ l. refl))
      (λ h. both Fielded (eqb kind Kind.CONDITIONS) _ _ _ _
      (λ i. then-fielded (read_program s t) (with_program d) (with_program_now q standing (passed q standing d)) (λ p. refl))
      (λ i. ended-fielded d t)))))

  judged-now : (d : Sketch) (a : Author) (f : Fault)
      → judged q (record { author = a; licensees = d.licensees; conditions = d.conditions }) f ≡ kept_now q standing (passed q standing d) (author q a) f
  unfolding meant
  judged-now d a clear = refl
  judged-now d a (faulty r p) = refl

  finished_from : (d : Sketch) (end : ℕ) (a : Option Author) → d.author ≡ a
      → resolved q standing (signed_by d end a) ≡ signed_now q standing (passed q standing d) end (author_of q standing a)
  unfolding fault_of
  finished_from d end none e = refl
  finished_from d end (some a) e =
      judged-now d a (earlier (author_fault standing q a) (licensees_fault q d.licensees))
      ∙ ap (λ (x : Option Author). kept_now q standing (passed q standing d) (author q a) (earlier (against_of q standing x) (licensees_fault q d.licensees)))
      (sym e)

  -- the end of the text
  pub finished-now : (d : Sketch) (end : ℕ) → resolved q standing (finished d end) ≡ finished_now q standing (passed q standing d) end
  unfolding finished finished_now
  finished-now d end = finished_from d end d.author refl

  signed-now : (d : Sketch) (p : Parsed (List ℕ)) → Told (on_signature d p) (on_signature_now q standing (passed q standing d) p)
  signed-now d (ok b t) = told _ _ (finished-now d t.end)
  signed-now d (aside r p) = told _ _ refl

  abbrev Turns : Step State Form → Step (StateNow q standing) Read → Type 0
  Turns = Steps Belong Told

  field-turn : (p : Parsed Sketch) (r : Parsed Pass) → Fielded p r → Turns (on_field p) (on_field_now q standing r)
  field-turn _ _ (fielded-aside r p) = both-done _ _ (told _ _ refl)
  field-turn _ _ (fielded-ok d n) = both-next _ _ (belong d n)

  turn-now : (s : List ℕ) (x : State) (y : StateNow q standing) → Belong x y → Turns (turn s x) (turn_now q standing s y)
  turn-now s _ _ (belong d t) =
      both Turns (eqb t.kind Kind.END) _ _ _ _ (λ e. both-done _ _ (told _ _ (finished-now d t.start)))
      (λ e. both Turns (ending t.kind) _ _ _ _
      (λ f. both Turns (eqb (get_or d.free t.kind 0) 1) _ _ _ _
      (λ g. both Turns (eqb t.kind Kind.SIGNATURE) _ _ _ _ (λ h. both-done _ _ (signed-now d (signature s (first s t))))
      (λ h. field-turn _ _ (field-now s t.kind (labelled d t.kind) (first s t))))
      (λ g. both-done _ _ (told _ _ refl)))
      (λ f. both-done _ _ (told _ _ refl)))

  measures : (x : State) (y : StateNow q standing) → Belong x y → total x.0.free ≡ total y.0.free
  measures _ _ (belong d t) = refl

  outs : (x : State) (y : StateNow q standing) → Belong x y → Told (unformed 3 x.1.start) (dropped 3 y.1.start)
  outs _ _ (belong d t) = told _ _ refl

  told_is : (r : Form) (z : Read) → Told r z → resolved q standing r ≡ z
  told_is _ _ (told _ _ e) = e

  -- the fields from a token on
  pub fields-now : (s : List ℕ) (d : Sketch) (t : Token) → resolved q standing (fields_from s d t) ≡ fields_now q standing s (passed q standing d) t
  unfolding fields_from fields_now
  fields-now s d t = told_is _ _
      (loop-same (λ x. total x.0.free) (λ x. unformed 3 x.1.start) (turn s)
      (λ x. total x.0.free) (λ x. dropped 3 x.1.start) (turn_now q standing s)
      Belong Told measures outs (turn-now s) (d, t) (passed q standing d, t) (belong d t))

  -- one pass, or read and then resolved
  pub one-pass : (s : List ℕ) → resolved q standing (read_assertion standing s) ≡ read_now q standing s
  unfolding read_assertion read_now
  one-pass s = split (eqb standing 0) (λ e. rw e) (λ e. rw e (fields-now s blank (token_at s Kind.BEFORE 0)))
