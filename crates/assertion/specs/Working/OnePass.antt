-- Working definitions: an assertion read and resolved in one pass, its principals as soon as their field is read, the faults of both fields carried to
-- the end. Assumes nothing.
use Rattle.std.specs.Prelude.{List, [], ℕ, eqb, get_or}
use Rattle.std.proofs.Math.Option.{Option, none, some}
use Rattle.text.specs.Choice.{pick}
use Rattle.text.specs.Loop.{Step, next, done, loop}
use Rattle.record.specs.Query.{Query, Attribute}
use Rattle.lexical.specs.Kind
use Rattle.lexical.specs.Kind.{ending}
use Rattle.lexical.specs.Line.{token_at}
use Rattle.lexical.specs.declared.token.Token.{Token}
use Rattle.principal.specs.Principal.{Principal}
use Rattle.compliance.specs.Licensees as Compliance
use Rattle.syntax.specs.Expr.{Program}
use Rattle.syntax.specs.Parsed.{Parsed, ok, aside, and_then, refusal}
use Rattle.conditions.specs.Program.{read_program}
use Rattle.fields.specs.Parsed.{ended}
use Rattle.fields.specs.Version.{version}
use Rattle.fields.specs.Constants.{constants_from}
use Rattle.fields.specs.Signature.{signature}
use Rattle.naming.specs.Source.{Licensees, Author}
use Rattle.naming.specs.Authorizer.{authorizer}
use Rattle.naming.specs.Licensees.{licensees}
use Rattle.naming.specs.Naming.{author, licensed}
use Rattle.naming.specs.Fault.{Fault, clear, faulty, earlier, author_fault, licensees_fault}
use Rattle.assertion.specs.Assertion.{Conditions, stated}
use Rattle.assertion.specs.Labels.{without, total}
use Rattle.assertion.specs.Read.{Read, kept, dropped, first}
use Rattle.assertion.specs.Sketch.{Sketch, blank}

-- what is read so far, over principals, and what is to be said against each of the two fields at the end
pub record Pass : Type 0 where
  pub free : List ℕ
  pub constants : List Attribute
  pub authorizer : Option Principal
  pub against : Fault
  pub field : Compliance.Licensees
  pub besides : Fault
  pub conditions : Conditions

module _ (q : Query) (standing : ℕ) where
  abbrev pub author_of : Option Author → Option Principal
  author_of none = none
  author_of (some a) = some (author q a)

  abbrev pub against_of : Option Author → Fault
  against_of none = clear
  against_of (some a) = author_fault standing q a

  -- what a sketch becomes
  abbrev pub passed : Sketch → Pass
  passed d = record {
    free = d.free;
    constants = d.constants;
    authorizer = author_of d.author;
    against = against_of d.author;
    field = licensed q d.licensees;
    besides = licensees_fault q d.licensees;
    conditions = d.conditions;
  }

  abbrev pub labelled_now : Pass → ℕ → Pass
  labelled_now u kind = record {
    free = without u.free kind;
    constants = u.constants;
    authorizer = u.authorizer;
    against = u.against;
    field = u.field;
    besides = u.besides;
    conditions = u.conditions;
  }

  abbrev pub with_constants_now : Pass → List Attribute → Pass
  with_constants_now u cs = record {
    free = u.free;
    constants = cs;
    authorizer = u.authorizer;
    against = u.against;
    field = u.field;
    besides = u.besides;
    conditions = u.conditions;
  }

  abbrev pub with_author_now : Pass → Author → Pass
  with_author_now u a = record {
    free = u.free;
    constants = u.constants;
    authorizer = some (author q a);
    against = author_fault standing q a;
    field = u.field;
    besides = u.besides;
    conditions = u.conditions;
  }

  abbrev pub with_licensees_now : Pass → Licensees → Pass
  with_licensees_now u l = record {
    free = u.free;
    constants = u.constants;
    authorizer = u.authorizer;
    against = u.against;
    field = licensed q l;
    besides = licensees_fault q l;
    conditions = u.conditions;
  }

  abbrev pub with_program_now : Pass → Program → Pass
  with_program_now u p = record {
    free = u.free;
    constants = u.constants;
    authorizer = u.authorizer;
    against = u.against;
    field = u.field;
    besides = u.besides;
    conditions = stated u.constants p;
  }

  abbrev pub kept_now : Pass → Principal → Fault → Read
  kept_now u p clear = kept (record { authorizer = p; licensees = u.field; conditions = u.conditions })
  kept_now u p (faulty r at) = dropped r at

  abbrev pub signed_now : Pass → ℕ → Option Principal → Read
  signed_now u end none = dropped 3 end
  signed_now u end (some p) = kept_now u p (earlier u.against u.besides)

  unfoldable pub finished_now : Pass → ℕ → Read
  finished_now u end = signed_now u end u.authorizer

  abbrev pub on_signature_now : Pass → Parsed (List ℕ) → Read
  on_signature_now u (ok b t) = finished_now u t.end
  on_signature_now u (aside r p) = dropped r p

  unfoldable pub field_now : List ℕ → ℕ → Pass → Token → Parsed Pass
  field_now s kind u t =
      pick (eqb kind Kind.KEYNOTE_VERSION) (and_then (version s t) (λ v n. ok u n))
      (pick (eqb kind Kind.LOCAL_CONSTANTS) (and_then (constants_from s [] t) (λ cs n. ok (with_constants_now u cs) n))
      (pick (eqb kind Kind.AUTHORIZER) (and_then (authorizer s u.constants t) (λ a n. ok (with_author_now u a) n))
      (pick (eqb kind Kind.LICENSEES) (and_then (licensees s u.constants t) (λ l n. ok (with_licensees_now u l) n))
      (pick (eqb kind Kind.CONDITIONS) (and_then (read_program s t) (λ p n. ok (with_program_now u p) n)) (ended u t)))))

  abbrev pub StateNow : Type 0
  StateNow = Pass × Token

  abbrev pub on_field_now : Parsed Pass → Step StateNow Read
  on_field_now (ok u n) = next (u, n)
  on_field_now (aside r p) = done (dropped r p)

  abbrev pub on_label_now : List ℕ → Pass → Token → Step StateNow Read
  on_label_now s u t =
      pick (eqb t.kind Kind.SIGNATURE) (done (on_signature_now u (signature s (first s t))))
      (on_field_now (field_now s t.kind (labelled_now u t.kind) (first s t)))

  abbrev pub turn_now : List ℕ → StateNow → Step StateNow Read
  turn_now s (u, t) =
      pick (eqb t.kind Kind.END) (done (finished_now u t.start))
      (pick (ending t.kind) (pick (eqb (get_or u.free t.kind 0) 1) (on_label_now s u t) (done (dropped 3 t.start)))
      (done (dropped (refusal t.kind) t.start)))

  unfoldable pub fields_now : List ℕ → Pass → Token → Read
  fields_now s u t = loop (λ x. total x.0.free) (λ x. dropped 3 x.1.start) (turn_now s) (u, t)

  unfoldable pub read_now : List ℕ → Read
  read_now s = pick (eqb standing 0) (dropped 9 0) (fields_now s (passed blank) (token_at s Kind.BEFORE 0))
