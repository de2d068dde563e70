-- The reading of an assertion, which asks no query: its fields from left to right, up to the first fault. Assumes nothing.
use Rattle.std.specs.Prelude.{List, [], ℕ, eqb, get_or}
use Rattle.std.proofs.Math.Option.{Option, none, some}
use Rattle.text.specs.Choice.{pick}
use Rattle.text.specs.Loop.{Step, next, done, loop}
use Rattle.lexical.specs.Kind
use Rattle.lexical.specs.Kind.{ending}
use Rattle.lexical.specs.Line.{token_at}
use Rattle.lexical.specs.declared.token.Token.{Token}
use Rattle.syntax.specs.Parsed.{Parsed, ok, aside, and_then, refusal}
use Rattle.conditions.specs.Program.{read_program}
use Rattle.fields.specs.Parsed.{ended}
use Rattle.fields.specs.Version.{version}
use Rattle.fields.specs.Constants.{constants_from}
use Rattle.fields.specs.Signature.{signature}
use Rattle.naming.specs.Source.{Author}
use Rattle.naming.specs.Authorizer.{authorizer}
use Rattle.naming.specs.Licensees.{licensees}
use Rattle.assertion.specs.Labels.{total}
use Rattle.assertion.specs.Read.{first}
use Rattle.assertion.specs.Said.{Said}
use Rattle.assertion.specs.Sketch.{Sketch, blank, labelled, with_constants, with_author, with_licensees, with_program}

-- "a text otherwise well formed", and what it says; or the reason 1 to 8, or 9 for its standing, and the place
pub data Form : Type 0 where
  formed : Said → Form
  unformed : ℕ → ℕ → Form

-- 3 "no Authorizer: the end of what is read"
abbrev pub signed_by : Sketch → ℕ → Option Author → Form
signed_by d end none = unformed 3 end
signed_by d end (some a) = formed (record { author = a; licensees = d.licensees; conditions = d.conditions })

unfoldable pub finished : Sketch → ℕ → Form
finished d end = signed_by d end d.author

-- Signature "(last: one string literal; nothing after it is read)"
abbrev pub on_signature : Sketch → Parsed (List ℕ) → Form
on_signature d (ok b t) = finished d t.end
on_signature d (aside r p) = unformed r p

-- the other fields, from the first token on; what Comment holds has no tokens
unfoldable pub field : List ℕ → ℕ → Sketch → Token → Parsed Sketch
field s kind d t =
    pick (eqb kind Kind.KEYNOTE_VERSION) (and_then (version s t) (λ v n. ok d n))
    (pick (eqb kind Kind.LOCAL_CONSTANTS) (and_then (constants_from s [] t) (λ cs n. ok (with_constants d cs) n))
    (pick (eqb kind Kind.AUTHORIZER) (and_then (authorizer s d.constants t) (λ a n. ok (with_author d a) n))
    (pick (eqb kind Kind.LICENSEES) (and_then (licensees s d.constants t) (λ l n. ok (with_licensees d l) n))
    (pick (eqb kind Kind.CONDITIONS) (and_then (read_program s t) (λ p n. ok (with_program d p) n)) (ended d t)))))

-- what is read so far, and the token behind it
abbrev pub State : Type 0
State = Sketch × Token

abbrev pub on_field : Parsed Sketch → Step State Form
on_field (ok d n) = next (d, n)
on_field (aside r p) = done (unformed r p)

abbrev pub on_label : List ℕ → Sketch → Token → Step State Form
on_label s d t =
    pick (eqb t.kind Kind.SIGNATURE) (done (on_signature d (signature s (first s t)))) (on_field (field s t.kind (labelled d t.kind) (first s t)))

-- 3 "label, repetition or order wrong"
abbrev pub turn : List ℕ → State → Step State Form
turn s (d, t) =
    pick (eqb t.kind Kind.END) (done (finished d t.start))
    (pick (ending t.kind) (pick (eqb (get_or d.free t.kind 0) 1) (on_label s d t) (done (unformed 3 t.start)))
    (done (unformed (refusal t.kind) t.start)))

unfoldable pub fields_from : List ℕ → Sketch → Token → Form
fields_from s d t = loop (λ x. total x.0.free) (λ x. unformed 3 x.1.start) (turn s) (d, t)

-- 9 "standing 0 (place 0, text not read)"
unfoldable pub read_assertion : ℕ → List ℕ → Form
read_assertion standing s = pick (eqb standing 0) (unformed 9 0) (fields_from s blank (token_at s Kind.BEFORE 0))
