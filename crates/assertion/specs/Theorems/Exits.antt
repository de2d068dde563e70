-- The loop over labels never ends because its measure fails to fall: each label that is read is one less that may stand. Assumes nothing.
use Rattle.std.specs.Prelude.{◌≡◌, refl, Bool, true, false, List, [], ◌∷◌, eqb, get_or, set}
use Rattle.std.proofs.Common.{ap, ◌∙◌, arith, eqb-true, lt-ltb}
use Prim.Native.Nat.{ℕ, zero, suc, ◌+◌, ◌<◌}
use Rattle.std.proofs.lemmas.Bool.{eqb-false}
use Rattle.text.specs.Choice.{pick, split}
use Rattle.text.specs.Loop.{Step, next, done, after, turns, loop}
use Rattle.lexical.specs.Kind
use Rattle.lexical.specs.Kind.{ending}
use Rattle.lexical.specs.declared.token.Token.{Token}
use Rattle.syntax.specs.Parsed.{Parsed, ok, aside, and_then, refusal}
use Rattle.conditions.specs.Program.{read_program}
use Rattle.fields.specs.Version.{version}
use Rattle.fields.specs.Constants.{constants_from}
use Rattle.naming.specs.Authorizer.{authorizer}
use Rattle.naming.specs.Licensees.{licensees}
use Rattle.assertion.specs.Labels.{total, without}
use Rattle.assertion.specs.Sketch.{Sketch, labelled, with_constants, with_author, with_licensees, with_program}
use Rattle.assertion.specs.Form.{Form, field, State, on_field, turn, fields_from}

-- ---- a label that is used up is one less

total-set : (l : List ℕ) (i : ℕ) → total (set l i 0) + get_or l i 0 ≡ total l
unfolding total
total-set [] i = refl
total-set (x ∷ l) zero = omega arith
total-set (x ∷ l) (suc i) = omega (arith, total-set l i)

set_other : (l : List ℕ) (i j : ℕ) → (i ≡ j → ⊥) → get_or (set l i 0) j 0 ≡ get_or l j 0
set_other [] i j h = refl
set_other (x ∷ l) zero zero h = absurd (h refl)
set_other (x ∷ l) zero (suc j) h = refl
set_other (x ∷ l) (suc i) zero h = refl
set_other (x ∷ l) (suc i) (suc j) h = set_other l i j (λ e. h (ap suc e))

pub without-less : (free : List ℕ) (k : ℕ) → get_or free k 0 ≡ 1 → total (without free k) < total free
unfolding without
without-less free k h =
    let a : total (set free Kind.KEYNOTE_VERSION 0) + get_or free Kind.KEYNOTE_VERSION 0 ≡ total free = total-set free Kind.KEYNOTE_VERSION in
    let b : total (set (set free Kind.KEYNOTE_VERSION 0) k 0) + get_or (set free Kind.KEYNOTE_VERSION 0) k 0 ≡ total (set free Kind.KEYNOTE_VERSION 0) = total-set (set free Kind.KEYNOTE_VERSION 0) k in
    split (eqb Kind.KEYNOTE_VERSION k)
    (λ e. let f : get_or free Kind.KEYNOTE_VERSION 0 ≡ 1 = ap (λ (j : ℕ). get_or free j 0) (eqb-true Kind.KEYNOTE_VERSION k e) ∙ h in omega (arith, a, b, f))
    (λ e. let f : get_or (set free Kind.KEYNOTE_VERSION 0) k 0 ≡ 1 = set_other free Kind.KEYNOTE_VERSION k (eqb-false Kind.KEYNOTE_VERSION k e) ∙ h in omega (arith, a, b, f))

-- ---- a field leaves the labels that may stand as they are

data Keeps (free : List ℕ) : Parsed Sketch → Type 0 where
  k-ok : (d : Sketch) (n : Token) → d.free ≡ free → Keeps free (ok d n)
  k-aside : (r p : ℕ) → Keeps free (aside r p)

module _ {free : List ℕ} where
  keeps-pick : (b : Bool) {x y : Parsed Sketch} → Keeps free x → Keeps free y → Keeps free (pick b x y)
  keeps-pick true h k = h
  keeps-pick false h k = k

  keeps_then : {A : Type 0} (p : Parsed A) {f : A → Token → Parsed Sketch} → ((a : A) (n : Token) → Keeps free (f a n)) → Keeps free (and_then p f)
  keeps_then (ok a n) h = h a n
  keeps_then (aside r p) h = k-aside r p

field-keeps : (s : List ℕ) (kind : ℕ) (d : Sketch) (t : Token) → Keeps d.free (field s kind d t)
unfolding field
field-keeps s kind d t =
    keeps-pick (eqb kind Kind.KEYNOTE_VERSION) (keeps_then (version s t) (λ v n. k-ok d n refl))
    (keeps-pick (eqb kind Kind.LOCAL_CONSTANTS) (keeps_then (constants_from s [] t) (λ cs n. k-ok (with_constants d cs) n refl))
    (keeps-pick (eqb kind Kind.AUTHORIZER) (keeps_then (authorizer s d.constants t) (λ p n. k-ok (with_author d p) n refl))
    (keeps-pick (eqb kind Kind.LICENSEES) (keeps_then (licensees s d.constants t) (λ l n. k-ok (with_licensees d l) n refl))
    (keeps-pick (eqb kind Kind.CONDITIONS) (keeps_then (read_program s t) (λ p n. k-ok (with_program d p) n refl))
    (keeps-pick (ending t.kind) (k-ok d t refl) (k-aside (refusal t.kind) t.start))))))

-- ---- each turn falls, so the exit of a loop whose turn doesn't is never taken

data Falls {X R : Type 0} (μ : X → ℕ) (x : X) : Step X R → Type 0 where
  f-next : (y : X) → μ y < μ x → Falls μ x (next y)
  f-done : (r : R) → Falls μ x (done r)

falls-pick : {X R : Type 0} {μ : X → ℕ} {x : X} (b : Bool) {u v : Step X R} → (b ≡ true → Falls μ x u) → Falls μ x v → Falls μ x (pick b u v)
falls-pick true h k = h refl
falls-pick false h k = k

module _ {X R : Type 0} (μ : X → ℕ) (o o' : X → R) (f : X → Step X R) (falls : (x : X) → Falls μ x (f x)) where
  after-exit : (n : ℕ) (x : X) {st : Step X R} → Falls μ x st → ((y : X) → μ y < μ x → turns μ o f n y ≡ turns μ o' f n y)
      → after μ o f (turns μ o f n) x st ≡ after μ o' f (turns μ o' f n) x st
  after-exit n x (f-next y l) h = rw (lt-ltb _ _ l) (h y l)
  after-exit n x (f-done r) h = refl

  turns-exit : (n : ℕ) (x : X) → μ x < n → turns μ o f n x ≡ turns μ o' f n x
  unfolding turns
  turns-exit zero x h = absurd (omega arith)
  turns-exit (suc n) x h = after-exit n x (falls x) (λ y l. turns-exit n y (omega arith))

  loop-exit : (x : X) → loop μ o f x ≡ loop μ o' f x
  unfolding loop
  loop-exit x = turns-exit (suc (μ x)) x (omega arith)

abbrev left : State → ℕ
left x = total x.0.free

on-field-falls : (d : Sketch) (t : Token) (k : ℕ) → get_or d.free k 0 ≡ 1 → {r : Parsed Sketch} → Keeps (without d.free k) r → Falls left (d, t) (on_field r)
on-field-falls d t k h (k-ok e n z) = f-next (e, n) (omega (arith, ap total z, without-less d.free k h))
on-field-falls d t k h (k-aside r p) = f-done _

turn-falls : (s : List ℕ) (x : State) → Falls left x (turn s x)
turn-falls s (d, t) =
    falls-pick (eqb t.kind Kind.END) (λ _. f-done _)
    (falls-pick (ending t.kind)
    (λ _. falls-pick (eqb (get_or d.free t.kind 0) 1)
    (λ e. falls-pick (eqb t.kind Kind.SIGNATURE) (λ _. f-done _)
    (on-field-falls d t t.kind (eqb-true _ _ e) (field-keeps s t.kind (labelled d t.kind) _)))
    (f-done _))
    (f-done _))

-- whatever the loop over labels would give on that exit, `fields_from` is the same: its "unformed 3" there stands for nothing
pub fields-exit : (o : State → Form) (s : List ℕ) (d : Sketch) (t : Token) → fields_from s d t ≡ loop left o (turn s) (d, t)
unfolding fields_from
fields-exit o s d t = loop-exit left _ o (turn s) (turn-falls s) (d, t)
