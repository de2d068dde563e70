-- The ways out of the functions that read an assertion. Assumes nothing.
use Rattle.std.specs.Prelude.{◌≡◌, refl, Bool, true, false, List, [], ◌∷◌, ℕ, zero, suc, ◌<◌, ◌≤◌, eqb, get_or, set, Ok, Err}
use Rattle.std.proofs.Math.Path.{sym}
use Rattle.std.proofs.Common.{◌∙◌, arith, get_or-set_other}
use borrow.Author.Tests.{eq-eqb, ne_eqb, eqb-true, eqb-false}
use Rattle.text.specs.Choice.{split, clash}
use Rattle.text.specs.Loop.{loop-next, loop-done}
use Rattle.lexical.specs.Kind
use Rattle.lexical.specs.Kind.{ending}
use Rattle.lexical.specs.Line.{token_at}
use Rattle.lexical.specs.declared.token.Token.{Token}
use Rattle.compliance.specs.Codes.{top_code}
use Rattle.fields.specs.Signature.{signature}
use Rattle.fields.specs.Working.Outs.{out_of, Out}
use Rattle.naming.specs.Working.Code.{above, pushed}
use Rattle.assertion.specs.Labels.{labels, without, total}
use Rattle.assertion.specs.Read.{first}
use Rattle.assertion.specs.Working.Field.{Given, given, Tables, tabled, Moved, moved, Going, field_at}
use Rattle.naming.specs.Working.Faults.{clear_at, first_of}
use Rattle.syntax.specs.Working.Faults.{against, misplaced_at}
use Rattle.syntax.specs.declared.fault.Fault.{Fault}
use Rattle.index.specs.declared.Index.{Index}
use Rattle.assertion.specs.Working.Reading.{Assessment, Finished, finished_by, ReadInto, read_by, kept_at, kept_in, finished_in, signed_in, last_at, last_in, fields_in, begun, read_in}
use Rattle.assertion.specs.declared.field.Partial.{Partial}
use Rattle.assertion.specs.declared.field.Went.{Went}

-- `kept` and `finished`
module _ (code : List ℕ) (d : Partial) where
  pub kept-given : d.licensed ≡ true → finished_by (kept_at d d.size) code ≡ kept_in code d
  unfolding kept_in
  kept-given k = rw k

  pub kept-missing : d.licensed ≡ false → (z : ℕ) (m : List ℕ) → z ≡ above code d.size → m ≡ pushed code d.size top_code → finished_by (kept_at d z) m ≡ kept_in code d
  unfolding kept_in
  kept-missing k z m ze me = rw (k, ze, me)

  module _ (end : ℕ) (h : d.authored ≡ true) (f : Fault) (fe : f ≡ first_of d.against d.besides) where
    pub finished-faulty : (f.reason ≡ 0 → ⊥) → finished_by (Err f) code ≡ finished_in code d end
    unfolding finished_in
    finished-faulty n = rw (h, ← fe, ne_eqb _ _ n)

    pub finished-kept : f.reason ≡ 0 → (r : Finished) → r ≡ kept_in code d → r ≡ finished_in code d end
    unfolding finished_in
    finished-kept z r e = e ∙ rw (h, ← fe, eq-eqb _ _ z)

  pub finished-none : (end : ℕ) → d.authored ≡ false → finished_by (Err (against 3 end)) code ≡ finished_in code d end
  unfolding finished_in
  finished-none end h = rw h

-- `signed`
module _ (s code : List ℕ) (d : Partial) (t : Token) (o : Out) (oe : o ≡ out_of (signature s t)) where
  pub signed-not : (f : Fault) → o ≡ Err f → finished_by (Err f) code ≡ signed_in s code d t
  unfolding signed_in
  signed-not f k = rw (← oe, k)

  pub signed-on : (n : Token) (r : Finished) → o ≡ Ok n → r ≡ finished_in code d n.end → r ≡ signed_in s code d t
  unfolding signed_in
  signed-on n r k e = e ∙ rw (← oe, k)

-- a label that is used up leaves fewer
total-clear : (l : List ℕ) (k : ℕ) → total (set l k 0) ≤ total l
unfolding total
total-clear [] k = omega arith
total-clear (x ∷ l) zero = omega arith
total-clear (x ∷ l) (suc k) = omega (arith, total-clear l k)

total-less : (l : List ℕ) (k : ℕ) → get_or l k 0 ≡ 1 → total (set l k 0) < total l
unfolding total
total-less [] k e = let no : ⊥ = omega (arith, e) in absurd no
total-less (x ∷ l) zero e = omega (arith, e)
total-less (x ∷ l) (suc k) e = omega (arith, total-less l k e)

pub without-less : (l : List ℕ) (k : ℕ) → eqb (get_or l k 0) 1 ≡ true → total (without l k) < total l
unfolding without
without-less l k e =
    let one : get_or l k 0 ≡ 1 = eqb-true _ _ e in
    split (eqb k 4)
    (λ f. let z : k ≡ 4 = eqb-true _ _ f in rw z (omega (arith, total-clear (set l 4 0) 4, total-less l 4 (rw (← z) one))))
    (λ f. let z : k ≡ 4 → ⊥ = eqb-false _ _ f in
    omega (arith, total-clear l 4, total-less (set l 4 0) k (get_or-set_other l 4 k 0 0 z ∙ one)))

-- `is_last`
module _ (free : List ℕ) (k : ℕ) where
  pub last_end : k ≡ Kind.END → true ≡ last_at free k
  unfolding last_at
  last_end h = rw h

  module _ (ne : k ≡ Kind.END → ⊥) (b : Bool) (be : b ≡ ending k) where
    pub last-other : b ≡ false → true ≡ last_at free k
    unfolding last_at
    last-other h = rw (ne_eqb _ _ ne, ← be, h)

    module _ (y : b ≡ true) (f : Bool) (fe : f ≡ eqb (get_or free k 0) 1) where
      pub last_taken : f ≡ false → true ≡ last_at free k
      unfolding last_at
      last_taken h = rw (ne_eqb _ _ ne, ← be, y, ← fe, h)

      pub last-label : f ≡ true → eqb k Kind.SIGNATURE ≡ last_at free k
      unfolding last_at
      last-label h = rw (ne_eqb _ _ ne, ← be, y, ← fe, h)

-- a label that is not the last is free
pub last-free : (free : List ℕ) (k : ℕ) → last_at free k ≡ false → eqb (get_or free k 0) 1 ≡ true
unfolding last_at
last-free free k h =
    split (eqb (get_or free k 0) 1) (λ e. e)
    (λ e. split (eqb k 0) (λ f. let z : true ≡ false = rw f at h in clash refl z)
    (λ f. split (ending k) (λ g. let z : true ≡ false = rw (f, g, e) at h in clash refl z) (λ g. let z : true ≡ false = rw (f, g) at h in clash refl z)))

-- `last`
module _ (s free code : List ℕ) (d : Partial) (t : Token) where
  pub last-finished : (r : Finished) → t.kind ≡ Kind.END → r ≡ finished_in code d t.start → r ≡ last_in s free code d t
  unfolding last_in
  last-finished r h e = e ∙ rw h

  module _ (ne : t.kind ≡ Kind.END → ⊥) (b : Bool) (be : b ≡ ending t.kind) where
    pub last-fault : (w : Fault) → b ≡ false → w ≡ misplaced_at t → finished_by (Err w) code ≡ last_in s free code d t
    unfolding last_in
    last-fault r h e = rw (e, ne_eqb _ _ ne, ← be, h)

    module _ (y : b ≡ true) (f : Bool) (fe : f ≡ eqb (get_or free t.kind 0) 1) where
      pub last-again : f ≡ false → finished_by (Err (against 3 t.start)) code ≡ last_in s free code d t
      unfolding last_in
      last-again h = rw (ne_eqb _ _ ne, ← be, y, ← fe, h)

      pub last-signed : (mode : ℕ) (n : Token) (r : Finished) → f ≡ true → mode ≡ Kind.opened t.kind → n ≡ token_at s mode t.end → r ≡ signed_in s code d n
          → r ≡ last_in s free code d t
      unfolding last_in
      last-signed mode n r h me nt e = e ∙ rw (nt, me, ne_eqb _ _ ne, ← be, y, ← fe, h)

-- `next_field`
pub next-is : (s : List ℕ) (g : Given) (x : Tables) (d : Partial) (kind end mode : ℕ) (n : Token) (r : Moved) → mode ≡ Kind.opened kind → n ≡ token_at s mode end
    → r ≡ field_at g kind x d n → r ≡ field_at g kind x d (token_at s (Kind.opened kind) end)
next-is s g x d kind end mode n r me nt e = e ∙ rw (nt, me)

-- the loop, with the invariant `fields_in .. ≡ a`
module _ (s : List ℕ) (standing : ℕ) (query values names : List ℕ) (start : ℕ) (free consts constants pool places code : List ℕ) (d : Partial) (t : Token) (a : ReadInto)
    (inv : fields_in (given s standing query values names start) free (tabled consts constants pool places code) d t ≡ a) (b : Bool) (be : b ≡ last_at free t.kind) where
  abbrev g : Given
  g = given s standing query values names start

  abbrev x : Tables
  x = tabled consts constants pool places code

  pub fields-last : (r : Assessment) (m : List ℕ) → b ≡ true → finished_by r m ≡ last_in s free code d t → read_by r (tabled consts constants pool places m) ≡ a
  unfolding fields_in
  fields-last r m h e = sym (loop-done _ _ _ (free, d, t, x) _ (rw (← be, h, ← e))) ∙ inv

  module _ (h : b ≡ false) (left : List ℕ) (le : left ≡ without free t.kind) (r : Going) (z : Tables)
      (re : moved r z ≡ field_at g t.kind x d (first s t)) where
    pub fields-aside : (w : Fault) → r ≡ Err w → read_by (Err w) z ≡ a
    unfolding fields_in
    fields-aside w k = sym (loop-done _ _ _ (free, d, t, x) _ (rw (← be, h, ← re, k))) ∙ inv

    less : total (without free t.kind) < total free
    less = without-less free t.kind (last-free free t.kind (sym be ∙ h))

    pub fields-more : (w : Went) → r ≡ Ok w → fields_in g left z w.partial w.next ≡ a
    unfolding fields_in
    fields-more w k = rw le (sym (loop-next _ _ _ (free, d, t, x) (without free t.kind, w.partial, w.next, z) (rw (← be, h, ← re, k)) less) ∙ inv)

    pub fields-less : total left < total free
    fields-less = rw le less

-- `read`
module _ (g : Given) (top : ℕ) (x : Tables) (index : Index) (size : ℕ) where
  pub read-unverified : g.standing ≡ 0 → read_by (Err (against 9 0)) x ≡ read_in g top x index.count index.end size
  unfolding read_in
  read-unverified h = rw h

  pub read-on : (g.standing ≡ 0 → ⊥) → (t : Token) → t ≡ token_at g.text Kind.BEFORE 0 → (a b : Fault) → a ≡ clear_at → b ≡ clear_at → (r : ReadInto)
      → r ≡ fields_in g labels x (begun top index size a b) t → r ≡ read_in g top x index.count index.end size
  unfolding read_in
  read-on h t te a b ae be r e = e ∙ rw (ae, be, te) (rw (ne_eqb _ _ h))
