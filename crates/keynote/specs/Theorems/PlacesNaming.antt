-- A reason against Authorizer or Licensees is at most 8, and its place lies in the text or at its end; so do the places of whom they name, and of
-- licensees there are at most 16. Assumes nothing.
use Rattle.std.specs.Prelude.{◌≡◌, Bool, true, false, eqb, leb, ltb}
use Rattle.std.proofs.Math.Path.{refl}
use Rattle.std.proofs.Common.{sym, subst, ⊎_elim, arith, length-append, leb-false}
use mathlib.Core.List.Memᴰ.{append_cases as mem-++}
use mathlib.Core.List.Memᴰ.{cases_cons as mem-∷}
use mathlib.Core.List.{List, [], ◌∷◌, ◌++◌, Memᴰ as Mem}
use Prim.Native.Nat.{ℕ, zero, suc, ◌+◌, ◌-◌, ◌≤◌, ◌<◌, zero-le}
use Rattle.std.proofs.Math.ListN.{length}
use Rattle.text.specs.Choice.{pick, split}
use Rattle.record.specs.Query.{Attribute}
use Rattle.limits.specs.Limits.{most_licensees, most_brackets}
use Rattle.lexical.specs.Kind
use Rattle.lexical.specs.Kind.{ending}
use Rattle.lexical.specs.Number.{number_at}
use Rattle.lexical.specs.declared.token.Token.{Token}
use Rattle.syntax.specs.Parsed.{Parsed, ok, aside, and_then, refusal, unexpected}
use Rattle.syntax.specs.Stood.{Stood, stood-at}
use Rattle.conditions.specs.Table.{want-string, begins_string}
use Rattle.conditions.specs.Word.{next_at}
use Rattle.conditions.specs.Parsed.{Part, part, on_part}
use Rattle.conditions.specs.Program.{DEPTH}
use Rattle.fields.specs.Parsed.{ended}
use Rattle.naming.specs.Source.{Source, Sources, one, and, or, k_of, Licensees, missing, empty, given, Author, sources}
use Rattle.naming.specs.String.{plain_from, nest_of, source}
use Rattle.naming.specs.Authorizer.{authorizer}
use Rattle.naming.specs.Licensees.{after, licensee, listed, on_listed, list_turn, list_from, list_opened, of_read, threshold, lone, onward, closed, Reader, on_operand, chain_turn, chain, expression_of, primary_body, primary, expression, licensees}
use Rattle.naming.specs.Theorems.Begun.{Refused, refused, source-barred}
use Rattle.keynote.specs.Theorems.Keeping.{Keeps, k-next, k-done, keeps-pick, loop-keeps}
use Rattle.keynote.specs.Theorems.Places.{In, token-in, Placed, p-ok, p-aside, refusal-small, refusal-some}
use Rattle.keynote.specs.Theorems.PlacesConditions.{expression-placed, string-reasoned}

-- ---- what is read, and what holds of it

-- as `Placed`, and Q holds of what was read
pub data Sound (s : List ℕ) (low : ℕ) {A : Type 0} (Q : A → Type 0) : Parsed A → Type 0 where
  s-ok : (a : A) (t : Token) → In s t → Q a → Sound s low Q (ok a t)
  s-aside : (r p : ℕ) → low ≤ r → r ≤ 8 → p ≤ length s → Sound s low Q (aside r p)

pub stood-in : {s : List ℕ} {t : Token} → Stood s t → In s t
stood-in {s} st = subst (In s) (sym st.is) (token-in s st.mode st.at)

module _ {s : List ℕ} {low : ℕ} where
  pub sound-pick : {A : Type 0} {Q : A → Type 0} (b : Bool) {x y : Parsed A} → Sound s low Q x → Sound s low Q y → Sound s low Q (pick b x y)
  sound-pick true f g = f
  sound-pick false f g = g

  pub sound-then : {A B : Type 0} {P : A → Type 0} {Q : B → Type 0} {x : Parsed A} (k : A → Token → Parsed B) → Sound s low P x
      → ((a : A) (t : Token) → In s t → P a → Sound s low Q (k a t)) → Sound s low Q (and_then x k)
  sound-then k (s-ok a t i p) f = f a t i p
  sound-then k (s-aside r p h g l) f = s-aside r p h g l

  -- where nothing is read anything holds of it
  sound_none : {A : Type 0} {P Q : A → Type 0} {x : Parsed A} → Refused x → Sound s low P x → Sound s low Q x
  sound_none (refused r p) (s-aside _ _ h g l) = s-aside r p h g l

  sound-also : {A : Type 0} {P Q : A → Type 0} {x : Parsed A} → ((a : A) → P a → Q a) → Sound s low P x → Sound s low Q x
  sound-also f (s-ok a t i p) = s-ok a t i (f a p)
  sound-also f (s-aside r p h g l) = s-aside r p h g l

  pub sound-at : {A : Type 0} {Q : A → Type 0} (r : ℕ) (t : Token) → In s t → low ≤ r → r ≤ 8 → Sound s low Q (aside r t.start)
  sound-at r t i h k = s-aside r t.start h k i.starts

  pub placed-sound : {A : Type 0} {x : Parsed A} → low ≤ 1 → Placed s 1 x → Sound s low (λ a. Unit {0}) x
  placed-sound h (p-ok a t i) = s-ok a t i tt
  placed-sound h (p-aside r p l g k) = s-aside r p (omega arith) g k

-- ---- a string expression

-- its place lies in the text
pub SourceIn : List ℕ → Source → Type 0
SourceIn s x = x.place ≤ length s

pub source_in : (s : List ℕ) (x : Source) → SourceIn s x → x.place ≤ length s
unfolding SourceIn
source_in s x h = h

plain_in : (s : List ℕ) (left : ℕ) (t : Token) → In s t → In s (plain_from left s t)
unfolding plain_from
plain_in s zero t i = i
plain_in s (suc left) t i = split (eqb t.kind Kind.OPEN) (λ e. rw e (plain_in s left (next_at s t.end) (token-in s Kind.IN_FIELD t.end))) (λ e. rw e i)

string-from : (s : List ℕ) (low place : ℕ) → place ≤ length s → {q : Parsed Part} → Placed s low q
    → Sound s low (SourceIn s) (on_part q (λ sort e u. ok (record { place = place; says = e }) u))
unfolding SourceIn
string-from s low place h (p-ok (part sort e) t i) = s-ok _ t i h
string-from s low place h (p-aside r p l g k) = s-aside r p l g k

-- a reader of strings
abbrev pub Strings : List ℕ → ℕ → Type 0
Strings s low = (left : ℕ) (t : Token) → Stood s t → Sound s low (SourceIn s) (source s left t)

pub strings-placed : (s : List ℕ) → Strings s 0
unfolding source
strings-placed s left t st =
    string-from s 0 _ (plain_in s left t (stood-in st)).starts (expression-placed s DEPTH 3 want-string 0 (nest_of left) t (stood-in st))

-- the depth suffices, so that the reason is one of document 01's
pub strings-reasoned : (s : List ℕ) → length s < 65536 → Strings s 1
unfolding source
strings-reasoned s short left t st =
    string-from s 1 _ (plain_in s left t (stood-in st)).starts (string-reasoned s short (nest_of left) t st (stood-in st))

-- ---- Licensees

-- behind n licensees these are few, and stand in the text
pub record Fit (s : List ℕ) (n : ℕ) (l : List Source) : Type 0 where
  pub few : n + length l ≤ most_licensees
  pub inside : (x : Source) → Mem x l → SourceIn s x

fit_none : (s : List ℕ) (n : ℕ) → n ≤ most_licensees → Fit s n []
fit_none s n h = record { few = omega arith; inside = λ x m. elim m [ ] }

fit-one : (s : List ℕ) (n : ℕ) (x : Source) → n < most_licensees → SourceIn s x → Fit s n (x ∷ [])
fit-one s n x h i = record { few = omega arith; inside = λ y m. ⊎_elim (λ (e : y ≡ x). subst (SourceIn s) (sym e) i) (λ k. elim k [ ]) (mem-∷ m) }

fit-join : (s : List ℕ) (n : ℕ) (l m : List Source) → Fit s n l → Fit s (n + length l) m → Fit s n (l ++ m)
fit-join s n l m f g = record {
  few = omega (arith, g.few, length-append l m);
  inside = λ x k. ⊎_elim (f.inside x) (g.inside x) (mem-++ l k);
}

-- the field is sound
pub data LicenseesIn (s : List ℕ) : Licensees → Type 0 where
  missing-in : LicenseesIn s missing
  empty-in : LicenseesIn s empty
  given-in : (cs : List Attribute) (e : Sources) → Fit s 0 (sources e) → LicenseesIn s (given cs e)

module _ (s : List ℕ) (low : ℕ) (least : low ≤ 1) (strings : Strings s low) where
  not-here : {A : Type 0} {Q : A → Type 0} (t : Token) → In s t → Sound s low Q (unexpected t)
  not-here t i = sound-at (refusal t.kind) t i (omega (arith, refusal-some t.kind)) (refusal-small t.kind)

  ended-sound : {A : Type 0} {Q : A → Type 0} (a : A) (t : Token) → In s t → Q a → Sound s low Q (ended a t)
  ended-sound a t i h = sound-pick (ending t.kind) (s-ok a t i h) (not-here t i)

  after-in : (t : Token) → In s (after s t)
  after-in t = token-in s Kind.IN_LICENSEES t.end

  after-stood : (t : Token) → Stood s (after s t)
  after-stood t = stood-at s Kind.IN_LICENSEES t.end

  -- the field Authorizer
  pub author-sound : (constants : List Attribute) (t : Token) → Stood s t → Sound s low (λ (a : Author). SourceIn s a.by) (authorizer s constants t)
  unfolding authorizer
  author-sound constants t st = sound-then _ (strings most_brackets t st) (λ x u i h. ended-sound _ u i h)

  abbrev Licensee : ℕ → Source → Type 0
  Licensee n x = (n < most_licensees) × SourceIn s x

  licensee-sound : (left n : ℕ) (t : Token) → left ≤ most_brackets → Stood s t → Sound s low (Licensee n) (licensee s left n t)
  unfolding licensee
  licensee-sound left n t deep st =
      split (leb most_licensees n)
      (λ e. rw e (split (begins_string (plain_from left s t).kind)
      (λ f. rw f (sound-at 7 (plain_from left s t) (plain_in s left t (stood-in st)) (omega arith) (omega arith)))
      (λ f. rw f (sound_none (source-barred s left t deep f) (strings left t st)))))
      (λ e. rw e (sound-also (λ x i. (leb-false most_licensees n e, i)) (strings left t st)))

  abbrev Some : ℕ → Sources → Type 0
  Some n e = Fit s n (sources e)

  listed-sound : (n k : ℕ) (xs : List Source) (t : Token) → In s t → Fit s n xs → Sound s low (Some n) (listed s k xs t)
  unfolding listed sources
  listed-sound n k xs t i h = sound-pick (ltb (length xs) k) (sound-at 5 t i (omega arith) (omega arith)) (s-ok (k_of k xs) _ (after-in t) h)

  abbrev ListIn : ℕ → List Source × Token → Type 0
  ListIn n x = Fit s n x.0 × Stood s x.1

  on-listed-sound : (n k : ℕ) (xs : List Source) → Fit s n xs → {r : Parsed Source} → Sound s low (Licensee (n + length xs)) r
      → Keeps (ListIn n) (Sound s low (Some n)) (on_listed s k xs r)
  on-listed-sound n k xs h (s-aside r p g l i) = k-done (aside r p) (s-aside r p g l i)
  on-listed-sound n k xs h (s-ok x t i f) =
      let more : Fit s n (xs ++ (x ∷ [])) = fit-join s n xs (x ∷ []) h (fit-one s (n + length xs) x f.0 f.1) in
      keeps-pick _ _ (eqb t.kind Kind.CLOSE) (k-done _ (listed-sound n k (xs ++ (x ∷ [])) t i more))
      (keeps-pick _ _ (eqb t.kind Kind.COMMA) (k-next (xs ++ (x ∷ []), after s t) (more, after-stood t)) (k-done _ (not-here t i)))

  list-sound : (left n k : ℕ) (xs : List Source) (t : Token) → left ≤ most_brackets → Fit s n xs → Stood s t → Sound s low (Some n) (list_from s left n k xs t)
  unfolding list_from
  list-sound left n k xs t deep h st = loop-keeps (ListIn n) (Sound s low (Some n)) _ _ (list_turn s left n k) (λ x i. not-here x.1 (stood-in i.1))
      (λ x i. on-listed-sound n k x.0 i.0 (licensee-sound left (n + length x.0) x.1 deep i.1)) (xs, t) (h, st)

  threshold-sound : (left n : ℕ) (t : Token) (k : ℕ) → left ≤ most_brackets → n ≤ most_licensees → In s t → Sound s low (Some n) (threshold s left n t k)
  unfolding threshold of_read list_opened
  threshold-sound left n t k deep h i =
      sound-pick (eqb k 0) (sound-at 5 t i (omega arith) (omega arith)) (sound-pick (ltb most_licensees k) (sound-at 5 t i (omega arith) (omega arith))
      (sound-pick (eqb (after s t).kind Kind.OF)
      (sound-pick (eqb (after s (after s t)).kind Kind.OPEN)
      (sound-pick (eqb left 0) (sound-at 7 (after s (after s t)) (after-in (after s t)) (omega arith) (omega arith))
      (list-sound (left - 1) n k [] (after s (after s (after s t))) (omega arith) (fit_none s n h) (after-stood (after s (after s t)))))
      (not-here (after s (after s t)) (after-in (after s t))))
      (not-here (after s t) (after-in t))))

  -- a reader that keeps it so
  abbrev Good : Reader → Type 0
  Good r = (n : ℕ) (t : Token) → n ≤ most_licensees → Stood s t → Sound s low (Some n) (r n t)

  abbrev Joins : (Sources → Sources → Sources) → Type 0
  Joins join = (e f : Sources) → sources (join e f) ≡ sources e ++ sources f

  abbrev ChainIn : ℕ → Sources × Token → Type 0
  ChainIn n x = Some n x.0 × In s x.1

  operand_sound : (join : Sources → Sources → Sources) → Joins join → (n : ℕ) (e : Sources) → Some n e → {r : Parsed Sources}
      → Sound s low (Some (n + length (sources e))) r → Keeps (ChainIn n) (Sound s low (Some n)) (on_operand join e r)
  operand_sound join j n e h (s-aside r p g l i) = k-done (aside r p) (s-aside r p g l i)
  operand_sound join j n e h (s-ok f t i g) = k-next (join e f, t) (subst (Fit s n) (sym (j e f)) (fit-join s n (sources e) (sources f) h g), i)

  chain-sound : (joint : ℕ) (join : Sources → Sources → Sources) → Joins join → (operand : Reader) → Good operand → Good (chain s joint join operand)
  chain-sound joint join j operand g n t h st = sound-then _ (g n t h st) (λ e u i f.
      loop-keeps (ChainIn n) (Sound s low (Some n)) _ _ (chain_turn s joint join operand n) (λ x k. not-here x.1 k.1)
      (λ x k. keeps-pick _ _ (eqb x.1.kind joint)
      (operand_sound join j n x.0 k.0 (g (n + length (sources x.0)) (after s x.1) k.0.few (after-stood x.1)))
      (k-done _ (s-ok x.0 x.1 k.1 k.0))) (e, u) (f, i))

  and-joins : Joins and
  unfolding sources
  and-joins e f = refl

  or-joins : Joins or
  unfolding sources
  or-joins e f = refl

  expression-of-sound : (r : Reader) → Good r → Good (expression_of s r)
  expression-of-sound r g = chain-sound Kind.OR or or-joins _ (chain-sound Kind.AND and and-joins r g)

  lone-sound : (left n : ℕ) (t : Token) → left ≤ most_brackets → Stood s t → Sound s low (Some n) (lone s left n t)
  unfolding sources
  lone-sound left n t deep st = sound-then _ (licensee-sound left n t deep st) (λ x u i h. s-ok (one x) u i (fit-one s n x h.0 h.1))

  onward-sound : (left n : ℕ) (t : Token) → left ≤ most_brackets → Stood s t → (e : Sources) (u : Token) → In s u → Some n e
      → Sound s low (Some n) (onward s left n t e u)
  onward-sound left n t deep st (one x) u i h = sound-pick (eqb u.kind Kind.DOT) (lone-sound left n t deep st) (s-ok (one x) u i h)
  onward-sound left n t deep st (and a b) u i h = s-ok (and a b) u i h
  onward-sound left n t deep st (or a b) u i h = s-ok (or a b) u i h
  onward-sound left n t deep st (k_of k xs) u i h = s-ok (k_of k xs) u i h

  closed-sound : (left n : ℕ) (t : Token) → left ≤ most_brackets → Stood s t → (e : Sources) (u : Token) → In s u → Some n e
      → Sound s low (Some n) (closed s left n t e u)
  unfolding closed
  closed-sound left n t deep st e u i h = sound-pick (eqb u.kind Kind.CLOSE) (onward-sound left n t deep st e (after s u) (after-in u) h) (not-here u i)

  body-sound : (left : ℕ) → left ≤ most_brackets → (inner : Reader) → Good inner → Good (primary_body s left inner)
  body-sound left deep inner g n t h st =
      sound-pick (eqb t.kind Kind.OPEN)
      (sound-pick (eqb left 0) (sound-at 7 t (stood-in st) (omega arith) (omega arith))
      (sound-then _ (g n (after s t) h (after-stood t)) (λ e u i f. closed-sound left n t deep st e u i f)))
      (sound-pick (eqb t.kind Kind.DIGITS) (threshold-sound left n t (number_at s t.start t.end) deep h (stood-in st)) (lone-sound left n t deep st))

  primary-sound : (left : ℕ) → left ≤ most_brackets → Good (primary s left)
  unfolding primary
  primary-sound zero deep n t h st = body-sound 0 deep (λ n t. unexpected t) (λ n t h st. not-here t (stood-in st)) n t h st
  primary-sound (suc left) deep n t h st =
      body-sound (suc left) deep (expression_of s (λ n t. primary s left n t))
      (expression-of-sound _ (λ n t h st. primary-sound left (omega arith) n t h st)) n t h st

  -- the field Licensees
  pub licensees-sound : (constants : List Attribute) (t : Token) → Stood s t → Sound s low (LicenseesIn s) (licensees s constants t)
  unfolding licensees expression
  licensees-sound constants t st =
      sound-pick (ending t.kind) (s-ok empty t (stood-in st) empty-in)
      (sound-then _ (expression-of-sound _ (λ n t h st. primary-sound most_brackets (omega arith) n t h st) 0 t zero-le st)
      (λ e u i h. ended-sound (given constants e) u i (given-in constants e h)))
