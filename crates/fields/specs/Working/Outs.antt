-- Working definitions and laws: the answer to a reading, and the ways out of the readers of KeyNote-Version and Signature. Assumes nothing.
use Rattle.std.specs.Prelude.{◌≡◌, Bool, true, false, not, List, [], ◌∷◌, ℕ, zero, suc, ◌-◌, ◌<◌, ◌≤◌, min, eqb, leb, get_or, take, drop, Result, Ok, Err}
use Rattle.std.proofs.Math.Path.{refl, sym}
use Rattle.std.proofs.Common.{ap, ◌∙◌, drop_of_length-le}
use native.Mathlib.Omega.{arith}
use Rattle.std.proofs.Math.ListN.{length, length-drop}
use Rattle.std.proofs.lemmas.List.Edits.{sets}
use Rattle.std.proofs.Math.Seq.{take_all}
use borrow.Author.Tests.{lt-ltb, le-ltb, le-leb, lt-leb, eq-eqb, ne_eqb, leb-true, leb-false, not-true, not-false}
use Rattle.text.specs.Choice.{pick, split, clash}
use Rattle.text.specs.Counted.{part}
use Rattle.text.specs.Equal.{equal}
use Rattle.lexical.specs.Working.Short.{sized, sized-length}
use Rattle.lexical.specs.Kind
use Rattle.lexical.specs.Kind.{ending}
use Rattle.lexical.specs.Literal.{decoded_at}
use Rattle.lexical.specs.Decode.{ran, decode_into}
use Rattle.lexical.specs.Number.{LIMIT, number_at}
use Rattle.lexical.specs.Line.{token_at}
use Rattle.lexical.specs.declared.token.Token.{Token}
use Rattle.limits.specs.Limits.{most_literal}
use Rattle.syntax.specs.Parsed.{Parsed, ok, aside}
use Rattle.fields.specs.Parsed.{ended}
use Rattle.fields.specs.Working.Word.{word_of}
use Rattle.fields.specs.Version.{two, version_number, version_literal, version}
use Rattle.fields.specs.Signature.{signature}
use Rattle.syntax.specs.Working.Faults.{against, misplaced_at}
use Rattle.syntax.specs.declared.fault.Fault.{Fault}

-- the token behind what was read, or the first fault
abbrev pub Out : Type 0
Out = Result Token Fault

-- the answer to a reading
abbrev pub out_of : {A : Type 0} → Parsed A → Out
out_of (ok a t) = Ok t
out_of (aside r p) = Err (against r p)

abbrev pub refused_out : Token → Out
refused_out t = Err (misplaced_at t)

unfoldable pub ended_out : Token → Out
ended_out t = pick (ending t.kind) (Ok t) (refused_out t)

-- `ended`
module _ (t : Token) (e : Bool) (ee : e ≡ ending t.kind) where
  pub ended-on : e ≡ true → Ok t ≡ ended_out t
  unfolding ended_out
  ended-on y = simp (sym ee, y)

  pub ended-not : (r : Out) → e ≡ false → r ≡ refused_out t → r ≡ ended_out t
  unfolding ended_out
  ended-not r n re = re ∙ simp (sym ee, n)

ended_is : {A : Type 0} (a : A) (t : Token) → ended_out t ≡ out_of (ended a t)
unfolding ended_out
ended_is a t = split (ending t.kind) (λ e. rw e) (λ e. rw e)

take_none : (n : ℕ) → ◌≡◌ {A = List ℕ} [] (take n [])
take_none zero = refl
take_none (suc n) = refl

-- `word`
module _ (s : List ℕ) (t : Token) where
  pub word_none : t.end ≤ t.start → [] ≡ word_of s t
  unfolding word_of part
  word_none h = let z : t.end - t.start ≡ 0 = omega arith in rw z

  pub word_out : length s ≤ t.start → [] ≡ word_of s t
  unfolding word_of part
  word_out h = rw (drop_of_length-le s h) (take_none (t.end - t.start))

  pub word_cut : t.start < t.end → length s < t.end → take (length s - t.start) (drop t.start s) ≡ word_of s t
  unfolding word_of part
  word_cut h k =
      let l : length (drop t.start s) ≡ length s - t.start = length-drop t.start s in
      take_all (length s - t.start) (drop t.start s) (omega arith) ∙ sym (take_all (t.end - t.start) (drop t.start s) (omega arith))

  pub word-whole : take (t.end - t.start) (drop t.start s) ≡ word_of s t
  unfolding word_of part
  word-whole = refl

-- `by_number`
module _ (s : List ℕ) (t : Token) (n : ℕ) (ne : n ≡ min (number_at s t.start t.end) 2147483648) where
  abbrev number_is : Out
  number_is = out_of (version_number s t (number_at s t.start t.end))

  pub number-high : LIMIT ≤ n → Err (against 5 t.start) ≡ number_is
  unfolding version_number
  number-high h = rw (le-leb LIMIT (number_at s t.start t.end) (omega (arith, ne, h)))

  module _ (low : n < LIMIT) where
    -- a number below the limit was not held
    low-is : number_at s t.start t.end ≡ n
    low-is = omega (arith, ne, low)

    pub number-two : (u : Token) → u ≡ token_at s Kind.IN_FIELD t.end → (r : Out) → n ≡ 2 → r ≡ ended_out u → r ≡ number_is
    unfolding version_number
    number-two u ue r h re = re ∙ ended_is {A = ℕ} 2 u ∙ simp (low-is, lt-leb _ _ low, eq-eqb _ _ h, sym ue)

    pub number-other : (n ≡ 2 → ⊥) → Err (against 6 t.start) ≡ number_is
    unfolding version_number
    number-other h = simp (low-is, lt-leb _ _ low, ne_eqb _ _ h)

-- `is_two`
long-two : (v : List ℕ) → (length v ≡ 1 → ⊥) → false ≡ equal v two
unfolding equal
long-two [] h = refl
long-two (a ∷ []) h = absurd (h refl)
long-two (a ∷ b ∷ v) h = split (eqb a 50) (λ e. rw e) (λ e. rw e)

one-two : (v m : List ℕ) → length v ≡ 1 → length m ≡ 1 → eqb (get_or (sets m 0 v) 0 0) 50 ≡ equal v two
unfolding equal
one-two [] m h k = let no : ⊥ = omega arith in absurd no
one-two (a ∷ b ∷ v) m h k = let no : ⊥ = omega arith in absurd no
one-two (a ∷ []) [] h k = let no : ⊥ = omega arith in absurd no
one-two (a ∷ []) (x ∷ m) h k = split (eqb a 50) (λ e. rw e) (λ e. rw e)

module _ (s : List ℕ) (start : ℕ) (n : ℕ) (ne : n ≡ length (decoded_at s start)) where
  pub two-length : (n ≡ 1 → ⊥) → false ≡ equal (decoded_at s start) two
  two-length h = long-two (decoded_at s start) (λ e. h (ne ∙ e))

  module _ (one : n ≡ 1) (t : Bool) (b : List ℕ) (be : ran t b ≡ decode_into s start (0 ∷ []) 0) where
    decoded : decode_into s start (0 ∷ []) 0 ≡ ran true (sets (0 ∷ []) 0 (decoded_at s start))
    unfolding decode_into
    decoded = let l : length (decoded_at s start) ≡ 1 = sym ne ∙ one in rw l

    pub two_is : eqb (get_or b 0 0) 50 ≡ equal (decoded_at s start) two
    two_is = let e : b ≡ sets (0 ∷ []) 0 (decoded_at s start) = cc (be, decoded) in rw e (one-two (decoded_at s start) (0 ∷ []) (sym ne ∙ one) refl)

    pub two-never : t ≡ false → false ≡ equal (decoded_at s start) two
    two-never f = let e : t ≡ true = cc (be, decoded) in clash e f

-- `by_literal`
module _ (s : List ℕ) (t : Token) (b : Bool) (be : b ≡ equal (decoded_at s t.start) two) where
  pub literal-two : (u : Token) → u ≡ token_at s Kind.IN_FIELD t.end → (r : Out) → b ≡ true → r ≡ ended_out u → r ≡ out_of (version_literal s t (decoded_at s t.start))
  unfolding version_literal
  literal-two u ue r y re = re ∙ ended_is {A = ℕ} 2 u ∙ simp (sym be, y, sym ue)

  pub literal-other : b ≡ false → Err (against 6 t.start) ≡ out_of (version_literal s t (decoded_at s t.start))
  unfolding version_literal
  literal-other n = simp (sym be, n)

-- `version` and `signature`
module _ (s : List ℕ) (t : Token) (r : Out) where
  pub version-digits : t.kind ≡ Kind.DIGITS → r ≡ out_of (version_number s t (number_at s t.start t.end)) → r ≡ out_of (version s t)
  unfolding version
  version-digits h e = e ∙ simp (eq-eqb _ _ h)

  module _ (no : t.kind ≡ Kind.DIGITS → ⊥) where
    pub version-literal : t.kind ≡ Kind.LITERAL → r ≡ out_of (version_literal s t (decoded_at s t.start)) → r ≡ out_of (version s t)
    unfolding version
    version-literal h e = e ∙ simp (ne_eqb _ _ no, eq-eqb _ _ h)

    pub version-none : (t.kind ≡ Kind.LITERAL → ⊥) → r ≡ refused_out t → r ≡ out_of (version s t)
    unfolding version
    version-none h e = e ∙ simp (ne_eqb _ _ no, ne_eqb _ _ h)

  pub signature-none : (t.kind ≡ Kind.LITERAL → ⊥) → r ≡ refused_out t → r ≡ out_of (signature s t)
  unfolding signature
  signature-none h e = e ∙ simp (ne_eqb _ _ h)

-- `is_fitting`
module _ (s : List ℕ) (start : ℕ) where
  pub fitting-sized : (end : ℕ) (b : Bool) → b ≡ sized s start end most_literal → b ≡ true → true ≡ leb (length (decoded_at s start)) most_literal
  fitting-sized end b be h = sym (le-leb (length (decoded_at s start)) most_literal (sized-length s start end most_literal (sym be ∙ h)).1)

  pub fitting-told : (n : ℕ) → n ≡ length (decoded_at s start) → (r : Bool) → r ≡ leb n most_literal → r ≡ leb (length (decoded_at s start)) most_literal
  fitting-told n ne r e = e ∙ ap (λ (k : ℕ). leb k most_literal) ne

module _ (s : List ℕ) (t : Token) (is : t.kind ≡ Kind.LITERAL) (b : Bool) (be : b ≡ leb (length (decoded_at s t.start)) most_literal) where
  pub signature-long : not b ≡ true → Err (against 7 t.start) ≡ out_of (signature s t)
  unfolding signature
  signature-long h = simp (eq-eqb _ _ is, lt-ltb most_literal (length (decoded_at s t.start)) (leb-false (length (decoded_at s t.start)) most_literal (sym be ∙ not-true b h)))

  pub signature-read : not b ≡ false → Ok t ≡ out_of (signature s t)
  unfolding signature
  signature-read h = simp (eq-eqb _ _ is, le-ltb most_literal (length (decoded_at s t.start)) (leb-true (length (decoded_at s t.start)) most_literal (sym be ∙ not-false b h)))
