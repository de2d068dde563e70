-- How far a reader comes: it writes at most an entry a byte that it reads, and always reads on. Assumes nothing.
use Rattle.std.specs.Prelude.{◌≡◌, Bool, true, false, eqb, ltb, leb, length, Err}
use Rattle.std.proofs.Common.{ap, arith, not-suc-le-zero, ltb-true, ltb-false, eqb-true, lt-ltb}
use mathlib.Core.List.{List}
use Prim.Native.Nat.{ℕ, zero, suc, ◌+◌, ◌-◌, ◌<◌, ◌≤◌}
use Rattle.std.proofs.lemmas.Bool.{eqb-false}
use Rattle.text.specs.Choice.{split}
use Rattle.text.specs.Loop.{Step, next, done, loop, turns, after}
use Rattle.lexical.specs.Kind
use Rattle.lexical.specs.Theorems.Bounds.{chosen}
use Rattle.lexical.specs.Literal.{decoded_at}
use Rattle.lexical.specs.Number as Number
use Rattle.lexical.specs.Theorems.LineLaws.{token-real, token-fault, token_end}
use Rattle.lexical.specs.declared.token.Token.{Token}
use Rattle.syntax.specs.Op
use Rattle.syntax.specs.Parsed.{refusal}
use Rattle.syntax.specs.Operator.{Sort, a-string, an-integer, a-float, a_test}
use Rattle.conditions.specs.Table.{PartSort, sorted, word, Want}
use Rattle.conditions.specs.Working.Numbered.{sort_number, want_number}
use Rattle.conditions.specs.Working.Numbered
use Rattle.conditions.specs.Word.{next_at, word_sort}
use Rattle.conditions.specs.Working.Emit.{found, Ran, ran, refused, on_found, above, put, word_top, word_written, finish_at}
use Rattle.conditions.specs.Working.Leaf.{literal_read, name_read, digits_read, float_read, leaf_read, leaf_found, name_as}
use Rattle.conditions.specs.Working.Same.{start-within}
use Rattle.conditions.specs.Working.TieOperand.{Named, named-string, named-word, name-cases}
use Rattle.conditions.specs.Working.TieTable.{word_number}
use Rattle.syntax.specs.Working.Faults.{against}
use Rattle.limits.specs.Limits.{most_float, most_literal}

-- a token as the text has it
pub data Sound (s : List ℕ) (t : Token) : Type 0 where
  sound : t.start ≤ length s → (Kind.BAD_LINE < t.kind → (t.start < t.end) × (t.end ≤ length s)) → Sound s t

pub within : (s : List ℕ) (t : Token) → Sound s t → t.start ≤ length s
within s t (sound h k) = h

pub real : (s : List ℕ) (t : Token) → Sound s t → Kind.BAD_LINE < t.kind → (t.start < t.end) × (t.end ≤ length s)
real s t (sound h k) = k

pub next-sound : (s : List ℕ) (at : ℕ) → Sound s (next_at s at)
next-sound s at =
    sound (start-within s at)
    (λ h. let p : (at ≤ (next_at s at).start) × ((next_at s at).start < (next_at s at).end) × ((next_at s at).end ≤ length s) = token-real s Kind.IN_FIELD at h in (p.1, p.2))

pub next-after : (s : List ℕ) (at : ℕ) → at ≤ length s → at ≤ (next_at s at).start
next-after s at h =
    split (ltb Kind.BAD_LINE (next_at s at).kind)
    (λ e. (token-real s Kind.IN_FIELD at (ltb-true _ _ e)).0)
    (λ e. split (eqb (next_at s at).kind Kind.END)
    (λ f. let q : (next_at s at).start ≡ length s = ap (λ (t : Token). t.start) (token_end s Kind.IN_FIELD at (eqb-true _ _ f)) in omega (arith, q, h))
    (λ f. (token-fault s Kind.IN_FIELD at (eqb-false _ _ f) (ltb-false _ _ e)).0))

-- a bare word is still to be written
abbrev pub debt : PartSort → ℕ
debt (sorted x) = 0
debt (word b) = 1

pub above_most : (m : List ℕ) (top : ℕ) → above m top ≤ top + 1
unfolding above
above_most m top = chosen (λ (n : ℕ). n ≤ top + 1) (leb (length m) top) top (top + 1) (λ e. omega arith) (λ e. omega arith)

pub word-top-most : (m : List ℕ) (top : ℕ) (x : PartSort) → word_top m top (sort_number x) ≤ top + debt x
unfolding word_top
word-top-most m top (sorted a-string) = omega arith
word-top-most m top (sorted an-integer) = omega arith
word-top-most m top (sorted a-float) = omega arith
word-top-most m top (sorted a_test) = omega arith
word-top-most m top (word true) = above_most m top
word-top-most m top (word false) = above_most m top

-- a fault of document 01, or what was found: behind `low`, and at most an entry a byte since at₀
pub data Paced (s : List ℕ) (top₀ at₀ low : ℕ) : Ran → Type 0 where
  paced-aside : (r p : ℕ) (b : List ℕ) → (r ≡ 0 → ⊥) → Paced s top₀ at₀ low (ran (Err (against r p)) b)
  paced-found : (x : PartSort) (p u : ℕ) (n : Token) (b : List ℕ) → Sound s n → low < n.start → u + debt x + at₀ ≤ top₀ + n.start → Paced s top₀ at₀ low (ran (found (sort_number x) p u n) b)

pub refusal-some : (k : ℕ) → refusal k ≡ 0 → ⊥
unfolding refusal
refusal-some k =
    chosen (λ (r : ℕ). r ≡ 0 → ⊥) (eqb k Kind.ILLEGAL) 1 _ (λ e z. omega (arith, z))
    (λ e. chosen (λ (r : ℕ). r ≡ 0 → ⊥) (eqb k Kind.BAD_LINE) 3 2 (λ f z. omega (arith, z)) (λ f z. omega (arith, z)))

pub seven : ◌≡◌ {A = ℕ} 7 0 → ⊥
seven z = omega (arith, z)

module _ (s : List ℕ) (top₀ at₀ low : ℕ) where
  pub paced-refused : (t : Token) (b : List ℕ) → Paced s top₀ at₀ low (ran (refused t) b)
  unfolding refused
  paced-refused t b = paced-aside _ _ b (refusal-some t.kind)

  pub paced-on : (top₁ at₁ low₁ : ℕ) (r : Ran) (l : ℕ → ℕ → ℕ → Token → List ℕ → Ran)
      → ((x : PartSort) (p u : ℕ) (n : Token) (b : List ℕ) → Sound s n → low₁ < n.start → u + debt x + at₁ ≤ top₁ + n.start → Paced s top₀ at₀ low (l (sort_number x) p u n b))
      → Paced s top₁ at₁ low₁ r → Paced s top₀ at₀ low (on_found r l)
  paced-on top₁ at₁ low₁ _ l h (paced-aside r p b k) = paced-aside r p b k
  paced-on top₁ at₁ low₁ _ l h (paced-found x p u n b k i j) = h x p u n b k i j

  -- an operator takes a byte and is written in an entry
  pub finish-paced : (op : ℕ) (gives : Sort) → Numbered.result_of op ≡ sort_number (sorted gives) → (x : PartSort) (p u : ℕ) (n : Token) (b : List ℕ) → Sound s n → low < n.start
      → u + debt x + 1 + at₀ ≤ top₀ + n.start → Paced s top₀ at₀ low (finish_at b u op (sort_number x) p n)
  unfolding finish_at
  finish-paced op gives result x p u n b k i j =
      chosen (Paced s top₀ at₀ low) (Numbered.fits (Numbered.operand_of op) (sort_number x)) _ _
      (λ e. rw result (paced-found (sorted gives) 0 (above b₁ u₁) n (put b₁ u₁ op 0) k i
      (omega (arith, j, above_most b₁ u₁, word-top-most b u x))))
      (λ e. paced-refused n b)
    where
      b₁ : List ℕ
      b₁ = word_written b u (Numbered.operand_of op) (sort_number x) p

      u₁ : ℕ
      u₁ = word_top b u (sort_number x)

-- operands of one token
module _ (s m : List ℕ) (top : ℕ) (t : Token) (wide : t.start < t.end) (inside : t.end ≤ length s) where
  found-paced : (x : Sort) (op : ℕ) → Paced s top t.start t.start (leaf_found s m top (sort_number (sorted x)) op t)
  found-paced x op =
      paced-found (sorted x) 0 (above m top) (next_at s t.end) (put m top op t.start) (next-sound s t.end) (omega (arith, wide, next-after s t.end inside))
      (omega (arith, wide, next-after s t.end inside, above_most m top))

  literal-paced : Paced s top t.start t.start (literal_read s m top t)
  unfolding literal_read
  literal-paced = chosen (Paced s top t.start t.start) (ltb most_literal (length (decoded_at s t.start))) _ _ (λ e. paced-aside 7 t.start m seven) (λ e. found-paced a-string Op.LITERAL)

  digits-paced : Paced s top t.start t.start (digits_read s m top t)
  unfolding digits_read
  digits-paced =
      chosen (Paced s top t.start t.start) (leb Number.LIMIT (Number.number_at s t.start t.end)) _ _ (λ e. paced-aside 5 t.start m (λ z. omega (arith, z))) (λ e. found-paced an-integer Op.NUMBER)

  bare-paced : (b : Bool) → Paced s top t.start t.start (ran (found (sort_number (word b)) t.start top (next_at s t.end)) m)
  bare-paced b =
      paced-found (word b) t.start top (next_at s t.end) m (next-sound s t.end) (omega (arith, wide, next-after s t.end inside))
      (omega (arith, wide, next-after s t.end inside))

  name-as : (w : PartSort) → Named w → Paced s top t.start t.start (name_as s m top t (sort_number w))
  name-as _ named-string = found-paced a-string Op.NAME
  name-as _ (named-word true) = bare-paced true
  name-as _ (named-word false) = bare-paced false

  name-paced : (want : Want) → Paced s top t.start t.start (name_read s m top (want_number want) t)
  unfolding name_read
  name-paced want = rw (word_number s want t.start t.end) (name-as (word_sort s want t.start t.end) (name-cases s want t.start t.end))

  float-paced : Paced s top t.start t.start (float_read s m top t)
  unfolding float_read
  float-paced = chosen (Paced s top t.start t.start) (ltb most_float (t.end - t.start)) _ _ (λ e. paced-aside 7 t.start m seven) (λ e. found-paced a-float Op.DECIMAL)

  pub leaf-paced : (want : Want) → Paced s top t.start t.start (leaf_read s m top (want_number want) t)
  unfolding leaf_read
  leaf-paced want =
      chosen (Paced s top t.start t.start) (eqb t.kind Kind.LITERAL) _ _ (λ e. literal-paced)
      (λ e. chosen (Paced s top t.start t.start) (eqb t.kind Kind.NAME) _ _ (λ f. name-paced want)
      (λ f. chosen (Paced s top t.start t.start) (eqb t.kind Kind.DIGITS) _ _ (λ g. digits-paced) (λ g. float-paced)))

-- a loop that always moves on
pub data Goes {X R : Type 0} (μ : X → ℕ) (I : X → Type 0) (T : R → Type 0) (x : X) : Step X R → Type 0 where
  goes_on : (y : X) → I y → μ y < μ x → Goes μ I T x (next y)
  ends : (r : R) → T r → Goes μ I T x (done r)

module _ {X R : Type 0} (μ : X → ℕ) (out : X → R) (f : X → Step X R) (I : X → Type 0) (T : R → Type 0) (turn : (x : X) → I x → Goes μ I T x (f x)) where
  after_holds : (n : ℕ) (x : X) → μ x < suc n → ((y : X) → μ y < n → I y → T (turns μ out f n y)) → (i : Step X R) → Goes μ I T x i → T (after μ out f (turns μ out f n) x i)
  after_holds n x l h _ (goes_on y k j) = rw (lt-ltb _ _ j) (h y (omega (arith, l, j)) k)
  after_holds n x l h _ (ends r k) = k

  turns-hold : (n : ℕ) (x : X) → μ x < n → I x → T (turns μ out f n x)
  unfolding turns
  turns-hold zero x l i = absurd (not-suc-le-zero l)
  turns-hold (suc n) x l i = after_holds n x l (λ y k j. turns-hold n y k j) (f x) (turn x i)

  pub loop-holds : (x : X) → I x → T (loop μ out f x)
  unfolding loop
  loop-holds x i = turns-hold (suc (μ x)) x (omega arith) i
