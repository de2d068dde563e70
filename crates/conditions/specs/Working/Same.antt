-- What is read and what is written belong together: the same fault, or the same token behind and the code of what was read. Assumes nothing.
use Rattle.std.specs.Prelude.{◌≡◌, refl, Bool, true, false, List, [], eqb, ltb, length, Err}
use Rattle.std.proofs.Common.{ap, arith, ltb-true, ltb-false, eqb-true}
use Prim.Native.Nat.{ℕ, zero, suc, ◌<◌, ◌≤◌}
use Rattle.std.proofs.lemmas.Bool.{eqb-false}
use Rattle.text.specs.Choice.{pick, split}
use Rattle.text.specs.Loop.{Step, next, done, loop, turns, after}
use Rattle.lexical.specs.Kind
use Rattle.lexical.specs.Theorems.LineLaws.{token-real, token-fault, token_end}
use Rattle.lexical.specs.declared.token.Token.{Token}
use Rattle.syntax.specs.Expr.{Expr, name}
use Rattle.syntax.specs.Code.{Codes, name_at}
use Rattle.syntax.specs.Operator.{Sort}
use Rattle.conditions.specs.Table.{PartSort, sorted, word}
use Rattle.conditions.specs.Working.Numbered.{sort_number}
use Rattle.conditions.specs.Word.{next_at}
use Rattle.syntax.specs.Parsed.{Parsed, ok, aside, unexpected, and_then}
use Rattle.conditions.specs.Parsed.{Part, part, on_part}
use Rattle.conditions.specs.Working.Emit.{found, Ran, ran, refused, on_found}
use Rattle.conditions.specs.Working.Written.{Grown, Keeps}
use Rattle.syntax.specs.Working.Faults.{against}

-- a token lies within the text
pub start-within : (s : List ℕ) (at : ℕ) → (next_at s at).start ≤ length s
start-within s at =
    split (ltb Kind.BAD_LINE (next_at s at).kind)
    (λ e. let p : (at ≤ (next_at s at).start) × ((next_at s at).start < (next_at s at).end) × ((next_at s at).end ≤ length s) = token-real s Kind.IN_FIELD at (ltb-true _ _ e) in omega (arith, p.1, p.2))
    (λ e. split (eqb (next_at s at).kind Kind.END)
    (λ f. let q : (next_at s at).start ≡ length s = ap (λ (t : Token). t.start) (token_end s Kind.IN_FIELD at (eqb-true _ _ f)) in omega (arith, q))
    (λ f. let p : (at ≤ (next_at s at).start) × ((next_at s at).start < length s) × ((next_at s at).end ≡ (next_at s at).start) = token-fault s Kind.IN_FIELD at (eqb-false _ _ f) (ltb-false _ _ e) in omega (arith, p.1)))

-- a part is written, or it is a bare word that is not
pub data PartCodes (s : List ℕ) (p : ℕ) (e : Expr) (c : List ℕ) : PartSort → Type 0 where
  whole : (x : Sort) → Codes s e c → PartCodes s p e c (sorted x)
  bare : (b : Bool) → e ≡ name (name_at s p) → c ≡ [] → PartCodes s p e c (word b)

pub data Same (s m : List ℕ) (top : ℕ) : Parsed Part → Ran → Type 0 where
  same-aside : (r p : ℕ) (b : List ℕ) → Keeps m top b → Same s m top (aside r p) (ran (Err (against r p)) b)
  same-part : (x : PartSort) (p u : ℕ) (e : Expr) (n : Token) (b : List ℕ) → p < 65536 → n.start ≤ length s → Grown m top b u (λ c. PartCodes s p e c x)
      → Same s m top (ok (part x e) n) (ran (found (sort_number x) p u n) b)

-- the same of a clause or a program
pub data SameAs {A : Type 0} (Q : A → List ℕ → Type 0) (s m : List ℕ) (top : ℕ) : Parsed A → Ran → Type 0 where
  as-aside : (r p : ℕ) (b : List ℕ) → Keeps m top b → SameAs Q s m top (aside r p) (ran (Err (against r p)) b)
  as-ok : (a : A) (x p u : ℕ) (n : Token) (b : List ℕ) → n.start ≤ length s → Grown m top b u (Q a) → SameAs Q s m top (ok a n) (ran (found x p u n) b)

pub same-refused : (s m : List ℕ) (top : ℕ) (t : Token) (b : List ℕ) → Keeps m top b → Same s m top (unexpected t) (ran (refused t) b)
unfolding refused
same-refused s m top t b k = same-aside _ _ b k

pub as-refused : {A : Type 0} (Q : A → List ℕ → Type 0) (s m : List ℕ) (top : ℕ) (t : Token) (b : List ℕ) → Keeps m top b → SameAs Q s m top (unexpected t) (ran (refused t) b)
unfolding refused
as-refused Q s m top t b k = as-aside _ _ b k

-- what holds of two choices by one test
pub both : {A B : Type 0} (T : A → B → Type 0) (f : Bool) (a b : A) (c d : B) → (f ≡ true → T a c) → (f ≡ false → T b d) → T (pick f a b) (pick f c d)
both T true a b c d h k = h refl
both T false a b c d h k = k refl

module _ {A : Type 0} (T : Parsed A → Ran → Type 0) (s m : List ℕ) (top : ℕ) (asides : (r p : ℕ) (b : List ℕ) → Keeps m top b → T (aside r p) (ran (Err (against r p)) b)) where
  pub same-on : (q : Parsed Part) (r : Ran) (k : PartSort → Expr → Token → Parsed A) (l : ℕ → ℕ → ℕ → Token → List ℕ → Ran)
      → ((x : PartSort) (p u : ℕ) (e : Expr) (n : Token) (b : List ℕ) → p < 65536 → n.start ≤ length s → Grown m top b u (λ c. PartCodes s p e c x) → T (k x e n) (l (sort_number x) p u n b))
      → Same s m top q r → T (on_part q k) (on_found r l)
  same-on _ _ k l h (same-aside r p b i) = asides r p b i
  same-on _ _ k l h (same-part x p u e n b near within g) = h x p u e n b near within g

  pub as-on : {B : Type 0} (Q : B → List ℕ → Type 0) (q : Parsed B) (r : Ran) (k : B → Token → Parsed A) (l : ℕ → ℕ → ℕ → Token → List ℕ → Ran)
      → ((a : B) (x p u : ℕ) (n : Token) (b : List ℕ) → n.start ≤ length s → Grown m top b u (Q a) → T (k a n) (l x p u n b))
      → SameAs Q s m top q r → T (and_then q k) (on_found r l)
  as-on Q _ _ k l h (as-aside r p b i) = asides r p b i
  as-on Q _ _ k l h (as-ok a x p u n b within g) = h a x p u n b within g

-- two loops whose turns belong together
pub data Steps {X R Y Q : Type 0} (S : X → Y → Type 0) (T : R → Q → Type 0) : Step X R → Step Y Q → Type 0 where
  both-next : (x : X) (y : Y) → S x y → Steps S T (next x) (next y)
  both-done : (r : R) (q : Q) → T r q → Steps S T (done r) (done q)

module _ {X R Y Q : Type 0} (μ : X → ℕ) (out : X → R) (f : X → Step X R) (ν : Y → ℕ) (tuo : Y → Q) (g : Y → Step Y Q) (S : X → Y → Type 0) (T : R → Q → Type 0)
    (measures : (x : X) (y : Y) → S x y → μ x ≡ ν y) (outs : (x : X) (y : Y) → S x y → T (out x) (tuo y))
    (steps : (x : X) (y : Y) → S x y → Steps S T (f x) (g y)) where
  after_same : (n : ℕ) (x : X) (y : Y) → S x y → ((a : X) (b : Y) → S a b → T (turns μ out f n a) (turns ν tuo g n b)) → (i : Step X R) (j : Step Y Q) → Steps S T i j
      → T (after μ out f (turns μ out f n) x i) (after ν tuo g (turns ν tuo g n) y j)
  after_same n x y r h _ _ (both-done a b t) = t
  after_same n x y r h _ _ (both-next a b t) =
      rw (measures a b t, measures x y r) (both T (ltb (ν b) (ν y)) _ _ _ _ (λ e. h a b t) (λ e. outs x y r))

  turns_same : (n : ℕ) (x : X) (y : Y) → S x y → T (turns μ out f n x) (turns ν tuo g n y)
  unfolding turns
  turns_same zero x y r = outs x y r
  turns_same (suc n) x y r = after_same n x y r (turns_same n) (f x) (g y) (steps x y r)

  pub loop-same : (x : X) (y : Y) → S x y → T (loop μ out f x) (loop ν tuo g y)
  unfolding loop
  loop-same x y r = rw (measures x y r) (turns_same (suc (ν y)) x y r)
