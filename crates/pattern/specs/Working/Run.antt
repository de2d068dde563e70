-- A run through the places of a tree: what a matcher that keeps a set of places follows. A match gives a run. Assumes nothing.
use Rattle.std.specs.Prelude.{◌≡◌, Bool, false, ◌&&◌, ◌||◌, List, ℕ, suc, ◌<◌, ◌≤◌, eqb, length, get_or}
use Rattle.std.proofs.Math.Path.{refl, subst}
use Rattle.std.proofs.Common.{sym, ◌∙◌, arith, eq-eqb, ne_eqb}
use Rattle.std.proofs.Math.Bool.{true}
use Rattle.pattern.specs.Working.Logic.{or_left, or_right, and_both}
use Rattle.pattern.specs.Tree.{Re, cat, alt, star, plus, opt}
use Rattle.pattern.specs.Match.{Matches, m-bol, m-eol, m-one, m-cat, m-left, m-right, m-none, m-more, m-plus, m-skip, m-take}
use Rattle.pattern.specs.Working.Sets.{nul, first, last, follow, Fits, f-one, f-cat, f-alt, f-star, f-plus, f-opt}

-- which boundary is the string's start, which is its end
unfoldable pub starts : ℕ → Bool
starts i = eqb i 0

unfoldable pub ends : List ℕ → ℕ → Bool
ends s i = eqb i (length s)

-- from boundary i on, with place p passed just before boundary j
pub data Run (ok : ℕ → ℕ → Bool) (s : List ℕ) (r : Re) (i : ℕ) : ℕ → ℕ → Type 0 where
  begin : {q j : ℕ} → first (starts i) (ends s i) r q ≡ true → i < length s → ok q (get_or s i 0) ≡ true → j ≡ suc i → Run ok s r i q j
  next : {p j q k : ℕ} → Run ok s r i p j → follow r p q ≡ true → j < length s → ok q (get_or s j 0) ≡ true → k ≡ suc j → Run ok s r i q k

-- nothing passed, or a run that may end here
pub data Done (ok : ℕ → ℕ → Bool) (s : List ℕ) (r : Re) (i j : ℕ) : Type 0 where
  d-empty : i ≡ j → nul (starts i) (ends s i) r ≡ true → Done ok s r i j
  d-run : (p : ℕ) → Run ok s r i p j → last (starts j) (ends s j) r p ≡ true → Done ok s r i j

-- a run of a loop over a that may end here
record Ran (ok : ℕ → ℕ → Bool) (s : List ℕ) (a : Re) (i j : ℕ) : Type 0 where
  pub place : ℕ
  pub run : Run ok s (star a) i place j
  pub final : last (starts j) (ends s j) a place ≡ true

pub inside-start : (j i : ℕ) → i < j → starts j ≡ false
unfolding starts
inside-start j i h = ne_eqb j 0 (λ e. omega arith)

pub inside-end : (s : List ℕ) (j : ℕ) → j < length s → ends s j ≡ false
unfolding ends
inside-end s j h = ne_eqb j (length s) (λ e. omega arith)

-- the link from the last places of a to the first of b, at a boundary inside the string
link : (s : List ℕ) (a b : Re) (i m p₀ q : ℕ) → i < m → m < length s → last (starts m) (ends s m) a p₀ ≡ true → first (starts m) (ends s m) b q ≡ true
    → last false false a p₀ && first false false b q ≡ true
link s a b i m p₀ q h k l f =
    let e₁ = inside-start m i h in let e₂ = inside-end s m k in
    and_both (last false false a p₀) (first false false b q) (rw (e₁, e₂) at l) (rw (e₁, e₂) at f)

module _ {ok : ℕ → ℕ → Bool} {s : List ℕ} where
  pub run-less : {r : Re} {i p j : ℕ} → Run ok s r i p j → i < j
  run-less (begin f h o e) = omega arith
  run-less (next u f h o e) = omega (arith, run-less u)

  pub run_inside : {r : Re} {i p j : ℕ} → Run ok s r i p j → j ≤ length s
  run_inside (begin f h o e) = omega arith
  run_inside (next u f h o e) = omega arith

  pub run-mono : {a r : Re} {i p j : ℕ} → ((q : ℕ) → first (starts i) (ends s i) a q ≡ true → first (starts i) (ends s i) r q ≡ true)
      → ((p q : ℕ) → follow a p q ≡ true → follow r p q ≡ true) → Run ok s a i p j → Run ok s r i p j
  run-mono g k (begin {q = q} f h o e) = begin (g q f) h o e
  run-mono g k (next {p = p} {q = q} u f h o e) = next (run-mono g k u) (k p q f) h o e

  -- a run of b that begins where a run of r has come to p₀
  pub run_join : {b r : Re} {i p₀ m p j : ℕ} → ((q : ℕ) → m < length s → first (starts m) (ends s m) b q ≡ true → follow r p₀ q ≡ true)
      → ((p q : ℕ) → follow b p q ≡ true → follow r p q ≡ true) → Run ok s r i p₀ m → Run ok s b m p j → Run ok s r i p j
  run_join g k u (begin {q = q} f h o e) = next u (g q h f) h o e
  run_join g k u (next {p = p} {q = q} v f h o e) = next (run_join g k u v) (k p q f) h o e

  cat-done : {a b : Re} {i m j : ℕ} → Done ok s a i m → Done ok s b m j → Done ok s (cat a b) i j
  unfolding nul first last follow
  cat-done {a} {b} {i} {m} {j} (d-empty e n) (d-empty e' n') = d-empty (e ∙ e') (and_both _ _ n (rw (← e) at n'))
  cat-done {a} {b} {i} {m} {j} (d-empty e n) (d-run p u l) =
      let v : Run ok s b i p j = rw (← e) at u in
      d-run p (run-mono (λ q f. or_right (first (starts i) (ends s i) a q) _ (and_both _ _ n f)) (λ p q f. or_left _ _ (or_right (follow a p q) _ f)) v) (or_left _ _ l)
  cat-done {a} {b} {i} {m} {j} (d-run p u l) (d-empty e n) =
      let v : Run ok s a i p j = rw e at u in
      let l' : last (starts j) (ends s j) a p ≡ true = rw e at l in
      let n' : nul (starts j) (ends s j) b ≡ true = rw e at n in
      d-run p (run-mono (λ q f. or_left _ _ f) (λ p q f. or_left _ _ (or_left _ _ f)) v) (or_right (last (starts j) (ends s j) b p) _ (and_both _ _ n' l'))
  cat-done {a} {b} {i} {m} {j} (d-run p u l) (d-run p' v l') =
      d-run p' (run_join (λ q h f. or_right (follow a p q || follow b p q) _ (link s a b i m p q (run-less u) h l f)) (λ p q f. or_left _ _ (or_right (follow a p q) _ f))
      (run-mono (λ q f. or_left _ _ f) (λ p q f. or_left _ _ (or_left _ _ f)) u) v) (or_left _ _ l')

  -- one turn of a loop, of one byte or more, before the others
  turn : {a : Re} {i m j : ℕ} (p : ℕ) → Run ok s a i p m → last (starts m) (ends s m) a p ≡ true → Done ok s (star a) m j → Ran ok s a i j
  unfolding nul first last follow
  turn {a} {i} {m} {j} p u l (d-empty e n) = record { place = p; run = run-mono (λ q f. f) (λ p q f. or_left _ _ f) (rw e at u); final = rw e at l }
  turn {a} {i} {m} {j} p u l (d-run p' v l') =
      record { place = p'; run = run_join (λ q h f. or_right (follow a p q) _ (link s a a i m p q (run-less u) h l f)) (λ p q f. f) (run-mono (λ q f. f) (λ p q f. or_left _ _ f) u) v; final = l' }

  star-done : {a : Re} {i m j : ℕ} → Done ok s a i m → Done ok s (star a) m j → Done ok s (star a) i j
  unfolding last
  star-done {a} {i} {m} {j} (d-empty e n) d = subst (λ (x : ℕ). Done ok s (star a) x j) (sym e) d
  star-done {a} {i} {m} {j} (d-run p u l) d = let x = turn p u l d in d-run x.place x.run x.final

  alt-left : {a b : Re} {i j : ℕ} → Done ok s a i j → Done ok s (alt a b) i j
  unfolding nul first last follow
  alt-left (d-empty e n) = d-empty e (or_left _ _ n)
  alt-left (d-run p u l) = d-run p (run-mono (λ q f. or_left _ _ f) (λ p q f. or_left _ _ f) u) (or_left _ _ l)

  alt-right : {a b : Re} {i j : ℕ} → Done ok s b i j → Done ok s (alt a b) i j
  unfolding nul first last follow
  alt-right {a} {b} {i} {j} (d-empty e n) = d-empty e (or_right (nul (starts i) (ends s i) a) _ n)
  alt-right {a} {b} {i} {j} (d-run p u l) =
      d-run p (run-mono (λ q f. or_right (first (starts i) (ends s i) a q) _ f) (λ p q f. or_right (follow a p q) _ f) u) (or_right (last (starts j) (ends s j) a p) _ l)

  opt-done : {a : Re} {i j : ℕ} → Done ok s a i j → Done ok s (opt a) i j
  unfolding nul first last follow
  opt-done (d-empty e n) = d-empty e refl
  opt-done (d-run p u l) = d-run p (run-mono (λ q f. f) (λ p q f. f) u) l

  -- "+" and "*" differ in nothing but the empty match
  plus-run : {a : Re} {i p j : ℕ} → Run ok s (star a) i p j → Run ok s (plus a) i p j
  unfolding first follow
  plus-run u = run-mono (λ q f. f) (λ p q f. f) u

  plus-done : {a : Re} {i m j : ℕ} → Done ok s a i m → Done ok s (star a) m j → Done ok s (plus a) i j
  unfolding nul first last follow
  plus-done {a} {i} {m} {j} (d-empty e n) (d-empty e' n') = d-empty (e ∙ e') n
  plus-done {a} {i} {m} {j} (d-empty e n) (d-run p u l) = d-run p (plus-run (rw (← e) at u)) l
  plus-done {a} {i} {m} {j} (d-run p u l) d = let x = turn p u l d in d-run x.place (plus-run x.run) x.final

  pub complete : {lo hi : ℕ} {r : Re} {i j : ℕ} → Fits ok lo hi r → Matches s r i j → Done ok s r i j
  unfolding nul first last starts ends
  complete f (m-bol {i = i} e z) = d-empty e (eq-eqb i 0 z)
  complete f (m-eol {i = i} e z) = d-empty e (eq-eqb i (length s) z)
  complete (f-one h k o) (m-one {at = at} {i = i} l a e) = d-run at (begin (eq-eqb at at refl) l (o (get_or s i 0) ∙ a) e) (eq-eqb at at refl)
  complete (f-cat m f g) (m-cat x y) = cat-done (complete f x) (complete g y)
  complete (f-alt m f g) (m-left x) = alt-left (complete f x)
  complete (f-alt m f g) (m-right x) = alt-right (complete g x)
  complete f (m-none e) = d-empty e refl
  complete (f-star f) (m-more x y) = star-done (complete f x) (complete (f-star f) y)
  complete (f-plus f) (m-plus x y) = plus-done (complete f x) (complete (f-star f) y)
  complete f (m-skip e) = d-empty e refl
  complete (f-opt f) (m-take x) = opt-done (complete f x)
