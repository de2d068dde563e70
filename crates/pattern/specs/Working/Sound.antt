-- A run that may end gives a match. Assumes nothing.
use Rattle.std.specs.Prelude.{◌≡◌, Bool, true, ◌⊎◌, List, ℕ, suc, ◌<◌, length, get_or}
use Rattle.std.proofs.Math.Path.{refl}
use Rattle.std.proofs.Common.{sym, ◌∙◌, subst}
use Rattle.std.proofs.Math.Bool.{false}
use Rattle.std.proofs.Math.Logic.{inl, inr, ⊎_elim}
use borrow.Author.Tests.{eqb-true}
use Rattle.text.specs.Choice.{clash}
use Rattle.pattern.specs.Working.Logic.{or_cases, and_left, and_right}
use Rattle.pattern.specs.Tree.{Re, bol, eol, one, cat, alt, star, plus, opt}
use Rattle.pattern.specs.Match.{Matches, m-bol, m-eol, m-one, m-cat, m-left, m-right, m-none, m-more, m-plus, m-skip, m-take}
use Rattle.pattern.specs.Working.Sets.{nul, first, last, follow, Fits, f-bol, f-eol, f-one, f-cat, f-alt, f-star, f-plus, f-opt, In, apart, first-in, last-in, follow-in}
use Rattle.pattern.specs.Working.Run.{Run, begin, next, starts, ends, inside-start, inside-end, run-less}

-- a test that is the same at the boundary j and inside
module _ (ok : ℕ → ℕ → Bool) (s : List ℕ) where
  pub run_in : {lo hi : ℕ} {r : Re} {i p j : ℕ} → Fits ok lo hi r → Run ok s r i p j → In lo hi p
  run_in f (begin {q = q} e h o j) = first-in _ _ f q e
  run_in f (next {p = p} {q = q} u e h o k) = (follow-in f p q e).stop

  -- the flags of a boundary inside
  last-at : (a : Re) (p : ℕ) {r : Re} {i q j : ℕ} → Run ok s r i q j → j < length s → last false false a p ≡ true → last (starts j) (ends s j) a p ≡ true
  last-at a p {r} {i} {q} {j} u h l = rw (inside-start j i (run-less u), inside-end s j h) l

  first-at : (a : Re) (p : ℕ) {r : Re} {i q j : ℕ} → Run ok s r i q j → j < length s → first false false a p ≡ true → first (starts j) (ends s j) a p ≡ true
  first-at a p {r} {i} {q} {j} u h l = rw (inside-start j i (run-less u), inside-end s j h) l

  pub empty-sound : (r : Re) (i : ℕ) → nul (starts i) (ends s i) r ≡ true → Matches s r i i
  unfolding nul starts ends
  empty-sound bol i e = m-bol refl (eqb-true i 0 e)
  empty-sound eol i e = m-eol refl (eqb-true i (length s) e)
  empty-sound (one q c) i e = clash e refl
  empty-sound (cat a b) i e = m-cat (empty-sound a i (and_left _ _ e)) (empty-sound b i (and_right (nul (starts i) (ends s i) a) _ e))
  empty-sound (alt a b) i e = ⊎_elim (λ h. m-left (empty-sound a i h)) (λ h. m-right (empty-sound b i h)) (or_cases _ _ e)
  empty-sound (star a) i e = m-none refl
  empty-sound (plus a) i e = m-plus (empty-sound a i e) (m-none refl)
  empty-sound (opt a) i e = m-skip refl

  star-snoc : {a : Re} {i j k : ℕ} → Matches s (star a) i j → Matches s a j k → Matches s (star a) i k
  star-snoc {a} {i} {j} {k} (m-none e) y = subst (λ (x : ℕ). Matches s (star a) x k) (sym e) (m-more y (m-none refl))
  star-snoc (m-more x z) y = m-more x (star-snoc z y)

  abbrev Sound : Re → Type 0
  Sound r = (i p j : ℕ) → Run ok s r i p j → last (starts j) (ends s j) r p ≡ true → Matches s r i j

  -- a run of `cat a b` is one of a, or a match of a and a run of b
  data CatRun (a b : Re) (i p j : ℕ) : Type 0 where
    c-left : Run ok s a i p j → CatRun a b i p j
    c-right : (m : ℕ) → Matches s a i m → Run ok s b m p j → CatRun a b i p j

  module _ {lo m hi : ℕ} {a b : Re} (fa : Fits ok lo m a) (fb : Fits ok m hi b) where
    cat-next : {i p j q k : ℕ} → Sound a → CatRun a b i p j → follow (cat a b) p q ≡ true → j < length s → ok q (get_or s j 0) ≡ true → k ≡ suc j → CatRun a b i q k
    unfolding follow
    cat-next {i} {p} {j} {q} ha (c-left u) f h o e = ⊎_elim
        (λ g. ⊎_elim (λ x. c-left (next u x h o e)) (λ x. apart (run_in fa u) (follow-in fb p q x).start) (or_cases _ _ g))
        (λ g. c-right j (ha i p j u (last-at a p u h (and_left _ _ g))) (begin (first-at b q u h (and_right (last false false a p) _ g)) h o e)) (or_cases _ _ f)
    cat-next {i} {p} {j} {q} ha (c-right m' x u) f h o e = ⊎_elim
        (λ g. ⊎_elim (λ y. apart (follow-in fa p q y).start (run_in fb u)) (λ y. c-right m' x (next u y h o e)) (or_cases _ _ g))
        (λ g. apart (last-in false false fa p (and_left _ _ g)) (run_in fb u)) (or_cases _ _ f)

    cat-run : {i p j : ℕ} → Sound a → Run ok s (cat a b) i p j → CatRun a b i p j
    unfolding first
    cat-run {i} ha (begin {q = q} f h o e) = ⊎_elim (λ g. c-left (begin g h o e))
        (λ g. c-right i (empty-sound a i (and_left _ _ g)) (begin (and_right (nul (starts i) (ends s i) a) _ g) h o e)) (or_cases _ _ f)
    cat-run ha (next u f h o e) = cat-next ha (cat-run ha u) f h o e

    cat-last : {i p j : ℕ} → Sound a → Sound b → CatRun a b i p j → last (starts j) (ends s j) (cat a b) p ≡ true → Matches s (cat a b) i j
    unfolding last
    cat-last {i} {p} {j} ha hb (c-left u) l = ⊎_elim (λ g. apart (run_in fa u) (last-in (starts j) (ends s j) fb p g))
        (λ g. m-cat (ha i p j u (and_right (nul (starts j) (ends s j) b) _ g)) (empty-sound b j (and_left _ _ g))) (or_cases _ _ l)
    cat-last {i} {p} {j} ha hb (c-right m' x u) l = ⊎_elim (λ g. m-cat x (hb m' p j u g))
        (λ g. apart (last-in (starts j) (ends s j) fa p (and_right (nul (starts j) (ends s j) b) _ g)) (run_in fb u)) (or_cases _ _ l)

    alt-run : {i p j : ℕ} → Run ok s (alt a b) i p j → Run ok s a i p j ⊎ Run ok s b i p j
    unfolding first follow
    alt-run (begin f h o e) = ⊎_elim (λ g. inl (begin g h o e)) (λ g. inr (begin g h o e)) (or_cases _ _ f)
    alt-run (next {p = p} {q = q} u f h o e) = ⊎_elim
        (λ v. ⊎_elim (λ g. inl (next v g h o e)) (λ g. apart (run_in fa v) (follow-in fb p q g).start) (or_cases _ _ f))
        (λ v. ⊎_elim (λ g. apart (follow-in fa p q g).start (run_in fb v)) (λ g. inr (next v g h o e)) (or_cases _ _ f)) (alt-run u)

    alt-sound : Sound a → Sound b → Sound (alt a b)
    unfolding last
    alt-sound ha hb i p j u l = ⊎_elim
        (λ v. ⊎_elim (λ g. m-left (ha i p j v g)) (λ g. apart (run_in fa v) (last-in (starts j) (ends s j) fb p g)) (or_cases _ _ l))
        (λ v. ⊎_elim (λ g. apart (last-in (starts j) (ends s j) fa p g) (run_in fb v)) (λ g. m-right (hb i p j v g)) (or_cases _ _ l)) (alt-run u)

  -- a run of a loop: turns, and a run in the last of them
  record StarRun (a : Re) (i p j : ℕ) : Type 0 where
    pub turn : ℕ
    pub before : Matches s (star a) i turn
    pub run : Run ok s a turn p j

  star-run : {a : Re} {i p j : ℕ} → Sound a → Run ok s (star a) i p j → StarRun a i p j
  unfolding first follow
  star-run {a} {i} ha (begin f h o e) = record { turn = i; before = m-none refl; run = begin f h o e }
  star-run {a} {i} ha (next {p = p} {j = j} {q = q} u f h o e) =
      let v = star-run ha u in
      ⊎_elim (λ g. record { turn = v.turn; before = v.before; run = next v.run g h o e })
      (λ g. record { turn = j; before = star-snoc v.before (ha v.turn p j v.run (last-at a p u h (and_left _ _ g))); run = begin (first-at a q u h (and_right (last false false a p) _ g)) h o e })
      (or_cases _ _ f)

  plus-of : {a : Re} {i j k : ℕ} → Matches s (star a) i j → Matches s a j k → Matches s (plus a) i k
  plus-of {a} {i} {j} {k} (m-none e) y = subst (λ (x : ℕ). Matches s (plus a) x k) (sym e) (m-plus y (m-none refl))
  plus-of (m-more x z) y = m-plus x (star-snoc z y)

  same-run : {a b : Re} {i p j : ℕ} → ((q : ℕ) → first (starts i) (ends s i) a q ≡ first (starts i) (ends s i) b q) → ((p q : ℕ) → follow a p q ≡ follow b p q)
      → Run ok s a i p j → Run ok s b i p j
  same-run f g (begin {q = q} x h o e) = begin (sym (f q) ∙ x) h o e
  same-run f g (next {p = p} {q = q} u x h o e) = next (same-run f g u) (sym (g p q) ∙ x) h o e

  pub sound : {lo hi : ℕ} {r : Re} → Fits ok lo hi r → (i p j : ℕ) → Run ok s r i p j → last (starts j) (ends s j) r p ≡ true → Matches s r i j
  unfolding first last follow
  sound (f-bol h) i p j u l = clash l refl
  sound (f-eol h) i p j u l = clash l refl
  sound (f-one h k o) i p j (begin {q = q} f h' o' e) l = m-one h' (sym (o _) ∙ (rw (← eqb-true _ q f) at o')) e
  sound (f-one h k o) i p j (next u f h' o' e) l = clash f refl
  sound (f-cat m f g) i p j u l = cat-last f g (sound f) (sound g) (cat-run f g (sound f) u) l
  sound (f-alt m f g) i p j u l = alt-sound f g (sound f) (sound g) i p j u l
  sound (f-star f) i p j u l = let v = star-run (sound f) u in star-snoc v.before (sound f v.turn p j v.run l)
  sound (f-plus f) i p j u l = let v = star-run (sound f) (same-run (λ q. refl) (λ p q. refl) u) in plus-of v.before (sound f v.turn p j v.run l)
  sound (f-opt f) i p j u l = m-take (sound f i p j (same-run (λ q. refl) (λ p q. refl) u) l)
