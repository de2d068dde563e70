-- Working laws of the functions that add numbers and lines. Assumes nothing.
use Rattle.std.specs.Prelude.{◌≡◌, refl, List, [], ◌∷◌, ◌++◌, ℕ, zero, suc, ◌+◌, ◌*◌, ◌/◌, ◌%◌, ◌<◌, ◌≤◌, ltb, length, get_or}
use Rattle.std.proofs.Common.{sym, ◌∙◌, arith, add-one}
use Rattle.std.proofs.Math.Path.{ap}
use Rattle.std.proofs.Math.ListN.{get_or-eq_default}
use borrow.Author.Tests.{lt-ltb, le-ltb, eq-eqb, ne_eqb}
use Rattle.limits.specs.Limits.{most_report}
use Rattle.text.specs.Choice.{pick}
use Rattle.text.specs.Counted.{pair_at}
use Rattle.keynote.specs.Outcome.{outcome, page_after}
use Rattle.keynote.specs.declared.Outcome.{Outcome}
use Rattle.printed.specs.Numeral.{last_digit, digits, decimal}
use Rattle.printed.specs.Fill.{filled, fill_at}
use Rattle.printed.specs.Lines.{bytes, said, line, pair_line, head_lines, assertion_line, assertion_lines, refusal_line, outcome_lines, blank, lines}
use Rattle.printed.specs.Working.Filling.{fill-nil, fill-then}

-- any number of steps that is enough gives the same digits
enough : (f g n : ℕ) → n ≤ f → n ≤ g → digits f n ≡ digits g n
unfolding digits
enough zero zero n h k = refl
enough zero (suc g) n h k = rw (lt-ltb n 10 (omega (arith, h)))
enough (suc f) zero n h k = rw (lt-ltb n 10 (omega (arith, k)))
enough (suc f) (suc g) n h k =
    ap (λ (d : List ℕ). pick (ltb n 10) (last_digit n) (d ++ last_digit n)) (enough f g (n / 10) (omega (arith, h)) (omega (arith, k)))

low : (n : ℕ) → n < 10 → last_digit n ≡ decimal n
unfolding digits decimal
low zero h = refl
low (suc k) h = rw (lt-ltb (suc k) 10 h)

high : (n : ℕ) → 10 ≤ n → decimal (n / 10) ++ last_digit n ≡ decimal n
unfolding digits decimal
high zero h = absurd (let z : ⊥ = omega (arith, h) in z)
high (suc k) h = rw (le-ltb (suc k) 10 h) (ap (λ (d : List ℕ). d ++ last_digit (suc k)) (enough (suc k / 10) k (suc k / 10) (omega arith) (omega arith)))

module _ (out : List ℕ) (at n d : ℕ) (de : d ≡ 48 + n % 10) where
  -- `add_number`
  pub number-low : n < 10 → (r : ℕ) (o : List ℕ) → filled r o ≡ fill_at out at (d ∷ []) → filled r o ≡ fill_at out at (decimal n)
  unfolding last_digit
  number-low h r o e = e ∙ ap (λ (x : ℕ). fill_at out at (x ∷ [])) de ∙ ap (fill_at out at) (low n h)

  pub number-high : 10 ≤ n → (r s : ℕ) (o p : List ℕ) → filled r o ≡ fill_at out at (decimal (n / 10)) → filled s p ≡ fill_at o r (d ∷ []) → filled s p ≡ fill_at out at (decimal n)
  unfolding last_digit
  number-high h r s o p e f =
      fill-then out at (decimal (n / 10)) (d ∷ []) r s o p e f ∙ ap (λ (x : ℕ). fill_at out at (decimal (n / 10) ++ (x ∷ []))) de ∙ ap (fill_at out at) (high n h)

-- `say`
pub say-both : (out : List ℕ) (at : ℕ) (word : List ℕ) (n r s : ℕ) (o p : List ℕ) → filled r o ≡ fill_at out at word → filled s p ≡ fill_at o r (decimal n) → filled s p ≡ fill_at out at (said word n)
unfolding said
say-both out at word n r s o p e f = fill-then out at word (decimal n) r s o p e f

-- `add_line`
pub line-added : (out : List ℕ) (at : ℕ) (word : List ℕ) (n : ℕ) (end : List ℕ) (r s : ℕ) (o p : List ℕ) → filled r o ≡ fill_at out at (said word n) → filled s p ≡ fill_at o r end → filled s p ≡ fill_at out at (line word n end)
unfolding line
line-added out at word n end r s o p e f = fill-then out at (said word n) end r s o p e f

-- `add_pair`
pub pair-added : (out : List ℕ) (at : ℕ) (first : List ℕ) (m : ℕ) (second : List ℕ) (n : ℕ) (end : List ℕ) (a b r : ℕ) (ao bo o : List ℕ)
    → filled a ao ≡ fill_at out at (said first m) → filled b bo ≡ fill_at ao a (said second n) → filled r o ≡ fill_at bo b end → filled r o ≡ fill_at out at (pair_line first m second n end)
unfolding pair_line
pair-added out at first m second n end a b r ao bo o ae be e = fill-then out at _ _ b r bo o (fill-then out at _ _ a b ao bo ae be) e

-- `byte_at`
pub byte_past : (s : List ℕ) (at : ℕ) → length s ≤ at → 0 ≡ get_or s at 0
byte_past s at h = sym (get_or-eq_default s 0 h)

-- `reason_at` and `place_at`
pub reason-past : (page : List ℕ) (i : ℕ) → length page / 3 ≤ i → 0 ≡ get_or page (3 + 3 * i) 0
reason-past page i h = byte_past page (3 + 3 * i) (omega (arith, h))

pub place-past : (page : List ℕ) (i : ℕ) → length page / 3 ≤ i → 0 ≡ pair_at page (4 + 3 * i)
unfolding pair_at
place-past page i h = rw (← byte_past page (4 + 3 * i) (omega (arith, h)), ← byte_past page (4 + 3 * i + 1) (omega (arith, h)))

-- `add_assertion`
pub assertion-added : (out : List ℕ) (at : ℕ) (page end : List ℕ) (i reason place : ℕ) → reason ≡ get_or page (3 + 3 * i) 0 → place ≡ pair_at page (4 + 3 * i) → (a r : ℕ) (ao o : List ℕ)
    → filled a ao ≡ fill_at out at (said (bytes "assertion ") i) → filled r o ≡ fill_at ao a (pair_line (bytes " reason ") reason (bytes " at ") place end) → filled r o ≡ fill_at out at (assertion_line page end i)
unfolding assertion_line
assertion-added out at page end i reason place re pe a r ao o ae e = fill-then out at _ _ a r ao o ae (e ∙ rw (re, pe))

-- `add_assertions`
module _ (out : List ℕ) (at : ℕ) (page end : List ℕ) where
  pub assertions-none : filled at out ≡ fill_at out at (assertion_lines page end 0)
  unfolding assertion_lines
  assertions-none = fill-nil out at

  pub assertions-more : (i r s : ℕ) (o p : List ℕ) → filled r o ≡ fill_at out at (assertion_lines page end i) → filled s p ≡ fill_at o r (assertion_line page end i) → filled s p ≡ fill_at out at (assertion_lines page end (i + 1))
  unfolding assertion_lines
  assertions-more i r s o p e f = rw (add-one i) (fill-then out at (assertion_lines page end i) (assertion_line page end i) r s o p e f)

  pub assertions-all : (i n r : ℕ) (o : List ℕ) → i ≤ n → n ≤ i → filled r o ≡ fill_at out at (assertion_lines page end i) → filled r o ≡ fill_at out at (assertion_lines page end n)
  assertions-all i n r o h k e = let z : i ≡ n = omega (arith, h, k) in e ∙ rw z

-- `add_refusal`
pub refusal-added : (out : List ℕ) (w : Outcome) (end : List ℕ) (n : ℕ) → n ≡ w.number → (r : ℕ) (o : List ℕ)
    → filled r o ≡ fill_at out 0 (pair_line (bytes "refused ") n (bytes " at ") w.place end) → filled r o ≡ fill_at out 0 (refusal_line w end)
unfolding refusal_line
refusal-added out w end n ne r o e = e ∙ rw ne

-- `add_head`
pub head-added : (out : List ℕ) (w : Outcome) (values : ℕ) (end : List ℕ) (n : ℕ) → n ≡ w.rank → (a b r : ℕ) (ao bo o : List ℕ)
    → filled a ao ≡ fill_at out 0 (pair_line (bytes "rank ") n (bytes " of ") values end)
    → filled b bo ≡ fill_at ao a (line (bytes "rounds ") w.rounds end)
    → filled r o ≡ fill_at bo b (line (bytes "reached ") w.reached end)
    → filled r o ≡ fill_at out 0 (head_lines w values end)
unfolding head_lines
head-added out w values end n ne a b r ao bo o ae be e =
    let ce : filled a ao ≡ fill_at out 0 (pair_line (bytes "rank ") w.rank (bytes " of ") values end) = ae ∙ rw ne in
    fill-then out 0 _ _ b r bo o (fill-then out 0 _ _ a b ao bo ce be) e

-- `answer_lines`
module _ (out s end : List ℕ) (w : Outcome) (we : w ≡ outcome s most_report) where
  pub refused-lines : (w.number ≡ 0 → ⊥) → (r : ℕ) (o : List ℕ) → filled r o ≡ fill_at out 0 (refusal_line w end) → filled r o ≡ fill_at out 0 (lines s end)
  unfolding lines outcome_lines
  refused-lines h r o e = rw (← we, ne_eqb w.number 0 h) e

  pub answered-lines : w.number ≡ 0 → (page : List ℕ) → page ≡ page_after s blank → (v : ℕ) → v ≡ get_or s 1 0
      → (r t : ℕ) (o p : List ℕ) → filled r o ≡ fill_at out 0 (head_lines w v end)
      → (n : ℕ) → n ≡ pair_at page 1 → filled t p ≡ fill_at o r (assertion_lines page end (n / 3)) → filled t p ≡ fill_at out 0 (lines s end)
  unfolding lines outcome_lines
  answered-lines h page pe v ve r t o p e n ne f =
      rw (← we, ← pe, ← ve, ← ne, eq-eqb w.number 0 h) (fill-then out 0 (head_lines w v end) (assertion_lines page end (n / 3)) r t o p e f)
