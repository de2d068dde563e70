-- The bytes that a literal holds as they stand, and a literal's front of such bytes. Assumes nothing.
use Rattle.std.specs.Prelude.{◌≡◌, Bool, true, not, Option, Some, None, List, [], ◌∷◌, ℕ, zero, suc, ◌+◌, ◌-◌, ◌≤◌, ◌<◌, ◌^◌, ltb, length, get_or, take, drop}
use Rattle.std.proofs.Math.Path.{refl}
use Rattle.std.proofs.Common.{sym, ap, ◌∙◌, arith, lt_of_le_of_lt, add-one, Fits, drop-cons}
use Rattle.std.proofs.Math.Bool.{false}
use Rattle.std.specs.Int.{w64}
use Rattle.std.proofs.Math.Dec.{eqb}
use borrow.Author.Tests.{lt-leb, eq-eqb, eqb-true, ltb-true, ltb-false}
use Rattle.text.specs.Choice.{pick, split, clash}
use Rattle.text.specs.Scan.{past, past_more, past_stop, past_end, past-from}
use Rattle.lexical.specs.Theorems.Bounds.{chosen, byte-within}
use Rattle.lexical.specs.Unit.{GIVES, gives, closes, barred, kind, unit_at}
use Rattle.lexical.specs.Literal.{units_at, given, literal_end, decoded_at}
use Rattle.lexical.specs.Theorems.LiteralLaws.{units-more, units-last}

-- neither quote nor backslash, and not barred
unfoldable pub plain : ℕ → Bool
plain b = pick (eqb b 34) false (pick (eqb b 92) false (not (barred b)))

-- what holds of a byte of which a choice says true
both : (t u : Bool) → pick t false u ≡ true → (t ≡ false) × (u ≡ true)
both true u h = clash h refl
both false u h = (refl, h)

pub open-not : (t : Bool) → not t ≡ true → t ≡ false
open-not true h = clash h refl
open-not false h = refl

plain-false : (b : ℕ) → plain b ≡ true → (eqb b 34 ≡ false) × (eqb b 92 ≡ false) × (barred b ≡ false)
unfolding plain
plain-false b p =
    let q : (eqb b 34 ≡ false) × (pick (eqb b 92) false (not (barred b)) ≡ true) = both _ _ p in
    let r : (eqb b 92 ≡ false) × (not (barred b) ≡ true) = both _ _ q.1 in
    (q.0, r.0, open-not (barred b) r.1)

module _ (s : List ℕ) (i : ℕ) (h : i < length s) (p : plain (get_or s i 0) ≡ true) where
  -- a plain byte is a unit
  plain-unit : unit_at s i ≡ gives 1 (get_or s i 0)
  unfolding unit_at
  plain-unit =
      let q : (eqb (get_or s i 0) 34 ≡ false) × (eqb (get_or s i 0) 92 ≡ false) × (barred (get_or s i 0) ≡ false) = plain-false (get_or s i 0) p in
      let u : eqb (get_or s i 0) 34 ≡ false = q.0 in
      let v : eqb (get_or s i 0) 92 ≡ false = q.1 in
      let w : barred (get_or s i 0) ≡ false = q.2 in
      simp (lt-leb _ _ h, u, v, w)

  plain-units : units_at s i ≡ gives 1 (get_or s i 0) ∷ units_at s (i + 1)
  plain-units = let k : kind (unit_at s i) ≤ GIVES = rw plain-unit (omega arith) in rw plain-unit at (units-more s i k)

-- a literal ends where it ends behind its plain bytes
end-behind : (n : ℕ) (s : List ℕ) (i : ℕ) → length s - i ≤ n → literal_end s i ≡ literal_end s (past plain s i)
unfolding literal_end
end-behind zero s i h = rw (past_end plain s i (omega (arith, h))) refl
end-behind (suc n) s i h =
    split (ltb i (length s))
    (λ l. split (plain (get_or s i 0))
    (λ p. rw (past_more plain s i (ltb-true _ _ l) p, plain-units s i (ltb-true _ _ l) p) (end-behind n s (i + 1) (omega (arith, h, ltb-true i (length s) l))))
    (λ p. rw (past_stop plain s i (ltb-true _ _ l) p) refl))
    (λ l. rw (past_end plain s i (ltb-false _ _ l)) refl)

pub end-plain : (s : List ℕ) (i : ℕ) → literal_end s i ≡ literal_end s (past plain s i)
end-plain s i = end-behind (length s - i) s i (omega arith)

-- the closing quote
module _ (s : List ℕ) (e : ℕ) (q : get_or s e 0 ≡ 34) where
  pub quote-within : e < length s
  quote-within = byte-within s e (λ z. let no : ⊥ = omega (arith, q, z) in no)

  quote-unit : unit_at s e ≡ closes
  unfolding unit_at
  quote-unit = simp (lt-leb _ _ quote-within, eq-eqb _ _ q)

  pub quote-units : units_at s e ≡ closes ∷ []
  quote-units = let k : GIVES < kind (unit_at s e) = rw quote-unit (omega arith) in rw quote-unit at (units-last s e k)

  pub end-quote : literal_end s e ≡ e + 1
  unfolding literal_end
  end-quote = rw quote-units refl

-- what plain bytes up to a closing quote give is what they are
Whole : List ℕ → ℕ → ℕ → Type 0
Whole s i e = get_or s e 0 ≡ 34 → given (units_at s i) ≡ take (e - i) (drop i s)

whole-none : (s : List ℕ) (i : ℕ) → Whole s i i
unfolding Whole
whole-none s i q = let z : i - i ≡ 0 = omega arith in rw (quote-units s i q, z) refl

whole-more : (s : List ℕ) (i e : ℕ) → i < length s → plain (get_or s i 0) ≡ true → i + 1 ≤ e → Whole s (i + 1) e → Whole s i e
unfolding Whole
whole-more s i e h p l w q =
    let z : e - i ≡ suc (e - suc i) = omega arith in
    rw (plain-units s i h p, z, drop-cons s i 0 h, add-one i) (ap (λ (xs : List ℕ). get_or s i 0 ∷ xs) (rw (add-one i) at (w q)))

whole-behind : (n : ℕ) (s : List ℕ) (i : ℕ) → length s - i ≤ n → Whole s i (past plain s i)
whole-behind zero s i h = rw (past_end plain s i (omega (arith, h))) (whole-none s i)
whole-behind (suc n) s i h =
    split (ltb i (length s))
    (λ l. split (plain (get_or s i 0))
    (λ p. rw (past_more plain s i (ltb-true _ _ l) p) (whole-more s i _ (ltb-true _ _ l) p (past-from plain s (i + 1)) (whole-behind n s (i + 1) (omega (arith, h, ltb-true i (length s) l)))))
    (λ p. rw (past_stop plain s i (ltb-true _ _ l) p) (whole-none s i)))
    (λ l. rw (past_end plain s i (ltb-false _ _ l)) (whole-none s i))

pub given-plain : (s : List ℕ) (i : ℕ) → get_or s (past plain s i) 0 ≡ 34 → given (units_at s i) ≡ take (past plain s i - i) (drop i s)
unfolding Whole
given-plain s i = whole-behind (length s - i) s i (omega arith)

-- where the literal at `start` closes, if it holds plain bytes only
unfoldable pub bare_end : List ℕ → ℕ → Option ℕ
bare_end s start = pick (eqb (get_or s (past plain s (start + 1)) 0) 34) (Some (past plain s (start + 1))) None

Bare : List ℕ → ℕ → Option ℕ → Type 0
Bare s start r = (e : ℕ) → Some e ≡ r → (start + 1 ≤ e) × (e ≤ length s) × (decoded_at s start ≡ take (e - (start + 1)) (drop (start + 1) s))

-- it gives the bytes up to there
bare-decoded : (s : List ℕ) (start : ℕ) → Bare s start (bare_end s start)
unfolding bare_end Bare decoded_at
bare-decoded s start =
    chosen (Bare s start) (eqb (get_or s (past plain s (start + 1)) 0) 34) (Some (past plain s (start + 1))) None
    (λ q e z.
    let f : get_or s (past plain s (start + 1)) 0 ≡ 34 = eqb-true _ _ q in
    let k : e ≡ past plain s (start + 1) = cc z in
    rw k (past-from plain s (start + 1), omega (arith, quote-within s (past plain s (start + 1)) f), given-plain s (start + 1) f))
    (λ q e z. cc z)

-- a place that was found
module _ (s : List ℕ) (start e : ℕ) (r : Option ℕ) (re : r ≡ bare_end s start) (is : r ≡ Some e) where
  bare : (start + 1 ≤ e) × (e ≤ length s) × (decoded_at s start ≡ take (e - (start + 1)) (drop (start + 1) s))
  unfolding Bare
  bare = bare-decoded s start e (sym is ∙ re)

  pub bare-from : start + 1 ≤ e
  bare-from = bare.0

  pub bare-within : e ≤ length s
  bare-within = bare.1

  pub bare-given : decoded_at s start ≡ take (e - (start + 1)) (drop (start + 1) s)
  bare-given = bare.2

  pub bare-fits : length s < 2 ^ 64 → Fits w64 (start + 1)
  bare-fits l = let k : start + 1 ≤ length s = omega (arith, bare-from, bare-within) in record { fits = lt_of_le_of_lt k l }

-- a plain byte is given
pub plain-some : (s : List ℕ) (start : ℕ) → plain (get_or s (start + 1) 0) ≡ true → 1 ≤ length (decoded_at s start)
unfolding decoded_at plain barred
plain-some s start p =
    let h : start + 1 < length s = byte-within s (start + 1) (λ z. clash p (rw z refl)) in
    rw (plain-units s (start + 1) h p) (omega arith)
