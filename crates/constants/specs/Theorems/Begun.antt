-- A buffer of constants that has begun shows the two joined texts, whatever stands behind them. Assumes nothing.
use Rattle.std.specs.Prelude.{◌≡◌, refl, List, ◌++◌, ℕ, suc, ◌+◌, ◌-◌, ◌*◌, ◌/◌, ◌%◌, ◌≤◌, leb, ltb, length, get_or, take, drop}
use Rattle.std.proofs.Common.{sym, ap, ◌∙◌, append_assoc, arith, add-zero, length-append, length-drop, take-append-drop, drop-drop, get_or-drop, take_at, length-take-le, le-ltb, ne_eqb, leb-true, ltb-false}
use Rattle.std.proofs.Math.Seq.{take-append_seam, drop-append_seam}
use Rattle.text.specs.Choice.{split}
use Rattle.text.specs.Copy.{put}
use Rattle.text.specs.Counted.{part, pair_at, counted}
use Rattle.record.specs.Encode.{string_bytes, attribute_bytes}
use Rattle.record.specs.Query.{Attribute}
use Rattle.record.specs.Lies.{AttributeAt}
use Rattle.constants.specs.Constants.{written, counted_into, begun_into}

string-length : (a : List ℕ) → length (string_bytes a) ≡ 2 + length a
unfolding string_bytes
string-length a = omega arith

-- a string that stands behind its length is the counted one there
pub counted_is : (d : List ℕ) (at : ℕ) (b rest : List ℕ) → length b ≤ 65535 → drop at d ≡ string_bytes b ++ rest → counted d (at + 2) ≡ b
unfolding counted part pair_at string_bytes
counted_is d at b rest h e =
    let n : length d - at ≡ suc (suc (length (b ++ rest))) = sym (length-drop at d) ∙ ap length e in
    let l : length (b ++ rest) ≡ length b + length rest = length-append b rest in
    let z : at + 0 ≡ at = add-zero at in
    let x : get_or d at 0 ≡ length b / 256 = rw (← z) (sym (get_or-drop at d 0 0) ∙ ap (λ (y : List ℕ). get_or y 0 0) e) in
    let y : get_or d (at + 1) 0 ≡ length b % 256 = sym (get_or-drop at d 1 0) ∙ ap (λ (y : List ℕ). get_or y 1 0) e in
    let p : at + 2 - 2 ≡ at = omega arith in
    let s : length b / 256 * 256 + length b % 256 ≡ length b = omega arith in
    let t : drop (at + 2) d ≡ b ++ rest = sym (drop-drop 2 at d) ∙ ap (drop 2) e in
    rw (le-ltb (at + 2) 2 (omega arith), le-ltb (length d) (at + 2) (omega arith), p, x, y, s, le-ltb (length d - (at + 2)) (length b) (omega arith), t)
    (take-append_seam b rest)

-- the buffer begins with the two strings: both are shown
pub shows-two : (d a b rest : List ℕ) → length a ≤ 65535 → length b ≤ 65535 → d ≡ string_bytes a ++ (string_bytes b ++ rest)
    → (counted d 2 ≡ a) × (counted d (2 + length a + 2) ≡ b)
shows-two d a b rest ha hb e =
    let k : length (string_bytes a) ≡ 2 + length a = string-length a in
    let t : drop (2 + length a) d ≡ string_bytes b ++ rest = ap (λ (n : ℕ). drop n d) (sym k) ∙ ap (drop (length (string_bytes a))) e ∙ drop-append_seam (string_bytes a) (string_bytes b ++ rest) in
    (counted_is d 0 a (string_bytes b ++ rest) ha e, counted_is d (2 + length a) b rest hb t)

written_is : {p r : ℕ} {d e : List ℕ} → written p d ≡ written r e → (p ≡ r) × (d ≡ e)
written_is e = (cc, cc)

-- a string that was written
pub record Wrote (dst : List ℕ) (at : ℕ) (b : List ℕ) (r : ℕ) (d : List ℕ) : Type 0 where
  pub short : length b ≤ 65535
  pub fits : at + 2 + length b ≤ length dst
  pub behind : r ≡ at + 2 + length b
  pub is : d ≡ put dst at (string_bytes b)

wrote : (dst : List ℕ) (at : ℕ) (b : List ℕ) (r : ℕ) (d : List ℕ) → written r d ≡ counted_into dst at b → (r ≡ 0 → ⊥) → Wrote dst at b r d
unfolding counted_into
wrote dst at b r d e nz =
    split (ltb 65535 (length b))
    (λ f. let q : written r d ≡ written 0 dst = rw f at e in absurd (nz (written_is q).0))
    (λ f. split (leb (at + 2 + length b) (length dst))
    (λ g. let q : written r d ≡ written (at + 2 + length b) (put dst at (string_bytes b)) = rw (f, g) at e in
    record { short = ltb-false _ _ f; fits = leb-true _ _ g; behind = (written_is q).0; is = (written_is q).1 })
    (λ g. let q : written r d ≡ written 0 dst = rw (f, g) at e in absurd (nz (written_is q).0)))

first-wrote : (dst a b : List ℕ) (r : ℕ) (d : List ℕ) → written r d ≡ begun_into dst a b → (r ≡ 0 → ⊥)
    → Wrote dst 0 a (0 + 2 + length a) (put dst 0 (string_bytes a)) × Wrote (put dst 0 (string_bytes a)) (0 + 2 + length a) b r d
unfolding begun_into counted_into
first-wrote dst a b r d e nz =
    split (ltb 65535 (length a))
    (λ f. let q : written r d ≡ written 0 dst = rw f at e in absurd (nz (written_is q).0))
    (λ f. split (leb (0 + 2 + length a) (length dst))
    (λ g. let q : written r d ≡ counted_into (put dst 0 (string_bytes a)) (0 + 2 + length a) b = rw (f, g, ne_eqb (0 + 2 + length a) 0 (λ z. omega arith)) at e in
    (record { short = ltb-false _ _ f; fits = leb-true _ _ g; behind = refl; is = refl }, wrote (put dst 0 (string_bytes a)) (0 + 2 + length a) b r d q nz))
    (λ g. let q : written r d ≡ written 0 dst = rw (f, g) at e in absurd (nz (written_is q).0)))

put-behind : (d s : List ℕ) (at : ℕ) → at + length s ≤ length d → take (at + length s) (put d at s) ≡ take at d ++ s
unfolding put
put-behind d s at h =
    let l : length (take at d ++ s) ≡ at + length s = length-append (take at d) s ∙ ap (λ (n : ℕ). n + length s) (length-take-le at d (omega arith)) in
    take_at (take at d ++ s) (drop (at + length s) d) (at + length s) l

-- where the code's answer is not 0, the buffer up to there is the two texts, each behind its length
pub begun-is : (dst a b : List ℕ) (r : ℕ) (d : List ℕ) → written r d ≡ begun_into dst a b → (r ≡ 0 → ⊥)
    → (take r d ≡ string_bytes a ++ string_bytes b) × ((length a ≤ 65535) × (length b ≤ 65535))
begun-is dst a b r d e nz =
    let w = first-wrote dst a b r d e nz in
    let one = w.0 in
    let two = w.1 in
    let la : length (string_bytes a) ≡ 2 + length a = string-length a in
    let lb : length (string_bytes b) ≡ 2 + length b = string-length b in
    let p : 0 + 2 + length a ≡ 0 + length (string_bytes a) = omega arith in
    let f : take (0 + 2 + length a) (put dst 0 (string_bytes a)) ≡ string_bytes a
    = ap (λ (n : ℕ). take n (put dst 0 (string_bytes a))) p ∙ put-behind dst (string_bytes a) 0 (omega (arith, one.fits)) in
    let q : r ≡ 0 + 2 + length a + length (string_bytes b) = omega (arith, two.behind) in
    let g : take r d ≡ take (0 + 2 + length a) (put dst 0 (string_bytes a)) ++ string_bytes b
    = ap (λ (n : ℕ). take n d) q ∙ ap (take (0 + 2 + length a + length (string_bytes b))) two.is
    ∙ put-behind (put dst 0 (string_bytes a)) (string_bytes b) (0 + 2 + length a) (omega (arith, two.fits)) in
    (g ∙ ap (λ (x : List ℕ). x ++ string_bytes b) f, (one.short, two.short))

-- so it shows them, and goes on to do so whatever is written behind
pub begun-shows : (d a b : List ℕ) (r : ℕ) → take r d ≡ string_bytes a ++ string_bytes b → length a ≤ 65535 → length b ≤ 65535
    → (counted d 2 ≡ a) × (counted d (2 + length a + 2) ≡ b)
begun-shows d a b r e ha hb =
    shows-two d a b (drop r d) ha hb (sym (take-append-drop r d) ∙ ap (λ (x : List ℕ). x ++ drop r d) e ∙ append_assoc (string_bytes a) (string_bytes b) (drop r d))

-- a constant's name and value, one behind the other and each behind its length, lie there as an attribute's do
pub attribute-is : (d : List ℕ) (at : ℕ) (a : Attribute) (rest : List ℕ) → length a.name ≤ 65535 → length a.value ≤ 65535
    → drop at d ≡ attribute_bytes a ++ rest → AttributeAt d (at + 2) a
unfolding attribute_bytes
attribute-is d at a rest hn hv e =
    let f : drop at d ≡ string_bytes a.name ++ (string_bytes a.value ++ rest) = e ∙ append_assoc (string_bytes a.name) (string_bytes a.value) rest in
    let k : at + length (string_bytes a.name) ≡ at + 2 + length a.name = omega (arith, string-length a.name) in
    let t : drop (at + 2 + length a.name) d ≡ string_bytes a.value ++ rest
    = ap (λ (n : ℕ). drop n d) (sym k) ∙ sym (drop-drop (length (string_bytes a.name)) at d) ∙ ap (drop (length (string_bytes a.name))) f
    ∙ drop-append_seam (string_bytes a.name) (string_bytes a.value ++ rest) in
    (counted_is d at a.name (string_bytes a.value ++ rest) hn f, counted_is d (at + 2 + length a.name) a.value rest hv t)
