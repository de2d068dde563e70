-- The report as it is written on the page: its first three bytes, then an entry for each assertion. Assumes nothing.
use Rattle.std.specs.Prelude.{◌≡◌, refl, List, [], ◌∷◌, ◌++◌, ℕ, suc, ◌+◌, ◌*◌, ◌/◌, ◌%◌, ◌≤◌, length, drop}
use Rattle.std.proofs.Common.{sym, ap, ◌∙◌, arith, length-append, length-drop, take_at, drop-drop, le-ltb}
use Rattle.std.proofs.Math.Seq.{drop-append-add}
use Rattle.limits.specs.Limits.{most_assertions}
use Rattle.text.specs.Copy.{put}
use Rattle.assertion.specs.Read.{Read}
use Rattle.system.specs.Working.Noting.{entry_into, header_into}
use Rattle.text.specs.Counted.{pair_bytes}
use Rattle.keynote.specs.Report.{reason_of, place_of, entry_bytes}
use Rattle.syntax.specs.Working.Faults.{against}
use Rattle.keynote.specs.Theorems.PlacesAssertion.{Small}

-- the first three bytes
pub header_is : (page : List ℕ) (n : ℕ) → 3 ≤ length page → n ≤ most_assertions → header_into page n ≡ (1 ∷ pair_bytes (3 * n)) ++ drop 3 page
unfolding header_into put pair_bytes
header_is page n h k =
    let m : n % 65536 ≡ n = omega (arith, k) in
    let a : 3 * n / 256 % 256 ≡ 3 * n / 256 = omega (arith, k) in
    rw (le-ltb (length page) 3 h, m, a)

-- what is put behind a front
put-behind : (front rest w : List ℕ) (at : ℕ) → length front ≡ at → put (front ++ rest) at w ≡ (front ++ w) ++ drop (length w) rest
unfolding put
put-behind front rest w at e =
    let d : drop (at + length w) (front ++ rest) ≡ drop (length w) rest = ap (λ (n : ℕ). drop (n + length w) (front ++ rest)) (sym e) ∙ drop-append-add front rest (length w) in
    rw (take_at front rest at e, d)

entry-long : (r : Read) → length (entry_bytes r) ≡ 3
unfolding entry_bytes pair_bytes
entry-long r = refl

pub front_long : (front : List ℕ) (i : ℕ) (r : Read) → length front ≡ 3 + 3 * i → length (front ++ entry_bytes r) ≡ 3 + 3 * suc i
front_long front i r e = omega (arith, e, length-append front (entry_bytes r), entry-long r)

-- an entry behind those that are there
pub entry-is : (front page : List ℕ) (i : ℕ) (r : Read) → length front ≡ 3 + 3 * i → 3 * i + 6 ≤ length page → Small r
    → entry_into (front ++ drop (3 + 3 * i) page) i (against (reason_of r) (place_of r)) ≡ (front ++ entry_bytes r) ++ drop (3 + 3 * suc i) page
unfolding entry_into entry_bytes pair_bytes
entry-is front page i r e h k =
    let a : place_of r / 256 % 256 ≡ place_of r / 256 = omega (arith, k.place) in
    let b : reason_of r % 256 ≡ reason_of r = omega (arith, k.reason) in
    let l : 3 * i + 6 ≤ length (front ++ drop (3 + 3 * i) page) = omega (arith, e, h, length-append front (drop (3 + 3 * i) page), length-drop (3 + 3 * i) page) in
    let z : 3 + 3 * i + 3 ≡ 3 + 3 * suc i = omega arith in
    let d : drop 3 (drop (3 + 3 * i) page) ≡ drop (3 + 3 * suc i) page = drop-drop 3 (3 + 3 * i) page ∙ ap (λ (n : ℕ). drop n page) z in
    rw (le-ltb (length (front ++ drop (3 + 3 * i) page)) (3 * i + 6) l, a, b)
    (put-behind front (drop (3 + 3 * i) page) (reason_of r ∷ place_of r / 256 ∷ place_of r % 256 ∷ []) (3 + 3 * i) e
    ∙ ap (λ (m : List ℕ). (front ++ (reason_of r ∷ place_of r / 256 ∷ place_of r % 256 ∷ [])) ++ m) d)
