-- How long the report is, and what stands where. Assumes nothing.
use Rattle.std.specs.Prelude.{◌≡◌, refl, List, [], ◌∷◌, map, ℕ, zero, suc, ◌+◌, ◌*◌, ◌/◌, ◌%◌, length, get_or}
use Rattle.std.proofs.Common.{ap, ◌∙◌, arith}
use Rattle.std.proofs.Math.Option.{some}
use Rattle.std.proofs.Math.ListN.{get_elem?}
use Rattle.std.proofs.lemmas.List.{length-map}
use Rattle.text.specs.Counted.{pair_at, pair_bytes}
use Rattle.record.specs.Query.{Query}
use Rattle.assertion.specs.Read.{Read}
use Rattle.keynote.specs.Answer.{reading, readings}
use Rattle.keynote.specs.Outcome.{needed}
use Rattle.keynote.specs.Report.{reason_of, place_of, entry_bytes, entries_bytes, report, report_size}

pub entries-length : (l : List Read) → length (entries_bytes l) ≡ 3 * length l
unfolding entries_bytes entry_bytes pair_bytes
entries-length [] = refl
entries-length (r ∷ l) = omega (arith, entries-length l)

-- "3 + 3n bytes"
pub report-length : (l : List Read) → length (report l) ≡ report_size (length l)
unfolding report report_size pair_bytes
report-length l = omega (arith, entries-length l)

pub report-needed : (q : Query) → length (report (readings q)) ≡ needed q
unfolding needed readings
report-needed q = report-length (map (reading q) q.assertions) ∙ ap report_size (length-map q.assertions (reading q))

-- the reason and the place that stand behind a head
get_d-behind : (a b c i : ℕ) (l : List ℕ) → get_or (a ∷ b ∷ c ∷ l) (3 + i) 0 ≡ get_or l i 0
get_d-behind a b c i l = rw (ap (λ (j : ℕ). get_or (a ∷ b ∷ c ∷ l) j 0) (z i))
  where
    z : (i : ℕ) → 3 + i ≡ suc (suc (suc i))
    z i = omega arith

-- a part of a list that starts behind three others
at-behind : (l m : List ℕ) (a b c i j : ℕ) → m ≡ a ∷ b ∷ c ∷ l → j ≡ 3 + i → get_or m j 0 ≡ get_or l i 0
at-behind l m a b c i j e f = rw (e, f) (get_d-behind a b c i l)

entry_at : (l : List Read) (i : ℕ) (r : Read) → get_elem? l i ≡ some r
    → (get_or (entries_bytes l) (3 * i) 0 ≡ reason_of r) × ((get_or (entries_bytes l) (3 * i + 1) 0 ≡ place_of r / 256) × (get_or (entries_bytes l) (3 * i + 2) 0 ≡ place_of r % 256))
unfolding entries_bytes entry_bytes pair_bytes
entry_at [] i r e = let z : ◌≡◌ {A = ℕ} 0 1 = cc in absurd (omega arith)
entry_at (x ∷ l) zero r e = let z : x ≡ r = cc in (ap reason_of z, (ap (λ y. place_of y / 256) z, ap (λ y. place_of y % 256) z))
entry_at (x ∷ l) (suc i) r e =
    let (f, (g, h)) = entry_at l i r e in (
      at-behind (entries_bytes l) _ _ _ _ (3 * i) (3 * suc i) refl (omega arith) ∙ f,
      (
        at-behind (entries_bytes l) _ _ _ _ (3 * i + 1) (3 * suc i + 1) refl (omega arith) ∙ g,
        at-behind (entries_bytes l) _ _ _ _ (3 * i + 2) (3 * suc i + 2) refl (omega arith) ∙ h,
      ),
    )

-- entry i: "a reason byte and a two-byte place"
pub record Entry (bytes : List ℕ) (i : ℕ) (r : Read) : Type 0 where
  pub reason : get_or bytes (3 + 3 * i) 0 ≡ reason_of r
  pub place : pair_at bytes (3 + 3 * i + 1) ≡ place_of r

pub report-head : (l : List Read) → (get_or (report l) 0 0 ≡ 1) × (pair_at (report l) 1 ≡ 3 * length l)
unfolding report pair_bytes pair_at
report-head l = (refl, omega arith)

pub report-entry : (l : List Read) (i : ℕ) (r : Read) → get_elem? l i ≡ some r → Entry (report l) i r
unfolding report pair_bytes pair_at
report-entry l i r e =
    let (f, (g, h)) = entry_at l i r e in
    let g' : get_or (report l) (3 + 3 * i + 1) 0 ≡ place_of r / 256 = at-behind (entries_bytes l) (report l) _ _ _ (3 * i + 1) (3 + 3 * i + 1) refl (omega arith) ∙ g in
    let h' : get_or (report l) (3 + 3 * i + 1 + 1) 0 ≡ place_of r % 256 = at-behind (entries_bytes l) (report l) _ _ _ (3 * i + 2) (3 + 3 * i + 1 + 1) refl (omega arith) ∙ h in
    record { reason = at-behind (entries_bytes l) (report l) _ _ _ (3 * i) (3 + 3 * i) refl (omega arith) ∙ f; place = omega (arith, g', h') }
