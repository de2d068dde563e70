-- The operations on places tell what the calls on contents give. Assumes nothing.
use Rattle.std.specs.Prelude.{◌≡◌, ℕ, ◌+◌, ◌-◌, ◌≤◌, eqb, ltb, length}
use Rattle.std.proofs.Math.Path.{refl, sym, ap, subst}
use Rattle.std.proofs.Common.{◌∙◌}
use Rattle.std.proofs.Math.Bool.{true, false}
use mathlib.Core.List.{List, map}
use Rattle.std.proofs.Math.Dec.{leb}
use borrow.Author.Tests.{ltb-true, ltb-false, eqb-true, eqb-false}
use Rattle.text.specs.Choice.{split}
use Rattle.register.specs.Entries.{Entry, free, held, known, moves_of, principals, added, replaced, gained, lost}
use Rattle.register.specs.Calls as calls
use Rattle.register.specs.Calls.{Call, issues, passes, spends, removes, damaged, outside, bad_amount, unknown, exceeding, over_issue, crowded, holding, effect, Outcome, called}
use Rattle.register.specs.Find.{find}
use Rattle.register.specs.Told.{entry_of, contents, Tells}
use Rattle.register.specs.Theorems.Entries.{moves-other}
use Rattle.register.specs.Theorems.Find.{find-replaced}
use Rattle.register.specs.Theorems.Oneself.{gained-lost}
use Rattle.register.specs.Working.Places.{Made, after_of, known_place, credit_of, free_place, nobody, at, found, free_from, sound, amount, moves_at, with_moves, with_new, with_issued, issue_of, spend_of, pass_at, pass_of, remove_of}
use Rattle.register.specs.Working.Ways.{holds}
use Rattle.register.specs.Working.Ties.{found-is, room-is, amount-is}
use Rattle.register.specs.declared.Place.{Place}
use Rattle.register.specs.declared.Register.{Register}
use Rattle.register.specs.declared.After.{After}
use Rattle.register.specs.declared.Found.TheVariants.{At}
use Rattle.register.specs.Working.Operations.{by-found, contents-are, entries, freed-told, known-missing, known_at, moves-at, moves-issued, moves-told, new-issued, new_told, no_of, sound-no, sound-yes, tells, made_told, yes_of}

module _ (r : Register) (e : length r.places ≡ 64) where
  abbrev Says : Call → Made → Type 0
  Says c m = made_told m ≡ called (contents r) c

  spend-says : (x n : ℕ) → Says (spends x n) (spend_of r x n)
  unfolding spend_of known_place called bad_amount unknown exceeding over_issue crowded holding effect contents
  spend-says x n =
      split (sound r)
      (λ t. let d : damaged (contents r) ≡ false = sound-no r e t in
      split (amount n)
      (λ u. let o : outside n ≡ false = no_of (amount n) _ (amount-is n) u in
      by-found (found r.places x)
      (λ i w f. let k : known x (entries r) ≡ true = known_at r e x i w f in
      let m : moves_at r i ≡ moves_of x (entries r) = moves-at r e x i w f in
      split (ltb (moves_of x (entries r)) n)
      (λ v. rw (t, u, f, m, d, o, k, v) refl)
      (λ v. let q : contents (with_moves r i (moves_of x (entries r) - n)) ≡ record { entries = lost x n (entries r); issued = r.issued }
      = contents-are (with_moves r i (moves_of x (entries r) - n)) _ _ (moves-told r e x i w (moves_of x (entries r) - n) f).0 (moves-issued r e i (moves_of x (entries r) - n)) in
      rw (t, u, f, m, d, o, k, v) (ap calls.granted q)))
      (λ w f. let k : known x (entries r) ≡ false = known-missing r e x w f in rw (t, u, f, d, o, k) refl))
      (λ u. let o : outside n ≡ true = yes_of (amount n) _ (amount-is n) u in rw (t, u, d, o) refl))
      (λ t. let d : damaged (contents r) ≡ true = sound-yes r e t in rw (t, d) refl)

  issue-says : (x n : ℕ) → Says (issues x n) (issue_of r x n)
  unfolding issue_of credit_of free_place called bad_amount unknown exceeding over_issue crowded holding effect contents with_issued
  issue-says x n =
      split (sound r)
      (λ t. let d : damaged (contents r) ≡ false = sound-no r e t in
      split (amount n)
      (λ u. let o : outside n ≡ false = no_of (amount n) _ (amount-is n) u in
      split (ltb 1000000 (r.issued + n))
      (λ v. rw (t, u, v, d, o) refl)
      (λ v. by-found (found r.places x)
      (λ i w f. let k : known x (entries r) ≡ true = known_at r e x i w f in
      let m : moves_at r i ≡ moves_of x (entries r) = moves-at r e x i w f in
      let q : contents (with_issued (with_moves r i (moves_of x (entries r) + n)) (r.issued + n)) ≡ record { entries = gained x n (entries r); issued = r.issued + n }
      = contents-are (with_issued (with_moves r i (moves_of x (entries r) + n)) (r.issued + n)) _ _ (moves-told r e x i w (moves_of x (entries r) + n) f).0 refl in
      rw (t, u, v, f, m, d, o, k) (ap calls.granted q))
      (λ w f. let k : known x (entries r) ≡ false = known-missing r e x w f in
      split (ltb (free_from r.places 0) 64)
      (λ y. let b : leb 64 (principals (entries r)) ≡ false = no_of (ltb (free_from r.places 0) 64) _ (room-is r.places e) y in
      let p : Place = record { held = true; principal = x; moves = n } in
      let q : contents (with_issued (with_new r (free_from r.places 0) (record { held = true; principal = x; moves = n })) (r.issued + n)) ≡ record { entries = added x n (entries r); issued = r.issued + n }
      = contents-are (with_issued (with_new r (free_from r.places 0) (record { held = true; principal = x; moves = n })) (r.issued + n)) _ _ (new_told r e x n (ltb-true _ _ y)) refl in
      rw (t, u, v, f, y, d, o, k, b) (ap calls.granted q))
      (λ y. let b : leb 64 (principals (entries r)) ≡ true = yes_of (ltb (free_from r.places 0) 64) _ (room-is r.places e) y in
      rw (t, u, v, f, y, d, o, k, b) refl))))
      (λ u. let o : outside n ≡ true = yes_of (amount n) _ (amount-is n) u in rw (t, u, d, o) refl))
      (λ t. let d : damaged (contents r) ≡ true = sound-yes r e t in rw (t, d) refl)

  remove-says : (x : ℕ) → Says (removes x) (remove_of r x)
  unfolding remove_of known_place called bad_amount unknown exceeding over_issue crowded holding effect contents
  remove-says x =
      split (sound r)
      (λ t. let d : damaged (contents r) ≡ false = sound-no r e t in
      by-found (found r.places x)
      (λ i w f. let k : known x (entries r) ≡ true = known_at r e x i w f in
      let m : moves_at r i ≡ moves_of x (entries r) = moves-at r e x i w f in
      split (ltb 0 (moves_of x (entries r)))
      (λ v. rw (t, f, m, d, k, v) refl)
      (λ v. let q : contents (with_new r i nobody) ≡ record { entries = replaced x free (entries r); issued = r.issued }
      = contents-are (with_new r i nobody) _ _ (freed-told r e x i w f) (new-issued r e i nobody) in
      rw (t, f, m, d, k, v) (ap calls.granted q)))
      (λ w f. let k : known x (entries r) ≡ false = known-missing r e x w f in rw (t, f, d, k) refl))
      (λ t. let d : damaged (contents r) ≡ true = sound-yes r e t in rw (t, d) refl)

  -- passing between the places found
  same-principal : (x y i w j v : ℕ) → found r.places x ≡ At i w → found r.places y ≡ At j v → i ≡ j → x ≡ y
  same-principal x y i w j v f g h =
      let a = holds r.places x i w f in
      let b = holds r.places y j v g in
      sym a.named ∙ ap (λ (k : ℕ). (at r.places k).principal) h ∙ b.named

  same_place : (x y i w j v : ℕ) → found r.places x ≡ At i w → found r.places y ≡ At j v → x ≡ y → i ≡ j
  same_place x y i w j v f g h = place_of (sym f ∙ ap (λ (z : ℕ). found r.places z) h ∙ g)
    where
      place_of : {i w j v : ℕ} → At i w ≡ At j v → i ≡ j
      place_of k = cc

  passed-told : (x y n i w j v : ℕ) → found r.places x ≡ At i w → found r.places y ≡ At j v → (i ≡ j → ⊥)
      → map entry_of (with_moves (with_moves r i (moves_of x (entries r) - n)) j (moves_at r j + n)).places ≡ gained y n (lost x n (entries r))
  passed-told x y n i w j v f g d =
      let k : ℕ = moves_of x (entries r) - n in
      let q : Register = with_moves r i (moves_of x (entries r) - n) in
      let t = moves-told r e x i w (moves_of x (entries r) - n) f in
      let h : found (with_moves r i (moves_of x (entries r) - n)).places y ≡ At j v
      = found-is (with_moves r i (moves_of x (entries r) - n)).places t.1 y ∙ ap (λ (l : List Entry). find l y) t.0
      ∙ find-replaced x (moves_of x (entries r) - n) (entries r) y ∙ sym (found-is r.places e y) ∙ g in
      let o : x ≡ y → ⊥ = λ s. d (same_place x y i w j v f g s) in
      let m : moves_at r j ≡ moves_of y (lost x n (entries r))
      = moves-at r e y j v g ∙ sym (moves-other x (moves_of x (entries r) - n) y o (entries r)) in
      let u = moves-told (with_moves r i (moves_of x (entries r) - n)) t.1 y j v (moves_at r j + n) h in
      u.0 ∙ ap (λ (l : List Entry). replaced y (held y (moves_at r j + n)) l) t.0
      ∙ ap (λ (z : ℕ). replaced y (held y (z + n)) (lost x n (entries r))) m

  pass-says : (x y n : ℕ) → Says (passes x y n) (pass_of r x y n)
  unfolding pass_of pass_at known_place called bad_amount unknown exceeding over_issue crowded holding effect contents
  pass-says x y n =
      split (sound r)
      (λ t. let d : damaged (contents r) ≡ false = sound-no r e t in
      split (amount n)
      (λ u. let o : outside n ≡ false = no_of (amount n) _ (amount-is n) u in
      by-found (found r.places x)
      (λ i w f. let k : known x (entries r) ≡ true = known_at r e x i w f in
      let m : moves_at r i ≡ moves_of x (entries r) = moves-at r e x i w f in
      by-found (found r.places y)
      (λ j v g. let ky : known y (entries r) ≡ true = known_at r e y j v g in
      split (ltb (moves_of x (entries r)) n)
      (λ z. rw (t, u, f, g, m, d, o, k, ky, z) refl)
      (λ z. let b : n ≤ moves_of x (entries r) = ltb-false _ _ z in
      split (eqb i j)
      (λ p. let s : x ≡ y = same-principal x y i w j v f g (eqb-true i j p) in
      let l : gained y n (lost x n (entries r)) ≡ entries r
      = subst (λ (a : ℕ). gained a n (lost x n (entries r)) ≡ entries r) s (gained-lost x n (entries r) k b) in
      rw (t, u, f, g, m, d, o, k, ky, z, p) (ap (λ (a : List Entry). calls.granted (record { entries = a; issued = r.issued })) (sym l)))
      (λ p. let q : contents (with_moves (with_moves r i (moves_of x (entries r) - n)) j (moves_at r j + n)) ≡ record { entries = gained y n (lost x n (entries r)); issued = r.issued }
      = contents-are (with_moves (with_moves r i (moves_of x (entries r) - n)) j (moves_at r j + n)) _ _ (passed-told x y n i w j v f g (eqb-false i j p))
      (moves-issued (with_moves r i (moves_of x (entries r) - n)) (moves-told r e x i w (moves_of x (entries r) - n) f).1 j (moves_at r j + n)
      ∙ moves-issued r e i (moves_of x (entries r) - n)) in
      rw (t, u, f, g, m, d, o, k, ky, z, p) (ap calls.granted q))))
      (λ v g. let ky : known y (entries r) ≡ false = known-missing r e y v g in rw (t, u, f, g, d, o, k, ky) refl))
      (λ w f. let k : known x (entries r) ≡ false = known-missing r e x w f in rw (t, u, f, d, o, k) refl))
      (λ u. let o : outside n ≡ true = yes_of (amount n) _ (amount-is n) u in rw (t, u, d, o) refl))
      (λ t. let d : damaged (contents r) ≡ true = sound-yes r e t in rw (t, d) refl)

module _ (r : Register) (e : length r.places ≡ 64) (a : After) (m : Made) (ae : a ≡ after_of r m) where
  pub issue-tells : (x n : ℕ) → m ≡ issue_of r x n → Tells r a (called (contents r) (issues x n))
  issue-tells x n h = tells r a m _ _ ae h (issue-says r e x n)

  pub pass-tells : (x y n : ℕ) → m ≡ pass_of r x y n → Tells r a (called (contents r) (passes x y n))
  pass-tells x y n h = tells r a m _ _ ae h (pass-says r e x y n)

  pub spend-tells : (x n : ℕ) → m ≡ spend_of r x n → Tells r a (called (contents r) (spends x n))
  spend-tells x n h = tells r a m _ _ ae h (spend-says r e x n)

  pub remove-tells : (x : ℕ) → m ≡ remove_of r x → Tells r a (called (contents r) (removes x))
  remove-tells x h = tells r a m _ _ ae h (remove-says r e x)
