-- Over any sequence of calls from an empty register, the moves held are those issued less those spent, and number 20 is never given.
-- Assumes nothing.
use Rattle.std.specs.Prelude.{◌≡◌, refl, List, [], ◌∷◌, ℕ, ◌+◌, ◌-◌, ◌<◌, ◌≤◌, ltb}
use Rattle.std.proofs.Common.{◌∙◌}
use Rattle.std.proofs.Math.Bool.{true, false}
use native.Mathlib.Omega.{arith}
use Rattle.std.proofs.Math.Dec.{leb}
use Rattle.std.proofs.Math.ListN.{length}
use borrow.Author.Tests.{ltb-false, leb-false}
use Rattle.text.specs.Choice.{split}
use Rattle.register.specs.Limits.{most_principals, most_moves}
use Rattle.register.specs.Entries.{Entry, free, Contents, empty, known, moves_of, total, principals, twice, added, replaced, gained, lost}
use Rattle.register.specs.Calls.{Call, issues, passes, spends, removes, damaged, outside, bad_amount, unknown, exceeding, over_issue, crowded, holding, effect, called, left, ran}
use Rattle.register.specs.Theorems.Entries.{known-replaced, twice-replaced, total-replaced, length-replaced, total-freed, twice-freed, total-added, length-added, twice-added}
use Rattle.register.specs.Theorems.Conservation.{Kept, Sound, empty-issued, empty-sound, empty-total, issued_by, issued_over, room-if, sound-passes, spent_by, spent_over}

module _ (r : Contents) (s : Sound r) where
  abbrev es : List Entry
  es = r.entries

  same_kept : Kept r r 0 0
  same_kept = record { sound = s; balance = refl; counted = refl-add }
    where
      refl-add : r.issued ≡ r.issued + 0
      refl-add = omega arith

  pub spend-kept : (x n : ℕ) → known x es ≡ true → n ≤ moves_of x es → Kept r (effect r (spends x n)) 0 n
  unfolding effect
  spend-kept x n h b =
      let t = total-replaced x (moves_of x es - n) es h in
      let c : total (lost x n es) ≤ r.issued = omega (arith, t, s.covered) in
      let l : length (lost x n es) ≡ most_principals = length-replaced x _ es ∙ s.long in
      let o : twice (lost x n es) ≡ false = twice-replaced x _ es ∙ s.once in
      let g : total (lost x n es) + n ≡ total es + 0 = omega (arith, t) in
      let i : r.issued ≡ r.issued + 0 = omega arith in
      record { sound = record { long = l; once = o; covered = c; few = s.few }; balance = g; counted = i }

  pub remove-kept : (x : ℕ) → known x es ≡ true → moves_of x es ≡ 0 → Kept r (effect r (removes x)) 0 0
  unfolding effect
  remove-kept x h b =
      let t = total-freed x es h in
      let c : total (replaced x free es) ≤ r.issued = omega (arith, t, s.covered) in
      let l : length (replaced x free es) ≡ most_principals = length-replaced x _ es ∙ s.long in
      let o : twice (replaced x free es) ≡ false = twice-freed x es s.once in
      let g : total (replaced x free es) + 0 ≡ total es + 0 = omega (arith, t) in
      let i : r.issued ≡ r.issued + 0 = omega arith in
      record { sound = record { long = l; once = o; covered = c; few = s.few }; balance = g; counted = i }

  pub pass_kept : (x y n : ℕ) → known x es ≡ true → known y es ≡ true → n ≤ moves_of x es → Kept r (effect r (passes x y n)) 0 0
  unfolding effect
  pass_kept x y n h k b =
      let t = total-replaced x (moves_of x es - n) es h in
      let ky : known y (lost x n es) ≡ true = known-replaced x _ y es ∙ k in
      let u = total-replaced y (moves_of y (lost x n es) + n) (lost x n es) ky in
      let g : total (gained y n (lost x n es)) + 0 ≡ total es + 0 = omega (arith, t, u) in
      let c : total (gained y n (lost x n es)) ≤ r.issued = omega (arith, g, s.covered) in
      let l : length (gained y n (lost x n es)) ≡ most_principals = length-replaced y _ (lost x n es) ∙ length-replaced x _ es ∙ s.long in
      let o : twice (gained y n (lost x n es)) ≡ false = twice-replaced y _ (lost x n es) ∙ twice-replaced x _ es ∙ s.once in
      let i : r.issued ≡ r.issued + 0 = omega arith in
      record { sound = record { long = l; once = o; covered = c; few = s.few }; balance = g; counted = i }

  pub gain-kept : (x n : ℕ) → r.issued + n ≤ most_moves → known x es ≡ true
      → Kept r (record { entries = gained x n es; issued = r.issued + n }) n 0
  gain-kept x n f h =
      let t = total-replaced x (moves_of x es + n) es h in
      let g : total (gained x n es) + 0 ≡ total es + n = omega (arith, t) in
      let c : total (gained x n es) ≤ r.issued + n = omega (arith, t, s.covered) in
      let l : length (gained x n es) ≡ most_principals = length-replaced x _ es ∙ s.long in
      let o : twice (gained x n es) ≡ false = twice-replaced x _ es ∙ s.once in
      record { sound = record { long = l; once = o; covered = c; few = f }; balance = g; counted = refl }

  pub add_kept : (x n : ℕ) → r.issued + n ≤ most_moves → known x es ≡ false → principals es < most_principals
      → Kept r (record { entries = added x n es; issued = r.issued + n }) n 0
  add_kept x n f h p =
      let b : principals es < length es = omega (arith, s.long) in
      let t = total-added x n es b in
      let g : total (added x n es) + 0 ≡ total es + n = omega (arith, t) in
      let c : total (added x n es) ≤ r.issued + n = omega (arith, t, s.covered) in
      let l : length (added x n es) ≡ most_principals = length-added x n es ∙ s.long in
      let o : twice (added x n es) ≡ false = twice-added x n es h s.once in
      record { sound = record { long = l; once = o; covered = c; few = f }; balance = g; counted = refl }

  pub issue-kept : (x n : ℕ) → r.issued + n ≤ most_moves → crowded es (issues x n) ≡ false → Kept r (effect r (issues x n)) n 0
  unfolding effect crowded
  issue-kept x n f h =
      split (known x es) (λ t. rw t (gain-kept x n f t))
      (λ t. let b : leb most_principals (principals es) ≡ false = room-if (known x es) _ h t in
      rw t (add_kept x n f t (leb-false _ _ b)))

  abbrev Goes : Call → Type 0
  Goes c = Kept r (left r (called r c)) (issued_by r c) (spent_by r c)

  issues-kept : (x n : ℕ) → Goes (issues x n)
  unfolding called bad_amount unknown exceeding over_issue holding issued_by spent_by
  issues-kept x n =
      let d : damaged r ≡ false = sound-passes r s in
      split (outside n) (λ t. rw (d, t) same_kept)
      (λ t. split (ltb most_moves (r.issued + n)) (λ u. rw (d, t, u) same_kept)
      (λ u. split (crowded es (issues x n)) (λ v. rw (d, t, u, v) same_kept)
      (λ v. rw (d, t, u, v) (issue-kept x n (ltb-false _ _ u) v))))

  passes_kept : (x y n : ℕ) → Goes (passes x y n)
  unfolding called bad_amount unknown exceeding over_issue crowded holding issued_by spent_by
  passes_kept x y n =
      let d : damaged r ≡ false = sound-passes r s in
      split (outside n) (λ t. rw (d, t) same_kept)
      (λ t. split (known x es)
      (λ u. split (known y es)
      (λ v. split (ltb (moves_of x es) n) (λ w. rw (d, t, u, v, w) same_kept)
      (λ w. rw (d, t, u, v, w) (pass_kept x y n u v (ltb-false _ _ w))))
      (λ v. rw (d, t, u, v) same_kept))
      (λ u. rw (d, t, u) same_kept))

  spends-kept : (x n : ℕ) → Goes (spends x n)
  unfolding called bad_amount unknown exceeding over_issue crowded holding issued_by spent_by
  spends-kept x n =
      let d : damaged r ≡ false = sound-passes r s in
      split (outside n) (λ t. rw (d, t) same_kept)
      (λ t. split (known x es)
      (λ u. split (ltb (moves_of x es) n) (λ w. rw (d, t, u, w) same_kept)
      (λ w. rw (d, t, u, w) (spend-kept x n u (ltb-false _ _ w))))
      (λ u. rw (d, t, u) same_kept))

  removes-kept : (x : ℕ) → Goes (removes x)
  unfolding called bad_amount unknown exceeding over_issue crowded holding issued_by spent_by
  removes-kept x =
      let d : damaged r ≡ false = sound-passes r s in
      split (known x es)
      (λ u. split (ltb 0 (moves_of x es)) (λ w. rw (d, u, w) same_kept)
      (λ w. let z : moves_of x es ≡ 0 = omega (arith, ltb-false 0 (moves_of x es) w) in rw (d, u, w) (remove-kept x u z)))
      (λ u. rw (d, u) same_kept)

  -- each call keeps the register sound, and its moves but for those it issued and spent
  pub call_kept : (c : Call) → Goes c
  call_kept (issues x n) = issues-kept x n
  call_kept (passes x y n) = passes_kept x y n
  call_kept (spends x n) = spends-kept x n
  call_kept (removes x) = removes-kept x

-- what a sequence of calls keeps
pub calls-kept : (r : Contents) → Sound r → (cs : List Call) → Kept r (ran r cs) (issued_over r cs) (spent_over r cs)
unfolding ran issued_over spent_over
calls-kept r s [] = same_kept r s
calls-kept r s (c ∷ cs) =
    let k = call_kept r s c in
    let q = left r (called r c) in
    let m = calls-kept q k.sound cs in
    let b : total (ran q cs).entries + (spent_by r c + spent_over q cs) ≡ total r.entries + (issued_by r c + issued_over q cs)
    = omega (arith, k.balance, m.balance) in
    let i : (ran q cs).issued ≡ r.issued + (issued_by r c + issued_over q cs) = omega (arith, k.counted, m.counted) in
    record { sound = m.sound; balance = b; counted = i }

module _ (cs : List Call) where
  abbrev from_empty : Kept empty (ran empty cs) (issued_over empty cs) (spent_over empty cs)
  from_empty = calls-kept empty empty-sound cs

  -- "Over any sequence of calls from an empty register, moves held equal moves issued less moves spent, both summed over the granted calls"
  pub conserved : total (ran empty cs).entries ≡ issued_over empty cs - spent_over empty cs
  conserved = omega (arith, from_empty.balance, empty-total)

  -- and no more is spent than is issued, so the difference is a true one
  pub never-over : spent_over empty cs ≤ issued_over empty cs
  never-over = omega (arith, from_empty.balance, empty-total)

  -- the number that the register holds is that of all moves ever issued
  pub issued-all : (ran empty cs).issued ≡ issued_over empty cs
  issued-all = omega (arith, from_empty.counted, empty-issued)

  -- every register so reached has 64 places and passes 20's test
  pub reached-sound : Sound (ran empty cs)
  reached-sound = from_empty.sound

  pub never-damaged : damaged (ran empty cs) ≡ false
  never-damaged = sound-passes (ran empty cs) reached-sound
