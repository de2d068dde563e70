-- The operations on places tell what the calls on contents give. Assumes nothing.
use Rattle.std.specs.Prelude.{◌≡◌, Bool, not, ℕ, zero, suc, ◌<◌, ltb, length, Ok, Err}
use Rattle.std.proofs.Math.Path.{refl, sym, ap, subst}
use Rattle.std.proofs.Common.{◌∙◌, arith}
use Rattle.std.proofs.Math.Bool.{true, false}
use mathlib.Core.List.{List, [], ◌∷◌, map}
use Rattle.std.proofs.Math.ListN.{get_or, length-set}
use borrow.Author.Tests.{lt-ltb}
use Rattle.text.specs.Choice.{split, clash}
use Rattle.register.specs.Entries.{Entry, free, held, known, moves_of, added, replaced}
use Rattle.register.specs.Calls.{damaged, Outcome, granted, refused, number}
use Rattle.register.specs.Find.{find}
use Rattle.register.specs.Told.{entry_of, contents, Answer, Tells}
use Rattle.register.specs.Theorems.Find.{find_at, find-missing}
use Rattle.register.specs.Working.Places.{nobody, at, found, free_from, sound, moves_at, with_moves, with_new, Made, after_of}
use Rattle.register.specs.Working.Ways.{holds}
use Rattle.register.specs.Working.Ties.{found-is, replaced-is, added_is, sound-is}
use Rattle.register.specs.declared.Place.{Place}
use Rattle.register.specs.declared.Register.{Register}
use Rattle.register.specs.declared.After.{After}
use Rattle.register.specs.declared.Found.{Found}
use Rattle.register.specs.declared.Found.TheVariants.{At, Missing}
use Rattle.register.specs.declared.Reason.{Reason}

-- goes by cases on what was found
pub by-found : {P : Type 0} (f : Found) → ((i w : ℕ) → f ≡ At i w → P) → ((w : ℕ) → f ≡ Missing w → P) → P
by-found (At i w) a m = a i w refl
by-found (Missing w) a m = m w refl

-- a test's value from that of its opposite
pub no_of : (b c : Bool) → b ≡ not c → b ≡ true → c ≡ false
no_of b true e h = clash h e
no_of b false e h = refl

pub yes_of : (b c : Bool) → b ≡ not c → b ≡ false → c ≡ true
yes_of b true e h = refl
yes_of b false e h = clash e h

abbrev pub entries : Register → List Entry
entries r = map entry_of r.places

module _ (r : Register) (e : length r.places ≡ 64) where
  abbrev es : List Entry
  es = map entry_of r.places

  pub sound-no : sound r ≡ true → damaged (contents r) ≡ false
  sound-no t = no_of (sound r) _ (sound-is r e) t

  pub sound-yes : sound r ≡ false → damaged (contents r) ≡ true
  sound-yes t = yes_of (sound r) _ (sound-is r e) t

  pub known_at : (x i w : ℕ) → found r.places x ≡ At i w → known x es ≡ true
  known_at x i w f = (find_at es x i w (sym (found-is r.places e x) ∙ f)).known-here

  pub known-missing : (x w : ℕ) → found r.places x ≡ Missing w → known x es ≡ false
  known-missing x w f = (find-missing es x w (sym (found-is r.places e x) ∙ f)).0

  -- the moves at the place found are the principal's
  pub moves-at : (x i w : ℕ) → found r.places x ≡ At i w → moves_at r i ≡ moves_of x es
  unfolding moves_at
  moves-at x i w f =
      let k = holds r.places x i w f in
      let s = find_at es x i w (sym (found-is r.places e x) ∙ f) in
      let m : get_or es i (entry_of nobody) ≡ entry_of (at r.places i) = get_or-map entry_of r.places i nobody in
      let g : entry_of (at r.places i) ≡ held (at r.places i).principal (at r.places i).moves = rw k.held refl in
      let o : held (at r.places i).principal (at r.places i).moves ≡ held x (moves_of x es) = sym g ∙ sym m ∙ s.entry in
      rw (lt-ltb i 64 k.within) (moves-of o)
    where
      moves-of : {x y m n : ℕ} → held x m ≡ held y n → m ≡ n
      moves-of h = cc

      get_or-map : (f : Place → Entry) (l : List Place) (n : ℕ) (d : Place) → get_or (map f l) n (f d) ≡ f (get_or l n d)
      get_or-map f [] n d = refl
      get_or-map f (y ∷ l) zero d = refl
      get_or-map f (y ∷ l) (suc n) d = get_or-map f l n d

  -- other moves at the place found
  pub moves-told : (x i w m : ℕ) → found r.places x ≡ At i w
      → (map entry_of (with_moves r i m).places ≡ replaced x (held x m) es) × (length (with_moves r i m).places ≡ 64)
  unfolding with_moves
  moves-told x i w m f =
      let k = holds r.places x i w f in
      let p : Place = record { held = (at r.places i).held; principal = (at r.places i).principal; moves = m } in
      let g : entry_of (record { held = (at r.places i).held; principal = (at r.places i).principal; moves = m }) ≡ held x m
      = rw k.held (ap (λ (y : ℕ). held y m) k.named) in
      let s = replaced-is r.places e x i w (record { held = (at r.places i).held; principal = (at r.places i).principal; moves = m }) f in
      let n = length-set r.places i (record { held = (at r.places i).held; principal = (at r.places i).principal; moves = m }) ∙ e in
      rw (lt-ltb i 64 k.within) (s ∙ ap (λ (y : Entry). replaced x y es) g, n)

  pub new_told : (x n : ℕ) → free_from r.places 0 < 64
      → map entry_of (with_new r (free_from r.places 0) (record { held = true; principal = x; moves = n })).places ≡ added x n es
  unfolding with_new
  new_told x n h = rw (lt-ltb _ _ h) (added_is r.places e x n (record { held = true; principal = x; moves = n }) refl h)

  pub freed-told : (x i w : ℕ) → found r.places x ≡ At i w → map entry_of (with_new r i nobody).places ≡ replaced x free es
  unfolding with_new
  freed-told x i w f =
      let k = holds r.places x i w f in rw (lt-ltb i 64 k.within) (replaced-is r.places e x i w nobody f)

  pub moves-issued : (i m : ℕ) → (with_moves r i m).issued ≡ r.issued
  unfolding with_moves
  moves-issued i m = split (ltb i 64) (λ t. rw t refl) (λ t. rw t refl)

  pub new-issued : (i : ℕ) (p : Place) → (with_new r i p).issued ≡ r.issued
  unfolding with_new
  new-issued i p = split (ltb i 64) (λ t. rw t refl) (λ t. rw t refl)

pub contents-are : (q : Register) (l : List Entry) (n : ℕ) → map entry_of q.places ≡ l → q.issued ≡ n
    → contents q ≡ record { entries = l; issued = n }
unfolding contents
contents-are q l n a b = rw (a, b) refl

-- what was made, as the outcome of a call
abbrev pub made_told : Made → Outcome
made_told (Ok q) = granted (contents q)
made_told (Err k) = refused (number k) 0

-- "Refusals change nothing": each refusal has the register that was handed in
err-kept : {k : Reason} {q r : Register} → ◌≡◌ {A = Answer} (Ok tt) (Err k) → q ≡ r
err-kept h = let z : ◌≡◌ {A = ℕ} 0 1 = cc in let no : ⊥ = omega arith in absurd no

after-tells : (r : Register) (m : Made) → Tells r (after_of r m) (made_told m)
after-tells r (Ok q) = record { outcome = refl; kept = λ k h. err-kept h }
after-tells r (Err k) = record { outcome = refl; kept = λ j h. refl }

-- what the public functions promise, by what they make
pub tells : (r : Register) (a : After) (m b : Made) (o : Outcome) → a ≡ after_of r m → m ≡ b → made_told b ≡ o → Tells r a o
tells r a m b o h g s =
    subst (λ (c : After). Tells r c o) (sym (h ∙ ap (after_of r) g)) (subst (λ (x : Outcome). Tells r (after_of r b) x) s (after-tells r b))

pub find-tells : (r : Register) → length r.places ≡ 64 → (x : ℕ) (f : Found) → f ≡ found r.places x → f ≡ find (contents r).entries x
unfolding contents
find-tells r e x f h = h ∙ found-is r.places e x
