-- Where the stores of a request go, as the code finds it; and what it says of a page that a place is found. Assumes nothing.
use Rattle.std.specs.Prelude.{◌≡◌, refl, true, false, List, [], ◌∷◌, ℕ, ◌+◌, ◌<◌, ◌≤◌, eqb, ltb, length, get_or, drop, Result, Ok, Err}
use Rattle.std.proofs.Common.{sym, ap, ◌∙◌, arith, length-append, ltb-false, eqb-true, le-ltb, eq-eqb, ne_eqb}
use Rattle.std.proofs.lemmas.Bool.{eqb-false}
use Rattle.text.specs.Choice.{pick, split}
use Rattle.journal.specs.Page.{least_page, most_page, version, closing, zeros, entry}
use Rattle.journal.specs.Journal.{Verdict, granted, refused, page_verdict, recover_verdict, append_verdict, outcome, outcome_of}
use Rattle.journal.specs.declared.Refusal.{Refusal}
use Rattle.journal.specs.declared.Refusal.TheVariants.{WrongSize, WrongVersion, Unclean, NoRoom}
use Rattle.journal.specs.Working.Walk.{end_at, rest_of}
use Rattle.journal.specs.declared.Outcome.{Outcome}

-- the place, or why there is none
abbrev pub Room : Type 0
Room = Result ℕ Refusal

abbrev pub room_of : Verdict → ℕ → Room
room_of granted e = Ok e
room_of (refused r) e = Err r

unfoldable pub opened : List ℕ → Room
opened p = room_of (recover_verdict p) (end_at p 1)

unfoldable pub room : List ℕ → List ℕ → Room
room p a = room_of (append_verdict p (rest_of p) a) (end_at p 1)

-- what is asked of a page in appending, once its size and version are fine
abbrev pub further : List ℕ → ℕ → Verdict
further rest n = pick (zeros rest) (pick (ltb (length rest) n) (refused NoRoom) granted) (refused Unclean)

unfoldable pub room_at : List ℕ → ℕ → ℕ → Room
room_at p e n = room_of (further (drop e p) (n + 3)) e

pub entry_length : (a : List ℕ) → length (entry a) ≡ length a + 3
unfolding entry
entry_length a = omega (arith, length-append a (closing ∷ []))

-- a page whose size and version are fine
pub record Fine (p : List ℕ) : Type 0 where
  pub least : least_page ≤ length p
  pub most : length p ≤ most_page
  pub versioned : get_or p 0 0 ≡ version

-- it is fine, or refused whatever is asked further
pub data Judged (p : List ℕ) : Type 0 where
  is-fine : Fine p → ((v : Verdict) → page_verdict p v ≡ v) → Judged p
  is-not : (r : Refusal) → ((v : Verdict) → page_verdict p v ≡ refused r) → Judged p

pub judged : (p : List ℕ) → Judged p
judged p =
    split (ltb (length p) least_page) (λ t. is-not WrongSize (λ v. rw t refl))
    (λ t. split (ltb most_page (length p)) (λ u. is-not WrongSize (λ v. rw (t, u) refl))
    (λ u. split (eqb (get_or p 0 0) version)
    (λ w. is-fine (record { least = ltb-false _ _ t; most = ltb-false _ _ u; versioned = eqb-true _ _ w }) (λ v. rw (t, u, w) refl))
    (λ w. is-not WrongVersion (λ v. rw (t, u, w) refl))))

pub fine-further : (p : List ℕ) → Fine p → (v : Verdict) → page_verdict p v ≡ v
fine-further p f v = simp (le-ltb _ _ f.least, le-ltb _ _ f.most, eq-eqb _ _ f.versioned)

pub not-granted : {P : Type 0} {r : Refusal} → refused r ≡ granted → P
not-granted h = let z : ◌≡◌ {A = ℕ} 0 1 = cc in let no : ⊥ = omega arith in absurd no

pub fine-facts : (p : List ℕ) → recover_verdict p ≡ granted → Fine p
unfolding recover_verdict
fine-facts p h = of (judged p)
  where
    of : Judged p → Fine p
    of (is-fine f v) = f
    of (is-not r v) = not-granted (sym (v granted) ∙ h)

pub fine-granted : (p : List ℕ) → Fine p → recover_verdict p ≡ granted
unfolding recover_verdict
fine-granted p f = fine-further p f granted

-- a page and an answer for which there is room
pub record Roomy (p a : List ℕ) : Type 0 where
  pub fine : Fine p
  pub some : 0 < length a
  pub clear : zeros (rest_of p) ≡ true
  pub fits : length a + 3 ≤ length (rest_of p)

pub roomy-facts : (p a : List ℕ) → append_verdict p (rest_of p) a ≡ granted → Roomy p a
unfolding append_verdict
roomy-facts p a h =
    split (eqb (length a) 0) (λ t. not-granted (rw t at h))
    (λ t. of t (judged p) (rw t at h))
  where
    of : eqb (length a) 0 ≡ false → Judged p → page_verdict p (further (rest_of p) (length (entry a))) ≡ granted → Roomy p a
    of t (is-not r v) g = not-granted (sym (v _) ∙ g)
    of t (is-fine f v) g =
        let k : further (rest_of p) (length (entry a)) ≡ granted = sym (v _) ∙ g in
        split (zeros (rest_of p))
        (λ z. split (ltb (length (rest_of p)) (length (entry a)))
        (λ u. not-granted (rw (z, u) at k))
        (λ u. let n : length a ≡ 0 → ⊥ = eqb-false _ _ t in
        record { fine = f; some = omega arith; clear = z; fits = omega (arith, ltb-false (length (rest_of p)) (length (entry a)) u, entry_length a) }))
        (λ z. not-granted (rw z at k))

pub roomy-granted : (p a : List ℕ) → Roomy p a → append_verdict p (rest_of p) a ≡ granted
unfolding append_verdict
roomy-granted p a g =
    let n : length a ≡ 0 → ⊥ = λ e. omega (arith, g.some) in
    let l : length (entry a) ≤ length (rest_of p) = omega (arith, g.fits, entry_length a) in
    rw (ne_eqb (length a) 0 n) (fine-further p g.fine _ ∙ simp (g.clear, le-ltb _ _ l))

-- only what is granted has number 0
pub done-granted : (v : Verdict) → outcome 0 ≡ outcome_of v → v ≡ granted
done-granted granted h = refl
done-granted (refused WrongSize) h = let z : ◌≡◌ {A = ℕ} 0 5 = ap (λ (o : Outcome). o.number) h in let no : ⊥ = omega arith in absurd no
done-granted (refused WrongVersion) h = let z : ◌≡◌ {A = ℕ} 0 2 = ap (λ (o : Outcome). o.number) h in let no : ⊥ = omega arith in absurd no
done-granted (refused Unclean) h = let z : ◌≡◌ {A = ℕ} 0 3 = ap (λ (o : Outcome). o.number) h in let no : ⊥ = omega arith in absurd no
done-granted (refused NoRoom) h = let z : ◌≡◌ {A = ℕ} 0 9 = ap (λ (o : Outcome). o.number) h in let no : ⊥ = omega arith in absurd no
