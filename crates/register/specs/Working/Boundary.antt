-- Working laws of calls on bytes. Assumes nothing.
use Rattle.std.specs.Prelude.{◌≡◌, true, false, List, ℕ, zero, suc, ◌+◌, ◌*◌, eqb, ltb, length, get_or, Ok, Err}
use Rattle.std.proofs.Math.Path.{refl, sym, ap}
use Rattle.std.proofs.Common.{◌∙◌, arith, eqb-true, eq-eqb, ne_eqb}
use Rattle.text.specs.Choice.{split}
use Rattle.register.specs.Entries.{Contents, empty}
use Rattle.register.specs.Calls.{Call, Outcome, called, number}
use Rattle.register.specs.Find.{find}
use Rattle.register.specs.Layout.{encode, eight_at, entries_at, Decoded, register, unreadable, marked, decode}
use Rattle.register.specs.OnBytes.{written, settled, on_bytes, emptied, searched, find_on}
use Rattle.register.specs.Told.{contents, Answer, told, Tells, unfit_number, unfit_place}
use Rattle.register.specs.Working.Bytes.{Check, marks_in, readable_at, readable}
use Rattle.register.specs.declared.Register.{Register}
use Rattle.register.specs.declared.After.{After}
use Rattle.register.specs.declared.Reason.{Reason}
use Rattle.register.specs.declared.Reply.{Reply}
use Rattle.register.specs.declared.layout.Unfit.{Unfit}
use Rattle.register.specs.declared.layout.Unfit.TheVariants.{Length}
use Rattle.register.specs.declared.Found.{Found}
use Rattle.register.specs.declared.Found.TheVariants.{At, Missing}
use Rattle.register.specs.declared.Search.{Search}

-- what was checked, as what is decoded
abbrev judged : Check → Decoded → Decoded
judged (Ok u) d = d
judged (Err e) d = unreadable (unfit_number e) (unfit_place e)

marks-are : (n : ℕ) (s : List ℕ) (i : ℕ) (d : Decoded) → marked n s (9 + i * 13) d ≡ judged (marks_in n s i) d
unfolding marked
marks-are zero s i d = refl
marks-are (suc n) s i d =
    let e : 9 + i * 13 + 13 ≡ 9 + (i + 1) * 13 = omega arith in
    split (ltb 1 (get_or s (9 + i * 13) 0)) (λ t. rw t refl) (λ t. rw (t, e) (marks-are n s (i + 1) d))

abbrev all : List ℕ → Contents
all s = record { entries = entries_at 64 s 9; issued = eight_at s 1 }

decode_is : (s : List ℕ) → decode s ≡ judged (readable s) (register (all s))
unfolding decode readable readable_at
decode_is s =
    split (eqb (length s) 841)
    (λ t. split (eqb (get_or s 0 0) 1) (λ u. rw (t, u) (marks-are 64 s 0 (register (all s)))) (λ u. rw (t, u) refl))
    (λ t. rw t refl)

granted-not : {P : Type 0} {e : Unfit} → ◌≡◌ {A = Check} (Err e) (Ok tt) → P
granted-not h = let z : ◌≡◌ {A = ℕ} 0 1 = cc in let no : ⊥ = omega arith in absurd no

readable-long : (s : List ℕ) → readable s ≡ Ok tt → length s ≡ 841
unfolding readable
readable-long s h = split (eqb (length s) 841) (λ t. eqb-true _ _ t) (λ t. granted-not (rw t at h))

module _ (s : List ℕ) (a : Check) (ae : a ≡ readable s) where
  pub checked-long : a ≡ Ok tt → length s ≡ 841
  checked-long h = readable-long s (sym ae ∙ h)

  -- bytes that are no register
  pub unread : (c : Call) (e : Unfit) → a ≡ Err e → (y : Reply) → y ≡ record { number = unfit_number e; place = unfit_place e } → written y.number y.place s ≡ on_bytes s c
  unfolding on_bytes
  unread c e h y ye = rw (ye, decode_is s, sym ae, h) refl

  pub unread-find : (x : ℕ) (e : Unfit) → a ≡ Err e → (n : ℕ) → n ≡ unfit_number e → (p : ℕ) → p ≡ unfit_place e
      → ◌≡◌ {A = Search} (record { number = n; place = p; held = false; at = 0; work = 0 }) (find_on s x)
  unfolding find_on
  unread-find x e h n ne p pe = rw (ne, pe, decode_is s, sym ae, h) refl

  module _ (h : a ≡ Ok tt) (r : Register) (re : contents r ≡ all s) where
    -- a call on the register that the bytes are
    pub call-done : (c : Call) (f : After) → Tells r f (called (contents r) c) → (n p : ℕ) (s' : List ℕ)
        → written n p s' ≡ settled s (told f.answer (contents f.register)) → written n p s' ≡ on_bytes s c
    unfolding on_bytes
    call-done c f t n p s' w =
        let e : called (contents r) c ≡ called (all s) c = ap (λ (q : Contents). called q c) re in
        rw (decode_is s, sym ae, h) (w ∙ ap (λ (o : Outcome). settled s o) (t.outcome ∙ e))

    found-on : (x : ℕ) (f : Found) → f ≡ find (contents r).entries x → searched f ≡ find_on s x
    unfolding find_on
    found-on x f e = rw (decode_is s, sym ae, h) (ap searched (e ∙ ap (λ (q : Contents). find q.entries x) re))

    pub found_at : (x : ℕ) (f : Found) → f ≡ find (contents r).entries x → (i w : ℕ) → f ≡ At i w
        → ◌≡◌ {A = Search} (record { number = 0; place = 0; held = true; at = i; work = w }) (find_on s x)
    found_at x f e i w g = ap searched (sym g) ∙ found-on x f e

    pub found-not : (x : ℕ) (f : Found) → f ≡ find (contents r).entries x → (w : ℕ) → f ≡ Missing w
        → ◌≡◌ {A = Search} (record { number = 0; place = 0; held = false; at = 0; work = w }) (find_on s x)
    found-not x f e w g = ap searched (sym g) ∙ found-on x f e

-- the end of a call
module _ (s : List ℕ) (f : After) (a : Answer) (ae : a ≡ f.answer) where
  pub finish-granted : a ≡ Ok tt → (s' : List ℕ) → s' ≡ encode (contents f.register) → written 0 0 s' ≡ settled s (told f.answer (contents f.register))
  finish-granted h s' e = rw (sym ae, h) (ap (λ (x : List ℕ). written 0 0 x) e)

  pub finish-refused : (k : Reason) → a ≡ Err k → (n : ℕ) → n ≡ number k → written n 0 s ≡ settled s (told f.answer (contents f.register))
  finish-refused k h n ne = rw (sym ae, h, ne) refl

-- the empty register
pub empty-length : (s : List ℕ) → (length s ≡ 841 → ⊥) → (y : Reply) → y ≡ record { number = unfit_number Length; place = unfit_place Length } → written y.number y.place s ≡ emptied s
unfolding emptied
empty-length s h y ye = rw (ye, ne_eqb (length s) 841 h) refl

pub empty-done : (s s' : List ℕ) (r : Register) → length s ≡ 841 → contents r ≡ empty → s' ≡ encode (contents r) → written 0 0 s' ≡ emptied s
unfolding emptied
empty-done s s' r h e w = rw (eq-eqb (length s) 841 h) (ap (λ (x : List ℕ). written 0 0 x) (w ∙ ap encode e))
