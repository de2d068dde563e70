-- The round trips: an encoded valid query is read back, and what is read is valid and re-encodes to the same bytes. Assumes nothing.
use Rattle.std.specs.Prelude.{◌≡◌, Bool, true, false, eqb, ltb, drop}
use Rattle.std.proofs.Math.Path.{refl, sym, subst}
use Rattle.std.proofs.Common.{◌∙◌, arith, length-drop, length-take-le}
use mathlib.Core.List.{List, [], ◌∷◌}
use Prim.Native.Nat.{ℕ, ◌+◌, ◌<◌, ◌≤◌}
use Rattle.std.proofs.Math.ListN.{length, get_or, take}
use borrow.Author.Tests.{le-ltb, ltb-false, eqb-true, eqb-false}
use Rattle.text.specs.Choice.{pick, split}
use Rattle.text.specs.Counted.{part, pair_at}
use Rattle.limits.specs.Limits.{most_record}
use Rattle.record.specs.Query.{Query}
use Rattle.record.specs.Read.{Read, got, bad, and_then, Verdict, accepted, refused}
use Rattle.text.specs.Equal.{equal}
use Rattle.principal.specs.Principal.{policy}
use Rattle.record.specs.Field.{within, length_at, content_at, permitted, askable, among, distinct}
use Rattle.record.specs.Record.{query_at, ended, read_record}
use Rattle.record.specs.Valid.{Between}
use Rattle.record.specs.Stands.{Stands, stands-byte}

-- ---- taking a reading apart

no-bad : {A P : Type 0} {n q p : ℕ} {a : A} → bad n q ≡ got a p → P
no-bad {A} {P} {n} {q} {p} {a} e = let z : ◌≡◌ {A = ℕ} 0 1 = cc in absurd (omega arith)

pub record Then {A B : Type 0} (r : Read A) (k : A → ℕ → Read B) (b : B) (p : ℕ) : Type 0 where
  pub item : A
  pub place : ℕ
  pub first : r ≡ got item place
  pub next : k item place ≡ got b p

pub then-got : {A B : Type 0} (r : Read A) (k : A → ℕ → Read B) {b : B} {p : ℕ} → and_then r k ≡ got b p → Then r k b p
then-got (got a q) k e = record { item = a; place = q; first = refl; next = e }
then-got (bad n q) k e = no-bad e

pub pick-got : {A : Type 0} (t : Bool) (n q : ℕ) (r : Read A) {a : A} {p : ℕ} → pick t (bad n q) r ≡ got a p → (t ≡ false) × (r ≡ got a p)
pick-got true n q r e = no-bad e
pick-got false n q r e = (refl, e)

pub got-item : {A : Type 0} {a b : A} {p q : ℕ} → got a p ≡ got b q → (a ≡ b) × (p ≡ q)
got-item e = (cc, cc)

-- every element is a byte
abbrev pub Bytes : List ℕ → Type 0
Bytes s = (i : ℕ) → get_or s i 0 < 256

-- ---- what a reader reads, and what it takes: the bytes `enc a` stand there, and a is permitted
pub record Means {A : Type 0} (s : List ℕ) (r : ℕ → Read A) (enc : A → List ℕ) (Ok : A → Type 0) : Type 0 where
  pub gives : Bytes s → (at : ℕ) (a : A) (p : ℕ) → r at ≡ got a p → Stands s at (enc a) p × Ok a
  pub takes : (at : ℕ) (a : A) (p : ℕ) → Stands s at (enc a) p → Ok a → r at ≡ got a p

pub moved : {A : Type 0} (s : List ℕ) (at : ℕ) (enc : A → List ℕ) (Ok : A → Type 0) {a b : A} {p q : ℕ}
    → Stands s at (enc b) q × Ok b → b ≡ a → q ≡ p → Stands s at (enc a) p × Ok a
moved {A} s at enc Ok {a} {b} {p} {q} h e f =
    subst (λ (x : A). Stands s at (enc x) p × Ok x) e (subst (λ (r : ℕ). Stands s at (enc b) r × Ok b) f h)

pub within-got : (least most n next number at m p : ℕ) → within least most n next number at ≡ got m p → Between least most n × ((n ≡ m) × (next ≡ p))
within-got least most n next number at m p e =
    let (f, e₁) = pick-got (ltb n least) number at (pick (ltb most n) (bad number at) (got n next)) e in
    let (g, e₂) = pick-got (ltb most n) number at (got n next) e₁ in
    ((ltb-false n least f, ltb-false most n g), got-item e₂)

pub within-is : (least most n next number at : ℕ) → Between least most n → within least most n next number at ≡ got n next
within-is least most n next number at (l, m) = rw (le-ltb n least l, le-ltb most n m)

pub record Long (s : List ℕ) (least most at n p : ℕ) : Type 0 where
  pub fits : at + 2 ≤ length s
  pub range : Between least most n
  pub is : n ≡ pair_at s at
  pub place : p ≡ at + 2

pub length_got : (s : List ℕ) (least most at n p : ℕ) → length_at s least most at ≡ got n p → Long s least most at n p
unfolding length_at
length_got s least most at n p e =
    let (f, e₁) = pick-got (ltb (length s) (at + 2)) 3 at (within least most (pair_at s at) (at + 2) 5 at) e in
    let (rng, (ne, pe)) = within-got least most (pair_at s at) (at + 2) 5 at n p e₁ in
    record { fits = ltb-false (length s) (at + 2) f; range = rw (← ne) rng; is = sym ne; place = sym pe }

pub record Held (s : List ℕ) (n at : ℕ) (b : List ℕ) (p : ℕ) : Type 0 where
  pub fits : at + n ≤ length s
  pub is : b ≡ take n (drop at s)
  pub place : p ≡ at + n

pub content-got : (s : List ℕ) (n at : ℕ) (b : List ℕ) (p : ℕ) → content_at s n at ≡ got b p → Held s n at b p
unfolding content_at part
content-got s n at b p e =
    let (f, e₁) = pick-got (ltb (length s) (at + n)) 3 at (got (take n (drop at s)) (at + n)) e in
    let (be, pe) = got-item e₁ in
    record { fits = ltb-false (length s) (at + n) f; is = sym be; place = sym pe }

pub take-size : (s : List ℕ) (at n : ℕ) → at + n ≤ length s → length (take n (drop at s)) ≡ n
take-size s at n h = length-take-le n (drop at s) (rw (length-drop at s) (omega arith))

-- a test on what is read: it lets a reading through just where the item is good
pub record Filter {A : Type 0} (f : ℕ → A → Read A → Read A) (Good : A → Type 0) : Type 0 where
  out : (at : ℕ) (a : A) (x : Read A) (b : A) (p : ℕ) → f at a x ≡ got b p → Good a × (x ≡ got b p)
  past : (at : ℕ) (a : A) (x : Read A) → Good a → f at a x ≡ x

pub permitted-filter : (front : List ℕ → ℕ) → Filter (λ at b x. permitted (front b) b (at + 2) x) (λ b. length b ≤ front b)
permitted-filter front = record {
  out = λ at b x c p e. let (f, e₁) = pick-got (ltb (front b) (length b)) 6 (at + 2 + front b) x e in (ltb-false (front b) (length b) f, e₁);
  past = λ at b x h. rw (le-ltb (front b) (length b) h);
}

pub askable-filter : Filter (λ at b x. askable b (at + 2) x) (λ b. equal b policy ≡ false)
askable-filter = record {
  out = λ at b x c p e. pick-got (equal b policy) 10 (at + 2) x e;
  past = λ at b x h. rw h;
}

pub distinct_filter : (seen : List (List ℕ)) → Filter (λ at b x. distinct b seen (at + 2) x) (λ b. among b seen ≡ false)
distinct_filter seen = record {
  out = λ at b x c p e. pick-got (among b seen) 7 (at + 2) x e;
  past = λ at b x h. rw h;
}

pub both-filter : {A : Type 0} {f g : ℕ → A → Read A → Read A} {G H : A → Type 0} → Filter f G → Filter g H → Filter (λ at a x. f at a (g at a x)) (λ a. G a × H a)
both-filter {A} {f} {g} one two = record {
  out = λ at a x b p e. let (u, e₁) = one.out at a (g at a x) b p e in let (w, e₂) = two.out at a x b p e₁ in ((u, w), e₂);
  past = λ at a x h. one.past at a (g at a x) h.0 ∙ two.past at a x h.1;
}

pub filter-means : {A : Type 0} {s : List ℕ} {r : ℕ → Read A} {enc : A → List ℕ} {Ok Good : A → Type 0} {f : ℕ → A → Read A → Read A} → Means s r enc Ok → Filter f Good
    → Means s (λ at. and_then (r at) (λ a p. f at a (got a p))) enc (λ a. Ok a × Good a)
filter-means {A} {s} {r} {enc} {Ok} {Good} {f} m l = record { gives = gives-it; takes = takes-it } where
  gives-it : Bytes s → (at : ℕ) (a : A) (p : ℕ) → and_then (r at) (λ b q. f at b (got b q)) ≡ got a p → Stands s at (enc a) p × (Ok a × Good a)
  gives-it bytes at a p e =
      let t : Then (r at) (λ b q. f at b (got b q)) a p = then-got (r at) (λ b q. f at b (got b q)) e in
      let (good, e₁) = l.out at t.item (got t.item t.place) a p t.next in
      let (ae, pe) = got-item e₁ in
      let first : r at ≡ got a p = t.first ∙ e₁ in
      let (st, ok) = m.gives bytes at a p first in
      (st, (ok, rw ae at good))

  takes-it : (at : ℕ) (a : A) (p : ℕ) → Stands s at (enc a) p → (Ok a × Good a) → and_then (r at) (λ b q. f at b (got b q)) ≡ got a p
  takes-it at a p st h = rw (m.takes at a p st h.0) (l.past at a (got a p) h.1)

-- the version byte and the whole
pub record Whole (s : List ℕ) (q : Query) : Type 0 where
  pub place : ℕ
  pub short : length s ≤ most_record
  pub version : Stands s 0 (1 ∷ []) 1
  pub says : query_at s 1 ≡ got q place
  pub ends : length s ≤ place

no-refusal : {P : Type 0} {n p : ℕ} {q : Query} → refused n p ≡ accepted q → P
no-refusal {P} {n} {p} {q} e = let z : ◌≡◌ {A = ℕ} 0 1 = cc in absurd (omega arith)

pick-accepted : (t : Bool) (n p : ℕ) (v : Verdict) {q : Query} → pick t (refused n p) v ≡ accepted q → (t ≡ false) × (v ≡ accepted q)
pick-accepted true n p v e = no-refusal e
pick-accepted false n p v e = (refl, e)

pub record Ending (s : List ℕ) (r : Read Query) (q : Query) : Type 0 where
  place : ℕ
  says : r ≡ got q place
  ends : length s ≤ place

ended-accepted : (s : List ℕ) (r : Read Query) (q : Query) → ended s r ≡ accepted q → Ending s r q
ended-accepted s (bad n p) q e = no-refusal e
ended-accepted s (got q₁ p) q e =
    let (f, e₁) = pick-accepted (ltb p (length s)) 3 p (accepted q₁) e in
    let qe : q₁ ≡ q = cc in
    record { place = p; says = rw qe; ends = ltb-false p (length s) f }

pub whole_of : (s : List ℕ) (q : Query) → read_record s ≡ accepted q → Whole s q
unfolding read_record
whole_of s q e =
    let (f, e₁) = pick-accepted (ltb most_record (length s)) 1 0 (pick (eqb (length s) 0) (refused 2 0) (pick (eqb (get_or s 0 0) 1) (ended s (query_at s 1)) (refused 2 0))) e in
    let (g, e₂) = pick-accepted (eqb (length s) 0) 2 0 (pick (eqb (get_or s 0 0) 1) (ended s (query_at s 1)) (refused 2 0)) e₁ in
    split (eqb (get_or s 0 0) 1)
    (λ h. let n : length s ≡ 0 → ⊥ = eqb-false (length s) 0 g in
    let m : 0 < length s = omega arith in
    let one : get_or s 0 0 ≡ 1 = eqb-true (get_or s 0 0) 1 h in
    let st : Stands s 0 (1 ∷ []) (0 + 1) = rw one at (stands-byte s 0 m) in
    let fin : Ending s (query_at s 1) q = ended-accepted s (query_at s 1) q (rw h at e₂) in
    record { place = fin.place; short = ltb-false most_record (length s) f; version = st; says = fin.says; ends = fin.ends })
    (λ h. no-refusal (rw h at e₂))
