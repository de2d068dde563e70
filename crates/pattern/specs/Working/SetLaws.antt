-- The scan of a set finds exactly the sets of the grammar. Assumes nothing.
use Rattle.std.proofs.Math.Path.{◌≡◌, refl, sym, ap}
use Rattle.std.proofs.Common.{◌∙◌, subst, arith}
use Rattle.std.specs.Prelude.{Bool, ◌||◌, not, List, [], ◌∷◌, ℕ, zero, suc, ◌+◌, ◌-◌, ◌<◌, ◌≤◌, eqb, ltb, leb, Option, Some, None}
use Rattle.std.proofs.Math.Bool.{true, false}
use Rattle.std.proofs.Math.ListN.{length, get_or}
use borrow.Author.Tests.{lt-ltb, le-leb, lt-leb, eq-eqb, ne_eqb, ltb-true, ltb-false, leb-true, leb-false, eqb-true, eqb-false}
use Rattle.text.specs.Choice.{clash, split, bool_iff}
use Rattle.pattern.specs.Working.Logic.{and_left, and_right, and_both}
use Rattle.pattern.specs.Class.{Item, range, in_item, in_items}
use Rattle.pattern.specs.Grammar.{At, Self, Items, i-close, i-first-dash, i-last-dash, i-byte, i-range}
use Rattle.pattern.specs.Working.Scan
use Rattle.pattern.specs.Bytes.{stands, opens_name}
use Rattle.pattern.specs.Working.Scan.{ends_range, ranges, within, range_at, byte_at, dash_at, item_at, set_rest}
use Rattle.pattern.specs.declared.atoms.Taken.{Taken}
use Rattle.pattern.specs.declared.atoms.Taken.TheVariants.{Closed, Item as Took}
use Rattle.pattern.specs.Working.Scan.{closed, item as took, fits}

self-range : (b c : ℕ) → in_item (range b b) c ≡ eqb b c
unfolding in_item
self-range b c = bool_iff _ _ (λ e. eq-eqb b c (omega (arith, leb-true b c (and_left _ _ e), leb-true c b (and_right (leb b c) _ e))))
    (λ e. and_both _ _ (le-leb b c (omega (arith, eqb-true b c e))) (le-leb c b (omega (arith, eqb-true b c e))))

pub stands_at : {p : List ℕ} {i b : ℕ} → At p i b → stands p i b ≡ true
unfolding stands
stands_at {p} {i} {b} a = rw (lt-ltb i (length p) a.inside) (eq-eqb _ _ a.byte)

pub stands-not : {p : List ℕ} {i b : ℕ} (c : ℕ) → At p i b → (b ≡ c → ⊥) → stands p i c ≡ false
unfolding stands
stands-not {p} {i} {b} c a n = rw (lt-ltb i (length p) a.inside) (ne_eqb _ _ (λ e. n (sym a.byte ∙ e)))

or_assoc : (a b c : Bool) → (a || b) || c ≡ a || (b || c)
or_assoc true b c = refl
or_assoc false b c = refl

or-none : (a : Bool) → a ≡ a || false
or-none true = refl
or-none false = refl

module _ (p : List ℕ) where
  ranges-no : (i : ℕ) → i < length p → (get_or p (i + 1) 0 ≡ 45 → ⊥) → ranges p i ≡ false
  unfolding ranges
  ranges-no i h n = split (leb (length p) (i + 1)) (λ e. rw (lt-leb _ _ h, e)) (λ e. rw (lt-leb _ _ h, e, ne_eqb _ _ n))

  -- behind a byte that is itself no range goes on
  after-byte : (i : ℕ) {j : ℕ} {xs : List Item} → i < length p → Items p false (i + 1) j xs → ranges p i ≡ false
  after-byte i h (i-close a e) = ranges-no i h (λ z. omega (arith, a.byte, z))
  after-byte i h (i-last-dash a b x) = sym (Scan.way-ranges p i h a.inside a.byte (stands p (i + 2) 93) refl) ∙ ap not (let z : (i + 1) + 1 ≡ i + 2 = omega arith in rw z at (stands_at b))
  after-byte i h (i-byte s x) = ranges-no i h (λ z. s.no-dash (sym s.at.byte ∙ z))
  after-byte i h (i-range s d r l x) = ranges-no i h (λ z. s.no-dash (sym s.at.byte ∙ z))

  ends-range : {i b : ℕ} → Self p false i b → ends_range p i ≡ true
  ends-range {i} {b} s = sym (Scan.way-ends p i s.at.inside (λ e. s.no-dash (sym s.at.byte ∙ e)) (λ e. clash (s.bracket (sym s.at.byte ∙ e)) refl) (opens_name p i) refl) ∙ ap not s.no_name

  self-item : (c : ℕ) {f : Bool} {i b : ℕ} → Self p f i b → item_at p i f c ≡ byte_at p i c
  self-item c {f} {i} {b} s = split (eqb b 93)
      (λ e. sym (Scan.way-item-first p i s.at.inside c f (s.at.byte ∙ eqb-true b 93 e) (s.bracket (eqb-true b 93 e)) (byte_at p i c) refl))
      (λ e. sym (Scan.way-item-byte p i s.at.inside c f (λ z. eqb-false b 93 e (sym s.at.byte ∙ z)) (λ z. s.no-dash (sym s.at.byte ∙ z)) (opens_name p i) refl s.no_name (byte_at p i c) refl))

range-is : (c u v low high : ℕ) → u ≡ low → v ≡ high → within u v c ≡ in_item (range low high) c
unfolding within in_item
range-is c u v low high e f = rw (e, f)

module _ (p : List ℕ) (c : ℕ) where
  go_on_lem : (f : Bool) (i n j : ℕ) (g : Bool) (x : Item) (xs : List Item) → i < length p → i < n → item_at p i f c ≡ took n g → g ≡ in_item x c
      → ((hit : Bool) → set_rest p c n false hit ≡ fits j (hit || in_items xs c)) → (hit : Bool) → set_rest p c i f hit ≡ fits j (hit || in_items (x ∷ xs) c)
  unfolding in_items
  go_on_lem f i n j g x xs h l w e r hit =
      sym (Scan.way-set-more p c i f hit _ refl h (item_at p i f c) refl (Took n g) w n g refl l (hit || g) refl) ∙ r (hit || g) ∙ ap (fits j) (or_assoc hit g (in_items xs c) ∙ ap (λ (b : Bool). hit || (b || in_items xs c)) e)

  pub set-shows : {f : Bool} {i j : ℕ} {xs : List Item} → Items p f i j xs → (hit : Bool) → set_rest p c i f hit ≡ fits j (hit || in_items xs c)
  unfolding in_items
  set-shows (i-close {i = i} {j = j} a e) hit =
      sym (Scan.way-set-closed p c i false hit _ refl a.inside (item_at p i false c) refl Closed (sym (Scan.way-item-closed p i a.inside c false a.byte refl)) refl) ∙ rw (e, ← or-none hit)
  set-shows (i-first-dash {i = i} {j = j} {xs = xs} a x) hit = go_on_lem true i (i + 1) j (eqb 45 c) (range 45 45) xs a.inside (omega arith)
      (sym (Scan.way-item-dash p i a.inside c true a.byte _ (Scan.way-dash-first p i a.inside c true refl))) (sym (self-range 45 c)) (set-shows x) hit
  set-shows (i-last-dash {i = i} {j = j} {xs = xs} a b x) hit = go_on_lem false i (i + 1) j (eqb 45 c) (range 45 45) xs a.inside (omega arith)
      (sym (Scan.way-item-dash p i a.inside c false a.byte _ (Scan.way-dash-last p i a.inside c false refl (stands p (i + 1) 93) refl (stands_at b)))) (sym (self-range 45 c)) (set-shows x) hit
  set-shows (i-byte {f = f} {i = i} {j = j} {b = b} {xs = xs} s x) hit = go_on_lem f i (i + 1) j (eqb (get_or p i 0) c) (range b b) xs s.at.inside (omega arith)
      (self-item p c s ∙ sym (Scan.way-byte-self p i s.at.inside c (ranges p i) refl (after-byte p i s.at.inside x))) (rw s.at.byte (sym (self-range b c))) (set-shows x) hit
  set-shows (i-range {f = f} {i = i} {j = j} {low = low} {high = high} {xs = xs} s d r l x) hit =
      let h₂ : 2 < length p - i = omega (arith, r.at.inside) in
      let le : get_or p i 0 ≤ get_or p (i + 2) 0 = omega (arith, s.at.byte, r.at.byte) in
      go_on_lem f i (i + 3) j (within (get_or p i 0) (get_or p (i + 2) 0) c) (range low high) xs s.at.inside (omega arith)
      (self-item p c s ∙ sym (Scan.way-byte-range p i s.at.inside c (ranges p i) refl
      (sym (Scan.way-ranges p i s.at.inside d.inside d.byte (stands p (i + 2) 93) refl) ∙ ap not (stands-not 93 r.at (λ e. clash (r.bracket e) refl))) _
      (Scan.way-range p i s.at.inside c h₂ (ends_range p (i + 2)) refl (ends-range p r) le _ refl)))
      (range-is c _ _ low high s.at.byte r.at.byte) (set-shows x) hit

wrong-took : {P : Type 0} {n : ℕ} {h : Bool} → None ≡ took n h → P
wrong-took e = absurd (let z : ◌≡◌ {A = ℕ} 0 1 = cc in omega arith)

closed-took : {P : Type 0} {n : ℕ} {h : Bool} → closed ≡ took n h → P
closed-took e = absurd (let z : ◌≡◌ {A = ℕ} 0 1 = cc in omega arith)

wrong-closed : {P : Type 0} → None ≡ closed → P
wrong-closed e = absurd (let z : ◌≡◌ {A = ℕ} 0 1 = cc in omega arith)

took-next : {m n : ℕ} {g h : Bool} → took m g ≡ took n h → m ≡ n
took-next e = cc

pub unfit-end : {P : Type 0} {n : ℕ} {h : Bool} → None ≡ fits n h → P
unfit-end e = absurd (let z : ◌≡◌ {A = ℕ} 0 1 = cc in omega arith)

pub end-at : {m n : ℕ} {g h : Bool} → fits m g ≡ fits n h → m ≡ n
end-at {n = n} e = ap (λ (x : Scan.Scan). place x n) e
  where
    place : Scan.Scan → ℕ → ℕ
    place None n = n
    place (Some x) n = x.at

-- an item that was taken, before what stands from n on
record StepTo (p : List ℕ) (f : Bool) (i n : ℕ) : Type 0 where
  pub item : Item
  pub grow : (j : ℕ) (xs : List Item) → Items p false n j xs → Items p f i j (item ∷ xs)

pub stands-true : (p : List ℕ) (i b : ℕ) → stands p i b ≡ true → At p i b
unfolding stands
stands-true p i b e = split (ltb i (length p))
    (λ f. record { inside = ltb-true _ _ f; byte = eqb-true _ _ (rw f at e) })
    (λ f. clash (rw f at e) refl)

opens_not : (p : List ℕ) (i : ℕ) → (get_or p i 0 ≡ 91 → ⊥) → opens_name p i ≡ false
unfolding opens_name
opens_not p i n = split (leb (length p) i) (λ a. rw a) (λ a. rw (a, ne_eqb _ _ n))

ranges-true : (p : List ℕ) (i : ℕ) → ranges p i ≡ true → At p (i + 1) 45
unfolding ranges
ranges-true p i e = split (leb (length p) i) (λ f. clash (rw f at e) refl)
    (λ f. split (leb (length p) (i + 1)) (λ g. clash (rw (f, g) at e) refl)
    (λ g. split (eqb (get_or p (i + 1) 0) 45) (λ k. record { inside = leb-false _ _ g; byte = eqb-true _ _ k }) (λ k. clash (rw (f, g, k) at e) refl)))

ends-true : (p : List ℕ) (i : ℕ) → ends_range p i ≡ true → Self p false i (get_or p i 0)
unfolding ends_range
ends-true p i e = split (leb (length p) i) (λ f. clash (rw f at e) refl)
    (λ f. split (eqb (get_or p i 0) 45) (λ g. clash (rw (f, g) at e) refl)
    (λ g. split (eqb (get_or p i 0) 93) (λ k. clash (rw (f, g, k) at e) refl)
    (λ k. split (opens_name p i) (λ o. clash (rw (f, g, k, o) at e) refl)
    (λ o. record { at = record { inside = leb-false _ _ f; byte = refl }; no-dash = eqb-false _ _ g; bracket = λ z. absurd (eqb-false _ _ k z); no_name = o }))))

module _ (p : List ℕ) (c : ℕ) where
  range-step : (f : Bool) (i n : ℕ) (h : Bool) → Self p f i (get_or p i 0) → ranges p i ≡ true → range_at p i c ≡ took n h → StepTo p f i n
  unfolding range_at
  range-step f i n h s r e = split (leb (length p) i) (λ a. wrong-took (rw a at e))
      (λ a. split (leb (length p - i) 2) (λ b. wrong-took (rw (a, b) at e))
      (λ b. split (ends_range p (i + 2))
      (λ k. split (ltb (get_or p (i + 2) 0) (get_or p i 0)) (λ l. wrong-took (rw (a, b, k, l) at e))
      (λ l. let z : i + 3 ≡ n = took-next (rw (a, b, k, l) at e) in
      record {
        item = range (get_or p i 0) (get_or p (i + 2) 0);
        grow = λ j xs x. i-range s (ranges-true p i r) (ends-true p (i + 2) k) (ltb-false _ _ l) (subst (λ (m : ℕ). Items p false m j xs) (sym z) x);
      }))
      (λ k. wrong-took (rw (a, b, k) at e))))

  byte_step : (f : Bool) (i n : ℕ) (h : Bool) → Self p f i (get_or p i 0) → byte_at p i c ≡ took n h → StepTo p f i n
  unfolding byte_at
  byte_step f i n h s e = split (leb (length p) i) (λ a. wrong-took (rw a at e))
      (λ a. split (ranges p i) (λ r. range-step f i n h s r (rw (a, r) at e))
      (λ r. let z : i + 1 ≡ n = took-next (rw (a, r) at e) in
      record { item = range (get_or p i 0) (get_or p i 0); grow = λ j xs x. i-byte s (subst (λ (m : ℕ). Items p false m j xs) (sym z) x) }))

  dash-step : (f : Bool) (i n : ℕ) (h : Bool) → At p i 45 → dash_at p i f c ≡ took n h → StepTo p f i n
  unfolding dash_at
  dash-step true i n h d e = split (leb (length p) i) (λ a. wrong-took (rw a at e))
      (λ a. let z : i + 1 ≡ n = took-next (rw a at e) in
      record { item = range 45 45; grow = λ j xs x. i-first-dash d (subst (λ (m : ℕ). Items p false m j xs) (sym z) x) })
  dash-step false i n h d e = split (leb (length p) i) (λ a. wrong-took (rw a at e))
      (λ a. split (stands p (i + 1) 93)
      (λ b. let z : i + 1 ≡ n = took-next (rw (a, b) at e) in
      record { item = range 45 45; grow = λ j xs x. i-last-dash d (stands-true p (i + 1) 93 b) (subst (λ (m : ℕ). Items p false m j xs) (sym z) x) })
      (λ b. wrong-took (rw (a, b) at e)))

  item-step : (f : Bool) (i n : ℕ) (h : Bool) → item_at p i f c ≡ took n h → StepTo p f i n
  unfolding item_at
  item-step f i n h e = split (leb (length p) i) (λ a. wrong-took (rw a at e))
      (λ a. let l = leb-false (length p) i a in split (eqb (get_or p i 0) 93)
      (λ b. split f
      (λ g. let s : Self p f i (get_or p i 0) = record {
        at = record { inside = l; byte = refl };
        no-dash = λ z. absurd (let y : ◌≡◌ {A = ℕ} 45 93 = sym z ∙ eqb-true _ _ b in omega arith);
        bracket = λ z. g;
        no_name = opens_not p i (λ z. absurd (let y : ◌≡◌ {A = ℕ} 91 93 = sym z ∙ eqb-true _ _ b in omega arith));
      } in byte_step f i n h s (rw (a, b, g) at e))
      (λ g. closed-took (rw (a, b, g) at e)))
      (λ b. split (eqb (get_or p i 0) 45)
      (λ k. dash-step f i n h (record { inside = l; byte = eqb-true _ _ k }) (rw (a, b, k) at e))
      (λ k. split (opens_name p i) (λ o. wrong-took (rw (a, b, k, o) at e))
      (λ o. byte_step f i n h (record { at = record { inside = l; byte = refl }; no-dash = eqb-false _ _ k; bracket = λ z. absurd (eqb-false _ _ b z); no_name = o }) (rw (a, b, k, o) at e)))))

  range-open : (i : ℕ) → range_at p i c ≡ closed → ⊥
  unfolding range_at
  range-open i e = split (leb (length p) i) (λ a. wrong-closed (rw a at e))
      (λ a. split (leb (length p - i) 2) (λ b. wrong-closed (rw (a, b) at e))
      (λ b. split (ends_range p (i + 2))
      (λ k. split (ltb (get_or p (i + 2) 0) (get_or p i 0)) (λ l. wrong-closed (rw (a, b, k, l) at e)) (λ l. closed-took (sym (rw (a, b, k, l) at e))))
      (λ k. wrong-closed (rw (a, b, k) at e))))

  byte-open : (i : ℕ) → byte_at p i c ≡ closed → ⊥
  unfolding byte_at
  byte-open i e = split (leb (length p) i) (λ a. wrong-closed (rw a at e))
      (λ a. split (ranges p i) (λ r. range-open i (rw (a, r) at e)) (λ r. closed-took (sym (rw (a, r) at e))))

  dash-open : (f : Bool) (i : ℕ) → dash_at p i f c ≡ closed → ⊥
  unfolding dash_at
  dash-open true i e = split (leb (length p) i) (λ a. wrong-closed (rw a at e)) (λ a. closed-took (sym (rw a at e)))
  dash-open false i e = split (leb (length p) i) (λ a. wrong-closed (rw a at e))
      (λ a. split (stands p (i + 1) 93) (λ b. closed-took (sym (rw (a, b) at e))) (λ b. wrong-closed (rw (a, b) at e)))

  record Shut (f : Bool) (i : ℕ) : Type 0 where
    pub bracket : At p i 93
    pub later : f ≡ false

  item-closed : (f : Bool) (i : ℕ) → item_at p i f c ≡ closed → Shut f i
  unfolding item_at
  item-closed f i e = split (leb (length p) i) (λ a. wrong-closed (rw a at e))
      (λ a. split (eqb (get_or p i 0) 93)
      (λ b. split f (λ g. absurd (byte-open i (rw (a, b, g) at e))) (λ g. record { bracket = record { inside = leb-false _ _ a; byte = eqb-true _ _ b }; later = g }))
      (λ b. split (eqb (get_or p i 0) 45) (λ k. absurd (dash-open f i (rw (a, b, k) at e)))
      (λ k. split (opens_name p i) (λ o. wrong-closed (rw (a, b, k, o) at e)) (λ o. absurd (byte-open i (rw (a, b, k, o) at e))))))

  pub record Set (f : Bool) (i j : ℕ) : Type 0 where
    pub items : List Item
    pub derived : Items p f i j items

  set-case : (f : Bool) (i j : ℕ) (hit g : Bool) → ((m : ℕ) (y : Bool) → i < m → set_rest p c m false y ≡ fits j g → Set false m j)
      → i < length p → (x : Option Taken) → x ≡ item_at p i f c → set_rest p c i f hit ≡ fits j g → Set f i j
  set-case f i j hit g ih h None xe e = unfit-end (Scan.way-set-wrong p c i f hit _ refl h None xe refl ∙ e)
  set-case f i j hit g ih h (Some Closed) xe e =
      let w = item-closed f i (sym xe) in
      let z : i + 1 ≡ j = end-at (Scan.way-set-closed p c i f hit _ refl h closed xe Closed refl refl ∙ e) in
      record { items = []; derived = subst (λ (b : Bool). Items p b i j []) (sym w.later) (i-close w.bracket (sym z)) }
  set-case f i j hit g ih h (Some (Took m k)) xe e = split (leb m i)
      (λ l. unfit-end (Scan.way-set-stuck p c i f hit _ refl h (took m k) xe (Took m k) refl m k refl (leb-true _ _ l) ∙ e))
      (λ l. let s = ih m (hit || k) (leb-false _ _ l) (Scan.way-set-more p c i f hit _ refl h (took m k) xe (Took m k) refl m k refl (leb-false _ _ l) (hit || k) refl ∙ e) in
      let w = item-step f i m k (sym xe) in
      record { items = w.item ∷ s.items; derived = w.grow j s.items s.derived })

  pub set-sound : (n : ℕ) (f : Bool) (i j : ℕ) (hit g : Bool) → length p - i ≤ n → set_rest p c i f hit ≡ fits j g → Set f i j
  set-sound zero f i j hit g l e = unfit-end (Scan.way-set-end p c i f hit _ refl (omega arith) ∙ e)
  set-sound (suc n) f i j hit g l e = split (leb (length p) i)
      (λ a. unfit-end (Scan.way-set-end p c i f hit _ refl (leb-true _ _ a) ∙ e))
      (λ a. let h = leb-false (length p) i a in set-case f i j hit g (λ m y k x. set-sound n false m j y g (omega arith) x) h (item_at p i f c) refl e)
