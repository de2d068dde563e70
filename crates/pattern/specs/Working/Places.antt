-- Sets of places as four words, what is known of a part of a pattern, and the table of the places that follow, as the code keeps them.
-- Assumes nothing.
use Rattle.std.specs.Prelude.{◌≡◌, Bool, true, false, ◌&&◌, ◌||◌, List, ℕ, ◌+◌, ◌-◌, ◌*◌, ◌/◌, ◌%◌, ◌^◌, ◌<◌, ◌≤◌, eqb, ltb, leb, length, get_or, set}
use Rattle.std.proofs.Math.Path.{sym}
use Rattle.std.proofs.Common.{◌∙◌, arith}
use Rattle.std.proofs.Math.ListN.{get_or-eq_default}
use Rattle.std.specs.Int.Bits.{bit_or}
use borrow.Author.Tests.{ltb-false, lt-ltb, le-ltb, le-leb, lt-leb, eq-eqb, ne_eqb}
use Rattle.text.specs.Choice.{pick, split}
use Rattle.text.specs.Loop.{Step, next, done, loop, loop-next, loop-done}
use Rattle.pattern.specs.declared.places.Places.{Places}
use Rattle.pattern.specs.declared.places.Part.{Part}

unfoldable pub nowhere : Places
nowhere = record { a = 0; b = 0; c = 0; d = 0 }

-- the bit k of a word
unfoldable pub power : ℕ → ℕ
power k = (1 * 2 ^ k) % 2 ^ 64

unfoldable pub only_at : ℕ → Places
only_at q = pick (ltb q 64) (record { a = power q; b = 0; c = 0; d = 0 })
    (pick (ltb q 128) (record { a = 0; b = power (q - 64); c = 0; d = 0 })
    (pick (ltb q 192) (record { a = 0; b = 0; c = power (q - 128); d = 0 })
    (pick (ltb q 256) (record { a = 0; b = 0; c = 0; d = power (q - 192) }) nowhere)))

unfoldable pub join : Places → Places → Places
join x y = record { a = bit_or x.a y.a; b = bit_or x.b y.b; c = bit_or x.c y.c; d = bit_or x.d y.d }

unfoldable pub gated : Bool → Places → Places
gated t x = pick t x nowhere

unfoldable pub start_part : Part
start_part = record { nb = true; ns = true; nm = false; ne = false; fs = nowhere; fm = nowhere; lm = nowhere; le = nowhere }

unfoldable pub end_part : Part
end_part = record { nb = true; ns = false; nm = false; ne = true; fs = nowhere; fm = nowhere; lm = nowhere; le = nowhere }

unfoldable pub byte_part : ℕ → Part
byte_part q = record { nb = false; ns = false; nm = false; ne = false; fs = only_at q; fm = only_at q; lm = only_at q; le = only_at q }

unfoldable pub sequence : Part → Part → Part
sequence f g = record {
  nb = f.nb && g.nb;
  ns = f.ns && g.ns;
  nm = f.nm && g.nm;
  ne = f.ne && g.ne;
  fs = join f.fs (gated f.ns g.fs);
  fm = join f.fm (gated f.nm g.fm);
  lm = join g.lm (gated g.nm f.lm);
  le = join g.le (gated g.ne f.le);
}

unfoldable pub choice : Part → Part → Part
choice f g = record {
  nb = f.nb || g.nb;
  ns = f.ns || g.ns;
  nm = f.nm || g.nm;
  ne = f.ne || g.ne;
  fs = join f.fs g.fs;
  fm = join f.fm g.fm;
  lm = join f.lm g.lm;
  le = join f.le g.le;
}

unfoldable pub or_empty : Part → Part
or_empty f = record { nb = true; ns = true; nm = true; ne = true; fs = f.fs; fm = f.fm; lm = f.lm; le = f.le }

unfoldable pub or_at : List ℕ → ℕ → ℕ → List ℕ
or_at t i x = pick (ltb i (length t)) (set t i (bit_or (get_or t i 0) x)) t

unfoldable pub word_at : List ℕ → ℕ → ℕ
word_at t i = pick (ltb i (length t)) (get_or t i 0) 0

pub way-word : (t : List ℕ) (i : ℕ) → get_or t i 0 ≡ word_at t i
unfolding word_at
way-word t i = split (ltb i (length t)) (λ e. rw e) (λ e. rw e (get_or-eq_default t 0 (ltb-false _ _ e)))

-- the row q of the table is at 4 q
unfoldable pub add_row : List ℕ → ℕ → Places → List ℕ
add_row t q x = pick (ltb q 256) (or_at (or_at (or_at (or_at t (4 * q) x.a) (4 * q + 1) x.b) (4 * q + 2) x.c) (4 * q + 3) x.d) t

unfoldable pub row : List ℕ → ℕ → Places
row t q = pick (ltb q 256) (record { a = word_at t (4 * q); b = word_at t (4 * q + 1); c = word_at t (4 * q + 2); d = word_at t (4 * q + 3) }) nowhere

unfoldable pub add_if : List ℕ → ℕ → ℕ → Places → List ℕ
add_if t x q y = pick (eqb (x % 2) 1) (add_row t q y) t

abbrev pub link_turn : ℕ → Places → ℕ × ℕ × List ℕ → Step (ℕ × ℕ × List ℕ) (List ℕ)
link_turn z y s = pick (leb z s.1) (done s.2) (pick (eqb s.0 0) (done s.2) (next (s.0 / 2, s.1 + 1, add_if s.2 s.0 s.1 y)))

unfoldable pub link_word : List ℕ → ℕ → ℕ → ℕ → Places → List ℕ
link_word t x q z y = loop (λ s. z - s.1) (λ s. s.2) (link_turn z y) (x, q, t)

unfoldable pub link : List ℕ → Places → Places → List ℕ
link t x y = link_word (link_word (link_word (link_word t x.a 0 64 y) x.b 64 128 y) x.c 128 192 y) x.d 192 256 y

-- the ways out of the functions
abbrev pub part : Bool → Bool → Bool → Bool → Places → Places → Places → Places → Part
part x y z u f g l m = record { nb = x; ns = y; nm = z; ne = u; fs = f; fm = g; lm = l; le = m }

pub way-start : (n : Places) → n ≡ nowhere → part true true false false n n n n ≡ start_part
unfolding start_part
way-start n e = rw e

pub way_end : (n : Places) → n ≡ nowhere → part true false false true n n n n ≡ end_part
unfolding end_part
way_end n e = rw e

pub way-byte : (q : ℕ) (n : Places) → n ≡ only_at q → part false false false false n n n n ≡ byte_part q
unfolding byte_part
way-byte q n e = rw e

module _ (f g : Part) (x y z u : Bool) (k l m n : Places) where
  pub way-choice : k ≡ join f.fs g.fs → l ≡ join f.fm g.fm → m ≡ join f.lm g.lm → n ≡ join f.le g.le
      → x ≡ f.nb || g.nb → y ≡ f.ns || g.ns → z ≡ f.nm || g.nm → u ≡ f.ne || g.ne → part x y z u k l m n ≡ choice f g
  unfolding choice
  way-choice e₁ e₂ e₃ e₄ e₅ e₆ e₇ e₈ = rw (e₁, e₂, e₃, e₄, e₅, e₆, e₇, e₈)

  pub way-sequence : (k' l' m' n' : Places) → k' ≡ gated f.ns g.fs → k ≡ join f.fs k' → l' ≡ gated f.nm g.fm → l ≡ join f.fm l'
      → m' ≡ gated g.nm f.lm → m ≡ join g.lm m' → n' ≡ gated g.ne f.le → n ≡ join g.le n'
      → x ≡ f.nb && g.nb → y ≡ f.ns && g.ns → z ≡ f.nm && g.nm → u ≡ f.ne && g.ne → part x y z u k l m n ≡ sequence f g
  unfolding sequence
  way-sequence k' l' m' n' d₁ e₁ d₂ e₂ d₃ e₃ d₄ e₄ e₅ e₆ e₇ e₈ = rw (e₁, e₂, e₃, e₄, d₁, d₂, d₃, d₄, e₅, e₆, e₇, e₈)

module _ (t : List ℕ) (q : ℕ) where
  pub way-row-out : 256 ≤ q → (n : Places) → n ≡ nowhere → n ≡ row t q
  unfolding row
  way-row-out h n e = simp (le-ltb _ _ h) e

  pub way-row : q < 256 → (a b c d : ℕ) → a ≡ word_at t (4 * q) → b ≡ word_at t (4 * q + 1) → c ≡ word_at t (4 * q + 2) → d ≡ word_at t (4 * q + 3)
      → ◌≡◌ {A = Places} (record { a = a; b = b; c = c; d = d }) (row t q)
  unfolding row
  way-row h a b c d ea eb ec ed = rw (ea, eb, ec, ed, lt-ltb _ _ h)

  module _ (x : Places) where
    pub way-add-out : 256 ≤ q → t ≡ add_row t q x
    unfolding add_row
    way-add-out h = simp (le-ltb _ _ h)

    pub way-add : q < 256 → (a b c d : List ℕ) → a ≡ or_at t (4 * q) x.a → b ≡ or_at a (4 * q + 1) x.b → c ≡ or_at b (4 * q + 2) x.c → d ≡ or_at c (4 * q + 3) x.d
        → d ≡ add_row t q x
    unfolding add_row
    way-add h a b c d ea eb ec ed = rw (lt-ltb _ _ h, ← ea, ← eb, ← ec, ← ed)

module _ (t : List ℕ) (x q z : ℕ) (y : Places) (r : List ℕ) (inv : link_word t x q z y ≡ r) where
  pub way-link-end : z ≤ q → t ≡ r
  unfolding link_word
  way-link-end h = sym (loop-done _ _ _ (x, q, t) t (simp (le-leb _ _ h))) ∙ inv

  module _ (h : q < z) where
    pub way-link-done : x ≡ 0 → t ≡ r
    unfolding link_word
    way-link-done e = sym (loop-done _ _ _ (x, q, t) t (simp (lt-leb _ _ h, eq-eqb _ _ e))) ∙ inv

    pub way-link-more : (x ≡ 0 → ⊥) → (u : List ℕ) → u ≡ add_if t x q y → link_word u (x / 2) (q + 1) z y ≡ r
    unfolding link_word
    way-link-more n u e = sym (loop-next _ _ _ (x, q, t) (x / 2, q + 1, u) (simp (lt-leb _ _ h, ne_eqb _ _ n, sym e)) (omega arith)) ∙ inv

pub way-link : (t t₁ t₂ t₃ t₄ : List ℕ) (x y : Places) → t₁ ≡ link_word t x.a 0 64 y → t₂ ≡ link_word t₁ x.b 64 128 y → t₃ ≡ link_word t₂ x.c 128 192 y → t₄ ≡ link_word t₃ x.d 192 256 y → t₄ ≡ link t x y
unfolding link
way-link t t₁ t₂ t₃ t₄ x y e₁ e₂ e₃ e₄ = rw (← e₁, ← e₂, ← e₃, ← e₄)
