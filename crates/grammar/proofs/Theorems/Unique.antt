-- What the list of escapes gives is one thing only: the bytes in quotes are a legal literal, and it is what lexical decodes from it. Assumes nothing.
use Rattle.std.specs.Prelude.{◌≡◌, refl, true, false, List, [], ◌∷◌, ℕ, suc, ◌+◌, ◌-◌, ◌≤◌, ◌<◌, drop}
use Rattle.std.proofs.Common.{sym, ap, ◌∙◌, arith, length-drop, drop-drop, get_or-drop}
use Rattle.std.proofs.Math.ListN.{length, get_or}
use borrow.Author.Tests.{ne_eqb, lt-leb}
use Rattle.text.specs.Scan.{past, past_more, past_stop}
use Rattle.lexical.specs.Run.{in_run, WHITE}
use Rattle.lexical.specs.declared.unit.Unit.{Unit}
use Rattle.lexical.specs.Unit as U
use Rattle.lexical.specs.Literal.{units_at, closing, given, literal_end, decoded_at}
use Rattle.lexical.specs.Theorems.LiteralLaws.{units-more, units-last}
use Rattle.grammar.specs.Escape.{octal, white, leads, Control, newline, return, tab, feed, Dropped, stopped, dropped, Other, other_byte, Plain, plain_byte, octal_value, Gives, ends, plain, control, joined, one_more, three, zero-1, zero-2, zero-3, other}
use Rattle.grammar.specs.Theorems.Decoding.{octal-range, octal-zero}
use Rattle.grammar.proofs.Theorems.Decoding.{white-is}
use Rattle.grammar.specs.Theorems.Unique.{head-not, quote-plain, quoted, read-control, read-few, read-octal, read-other, read-three, read-zero-2, read-zero-3, read_one}

module _ (s : List ℕ) where
  -- what stands at i and behind it
  drop-first : (i x : ℕ) (r : List ℕ) → drop i s ≡ x ∷ r → (get_or s i 0 ≡ x) × ((i < length s) × (drop (i + 1) s ≡ r))
  drop-first i x r e =
      let z : i + 0 ≡ i = omega arith in
      let v : get_or s i 0 ≡ x = rw (← z) (sym (get_or-drop i s 0 0) ∙ ap (λ (l : List ℕ). get_or l 0 0) e) in
      let n : length s - i ≡ suc (length r) = sym (length-drop i s) ∙ ap length e in
      (v, (omega (arith, n), sym (drop-drop 1 i s) ∙ ap (drop 1) e))

  byte_at : (i j : ℕ) (l : List ℕ) → drop i s ≡ l → get_or s (i + j) 0 ≡ get_or l j 0
  byte_at i j l e = sym (get_or-drop i s j 0) ∙ ap (λ (y : List ℕ). get_or y j 0) e

  rest_at : (i j : ℕ) (l : List ℕ) → drop i s ≡ l → drop (i + j) s ≡ drop j l
  rest_at i j l e = sym (drop-drop j i s) ∙ ap (drop j) e

  unit-plain : (i b : ℕ) → i < length s → get_or s i 0 ≡ b → Plain b → U.unit_at s i ≡ U.gives 1 b
  unfolding U.unit_at U.barred
  unit-plain i b h e (plain_byte q l z n r) = rw (lt-leb (length s) i h, e, ne_eqb b 34 q, ne_eqb b 92 l, ne_eqb b 0 z, ne_eqb b 10 n, ne_eqb b 13 r)

  unit-escape : (i b c d : ℕ) (xs : List ℕ) → drop i s ≡ 92 ∷ b ∷ xs → get_or xs 0 0 ≡ c → get_or xs 1 0 ≡ d → (b ≡ 10 → ⊥) → U.unit_at s i ≡ U.escape_unit b c d
  unfolding U.unit_at
  unit-escape i b c d xs e ce de n =
      let f : (get_or s i 0 ≡ 92) × ((i < length s) × (drop (i + 1) s ≡ b ∷ xs)) = drop-first i 92 (b ∷ xs) e in
      let be : get_or s (i + 1) 0 ≡ b = byte_at i 1 (92 ∷ b ∷ xs) e in
      let ce' : get_or s (i + 2) 0 ≡ c = byte_at i 2 (92 ∷ b ∷ xs) e ∙ ce in
      let de' : get_or s (i + 3) 0 ≡ d = byte_at i 3 (92 ∷ b ∷ xs) e ∙ de in
      rw (lt-leb (length s) i f.1.0, f.0, be, ce', de', ne_eqb b 10 n)

  unit-drops : (i : ℕ) (xs : List ℕ) → drop i s ≡ 92 ∷ 10 ∷ xs → U.unit_at s i ≡ U.drops (past (in_run WHITE) s (i + 2) - i)
  unfolding U.unit_at
  unit-drops i xs e =
      let f : (get_or s i 0 ≡ 92) × ((i < length s) × (drop (i + 1) s ≡ 10 ∷ xs)) = drop-first i 92 (10 ∷ xs) e in
      let be : get_or s (i + 1) 0 ≡ 10 = byte_at i 1 (92 ∷ 10 ∷ xs) e in
      rw (lt-leb (length s) i f.1.0, f.0, be)

  unit-quote : (i : ℕ) (r : List ℕ) → drop i s ≡ 34 ∷ r → U.unit_at s i ≡ U.closes
  unfolding U.unit_at
  unit-quote i r e =
      let f : (get_or s i 0 ≡ 34) × ((i < length s) × (drop (i + 1) s ≡ r)) = drop-first i 34 r e in
      rw (lt-leb (length s) i f.1.0, f.0)

  -- the units from i on give ys and close before m
  data Reads (i m : ℕ) (ys : List ℕ) : Type 0 where
    reads : closing i (units_at s i) ≡ m → given (units_at s i) ≡ ys → Reads i m ys

  reads-quote : (i m : ℕ) (r : List ℕ) → drop i s ≡ 34 ∷ r → m ≡ i + 1 → Reads i m []
  reads-quote i m r e h =
      let u : U.unit_at s i ≡ U.closes = unit-quote i r e in
      let l : units_at s i ≡ U.unit_at s i ∷ [] = units-last s i (rw u (omega arith)) in
      let v : units_at s i ≡ U.closes ∷ [] = l ∙ ap (λ (x : Unit). x ∷ []) u in
      reads (rw v (sym h)) (rw v refl)

  reads-gives : (i m w b : ℕ) (ys : List ℕ) → U.unit_at s i ≡ U.gives w b → Reads (i + w) m ys → Reads i m (b ∷ ys)
  reads-gives i m w b ys u (reads h k) =
      let l : units_at s i ≡ U.unit_at s i ∷ units_at s (i + (U.width (U.unit_at s i))) = units-more s i (rw u (omega arith)) in
      let v : units_at s i ≡ U.gives w b ∷ units_at s (i + w) = l ∙ ap (λ (x : Unit). x ∷ units_at s (i + (U.width x))) u in
      reads (rw v h) (rw v (ap (λ (zs : List ℕ). b ∷ zs) k))

  reads-drops : (i m w : ℕ) (ys : List ℕ) → U.unit_at s i ≡ U.drops w → Reads (i + w) m ys → Reads i m ys
  reads-drops i m w ys u (reads h k) =
      let l : units_at s i ≡ U.unit_at s i ∷ units_at s (i + (U.width (U.unit_at s i))) = units-more s i (rw u (omega arith)) in
      let v : units_at s i ≡ U.drops w ∷ units_at s (i + w) = l ∙ ap (λ (x : Unit). x ∷ units_at s (i + (U.width x))) u in
      reads (rw v h) (rw v k)

  -- the scan over whitespace
  data Passed (i : ℕ) (xs zs post : List ℕ) : Type 0 where
    passed : (j : ℕ) → i ≤ j → past (in_run WHITE) s i ≡ j → drop j s ≡ quoted zs post → j + length zs ≡ i + length xs → Passed i xs zs post

  first-not : (i : ℕ) (xs post : List ℕ) → leads white xs ≡ false → drop i s ≡ quoted xs post → (i < length s) × (white (get_or s i 0) ≡ false)
  first-not i [] post h e = let f : (get_or s i 0 ≡ 34) × ((i < length s) × (drop (i + 1) s ≡ post)) = drop-first i 34 post e in (f.1.0, rw f.0 quote-plain.1)
  first-not i (x ∷ xs) post h e =
      let f : (get_or s i 0 ≡ x) × ((i < length s) × (drop (i + 1) s ≡ quoted xs post)) = drop-first i x (quoted xs post) e in (f.1.0, rw f.0 h)

  passed-dropped : (i : ℕ) (xs zs post : List ℕ) → Dropped xs zs → drop i s ≡ quoted xs post → Passed i xs zs post
  passed-dropped i xs _ post (stopped _ h) e =
      let f : (i < length s) × (white (get_or s i 0) ≡ false) = first-not i xs post h e in
      passed i (omega arith) (past_stop (in_run WHITE) s i f.0 (white-is (get_or s i 0) ∙ f.1)) e refl
  passed-dropped i _ zs post (dropped b xs _ w d) e =
      let f : (get_or s i 0 ≡ b) × ((i < length s) × (drop (i + 1) s ≡ quoted xs post)) = drop-first i b (quoted xs post) e in
      let q : past (in_run WHITE) s i ≡ past (in_run WHITE) s (i + 1) = past_more (in_run WHITE) s i f.1.0 (white-is (get_or s i 0) ∙ rw f.0 w) in
      again q (passed-dropped (i + 1) xs zs post d f.1.1)
    where
      again : past (in_run WHITE) s i ≡ past (in_run WHITE) s (i + 1) → Passed (i + 1) xs zs post → Passed i (b ∷ xs) zs post
      again q (passed j l p r n) = passed j (omega (arith, l)) (q ∙ p) r (omega (arith, n))

  -- "0" behind a backslash, then more zeros
  zero-plain : Plain 48
  zero-plain = plain_byte (λ e. let no : ⊥ = omega (arith, e) in no) (λ e. let no : ⊥ = omega (arith, e) in no) (λ e. let no : ⊥ = omega (arith, e) in no) (λ e. let no : ⊥ = omega (arith, e) in no) (λ e. let no : ⊥ = omega (arith, e) in no)

  reads-zero : (i m : ℕ) (ys l : List ℕ) → drop i s ≡ 48 ∷ l → Reads (i + 1) m ys → Reads i m (48 ∷ ys)
  reads-zero i m ys l e r =
      let f : (get_or s i 0 ≡ 48) × ((i < length s) × (drop (i + 1) s ≡ l)) = drop-first i 48 l e in
      reads-gives i m 1 48 ys (unit-plain i 48 f.1.0 f.0 zero-plain) r

  not_line : (b : ℕ) → octal b ≡ true → b ≡ 10 → ⊥
  not_line b o e = let r : 48 ≤ b = (octal-range b o).0 in omega (arith, r, e)

  control-line : (b c : ℕ) → Control b c → b ≡ 10 → ⊥
  control-line _ _ newline e = omega (arith, e)
  control-line _ _ return e = omega (arith, e)
  control-line _ _ tab e = omega (arith, e)
  control-line _ _ feed e = omega (arith, e)

  other-line : (b : ℕ) (xs : List ℕ) → Other b xs → b ≡ 10 → ⊥
  other-line b xs (other_byte nz nl nn nr nt nf n0 o) = nl

  reads-joined : (i m : ℕ) (xs zs ys post : List ℕ) → drop i s ≡ 92 ∷ 10 ∷ quoted xs post → m ≡ i + suc (suc (suc (length xs)))
      → ((j : ℕ) → drop j s ≡ quoted zs post → m ≡ j + suc (length zs) → Reads j m ys) → Passed (i + 2) xs zs post → Reads i m ys
  reads-joined i m xs zs ys post e h again (passed j l p r n) =
      let w : i + (past (in_run WHITE) s (i + 2) - i) ≡ j = omega (arith, p, l) in
      reads-drops i m (past (in_run WHITE) s (i + 2) - i) ys (unit-drops i (quoted xs post) e) (rw w (again j r (omega (arith, h, n))))

  gives-reads : (i m : ℕ) (xs ys post : List ℕ) → Gives xs ys → drop i s ≡ quoted xs post → m ≡ i + suc (length xs) → Reads i m ys
  gives-reads i m _ _ post ends e h = reads-quote i m post e (omega (arith, h))
  gives-reads i m _ _ post (plain b xs ys p g) e h =
      let f : (get_or s i 0 ≡ b) × ((i < length s) × (drop (i + 1) s ≡ quoted xs post)) = drop-first i b (quoted xs post) e in
      reads-gives i m 1 b ys (unit-plain i b f.1.0 f.0 p) (gives-reads (i + 1) m xs ys post g f.1.1 (omega (arith, h)))
  gives-reads i m _ _ post (control b c xs ys k g) e h =
      reads-gives i m 2 c ys (unit-escape i b _ _ (quoted xs post) e refl refl (control-line b c k) ∙ read-control b c _ _ k)
      (gives-reads (i + 2) m xs ys post g (rest_at i 2 _ e) (omega (arith, h)))
  gives-reads i m _ _ post (joined xs zs ys d g) e h =
      reads-joined i m xs zs ys post e h (λ j r n. gives-reads j m zs ys post g r n) (passed-dropped (i + 2) xs zs post d (rest_at i 2 _ e))
  gives-reads i m _ _ post (one_more c xs ys o n l g) e h =
      reads-gives i m 3 (c - 48) ys
      (unit-escape i 48 c _ (c ∷ quoted xs post) e refl refl (not_line 48 octal-zero) ∙ read-octal 48 c _ octal-zero ∙ read_one c _ o n (head-not octal quote-plain.0 xs post l))
      (gives-reads (i + 3) m xs ys post g (rest_at i 3 _ e) (omega (arith, h)))
  gives-reads i m _ _ post (three b c d xs ys o p q j k g) e h =
      reads-gives i m 4 (octal_value b c d) ys
      (unit-escape i b c d (c ∷ d ∷ quoted xs post) e refl refl (not_line b o) ∙ read-octal b c d o ∙ read-three b c d p q j k)
      (gives-reads (i + 4) m xs ys post g (rest_at i 4 _ e) (omega (arith, h)))
  gives-reads i m _ _ post (zero-1 xs ys l g) e h =
      reads-gives i m 2 48 ys
      (unit-escape i 48 _ _ (quoted xs post) e refl refl (not_line 48 octal-zero) ∙ read-octal 48 _ _ octal-zero ∙ read-few 48 _ _ (head-not octal quote-plain.0 xs post l))
      (gives-reads (i + 2) m xs ys post g (rest_at i 2 _ e) (omega (arith, h)))
  gives-reads i m _ _ post (zero-2 xs ys l g) e h =
      let t : drop (i + 2) s ≡ 48 ∷ quoted xs post = rest_at i 2 _ e in
      reads-gives i m 2 48 (48 ∷ ys)
      (unit-escape i 48 48 _ (48 ∷ quoted xs post) e refl refl (not_line 48 octal-zero) ∙ read-octal 48 48 _ octal-zero ∙ read-zero-2 _ (head-not octal quote-plain.0 xs post l))
      (reads-zero (i + 2) m ys (quoted xs post) t
      (gives-reads (i + 2 + 1) m xs ys post g (drop-first (i + 2) 48 (quoted xs post) t).1.1 (omega (arith, h))))
  gives-reads i m _ _ post (zero-3 xs ys g) e h =
      let t : drop (i + 2) s ≡ 48 ∷ 48 ∷ quoted xs post = rest_at i 2 _ e in
      let u : drop (i + 2 + 1) s ≡ 48 ∷ quoted xs post = (drop-first (i + 2) 48 (48 ∷ quoted xs post) t).1.1 in
      reads-gives i m 2 48 (48 ∷ 48 ∷ ys)
      (unit-escape i 48 48 48 (48 ∷ 48 ∷ quoted xs post) e refl refl (not_line 48 octal-zero) ∙ read-octal 48 48 48 octal-zero ∙ read-zero-3)
      (reads-zero (i + 2) m (48 ∷ ys) (48 ∷ quoted xs post) t
      (reads-zero (i + 2 + 1) m ys (quoted xs post) u
      (gives-reads (i + 2 + 1 + 1) m xs ys post g (drop-first (i + 2 + 1) 48 (quoted xs post) u).1.1 (omega (arith, h)))))
  gives-reads i m _ _ post (other b xs ys o g) e h =
      reads-gives i m 2 b ys (unit-escape i b _ _ (quoted xs post) e refl refl (other-line b xs o) ∙ read-other b xs post o)
      (gives-reads (i + 2) m xs ys post g (rest_at i 2 _ e) (omega (arith, h)))

  reads_end : (i m : ℕ) (ys : List ℕ) → Reads i m ys → (closing i (units_at s i) ≡ m) × (given (units_at s i) ≡ ys)
  reads_end i m ys (reads h k) = (h, k)

-- The bytes xs in quotes are a legal literal wherever the list of escapes gives something for them, and that is what lexical decodes.
pub gives-decoded : (xs ys post : List ℕ) → Gives xs ys
    → (literal_end (34 ∷ quoted xs post) 1 ≡ length xs + 2) × (decoded_at (34 ∷ quoted xs post) 0 ≡ ys)
unfolding literal_end decoded_at
gives-decoded xs ys post g = reads_end (34 ∷ quoted xs post) 1 (length xs + 2) ys (gives-reads (34 ∷ quoted xs post) 1 (length xs + 2) xs ys post g refl (omega arith))

-- Bytes give one thing at most.
pub gives-unique : (xs ys zs : List ℕ) → Gives xs ys → Gives xs zs → ys ≡ zs
gives-unique xs ys zs g h = sym (gives-decoded xs ys [] g).1 ∙ (gives-decoded xs zs [] h).1
