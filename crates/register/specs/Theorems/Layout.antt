-- The bytes of a register are read back as that register. Assumes nothing.
use Rattle.std.specs.Prelude.{◌≡◌, refl, false, List, [], ◌∷◌, ◌++◌, ℕ, ◌+◌, ◌*◌, ◌/◌, ◌%◌, ◌<◌, ◌≤◌, ltb, length, get_or}
use Rattle.std.proofs.Common.{sym, ap, ◌∙◌, subst, append_assoc, arith, length-append, get_or-append-add, eq-eqb, le-ltb}
use Rattle.text.specs.Counted.{pair_at}
use Rattle.register.specs.Limits.{most_principals, register_bytes}
use Rattle.register.specs.Entries.{Entry, free, held, Contents}
use Rattle.register.specs.Layout.{four_bytes, eight_bytes, entry_bytes, entries_bytes, head, encode, four_at, eight_at, entry_at, entries_at, Decoded, register, marked, decode}
use Rattle.register.specs.Working.Bytes.{entry_length, entries-length}

-- a principal of four bytes and moves of eight
pub data Fitting : List Entry → Type 0 where
  no_more : Fitting []
  free-fits : {es : List Entry} → Fitting es → Fitting (free ∷ es)
  held_fits : {x m : ℕ} {es : List Entry} → x < 4294967296 → m < 18446744073709551616 → Fitting es → Fitting (held x m ∷ es)

-- a register that its bytes can say
pub record Fits (r : Contents) : Type 0 where
  pub long : length r.entries ≡ most_principals
  pub entries : Fitting r.entries
  pub issued : r.issued < 18446744073709551616

-- numbers put together again
two_back : (n : ℕ) → n < 65536 → n / 256 % 256 * 256 + n % 256 ≡ n
two_back n h = omega arith

four-parts : (n : ℕ) → n < 4294967296 → (n / 65536 < 65536) × (n % 65536 < 65536) × (n / 65536 * 65536 + n % 65536 ≡ n)
four-parts n h = (omega arith, omega arith, omega arith)

eight-parts : (n : ℕ) → n < 18446744073709551616 → (n / 4294967296 < 4294967296) × (n % 4294967296 < 4294967296) × (n / 4294967296 * 4294967296 + n % 4294967296 ≡ n)
eight-parts n h = (omega arith, omega arith, omega arith)

four-here : (n : ℕ) (s : List ℕ) → n < 4294967296 → four_at (four_bytes n ++ s) 0 ≡ n
unfolding four_at pair_at
four-here n s h =
    let p = four-parts n h in
    rw (two_back (n / 65536) p.0, two_back (n % 65536) p.1) p.2

-- what is read behind a front is read at the start without it
pair-behind : (f s : List ℕ) (k : ℕ) → pair_at (f ++ s) (length f + k) ≡ pair_at s k
unfolding pair_at
pair-behind f s k =
    let e : length f + k + 1 ≡ length f + (k + 1) = omega arith in
    rw (e, get_or-append-add f s k 0, get_or-append-add f s (k + 1) 0) refl

four-behind : (f s : List ℕ) (k : ℕ) → four_at (f ++ s) (length f + k) ≡ four_at s k
unfolding four_at
four-behind f s k =
    let e : length f + k + 2 ≡ length f + (k + 2) = omega arith in
    rw (e, pair-behind f s k, pair-behind f s (k + 2)) refl

eight-behind : (f s : List ℕ) (k : ℕ) → eight_at (f ++ s) (length f + k) ≡ eight_at s k
unfolding eight_at
eight-behind f s k =
    let e : length f + k + 4 ≡ length f + (k + 4) = omega arith in
    rw (e, four-behind f s k, four-behind f s (k + 4)) refl

eight-here : (n : ℕ) (s : List ℕ) → n < 18446744073709551616 → eight_at (eight_bytes n ++ s) 0 ≡ n
unfolding eight_at
eight-here n s h =
    let p = eight-parts n h in
    let a : four_at (four_bytes (n / 4294967296) ++ (four_bytes (n % 4294967296) ++ s)) 0 ≡ n / 4294967296 = four-here (n / 4294967296) _ p.0 in
    let b : four_at (four_bytes (n / 4294967296) ++ (four_bytes (n % 4294967296) ++ s)) 4 ≡ n % 4294967296
    = four-behind (four_bytes (n / 4294967296)) (four_bytes (n % 4294967296) ++ s) 0 ∙ four-here (n % 4294967296) s p.1 in
    rw (a, b) p.2

entry-behind : (f s : List ℕ) → entry_at (f ++ s) (length f + 0) ≡ entry_at s 0
unfolding entry_at
entry-behind f s =
    let a : length f + 0 + 1 ≡ length f + 1 = omega arith in
    let b : length f + 0 + 5 ≡ length f + 5 = omega arith in
    rw (get_or-append-add f s 0 0, a, b, four-behind f s 1, eight-behind f s 5) refl

-- an entry read back
pub entry-back : (e : Entry) (s : List ℕ) (es : List Entry) → Fitting (e ∷ es) → entry_at (entry_bytes e ++ s) 0 ≡ e
unfolding entry_at
entry-back free s es f = refl
entry-back (held x m) s es (held_fits a b f) =
    let p : four_at ((1 ∷ four_bytes x) ++ eight_bytes m ++ s) 1 ≡ x = four-behind (1 ∷ []) (four_bytes x ++ eight_bytes m ++ s) 0 ∙ four-here x (eight_bytes m ++ s) a in
    let q : eight_at ((1 ∷ four_bytes x) ++ eight_bytes m ++ s) 5 ≡ m = eight-behind (1 ∷ four_bytes x) (eight_bytes m ++ s) 0 ∙ eight-here m s b in
    rw (p, q) refl

rest-fits : (e : Entry) (es : List Entry) → Fitting (e ∷ es) → Fitting es
rest-fits free es (free-fits f) = f
rest-fits (held x m) es (held_fits a b f) = f

mark-few : (e : Entry) (s : List ℕ) → get_or (entry_bytes e ++ s) 0 0 ≤ 1
mark-few free s = omega arith
mark-few (held x m) s = omega arith

-- what is behind a front, an entry more in it
module _ (f : List ℕ) (e : Entry) (es : List Entry) where
  entry-front : f ++ (entry_bytes e ++ entries_bytes es) ≡ f ++ entry_bytes e ++ entries_bytes es
  entry-front = sym (append_assoc f (entry_bytes e) (entries_bytes es))

  front_length : length (f ++ entry_bytes e) ≡ length f + 13
  front_length = omega (arith, length-append f (entry_bytes e), entry_length e)

entries-back : (f : List ℕ) (es : List Entry) → Fitting es → entries_at (length es) (f ++ entries_bytes es) (length f) ≡ es
unfolding entries_at entries_bytes
entries-back f [] t = refl
entries-back f (e ∷ es) t =
    let z : length f + 0 ≡ length f = omega arith in
    let a : entry_at (f ++ (entry_bytes e ++ entries_bytes es)) (length f) ≡ e
    = subst (λ (n : ℕ). entry_at (f ++ (entry_bytes e ++ entries_bytes es)) n ≡ e) z
    (entry-behind f (entry_bytes e ++ entries_bytes es) ∙ entry-back e (entries_bytes es) es t) in
    let b : entries_at (length es) (f ++ (entry_bytes e ++ entries_bytes es)) (length f + 13) ≡ es
    = rw (entry-front f e es, sym (front_length f e es)) (entries-back (f ++ entry_bytes e) es (rest-fits e es t)) in
    rw (a, b) refl

marks-back : (f : List ℕ) (es : List Entry) (d : Decoded) → marked (length es) (f ++ entries_bytes es) (length f) d ≡ d
unfolding marked entries_bytes
marks-back f [] d = refl
marks-back f (e ∷ es) d =
    let z : length f + 0 ≡ length f = omega arith in
    let a : get_or (f ++ (entry_bytes e ++ entries_bytes es)) (length f) 0 ≡ get_or (entry_bytes e ++ entries_bytes es) 0 0
    = subst (λ (n : ℕ). get_or (f ++ (entry_bytes e ++ entries_bytes es)) n 0 ≡ get_or (entry_bytes e ++ entries_bytes es) 0 0) z
    (get_or-append-add f (entry_bytes e ++ entries_bytes es) 0 0) in
    let m : ltb 1 (get_or (entry_bytes e ++ entries_bytes es) 0 0) ≡ false = le-ltb _ _ (mark-few e (entries_bytes es)) in
    let b : marked (length es) (f ++ (entry_bytes e ++ entries_bytes es)) (length f + 13) d ≡ d
    = rw (entry-front f e es, sym (front_length f e es)) (marks-back (f ++ entry_bytes e) es d) in
    rw (a, m) b

pub encode-length : (r : Contents) → length r.entries ≡ most_principals → length (encode r) ≡ register_bytes
unfolding encode
encode-length r h =
    omega (arith, length-append (head r.issued) (entries_bytes r.entries), entries-length r.entries)

version-back : (r : Contents) → get_or (encode r) 0 0 ≡ 1
unfolding encode
version-back r = refl

issued-back : (r : Contents) → r.issued < 18446744073709551616 → eight_at (encode r) 1 ≡ r.issued
unfolding encode
issued-back r h =
    eight-behind (1 ∷ []) (eight_bytes r.issued ++ entries_bytes r.entries) 0 ∙ eight-here r.issued (entries_bytes r.entries) h

entries-of : (r : Contents) → Fits r → entries_at 64 (encode r) 9 ≡ r.entries
unfolding encode
entries-of r f =
    subst (λ (n : ℕ). entries_at n (head r.issued ++ entries_bytes r.entries) 9 ≡ r.entries) f.long
    (entries-back (head r.issued) r.entries f.entries)

marks-of : (r : Contents) → Fits r → marked 64 (encode r) 9 (register r) ≡ register r
unfolding encode
marks-of r f =
    subst (λ (n : ℕ). marked n (head r.issued ++ entries_bytes r.entries) 9 (register r) ≡ register r) f.long
    (marks-back (head r.issued) r.entries (register r))

-- a register's bytes are read back as the register
pub decode-encode : (r : Contents) → Fits r → decode (encode r) ≡ register r
unfolding decode
decode-encode r f =
    rw (eq-eqb (length (encode r)) 841 (encode-length r f.long), eq-eqb (get_or (encode r) 0 0) 1 (version-back r), issued-back r f.issued, entries-of r f)
    (marks-of r f)

register_of : {r q : Contents} → register r ≡ register q → r ≡ q
register_of h = cc

-- no two registers have the same bytes
pub encode_one : (r q : Contents) → Fits r → Fits q → encode r ≡ encode q → r ≡ q
encode_one r q f g h = register_of (sym (decode-encode r f) ∙ ap decode h ∙ decode-encode q g)
