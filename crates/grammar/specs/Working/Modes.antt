-- The tokens of Licensees and those of other fields: they differ in "-of" alone, which is a "-" elsewhere. Assumes nothing.
use Rattle.std.specs.Prelude.{◌≡◌, refl, true, false, List, eqb, leb, ltb, length, get_or}
use Rattle.std.proofs.Common.{eqb-true}
use Prim.Native.Nat.{ℕ, zero, suc, ◌+◌, ◌-◌}
use Rattle.text.specs.Choice.{pick, split, clash}
use Rattle.text.specs.Loop.{Step, next, done, after, turns, loop}
use Rattle.text.specs.Scan.{past}
use Rattle.lexical.specs.Kind
use Rattle.lexical.specs.Kind.{ending}
use Rattle.lexical.specs.Class.{class_of, BLANK, NEWLINE, HASH, LETTER, DIGIT, QUOTE}
use Rattle.lexical.specs.Run.{in_run, BLANKS}
use Rattle.lexical.specs.Operator.{pair_of, mark_kind, is_of, operator_kind}
use Rattle.lexical.specs.Token.{end_of, operator_at, operator_token, token_from}
use Rattle.lexical.specs.Line.{visible, in_line, blank_to, indented, line_at, line_turn, lines_from, token_at}
use Rattle.lexical.specs.declared.token.Token.{Token}
use Rattle.syntax.specs.Parsed.{refusal}

-- u as it stands in other fields, n in Licensees
pub data Near : Token → Token → Type 0 where
  near_same : (u : Token) → Near u u
  near_of : (u n : Token) → u.kind ≡ Kind.MINUS → n.kind ≡ Kind.OF → u.start ≡ n.start → Near u n

abbrev F : ℕ
F = Kind.IN_FIELD

abbrev low : ℕ
low = Kind.IN_LICENSEES

-- the bytes "-of"
of-minus : (c b d : ℕ) → is_of low c b d ≡ true → operator_kind F c b d ≡ Kind.MINUS
unfolding is_of operator_kind pair_of mark_kind
of-minus c b d h =
    split (eqb c Kind.MINUS)
    (λ e. split (eqb b 111) (λ f. let z : c ≡ Kind.MINUS = eqb-true c Kind.MINUS e in let w : b ≡ 111 = eqb-true b 111 f in rw (z, w) refl) (λ f. clash (rw (e, f) at h) refl))
    (λ e. clash (rw e at h) refl)

of-of : (c b d : ℕ) → is_of low c b d ≡ true → operator_kind low c b d ≡ Kind.OF
unfolding operator_kind
of-of c b d h = rw h

not-of : (c b d : ℕ) → is_of low c b d ≡ false → operator_kind F c b d ≡ operator_kind low c b d
unfolding operator_kind is_of
not-of c b d h = rw h refl

module _ (s : List ℕ) where
  operator-near : (i : ℕ) → Near (operator_token s F i) (operator_token s low i)
  unfolding operator_token operator_at
  operator-near i =
      split (is_of low (class_of (get_or s i 0)) (get_or s (i + 1) 0) (get_or s (i + 2) 0))
      (λ e. near_of _ _ (of-minus _ _ _ e) (of-of _ _ _ e) refl) (λ e. rw (not-of _ _ _ e) (near_same _))

  from-near : (i : ℕ) → Near (token_from s F i) (token_from s low i)
  unfolding token_from
  from-near i =
      split (eqb (class_of (get_or s i 0)) LETTER) (λ e. rw e (near_same _))
      (λ e. split (eqb (class_of (get_or s i 0)) DIGIT) (λ f. rw (e, f) (near_same _))
      (λ f. split (eqb (class_of (get_or s i 0)) QUOTE) (λ g. rw (e, f, g) (near_same _)) (λ g. rw (e, f, g) (operator-near i))))

  visible-near : (i : ℕ) → Near (visible s F i) (visible s low i)
  unfolding visible
  visible-near i =
      split (leb (length s) i) (λ e. rw e (near_same _))
      (λ e. split (eqb (class_of (get_or s i 0)) NEWLINE) (λ f. rw (e, f) (near_same _))
      (λ f. split (eqb (class_of (get_or s i 0)) HASH) (λ g. rw (e, f, g) (near_same _)) (λ g. rw (e, f, g) (from-near i))))

  in-line-near : (i : ℕ) → Near (in_line s F i) (in_line s low i)
  unfolding in_line
  in-line-near i = visible-near (past (in_run BLANKS) s i)

  line-near : (i : ℕ) → Near (line_at s F i) (line_at s low i)
  unfolding line_at indented
  line-near i =
      split (leb (length s) i) (λ e. rw e (near_same _))
      (λ e. split (blank_to s (past (in_run BLANKS) s i)) (λ f. rw (e, f) (near_same _))
      (λ f. split (eqb (class_of (get_or s i 0)) HASH) (λ g. rw (e, f, g) (near_same _))
      (λ g. split (eqb (class_of (get_or s i 0)) BLANK) (λ h. rw (e, f, g, h) (in-line-near i)) (λ h. rw (e, f, g, h) (near_same _)))))

  -- turns that go on alike, or end with such tokens
  data Alike : Step ℕ Token → Step ℕ Token → Type 0 where
    alike_next : (j : ℕ) → Alike (next j) (next j)
    alike-done : (u n : Token) → Near u n → Alike (done u) (done n)

  abbrev Ended : Token → Step ℕ Token
  Ended t = pick (eqb t.kind Kind.NEXT) (next t.end) (done t)

  near-ended : (u n : Token) → Near u n → Alike (Ended u) (Ended n)
  near-ended u _ (near_same _) = split (eqb u.kind Kind.NEXT) (λ e. rw e (alike_next u.end)) (λ e. rw e (alike-done u u (near_same u)))
  near-ended _ _ (near_of u n a b c) =
      let x : eqb u.kind Kind.NEXT ≡ false = rw a refl in let y : eqb n.kind Kind.NEXT ≡ false = rw b refl in rw (x, y) (alike-done u n (near_of u n a b c))

  line-alike : (i : ℕ) → Alike (line_turn s F i) (line_turn s low i)
  line-alike i = split (leb (length s) i) (λ e. rw e (alike-done _ _ (near_same _))) (λ e. rw e (near-ended (line_at s F i) (line_at s low i) (line-near i)))

  abbrev μ : ℕ → ℕ
  μ j = length s - j

  abbrev out : ℕ → Token
  out j = end_of s

  after-near : (m i : ℕ) (x y : Step ℕ Token) → Alike x y → ((j : ℕ) → Near (turns μ out (line_turn s F) m j) (turns μ out (line_turn s low) m j))
      → Near (after μ out (line_turn s F) (turns μ out (line_turn s F) m) i x) (after μ out (line_turn s low) (turns μ out (line_turn s low) m) i y)
  after-near m i _ _ (alike_next j) h = split (ltb (μ j) (μ i)) (λ e. rw e (h j)) (λ e. rw e (near_same _))
  after-near m i _ _ (alike-done u n z) h = z

  turns_near : (m i : ℕ) → Near (turns μ out (line_turn s F) m i) (turns μ out (line_turn s low) m i)
  unfolding turns
  turns_near zero i = near_same _
  turns_near (suc m) i = after-near m i (line_turn s F i) (line_turn s low i) (line-alike i) (turns_near m)

  lines-near : (i : ℕ) → Near (lines_from s F i) (lines_from s low i)
  unfolding lines_from loop
  lines-near i = turns_near (suc (μ i)) i

  abbrev onto : ℕ → Token → Token
  onto mode t = pick (eqb t.kind Kind.NEXT) (lines_from s mode t.end) t

  onto-near : (u n : Token) → Near u n → Near (onto F u) (onto low n)
  onto-near u _ (near_same _) = split (eqb u.kind Kind.NEXT) (λ e. rw e (lines-near u.end)) (λ e. rw e (near_same u))
  onto-near _ _ (near_of u n a b c) =
      let x : eqb u.kind Kind.NEXT ≡ false = rw a refl in let y : eqb n.kind Kind.NEXT ≡ false = rw b refl in rw (x, y) (near_of u n a b c)

  -- the token at one place
  pub token-near : (at : ℕ) → Near (token_at s F at) (token_at s low at)
  unfolding token_at
  token-near at = split (eqb at 0) (λ e. rw e (lines-near 0)) (λ e. rw e (onto-near (in_line s F at) (in_line s low at) (in-line-near at)))

-- tests by which they don't differ
pub near-test : (u n : Token) (k : ℕ) → Near u n → eqb Kind.MINUS k ≡ false → eqb Kind.OF k ≡ false → eqb u.kind k ≡ eqb n.kind k
near-test u _ k (near_same _) a b = refl
near-test _ _ k (near_of u n x y z) a b = rw (x, y, a, b) refl

pub near-ending : (u n : Token) → Near u n → ending u.kind ≡ ending n.kind
unfolding ending
near-ending u _ (near_same _) = refl
near-ending _ _ (near_of u n x y z) = rw (x, y) refl

pub near-refusal : (u n : Token) → Near u n → refusal u.kind ≡ refusal n.kind
unfolding refusal
near-refusal u _ (near_same _) = refl
near-refusal _ _ (near_of u n x y z) = rw (x, y) refl

pub near-start : (u n : Token) → Near u n → u.start ≡ n.start
near-start u _ (near_same _) = refl
near-start _ _ (near_of u n x y z) = z

-- where the one in other fields is no "-" they are one token
pub near-is : (u n : Token) → Near u n → eqb u.kind Kind.MINUS ≡ false → u ≡ n
near-is u _ (near_same _) h = refl
near-is _ _ (near_of u n x y z) h = clash (rw x refl) h
