-- What `string_field` gives is what the string expression says. Assumes nothing.
use Rattle.std.specs.Prelude.{◌≡◌, ℕ, ◌+◌, ◌-◌, ◌*◌, ◌<◌, ◌≤◌, eqb, ltb, leb, length, take, replicate, Ok, Err, Some}
use Rattle.std.proofs.Math.Path.{refl}
use Rattle.std.proofs.Common.{sym, ap, ◌∙◌, arith}
use mathlib.Core.List.{List, [], map, append-nil}
use Rattle.std.proofs.lemmas.List.{length-replicate}
use borrow.Author.Tests.{le-ltb, ltb-true, ltb-false, eqb-true, eqb-false, leb-true}
use Rattle.text.specs.Choice.{split, clash}
use Rattle.text.specs.Counted.{counted}
use Rattle.text.specs.Copy.{copy_at}
use Rattle.lexical.specs.Kind
use Rattle.lexical.specs.Line.{token_at}
use Rattle.lexical.specs.Theorems.LineLaws.{token-real, token-fault, token_end}
use Rattle.lexical.specs.declared.token.Token.{Token}
use Rattle.syntax.specs.Operator.{a-string}
use Rattle.syntax.specs.Expr.{Expr}
use Rattle.syntax.specs.Code.{Codes}
use Rattle.syntax.specs.Parsed.{Parsed, ok, aside}
use Rattle.syntax.specs.Stood.{Stood}
use Rattle.expression.specs.Value.{bytes_of}
use Rattle.expression.specs.Names.{Environment}
use Rattle.expression.specs.Conditions.{evaluate}
use Rattle.expression.specs.Tables.{lookup_in, Shows}
use Rattle.expression.specs.Theorems.Shown.{values-are, lookup-is}
use Rattle.conditions.specs.Table.{PartSort, sorted, want-string, is_any}
use Rattle.conditions.specs.Parsed.{Part, part}
use Rattle.conditions.specs.Expression.{read_expression}
use Rattle.conditions.specs.Program.{DEPTH}
use Rattle.conditions.specs.Working.Emit.{found, Ran, ran}
use Rattle.conditions.specs.declared.emit.Found.{Found}
use Rattle.conditions.specs.Working.Written.{keeps, grown, Wrote, wrote}
use Rattle.conditions.specs.Working.Same.{PartCodes, whole, Same, same-aside, same-part}
use Rattle.conditions.proofs.Working.TieExpression.{expression-same}
use Rattle.conditions.specs.Working.Pace.{Sound, sound, within, Paced, paced-aside, paced-found}
use Rattle.conditions.proofs.Working.PaceExpression.{expression-paced}
use Rattle.machine.specs.Working.Machine.{on, exec_behind, exec}
use Rattle.machine.specs.Working.Given.{Gave, gave, buffer_of, string_of, string_in}
use Rattle.machine.specs.Working.Need as Need
use Rattle.machine.specs.Theorems.Runs.{run-expression}
use Rattle.machine.specs.Working.Stacking.{topped}
use Rattle.judge.specs.Working.Fit.{Holds, holds-is, Fits, fit, expression-fits}
use Rattle.judge.specs.Working.Saying.{Told, said, valued_at, on_read, said_in, string_size, said_here, spoken}
use Rattle.naming.specs.Theorems.Strings.{Strung, strung-ok, expression-strung}
use Rattle.syntax.specs.Working.Faults.{against}
use Rattle.syntax.specs.declared.fault.Fault.{Fault}

-- a token of the text lies in it
pub stood-sound : (s : List ℕ) (t : Token) → Stood s t → Sound s t
stood-sound s t st = rw st.is (sound start (λ h. let p : (st.at ≤ u.start) × (u.start < u.end) × (u.end ≤ length s) = token-real s st.mode st.at h in (p.1, p.2)))
  where
    u : Token
    u = token_at s st.mode st.at

    start : u.start ≤ length s
    start =
        split (ltb Kind.BAD_LINE u.kind)
        (λ e. let p : (st.at ≤ u.start) × (u.start < u.end) × (u.end ≤ length s) = token-real s st.mode st.at (ltb-true _ _ e) in omega (arith, p.1, p.2))
        (λ e. split (eqb u.kind Kind.END)
        (λ f. let q : u.start ≡ length s = ap (λ (t : Token). t.start) (token_end s st.mode st.at (eqb-true _ _ f)) in omega (arith, q))
        (λ f. let p : (st.at ≤ u.start) × (u.start < length s) × (u.end ≡ u.start) = token-fault s st.mode st.at (eqb-false _ _ f) (ltb-false _ _ e) in omega (arith, p.1)))

-- The same reason of document 01 at the same place, nothing written; or the string's value, its bytes counted and put where they fit, before a
-- token of the text.
pub data Saying (s : List ℕ) (env : Environment) (out : List ℕ) : Parsed Part → Told → Type 0 where
  said-not : (r p : ℕ) → (r ≡ 0 → ⊥) → Saying s env out (aside r p) (said (Err (against r p)) out)
  said-value : (e : Expr) (n : Token) → Stood s n
      → Saying s env out (ok (part (sorted a-string) e) n) (said (spoken (length (bytes_of (evaluate env e))) n) (buffer_of (copy_at out 0 (bytes_of (evaluate env e)))))

module _ {rec consts values names constants : List ℕ} {env : Environment} (shows : Shows rec consts values names constants env)
    (s : List ℕ) (short : length s < 65536) (t : Token) (st : Stood s t) (nest : ℕ) (few : nest ≤ 16) (out : List ℕ) where
  -- how much the machine needs for it
  fits-is : {a b : ℕ} {x : PartSort} {e : Expr} → Fits a b (part x e) → (Need.need e ≤ a) × (Need.room e ≤ b)
  fits-is (fit _ _ i j p) = (i, j)

  module _ (x : PartSort) (e : Expr) (n : Token) (is : read_expression DEPTH s 3 want-string 0 nest t ≡ ok (part x e) n) where
    string-fits : (2 * Need.need e ≤ 208) × (Need.room e ≤ 77824)
    string-fits =
        let k : Holds (Fits (6 * (16 - nest) + 3 + 1) (4096 * (17 - nest + 1))) (read_expression DEPTH s 3 want-string 0 nest t) = expression-fits s DEPTH 3 want-string 0 nest t few (omega arith) (λ z. clash (ap is_any z) refl) in
        let f : (Need.need e ≤ 6 * (16 - nest) + 3 + 1) × (Need.room e ≤ 4096 * (17 - nest + 1)) = fits-is (holds-is (Fits (6 * (16 - nest) + 3 + 1) (4096 * (17 - nest + 1))) (part x e) n (rw is at k)) in
        (omega (arith, f.0), omega (arith, f.1))

    -- the value on top, its bytes from the start of the string stack on
    string-run : (c : List ℕ) → Codes s e c
        → exec 208 77824 s (lookup_in rec consts values names constants) (map (counted rec) values) c (on [] []) ≡ topped [] [] (evaluate env e)
    unfolding exec_behind topped
    string-run c k =
        rw (values-are shows)
        (ap (λ (l : List ℕ). exec 208 77824 s (lookup_in rec consts values names constants) env.values l (on [] [])) (sym (append-nil c))
        ∙ run-expression 208 77824 s (lookup_in rec consts values names constants) env (lookup-is shows) k [] [] [] (omega (arith, string-fits.0)) (omega (arith, string-fits.1)))

    value_read : (b : List ℕ) (u : ℕ) (c : List ℕ) → u ≤ length b → take u b ≡ c → Codes s e c
        → valued_at b u s rec consts values names constants out ≡ gave (Some (length (bytes_of (evaluate env e)))) (buffer_of (copy_at out 0 (bytes_of (evaluate env e))))
    unfolding valued_at string_in string_of topped
    value_read b u c room k codes = rw (le-ltb _ _ room, k, string-run c codes)

  module _ (m : List ℕ) (room : length s - t.start + 2 ≤ length m) where
    abbrev value : List ℕ → ℕ → Gave
    value b u = valued_at b u s rec consts values names constants out

    not_none : (r p : ℕ) (b : List ℕ) (x : Ran) → Paced s 0 t.start t.start x → x ≡ ran (Err (against r p)) b → r ≡ 0 → ⊥
    not_none r p b _ (paced-aside r' p' b' h) e z = h (let q : against r' p' ≡ against r p = cc e in ap (λ (f : Fault). f.reason) q ∙ z)
    not_none r p b _ (paced-found _ _ _ _ _ _ _ _) e z = absurd (let q : ◌≡◌ {A = ℕ} 0 1 = cc e in omega (arith, q))

    same-found : (a b : Found) (c d : List ℕ) → ran (Ok a) c ≡ ran (Ok b) d → a ≡ b
    same-found a b c d e = cc e

    short-code : (k p u : ℕ) (n : Token) (b : List ℕ) (x : Ran) → Paced s 0 t.start t.start x → x ≡ ran (found k p u n) b → u + t.start ≤ n.start
    short-code k p u n b _ (paced-aside r' p' b' h) e = absurd (let q : ◌≡◌ {A = ℕ} 0 1 = cc e in omega (arith, q))
    short-code k p u n b _ (paced-found x' p' u' n' b' s' i j) e =
        let z = same-found _ _ _ _ e in let q : u' ≡ u = ap (λ (f : Found). f.top) z in let m : n'.start ≡ n.start = ap (λ (f : Found). f.next.start) z in omega (arith, q, m, j)

    code_of : (p u : ℕ) (e : Expr) (n : Token) (b : List ℕ) → read_expression DEPTH s 3 want-string 0 nest t ≡ ok (part (sorted a-string) e) n → length b ≡ length m → u < length m
        → Wrote m 0 b u (λ c. PartCodes s p e c (sorted a-string))
        → value b u ≡ gave (Some (length (bytes_of (evaluate env e)))) (buffer_of (copy_at out 0 (bytes_of (evaluate env e))))
    code_of p u e n b is l h (wrote c k (whole _ codes)) = value_read (sorted a-string) e n is b u c (omega (arith, l, h)) k codes

    both_say : (q : Parsed Part) (r : Ran) → read_expression DEPTH s 3 want-string 0 nest t ≡ q → Strung s q → Same s m 0 q r → Paced s 0 t.start t.start r
        → Saying s env out q (on_read t.start out value r)
    both_say _ _ is _ (same-aside r p b k) g = said-not r p (not_none r p b _ g refl)
    both_say _ _ is (strung-ok _ _ stood) (same-part _ p u e n b near w (grown (keeps l f) i g)) k =
        let h : u < length m = omega (arith, room, w, short-code _ p u n b _ k refl) in
        rw (code_of p u e n b is l h (g h)) (said-value e n stood)

    pub string-read : Saying s env out (read_expression DEPTH s 3 want-string 0 nest t) (said_in s t nest rec consts values names constants m out)
    unfolding said_in
    string-read =
        both_say _ _ refl (expression-strung s DEPTH 3 0 nest t (omega arith)) (expression-same s short DEPTH m 0 3 want-string 0 nest t (within s t (stood-sound s t st)))
        (expression-paced s DEPTH m 0 3 want-string 0 nest t (stood-sound s t st) (omega arith) (λ z. clash (ap is_any z) refl) (omega arith))

-- In a text of at most 8,192 bytes `string_field` gives the expression's value or its first fault.
module _ {rec consts values names constants : List ℕ} {env : Environment} (shows : Shows rec consts values names constants env)
    (s : List ℕ) (short : length s ≤ 8192) (t : Token) (st : Stood s t) (nest : ℕ) (few : nest ≤ 16) (out : List ℕ) where
  size_fits : (n : ℕ) → n ≤ 8192 → n + 2 ≤ string_size n
  unfolding string_size
  size_fits n h = split (leb n 254) (λ f. rw f (omega (arith, leb-true n 254 f))) (λ f. split (leb n 2046) (λ d. rw (f, d) (omega (arith, leb-true n 2046 d))) (λ d. rw (f, d) (omega (arith, h))))

  pub string-field-read : Saying s env out (read_expression DEPTH s 3 want-string 0 nest t) (said_here s t nest rec consts values names constants out)
  unfolding said_here
  string-field-read =
      string-read shows s (omega (arith, short)) t st nest few out (replicate (string_size (length s - t.start)) 0)
      (rw (length-replicate {A = ℕ} (string_size (length s - t.start)) 0) (size_fits (length s - t.start) (omega (arith, short))))
