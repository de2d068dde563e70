-- An expression entered by the tables is the one that the meaning reads: the index holds whom it identifies, or it identifies nobody. Assumes nothing.
use Rattle.std.specs.Prelude.{◌≡◌, Bool, false, ℕ, zero, suc, ◌+◌, ◌-◌, ◌*◌, ◌<◌, ◌≤◌, eqb, leb, ltb, take, drop, replicate, Ok, Err}
use Rattle.std.proofs.Math.Path.{refl, subst}
use Rattle.std.proofs.Common.{ap, arith, take_at}
use Rattle.std.proofs.Math.Bool.{true}
use mathlib.Core.List.{List, []}
use Rattle.std.proofs.Math.ListN.{length, length-take}
use Rattle.std.proofs.lemmas.List.{length-replicate}
use borrow.Author.Tests.{le-leb, lt-ltb, le-ltb, eq-eqb, ne_eqb, ltb-true, ltb-false, eqb-true, eqb-false}
use Rattle.text.specs.Choice.{split, clash}
use Rattle.text.specs.Copy.{put, copy_at}
use Rattle.text.specs.Loop.{loop-done}
use Rattle.limits.specs.Limits.{most_identifier, most_counted, most_numbers}
use Rattle.lexical.specs.Theorems.Bounds.{chosen}
use Rattle.lexical.specs.Kind
use Rattle.lexical.specs.Literal.{decoded_at}
use Rattle.lexical.specs.Working.Plain.{bare-given}
use Rattle.lexical.specs.declared.token.Token.{Token}
use Rattle.principal.specs.Principal.{Principal}
use Rattle.syntax.specs.Operator.{a-string}
use Rattle.syntax.specs.Expr.{Expr, literal, name}
use Rattle.syntax.specs.Code.{name_at}
use Rattle.syntax.specs.Parsed.{Parsed, ok, aside}
use Rattle.syntax.specs.Stood.{Stood, stood-at}
use Rattle.expression.specs.Value.{bytes_of}
use Rattle.expression.specs.Operations.{held}
use Rattle.expression.specs.Names.{Environment, lookup}
use Rattle.expression.specs.Conditions.{evaluate}
use Rattle.expression.specs.Tables.{Shows}
use Rattle.expression.specs.Theorems.Shown.{lookup-is}
use Rattle.conditions.specs.Table.{PartSort, sorted, want-string}
use Rattle.conditions.specs.Table as Table
use Rattle.conditions.specs.Word.{next_at, word_sort}
use Rattle.conditions.specs.Parsed.{Part, part, on_part}
use Rattle.conditions.specs.Operand.{read_leaf, read_literal, read_name}
use Rattle.conditions.specs.Expression.{read_expression, read_operand, read_bracketed, read_chain, read_joined, chain_turn}
use Rattle.conditions.specs.Program.{DEPTH}
use Rattle.index.specs.Index.{Holds}
use Rattle.index.specs.Working.Entering.{Kept}
use Rattle.machine.specs.Working.Given.{buffer_of}
use Rattle.judge.specs.Working.Saying.{Told, said, spoken}
use Rattle.naming.specs.Working.Whole.{whole, inner, Whole, whole_is}
use Rattle.naming.specs.Theorems.Entry.{EntryRead, entry_read}
use Rattle.naming.specs.Source.{Source}
use Rattle.naming.specs.String.{plain_from, nest_of, source}
use Rattle.naming.specs.Naming.{identified}
use Rattle.naming.specs.Fault.{clear, faulty, size_fault, source_fault}
use Rattle.naming.specs.Working.Identifying.{sight, Done, named, of_kept, entered_in, said_as, string_named, is_plain, plain_named}
use Rattle.naming.specs.Theorems.Says.{Saying, said-not, said-value, string-field-read}
use Rattle.fields.specs.Theorems.Words.{word-is}
use Rattle.syntax.specs.Working.Faults.{against}
use Rattle.naming.specs.declared.identifier.Named.TheVariants.{Nobody}

-- no operator that binds a string goes on behind another token than "."
not-bound : (k : ℕ) → (k ≡ Kind.DOT → ⊥) → Table.binds 3 (Table.operator (sorted a-string) k) ≡ false
unfolding Table.binds Table.operator Table.text_operator Table.level_of Table.comparison
not-bound k h =
    let e : eqb k Kind.DOT ≡ false = ne_eqb _ _ h in
    split (eqb k Kind.MATCHES) (λ f. rw (e, f))
    (λ f. split (eqb k Kind.EQUAL) (λ g. rw (e, f, g))
    (λ g. split (eqb k Kind.UNEQUAL) (λ i. rw (e, f, g, i))
    (λ i. split (eqb k Kind.LESS) (λ j. rw (e, f, g, i, j))
    (λ j. split (eqb k Kind.GREATER) (λ l. rw (e, f, g, i, j, l))
    (λ l. split (eqb k Kind.AT_MOST) (λ m. rw (e, f, g, i, j, l, m))
    (λ m. split (eqb k Kind.AT_LEAST) (λ n. rw (e, f, g, i, j, l, m, n)) (λ n. rw (e, f, g, i, j, l, m, n))))))))

-- a string before another token than "." is read
module _ (s : List ℕ) (nest : ℕ) (n : Token) (other : n.kind ≡ Kind.DOT → ⊥) where
  chain-ends : (d : ℕ) (e : Expr) → read_chain (suc d) s 3 nest (sorted a-string) e n ≡ ok (part (sorted a-string) e) n
  unfolding read_expression
  chain-ends d e =
      loop-done (λ x. length s - x.0.start) (λ x. aside 0 x.0.start) (chain_turn (λ op nest sort e at. read_joined d s op nest sort e at) s 3 nest)
      (n, sorted a-string, e) _
      (split (leb (length s) n.start) (λ f. rw f) (λ f. rw (f, not-bound n.kind other)))

module _ (s : List ℕ) (nest : ℕ) (t : Token) (other : (next_at s t.end).kind ≡ Kind.DOT → ⊥) where
  name-operand : (d : ℕ) → t.kind ≡ Kind.NAME → read_operand (suc d) s want-string 0 nest t ≡ ok (part (sorted a-string) (name (name_at s t.start))) (next_at s t.end)
  unfolding read_expression Table.allows Table.begins_string Table.prefix_operator read_leaf read_name word_sort
  name-operand d h = rw h

  literal-operand : (d : ℕ) → t.kind ≡ Kind.LITERAL → length (decoded_at s t.start) ≤ 2048
      → read_operand (suc d) s want-string 0 nest t ≡ ok (part (sorted a-string) (literal (decoded_at s t.start))) (next_at s t.end)
  unfolding read_expression Table.allows Table.begins_string Table.prefix_operator read_leaf read_literal
  literal-operand d h l = rw (h, le-ltb _ _ l)

  operand-whole : (d : ℕ) (e : Expr) → read_operand (suc d) s want-string 0 nest t ≡ ok (part (sorted a-string) e) (next_at s t.end)
      → read_expression (suc (suc d)) s 3 want-string 0 nest t ≡ ok (part (sorted a-string) e) (next_at s t.end)
  unfolding read_expression
  operand-whole d e is = rw is (chain-ends s nest (next_at s t.end) other d e)

  pub one-read : (e : Expr) → ((d : ℕ) → read_operand (suc d) s want-string 0 nest t ≡ ok (part (sorted a-string) e) (next_at s t.end))
      → read_expression DEPTH s 3 want-string 0 nest t ≡ ok (part (sorted a-string) e) (next_at s t.end)
  one-read e is = operand-whole 6074 e (is 6074)

-- the same fault, or the same expression and token behind, at the same place: it identifies nobody, or the index holds whom it identifies
pub data SourceRead (env : Environment) (s pool places : List ℕ) (count end : ℕ) (names : List Principal) : ℕ → Parsed Source → Done → Type 0 where
  source-aside : (at r p : ℕ) → (r ≡ 0 → ⊥) → SourceRead env s pool places count end names at (aside r p) (named (Err (against r p)) pool places)
  source-nobody : (x : Source) (n : Token) → Stood s n → source_fault env x ≡ faulty 10 x.place
      → SourceRead env s pool places count end names x.place (ok x n) (named (Ok (Nobody n)) pool places)
  source-at : (x : Source) (n : Token) → Stood s n → source_fault env x ≡ clear → (k : Kept) → EntryRead pool places count end names (identified env x) k
      → SourceRead env s pool places count end names x.place (ok x n) (of_kept n k)

-- the front of a buffer into which a string was put
put_front : (b : List ℕ) → length b ≤ most_identifier → take (length b) (buffer_of (copy_at (replicate most_identifier 0) 0 b)) ≡ b
unfolding copy_at put
put_front b h =
    rw (le-leb (0 + length b) (length (replicate {A = ℕ} most_identifier 0)) (rw (length-replicate {A = ℕ} most_identifier 0) (omega (arith, h))))
    (take_at b (drop (0 + length b) (replicate most_identifier 0)) (length b) refl)

module _ {rec consts values names constants : List ℕ} {env : Environment} (shows : Shows rec consts values names constants env)
    (s : List ℕ) (short : length s ≤ 8192) (pool places : List ℕ) (count end : ℕ) (known : List Principal) (holds : Holds pool places count end known)
    (low : end ≤ most_counted * count) (few : count < most_numbers) (room : count < length places) (fits : end + most_counted ≤ length pool) where
  abbrev Here : ℕ → Parsed Source → Done → Type 0
  Here = SourceRead env s pool places count end known

  none-fault : (x : Source) → eqb (length (identified env x)) 0 ≡ true → source_fault env x ≡ faulty 10 x.place
  unfolding source_fault size_fault
  none-fault x e = rw e

  long-fault : (x : Source) → ltb most_identifier (length (identified env x)) ≡ true → source_fault env x ≡ faulty 10 x.place
  unfolding source_fault size_fault
  long-fault x f = split (eqb (length (identified env x)) 0) (λ e. rw e) (λ e. rw (e, f))

  fine-fault : (x : Source) → eqb (length (identified env x)) 0 ≡ false → ltb most_identifier (length (identified env x)) ≡ false → source_fault env x ≡ clear
  unfolding source_fault size_fault
  fine-fault x e f = rw (e, f)

  -- what an expression gives, entered
  given-read : (x : Source) (n : Token) → Stood s n → Here x.place (ok x n) (entered_in pool places count end n (identified env x))
  unfolding entered_in
  given-read x n st =
      split (eqb (length (identified env x)) 0)
      (λ e. rw e (source-nobody x n st (none-fault x e)))
      (λ e. split (ltb most_identifier (length (identified env x)))
      (λ f. rw (e, f) (source-nobody x n st (long-fault x f)))
      (λ f. rw (e, f) (source-at x n st (fine-fault x e f) _ (entry_read pool places count end known holds low (identified env x) (ltb-false _ _ f) few room fits))))

  -- a string that was run
  said-is : (e : Expr) (place : ℕ) (n : Token) → Stood s n
      → Here place (ok (record { place = place; says = e }) n)
      (said_as pool places count end (said (spoken (length (bytes_of (evaluate env e))) n) (buffer_of (copy_at (replicate most_identifier 0) 0 (bytes_of (evaluate env e))))))
  unfolding identified
  said-is e place n st =
      split (ltb most_identifier (length (bytes_of (evaluate env e))))
      (λ f. rw f (source-nobody (record { place = place; says = e }) n st (long-fault (record { place = place; says = e }) f)))
      (λ f. rw (f, put_front (bytes_of (evaluate env e)) (ltb-false _ _ f)) (given-read (record { place = place; says = e }) n st))

  said_read : (place : ℕ) (q : Parsed Part) (told : Told) → Saying s env (replicate most_identifier 0) q told
      → Here place (on_part q (λ sort e u. ok (record { place = place; says = e }) u)) (said_as pool places count end told)
  said_read place _ _ (said-not r p h) = source-aside place r p h
  said_read place _ _ (said-value e n st) = said-is e place n st

  -- any string
  pub string-named-read : (left : ℕ) (t : Token) → Stood s t
      → Here (plain_from left s t).start (source s left t) (string_named s (sight rec consts values names constants) pool places count end (nest_of left) t)
  unfolding source string_named
  string-named-read left t st =
      said_read (plain_from left s t).start _ _ (string-field-read shows s short t st (nest_of left) (omega arith) (replicate most_identifier 0))

  -- a string of one token
  bytes_read : (x : Source) (n : Token) (b : List ℕ) → evaluate env x.says ≡ held b → Stood s n → Here x.place (ok x n) (entered_in pool places count end n b)
  unfolding entered_in identified held bytes_of
  bytes_read x n b is st =
      split (ltb 4096 (length b))
      (λ f. let l : 4096 < length b = ltb-true _ _ f in
      rw (ne_eqb (length b) 0 (λ z. let no : ⊥ = omega (arith, l, z) in no), lt-ltb most_identifier (length b) (omega (arith, l)))
      (source-nobody x n st (none-fault x (let k : identified env x ≡ [] = rw is (rw f) in rw k))))
      (λ f. let k : identified env x ≡ b = rw is (rw f) in subst (λ (z : List ℕ). Here x.place (ok x n) (entered_in pool places count end n z)) k (given-read x n st))

  module _ (left : ℕ) (t : Token) (st : Stood s t) (other : (next_at s t.end).kind ≡ Kind.DOT → ⊥) where
    one-named : (e : Expr) (b : List ℕ) → ((d : ℕ) → read_operand (suc d) s want-string 0 (nest_of left) t ≡ ok (part (sorted a-string) e) (next_at s t.end))
        → evaluate env e ≡ held b → Here (plain_from left s t).start (source s left t) (entered_in pool places count end (next_at s t.end) b)
    unfolding source
    one-named e b is v =
        rw (one-read s (nest_of left) t other e is)
        (bytes_read (record { place = (plain_from left s t).start; says = e }) (next_at s t.end) b v (stood-at s Kind.IN_FIELD t.end))

    name-read : t.kind ≡ Kind.NAME → Here (plain_from left s t).start (source s left t) (entered_in pool places count end (next_at s t.end) (lookup env (name_at s t.start)))
    unfolding evaluate
    name-read h = one-named (name (name_at s t.start)) (lookup env (name_at s t.start)) (λ d. name-operand s (nest_of left) t other d h) refl

    literal-read : Whole s t → Here (plain_from left s t).start (source s left t) (entered_in pool places count end (next_at s t.end) (inner s t.start t.end))
    unfolding evaluate
    literal-read w =
        let g : decoded_at s t.start ≡ inner s t.start t.end
        = bare-given s t.start (t.end - 1) _ refl w.closed in
        let l : length (decoded_at s t.start) ≤ 2048
        = rw g (omega (arith, length-take (t.end - 1 - (t.start + 1)) (drop (t.start + 1) s), w.few)) in
        one-named (literal (decoded_at s t.start)) (inner s t.start t.end) (λ d. literal-operand s (nest_of left) t other d w.literal l) (ap held g)

    pub plain-named-read : is_plain s t ≡ true
        → Here (plain_from left s t).start (source s left t) (plain_named s (sight rec consts values names constants) pool places count end t (next_at s t.end))
    unfolding is_plain plain_named
    plain-named-read p =
        split (eqb t.kind Kind.NAME)
        (λ e. let h : t.kind ≡ Kind.NAME = eqb-true _ _ e in rw (e, word-is st h, lookup-is shows (name_at s t.start)) (name-read h))
        (λ e. let w : whole s t ≡ true = rw e at p in rw e (literal-read (whole_is s t w)))

-- a name or a literal is no bracket
plain-open : (s : List ℕ) (t : Token) → is_plain s t ≡ true → t.kind ≡ Kind.OPEN → ⊥
unfolding is_plain
plain-open s t p o =
    split (eqb t.kind Kind.NAME)
    (λ e. omega (arith, eqb-true t.kind Kind.NAME e, o))
    (λ e. let w : whole s t ≡ true = rw e at p in omega (arith, (whole_is s t w).literal, o))

-- and begins a string
pub plain-begins : (s : List ℕ) (t : Token) → is_plain s t ≡ true → Table.begins_string t.kind ≡ true
unfolding is_plain Table.begins_string
plain-begins s t p =
    split (eqb t.kind Kind.NAME)
    (λ e. let h : t.kind ≡ Kind.NAME = eqb-true _ _ e in rw h)
    (λ e. let w : whole s t ≡ true = rw e at p in rw (whole_is s t w).literal)

from-self : (left : ℕ) (s : List ℕ) (t : Token) → (t.kind ≡ Kind.OPEN → ⊥) → plain_from left s t ≡ t
unfolding plain_from
from-self zero s t h = refl
from-self (suc left) s t h = rw (ne_eqb _ _ h)

pub plain-self : (left : ℕ) (s : List ℕ) (t : Token) → is_plain s t ≡ true → plain_from left s t ≡ t
plain-self left s t p = from-self left s t (plain-open s t p)

-- where no string begins none is read
pub data Refuses {A : Type 0} : Parsed A → Type 0 where
  refuses : (r p : ℕ) → Refuses (aside r p)

part-refuses : {A : Type 0} (q : Parsed Part) (k : PartSort → Expr → Token → Parsed A) → Refuses q → Refuses (on_part q k)
part-refuses _ k (refuses r p) = refuses r p

module _ (s : List ℕ) where
  abbrev Begins : ℕ → Token → Type 0
  Begins left t = Table.begins_string (plain_from left s t).kind ≡ false

  -- a token that is no bracket
  no-leaf : (d row nest : ℕ) (t : Token) → (t.kind ≡ Kind.OPEN → ⊥) → Table.begins_string t.kind ≡ false → Refuses (read_operand (suc d) s want-string row nest t)
  unfolding read_expression Table.allows
  no-leaf d row nest t o b = rw (ne_eqb _ _ o, b) (refuses _ _)

  open-operand : (d row nest : ℕ) (t : Token) → t.kind ≡ Kind.OPEN → read_operand (suc d) s want-string row nest t ≡ read_bracketed d s want-string nest t
  unfolding read_expression Table.allows Table.prefix_operator
  open-operand d row nest t o = rw o

  inside : (left : ℕ) (t : Token) → t.kind ≡ Kind.OPEN → Begins (suc left) t → Begins left (next_at s t.end)
  unfolding plain_from
  inside left t o b = rw (eq-eqb _ _ o) at b

  mutual
    unfolding read_expression

    no-string : (left d level row nest : ℕ) (t : Token) → 16 ≤ nest + left → Begins left t → Refuses (read_expression d s level want-string row nest t)
    no-string left zero level row nest t h b = refuses _ _
    no-string left (suc d) level row nest t h b = part-refuses (read_operand d s want-string row nest t) _ (no_operand left d row nest t h b)

    no_operand : (left d row nest : ℕ) (t : Token) → 16 ≤ nest + left → Begins left t → Refuses (read_operand d s want-string row nest t)
    no_operand left zero row nest t h b = refuses _ _
    no_operand left (suc d) row nest t h b =
        split (eqb t.kind Kind.OPEN)
        (λ e. rw (open-operand d row nest t (eqb-true _ _ e)) (no-bracket left d nest t h (eqb-true _ _ e) b))
        (λ e. no-leaf d row nest t (eqb-false _ _ e) (let z : plain_from left s t ≡ t = from-self left s t (eqb-false _ _ e) in rw z at b))

    no-bracket : (left d nest : ℕ) (t : Token) → 16 ≤ nest + left → t.kind ≡ Kind.OPEN → Begins left t → Refuses (read_bracketed d s want-string nest t)
    no-bracket left zero nest t h o b = refuses _ _
    no-bracket zero (suc d) nest t h o b = rw (le-leb 16 nest (omega (arith, h))) (refuses _ _)
    no-bracket (suc left) (suc d) nest t h o b =
        chosen Refuses (leb 16 nest) _ _ (λ e. refuses _ _)
        (λ e. part-refuses (read_expression d s (Table.inside_level want-string) want-string 0 (nest + 1) (next_at s t.end)) _
        (no-string left d (Table.inside_level want-string) 0 (nest + 1) (next_at s t.end) (omega (arith, h)) (inside left t o b)))

  pub source-refused : (left : ℕ) (t : Token) → Begins left t → Refuses (source s left t)
  unfolding source
  source-refused left t b = part-refuses (read_expression DEPTH s 3 want-string 0 (nest_of left) t) _ (no-string left DEPTH 3 0 (nest_of left) t (omega arith) b)

-- a fault in both
pub data BothAside (pool places : List ℕ) : Parsed Source → Done → Type 0 where
  both-aside : (r p : ℕ) → (r ≡ 0 → ⊥) → BothAside pool places (aside r p) (named (Err (against r p)) pool places)

is_read : {A : Type 0} → Parsed A → Bool
is_read (ok x n) = true
is_read (aside r p) = false

refused-unread : {A : Type 0} (q : Parsed A) → Refuses q → is_read q ≡ false
unfolding is_read
refused-unread _ (refuses r p) = refl

module _ {rec consts values names constants : List ℕ} {env : Environment} (shows : Shows rec consts values names constants env)
    (s : List ℕ) (short : length s ≤ 8192) (pool places : List ℕ) (count end : ℕ) where
  none_said : (place : ℕ) (q : Parsed Part) (told : Told) → Saying s env (replicate most_identifier 0) q told
      → is_read {A = Source} (on_part q (λ sort e u. ok (record { place = place; says = e }) u)) ≡ false
      → BothAside pool places (on_part q (λ sort e u. ok (record { place = place; says = e }) u)) (said_as pool places count end told)
  unfolding is_read
  none_said place _ _ (said-not r p h) w = both-aside r p h
  none_said place _ _ (said-value e n st) w = clash refl w

  pub string-refused : (left : ℕ) (t : Token) → Stood s t → Table.begins_string (plain_from left s t).kind ≡ false
      → BothAside pool places (source s left t) (string_named s (sight rec consts values names constants) pool places count end (nest_of left) t)
  unfolding string_named source
  string-refused left t st b =
      none_said (plain_from left s t).start _ _ (string-field-read shows s short t st (nest_of left) (omega arith) (replicate most_identifier 0))
      (refused-unread _ (source-refused s left t b))
