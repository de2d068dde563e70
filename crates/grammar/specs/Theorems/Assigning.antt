-- Local-Constants: its reader gives reason 2 where the grammar allows no continuation, and else reads a sentence. Assumes nothing.
use Rattle.std.specs.Prelude.{◌≡◌, refl, true, ℕ, ◌<◌, leb, ltb, length}
use Rattle.std.proofs.Common.{sym, ap, ◌∙◌, subst, arith}
use Rattle.std.proofs.Math.Bool.{false}
use mathlib.Core.List.{List, [], ◌∷◌, ◌++◌, append_assoc}
use Rattle.std.proofs.Math.Dec.{eqb}
use borrow.Author.Tests.{eqb-true, leb-false, ne_eqb}
use Rattle.text.specs.Choice.{pick, clash}
use Rattle.record.specs.Query.{Attribute}
use Rattle.lexical.specs.Kind
use Rattle.lexical.specs.Kind.{ending}
use Rattle.lexical.specs.Theorems.Bounds.{chosen}
use Rattle.lexical.specs.Literal.{decoded_at}
use Rattle.lexical.specs.declared.token.Token.{Token}
use Rattle.syntax.specs.Code.{name_at}
use Rattle.syntax.specs.Parsed.{Parsed, ok, aside, refusal}
use Rattle.fields.specs.Parsed.{behind}
use Rattle.fields.specs.Constants.{is_set, reserved, constant_value, assigned, name_fault, constant}
use Rattle.fields.specs.Theorems.Together.{refusal-some}
use Rattle.grammar.specs.Fields.{end-of-text, Field, field, Assignments, no-assignment, assignment}
use Rattle.grammar.specs.Viable.{Open}
use Rattle.grammar.specs.Working.Automaton.{run}
use Rattle.grammar.specs.Theorems.OneToken.{opens-end}
use Rattle.limits.specs.Limits.{most_literal}

-- states: 1 before a name or the end, 2 before "=", 3 before a literal, 4 behind the token that ends the field, 0 none
unfoldable pub set_step : ℕ → ℕ → ℕ
set_step q k =
    pick (eqb q 1) (pick (eqb k Kind.NAME) 2 (pick (ending k) 4 0))
    (pick (eqb q 2) (pick (eqb k Kind.ASSIGN) 3 0) (pick (eqb q 3) (pick (eqb k Kind.LITERAL) 1 0) 0))

pub set-stays : (k : ℕ) → set_step 0 k ≡ 0
unfolding set_step
set-stays k = refl

pub set-name : set_step 1 Kind.NAME ≡ 2
unfolding set_step
set-name = refl

pub set-assign : set_step 2 Kind.ASSIGN ≡ 3
unfolding set_step
set-assign = refl

set-literal : set_step 3 Kind.LITERAL ≡ 1
unfolding set_step
set-literal = refl

pub not-name : (k : ℕ) → ending k ≡ true → eqb k Kind.NAME ≡ false
unfolding ending
not-name k h = ne_eqb k Kind.NAME (λ e. let g : ending Kind.NAME ≡ true = rw e at h in clash g refl)

pub set-wrong-1 : (k : ℕ) → eqb k Kind.NAME ≡ false → ending k ≡ false → set_step 1 k ≡ 0
unfolding set_step
set-wrong-1 k e f = rw (e, f)

pub set-wrong-2 : (k : ℕ) → eqb k Kind.ASSIGN ≡ false → set_step 2 k ≡ 0
unfolding set_step
set-wrong-2 k e = rw e

pub set-wrong-3 : (k : ℕ) → eqb k Kind.LITERAL ≡ false → set_step 3 k ≡ 0
unfolding set_step
set-wrong-3 k e = rw e

pub set-run : (ks : List ℕ) → Assignments ks → run set_step 1 ks ≡ 1
set-run _ no-assignment = refl
set-run _ (assignment ks a) = rw (set-name, set-assign, set-literal) (set-run ks a)

pub set_last : (k : ℕ) → set_step 4 k ≡ 0
unfolding set_step
set_last k = refl

-- one assignment more
set_more : (ks ls : List ℕ) → Assignments ks → Assignments ls → Assignments (ks ++ ls)
set_more _ ls no-assignment b = b
set_more _ ls (assignment ks a) b = assignment (ks ++ ls) (set_more ks ls a b)

abbrev pub triple : List ℕ
triple = Kind.NAME ∷ Kind.ASSIGN ∷ Kind.LITERAL ∷ []

pub set_snoc : (ks : List ℕ) → Assignments ks → Assignments (ks ++ triple)
set_snoc ks a = set_more ks triple a (assignment [] no-assignment)

-- what begins a sentence
pub set-viable : (ks ls rest : List ℕ) → Assignments ks → Assignments (ls ++ rest) → Open (Field Assignments) (ks ++ ls)
set-viable ks ls rest a b =
    opens-end (Field Assignments) (ks ++ ls) rest
    (subst (Field Assignments) (ap (λ (l : List ℕ). l ++ Kind.END ∷ []) (sym (append_assoc ks ls rest)) ∙ append_assoc (ks ++ ls) rest (Kind.END ∷ []))
    (field (ks ++ (ls ++ rest)) Kind.END (set_more ks (ls ++ rest) a b) end-of-text))

-- what the reader of one assignment makes of the tokens u, v, w
pub data OneSet (s : List ℕ) (cs : List Attribute) (u v w : Token) : Parsed Attribute → Type 0 where
  one_set : u.kind ≡ Kind.NAME → v.kind ≡ Kind.ASSIGN → w.kind ≡ Kind.LITERAL → length cs < 16 → (a : Attribute) → OneSet s cs u v w (ok a (behind s Kind.IN_FIELD w))
  wrong-1 : eqb u.kind Kind.NAME ≡ false → (r : ℕ) → r ≡ refusal u.kind → OneSet s cs u v w (aside r u.start)
  wrong-2 : u.kind ≡ Kind.NAME → eqb v.kind Kind.ASSIGN ≡ false → OneSet s cs u v w (aside (refusal v.kind) v.start)
  wrong-3 : u.kind ≡ Kind.NAME → v.kind ≡ Kind.ASSIGN → eqb w.kind Kind.LITERAL ≡ false → OneSet s cs u v w (aside (refusal w.kind) w.start)
  other-set : (r p : ℕ) → (r ≡ 2 → ⊥) → OneSet s cs u v w (aside r p)

module _ (s : List ℕ) (cs : List Attribute) (u : Token) where
  abbrev pub Set : Parsed Attribute → Type 0
  Set r = OneSet s cs u (behind s Kind.IN_FIELD u) (behind s Kind.IN_FIELD (behind s Kind.IN_FIELD u)) r

  value_set : (name : List ℕ) → u.kind ≡ Kind.NAME → (behind s Kind.IN_FIELD u).kind ≡ Kind.ASSIGN → length cs < 16
      → Set (constant_value s name (behind s Kind.IN_FIELD (behind s Kind.IN_FIELD u)))
  unfolding constant_value
  value_set name n e few =
      chosen Set (eqb (behind s Kind.IN_FIELD (behind s Kind.IN_FIELD u)).kind Kind.LITERAL) _ _
      (λ l. chosen Set (ltb most_literal (length (decoded_at s (behind s Kind.IN_FIELD (behind s Kind.IN_FIELD u)).start))) _ _
      (λ f. other-set 7 _ (λ z. let bad : ⊥ = omega (arith, z) in bad)) (λ f. one_set n e (eqb-true _ _ l) few _))
      (λ l. wrong-3 n e l)

  assigned-set : (name : List ℕ) → u.kind ≡ Kind.NAME → length cs < 16 → Set (assigned s name (behind s Kind.IN_FIELD u))
  unfolding assigned
  assigned-set name n few =
      chosen Set (eqb (behind s Kind.IN_FIELD u).kind Kind.ASSIGN) _ _ (λ e. value_set name n (eqb-true _ _ e) few) (λ e. wrong-2 n e)

  abbrev Faulted : ℕ → Type 0
  Faulted r = Set (pick (eqb r 0) (pick (leb 16 (length cs)) (aside 7 u.start) (assigned s (name_at s u.start) (behind s Kind.IN_FIELD u))) (aside r u.start))

  four-set : Faulted 4
  four-set = other-set 4 u.start (λ z. let bad : ⊥ = omega (arith, z) in bad)

  zero-set : u.kind ≡ Kind.NAME → Faulted 0
  zero-set n =
      chosen Set (leb 16 (length cs)) _ _ (λ f. other-set 7 u.start (λ z. let bad : ⊥ = omega (arith, z) in bad)) (λ f. assigned-set (name_at s u.start) n (leb-false _ _ f))

  fault-set : Faulted (name_fault s cs u)
  unfolding name_fault
  fault-set =
      chosen Faulted (eqb u.kind Kind.NAME) _ _
      (λ n. chosen Faulted (reserved (name_at s u.start)) 4 _ (λ f. four-set) (λ f. chosen Faulted (is_set cs (name_at s u.start)) 4 0 (λ g. four-set) (λ g. zero-set (eqb-true _ _ n))))
      (λ n. let z : eqb (refusal u.kind) 0 ≡ false = ne_eqb _ _ (refusal-some u.kind) in rw z (wrong-1 n (refusal u.kind) refl))

  pub constant-set : Set (constant s cs u)
  unfolding constant
  constant-set = fault-set
