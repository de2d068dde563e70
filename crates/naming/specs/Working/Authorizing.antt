-- Working definitions: Authorizer by the tables, and the ways out of its functions. Assumes nothing.
use Rattle.std.specs.Prelude.{◌≡◌, Bool, true, false, List, [], ◌∷◌, ℕ, ◌<◌, ◌≤◌, eqb, leb, length, get_or, Ok, Err, Result}
use Rattle.std.proofs.Math.Path.{sym}
use Rattle.std.proofs.Common.{◌∙◌}
use borrow.Author.Tests.{le-leb, lt-leb, eq-eqb, ne_eqb}
use Rattle.text.specs.Choice.{pick}
use Rattle.limits.specs.Limits.{most_brackets}
use Rattle.index.specs.Entry.{identifier_at}
use Rattle.lexical.specs.Kind
use Rattle.lexical.specs.Kind.{ending}
use Rattle.lexical.specs.Line.{token_at}
use Rattle.lexical.specs.declared.token.Token.{Token}
use Rattle.principal.specs.Principal.{same, policy}
use Rattle.conditions.specs.Word.{next_at}
use Rattle.naming.specs.String.{plain_from}
use Rattle.naming.specs.Fault.{verified}
use Rattle.naming.specs.Working.Faults.{clear_at}
use Rattle.syntax.specs.Working.Faults.{against, misplaced_at}
use Rattle.naming.specs.Working.Identifying.{Sight, Done, named, string_named, is_plain, plain_named, Naming}
use Rattle.syntax.specs.declared.fault.Fault.{Fault}
use Rattle.index.specs.Working.Adding.{index_of}
use Rattle.index.specs.declared.Index.{Index}
use Rattle.naming.specs.declared.identifier.Named.TheVariants.{At, Nobody}
use Rattle.naming.specs.declared.identifier.Named.{Named}
use Rattle.naming.specs.declared.authorizer.Author.{Author}

unfoldable pub policy_at : List ℕ → List ℕ → ℕ → Bool
policy_at pool places i = pick (leb (length places) i) false (same (identifier_at pool (get_or places i 0)) policy)

unfoldable pub barred_at : ℕ → List ℕ → List ℕ → ℕ → Bool
barred_at standing pool places i = pick (eqb standing verified) (policy_at pool places i) false

unfoldable pub bar_fault : ℕ → List ℕ → List ℕ → ℕ → ℕ → Fault
bar_fault standing pool places i place = pick (barred_at standing pool places i) (against 9 place) clear_at

-- the authorizer's number, the index, what is against the identifier and the token that ends the field, or the first fault
abbrev pub Authoring : Type 0
Authoring = Result Author Fault

abbrev pub authored : ℕ → Index → Fault → Token → Authoring
authored i x f t = Ok (record { number = i; index = x; fault = f; next = t })

unfoldable pub authorizer_end : ℕ → Index → Fault → Token → Authoring
authorizer_end i x f t = pick (ending t.kind) (authored i x f t) (Err (misplaced_at t))

-- an answer, the pool and the table
pub data Made : Type 0 where
  made : Authoring → List ℕ → List ℕ → Made

-- the field by its name; POLICY, whose number is 0, stands in for nobody
unfoldable pub authored_in : ℕ → List ℕ → List ℕ → ℕ → ℕ → ℕ → Naming → Authoring
authored_in standing pool places count end place (Err f) = Err f
authored_in standing pool places count end place (Ok (Nobody n)) = authorizer_end 0 (index_of count end) (against 10 place) n
authored_in standing pool places count end place (Ok (At i x n)) = authorizer_end i x (bar_fault standing pool places i place) n

abbrev pub on_author : ℕ → ℕ → ℕ → ℕ → Done → Made
on_author standing count end place (named e pool places) = made (authored_in standing pool places count end place e) pool places

-- the expression, a plain token alone or any string
unfoldable pub author_named : List ℕ → Sight → List ℕ → List ℕ → ℕ → ℕ → Token → Done
author_named s look pool places count end t =
    pick (is_plain s t)
    (pick (eqb (next_at s t.end).kind Kind.DOT) (string_named s look pool places count end 0 t)
    (plain_named s look pool places count end t (next_at s t.end)))
    (string_named s look pool places count end 0 t)

unfoldable pub authorizer_in : List ℕ → ℕ → Sight → List ℕ → List ℕ → ℕ → ℕ → Token → Made
authorizer_in s standing look pool places count end t =
    on_author standing count end (plain_from most_brackets s t).start (author_named s look pool places count end t)

-- `is_policy`
module _ (pool places : List ℕ) (i : ℕ) where
  pub policy-out : length places ≤ i → false ≡ policy_at pool places i
  unfolding policy_at
  policy-out h = simp (le-leb _ _ h)

  pub policy-in : (b : Bool) (p : ℕ) (x : List ℕ) → i < length places → p ≡ get_or places i 0 → x ≡ identifier_at pool p
      → b ≡ same x (80 ∷ 79 ∷ 76 ∷ 73 ∷ 67 ∷ 89 ∷ []) → b ≡ policy_at pool places i
  unfolding policy_at policy
  policy-in b p x h pe xe be = be ∙ simp (lt-leb _ _ h, xe, pe)

-- `is_barred` and `bar_fault`
module _ (standing : ℕ) (pool places : List ℕ) (i : ℕ) where
  pub barred-verified : (b : Bool) → standing ≡ verified → b ≡ policy_at pool places i → b ≡ barred_at standing pool places i
  unfolding barred_at
  barred-verified b h be = be ∙ simp (eq-eqb _ _ h)

  pub barred-local : (standing ≡ verified → ⊥) → false ≡ barred_at standing pool places i
  unfolding barred_at
  barred-local h = simp (ne_eqb _ _ h)

  module _ (place : ℕ) (b : Bool) (be : b ≡ barred_at standing pool places i) where
    pub fault-barred : b ≡ true → (f : Fault) → f ≡ against 9 place → f ≡ bar_fault standing pool places i place
    unfolding bar_fault
    fault-barred y f fe = fe ∙ simp (sym be, y)

    pub fault-none : b ≡ false → (f : Fault) → f ≡ clear_at → f ≡ bar_fault standing pool places i place
    unfolding bar_fault
    fault-none y f fe = fe ∙ simp (sym be, y)

-- `finished`
module _ (i : ℕ) (x : Index) (f : Fault) (t : Token) (b : Bool) (be : b ≡ ending t.kind) where
  pub finished_on : b ≡ true → authored i x f t ≡ authorizer_end i x f t
  unfolding authorizer_end
  finished_on y = simp (sym be, y)

  pub finished-not : (w : Fault) → b ≡ false → w ≡ misplaced_at t → Err w ≡ authorizer_end i x f t
  unfolding authorizer_end
  finished-not w n we = rw we (simp (sym be, n))

-- `authored`
module _ (standing : ℕ) (pool places : List ℕ) (count end place : ℕ) (r : Naming) where
  pub authored-aside : (f : Fault) → r ≡ Err f → Err f ≡ authored_in standing pool places count end place r
  unfolding authored_in
  authored-aside f h = rw h

  pub authored-nobody : (v : Named) (n : Token) → r ≡ Ok v → v ≡ Nobody n → (f : Fault) → f ≡ against 10 place → (a : Authoring) → a ≡ authorizer_end 0 (index_of count end) f n
      → a ≡ authored_in standing pool places count end place r
  unfolding authored_in
  authored-nobody v n h is f fe a ae = rw (h, is, ← fe) ae

  pub authored-at : (v : Named) (i : ℕ) (x : Index) (n : Token) → r ≡ Ok v → v ≡ At i x n → (f : Fault) → f ≡ bar_fault standing pool places i place → (a : Authoring) → a ≡ authorizer_end i x f n
      → a ≡ authored_in standing pool places count end place r
  unfolding authored_in
  authored-at v i x n h is f fe a ae = rw (h, is, ← fe) ae

-- `author_named`
module _ (s : List ℕ) (look : Sight) (pool places : List ℕ) (count end : ℕ) (t : Token) (r : Done) (b : Bool) (be : b ≡ is_plain s t) where
  pub author-string : b ≡ false → r ≡ string_named s look pool places count end 0 t → r ≡ author_named s look pool places count end t
  unfolding author_named
  author-string y re = re ∙ simp (sym be, y)

  module _ (y : b ≡ true) (n : Token) (ne : n ≡ token_at s Kind.IN_FIELD t.end) where
    pub author-longer : n.kind ≡ Kind.DOT → r ≡ string_named s look pool places count end 0 t → r ≡ author_named s look pool places count end t
    unfolding author_named
    author-longer h re = re ∙ simp (sym be, y, sym ne, eq-eqb _ _ h)

    pub author-plain : (n.kind ≡ Kind.DOT → ⊥) → r ≡ plain_named s look pool places count end t n → r ≡ author_named s look pool places count end t
    unfolding author_named
    author-plain h re = re ∙ simp (sym be, y, sym ne, ne_eqb _ _ h)

-- `authorizer`
pub author-made : (s : List ℕ) (standing : ℕ) (look : Sight) (pool places : List ℕ) (count end : ℕ) (t o : Token) (e : Naming) (p q : List ℕ) (a : Authoring)
    → o ≡ plain_from most_brackets s t → named e p q ≡ author_named s look pool places count end t → a ≡ authored_in standing p q count end o.start e
    → made a p q ≡ authorizer_in s standing look pool places count end t
unfolding authorizer_in
author-made s standing look pool places count end t o e p q a oe ee ae = rw (ae, oe, ← ee)
