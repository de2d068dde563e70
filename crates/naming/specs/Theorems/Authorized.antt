-- Authorizer read by the tables is what the meaning reads. Assumes nothing.
use Rattle.std.specs.Prelude.{◌≡◌, true, List, map, ℕ, ◌+◌, ◌*◌, ◌<◌, ◌≤◌, eqb, length, get_or, take, Ok, Err}
use Rattle.std.proofs.Math.Path.{refl}
use Rattle.std.proofs.Common.{sym, ap, ◌∙◌, arith, get_or-take, le-leb}
use Rattle.std.proofs.Math.ListN.{get_or-map}
use Rattle.std.proofs.lemmas.Bool.{lt-leb, eqb-false}
use Rattle.limits.specs.Limits.{most_brackets, most_counted, most_numbers}
use Rattle.text.specs.Choice.{split}
use Rattle.record.specs.Query.{Query, Attribute}
use Rattle.principal.specs.Principal.{Principal, same, same_left, policy}
use Rattle.principal.specs.Members.{member}
use Rattle.principal.specs.Places.{place}
use Rattle.expression.specs.Names.{environment}
use Rattle.expression.specs.Tables.{Shows}
use Rattle.index.specs.Entry.{identifier_at}
use Rattle.index.specs.Index.{enter, Holds}
use Rattle.index.specs.IndexLaws.{names-are}
use Rattle.index.specs.EnterLaws.{fresh, enter-is, enter-member, place_same, place-below}
use Rattle.index.specs.Working.Adding.{index_of}
use Rattle.index.specs.Working.Entering.{Kept}
use Rattle.lexical.specs.Kind
use Rattle.lexical.specs.Kind.{ending}
use Rattle.lexical.specs.declared.token.Token.{Token}
use Rattle.syntax.specs.Parsed.{Parsed, ok, aside, and_then, refusal}
use Rattle.syntax.specs.Stood.{Stood}
use Rattle.conditions.specs.Word.{next_at}
use Rattle.fields.specs.Parsed.{ended}
use Rattle.fields.specs.Theorems.Together.{refusal-some}
use Rattle.naming.specs.Theorems.Entry.{holds-before, EntryRead, entry_at}
use Rattle.naming.specs.Source.{Source, Author}
use Rattle.naming.specs.String.{plain_from, source}
use Rattle.naming.specs.Authorizer.{authorizer}
use Rattle.naming.specs.Naming.{identified, author}
use Rattle.naming.specs.Fault.{verified, clear, faulty, source_fault, policy_fault, author_fault}
use Rattle.naming.specs.Working.Faults.{meant}
use Rattle.syntax.specs.Working.Faults.{against}
use Rattle.naming.specs.Working.Identifying.{sight, Done, named, of_number, of_kept, string_named, is_plain}
use Rattle.naming.specs.Working.Authorizing.{Made, made, policy_at, barred_at, bar_fault, authorizer_end, authored_in, on_author, author_named, authorizer_in, authored}
use Rattle.syntax.specs.declared.fault.Fault.{Fault}
use Rattle.naming.specs.Theorems.StandIn.{entered, entered-is}
use Rattle.naming.specs.Theorems.Entered.{SourceRead, source-aside, source-nobody, source-at, string-named-read, plain-named-read}
use Rattle.naming.specs.declared.identifier.Named.TheVariants.{Nobody}

-- whom the tables hold for an authorizer: POLICY stands in for nobody
abbrev pub author_now : Query → Author → Principal
author_now q a = entered (environment q a.constants) a.by

-- the same fault, or the same authorizer and token behind: the index holds the principal, at the number found, and the fault kept is the field's
pub data AuthorRead (standing : ℕ) (q : Query) (s pool places : List ℕ) (count end : ℕ) (names : List Principal) : Parsed Author → Made → Type 0 where
  author-aside : (r p : ℕ) (pool' places' : List ℕ) → (r ≡ 0 → ⊥) → length pool' ≡ length pool → length places' ≡ length places → Holds pool' places' count end names
      → AuthorRead standing q s pool places count end names (aside r p) (made (Err (against r p)) pool' places')
  author-on : (a : Author) (i c e : ℕ) (f : Fault) (n : Token) (pool' places' : List ℕ) → Stood s n
      → i ≡ place (enter names (author_now q a)) (author_now q a) → Holds pool' places' c e (enter names (author_now q a)) → e ≤ most_counted * c → e ≤ end + most_counted
      → meant f ≡ author_fault standing q a → length pool' ≡ length pool → length places' ≡ length places
      → AuthorRead standing q s pool places count end names (ok a n) (made (authored i (index_of c e) f n) pool' places')

-- is the principal at a member's number POLICY? as the member is
policy-is : {pool places : List ℕ} {c e : ℕ} {names : List Principal} → Holds pool places c e names → (p : Principal) → member p names ≡ true
    → policy_at pool places (place names p) ≡ same p policy
unfolding policy_at
policy-is {pool} {places} {c} {e} {names} holds p m =
    let b : place names p < c = omega (arith, place-below names p m, holds.counted) in
    let a : map (identifier_at pool) (take c places) ≡ names = names-are holds in
    let g : identifier_at pool (get_or places (place names p) 0) ≡ get_or names (place names p) (identifier_at pool 0)
    = ap (identifier_at pool) (sym (get_or-take c places (place names p) 0 b)) ∙ sym (get_or-map (identifier_at pool) (take c places) (place names p) 0)
    ∙ ap (λ (l : List Principal). get_or l (place names p) (identifier_at pool 0)) a in
    rw (lt-leb (length places) (place names p) (omega (arith, holds.in_table)), g)
    (sym (same_left p (get_or names (place names p) (identifier_at pool 0)) policy (place_same names p (identifier_at pool 0) m)))

module _ (standing : ℕ) (q : Query) (constants : List Attribute) (s pool places : List ℕ) (count end : ℕ) (names : List Principal) (holds : Holds pool places count end names) where
  abbrev Read : Parsed Author → Made → Type 0
  Read = AuthorRead standing q s pool places count end names

  abbrev of_source : Source → Author
  of_source x = record { constants = constants; by = x }

  -- the end of the field
  module _ (x : Source) (c e : ℕ) (pool' places' : List ℕ) (new : Holds pool' places' c e (enter names (author_now q (of_source x)))) (low : e ≤ most_counted * c) (near : e ≤ end + most_counted)
      (same_pool : length pool' ≡ length pool) (same_places : length places' ≡ length places) where
    end_read : (i : ℕ) (f : Fault) (n : Token) → Stood s n → i ≡ place (enter names (author_now q (of_source x))) (author_now q (of_source x)) → meant f ≡ author_fault standing q (of_source x)
        → Read (ended (of_source x) n) (made (authorizer_end i (index_of c e) f n) pool' places')
    unfolding authorizer_end
    end_read i f n sn ie fe =
        split (ending n.kind)
        (λ g. rw g (author-on (of_source x) i c e f n pool' places' sn ie new low near fe same_pool same_places))
        (λ g. rw g (author-aside (refusal n.kind) n.start pool' places' (refusal-some n.kind) same_pool same_places
        (holds-before names (fresh names (author_now q (of_source x))) holds (rw (enter-is names (author_now q (of_source x))) at new))))

  -- what is against a principal that is one
  bar-meant : (x : Source) → source_fault (environment q constants) x ≡ clear → (pool' places' : List ℕ) (i : ℕ)
      → policy_at pool' places' i ≡ same (identified (environment q constants) x) policy → meant (bar_fault standing pool' places' i x.place) ≡ author_fault standing q (of_source x)
  unfolding bar_fault barred_at meant author_fault policy_fault author
  bar-meant x f pool' places' i e =
      split (eqb standing verified)
      (λ g. split (same (identified (environment q constants) x) policy) (λ h. rw (f, g, e, h)) (λ h. rw (f, g, e, h)))
      (λ g. rw (f, g))

  at_read : (x : Source) (n : Token) → Stood s n → source_fault (environment q constants) x ≡ clear → (k : Kept)
      → EntryRead pool places count end names (identified (environment q constants) x) k → Read (ended (of_source x) n) (on_author standing count end x.place (of_kept n k))
  unfolding of_number authored_in
  at_read x n sn f _ (entry_at c e pool' places' new up few near same_pool same_places) =
      let z : author_now q (of_source x) ≡ identified (environment q constants) x = entered-is (environment q constants) x f in
      let i : policy_at pool' places' (place (enter names (identified (environment q constants) x)) (identified (environment q constants) x)) ≡ same (identified (environment q constants) x) policy
      = policy-is new (identified (environment q constants) x) (enter-member names (identified (environment q constants) x)) in
      end_read x c e pool' places' (rw z new) up near same_pool same_places (place (enter names (identified (environment q constants) x)) (identified (environment q constants) x))
      (bar_fault standing pool' places' (place (enter names (identified (environment q constants) x)) (identified (environment q constants) x)) x.place) n sn (rw z) (bar-meant x f pool' places' _ i)

  module _ (known : member policy names ≡ true) (first : place names policy ≡ 0) where
    policy-kept : enter names policy ≡ names
    unfolding enter
    policy-kept = rw known

    stand-in : (x : Source) → source_fault (environment q constants) x ≡ faulty 10 x.place → author_now q (of_source x) ≡ policy
    unfolding entered
    stand-in x f = rw f

    -- where it is nobody, only 10 is against it
    nobody-meant : (x : Source) → source_fault (environment q constants) x ≡ faulty 10 x.place → meant (against 10 x.place) ≡ author_fault standing q (of_source x)
    unfolding meant author_fault policy_fault
    nobody-meant x f =
        split (eqb standing verified)
        (λ g. split (same (author q (of_source x)) policy) (λ h. rw (f, g, h) (rw (le-leb x.place x.place (omega arith)))) (λ h. rw (f, g, h)))
        (λ g. rw (f, g))

    nobody-read : end ≤ most_counted * count → (x : Source) (n : Token) → Stood s n → source_fault (environment q constants) x ≡ faulty 10 x.place
        → Read (ended (of_source x) n) (on_author standing count end x.place (named (Ok (Nobody n)) pool places))
    unfolding authored_in
    nobody-read low x n sn f =
        let z : author_now q (of_source x) ≡ policy = stand-in x f in
        end_read x count end pool places (rw (z, policy-kept) holds) low (omega arith) refl refl 0 (against 10 x.place) n sn (rw (z, policy-kept) (sym first)) (nobody-meant x f)

    named-read : end ≤ most_counted * count → (at : ℕ) (p : Parsed Source) (y : Done) → SourceRead (environment q constants) s pool places count end names at p y
        → Read (and_then p (λ x u. ended (of_source x) u)) (on_author standing count end at y)
    unfolding authored_in
    named-read low _ _ _ (source-aside at r p h) = author-aside r p pool places h refl refl holds
    named-read low _ _ _ (source-nobody x n sn f) = nobody-read low x n sn f
    named-read low _ _ _ (source-at x n sn f k e) = at_read x n sn f k e

-- In a text of at most 8,192 bytes, where the index holds POLICY first and has room, what is read by the tables is what the meaning reads.
pub author-read : {rec consts values keys own : List ℕ} (q : Query) (constants : List Attribute) → Shows rec consts values keys own (environment q constants)
    → (standing : ℕ) (s : List ℕ) → length s ≤ 8192 → (pool places : List ℕ) (count end : ℕ) (names : List Principal) (t : Token)
    → Stood s t → Holds pool places count end names → member policy names ≡ true → place names policy ≡ 0 → end ≤ most_counted * count → count < most_numbers → count < length places
    → end + most_counted ≤ length pool
    → AuthorRead standing q s pool places count end names (authorizer s constants t) (authorizer_in s standing (sight rec consts values keys own) pool places count end t)
unfolding authorizer authorizer_in author_named
author-read {rec} {consts} {values} {keys} {own} q constants shows standing s short pool places count end names t st holds known first low few room fits =
    named-read standing q constants s pool places count end names holds known first low (plain_from most_brackets s t).start _ _ read
  where
    string : SourceRead (environment q constants) s pool places count end names (plain_from most_brackets s t).start (source s most_brackets t) (string_named s (sight rec consts values keys own) pool places count end 0 t)
    string = string-named-read shows s short pool places count end names holds low few room fits most_brackets t st

    read : SourceRead (environment q constants) s pool places count end names (plain_from most_brackets s t).start (source s most_brackets t) (author_named s (sight rec consts values keys own) pool places count end t)
    read =
        split (is_plain s t)
        (λ p. split (eqb (next_at s t.end).kind Kind.DOT) (λ e. rw (p, e) string)
        (λ e. rw (p, e) (plain-named-read shows s short pool places count end names holds low few room fits most_brackets t st (eqb-false _ _ e) p)))
        (λ p. rw p string)
