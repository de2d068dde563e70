-- Working definitions: what an expression gives, entered into the index; and the ways out of the functions that do it. Assumes nothing.
use Rattle.std.specs.Prelude.{◌≡◌, refl, Bool, List, ℕ, ◌+◌, ◌-◌, ◌<◌, ◌≤◌, ◌^◌, eqb, ltb, length, take, replicate, Ok, Err, None, Some, Result}
use Rattle.std.proofs.Math.Path.{sym}
use Rattle.std.proofs.Common.{ap, ◌∙◌, Fits, length-take-le}
use Rattle.std.proofs.Math.Bool.{true}
use Rattle.std.specs.Int.{w64}
use borrow.Author.Tests.{lt-ltb, le-ltb, eq-eqb, ne_eqb}
use Rattle.text.specs.Choice.{pick, split}
use Rattle.lexical.specs.Kind
use Rattle.lexical.specs.declared.token.Token.{Token}
use Rattle.principal.specs.Principal.{Principal}
use Rattle.limits.specs.Limits.{most_identifier}
use Rattle.expression.specs.Tables.{lookup_in}
use Rattle.fields.specs.Working.Word.{word_of}
use Rattle.naming.specs.Working.Whole.{whole, inner, whole-some, whole-fits, whole_from, whole-within}
use Rattle.index.specs.Working.Adding.{index_of}
use Rattle.index.specs.Working.Entering.{Kept, numbered, enter_in, known, Known}
use Rattle.index.specs.declared.Index.{Index}
use Rattle.judge.specs.Working.Saying.{Told, said, said_here, Spoken}
use Rattle.syntax.specs.Working.Faults.{against}
use Rattle.syntax.specs.declared.fault.Fault.{Fault}
use Rattle.judge.specs.declared.string.Said.{Said}
use Rattle.naming.specs.declared.identifier.Named.TheVariants.{At, Nobody}
use Rattle.naming.specs.declared.identifier.Named.{Named}

-- where names are looked up: the record, the constants' bytes, and the places of the values, the names and the constants
pub data Sight : Type 0 where
  sight : List ℕ → List ℕ → List ℕ → List ℕ → List ℕ → Sight

abbrev pub looked_up : Sight → List ℕ → List ℕ
looked_up (sight rec consts values names constants) w = lookup_in rec consts values names constants w

abbrev pub said_by : List ℕ → Token → ℕ → Sight → List ℕ → Told
said_by s t nest (sight rec consts values names constants) out = said_here s t nest rec consts values names constants out

-- whom an expression names, or the first fault
abbrev pub Naming : Type 0
Naming = Result Named Fault

-- an answer, the pool and the table
pub data Done : Type 0 where
  named : Naming → List ℕ → List ℕ → Done

unfoldable pub of_number : Token → Known → Naming
of_number n None = Err (against 0 0)
of_number n (Some k) = Ok (At k.number (index_of k.count k.end) n)

abbrev pub of_kept : Token → Kept → Done
of_kept n (numbered r pool places) = named (of_number n r) pool places

-- "outside 1 to 256 bytes" is nobody
unfoldable pub entered_in : List ℕ → List ℕ → ℕ → ℕ → Token → Principal → Done
entered_in pool places count end n id =
    pick (eqb (length id) 0) (named (Ok (Nobody n)) pool places)
    (pick (ltb most_identifier (length id)) (named (Ok (Nobody n)) pool places) (of_kept n (enter_in pool places count end id)))

abbrev pub said_as : List ℕ → List ℕ → ℕ → ℕ → Told → Done
said_as pool places count end (said (Err f) out) = named (Err f) pool places
said_as pool places count end (said (Ok q) out) =
    pick (ltb most_identifier q.count) (named (Ok (Nobody q.next)) pool places) (entered_in pool places count end q.next (take q.count out))

unfoldable pub string_named : List ℕ → Sight → List ℕ → List ℕ → ℕ → ℕ → ℕ → Token → Done
string_named s look pool places count end nest t = said_as pool places count end (said_by s t nest look (replicate most_identifier 0))

-- a name, or a literal that gives its bytes as they stand
unfoldable pub is_plain : List ℕ → Token → Bool
is_plain s t = pick (eqb t.kind Kind.NAME) true (whole s t)

-- such a token alone, before the token n
unfoldable pub plain_named : List ℕ → Sight → List ℕ → List ℕ → ℕ → ℕ → Token → Token → Done
plain_named s look pool places count end t n =
    pick (eqb t.kind Kind.NAME) (entered_in pool places count end n (looked_up look (word_of s t))) (entered_in pool places count end n (inner s t.start t.end))

-- `of_number`
pub number-full : (n : Token) (e : Known) → e ≡ None → Err (against 0 0) ≡ of_number n e
unfolding of_number
number-full n e h = rw h

pub number-known : (n : Token) (e : Known) (i c m : ℕ) → e ≡ known c i m → Ok (At i (index_of c m) n) ≡ of_number n e
unfolding of_number
number-known n e i c m h = rw h

-- `entered`
module _ (pool places : List ℕ) (count end : ℕ) (n : Token) (id : Principal) where
  pub entered-none : length id ≡ 0 → named (Ok (Nobody n)) pool places ≡ entered_in pool places count end n id
  unfolding entered_in
  entered-none h = rw (eq-eqb _ _ h)

  module _ (some : length id ≡ 0 → ⊥) where
    pub entered-long : most_identifier < length id → named (Ok (Nobody n)) pool places ≡ entered_in pool places count end n id
    unfolding entered_in
    entered-long h = rw (ne_eqb _ _ some, lt-ltb _ _ h)

    pub entered-one : length id ≤ most_identifier → (e : Known) (p q : List ℕ) → numbered e p q ≡ enter_in pool places count end id → (r : Naming) → r ≡ of_number n e
        → named r p q ≡ entered_in pool places count end n id
    unfolding entered_in
    entered-one h e p q ee r re = rw (ne_eqb _ _ some, le-ltb _ _ h, ← ee, re)

-- `string_named`
module _ (s rec consts values names constants pool places : List ℕ) (count end nest : ℕ) (t : Token) (r : Spoken) (m to : List ℕ) (me : m ≡ replicate most_identifier 0)
    (re : said r to ≡ said_here s t nest rec consts values names constants m) where
  pub string-aside : (f : Fault) → r ≡ Err f → named (Err f) pool places ≡ string_named s (sight rec consts values names constants) pool places count end nest t
  unfolding string_named
  string-aside f h = rw (← me, ← re, h)

  module _ (q : Said) (h : r ≡ Ok q) where
    pub string-long : most_identifier < q.count → named (Ok (Nobody q.next)) pool places ≡ string_named s (sight rec consts values names constants) pool places count end nest t
    unfolding string_named
    string-long l = rw (← me, ← re, h) (rw (lt-ltb _ _ l))

    pub string-entered : q.count ≤ most_identifier → (id : List ℕ) → id ≡ take q.count to → (v : Naming) (p l : List ℕ) → named v p l ≡ entered_in pool places count end q.next id
        → named v p l ≡ string_named s (sight rec consts values names constants) pool places count end nest t
    unfolding string_named
    string-entered h2 id ie v p l e = rw (← me, ← re, h) (rw (le-ltb _ _ h2, ← ie) e)

-- `is_plain`
module _ (s : List ℕ) (t : Token) where
  pub plain-kind : t.kind ≡ Kind.NAME → true ≡ is_plain s t
  unfolding is_plain
  plain-kind h = rw (eq-eqb _ _ h)

  pub plain-kind-yes : t.kind ≡ Kind.NAME → is_plain s t ≡ true
  plain-kind-yes h = sym (plain-kind h)

  pub plain-yes : (b : Bool) → b ≡ is_plain s t → b ≡ true → is_plain s t ≡ true
  plain-yes b be y = sym be ∙ y

  module _ (no : t.kind ≡ Kind.NAME → ⊥) where
    pub plain-literal : (b : Bool) → b ≡ whole s t → b ≡ is_plain s t
    unfolding is_plain
    plain-literal b be = rw (ne_eqb _ _ no) be

    module _ (is : is_plain s t ≡ true) where
      is_whole : true ≡ whole s t
      unfolding is_plain
      is_whole = let k : whole s t ≡ true = rw (ne_eqb _ _ no) at is in sym k

      pub plain-some : 1 ≤ t.end
      plain-some = whole-some s t true is_whole refl

      pub plain_fits : length s < 2 ^ 64 → Fits w64 (t.start + 1)
      plain_fits l = whole-fits s t true is_whole refl l

      pub plain-from : t.start + 1 ≤ t.end - 1
      plain-from = whole_from s t true is_whole refl

      pub plain-within : t.end - 1 ≤ length s
      plain-within = whole-within s t true is_whole refl

-- `plain_named`
module _ (s rec consts values names constants pool places : List ℕ) (count end : ℕ) (t n : Token) (r : Naming) (p q : List ℕ) where
  pub plain-name : t.kind ≡ Kind.NAME → (w : List ℕ) → w ≡ word_of s t → (id : List ℕ) → id ≡ lookup_in rec consts values names constants w
      → named r p q ≡ entered_in pool places count end n id → named r p q ≡ plain_named s (sight rec consts values names constants) pool places count end t n
  unfolding plain_named
  plain-name h w we id ie e = rw (eq-eqb _ _ h, ← we, ← ie) e

  pub plain-bytes : (t.kind ≡ Kind.NAME → ⊥) → (id : List ℕ) → id ≡ inner s t.start t.end → named r p q ≡ entered_in pool places count end n id
      → named r p q ≡ plain_named s (sight rec consts values names constants) pool places count end t n
  unfolding plain_named
  plain-bytes nn id ie e = rw (ne_eqb _ _ nn, ← ie) e

-- the token behind what was named
abbrev behind : Token → Done → Token
behind d (named (Ok (At i x n)) pool places) = n
behind d (named (Ok (Nobody n)) pool places) = n
behind d (named (Err f) pool places) = d

kept-behind : (n : Token) (k : Kept) → behind n (of_kept n k) ≡ n
unfolding of_number
kept-behind n (numbered (Some k) pool places) = refl
kept-behind n (numbered None pool places) = refl

entered-behind : (pool places : List ℕ) (count end : ℕ) (n : Token) (id : Principal) → behind n (entered_in pool places count end n id) ≡ n
unfolding entered_in
entered-behind pool places count end n id =
    split (eqb (length id) 0) (λ e. rw e)
    (λ e. split (ltb most_identifier (length id)) (λ f. rw (e, f)) (λ f. rw (e, f) (kept-behind n (enter_in pool places count end id))))

plain-behind : (s : List ℕ) (look : Sight) (pool places : List ℕ) (count end : ℕ) (t n : Token) → behind n (plain_named s look pool places count end t n) ≡ n
unfolding plain_named
plain-behind s look pool places count end t n =
    split (eqb t.kind Kind.NAME) (λ e. rw e (entered-behind pool places count end n _)) (λ e. rw e (entered-behind pool places count end n _))

pub plain_at_lem : (s : List ℕ) (look : Sight) (pool places : List ℕ) (count end : ℕ) (t n : Token) (p q : List ℕ) (i : ℕ) (x : Index) (m : Token)
    → named (Ok (At i x m)) p q ≡ plain_named s look pool places count end t n → m ≡ n
plain_at_lem s look pool places count end t n p q i x m h = ap (behind n) h ∙ plain-behind s look pool places count end t n

pub plain-nobody : (s : List ℕ) (look : Sight) (pool places : List ℕ) (count end : ℕ) (t n : Token) (p q : List ℕ) (m : Token)
    → named (Ok (Nobody m)) p q ≡ plain_named s look pool places count end t n → m ≡ n
plain-nobody s look pool places count end t n p q m h = ap (behind n) h ∙ plain-behind s look pool places count end t n

-- the front of the buffer
pub short-front : (m : List ℕ) (k : ℕ) → length m ≡ most_identifier → k ≤ most_identifier → k ≡ length (take k m)
short-front m k l h = sym (length-take-le k m (rw l h))
