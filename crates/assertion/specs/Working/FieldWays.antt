-- The ways out of the functions that read a field. Assumes nothing.
use Rattle.std.specs.Prelude.{◌≡◌, false, List, ℕ, ◌≤◌, ◌<◌, eqb, length, take, get_or, set, Ok, Err}
use Rattle.std.proofs.Common.{sym, ◌∙◌, arith, take_all, length-take-le}
use Rattle.std.proofs.Math.ListN.{get_or-eq_default}
use Rattle.std.proofs.Math.Seq.{set_out}
use borrow.Author.Tests.{ne_eqb}
use Rattle.lexical.specs.Kind
use Rattle.lexical.specs.declared.token.Token.{Token}
use Rattle.judge.specs.Working.Judging.{judged_here, Judged}
use Rattle.judge.specs.declared.Ranked.{Ranked}
use Rattle.fields.specs.Version.{version}
use Rattle.fields.specs.Working.Outs.{out_of, ended_out, Out}
use Rattle.fields.specs.Working.Setting.{Setting, Stored, stored, constants_in}
use Rattle.naming.specs.Working.Identifying.{sight}
use Rattle.naming.specs.Working.Authorizing.{Authoring, made, authorizer_in}
use Rattle.naming.specs.Working.List.{Licensing, ran}
use Rattle.naming.specs.Working.Chain.{field_in}
use Rattle.syntax.specs.declared.fault.Fault.{Fault}
use Rattle.fields.specs.declared.constants.Settings.{Settings}
use Rattle.naming.specs.declared.authorizer.Author.{Author}
use Rattle.naming.specs.declared.list.Licensed.{Licensed}
use Rattle.assertion.specs.Labels.{without}
use Rattle.assertion.specs.Working.Field.{Given, given, Tables, tabled, moved, Going, went, knowing, authored_by, licensed_to, ranked_at, passed_on, Settled, settled, settled_as, made_as, Listing, listed, listed_as, on_judged, constants_at, authorizer_at, licensees_at, conditions_at, field_at}
use Rattle.assertion.specs.declared.field.Partial.{Partial}

-- `front`
pub front-all : (l : List ℕ) (n : ℕ) → length l ≤ n → l ≡ take n l
front-all l n h = sym (take_all n l h)

pub front-short : (l : List ℕ) (n : ℕ) → n < length l → n ≡ length (take n l)
front-short l n h = sym (length-take-le n l (omega (arith, h)))

-- `is_free` and `use_label`
pub free-past : (l : List ℕ) (k : ℕ) → length l ≤ k → false ≡ eqb (get_or l k 0) 1
free-past l k h = rw (get_or-eq_default l 0 h)

pub clear-past : (l : List ℕ) (k : ℕ) → length l ≤ k → l ≡ set l k 0
clear-past l k h = sym (set_out l k 0 h)

pub used : (l m : List ℕ) (k : ℕ) → m ≡ set l Kind.KEYNOTE_VERSION 0 → (n : List ℕ) → n ≡ set m k 0 → n ≡ without l k
unfolding without
used l m k e n f = f ∙ rw e

-- `passed`
module _ (d : Partial) (o : Out) where
  pub passed_on_lem : (t : Token) → o ≡ Ok t → went d t ≡ passed_on d o
  passed_on_lem t e = rw e

  pub passed-not : (f : Fault) → o ≡ Err f → Err f ≡ passed_on d o
  passed-not f e = rw e

-- `constants_field`
module _ (d : Partial) (x : Stored) (r : Setting) (c q : List ℕ) (e : stored r c q ≡ x) where
  pub settings-on : (y : Settings) → r ≡ Ok y → settled (went (knowing d y.index.count) y.next) c q ≡ settled_as d x
  settings-on y k = rw (← e, k)

  pub settings-not : (f : Fault) → r ≡ Err f → settled (Err f) c q ≡ settled_as d x
  settings-not f k = rw (← e, k)

-- `authorizer_field`
module _ (d : Partial) (s : List ℕ) (standing : ℕ) (query consts values names known pool places : List ℕ) (t : Token)
    (r : Authoring) (p l : List ℕ) (e : made r p l ≡ authorizer_in s standing (sight query consts values names known) pool places d.index.count d.index.end t) where
  abbrev meant : Settled
  meant = made_as d (authorizer_in s standing (sight query consts values names known) pool places d.index.count d.index.end t)

  pub author-on : (a : Author) → r ≡ Ok a → settled (went (authored_by d a.number a.index a.fault) a.next) p l ≡ meant
  author-on a k = rw (← e, k)

  pub author-not : (f : Fault) → r ≡ Err f → settled (Err f) p l ≡ meant
  author-not f k = rw (← e, k)

-- `licensees_field`
module _ (d : Partial) (s query consts values names known pool places code : List ℕ) (t : Token)
    (r : Licensing) (p l m : List ℕ) (e : ran r p l m ≡ field_in s (sight query consts values names known) pool places code d.index.count d.index.end d.size t) where
  abbrev listing : Listing
  listing = listed_as d (field_in s (sight query consts values names known) pool places code d.index.count d.index.end d.size t)

  pub listed-on : (w : Licensed) → r ≡ Ok w → listed (went (licensed_to d w.state) w.next) p l m ≡ listing
  listed-on w k = rw (← e, k)

  pub listed-not : (f : Fault) → r ≡ Err f → listed (Err f) p l m ≡ listing
  listed-not f k = rw (← e, k)

-- `conditions_field`
module _ (d : Partial) (s : List ℕ) (t : Token) (query consts values names known : List ℕ)
    (r : Judged) (e : r ≡ judged_here s t query consts values names known) where
  abbrev judged : Going
  judged = on_judged d (judged_here s t query consts values names known)

  pub judged-on : (k : Ranked) → r ≡ Ok k → went (ranked_at d k.rank) k.next ≡ judged
  judged-on k f = rw (← e, f)

  pub judged-not : (w : Fault) → r ≡ Err w → Err w ≡ judged
  judged-not w f = rw (← e, f)

-- `field`
module _ (s : List ℕ) (standing : ℕ) (query values names : List ℕ) (start k : ℕ) (consts constants pool places code : List ℕ) (d : Partial) (t : Token) where
  abbrev g : Given
  g = given s standing query values names start

  abbrev x : Tables
  x = tabled consts constants pool places code

  pub field-version : (o : Out) (r : Going) → k ≡ Kind.KEYNOTE_VERSION → o ≡ out_of (version s t) → r ≡ passed_on d o → moved r x ≡ field_at g k x d t
  unfolding field_at
  field-version o r h e f = rw (f, e, h)

  module _ (n4 : k ≡ Kind.KEYNOTE_VERSION → ⊥) where
    pub field-constants : (r : Going) (c q : List ℕ) → k ≡ Kind.LOCAL_CONSTANTS → settled r c q ≡ settled_as d (constants_in s consts constants 0 start t)
        → moved r (tabled c q pool places code) ≡ field_at g k x d t
    unfolding field_at constants_at
    field-constants r c q h e = rw (h, ← e)

    module _ (n5 : k ≡ Kind.LOCAL_CONSTANTS → ⊥) where
      pub field-authorizer : (known : List ℕ) → known ≡ take d.known constants → (r : Going) (p l : List ℕ) → k ≡ Kind.AUTHORIZER
          → settled r p l ≡ made_as d (authorizer_in s standing (sight query consts values names known) pool places d.index.count d.index.end t)
          → moved r (tabled consts constants p l code) ≡ field_at g k x d t
      unfolding field_at authorizer_at
      field-authorizer known ke r p l h e = rw (h, ← ke, ← e)

      module _ (n6 : k ≡ Kind.AUTHORIZER → ⊥) where
        pub field-licensees : (known : List ℕ) → known ≡ take d.known constants → (r : Going) (p l m : List ℕ) → k ≡ Kind.LICENSEES
            → listed r p l m ≡ listed_as d (field_in s (sight query consts values names known) pool places code d.index.count d.index.end d.size t)
            → moved r (tabled consts constants p l m) ≡ field_at g k x d t
        unfolding field_at licensees_at
        field-licensees known ke r p l m h e = rw (h, ← ke, ← e)

        module _ (n7 : k ≡ Kind.LICENSEES → ⊥) where
          pub field-conditions : (known : List ℕ) → known ≡ take d.known constants → (r : Going) → k ≡ Kind.CONDITIONS
              → r ≡ on_judged d (judged_here s t query consts values names known)
              → moved r x ≡ field_at g k x d t
          unfolding field_at conditions_at
          field-conditions known ke r h e = rw (h, ← ke, e)

          pub field-comment : (o : Out) (r : Going) → (k ≡ Kind.CONDITIONS → ⊥) → o ≡ ended_out t → r ≡ passed_on d o → moved r x ≡ field_at g k x d t
          unfolding field_at
          field-comment o r n8 e f = rw (f, e, ne_eqb _ _ n4, ne_eqb _ _ n5, ne_eqb _ _ n6, ne_eqb _ _ n7, ne_eqb _ _ n8)
