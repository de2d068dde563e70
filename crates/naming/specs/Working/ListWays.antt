-- The ways out of the functions that write licensees and lists. Assumes nothing.
use Rattle.std.specs.Prelude.{◌≡◌, Bool, false, List, [], eqb, leb, length, drop, None, Ok, Err, Some}
use Rattle.std.proofs.Math.Path.{refl, sym, ap}
use Rattle.std.proofs.Common.{◌∙◌, length-drop, length-take-le, Fits}
use Rattle.std.proofs.Math.Bool.{true}
use Prim.Native.Nat.{ℕ, zero, suc, ◌+◌, ◌-◌, ◌^◌, ◌<◌, ◌≤◌, min}
use native.Mathlib.Omega.{arith}
use borrow.Author.Tests.{lt-ltb, le-ltb, le-leb, lt-leb, eq-eqb, ne_eqb, eqb-true}
use Rattle.std.specs.Int.{w64}
use Rattle.text.specs.Choice.{pick, split, clash}
use Rattle.naming.specs.Working.Whole.{whole-some, whole-fits, whole_from, whole-within}
use Rattle.text.specs.Loop.{loop-next, loop-done}
use Rattle.limits.specs.Limits.{most_licensees}
use Rattle.lexical.specs.Kind
use Rattle.lexical.specs.Line.{token_at}
use Rattle.lexical.specs.Number.{number_at}
use Rattle.lexical.specs.Token.{token}
use Rattle.lexical.specs.declared.token.Token.{Token}
use Rattle.compliance.specs.Codes.{k_of_code}
use Rattle.naming.specs.Working.Code.{above, pushed}
use Rattle.conditions.specs.Table.{begins_string}
use Rattle.naming.specs.String.{plain_from, nest_of}
use Rattle.naming.specs.Working.Faults.{first_of}
use Rattle.syntax.specs.Working.Faults.{against}
use Rattle.naming.specs.Working.Identifying.{Sight, sight, Done, named, of_number, of_kept, entered_in, string_named, is_plain, plain_named, plain_at_lem, plain-nobody, Naming}
use Rattle.limits.specs.Limits.{most_identifier}
use Rattle.naming.specs.Working.Whole.{whole, whole_at, inner, Whole, whole_is}
use Rattle.index.specs.Working.Adding.{index_of}
use Rattle.index.specs.Working.Entering.{Kept, numbered, enter_in, known, Known}
use Rattle.index.specs.declared.Index.{Index}
use Rattle.naming.specs.Working.List.{Ran, ran, Wrote, wrote, refused_licensed, sized, state_at, placed_in, on_named, before_in, literal_in, Leads, resumed, is_over, string_in, licensee_in, items_of, listed_in, on_wrote, list_in, opened_in, threshold_in, Licensing, read_to}
use Rattle.syntax.specs.declared.fault.Fault.{Fault}
use Rattle.naming.specs.declared.list.State.{State}
use Rattle.naming.specs.declared.identifier.Named.TheVariants.{At, Nobody}
use Rattle.naming.specs.declared.identifier.Named.{Named}
use Rattle.naming.specs.declared.list.Licensed.{Licensed}

-- `plain_from`
module _ (s : List ℕ) where
  pub plain_here : (left : ℕ) (t : Token) → left ≡ 0 → t ≡ plain_from left s t
  unfolding plain_from
  plain_here left t h = rw h

  pub plain-not : (left : ℕ) (t : Token) → (t.kind ≡ Kind.OPEN → ⊥) → t ≡ plain_from left s t
  unfolding plain_from
  plain-not zero t h = refl
  plain-not (suc left) t h = rw (ne_eqb _ _ h)

  pub plain_more : (left : ℕ) (t n : Token) → (left ≡ 0 → ⊥) → t.kind ≡ Kind.OPEN → n ≡ token_at s Kind.IN_FIELD t.end → plain_from (left - 1) s n ≡ plain_from left s t
  unfolding plain_from
  plain_more zero t n z h ne = absurd (z refl)
  plain_more (suc left) t n z h ne = let e : suc left - 1 ≡ left = omega arith in rw (eq-eqb _ _ h, e, ne)

  -- its loop, with the invariant `plain_from .. ≡ a`
  module _ (left : ℕ) (t a : Token) (inv : plain_from left s t ≡ a) where
    pub plain_end : left ≡ 0 → t ≡ a
    plain_end h = plain_here left t h ∙ inv

    pub plain-stop : (t.kind ≡ Kind.OPEN → ⊥) → t ≡ a
    plain-stop h = plain-not left t h ∙ inv

    pub plain-again : (n : Token) → (left ≡ 0 → ⊥) → t.kind ≡ Kind.OPEN → n ≡ token_at s Kind.IN_FIELD t.end → plain_from (left - 1) s n ≡ a
    plain-again n z h ne = plain_more left t n z h ne ∙ inv

-- `nest_of`
pub nest-none : (left : ℕ) → 16 ≤ left → 0 ≡ nest_of left
nest-none left h = omega (arith, h)

-- `is_over`
module _ (listed k : ℕ) where
  pub over-not : listed < most_licensees → false ≡ is_over listed k
  unfolding is_over
  over-not h = rw (lt-leb _ _ h)

  pub over-string : most_licensees ≤ listed → (b : Bool) → b ≡ begins_string k → b ≡ is_over listed k
  unfolding is_over
  over-string h b be = rw (le-leb _ _ h) be

-- `placed`
module _ (code : List ℕ) (st : State) (place : ℕ) (e : Naming) where
  pub placed-aside : (f : Fault) → e ≡ Err f → wrote (Err f) code ≡ placed_in code st place e
  unfolding placed_in
  placed-aside f k = rw k

  module _ (v : Named) (n : Token) (k : e ≡ Ok v) (is : v ≡ Nobody n) where
    pub nobody-most : most_licensees ≤ st.listed → wrote (Err (against 0 0)) code ≡ placed_in code st place e
    unfolding placed_in
    nobody-most h = rw (k, is) (rw (le-leb _ _ h))

    pub nobody-on : st.listed < most_licensees → (y : ℕ) (b : List ℕ) (g f : Fault) → y ≡ above code st.size → b ≡ pushed code st.size 0
        → g ≡ against 10 place → f ≡ first_of st.fault g → wrote (read_to (state_at st.index y (st.listed + 1) f) n) b ≡ placed_in code st place e
    unfolding placed_in
    nobody-on h y b g f ye be ge fe = rw (k, is, ye, be, fe, ge) (rw (lt-leb _ _ h))

  module _ (v : Named) (i : ℕ) (index : Index) (n : Token) (k : e ≡ Ok v) (is : v ≡ At i index n) where
    pub number-most : most_licensees ≤ st.listed → wrote (Err (against 0 0)) code ≡ placed_in code st place e
    unfolding placed_in
    number-most h = rw (k, is) (rw (le-leb _ _ h))

    module _ (few : st.listed < most_licensees) where
      pub placed-high : 32768 ≤ i → wrote (Err (against 0 0)) code ≡ placed_in code st place e
      unfolding placed_in
      placed-high g = rw (k, is) (rw (lt-leb _ _ few, le-leb _ _ g))

      pub placed_on : (x y : ℕ) (b : List ℕ) → i < 32768 → x ≡ i → y ≡ above code st.size → b ≡ pushed code st.size x
          → wrote (read_to (state_at index y (st.listed + 1) st.fault) n) b ≡ placed_in code st place e
      unfolding placed_in
      placed_on x y b g xe ye be = rw (k, is, ye, be, xe) (rw (lt-leb _ _ few, lt-leb _ _ g))

-- `placed_number`
module _ (code : List ℕ) (st : State) (n : Token) (e : Known) where
  pub number-none : e ≡ None → wrote (Err (against 0 0)) code ≡ placed_in code st 0 (of_number n e)
  unfolding of_number placed_in
  number-none k = rw k

  module _ (i c m : ℕ) (k : e ≡ known c i m) (few : st.listed < 16) where
    pub number-high : 32768 ≤ i → wrote (Err (against 0 0)) code ≡ placed_in code st 0 (of_number n e)
    unfolding of_number placed_in
    number-high g = rw k (rw (lt-leb _ _ few, le-leb _ _ g))

    pub number-on : (x y : ℕ) (b : List ℕ) → i < 32768 → x ≡ i → y ≡ above code st.size → b ≡ pushed code st.size x
        → wrote (read_to (state_at (index_of c m) y (st.listed + 1) st.fault) n) b ≡ placed_in code st 0 (of_number n e)
    unfolding of_number placed_in
    number-on x y b g xe ye be = rw (k, ye, be, xe) (rw (lt-leb _ _ few, lt-leb _ _ g))

-- the place doesn't matter to a principal that was entered
any_place : (code : List ℕ) (st : State) (a b : ℕ) (n : Token) (e : Known) → placed_in code st a (of_number n e) ≡ placed_in code st b (of_number n e)
unfolding of_number placed_in
any_place code st a b n None = refl
any_place code st a b n (Some k) = refl

-- `name_before`
module _ (s : List ℕ) (look : Sight) (pool places code : List ℕ) (st : State) (k start stop : ℕ) (n : Token) where
  pub before-most : most_licensees ≤ st.listed → ran (Err (against 7 start)) pool places code ≡ before_in s look pool places code st (token k start stop) n
  unfolding before_in
  before-most h = rw (le-leb _ _ h)

module _ (s : List ℕ) (look : Sight) (pool places code : List ℕ) (st : State) (t n : Token) where
  pub before-placed : st.listed < most_licensees → (e : Naming) (p q : List ℕ) → named e p q ≡ plain_named s look pool places st.index.count st.index.end t n
      → (x : Licensing) (m : List ℕ) → wrote x m ≡ placed_in code st t.start e → ran x p q m ≡ before_in s look pool places code st t n
  unfolding before_in
  before-placed h e p q ee x m we = rw (lt-leb _ _ h, ← ee, ← we)

-- a literal that gives its bytes as they stand has 1 to 256 of them
inner-long : (s : List ℕ) (t : Token) → whole s t ≡ true → (length (inner s t.start t.end) ≡ 0 → ⊥) × (length (inner s t.start t.end) ≤ most_identifier)
inner-long s t h =
    let is : Whole s t = whole_is s t h in
    let long : length (inner s t.start t.end) ≡ t.end - 1 - (t.start + 1)
    = length-take-le (t.end - 1 - (t.start + 1)) (drop (t.start + 1) s) (rw (length-drop (t.start + 1) s) (omega (arith, is.in_text))) in
    ((λ z. let no : ⊥ = omega (arith, z, long, is.some) in no), omega (arith, long, is.few))

-- `literal_before`
module _ (s pool places code : List ℕ) (st : State) (start stop : ℕ) (n : Token) where
  pub literal-most : most_licensees ≤ st.listed → ran (Err (against 7 start)) pool places code ≡ literal_in s pool places code st start stop n
  unfolding literal_in
  literal-most h = rw (le-leb _ _ h)

  pub literal-placed : st.listed < most_licensees → (e : Known) (p q : List ℕ) → numbered e p q ≡ enter_in pool places st.index.count st.index.end (inner s start stop)
      → (x : Licensing) (m : List ℕ) → wrote x m ≡ placed_in code st 0 (of_number n e) → ran x p q m ≡ literal_in s pool places code st start stop n
  unfolding literal_in
  literal-placed h e p q ee x m we = rw (lt-leb _ _ h, ← ee, ← we)

module _ (s : List ℕ) (start stop : ℕ) (is : whole_at s start stop ≡ true) where
  literal : Token
  literal = token Kind.LITERAL start stop

  as-token : true ≡ whole s literal
  unfolding whole literal
  as-token = sym is

  pub literal-some : 1 ≤ stop
  unfolding literal
  literal-some = whole-some s literal true as-token refl

  pub literal-fits : length s < 2 ^ 64 → Fits w64 (start + 1)
  unfolding literal
  literal-fits l = whole-fits s literal true as-token refl l

  pub literal-from : start + 1 ≤ stop - 1
  unfolding literal
  literal-from = whole_from s literal true as-token refl

  pub literal-within : stop - 1 ≤ length s
  unfolding literal
  literal-within = whole-within s literal true as-token refl

-- where it is asked for
module _ (s : List ℕ) (t : Token) where
  pub whole-asked : whole s t ≡ true → whole_at s t.start t.end ≡ true
  unfolding whole
  whole-asked h = split (eqb t.kind Kind.LITERAL) (λ e. rw e at h) (λ e. clash {b = false} (rw e at h) refl)

  whole-kind : whole s t ≡ true → t.kind ≡ Kind.LITERAL
  unfolding whole
  whole-kind h = split (eqb t.kind Kind.LITERAL) (λ e. eqb-true _ _ e) (λ e. clash {b = false} (rw e at h) refl)

  plain-whole : (t.kind ≡ Kind.NAME → ⊥) → is_plain s t ≡ true → whole s t ≡ true
  unfolding is_plain
  plain-whole nn is = rw (ne_eqb _ _ nn) at is

  pub plain-asked : (b : Bool) → b ≡ is_plain s t → b ≡ true → (t.kind ≡ Kind.NAME → ⊥) → whole_at s t.start t.end ≡ true
  plain-asked b be y nn = whole-asked (plain-whole nn (sym be ∙ y))

  pub literal-asked : (b : Bool) → b ≡ whole s t → b ≡ true → whole_at s t.start t.end ≡ true
  literal-asked b be y = whole-asked (sym be ∙ y)

-- it is what any plain token is
pub literal-before : (s : List ℕ) (look : Sight) (pool places code : List ℕ) (st : State) (t n : Token) → (t.kind ≡ Kind.NAME → ⊥) → is_plain s t ≡ true
    → literal_in s pool places code st t.start t.end n ≡ before_in s look pool places code st t n
unfolding literal_in before_in plain_named entered_in
literal-before s look pool places code st t n nn is =
    let w : whole s t ≡ true = plain-whole s t nn is in
    let l : _ = inner-long s t w in
    rw (ne_eqb _ _ nn, ne_eqb _ _ l.0, le-ltb _ _ l.1) (ap (λ (x : Ran). pick (leb most_licensees st.listed) (ran (Err (against 7 t.start)) pool places code) x) (anywhere (enter_in pool places st.index.count st.index.end (inner s t.start t.end))))
  where
    anywhere : (e : Kept) → on_named code st 0 (of_kept n e) ≡ on_named code st t.start (of_kept n e)
    anywhere (numbered e p q) = ap (on_wrote p q) (any_place code st 0 t.start n e)

same-licensed : (a b : Licensed) (m n : List ℕ) → wrote (Ok a) m ≡ wrote (Ok b) n → a ≡ b
same-licensed a b m n e = cc e

-- the token behind such a licensee
behind-placed : (code : List ℕ) (st : State) (place : ℕ) (n : Token) (e : Naming) (u : State) (v : Token) (m : List ℕ) → ((i : ℕ) (x : Index) (o : Token) → e ≡ Ok (At i x o) → o ≡ n) → ((o : Token) → e ≡ Ok (Nobody o) → o ≡ n)
    → wrote (read_to u v) m ≡ placed_in code st place e → v ≡ n
unfolding placed_in
behind-placed code st place n (Err w) u v m f g h = absurd (let z : ◌≡◌ {A = ℕ} 0 1 = cc h in omega (arith, z))
behind-placed code st place n (Ok (Nobody o)) u v m f g h =
    split (leb most_licensees st.listed) (λ e. let k : wrote (read_to u v) m ≡ wrote (Err (against 0 0)) code = rw e at h in absurd (let z : ◌≡◌ {A = ℕ} 0 1 = cc k in omega (arith, z)))
    (λ e. let w : v ≡ o = ap (λ (w : Licensed). w.next) (same-licensed _ _ _ _ (rw e at h)) in w ∙ g o refl)
behind-placed code st place n (Ok (At i x o)) u v m f g h =
    split (leb most_licensees st.listed) (λ e. let k : wrote (read_to u v) m ≡ wrote (Err (against 0 0)) code = rw e at h in absurd (let z : ◌≡◌ {A = ℕ} 0 1 = cc k in omega (arith, z)))
    (λ e. split (leb 32768 i) (λ l. let k : wrote (read_to u v) m ≡ wrote (Err (against 0 0)) code = rw (e, l) at h in absurd (let z : ◌≡◌ {A = ℕ} 0 1 = cc k in omega (arith, z)))
    (λ l. let w : v ≡ o = ap (λ (w : Licensed). w.next) (same-licensed _ _ _ _ (rw (e, l) at h)) in w ∙ f i x o refl))

before-from : (code : List ℕ) (st : State) (place : ℕ) (n : Token) (d : Done) (u : State) (v : Token) (p q m : List ℕ)
    → ((i : ℕ) (x : Index) (o : Token) (a b : List ℕ) → d ≡ named (Ok (At i x o)) a b → o ≡ n) → ((o : Token) (a b : List ℕ) → d ≡ named (Ok (Nobody o)) a b → o ≡ n)
    → ran (read_to u v) p q m ≡ on_named code st place d → v ≡ n
before-from code st place n (named e a b) u v p q m f g h =
    from (placed_in code st place e) refl h
  where
    from : (w : Wrote) → placed_in code st place e ≡ w → ran (read_to u v) p q m ≡ on_wrote a b w → v ≡ n
    from (wrote x k) we i =
        let j : wrote (read_to u v) k ≡ placed_in code st place e = (let z : x ≡ read_to u v = cc i in rw (sym z) (sym we)) in
        behind-placed code st place n e u v k (λ i x o z. f i x o a b (rw z)) (λ o z. g o a b (rw z)) j

pub before-next : (s : List ℕ) (look : Sight) (pool places code : List ℕ) (st : State) (t n : Token) (u : State) (v : Token) (p q m : List ℕ)
    → ran (read_to u v) p q m ≡ before_in s look pool places code st t n → v ≡ n
unfolding before_in
before-next s look pool places code st t n u v p q m h =
    split (leb most_licensees st.listed)
    (λ e. let k : ran (read_to u v) p q m ≡ ran (Err (against 7 t.start)) pool places code = rw e at h in absurd (let z : ◌≡◌ {A = ℕ} 0 1 = cc k in omega (arith, z)))
    (λ e. let k : ran (read_to u v) p q m ≡ on_named code st t.start (plain_named s look pool places st.index.count st.index.end t n) = rw e at h in
    before-from code st t.start n (plain_named s look pool places st.index.count st.index.end t n) u v p q m
    (λ i x o a b z. plain_at_lem s look pool places st.index.count st.index.end t n a b i x o (sym z))
    (λ o a b z. plain-nobody s look pool places st.index.count st.index.end t n a b o (sym z)) k)

-- `string_licensee`
module _ (s : List ℕ) (look : Sight) (pool places code : List ℕ) (st : State) (left : ℕ) (t p : Token) (pe : p ≡ plain_from left s t) (b : Bool) (be : b ≡ is_over st.listed p.kind) where
  pub string-most : b ≡ true → ran (Err (against 7 p.start)) pool places code ≡ string_in s look pool places code st left t
  unfolding string_in
  string-most y = rw (← pe, ← be, y)

  pub string-placed : b ≡ false → (nest : ℕ) → nest ≡ nest_of left → (e : Naming) (p' q : List ℕ) → named e p' q ≡ string_named s look pool places st.index.count st.index.end nest t
      → (x : Licensing) (m : List ℕ) → wrote x m ≡ placed_in code st p.start e → ran x p' q m ≡ string_in s look pool places code st left t
  unfolding string_in
  string-placed y nest ne e p' q ee x m we = rw (← pe, ← be, y, ← ne, ← ee, ← we)

-- `licensee`
module _ (s : List ℕ) (look : Sight) (pool places code : List ℕ) (st : State) (left : ℕ) (t : Token) (r : Ran) (b : Bool) (be : b ≡ is_plain s t) where
  pub licensee-string : b ≡ false → r ≡ string_in s look pool places code st left t → r ≡ licensee_in s look pool places code st left t
  unfolding licensee_in
  licensee-string y re = rw (← be, y) re

  module _ (y : b ≡ true) (n : Token) (ne : n ≡ token_at s Kind.IN_FIELD t.end) where
    pub licensee-longer : n.kind ≡ Kind.DOT → r ≡ string_in s look pool places code st left t → r ≡ licensee_in s look pool places code st left t
    unfolding licensee_in
    licensee-longer h re = rw (← be, y, ← ne, eq-eqb _ _ h) re

    module _ (h : n.kind ≡ Kind.DOT → ⊥) where
      pub licensee-plain : before_in s look pool places code st t n ≡ licensee_in s look pool places code st left t
      unfolding licensee_in
      licensee-plain = rw (← be, y, ← ne, ne_eqb _ _ h)

      pub licensee-name : t.kind ≡ Kind.NAME → r ≡ before_in s look pool places code st (token Kind.NAME t.start t.end) (token n.kind n.start n.end) → r ≡ licensee_in s look pool places code st left t
      licensee-name k re = re ∙ ap (λ (x : ℕ). before_in s look pool places code st (token x t.start t.end) n) (sym k) ∙ licensee-plain

      pub licensee-literal : (t.kind ≡ Kind.NAME → ⊥) → r ≡ literal_in s pool places code st t.start t.end (token n.kind n.start n.end) → r ≡ licensee_in s look pool places code st left t
      licensee-literal nn re = re ∙ literal-before s look pool places code st t n nn (sym be ∙ y) ∙ licensee-plain

-- `items`
module _ (before listed : ℕ) where
  pub items-less : listed < before → 0 ≡ items_of before listed
  unfolding items_of
  items-less h = simp (lt-ltb _ _ h)

  module _ (h : before ≤ listed) where
    pub items-many : most_licensees < listed - before → 0 ≡ items_of before listed
    unfolding items_of
    items-many k = simp (le-ltb _ _ h, lt-ltb _ _ k)

    pub items-are : listed - before ≤ most_licensees → listed - before ≡ items_of before listed
    unfolding items_of
    items-are k = simp (le-ltb _ _ h, le-ltb _ _ k)

-- `list_end`
module _ (s code : List ℕ) (k before : ℕ) (st : State) (t : Token) (m : ℕ) (me : m ≡ items_of before st.listed) (n : ℕ) (ne : n ≡ m) where
  nm : items_of before st.listed ≡ n
  nm = sym me ∙ sym ne

  pub list-few : n < k → wrote (Err (against 5 t.start)) code ≡ listed_in s code k before st t
  unfolding listed_in
  list-few h = rw nm (simp (lt-ltb _ _ h))

  pub list-enough : (x y : ℕ) (b : List ℕ) (u : Token) → k ≤ n → x ≡ k_of_code k n → y ≡ above code st.size → b ≡ pushed code st.size x → u ≡ token_at s Kind.IN_LICENSEES t.end
      → wrote (read_to (sized st y) u) b ≡ listed_in s code k before st t
  unfolding listed_in
  list-enough x y b u h xe ye be ue = rw (ye, be, xe, ue, nm) (simp (le-ltb _ _ h))

-- the loop of `list`, with the invariant `list_in .. ≡ a`
module _ (s : List ℕ) (look : Sight) (left k before : ℕ) (pool places code : List ℕ) (st : State) (t : Token) (a : Ran)
    (inv : list_in s look left k before pool places code st t ≡ a) (r : Licensing) (p q m : List ℕ) (re : ran r p q m ≡ licensee_in s look pool places code st left t) where
  pub item-aside : (f : Fault) → r ≡ Err f → ran (Err f) p q m ≡ a
  unfolding list_in
  item-aside f h = sym (loop-done _ _ _ (st, t, pool, places, code) (ran (Err f) p q m) (simp (sym re, h))) ∙ inv

  module _ (one : Licensed) (rv : r ≡ Ok one) where
    pub item-close : (w : Licensing) (b : List ℕ) → one.next.kind ≡ Kind.CLOSE → wrote w b ≡ listed_in s m k before one.state one.next → ran w p q b ≡ a
    unfolding list_in
    item-close w b h we =
        ap (on_wrote p q) we ∙ sym (loop-done _ _ _ (st, t, pool, places, code) (on_wrote p q (listed_in s m k before one.state one.next)) (simp (sym re, rv, eq-eqb _ _ h))) ∙ inv

    module _ (nc : one.next.kind ≡ Kind.CLOSE → ⊥) where
      pub item-other : (w : Licensing) → (one.next.kind ≡ Kind.COMMA → ⊥) → w ≡ refused_licensed one.next → ran w p q m ≡ a
      unfolding list_in
      item-other w h we =
          rw we (sym (loop-done _ _ _ (st, t, pool, places, code) (ran (refused_licensed one.next) p q m) (simp (sym re, rv, ne_eqb _ _ nc, ne_eqb _ _ h))) ∙ inv)

      module _ (h : one.next.kind ≡ Kind.COMMA) (x y : ℕ) (xe : x ≡ 16 - st.listed) (ye : y ≡ 16 - one.state.listed) where
        pub item-stuck : x ≤ y → ran (Err (against 0 0)) p q m ≡ a
        unfolding list_in
        item-stuck g =
            sym (loop-done _ _ _ (st, t, pool, places, code) (ran (Err (against 0 0)) p q m) (simp (sym re, rv, ne_eqb _ _ nc, eq-eqb _ _ h, sym xe, sym ye, le-leb _ _ g))) ∙ inv

        pub item-more : (v : Token) → y < x → v ≡ token_at s Kind.IN_LICENSEES one.next.end → list_in s look left k before p q m one.state v ≡ a
        unfolding list_in
        item-more v g ve =
            rw ve (sym (loop-next _ _ _ (st, t, pool, places, code) (one.state, token_at s Kind.IN_LICENSEES one.next.end, p, q, m)
            (simp (sym re, rv, ne_eqb _ _ nc, eq-eqb _ _ h, sym xe, sym ye, lt-leb _ _ g)) (omega (arith, xe, ye))) ∙ inv)

        pub item-less : y < x → 16 - one.state.listed < 16 - st.listed
        item-less g = omega (arith, xe, ye)

-- `literals`
pub leads-here : (s pool places code : List ℕ) (st : State) (t : Token) → Leads s pool places code st t (ran (read_to st t) pool places code)
leads-here s pool places code st t = record { leads = λ look left k before. refl }

-- its loop, with the invariant `Leads`
module _ (s pool₀ places₀ code₀ : List ℕ) (st₀ : State) (t₀ : Token) (pool places code : List ℕ) (st : State) (t : Token)
    (inv : Leads s pool₀ places₀ code₀ st₀ t₀ (ran (read_to st t) pool places code)) (b : Bool) (be : b ≡ whole s t) (y : b ≡ true)
    (n : Token) (ne : n ≡ token_at s Kind.IN_FIELD t.end) (comma : n.kind ≡ Kind.COMMA)
    (r : Licensing) (p q m : List ℕ) (re : ran r p q m ≡ literal_in s pool places code st t.start t.end (token n.kind n.start n.end)) where
  no_name : t.kind ≡ Kind.NAME → ⊥
  no_name k = let z : ◌≡◌ {A = ℕ} Kind.NAME Kind.LITERAL = sym k ∙ whole-kind s t (sym be ∙ y) in let no : ⊥ = omega (arith, z) in no

  no-dot : n.kind ≡ Kind.DOT → ⊥
  no-dot k = let z : ◌≡◌ {A = ℕ} Kind.COMMA Kind.DOT = sym comma ∙ k in let no : ⊥ = omega (arith, z) in no

  no-close : n.kind ≡ Kind.CLOSE → ⊥
  no-close k = let z : ◌≡◌ {A = ℕ} Kind.COMMA Kind.CLOSE = sym comma ∙ k in let no : ⊥ = omega (arith, z) in no

  is-plain : true ≡ is_plain s t
  unfolding is_plain
  is-plain = rw (ne_eqb _ _ no_name) (sym (sym be ∙ y))

  item : (look : Sight) (left : ℕ) → ran r p q m ≡ licensee_in s look pool places code st left t
  item look left = licensee-literal s look pool places code st left t (ran r p q m) true is-plain refl n ne no-dot no_name re

  pub literals-aside : (f : Fault) → r ≡ Err f → Leads s pool₀ places₀ code₀ st₀ t₀ (ran (Err f) p q m)
  literals-aside f h = record {
    leads = λ look left k before. item-aside s look left k before pool places code st t _ (inv.leads look left k before) r p q m (item look left) f h;
  }

  module _ (one : Licensed) (rv : r ≡ Ok one) where
    same_next : one.next ≡ n
    same_next = before-next s (sight [] [] [] [] []) pool places code st t n one.state one.next p q m
        (rw (sym rv) (re ∙ literal-before s (sight [] [] [] [] []) pool places code st t n no_name (sym is-plain)))

    next-comma : one.next.kind ≡ Kind.COMMA
    next-comma = ap (λ (o : Token). o.kind) same_next ∙ comma

    next-close : one.next.kind ≡ Kind.CLOSE → ⊥
    next-close k = no-close (sym (ap (λ (o : Token). o.kind) same_next) ∙ k)

    module _ (x z : ℕ) (xe : x ≡ 16 - st.listed) (ze : z ≡ 16 - one.state.listed) where
      pub literals-stuck : x ≤ z → Leads s pool₀ places₀ code₀ st₀ t₀ (ran (Err (against 0 0)) p q m)
      literals-stuck g = record {
        leads = λ look left k before.
            item-stuck s look left k before pool places code st t _ (inv.leads look left k before) r p q m (item look left) one rv next-close next-comma x z xe ze g;
      }

      pub literals-more : (w : Token) → z < x → w ≡ token_at s Kind.IN_LICENSEES n.end → Leads s pool₀ places₀ code₀ st₀ t₀ (ran (read_to one.state w) p q m)
      literals-more w g we = record {
        leads = λ look left k before.
            item-more s look left k before pool places code st t _ (inv.leads look left k before) r p q m (item look left) one rv next-close next-comma x z xe ze w g
            (we ∙ ap (λ (o : Token). token_at s Kind.IN_LICENSEES o.end) (sym same_next));
      }

      pub literals-less : z < x → 16 - one.state.listed < 16 - st.listed
      literals-less g = omega (arith, xe, ze)

-- `opened`
module _ (left : ℕ) (s : List ℕ) (look : Sight) (k : ℕ) (pool places code : List ℕ) (st : State) (t : Token) where
  pub opened-not : (r : Licensing) → (t.kind ≡ Kind.OPEN → ⊥) → r ≡ refused_licensed t → ran r pool places code ≡ opened_in left s look k pool places code st t
  unfolding opened_in
  opened-not r h re = rw re (simp (ne_eqb _ _ h))

  module _ (h : t.kind ≡ Kind.OPEN) where
    pub opened-most : left ≡ 0 → ran (Err (against 7 t.start)) pool places code ≡ opened_in left s look k pool places code st t
    unfolding opened_in
    opened-most z = simp (eq-eqb _ _ h, eq-eqb _ _ z)

    module _ (z : left ≡ 0 → ⊥) (n : Token) (ne : n ≡ token_at s Kind.IN_LICENSEES t.end) where
      all : list_in s look (left - 1) k st.listed pool places code st n ≡ opened_in left s look k pool places code st t
      unfolding opened_in
      all = simp (eq-eqb _ _ h, ne_eqb _ _ z, ne)

      module _ (w : Licensing) (p q m : List ℕ) (we : Leads s pool places code st n (ran w p q m)) where
        pub opened-aside : (f : Fault) → w ≡ Err f → ran (Err f) p q m ≡ opened_in left s look k pool places code st t
        opened-aside f e = ap (λ (v : Licensing). resumed s look (left - 1) k st.listed (ran v p q m)) (sym e) ∙ we.leads look (left - 1) k st.listed ∙ all

        pub opened-list : (o : Licensed) → w ≡ Ok o → (r : Ran) → r ≡ list_in s look (left - 1) k st.listed p q m o.state o.next → r ≡ opened_in left s look k pool places code st t
        opened-list o e r re = re ∙ ap (λ (v : Licensing). resumed s look (left - 1) k st.listed (ran v p q m)) (sym e) ∙ we.leads look (left - 1) k st.listed ∙ all

-- `threshold`
module _ (left : ℕ) (s : List ℕ) (look : Sight) (pool places code : List ℕ) (st : State) (t : Token) (k : ℕ) (ke : k ≡ min (number_at s t.start t.end) 2147483648) where
  pub threshold-none : k ≡ 0 → ran (Err (against 5 t.start)) pool places code ≡ threshold_in left s look pool places code st t
  unfolding threshold_in
  threshold-none z = rw (eq-eqb (number_at s t.start t.end) 0 (omega (arith, ke, z)))

  module _ (nz : k ≡ 0 → ⊥) where
    pub threshold-high : 16 < k → ran (Err (against 5 t.start)) pool places code ≡ threshold_in left s look pool places code st t
    unfolding threshold_in
    threshold-high h = rw (lt-ltb 16 (number_at s t.start t.end) (omega (arith, ke, h)), ne_eqb (number_at s t.start t.end) 0 (λ z. omega (arith, ke, h, z)))

    module _ (low : k ≤ 16) (o : Token) (oe : o ≡ token_at s Kind.IN_LICENSEES t.end) where
      -- a number that is small was not held
      small_is : number_at s t.start t.end ≡ k
      small_is = omega (arith, ke, low)

      pub threshold-not : (r : Licensing) → (o.kind ≡ Kind.OF → ⊥) → r ≡ refused_licensed o → ran r pool places code ≡ threshold_in left s look pool places code st t
      unfolding threshold_in
      threshold-not r h re = rw re (simp (small_is, ne_eqb _ _ nz, le-ltb _ _ low, sym oe, ne_eqb _ _ h))

      pub threshold-of : (n : Token) (x : ℕ) (r : Ran) → o.kind ≡ Kind.OF → n ≡ token_at s Kind.IN_LICENSEES o.end → x ≡ k → r ≡ opened_in left s look x pool places code st n
          → r ≡ threshold_in left s look pool places code st t
      unfolding threshold_in
      threshold-of n x r h ne xe re = re ∙ rw xe (simp (small_is, ne_eqb _ _ nz, le-ltb _ _ low, sym oe, eq-eqb _ _ h, ne))
