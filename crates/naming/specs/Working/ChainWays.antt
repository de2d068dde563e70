-- The ways out of the functions that write chains, brackets and the field. Assumes nothing.
use Rattle.std.specs.Prelude.{◌≡◌, length, Err, Ok}
use Rattle.std.proofs.Math.Path.{refl, sym}
use Rattle.std.proofs.Common.{ap, ◌∙◌, arith}
use Rattle.std.proofs.Math.Bool.{Bool, true, false}
use mathlib.Core.List.{List}
use Prim.Native.Nat.{ℕ, zero, suc, ◌+◌, ◌-◌, ◌<◌, ◌≤◌}
use Rattle.std.proofs.Math.Dec.{eqb}
use borrow.Author.Tests.{lt-ltb, le-ltb, le-leb, lt-leb, eq-eqb, ne_eqb, eqb-true, eqb-false}
use Rattle.text.specs.Choice.{split, clash}
use Rattle.text.specs.Loop.{loop-next, loop-done}
use Rattle.limits.specs.Limits.{most_code}
use Rattle.lexical.specs.Kind
use Rattle.lexical.specs.Kind.{ending}
use Rattle.lexical.specs.Theorems.Bounds.{chosen}
use Rattle.lexical.specs.Line.{token_at}
use Rattle.lexical.specs.Token.{token}
use Rattle.lexical.specs.declared.token.Token.{Token}
use Rattle.compliance.specs.Codes.{and_code, or_code, zero_code}
use Rattle.naming.specs.Working.Code.{above, pushed}
use Rattle.naming.specs.Working.Faults.{clear_at}
use Rattle.syntax.specs.Working.Faults.{against}
use Rattle.naming.specs.Working.Identifying.{Sight, is_plain}
use Rattle.naming.specs.Working.List.{Ran, ran, refused_licensed, sized, state_at, state_of, before_in, literal_in, licensee_in, threshold_in, Licensing, read_to}
use Rattle.naming.specs.Working.ListWays.{licensee-plain, literal-before, before-next}
use Rattle.naming.specs.Working.Chain.{joint_of, join_of, on_on, single, is_lone, is_longer, closed_in, operand_at, more_at, chain_at, primary_at, primary_body, inner_at, end_in, field_in}
use Rattle.syntax.specs.declared.fault.Fault.{Fault}
use Rattle.naming.specs.declared.list.State.{State}
use Rattle.index.specs.declared.Index.{Index}
use Rattle.naming.specs.declared.list.Licensed.{Licensed}

-- `joint_of` and `join_of`
module _ (level : ℕ) where
  pub joint-all : level ≡ 0 → Kind.AND ≡ joint_of level
  unfolding joint_of
  joint-all h = simp (eq-eqb _ _ h)

  pub joint-any : (level ≡ 0 → ⊥) → Kind.OR ≡ joint_of level
  unfolding joint_of
  joint-any h = simp (ne_eqb _ _ h)

  pub join-all : level ≡ 0 → and_code ≡ join_of level
  unfolding join_of
  join-all h = simp (eq-eqb _ _ h)

  pub join-any : (level ≡ 0 → ⊥) → or_code ≡ join_of level
  unfolding join_of
  join-any h = simp (ne_eqb _ _ h)

-- `closed`
module _ (s : List ℕ) (st : State) (t : Token) where
  pub closed-not : (r : Licensing) → (t.kind ≡ Kind.CLOSE → ⊥) → r ≡ refused_licensed t → r ≡ closed_in s st t
  unfolding closed_in
  closed-not r h re = re ∙ simp (ne_eqb _ _ h)

  pub closed_on : (n : Token) → t.kind ≡ Kind.CLOSE → n ≡ token_at s Kind.IN_LICENSEES t.end → read_to st n ≡ closed_in s st t
  unfolding closed_in
  closed_on n h ne = rw ne (simp (eq-eqb _ _ h))

-- `operand`
module _ (left level : ℕ) (s : List ℕ) (look : Sight) (pool places code : List ℕ) (st : State) (t : Token) (r : Ran) where
  pub operand-primary : level ≡ 0 → r ≡ primary_at left s look pool places code st t → r ≡ operand_at left level s look pool places code st t
  unfolding operand_at
  operand-primary h re = re ∙ rw h

operand-up : (left level : ℕ) (s : List ℕ) (look : Sight) (pool places code : List ℕ) (st : State) (t : Token)
    → chain_at left level s look pool places code st t ≡ operand_at left (suc level) s look pool places code st t
unfolding chain_at operand_at more_at
operand-up left level s look pool places code st t = refl

pub operand-chain : (left level : ℕ) (s : List ℕ) (look : Sight) (pool places code : List ℕ) (st : State) (t : Token) (r : Ran)
    → (level ≡ 0 → ⊥) → r ≡ chain_at left (level - 1) s look pool places code st t → r ≡ operand_at left level s look pool places code st t
operand-chain left zero s look pool places code st t r h re = absurd (h refl)
operand-chain left (suc level) s look pool places code st t r h re =
    let z : suc level - 1 ≡ level = omega arith in
    let w : r ≡ chain_at left level s look pool places code st t = rw z at re in
    w ∙ operand-up left level s look pool places code st t

-- `chain`
module _ (left level : ℕ) (s : List ℕ) (look : Sight) (pool places code : List ℕ) (st : State) (t : Token) (r : Licensing) (p q m : List ℕ)
    (re : ran r p q m ≡ operand_at left level s look pool places code st t) where
  pub chain-aside : (f : Fault) → r ≡ Err f → ran (Err f) p q m ≡ chain_at left level s look pool places code st t
  unfolding chain_at
  chain-aside f h = simp (sym re, h)

  pub chain-on : (o : Licensed) (w : Ran) → r ≡ Ok o → w ≡ more_at left level s look p q m o.state o.next → w ≡ chain_at left level s look pool places code st t
  unfolding chain_at
  chain-on o w h we = we ∙ simp (sym re, h)

-- the loop of `more`, with the invariant `more_at .. ≡ a`
module _ (left level : ℕ) (s : List ℕ) (look : Sight) (pool places code : List ℕ) (st : State) (t : Token) (a : Ran)
    (inv : more_at left level s look pool places code st t ≡ a) (j : ℕ) (je : j ≡ joint_of level) where
  pub more-end : (t.kind ≡ j → ⊥) → ran (read_to st t) pool places code ≡ a
  unfolding more_at
  more-end h = let g : t.kind ≡ joint_of level → ⊥ = λ e. h (e ∙ sym je) in sym (loop-done _ _ _ (st, t, pool, places, code) _ (simp (ne_eqb _ _ g))) ∙ inv

  module _ (h : t.kind ≡ j) (n : Token) (ne : n ≡ token_at s Kind.IN_LICENSEES t.end) (r : Licensing) (p q m : List ℕ)
      (re : ran r p q m ≡ operand_at left level s look pool places code st n) where
    is : t.kind ≡ joint_of level
    is = h ∙ je

    at_next : operand_at left level s look pool places code st (token_at s Kind.IN_LICENSEES t.end) ≡ ran r p q m
    at_next = rw (sym ne) (sym re)

    pub more-aside : (f : Fault) → r ≡ Err f → ran (Err f) p q m ≡ a
    unfolding more_at
    more-aside f k = sym (loop-done _ _ _ (st, t, pool, places, code) (ran (Err f) p q m) (simp (eq-eqb _ _ is, at_next, k))) ∙ inv

    module _ (one : Licensed) (rv : r ≡ Ok one) (x y : ℕ) (xe : x ≡ 16 - st.listed) (ye : y ≡ 16 - one.state.listed) where
      pub more-stuck : x ≤ y → ran (Err (against 0 0)) p q m ≡ a
      unfolding more_at
      more-stuck g = sym (loop-done _ _ _ (st, t, pool, places, code) (ran (Err (against 0 0)) p q m) (simp (eq-eqb _ _ is, at_next, rv, sym xe, sym ye, le-leb _ _ g))) ∙ inv

      pub more-again : (o z : ℕ) (b : List ℕ) → y < x → o ≡ join_of level → z ≡ above m one.state.size → b ≡ pushed m one.state.size o
          → more_at left level s look p q b (sized one.state z) one.next ≡ a
      unfolding more_at
      more-again o z b g oe ze be =
          rw (ze, be, oe) (sym (loop-next _ _ _ (st, t, pool, places, code) (sized one.state (above m one.state.size), one.next, p, q, pushed m one.state.size (join_of level))
          (simp (eq-eqb _ _ is, at_next, rv, sym xe, sym ye, lt-leb _ _ g)) (omega (arith, xe, ye))) ∙ inv)

      pub more-less : y < x → 16 - one.state.listed < 16 - st.listed
      more-less g = omega (arith, xe, ye)

-- `primary`: where a bracket may be opened, what is inside is a chain with one less
primary-unfold : (left : ℕ) (s : List ℕ) (look : Sight) (pool places code : List ℕ) (st : State) (t : Token)
    → primary_at left s look pool places code st t ≡ primary_body (λ p q m u n. inner_at left s look p q m u n) left s look pool places code st t
unfolding primary_at inner_at chain_at operand_at more_at
primary-unfold zero s look pool places code st t = refl
primary-unfold (suc left) s look pool places code st t = refl

inner-is : (left : ℕ) → (left ≡ 0 → ⊥) → (s : List ℕ) (look : Sight) (pool places code : List ℕ) (st : State) (t : Token)
    → inner_at left s look pool places code st t ≡ chain_at (left - 1) 1 s look pool places code st t
unfolding inner_at
inner-is zero h s look pool places code st t = absurd (h refl)
inner-is (suc left) h s look pool places code st t =
    let z : suc left - 1 ≡ left = omega arith in ap (λ (l : ℕ). chain_at l 1 s look pool places code st t) (sym z)

module _ (left : ℕ) (s : List ℕ) (look : Sight) (pool places code : List ℕ) (st : State) (t : Token) where
  pub primary-digits : (r : Ran) → t.kind ≡ Kind.DIGITS → r ≡ threshold_in left s look pool places code st t → r ≡ primary_at left s look pool places code st t
  primary-digits r h re = re ∙ simp (primary-unfold left, eq-eqb _ _ h)

  module _ (nd : t.kind ≡ Kind.DIGITS → ⊥) where
    pub primary-one : (r : Ran) → (t.kind ≡ Kind.OPEN → ⊥) → r ≡ licensee_in s look pool places code st left t → r ≡ primary_at left s look pool places code st t
    primary-one r h re = re ∙ simp (primary-unfold left, ne_eqb _ _ nd, ne_eqb _ _ h)

    module _ (h : t.kind ≡ Kind.OPEN) where
      pub primary-most : left ≡ 0 → ran (Err (against 7 t.start)) pool places code ≡ primary_at left s look pool places code st t
      primary-most z = simp (primary-unfold left, ne_eqb _ _ nd, eq-eqb _ _ h, eq-eqb _ _ z)

      module _ (nz : left ≡ 0 → ⊥) (n : Token) (ne : n ≡ token_at s Kind.IN_LICENSEES t.end) (r : Licensing) (p q m : List ℕ)
          (re : ran r p q m ≡ chain_at (left - 1) 1 s look pool places code st n) where
        inside : inner_at left s look pool places code st (token_at s Kind.IN_LICENSEES t.end) ≡ ran r p q m
        inside = inner-is left nz s look pool places code st (token_at s Kind.IN_LICENSEES t.end) ∙ rw (sym ne) (sym re)

        pub primary-aside : (f : Fault) → r ≡ Err f → ran (Err f) p q m ≡ primary_at left s look pool places code st t
        primary-aside f k = simp (primary-unfold left, ne_eqb _ _ nd, eq-eqb _ _ h, ne_eqb _ _ nz, inside, k)

        module _ (one : Licensed) (k : r ≡ Ok one) (c : Licensing) (ce : c ≡ closed_in s one.state one.next) where
          pub primary-open : (f : Fault) → c ≡ Err f → ran (Err f) p q m ≡ primary_at left s look pool places code st t
          primary-open f g = simp (primary-unfold left, ne_eqb _ _ nd, eq-eqb _ _ h, ne_eqb _ _ nz, inside, k, sym ce, g)

          module _ (w : Licensed) (g : c ≡ Ok w) (b : Bool) (be : b ≡ is_longer st w.state w.next.kind) where
            pub primary-longer : b ≡ true → (z : Ran) → z ≡ licensee_in s look p q m st left t → z ≡ primary_at left s look pool places code st t
            primary-longer y z ze = ze ∙ simp (primary-unfold left, ne_eqb _ _ nd, eq-eqb _ _ h, ne_eqb _ _ nz, inside, k, sym ce, g, sym be, y)

            pub primary-on : b ≡ false → ran (Ok w) p q m ≡ primary_at left s look pool places code st t
            primary-on y = simp (primary-unfold left, ne_eqb _ _ nd, eq-eqb _ _ h, ne_eqb _ _ nz, inside, k, sym ce, g, sym be, y)

-- `is_longer`
module _ (st u : State) (k : ℕ) where
  pub longer-not : (k ≡ Kind.DOT → ⊥) → false ≡ is_longer st u k
  unfolding is_longer
  longer-not h = rw (ne_eqb _ _ h)

  module _ (h : k ≡ Kind.DOT) where
    pub longer-less : u.size ≤ st.size → false ≡ is_longer st u k
    unfolding is_longer
    longer-less l = rw (eq-eqb _ _ h, ne_eqb u.size (st.size + 1) (λ z. let no : ⊥ = omega (arith, z, l) in no))

    pub longer-one : st.size < u.size → (b : Bool) → b ≡ eqb (u.size - st.size) 1 → b ≡ is_longer st u k
    unfolding is_longer
    longer-one l b be = rw (eq-eqb _ _ h) (be ∙ same)
      where
        same : eqb (u.size - st.size) 1 ≡ eqb u.size (st.size + 1)
        same =
            split (eqb (u.size - st.size) 1)
            (λ e. let z : u.size - st.size ≡ 1 = eqb-true (u.size - st.size) 1 e in e ∙ sym (eq-eqb u.size (st.size + 1) (omega (arith, z, l))))
            (λ e. e ∙ sym (ne_eqb u.size (st.size + 1) (λ z. eqb-false (u.size - st.size) 1 e (omega (arith, z)))))

-- `is_single`
module _ (level k : ℕ) where
  pub single-not : (level ≡ 1 → ⊥) → false ≡ single level k
  unfolding single
  single-not h = simp (ne_eqb _ _ h)

  module _ (h : level ≡ 1) where
    pub single-literal : k ≡ Kind.LITERAL → true ≡ single level k
    unfolding single
    single-literal e = simp (eq-eqb _ _ h, eq-eqb _ _ e)

    pub single-name : (b : Bool) → (k ≡ Kind.LITERAL → ⊥) → b ≡ eqb k Kind.NAME → b ≡ single level k
    unfolding single
    single-name b e be = be ∙ simp (eq-eqb _ _ h, ne_eqb _ _ e)

  single-is : single level k ≡ true → (level ≡ 1) × (k ≡ Kind.DIGITS → ⊥) × (k ≡ Kind.OPEN → ⊥)
  unfolding single
  single-is =
      chosen Then (eqb level 1) _ false
      (λ e h. split (eqb k Kind.LITERAL)
      (λ f. let g : k ≡ Kind.LITERAL = eqb-true _ _ f in (eqb-true _ _ e, (λ z. omega (arith, g, z)), (λ z. omega (arith, g, z))))
      (λ f. let i : eqb k Kind.NAME ≡ true = rw f at h in let g : k ≡ Kind.NAME = eqb-true _ _ i in (eqb-true _ _ e, (λ z. omega (arith, g, z)), (λ z. omega (arith, g, z)))))
      (λ e h. clash h refl)
    where
      Then : Bool → Type 0
      Then b = b ≡ true → (level ≡ 1) × (k ≡ Kind.DIGITS → ⊥) × (k ≡ Kind.OPEN → ⊥)

-- `is_lone`
module _ (k : ℕ) where
  pub lone-and : k ≡ Kind.AND → false ≡ is_lone k
  unfolding is_lone
  lone-and h = rw (eq-eqb _ _ h)

  pub lone-dot : (k ≡ Kind.AND → ⊥) → k ≡ Kind.DOT → false ≡ is_lone k
  unfolding is_lone
  lone-dot h e = rw (ne_eqb _ _ h, eq-eqb _ _ e)

  pub lone-other : (k ≡ Kind.AND → ⊥) → (k ≡ Kind.DOT → ⊥) → true ≡ is_lone k
  unfolding is_lone
  lone-other h e = rw (ne_eqb _ _ h, ne_eqb _ _ e)

  pub lone_is : is_lone k ≡ true → (k ≡ Kind.AND → ⊥) × (k ≡ Kind.DOT → ⊥)
  unfolding is_lone
  lone_is h = ((λ z. let no : ⊥ = clash h (sym (lone-and z)) in no), (λ z. let no : ⊥ = clash h (sym (lone-dot (λ a. omega (arith, a, z)) z)) in no))

-- `operand`: a token alone, before another token than && and "."
module _ (left : ℕ) (s : List ℕ) (look : Sight) (pool places code : List ℕ) (st : State) (t : Token) where
  -- behind what was read nothing is joined by &&
  unjoined : (r : Ran) → ((u : State) (v : Token) (p q m : List ℕ) → r ≡ ran (read_to u v) p q m → v.kind ≡ Kind.AND → ⊥)
      → on_on r (λ u v p q m. more_at left 0 s look p q m u v) ≡ r
  unjoined (ran (Err w) p q m) f = refl
  unjoined (ran (Ok w) p q m) f = sym (more-end left 0 s look p q m w.state w.next _ refl Kind.AND (joint-all 0 refl) (f w.state w.next p q m refl))

  module _ (level : ℕ) (b : Bool) (be : b ≡ single level t.kind) (y : b ≡ true) (n : Token) (ne : n ≡ token_at s Kind.IN_FIELD t.end) (c : Bool) (ce : c ≡ is_lone n.kind) (o : c ≡ true) (d : Bool) (de : d ≡ is_plain s t) (w : d ≡ true) where
    facts : (level ≡ 1) × (t.kind ≡ Kind.DIGITS → ⊥) × (t.kind ≡ Kind.OPEN → ⊥)
    facts = single-is level t.kind (sym be ∙ y)

    apart : (n.kind ≡ Kind.AND → ⊥) × (n.kind ≡ Kind.DOT → ⊥)
    apart = lone_is n.kind (sym ce ∙ o)

    plain : before_in s look pool places code st t n ≡ licensee_in s look pool places code st left t
    plain = licensee-plain s look pool places code st left t (before_in s look pool places code st t n) d de w n ne apart.1

    lone : operand_at left 0 s look pool places code st t ≡ licensee_in s look pool places code st left t
    lone =
        sym (operand-primary left 0 s look pool places code st t (licensee_in s look pool places code st left t) refl
        (primary-one left s look pool places code st t facts.1 (licensee_in s look pool places code st left t) facts.2 refl))

    last : (u : State) (v : Token) (p q m : List ℕ) → licensee_in s look pool places code st left t ≡ ran (read_to u v) p q m → v.kind ≡ Kind.AND → ⊥
    last u v p q m e h = apart.0 (ap (λ (x : Token). x.kind) (sym (before-next s look pool places code st t n u v p q m (sym e ∙ sym plain))) ∙ h)

    whole : operand_at left 1 s look pool places code st t ≡ licensee_in s look pool places code st left t
    unfolding chain_at
    whole =
        sym (operand-up left 0 s look pool places code st t)
        ∙ rw lone (unjoined (licensee_in s look pool places code st left t) last)

    single-as : before_in s look pool places code st t n ≡ operand_at left level s look pool places code st t
    single-as = plain ∙ sym whole ∙ rw facts.0

    pub operand-name : t.kind ≡ Kind.NAME → (r : Ran) → r ≡ before_in s look pool places code st (token Kind.NAME t.start t.end) (token n.kind n.start n.end) → r ≡ operand_at left level s look pool places code st t
    operand-name k r re = re ∙ ap (λ (x : ℕ). before_in s look pool places code st (token x t.start t.end) n) (sym k) ∙ single-as

    pub operand-literal : (t.kind ≡ Kind.NAME → ⊥) → (r : Ran) → r ≡ literal_in s pool places code st t.start t.end (token n.kind n.start n.end) → r ≡ operand_at left level s look pool places code st t
    operand-literal nn r re = re ∙ literal-before s look pool places code st t n nn (sym de ∙ w) ∙ single-as

-- `finished`
module _ (st : State) (t : Token) (b : Bool) (be : b ≡ ending t.kind) where
  pub end_on : b ≡ true → read_to st t ≡ end_in st t
  unfolding end_in
  end_on y = simp (sym be, y)

  pub end-not : (r : Licensing) → b ≡ false → r ≡ refused_licensed t → r ≡ end_in st t
  unfolding end_in
  end-not r y re = re ∙ simp (sym be, y)

-- `licensees`
module _ (s : List ℕ) (look : Sight) (pool places code : List ℕ) (index : Index) (size : ℕ) (t : Token) where
  pub field_past : length code < size → ran (Err (against 0 0)) pool places code ≡ field_in s look pool places code index.count index.end size t
  unfolding field_in
  field_past h = simp (lt-ltb _ _ h)

  module _ (h : size ≤ length code) where
    pub field-short : length code - size < most_code → ran (Err (against 0 0)) pool places code ≡ field_in s look pool places code index.count index.end size t
    unfolding field_in
    field-short k = simp (le-ltb _ _ h, lt-ltb _ _ k)

    module _ (k : most_code ≤ length code - size) (b : Bool) (be : b ≡ ending t.kind) where
      pub field-empty : (z : ℕ) (m : List ℕ) → b ≡ true → z ≡ above code size → m ≡ pushed code size zero_code → (f : Fault) → f ≡ clear_at
          → ran (read_to (state_at index z 0 f) t) pool places m ≡ field_in s look pool places code index.count index.end size t
      unfolding field_in
      field-empty z m y ze me f fe = rw (ze, me, fe) (simp (le-ltb _ _ h, le-ltb _ _ k, sym be, y))

      module _ (nb : b ≡ false) (f : Fault) (fe : f ≡ clear_at) (r : Licensing) (p q m : List ℕ)
          (re : ran r p q m ≡ chain_at 16 1 s look pool places code (state_at index size 0 f) t) where
        whole_is : chain_at 16 1 s look pool places code (state_of index.count index.end size 0 clear_at) t ≡ ran r p q m
        whole_is = ap (λ (f : Fault). chain_at 16 1 s look pool places code (state_at index size 0 f) t) (sym fe) ∙ sym re

        pub field-aside : (w : Fault) → r ≡ Err w → ran (Err w) p q m ≡ field_in s look pool places code index.count index.end size t
        unfolding field_in
        field-aside w g = simp (le-ltb _ _ h, le-ltb _ _ k, sym be, nb, whole_is, g)

        pub field-on : (o : Licensed) (w : Licensing) → r ≡ Ok o → w ≡ end_in o.state o.next → ran w p q m ≡ field_in s look pool places code index.count index.end size t
        unfolding field_in
        field-on o w g we = rw we (simp (le-ltb _ _ h, le-ltb _ _ k, sym be, nb, whole_is, g))
