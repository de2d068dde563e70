-- Licensees read one by one and in lists: what is entered and written is what the meaning reads. Assumes nothing.
use Rattle.std.specs.Prelude.{◌≡◌, refl, true, ℕ, ◌+◌, ◌-◌, ◌*◌, ◌<◌, ◌≤◌, eqb, leb, ltb, take, Ok, Err}
use Rattle.std.proofs.Math.Path.{sym}
use Rattle.std.proofs.Common.{ap, ◌∙◌, arith, length-append}
use mathlib.Core.List.{List, [], ◌∷◌, ◌++◌, map, append-nil}
use Rattle.std.proofs.Math.ListN.{length, length-map}
use borrow.Author.Tests.{lt-leb, le-ltb, leb-false, eqb-false}
use Rattle.text.specs.Choice.{split}
use Rattle.text.specs.Loop.{Step}
use Rattle.limits.specs.Limits.{most_licensees, most_counted}
use Rattle.principal.specs.Principal.{Principal, policy}
use Rattle.compliance.specs.Codes.{k_of_code}
use Rattle.compliance.specs.Licensees as Compliance
use Rattle.principal.specs.Places.{place}
use Rattle.compliance.specs.Tables.{compile, Formed, f-k_of}
use Rattle.compliance.specs.Theorems.Fill.{places-stay}
use Rattle.expression.specs.Names.{Environment}
use Rattle.expression.specs.Tables.{Shows}
use Rattle.index.specs.Index.{enter, enter_all, Holds}
use Rattle.index.specs.EnterLaws.{fresh, enter-is, fresh_all, enter-all-is, enter-all-append, enter-member, enter-all-member, place-below}
use Rattle.index.specs.Working.Entering.{Kept}
use Rattle.lexical.specs.Kind
use Rattle.lexical.specs.Number.{number_at}
use Rattle.lexical.specs.declared.token.Token.{Token}
use Rattle.syntax.specs.Parsed.{Parsed, ok, aside, refusal, unexpected}
use Rattle.syntax.specs.Stood.{Stood, stood-at}
use Rattle.conditions.specs.Table.{begins_string}
use Rattle.conditions.specs.Word.{next_at}
use Rattle.naming.specs.Working.Code.{above, pushed}
use Rattle.fields.specs.Theorems.Together.{both, Steps, both-next, both-done, loop-same, refusal-some}
use Rattle.naming.specs.Theorems.Entry.{holds-before, EntryRead, entry_at}
use Rattle.naming.specs.Source.{Source, Sources, k_of, sources}
use Rattle.naming.specs.String.{plain_from}
use Rattle.naming.specs.Licensees.{after, licensee, listed, on_listed, list_turn, list_from, list_opened, of_read, threshold}
use Rattle.naming.specs.Naming.{identified}
use Rattle.naming.specs.Fault.{clear, faulty, source_fault, first_fault}
use Rattle.naming.specs.Working.Faults.{first_of, meant, first-meant}
use Rattle.syntax.specs.Working.Faults.{against}
use Rattle.naming.specs.Working.Identifying.{sight, Done, named, of_number, of_kept, is_plain}
use Rattle.naming.specs.Working.List.{Ran, ran, refused_licensed, sized, state_of, placed_in, on_wrote, on_named, before_in, is_over, string_in, licensee_in, items_of, listed_in, Loop, on_item, list_in, opened_in, of_in, threshold_of, threshold_in, read_to}
use Rattle.naming.specs.Working.List.{list_turn as item_turn}
use Rattle.naming.specs.declared.list.State.{State}
use Rattle.naming.specs.Theorems.StandIn.{entered, people_now, faults, earlier-clear, faults-one, faults-append, entered-is}
use Rattle.naming.specs.Theorems.Growing.{Ready, Stays, Grown, stays-self, stays_then, grown-none, grown-then, grown-push, grown-ready}
use Rattle.naming.specs.Theorems.Entered.{SourceRead, source-aside, source-nobody, source-at, string-named-read, plain-named-read, plain-self, plain-begins, BothAside, both-aside, string-refused}
use Rattle.naming.specs.declared.identifier.Named.TheVariants.{Nobody}

-- the same fault, or the same expression and token behind: its licensees entered, its code written, what is against them kept
pub data ExpressionRead (env : Environment) (s pool places code : List ℕ) (st : State) (names : List Principal) : Parsed Sources → Ran → Type 0 where
  expression-aside : (r p : ℕ) (pool' places' code' : List ℕ) → (r ≡ 0 → ⊥) → Stays pool places code st names pool' places' code'
      → ExpressionRead env s pool places code st names (aside r p) (ran (Err (against r p)) pool' places' code')
  expression-on : (x : Sources) (u : State) (n : Token) (pool' places' code' : List ℕ) → Stood s n → Formed (people_now env x)
      → Grown pool places code st names (Compliance.named (people_now env x)) (compile (enter_all names (Compliance.named (people_now env x))) (people_now env x)) (faults env (sources x)) u
      pool' places' code'
      → ExpressionRead env s pool places code st names (ok x n) (ran (read_to u n) pool' places' code')

-- the same of one licensee
pub data LicenseeRead (env : Environment) (s pool places code : List ℕ) (st : State) (names : List Principal) : Parsed Source → Ran → Type 0 where
  licensee-aside : (r p : ℕ) (pool' places' code' : List ℕ) → (r ≡ 0 → ⊥) → Stays pool places code st names pool' places' code'
      → LicenseeRead env s pool places code st names (aside r p) (ran (Err (against r p)) pool' places' code')
  licensee-on : (x : Source) (u : State) (n : Token) (pool' places' code' : List ℕ) → Stood s n
      → Grown pool places code st names (entered env x ∷ []) (place (enter_all names (entered env x ∷ [])) (entered env x) ∷ []) (source_fault env x) u pool' places' code'
      → LicenseeRead env s pool places code st names (ok x n) (ran (read_to u n) pool' places' code')

module _ (env : Environment) (s pool places code : List ℕ) (st : State) (names : List Principal) (ready : Ready pool places code st names) (more : st.listed < most_licensees) where
  abbrev Here : Parsed Source → Ran → Type 0
  Here = LicenseeRead env s pool places code st names

  -- whom an expression identifies, entered
  module _ (id : Principal) (c e : ℕ) (pool' places' : List ℕ) (new : Holds pool' places' c e (enter names id)) (low : e ≤ most_counted * c) (few : c ≤ st.index.count + 1)
      (near : e ≤ st.index.end + most_counted) (same_pool : length pool' ≡ length pool) (same_places : length places' ≡ length places) where
    entered-grown : Grown pool places code st names (id ∷ []) [] clear (state_of c e st.size (st.listed + 1) st.fault) pool' places' code
    unfolding enter_all
    entered-grown = record {
      stays = record {
        same_pool = same_pool;
        same_places = same_places;
        same_code = refl;
        held = holds-before names (fresh names id) ready.holds (rw (enter-is names id) at new);
        front = refl;
      };
      holds = new;
      low = low;
      count_up = few;
      end_up = omega (arith, near);
      listed = refl;
      few = omega (arith, more);
      size = omega arith;
      wrote = sym (append-nil (take st.size code));
      faulted = sym (earlier-clear (meant st.fault));
    }

    number-low : place (enter names id) id < 32768
    number-low = omega (arith, place-below (enter names id) id (enter-member names id), new.counted, few, more, ready.names_room)

    at-grown : Grown pool places code st names (id ∷ []) (place (enter_all names (id ∷ [])) id ∷ []) clear
        (state_of c e (above code st.size) (st.listed + 1) st.fault) pool' places' (pushed code st.size (place (enter names id) id))
    unfolding enter_all
    at-grown = grown-push entered-grown (place (enter names id) id) (omega (arith, more, ready.code_room))

  at_read : (x : Source) (n : Token) → Stood s n → source_fault env x ≡ clear → (k : Kept) → EntryRead pool places st.index.count st.index.end names (identified env x) k
      → Here (ok x n) (on_named code st x.place (of_kept n k))
  unfolding placed_in of_number
  at_read x n sn f _ (entry_at c e pool' places' new low few near same_pool same_places) =
      rw (lt-leb most_licensees st.listed more, lt-leb 32768 (place (enter names (identified env x)) (identified env x)) (number-low (identified env x) c e pool' places' new low few near same_pool same_places))
      (licensee-on x (state_of c e (above code st.size) (st.listed + 1) st.fault) n pool' places' (pushed code st.size (place (enter names (identified env x)) (identified env x))) sn
      (rw (f, entered-is env x f) (at-grown (identified env x) c e pool' places' new low few near same_pool same_places)))

  -- POLICY stands in for nobody
  policy-kept : enter_all names (policy ∷ []) ≡ names
  unfolding enter_all enter
  policy-kept = rw ready.known

  nobody-grown : (at : ℕ) → Grown pool places code st names (policy ∷ []) [] (faulty 10 at) (state_of st.index.count st.index.end st.size (st.listed + 1) (first_of st.fault (against 10 at))) pool places code
  unfolding meant
  nobody-grown at = record {
    stays = stays-self ready;
    holds = rw policy-kept ready.holds;
    low = ready.low;
    count_up = omega arith;
    end_up = omega arith;
    listed = refl;
    few = omega (arith, more);
    size = omega arith;
    wrote = sym (append-nil (take st.size code));
    faulted = first-meant st.fault (against 10 at);
  }

  stand-in : (x : Source) (at : ℕ) → source_fault env x ≡ faulty 10 at → entered env x ≡ policy
  unfolding entered
  stand-in x at f = rw f

  nobody-read : (x : Source) (n : Token) → Stood s n → source_fault env x ≡ faulty 10 x.place → Here (ok x n) (on_named code st x.place (named (Ok (Nobody n)) pool places))
  unfolding placed_in
  nobody-read x n sn f =
      let z : place (enter_all names (policy ∷ [])) policy ≡ 0 = rw policy-kept ready.first in
      rw (lt-leb most_licensees st.listed more)
      (licensee-on x (state_of st.index.count st.index.end (above code st.size) (st.listed + 1) (first_of st.fault (against 10 x.place))) n pool places (pushed code st.size 0) sn
      (rw (f, stand-in x x.place f, z) (grown-push (nobody-grown x.place) 0 (omega (arith, more, ready.code_room)))))

  named-read : (at : ℕ) (x : Parsed Source) (y : Done) → SourceRead env s pool places st.index.count st.index.end names at x y → Here x (on_named code st at y)
  unfolding placed_in
  named-read _ _ _ (source-aside at r p h) = licensee-aside r p pool places code h (stays-self ready)
  named-read _ _ _ (source-nobody x n sn f) = nobody-read x n sn f
  named-read _ _ _ (source-at x n sn f k e) = at_read x n sn f k e

module _ {rec consts values keys constants : List ℕ} {env : Environment} (shows : Shows rec consts values keys constants env) (s : List ℕ) (short : length s ≤ 8192) where
  module _ (pool places code : List ℕ) (st : State) (names : List Principal) (ready : Ready pool places code st names) (left : ℕ) (t : Token) (stood : Stood s t) where
    abbrev One : Parsed Source → Ran → Type 0
    One = LicenseeRead env s pool places code st names

    none_read : (at : ℕ) (x : Parsed Source) (y : Done) → BothAside pool places x y → One x (on_named code st at y)
    unfolding placed_in
    none_read at _ _ (both-aside r p h) = licensee-aside r p pool places code h (stays-self ready)

    -- any string
    string-read : One (licensee s left st.listed t) (string_in s (sight rec consts values keys constants) pool places code st left t)
    unfolding licensee string_in is_over
    string-read =
        split (leb most_licensees st.listed)
        (λ g. rw g
        (both One (begins_string (plain_from left s t).kind) _ _ _ _
        (λ b. licensee-aside 7 (plain_from left s t).start pool places code (λ y. omega (arith, y)) (stays-self ready))
        (λ b. none_read (plain_from left s t).start _ _ (string-refused shows s short pool places st.index.count st.index.end left t stood b))))
        (λ g. let more : st.listed < most_licensees = leb-false _ _ g in
        rw g
        (named-read env s pool places code st names ready more (plain_from left s t).start _ _
        (string-named-read shows s short pool places st.index.count st.index.end names ready.holds ready.low
        (omega (arith, more, ready.names_room)) (omega (arith, more, ready.table_room)) (omega (arith, more, ready.pool_room)) left t stood)))

    -- a name or a clear literal alone
    before-read : is_plain s t ≡ true → ((next_at s t.end).kind ≡ Kind.DOT → ⊥)
        → One (licensee s left st.listed t) (before_in s (sight rec consts values keys constants) pool places code st t (next_at s t.end))
    unfolding licensee before_in
    before-read p other =
        let z : plain_from left s t ≡ t = plain-self left s t p in
        split (leb most_licensees st.listed)
        (λ g. rw (g, z, plain-begins s t p) (licensee-aside 7 t.start pool places code (λ y. omega (arith, y)) (stays-self ready)))
        (λ g. let more : st.listed < most_licensees = leb-false _ _ g in
        let r : _ = plain-named-read shows s short pool places st.index.count st.index.end names ready.holds ready.low
        (omega (arith, more, ready.names_room)) (omega (arith, more, ready.table_room)) (omega (arith, more, ready.pool_room)) left t stood other p in
        rw g (named-read env s pool places code st names ready more t.start _ _ (rw z at r)))

    pub licensee-read : One (licensee s left st.listed t) (licensee_in s (sight rec consts values keys constants) pool places code st left t)
    unfolding licensee_in
    licensee-read =
        split (is_plain s t)
        (λ p. split (eqb (next_at s t.end).kind Kind.DOT) (λ e. rw (p, e) string-read) (λ e. rw (p, e) (before-read p (eqb-false _ _ e))))
        (λ p. rw p string-read)

-- an item behind others: what was written for those stays
list_code : (names ps : List Principal) (p : Principal)
    → map (place (enter_all names ps)) ps ++ (place (enter_all (enter_all names ps) (p ∷ [])) p ∷ []) ≡ map (place (enter_all names (ps ++ (p ∷ [])))) (ps ++ (p ∷ []))
list_code names ps p =
    let n : enter_all names (ps ++ (p ∷ [])) ≡ enter_all (enter_all names ps) (p ∷ []) = enter-all-append names ps (p ∷ []) in
    let k : map (place (enter_all (enter_all names ps) (p ∷ []))) ps ≡ map (place (enter_all names ps)) ps
    = rw (enter-all-is (enter_all names ps) (p ∷ [])) (places-stay (enter_all names ps) (fresh_all (enter_all names ps) (p ∷ [])) ps (λ q m. enter-all-member names ps q m)) in
    rw (n, map_snoc (place (enter_all (enter_all names ps) (p ∷ []))) ps p, k)
  where
    map_snoc : (f : Principal → ℕ) (l : List Principal) (q : Principal) → map f (l ++ (q ∷ [])) ≡ map f l ++ (f q ∷ [])
    map_snoc f [] q = refl
    map_snoc f (x ∷ l) q = ap (λ (r : List ℕ). f x ∷ r) (map_snoc f l q)

entered-snoc : (env : Environment) (xs : List Source) (x : Source) → map (entered env) (xs ++ (x ∷ [])) ≡ map (entered env) xs ++ (entered env x ∷ [])
entered-snoc env [] x = refl
entered-snoc env (y ∷ xs) x = ap (λ (r : List Principal). entered env y ∷ r) (entered-snoc env xs x)

items-are : (before n listed : ℕ) → listed ≡ before + n → listed ≤ most_licensees → items_of before listed ≡ n
unfolding items_of
items-are before n listed e h =
    let z : listed - before ≡ n = omega (arith, e) in
    rw (le-ltb listed before (omega (arith, e)), z, le-ltb most_licensees n (omega (arith, e, h)))

-- the licensees of a list, entered and written
abbrev Listing : Environment → List ℕ → List ℕ → List ℕ → State → List Principal → List Source → State → List ℕ → List ℕ → List ℕ → Type 0
Listing env pool places code st names xs u pool' places' code' =
    Grown pool places code st names (map (entered env) xs) (map (place (enter_all names (map (entered env) xs))) (map (entered env) xs)) (faults env xs) u pool' places' code'

-- a list and the loop that writes it, side by side
data Items (env : Environment) (s pool places code : List ℕ) (st : State) (names : List Principal) : List Source × Token → Loop → Type 0 where
  items : (xs : List Source) (t : Token) (u : State) (pool' places' code' : List ℕ) → Stood s t → Listing env pool places code st names xs u pool' places' code'
      → Items env s pool places code st names (xs, t) (u, t, pool', places', code')

module _ {rec consts values keys constants : List ℕ} {env : Environment} (shows : Shows rec consts values keys constants env) (s : List ℕ) (short : length s ≤ 8192)
    (k : ℕ) (pool places code : List ℕ) (st : State) (names : List Principal) (ready : Ready pool places code st names) where
  abbrev Whole : Parsed Sources → Ran → Type 0
  Whole = ExpressionRead env s pool places code st names

  -- the end of a list
  close-read : (xs : List Source) (w : State) (n : Token) (pool' places' code' : List ℕ) → 0 < length xs → Listing env pool places code st names xs w pool' places' code'
      → Whole (listed s k xs n) (on_wrote pool' places' (listed_in s code' k st.listed w n))
  unfolding listed listed_in people_now Compliance.named compile sources
  close-read xs w n pool' places' code' some grown =
      let l : length (map (entered env) xs) ≡ length xs = length-map xs (entered env) in
      let i : items_of st.listed w.listed ≡ length xs = items-are st.listed (length xs) w.listed (omega (arith, grown.listed, l)) grown.few in
      let m : length (map (place (enter_all names (map (entered env) xs))) (map (entered env) xs)) ≡ length xs = length-map (map (entered env) xs) (place (enter_all names (map (entered env) xs))) ∙ l in
      let room : w.size < length code = omega (arith, some, grown.size, m, grown.listed, l, grown.few, ready.code_room) in
      let g : _ = grown-push grown (k_of_code k (length xs)) room in
      split (ltb (length xs) k)
      (λ f. rw (i, f) (expression-aside 5 n.start pool' places' code' (λ z. omega (arith, z)) grown.stays))
      (λ f. rw (i, f) (expression-on (k_of k xs) (sized w (above code' w.size)) (after s n) pool' places' (pushed code' w.size (k_of_code k (length xs)))
      (stood-at s Kind.IN_LICENSEES n.end) (f-k_of k (map (entered env) xs) (omega (arith, some, l))) (rw l g)))

  module _ (left : ℕ) where
    abbrev Turns : List Source × Token → Loop → Step (List Source × Token) (Parsed Sources) → Step Loop Ran → Type 0
    Turns = Steps (λ x. most_licensees - (st.listed + length x.0)) (λ x. unexpected x.1) (list_turn s left st.listed k)
        (λ x. most_licensees - x.0.listed) (λ x. ran (Err (against 0 0)) x.2 x.3 x.4) (item_turn s (sight rec consts values keys constants) left k st.listed)
        (Items env s pool places code st names) Whole

    module _ (xs : List Source) (t : Token) (u : State) (pool' places' code' : List ℕ) (stood : Stood s t) (grown : Listing env pool places code st names xs u pool' places' code') where
      counted : u.listed ≡ st.listed + length xs
      counted = omega (arith, grown.listed, length-map xs (entered env))

      -- one more
      joined : (x : Source) (w : State) (pool'' places'' code'' : List ℕ)
          → Grown pool' places' code' u (enter_all names (map (entered env) xs)) (entered env x ∷ [])
          (place (enter_all (enter_all names (map (entered env) xs)) (entered env x ∷ [])) (entered env x) ∷ []) (source_fault env x) w pool'' places'' code''
          → Listing env pool places code st names (xs ++ (x ∷ [])) w pool'' places'' code''
      joined x w pool'' places'' code'' more =
          rw (entered-snoc env xs x, ← list_code names (map (entered env) xs) (entered env x), faults-append env xs (x ∷ []), faults-one env x) (grown-then grown more)

      item-turned : (x : Parsed Source) (y : Ran) → LicenseeRead env s pool' places' code' u (enter_all names (map (entered env) xs)) x y
          → Turns (xs, t) (u, t, pool', places', code') (on_listed s k xs x) (on_item s k st.listed u y)
      item-turned _ _ (licensee-aside r p pool'' places'' code'' h more) =
          both-done (aside r p) (ran (Err (against r p)) pool'' places'' code'') (expression-aside r p pool'' places'' code'' h (stays_then grown more))
      item-turned _ _ (licensee-on x w n pool'' places'' code'' sn more) =
          let g : Listing env pool places code st names (xs ++ (x ∷ [])) w pool'' places'' code'' = joined x w pool'' places'' code'' more in
          let j : length (xs ++ (x ∷ [])) ≡ length xs + 1 = length-append xs (x ∷ []) in
          both (Turns (xs, t) (u, t, pool', places', code')) (eqb n.kind Kind.CLOSE) _ _ _ _
          (λ f. both-done _ _ (close-read (xs ++ (x ∷ [])) w n pool'' places'' code'' (omega (arith, j)) g))
          (λ f. both (Turns (xs, t) (u, t, pool', places', code')) (eqb n.kind Kind.COMMA) _ _ _ _
          (λ h. rw (lt-leb (most_licensees - u.listed) (most_licensees - w.listed) (omega (arith, more.listed, more.few)))
          (both-next (xs ++ (x ∷ []), after s n) (w, after s n, pool'', places'', code'')
          (items (xs ++ (x ∷ [])) (after s n) w pool'' places'' code'' (stood-at s Kind.IN_LICENSEES n.end) g)
          (omega (arith, counted, more.listed, more.few, j)) (omega (arith, more.listed, more.few))))
          (λ h. both-done (unexpected n) (ran (refused_licensed n) pool'' places'' code'') (expression-aside (refusal n.kind) n.start pool'' places'' code'' (refusal-some n.kind) g.stays)))

      item-turn : Turns (xs, t) (u, t, pool', places', code') (list_turn s left st.listed k (xs, t)) (item_turn s (sight rec consts values keys constants) left k st.listed (u, t, pool', places', code'))
      item-turn =
          rw (← counted)
          (item-turned _ _ (licensee-read shows s short pool' places' code' u (enter_all names (map (entered env) xs))
          (grown-ready grown ready (omega (arith, length-map (map (entered env) xs) (place (enter_all names (map (entered env) xs)))))) left t stood))

    list-turns : (x : List Source × Token) (y : Loop) → Items env s pool places code st names x y
        → Turns x y (list_turn s left st.listed k x) (item_turn s (sight rec consts values keys constants) left k st.listed y)
    list-turns _ _ (items xs t u pool' places' code' stood grown) = item-turn xs t u pool' places' code' stood grown

    empty-listing : Listing env pool places code st names [] st pool places code
    unfolding faults first_fault
    empty-listing = grown-none ready

    pub list_read : (t : Token) → Stood s t → Whole (list_from s left st.listed k [] t) (list_in s (sight rec consts values keys constants) left k st.listed pool places code st t)
    unfolding list_from list_in
    list_read t stood =
        loop-same _ _ (list_turn s left st.listed k) _ _ (item_turn s (sight rec consts values keys constants) left k st.listed) (Items env s pool places code st names) Whole
        list-turns ([], t) (st, t, pool, places, code) (items [] t st pool places code stood empty-listing)

  set-aside : (r p : ℕ) → (r ≡ 0 → ⊥) → Whole (aside r p) (ran (Err (against r p)) pool places code)
  set-aside r p h = expression-aside r p pool places code h (stays-self ready)

  refused : (t : Token) → Whole (unexpected t) (ran (refused_licensed t) pool places code)
  refused t = set-aside (refusal t.kind) t.start (refusal-some t.kind)

  opened-read : (left : ℕ) (t : Token) → Whole (list_opened s left st.listed k t) (opened_in left s (sight rec consts values keys constants) k pool places code st t)
  unfolding list_opened opened_in
  opened-read left t =
      both Whole (eqb t.kind Kind.OPEN) _ _ _ _
      (λ f. both Whole (eqb left 0) _ _ _ _ (λ g. set-aside 7 t.start (λ z. omega (arith, z))) (λ g. list_read (left - 1) (after s t) (stood-at s Kind.IN_LICENSEES t.end)))
      (λ f. refused t)

  of-read : (left : ℕ) (t : Token) → Whole (of_read s left st.listed k t) (of_in left s (sight rec consts values keys constants) k pool places code st t)
  unfolding of_read
  of-read left t = both Whole (eqb t.kind Kind.OF) _ _ _ _ (λ f. opened-read left (after s t)) (λ f. refused t)

  pub threshold-of : (left : ℕ) (t : Token) → Whole (threshold s left st.listed t k) (threshold_of left s (sight rec consts values keys constants) pool places code st t k)
  unfolding threshold
  threshold-of left t =
      both Whole (eqb k 0) _ _ _ _ (λ f. set-aside 5 t.start (λ z. omega (arith, z)))
      (λ f. both Whole (ltb most_licensees k) _ _ _ _ (λ g. set-aside 5 t.start (λ z. omega (arith, z))) (λ g. of-read left (after s t)))

-- a K-of
pub threshold-read : {rec consts values keys constants : List ℕ} {env : Environment} → Shows rec consts values keys constants env → (s : List ℕ) → length s ≤ 8192
    → (pool places code : List ℕ) (st : State) (names : List Principal) → Ready pool places code st names → (left : ℕ) (t : Token)
    → ExpressionRead env s pool places code st names (threshold s left st.listed t (number_at s t.start t.end))
    (threshold_in left s (sight rec consts values keys constants) pool places code st t)
unfolding threshold_in
threshold-read shows s short pool places code st names ready left t = threshold-of shows s short (number_at s t.start t.end) pool places code st names ready left t
