-- Licensees joined by operators and in brackets: what is entered and written is what the meaning reads. Assumes nothing.
use Rattle.std.specs.Prelude.{◌≡◌, List, [], ◌∷◌, ◌++◌, length, Err}
use Rattle.std.proofs.Math.Path.{refl}
use Rattle.std.proofs.Common.{ap, ◌∙◌, append_assoc, arith, length-append}
use Rattle.std.proofs.Math.Bool.{true, false}
use Prim.Native.Nat.{ℕ, zero, suc, ◌+◌, ◌-◌, ◌*◌, ◌<◌, ◌≤◌}
use Rattle.std.proofs.Math.Dec.{eqb}
use Rattle.std.proofs.lemmas.List.{length-map}
use borrow.Author.Tests.{lt-leb, eq-eqb, ne_eqb, eqb-true, eqb-false}
use Rattle.text.specs.Choice.{split}
use Rattle.text.specs.Loop.{Step}
use Rattle.limits.specs.Limits.{most_licensees}
use Rattle.principal.specs.Principal.{Principal}
use Rattle.compliance.specs.Codes.{and_code, or_code}
use Rattle.compliance.specs.Licensees as Compliance
use Rattle.compliance.specs.Tables.{compile, Formed, f-name, f-and, f-or, f-k_of}
use Rattle.compliance.specs.Theorems.Fill.{compile-stays}
use Rattle.compliance.specs.Theorems.Compile.{named_some}
use Rattle.expression.specs.Names.{Environment}
use Rattle.expression.specs.Tables.{Shows}
use Rattle.index.specs.Index.{enter_all}
use Rattle.index.specs.EnterLaws.{fresh_all, enter-all-is, enter-all-append, enter-all-member}
use Rattle.lexical.specs.Kind
use Rattle.lexical.specs.declared.token.Token.{Token}
use Rattle.syntax.specs.Parsed.{Parsed, ok, aside, and_then, refusal, unexpected}
use Rattle.syntax.specs.Stood.{Stood, stood-at}
use Rattle.naming.specs.Working.Code.{above, pushed}
use Rattle.fields.specs.Theorems.Together.{both, Steps, both-next, both-done, loop-same, refusal-some}
use Rattle.naming.specs.Theorems.Code.{compile-short}
use Rattle.naming.specs.Source.{Source, Sources, one, and, or, k_of, sources}
use Rattle.naming.specs.Licensees.{after, onward, closed, Reader, on_operand, chain_turn, chain_from, chain, expression_of, primary_body, primary}
use Rattle.naming.specs.Fault.{earlier}
use Rattle.naming.specs.Working.Identifying.{sight}
use Rattle.naming.specs.Working.List.{Ran, ran, Loop, sized, read_to}
use Rattle.naming.specs.Working.Chain.{joint_of, join_of, Writer, on_on, on_joined, more_turn, more_body, chain_body, operand_of, closed_in, is_longer, behind_in, primary_at}
use Rattle.naming.specs.Working.Chain.{primary_body as primary_in}
use Rattle.naming.specs.declared.list.State.{State}
use Rattle.naming.specs.Theorems.StandIn.{people_now, faults, faults-one, faults-append, named_count}
use Rattle.naming.specs.Theorems.Growing.{Ready, Stays, Grown, stays-self, stays_then, stays-ready, stays-again, grown-then, grown-push, grown-ready, grown-again}
use Rattle.naming.specs.Theorems.Listed.{ExpressionRead, expression-aside, expression-on, LicenseeRead, licensee-aside, licensee-on, licensee-read, threshold-read}
use Rattle.syntax.specs.Working.Faults.{against}

module _ (env : Environment) where
  -- whom it names, and the code for it
  abbrev pub names_of : Sources → List Principal
  names_of x = Compliance.named (people_now env x)

  abbrev pub code_of : List Principal → Sources → List ℕ
  code_of names x = compile (enter_all names (names_of x)) (people_now env x)

  -- wherever there is room, what is written is what is read
  abbrev pub Reads : List ℕ → Reader → Writer → Type 0
  Reads s reader writer =
      (pool places code : List ℕ) (st : State) (names : List Principal) (t : Token) → Stood s t → Ready pool places code st names
      → ExpressionRead env s pool places code st names (reader st.listed t) (writer pool places code st t)

  -- what was joined so far and the loop that writes it, side by side
  data Operands (s pool places code : List ℕ) (st : State) (names : List Principal) : Sources × Token → Loop → Type 0 where
    operands : (x : Sources) (t : Token) (u : State) (pool' places' code' : List ℕ) → Stood s t → Formed (people_now env x)
        → Grown pool places code st names (names_of x) (code_of names x) (faults env (sources x)) u pool' places' code'
        → Operands s pool places code st names (x, t) (u, t, pool', places', code')

  -- an operator: its token, its instruction, and how it joins
  record Joins (level joint op : ℕ) (join : Sources → Sources → Sources) : Type 0 where
    pub token : joint_of level ≡ joint
    pub instruction : join_of level ≡ op
    pub lists : (a b : Sources) → sources (join a b) ≡ sources a ++ sources b
    pub names : (a b : Sources) → names_of (join a b) ≡ names_of a ++ names_of b
    pub codes : (ns : List Principal) (a b : Sources) → compile ns (people_now env (join a b)) ≡ compile ns (people_now env a) ++ (compile ns (people_now env b) ++ (op ∷ []))
    pub forms : (a b : Sources) → Formed (people_now env a) → Formed (people_now env b) → Formed (people_now env (join a b))

  and-joins : Joins 0 Kind.AND and_code and
  unfolding joint_of join_of people_now sources Compliance.named compile
  and-joins = record { token = refl; instruction = refl; lists = λ a b. refl; names = λ a b. refl; codes = λ ns a b. refl; forms = λ a b f g. f-and f g }

  or-joins : Joins 1 Kind.OR or_code or
  unfolding joint_of join_of people_now sources Compliance.named compile
  or-joins = record { token = refl; instruction = refl; lists = λ a b. refl; names = λ a b. refl; codes = λ ns a b. refl; forms = λ a b f g. f-or f g }

  module _ (s : List ℕ) (level joint op : ℕ) (join : Sources → Sources → Sources) (joins : Joins level joint op join) (operand : Reader) (writer : Writer) (reads : Reads s operand writer) where
    -- the code of two operands and the instruction is that of the two joined
    join-code : (names : List Principal) (a b : Sources) → (code_of names a ++ code_of (enter_all names (names_of a)) b) ++ (op ∷ []) ≡ code_of names (join a b)
    join-code names a b =
        let n : enter_all names (names_of (join a b)) ≡ enter_all (enter_all names (names_of a)) (names_of b)
        = ap (enter_all names) (joins.names a b) ∙ enter-all-append names (names_of a) (names_of b) in
        let k : compile (enter_all (enter_all names (names_of a)) (names_of b)) (people_now env a) ≡ code_of names a
        = rw (enter-all-is (enter_all names (names_of a)) (names_of b))
        (compile-stays (enter_all names (names_of a)) (fresh_all (enter_all names (names_of a)) (names_of b)) (people_now env a) (λ q m. enter-all-member names (names_of a) q m)) in
        rw (n, joins.codes (enter_all (enter_all names (names_of a)) (names_of b)) a b, k)
        (append_assoc (code_of names a) (code_of (enter_all names (names_of a)) b) (op ∷ []))

    join-faults : (a b : Sources) → faults env (sources (join a b)) ≡ earlier (faults env (sources a)) (faults env (sources b))
    join-faults a b = ap (faults env) (joins.lists a b) ∙ faults-append env (sources a) (sources b)

    module _ (pool places code : List ℕ) (st : State) (names : List Principal) (ready : Ready pool places code st names) where
      abbrev Whole : Parsed Sources → Ran → Type 0
      Whole = ExpressionRead env s pool places code st names

      abbrev Turns : Sources × Token → Loop → Step (Sources × Token) (Parsed Sources) → Step Loop Ran → Type 0
      Turns = Steps (λ x. most_licensees - (st.listed + length (sources x.0))) (λ x. unexpected x.1) (chain_turn s joint join operand st.listed)
          (λ x. most_licensees - x.0.listed) (λ x. ran (Err (against 0 0)) x.2 x.3 x.4) (more_turn writer s level)
          (Operands s pool places code st names) Whole

      module _ (x : Sources) (t : Token) (u : State) (pool' places' code' : List ℕ) (st-t : Stood s t) (formed : Formed (people_now env x))
          (grown : Grown pool places code st names (names_of x) (code_of names x) (faults env (sources x)) u pool' places' code') where
        counted : u.listed ≡ st.listed + length (sources x)
        counted = omega (arith, grown.listed, named_count env x)

        joined-grown : (y : Sources) (w : State) (pool'' places'' code'' : List ℕ) → Formed (people_now env y)
            → Grown pool' places' code' u (enter_all names (names_of x)) (names_of y) (code_of (enter_all names (names_of x)) y) (faults env (sources y)) w pool'' places'' code''
            → Grown pool places code st names (names_of (join x y)) (code_of names (join x y)) (faults env (sources (join x y))) (sized w (above code'' w.size)) pool'' places'' (pushed code'' w.size op)
        joined-grown y w pool'' places'' code'' f more =
            let a : length (code_of names x) + 1 ≤ 3 * length (names_of x) = compile-short (enter_all names (names_of x)) formed in
            let b : length (code_of (enter_all names (names_of x)) y) + 1 ≤ 3 * length (names_of y) = compile-short (enter_all (enter_all names (names_of x)) (names_of y)) f in
            let room : w.size < length code = omega (arith, grown.size, more.size, grown.listed, more.listed, more.few, ready.code_room, a, b) in
            rw (← join-code names x y, joins.names x y, join-faults x y) (grown-push (grown-then grown more) op room)

        joined-turn : (p : Parsed Sources) (r : Ran) → ExpressionRead env s pool' places' code' u (enter_all names (names_of x)) p r
            → Turns (x, t) (u, t, pool', places', code') (on_operand join x p) (on_joined level u r)
        joined-turn _ _ (expression-aside r p pool'' places'' code'' h more) =
            both-done (aside r p) (ran (Err (against r p)) pool'' places'' code'') (expression-aside r p pool'' places'' code'' h (stays_then grown more))
        joined-turn _ _ (expression-on y w n pool'' places'' code'' sn f more) =
            let some : 0 < length (names_of y) = named_some f in
            let k : length (sources (join x y)) ≡ length (sources x) + length (sources y) = ap length (joins.lists x y) ∙ length-append (sources x) (sources y) in
            rw (lt-leb (most_licensees - u.listed) (most_licensees - w.listed) (omega (arith, more.listed, more.few, some)), joins.instruction)
            (both-next (join x y, n) (sized w (above code'' w.size), n, pool'', places'', pushed code'' w.size op)
            (operands (join x y) n (sized w (above code'' w.size)) pool'' places'' (pushed code'' w.size op) sn (joins.forms x y formed f) (joined-grown y w pool'' places'' code'' f more))
            (omega (arith, counted, more.listed, more.few, some, k, named_count env y)) (omega (arith, more.listed, more.few, some)))

        operand-turn : Turns (x, t) (u, t, pool', places', code') (chain_turn s joint join operand st.listed (x, t)) (more_turn writer s level (u, t, pool', places', code'))
        operand-turn =
            rw (joins.token, ← counted)
            (both (Turns (x, t) (u, t, pool', places', code')) (eqb t.kind joint) _ _ _ _
            (λ f. joined-turn _ _
            (reads pool' places' code' u (enter_all names (names_of x)) (after s t) (stood-at s Kind.IN_LICENSEES t.end)
            (grown-ready grown ready (omega (arith, compile-short (enter_all names (names_of x)) formed)))))
            (λ f. both-done (ok x t) (ran (read_to u t) pool' places' code') (expression-on x u t pool' places' code' st-t formed grown)))

      operand-turns : (x : Sources × Token) (y : Loop) → Operands s pool places code st names x y → Turns x y (chain_turn s joint join operand st.listed x) (more_turn writer s level y)
      operand-turns _ _ (operands x t u pool' places' code' sn formed grown) = operand-turn x t u pool' places' code' sn formed grown

      first_read : (p : Parsed Sources) (r : Ran) → Whole p r
          → Whole (and_then p (λ e u. chain_from s joint join operand st.listed e u)) (on_on r (λ u n p q m. more_body writer s level p q m u n))
      first_read _ _ (expression-aside r p pool' places' code' h more) = expression-aside r p pool' places' code' h more
      first_read _ _ (expression-on x u n pool' places' code' sn f grown) =
          loop-same _ _ (chain_turn s joint join operand st.listed) _ _ (more_turn writer s level) (Operands s pool places code st names) Whole
          operand-turns (x, n) (u, n, pool', places', code') (operands x n u pool' places' code' sn f grown)

    -- operands joined by one operator
    chain-reads : Reads s (λ n t. chain s joint join operand n t) (λ p q m u n. chain_body writer s level p q m u n)
    chain-reads pool places code st names t stood ready = first_read pool places code st names ready _ _ (reads pool places code st names t stood ready)

  -- "&& binds tighter"
  pub expression-reads : (s : List ℕ) (reader : Reader) (writer : Writer) → Reads s reader writer
      → Reads s (λ n t. expression_of s reader n t) (λ p q m u n. operand_of writer s 2 p q m u n)
  expression-reads s reader writer reads =
      chain-reads s 1 Kind.OR or_code or or-joins (λ n t. chain s Kind.AND and reader n t) (λ p q m u n. chain_body writer s 0 p q m u n)
      (chain-reads s 0 Kind.AND and_code and and-joins reader writer reads)

-- only one licensee has one instruction
code-some : (names : List Principal) (e : Compliance.Expression) → 1 ≤ length (compile names e)
unfolding compile
code-some names (Compliance.name p) = omega arith
code-some names (Compliance.and a b) = rw (length-append, length-append) (omega arith)
code-some names (Compliance.or a b) = rw (length-append, length-append) (omega arith)
code-some names (Compliance.k_of k ps) = rw length-append (omega arith)

listed-some : {k : ℕ} {ps : List Principal} → Formed (Compliance.k_of k ps) → 0 < length ps
listed-some (f-k_of k ps h) = h

module _ (env : Environment) (names : List Principal) where
  one_code : (x : Source) → length (code_of env names (one x)) ≡ 1
  unfolding people_now compile
  one_code x = refl

  and-code : (a b : Sources) → 2 ≤ length (code_of env names (and a b))
  unfolding people_now compile
  and-code a b =
      rw (length-append, length-append)
      (omega (arith, code-some (enter_all names (names_of env (and a b))) (people_now env a), code-some (enter_all names (names_of env (and a b))) (people_now env b)))

  or-code : (a b : Sources) → 2 ≤ length (code_of env names (or a b))
  unfolding people_now compile
  or-code a b =
      rw (length-append, length-append)
      (omega (arith, code-some (enter_all names (names_of env (or a b))) (people_now env a), code-some (enter_all names (names_of env (or a b))) (people_now env b)))

  list_code : (k : ℕ) (xs : List Source) → Formed (people_now env (k_of k xs)) → 2 ≤ length (code_of env names (k_of k xs))
  unfolding people_now compile
  list_code k xs f = rw (length-append, length-map) (omega (arith, listed-some f))

module _ {rec consts values keys constants : List ℕ} {env : Environment} (shows : Shows rec consts values keys constants env) (s : List ℕ) (short : length s ≤ 8192) where
  lone-read : {pool places code : List ℕ} {st : State} {names : List Principal} (p : Parsed Source) (r : Ran) → LicenseeRead env s pool places code st names p r
      → ExpressionRead env s pool places code st names (and_then p (λ x u. ok (one x) u)) r
  unfolding people_now Compliance.named compile sources
  lone-read _ _ (licensee-aside r p pool' places' code' h more) = expression-aside r p pool' places' code' h more
  lone-read _ _ (licensee-on x u n pool' places' code' sn grown) = expression-on (one x) u n pool' places' code' sn f-name (rw (faults-one env x) grown)

  -- over tables in which all is still there
  again : {pool places code : List ℕ} {st : State} {names : List Principal} {pool' places' code' : List ℕ} → Stays pool places code st names pool' places' code'
      → (p : Parsed Sources) (r : Ran) → ExpressionRead env s pool' places' code' st names p r → ExpressionRead env s pool places code st names p r
  again stays _ _ (expression-aside r p pool'' places'' code'' h more) = expression-aside r p pool'' places'' code'' h (stays-again stays more)
  again stays _ _ (expression-on x u n pool'' places'' code'' sn f grown) = expression-on x u n pool'' places'' code'' sn f (grown-again stays grown)

  module _ (left : ℕ) (t : Token) (stood : Stood s t) (pool places code : List ℕ) (st : State) (names : List Principal) (ready : Ready pool places code st names) where
    abbrev Inside : Parsed Sources → Ran → Type 0
    Inside = ExpressionRead env s pool places code st names

    -- behind the bracket
    module _ (u : State) (n : Token) (pool' places' code' : List ℕ) (sn : Stood s n) where
      abbrev Behind : Ran
      Behind = behind_in s (sight rec consts values keys constants) left st t pool' places' code' (read_to u n)

      several : (x : Sources) → Formed (people_now env x) → 2 ≤ length (code_of env names x)
          → Grown pool places code st names (names_of env x) (code_of env names x) (faults env (sources x)) u pool' places' code' → Inside (ok x n) Behind
      unfolding is_longer
      several x f l grown =
          let z : eqb u.size (st.size + 1) ≡ false = ne_eqb u.size (st.size + 1) (λ e. let no : ⊥ = omega (arith, e, l, grown.size) in no) in
          split (eqb n.kind Kind.DOT) (λ e. rw (e, z) (expression-on x u n pool' places' code' sn f grown)) (λ e. rw e (expression-on x u n pool' places' code' sn f grown))

      single : (x : Source) → Formed (people_now env (one x))
          → Grown pool places code st names (names_of env (one x)) (code_of env names (one x)) (faults env (sources (one x))) u pool' places' code'
          → Inside (onward s left st.listed t (one x) n) Behind
      unfolding is_longer
      single x f grown =
          let z : eqb u.size (st.size + 1) ≡ true = eq-eqb u.size (st.size + 1) (omega (arith, grown.size, one_code env names x)) in
          split (eqb n.kind Kind.DOT)
          (λ e. rw (e, z) (again grown.stays _ _ (lone-read _ _ (licensee-read shows s short pool' places' code' st names (stays-ready grown.stays ready) left t stood))))
          (λ e. rw e (expression-on (one x) u n pool' places' code' sn f grown))

      onward-read : (x : Sources) → Formed (people_now env x)
          → Grown pool places code st names (names_of env x) (code_of env names x) (faults env (sources x)) u pool' places' code' → Inside (onward s left st.listed t x n) Behind
      onward-read (one x) f grown = single x f grown
      onward-read (and a b) f grown = several (and a b) f (and-code env names a b) grown
      onward-read (or a b) f grown = several (or a b) f (or-code env names a b) grown
      onward-read (k_of k xs) f grown = several (k_of k xs) f (list_code env names k xs f) grown

    closed-read : (p : Parsed Sources) (r : Ran) → Inside p r
        → Inside (and_then p (λ e u. closed s left st.listed t e u)) (on_on r (λ u n p q m. behind_in s (sight rec consts values keys constants) left st t p q m (closed_in s u n)))
    unfolding closed closed_in
    closed-read _ _ (expression-aside r p pool' places' code' h more) = expression-aside r p pool' places' code' h more
    closed-read _ _ (expression-on x u n pool' places' code' sn f grown) =
        split (eqb n.kind Kind.CLOSE)
        (λ g. rw g (onward-read u (after s n) pool' places' code' (stood-at s Kind.IN_LICENSEES n.end) x f grown))
        (λ g. rw g (expression-aside (refusal n.kind) n.start pool' places' code' (refusal-some n.kind) grown.stays))

  -- a string, a K-of or a bracket
  body_reads : (left : ℕ) (inner : Reader) (writer : Writer) → ((left ≡ 0 → ⊥) → Reads env s inner writer)
      → Reads env s (λ n t. primary_body s left inner n t) (λ p q m u n. primary_in writer left s (sight rec consts values keys constants) p q m u n)
  body_reads left inner writer reads pool places code st names t stood ready =
      split (eqb t.kind Kind.OPEN)
      (λ f. rw (f, ne_eqb t.kind Kind.DIGITS (λ z. omega (arith, z, eqb-true t.kind Kind.OPEN f)))
      (both (ExpressionRead env s pool places code st names) (eqb left 0) _ _ _ _
      (λ g. expression-aside 7 t.start pool places code (λ z. omega (arith, z)) (stays-self ready))
      (λ g. closed-read left t stood pool places code st names ready _ _ (reads (eqb-false _ _ g) pool places code st names (after s t) (stood-at s Kind.IN_LICENSEES t.end) ready))))
      (λ f. rw f
      (both (ExpressionRead env s pool places code st names) (eqb t.kind Kind.DIGITS) _ _ _ _
      (λ g. threshold-read shows s short pool places code st names ready left t)
      (λ g. lone-read _ _ (licensee-read shows s short pool places code st names ready left t stood))))

  pub primary-reads : (left : ℕ) → Reads env s (λ n t. primary s left n t) (λ p q m u n. primary_at left s (sight rec consts values keys constants) p q m u n)
  unfolding primary primary_at
  primary-reads zero = body_reads 0 (λ n t. unexpected t) (λ p q m u n. ran (Err (against 0 0)) p q m) (λ h. absurd (h refl))
  primary-reads (suc left) =
      body_reads (suc left) (λ n t. expression_of s (λ n t. primary s left n t) n t)
      (λ p q m u n. operand_of (λ p q m u n. primary_at left s (sight rec consts values keys constants) p q m u n) s 2 p q m u n)
      (λ h. expression-reads env s (λ n t. primary s left n t) (λ p q m u n. primary_at left s (sight rec consts values keys constants) p q m u n) (primary-reads left))
