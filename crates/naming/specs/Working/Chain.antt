-- Working definitions: chains of operands, brackets and the field, written as instructions. The recursion goes by the brackets that may
-- still be opened. Assumes nothing.
use Rattle.std.specs.Prelude.{Bool, true, false, List, ℕ, zero, suc, ◌+◌, ◌-◌, eqb, leb, ltb, length, Err, Ok}
use Rattle.text.specs.Choice.{pick}
use Rattle.text.specs.Loop.{Step, next, done, loop}
use Rattle.limits.specs.Limits.{most_licensees, most_brackets, most_code}
use Rattle.lexical.specs.Kind
use Rattle.lexical.specs.Kind.{ending}
use Rattle.lexical.specs.declared.token.Token.{Token}
use Rattle.compliance.specs.Codes.{and_code, or_code, zero_code}
use Rattle.naming.specs.Licensees.{after}
use Rattle.naming.specs.Working.Code.{above, pushed}
use Rattle.naming.specs.Working.Faults.{clear_at}
use Rattle.syntax.specs.Working.Faults.{against}
use Rattle.naming.specs.Working.Identifying.{Sight}
use Rattle.naming.specs.Working.List.{Ran, ran, Loop, refused_licensed, sized, state_of, licensee_in, threshold_in, Licensing, read_to}
use Rattle.naming.specs.declared.list.State.{State}

-- the token that joins operands at a level, and the instruction
unfoldable pub joint_of : ℕ → ℕ
joint_of level = pick (eqb level 0) Kind.AND Kind.OR

unfoldable pub join_of : ℕ → ℕ
join_of level = pick (eqb level 0) and_code or_code

-- pool, table, code, state and token
abbrev pub Writer : Type 0
Writer = List ℕ → List ℕ → List ℕ → State → Token → Ran

abbrev pub on_on : Ran → (State → Token → List ℕ → List ℕ → List ℕ → Ran) → Ran
on_on (ran (Err f) pool places code) k = ran (Err f) pool places code
on_on (ran (Ok w) pool places code) k = k w.state w.next pool places code

-- one more operand and the instruction that joins it
abbrev pub on_joined : ℕ → State → Ran → Step Loop Ran
on_joined level st (ran (Err f) pool places code) = done (ran (Err f) pool places code)
on_joined level st (ran (Ok w) pool places code) =
    pick (leb (most_licensees - st.listed) (most_licensees - w.state.listed)) (done (ran (Err (against 0 0)) pool places code))
    (next (sized w.state (above code w.state.size), w.next, pool, places, pushed code w.state.size (join_of level)))

abbrev pub more_turn : Writer → List ℕ → ℕ → Loop → Step Loop Ran
more_turn operand s level (st, t, pool, places, code) =
    pick (eqb t.kind (joint_of level)) (on_joined level st (operand pool places code st (after s t))) (done (ran (read_to st t) pool places code))

abbrev pub more_body : Writer → List ℕ → ℕ → Writer
more_body operand s level pool places code st t =
    loop (λ x. most_licensees - x.0.listed) (λ x. ran (Err (against 0 0)) x.2 x.3 x.4) (more_turn operand s level) (st, t, pool, places, code)

abbrev pub chain_body : Writer → List ℕ → ℕ → Writer
chain_body operand s level pool places code st t =
    on_on (operand pool places code st t) (λ u n p q m. more_body operand s level p q m u n)

-- an operand at a level, over primaries: && inside ||
abbrev pub operand_of : Writer → List ℕ → ℕ → Writer
operand_of primary s zero pool places code st t = primary pool places code st t
operand_of primary s (suc level) pool places code st t = chain_body (λ p q m u n. operand_of primary s level p q m u n) s level pool places code st t

-- an operand of || that begins so is a principal where no && follows
unfoldable pub single : ℕ → ℕ → Bool
single level k = pick (eqb level 1) (pick (eqb k Kind.LITERAL) true (eqb k Kind.NAME)) false

-- a token that neither joins by && nor goes on with a string
unfoldable pub is_lone : ℕ → Bool
is_lone k = pick (eqb k Kind.AND) false (pick (eqb k Kind.DOT) false true)

unfoldable pub closed_in : List ℕ → State → Token → Licensing
closed_in s st t = pick (eqb t.kind Kind.CLOSE) (read_to st (after s t)) (refused_licensed t)

-- is what a bracket holds one licensee, and does a token of kind k behind the bracket begin a longer string?
unfoldable pub is_longer : State → State → ℕ → Bool
is_longer st u k = pick (eqb k Kind.DOT) (eqb u.size (st.size + 1)) false

-- behind a bracket t, in which st became u
abbrev pub behind_in : List ℕ → Sight → ℕ → State → Token → List ℕ → List ℕ → List ℕ → Licensing → Ran
behind_in s look left st t pool places code (Err f) = ran (Err f) pool places code
behind_in s look left st t pool places code (Ok w) =
    pick (is_longer st w.state w.next.kind) (licensee_in s look pool places code st left t) (ran (Ok w) pool places code)

abbrev pub primary_body : Writer → ℕ → List ℕ → Sight → Writer
primary_body inner left s look pool places code st t =
    pick (eqb t.kind Kind.DIGITS) (threshold_in left s look pool places code st t)
    (pick (eqb t.kind Kind.OPEN)
    (pick (eqb left 0) (ran (Err (against 7 t.start)) pool places code)
    (on_on (inner pool places code st (after s t)) (λ u n p q m. behind_in s look left st t p q m (closed_in s u n))))
    (licensee_in s look pool places code st left t))

unfoldable pub primary_at : ℕ → List ℕ → Sight → Writer
primary_at zero s look pool places code st t =
    primary_body (λ p q m u n. ran (Err (against 0 0)) p q m) 0 s look pool places code st t
primary_at (suc left) s look pool places code st t =
    primary_body (λ p q m u n. operand_of (λ p q m u n. primary_at left s look p q m u n) s 2 p q m u n) (suc left) s look pool places code st t

unfoldable pub operand_at : ℕ → ℕ → List ℕ → Sight → Writer
operand_at left level s look pool places code st t =
    operand_of (λ p q m u n. primary_at left s look p q m u n) s level pool places code st t

unfoldable pub more_at : ℕ → ℕ → List ℕ → Sight → Writer
more_at left level s look pool places code st t =
    more_body (λ p q m u n. operand_at left level s look p q m u n) s level pool places code st t

unfoldable pub chain_at : ℕ → ℕ → List ℕ → Sight → Writer
chain_at left level s look pool places code st t =
    on_on (operand_at left level s look pool places code st t) (λ u n p q m. more_at left level s look p q m u n)

-- what may stand in a bracket
unfoldable pub inner_at : ℕ → List ℕ → Sight → Writer
inner_at zero s look pool places code st t = ran (Err (against 0 0)) pool places code
inner_at (suc left) s look pool places code st t = chain_at left 1 s look pool places code st t

unfoldable pub end_in : State → Token → Licensing
end_in st t = pick (ending t.kind) (read_to st t) (refused_licensed t)

-- an empty field, or an expression and the field's end; the code has room for one
unfoldable pub field_in : List ℕ → Sight → List ℕ → List ℕ → List ℕ → ℕ → ℕ → ℕ → Token → Ran
field_in s look pool places code count end size t =
    pick (ltb (length code) size) (ran (Err (against 0 0)) pool places code)
    (pick (ltb (length code - size) most_code) (ran (Err (against 0 0)) pool places code)
    (pick (ending t.kind) (ran (read_to (state_of count end (above code size) 0 clear_at) t) pool places (pushed code size zero_code))
    (on_on (chain_at most_brackets 1 s look pool places code (state_of count end size 0 clear_at) t) (λ u n p q m. ran (end_in u n) p q m))))
