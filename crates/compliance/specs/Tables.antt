-- A system as tables of numbers: what a row says, and when tables represent a system. Assumes nothing.
use Rattle.std.specs.Prelude.{◌≡◌, true, ℕ, ◌-◌, ◌≤◌, ◌<◌, eqb, ltb, length, get_or, take, drop}
use Rattle.std.proofs.Math.Option.{some}
use mathlib.Core.List.{List, [], ◌∷◌, ◌++◌, map, Memᴰ as Mem}
use Rattle.std.proofs.Math.ListN.{get_elem?}
use Rattle.text.specs.Choice.{pick}
use Rattle.principal.specs.Places.{place}
use Rattle.principal.specs.Principal.{Principal, policy}
use Rattle.principal.specs.Members.{member, Distinct}
use Rattle.compliance.specs.Licensees.{Expression, name, and, or, k_of, Licensees, missing, empty, given, licensees}
use Rattle.compliance.specs.System.{Assertion, System}
use Rattle.compliance.specs.Codes.{top_code, k_of_code, and_code, or_code, zero_code}
use Rattle.limits.specs.Limits.{most_assertions, most_licensees, most_principals}

-- an expression as a postfix program
unfoldable pub compile : List Principal → Expression → List ℕ
compile names (name p) = place names p ∷ []
compile names (and a b) = compile names a ++ (compile names b ++ (and_code ∷ []))
compile names (or a b) = compile names a ++ (compile names b ++ (or_code ∷ []))
compile names (k_of k ps) = map (place names) ps ++ (k_of_code k (length ps) ∷ [])

-- the field Licensees as a program
unfoldable pub compiled : List Principal → Licensees → List ℕ
compiled names missing = top_code ∷ []
compiled names empty = zero_code ∷ []
compiled names (given e) = compile names e

-- the program of assertion j starts where the one before it ends
unfoldable pub start_of : List ℕ → ℕ → ℕ
start_of ends j = pick (eqb j 0) 0 (get_or ends (j - 1) 0)

-- the code from one end to the next, or nothing where they do not fit
unfoldable pub program_of : List ℕ → List ℕ → ℕ → List ℕ
program_of ends code j =
    pick (ltb (get_or ends j 0) (start_of ends j)) []
    (pick (ltb (length code) (get_or ends j 0)) [] (take (get_or ends j 0 - start_of ends j) (drop (start_of ends j) code)))

-- "a list being one or more licensees"
pub data Formed : Expression → Type 0 where
  f-name : {p : Principal} → Formed (name p)
  f-and : {a b : Expression} → Formed a → Formed b → Formed (and a b)
  f-or : {a b : Expression} → Formed a → Formed b → Formed (or a b)
  f-k_of : (k : ℕ) (ps : List Principal) → 0 < length ps → Formed (k_of k ps)

-- row j of the tables is the assertion a; `names` has the principals in the order of their indices
pub record Row (names : List Principal) (authors conds ends code : List ℕ) (j : ℕ) (a : Assertion) : Type 0 where
  pub author : get_or authors j 0 ≡ place names a.authorizer
  pub known : member a.authorizer names ≡ true
  pub condition : get_or conds j 0 ≡ a.conditions
  pub program : program_of ends code j ≡ compiled names a.field
  pub listed : (q : Principal) → Mem q (licensees a.field) → member q names ≡ true
  pub formed : (e : Expression) → a.field ≡ given e → Formed e
  pub few : length (licensees a.field) ≤ most_licensees

-- the tables represent the system: each principal has one index, POLICY's is 0, and each assertion one row
pub record Represents (names : List Principal) (authors conds ends code direct : List ℕ) (top : ℕ) (s : System) : Type 0 where
  pub distinct : Distinct names
  pub rooted : member policy names ≡ true
  pub first : place names policy ≡ 0
  pub counted : length authors ≡ length s.assertions
  pub rows : (j : ℕ) (a : Assertion) → get_elem? s.assertions j ≡ some a → Row names authors conds ends code j a
  pub asked : direct ≡ map (λ (q : Principal). pick (member q s.requesters) 1 0) names
  pub topped : top ≡ s.top
  pub few_names : length names ≤ most_principals
  pub few_rows : length authors ≤ most_assertions
