-- The code that licensees are written as: what one more instruction does to it, and how long it gets. Assumes nothing.
use Rattle.std.specs.Prelude.{◌≡◌, List, [], ◌∷◌, ◌++◌, ℕ, ◌+◌, ◌*◌, ◌<◌, ◌≤◌, length, take}
use Rattle.std.proofs.Common.{arith, add-one, length-append, length-set, take-suc-set}
use Rattle.std.proofs.lemmas.List.{length-map}
use Rattle.std.proofs.lemmas.Bool.{lt-leb}
use Rattle.principal.specs.Principal.{Principal}
use Rattle.compliance.specs.Licensees.{Expression, named}
use Rattle.compliance.specs.Tables.{compile, Formed, f-name, f-and, f-or, f-k_of}
use Rattle.naming.specs.Working.Code.{above, pushed}

-- an expression takes fewer than three entries of code for each licensee
pub compile-short : (names : List Principal) {e : Expression} → Formed e → length (compile names e) + 1 ≤ 3 * length (named e)
unfolding compile named
compile-short names f-name = omega arith
compile-short names (f-and {a = a} {b = b} f g) = rw (length-append, length-append, length-append) (omega (arith, compile-short names f, compile-short names g))
compile-short names (f-or {a = a} {b = b} f g) = rw (length-append, length-append, length-append) (omega (arith, compile-short names f, compile-short names g))
compile-short names (f-k_of k ps h) = rw (length-append, length-map) (omega (arith, h))

-- one more entry of code, where there is room
pub above-is : (code : List ℕ) (z : ℕ) → z < length code → above code z ≡ z + 1
unfolding above
above-is code z h = rw (lt-leb (length code) z h)

-- it gets no longer
pub pushed-length : (code : List ℕ) (z x : ℕ) → z < length code → length (pushed code z x) ≡ length code
unfolding pushed
pushed-length code z x h = rw (lt-leb (length code) z h) (length-set code z x)

-- what is written stands behind what was there
pub pushed-is : (code : List ℕ) (z x : ℕ) → z < length code → take (above code z) (pushed code z x) ≡ take z code ++ (x ∷ [])
unfolding above pushed
pushed-is code z x h = rw (lt-leb (length code) z h, add-one z) (take-suc-set code z x h)
