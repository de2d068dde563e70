-- The ways out of the functions that give a string. Assumes nothing.
use Rattle.std.proofs.Math.Path.{◌≡◌, ap}
use Rattle.std.specs.Prelude.{Bool, ℕ, ◌≤◌, take, Option, Some, None}
use Rattle.std.proofs.Common.{arith}
use mathlib.Core.List.{List, [], map}
use Rattle.std.proofs.Math.ListN.{length}
use Rattle.std.proofs.Math.Seq.{length-take-le}
use Rattle.text.specs.Counted.{counted}
use Rattle.text.specs.Copy.{copied, copy_at}
use Rattle.expression.specs.Tables.{lookup_in}
use Rattle.machine.specs.Working.Machine.{State, on, stuck, exec}
use Rattle.machine.specs.Working.Live.{Reached, Live}
use Rattle.machine.specs.Working.Given.{gave, buffer_of, string_of, string_in}
use Rattle.machine.specs.Working.Running.{live_in, live_out}
use Rattle.machine.specs.Theorems.Wider.{string-wider}
use Rattle.machine.specs.declared.Tops.{Tops}

-- `string_in`
module _ (st m : List ℕ) (x : State) (r : Reached) (l : Live r st m x) (out : List ℕ) where
  pub string-stuck : r ≡ None → gave None out ≡ string_of x out
  unfolding string_of
  string-stuck re = rw (live_out r st m x re l)

  pub string-told : (w : Tops) → r ≡ Some w → (b : List ℕ) → b ≡ take w.bytes m → (f : Bool) (to : List ℕ) → copied f to ≡ copy_at out 0 b → gave (Some w.bytes) to ≡ string_of x out
  unfolding string_of
  string-told w re b be f to ce =
      let i : (w.numbers ≤ length st) × ((w.bytes ≤ length m) × (x ≡ on (take w.numbers st) (take w.bytes m))) = live_in r st m x w re l in
      let c : to ≡ buffer_of (copy_at out 0 b) = ap buffer_of ce in
      rw (i.1.1, length-take-le w.bytes m i.1.0, ← be) (ap (gave (Some w.bytes)) c)

-- `string_within` and `string_on`
module _ (code s rec consts values names constants out : List ℕ) (r : Option ℕ) (to : List ℕ) where
  pub string-left : (depth room : ℕ)
      → gave r to ≡ string_of (exec depth room s (lookup_in rec consts values names constants) (map (counted rec) values) code (on [] [])) out
      → gave r to ≡ string_in depth room code s rec consts values names constants out
  unfolding string_in
  string-left depth room e = e

  module _ (e : gave r to ≡ string_in 32 512 code s rec consts values names constants out) where
    pub string-enough : (n : ℕ) → r ≡ Some n → gave (Some n) to ≡ string_in 208 77824 code s rec consts values names constants out
    string-enough n re = string-wider 32 208 512 77824 code s rec consts values names constants out (omega arith) (omega arith) n to (rw re at e)

    -- where there was too little room nothing was written
    stuck-kept : (x : State) → gave None to ≡ string_of x out → to ≡ out
    unfolding string_of
    stuck-kept (on vs bs) h = absurd (let z : ◌≡◌ {A = ℕ} 0 1 = cc in omega arith)
    stuck-kept stuck h = cc

    pub string-more : r ≡ None → (v : Option ℕ) (then : List ℕ) → gave v then ≡ string_in 208 77824 code s rec consts values names constants to
        → gave v then ≡ string_in 208 77824 code s rec consts values names constants out
    unfolding string_in
    string-more re v then h =
        let k : to ≡ out = stuck-kept (exec 32 512 s (lookup_in rec consts values names constants) (map (counted rec) values) code (on [] [])) (rw re at e) in
        rw k at h
