-- Calls on the bytes of a register. Assumes nothing.
use Rattle.std.specs.Prelude.{true, false, List, ℕ, eqb, length}
use Rattle.text.specs.Choice.{pick}
use Rattle.register.specs.Limits.{register_bytes}
use Rattle.register.specs.Entries.{empty}
use Rattle.register.specs.Calls.{Call, Outcome, granted, refused, called}
use Rattle.register.specs.Find.{find}
use Rattle.register.specs.Layout.{encode, decode, Decoded, register, unreadable}
use Rattle.register.specs.declared.Found.{Found}
use Rattle.register.specs.declared.Found.TheVariants.{At, Missing}
use Rattle.register.specs.declared.Search.{Search}

-- what a call on bytes gives: a number, which is 0 where it is granted, a place, and the bytes after it
pub data Written : Type 0 where
  written : ℕ → ℕ → List ℕ → Written

-- a granted call writes the register after it, a refused one nothing
abbrev pub settled : List ℕ → Outcome → Written
settled s (granted q) = written 0 0 (encode q)
settled s (refused n p) = written n p s

abbrev pub on_decoded : List ℕ → Call → Decoded → Written
on_decoded s c (register r) = settled s (called r c)
on_decoded s c (unreadable n p) = written n p s

unfoldable pub on_bytes : List ℕ → Call → Written
on_bytes s c = on_decoded s c (decode s)

-- the empty register, written to bytes of the right length
unfoldable pub emptied : List ℕ → Written
emptied s = pick (eqb (length s) register_bytes) (written 0 0 (encode empty)) (written 5 0 s)

-- what finding on bytes gives: nothing is written
abbrev pub searched : Found → Search
searched (At i w) = record { number = 0; place = 0; held = true; at = i; work = w }
searched (Missing w) = record { number = 0; place = 0; held = false; at = 0; work = w }

abbrev pub in_decoded : Decoded → ℕ → Search
in_decoded (register r) x = searched (find r.entries x)
in_decoded (unreadable n p) x = record { number = n; place = p; held = false; at = 0; work = 0 }

unfoldable pub find_on : List ℕ → ℕ → Search
find_on s x = in_decoded (decode s) x
