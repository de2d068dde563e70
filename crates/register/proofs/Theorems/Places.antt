-- A principal stands once, and one that is added stands at the first free place. Assumes nothing.
use Rattle.std.specs.Prelude.{◌≡◌, List, ℕ, get_or}
use Rattle.register.specs.Entries.{free, held, empty}
use Rattle.register.specs.Calls.{Call, ran}
use Rattle.register.proofs.Theorems.Conservation.{reached-sound}
use Rattle.register.specs.Theorems.Places.{stands-once}

pub reached-once : (cs : List Call) (x i j m n : ℕ)
    → get_or (ran empty cs).entries i free ≡ held x m → get_or (ran empty cs).entries j free ≡ held x n → i ≡ j
reached-once cs = stands-once (ran empty cs).entries (reached-sound cs).once
