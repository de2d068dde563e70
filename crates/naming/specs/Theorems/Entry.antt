-- A principal entered into the index: it holds the principal then, and what it held before. Assumes nothing.
use Rattle.std.specs.Prelude.{◌≡◌, true, false, List, [], ◌∷◌, ◌++◌, ℕ, ◌+◌, ◌*◌, ◌≤◌, ◌<◌}
use Rattle.std.proofs.Math.Path.{refl, sym}
use Rattle.std.proofs.Common.{◌∙◌, arith}
use Rattle.std.proofs.Math.ListN.{length}
use Rattle.text.specs.Choice.{split}
use Rattle.text.specs.Copy.{put}
use Rattle.text.specs.CopyLaws.{put-length}
use Rattle.record.specs.Encode.{string_bytes}
use Rattle.limits.specs.Limits.{most_identifier, most_counted, most_numbers}
use Rattle.principal.specs.Principal.{Principal}
use Rattle.principal.specs.Members.{member}
use Rattle.principal.specs.Places.{place}
use Rattle.compliance.specs.Theorems.Fill.{place-added}
use Rattle.index.specs.Index.{enter, Holds}
use Rattle.index.specs.IndexLaws.{walk-known, fresh-entered, holds-front}
use Rattle.index.specs.Working.Entering.{Kept, numbered, enter_in, known as numbered_at}

-- what the index held it still holds, where it holds one more
pub holds-before : {pool places pool' places' : List ℕ} {count end c e : ℕ} (names more : List Principal) → Holds pool places count end names
    → Holds pool' places' c e (names ++ more) → Holds pool' places' count end names
holds-before {pool} {places} {pool'} {places'} {count} {end} names more old new =
    rw (old.counted, old.ends) (holds-front names more new)

-- an identifier entered: its number, and the index with it
pub data EntryRead (pool places : List ℕ) (count end : ℕ) (names : List Principal) (id : Principal) : Kept → Type 0 where
  entry_at : (c e : ℕ) (pool' places' : List ℕ) → Holds pool' places' c e (enter names id) → e ≤ most_counted * c → c ≤ count + 1 → e ≤ end + most_counted
      → length pool' ≡ length pool → length places' ≡ length places → EntryRead pool places count end names id (numbered (numbered_at c (place (enter names id) id) e) pool' places')

module _ (pool places : List ℕ) (count end : ℕ) (names : List Principal) (holds : Holds pool places count end names) (low : end ≤ most_counted * count) (id : Principal)
    (short : length id ≤ most_identifier) (few : count < most_numbers) (room : count < length places) (fits : end + most_counted ≤ length pool) where
  -- a principal that is there keeps its number
  known : member id names ≡ true → EntryRead pool places count end names id (enter_in pool places count end id)
  unfolding enter_in enter
  known m =
      let same : enter names id ≡ names = rw m in
      let h : Holds pool places count end (enter names id) = rw same holds in
      let r : EntryRead pool places count end names id (numbered (numbered_at count (place (enter names id) id) end) pool places)
      = entry_at count end pool places h low (omega arith) (omega arith) refl refl in
      rw (walk-known holds id m) (rw same at r)

  -- a new one gets the next, and the index holds it behind the others
  new : member id names ≡ false → EntryRead pool places count end names id (enter_in pool places count end id)
  unfolding enter string_bytes
  new m =
      let f = fresh-entered holds id m (omega (arith, short)) (omega (arith, short, low, few)) (omega (arith, few)) room (omega (arith, short, fits)) in
      let more : enter names id ≡ names ++ (id ∷ []) = rw m in
      let at : place (enter names id) id ≡ count = rw m (place-added names id m ∙ sym holds.counted) in
      let h : Holds (put pool end (string_bytes id)) f.table (count + 1) (end + 2 + length id) (enter names id) = rw more f.held in
      let r : EntryRead pool places count end names id (numbered (numbered_at (count + 1) (place (enter names id) id) (end + 2 + length id)) (put pool end (string_bytes id)) f.table)
      = entry_at (count + 1) (end + 2 + length id) (put pool end (string_bytes id)) f.table h (omega (arith, low, short)) (omega arith) (omega (arith, short)) (put-length pool end (string_bytes id) (omega (arith, short, fits))) f.long in
      rw f.gives (rw at at r)

  pub entry_read : EntryRead pool places count end names id (enter_in pool places count end id)
  entry_read = split (member id names) known new
