-- Working definition: an identifier entered unless it is there, and the ways out of the functions that do it. Assumes nothing.
use Rattle.std.specs.Prelude.{◌≡◌, List, ℕ, ◌<◌, ◌≤◌, leb, length, get_or, set, Option, Some, None, Ok, Err}
use Rattle.std.proofs.Common.{sym, le-leb}
use Rattle.std.proofs.Math.Seq.{set_out}
use Rattle.std.proofs.lemmas.Bool.{lt-leb}
use Rattle.text.specs.Choice.{pick}
use Rattle.principal.specs.Principal.{Principal}
use Rattle.principal.specs.Tag.{tag}
use Rattle.index.specs.Entry.{linked}
use Rattle.index.specs.Working.Walking.{walked, Walk}
use Rattle.index.specs.Working.Adding.{After, entered, principal_into}
use Rattle.index.specs.declared.Index.{Index}
use Rattle.index.specs.declared.Numbered.{Numbered}
use Rattle.index.specs.declared.Missing.{Missing}

unfoldable pub link_into : List ℕ → ℕ → ℕ → ℕ → List ℕ
link_into places i t c = set places i (linked (get_or places i 0) t c)

-- a number with the index's count and end, if there is room
abbrev pub Known : Type 0
Known = Option Numbered

abbrev pub known : ℕ → ℕ → ℕ → Known
known count number end = Some (record { count = count; number = number; end = end })

-- an answer, the pool and the table
pub data Kept : Type 0 where
  numbered : Known → List ℕ → List ℕ → Kept

abbrev pub on_added : ℕ → ℕ → ℕ → After → Kept
on_added count last rest (entered (Some x) pool places) = numbered (known x.count count x.end) pool (link_into places last rest count)
on_added count last rest (entered None pool places) = numbered None pool places

unfoldable pub enter_new : List ℕ → List ℕ → ℕ → ℕ → Principal → ℕ → ℕ → Kept
enter_new pool places count end id last rest =
    pick (leb 4096 count) (numbered None pool places) (on_added count last rest (principal_into pool places count end id))

abbrev pub on_walked : List ℕ → List ℕ → ℕ → ℕ → Principal → Walk → Kept
on_walked pool places count end id (Ok i) = numbered (known count i end) pool places
on_walked pool places count end id (Err w) = enter_new pool places count end id w.last w.rest

-- "unless it is one of them already"
unfoldable pub enter_in : List ℕ → List ℕ → ℕ → ℕ → Principal → Kept
enter_in pool places count end id = on_walked pool places count end id (walked pool places count id count 0 (tag id))

-- `link`
pub link-past : (places : List ℕ) (i t c : ℕ) → length places ≤ i → places ≡ link_into places i t c
unfolding link_into
link-past places i t c h = sym (set_out places i _ h)

pub link_at : (places : List ℕ) (i t c x v : ℕ) → x ≡ get_or places i 0 → v ≡ linked x t c → set places i v ≡ link_into places i t c
unfolding link_into
link_at places i t c x v xe ve = rw (ve, xe)

-- `enter_new`
module _ (pool places : List ℕ) (count end : ℕ) (id : Principal) (last rest : ℕ) where
  pub new-many : 4096 ≤ count → numbered None pool places ≡ enter_new pool places count end id last rest
  unfolding enter_new
  new-many h = rw (le-leb _ _ h)

  module _ (few : count < 4096) (r : Option Index) (p l : List ℕ) (is : entered r p l ≡ principal_into pool places count end id) where
    pub new-full : r ≡ None → numbered None p l ≡ enter_new pool places count end id last rest
    unfolding enter_new
    new-full e = rw (lt-leb _ _ few, ← is, e)

    pub new-now : (x : Index) → r ≡ Some x → (k : List ℕ) → k ≡ link_into l last rest count → numbered (known x.count count x.end) p k ≡ enter_new pool places count end id last rest
    unfolding enter_new
    new-now x e k ke = rw (lt-leb _ _ few, ← is, e, ke)

-- `enter`
module _ (pool places : List ℕ) (count end : ℕ) (id : Principal) (t : ℕ) (te : t ≡ tag id) (w : Walk) (we : w ≡ walked pool places count id count 0 t) where
  pub enter-found : (i : ℕ) → w ≡ Ok i → numbered (known count i end) pool places ≡ enter_in pool places count end id
  unfolding enter_in
  enter-found i e = rw (← te, ← we, e)

  pub enter-missing : (stop : Missing) → w ≡ Err stop → (r : Known) (p l : List ℕ) → numbered r p l ≡ enter_new pool places count end id stop.last stop.rest
      → numbered r p l ≡ enter_in pool places count end id
  unfolding enter_in
  enter-missing stop e r p l is = rw (← te, ← we, e) is
