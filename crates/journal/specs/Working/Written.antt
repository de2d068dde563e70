-- The page that appending leaves, cut or whole. Assumes nothing.
use Rattle.std.specs.Prelude.{◌≡◌, ℕ, suc, ◌+◌, ◌*◌, ◌/◌, ◌%◌, ◌<◌, ◌≤◌, take}
use Rattle.std.proofs.Math.Path.{refl}
use Rattle.std.proofs.Common.{sym, ap, ◌∙◌, take_all}
use mathlib.Core.List.{List, [], ◌∷◌}
use native.Mathlib.Omega.{arith}
use Rattle.std.proofs.Math.ListN.{length, get_or, get_or-append}
use Rattle.std.proofs.Math.Seq.{get_or-append_seam}
use Rattle.journal.specs.Page.{least_page, closing, entry}
use Rattle.journal.specs.Stores.{Store, stored, placed}
use Rattle.journal.specs.Working.Walk.{end_at, rest_of}
use Rattle.journal.specs.Working.Placing.{placed-length}
use Rattle.journal.specs.Working.Rooms.{entry_length, Roomy}
use Rattle.journal.specs.Working.Requests.{rest-long}
use Rattle.journal.specs.Working.Agreeing.{zeros-from}

-- a page with room for an answer at a place
pub record Granted (p a : List ℕ) (e : ℕ) : Type 0 where
  pub least : least_page ≤ length p
  pub some : 0 < length a
  pub ends : e ≡ end_at p 1
  pub clear : (i : ℕ) → e ≤ i → get_or p i 0 ≡ 0
  pub fits : e + (length a + 3) ≤ length p

pub granted-at : (p a : List ℕ) → Roomy p a → Granted p a (end_at p 1)
unfolding rest_of
granted-at p a g =
    record {
      least = g.fine.least;
      some = g.some;
      ends = refl;
      clear = zeros-from p (end_at p 1) g.clear;
      fits = omega (arith, g.fits, rest-long p);
    }

-- an entry's bytes
module _ (a : List ℕ) where
  pub entry_first : get_or (entry a) 0 0 ≡ length a / 256
  unfolding entry
  entry_first = refl

  pub entry-second : get_or (entry a) 1 0 ≡ length a % 256
  unfolding entry
  entry-second = refl

  two-on : (i : ℕ) → i + 2 ≡ suc (suc i)
  two-on i = omega arith

  pub entry-answer : (i : ℕ) → i < length a → get_or (entry a) (i + 2) 0 ≡ get_or a i 0
  unfolding entry
  entry-answer i h = rw (two-on i) (get_or-append a (closing ∷ []) 0 i h)

  pub entry-close : get_or (entry a) (length a + 2) 0 ≡ closing
  unfolding entry
  entry-close = rw (two-on (length a)) (get_or-append_seam a closing [] 0)

-- the page after the first k stores of an entry
unfoldable pub written_cut : ℕ → List ℕ → ℕ → List ℕ → List ℕ
written_cut k p e a = stored p (take k (placed e (entry a)))

pub two_bytes_lem : (n : ℕ) → n / 256 * 256 + n % 256 ≡ n
two_bytes_lem n = omega arith

-- as many stores as the entry has bytes are all of them
pub written-whole : (p a : List ℕ) → stored p (placed (end_at p 1) (entry a)) ≡ written_cut (length a + 3) p (end_at p 1) a
unfolding written_cut
written-whole p a =
    let n : length (placed (end_at p 1) (entry a)) ≡ length a + 3 = placed-length (end_at p 1) (entry a) ∙ entry_length a in
    ap (λ (ss : List Store). stored p ss) (sym (take_all (length a + 3) (placed (end_at p 1) (entry a)) (omega arith)))
