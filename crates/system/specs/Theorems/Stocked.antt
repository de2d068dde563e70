-- The names in the index, the marks of the requesters and the rows, as principals are entered and rows are added. Assumes nothing.
use Rattle.std.specs.Prelude.{◌≡◌, refl, true, false, ℕ, suc, ◌+◌, ◌-◌, ◌≤◌, ◌<◌, length, replicate}
use Rattle.std.proofs.Common.{sym, ap, ◌∙◌, subst, arith}
use mathlib.Core.List.{List, [], ◌∷◌, ◌++◌, map, Memᴰ as Mem}
use Rattle.std.proofs.Math.ListN.{length-append}
use Rattle.std.proofs.Math.Seq.{append_snoc}
use Rattle.limits.specs.Limits.{most_licensees, most_assertions, most_principals}
use Rattle.text.specs.Choice.{split, clash}
use Rattle.principal.specs.Principal.{Principal}
use Rattle.principal.specs.Members.{member, member-left, member-find, member-same}
use Rattle.compliance.specs.Licensees.{Expression, given, licensees}
use Rattle.compliance.specs.System.{Assertion}
use Rattle.principal.specs.Places.{place}
use Rattle.compliance.specs.Tables.{compiled, Formed}
use Rattle.compliance.specs.Theorems.Filling.{Filling, asking, fill-name, fill-row}
use Rattle.index.specs.Index.{enter, enter_all}
use Rattle.index.specs.EnterLaws.{enter-all-member}

map_snoc : (f : Principal → ℕ) (l : List Principal) (p : Principal) → map f (l ++ (p ∷ [])) ≡ map f l ++ (f p ∷ [])
map_snoc f [] p = refl
map_snoc f (q ∷ l) p = ap (λ (m : List ℕ). f q ∷ m) (map_snoc f l p)

-- every requester is one of those that were entered
pub asked-covers : (names requesters : List Principal) (r : Principal) → member r requesters ≡ true → member r (enter_all names requesters) ≡ true
asked-covers names requesters r m =
    member-find r requesters m (λ q i e. member-same r q (enter_all names requesters) e ∙ enter-all-member names requesters q i)

-- the rows are filled, every requester is a name, and the marks are the names' in order, then nothing up to a width
pub record Stock (width : ℕ) (requesters : List Principal) (top : ℕ) (direct authors conds ends code : List ℕ) (l : List Assertion) (names : List Principal) : Type 0 where
  pub filling : Filling names authors conds ends code (map (asking requesters) names) l requesters top
  pub covers : (r : Principal) → member r requesters ≡ true → member r names ≡ true
  pub marks : direct ≡ map (asking requesters) names ++ replicate (width - length names) 0

module _ {width : ℕ} {requesters : List Principal} {top : ℕ} {direct authors conds ends code : List ℕ} {l : List Assertion} where
  -- a principal that is new is no requester
  stock-new : (names : List Principal) → Stock width requesters top direct authors conds ends code l names → (p : Principal) → member p names ≡ false → length names < most_principals → length names < width
      → Stock width requesters top direct authors conds ends code l (names ++ (p ∷ []))
  stock-new names k p n h wide = record {
    filling = subst (λ (m : List ℕ). Filling (names ++ (p ∷ [])) authors conds ends code m l requesters top) (sym (map_snoc (asking requesters) names p))
        (fill-name names authors conds ends code (map (asking requesters) names) l requesters top k.filling p n h);
    covers = λ r m. member-left r names (p ∷ []) (k.covers r m);
    marks =
        let none : asking requesters p ≡ 0 = split (member p requesters) (λ e. clash (k.covers p e) n) (λ e. rw e) in
        let z : width - length names ≡ suc (width - length (names ++ (p ∷ []))) = omega (arith, wide, length-append names (p ∷ [])) in
        let w : map (asking requesters) (names ++ (p ∷ [])) ≡ map (asking requesters) names ++ (0 ∷ [])
        = map_snoc (asking requesters) names p ∙ ap (λ (v : ℕ). map (asking requesters) names ++ (v ∷ [])) none in
        k.marks ∙ ap (λ (v : ℕ). map (asking requesters) names ++ replicate v 0) z
        ∙ sym (append_snoc (map (asking requesters) names) 0 (replicate (width - length (names ++ (p ∷ []))) 0))
        ∙ ap (λ (v : List ℕ). v ++ replicate (width - length (names ++ (p ∷ []))) 0) (sym w);
  }

  -- principals entered
  pub stock-all : (names ps : List Principal) → length names + length ps ≤ most_principals → length names + length ps ≤ width → Stock width requesters top direct authors conds ends code l names
      → Stock width requesters top direct authors conds ends code l (enter_all names ps)
  unfolding enter_all enter
  stock-all names [] h w k = k
  stock-all names (p ∷ ps) h w k = split (member p names)
      (λ e. rw e (stock-all names ps (omega (arith, h)) (omega (arith, w)) k))
      (λ e. rw e (stock-all (names ++ (p ∷ [])) ps (omega (arith, h, length-append names (p ∷ []))) (omega (arith, w, length-append names (p ∷ []))) (stock-new names k p e (omega (arith, h)) (omega (arith, w)))))

  -- a row more
  pub stock-row : {names : List Principal} → Stock width requesters top direct authors conds ends code l names → (a : Assertion) → member a.authorizer names ≡ true
      → ((q : Principal) → Mem q (licensees a.field) → member q names ≡ true) → ((e : Expression) → a.field ≡ given e → Formed e)
      → length (licensees a.field) ≤ most_licensees → length authors < most_assertions → (authors' conds' ends' code' : List ℕ)
      → authors' ≡ authors ++ (place names a.authorizer ∷ []) → conds' ≡ conds ++ (a.conditions ∷ [])
      → ends' ≡ ends ++ ((length code + length (compiled names a.field)) ∷ []) → code' ≡ code ++ compiled names a.field
      → Stock width requesters top direct authors' conds' ends' code' (l ++ (a ∷ [])) names
  stock-row {names} k a known listed formed few h authors' conds' ends' code' ae ce de ke = rw (ae, ce, de, ke) record {
    filling = fill-row names authors conds ends code (map (asking requesters) names) l requesters top k.filling a known listed formed few h;
    covers = k.covers;
    marks = k.marks;
  }
