-- Tables filled step by step: a principal more, a row more. What is reached at each step represents the assertions read so far.
-- Assumes nothing.
use Rattle.std.specs.Prelude.{◌≡◌, refl, true, false, ◌⊎◌, ℕ, zero, suc, ◌+◌, ◌-◌, ◌≤◌, ◌<◌, eqb, ltb, get_or}
use Rattle.std.proofs.Math.Path.{sym, ap}
use Rattle.std.proofs.Common.{◌∙◌, inl, inr, zero-le}
use Rattle.std.proofs.Math.Logic.{⊎_elim}
use Rattle.std.proofs.Math.Option.{some}
use mathlib.Core.List.{List, [], ◌∷◌, ◌++◌, map, append-nil, Memᴰ as Mem}
use native.Mathlib.Omega.{arith}
use Rattle.std.proofs.Math.ListN.{length, get_elem?, length-append, get_or-append, get_or-eq_default}
use Rattle.std.proofs.Math.Seq.{get_or-append_seam, get_or_at}
use borrow.Author.Tests.{ltb-true, ltb-false, eqb-true, eqb-false, ne_eqb}
use Rattle.text.specs.Choice.{pick, split}
use Rattle.principal.specs.Principal.{Principal, policy, same_refl}
use Rattle.principal.specs.Members.{member, d[], d∷, member-here, member-left}
use Rattle.compliance.specs.Licensees.{Expression, given, licensees}
use Rattle.compliance.specs.System.{Assertion, System}
use Rattle.limits.specs.Limits.{most_assertions, most_licensees, most_principals}
use Rattle.principal.specs.Places.{place}
use Rattle.compliance.specs.Tables.{compiled, start_of, program_of, Formed, Row, Represents}
use Rattle.principal.specs.Theorems.Added.{distinct-added}
use Rattle.compliance.specs.Theorems.Fill.{place-stays, program-stays, program-added, row_stays}

-- the system of assertions read, requesters and the highest rank
abbrev pub reading : List Assertion → List Principal → ℕ → System
reading l requesters top = record { assertions = l; requesters = requesters; top = top }

-- the entry of q in the table of requesters
abbrev pub asking : List Principal → Principal → ℕ
asking requesters q = pick (member q requesters) 1 0

-- tables that represent what is read, and of which all ends and code are in use
pub record Filling (names : List Principal) (authors conds ends code direct : List ℕ) (l : List Assertion) (requesters : List Principal) (top : ℕ) : Type 0 where
  pub represents : Represents names authors conds ends code direct top (reading l requesters top)
  pub conds_long : length conds ≡ length authors
  pub ends_long : length ends ≡ length authors
  pub within : (j : ℕ) → get_or ends j 0 ≤ length code
  pub last : (e : ℕ) → start_of (ends ++ (e ∷ [])) (length ends) ≡ length code

map_snoc : (f : Principal → ℕ) (l : List Principal) (p : Principal) → map f (l ++ (p ∷ [])) ≡ map f l ++ (f p ∷ [])
map_snoc f [] p = refl
map_snoc f (q ∷ l) p = ap (λ (m : List ℕ). f q ∷ m) (map_snoc f l p)

at-below : (l : List Assertion) (j : ℕ) (b : Assertion) → get_elem? l j ≡ some b → j < length l
at-below [] j b e = absurd (let z : ◌≡◌ {A = ℕ} 0 1 = cc in omega arith)
at-below (a ∷ l) zero b e = omega arith
at-below (a ∷ l) (suc j) b e = omega (arith, at-below l j b e)

at_snoc : (l : List Assertion) (a : Assertion) (j : ℕ) (b : Assertion) → get_elem? (l ++ (a ∷ [])) j ≡ some b → (get_elem? l j ≡ some b) ⊎ ((j ≡ length l) × (b ≡ a))
at_snoc [] a zero b e = inr (refl, cc)
at_snoc [] a (suc j) b e = absurd (let z : ◌≡◌ {A = ℕ} 0 1 = cc in omega arith)
at_snoc (x ∷ l) a zero b e = inl e
at_snoc (x ∷ l) a (suc j) b e = ⊎_elim inl (λ k. inr (ap suc k.0, k.1)) (at_snoc l a j b e)

none-at : (j : ℕ) (b : Assertion) → get_elem? [] j ≡ some b → ⊥
none-at j b e = let z : ◌≡◌ {A = ℕ} 0 1 = cc in omega arith

first-place : (p : Principal) (l : List Principal) → place (p ∷ l) p ≡ 0
unfolding place
first-place p l = rw (same_refl p)

nobody : (p : Principal) → member p [] ≡ false
unfolding member
nobody p = refl

-- nothing read: POLICY alone
pub fill_start : (requesters : List Principal) (top : ℕ) → Filling (policy ∷ []) [] [] [] [] (asking requesters policy ∷ []) [] requesters top
unfolding start_of
fill_start requesters top = record {
  represents = record {
    distinct = d∷ (nobody policy) d[];
    rooted = member-here policy policy [] (same_refl policy);
    first = first-place policy [];
    counted = refl;
    rows = λ j a e. absurd (none-at j a e);
    asked = refl;
    topped = refl;
    few_names = omega arith;
    few_rows = omega arith;
  };
  conds_long = refl;
  ends_long = refl;
  within = λ j. zero-le;
  last = λ e. refl;
}

module _ (names : List Principal) (authors conds ends code direct : List ℕ) (l : List Assertion) (requesters : List Principal) (top : ℕ)
    (f : Filling names authors conds ends code direct l requesters top) where
  -- a principal that is new gets the next index
  pub fill-name : (p : Principal) → member p names ≡ false → length names < most_principals
      → Filling (names ++ (p ∷ [])) authors conds ends code (direct ++ (asking requesters p ∷ [])) l requesters top
  fill-name p n h =
      let r = f.represents in
      record {
        represents = record {
          distinct = distinct-added r.distinct p n;
          rooted = member-left policy names (p ∷ []) r.rooted;
          first = place-stays names (p ∷ []) policy r.rooted ∙ r.first;
          counted = r.counted;
          rows = λ j a e. row_stays names (p ∷ []) authors authors conds conds ends ends code code j a refl refl refl (r.rows j a e);
          asked = ap (λ (d : List ℕ). d ++ (asking requesters p ∷ [])) r.asked ∙ sym (map_snoc (asking requesters) names p);
          topped = refl;
          few_names = rw length-append (omega arith);
          few_rows = r.few_rows;
        };
        conds_long = f.conds_long;
        ends_long = f.ends_long;
        within = f.within;
        last = f.last;
      }

  -- an assertion whose principals have their indices gets the next row
  module _ (a : Assertion) (known : member a.authorizer names ≡ true) (listed : (q : Principal) → Mem q (licensees a.field) → member q names ≡ true)
      (formed : (e : Expression) → a.field ≡ given e → Formed e) (few : length (licensees a.field) ≤ most_licensees) where
    prog : List ℕ
    prog = compiled names a.field

    end : ℕ
    end = length code + length prog

    old_row : (j : ℕ) (b : Assertion) → get_elem? l j ≡ some b
        → Row names (authors ++ (place names a.authorizer ∷ [])) (conds ++ (a.conditions ∷ [])) (ends ++ (end ∷ [])) (code ++ prog) j b
    old_row j b e =
        let h = at-below l j b e in
        let n = f.represents.counted in
        let w = row_stays names [] authors (authors ++ (place names a.authorizer ∷ [])) conds (conds ++ (a.conditions ∷ [])) ends (ends ++ (end ∷ [])) code (code ++ prog) j b
        (get_or-append authors _ 0 j (omega arith))
        (get_or-append conds _ 0 j (omega (arith, f.conds_long)))
        (program-stays ends code (end ∷ []) prog j (omega (arith, f.ends_long)) (f.within j))
        (f.represents.rows j b e) in
        rw (append-nil names) at w

    new_row : Row names (authors ++ (place names a.authorizer ∷ [])) (conds ++ (a.conditions ∷ [])) (ends ++ (end ∷ [])) (code ++ prog) (length authors) a
    unfolding end prog
    new_row = record {
      author = get_or-append_seam authors (place names a.authorizer) [] 0;
      known = known;
      condition = get_or_at conds a.conditions [] 0 (length authors) f.conds_long;
      program = ap (program_of (ends ++ (end ∷ [])) (code ++ prog)) (sym f.ends_long) ∙ program-added ends code prog (f.last end);
      listed = listed;
      formed = formed;
      few = few;
    }

    within' : (j : ℕ) → get_or (ends ++ (end ∷ [])) j 0 ≤ length (code ++ prog)
    unfolding end
    within' j = rw length-append (split (ltb j (length ends))
        (λ e. rw (get_or-append ends (end ∷ []) 0 j (ltb-true _ _ e)) (omega (arith, f.within j)))
        (λ e. split (eqb j (length ends))
        (λ x. rw (eqb-true j (length ends) x, get_or-append_seam ends end [] 0) (omega arith))
        (λ x. let b : length (ends ++ (end ∷ [])) ≤ j = rw length-append (omega (arith, ltb-false j (length ends) e, eqb-false j (length ends) x)) in
        rw (get_or-eq_default (ends ++ (end ∷ [])) 0 b) zero-le)))

    last' : (e : ℕ) → start_of ((ends ++ (end ∷ [])) ++ (e ∷ [])) (length (ends ++ (end ∷ []))) ≡ length (code ++ prog)
    unfolding start_of end
    last' e =
        let n : length (ends ++ (end ∷ [])) ≡ length ends + 1 = length-append ends (end ∷ []) in
        let no : length (ends ++ (end ∷ [])) ≡ 0 → ⊥ = λ z. omega arith in
        let i : length (ends ++ (end ∷ [])) - 1 ≡ length ends = omega arith in
        rw (ne_eqb (length (ends ++ (end ∷ []))) 0 no, i, get_or-append (ends ++ (end ∷ [])) (e ∷ []) 0 (length ends) (omega arith), get_or-append_seam ends end [] 0)
        (sym (length-append code prog))

    pub fill-row : length authors < most_assertions
        → Filling names (authors ++ (place names a.authorizer ∷ [])) (conds ++ (a.conditions ∷ [])) (ends ++ ((length code + length (compiled names a.field)) ∷ []))
        (code ++ compiled names a.field) direct (l ++ (a ∷ [])) requesters top
    unfolding end prog
    fill-row h =
        let r = f.represents in
        record {
          represents = record {
            distinct = r.distinct;
            rooted = r.rooted;
            first = r.first;
            counted = length-append authors _ ∙ ap (λ (n : ℕ). n + 1) r.counted ∙ sym (length-append l (a ∷ []));
            rows = λ j b e. ⊎_elim (old_row j b) (λ k. let z : j ≡ length authors = k.0 ∙ sym r.counted in rw (z, k.1) new_row) (at_snoc l a j b e);
            asked = r.asked;
            topped = refl;
            few_names = r.few_names;
            few_rows = rw length-append (omega arith);
          };
          conds_long = rw (length-append, length-append) (omega (arith, f.conds_long));
          ends_long = rw (length-append, length-append) (omega (arith, f.ends_long));
          within = within';
          last = last';
        }
