-- Working definitions: an accepted query answered by the table of its places, and the ways out of the functions that do it. Assumes nothing.
use Rattle.std.specs.Prelude.{◌≡◌, refl, List, [], ℕ, zero, suc, ◌+◌, ◌-◌, ◌*◌, ◌/◌, ◌<◌, ◌≤◌, ltb, take, drop}
use Rattle.std.proofs.Common.{sym, ◌∙◌, arith, length-drop, drop_of_length-le, take_all}
use Rattle.std.proofs.Math.ListN.{length}
use borrow.Author.Tests.{lt-ltb, le-ltb}
use Rattle.text.specs.Choice.{pick}
use Rattle.compliance.specs.declared.Solution.{Solution}
use Rattle.system.specs.Working.Solving.{Solved, solved_by, solved_in}
use Rattle.keynote.specs.Outcome.{refused_with}
use Rattle.keynote.specs.declared.Outcome.{Outcome}

-- the entries from one to another
abbrev pub part_of : List ℕ → ℕ → ℕ → List ℕ
part_of table from to = take (to - from) (drop from table)

-- an outcome and the page
pub data Given : Type 0 where
  given_by : Outcome → List ℕ → Given

abbrev pub on_solved : Solved → Given
on_solved (solved_by r page) = given_by (record { number = 0; place = 0; rank = r.rank; rounds = r.rounds; reached = r.reached }) page

unfoldable pub answered_in : List ℕ → List ℕ → ℕ → ℕ → ℕ → ℕ → List ℕ → Given
answered_in s table values requesters attributes assertions page =
    pick (ltb (length page) (3 + 3 * length (part_of table attributes assertions))) (given_by (refused_with 9 0) page)
    (on_solved (solved_in s (part_of table 0 values) (part_of table values requesters) (part_of table requesters attributes) (part_of table attributes assertions) page))

take_none : (n : ℕ) → ◌≡◌ {A = List ℕ} [] (take n [])
take_none zero = refl
take_none (suc n) = refl

-- `refused`
pub refused-is : (n p : ℕ) → record { number = n; place = p; rank = 0; rounds = 0; reached = 0 } ≡ refused_with n p
unfolding refused_with
refused-is n p = refl

-- `part`
module _ (table : List ℕ) (from to : ℕ) where
  pub part_none : to ≤ from → [] ≡ part_of table from to
  part_none h = let z : to - from ≡ 0 = omega (arith, h) in rw z

  pub part-past : length table ≤ from → [] ≡ part_of table from to
  part-past h = rw (drop_of_length-le table h) (take_none (to - from))

  pub part-rest : from < to → length table < to → take (length table - from) (drop from table) ≡ part_of table from to
  part-rest h k =
      let l : length (drop from table) ≡ length table - from = length-drop from table in
      take_all (length table - from) (drop from table) (omega (arith, l)) ∙ sym (take_all (to - from) (drop from table) (omega (arith, l, k)))

-- `answered`
module _ (s table : List ℕ) (values requesters attributes assertions : ℕ) (page texts : List ℕ) (te : texts ≡ part_of table attributes assertions) where
  pub page-low : (r : Outcome) → length page < 3 → r ≡ refused_with 9 0 → given_by r page ≡ answered_in s table values requesters attributes assertions page
  unfolding answered_in
  page-low r h e = rw (e, ← te, lt-ltb (length page) (3 + 3 * length texts) (omega (arith, h)))

  module _ (three : 3 ≤ length page) where
    pub page-short : (r : Outcome) → (length page - 3) / 3 < length texts → r ≡ refused_with 9 0 → given_by r page ≡ answered_in s table values requesters attributes assertions page
    unfolding answered_in
    page-short r h e = rw (e, ← te, lt-ltb (length page) (3 + 3 * length texts) (omega (arith, h)))

    pub page-written : length texts ≤ (length page - 3) / 3 → (v r a : List ℕ) → v ≡ part_of table 0 values → r ≡ part_of table values requesters → a ≡ part_of table requesters attributes
        → (x : Solution) (out : List ℕ) → solved_by x out ≡ solved_in s v r a texts page
        → given_by (record { number = 0; place = 0; rank = x.rank; rounds = x.rounds; reached = x.reached }) out ≡ answered_in s table values requesters attributes assertions page
    unfolding answered_in
    page-written h v r a ve re ae x out e =
        let w : solved_by x out ≡ solved_in s (part_of table 0 values) (part_of table values requesters) (part_of table requesters attributes) (part_of table attributes assertions) page = e ∙ rw (ve, re, ae, te) in
        rw (← w, ← te, le-ltb (length page) (3 + 3 * length texts) (omega (arith, h)))
