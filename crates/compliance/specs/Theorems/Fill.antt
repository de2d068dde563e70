-- How tables are filled from left to right: what was entered stays as principals, rows and code are added. Assumes nothing.
use Rattle.std.specs.Prelude.{◌≡◌, refl, true, false, ℕ, suc, ◌+◌, ◌-◌, ◌≤◌, ◌<◌, eqb, ltb, length, get_or, drop}
use Rattle.std.proofs.Common.{sym, ap, ap₂, ◌∙◌, ⊎_elim, arith, le_refl, length-append, length-drop, ltb-false, le-ltb}
use mathlib.Core.List.Memᴰ
use mathlib.Core.List.Memᴰ.{head as here}
use mathlib.Core.List.Memᴰ.{tail as there}
use mathlib.Core.List.{List, [], ◌∷◌, ◌++◌, map, Memᴰ as Mem}
use Rattle.std.proofs.Math.ListN.{get_or-append}
use Rattle.std.proofs.lemmas.List.{take-append-le, drop-append-le}
use Rattle.std.proofs.Math.Seq.{get_or-append_seam, drop-append_seam, take-length}
use Rattle.text.specs.Choice.{split, clash}
use Rattle.principal.specs.Principal.{Principal, same, same_refl}
use Rattle.principal.specs.Members.{member, member-none, member-here, member-there, member-cases, member-left}
use Rattle.compliance.specs.Licensees.{Expression, name, and, or, k_of, Licensees, missing, empty, given, named, licensees}
use Rattle.compliance.specs.System.{Assertion}
use Rattle.principal.specs.Places.{place}
use Rattle.compliance.specs.Tables.{compile, compiled, start_of, program_of, Row}

-- a principal that is not in the list has the next free index, and gets it when it is added
pub place-absent : (names : List Principal) (p : Principal) → member p names ≡ false → place names p ≡ length names
unfolding place
place-absent [] p i = refl
place-absent (q ∷ names) p i = split (same p q)
    (λ e. clash (member-here p q names e) i)
    (λ e. rw e (ap suc (place-absent names p (split (member p names) (λ k. clash (member-there p q names k) i) (λ k. k)))))

pub place-added : (names : List Principal) (p : Principal) → member p names ≡ false → place (names ++ (p ∷ [])) p ≡ length names
unfolding place
place-added [] p i = split (same p p) (λ e. rw e) (λ e. clash (same_refl p) e)
place-added (q ∷ names) p i = split (same p q)
    (λ e. clash (member-here p q names e) i)
    (λ e. rw e (ap suc (place-added names p (split (member p names) (λ k. clash (member-there p q names k) i) (λ k. k)))))

-- an index stays
pub place-stays : (names more : List Principal) (p : Principal) → member p names ≡ true → place (names ++ more) p ≡ place names p
unfolding place
place-stays [] more p i = member-none p i
place-stays (q ∷ names) more p i = split (same p q)
    (λ e. rw e)
    (λ e. rw e (ap suc (place-stays names more p (⊎_elim (λ x. clash x e) (λ x. x) (member-cases p q names i)))))

-- so do the indices of a list, and the program of an expression
pub places-stay : (names more ps : List Principal) → ((p : Principal) → Mem p ps → member p names ≡ true) → map (place (names ++ more)) ps ≡ map (place names) ps
places-stay names more [] h = refl
places-stay names more (p ∷ ps) h = ap₂ ◌∷◌ (place-stays names more p (h p (here refl))) (places-stay names more ps (λ q m. h q (there m)))

pub compile-stays : (names more : List Principal) (e : Expression) → ((p : Principal) → Mem p (named e) → member p names ≡ true) → compile (names ++ more) e ≡ compile names e
unfolding compile named
compile-stays names more (name p) h = ap (λ (i : ℕ). i ∷ []) (place-stays names more p (h p (here refl)))
compile-stays names more (and a b) h =
    rw (compile-stays names more a (λ p m. h p (Memᴰ.append_left (named b) m)), compile-stays names more b (λ p m. h p (Memᴰ.append_right (named a) m)))
compile-stays names more (or a b) h =
    rw (compile-stays names more a (λ p m. h p (Memᴰ.append_left (named b) m)), compile-stays names more b (λ p m. h p (Memᴰ.append_right (named a) m)))
compile-stays names more (k_of k ps) h = rw (places-stay names more ps h)

-- a field's program stays
pub compiled-stays : (names more : List Principal) (f : Licensees) → ((p : Principal) → Mem p (licensees f) → member p names ≡ true) → compiled (names ++ more) f ≡ compiled names f
unfolding compiled licensees
compiled-stays names more missing h = refl
compiled-stays names more empty h = refl
compiled-stays names more (given e) h = compile-stays names more e h

start-stays : (ends more : List ℕ) (j : ℕ) → j < length ends → start_of (ends ++ more) j ≡ start_of ends j
unfolding start_of
start-stays ends more j h = split (eqb j 0) (λ e. rw e) (λ e. rw e (get_or-append ends more 0 (j - 1) (omega arith)))

-- the program of a row stays, as ends and code are added
pub program-stays : (ends code ends' code' : List ℕ) (j : ℕ) → j < length ends → get_or ends j 0 ≤ length code → program_of (ends ++ ends') (code ++ code') j ≡ program_of ends code j
unfolding program_of
program-stays ends code ends' code' j h k =
    let e : get_or (ends ++ ends') j 0 ≡ get_or ends j 0 = get_or-append ends ends' 0 j h in
    let l : get_or ends j 0 ≤ length (code ++ code') = rw length-append (omega arith) in
    rw (e, start-stays ends ends' j h, le-ltb (length code) (get_or ends j 0) k)
    (split (ltb (get_or ends j 0) (start_of ends j))
    (λ t. rw t)
    (λ t. let u : start_of ends j ≤ get_or ends j 0 = ltb-false _ _ t in
    rw (t, le-ltb (length (code ++ code')) (get_or ends j 0) l, drop-append-le (start_of ends j) code code' (omega arith))
    (take-append-le (get_or ends j 0 - start_of ends j) (drop (start_of ends j) code) code' (rw length-drop (omega arith)))))

-- a row stays, as principals are added and tables keep what they say of it
pub row_stays : (names more : List Principal) (authors authors' conds conds' ends ends' code code' : List ℕ) (j : ℕ) (a : Assertion)
    → get_or authors' j 0 ≡ get_or authors j 0 → get_or conds' j 0 ≡ get_or conds j 0 → program_of ends' code' j ≡ program_of ends code j
    → Row names authors conds ends code j a → Row (names ++ more) authors' conds' ends' code' j a
row_stays names more authors authors' conds conds' ends ends' code code' j a ha hc hp w = record {
  author = ha ∙ w.author ∙ sym (place-stays names more a.authorizer w.known);
  known = member-left a.authorizer names more w.known;
  condition = hc ∙ w.condition;
  program = hp ∙ w.program ∙ sym (compiled-stays names more a.field w.listed);
  listed = λ q m. member-left q names more (w.listed q m);
  formed = w.formed;
  few = w.few;
}

-- a program put behind the others, and its end behind the other ends, is the next row's
pub program-added : (ends code prog : List ℕ) → start_of (ends ++ ((length code + length prog) ∷ [])) (length ends) ≡ length code
    → program_of (ends ++ ((length code + length prog) ∷ [])) (code ++ prog) (length ends) ≡ prog
unfolding program_of
program-added ends code prog h =
    let e : get_or (ends ++ ((length code + length prog) ∷ [])) (length ends) 0 ≡ length code + length prog = get_or-append_seam ends (length code + length prog) [] 0 in
    let n : length code + length prog - length code ≡ length prog = omega arith in
    let u : length code ≤ length code + length prog = omega arith in
    rw (e, h, le-ltb (length code + length prog) (length code) u, length-append, le-ltb (length code + length prog) (length code + length prog) (le_refl _), n, drop-append_seam code prog)
    (take-length prog)
