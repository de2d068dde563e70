-- Every page holds finished entries and a rest in one way, which the walk finds. Assumes nothing.
use Rattle.std.specs.Prelude.{◌≡◌, refl, List, [], ◌∷◌, ◌++◌, ℕ, suc, ◌+◌, ◌-◌, ◌*◌, ◌<◌, ◌≤◌, length, get_or, take, drop}
use Rattle.std.proofs.Common.{sym, ap, ◌∙◌, append_assoc, arith, length-take, length-drop, length-append, take-append-drop, drop-cons, drop-drop, get_or-drop}
use Rattle.std.proofs.Math.Seq.{get_or-append_seam}
use Rattle.text.specs.Choice.{clash}
use Rattle.text.specs.Counted.{part, pair_at}
use Rattle.journal.specs.Page.{closing, Entry, Entries, e[], e∷, Unfinished, Content}
use Rattle.journal.specs.Working.Walk.{entries, end_at, rest_of}
use Rattle.journal.specs.Working.Walks.{Finished, facts-finished, Walk, w[], w∷, walk-in, stops-in}

-- ---- a page holds what the walk finds

-- the bytes of the entry at a place
abbrev bytes_at : List ℕ → ℕ → List ℕ
bytes_at p at = get_or p at 0 ∷ get_or p (at + 1) 0 ∷ (part p (at + 2) (pair_at p at) ++ (closing ∷ []))

part-long : (p : List ℕ) (at : ℕ) → Finished p at → length (part p (at + 2) (pair_at p at)) ≡ pair_at p at
unfolding part
part-long p at f =
    let w : at + pair_at p at + 3 ≤ length p = f.within in
    omega (arith, length-take (pair_at p at) (drop (at + 2) p), length-drop (at + 2) p)

entry_at : (p : List ℕ) (at : ℕ) → Finished p at → Entry (bytes_at p at) (part p (at + 2) (pair_at p at))
unfolding pair_at
entry_at p at f =
    record {
      high = get_or p at 0;
      low = get_or p (at + 1) 0;
      spelled = refl;
      measured = sym (part-long p at f);
      some = omega (arith, part-long p at f, f.above);
    }

drop-to : (p : List ℕ) (i j : ℕ) → i < length p → suc i ≡ j → drop i p ≡ get_or p i 0 ∷ drop j p
drop-to p i j h e = drop-cons p i 0 h ∙ ap (λ (k : ℕ). get_or p i 0 ∷ drop k p) e

entry-drop : (p : List ℕ) (at : ℕ) → Finished p at → drop at p ≡ bytes_at p at ++ drop (at + pair_at p at + 3) p
unfolding part
entry-drop p at f =
    let w : at + pair_at p at + 3 ≤ length p = f.within in
    let n : at + 2 + pair_at p at ≡ at + pair_at p at + 2 = omega arith in
    let a : drop at p ≡ get_or p at 0 ∷ drop (at + 1) p = drop-to p at (at + 1) (omega arith) (omega arith) in
    let b : drop (at + 1) p ≡ get_or p (at + 1) 0 ∷ drop (at + 2) p = drop-to p (at + 1) (at + 2) (omega arith) (omega arith) in
    let d : drop (at + 2) p ≡ take (pair_at p at) (drop (at + 2) p) ++ drop (at + pair_at p at + 2) p
    = sym (take-append-drop (pair_at p at) (drop (at + 2) p))
    ∙ ap (λ (s : List ℕ). take (pair_at p at) (drop (at + 2) p) ++ s) (drop-drop (pair_at p at) (at + 2) p ∙ ap (λ (k : ℕ). drop k p) n) in
    let e : drop (at + pair_at p at + 2) p ≡ closing ∷ drop (at + pair_at p at + 3) p
    = drop-to p (at + pair_at p at + 2) (at + pair_at p at + 3) (omega arith) (omega arith)
    ∙ ap (λ (x : ℕ). x ∷ drop (at + pair_at p at + 3) p) f.closed in
    a ∙ ap (λ (s : List ℕ). get_or p at 0 ∷ s) (b ∙ ap (λ (s : List ℕ). get_or p (at + 1) 0 ∷ s)
    (d ∙ ap (λ (s : List ℕ). take (pair_at p at) (drop (at + 2) p) ++ s) e
    ∙ sym (append_assoc (take (pair_at p at) (drop (at + 2) p)) (closing ∷ []) (drop (at + pair_at p at + 3) p))))

-- the bytes of a walk are finished entries
record Fronted (p : List ℕ) (at : ℕ) (l : List (List ℕ)) (e : ℕ) : Type 0 where
  pub front : List ℕ
  pub finished : Entries front l
  pub bytes : drop at p ≡ front ++ drop e p

walk-fronted : {p : List ℕ} {at e : ℕ} {l : List (List ℕ)} → Walk p at l e → Fronted p at l e
walk-fronted w[] = record { front = []; finished = e[]; bytes = refl }
walk-fronted {p} {at} {e} (w∷ {x = x} {l = l} f xe w) =
    let i = walk-fronted w in
    let y : Entry (bytes_at p at) x = subst-entry p at x xe (entry_at p at f) in
    record {
      front = bytes_at p at ++ i.front;
      finished = e∷ {e = bytes_at p at} {a = x} {s = i.front} {l = l} y i.finished;
      bytes = entry-drop p at f ∙ ap (λ (s : List ℕ). bytes_at p at ++ s) i.bytes ∙ sym (append_assoc (bytes_at p at) i.front (drop e p));
    }
  where
    subst-entry : (p : List ℕ) (at : ℕ) (x : List ℕ) → part p (at + 2) (pair_at p at) ≡ x → Entry (bytes_at p at) (part p (at + 2) (pair_at p at))
        → Entry (bytes_at p at) x
    subst-entry p at x e y = rw (sym e) y

-- an entry at the front of what lies from a place on is a finished one at the place
drop-finished : (p : List ℕ) (at : ℕ) (e a t : List ℕ) → Entry e a → drop at p ≡ e ++ t → Finished p at
unfolding pair_at
drop-finished p at e a t y h =
    let s : drop at p ≡ y.high ∷ y.low ∷ ((a ++ (closing ∷ [])) ++ t) = h ∙ ap (λ (z : List ℕ). z ++ t) y.spelled in
    let o : at ≡ at + 0 = omega arith in
    let u : get_or p at 0 ≡ y.high = ap (λ (k : ℕ). get_or p k 0) o ∙ sym (get_or-drop at p 0 0) ∙ ap (λ (z : List ℕ). get_or z 0 0) s in
    let v : get_or p (at + 1) 0 ≡ y.low = sym (get_or-drop at p 1 0) ∙ ap (λ (z : List ℕ). get_or z 1 0) s in
    let n : get_or p at 0 * 256 + get_or p (at + 1) 0 ≡ length a = (rw (u, v) y.measured) in
    let l : length p - at ≡ suc (suc (length ((a ++ (closing ∷ [])) ++ t))) = sym (length-drop at p) ∙ ap length s in
    let k : length p - at ≡ length a + 3 + length t = omega (arith, l, length-append (a ++ (closing ∷ [])) t, length-append a (closing ∷ [])) in
    let i : at + length a + 2 ≡ at + suc (suc (length a)) = omega arith in
    let c : get_or p (at + length a + 2) 0 ≡ closing
    = ap (λ (m : ℕ). get_or p m 0) i ∙ sym (get_or-drop at p (suc (suc (length a))) 0) ∙ ap (λ (z : List ℕ). get_or z (suc (suc (length a))) 0) s
    ∙ ap (λ (z : List ℕ). get_or z (length a) 0) (append_assoc a (closing ∷ []) t) ∙ get_or-append_seam a closing t 0 in
    record { above = rw n y.some; within = rw n (omega (arith, k)); closed = rw n c }

pub content-walk : (p : List ℕ) → Content p (entries p) (rest_of p)
unfolding entries end_at rest_of
content-walk p =
    let i = walk-fronted (walk-in (length p - 1) p 1) in
    record {
      front = i.front;
      entries = i.finished;
      bytes = i.bytes;
      ends = λ e a t y h. clash (facts-finished p _ (drop-finished p _ e a t y h)) (stops-in (length p - 1) p 1 (omega arith));
    }

-- ---- it holds nothing else

append-same : (x u y v : List ℕ) → length x ≡ length u → x ++ y ≡ u ++ v → (x ≡ u) × (y ≡ v)
append-same [] [] y v l h = (refl, h)
append-same [] (b ∷ u) y v l h = let no : ⊥ = omega (arith, l) in absurd no
append-same (a ∷ x) [] y v l h = let no : ⊥ = omega (arith, l) in absurd no
append-same (a ∷ x) (b ∷ u) y v l h =
    let i = append-same x u y v (omega (arith, l)) (cc) in
    let z : a ≡ b = cc in
    (rw (z, i.0) refl, i.1)

entry-same : (e d a b x y : List ℕ) → Entry e a → Entry d b → e ++ x ≡ d ++ y → (a ≡ b) × (x ≡ y)
entry-same e d a b x y f g h =
    let s : f.high ∷ f.low ∷ ((a ++ (closing ∷ [])) ++ x) ≡ g.high ∷ g.low ∷ ((b ++ (closing ∷ [])) ++ y)
    = sym (ap (λ (z : List ℕ). z ++ x) f.spelled) ∙ h ∙ ap (λ (z : List ℕ). z ++ y) g.spelled in
    let u : f.high ≡ g.high = cc in
    let v : f.low ≡ g.low = cc in
    let t : (a ++ (closing ∷ [])) ++ x ≡ (b ++ (closing ∷ [])) ++ y = cc in
    let l : length a ≡ length b = sym f.measured ∙ (rw (u, v) g.measured) in
    let k : length (a ++ (closing ∷ [])) ≡ length (b ++ (closing ∷ [])) = omega (arith, length-append a (closing ∷ []), length-append b (closing ∷ [])) in
    let i = append-same (a ++ (closing ∷ [])) (b ++ (closing ∷ [])) x y k t in
    ((append-same a b (closing ∷ []) (closing ∷ []) l i.0).0, i.1)

entries-only : {s t u v : List ℕ} {l m : List (List ℕ)} → Entries s l → Entries t m → Unfinished u → Unfinished v → s ++ u ≡ t ++ v
    → (l ≡ m) × (u ≡ v)
entries-only e[] e[] p q h = (refl, h)
entries-only {u = u} {v = v} e[] (e∷ {e = e} {a = a} {s = s} y w) p q h = absurd (p e a (s ++ v) y (h ∙ append_assoc e s v))
entries-only {u = u} {v = v} (e∷ {e = e} {a = a} {s = s} y w) e[] p q h = absurd (q e a (s ++ u) y (sym h ∙ append_assoc e s u))
entries-only {u = u} {v = v} (e∷ {e = e} {a = a} {s = s} {l = l} y w) (e∷ {e = d} {a = b} {s = t} {l = m} z x) p q h =
    let i = entry-same e d a b (s ++ u) (t ++ v) y z (sym (append_assoc e s u) ∙ h ∙ append_assoc d t v) in
    let j = entries-only w x p q i.1 in
    (rw (i.0, j.0) refl, j.1)

-- the entries and the rest of a page are determined
pub content-only : {p u v : List ℕ} {l m : List (List ℕ)} → Content p l u → Content p m v → (l ≡ m) × (u ≡ v)
content-only c d = entries-only c.entries d.entries c.ends d.ends (sym c.bytes ∙ d.bytes)

-- so they are those that the walk finds
pub content-is : (p : List ℕ) {l : List (List ℕ)} {u : List ℕ} → Content p l u → (l ≡ entries p) × (u ≡ rest_of p)
content-is p c = content-only c (content-walk p)
