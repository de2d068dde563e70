-- What putting a string into a buffer does: piece by piece it is the same, and the length stays. Assumes nothing.
use Rattle.std.specs.Prelude.{◌≡◌, List, [], ◌∷◌, ◌++◌, ℕ, suc, ◌+◌, ◌<◌, ◌≤◌, length, get_or, take, drop, set}
use Rattle.std.proofs.Common.{sym, ap, ◌∙◌, append_assoc, append-nil, arith, add-zero, add-one, length-append, length-take, length-drop, take-append-drop, take_at, take-suc, drop-drop, length-take-le}
use Rattle.std.proofs.Math.Seq.{drop-append-add, append_snoc}
use Rattle.std.proofs.lemmas.List.{set_at}
use Rattle.text.specs.Copy.{put}

pub put-nil : (d : List ℕ) (at : ℕ) → put d at [] ≡ d
unfolding put
put-nil d at = rw (add-zero at, append-nil (take at d)) (take-append-drop at d)

pub put-append : (d : List ℕ) (at : ℕ) (a b : List ℕ) → at ≤ length d → put d at (a ++ b) ≡ put (put d at a) (at + length a) b
unfolding put
put-append d at a b h =
    let l : length (take at d ++ a) ≡ at + length a = length-append (take at d) a ∙ ap (λ (n : ℕ). n + length a) (length-take-le at d h) in
    let t : take (at + length a) (take at d ++ a ++ drop (at + length a) d) ≡ take at d ++ a = take_at (take at d ++ a) (drop (at + length a) d) (at + length a) l in
    let k : at + length a + length b ≡ length (take at d ++ a) + length b = ap (λ (n : ℕ). n + length b) (sym l) in
    let u : drop (at + length a + length b) (take at d ++ a ++ drop (at + length a) d) ≡ drop (length b) (drop (at + length a) d)
    = ap (λ (n : ℕ). drop n (take at d ++ a ++ drop (at + length a) d)) k ∙ drop-append-add (take at d ++ a) (drop (at + length a) d) (length b) in
    let m : at + length a + length b ≡ at + length (a ++ b) = omega (arith, length-append a b) in
    let w : drop (length b) (drop (at + length a) d) ≡ drop (at + length (a ++ b)) d = drop-drop (length b) (at + length a) d ∙ ap (λ (n : ℕ). drop n d) m in
    rw (t, u, w) (ap (λ (x : List ℕ). x ++ drop (at + length (a ++ b)) d) (sym (append_assoc (take at d) a b)))

pub put-length : (d : List ℕ) (at : ℕ) (a : List ℕ) → at + length a ≤ length d → length (put d at a) ≡ length d
unfolding put
put-length d at a h = simp (length-append, length-take, length-drop) (omega arith)

-- one element more in front
pub put_front : (d : List ℕ) (at v : ℕ) (x : List ℕ) → at < length d → set (put d (at + 1) x) at v ≡ put d at (v ∷ x)
unfolding put
put_front d at v x h =
    let e : take (at + 1) d ≡ take at d ++ (get_or d at 0 ∷ []) = rw (add-one at) (take-suc d at 0 h) in
    let l : length (take at d) ≡ at = length-take-le at d (omega arith) in
    let k : at + 1 + length x ≡ at + suc (length x) = omega arith in
    rw (e, k, append_snoc (take at d) (get_or d at 0) x)
    (ap (λ (y : List ℕ). set y at v) (append_assoc (take at d) (get_or d at 0 ∷ x) (drop (at + suc (length x)) d))
    ∙ set_at (take at d) (get_or d at 0) (x ++ drop (at + suc (length x)) d) v at l
    ∙ sym (append_assoc (take at d) (v ∷ x) (drop (at + suc (length x)) d)))
