-- What is found, and the work of finding it: the held entries up to it, at most 64. Assumes nothing.
use Rattle.std.specs.Prelude.{◌≡◌, refl, true, false, List, [], ◌∷◌, ℕ, suc, ◌+◌, ◌≤◌, eqb, length, get_or, take}
use Rattle.std.proofs.Common.{ap, subst, arith, eqb-true}
use Rattle.text.specs.Choice.{pick, split}
use Rattle.register.specs.Limits.{most_principals}
use Rattle.register.specs.Entries.{Entry, free, held, known, moves_of, principals, replaced}
use Rattle.register.specs.Find.{walk, find}
use Rattle.register.specs.Theorems.Entries.{principals-most}
use Rattle.register.specs.declared.Found.{Found}
use Rattle.register.specs.declared.Found.TheVariants.{At, Missing}

-- a principal stands k places from the walk's start, nobody before it is it, and v held entries were compared
pub record Stands (es : List Entry) (x k v : ℕ) : Type 0 where
  pub entry : get_or es k free ≡ held x (moves_of x es)
  pub known-here : known x es ≡ true
  pub new : known x (take k es) ≡ false
  pub work : v ≡ principals (take (suc k) es)
  pub most : v ≤ principals es

-- what a walk from place i with work w tells
pub data Walked (es : List Entry) (x i w : ℕ) : Found → Type 0 where
  stands : (k v : ℕ) {j u : ℕ} → j ≡ i + k → u ≡ w + v → Stands es x k v → Walked es x i w (At j u)
  nowhere : {u : ℕ} → u ≡ w + principals es → known x es ≡ false → Walked es x i w (Missing u)

past-free : (es : List Entry) (x i w : ℕ) (f : Found) → Walked es x (i + 1) w f → Walked (free ∷ es) x i w f
unfolding known moves_of principals
past-free es x i w (At j u) (stands k v a b s) =
    let e : j ≡ i + suc k = omega arith in
    stands (suc k) v e b (record { entry = s.entry; known-here = s.known-here; new = s.new; work = s.work; most = s.most })
past-free es x i w (Missing u) (nowhere a b) = nowhere a b

past-held : (es : List Entry) (x y m i w : ℕ) (f : Found) → eqb y x ≡ false → Walked es x (i + 1) (w + 1) f → Walked (held y m ∷ es) x i w f
unfolding known moves_of principals
past-held es x y m i w (At j u) t (stands k v a b s) =
    let e : j ≡ i + suc k = omega arith in
    let g : u ≡ w + (1 + v) = omega arith in
    let o : 1 + v ≡ 1 + principals (take (suc k) es) = ap (λ (n : ℕ). 1 + n) s.work in
    let l : 1 + v ≤ 1 + principals es = omega (arith, s.most) in
    let here : get_or es k free ≡ held x (pick (eqb y x) m (moves_of x es)) = rw t s.entry in
    let known' : pick (eqb y x) true (known x es) ≡ true = rw t s.known-here in
    let new' : pick (eqb y x) true (known x (take k es)) ≡ false = rw t s.new in
    stands (suc k) (1 + v) e g (record { entry = here; known-here = known'; new = new'; work = o; most = l })
past-held es x y m i w (Missing u) t (nowhere a b) =
    let e : u ≡ w + (1 + principals es) = omega arith in
    let k : pick (eqb y x) true (known x es) ≡ false = rw t b in nowhere e k

pub walked : (es : List Entry) (x i w : ℕ) → Walked es x i w (walk i w es x)
unfolding walk known moves_of principals
walked [] x i w = let e : w ≡ w + 0 = omega arith in nowhere e refl
walked (free ∷ es) x i w = past-free es x i w (walk (i + 1) w es x) (walked es x (i + 1) w)
walked (held y m ∷ es) x i w =
    split (eqb y x)
    (λ t. let s : y ≡ x = eqb-true y x t in
    let a : i ≡ i + 0 = omega arith in
    let b : w + 1 ≡ w + 1 = refl in
    let here : held y m ≡ held x (pick (eqb y x) m (moves_of x es)) = rw t (ap (λ (z : ℕ). held z m) s) in
    let known' : pick (eqb y x) true (known x es) ≡ true = rw t refl in
    let l : 1 ≤ 1 + principals es = omega arith in
    let g : Walked (held y m ∷ es) x i w (At i (w + 1))
    = stands 0 1 a b (record { entry = here; known-here = known'; new = refl; work = refl; most = l }) in rw t g)
    (λ t. rw t (past-held es x y m i w (walk (i + 1) (w + 1) es x) t (walked es x (i + 1) (w + 1))))

-- what is found, from the first place on
pub find-walked : (es : List Entry) (x : ℕ) → Walked es x 0 0 (find es x)
unfolding find
find-walked es x = walked es x 0 0

-- "its work"
abbrev pub work_of : Found → ℕ
work_of (At j v) = v
work_of (Missing v) = v

work-few : (es : List Entry) (x : ℕ) (f : Found) → Walked es x 0 0 f → work_of f ≤ principals es
work-few es x (At j u) (stands k v a b s) = omega (arith, s.most)
work-few es x (Missing u) (nowhere a b) = omega arith

-- "at most 64"
pub work-most : (es : List Entry) (x : ℕ) → length es ≡ most_principals → work_of (find es x) ≤ most_principals
work-most es x e = omega (arith, work-few es x (find es x) (find-walked es x), principals-most es)

-- the place found: the first that holds the principal, and the work counts the held entries up to it
pub find_at : (es : List Entry) (x i w : ℕ) → find es x ≡ At i w → Stands es x i w
find_at es x i w h = at-stands (subst (λ (f : Found). Walked es x 0 0 f) h (find-walked es x))
  where
    at-stands : Walked es x 0 0 (At i w) → Stands es x i w
    at-stands (stands k v a b s) =
        let e : k ≡ i = omega arith in
        let g : v ≡ w = omega arith in
        subst (λ (n : ℕ). Stands es x i n) g (subst (λ (n : ℕ). Stands es x n v) e s)

-- nobody found: the principal isn't held, and the work counts every held entry
pub find-missing : (es : List Entry) (x w : ℕ) → find es x ≡ Missing w → (known x es ≡ false) × (w ≡ principals es)
find-missing es x w h = missing-nowhere (subst (λ (f : Found). Walked es x 0 0 f) h (find-walked es x))
  where
    missing-nowhere : Walked es x 0 0 (Missing w) → (known x es ≡ false) × (w ≡ principals es)
    missing-nowhere (nowhere a b) = (b, omega arith)

-- other moves for somebody change nothing of what is found
walk-replaced : (x k : ℕ) (es : List Entry) (y i w : ℕ) → walk i w (replaced x (held x k) es) y ≡ walk i w es y
unfolding walk replaced
walk-replaced x k [] y i w = refl
walk-replaced x k (free ∷ es) y i w = walk-replaced x k es y (i + 1) w
walk-replaced x k (held z m ∷ es) y i w =
    split (eqb z x) (λ t. let s : z ≡ x = eqb-true z x t in rw t (rw s refl))
    (λ t. rw t (ap (λ (f : Found). pick (eqb z y) (At i (w + 1)) f) (walk-replaced x k es y (i + 1) (w + 1))))

pub find-replaced : (x k : ℕ) (es : List Entry) (y : ℕ) → find (replaced x (held x k) es) y ≡ find es y
unfolding find
find-replaced x k es y = walk-replaced x k es y 0 0
