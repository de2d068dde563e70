-- Ranks rise from round to round, so a round may go on from the one before. Assumes nothing.
use Rattle.std.specs.Prelude.{◌≡◌, Bool, ltb, leb, length, get_or, set, take, drop, replicate}
use Rattle.std.proofs.Math.Path.{refl, sym}
use Rattle.std.proofs.Common.{ap, ◌∙◌, le_trans, le_refl, le_antisymm, length-set, get_or-set_same, ltb-true, ltb-false, leb-true, leb-false, le-leb}
use Rattle.std.proofs.Math.Bool.{true, false}
use mathlib.Core.List.{List, [], ◌∷◌, ◌++◌}
use Prim.Native.Nat.{ℕ, zero, suc, ◌+◌, ◌-◌, ◌/◌, ◌%◌, ◌≤◌, ◌<◌, max, zero-le}
use Rattle.std.proofs.Math.Nat.{sub-zero}
use native.Mathlib.Omega.{arith}
use Rattle.std.proofs.Math.Numerals.{add-one}
use Rattle.std.proofs.Math.Dec.{eqb}
use Rattle.std.proofs.lemmas.List.{length-replicate, set-get_or}
use Rattle.std.proofs.Math.Seq.{set_out}
use Rattle.text.specs.Choice.{split}
use Rattle.compliance.specs.Highest.{highest, at_least}
use Rattle.compliance.specs.Codes.{top_code, k_of_base, span}
use Rattle.compliance.specs.Tables.{program_of}
use Rattle.compliance.specs.Theorems.Highest.{highest-count, count-highest}
use Rattle.compliance.specs.Working.Machine.{pushed, combined, stepped, exec, last_of, worth}
use Rattle.compliance.specs.Working.Tables.{one_less}
use Rattle.compliance.specs.Working.Rounds.{granted_of, raised, changes_of, Settled, settled_at, Advanced, relaxed_at, relax_from, round_on, settle_on}

-- number by number no more
pub data Below : List ℕ → List ℕ → Type 0 where
  b[] : Below [] []
  b∷ : {x y : ℕ} {xs ys : List ℕ} → x ≤ y → Below xs ys → Below (x ∷ xs) (y ∷ ys)

below-refl : (l : List ℕ) → Below l l
below-refl [] = b[]
below-refl (x ∷ l) = b∷ (le_refl x) (below-refl l)

below-trans : {a b c : List ℕ} → Below a b → Below b c → Below a c
below-trans b[] u = u
below-trans (b∷ h t) (b∷ g u) = b∷ (le_trans h g) (below-trans t u)

below-antisym : {a b : List ℕ} → Below a b → Below b a → a ≡ b
below-antisym b[] u = refl
below-antisym (b∷ h t) (b∷ g u) = rw (le_antisymm h g, below-antisym t u)

below-long : {a b : List ℕ} → Below a b → length a ≡ length b
below-long b[] = refl
below-long (b∷ h t) = ap suc (below-long t)

below-get_d : {a b : List ℕ} → Below a b → (i : ℕ) → get_or a i 0 ≤ get_or b i 0
below-get_d b[] i = zero-le
below-get_d (b∷ h t) zero = h
below-get_d (b∷ h t) (suc i) = below-get_d t i

below_set : {a b : List ℕ} → Below a b → (i v w : ℕ) → v ≤ w → Below (set a i v) (set b i w)
below_set b[] i v w l = b[]
below_set (b∷ h t) zero v w l = b∷ l t
below_set (b∷ h t) (suc i) v w l = b∷ h (below_set t i v w l)

below-raise : (l : List ℕ) (i v : ℕ) → get_or l i 0 ≤ v → Below l (set l i v)
below-raise [] i v h = b[]
below-raise (x ∷ l) zero v h = b∷ h (below-refl l)
below-raise (x ∷ l) (suc i) v h = b∷ (le_refl x) (below-raise l i v h)

below-take : (n : ℕ) {a b : List ℕ} → Below a b → Below (take n a) (take n b)
below-take zero t = b[]
below-take (suc n) b[] = b[]
below-take (suc n) (b∷ h t) = b∷ h (below-take n t)

below-drop : (n : ℕ) {a b : List ℕ} → Below a b → Below (drop n a) (drop n b)
below-drop zero t = t
below-drop (suc n) b[] = b[]
below-drop (suc n) (b∷ h t) = below-drop n t

below-append : {a b c d : List ℕ} → Below a b → Below c d → Below (a ++ c) (b ++ d)
below-append b[] u = u
below-append (b∷ h t) u = b∷ h (below-append t u)

below-blank : (l : List ℕ) → Below (replicate (length l) 0) l
below-blank [] = b[]
below-blank (x ∷ l) = b∷ zero-le (below-blank l)

pub blank-long : (l d : List ℕ) → l ≡ replicate (length d) 0 → length l ≡ length d
blank-long l d e = ap length e ∙ length-replicate (length d) 0

-- ---- what a program of licensees leaves

count-below : (v : ℕ) {a b : List ℕ} → Below a b → at_least v a ≤ at_least v b
unfolding at_least
count-below v b[] = zero-le
count-below v (b∷ {x = x} {y = y} h t) =
    let ih = count-below v t in
    split (leb v x)
    (λ e. rw (e, le-leb v y (le_trans (leb-true v x e) h)) (omega arith))
    (λ e. rw e (omega arith))

highest-below : (k : ℕ) {a b : List ℕ} → Below a b → highest k a ≤ highest k b
unfolding highest
highest-below zero t = zero-le
highest-below (suc k) {a} {b} t = split (leb 1 (highest (suc k) a))
    (λ e. count-highest k (highest (suc k) a) b (le_trans (highest-count k (highest (suc k) a) a (leb-true 1 _ e) (le_refl _)) (count-below (highest (suc k) a) t)))
    (λ e. omega (arith, leb-false 1 (highest (suc k) a) e))

pushed-below : (depth v w : ℕ) {a b : List ℕ} → Below a b → v ≤ w → Below (pushed depth a v) (pushed depth b w)
unfolding pushed
pushed-below depth v w {a} {b} t h = rw (below-long t) (split (ltb (length b) depth)
    (λ e. rw e (below-append t (b∷ h b[])))
    (λ e. rw e t))

combined-below : (depth k n : ℕ) {a b : List ℕ} → Below a b → Below (combined depth k n a) (combined depth k n b)
unfolding combined
combined-below depth k n {a} {b} t = rw (below-long t) (pushed-below depth _ _ (below-take (length b - n) t) (highest-below k (below-drop (length b - n) t)))

module _ (r r' : List ℕ) (rises : Below r r') (top depth : ℕ) where
  stepped-below : (op : ℕ) {a b : List ℕ} → Below a b → Below (stepped r top depth op a) (stepped r' top depth op b)
  unfolding stepped
  stepped-below op t = split (ltb op top_code)
      (λ e. rw e (pushed-below depth _ _ t (below-get_d rises op)))
      (λ e. rw e (split (eqb op top_code)
      (λ f. rw f (pushed-below depth _ _ t (le_refl top)))
      (λ f. rw f (combined-below depth ((op - k_of_base) / span) ((op - k_of_base) % span) t))))

  exec-below : (prog : List ℕ) {a b : List ℕ} → Below a b → Below (exec r top depth prog a) (exec r' top depth prog b)
  unfolding exec
  exec-below [] t = t
  exec-below (op ∷ prog) t = exec-below prog (stepped-below op t)

  worth-below : (prog : List ℕ) → worth r top depth prog ≤ worth r' top depth prog
  unfolding worth last_of
  worth-below prog = let t = exec-below prog b[] in rw (below-long t) (below-get_d t _)

-- ---- a round

module _ (authors conds ends code : List ℕ) (top depth : ℕ) (reach : List ℕ) where
  relaxed-below : (r r' : List ℕ) → Below r r' → (j : ℕ) {x y : List ℕ} → Below x y
      → Below (relaxed_at authors conds ends code top depth reach r j x) (relaxed_at authors conds ends code top depth reach r' j y)
  unfolding relaxed_at raised granted_of
  relaxed-below r r' rises j t = split (eqb (get_or reach (get_or authors j 0) 0) 1)
      (λ e. rw e (below_set t (get_or authors j 0) _ _ (omega (arith, below-get_d t (get_or authors j 0), worth-below r r' rises top depth (program_of ends code j)))))
      (λ e. rw e t)

  relax-below : (r r' : List ℕ) → Below r r' → (k j : ℕ) {x y : List ℕ} → Below x y
      → Below (relax_from authors conds ends code top depth reach r k j x) (relax_from authors conds ends code top depth reach r' k j y)
  unfolding relax_from
  relax-below r r' rises zero j t = t
  relax-below r r' rises (suc k) j t = relax-below r r' rises k (suc j) (relaxed-below r r' rises j t)

  module _ (r : List ℕ) where
    relaxed-above : (j : ℕ) (x : List ℕ) → Below x (relaxed_at authors conds ends code top depth reach r j x)
    unfolding relaxed_at raised
    relaxed-above j x = split (eqb (get_or reach (get_or authors j 0) 0) 1)
        (λ e. rw e (below-raise x (get_or authors j 0) _ (omega arith)))
        (λ e. rw e (below-refl x))

    relax-above : (k j : ℕ) (x : List ℕ) → Below x (relax_from authors conds ends code top depth reach r k j x)
    unfolding relax_from
    relax-above zero j x = below-refl x
    relax-above (suc k) j x = below-trans (relaxed-above j x) (relax-above k (suc j) (relaxed_at authors conds ends code top depth reach r j x))

    -- what an assertion has raised it raises no further
    raise-again : (x m : List ℕ) (p g : ℕ) → Below (set x p (max (get_or x p 0) g)) m → set m p (max (get_or m p 0) g) ≡ m
    raise-again x m p g t = split (ltb p (length x))
        (λ e. let s : get_or (set x p (max (get_or x p 0) g)) p 0 ≡ max (get_or x p 0) g = get_or-set_same x p _ 0 (ltb-true p (length x) e) in
        let h : max (get_or m p 0) g ≡ get_or m p 0 = omega (arith, s, below-get_d t p) in
        rw h (set-get_or m p 0))
        (λ e. let l : length (set x p (max (get_or x p 0) g)) ≡ length m = below-long t in
        set_out m p _ (omega (arith, ltb-false p (length x) e, l, length-set x p (max (get_or x p 0) g))))

    relaxed-again : (j : ℕ) (x m : List ℕ) → Below (relaxed_at authors conds ends code top depth reach r j x) m
        → relaxed_at authors conds ends code top depth reach r j m ≡ m
    unfolding relaxed_at raised
    relaxed-again j x m t = split (eqb (get_or reach (get_or authors j 0) 0) 1)
        (λ e. rw e (raise-again x m (get_or authors j 0) (granted_of conds ends code top depth r j) (rw e at t)))
        (λ e. rw e)

    relax-again : (k j : ℕ) (x m : List ℕ) → Below (relax_from authors conds ends code top depth reach r k j x) m
        → relax_from authors conds ends code top depth reach r k j m ≡ m
    unfolding relax_from
    relax-again zero j x m t = refl
    relax-again (suc k) j x m t =
        let y = relaxed_at authors conds ends code top depth reach r j x in
        rw (relaxed-again j x m (below-trans (relax-above k (suc j) y) t)) (relax-again k (suc j) y m t)

  -- ---- rounds from a table of direct ranks on

  module _ (d : List ℕ) where
    -- the ranks are no more than those of the round after them, and the table for that round lies between the direct ranks and it
    pub record Rising (ranks next : List ℕ) : Type 0 where
      pub rises : Below ranks (round_on authors conds ends code top depth reach d ranks)
      pub low : Below d next
      pub high : Below next (round_on authors conds ends code top depth reach d ranks)

    pub rising-start : (ranks : List ℕ) → ranks ≡ replicate (length d) 0 → Rising ranks d
    unfolding round_on
    rising-start ranks e =
        let up = relax-above ranks (length authors) 0 d in
        record { rises = below-trans (rw e (below-blank d)) up; low = below-refl d; high = up }

    -- the table raised by every assertion is the round
    rising-round : (ranks next : List ℕ) → Rising ranks next
        → relax_from authors conds ends code top depth reach ranks (length authors) 0 next ≡ round_on authors conds ends code top depth reach d ranks
    unfolding round_on
    rising-round ranks next u =
        let same = below-refl ranks in
        let again = relax-again ranks (length authors) 0 d (relax_from authors conds ends code top depth reach ranks (length authors) 0 d) (below-refl _) in
        below-antisym
        (rw again at (relax-below ranks ranks same (length authors) 0 u.high))
        (relax-below ranks ranks same (length authors) 0 u.low)

    rising-next : (ranks next : List ℕ) → Rising ranks next
        → Rising (round_on authors conds ends code top depth reach d ranks) (round_on authors conds ends code top depth reach d ranks)
    unfolding round_on
    rising-next ranks next u =
        let up = relax-below ranks _ u.rises (length authors) 0 (below-refl d) in
        record { rises = up; low = relax-above ranks (length authors) 0 d; high = up }

    -- ---- `settle_on`

    pub settle-start : (limit : ℕ) (ranks : List ℕ) → settle_on authors conds ends code top depth reach d (limit - 0) 0 ranks ≡ settle_on authors conds ends code top depth reach d limit 0 ranks
    settle-start limit ranks = rw sub-zero

    module _ (limit m : ℕ) (ranks : List ℕ) (a : Settled) (inv : settle_on authors conds ends code top depth reach d (limit - m) m ranks ≡ a) where
      pub settle-end : limit ≤ m → m ≤ limit → settled_at limit ranks ≡ a
      unfolding settle_on
      settle-end h g = let e : m ≡ limit = omega arith in let z : limit - m ≡ 0 = omega arith in rw (← e) (rw z at inv)

      module _ (h : m < limit) (next : List ℕ) (u : Rising ranks next) (st : ℕ) (se : st ≡ depth)
          (z : List ℕ) (ze : z ≡ relax_from authors conds ends code top st reach ranks (length authors) 0 next) (c : Bool) (y : List ℕ) (adv : Advanced c y ranks z) where
        rounded : z ≡ round_on authors conds ends code top depth reach d ranks
        rounded = (rw se at ze) ∙ rising-round ranks next u

        told : c ≡ eqb (changes_of ranks (round_on authors conds ends code top depth reach d ranks)) 0
        told = adv.told ∙ ap (λ (x : List ℕ). eqb (changes_of ranks x) 0) rounded

        pub settle-on : Rising y z
        settle-on = rw (adv.ranks, rounded) (rising-next ranks next u)

        pub settle-stop : c ≡ true → settled_at m y ≡ a
        unfolding settle_on
        settle-stop q =
            let t : eqb (changes_of ranks (round_on authors conds ends code top depth reach d ranks)) 0 ≡ true = sym told ∙ q in
            rw (adv.ranks, rounded) (rw (one_less limit m h, t) at inv)

        pub settle-more : c ≡ false → settle_on authors conds ends code top depth reach d (limit - (m + 1)) (m + 1) y ≡ a
        unfolding settle_on
        settle-more q =
            let t : eqb (changes_of ranks (round_on authors conds ends code top depth reach d ranks)) 0 ≡ false = sym told ∙ q in
            rw (adv.ranks, rounded, add-one m) (rw (one_less limit m h, t, add-one m) at inv)
