-- Compiled licensees leave their value on the stack. Assumes nothing.
use Rattle.std.specs.Prelude.{◌≡◌, ℕ, ◌+◌, ◌-◌, ◌/◌, ◌%◌, ◌≤◌, ◌<◌, min, max, get_or}
use Rattle.std.proofs.Math.Path.{refl, sym, ap}
use Rattle.std.proofs.Common.{◌∙◌}
use mathlib.Core.List.Memᴰ
use mathlib.Core.List.Memᴰ.{head as here}
use mathlib.Core.List.Memᴰ.{tail as there}
use mathlib.Core.List.{List, [], ◌∷◌, ◌++◌, map, append_assoc, append-nil, Memᴰ as Mem}
use native.Mathlib.Omega.{arith}
use Rattle.std.proofs.Math.ListN.{length, length-append}
use Rattle.std.proofs.lemmas.List.{length-map}
use Rattle.std.proofs.Math.Seq.{take-append_seam, drop-append_seam, get_or-append_seam}
use borrow.Author.Tests.{lt-ltb, le-ltb, ne_eqb}
use Rattle.principal.specs.Principal.{Principal}
use Rattle.compliance.specs.Highest.{highest}
use Rattle.compliance.specs.Licensees.{Rank, Expression, Licensees, missing, empty, given, value, licensed, named, licensees}
use Rattle.compliance.specs.Codes.{top_code, k_of_base, span, k_of_code, and_code, or_code}
use Rattle.principal.specs.Places.{place}
use Rattle.compliance.specs.Tables.{compile, compiled, Formed, f-name, f-and, f-or, f-k_of}
use Rattle.compliance.specs.Working.Highest.{two-or, two-and}
use Rattle.compliance.specs.Working.Machine.{pushed, combined, stepped, exec, last_of, worth}

-- a formed expression names somebody
pub named_some : {e : Expression} → Formed e → 0 < length (named e)
unfolding named
named_some f-name = omega arith
named_some (f-and {a = a} {b = b} f g) = rw length-append (omega (arith, named_some f))
named_some (f-or {a = a} {b = b} f g) = rw length-append (omega (arith, named_some f))
named_some (f-k_of k ps h) = h

highest-none : highest 1 [] ≡ 0
unfolding highest
highest-none = refl

code-k : (k n : ℕ) → n < span → (k_of_code k n - k_of_base) / span ≡ k
code-k k n h = omega arith

code-n : (k n : ℕ) → n < span → (k_of_code k n - k_of_base) % span ≡ n
code-n k n h = omega arith

module _ (ranks : List ℕ) (top depth : ℕ) where
  exec-append : (p q live : List ℕ) → exec ranks top depth (p ++ q) live ≡ exec ranks top depth q (exec ranks top depth p live)
  unfolding exec
  exec-append [] q live = refl
  exec-append (op ∷ p) q live = exec-append p q (stepped ranks top depth op live)

  push-room : (live : List ℕ) (v : ℕ) → length live < depth → pushed depth live v ≡ live ++ (v ∷ [])
  unfolding pushed
  push-room live v h = rw (lt-ltb (length live) depth h)

  combine-top : (k n : ℕ) (live vs : List ℕ) → length vs ≡ n → length live < depth → combined depth k n (live ++ vs) ≡ live ++ (highest k vs ∷ [])
  unfolding combined
  combine-top k n live vs e h =
      let l : length (live ++ vs) - n ≡ length live = rw length-append (omega arith) in
      rw (l, take-append_seam live vs, drop-append_seam live vs) (push-room live (highest k vs) h)

  run-k_of : (k n : ℕ) (live vs : List ℕ) → length vs ≡ n → n < span → length live < depth
      → exec ranks top depth (k_of_code k n ∷ []) (live ++ vs) ≡ live ++ (highest k vs ∷ [])
  unfolding exec stepped
  run-k_of k n live vs e s h =
      let up : top_code ≤ k_of_code k n = omega arith in
      let no : k_of_code k n ≡ top_code → ⊥ = λ z. omega arith in
      rw (le-ltb (k_of_code k n) top_code up, ne_eqb (k_of_code k n) top_code no, code-k k n s, code-n k n s) (combine-top k n live vs e h)

  module _ (names : List Principal) (r : Rank) (small : depth < span) where
    -- the table has the rank of p at p's place, which is no instruction's number
    abbrev pub Reads : Principal → Type 0
    Reads p = (place names p < top_code) × (get_or ranks (place names p) 0 ≡ r p)

    run-name : (p : Principal) (live : List ℕ) → Reads p → length live < depth → exec ranks top depth (place names p ∷ []) live ≡ live ++ (r p ∷ [])
    unfolding exec stepped
    run-name p live h l = rw (lt-ltb (place names p) top_code h.0, h.1) (push-room live (r p) l)

    run-names : (ps : List Principal) (live : List ℕ) → ((p : Principal) → Mem p ps → Reads p) → length live + length ps ≤ depth
        → exec ranks top depth (map (place names) ps) live ≡ live ++ map r ps
    unfolding exec
    run-names [] live h l = sym (append-nil live)
    run-names (p ∷ ps) live h l =
        exec-append (place names p ∷ []) (map (place names) ps) live
        ∙ ap (exec ranks top depth (map (place names) ps)) (run-name p live (h p (here refl)) (omega arith))
        ∙ run-names ps (live ++ (r p ∷ [])) (λ q m. h q (there m)) (rw length-append (omega arith))
        ∙ append_assoc live (r p ∷ []) (map r ps)

    run-both : (k c : ℕ) (a b : List ℕ) (va vb : ℕ) (live : List ℕ) → c ≡ k_of_code k 2
        → exec ranks top depth a live ≡ live ++ (va ∷ []) → exec ranks top depth b (live ++ (va ∷ [])) ≡ (live ++ (va ∷ [])) ++ (vb ∷ []) → length live < depth
        → exec ranks top depth (a ++ (b ++ (c ∷ []))) live ≡ live ++ (highest k (va ∷ vb ∷ []) ∷ [])
    run-both k c a b va vb live ce ea eb h =
        exec-append a (b ++ (c ∷ [])) live
        ∙ ap (exec ranks top depth (b ++ (c ∷ []))) ea
        ∙ exec-append b (c ∷ []) (live ++ (va ∷ []))
        ∙ ap (exec ranks top depth (c ∷ [])) (eb ∙ append_assoc live (va ∷ []) (vb ∷ []))
        ∙ rw ce (run-k_of k 2 live (va ∷ vb ∷ []) refl (omega arith) h)

    -- running a compiled expression puts its value on the stack, and changes nothing below
    pub run-compile : {e : Expression} → Formed e → (live : List ℕ) → ((p : Principal) → Mem p (named e) → Reads p)
        → length live + length (named e) ≤ depth → exec ranks top depth (compile names e) live ≡ live ++ (value r e ∷ [])
    unfolding compile value named
    run-compile (f-name {p = p}) live h l = run-name p live (h p (here refl)) (omega arith)
    run-compile (f-and {a = a} {b = b} f g) live h l =
        let l' : length live + (length (named a) + length (named b)) ≤ depth = rw length-append at l in
        run-both 2 and_code (compile names a) (compile names b) (value r a) (value r b) live refl
        (run-compile f live (λ p m. h p (Memᴰ.append_left (named b) m)) (omega arith))
        (run-compile g (live ++ (value r a ∷ [])) (λ p m. h p (Memᴰ.append_right (named a) m)) (rw length-append (omega (arith, named_some f))))
        (omega (arith, named_some f))
        ∙ ap (λ (v : ℕ). live ++ (v ∷ [])) (sym (two-and (value r a) (value r b) 2 (min (value r a) (value r b)) refl refl))
    run-compile (f-or {a = a} {b = b} f g) live h l =
        let l' : length live + (length (named a) + length (named b)) ≤ depth = rw length-append at l in
        run-both 1 or_code (compile names a) (compile names b) (value r a) (value r b) live refl
        (run-compile f live (λ p m. h p (Memᴰ.append_left (named b) m)) (omega arith))
        (run-compile g (live ++ (value r a ∷ [])) (λ p m. h p (Memᴰ.append_right (named a) m)) (rw length-append (omega (arith, named_some f))))
        (omega (arith, named_some f))
        ∙ ap (λ (v : ℕ). live ++ (v ∷ [])) (sym (two-or (value r a) (value r b) 1 (max (value r a) (value r b)) refl refl))
    run-compile (f-k_of k ps s) live h l =
        exec-append (map (place names) ps) (k_of_code k (length ps) ∷ []) live
        ∙ ap (exec ranks top depth (k_of_code k (length ps) ∷ [])) (run-names ps live h l)
        ∙ run-k_of k (length ps) live (map r ps) (length-map ps r) (omega arith) (omega arith)

    last-of : (live : List ℕ) (v : ℕ) → last_of (live ++ (v ∷ [])) ≡ v
    unfolding last_of
    last-of live v =
        let l : length (live ++ (v ∷ [])) - 1 ≡ length live = rw length-append (omega arith) in
        rw l (get_or-append_seam live v [] 0)

    run-top : 0 < depth → exec ranks top depth (top_code ∷ []) [] ≡ top ∷ []
    unfolding exec stepped
    run-top z = push-room [] top z

    -- the worth of a compiled field is its rank
    pub worth-compiled : (f : Licensees) → ((e : Expression) → f ≡ given e → Formed e) → ((p : Principal) → Mem p (licensees f) → Reads p)
        → length (licensees f) ≤ depth → 0 < depth → worth ranks top depth (compiled names f) ≡ licensed top r f
    unfolding worth compiled licensed licensees
    worth-compiled missing g h l z = ap last_of (run-top z) ∙ last-of [] top
    worth-compiled empty g h l z = ap last_of (run-k_of 1 0 [] [] refl (omega arith) z) ∙ last-of [] (highest 1 []) ∙ highest-none
    worth-compiled (given e) g h l z = ap last_of (run-compile (g e refl) [] h (omega arith)) ∙ last-of [] (value r e)
