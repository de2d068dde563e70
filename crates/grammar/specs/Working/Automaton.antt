-- Automata that reject: a device to prove that kinds begin no sentence. Assumes nothing.
use Rattle.std.specs.Prelude.{◌≡◌, refl, List, [], ◌∷◌, ◌++◌, ℕ}
use Rattle.std.proofs.Common.{sym, ap, ◌∙◌}
use Rattle.grammar.specs.Viable.{Viable, viable}

module _ {Q A : Type 0} (step : Q → A → Q) where
  -- the state behind what was read
  abbrev pub run : Q → List A → Q
  run q [] = q
  run q (k ∷ ks) = run (step q k) ks

  pub run-append : (q : Q) (ks ls : List A) → run q (ks ++ ls) ≡ run (run q ks) ls
  run-append q [] ls = refl
  run-append q (k ∷ ks) ls = run-append (step q k) ks ls

module _ {Q : Type 0} (step : Q → ℕ → Q) where
  module _ (dead : Q) (stays : (k : ℕ) → step dead k ≡ dead) where
    pub run-dead : (ks : List ℕ) → run step dead ks ≡ dead
    run-dead [] = refl
    run-dead (k ∷ ks) = rw (stays k) (run-dead ks)

    -- what the automaton rejects begins no sentence, if it rejects no sentence
    module _ (G : List ℕ → Type 0) (q : Q) (alive : (ks : List ℕ) → G ks → run step q ks ≡ dead → ⊥) where
      pub not-viable : (ks : List ℕ) → run step q ks ≡ dead → Viable G ks → ⊥
      not-viable ks d (viable rest g) = alive (ks ++ rest) g (run-append step q ks rest ∙ ap (λ (x : Q). run step x rest) d ∙ run-dead rest)

    -- no sentence goes on as another, if each leads to one place, from which no kind leads on
    pub not-longer : (G : List ℕ → Type 0) (q over : Q) → ((ks : List ℕ) → G ks → run step q ks ≡ over) → ((k : ℕ) → step over k ≡ dead) → (over ≡ dead → ⊥)
        → (ks : List ℕ) (k : ℕ) (more : List ℕ) → G ks → G (ks ++ k ∷ more) → ⊥
    not-longer G q over ends last apart ks k more g h =
        apart (sym (ends (ks ++ k ∷ more) h) ∙ run-append step q ks (k ∷ more) ∙ ap (λ (x : Q). run step (step x k) more) (ends ks g) ∙ ap (λ (x : Q). run step x more) (last k) ∙ run-dead more)
