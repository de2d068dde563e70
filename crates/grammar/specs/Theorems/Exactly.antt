-- Reason 2 exactly at the first token after which the grammar allows no continuation, and a sentence exactly where a reader gets through, unless
-- another reason stopped it. Assumes nothing.
use Rattle.std.specs.Prelude.{◌≡◌, refl, List, [], ◌∷◌, ◌++◌, ℕ}
use Rattle.std.proofs.Common.{sym, ap, ◌∙◌, subst, append_assoc, append-nil}
use Rattle.lexical.specs.Line.{token_at}
use Rattle.lexical.specs.declared.token.Token.{Token}
use Rattle.syntax.specs.Parsed.{Parsed, ok, aside}
use Rattle.grammar.specs.Viable.{Viable, viable, Open, opens, KindsBy, here, further, JudgedBy, through, no-continuation, another}

-- no sentence goes on as another: each has the token that ends it
abbrev pub Whole : (List ℕ → Type 0) → Type 0
Whole G = (ks : List ℕ) (k : ℕ) (more : List ℕ) → G ks → G (ks ++ k ∷ more) → ⊥

module _ (kind : Token → ℕ) where
  -- two walks from one token: they stop together, or one goes on
  data Walks (ks : List ℕ) (n : Token) (ls : List ℕ) (m : Token) : Type 0 where
    together : ks ≡ ls → n ≡ m → Walks ks n ls m
    first_on : (more : List ℕ) → ks ≡ ls ++ kind m ∷ more → Walks ks n ls m
    second-on : (more : List ℕ) → ls ≡ ks ++ kind n ∷ more → Walks ks n ls m

  walks_more : (k : ℕ) (ks : List ℕ) (n : Token) (ls : List ℕ) (m : Token) → Walks ks n ls m → Walks (k ∷ ks) n (k ∷ ls) m
  walks_more k ks n ls m (together e f) = together (ap (λ (l : List ℕ). k ∷ l) e) f
  walks_more k ks n ls m (first_on more e) = first_on more (ap (λ (l : List ℕ). k ∷ l) e)
  walks_more k ks n ls m (second-on more e) = second-on more (ap (λ (l : List ℕ). k ∷ l) e)

  walks : (s : List ℕ) (mode : ℕ) (t n m : Token) (ks ls : List ℕ) → KindsBy kind s mode t ks n → KindsBy kind s mode t ls m → Walks ks n ls m
  walks s mode t _ _ _ _ (here _) (here _) = together refl refl
  walks s mode t _ m _ _ (here _) (further _ _ ls q) = second-on ls refl
  walks s mode t n _ _ _ (further _ _ ks p) (here _) = first_on ks refl
  walks s mode t n m _ _ (further _ _ ks p) (further _ _ ls q) = walks_more (kind t) ks n ls m (walks s mode (token_at s mode t.end) n m ks ls p q)

  module _ (G : List ℕ → Type 0) where
    -- what begins a sentence begins it with fewer kinds too
    viable-less : (ks : List ℕ) (k : ℕ) (more : List ℕ) → Viable G (ks ++ k ∷ more) → Viable G (ks ++ k ∷ [])
    viable-less ks k more (viable rest g) =
        viable (more ++ rest) (subst G (append_assoc ks (k ∷ more) rest ∙ sym (append_assoc ks (k ∷ []) (more ++ rest))) g)

    viable-self : (ks : List ℕ) → G ks → Viable G ks
    viable-self ks g = viable [] (subst G (sym (append-nil ks)) g)

    module _ (whole : Whole G) where
      -- a sentence, and more kinds that begin one
      sentence-on : (ls : List ℕ) (m : ℕ) (more rest : List ℕ) → G (ls ++ m ∷ []) → (G (ls ++ m ∷ more) → ⊥) → G ((ls ++ m ∷ more) ++ rest) → ⊥
      sentence-on ls m [] rest g nf h = nf g
      sentence-on ls m (x ∷ more) rest g nf h =
          whole (ls ++ m ∷ []) x (more ++ rest) g (subst G (append_assoc ls (m ∷ x ∷ more) rest ∙ sym (append_assoc ls (m ∷ []) (x ∷ (more ++ rest)))) h)

      through-first : (n m : Token) (ks ls : List ℕ) → (G ks → ⊥) → Viable G ks → (Viable G (ks ++ kind n ∷ []) → ⊥) → G (ls ++ kind m ∷ []) → Walks ks n ls m → ⊥
      through-first n m ks ls nf v nv g (together e f) =
          let h : G (ks ++ kind n ∷ []) = subst (λ (x : Token). G (ks ++ kind x ∷ [])) (sym f) (subst (λ (l : List ℕ). G (l ++ kind m ∷ [])) (sym e) g) in
          nv (viable-self (ks ++ kind n ∷ []) h)
      through-first n m ks ls nf (viable rest h) nv g (first_on more e) =
          sentence-on ls (kind m) more rest g (λ k. nf (subst G (sym e) k)) (subst (λ (l : List ℕ). G (l ++ rest)) e h)
      through-first n m ks ls nf v nv g (second-on more e) =
          nv (viable-less ks (kind n) more (viable (kind m ∷ []) (subst (λ (l : List ℕ). G (l ++ kind m ∷ [])) e g)))

      stop-first : (n m : Token) (ks ls : List ℕ) → Viable G ks → (Viable G (ks ++ kind n ∷ []) → ⊥) → Viable G ls → (Viable G (ls ++ kind m ∷ []) → ⊥) → Walks ks n ls m → n ≡ m
      stop-first n m ks ls v nv w nw (together e f) = f
      stop-first n m ks ls v nv w nw (first_on more e) = absurd (nw (viable-less ls (kind m) more (subst (Viable G) e v)))
      stop-first n m ks ls v nv w nw (second-on more e) = absurd (nv (viable-less ks (kind n) more (subst (Viable G) e w)))

      -- no sentence that goes on
      whole-on : (ls : List ℕ) (m : ℕ) (more : List ℕ) (k : ℕ) → G (ls ++ m ∷ []) → G ((ls ++ m ∷ more) ++ k ∷ []) → ⊥
      whole-on ls m [] k g h = whole (ls ++ m ∷ []) k [] g h
      whole-on ls m (x ∷ more) k g h =
          whole (ls ++ m ∷ []) x (more ++ k ∷ []) g (subst G (append_assoc ls (m ∷ x ∷ more) (k ∷ []) ∙ sym (append_assoc ls (m ∷ []) (x ∷ (more ++ k ∷ [])))) h)

      through-sentence : (n m : Token) (ks ls : List ℕ) → G (ks ++ kind n ∷ []) → G (ls ++ kind m ∷ []) → Walks ks n ls m → n ≡ m
      through-sentence n m ks ls g h (together e f) = f
      through-sentence n m ks ls g h (first_on more e) = absurd (whole-on ls (kind m) more (kind n) h (subst (λ (l : List ℕ). G (l ++ kind n ∷ [])) e g))
      through-sentence n m ks ls g h (second-on more e) = absurd (whole-on ks (kind n) more (kind m) g (subst (λ (l : List ℕ). G (l ++ kind m ∷ [])) e h))

      not-all : (ks : List ℕ) → Open G ks → G ks → ⊥
      not-all ks (opens k rest h) g = whole ks k rest g h

      open-viable : (ks : List ℕ) → Open G ks → Viable G ks
      open-viable ks (opens k rest h) = viable (k ∷ rest) h

      module _ {A : Type 0} (s : List ℕ) (mode : ℕ) (t : Token) where
        -- the reader gave reason 2 at n, or a reason that is not the grammar's
        pub data Refused (n : Token) : Parsed A → Type 0 where
          refused : Refused n (aside 2 n.start)
          refused-else : (r p : ℕ) → (r ≡ 2 → ⊥) → Refused n (aside r p)

        -- Where the kinds before n begin a sentence, and are not all of it, and those up to n begin none: reason 2 at n, unless another reason stood before.
        pub exactly : (x : Parsed A) → JudgedBy kind G s mode t x → (n : Token) (ks : List ℕ) → KindsBy kind s mode t ks n → Open G ks → (Viable G (ks ++ kind n ∷ []) → ⊥) → Refused n x
        exactly _ (through ls m a q g) n ks p o nv = absurd (through-first n m ks ls (not-all ks o) (open-viable ks o) nv g (walks s mode t n m ks ls p q))
        exactly _ (no-continuation ls m q w nw) n ks p o nv =
            subst (λ (x : Token). Refused n (aside 2 x.start)) (stop-first n m ks ls (open-viable ks o) nv (open-viable ls w) nw (walks s mode t n m ks ls p q)) refused
        exactly _ (another r p h) n ks q o nv = refused-else r p h

        -- the reader got through to n, or gave a reason that is not the grammar's
        pub data Passed (n : Token) : Parsed A → Type 0 where
          passed : (a : A) → Passed n (ok a n)
          passed-else : (r p : ℕ) → (r ≡ 2 → ⊥) → Passed n (aside r p)

        -- Where the kinds up to n are a sentence, the reader gets through to n, unless another reason stood before: no reason 2.
        pub complete : (x : Parsed A) → JudgedBy kind G s mode t x → (n : Token) (ks : List ℕ) → KindsBy kind s mode t ks n → G (ks ++ kind n ∷ []) → Passed n x
        complete _ (through ls m a q g) n ks p h = subst (λ (x : Token). Passed n (ok a x)) (through-sentence n m ks ls h g (walks s mode t n m ks ls p q)) (passed a)
        complete _ (no-continuation ls m q w nw) n ks p h = absurd (through-first m n ls ks (not-all ls w) (open-viable ls w) nw h (walks s mode t m n ls ks q p))
        complete _ (another r p e) n ks q h = passed-else r p e
