-- Operands of one token and operators belong to their code. Assumes nothing.
use Rattle.std.specs.Prelude.{◌≡◌, refl, Bool, List, [], ◌∷◌, ◌++◌, ℕ, ◌-◌, ◌<◌, ◌≤◌, eqb, ltb, leb, length}
use Rattle.std.proofs.Common.{sym, arith}
use Rattle.std.proofs.Math.Bool.{true, false}
use Rattle.lexical.specs.Kind
use Rattle.lexical.specs.Theorems.Bounds.{chosen}
use Rattle.lexical.specs.Literal.{decoded_at}
use Rattle.lexical.specs.Number as Number
use Rattle.lexical.specs.Word.{spells, word_true, word_false}
use Rattle.lexical.specs.declared.token.Token.{Token}
use Rattle.syntax.specs.Op
use Rattle.syntax.specs.Operator.{Unary, Binary, Sort, a-string, an-integer, a-float, a_test}
use Rattle.syntax.specs.Operation.{unary_number, binary_number}
use Rattle.syntax.specs.Expr.{Expr, name, unary, binary, truth}
use Rattle.syntax.specs.Code.{entry, name_at, Codes, code-literal, code-name, code-number, code-decimal, code-true, code-false, code-unary, code-binary}
use Rattle.conditions.specs.Table.{PartSort, sorted, word, Want}
use Rattle.conditions.specs.Table
use Rattle.conditions.specs.Working.Numbered.{sort_number, want_number}
use Rattle.conditions.specs.Working.Numbered
use Rattle.conditions.specs.Working.TieTable.{fits-number, word_number}
use Rattle.conditions.specs.Word.{next_at, word_sort}
use Rattle.syntax.specs.Parsed.{ok}
use Rattle.conditions.specs.Parsed.{part}
use Rattle.conditions.specs.Operand.{read_literal, read_name, read_digits, read_float, read_leaf, settled_tree, applied}
use Rattle.conditions.specs.Working.Emit.{found, ran, above, put, word_top, word_written, finish_at}
use Rattle.conditions.specs.Working.Leaf.{literal_read, name_read, digits_read, float_read, leaf_read, leaf_found, name_as}
use Rattle.conditions.specs.Working.Written.{Grown, Then, then, grown-as, grown-then, grown-none, grown-put, append_assoc, keeps_self, kept, under}
use Rattle.conditions.specs.Working.Same.{PartCodes, whole, bare, Same, same-aside, same-part, same-refused, both, start-within}
use Rattle.limits.specs.Limits.{most_float, most_literal}

-- a name is a string or a bare word
pub data Named : PartSort → Type 0 where
  named-string : Named (sorted a-string)
  named-word : (b : Bool) → Named (word b)

pub name-cases : (s : List ℕ) (want : Want) (start end : ℕ) → Named (word_sort s want start end)
unfolding word_sort
name-cases s want start end =
    chosen Named (Table.is_any want) _ _
    (λ e. chosen Named (spells s start end word_true) _ _ (λ f. named-word true)
    (λ f. chosen Named (spells s start end word_false) _ _ (λ g. named-word false) (λ g. named-string)))
    (λ e. named-string)

module _ (s : List ℕ) (short : length s < 65536) (m : List ℕ) (top : ℕ) where
  module _ (t : Token) (within : t.start ≤ length s) where
    -- one entry
    entered : (x : Sort) (op : ℕ) (e : Expr) → op < 64 → Codes s e (entry op t.start ∷ [])
        → Same s m top (ok (part (sorted x) e) (next_at s t.end)) (leaf_found s m top (sort_number (sorted x)) op t)
    entered x op e k c =
        same-part (sorted x) 0 (above m top) e (next_at s t.end) (put m top op t.start) (omega arith) (start-within s t.end)
        (grown-as m top (put m top op t.start) (above m top) (λ l. l ≡ entry op t.start ∷ []) (λ l. PartCodes s 0 e l (sorted x)) (λ l q. whole x (rw q c))
        (grown-put m top op t.start k (omega (arith, within, short))))

    literal-same : Same s m top (read_literal s t) (literal_read s m top t)
    unfolding read_literal literal_read
    literal-same =
        both (Same s m top) (ltb most_literal (length (decoded_at s t.start))) _ _ _ _ (λ h. same-aside 7 t.start m (keeps_self m top))
        (λ h. entered a-string Op.LITERAL _ (omega arith) (code-literal t.start (omega (arith, within, short))))

    digits_same : Same s m top (read_digits s t) (digits_read s m top t)
    unfolding read_digits digits_read
    digits_same =
        both (Same s m top) (leb Number.LIMIT (Number.number_at s t.start t.end)) _ _ _ _ (λ h. same-aside 5 t.start m (keeps_self m top))
        (λ h. entered an-integer Op.NUMBER _ (omega arith) (code-number t.start (omega (arith, within, short))))

    bare-same : (b : Bool) → Same s m top (ok (part (word b) (name (name_at s t.start))) (next_at s t.end)) (ran (found (sort_number (word b)) t.start top (next_at s t.end)) m)
    bare-same b =
        same-part (word b) t.start top (name (name_at s t.start)) (next_at s t.end) m (omega (arith, within, short)) (start-within s t.end)
        (grown-none m top (λ l. PartCodes s t.start (name (name_at s t.start)) l (word b)) (bare b refl refl))

    -- a name is a string or a bare word
    name-as : (w : PartSort) → Named w → Same s m top (ok (part w (name (name_at s t.start))) (next_at s t.end)) (name_as s m top t (sort_number w))
    name-as _ named-string = entered a-string Op.NAME (name (name_at s t.start)) (omega arith) (code-name t.start (omega (arith, within, short)))
    name-as _ (named-word true) = bare-same true
    name-as _ (named-word false) = bare-same false

    name-same : (want : Want) → Same s m top (read_name s want t) (name_read s m top (want_number want) t)
    unfolding read_name name_read
    name-same want = rw (word_number s want t.start t.end) (name-as (word_sort s want t.start t.end) (name-cases s want t.start t.end))

    float_same : Same s m top (read_float s t) (float_read s m top t)
    unfolding read_float float_read
    float_same =
        both (Same s m top) (ltb most_float (t.end - t.start)) _ _ _ _ (λ h. same-aside 7 t.start m (keeps_self m top))
        (λ h. entered a-float Op.DECIMAL _ (omega arith) (code-decimal t.start (omega (arith, within, short))))

    pub leaf-same : (want : Want) → Same s m top (read_leaf s want t) (leaf_read s m top (want_number want) t)
    unfolding read_leaf leaf_read
    leaf-same want =
        both (Same s m top) (eqb t.kind Kind.LITERAL) _ _ _ _ (λ h. literal-same)
        (λ h. both (Same s m top) (eqb t.kind Kind.NAME) _ _ _ _ (λ h. name-same want)
        (λ h. both (Same s m top) (eqb t.kind Kind.DIGITS) _ _ _ _ (λ h. digits_same) (λ h. float_same)))

-- a bare word becomes what is wanted
module _ (s m : List ℕ) (top : ℕ) (b : List ℕ) (u p : ℕ) (e : Expr) (near : p < 65536) where
  plain-codes : (x : Sort) (c : List ℕ) → PartCodes s p e c (sorted x) → Codes s e c
  plain-codes x c (whole _ k) = k

  -- a bare word, written as one entry
  bare-codes : (w : Bool) (op at : ℕ) (f : Expr) → (e ≡ name (name_at s p) → Codes s f (entry op at ∷ []))
      → (c d : List ℕ) → PartCodes s p e c (word w) → d ≡ entry op at ∷ [] → Codes s f (c ++ d)
  bare-codes w op at f q c d (bare _ j i) r = rw (i, r) (q j)

  bare-grown : (w : Bool) → Grown m top b u (λ c. PartCodes s p e c (word w)) → (op at : ℕ) (f : Expr) → op < 64 → at < 65536 → (e ≡ name (name_at s p) → Codes s f (entry op at ∷ []))
      → Grown m top (put b u op at) (above b u) (Codes s f)
  bare-grown w g op at f small far q =
      grown-then m top b u (put b u op at) (above b u) (λ c. PartCodes s p e c (word w)) (λ d. d ≡ entry op at ∷ []) (Codes s f)
      (bare-codes w op at f q) g (grown-put b u op at small far)

  true-grown : Grown m top b u (λ c. PartCodes s p e c (word true)) → Grown m top (put b u Op.TRUE 0) (above b u) (Codes s (truth true))
  true-grown g = bare-grown true g Op.TRUE 0 (truth true) (omega arith) (omega arith) (λ q. code-true)

  false-grown : Grown m top b u (λ c. PartCodes s p e c (word false)) → Grown m top (put b u Op.FALSE 0) (above b u) (Codes s (truth false))
  false-grown g = bare-grown false g Op.FALSE 0 (truth false) (omega arith) (omega arith) (λ q. code-false)

  name-grown : (w : Bool) → Grown m top b u (λ c. PartCodes s p e c (word w)) → Grown m top (put b u Op.NAME p) (above b u) (Codes s e)
  name-grown w g = bare-grown w g Op.NAME p e (omega arith) near (λ q. rw q (code-name p near))

  plain-grown : (x : Sort) → Grown m top b u (λ c. PartCodes s p e c (sorted x)) → Grown m top b u (Codes s e)
  plain-grown x g = grown-as m top b u (λ c. PartCodes s p e c (sorted x)) (Codes s e) (plain-codes x) g

  pub write-word-grown : (wanted : Sort) (x : PartSort) → Grown m top b u (λ c. PartCodes s p e c x)
      → Grown m top (word_written b u (sort_number (sorted wanted)) (sort_number x) p) (word_top b u (sort_number x)) (Codes s (settled_tree wanted x e))
  unfolding word_written word_top settled_tree
  write-word-grown wanted (sorted a-string) g = plain-grown a-string g
  write-word-grown wanted (sorted an-integer) g = plain-grown an-integer g
  write-word-grown wanted (sorted a-float) g = plain-grown a-float g
  write-word-grown wanted (sorted a_test) g = plain-grown a_test g
  write-word-grown a-string (word true) g = name-grown true g
  write-word-grown a-string (word false) g = name-grown false g
  write-word-grown an-integer (word true) g = true-grown g
  write-word-grown an-integer (word false) g = false-grown g
  write-word-grown a-float (word true) g = true-grown g
  write-word-grown a-float (word false) g = false-grown g
  write-word-grown a_test (word true) g = true-grown g
  write-word-grown a_test (word false) g = false-grown g

module _ (s m : List ℕ) (top : ℕ) (b : List ℕ) (u : ℕ) (x : PartSort) (p : ℕ) (e : Expr) (near : p < 65536) (g : Grown m top b u (λ c. PartCodes s p e c x)) where
  module _ (op : ℕ) (takes gives : Sort) (operand : Numbered.operand_of op ≡ sort_number (sorted takes)) (result : Numbered.result_of op ≡ sort_number (sorted gives)) (small : op < 64) (n : Token)
      (within : n.start ≤ length s) where
    abbrev b₁ : List ℕ
    b₁ = word_written b u (sort_number (sorted takes)) (sort_number x) p

    abbrev u₁ : ℕ
    u₁ = word_top b u (sort_number x)

    abbrev f : Expr
    f = settled_tree takes x e

    -- the operand and its operator
    taken : Grown m top (put b₁ u₁ op 0) (above b₁ u₁) (Then (Codes s f) (entry op 0))
    taken =
        grown-then m top b₁ u₁ (put b₁ u₁ op 0) (above b₁ u₁) (Codes s f) (λ d. d ≡ entry op 0 ∷ []) (Then (Codes s f) (entry op 0))
        (λ c d q r. rw r (then c q)) (write-word-grown s m top b u p e near takes x g) (grown-put b₁ u₁ op 0 small (omega arith))

    unary-codes : (o : Unary) → op ≡ unary_number o → (c : List ℕ) → Then (Codes s f) (entry op 0) c → Codes s (unary o f) c
    unary-codes o i _ (then d q) = rw i (code-unary q)

    pub unary-same : (o : Unary) → op ≡ unary_number o → Same s m top (applied (unary o) takes gives x e n) (finish_at b u op (sort_number x) p n)
    unfolding applied finish_at
    unary-same o i =
        rw (operand, result, fits-number takes x) (both (Same s m top) (Table.fits takes x) _ _ _ _
        (λ h. same-part (sorted gives) 0 (above b₁ u₁) (unary o f) n (put b₁ u₁ op 0) (omega arith) within
        (grown-as m top (put b₁ u₁ op 0) (above b₁ u₁) (Then (Codes s f) (entry op 0)) (λ c. PartCodes s 0 (unary o f) c (sorted gives))
        (λ c q. whole gives (unary-codes o i c q)) taken))
        (λ h. same-refused s m top n b (kept g)))

    binary-codes : (o : Binary) → op ≡ binary_number o → (l : Expr) (c d : List ℕ) → Codes s l c → Then (Codes s f) (entry op 0) d → Codes s (binary o l f) (c ++ d)
    binary-codes o i l c _ k (then d q) = rw (sym (append_assoc c d (entry op 0 ∷ [])), i) (code-binary k q)

    -- behind a left operand
    pub binary-same : (o : Binary) → op ≡ binary_number o → (m₀ : List ℕ) (top₀ : ℕ) (l : Expr) → Grown m₀ top₀ m top (Codes s l)
        → Same s m₀ top₀ (applied (binary o l) takes gives x e n) (finish_at b u op (sort_number x) p n)
    unfolding applied finish_at
    binary-same o i m₀ top₀ l k =
        rw (operand, result, fits-number takes x) (both (Same s m₀ top₀) (Table.fits takes x) _ _ _ _
        (λ h. same-part (sorted gives) 0 (above b₁ u₁) (binary o l f) n (put b₁ u₁ op 0) (omega arith) within
        (grown-then m₀ top₀ m top (put b₁ u₁ op 0) (above b₁ u₁) (Codes s l) (Then (Codes s f) (entry op 0)) (λ c. PartCodes s 0 (binary o l f) c (sorted gives))
        (λ c d q r. whole gives (binary-codes o i l c d q r)) k taken))
        (λ h. same-refused s m₀ top₀ n b (under k (kept g))))
