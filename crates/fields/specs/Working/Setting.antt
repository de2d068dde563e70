-- Working definitions: Local-Constants put into the buffer and the table, and the ways out of the functions that do it. Assumes nothing.
use Rattle.std.specs.Prelude.{◌≡◌, refl, Bool, true, false, not, List, [], ◌∷◌, ◌++◌, ℕ, ◌+◌, ◌-◌, ◌<◌, ◌≤◌, eqb, leb, ltb, length, get_or, take, drop, Option, Some, None, Result, Ok, Err}
use Rattle.std.proofs.Math.Path.{sym}
use Rattle.std.proofs.Common.{ap, ◌∙◌, arith, length-take-le}
use borrow.Author.Tests.{lt-ltb, le-ltb, le-leb, lt-leb, eq-eqb, ne_eqb, leb-true, leb-false, not-true, not-false}
use Rattle.text.specs.Choice.{pick, split}
use Rattle.text.specs.Copy.{Copied, copied, put, copy_at}
use Rattle.text.specs.Loop.{Step, next, done, loop, loop-next, loop-done}
use Rattle.lexical.specs.Kind
use Rattle.lexical.specs.Kind.{ending}
use Rattle.lexical.specs.Line.{token_at}
use Rattle.lexical.specs.Literal.{decoded_at}
use Rattle.lexical.specs.Decode.{ran, decode_into}
use Rattle.lexical.specs.Theorems.DecodeLaws.{decode-fits, decode-full}
use Rattle.lexical.specs.declared.token.Token.{Token}
use Rattle.text.specs.Put.{put_pair}
use Rattle.text.specs.Working.Pairs.{counted-large, counted-past, counted-half, counted-put, counted_none}
use Rattle.index.specs.Working.Adding.{After, entered, index_of, append_into, counted_into, counted_is, append-room}
use Rattle.index.specs.declared.Index.{Index}
use Rattle.expression.specs.Tables.{first_from}
use Rattle.limits.specs.Limits.{most_constants, most_literal}
use Rattle.syntax.specs.Parsed.{refusal}
use Rattle.fields.specs.Parsed.{behind}
use Rattle.fields.specs.Working.Word.{word_of}
use Rattle.fields.specs.Constants.{reserved}
use Rattle.syntax.specs.Working.Faults.{against, misplaced_at}
use Rattle.syntax.specs.declared.fault.Fault.{Fault}
use Rattle.fields.specs.declared.constants.Settings.{Settings}

-- has one of the first `count` constants that name?
unfoldable pub taken_in : List ℕ → List ℕ → ℕ → List ℕ → Bool
taken_in consts places count name = pick (ltb (length places) count) false (ltb (first_from consts name 0 (take count places)) count)

-- the reason against t as the name of one more constant, or 0
unfoldable pub constant_fault_in : List ℕ → List ℕ → List ℕ → ℕ → Token → ℕ
constant_fault_in s consts places count t =
    pick (eqb t.kind Kind.NAME)
    (pick (reserved (word_of s t)) 4 (pick (taken_in consts places count (word_of s t)) 4 0))
    (refusal t.kind)

-- the index of the constants and the token behind them, or the first fault
abbrev pub Setting : Type 0
Setting = Result Settings Fault

abbrev pub settings : Index → Token → Setting
settings x t = Ok (record { index = x; next = t })

-- an answer, the buffer and the table
pub data Stored : Type 0 where
  stored : Setting → List ℕ → List ℕ → Stored

abbrev pub refused_settings : Token → Setting
refused_settings t = Err (misplaced_at t)

-- the value behind the name
abbrev pub on_put : ℕ → ℕ → List ℕ → List ℕ → Copied → After
on_put c e value places (copied true m) = entered (Some (index_of c (e + 2 + length value))) m places
on_put c e value places (copied false m) = entered None m places

abbrev pub on_named : List ℕ → After → After
on_named value (entered None m places) = entered None m places
on_named value (entered (Some x) m places) = on_put x.count x.end value places (counted_into m x.end value)

unfoldable pub store_in : List ℕ → List ℕ → ℕ → ℕ → List ℕ → List ℕ → After
store_in m places count end name value = on_named value (append_into m places count end name)

abbrev pub on_stored : Token → After → Stored
on_stored n (entered None m places) = stored (Err (against 0 0)) m places
on_stored n (entered (Some x) m places) = stored (settings x n) m places

unfoldable pub value_in : List ℕ → List ℕ → List ℕ → ℕ → ℕ → Token → Token → Stored
value_in s m places count end t v =
    pick (eqb v.kind Kind.LITERAL)
    (pick (ltb most_literal (length (decoded_at s v.start))) (stored (Err (against 7 v.start)) m places)
    (on_stored (behind s Kind.IN_FIELD v) (store_in m places count end (word_of s t) (decoded_at s v.start))))
    (stored (refused_settings v) m places)

abbrev pub assigned_from : List ℕ → List ℕ → List ℕ → ℕ → ℕ → Token → Token → Stored
assigned_from s m places count end t a =
    pick (eqb a.kind Kind.ASSIGN) (value_in s m places count end t (behind s Kind.IN_FIELD a)) (stored (refused_settings a) m places)

unfoldable pub assigned_in : List ℕ → List ℕ → List ℕ → ℕ → ℕ → Token → Stored
assigned_in s m places count end t = assigned_from s m places count end t (behind s Kind.IN_FIELD t)

-- how many constants, the end of their bytes, the token, the buffer and the table
abbrev pub State : Type 0
State = ℕ × ℕ × Token × List ℕ × List ℕ

abbrev pub on_assigned : ℕ → Stored → Step State Stored
on_assigned count (stored (Err f) m places) = done (stored (Err f) m places)
on_assigned count (stored (Ok w) m places) = next (count + 1, w.index.end, w.next, m, places)

abbrev pub setting_turn : List ℕ → State → Step State Stored
setting_turn s (count, end, t, m, places) =
    pick (ending t.kind) (done (stored (settings (index_of count end) t) m places))
    (pick (eqb (constant_fault_in s m places count t) 0)
    (pick (leb most_constants count) (done (stored (Err (against 7 t.start)) m places)) (on_assigned count (assigned_in s m places count end t)))
    (done (stored (Err (against (constant_fault_in s m places count t) t.start)) m places)))

unfoldable pub constants_in : List ℕ → List ℕ → List ℕ → ℕ → ℕ → Token → Stored
constants_in s m places count end t =
    loop (λ x. most_constants - x.0) (λ x. stored (refused_settings x.2) x.3 x.4) (setting_turn s) (count, end, t, m, places)

-- `is_reserved`
pub reserved-none : (name : List ℕ) → length name ≡ 0 → false ≡ reserved name
unfolding reserved
reserved-none [] h = refl
reserved-none (x ∷ xs) h = let z : ⊥ = omega arith in absurd z

pub reserved-some : (name : List ℕ) → eqb (get_or name 0 0) 95 ≡ reserved name
unfolding reserved
reserved-some name = refl

-- the first k of a list are k
pub front_length : (s : List ℕ) (k : ℕ) → k ≤ length s → k ≡ length (take k s)
front_length s k h = sym (length-take-le k s h)

-- `is_taken`
module _ (consts places : List ℕ) (count : ℕ) (name : List ℕ) where
  pub taken-short : length places < count → false ≡ taken_in consts places count name
  unfolding taken_in
  taken-short h = simp (lt-ltb _ _ h)

  pub taken_is : (i : ℕ) → count ≤ length places → i ≡ first_from consts name 0 (take count places) → ltb i count ≡ taken_in consts places count name
  unfolding taken_in
  taken_is i h ie = rw ie (simp (le-ltb _ _ h))

-- `name_fault`
module _ (s consts places : List ℕ) (count : ℕ) (t : Token) where
  pub constant-none : (r : ℕ) → (t.kind ≡ Kind.NAME → ⊥) → r ≡ refusal t.kind → r ≡ constant_fault_in s consts places count t
  unfolding constant_fault_in
  constant-none r h re = re ∙ simp (ne_eqb _ _ h)

  module _ (h : t.kind ≡ Kind.NAME) (w : List ℕ) (we : w ≡ word_of s t) (b : Bool) (be : b ≡ reserved w) where
    pub constant-reserved : b ≡ true → 4 ≡ constant_fault_in s consts places count t
    unfolding constant_fault_in
    constant-reserved y = simp (eq-eqb _ _ h, sym we, sym be, y)

    module _ (nb : b ≡ false) (k : Bool) (ke : k ≡ taken_in consts places count w) where
      pub constant-taken : k ≡ true → 4 ≡ constant_fault_in s consts places count t
      unfolding constant_fault_in
      constant-taken y = simp (eq-eqb _ _ h, sym we, sym be, nb, sym ke, y)

      pub constant-free : k ≡ false → 0 ≡ constant_fault_in s consts places count t
      unfolding constant_fault_in
      constant-free y = simp (eq-eqb _ _ h, sym we, sym be, nb, sym ke, y)

-- `put_literal`: a literal decoded into the buffer is a copy of what it gives
decode-copy : (s : List ℕ) (start : ℕ) (m : List ℕ) (at : ℕ) (t : Bool) (e : List ℕ) → ran t e ≡ decode_into s start m at → copied t e ≡ copy_at m at (decoded_at s start)
unfolding copy_at put
decode-copy s start m at t e is =
    split (leb (at + length (decoded_at s start)) (length m))
    (λ f. let q : ran t e ≡ ran true (take at m ++ decoded_at s start ++ drop (at + length (decoded_at s start)) m) = is ∙ decode-fits s start m at (leb-true _ _ f) in
    let y : t ≡ true = cc in let w : e ≡ take at m ++ decoded_at s start ++ drop (at + length (decoded_at s start)) m = cc in rw (f, y, w))
    (λ f. let q : ran t e ≡ ran false m = is ∙ decode-full s start m at (leb-false _ _ f) in
    let y : t ≡ false = cc in let w : e ≡ m = cc in rw (f, y, w))

module _ (s : List ℕ) (start : ℕ) (m : List ℕ) (at n : ℕ) (ne : n ≡ length (decoded_at s start)) where
  pub put-long : 65535 < n → copied false m ≡ counted_into m at (decoded_at s start)
  put-long h = counted-large m at (decoded_at s start) (omega (arith, ne)) ∙ counted_is m at (decoded_at s start)

  module _ (short : n ≤ 65535) where
    d : length (decoded_at s start) ≤ 65535
    d = omega (arith, ne)

    pub put-past : length m < at → copied false m ≡ counted_into m at (decoded_at s start)
    put-past h = counted-past m at (decoded_at s start) d h ∙ counted_is m at (decoded_at s start)

    module _ (h : at ≤ length m) where
      pub put_two : length m - at < 2 → copied false m ≡ counted_into m at (decoded_at s start)
      put_two k = counted-half m at (decoded_at s start) d h k ∙ counted_is m at (decoded_at s start)

      module _ (two : 2 ≤ length m - at) (t : Bool) (e : List ℕ) (is : ran t e ≡ decode_into s start m (at + 2)) where
        pub put-done : t ≡ true → (u : Bool) (f : List ℕ) → copied u f ≡ put_pair e at n → copied true f ≡ counted_into m at (decoded_at s start)
        put-done y u f fe =
            counted-put m at (decoded_at s start) d h two t e (decode-copy s start m (at + 2) t e is) y u f (fe ∙ ap (λ (k : ℕ). put_pair e at k) ne) ∙ counted_is m at (decoded_at s start)

        pub put-none : t ≡ false → copied false e ≡ counted_into m at (decoded_at s start)
        put-none y = counted_none m at (decoded_at s start) d h two t e (decode-copy s start m (at + 2) t e is) y ∙ counted_is m at (decoded_at s start)

-- `store`
pub put-room : (m : List ℕ) (at : ℕ) (value : List ℕ) (t : Bool) (e : List ℕ) → copied t e ≡ counted_into m at value → t ≡ true → at + 2 + length value ≤ length m
put-room m at value t e is y = append-room m (0 ∷ []) 0 at value (omega arith) t e is y

module _ (m places : List ℕ) (count end : ℕ) (name value : List ℕ) (r : Option Index) (p q : List ℕ) (re : entered r p q ≡ append_into m places count end name) where
  pub store-full : r ≡ None → entered None p q ≡ store_in m places count end name value
  unfolding store_in
  store-full k = simp (sym re, k)

  module _ (x : Index) (k : r ≡ Some x) (n : ℕ) (ne : n ≡ length value) (t : Bool) (b : List ℕ) (be : copied t b ≡ counted_into p x.end value) where
    pub store-done : t ≡ true → entered (Some (index_of x.count (x.end + 2 + n))) b q ≡ store_in m places count end name value
    unfolding store_in
    store-done y = rw ne (simp (sym re, k, sym be, y))

    pub store-none : t ≡ false → entered None b q ≡ store_in m places count end name value
    unfolding store_in
    store-none y = simp (sym re, k, sym be, y)

-- `valued`
module _ (s m places : List ℕ) (count end : ℕ) (t v : Token) where
  pub value_none : (r : Setting) → (v.kind ≡ Kind.LITERAL → ⊥) → r ≡ refused_settings v → stored r m places ≡ value_in s m places count end t v
  unfolding value_in
  value_none r h re = rw re (simp (ne_eqb _ _ h))

  module _ (h : v.kind ≡ Kind.LITERAL) (b : Bool) (be : b ≡ leb (length (decoded_at s v.start)) most_literal) where
    pub value-long : not b ≡ true → stored (Err (against 7 v.start)) m places ≡ value_in s m places count end t v
    unfolding value_in
    value-long k = simp (eq-eqb _ _ h, lt-ltb most_literal (length (decoded_at s v.start)) (leb-false (length (decoded_at s v.start)) most_literal (sym be ∙ not-true b k)))

    module _ (k : not b ≡ false) (w : List ℕ) (we : w ≡ word_of s t) (r : Option Index) (p q : List ℕ) (re : entered r p q ≡ store_in m places count end w (decoded_at s v.start)) where
      pub value-full : r ≡ None → stored (Err (against 0 0)) p q ≡ value_in s m places count end t v
      unfolding value_in
      value-full f = simp (eq-eqb _ _ h, le-ltb most_literal (length (decoded_at s v.start)) (leb-true (length (decoded_at s v.start)) most_literal (sym be ∙ not-false b k)), sym we, sym re, f)

      pub value_on : (x : Index) (u : Token) → r ≡ Some x → u ≡ token_at s Kind.IN_FIELD v.end → stored (settings x u) p q ≡ value_in s m places count end t v
      unfolding value_in
      value_on x u f ue = rw ue (simp (eq-eqb _ _ h, le-ltb most_literal (length (decoded_at s v.start)) (leb-true (length (decoded_at s v.start)) most_literal (sym be ∙ not-false b k)), sym we, sym re, f))

-- `assigned`
module _ (s m places : List ℕ) (count end : ℕ) (t a : Token) (ae : a ≡ token_at s Kind.IN_FIELD t.end) where
  pub assign-none : (r : Setting) → (a.kind ≡ Kind.ASSIGN → ⊥) → r ≡ refused_settings a → stored r m places ≡ assigned_in s m places count end t
  unfolding assigned_in
  assign-none r h re = rw re (simp (sym ae, ne_eqb _ _ h))

  pub assign-on : (v : Token) (r : Stored) → a.kind ≡ Kind.ASSIGN → v ≡ token_at s Kind.IN_FIELD a.end → r ≡ value_in s m places count end t v → r ≡ assigned_in s m places count end t
  unfolding assigned_in
  assign-on v r h ve re = re ∙ simp (sym ae, eq-eqb _ _ h, ve)

-- the end of `constants`
pub constants-end : (s m places : List ℕ) (x : Index) (t : Token) (a : Stored) → constants_in s m places x.count x.end t ≡ a → (b : Bool) → b ≡ ending t.kind → b ≡ true
    → stored (settings x t) m places ≡ a
unfolding constants_in
constants-end s m places x t a inv b be y = sym (loop-done _ _ _ (x.count, x.end, t, m, places) _ (simp (sym be, y))) ∙ inv

-- the loop of `constants`, with the invariant `constants_in .. ≡ a`
module _ (s m places : List ℕ) (count end : ℕ) (t : Token) (a : Stored) (inv : constants_in s m places count end t ≡ a) (b : Bool) (be : b ≡ ending t.kind) where
  module _ (nb : b ≡ false) (f : ℕ) (fe : f ≡ constant_fault_in s m places count t) where
    pub setting-fault : (f ≡ 0 → ⊥) → stored (Err (against f t.start)) m places ≡ a
    unfolding constants_in
    setting-fault h = sym (loop-done _ _ _ (count, end, t, m, places) _ (simp (sym be, nb, sym fe, ne_eqb _ _ h))) ∙ inv

    module _ (z : f ≡ 0) where
      pub setting-most : most_constants ≤ count → stored (Err (against 7 t.start)) m places ≡ a
      unfolding constants_in
      setting-most h = sym (loop-done _ _ _ (count, end, t, m, places) _ (simp (sym be, nb, sym fe, eq-eqb _ _ z, le-leb _ _ h))) ∙ inv

      module _ (h : count < most_constants) (r : Setting) (p q : List ℕ) (re : stored r p q ≡ assigned_in s m places count end t) where
        pub setting-aside : (w : Fault) → r ≡ Err w → stored (Err w) p q ≡ a
        unfolding constants_in
        setting-aside w k = sym (loop-done _ _ _ (count, end, t, m, places) (stored (Err w) p q) (simp (sym be, nb, sym fe, eq-eqb _ _ z, lt-leb _ _ h, sym re, k))) ∙ inv

        pub setting-more : (w : Settings) → r ≡ Ok w → constants_in s p q (count + 1) w.index.end w.next ≡ a
        unfolding constants_in
        setting-more w k =
            sym (loop-next _ _ _ (count, end, t, m, places) (count + 1, w.index.end, w.next, p, q) (simp (sym be, nb, sym fe, eq-eqb _ _ z, lt-leb _ _ h, sym re, k)) (omega arith)) ∙ inv
