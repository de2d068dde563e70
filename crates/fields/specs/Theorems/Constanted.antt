-- Local-Constants read into the buffer and the table are those that the meaning reads. Assumes nothing.
use Rattle.std.specs.Prelude.{◌≡◌, refl, Bool, ℕ, suc, ◌+◌, ◌-◌, ◌*◌, ◌<◌, ◌≤◌, eqb, leb, drop, set, Some, Err}
use Rattle.std.proofs.Common.{sym, ◌∙◌, add-one, take-append-drop, take_at, drop_at, take-take}
use Rattle.std.proofs.Math.Path.{ap}
use Rattle.std.proofs.Math.Bool.{true, false}
use mathlib.Core.List.{List, [], ◌∷◌, ◌++◌, append_assoc, append-nil}
use native.Mathlib.Omega.{arith}
use Rattle.std.proofs.Math.Dec.{ltb}
use Rattle.std.proofs.Math.ListN.{length, take, length-append, length-set}
use Rattle.std.proofs.Math.Seq.{take-suc-set, length-take-le}
use borrow.Author.Tests.{lt-ltb, le-ltb, le-leb, lt-leb, leb-true, leb-false, ltb-false, eqb-true, eqb-false}
use Rattle.text.specs.Choice.{pick, split}
use Rattle.text.specs.Copy.{put, copy_at}
use Rattle.text.specs.CopyLaws.{put-append, put-length}
use Rattle.text.specs.Loop.{Step, done}
use Rattle.text.specs.Counted.{counted}
use Rattle.text.specs.Equal.{equal}
use Rattle.record.specs.Encode.{string_bytes, attribute_bytes, items_bytes}
use Rattle.record.specs.Places.{string_size, attribute_size, places_from}
use Rattle.record.specs.Stands.{Stands, stands-left, stands-right, counted-at}
use Rattle.record.specs.Query.{Attribute}
use Rattle.record.specs.Lies.{Lie, lie[], lie∷, AttributeAt}
use Rattle.lexical.specs.Kind
use Rattle.lexical.specs.Kind.{ending}
use Rattle.lexical.specs.Literal.{decoded_at}
use Rattle.lexical.specs.Line.{token_at}
use Rattle.lexical.specs.declared.token.Token.{Token}
use Rattle.index.specs.Working.Adding.{entered, index_of, append_into, counted_into}
use Rattle.expression.specs.Tables.{first_from}
use Rattle.syntax.specs.Code.{name_at}
use Rattle.syntax.specs.Parsed.{Parsed, ok, aside, refusal, unexpected}
use Rattle.syntax.specs.Stood.{Stood, stood-at, stood-end}
use Rattle.limits.specs.Limits.{most_constants, most_literal, most_record, most_lengths}
use Rattle.fields.specs.Parsed.{behind}
use Rattle.fields.specs.Working.Word.{word_of}
use Rattle.fields.specs.Constants.{is_set, constant_value, assigned, name_fault, constant, constants_turn, on_constant, constants_from}
use Rattle.fields.specs.Working.Setting.{Stored, stored, State, taken_in, constant_fault_in, store_in, value_in, assigned_in, setting_turn, on_assigned, on_stored, assigned_from, constants_in, refused_settings, settings}
use Rattle.fields.specs.Theorems.Together.{both, Steps, both-next, both-done, loop-same, refusal-some, behind-from, stood-start, stood-wide, stood-literal, word-short}
use Rattle.syntax.specs.Working.Faults.{against}
use Rattle.fields.specs.Theorems.Words.{word-is}

-- a search that starts one further on ends one further on
first-suc : (s name : List ℕ) (i : ℕ) (ps : List ℕ) → first_from s name (suc i) ps ≡ suc (first_from s name i ps)
unfolding first_from
first-suc s name i [] = refl
first-suc s name i (p ∷ ps) = split (equal (counted s p) name) (λ e. rw e) (λ e. rw e (first-suc s name (suc i) ps))

-- a name is unset where none of the places has it
unset-is : (s ps name : List ℕ) {l : List Attribute} → Lie (AttributeAt s) ps l → {A : Type 0} (x y : A) → pick (leb (length ps) (first_from s name 0 ps)) x y ≡ pick (is_set l name) y x
unfolding first_from is_set
unset-is s ps name lie[] x y = refl
unset-is s ps name (lie∷ {v = p} {vs = vs} {a = a} {l = l} at t) x y =
    let is : equal (counted s p) name ≡ equal a.name name = ap (λ (z : List ℕ). equal z name) at.0 in
    split (equal a.name name)
    (λ e. rw (is, e, lt-leb (suc (length vs)) 0 (omega arith)))
    (λ e. split (leb (length vs) (first_from s name 0 vs))
    (λ g. let h : length vs ≤ first_from s name 0 vs = leb-true _ _ g in
    rw (is, e, first-suc s name 0 vs, le-leb (suc (length vs)) (suc (first_from s name 0 vs)) (omega arith)) (let z = unset-is s vs name t x y in rw g at z))
    (λ g. let h : suc (first_from s name 0 vs) ≤ length vs = leb-false _ _ g in
    rw (is, e, first-suc s name 0 vs, lt-leb (suc (length vs)) (suc (first_from s name 0 vs)) (omega arith)) (let z = unset-is s vs name t x y in rw g at z)))

-- the same fault, or the same constants and token behind: they lie in the buffer at the places of the table, and what was there before stays
pub data ConstantsRead (s m q : List ℕ) (start : ℕ) : Parsed (List Attribute) → Stored → Type 0 where
  constants-aside : (r p : ℕ) (m' q' : List ℕ) → (r ≡ 0 → ⊥) → length m' ≡ length m → length q' ≡ length q → take start m' ≡ take start m
      → ConstantsRead s m q start (aside r p) (stored (Err (against r p)) m' q')
  constants-on : (cs : List Attribute) (c e : ℕ) (n : Token) (m' q' : List ℕ) → c ≡ length cs → c ≤ most_constants → Lie (AttributeAt m') (take c q') cs → Stood s n
      → length m' ≡ length m → length q' ≡ length q → take start m' ≡ take start m → ConstantsRead s m q start (ok cs n) (stored (settings (index_of c e) n) m' q')

string-length : (a : List ℕ) → length (string_bytes a) ≡ 2 + length a
unfolding string_bytes
string-length a = omega arith

attribute-length : (a : Attribute) → length (attribute_bytes a) ≡ attribute_size a
unfolding attribute_bytes attribute_size string_size
attribute-length a = omega (arith, length-append (string_bytes a.name) (string_bytes a.value), string-length a.name, string-length a.value)

items-snoc : (l : List Attribute) (a : Attribute) → items_bytes attribute_bytes (l ++ (a ∷ [])) ≡ items_bytes attribute_bytes l ++ attribute_bytes a
unfolding items_bytes
items-snoc [] a = append-nil (attribute_bytes a)
items-snoc (b ∷ l) a = rw (items-snoc l a) (sym (append_assoc (attribute_bytes b) (items_bytes attribute_bytes l) (attribute_bytes a)))

places-snoc : (l : List Attribute) (a : Attribute) (at : ℕ)
    → places_from attribute_size 2 at (l ++ (a ∷ [])) ≡ places_from attribute_size 2 at l ++ ((at + length (items_bytes attribute_bytes l) + 2) ∷ [])
unfolding places_from items_bytes
places-snoc [] a at = let z : at + 2 ≡ at + 0 + 2 = omega arith in rw z
places-snoc (b ∷ l) a at =
    let z : at + attribute_size b + length (items_bytes attribute_bytes l) + 2 ≡ at + length (attribute_bytes b ++ items_bytes attribute_bytes l) + 2
    = omega (arith, length-append (attribute_bytes b) (items_bytes attribute_bytes l), attribute-length b) in
    rw (places-snoc l a (at + attribute_size b), z)

-- constants that stand one behind the other lie at their places
attribute-at : (m : List ℕ) (a : Attribute) (at p : ℕ) → Stands m at (attribute_bytes a) p → AttributeAt m (at + 2) a
unfolding attribute_bytes
attribute-at m a at p st =
    let z : at + length (string_bytes a.name) + 2 ≡ at + 2 + length a.name + 2 = omega (arith, string-length a.name) in
    let v : counted m (at + length (string_bytes a.name) + 2) ≡ a.value = counted-at a.value (stands-right (string_bytes a.name) (string_bytes a.value) st) in
    (counted-at a.name (stands-left (string_bytes a.name) (string_bytes a.value) st), rw z at v)

attributes-lie : (m : List ℕ) (l : List Attribute) (at p : ℕ) → Stands m at (items_bytes attribute_bytes l) p → Lie (AttributeAt m) (places_from attribute_size 2 at l) l
unfolding items_bytes places_from
attributes-lie m [] at p st = lie[]
attributes-lie m (a ∷ l) at p st =
    let e : at + length (attribute_bytes a) ≡ at + attribute_size a = ap (λ (n : ℕ). at + n) (attribute-length a) in
    let rest : Stands m (at + attribute_size a) (items_bytes attribute_bytes l) p = rw e at (stands-right (attribute_bytes a) (items_bytes attribute_bytes l) st) in
    lie∷ (attribute-at m a at _ (stands-left (attribute_bytes a) (items_bytes attribute_bytes l) st)) (attributes-lie m l (at + attribute_size a) p rest)

-- what has been read so far
pub record Laid (s m q : List ℕ) (start : ℕ) (cs : List Attribute) (t : Token) (c e : ℕ) (m' q' : List ℕ) : Type 0 where
  pub number : c ≡ length cs
  pub few : c ≤ most_constants
  pub bytes : take e m' ≡ take start m ++ items_bytes attribute_bytes cs
  pub entries : take c q' ≡ places_from attribute_size 2 start cs
  pub ends : e ≡ start + length (items_bytes attribute_bytes cs)
  pub room : e ≤ start + 4 * c + t.start
  pub buffer : length m' ≡ length m
  pub table : length q' ≡ length q
  pub stood : Stood s t

module _ (s m q : List ℕ) (start : ℕ) (short : length s ≤ most_record) (places : most_constants ≤ length q) (fits : start + most_lengths + length s ≤ length m) where
  module _ {cs : List Attribute} {t : Token} {c e : ℕ} {m' q' : List ℕ} (laid : Laid s m q start cs t c e m' q') where
    front : length (take start m) ≡ start
    front = length-take-le start m (omega (arith, fits))

    inside : e ≤ length m'
    inside = omega (arith, laid.room, laid.few, laid.buffer, stood-start laid.stood, fits)

    laid-before : take start m' ≡ take start m
    laid-before =
        sym (take-take start e m' (omega (arith, laid.ends))) ∙ ap (take start) laid.bytes ∙ take_at (take start m) (items_bytes attribute_bytes cs) start front

    laid-stands : Stands m' start (items_bytes attribute_bytes cs) e
    laid-stands = record {
      behind = laid.ends;
      here =
          ap (drop start) (sym (take-append-drop e m') ∙ ap (λ (x : List ℕ). x ++ drop e m') laid.bytes ∙ append_assoc (take start m) (items_bytes attribute_bytes cs) (drop e m'))
          ∙ drop_at (take start m) (items_bytes attribute_bytes cs ++ drop e m') start front;
      inside = inside;
    }

    laid-lie : Lie (AttributeAt m') (take c q') cs
    laid-lie = rw laid.entries (attributes-lie m' cs start e laid-stands)

    taken_as : (name : List ℕ) → taken_in m' q' c name ≡ is_set cs name
    unfolding taken_in
    taken_as name =
        let l : length (take c q') ≡ c = length-take-le c q' (omega (arith, laid.few, laid.table, places)) in
        let u : pick (leb (length (take c q')) (first_from m' name 0 (take c q'))) false true ≡ pick (is_set cs name) true false = unset-is m' (take c q') name laid-lie false true in
        let w : pick (leb c (first_from m' name 0 (take c q'))) false true ≡ pick (is_set cs name) true false = rw l at u in
        rw (le-ltb (length q') c (omega (arith, laid.few, laid.table, places)))
        (less (first_from m' name 0 (take c q')) c ∙ w ∙ same (is_set cs name))
      where
        less : (i c : ℕ) → ltb i c ≡ pick (leb c i) false true
        less i c = split (leb c i) (λ f. rw (f, le-ltb i c (leb-true _ _ f))) (λ f. rw (f, lt-ltb i c (leb-false _ _ f)))

        same : (b : Bool) → pick b true false ≡ b
        same true = refl
        same false = refl

    fault-as : constant_fault_in s m' q' c t ≡ name_fault s cs t
    unfolding constant_fault_in name_fault
    fault-as =
        split (eqb t.kind Kind.NAME)
        (λ f. rw (f, word-is laid.stood (eqb-true _ _ f), taken_as (name_at s t.start)))
        (λ f. rw f)

-- where there is room, a name and its value are put behind the others
store_is : (m q : List ℕ) (c e : ℕ) (a : Attribute) → c < length q → length a.name ≤ 65535 → length a.value ≤ 65535
    → e + 2 + length a.name + 2 + length a.value ≤ length m
    → store_in m q c e a.name a.value ≡ entered (Some (index_of (c + 1) (e + 2 + length a.name + 2 + length a.value))) (put m e (attribute_bytes a)) (set q c (e + 2))
unfolding store_in append_into counted_into copy_at attribute_bytes
store_is m q c e a h hn hv fits =
    let n : length (string_bytes a.name) ≡ 2 + length a.name = string-length a.name in
    let v : length (string_bytes a.value) ≡ 2 + length a.value = string-length a.value in
    let l : length (put m e (string_bytes a.name)) ≡ length m = put-length m e (string_bytes a.name) (omega arith) in
    let z : e + 2 + length a.name ≡ e + length (string_bytes a.name) = omega arith in
    let w : put (put m e (string_bytes a.name)) (e + 2 + length a.name) (string_bytes a.value) ≡ put m e (string_bytes a.name ++ string_bytes a.value)
    = ap (λ (x : ℕ). put (put m e (string_bytes a.name)) x (string_bytes a.value)) z ∙ sym (put-append m e (string_bytes a.name) (string_bytes a.value) (omega arith)) in
    rw (
      lt-leb (length q) c h,
      le-ltb 65535 (length a.name) hn,
      le-leb (e + length (string_bytes a.name)) (length m) (omega arith),
      le-ltb 65535 (length a.value) hv,
      le-leb (e + 2 + length a.name + length (string_bytes a.value)) (length (put m e (string_bytes a.name))) (omega arith),
      w,
    )

front-put : (m : List ℕ) (at : ℕ) (x : List ℕ) → at ≤ length m → take (at + length x) (put m at x) ≡ take at m ++ x
unfolding put
front-put m at x h =
    take_at (take at m ++ x) (drop (at + length x) m) (at + length x) (length-append (take at m) x ∙ ap (λ (n : ℕ). n + length x) (length-take-le at m h))

-- one more constant: the same fault, or the same constant behind the others
pub data OneRead (s m q : List ℕ) (start : ℕ) (cs : List Attribute) (c : ℕ) (m' q' : List ℕ) : Parsed Attribute → Stored → Type 0 where
  one-aside : (r p : ℕ) → (r ≡ 0 → ⊥) → OneRead s m q start cs c m' q' (aside r p) (stored (Err (against r p)) m' q')
  one_on : (a : Attribute) (d e : ℕ) (n : Token) (m'' q'' : List ℕ) → Laid s m q start (cs ++ (a ∷ [])) n (c + 1) e m'' q''
      → OneRead s m q start cs c m' q' (ok a n) (stored (settings (index_of d e) n) m'' q'')

module _ (s m q : List ℕ) (start : ℕ) (short : length s ≤ most_record) (places : most_constants ≤ length q) (fits : start + most_lengths + length s ≤ length m) where
  module _ {cs : List Attribute} {t : Token} {c e : ℕ} {m' q' : List ℕ} (laid : Laid s m q start cs t c e m' q') (few : c < most_constants) where
    laid_more : (a : Attribute) (n : Token) → Stood s n → e + 2 + length a.name + 2 + length a.value ≤ start + 4 * (c + 1) + n.start
        → Laid s m q start (cs ++ (a ∷ [])) n (c + 1) (e + 2 + length a.name + 2 + length a.value) (put m' e (attribute_bytes a)) (set q' c (e + 2))
    unfolding attribute_size string_size
    laid_more a n sn h =
        let k : length (attribute_bytes a) ≡ 2 + length a.name + (2 + length a.value) = attribute-length a in
        let z : e + 2 + length a.name + 2 + length a.value ≡ e + length (attribute_bytes a) = omega arith in
        let f : e + length (attribute_bytes a) ≤ length m' = omega (arith, laid.buffer, stood-start sn, fits) in
        let i : length (items_bytes attribute_bytes (cs ++ (a ∷ []))) ≡ length (items_bytes attribute_bytes cs) + length (attribute_bytes a)
        = ap length (items-snoc cs a) ∙ length-append (items_bytes attribute_bytes cs) (attribute_bytes a) in
        let p : e + 2 ≡ start + length (items_bytes attribute_bytes cs) + 2 = omega (arith, laid.ends) in
        record {
          number = omega (arith, laid.number, length-append cs (a ∷ []));
          few = omega (arith, few);
          bytes =
              ap (λ (x : ℕ). take x (put m' e (attribute_bytes a))) z ∙ front-put m' e (attribute_bytes a) (omega arith) ∙ ap (λ (x : List ℕ). x ++ attribute_bytes a) laid.bytes
              ∙ append_assoc (take start m) (items_bytes attribute_bytes cs) (attribute_bytes a) ∙ ap (λ (x : List ℕ). take start m ++ x) (sym (items-snoc cs a));
          entries =
              rw (add-one c, take-suc-set q' c (e + 2) (omega (arith, laid.table, places, few)), laid.entries, p) (sym (places-snoc cs a start));
          ends = omega (arith, laid.ends);
          room = h;
          buffer = put-length m' e (attribute_bytes a) f ∙ laid.buffer;
          table = length-set q' c (e + 2) ∙ laid.table;
          stood = sn;
        }

    abbrev One : Parsed Attribute → Stored → Type 0
    One = OneRead s m q start cs c m' q'

    module _ (name : t.kind ≡ Kind.NAME) where
      wide : t.start < t.end
      wide = stood-wide laid.stood (omega (arith, name))

      value-one : (v : Token) → Stood s v → t.end + 1 ≤ v.start → One (constant_value s (word_of s t) v) (value_in s m' q' c e t v)
      unfolding constant_value value_in
      value-one v sv behind-name =
          both One (eqb v.kind Kind.LITERAL) _ _ _ _
          (λ isLiteral. both One (ltb most_literal (length (decoded_at s v.start))) _ _ _ _
          (λ long. one-aside 7 v.start (λ z. omega (arith, z)))
          (λ small. literal (eqb-true _ _ isLiteral) (ltb-false _ _ small)))
          (λ other. one-aside (refusal v.kind) v.start (refusal-some v.kind))
        where
          literal : v.kind ≡ Kind.LITERAL → length (decoded_at s v.start) ≤ most_literal → One (ok (record { name = word_of s t; value = decoded_at s v.start }) (behind s Kind.IN_FIELD v))
              (on_stored (behind s Kind.IN_FIELD v) (store_in m' q' c e (word_of s t) (decoded_at s v.start)))
          literal k h =
              let a : Attribute = record { name = word_of s t; value = decoded_at s v.start } in
              let w : t.start + length (word_of s t) ≤ t.end = word-short s t (omega (arith, wide)) in
              let d : v.start + 2 + length (decoded_at s v.start) ≤ v.end = stood-literal sv k in
              let i : v.end ≤ length s = stood-end sv (omega (arith, k)) in
              let n : v.end ≤ (token_at s Kind.IN_FIELD v.end).start = behind-from s Kind.IN_FIELD v.end i in
              let r : e ≤ start + 4 * c + t.start = laid.room in
              rw (store_is m' q' c e a (omega (arith, laid.table, places, few)) (omega (arith, short)) (omega arith) (omega (arith, laid.buffer, few, fits)))
              (one_on a (c + 1) (e + 2 + length (word_of s t) + 2 + length (decoded_at s v.start)) (token_at s Kind.IN_FIELD v.end) (put m' e (attribute_bytes a)) (set q' c (e + 2))
              (laid_more a (token_at s Kind.IN_FIELD v.end) (stood-at s Kind.IN_FIELD v.end) (omega arith)))

      assigned-one : (a : Token) → Stood s a → t.end ≤ a.start → One (assigned s (word_of s t) a) (assigned_from s m' q' c e t a)
      unfolding assigned
      assigned-one a sa behind-name =
          both One (eqb a.kind Kind.ASSIGN) _ _ _ _
          (λ f. let k : a.kind ≡ Kind.ASSIGN = eqb-true _ _ f in
          let w : a.start < a.end = stood-wide sa (omega (arith, k)) in
          let i : a.end ≤ length s = stood-end sa (omega (arith, k)) in
          let n : a.end ≤ (token_at s Kind.IN_FIELD a.end).start = behind-from s Kind.IN_FIELD a.end i in
          value-one (token_at s Kind.IN_FIELD a.end) (stood-at s Kind.IN_FIELD a.end) (omega arith))
          (λ f. one-aside (refusal a.kind) a.start (refusal-some a.kind))

      pub one-read : One (assigned s (name_at s t.start) (behind s Kind.IN_FIELD t)) (assigned_in s m' q' c e t)
      unfolding assigned_in
      one-read =
          rw (← word-is laid.stood name)
          (assigned-one (token_at s Kind.IN_FIELD t.end) (stood-at s Kind.IN_FIELD t.end)
          (behind-from s Kind.IN_FIELD t.end (stood-end laid.stood (omega (arith, name)))))

fault-name : (s : List ℕ) (cs : List Attribute) (t : Token) → name_fault s cs t ≡ 0 → t.kind ≡ Kind.NAME
unfolding name_fault
fault-name s cs t h = split (eqb t.kind Kind.NAME) (λ e. eqb-true _ _ e) (λ e. absurd (refusal-some t.kind (rw e at h)))

-- the two loops side by side
data Held (s m q : List ℕ) (start : ℕ) : List Attribute × Token → State → Type 0 where
  held : (cs : List Attribute) (t : Token) (c e : ℕ) (m' q' : List ℕ) → Laid s m q start cs t c e m' q' → Held s m q start (cs, t) (c, e, t, m', q')

module _ (s m q : List ℕ) (start : ℕ) (short : length s ≤ most_record) (places : most_constants ≤ length q) (fits : start + most_lengths + length s ≤ length m) where
  abbrev Turns : List Attribute × Token → State → Step (List Attribute × Token) (Parsed (List Attribute)) → Step State Stored → Type 0
  Turns = Steps (λ x. most_constants - length x.0) (λ x. unexpected x.1) (constants_turn s)
      (λ x. most_constants - x.0) (λ x. stored (refused_settings x.2) x.3 x.4) (setting_turn s) (Held s m q start) (ConstantsRead s m q start)

  module _ {cs : List Attribute} {t : Token} {c e : ℕ} {m' q' : List ℕ} (laid : Laid s m q start cs t c e m' q') where
    set-aside : (r p : ℕ) → (r ≡ 0 → ⊥) → Turns (cs, t) (c, e, t, m', q') (done (aside r p)) (done (stored (Err (against r p)) m' q'))
    set-aside r p h = both-done (aside r p) (stored (Err (against r p)) m' q') (constants-aside r p m' q' h laid.buffer laid.table (laid-before s m q start short places fits laid))

    one-turned : c < most_constants → (x : Parsed Attribute) (y : Stored) → OneRead s m q start cs c m' q' x y → Turns (cs, t) (c, e, t, m', q') (on_constant cs x) (on_assigned c y)
    one-turned few _ _ (one-aside r p h) = set-aside r p h
    one-turned few _ _ (one_on a d e' n m'' q'' l) =
        let k : length (cs ++ (a ∷ [])) ≡ length cs + 1 = length-append cs (a ∷ []) in
        both-next (cs ++ (a ∷ []), n) (c + 1, e', n, m'', q'') (held (cs ++ (a ∷ [])) n (c + 1) e' m'' q'' l) (omega (arith, few, laid.number)) (omega (arith, few))

    named-turn : name_fault s cs t ≡ 0
        → Turns (cs, t) (c, e, t, m', q') (on_constant cs (pick (leb most_constants (length cs)) (aside 7 t.start) (assigned s (name_at s t.start) (behind s Kind.IN_FIELD t))))
        (pick (leb most_constants c) (done (stored (Err (against 7 t.start)) m' q')) (on_assigned c (assigned_in s m' q' c e t)))
    named-turn z =
        split (leb most_constants c)
        (λ f. rw (← laid.number, f) (set-aside 7 t.start (λ z. omega (arith, z))))
        (λ f. rw (← laid.number, f) (one-turned (leb-false _ _ f) _ _ (one-read s m q start short places fits laid (leb-false _ _ f) (fault-name s cs t z))))

    turn : Turns (cs, t) (c, e, t, m', q') (constants_turn s (cs, t)) (setting_turn s (c, e, t, m', q'))
    unfolding constant
    turn =
        both (Turns (cs, t) (c, e, t, m', q')) (ending t.kind) _ _ _ _
        (λ f. both-done (ok cs t) (stored (settings (index_of c e) t) m' q')
        (constants-on cs c e t m' q' laid.number laid.few (laid-lie s m q start short places fits laid) laid.stood laid.buffer laid.table
        (laid-before s m q start short places fits laid)))
        (λ f. split (eqb (name_fault s cs t) 0)
        (λ g. rw (fault-as s m q start short places fits laid, g) (named-turn (eqb-true _ _ g)))
        (λ g. rw (fault-as s m q start short places fits laid, g) (set-aside (name_fault s cs t) t.start (eqb-false _ _ g))))

  turns : (x : List Attribute × Token) (y : State) → Held s m q start x y → Turns x y (constants_turn s x) (setting_turn s y)
  turns _ _ (held cs t c e m' q' laid) = turn laid

nothing-laid : (s m q : List ℕ) (start : ℕ) (t : Token) → Stood s t → Laid s m q start [] t 0 start m q
unfolding items_bytes places_from
nothing-laid s m q start t st = record {
  number = refl;
  few = omega arith;
  bytes = sym (append-nil (take start m));
  entries = refl;
  ends = omega arith;
  room = omega arith;
  buffer = refl;
  table = refl;
  stood = st;
}

-- what is read into the buffer and the table is what the meaning reads
pub constants-read : (s m q : List ℕ) (start : ℕ) (t : Token) → Stood s t → length s ≤ most_record → most_constants ≤ length q → start + most_lengths + length s ≤ length m
    → ConstantsRead s m q start (constants_from s [] t) (constants_in s m q 0 start t)
unfolding constants_from constants_in
constants-read s m q start t st short places fits =
    loop-same _ _ (constants_turn s) _ _ (setting_turn s) (Held s m q start) (ConstantsRead s m q start) (turns s m q start short places fits) ([], t) (0, start, t, m, q)
    (held [] t 0 start m q (nothing-laid s m q start t st))
