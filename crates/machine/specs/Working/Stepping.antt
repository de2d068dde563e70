-- Working laws: the ways out of the machine's functions. Assumes nothing.
use Rattle.std.specs.Prelude.{◌≡◌, Bool, Option, Some, Result, Ok, Err, List, [], ◌∷◌, ◌++◌, ◌^◌, ℕ, zero, suc, ◌+◌, ◌-◌, ◌<◌, ◌≤◌, leb, ltb, get_or, None}
use Rattle.std.proofs.Math.Path.{refl, sym, ap}
use Rattle.std.proofs.Common.{◌∙◌, append_assoc, Fits, lt_of_le_of_lt, add-one, length-set, length-append, drop_of_length-le, take-suc-set, take_at}
use Rattle.std.proofs.Math.Bool.{true, false}
use Rattle.std.specs.Int.{w64}
use native.Mathlib.Omega.{arith}
use Rattle.std.proofs.Math.ListN.{length, take, drop, set}
use Rattle.std.proofs.Math.Seq.{length-take-le, take-take, get_or-take, take-nil, length-sets}
use Rattle.std.proofs.lemmas.List.Edits.{sets, sets-eq}
use borrow.Author.Tests.{lt-ltb, le-ltb, le-leb, lt-leb, ltb-true, ltb-false, leb-true, leb-false}
use Rattle.text.specs.Choice.{split, clash}
use Rattle.text.specs.Scan.{run, past, past-from, past-within}
use Rattle.text.specs.Class.{in_class, is_word, word}
use Rattle.text.specs.Copy.{copied, put, copy_at}
use Rattle.text.specs.CopyLaws.{put-length}
use Rattle.lexical.specs.Literal.{decoded_at}
use Rattle.lexical.specs.Decode.{within, decode_into, decode_within}
use Rattle.lexical.specs.declared.literal.DecodeError.{DecodeError}
use Rattle.lexical.specs.declared.literal.DecodeError.TheVariants.{Long, Full}
use Rattle.lexical.specs.Working.Plain.{bare_end, bare-given}
use Rattle.expression.specs.Value.{operand}
use Rattle.expression.specs.Operands.{kind_of, size_of, unpacked, width, value_of, is_text}
use Rattle.expression.specs.Working.Clauses.{applied, combined}
use Rattle.expression.specs.declared.value.Operand.{Operand}
use Rattle.expression.specs.declared.value.Operand.TheVariants.{Text, Fault}
use Rattle.machine.specs.Working.Machine.{State, on, stuck, placed, text_step, top_of, below, unary_on, unary_step, lookup_on, lookup_step, put_below_on, binary_on, binary_step, run_at}
use Rattle.machine.specs.Working.Live.{tops, Reached, Live, landed, put_at, put_below}
use Rattle.limits.specs.Limits.{most_string}
use Rattle.machine.specs.declared.Tops.{Tops}

-- a part of a front
pub drop-take : (b n : ℕ) (l : List ℕ) → drop b (take n l) ≡ take (n - b) (drop b l)
drop-take zero n l = let e : n - 0 ≡ n = omega arith in rw e
drop-take (suc b) zero l = let e : 0 - suc b ≡ 0 = omega arith in rw e
drop-take (suc b) (suc n) [] = sym (take-nil (suc n - suc b))
drop-take (suc b) (suc n) (x ∷ l) = let e : suc n - suc b ≡ n - b = omega arith in rw e (drop-take b n l)

-- the ways out of `put`
module _ (st : List ℕ) (n t : ℕ) (v : Operand) where
  pub put_full : n ≤ length st → length st < n + 2 → landed None st ≡ put_at st n t v
  unfolding put_at
  put_full l h = rw (le-ltb (length st) n l, lt-ltb (length st - n) 2 (omega (arith, h)))

  pub put_in : n + 2 ≤ length st → (k m : ℕ) → k ≡ kind_of v → m ≡ size_of v → landed (tops (n + 2) t) (set (set st n k) (n + 1) m) ≡ put_at st n t v
  unfolding put_at
  put_in h k m ke me = rw (ke, me, le-ltb (length st) n (omega (arith, h)), le-ltb (length st - n) 2 (omega (arith, h)))

pub put_second : (st : List ℕ) (n k : ℕ) → n + 2 ≤ length st → n + 1 < length (set st n k)
put_second st n k h = rw length-set (omega (arith, h))

-- what is put lies on top of what was there
two-on : (st : List ℕ) (n k m : ℕ) → n + 2 ≤ length st → take (n + 2) (set (set st n k) (n + 1) m) ≡ take n st ++ (k ∷ m ∷ [])
two-on st n k m h =
    let e : n + 2 ≡ suc (n + 1) = omega arith in
    let l : n + 1 < length (set st n k) = rw length-set (omega arith) in
    rw (e, take-suc-set (set st n k) (n + 1) m l, add-one n, take-suc-set st n k (omega arith)) (append_assoc (take n st) (k ∷ []) (m ∷ []))

landed-is : {r r' : Reached} {s s' : List ℕ} → landed r s ≡ landed r' s' → (r ≡ r') × (s ≡ s')
landed-is e = (cc, cc)

live_at : (r : Reached) (st' m : List ℕ) (s : State) → (w : Tops) → r ≡ Some w → w.numbers ≤ length st' → w.bytes ≤ length m → on (take w.numbers st') (take w.bytes m) ≡ s → Live r st' m s
live_at r st' m s w re h k e = rw re (record { within = (h, k); holds = e })

pub live-stuck : (r : Reached) (st' m : List ℕ) (s : State) → r ≡ None → stuck ≡ s → Live r st' m s
live-stuck r st' m s re e = rw re (record { within = tt; holds = e })

module _ (st m : List ℕ) (n t : ℕ) (v : Operand) (hn : n ≤ length st) (ht : t ≤ length m) (r : Reached) (st' : List ℕ) (is : landed r st' ≡ put_at st n t v) where
  size : length (take n st) ≡ n
  size = length-take-le n st hn

  pub put-live : Live r st' m (placed (length st) (take n st) (take t m) v)
  unfolding placed put_at
  put-live =
      split (ltb (length st - n) 2)
      (λ f. let q : landed r st' ≡ landed None st = rw (le-ltb (length st) n hn, f) at is in
      live-stuck r st' m _ (landed-is q).0 (rw (size, f)))
      (λ f. let room : 2 ≤ length st - n = ltb-false _ _ f in
      let q : landed r st' ≡ landed (tops (n + 2) t) (set (set st n (kind_of v)) (n + 1) (size_of v)) = rw (le-ltb (length st) n hn, f) at is in
      let se : st' ≡ set (set st n (kind_of v)) (n + 1) (size_of v) = (landed-is q).1 in
      let le : length st' ≡ length st = ap length se ∙ rw (length-set, length-set) in
      live_at r st' m _ (record { numbers = n + 2; bytes = t }) (landed-is q).0 (omega arith) ht
      (rw (size, f, se, two-on st n (kind_of v) (size_of v) (omega arith))))

-- the ways out of `push_text` and `push_literal`
copied_is : {c c' : Bool} {m m' : List ℕ} → copied c m ≡ copied c' m' → (c ≡ c') × (m ≡ m')
copied_is e = (cc, cc)

put_front : (m : List ℕ) (t : ℕ) (b : List ℕ) → t ≤ length m → take (t + length b) (take t m ++ b ++ drop (t + length b) m) ≡ take t m ++ b
put_front m t b h = take_at (take t m ++ b) (drop (t + length b) m) (t + length b) (length-append-is m t b h)
  where
    length-append-is : (m : List ℕ) (t : ℕ) (b : List ℕ) → t ≤ length m → length (take t m ++ b) ≡ t + length b
    length-append-is m t b h = rw (length-append, length-take-le t m h)

module _ (st m : List ℕ) (n t : ℕ) (hn : n ≤ length st) (ht : t ≤ length m) (b : List ℕ) where
  pub text-over : most_string < length b → (r : Reached) (st' : List ℕ) → landed r st' ≡ put_at st n t Fault
      → Live r st' m (text_step (length st) (length m) b (take n st) (take t m))
  unfolding text_step
  text-over h r st' is = rw (lt-ltb most_string (length b) h) (put-live st m n t Fault hn ht r st' is)

  module _ (short : length b ≤ most_string) where
    -- the bytes stand in the buffer
    text_in : (m' : List ℕ) → length m' ≡ length m → t + length b ≤ length m → take (t + length b) m' ≡ take t m ++ b
        → (r : Reached) (st' : List ℕ) → landed r st' ≡ put_at st n (t + length b) (Text (length b))
        → Live r st' m' (text_step (length st) (length m) b (take n st) (take t m))
    unfolding text_step
    text_in m' le room fe r st' is =
        rw (le-ltb most_string (length b) short, length-take-le t m ht, le-leb (t + length b) (length m) room, ← fe)
        (put-live st m' n (t + length b) (Text (length b)) hn (rw le room) r st' is)

    text-stuck : length m < t + length b → (st' m' : List ℕ) → Live None st' m' (text_step (length st) (length m) b (take n st) (take t m))
    unfolding text_step
    text-stuck out st' m' =
        live-stuck None st' m' _ refl (rw (le-ltb most_string (length b) short, length-take-le t m ht, lt-leb (t + length b) (length m) out))

    module _ (c : Bool) (m' : List ℕ) (ce : copied c m' ≡ copy_at m t b) where
      pub text-copied : c ≡ true → (r : Reached) (st' : List ℕ) → landed r st' ≡ put_at st n (t + length b) (Text (length b))
          → Live r st' m' (text_step (length st) (length m) b (take n st) (take t m))
      unfolding copy_at put
      text-copied ct r st' is =
          split (leb (t + length b) (length m))
          (λ f. let room : t + length b ≤ length m = leb-true _ _ f in
          let q : copied c m' ≡ copied true (take t m ++ b ++ drop (t + length b) m) = rw f at ce in
          let me : m' ≡ take t m ++ b ++ drop (t + length b) m = (copied_is q).1 in
          text_in m' (ap length me ∙ put-length m t b room) room (ap (take (t + length b)) me ∙ put_front m t b ht) r st' is)
          (λ f. let q : copied c m' ≡ copied false m = rw f at ce in clash ct (copied_is q).0)

      pub text-none : c ≡ false → (st' : List ℕ) → Live None st' m' (text_step (length st) (length m) b (take n st) (take t m))
      unfolding copy_at
      text-none cf st' =
          split (leb (t + length b) (length m))
          (λ f. let q : copied c m' ≡ copied true (put m t b) = rw f at ce in clash (copied_is q).0 cf)
          (λ f. text-stuck (leb-false _ _ f) st' m')

-- what `decode_within` tells of a literal
data Decoding (s : List ℕ) (at : ℕ) (m : List ℕ) (t : ℕ) : Result ℕ DecodeError → List ℕ → Type 0 where
  too_long : most_string < length (decoded_at s at) → Decoding s at m t (Err Long) m
  too-full : length (decoded_at s at) ≤ most_string → length m < t + length (decoded_at s at) → Decoding s at m t (Err Full) m
  put-there : length (decoded_at s at) ≤ most_string → t + length (decoded_at s at) ≤ length m → Decoding s at m t (Ok (length (decoded_at s at))) (sets m t (decoded_at s at))

decodings : (s : List ℕ) (at : ℕ) (m : List ℕ) (t : ℕ) → t ≤ length m → (d : Result ℕ DecodeError) (m' : List ℕ) → within d m' ≡ decode_within s at m t most_string → Decoding s at m t d m'
unfolding decode_within decode_into
decodings s at m t ht d m' e =
    split (ltb most_string (length (decoded_at s at)))
    (λ f. let q : within d m' ≡ within (Err Long) m = rw f at e in rw ((within-is q).0, (within-is q).1) (too_long (ltb-true _ _ f)))
    (λ f. split (ltb (length m - t) (length (decoded_at s at)))
    (λ g. let q : within d m' ≡ within (Err Full) m = rw (f, le-ltb (length m) t ht, g) at e in
    let h : length m - t < length (decoded_at s at) = ltb-true _ _ g in
    rw ((within-is q).0, (within-is q).1) (too-full (ltb-false _ _ f) (omega arith)))
    (λ g. let q : within d m' ≡ within (Ok (length (decoded_at s at))) (sets m t (decoded_at s at)) = rw (f, le-ltb (length m) t ht, g) at e in
    let h : length (decoded_at s at) ≤ length m - t = ltb-false _ _ g in
    rw ((within-is q).0, (within-is q).1) (put-there (ltb-false _ _ f) (omega arith))))
  where
    within-is : {d d' : Result ℕ DecodeError} {m m' : List ℕ} → within d m ≡ within d' m' → (d ≡ d') × (m ≡ m')
    within-is e = (cc, cc)

module _ (s : List ℕ) (at : ℕ) (st m : List ℕ) (n t : ℕ) (hn : n ≤ length st) (ht : t ≤ length m) (d : Result ℕ DecodeError) (m' : List ℕ) (de : within d m' ≡ decode_within s at m t most_string) where
  abbrev step : State
  step = text_step (length st) (length m) (decoded_at s at) (take n st) (take t m)

  over-from : (b : Result ℕ DecodeError) (w : List ℕ) → Decoding s at m t b w → b ≡ Err Long → (r : Reached) (st' : List ℕ) → landed r st' ≡ put_at st n t Fault → Live r st' w step
  over-from _ _ (too_long h) e r st' is = text-over st m n t hn ht (decoded_at s at) h r st' is
  over-from _ _ (too-full h o) e r st' is = absurd (let z : ◌≡◌ {A = ℕ} 0 1 = cc e in omega (arith, z))
  over-from _ _ (put-there h o) e r st' is = absurd (let z : ◌≡◌ {A = ℕ} 0 1 = cc e in omega (arith, z))

  pub literal-over : (e : DecodeError) → d ≡ Err e → e ≡ Long → (r : Reached) (st' : List ℕ) → landed r st' ≡ put_at st n t Fault → Live r st' m' step
  literal-over e is long = over-from d m' (decodings s at m t ht d m' de) (is ∙ ap Err long)

  none_from : (b : Result ℕ DecodeError) (w : List ℕ) → Decoding s at m t b w → b ≡ Err Full → (st' : List ℕ) → Live None st' w step
  none_from _ _ (too_long h) e st' = absurd (let z : ◌≡◌ {A = ℕ} 0 1 = cc e in omega (arith, z))
  none_from _ _ (too-full h o) e st' = text-stuck st m n t hn ht (decoded_at s at) h o st' m
  none_from _ _ (put-there h o) e st' = absurd (let z : ◌≡◌ {A = ℕ} 0 1 = cc e in omega (arith, z))

  pub literal-none : (e : DecodeError) → d ≡ Err e → e ≡ Full → (st' : List ℕ) → Live None st' m' step
  literal-none e is full = none_from d m' (decodings s at m t ht d m' de) (is ∙ ap Err full)

  in-from : (b : Result ℕ DecodeError) (w : List ℕ) → Decoding s at m t b w → (k : ℕ) → b ≡ Ok k → (r : Reached) (st' : List ℕ) → landed r st' ≡ put_at st n (t + k) (Text k) → Live r st' w step
  in-from _ _ (too_long h) k e r st' is = absurd (let z : ◌≡◌ {A = ℕ} 0 1 = cc e in omega (arith, z))
  in-from _ _ (too-full h o) k e r st' is = absurd (let z : ◌≡◌ {A = ℕ} 0 1 = cc e in omega (arith, z))
  in-from _ _ (put-there h o) k e r st' is =
      let ke : k ≡ length (decoded_at s at) = cc e in
      text_in st m n t hn ht (decoded_at s at) h (sets m t (decoded_at s at)) (length-sets m t (decoded_at s at)) o
      (ap (take (t + length (decoded_at s at))) (sets-eq (decoded_at s at) m t o) ∙ put_front m t (decoded_at s at) ht) r st' (rw ke at is)

  pub literal-in : (k : ℕ) → d ≡ Ok k → (r : Reached) (st' : List ℕ) → landed r st' ≡ put_at st n (t + k) (Text k) → Live r st' m' step
  literal-in = in-from d m' (decodings s at m t ht d m' de)

  -- what was put ends in the buffer
  room-from : (b : Result ℕ DecodeError) (w : List ℕ) → Decoding s at m t b w → (k : ℕ) → b ≡ Ok k → t + k ≤ length m
  room-from _ _ (too_long h) k e = absurd (let z : ◌≡◌ {A = ℕ} 0 1 = cc e in omega (arith, z))
  room-from _ _ (too-full h o) k e = absurd (let z : ◌≡◌ {A = ℕ} 0 1 = cc e in omega (arith, z))
  room-from _ _ (put-there h o) k e = let ke : k ≡ length (decoded_at s at) = cc e in rw ke o

  pub literal-room : (k : ℕ) → d ≡ Ok k → length m < 2 ^ 64 → Fits w64 (t + k)
  literal-room k e l = record { fits = lt_of_le_of_lt (room-from d m' (decodings s at m t ht d m' de) k e) l }

-- a literal of plain bytes
pub literal-bare : (s : List ℕ) (at e : ℕ) (p : Option ℕ) → p ≡ bare_end s at → p ≡ Some e → (depth room : ℕ) (vs bs : List ℕ) (r : Reached) (st m : List ℕ)
    → Live r st m (text_step depth room (take (e - (at + 1)) (drop (at + 1) s)) vs bs) → Live r st m (text_step depth room (decoded_at s at) vs bs)
literal-bare s at e p pe is depth room vs bs r st m l = rw (bare-given s at e p pe is) l

-- the ways out of `top`
module _ (st : List ℕ) (n : ℕ) (hn : n ≤ length st) where
  pub top-none : n < 2 → Fault ≡ top_of (take n st)
  unfolding top_of
  top-none h = rw (length-take-le n st hn, lt-ltb n 2 h)

  pub top-some : 2 ≤ n → (x : Operand) → x ≡ unpacked (get_or st (n - 2) 0) (get_or st (n - 1) 0) → x ≡ top_of (take n st)
  unfolding top_of
  top-some h x e =
      let p : n - 2 < n = omega arith in
      let q : n - 1 < n = omega arith in
      rw (length-take-le n st hn, le-ltb n 2 h, get_or-take n st (n - 2) 0 p, get_or-take n st (n - 1) 0 q) e

  pub below-is : 2 ≤ n → below (take n st) ≡ take (n - 2) st
  unfolding below
  below-is h = rw (length-take-le n st hn) (take-take (n - 2) n st (omega arith))

-- the ways out of `unary_step`
module _ (depth : ℕ) (vals : List (List ℕ)) (op : ℕ) (st m : List ℕ) (n t : ℕ) (hn : n ≤ length st) (ht : t ≤ length m) (st' : List ℕ) where
  pub unary-none : n < 2 → Live None st' m (unary_step depth vals op (take n st) (take t m))
  unfolding unary_step
  unary-none h = live-stuck None st' m _ refl (rw (length-take-le n st hn, lt-ltb n 2 h))

  module _ (two : 2 ≤ n) (x : Operand) (xe : x ≡ top_of (take n st)) (w : ℕ) (we : w ≡ width x) where
    unary-is : unary_step depth vals op (take n st) (take t m) ≡ unary_on depth vals op x (take (n - 2) st) (take t m)
    unfolding unary_step
    unary-is = rw (length-take-le n st hn, le-ltb n 2 two, ← xe, below-is st n hn two)

    pub unary-short : t < w → Live None st' m (unary_step depth vals op (take n st) (take t m))
    unfolding unary_on
    unary-short h = live-stuck None st' m _ refl (rw (unary-is, length-take-le t m ht, ← we, lt-ltb t w h))

pub unary-in : (vals : List (List ℕ)) (op : ℕ) (st m : List ℕ) (n t : ℕ) → n ≤ length st → t ≤ length m → 2 ≤ n → (x : Operand) → x ≡ top_of (take n st)
    → (w : ℕ) → w ≡ width x → w ≤ t → (v : Operand) → v ≡ operand (applied vals op (value_of x (take (t - (t - w)) (drop (t - w) m))))
    → (r : Reached) (st' : List ℕ) → landed r st' ≡ put_at st (n - 2) (t - w) v → Live r st' m (unary_step (length st) vals op (take n st) (take t m))
unfolding unary_on
unary-in vals op st m n t hn ht two x xe w we wt v ve r st' is =
    rw (unary-is (length st) vals op st m n t hn ht st' two x xe w we, length-take-le t m ht, ← we, le-ltb t w wt, take-take (t - w) t m (omega arith), drop-take (t - w) t m, ← ve)
    (put-live st m (n - 2) (t - w) v (omega arith) (omega arith) r st' is)

-- the ways out of `lookup_step`
module _ (look : List ℕ → List ℕ) (st m : List ℕ) (n t : ℕ) (hn : n ≤ length st) (ht : t ≤ length m) where
  pub lookup-none : (depth room : ℕ) (st' m' : List ℕ) → n < 2 → Live None st' m' (lookup_step depth room look (take n st) (take t m))
  unfolding lookup_step
  lookup-none depth room st' m' h = live-stuck None st' m' _ refl (rw (length-take-le n st hn, lt-ltb n 2 h))

  module _ (two : 2 ≤ n) (x : Operand) (xe : x ≡ top_of (take n st)) (w : ℕ) (we : w ≡ width x) where
    lookup-is : (depth room : ℕ) → lookup_step depth room look (take n st) (take t m) ≡ lookup_on depth room look x (take (n - 2) st) (take t m)
    unfolding lookup_step
    lookup-is depth room = rw (length-take-le n st hn, le-ltb n 2 two, ← xe, below-is st n hn two)

    pub lookup-short : (depth room : ℕ) (st' m' : List ℕ) → t < w → Live None st' m' (lookup_step depth room look (take n st) (take t m))
    unfolding lookup_on
    lookup-short depth room st' m' h = live-stuck None st' m' _ refl (rw (lookup-is depth room, length-take-le t m ht, ← we, lt-ltb t w h))

    module _ (wt : w ≤ t) (i : Bool) (ie : i ≡ is_text x) (r : Reached) (st' : List ℕ) where
      pub lookup-text : i ≡ true → (b : List ℕ) → b ≡ look (take (t - (t - w)) (drop (t - w) m)) → (m' : List ℕ)
          → Live r st' m' (text_step (length st) (length m) b (take (n - 2) st) (take (t - w) m)) → Live r st' m' (lookup_step (length st) (length m) look (take n st) (take t m))
      unfolding lookup_on
      lookup-text it b be m' l =
          rw (lookup-is (length st) (length m), length-take-le t m ht, ← we, le-ltb t w wt, ← ie, it, take-take (t - w) t m (omega arith), drop-take (t - w) t m, ← be) l

      pub lookup-other : i ≡ false → landed r st' ≡ put_at st (n - 2) (t - w) Fault → Live r st' m (lookup_step (length st) (length m) look (take n st) (take t m))
      unfolding lookup_on
      lookup-other it is =
          rw (lookup-is (length st) (length m), length-take-le t m ht, ← we, le-ltb t w wt, ← ie, it, take-take (t - w) t m (omega arith))
          (put-live st m (n - 2) (t - w) Fault (omega arith) (omega arith) r st' is)

-- the ways out of `put_below`
module _ (st : List ℕ) (n t base : ℕ) (v : Operand) (w : ℕ) (we : w ≡ width v) where
  pub put-below-past : t < base → landed None st ≡ put_below st n t base v
  unfolding put_below
  put-below-past h = simp (lt-ltb _ _ h)

  module _ (up : base ≤ t) where
    pub put-below-short : t - base < w → landed None st ≡ put_below st n t base v
    unfolding put_below
    put-below-short h = simp (le-ltb _ _ up, sym we, lt-ltb _ _ h)

    pub put-below-in : w ≤ t - base → (r : Reached) (st' : List ℕ) → landed r st' ≡ put_at st n (base + w) v → landed r st' ≡ put_below st n t base v
    unfolding put_below
    put-below-in h r st' e = e ∙ simp (le-ltb _ _ up, sym we, le-ltb _ _ h)

put-below-live : (st m : List ℕ) (n t base : ℕ) (v : Operand) → n ≤ length st → t ≤ length m → base ≤ t → (r : Reached) (st' : List ℕ) → landed r st' ≡ put_below st n t base v
    → Live r st' m (put_below_on (length st) (take n st) (take t m) base v)
unfolding put_below_on put_below
put-below-live st m n t base v hn ht up r st' is =
    split (ltb (t - base) (width v))
    (λ f. let q : landed r st' ≡ landed None st = rw (le-ltb t base up, f) at is in
    live-stuck r st' m _ (landed-is q).0 (rw (length-take-le t m ht, f)))
    (λ f. let room : width v ≤ t - base = ltb-false _ _ f in
    let q : landed r st' ≡ put_at st n (base + width v) v = rw (le-ltb t base up, f) at is in
    rw (length-take-le t m ht, f, take-take (base + width v) t m (omega arith)) (put-live st m n (base + width v) v hn (omega arith) r st' q))

-- the ways out of `binary_on`
module _ (vals : List (List ℕ)) (op : ℕ) (x y : Operand) (st m : List ℕ) (n t : ℕ) (hn : n ≤ length st) (ht : t ≤ length m) (wy : ℕ) (wye : wy ≡ width y) where
  pub binary-short : (depth : ℕ) (st' : List ℕ) → t < wy → Live None st' m (binary_on depth vals op x y (take n st) (take t m))
  unfolding binary_on
  binary-short depth st' h = live-stuck None st' m _ refl (rw (length-take-le t m ht, ← wye, lt-ltb t wy h))

  module _ (up : wy ≤ t) (wx : ℕ) (wxe : wx ≡ width x) where
    pub binary-shorter : (depth : ℕ) (st' : List ℕ) → t - wy < wx → Live None st' m (binary_on depth vals op x y (take n st) (take t m))
    unfolding binary_on
    binary-shorter depth st' h = live-stuck None st' m _ refl (rw (length-take-le t m ht, ← wye, le-ltb t wy up, ← wxe, lt-ltb (t - wy) wx h))

    pub binary-in : wx ≤ t - wy → (v : Operand)
        → v ≡ operand (combined vals op (value_of x (take (t - wy - (t - wy - wx)) (drop (t - wy - wx) m))) (value_of y (take (t - (t - wy)) (drop (t - wy) m))))
        → (r : Reached) (st' : List ℕ) → landed r st' ≡ put_below st n t (t - wy - wx) v → Live r st' m (binary_on (length st) vals op x y (take n st) (take t m))
    unfolding binary_on
    binary-in h v ve r st' is =
        rw (length-take-le t m ht, ← wye, le-ltb t wy up, ← wxe, le-ltb (t - wy) wx h, take-take (t - wy) t m (omega arith), drop-take (t - wy - wx) (t - wy) m, drop-take (t - wy) t m, ← ve)
        (put-below-live st m n t (t - wy - wx) v hn ht (omega arith) r st' is)

-- the ways out of `binary_step`
module _ (depth : ℕ) (vals : List (List ℕ)) (op : ℕ) (st m : List ℕ) (n t : ℕ) (hn : n ≤ length st) (st' : List ℕ) where
  pub binary-none : n < 4 → Live None st' m (binary_step depth vals op (take n st) (take t m))
  unfolding binary_step
  binary-none h = live-stuck None st' m _ refl (rw (length-take-le n st hn, lt-ltb n 4 h))

  pub binary-two : 4 ≤ n → (y : Operand) → y ≡ top_of (take n st) → (x : Operand) → x ≡ top_of (take (n - 2) st)
      → (r : Reached) → Live r st' m (binary_on depth vals op x y (take (n - 4) st) (take t m)) → Live r st' m (binary_step depth vals op (take n st) (take t m))
  unfolding binary_step
  binary-two h y ye x xe r l =
      let b : below (take n st) ≡ take (n - 2) st = below-is st n hn (omega arith) in
      let e : n - 2 - 2 ≡ n - 4 = omega arith in
      let c : below (take (n - 2) st) ≡ take (n - 4) st = below-is st (n - 2) (omega arith) (omega arith) ∙ ap (λ (k : ℕ). take k st) e in
      rw (length-take-le n st hn, le-ltb n 4 h, b, c, ← ye, ← xe) l

-- the ways out of `word_at`
module _ (s : List ℕ) (at : ℕ) where
  pub word-past : length s ≤ at → [] ≡ run_at word s at
  unfolding run_at
  word-past h = rw (drop_of_length-le s h)

  module _ (e : ℕ) (ee : e ≡ past is_word s at) where
    pub word-from : at ≤ e
    word-from = rw ee (past-from is_word s at)

    pub word-within : at < length s → e ≤ length s
    word-within h = rw ee (past-within is_word s at (omega arith))

    pub word_in : take (e - at) (drop at s) ≡ run_at word s at
    unfolding run_at past in_class
    word_in = let k : e - at ≡ run is_word (drop at s) = omega (arith, ee) in rw k
