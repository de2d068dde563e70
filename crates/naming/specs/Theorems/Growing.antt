-- What the readers of Licensees do to the index and to the code: they grow by what was read, and the room is enough for sixteen licensees.
-- Assumes nothing.
use Rattle.std.specs.Prelude.{◌≡◌, refl, true, List, [], ◌∷◌, ◌++◌, ℕ, ◌+◌, ◌*◌, ◌<◌, ◌≤◌, length, take}
use Rattle.std.proofs.Common.{sym, ap, ◌∙◌, append_assoc, append-nil, arith, length-append, take-take, take_at, length-take-le}
use Rattle.limits.specs.Limits.{most_licensees, most_counted, most_numbers, most_code}
use Rattle.principal.specs.Principal.{Principal, policy}
use Rattle.principal.specs.Members.{member}
use Rattle.principal.specs.Places.{place}
use Rattle.compliance.specs.Theorems.Fill.{place-stays}
use Rattle.index.specs.Index.{enter_all, Holds}
use Rattle.index.specs.EnterLaws.{enter-all-is, enter-all-append, enter-all-keeps, fresh_all}
use Rattle.naming.specs.Working.Code.{above, pushed}
use Rattle.naming.specs.Working.List.{sized}
use Rattle.naming.specs.declared.list.State.{State}
use Rattle.naming.specs.Fault.{Fault, clear, earlier}
use Rattle.naming.specs.Working.Faults.{meant}
use Rattle.naming.specs.Theorems.Entry.{holds-before}
use Rattle.naming.specs.Theorems.Code.{above-is, pushed-length, pushed-is}
use Rattle.naming.specs.Theorems.StandIn.{earlier-clear, earlier-assoc}

-- the index holds the names, POLICY first, and the room is enough for the licensees that may follow
pub record Ready (pool places code : List ℕ) (st : State) (names : List Principal) : Type 0 where
  pub holds : Holds pool places st.index.count st.index.end names
  pub low : st.index.end ≤ most_counted * st.index.count
  pub known : member policy names ≡ true
  pub first : place names policy ≡ 0
  pub few : st.listed ≤ most_licensees
  pub table_room : st.index.count + most_licensees ≤ length places + st.listed
  pub names_room : st.index.count + most_licensees ≤ most_numbers + st.listed
  pub pool_room : st.index.end + most_licensees * most_counted ≤ length pool + most_counted * st.listed
  pub code_room : st.size + most_code ≤ length code + 3 * st.listed

-- what was there before is there still
pub record Stays (pool places code : List ℕ) (st : State) (names : List Principal) (pool' places' code' : List ℕ) : Type 0 where
  pub same_pool : length pool' ≡ length pool
  pub same_places : length places' ≡ length places
  pub same_code : length code' ≡ length code
  pub held : Holds pool' places' st.index.count st.index.end names
  pub front : take st.size code' ≡ take st.size code

-- the licensees ps were entered, prog was written, and f is against them
pub record Grown (pool places code : List ℕ) (st : State) (names ps : List Principal) (prog : List ℕ) (f : Fault) (u : State) (pool' places' code' : List ℕ) : Type 0 where
  pub stays : Stays pool places code st names pool' places' code'
  pub holds : Holds pool' places' u.index.count u.index.end (enter_all names ps)
  pub low : u.index.end ≤ most_counted * u.index.count
  pub count_up : u.index.count ≤ st.index.count + length ps
  pub end_up : u.index.end ≤ st.index.end + most_counted * length ps
  pub listed : u.listed ≡ st.listed + length ps
  pub few : u.listed ≤ most_licensees
  pub size : u.size ≡ st.size + length prog
  pub wrote : take u.size code' ≡ take st.size code ++ prog
  pub faulted : meant u.fault ≡ earlier (meant st.fault) f

pub stays-self : {pool places code : List ℕ} {st : State} {names : List Principal} → Ready pool places code st names → Stays pool places code st names pool places code
stays-self ready = record { same_pool = refl; same_places = refl; same_code = refl; held = ready.holds; front = refl }

pub grown-none : {pool places code : List ℕ} {st : State} {names : List Principal} → Ready pool places code st names → Grown pool places code st names [] [] clear st pool places code
unfolding enter_all
grown-none {pool} {places} {code} {st} ready = record {
  stays = stays-self ready;
  holds = ready.holds;
  low = ready.low;
  count_up = omega arith;
  end_up = omega arith;
  listed = omega arith;
  few = ready.few;
  size = omega arith;
  wrote = sym (append-nil (take st.size code));
  faulted = sym (earlier-clear (meant st.fault));
}

take-front : (z w : ℕ) (code code' code'' : List ℕ) → z ≤ w → take z code' ≡ take z code → take w code'' ≡ take w code' → take z code'' ≡ take z code
take-front z w code code' code'' h e f = sym (take-take z w code'' h) ∙ ap (take z) f ∙ take-take z w code' h ∙ e

module _ {pool places code : List ℕ} {st : State} {names ps : List Principal} {prog : List ℕ} {f : Fault} {u : State} {pool' places' code' : List ℕ}
    (grown : Grown pool places code st names ps prog f u pool' places' code') where
  pub stays_then : {pool'' places'' code'' : List ℕ} → Stays pool' places' code' u (enter_all names ps) pool'' places'' code'' → Stays pool places code st names pool'' places'' code''
  stays_then {pool''} {places''} {code''} more = record {
    same_pool = more.same_pool ∙ grown.stays.same_pool;
    same_places = more.same_places ∙ grown.stays.same_places;
    same_code = more.same_code ∙ grown.stays.same_code;
    held = holds-before names (fresh_all names ps) grown.stays.held (rw (enter-all-is names ps) at more.held);
    front = take-front st.size u.size code code' code'' (omega (arith, grown.size)) grown.stays.front more.front;
  }

  -- one thing after the other
  pub grown-then : {qs : List Principal} {more : List ℕ} {g : Fault} {w : State} {pool'' places'' code'' : List ℕ} → Grown pool' places' code' u (enter_all names ps) qs more g w pool'' places'' code''
      → Grown pool places code st names (ps ++ qs) (prog ++ more) (earlier f g) w pool'' places'' code''
  grown-then {qs} {more} {g} {w} {pool''} {places''} {code''} next = record {
    stays = stays_then next.stays;
    holds = rw (enter-all-append names ps qs) next.holds;
    low = next.low;
    count_up = omega (arith, grown.count_up, next.count_up, length-append ps qs);
    end_up = omega (arith, grown.end_up, next.end_up, length-append ps qs);
    listed = omega (arith, grown.listed, next.listed, length-append ps qs);
    few = next.few;
    size = omega (arith, grown.size, next.size, length-append prog more);
    wrote = next.wrote ∙ ap (λ (x : List ℕ). x ++ more) grown.wrote ∙ append_assoc (take st.size code) prog more;
    faulted = next.faulted ∙ ap (λ (x : Fault). earlier x g) grown.faulted ∙ earlier-assoc (meant st.fault) f g;
  }

  -- one more entry of code
  pub grown-push : (x : ℕ) → u.size < length code → Grown pool places code st names ps (prog ++ (x ∷ [])) f (sized u (above code' u.size)) pool' places' (pushed code' u.size x)
  grown-push x h =
      let k : u.size < length code' = omega (arith, h, grown.stays.same_code) in
      let a : above code' u.size ≡ u.size + 1 = above-is code' u.size k in
      let w : take (above code' u.size) (pushed code' u.size x) ≡ take u.size code' ++ (x ∷ []) = pushed-is code' u.size x k in
      let v : take u.size (pushed code' u.size x) ≡ take u.size code'
      = sym (take-take u.size (above code' u.size) (pushed code' u.size x) (omega (arith, a))) ∙ ap (take u.size) w
      ∙ take_at (take u.size code') (x ∷ []) u.size (length-take-le u.size code' (omega (arith, k))) in
      record {
        stays = record {
          same_pool = grown.stays.same_pool;
          same_places = grown.stays.same_places;
          same_code = pushed-length code' u.size x k ∙ grown.stays.same_code;
          held = grown.stays.held;
          front = take-front st.size u.size code code' (pushed code' u.size x) (omega (arith, grown.size)) grown.stays.front v;
        };
        holds = grown.holds;
        low = grown.low;
        count_up = grown.count_up;
        end_up = grown.end_up;
        listed = grown.listed;
        few = grown.few;
        size = omega (arith, a, grown.size, length-append prog (x ∷ []));
        wrote = w ∙ ap (λ (y : List ℕ). y ++ (x ∷ [])) grown.wrote ∙ append_assoc (take st.size code) prog (x ∷ []);
        faulted = grown.faulted;
      }

  -- the room stays enough
  pub grown-ready : Ready pool places code st names → length prog ≤ 3 * length ps → Ready pool' places' code' u (enter_all names ps)
  grown-ready ready short = record {
    holds = grown.holds;
    low = grown.low;
    known = enter-all-keeps names ps policy ready.known;
    first = rw (enter-all-is names ps) (place-stays names (fresh_all names ps) policy ready.known ∙ ready.first);
    few = grown.few;
    table_room = omega (arith, ready.table_room, grown.count_up, grown.listed, grown.stays.same_places);
    names_room = omega (arith, ready.names_room, grown.count_up, grown.listed);
    pool_room = omega (arith, ready.pool_room, grown.end_up, grown.listed, grown.stays.same_pool);
    code_room = omega (arith, ready.code_room, grown.size, grown.listed, grown.stays.same_code, short);
  }

-- over tables in which all is still there, one may begin again
pub stays-ready : {pool places code : List ℕ} {st : State} {names : List Principal} {pool' places' code' : List ℕ} → Stays pool places code st names pool' places' code'
    → Ready pool places code st names → Ready pool' places' code' st names
stays-ready stays ready = record {
  holds = stays.held;
  low = ready.low;
  known = ready.known;
  first = ready.first;
  few = ready.few;
  table_room = omega (arith, ready.table_room, stays.same_places);
  names_room = ready.names_room;
  pool_room = omega (arith, ready.pool_room, stays.same_pool);
  code_room = omega (arith, ready.code_room, stays.same_code);
}

module _ {pool places code : List ℕ} {st : State} {names : List Principal} {pool' places' code' : List ℕ} (stays : Stays pool places code st names pool' places' code') where
  pub stays-again : {pool'' places'' code'' : List ℕ} → Stays pool' places' code' st names pool'' places'' code'' → Stays pool places code st names pool'' places'' code''
  stays-again more = record {
    same_pool = more.same_pool ∙ stays.same_pool;
    same_places = more.same_places ∙ stays.same_places;
    same_code = more.same_code ∙ stays.same_code;
    held = more.held;
    front = more.front ∙ stays.front;
  }

  pub grown-again : {ps : List Principal} {prog : List ℕ} {f : Fault} {u : State} {pool'' places'' code'' : List ℕ} → Grown pool' places' code' st names ps prog f u pool'' places'' code''
      → Grown pool places code st names ps prog f u pool'' places'' code''
  grown-again {ps} {prog} grown = record {
    stays = stays-again grown.stays;
    holds = grown.holds;
    low = grown.low;
    count_up = grown.count_up;
    end_up = grown.end_up;
    listed = grown.listed;
    few = grown.few;
    size = grown.size;
    wrote = grown.wrote ∙ ap (λ (x : List ℕ). x ++ prog) stays.front;
    faulted = grown.faulted;
  }
