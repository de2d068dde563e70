-- The tests `heard_such` and `supplied_such` tell what they should. Assumes nothing.
use Rattle.std.specs.Prelude.{◌≡◌, Bool, false, ℕ}
use Rattle.std.proofs.Math.Path.{refl, ap}
use Rattle.std.proofs.Common.{sym, ◌∙◌}
use Rattle.std.proofs.Math.Bool.{true}
use Rattle.std.proofs.Math.Logic.{⊎_elim}
use mathlib.Core.List.Memᴰ.{cases_cons as mem-∷}
use mathlib.Core.List.Memᴰ.{head as here}
use mathlib.Core.List.Memᴰ.{tail as there}
use mathlib.Core.List.{List, [], ◌∷◌, Memᴰ as Mem}
use Rattle.text.specs.Choice.{pick, split, clash}
use Rattle.record.specs.Query.{Query, Supplied}
use Rattle.principal.specs.Principal.{Principal}
use Rattle.principal.specs.Members.{member}
use Rattle.compliance.specs.Reach.{reach}
use Rattle.compliance.specs.Theorems.Reach.{reach-complete}
use Rattle.assertion.specs.Assertion.{Assertion, Conditions}
use Rattle.assertion.specs.Said.{Said}
use Rattle.assertion.specs.Form.{Form, formed, unformed, read_assertion}
use Rattle.keynote.specs.Answer.{readings, kept_of, system}
use Rattle.keynote.specs.Mission.{Heard}
use Rattle.keynote.specs.Secrets.{dereferences, naming_reads, Supplies, Dereferenced, in-conditions, in-naming}
use Rattle.keynote.specs.Working.Hearing.{such_in, heard_such, formed_such, any_such, supplied_such}

module _ (ps : List Principal) (f : Conditions → Bool) where
  such-none : (l : List Assertion) → such_in ps f l ≡ false → (a : Assertion) → Mem a l → member a.authorizer ps ≡ true → f a.conditions ≡ false
  unfolding such_in
  such-none [] h a m i = elim m [ ]
  such-none (b ∷ l) h a m i = split (pick (member b.authorizer ps) (f b.conditions) false)
      (λ e. clash (rw e) h)
      (λ e. ⊎_elim (λ (z : a ≡ b).
      let at : member b.authorizer ps ≡ true = ap (λ (x : Assertion). member x.authorizer ps) (sym z) ∙ i in
      ap (λ (x : Assertion). f x.conditions) z ∙ (rw at at e))
      (λ n. such-none l (rw e at h) a n i) (mem-∷ m))

  pub record Such (l : List Assertion) : Type 0 where
    pub by : Assertion
    pub among : Mem by l
    pub reached : member by.authorizer ps ≡ true
    pub does : f by.conditions ≡ true

  such-later : {b : Assertion} {l : List Assertion} → Such l → Such (b ∷ l)
  such-later s = record { by = s.by; among = there s.among; reached = s.reached; does = s.does }

  such-some : (l : List Assertion) → such_in ps f l ≡ true → Such l
  unfolding such_in
  such-some [] h = clash h refl
  such-some (b ∷ l) h = split (member b.authorizer ps)
      (λ e. split (f b.conditions)
      (λ d. record { by = b; among = here refl; reached = e; does = d })
      (λ d. such-later (such-some l (rw (e, d) at h))))
      (λ e. such-later (such-some l (rw e at h)))

-- where it tells that there is none, no assertion heard has such Conditions
pub none-heard : (f : Conditions → Bool) (q : Query) → heard_such f q ≡ false → (a : Assertion) → Heard q a → f a.conditions ≡ false
unfolding heard_such
none-heard f q h a k = such-none (reach (system q)) f (kept_of (readings q)) h a k.kept (reach-complete (system q) k.reached)

-- the same of the texts
module _ (f : Said → Bool) where
  any_none : (l : List Supplied) → any_such f l ≡ false → (x : Supplied) → Mem x l → (a : Said) → read_assertion x.standing x.text ≡ formed a → f a ≡ false
  unfolding any_such
  any_none [] h x m a e = elim m [ ]
  any_none (y ∷ l) h x m a e = split (formed_such f (read_assertion y.standing y.text))
      (λ g. clash (rw g) h)
      (λ g. ⊎_elim
      (λ (z : x ≡ y). ap (formed_such f) (sym e) ∙ ap (λ (u : Supplied). formed_such f (read_assertion u.standing u.text)) z ∙ g)
      (λ n. any_none l (rw g at h) x n a e) (mem-∷ m))

  pub record SuchText (l : List Supplied) : Type 0 where
    pub what : Said
    pub by : Supplied
    pub among : Mem by l
    pub says : read_assertion by.standing by.text ≡ formed what
    pub does : f what ≡ true

  text-later : {y : Supplied} {l : List Supplied} → SuchText l → SuchText (y ∷ l)
  text-later s = record { what = s.what; by = s.by; among = there s.among; says = s.says; does = s.does }

  text-here : (y : Supplied) (l : List Supplied) (r : Form) → read_assertion y.standing y.text ≡ r → formed_such f r ≡ true → SuchText (y ∷ l)
  text-here y l (formed a) e h = record { what = a; by = y; among = here refl; says = e; does = h }
  text-here y l (unformed r p) e h = clash h refl

  any_some : (l : List Supplied) → any_such f l ≡ true → SuchText l
  unfolding any_such
  any_some [] h = clash h refl
  any_some (y ∷ l) h = split (formed_such f (read_assertion y.standing y.text))
      (λ g. text-here y l (read_assertion y.standing y.text) refl g)
      (λ g. text-later (any_some l (rw g at h)))

pub none-supplied : (f : Said → Bool) (q : Query) → supplied_such f q ≡ false → (a : Said) → Supplies q a → f a ≡ false
unfolding supplied_such
none-supplied f q h a s = any_none f q.assertions h s.by s.among a s.says

-- the same of the names that are dereferenced, both ways
pub none-dereferenced : (q : Query) (n : List ℕ) → heard_such (λ c. dereferences c n) q ≡ false → supplied_such (λ a. naming_reads a n) q ≡ false
    → Dereferenced q n → ⊥
unfolding heard_such
none-dereferenced q n h k (in-conditions a m i d) = clash d (such-none (reach (system q)) (λ c. dereferences c n) (kept_of (readings q)) h a m i)
none-dereferenced q n h k (in-naming a s d) = clash d (none-supplied (λ a. naming_reads a n) q k a s)

pub is-dereferenced : (q : Query) (n : List ℕ) → heard_such (λ c. dereferences c n) q ≡ true → Dereferenced q n
unfolding heard_such
is-dereferenced q n h =
    let s : Such (reach (system q)) (λ c. dereferences c n) (kept_of (readings q)) = such-some (reach (system q)) (λ c. dereferences c n) (kept_of (readings q)) h in
    in-conditions s.by s.among s.reached s.does

pub is-named : (q : Query) (n : List ℕ) → supplied_such (λ a. naming_reads a n) q ≡ true → Dereferenced q n
unfolding supplied_such
is-named q n h =
    let s : SuchText (λ a. naming_reads a n) q.assertions = any_some (λ a. naming_reads a n) q.assertions h in
    in-naming s.what (record { by = s.by; among = s.among; says = s.says }) s.does
