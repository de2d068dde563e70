-- Demand 3, of the definition: values of attributes that no kept assertion of a reached principal dereferences in its Conditions, and no text in
-- Authorizer or Licensees, have no effect on rank, rounds, reached and the report. Assumes nothing.
use Rattle.std.specs.Prelude.{◌≡◌, refl, Bool, ◌||◌, ℕ, length, take}
use Rattle.std.proofs.Common.{sym, ◌∙◌, ⊎_elim}
use Rattle.std.proofs.Math.Path.{ap}
use Rattle.std.proofs.Math.Bool.{true, false}
use mathlib.Core.List.Memᴰ.{cases_cons as mem-∷}
use mathlib.Core.List.Memᴰ.{head as here}
use mathlib.Core.List.Memᴰ.{tail as there}
use mathlib.Core.List.{List, [], ◌∷◌, map, Memᴰ as Mem}
use Rattle.record.specs.Query.{Query, Attribute}
use Rattle.principal.specs.Principal.{Principal}
use Rattle.compliance.specs.Theorems.Alike.{Alike, a[], a∷}
use Rattle.expression.specs.Names.{Environment, environment}
use Rattle.expression.specs.Conditions.{top, conditions}
use Rattle.expression.specs.Reads.{reads, program_reads, is_set, Alike as AlikeAttributes, alike[], alike∷, with_attributes}
use Rattle.expression.proofs.Theorems.Unread.{conditions-same}
use Rattle.naming.specs.Source.{Source}
use Rattle.assertion.specs.Assertion.{Assertion, Conditions, absent, stated}
use Rattle.keynote.specs.Answer.{worth, ranked}
use Rattle.keynote.specs.Report.{report_size}
use Rattle.keynote.specs.Outcome.{needed, outcome, page_after}
use Rattle.keynote.specs.Secrets.{dereferences, any_reads, Dereferenced, AlikeWhere}

pub environment-own : (q : Query) (cs : List Attribute) → with_attributes (environment q cs) q.attributes ≡ environment q cs
unfolding with_attributes environment
environment-own q cs = refl

pub environment-other : (q q' : Query) (cs : List Attribute) → q.values ≡ q'.values → q.requesters ≡ q'.requesters
    → with_attributes (environment q cs) q'.attributes ≡ environment q' cs
unfolding with_attributes environment
environment-other q q' cs e f = cc

pub constants-of : (q : Query) (cs : List Attribute) → (environment q cs).constants ≡ cs
unfolding environment
constants-of q cs = refl

pub or_left : (a b : Bool) → a ≡ true → a || b ≡ true
or_left a b h = rw h

pub or_right : (a b : Bool) → b ≡ true → a || b ≡ true
or_right true b h = refl
or_right false b h = h

pub any-reads : (l : List Source) (x : Source) (n : List ℕ) → Mem x l → reads x.says n ≡ true → any_reads l n ≡ true
unfolding any_reads
any-reads [] x n m r = elim m [ ]
any-reads (y ∷ l) x n m r = ⊎_elim
    (λ (e : x ≡ y). or_left (reads y.says n) (any_reads l n) (ap (λ (z : Source). reads z.says n) (sym e) ∙ r))
    (λ k. or_right (reads y.says n) (any_reads l n) (any-reads l x n k r))
    (mem-∷ m)

module _ {R : List ℕ → Type 0} {q q' : Query} (k : AlikeWhere R q q') where
  -- Conditions that dereference only where R holds are worth the same
  pub worth-same : (c : Conditions) → ((n : List ℕ) → dereferences c n ≡ true → R n) → worth q c ≡ worth q' c
  unfolding worth dereferences
  worth-same absent h = ap top k.values
  worth-same (stated cs p) h =
      let free : (n : List ℕ) → program_reads p n ≡ true → is_set (environment q cs).constants n ≡ false → R n =
      λ n r s. h n (rw (ap (λ (x : List Attribute). is_set x n) (sym (constants-of q cs)) ∙ s) r) in
      ap (λ (e : Environment). conditions e p) (sym (environment-own q cs))
      ∙ conditions-same (environment q cs) R k.attributes p free
      ∙ ap (λ (e : Environment). conditions e p) (environment-other q q' cs k.values k.requesters)

pub ranked-alike : (P : Principal → Type 0) (q q' : Query) (l : List Assertion)
    → ((a : Assertion) → Mem a l → P a.authorizer → worth q a.conditions ≡ worth q' a.conditions)
    → Alike P (map (ranked q) l) (map (ranked q') l)
unfolding ranked
ranked-alike P q q' [] h = a[]
ranked-alike P q q' (a ∷ l) h = a∷ refl refl (λ i. h a (here refl) i) (ranked-alike P q q' l (λ b m. h b (there m)))

module _ (q q' : Query) (k : AlikeWhere (Dereferenced q) q q') where
  pub needed-same : needed q ≡ needed q'
  unfolding needed
  needed-same = ap (λ l. report_size (length l)) k.assertions

-- what is equal of two records on two pages
pub record SameAnswer (s s' page page' : List ℕ) (size : ℕ) : Type 0 where
  pub outcomes : outcome s (length page) ≡ outcome s' (length page')
  pub answered : (outcome s (length page)).number ≡ 0
  pub reports : take size (page_after s page) ≡ take size (page_after s' page')

pub weaker : {R P : List ℕ → Type 0} {l m : List Attribute} → ((n : List ℕ) → P n → R n) → AlikeAttributes R l m → AlikeAttributes P l m
weaker f alike[] = alike[]
weaker f (alike∷ {a = a} e g t) = alike∷ e (λ p. g (f a.name p)) (weaker f t)
