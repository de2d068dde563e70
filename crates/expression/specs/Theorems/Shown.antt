-- Names looked up in tables that represent an environment stand for what they stand for in it. Assumes nothing.
use Rattle.std.specs.Prelude.{◌≡◌, refl, ℕ, suc, ◌+◌, ◌≤◌, leb, length}
use Rattle.std.proofs.Common.{sym, ◌∙◌, arith, le-leb, leb-true, leb-false}
use Rattle.std.proofs.Math.Path.{ap}
use mathlib.Core.List.{List, [], ◌∷◌, map}
use Rattle.std.proofs.lemmas.List.{length-map}
use Rattle.std.proofs.lemmas.Bool.{lt-leb}
use Rattle.text.specs.Choice.{split}
use Rattle.text.specs.Counted.{counted}
use Rattle.text.specs.Equal.{equal, equal-true}
use Rattle.record.specs.Query.{Attribute}
use Rattle.record.specs.Lies.{Lie, lie[], lie∷, StringAt, AttributeAt}
use Rattle.expression.specs.Names.{Environment, setting_or, from_query, lookup}
use Rattle.expression.specs.Tables.{first_from, setting_in, query_in, lookup_in, Shows}

first-suc : (s name : List ℕ) (i : ℕ) (ps : List ℕ) → first_from s name (suc i) ps ≡ suc (first_from s name i ps)
unfolding first_from
first-suc s name i [] = refl
first-suc s name i (p ∷ ps) = split (equal (counted s p) name) (λ e. rw e) (λ e. rw e (first-suc s name (suc i) ps))

leb-suc : (a b : ℕ) → leb (suc a) (suc b) ≡ leb a b
leb-suc a b =
    split (leb a b)
    (λ e. let h : a ≤ b = leb-true _ _ e in rw e (le-leb (suc a) (suc b) (omega arith)))
    (λ e. let h : suc b ≤ a = leb-false _ _ e in rw e (lt-leb (suc a) (suc b) (omega arith)))

pub setting-is : (s ps name other : List ℕ) {l : List Attribute} → Lie (AttributeAt s) ps l → setting_in s ps name other ≡ setting_or l name other
unfolding setting_in first_from setting_or
setting-is s ps name other lie[] = refl
setting-is s ps name other (lie∷ {v = p} {vs = vs} {a = a} {l = l} at t) =
    let ih = setting-is s vs name other t in
    let same : equal (counted s p) name ≡ equal a.name name = ap (λ (x : List ℕ). equal x name) at.0 in
    split (equal a.name name)
    (λ e. let is : a.name ≡ name = equal-true _ _ e in
    rw (same, e, lt-leb (suc (length vs)) 0 (omega arith)) (ap (λ (x : List ℕ). counted s (p + length x + 2)) (sym is) ∙ at.1))
    (λ e. rw (same, e, first-suc s name 0 vs, leb-suc (length vs) (first_from s name 0 vs)) ih)

pub strings-are : (s ps : List ℕ) {l : List (List ℕ)} → Lie (StringAt s) ps l → map (counted s) ps ≡ l
strings-are s ps lie[] = refl
strings-are s ps (lie∷ {v = p} {vs = vs} at t) = cc (at, strings-are s vs t)

module _ {rec consts values names constants : List ℕ} {env : Environment} (shows : Shows rec consts values names constants env) where
  pub values-are : map (counted rec) values ≡ env.values
  values-are = strings-are rec values shows.values-lie

  count-is : length values ≡ length env.values
  count-is = sym (length-map values (counted rec)) ∙ ap length values-are

  query-is : (name : List ℕ) → query_in rec consts values names name ≡ from_query env name
  unfolding query_in from_query
  query-is name =
      rw (values-are, count-is, shows.values-joined, shows.requesters-joined, setting-is rec names name [] shows.attributes-lie)

  pub lookup-is : (name : List ℕ) → lookup_in rec consts values names constants name ≡ lookup env name
  unfolding lookup_in lookup
  lookup-is name = setting-is consts constants name _ shows.constants-lie ∙ ap (setting_or env.constants name) (query-is name)
