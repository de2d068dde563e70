-- What holds of each case of what a token writes holds of it. Assumes nothing.
use Rattle.std.specs.Prelude.{◌≡◌, refl}
use Rattle.syntax.specs.Operator.{Unary, Binary}
use Rattle.conditions.specs.Table.{Infix, no-infix, between, on_infix, Prefix, no-prefix, before, on_prefix}

module _ {A : Type 0} (T : A → Type 0) where
  pub infix-cases : (i : Infix) (a : A) (f : Binary → A) → (i ≡ no-infix → T a) → ((op : Binary) → i ≡ between op → T (f op)) → T (on_infix i a f)
  infix-cases no-infix a f h k = h refl
  infix-cases (between op) a f h k = k op refl

  pub prefix_cases : (i : Prefix) (a : A) (f : Unary → A) → (i ≡ no-prefix → T a) → ((op : Unary) → i ≡ before op → T (f op)) → T (on_prefix i a f)
  prefix_cases no-prefix a f h k = h refl
  prefix_cases (before op) a f h k = k op refl
