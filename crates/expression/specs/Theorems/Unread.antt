-- Values of attributes that Conditions do not read from the query do not matter. Assumes nothing.
use Rattle.std.specs.Prelude.{◌≡◌, Bool, true, false, ◌||◌, List, [], ◌∷◌, ℕ, max}
use Rattle.std.proofs.Math.Path.{refl, ap}
use Rattle.std.proofs.Common.{sym, ◌∙◌, subst}
use Rattle.text.specs.Choice.{split, clash}
use Rattle.text.specs.Equal.{equal, equal-true}
use Rattle.record.specs.Query.{Attribute}
use Rattle.syntax.specs.Operator.{Unary, is_lookup}
use Rattle.syntax.specs.Operator as Operator
use Rattle.expression.specs.Value.{Value, text, integer, test, rank, float, fault, on_text}
use Rattle.expression.specs.Names.{setting_or}
use Rattle.expression.specs.Operations.{held, unary_of}
use Rattle.expression.specs.Reads.{is_set, Alike, alike[], alike∷}

pub or_left : (a b : Bool) → a ≡ true → a || b ≡ true
or_left a b h = rw h

pub or_right : (a b : Bool) → b ≡ true → a || b ≡ true
or_right true b h = refl
or_right false b h = h

pub setting-alike : (R : List ℕ → Type 0) (n : List ℕ) → R n → {l m : List Attribute} → Alike R l m → setting_or l n [] ≡ setting_or m n []
unfolding setting_or
setting-alike R n r alike[] = refl
setting-alike R n r (alike∷ {a = a} {b = b} {l = l} {m = m} ne ve t) =
    let ih = setting-alike R n r t in
    let en : equal a.name n ≡ equal b.name n = ap (λ (x : List ℕ). equal x n) ne in
    split (equal b.name n)
    (λ h. let is : a.name ≡ n = equal-true _ _ (en ∙ h) in rw (en, h) (ve (subst R (sym is) r)))
    (λ h. rw (en, h) ih)

pub setting-other : (c : List Attribute) (n x y : List ℕ) → (is_set c n ≡ false → x ≡ y) → setting_or c n x ≡ setting_or c n y
unfolding setting_or is_set
setting-other [] n x y h = h refl
setting-other (a ∷ c) n x y h =
    split (equal a.name n) (λ e. rw e) (λ e. rw e (setting-other c n x y (λ s. h (rw e s))))

pub max-same : {a b c d : ℕ} → a ≡ b → c ≡ d → max a c ≡ max b d
max-same e f = cc

pub look-nothing : (op : Unary) (f g : List ℕ → List ℕ) (v : Value) → is_lookup op ≡ false → unary_of f op v ≡ unary_of g op v
unfolding unary_of
look-nothing Operator.lookup f g v h = clash refl h
look-nothing Operator.convert f g v h = refl
look-nothing Operator.negate f g v h = refl
look-nothing Operator.opposite f g v h = refl
look-nothing Operator.to-float f g v h = refl
look-nothing Operator.float-negate f g v h = refl

look-text : (f g : List ℕ → List ℕ) (v : Value) → ((n : List ℕ) → f n ≡ g n) → on_text (λ a. held (f a)) v ≡ on_text (λ a. held (g a)) v
look-text f g (text b) h = ap held (h b)
look-text f g (integer i) h = refl
look-text f g (test t) h = refl
look-text f g (rank n) h = refl
look-text f g (float x) h = refl
look-text f g fault h = refl

pub look-all : (op : Unary) (f g : List ℕ → List ℕ) (v : Value) → ((n : List ℕ) → f n ≡ g n) → unary_of f op v ≡ unary_of g op v
unfolding unary_of
look-all Operator.lookup f g v k = look-text f g v k
look-all Operator.convert f g v k = refl
look-all Operator.negate f g v k = refl
look-all Operator.opposite f g v k = refl
look-all Operator.to-float f g v k = refl
look-all Operator.float-negate f g v k = refl
