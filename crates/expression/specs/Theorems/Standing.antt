-- Conditions in which neither the name nor "$" stands don't read the name. Assumes nothing.
use Rattle.std.specs.Prelude.{◌≡◌, Bool, false, ◌||◌, List, ℕ}
use Rattle.text.specs.Choice.{split, clash}
use Rattle.syntax.specs.Operator.{is_lookup}
use Rattle.syntax.specs.Expr.{Expr, literal, name, number, truth, decimal, unary, binary}
use Rattle.expression.specs.Reads.{reads}
use Rattle.expression.specs.Standing.{names, computes}

-- what holds of neither of two parts holds of neither test of them
pub either : (a b c d x y : Bool) → (a ≡ false → c ≡ false → x ≡ false) → (b ≡ false → d ≡ false → y ≡ false) → (a || b) ≡ false → (c || d) ≡ false → (x || y) ≡ false
either a b c d x y f g h k = split a
    (λ e. clash (rw e) h)
    (λ e. split c (λ u. clash (rw u) k) (λ u. rw (f e u) (g (rw e at h) (rw u at k))))

pub unread : (e : Expr) (n : List ℕ) → computes e ≡ false → names e n ≡ false → reads e n ≡ false
unfolding reads names computes
unread (literal b) n h k = k
unread (name m) n h k = k
unread (number b) n h k = k
unread (truth t) n h k = k
unread (decimal b) n h k = k
unread (unary op e) n h k = split (is_lookup op) (λ o. clash (rw o) h) (λ o. rw o (unread e n (rw o at h) k))
unread (binary op e f) n h k = either (computes e) (computes f) (names e n) (names f n) (reads e n) (reads f n) (unread e n) (unread f n) h k
