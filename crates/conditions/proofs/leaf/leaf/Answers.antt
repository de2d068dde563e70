use Rattle.conditions.proofs.LeafWays.{leaf-digits, leaf-float, leaf-literal, leaf-name}
use Rattle.conditions.proofs.leaf.leaf.Goals as goal

pub returns-then-t-eq-LITERAL : goal.returns-then-t-eq-LITERAL
returns-then-t-eq-LITERAL c = search leaf-literal

pub returns-then-t-eq-NAME : goal.returns-then-t-eq-NAME
returns-then-t-eq-NAME c = search leaf-name

pub returns-then-t-eq-DIGITS : goal.returns-then-t-eq-DIGITS
returns-then-t-eq-DIGITS c = search leaf-digits

pub returns : goal.returns
returns c = search leaf-float
