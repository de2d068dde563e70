use Rattle.compliance.specs.Working.Solve.{solve-wide, solve-long, solve-is, solve-within}
use Rattle.compliance.proofs.solve.Goals.{then-direct-gt-MOST_PRINCIPALS-via-then-direct-gt-MOST_PRINCIPALS, then-direct-gt-MOST_PRINCIPALS-via-else-direct-gt-MOST_PRINCIPALS+then-authors-gt-MOST_ASSERTIONS}
use Rattle.compliance.proofs.solve.Goals as goal

pub returns-then-direct-gt-MOST_PRINCIPALS-clause-value : goal.returns-then-direct-gt-MOST_PRINCIPALS-clause-value
returns-then-direct-gt-MOST_PRINCIPALS-clause-value c = elim c.then-direct-gt-MOST_PRINCIPALS.branch [
  | then-direct-gt-MOST_PRINCIPALS-via-then-direct-gt-MOST_PRINCIPALS w ↦ search solve-wide
  | then-direct-gt-MOST_PRINCIPALS-via-else-direct-gt-MOST_PRINCIPALS+then-authors-gt-MOST_ASSERTIONS w ↦ search solve-long
]

pub returns-then-direct-le-FEW-clause-value : goal.returns-then-direct-le-FEW-clause-value
returns-then-direct-le-FEW-clause-value c = search solve-is

pub returns-then-direct-le-FEW-clause-bounded : goal.returns-then-direct-le-FEW-clause-bounded
returns-then-direct-le-FEW-clause-bounded c = search solve-within

pub returns-clause-value : goal.returns-clause-value
returns-clause-value c = search solve-is

pub returns-clause-bounded : goal.returns-clause-bounded
returns-clause-bounded c = search solve-within
