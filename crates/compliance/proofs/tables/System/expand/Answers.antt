use Rattle.compliance.specs.Working.Reach.{expand-in, expand-out}
use borrow.Author.Rules.{rules}
use Rattle.compliance.proofs.tables.System.expand.Goals as goal

pub returns-then-j-done : goal.returns-then-j-done
returns-then-j-done c = record { expanded = search expand-in; reach_unchanged = search rules }

pub returns-else-j-done : goal.returns-else-j-done
returns-else-j-done c = record { expanded = search expand-out; reach_unchanged = search rules }
