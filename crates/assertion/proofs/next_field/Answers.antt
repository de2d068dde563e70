use borrow.Author.Rules.{rules}
use Rattle.assertion.specs.Working.ReadingWays.{next-is}
use Rattle.assertion.proofs.next_field.Goals as goal

pub returns : goal.returns
returns c = record { code_after = search next-is; free_after = search rules }
