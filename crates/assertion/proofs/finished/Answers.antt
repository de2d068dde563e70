use borrow.Author.Tests.{not-true, not-false}
use Rattle.assertion.specs.Working.ReadingWays.{finished-faulty, finished-kept, finished-none}
use Rattle.assertion.proofs.finished.Goals as goal

pub returns-then-not-d : goal.returns-then-not-d
returns-then-not-d c = let h = not-true _ c.if-not-d.true in search finished-none

pub returns-then-f-ne0 : goal.returns-then-f-ne0
returns-then-f-ne0 c = let h = not-false _ c.if-not-d.false in search finished-faulty

pub returns : goal.returns
returns c = let h = not-false _ c.if-not-d.false in search finished-kept
