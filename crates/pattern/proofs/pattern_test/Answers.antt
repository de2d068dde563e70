use Rattle.pattern.specs.Working.Verdicts.{zeros-verdict}
use Rattle.pattern.specs.Test.{test-is}
use Rattle.pattern.proofs.pattern_test.Goals as goal

pub returns : goal.returns
returns c = record { verdict = search zeros-verdict; value = search test-is }
