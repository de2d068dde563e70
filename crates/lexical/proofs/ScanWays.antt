-- The bytes of runs by comparisons, as `using` lists them. Assumes nothing.
use Rattle.lexical.specs.Working.Runs.{blank-run, white-run, free-run, word-run, numeral-run}

pub ruleset runs = (blank-run, white-run, free-run, word-run, numeral-run)
