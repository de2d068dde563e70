use Rattle.std.proofs.Common.{◌∙◌, rules}
use Rattle.principal.specs.Working.Tagging.{plain-is, plain-low}
use Rattle.principal.proofs.caseless_byte.Goals as goal

pub returns : goal.returns
returns c = record { value = c.from.ensures ∙ plain-is c.args.b; upper_bound = search (rules, plain-low) }
