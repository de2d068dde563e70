use Rattle.printed.specs.Working.Adding.{refusal-added}
use Rattle.printed.proofs.add_refusal.Goals as goal

pub returns : goal.returns
returns c = search refusal-added
