use Rattle.secrecy.specs.Secret.{secret-is}
use Rattle.secrecy.specs.PaperLaw.{paper-is}
use Rattle.secrecy.proofs.ask_both.Goals as goal

pub returns-clause-secret : goal.returns-clause-secret
returns-clause-secret c = search secret-is

pub returns-clause-more_paper : goal.returns-clause-more_paper
returns-clause-more_paper c = search paper-is
