use Rattle.register.specs.Working.Bytes.{place-put}
use Rattle.register.proofs.layout.put_place.Goals as goal

pub returns : goal.returns
returns c = search place-put
