use Rattle.principal.specs.Working.Comparing.{same_bytes}
use Rattle.principal.proofs.Working.Comparing.{same-short, same-apart, same-plain, same-other, same-hex, same_rest}
use Rattle.principal.proofs.same_principal.Goals as goal
use Rattle.principal.proofs.same_principal.Goals.{then-colon_at-k-via-then-colon_at-k, then-colon_at-k-via-else-colon_at-k+then-a-k}

pub returns-then-a-b : goal.returns-then-a-b
returns-then-a-b c = search same-short

pub returns-then-same_bytes : goal.returns-then-same_bytes
returns-then-same_bytes c = search same_bytes

pub returns-then-colon_at-k : goal.returns-then-colon_at-k
returns-then-colon_at-k c =
    elim c.then-colon_at-k.branch [
      | then-colon_at-k-via-then-colon_at-k w ↦ search same-apart
      | then-colon_at-k-via-else-colon_at-k+then-a-k w ↦ search same-plain
    ]

pub returns-then-not-same_folded : goal.returns-then-not-same_folded
returns-then-not-same_folded c = search same-other

pub returns-then-is_hex : goal.returns-then-is_hex
returns-then-is_hex c = search same-hex

pub returns-else-is_hex : goal.returns-else-is_hex
returns-else-is_hex c = search same_rest
