use Rattle.text.specs.Working.Joining.{join-past, join-room, join-put, join-none}
use Rattle.text.proofs.join_at.Goals as goal
use Rattle.text.proofs.join_at.Goals.{then-dst-at-via-then-dst-at, then-dst-at-via-else-dst-at+then-not-joined_fits}

pub write_joined-requires : goal.write_joined-requires
write_joined-requires c = search join-room

pub returns-then-dst-at : goal.returns-then-dst-at
returns-then-dst-at c =
    elim c.then-dst-at.branch [
      | then-dst-at-via-then-dst-at w ↦ search join-past
      | then-dst-at-via-else-dst-at+then-not-joined_fits w ↦ search join-none
    ]

pub returns : goal.returns
returns c = search join-put
