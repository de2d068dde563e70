use Rattle.text.specs.Working.Copying.{past_end, no_room_lem, paste-mid, copy_done}
use Rattle.system.proofs.solved.copy_places.Goals as goal

pub returns-then-dst-at : goal.returns-then-dst-at
returns-then-dst-at c = search past_end

pub returns-then-dst-at-2 : goal.returns-then-dst-at-2
returns-then-dst-at-2 c = search no_room_lem

pub returns : goal.returns
returns c = let e = paste-mid c.args.dst.now c.args.at c.args.src.now _ c.copy_from_slice.ensures.after in search copy_done
