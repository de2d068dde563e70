use Rattle.fields.specs.Working.Setting.{constant-free, constant-none, constant-reserved, constant-taken}
use Rattle.fields.proofs.constants.name_fault.Goals as goal

pub returns-then-t-ne-NAME : goal.returns-then-t-ne-NAME
returns-then-t-ne-NAME c = search constant-none

pub returns-then-is_reserved : goal.returns-then-is_reserved
returns-then-is_reserved c = search constant-reserved

pub returns-then-is_taken : goal.returns-then-is_taken
returns-then-is_taken c = search constant-taken

pub returns : goal.returns
returns c = search constant-free
