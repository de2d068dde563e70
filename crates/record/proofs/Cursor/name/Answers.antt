use Rattle.std.proofs.Common.{rules}
use Rattle.record.specs.Working.Ways.{byte-room}
use Rattle.record.proofs.Cursor.name.Goals as goal

pub overflow_add-result : goal.overflow_add-result
overflow_add-result c = let w = byte-room _ _ _ _ c.counted_at-b.ensures c.if-k-b.true in search rules
