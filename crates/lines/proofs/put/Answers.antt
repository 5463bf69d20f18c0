use Rattle.std.proofs.Common.{rules}
use Rattle.lines.proofs.Buffered.{push_room, push_full}
use Rattle.lines.proofs.put.Goals as goal

pub returns-then-buffer-lt256 : goal.returns-then-buffer-lt256
returns-then-buffer-lt256 c = push_room c.args.buffer.now.bytes c.args.buffer.now.count c.args.b (search rules) (search rules)

pub returns-else-buffer-lt256 : goal.returns-else-buffer-lt256
returns-else-buffer-lt256 c = push_full c.args.buffer.now.bytes c.args.buffer.now.count c.args.b (search rules) (search rules) (search rules)
