use Rattle.std.proofs.Common.{◌≡◌, ◌++◌, take}
use Rattle.program_commands.specs.Running.{reply_lines}
use Rattle.program_commands.proofs.run.put_replies.Given as goal

abbrev pub invariant-loop-reply : goal.invariant-loop-reply
invariant-loop-reply l =
    l.text.items ≡ l.fn.text.items ++ reply_lines l.wall (take l.reply-index l.replies)
