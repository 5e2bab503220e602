use Rattle.std.proofs.Common.{◌≡◌, ◌++◌}
use Rattle.meaning_text.specs.Sentences.{members_text}
use Rattle.meaning_text.proofs.MemberLemmas.{left, due}
use Rattle.meaning_text.proofs.sentences.put_members.Given as goal

-- what is written, and what is still due
abbrev pub invariant-loop-number : goal.invariant-loop-number
invariant-loop-number l =
    l.text.items ++ due l.is_first (left l.policy l.class l.number)
    ≡ l.fn.text.items ++ members_text l.policy l.class
