use Rattle.std.proofs.Common.{◌≡◌, ◌++◌, take}
use Rattle.std.specs.List.{flat_map}
use Rattle.meaning_text.specs.Sentences.{plain_line}
use Rattle.meaning_text.proofs.sentences.put_plain.Given as goal

abbrev pub invariant-loop-fact : goal.invariant-loop-fact
invariant-loop-fact l =
    l.text.items ≡ l.fn.text.items ++ flat_map (plain_line l.policy) (take l.fact-index l.facts)
