use Rattle.std.proofs.Common.{◌≡◌, ◌++◌, take}
use Rattle.std.specs.List.{flat_map}
use Rattle.meaning_text.specs.Sentences.{pair_line}
use Rattle.meaning_text.proofs.sentences.put_pairs.Given as goal

abbrev pub invariant-loop-fact : goal.invariant-loop-fact
invariant-loop-fact l =
    l.text.items ≡ l.fn.text.items ++ flat_map (pair_line l.policy) (take l.fact-index l.facts)
