use Rattle.std.proofs.Common.{◌≡◌, ◌++◌, take}
use Rattle.std.specs.List.{flat_map}
use Rattle.meaning_text.specs.Sentences.{warning_line}
use Rattle.meaning_text.proofs.sentences.put_warnings.Given as goal

abbrev pub invariant-loop-warning : goal.invariant-loop-warning
invariant-loop-warning l = l.text.items
    ≡ l.fn.text.items ++ flat_map (warning_line l.policy) (take l.warning-index l.warnings)
