use Rattle.std.proofs.Common.{◌≡◌, ◌++◌, take}
use Rattle.coll_text.specs.Spellings.{flag_word}
use Rattle.coll_text.specs.Spaced.{behind_comma}
use Rattle.coll_text.proofs.spell.put_more_flags.Given as goal

abbrev pub invariant-loop-flag : goal.invariant-loop-flag
invariant-loop-flag l =
    l.text.items ≡ l.fn.text.items ++ behind_comma flag_word (take l.flag-index l.flags)
