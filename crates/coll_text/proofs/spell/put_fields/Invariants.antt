use Rattle.std.proofs.Common.{◌≡◌, ◌++◌, take}
use Rattle.coll_text.specs.Table.{fields_of}
use Rattle.coll_text.specs.Spellings.{words_of}
use Rattle.coll_text.specs.Spaced.{behind_each}
use Rattle.coll_text.proofs.spell.put_fields.Given as goal

abbrev pub invariant-loop-form : goal.invariant-loop-form
invariant-loop-form l = l.text.items
    ≡ l.fn.text.items
    ++ behind_each 32 (words_of (take l.form-index l.forms) (fields_of l.sig l.own))
