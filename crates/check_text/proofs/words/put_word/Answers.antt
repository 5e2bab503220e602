use Rattle.std.proofs.Common.{sym, arith}
use Rattle.std.proofs.lemmas.List.{length-take-le}
use Rattle.check_text.proofs.words.put_word.Goals as goal

pub slice_bounds-put_shown-length : goal.slice_bounds-put_shown-length
slice_bounds-put_shown-length c = sym (length-take-le 34 c.args.word.now (omega arith))
