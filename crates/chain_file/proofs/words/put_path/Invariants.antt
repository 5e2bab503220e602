use Rattle.std.proofs.Common.{◌≡◌, ◌++◌, take}
use Rattle.chain_file.specs.Words.{path_word}
use Rattle.chain_file.proofs.words.put_path.Given as goal

abbrev pub invariant-loop-byte : goal.invariant-loop-byte
invariant-loop-byte l = l.line.items ≡ l.fn.line.items ++ path_word (take l.byte-index l.path)
