use Rattle.std.proofs.Common.{◌≡◌, map, string_bytes, take}
use Rattle.program_line.proofs.commands.kept_texts.Given as goal

abbrev pub invariant-loop-text : goal.invariant-loop-text
invariant-loop-text l =
    map (λ s. string_bytes s) l.kept.items ≡ map (λ t. t.now) (take l.text-index l.texts)
