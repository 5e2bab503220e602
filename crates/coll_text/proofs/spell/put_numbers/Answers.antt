use Rattle.std.proofs.Common.{◌≡◌, ◌++◌, ap, ◌∙◌, ◌-◌, take, drop, get_or, length}
use Rattle.std.specs.Fmt.{decimal}
use Rattle.coll_text.specs.Spellings.{list_word}
use Rattle.coll_text.specs.Spaced.{behind_comma}
use Rattle.coll_text.proofs.SpacedLemmas.{list_word_parts, put_behind, prefix_behind}
use Rattle.coll_text.proofs.spell.put_numbers.Goals as goal

pub returns-in_ok-put_decimal-in-len1-up-clause-ok :
    goal.returns-in_ok-put_decimal-in-len1-up-clause-ok
returns-in_ok-put_decimal-in-len1-up-clause-ok c =
    let ns = c.args.numbers.now in
    let g : c.put_decimal.new.text.items ≡ c.args.text.now.items ++ decimal (get_or ns 0 0) =
    c.in_ok-put_decimal-in-len1-up.ensures.ok ∙ ap (λ n. c.args.text.now.items ++ decimal n)
    c.from.ensures in
    put_behind c.put_more_numbers.result c.args.text.now.items c.put_decimal.new.text.items
    c.put_more_numbers.new.text.items (decimal (get_or ns 0 0))
    (behind_comma decimal (take (length ns - 1) (drop 1 ns))) (list_word decimal ns)
    c.put_more_numbers.ensures.ok g (list_word_parts decimal 0 ns c.in-len1-up.len_at_least)

pub returns-in_ok-put_decimal-in-len1-up-clause-prefix :
    goal.returns-in_ok-put_decimal-in-len1-up-clause-prefix
returns-in_ok-put_decimal-in-len1-up-clause-prefix c =
    prefix_behind c.args.text.now.items c.put_decimal.new.text.items
    c.put_more_numbers.new.text.items (decimal c.from.result)
    c.in_ok-put_decimal-in-len1-up.ensures.ok c.put_more_numbers.ensures.prefix
