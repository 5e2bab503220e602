use Rattle.std.proofs.Common.{◌≡◌, ◌++◌, ◌-◌, take, drop, get_or, length, false, ap, ◌∙◌}
use Rattle.coll_text.specs.Spellings.{list_word, flag_word}
use Rattle.coll_text.specs.Spaced.{behind_comma}
use Rattle.coll_text.proofs.SpacedLemmas.{list_word_parts, put_behind, prefix_behind}
use Rattle.coll_text.proofs.spell.put_flags.Goals as goal

pub returns-in_ok-put-in-len1-up-clause-ok : goal.returns-in_ok-put-in-len1-up-clause-ok
returns-in_ok-put-in-len1-up-clause-ok c =
    let bs = c.args.flags.now in
    let g : c.put-in-len1-up.new.text.items ≡ c.args.text.now.items ++ flag_word (get_or bs 0 false)
    = c.in_ok-put-in-len1-up.ensures.ok ∙ ap (λ t. c.args.text.now.items ++ t)
    c.flag_text.ensures in
    put_behind c.put_more_flags.result c.args.text.now.items c.put-in-len1-up.new.text.items
    c.put_more_flags.new.text.items (flag_word (get_or bs 0 false))
    (behind_comma flag_word (take (length bs - 1) (drop 1 bs))) (list_word flag_word bs)
    c.put_more_flags.ensures.ok g (list_word_parts flag_word false bs c.in-len1-up.len_at_least)

pub returns-in_ok-put-in-len1-up-clause-prefix : goal.returns-in_ok-put-in-len1-up-clause-prefix
returns-in_ok-put-in-len1-up-clause-prefix c =
    prefix_behind c.args.text.now.items c.put-in-len1-up.new.text.items
    c.put_more_flags.new.text.items c.flag_text.result.now c.in_ok-put-in-len1-up.ensures.ok
    c.put_more_flags.ensures.prefix
