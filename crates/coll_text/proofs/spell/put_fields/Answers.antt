use Rattle.std.proofs.Common.{◌∷◌, [], ◌++◌, take, ap, ◌∙◌, append_assoc}
use Rattle.coll_text.specs.Table.{fields_of}
use Rattle.coll_text.specs.Spellings.{words_of}
use Rattle.coll_text.specs.Spaced.{behind_each}
use Rattle.coll_text.proofs.SpacedLemmas.{prefix_behind}
use Rattle.coll_text.proofs.spell.put_fields.Goals as goal

pub returns-in_err-put_field-clause-prefix : goal.returns-in_err-put_field-clause-prefix
returns-in_err-put_field-clause-prefix c =
    let old = c.args.text.now.items in
    let so_far = behind_each 32 (words_of (take c.loop-form.form-index c.args.forms.now)
    (fields_of c.args.sig.now c.args.own.now)) in
    prefix_behind old c.put.new.text.items c.put_field.new.text.items (so_far ++ 32 ∷ [])
    (c.in_ok-put.ensures.ok ∙ ap (λ t. t ++ 32 ∷ []) c.loop-form.invariant
    ∙ append_assoc old so_far (32 ∷ []))
    c.put_field.ensures.prefix
