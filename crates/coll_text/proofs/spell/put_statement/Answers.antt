use Rattle.std.proofs.Common.{ap, ◌∙◌, ◌≡◌, ◌++◌}
use Rattle.coll_routes.specs.Kinds.{kind_name}
use Rattle.coll_routes.specs.Signatures.{kind}
use Rattle.coll_text.specs.Table.{forms_of, fields_of}
use Rattle.coll_text.specs.Spellings.{words_of, statement_words, statement_text}
use Rattle.coll_text.specs.Spaced.{behind_each}
use Rattle.coll_text.proofs.SpacedLemmas.{join_cons, put_behind, prefix_behind}
use Rattle.coll_text.proofs.spell.put_statement.Goals as goal

pub returns-clause-ok : goal.returns-clause-ok
unfolding statement_words
returns-clause-ok c =
    let k = kind c.args.sig.now in
    let fields = fields_of c.args.sig.now c.args.own.now in
    let name : c.put.new.text.items ≡ c.args.text.now.items ++ kind_name k = c.in_ok-put.ensures.ok
    ∙ ap (λ t. c.args.text.now.items ++ t) (c.name.ensures ∙ ap kind_name c.kind-kind.ensures)
    in
    let fs : c.forms.result.now ≡ forms_of k = c.forms.ensures ∙ ap forms_of c.kind-kind.ensures in
    let h = rw fs at c.put_fields.ensures.ok in
    put_behind c.put_fields.result c.args.text.now.items c.put.new.text.items
    c.put_fields.new.text.items (kind_name k) (behind_each 32 (words_of (forms_of k) fields))
    (statement_text c.args.sig.now c.args.own.now)
    h name (join_cons 32 (kind_name k) (words_of (forms_of k) fields))

pub returns-clause-prefix : goal.returns-clause-prefix
returns-clause-prefix c = prefix_behind c.args.text.now.items c.put.new.text.items
    c.put_fields.new.text.items c.name.result.now c.in_ok-put.ensures.ok c.put_fields.ensures.prefix
