use Rattle.std.proofs.Common.{ap, sym, ◌∙◌, [], ◌∷◌, ◌++◌, Some}
use Rattle.chain_file.specs.declared.run.Begun.{Begun}
use Rattle.chain_file.specs.Text.{Chain, text_of}
use Rattle.chain_file.specs.Reading.{Begins}
use Rattle.chain_file.proofs.KnownLemmas.{said_known}
use Rattle.chain_file.proofs.TextLemmas.{heads_line, text_line, begins_after}
use Rattle.chain_file.proofs.file.ChainFile.begin_run.Goals as goal

pub invariant_of-self : goal.invariant_of-self
invariant_of-self c =
    let chain : Chain =
    record { ended = c.self.inside.ended.items; under_way = c.self.inside.under_way } in
    let begun : Begun = record {
      policy = c.args.policy;
      policy_digest = c.args.policy_digest;
      book = c.args.book;
    } in
    heads_line chain (Begins begun) (record { ended = chain.ended; under_way = Some begun })
    c.line-head.new.self c.line-head.result c.as_slice.result.now
    (said_known chain (Begins begun) (record { ended = chain.ended; under_way = Some begun }) c.self.invariant.known c.in_ok-line.ensures.begun (begins_after chain begun c.is_some.result c.is_some.ensures c.if-is_some.false))
    (begins_after chain begun c.is_some.result c.is_some.ensures c.if-is_some.false)
    (c.as_slice.ensures.value ∙ c.in_ok-line.ensures.words)
    (c.line-head.ensures.head (text_of chain) c.self.invariant.holds)
    (c.line-head.ensures.taken (text_of chain) c.self.invariant.holds)

pub returns-clause-text : goal.returns-clause-text
returns-clause-text c =
    let chain : Chain =
    record { ended = c.self.inside.ended.items; under_way = c.self.inside.under_way } in
    let begun : Begun = record {
      policy = c.args.policy;
      policy_digest = c.args.policy_digest;
      book = c.args.book;
    } in
    text_line chain (Begins begun) (record { ended = chain.ended; under_way = Some begun })
    c.line-head.result c.as_slice.result.now c.put_head.new.line.items
    (begins_after chain begun c.is_some.result c.is_some.ensures c.if-is_some.false)
    (c.as_slice.ensures.value ∙ c.in_ok-line.ensures.words)
    (c.line-head.ensures.head (text_of chain) c.self.invariant.holds)
    (c.put_head.ensures ∙ ap (λ w. w ++ (c.line-head.result ++ 10 ∷ [])) (sym c.as_slice.ensures.value))
    ∙ ap (λ (was : Chain). text_of was ++ c.put_head.new.line.items) c.self.view_is
