use Rattle.std.proofs.Common.{ℕ, List, ap, sym, ◌∙◌, subst, [], ◌∷◌, ◌++◌, Some, None}
use Rattle.chain_file.specs.declared.run.Run.{Run}
use Rattle.chain_file.specs.Text.{Chain, text_of}
use Rattle.chain_file.specs.Reading.{Ends}
use Rattle.chain_file.specs.Walks.{HasHeads}
use Rattle.chain_file.proofs.KnownLemmas.{said_known}
use Rattle.chain_file.proofs.TextLemmas.{heads_line, text_line, ends_after, same_chain}
use Rattle.chain_file.proofs.file.ChainFile.end_run.Goals as goal

pub invariant_of-self-2 : goal.invariant_of-self-2
invariant_of-self-2 c =
    let chain : Chain =
    record { ended = c.self.inside.ended.items; under_way = c.self.inside.under_way } in
    let run : Run = record { begun = c.in-Some.begun; book_digest = c.args.book_digest } in
    let now : Chain = record { ended = chain.ended ++ run ∷ []; under_way = None } in
    let is : Chain =
    record { ended = c.push_reserved.new.self.items; under_way = c.take.new.self } in
    subst (HasHeads c.line-head.new.self (Some c.line-head.result))
    (sym (same_chain is now (c.push_reserved.ensures.items
    ∙ ap (λ (runs : List Run). runs ++ run ∷ []) c.reserve.ensures.items) c.take.ensures.after))
    (heads_line chain (Ends c.args.book_digest) now c.line-head.new.self c.line-head.result
    c.as_slice.result.now
    (said_known chain (Ends c.args.book_digest) now c.self.invariant.known c.in_ok-text.ensures.digest (ends_after chain c.args.book_digest c.in-Some.begun (sym c.take.ensures.value ∙ c.in-Some.is)))
    (ends_after chain c.args.book_digest c.in-Some.begun (sym c.take.ensures.value ∙ c.in-Some.is))
    (c.as_slice.ensures.value ∙ c.in_ok-text.ensures.words)
    (c.line-head.ensures.head (text_of chain) c.self.invariant.holds)
    (c.line-head.ensures.taken (text_of chain) c.self.invariant.holds))

pub returns-clause-text : goal.returns-clause-text
returns-clause-text c =
    let chain : Chain =
    record { ended = c.self.inside.ended.items; under_way = c.self.inside.under_way } in
    let run : Run = record { begun = c.in-Some.begun; book_digest = c.args.book_digest } in
    let now : Chain = record { ended = chain.ended ++ run ∷ []; under_way = None } in
    let is : Chain =
    record { ended = c.push_reserved.new.self.items; under_way = c.take.new.self } in
    ap text_of (same_chain is now (c.push_reserved.ensures.items
    ∙ ap (λ (runs : List Run). runs ++ run ∷ []) c.reserve.ensures.items) c.take.ensures.after)
    ∙ text_line chain (Ends c.args.book_digest) now c.line-head.result c.as_slice.result.now
    c.put_head.new.line.items
    (ends_after chain c.args.book_digest c.in-Some.begun (sym c.take.ensures.value ∙ c.in-Some.is))
    (c.as_slice.ensures.value ∙ c.in_ok-text.ensures.words)
    (c.line-head.ensures.head (text_of chain) c.self.invariant.holds)
    (c.put_head.ensures ∙ ap (λ (w : List ℕ). w ++ (c.line-head.result ++ 10 ∷ []))
    (sym c.as_slice.ensures.value))
    ∙ ap (λ (was : Chain). text_of was ++ c.put_head.new.line.items) c.self.view_is
