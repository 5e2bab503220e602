use Rattle.std.proofs.Common.{◌∙◌, ◌++◌, ◌∷◌, [], ap, sym, subst, append_assoc, refl}
use Rattle.std.specs.Vec.Iter.{into_iter_items}
use Rattle.book_chain.specs.Chain.{ChainValue}
use Rattle.program_commands.specs.Earlier.{earlier_books, IsAfter}
use Rattle.program_commands.proofs.EarlierLemmas.{none_read, one_more, all_read, goes_on_after}
use Rattle.program_commands.proofs.earlier.read_links.Goals as goal

pub loop-one-init : goal.loop-one-init
loop-one-init g c = record {
  whole = c.into_iter-one-iterator.ensures.into_iter_gives.0;
  after = (
    [],
    subst (λ (v : ChainValue). IsAfter c.args.first
        (earlier_books g.D.Source.failures g.D.Source.remaining []) [] v)
        (sym c.begin-chain.ensures.begun)
        (none_read g.D.Source.failures g.D.Source.remaining c.args.first),
  );
}

pub loop-one-preserved : goal.loop-one-preserved
loop-one-preserved g c =
    let i = c.loop-one.invariant in
    let one = c.in-Some.one in
    let done = c.loop-one.yielded in
    record {
      whole = append_assoc done (one ∷ []) (into_iter_items c.next.new.self)
          ∙ ap (λ l. done ++ l) (sym c.in-Some.ensures.steps.0) ∙ i.whole;
      after = one_more g.D.Source.failures g.D.Source.remaining c.args.first done one
          c.read_link.new.device i.after.0 c.loop-one.chain c.in-Ok.longer i.after.1
          c.in-Ok.ensures.link;
    }

pub returns-in-Err-clause-ending : goal.returns-in-Err-clause-ending
returns-in-Err-clause-ending g c =
    let i = c.loop-one.invariant in
    let done = c.loop-one.yielded in (
      record {
        before = done;
        one = c.in-Some.one;
        behind = into_iter_items c.next.new.self;
        are = ap (λ l. done ++ l) (sym c.in-Some.ensures.steps.0) ∙ i.whole;
        links = i.after.0;
        was = c.loop-one.chain;
        after = i.after.1;
        left = c.read_link.new.device;
        fault = c.in-Err.ensures.ending;
      },
      refl,
      refl,
    )

pub returns-clause-after : goal.returns-clause-after
returns-clause-after g c =
    let i = c.loop-one.invariant in
    let left = c.loop-one.one-iterator.rest in
    goes_on_after (earlier_books g.D.Source.failures g.D.Source.remaining c.args.earlier.items)
    c.args.first c.policy-wall.result i.after.0 c.loop-one.chain.least
    (all_read g.D.Source.failures g.D.Source.remaining c.args.first c.policy-wall.result
    c.loop-one.yielded left.items c.args.earlier.items i.after.0 c.loop-one.chain
    i.whole (sym left.ok.0 ∙ c.in-None.ensures.steps.0) c.policy-wall.ensures i.after.1)
    c.processes.ensures.policy c.over_years.ensures
