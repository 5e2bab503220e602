use Rattle.std.proofs.Common.{◌≡◌, ◌<◌, None, length, get_or, ◌∙◌, sym, arith}
use Rattle.std.proofs.lemmas.List.{get_or_default}
use Rattle.std.specs.FinSet.{empty, contains}
use Rattle.wall_rules.specs.Rules.{first_rival, joined}
use Rattle.wall_rules.specs.Histories.{has}
use Rattle.wall_rules.proofs.RuleLemmas.{lowest_if_some, passes_if_none}
use Rattle.wall_rules.proofs.HistoryLemmas.{apart_in}
use Rattle.wall_rules.proofs.RivalRowLemmas.{row_of, no_row, clash_is, no_clash}
use Rattle.wall_rules.proofs.histories.Histories.clash.Goals as goal

pub returns-in-Some : goal.returns-in-Some
returns-in-Some c =
    let within : c.number.result < length c.self.inside.rows.items = omega
    (arith, c.self.invariant.0.set_for_each) in
    let row : c.index-row.result.now ≡ get_or c.self.inside.rows.items c.number.result empty =
    c.index-row.ensures ∙ get_or_default c.self.inside.rows.items c.number.result
    c.index-row.result.now empty within in
    let rivals = row_of c.self.inside.classes.items c.self.inside.rivals.items c.deref.result.now
    c.number-2.result c.args.dataset c.in-Some.rivals.now
    c.self.invariant.1 c.deref.ensures.value c.number-2.ensures.value
    (c.in-Some.ensures.lookup.3.1 empty) in
    let test : c.first_shared.result ≡ first_rival c.args.self.now.classes
    (joined (has c.args.self.now c.args.process) c.args.extra.now) c.args.dataset =
    clash_is c.self.inside.classes.items c.args.dataset c.in-Some.rivals.now c.index-row.result.now
    c.args.extra.now rivals c.first_shared.result c.first_shared.ensures.lowest
    c.first_shared.ensures.none
    ∙ (λ i. first_rival c.self.inside.classes.items (joined (contains (row i)) c.args.extra.now)
    c.args.dataset)
    ∙ (λ i. first_rival (c.self.view_is i).classes
    (joined (has (c.self.view_is i) (c.number.ensures.value i)) c.args.extra.now)
    c.args.dataset) in
    record {
      lowest = lowest_if_some _ _ _ _ test;
      none = passes_if_none _ _ _ _ test;
      test = test;
      apart = apart_in _ _ c.self.view_is c.self.invariant.0;
    }

pub returns-in-None : goal.returns-in-None
returns-in-None c =
    let none = no_row c.self.inside.classes.items c.self.inside.rivals.items c.deref.result.now
    c.number-2.result c.args.dataset
    c.self.invariant.1 c.deref.ensures.value c.number-2.ensures.value c.in-None.ensures.lookup.3 in
    let test : None ≡ first_rival c.args.self.now.classes
    (joined (has c.args.self.now c.args.process) c.args.extra.now) c.args.dataset =
    sym (no_clash c.self.inside.classes.items
    (joined (has c.args.self.now c.args.process) c.args.extra.now) c.args.dataset none)
    ∙ (λ i. first_rival (c.self.view_is i).classes
    (joined (has c.args.self.now c.args.process) c.args.extra.now) c.args.dataset) in
    record {
      lowest = tt;
      none = passes_if_none _ _ _ _ test;
      test = test;
      apart = apart_in _ _ c.self.view_is c.self.invariant.0;
    }
