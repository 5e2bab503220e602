use Rattle.std.proofs.Common.{refl, ap, ◌∙◌}
use Rattle.std.specs.Option.{option_map}
use Rattle.coll_routes.specs.Faults.{stated_type}
use Rattle.run_state.specs.declared.entered.Entered.TheVariants.{Waiting}
use Rattle.run_state.specs.Views.{view_of}
use Rattle.audit_book.specs.Checks.{bare, entry_of}
use Rattle.audit_book.proofs.CheckLemmas.{word_is, few_is, told_is}
use Rattle.audit_book.proofs.count.enter.Goals as goal

pub enter-requires-clause-word : goal.enter-requires-clause-word
enter-requires-clause-word c =
    let past = c.requires.past in
    word_is c.args.policy.now (view_of c.args.post_state.now) past c.requires.stood c.args.seat
    c.args.stated c.args.stated refl (c.requires.counts past c.requires.stood)

pub enter-requires-clause-few : goal.enter-requires-clause-few
enter-requires-clause-few c =
    few_is c.args.policy.now (view_of c.args.post_state.now) c.requires.past
    c.requires.stood c.args.seat c.args.stated.sig c.args.stated.own
    (stated_type c.args.stated.sig) c.args.stated.given c.requires.looked c.requires.few

pub join-requires-clause-word : goal.join-requires-clause-word
join-requires-clause-word c =
    let past = c.requires.past in
    word_is c.args.policy.now (view_of c.args.post_state.now) past c.requires.stood c.args.seat
    c.args.stated c.args.stated refl (c.requires.counts past c.requires.stood)

pub join-requires-clause-few : goal.join-requires-clause-few
join-requires-clause-few c =
    few_is c.args.policy.now (view_of c.args.post_state.now) c.requires.past
    c.requires.stood c.args.seat c.args.stated.sig c.args.stated.own
    (stated_type c.args.stated.sig) c.args.stated.given c.requires.looked c.requires.few

pub returns-in-Ok-clause-entered : goal.returns-in-Ok-clause-entered
returns-in-Ok-clause-entered c = λ past stands. c.in-Ok.ensures.entered (bare past) stands

pub returns-in-Joins-clause-entered : goal.returns-in-Joins-clause-entered
returns-in-Joins-clause-entered c = λ past stands.
    c.join.ensures.entered c.args.policy.now (bare past) stands
