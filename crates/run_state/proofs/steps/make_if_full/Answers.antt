use Rattle.std.proofs.Common.{◌≡◌, length, sym, ap, ◌∙◌, true, false, rules}
use Rattle.std.specs.Option.{option_copied}
use Rattle.coll_routes.specs.Faults.{stated_type}
use Rattle.coll_pending.specs.declared.arrival.Meeting.{Meeting}
use Rattle.coll_pending.specs.Instances.{roll_in}
use Rattle.coll_pending.specs.Waiting.{view_of_pending, before}
use Rattle.run_model.specs.Comms.{asks}
use Rattle.run_state.specs.Making.{is_faultless}
use Rattle.run_state.specs.Upcoming.{roll_next, is_last, asks_with}
use Rattle.run_state.proofs.PostStateLemmas.{prepared_plain, prepared_waiting, prepared_made}
use Rattle.run_state.proofs.MadeLemmas.{faultless_is}
use Rattle.run_state.proofs.SeenLemmas.{last_is, asks_are, asks_length, sound_next}
use Rattle.run_state.proofs.steps.make_if_full.Goals as goal

pub returns-then-not-is_constructor-clause-made : goal.returns-then-not-is_constructor-clause-made
returns-then-not-is_constructor-clause-made g c = λ found e.
    let plain : c.is_constructor.result ≡ false = search rules in
    prepared_plain (view_of_pending c.args.pending.now) c.args.meeting.comm c.args.meeting.rank
    found
    c.args.stated.now (c.requires.upcoming found e) c.args.comms.now
    (sym c.is_constructor.ensures ∙ plain)

pub returns-then-not-is_last-clause-made : goal.returns-then-not-is_last-clause-made
returns-then-not-is_last-clause-made g c = λ found e.
    let upcoming = c.requires.upcoming found e in
    let off : c.is_last.result ≡ false = search rules in
    let size : c.size-size.result ≡ length found.members = c.size-size.ensures.value ∙ ap length
    (c.group.ensures.members found e) in
    let does = sym (ap (λ (z : Meeting). z.does) c.requires.met) in
    prepared_waiting (view_of_pending c.args.pending.now) c.args.meeting.comm c.args.meeting.rank
    found
    c.args.stated.now upcoming c.args.comms.now
    (last_is (view_of_pending c.args.pending.now) c.args.meeting.comm c.args.meeting.rank found
    c.args.stated.now
    upcoming
    ∙ ((λ i. is_last (does i) (sym size i)) ∙ (sym c.is_last.ensures ∙ off)))

pub make-requires-clause-asks : goal.make-requires-clause-asks
make-requires-clause-asks g c = λ found e.
    let upcoming = c.requires.upcoming found e in
    let size : c.size-size.result ≡ length found.members = c.size-size.ensures.value ∙ ap length
    (c.group.ensures.members found e) in
    let roll : option_copied c.roll.result ≡ roll_in
    (before (view_of_pending c.args.pending.now) c.args.meeting.comm c.args.meeting.rank) =
    c.roll.ensures ∙ ap
    (λ k. roll_in ((view_of_pending c.args.pending.now).pending c.args.meeting.comm k))
    (ap (λ (z : Meeting). z.k) c.requires.met) in
    let asked : c.deref.result.now ≡ asks (roll_next (view_of_pending c.args.pending.now)
    c.args.meeting.comm c.args.meeting.rank found c.args.stated.now) =
    c.deref.ensures.value
    ∙ (c.in_ok-asks.ensures
    ∙ ((λ i. asks_with (roll i) (size i) c.args.meeting.rank c.args.stated.now.own)
    ∙ asks_are (view_of_pending c.args.pending.now) c.args.meeting.comm c.args.meeting.rank found
    c.args.stated.now upcoming)) in
    ap length asked
    ∙ asks_length (view_of_pending c.args.pending.now) c.args.meeting.comm c.args.meeting.rank found
    c.args.stated.now upcoming

pub make-requires-clause-faultless : goal.make-requires-clause-faultless
make-requires-clause-faultless g c = λ found e.
    let upcoming = c.requires.upcoming found e in
    let size : c.size-size.result ≡ length found.members = c.size-size.ensures.value ∙ ap length
    (c.group.ensures.members found e) in
    let roll : option_copied c.roll.result ≡ roll_in
    (before (view_of_pending c.args.pending.now) c.args.meeting.comm c.args.meeting.rank) =
    c.roll.ensures ∙ ap
    (λ k. roll_in ((view_of_pending c.args.pending.now).pending c.args.meeting.comm k))
    (ap (λ (z : Meeting). z.k) c.requires.met) in
    let asked : c.deref.result.now ≡ asks (roll_next (view_of_pending c.args.pending.now)
    c.args.meeting.comm c.args.meeting.rank found c.args.stated.now) =
    c.deref.ensures.value
    ∙ (c.in_ok-asks.ensures
    ∙ ((λ i. asks_with (roll i) (size i) c.args.meeting.rank c.args.stated.now.own)
    ∙ asks_are (view_of_pending c.args.pending.now) c.args.meeting.comm c.args.meeting.rank found
    c.args.stated.now upcoming)) in
    ap (λ xs. is_faultless c.args.stated.now.sig found xs) asked
    ∙ faultless_is (roll_next (view_of_pending c.args.pending.now) c.args.meeting.comm
    c.args.meeting.rank found
    c.args.stated.now) found c.args.stated.now.sig c.args.meeting.rank c.args.stated.now.own
    (stated_type c.args.stated.now.sig) c.args.stated.now.given
    (sound_next (view_of_pending c.args.pending.now) c.args.meeting.comm c.args.meeting.rank found
    c.args.stated.now
    upcoming) upcoming.faultless

pub returns-clause-made : goal.returns-clause-made
returns-clause-made g c = λ found e.
    let upcoming = c.requires.upcoming found e in
    let size : c.size-size.result ≡ length found.members = c.size-size.ensures.value ∙ ap length
    (c.group.ensures.members found e) in
    let roll : option_copied c.roll.result ≡ roll_in
    (before (view_of_pending c.args.pending.now) c.args.meeting.comm c.args.meeting.rank) =
    c.roll.ensures ∙ ap
    (λ k. roll_in ((view_of_pending c.args.pending.now).pending c.args.meeting.comm k))
    (ap (λ (z : Meeting). z.k) c.requires.met) in
    let asked : c.deref.result.now ≡ asks (roll_next (view_of_pending c.args.pending.now)
    c.args.meeting.comm c.args.meeting.rank found c.args.stated.now) =
    c.deref.ensures.value
    ∙ (c.in_ok-asks.ensures
    ∙ ((λ i. asks_with (roll i) (size i) c.args.meeting.rank c.args.stated.now.own)
    ∙ asks_are (view_of_pending c.args.pending.now) c.args.meeting.comm c.args.meeting.rank found
    c.args.stated.now upcoming)) in
    let constructor : c.is_constructor.result ≡ true = search rules in
    let last : c.is_last.result ≡ true = search rules in
    let does = sym (ap (λ (z : Meeting). z.does) c.requires.met) in
    prepared_made (view_of_pending c.args.pending.now) c.args.meeting.comm c.args.meeting.rank found
    c.args.stated.now upcoming c.args.comms.now _ _ c.deref.result.now asked
    (sym c.is_constructor.ensures ∙ constructor)
    (last_is (view_of_pending c.args.pending.now) c.args.meeting.comm c.args.meeting.rank found
    c.args.stated.now
    upcoming
    ∙ ((λ i. is_last (does i) (sym size i)) ∙ (sym c.is_last.ensures ∙ last)))
    (c.in_ok-outcome.ensures.made found e)
