use Rattle.std.proofs.Common.{ℕ, ◌<◌, ◌∙◌, ap, length, sym, subst, arith}
use Rattle.hall_core.specs.Asking.{requests_of, with_request}
use Rattle.hall_core.proofs.CountLemmas.{counted_joined, counted_as, joined_some, joined_same}
use Rattle.hall_core.proofs.records.Records.note.Goals as goal

pub invariant_of-self-clause-counted : goal.invariant_of-self-clause-counted
invariant_of-self-clause-counted c =
    let r = c.args.request in
    let low : c.args.member < length c.args.self.now.requests.items =
    subst (λ n. c.args.member < n) (sym c.args.self.now.each) c.requires.process in
    let asked = requests_of c.args.self.now.requests.items in
    counted_as _ _ _ _ _
    (c.push.ensures.requests ∙ ap (λ (p : ℕ). with_request asked p r) c.number.ensures.value)
    c.push.ensures.number
    (counted_joined asked (length c.args.self.now.requests.items) c.args.self.now.settled
    c.join.new.self c.args.member r low c.args.self.now.counted c.join.ensures.placed)

pub returns-clause-may : goal.returns-clause-may
returns-clause-may c =
    let r = c.args.request in
    let low : c.args.member < length c.args.self.now.requests.items =
    subst (λ n. c.args.member < n) (sym c.args.self.now.each) c.requires.process in
    let room = c.requires.room.entries in
    let left = c.push-2.ensures.room in
    record {
      place = c.join.ensures.place;
      waits = joined_some (requests_of c.args.self.now.requests.items)
          (length c.args.self.now.requests.items) c.args.self.now.settled c.join.new.self
          c.args.member r low c.args.self.now.counted c.join.ensures.placed;
      entry = omega (arith, room, left);
    }

pub returns-clause-settled : goal.returns-clause-settled
returns-clause-settled c =
    let r = c.args.request in
    let low : c.args.member < length c.args.self.now.requests.items =
    subst (λ n. c.args.member < n) (sym c.args.self.now.each) c.requires.process in
    joined_same (requests_of c.args.self.now.requests.items)
    (length c.args.self.now.requests.items) c.args.self.now.settled c.join.new.self
    c.args.member r low c.args.self.now.counted c.join.ensures.placed
