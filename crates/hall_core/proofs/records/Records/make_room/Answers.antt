use Rattle.std.proofs.Common.{◌≡◌, ℕ, ◌<◌, ap, length, List, Option, arith}
use Rattle.std.proofs.lemmas.Result.{on_ok_weaker}
use Rattle.hall_core.specs.declared.requests.Request.{Request}
use Rattle.hall_core.specs.declared.settled.Place.{Place}
use Rattle.hall_core.specs.Asking.{requests_of}
use Rattle.hall_core.specs.Settling.{open_at}
use Rattle.hall_core.proofs.records.Records.make_room.Goals as goal

pub returns-clause-room : goal.returns-clause-room
returns-clause-room c =
    let given : length (requests_of c.reserve.new.requests.items c.args.process) ≡ length
    (requests_of c.args.self.now.requests.items c.args.process) =
    ap (λ (f : ℕ → List (Option Request)). length (f c.args.process)) c.reserve.ensures.requests in
    let few : length (requests_of c.args.self.now.requests.items c.args.process) <
    4611686018427387904 = c.requires.may.few in
    let counts : open_at c.ready.new.self c.args.comm c.args.k ≡ open_at c.args.self.now.settled
    c.args.comm c.args.k =
    ap (λ (p : Place). p.waiting) (c.ready.ensures.same c.args.comm c.args.k) in
    let open_few : open_at c.args.self.now.settled c.args.comm c.args.k < 4611686018427387904 =
    c.requires.few_open in
    on_ok_weaker c.ready.result
    (λ place. record {
      request = c.in_ok-reserve.ensures.room;
      entries = c.in_ok-reserve-2.ensures.room;
      place = place;
      few = omega (arith, given, few);
      few_open = omega (arith, counts, open_few);
    })
    c.ready.ensures.room
