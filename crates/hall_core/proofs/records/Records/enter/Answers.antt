use Rattle.std.proofs.Common.{◌≡◌, ◌<◌, ◌∷◌, ℕ, length, refl, sym, ap, ◌∙◌, subst, arith}
use Rattle.wall_policy.specs.Policy.{ChineseWall}
use Rattle.mpi_elems.specs.Contents.{Contents}
use Rattle.coll_routes.specs.Faults.{stated_type}
use Rattle.run_model.specs.Posts.{posts_on}
use Rattle.run_model.specs.Contributions.{Contribution, contribution}
use Rattle.run_state.specs.declared.entered.Entered.{Entered}
use Rattle.run_state.specs.declared.entered.Entered.TheVariants.{Waiting}
use Rattle.run_state.specs.Views.{PostStateValue, view_of as seen, LookedAt}
use Rattle.run_state.specs.Stands.{StandsForPosts, Tells}
use Rattle.run_model.specs.Replies.{posts_made}
use Rattle.run_model.proofs.RunModelLemmas.{posts_within}
use Rattle.hall_core.specs.Asking.{requests_of}
use Rattle.hall_core.specs.Halls.{HallView}
use Rattle.hall_core.specs.Invariant.{view_in}
use Rattle.hall_core.specs.Moves.{HasRoom, IsRecorded, number_in}
use Rattle.run_model.specs.Comms.{processes}
use Rattle.run_model.specs.Posts.{place}
use Rattle.hall_core.proofs.PlaceLemmas.{asked_few, few_processes, none_there, unsettled}
use Rattle.run_state.proofs.RunStateLemmas.{place_is_count}
use Rattle.hall_core.proofs.PostLemmas.{number_told, recorded_from}
use Rattle.hall_core.proofs.RecordLemmas.{stands_recorded}
use Rattle.hall_core.proofs.records.Records.enter.Goals as goal

pub make_room-requires-clause-low : goal.make_room-requires-clause-low
make_room-requires-clause-low c =
    let hall = c.requires.hall in
    let number : c.args.seat.meeting.k ≡ length
    (posts_on c.args.seat.meeting.comm c.args.seat.process (posts_made hall.effects)) =
    place_is_count c.args.self.now.policy (seen c.args.self.now.post_state)
    hall.effects.contributions hall.stands.post_state c.args.seat c.args.stated.sig
    c.args.stated.own (stated_type c.args.stated.sig) c.args.stated.given c.requires.looked in
    let few = posts_within c.args.seat.meeting.comm c.args.seat.process (posts_made hall.effects) in
    let asked = hall.stands.given c.args.seat.process in
    let limit : length (requests_of c.args.self.now.requests.items c.args.seat.process) <
    4611686018427387904 = c.requires.may.few in
    omega (arith, number, few, asked, limit)

pub make_room-requires-clause-few_open : goal.make_room-requires-clause-few_open
make_room-requires-clause-few_open c =
    let hall = c.requires.hall in
    let count = c.args.self.now.counted.waiting c.args.seat.meeting.comm c.args.seat.meeting.k in
    let few = asked_few c.args.seat.meeting.comm c.args.seat.meeting.k (view_in c.args.self.now)
    hall.effects
    hall.stands (length c.args.self.now.requests.items) in
    let each = c.args.self.now.each in
    let limit : processes c.args.self.now.policy < 4611686018427387904 = few_processes
    c.args.self.now.policy c.requires.hall.policy in
    omega (arith, count, few, each, limit)

pub enter-requires-clause-few : goal.enter-requires-clause-few
enter-requires-clause-few c =
    let hall = c.requires.hall in
    let number : c.args.seat.meeting.k ≡ length
    (posts_on c.args.seat.meeting.comm c.args.seat.process (posts_made hall.effects)) =
    place_is_count c.args.self.now.policy (seen c.args.self.now.post_state)
    hall.effects.contributions hall.stands.post_state c.args.seat c.args.stated.sig
    c.args.stated.own (stated_type c.args.stated.sig) c.args.stated.given c.requires.looked in
    let few = posts_within c.args.seat.meeting.comm c.args.seat.process (posts_made hall.effects) in
    let asked = hall.stands.given c.args.seat.process in
    let limit : length (requests_of c.args.self.now.requests.items c.args.seat.process) <
    4611686018427387904 = c.requires.may.few in
    omega (arith, number, few, asked, limit)

pub enter-requires-clause-looked : goal.enter-requires-clause-looked
enter-requires-clause-looked c =
    subst (λ (k : PostStateValue Contents). LookedAt (seen k) c.args.seat c.args.stated.sig
    c.args.stated.own (stated_type c.args.stated.sig) c.args.stated.given)
    (sym c.make_room.ensures.keeps.post_state) c.requires.looked

pub record-requires-clause-room : goal.record-requires-clause-room
record-requires-clause-room c =
    let hall = c.requires.hall in
    let room = c.in-Ok-make_room.ensures.room in
    let stood : StandsForPosts c.make_room.new.self.policy (seen c.make_room.new.self.post_state)
    hall.effects.contributions =
    subst (λ (w : ChineseWall).
    StandsForPosts w (seen c.make_room.new.self.post_state) hall.effects.contributions)
    (sym c.make_room.ensures.keeps.policy)
    (subst (λ (k : PostStateValue Contents).
    StandsForPosts c.args.self.now.policy (seen k) hall.effects.contributions)
    (sym c.make_room.ensures.keeps.post_state) hall.stands.post_state) in
    let number : c.args.seat.meeting.k ≡ length
    (posts_on c.args.seat.meeting.comm c.args.seat.process (posts_made hall.effects)) =
    place_is_count c.args.self.now.policy (seen c.args.self.now.post_state)
    hall.effects.contributions hall.stands.post_state c.args.seat c.args.stated.sig
    c.args.stated.own (stated_type c.args.stated.sig) c.args.stated.given c.requires.looked in
    let told : number_in c.in-Ok-enter.entered ≡ length
    (posts_on c.args.seat.meeting.comm c.args.seat.process (posts_made hall.effects)) =
    number_told c.make_room.new.self.policy
    (contribution c.args.seat.process c.args.seat.meeting.comm c.args.stated c.args.part)
    hall.effects.contributions c.in-Ok-enter.entered
    (c.in-Ok-enter.ensures.entered hall.effects.contributions stood).1 in
    let k : c.args.seat.meeting.k ≡ number_in c.in-Ok-enter.entered = number ∙ sym told in
    let at : HasRoom c.make_room.new.self c.args.seat.process c.args.seat.meeting.comm
    (number_in c.in-Ok-enter.entered) = (subst (λ (n : ℕ).
    HasRoom c.make_room.new.self n c.args.seat.meeting.comm (number_in c.in-Ok-enter.entered))
    c.number.ensures.value
    (subst (λ (n : ℕ). HasRoom c.make_room.new.self c.number.result c.args.seat.meeting.comm n) k
    room))
    in
    record {
      request = at.request;
      entries = at.entries;
      place = at.place;
      few = at.few;
      few_open = at.few_open;
    }

pub returns-in-Ok-enter-clause-entered : goal.returns-in-Ok-enter-clause-entered
returns-in-Ok-enter-clause-entered c = λ m stands counts.
    let old : HallView = view_in c.args.self.now in
    let same : view_in c.make_room.new.self ≡ view_in c.args.self.now = c.make_room.ensures.same in
    let stood : StandsForPosts c.make_room.new.self.policy (seen c.make_room.new.self.post_state)
    m.contributions =
    subst (λ (w : ChineseWall).
    StandsForPosts w (seen c.make_room.new.self.post_state) m.contributions)
    (sym c.make_room.ensures.keeps.policy)
    (subst (λ (k : PostStateValue Contents).
    StandsForPosts c.args.self.now.policy (seen k) m.contributions)
    (sym c.make_room.ensures.keeps.post_state) stands.post_state) in
    let moved = c.in-Ok-enter.ensures.entered m.contributions stood in
    let g : Contribution Contents = contribution c.args.seat.process c.args.seat.meeting.comm
    c.args.stated c.args.part
    in
    let post_state : StandsForPosts c.args.self.now.policy (seen c.record.new.self.post_state)
    (g ∷ m.contributions) =
    subst (λ (w : ChineseWall).
    StandsForPosts w (seen c.record.new.self.post_state) (g ∷ m.contributions))
    c.make_room.ensures.keeps.policy
    (subst (λ (k : PostStateValue Contents).
    StandsForPosts c.make_room.new.self.policy (seen k) (g ∷ m.contributions))
    (sym c.record.ensures.keeps.post_state) moved.0) in
    let tells : Tells c.args.self.now.policy g m.contributions c.in-Ok-enter.entered = subst
    (λ (w : ChineseWall). Tells w g m.contributions c.in-Ok-enter.entered)
    c.make_room.ensures.keeps.policy moved.1 in
    let none = none_there (view_in c.args.self.now) m (length c.args.self.now.requests.items)
    c.args.self.now.settled stands c.args.self.now.counted refl c.args.seat.meeting.comm
    (place g.post (posts_made m)) (unsettled c.args.self.now.policy g.post (posts_made m) counts) in
    stands_recorded (view_in c.args.self.now) (view_in c.record.new.self) m g c.in-Ok-enter.entered
    stands counts none post_state tells
    (recorded_from (view_in c.args.self.now)
    (view_in (record c.make_room.new.self { post_state = c.enter.new.self }))
    (view_in c.record.new.self) c.args.seat.process c.args.seat.meeting.comm c.in-Ok.copy
    c.args.stated
    c.in-Ok-enter.entered
    c.make_room.ensures.keeps.policy (ap (λ (h : HallView). h.asked) same)
    (ap (λ (h : HallView). h.settled) same) (ap (λ (h : HallView). h.book) same)
    c.in-Ok.ensures.made c.record.ensures.recorded)

pub join-requires-clause-few : goal.join-requires-clause-few
join-requires-clause-few c =
    let hall = c.requires.hall in
    let number : c.args.seat.meeting.k ≡ length
    (posts_on c.args.seat.meeting.comm c.args.seat.process (posts_made hall.effects)) =
    place_is_count c.args.self.now.policy (seen c.args.self.now.post_state)
    hall.effects.contributions hall.stands.post_state c.args.seat c.args.stated.sig
    c.args.stated.own (stated_type c.args.stated.sig) c.args.stated.given c.requires.looked in
    let few = posts_within c.args.seat.meeting.comm c.args.seat.process (posts_made hall.effects) in
    let asked = hall.stands.given c.args.seat.process in
    let limit : length (requests_of c.args.self.now.requests.items c.args.seat.process) <
    4611686018427387904 = c.requires.may.few in
    omega (arith, number, few, asked, limit)

pub join-requires-clause-looked : goal.join-requires-clause-looked
join-requires-clause-looked c =
    subst (λ (k : PostStateValue Contents). LookedAt (seen k) c.args.seat c.args.stated.sig
    c.args.stated.own (stated_type c.args.stated.sig) c.args.stated.given)
    (sym c.make_room.ensures.keeps.post_state) c.requires.looked

pub note-requires-clause-room : goal.note-requires-clause-room
note-requires-clause-room c =
    let at : HasRoom c.make_room.new.self c.args.seat.process c.args.seat.meeting.comm
    c.args.seat.meeting.k = (subst
    (λ (n : ℕ). HasRoom c.make_room.new.self n c.args.seat.meeting.comm c.args.seat.meeting.k)
    c.number.ensures.value c.in-Ok-make_room.ensures.room) in
    record {
      request = at.request;
      entries = at.entries;
      place = at.place;
      few = at.few;
      few_open = at.few_open;
    }

pub returns-in-Joins-clause-entered : goal.returns-in-Joins-clause-entered
returns-in-Joins-clause-entered c = λ m stands counts.
    let old : HallView = view_in c.args.self.now in
    let same : view_in c.make_room.new.self ≡ view_in c.args.self.now = c.make_room.ensures.same in
    let stood : StandsForPosts c.make_room.new.self.policy (seen c.make_room.new.self.post_state)
    m.contributions =
    subst (λ (w : ChineseWall).
    StandsForPosts w (seen c.make_room.new.self.post_state) m.contributions)
    (sym c.make_room.ensures.keeps.policy)
    (subst (λ (k : PostStateValue Contents).
    StandsForPosts c.args.self.now.policy (seen k) m.contributions)
    (sym c.make_room.ensures.keeps.post_state) stands.post_state) in
    let moved = c.join.ensures.entered c.make_room.new.self.policy m.contributions stood in
    let g : Contribution Contents = contribution c.args.seat.process c.args.seat.meeting.comm
    c.args.stated c.args.part
    in
    let entered : Entered Contents = Waiting c.args.seat.meeting.k in
    let post_state : StandsForPosts c.args.self.now.policy (seen c.note.new.self.post_state)
    (g ∷ m.contributions) =
    subst (λ (w : ChineseWall).
    StandsForPosts w (seen c.note.new.self.post_state) (g ∷ m.contributions))
    c.make_room.ensures.keeps.policy
    (subst (λ (k : PostStateValue Contents).
    StandsForPosts c.make_room.new.self.policy (seen k) (g ∷ m.contributions))
    (sym c.note.ensures.keeps.post_state) moved.0) in
    let tells : Tells c.args.self.now.policy g m.contributions entered = subst
    (λ (w : ChineseWall). Tells w g m.contributions entered) c.make_room.ensures.keeps.policy
    moved.1 in
    let none = none_there (view_in c.args.self.now) m (length c.args.self.now.requests.items)
    c.args.self.now.settled stands c.args.self.now.counted refl c.args.seat.meeting.comm
    (place g.post (posts_made m)) (unsettled c.args.self.now.policy g.post (posts_made m) counts) in
    let recorded : IsRecorded
    (view_in (record c.make_room.new.self { post_state = c.join.new.self }))
    (view_in c.note.new.self) c.args.seat.process c.args.seat.meeting.comm c.in-Ok.copy entered =
    record {
      policy = c.note.ensures.keeps.policy;
      asked = c.note.ensures.requests;
      settled = c.note.ensures.settled;
      book = c.note.ensures.book.list;
    } in
    stands_recorded (view_in c.args.self.now) (view_in c.note.new.self) m g entered
    stands counts none post_state tells
    (recorded_from (view_in c.args.self.now)
    (view_in (record c.make_room.new.self { post_state = c.join.new.self }))
    (view_in c.note.new.self) c.args.seat.process c.args.seat.meeting.comm c.in-Ok.copy
    c.args.stated entered
    c.make_room.ensures.keeps.policy (ap (λ (h : HallView). h.asked) same)
    (ap (λ (h : HallView). h.settled) same) (ap (λ (h : HallView). h.book) same)
    c.in-Ok.ensures.made recorded)
