-- What the posts of its members tell of the instances of a communicator.
use Rattle.std.proofs.Common.{◌≡◌, ℕ, ◌+◌, ◌<◌, ◌≤◌, List, length, Option, Some, None, sym}
use Rattle.std.proofs.Common.{ap, ◌∙◌, subst, arith, slice_get, inl, inr}
use Rattle.std.specs.Prelude.{All, Vec}
use Rattle.std.specs.Global.{Global}
use Rattle.std.proofs.lemmas.Bool.{cases_lt}
use Rattle.std.proofs.lemmas.Option.{slice_get_within, get_or_from_slice_get}
use Rattle.wall_policy.specs.Policy.{ChineseWall}
use Rattle.run_model.specs.declared.entry.Entry.{Entry}
use Rattle.run_model.specs.Comms.{Comm}
use Rattle.run_model.specs.Posts.{Post, comms}
use Rattle.run_state.specs.Views.{PostStateValue}
use Rattle.audit_book.specs.Checks.{Stands}
use Rattle.audit_book.proofs.AuditBookLemmas.{bare_posts}
use Rattle.book_report.specs.declared.wait.Wait.{Wait}
use Rattle.book_report.specs.declared.waits.Meeting.{Meeting}
use Rattle.book_report.specs.declared.waits.Begun.{Begun}
use Rattle.book_report.specs.Waits.{IsWaitingAt, IsPosted, IsWait, IsSooner}
use Rattle.book_report.specs.Turns.{AreTurns, IsMeeting, IsBegun, AreWaitsTo}
use Rattle.book_report.specs.Turns.{AreWaitsOn}
use Rattle.book_report.proofs.TurnLemmas.{part_within, slice_here, none_there}
use Rattle.book_report.proofs.WaitLemmas.{waits_same, sooner_instance, sooner_comm}

-- the communicators of a state are those that its posts make
pub comms_are : (wall : ChineseWall) (post_state : PostStateValue (Unit {0})) (posts : List Post) →
    Stands wall post_state posts → post_state.comms ≡ comms wall posts
comms_are wall post_state posts stands = stands.comms ∙ ap (comms wall) (bare_posts posts)

-- what is so of each is so of the one at a place
of_each : {A : Type 0} (P : A → Type 0) (xs : List A) (i : ℕ) (x : A) → All P xs →
    slice_get xs i ≡ Some x → P x
of_each P xs i x all at =
    subst P (get_or_from_slice_get xs i x x at) (all i x (slice_get_within xs i x at))

-- the k-th post, if there is one, is for instance k
pub posted_is : (entries : List Entry) (p c : ℕ) (turns : List ℕ) →
    AreTurns entries (length entries) p c turns → (k : ℕ) (o : Option ℕ) →
    slice_get turns k ≡ o → IsPosted entries p c k o
posted_is entries p c turns are k (Some n) at = are.at k n at
posted_is entries p c turns are k None at =
    let few = none_there turns k at in
    let many = are.many in
    omega (arith, few, many)

module _ (meeting : Meeting) (is : IsMeeting meeting) where
  abbrev wall : ChineseWall
  wall = meeting.policy.now

  abbrev entries : List Entry
  entries = meeting.book.now.list

  abbrev c : ℕ
  c = meeting.comm

  -- whose turns these are
  whose : (i : ℕ) (turns : Vec ℕ Global) → slice_get meeting.turns.now i ≡ Some turns →
      (q : ℕ) × (slice_get is.comm.members i ≡ Some q)
      × AreTurns entries (length entries) q c turns.items
  whose i turns at =
      let low = slice_get_within meeting.turns.now i turns at in
      let many = is.turns.many in
      let one = slice_here meeting.group.now i (omega (arith, low, many)) in (
        one.0,
        ap (λ (ms : List ℕ). slice_get ms i) (sym is.members) ∙ one.1,
        is.turns.each i one.0 turns one.1 at,
      )

  -- the turns of a member
  turns_at : (i q : ℕ) → slice_get is.comm.members i ≡ Some q →
      (turns : Vec ℕ Global) × (slice_get meeting.turns.now i ≡ Some turns)
      × AreTurns entries (length entries) q c turns.items
  turns_at i q member =
      let there : slice_get meeting.group.now i ≡ Some q =
      ap (λ (ms : List ℕ). slice_get ms i) is.members ∙ member in
      let low = slice_get_within meeting.group.now i q there in
      let many = is.turns.many in
      let one = slice_here meeting.turns.now i (omega (arith, low, many)) in
      (one.0, one.1, is.turns.each i q one.0 there one.1)

  module _ (k j p : ℕ) (w : IsWaitingAt wall entries c k j p) where
    same_comm : w.comm ≡ is.comm
    same_comm = let both : Some w.comm ≡ Some is.comm = sym w.there ∙ is.there in cc

    member_of : (i q : ℕ) → slice_get w.comm.members i ≡ Some q →
        slice_get is.comm.members i ≡ Some q
    member_of i q at = subst (λ (m : Comm). slice_get m.members i ≡ Some q) same_comm at

    pub rank_of_member : j < length meeting.group.now
    rank_of_member =
        slice_get_within meeting.group.now j p
        (ap (λ (ms : List ℕ). slice_get ms j) is.members ∙ member_of j p w.member)

    pub some_begun : All (λ (turns : Vec ℕ Global). length turns.items ≤ k) meeting.turns.now → ⊥
    some_begun few =
        let one = turns_at w.begun.0 w.begun.1 (member_of w.begun.0 w.begun.1 w.begun.2) in
        let low = part_within entries w.begun.1 c w.begun.3.0 k w.begun.3.1 in
        let many = one.2.many in
        let none = of_each (λ (turns : Vec ℕ Global). length turns.items ≤ k) meeting.turns.now
        w.begun.0 one.0 few one.1 in
        omega (arith, low, many, none)

    pub some_lacking : All (λ (turns : Vec ℕ Global). k < length turns.items) meeting.turns.now →
        ⊥
    some_lacking all =
        let one = turns_at w.lacking.0 w.lacking.1
        (member_of w.lacking.0 w.lacking.1 w.lacking.2) in
        let high = w.lacking.3 in
        let many = one.2.many in
        let has = of_each (λ (turns : Vec ℕ Global). k < length turns.items) meeting.turns.now
        w.lacking.0 one.0 all one.1 in
        omega (arith, high, many, has)

  -- no rank of instance k is left
  pub ranks_done : (k j : ℕ) (waits : List Wait) → length meeting.group.now ≤ j →
      AreWaitsOn meeting k j waits → AreWaitsOn meeting (k + 1) 0 waits
  ranks_done k j waits all are = waits_same wall entries c k j waits are c (k + 1) 0
      (λ a b e before. sooner_instance a b e c k j before)
      (λ a b e p before w. at a b e p before w)
    where
      at : (a b e p : ℕ) → IsSooner a b e c (k + 1) 0 → IsWaitingAt wall entries a b e p →
          IsSooner a b e c k j
      at a b e p (inl low) w = inl low
      at a b e p (inr (same, inr (too, low))) w = absurd (omega (arith, low))
      at a b e p (inr (same, inl low)) w = elim (cases_lt b k) [
        | inl before ↦ inr (same, inl before)
        | inr after ↦
            let here : b ≡ k = omega (arith, low, after) in
            let its = subst (λ x. IsWaitingAt wall entries x k e p) same
            (subst (λ x. IsWaitingAt wall entries a x e p) here w) in
            let rank = rank_of_member k e p its in
            inr (same, inr (here, omega (arith, rank, all)))
      ]

  -- instance k does not wait
  pub instance_done : (k : ℕ) (waits : List Wait) →
      ((j p : ℕ) → ¬ (IsWaitingAt wall entries c k j p)) → AreWaitsOn meeting k 0 waits →
      AreWaitsOn meeting (k + 1) 0 waits
  instance_done k waits none are = waits_same wall entries c k 0 waits are c (k + 1) 0
      (λ a b e before. sooner_instance a b e c k 0 before)
      (λ a b e p before w. at a b e p before w)
    where
      at : (a b e p : ℕ) → IsSooner a b e c (k + 1) 0 → IsWaitingAt wall entries a b e p →
          IsSooner a b e c k 0
      at a b e p (inl low) w = inl low
      at a b e p (inr (same, inr (too, low))) w = absurd (omega (arith, low))
      at a b e p (inr (same, inl low)) w = elim (cases_lt b k) [
        | inl before ↦ inr (same, inl before)
        | inr after ↦
            let here : b ≡ k = omega (arith, low, after) in
            absurd (none e p (subst (λ x. IsWaitingAt wall entries x k e p) same
            (subst (λ x. IsWaitingAt wall entries a x e p) here w)))
      ]

  -- no instance of the communicator is left
  pub comm_done : (k : ℕ) (waits : List Wait) →
      All (λ (turns : Vec ℕ Global). length turns.items ≤ k) meeting.turns.now →
      AreWaitsOn meeting k 0 waits → AreWaitsTo wall entries (c + 1) 0 0 waits
  comm_done k waits few are = waits_same wall entries c k 0 waits are (c + 1) 0 0
      (λ a b e before. sooner_comm a b e c k 0 before)
      (λ a b e p before w. at a b e p before w)
    where
      at : (a b e p : ℕ) → IsSooner a b e (c + 1) 0 0 → IsWaitingAt wall entries a b e p →
          IsSooner a b e c k 0
      at a b e p (inr (same, inl low)) w = absurd (omega (arith, low))
      at a b e p (inr (same, inr (too, low))) w = absurd (omega (arith, low))
      at a b e p (inl low) w = elim (cases_lt a c) [
        | inl before ↦ inl before
        | inr after ↦
            let here : a ≡ c = omega (arith, low, after) in
            let its = subst (λ x. IsWaitingAt wall entries x b e p) here w in
            elim (cases_lt b k) [
              | inl sooner ↦ inr (here, inl sooner)
              | inr later ↦ absurd (some_begun b e p its
                  (λ i turns low. let most = few i turns low in omega (arith, most, later)))
            ]
      ]

-- a member of an instance that waits
pub is_wait : (begun : Begun) → IsBegun begun → (rank p : ℕ) →
    slice_get begun.meeting.group.now rank ≡ Some p → (turns : Vec ℕ Global) →
    slice_get begun.meeting.turns.now rank ≡ Some turns → (o : Option ℕ) →
    slice_get turns.items begun.k ≡ o →
    IsWait begun.meeting.policy.now begun.meeting.book.now.list (record {
      comm = begun.meeting.comm;
      k = begun.k;
      begun = begun.entry;
      rank = rank;
      process = p;
      posted = o;
    })
is_wait begun is rank p member turns at o kth =
    let meeting = begun.meeting in
    let entries = meeting.book.now.list in
    let first = whose meeting is.meeting is.turn.0 is.turn.1 is.turn.2 in
    let short = whose meeting is.meeting is.short.0 is.short.1 is.short.2 in
    let part = first.2.at begun.k begun.entry is.turn.3 in
    let many = short.2.many in
    let few = is.short.3 in
    record {
      waits = record {
        comm = is.meeting.comm;
        there = is.meeting.there;
        begun = (is.turn.0, first.0, first.1, (begun.entry, part));
        lacking = (is.short.0, short.0, short.1, omega (arith, many, few));
        member = ap (λ (ms : List ℕ). slice_get ms rank) (sym is.meeting.members) ∙ member;
      };
      begun = (first.0, part);
      posted = posted_is entries p meeting.comm turns.items
          (is.meeting.turns.each rank p turns member at) begun.k o kth;
    }
