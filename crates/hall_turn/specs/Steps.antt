-- What each step tells its seat, and what is known of a seat between steps.
use Rattle.std.specs.Prelude.{◌≡◌, ◌≢◌, ℕ, ◌<◌, ◌≤◌, true, false, List, [], ◌∷◌, length, Option}
use Rattle.std.specs.Prelude.{Some, None}
use mathlib.Core.Option as opt
use lib.ListN.{get_elem?}
use Rattle.atomic_table.specs.Table.{Me, Step}
use Rattle.atomic_table.specs.declared.shared.Seat.{Seat}
use Rattle.wall_policy.specs.Policy.{ChineseWall}
use Rattle.run_model.specs.Comms.{processes}
use Rattle.run_model.specs.Runs.{Entry}
use Rattle.run_model.specs.Replies.{Legal}
use Rattle.hall_turn.specs.Runs.{Continues, calls_of}
use Rattle.hall_turn.specs.Known.{Known}
use Rattle.hall_turn.specs.Views.{Told, SeatView, every, saw, drawn, declared, served}

---- What a step tells.

-- the run so far was seen; its length is r
pub record Saw (v : SeatView) (r : ℕ) (run : List Entry) : Type 0 where
  pub begins : Continues run v.seen
  pub hears : Continues run v.told
  pub own : calls_of v.process v.seen ≡ calls_of v.process run
  pub legal : Legal v.policy run
  pub found : r ≡ length run

module _ {M : Type 0} (stands : ChineseWall → M → List Entry → Type 0) where
  -- the run so far was seen; where the seat's ticket is served, the machine that stands for it is
  -- out with the seat
  abbrev pub Looks : Step (Option M) → Me (Option M) SeatView → ℕ → Me (Option M) SeatView → Type 0
  Looks st m r m' = Saw m.0 r m'.0.seen
      × (m.0.ticket ≡ Some r → (h : M) × (m' ≡ (saw m.0 m'.0.seen true, (0, Some h) ∷ m.1))
      × stands m.0.policy h m'.0.seen)
      × (m.0.ticket ≢ Some r → m' ≡ (saw m.0 m'.0.seen false, m.1))

module _ {S : Type 0} where
  abbrev pub IsAt : Seat S SeatView → Seat S SeatView → Type 0
  IsAt p q = (q.table_id ≡ p.table_id) × (q.id ≡ p.id)

  abbrev pub Draws : Step S → Me S SeatView → ℕ → Me S SeatView → Type 0
  Draws st m r m' = m' ≡ (drawn m.0 r, m.1)

  abbrev pub Declares : Entry → Step S → Me S SeatView → ℕ → Me S SeatView → Type 0
  Declares e st m r m' = m' ≡ (declared m.0 e, m.1)

  abbrev pub Serves : Step S → Me S SeatView → ℕ → Me S SeatView → Type 0
  Serves st m r m' = (e : Entry) × (m.0.said ≡ Some e) × (m' ≡ (served m.0 e, []))

---- What is known of a seat.

module _ {S : Type 0} where
  -- a seat between two calls
  pub record IsIdle (process : ℕ) (m : Me S SeatView) : Type 0 where
    pub process_is : m.0.process ≡ process
    pub told : m.0.told ≡ []
    pub ticket : m.0.ticket ≡ None
    pub out : m.0.out ≡ false
    pub said : m.0.said ≡ None
    pub parts : m.0.parts ≡ 1
    pub joined : m.0.joined ≡ []
    pub slots : m.1 ≡ []
    pub legal : Legal m.0.policy m.0.seen

  -- a note
  pub record IsNote (m : Me S SeatView) : Type 0 where
    pub parts : m.0.parts ≡ 0
    pub out : m.0.out ≡ false
    pub slots : m.1 ≡ []
    pub legal : Legal m.0.policy m.0.seen

-- a view that may make another pass
pub record CanMake (v : SeatView) : Type 0 where
  pub makes : 0 < v.made
  pub more : v.made < processes v.policy
  pub parts : 1 < v.parts
  pub ticket : v.ticket ≡ None
  pub out : v.out ≡ false

-- v has its machine out, and this is the run so far
pub record Turning (v : SeatView) (run : List Entry) : Type 0 where
  pub begins : Continues run v.seen
  pub own : calls_of v.process v.seen ≡ calls_of v.process run
  pub legal : Legal v.policy run

-- the view w is v after a turn that made this entry
pub record Turned (v : SeatView) (e : Entry) (w : SeatView) : Type 0 where
  pub run : List Entry
  pub before : Turning v run
  pub legal : Legal v.policy (e ∷ run)
  pub policy_is : w.policy ≡ v.policy
  pub seen_is : w.seen ≡ e ∷ run

-- what a turn told is so of the run before the last entry
abbrev pub TellsAfter : (seen : List Entry) → (List Entry → Type 0) → Type 0
TellsAfter seen Told = (e : Entry) (run : List Entry) → seen ≡ e ∷ run → Told run

module _ {M : Type 0} (stands : ChineseWall → M → List Entry → Type 0) where
  -- v after its wait: the machine, which stands for the run so far, is out with the seat
  pub record HoldsMachine (v : SeatView) (m : Me (Option M) SeatView) : Type 0 where
    pub run : List Entry
    pub machine : M
    pub is : m ≡ (saw v run true, (0, Some machine) ∷ [])
    pub seen : Turning v run
    pub stood : stands v.policy machine run

  -- the machine stands for a legal run, under a policy under which the deed may be carried out
  abbrev pub MayCarryOut : M → (May : ChineseWall → Type 0) → Type 0
  MayCarryOut machine May = (wall : ChineseWall) × (run : List Entry) × Legal wall run
      × stands wall machine run × May wall

  -- a seat that may end its turn
  pub record IsReady (m : Me (Option M) SeatView) : Type 0 where
    pub entry : Entry
    pub machine : M
    pub out : m.0.out ≡ true
    pub said : m.0.said ≡ Some entry
    pub held : m.1 ≡ (0, Some machine) ∷ []
    pub joined : m.0.joined ≡ []
    pub by : entry.call.process ≡ m.0.process
    pub legal : Legal m.0.policy (entry ∷ m.0.seen)
    pub stood : stands m.0.policy machine (entry ∷ m.0.seen)

---- The end.

-- what contracts see of a pass, as far as its seat knows it
abbrev pub told_of : Known → Told
told_of k = record { process = k.process; seen = k.seen }

-- the seat has taken in these passes
pub record HasAll {S : Type 0} (passes : List Known) (m : Me S SeatView) : Type 0 where
  pub parts : m.0.parts ≡ length passes
  pub out : m.0.out ≡ false
  pub long : length (every m.0) ≡ length passes
  pub knows : (i : ℕ) (k : Known) → get_elem? passes i ≡ opt.some k →
      (j : ℕ) × (get_elem? (every m.0) j ≡ opt.some (told_of k))
  pub from : (j : ℕ) (t : Told) → get_elem? (every m.0) j ≡ opt.some t →
      (i : ℕ) × (k : Known) × (get_elem? passes i ≡ opt.some k) × (told_of k ≡ t)

-- the seat has the whole right to close
pub record HasWhole {S : Type 0} (wall : ChineseWall) (m : Me S SeatView) : Type 0 where
  pub parts : processes wall ≤ m.0.parts
  pub some_part : 0 < m.0.parts
  pub out : m.0.out ≡ false

module _ {M : Type 0} (stands : ChineseWall → M → List Entry → Type 0) where
  -- the machine stands for a run that begins with all that the view knows
  pub record Ends (wall : ChineseWall) (v : SeatView) (machine : M) : Type 0 where
    pub run : List Entry
    pub stood : stands wall machine run
    pub legal : Legal wall run
    pub knows : (i : ℕ) (t : Told) → get_elem? (every v) i ≡ opt.some t →
        Continues run t.seen × (calls_of t.process t.seen ≡ calls_of t.process run)
    pub others : (p : ℕ) → processes wall ≤ p → calls_of p run ≡ []
    pub whole : processes wall ≤ length (every v) → (p : ℕ) → p < processes wall →
        (i : ℕ) × (t : Told) × (get_elem? (every v) i ≡ opt.some t) × (t.process ≡ p)
