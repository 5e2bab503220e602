-- The rule of the turns. Word 0, SERVING, is the length of the run so far. Word 1, TICKET, is the
-- next ticket. The slot has the machine, which is out only while some view's ticket is SERVING.
use Rattle.std.specs.Prelude.{◌≡◌, ◌≢◌, ◌⊎◌, ℕ, ◌+◌, ◌^◌, ◌<◌, ◌≤◌, true, eqb, List, [], ◌∷◌, ◌++◌}
use Rattle.std.specs.Prelude.{length, Option, Some}
use Rattle.std.specs.List.{IsDistinct}
use mathlib.Core.Option as opt
use lib.ListN.{get_elem?}
use Rattle.atomic_table.specs.Table.{State}
use Rattle.wall_policy.specs.Policy.{ChineseWall}
use Rattle.run_model.specs.Comms.{processes}
use Rattle.run_model.specs.Runs.{Entry}
use Rattle.run_model.specs.Replies.{Legal}
use Rattle.hall_turn.specs.Runs.{Continues, calls_of}
use Rattle.hall_turn.specs.Views.{Told, SeatView, parts_of, tickets_of, every, numbers}

-- f of each, added up
abbrev pub total : {A : Type 0} → (A → ℕ) → List A → ℕ
total f [] = 0
total f (x ∷ xs) = f x + total f xs

-- what the rule says of what one pass has seen
pub record FitsTold (run : List Entry) (made : ℕ) (t : Told) : Type 0 where
  pub begins : Continues run t.seen
  pub own : calls_of t.process t.seen ≡ calls_of t.process run
  pub below : t.process < made

-- what the rule says of one view, where this is the run so far, and this the next ticket
pub record Fits (wall : ChineseWall) (made : ℕ) (run : List Entry) (next : ℕ) (v : SeatView)
    : Type 0 where
  pub begins : Continues run v.seen
  pub hears : Continues run v.told
  pub policy_is : 0 < v.parts → v.policy ≡ wall
  pub knows : 0 < v.parts → (i : ℕ) (t : Told) → get_elem? (every v) i ≡ opt.some t →
      FitsTold run made t
  pub differ : IsDistinct eqb (numbers v)
  pub waits : (t : ℕ) → v.ticket ≡ Some t → (length run ≤ t) × (t < next) × (0 < v.parts)
  pub serves : v.out ≡ true → (v.ticket ≡ Some (length run)) × (v.seen ≡ run)
  pub makes : 0 < v.made → (v.made ≡ made) × (0 < v.parts)

-- what it says of two
pub record Apart (v w : SeatView) : Type 0 where
  pub processes : 0 < v.parts → 0 < w.parts → (i j p q : ℕ) → get_elem? (numbers v) i ≡ opt.some p →
      get_elem? (numbers w) j ≡ opt.some q → p ≢ q
  pub tickets : (t : ℕ) → v.ticket ≡ Some t → w.ticket ≡ Some t → ⊥
  pub makers : 0 < v.made → 0 < w.made → ⊥

-- what it says of all views
pub record Agree (wall : ChineseWall) (made : ℕ) (run : List Entry) (next : ℕ)
    (views : List SeatView) : Type 0 where
  pub each : (j : ℕ) (v : SeatView) → get_elem? views j ≡ opt.some v → Fits wall made run next v
  pub apart : (i j : ℕ) (v w : SeatView) → get_elem? views i ≡ opt.some v →
      get_elem? views j ≡ opt.some w → i ≢ j → Apart v w

-- turn t of the run was p's: before its entry the run has t others
pub record TookTurn (run : List Entry) (p t : ℕ) : Type 0 where
  pub later : List Entry
  pub entry : Entry
  pub earlier : List Entry
  pub at : later ++ entry ∷ earlier ≡ run
  pub number : length earlier ≡ t
  pub by : entry.call.process ≡ p

-- ticket t is out, with a view of p
pub record HoldsTicket (views : List SeatView) (p t : ℕ) : Type 0 where
  pub seat : ℕ
  pub view : SeatView
  pub at : get_elem? views seat ≡ opt.some view
  pub by : view.process ≡ p
  pub ticket : view.ticket ≡ Some t

-- the turn or the ticket of this number is p's
abbrev pub HasNumber : (run : List Entry) (views : List SeatView) (p t : ℕ) → Type 0
HasNumber run views p t = TookTurn run p t ⊎ HoldsTicket views p t

-- p has no two turns or tickets whose numbers are 2^62 or above
abbrev pub HasOneLate : (run : List Entry) (views : List SeatView) (p : ℕ) → Type 0
HasOneLate run views p =
    (t u : ℕ) → 2 ^ 62 ≤ t → 2 ^ 62 ≤ u
    → HasNumber run views p t → HasNumber run views p u → t ≡ u

module _ {M : Type 0} (stands : ChineseWall → M → List Entry → Type 0) where
  pub record AtHome (wall : ChineseWall) (run : List Entry) (s : State (Option M) SeatView)
      : Type 0 where
    pub machine : M
    pub homes : s.homes ≡ opt.some (Some machine) ∷ []
    pub stood : stands wall machine run

  pub record IsOut (s : State (Option M) SeatView) : Type 0 where
    pub seat : ℕ
    pub view : SeatView
    pub homes : s.homes ≡ opt.none ∷ []
    pub at : get_elem? s.views seat ≡ opt.some view
    pub out : view.out ≡ true

  pub record Ruled (wall : ChineseWall) (s : State (Option M) SeatView) : Type 0 where
    pub run : List Entry
    pub next : ℕ
    pub made : ℕ
    pub words : s.words ≡ length run ∷ next ∷ []
    pub legal : Legal wall run
    -- TICKET is SERVING and the number of views with a ticket
    pub drawn : next ≡ length run + total tickets_of s.views
    -- no process has two turns or tickets whose numbers are 2^62 or above
    pub late : (p : ℕ) → HasOneLate run s.views p
    -- the parts of the right to close are as many as the processes
    pub whole : total parts_of s.views ≡ processes wall
    pub small : processes wall < 2 ^ 32
    pub within : made ≤ processes wall
    pub unmade : (p : ℕ) → made ≤ p → calls_of p run ≡ []
    pub agree : Agree wall made run next s.views
    pub home : AtHome wall run s ⊎ IsOut s
