-- The places of instances, looked up by communicator and number.
use Rattle.std.specs.Prelude.{◌≡◌, ◌≢◌, ℕ, ◌+◌, ◌-◌, ◌<◌, ◌==◌, ◌&&◌, List, [], length}
use Rattle.std.specs.Prelude.{slice_index_or, Option, None, Some, is_some, if◌then◌else◌}
use Rattle.std.specs.Prelude.{Bool, true, false, not, ◌||◌, refl}
use Rattle.std.proofs.Common.{eqb-true}
use Rattle.std.proofs.lemmas.Bool.{true≢false}
use Rattle.std.specs.Arc.{arc_value}
use Rattle.run_model.specs.declared.outcome.Outcome.TheVariants.{Granted}
use Rattle.hall_core.specs.declared.settled.Settlement.{Settlement}
use Rattle.hall_core.specs.declared.settled.Share.{Share}
use Rattle.hall_core.specs.declared.settled.Share.TheVariants.{Awaited, Given, Refused, Withheld}
use Rattle.hall_core.specs.declared.settled.Place.{Place}
use Rattle.hall_core.specs.Asking.{open_for}
use Rattle.hall_core.specs.Windows.{Windowed, IsInWindow}
use Rattle.hall_core.specs.declared.requests.Request.{Request}

-- the places of one communicator's instances by number
abbrev pub Places : Type 0
Places = Windowed Place

-- a place where nothing stands
abbrev pub nothing : Place
nothing = record { waiting = 0; settlement = None }

-- something stands there: a request waits, or what came of the instance
abbrev pub stands : Place → Bool
stands place = not (place.waiting == 0) || is_some place.settlement

-- of what does not stand nothing is left
pub nothing_stands : (place : Place) → stands place ≡ false → place ≡ nothing
nothing_stands place none = from (place.waiting == 0) refl place.settlement refl none
  where
    from : (b : Bool) → (place.waiting == 0) ≡ b → (s : Option Settlement) →
        place.settlement ≡ s → (not b || is_some s) ≡ false → place ≡ nothing
    from true zero_is None none_is h = λ i. record {
      waiting = eqb-true place.waiting 0 zero_is i;
      settlement = none_is i;
    }
    from true zero_is (Some s) some_is h = absurd (true≢false h)
    from false more s is h = absurd (true≢false h)

abbrev pub no_places : Places
no_places = record { numbers = []; list = []; room = 0 }

abbrev pub place_in : List Place → (k : ℕ) → Place
place_in list k = slice_index_or list k nothing

abbrev pub places_of : List Places → (c : ℕ) → Places
places_of rows c = slice_index_or rows c no_places

-- the place of instance k of communicator c
abbrev pub place_at : List Places → (c k : ℕ) → Place
place_at rows c k = place_in (places_of rows c).list k

-- how many of the requests for it are open, as its place counts them
abbrev pub open_at : List Places → (c k : ℕ) → ℕ
open_at rows c k = (place_at rows c k).waiting

-- what came of it, if it was filled and was not let go
abbrev pub settlement_at : List Places → (c k : ℕ) → Option Settlement
settlement_at rows c k = (place_at rows c k).settlement

-- there is a place for instance k of communicator c
pub record HasPlace (rows : List Places) (c k : ℕ) : Type 0 where
  pub there : c < length rows
  pub kept : IsInWindow (places_of rows c) k

-- ## changes

-- one request for the instance more
abbrev pub one_more : Place → Place
one_more place = record { waiting = place.waiting + 1; settlement = place.settlement }

-- one open request fewer; with the last of them the instance is let go
abbrev pub one_fewer : Place → Place
one_fewer place =
    if place.waiting == 1 then nothing
    else record { waiting = place.waiting - 1; settlement = place.settlement }

-- this came of the instance
abbrev pub settled_as : Place → Settlement → Place
settled_as place s = record { waiting = place.waiting; settlement = Some s }

-- two tables have the same in each place
abbrev pub AreSame : (old new : List Places) → Type 0
AreSame old new = (c k : ℕ) → place_at new c k ≡ place_at old c k

-- and but for this in one
abbrev pub IsPlaced : (old new : List Places) → (c k : ℕ) → Place → Type 0
IsPlaced old new c k place =
    (d j : ℕ) → place_at new d j ≡ (if d == c && j == k then place else place_at old d j)

-- ## what the places count

-- Each place counts the open requests for its instance, and holds nothing where there are none.
pub record KeepsCount (asked : (p : ℕ) → List (Option Request)) (processes : ℕ)
    (rows : List Places) : Type 0 where
  pub waiting : (c k : ℕ) → open_at rows c k ≡ open_for asked processes c k
  pub held : (c k : ℕ) (s : Settlement) → settlement_at rows c k ≡ Some s →
      0 < open_at rows c k

-- ## shares

-- What is handed out of an instance of which this came: it is awaited where nothing did, and given
-- only where it was granted.
abbrev pub IsShareOf : Option Settlement → Share → Type 0
IsShareOf came Awaited = came ≡ None
IsShareOf came (Given full) = came ≡ Some (record { full = arc_value full; outcome = Granted })
IsShareOf came (Refused _) = (s : Settlement) × ((came ≡ Some s) × (s.outcome ≡ Granted))
IsShareOf came Withheld = (s : Settlement) × ((came ≡ Some s) × (s.outcome ≢ Granted))
