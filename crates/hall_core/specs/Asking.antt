-- The requests of a process. (MPI 4.1, section 6.12: a nonblocking collective has a request, which
-- is complete once its outcome is taken.)
use Rattle.std.specs.Prelude.{ℕ, zero, suc, ◌+◌, ◌&&◌, Bool, false, List, [], ◌∷◌, ◌++◌, slice_get}
use Rattle.std.specs.Prelude.{slice_index_or, slice_set, Option, Some, None, is_some, is_none, ◌==◌}
use Rattle.std.specs.Prelude.{count_by, if◌then◌else◌}
use Rattle.std.specs.Prelude.{◌≡◌, refl}
use Rattle.std.specs.Option.{option_map_or}
use Rattle.std.proofs.lemmas.Bool.{true≢false}
use Rattle.hall_core.specs.declared.requests.Request.{Request}

-- The requests of a process, for each in order the instance that it is for, and nothing of one that
-- was taken; and for how many more there is room.
pub record Asked : Type 0 where
  pub list : List (Option Request)
  pub room : ℕ

-- the request of this number, if it was given and is not taken
abbrev pub opened : List (Option Request) → (number : ℕ) → Option Request
opened list number = slice_index_or list number None

-- the request of this number was given, and taken
abbrev pub taken_at : List (Option Request) → (number : ℕ) → Bool
taken_at list number = option_map_or is_none (slice_get list number) false

-- of what is not some nothing is left
pub none_is_left : (o : Option Request) → is_some o ≡ false → o ≡ None
none_is_left None e = refl
none_is_left (Some r) e = absurd (true≢false e)

-- how many requests are not taken
abbrev pub open_number : List (Option Request) → ℕ
open_number list = count_by is_some list

-- ## the requests of all processes

abbrev pub requests_of : List Asked → (p : ℕ) → List (Option Request)
requests_of asked p = option_map_or (λ a. a.list) (slice_get asked p) []

abbrev pub room_of : List Asked → (p : ℕ) → ℕ
room_of asked p = option_map_or (λ a. a.room) (slice_get asked p) 0

-- other requests for one process
abbrev pub updated : ((p : ℕ) → List (Option Request)) → (p : ℕ) → List (Option Request) →
    (q : ℕ) → List (Option Request)
updated asked p list q = if q == p then list else asked q

-- one request of p more
abbrev pub with_request : ((p : ℕ) → List (Option Request)) → (p : ℕ) → Request →
    (q : ℕ) → List (Option Request)
with_request asked p r = updated asked p (asked p ++ Some r ∷ [])

-- the request of p of this number is forgotten but for its number
abbrev pub with_closed : ((p : ℕ) → List (Option Request)) → (p number : ℕ) →
    (q : ℕ) → List (Option Request)
with_closed asked p number = updated asked p (slice_set (asked p) number None)

-- ## the requests for one instance

-- a request that is not taken, for instance k of communicator c
abbrev pub is_for : (c k : ℕ) → Option Request → Bool
is_for c k (Some r) = r.comm == c && r.k == k
is_for c k None = false

-- how many of these requests are for it and not taken
abbrev pub open_in : List (Option Request) → (c k : ℕ) → ℕ
open_in list c k = count_by (is_for c k) list

-- and how many of all requests of so many processes
abbrev pub open_for : ((p : ℕ) → List (Option Request)) → (processes : ℕ) → (c k : ℕ) → ℕ
open_for asked zero c k = 0
open_for asked (suc n) c k = open_for asked n c k + open_in (asked n) c k
