-- Posts with what each member brought for its instance. A list of them has the newest first.
use Rattle.std.specs.Prelude.{ℕ, List, [], ◌∷◌, ◌++◌, ◌&&◌, ◌==◌, map, filter_map, slice_get}
use Rattle.std.specs.Prelude.{Option, if◌then◌else◌}
use Rattle.std.specs.Option.{option_map}
use Rattle.coll_routes.specs.declared.statement.Stated.{Stated}
use Rattle.coll_values.specs.declared.full.Full.{Full}
use Rattle.run_model.specs.Comms.{Comm}
use Rattle.run_model.specs.Posts.{Post, instance}

-- a post that counts, with the part that its poster brought
pub record Contribution (X : Type 0) : Type 0 where
  pub post : Post
  pub part : X

abbrev pub contribution : {X : Type 0} → (p c : ℕ) → Stated → X → Contribution X
contribution p c stated part =
    record { post = record { process = p; comm = c; stated = stated }; part = part }

abbrev pub posts_of : {X : Type 0} → List (Contribution X) → List Post
posts_of past = map (λ g. g.post) past

-- the parts that p brought to communicator c, in order
abbrev pub parts_on : {X : Type 0} → (c p : ℕ) → List (Contribution X) → List X
parts_on c p [] = []
parts_on c p (g ∷ past) = if g.post.comm == c && g.post.process == p
    then parts_on c p past ++ g.part ∷ [] else parts_on c p past

-- the part that each member of c brought with its k-th post there
abbrev pub kth_parts : {X : Type 0} → Comm → (c k : ℕ) → List (Contribution X) → List (Option X)
kth_parts comm c k past = map (λ m. slice_get (parts_on c m past) k) comm.members

-- those that are there
abbrev pub parts_in : {X : Type 0} → List (Option X) → List X
parts_in rows = filter_map (λ row. row) rows

-- instance (c, k) with the parts
abbrev pub full_at : {X : Type 0} → Comm → (c k : ℕ) → List (Contribution X) → Full X
full_at comm c k past =
    record { roll = instance comm c k (posts_of past); parts = parts_in (kth_parts comm c k past) }

-- the same among these communicators
abbrev pub full_in : {X : Type 0} → List Comm → (c k : ℕ) → List (Contribution X) → Option (Full X)
full_in table c k past = option_map (λ comm. full_at comm c k past) (slice_get table c)
