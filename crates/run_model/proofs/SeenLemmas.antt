-- Posts whose parts are seen through a view: what two lists of them share where they look the same.
use Rattle.std.proofs.Common.{◌≡◌, ℕ, List, [], ◌∷◌, ◌++◌, map, refl, sym, ap, ◌∙◌, Bool, true}
use Rattle.std.proofs.Common.{false, ◌&&◌, cond, Option, Some, None, slice_get, option_map}
use Rattle.std.specs.Prelude.{◌==◌, is_some}
use Rattle.std.specs.List.{list_all}
use Rattle.std.proofs.lemmas.Bool.{false≢true}
use Rattle.std.proofs.lemmas.Option.{slice_get-map}
use Rattle.std.proofs.lemmas.List.{map-append, map-id}
use Rattle.coll_routes.specs.declared.statement.Stated.{Stated}
use Rattle.coll_values.proofs.CollValuesLemmas.{map_map}
use Rattle.run_model.specs.Comms.{Comm}
use Rattle.coll_routes.specs.Rolls.{is_full}
use Rattle.run_model.specs.Posts.{posts_on, kth_posts}
use Rattle.run_model.specs.Contributions.{Contribution, posts_of, parts_on, kth_parts, parts_in}

-- ## lists

-- ## views

-- how the part of a post with this statement is seen
abbrev pub View : (X Y : Type 0) → Type 0
View X Y = Stated → X → Y

abbrev pub seen : {X Y : Type 0} → View X Y → Contribution X → Contribution Y
seen view g = record { post = g.post; part = view g.post.stated g.part }

abbrev pub seen_all : {X Y : Type 0} → View X Y → List (Contribution X) → List (Contribution Y)
seen_all view past = map (seen view) past

-- each part with its statement
abbrev pub beside : {X : Type 0} → View X (Stated × X)
beside s x = (s, x)

abbrev pub paired : {X : Type 0} → List (Contribution X) → List (Contribution (Stated × X))
paired past = seen_all beside past

-- a view leaves the posts
pub posts_seen : {X Y : Type 0} (view : View X Y) (past : List (Contribution X)) →
    posts_of (seen_all view past) ≡ posts_of past
posts_seen view [] = refl
posts_seen view (g ∷ past) = ap (λ ps. g.post ∷ ps) (posts_seen view past)

pub same_posts : {X Y : Type 0} (view : View X Y) (past other : List (Contribution X)) →
    seen_all view past
    ≡ seen_all view other → posts_of past ≡ posts_of other
same_posts view past other e =
    sym (posts_seen view past) ∙ (ap (λ gs. posts_of gs) e ∙ posts_seen view other)

-- ## parts

last_if : {X Y : Type 0} (f : X → Y) (t : Bool) (xs : List X) (x : X) (ys : List Y) →
    ys ≡ map f xs → cond t (ys ++ f x ∷ []) ys ≡ map f (cond t (xs ++ x ∷ []) xs)
last_if f true xs x ys e = ap (λ zs. zs ++ f x ∷ []) e ∙ sym (map-append f xs (x ∷ []))
last_if f false xs x ys e = e

parts_viewed : {X Y : Type 0} (f : X → Y) (c p : ℕ) (past : List (Contribution X)) →
    parts_on c p (seen_all (λ s x. f x) past) ≡ map f (parts_on c p past)
parts_viewed f c p [] = refl
parts_viewed f c p (g ∷ past) =
    last_if f (g.post.comm == c && g.post.process == p) (parts_on c p past) g.part
    (parts_on c p (seen_all (λ s x. f x) past)) (parts_viewed f c p past)

statements_are : {X : Type 0} (c p : ℕ) (past : List (Contribution X)) →
    posts_on c p (posts_of past)
    ≡ map (λ (q : Stated × X). q.0) (parts_on c p (paired past))
statements_are c p [] = refl
statements_are {X} c p (g ∷ past) =
    last_if (λ (q : Stated × X). q.0) (g.post.comm == c && g.post.process == p)
    (parts_on c p (paired past)) (g.post.stated, g.part) (posts_on c p (posts_of past))
    (statements_are c p past)

-- a view of pairs
abbrev pub of_pair : {X Y : Type 0} → View X Y → Stated × X → Y
of_pair view q = view q.0 q.1

parts_seen : {X Y : Type 0} (view : View X Y) (c p : ℕ) (past : List (Contribution X)) →
    parts_on c p (seen_all view past) ≡ map (of_pair view) (parts_on c p (paired past))
parts_seen view c p past =
    ap (λ gs. parts_on c p gs) (sym (map_map (seen (λ s q. of_pair view q)) (seen beside) past))
    ∙ parts_viewed (of_pair view) c p (paired past)

-- ## rows

rows_mapped : {X Y : Type 0} (h : X → Y) (f : ℕ → List X) (g : ℕ → List Y) (k : ℕ)
    (members : List ℕ) → ((m : ℕ) → g m ≡ map h (f m)) → map (λ m. slice_get (g m) k) members
    ≡ map (option_map h) (map (λ m. slice_get (f m) k) members)
rows_mapped h f g k [] same = refl
rows_mapped h f g k (m ∷ members) same =
    λ i. (ap (λ xs. slice_get xs k) (same m) ∙ slice_get-map h (f m) k) i ∷ rows_mapped h f g k
    members same i

parts_in_mapped : {X Y : Type 0} (h : X → Y) (rows : List (Option X)) →
    parts_in (map (option_map h) rows) ≡ map h (parts_in rows)
parts_in_mapped h [] = refl
parts_in_mapped h (Some x ∷ rows) = ap (λ rest. h x ∷ rest) (parts_in_mapped h rows)
parts_in_mapped h (None ∷ rows) = parts_in_mapped h rows

full_rows : {X : Type 0} (rows : List (Option X)) → list_all is_some rows ≡ true →
    rows ≡ map (λ x. Some x) (parts_in rows)
full_rows [] full = refl
full_rows (Some x ∷ rows) full = ap (λ rest. Some x ∷ rest) (full_rows rows full)
full_rows (None ∷ rows) full = absurd (false≢true full)

some_mapped : {X Y : Type 0} (h : X → Y) (rows : List (Option X)) →
    list_all is_some (map (option_map h) rows) ≡ list_all is_some rows
some_mapped h [] = refl
some_mapped h (Some x ∷ rows) = some_mapped h rows
some_mapped h (None ∷ rows) = refl

-- ## instances

module _ {X : Type 0} (comm : Comm) (c k : ℕ) (past : List (Contribution X)) where
  -- the parts of instance (c, k) with their statements
  abbrev pub pairs : List (Stated × X)
  pairs = parts_in (kth_parts comm c k (paired past))

  pub parts_are : {Y : Type 0} (view : View X Y) →
      parts_in (kth_parts comm c k (seen_all view past)) ≡ map (of_pair view) pairs
  parts_are view =
      ap (λ rows. parts_in rows) (rows_mapped (of_pair view) (λ m. parts_on c m (paired past))
      (λ m. parts_on c m (seen_all view past)) k comm.members (λ m. parts_seen view c m past))
      ∙ parts_in_mapped (of_pair view) (kth_parts comm c k (paired past))

  pub own_parts_are : parts_in (kth_parts comm c k past) ≡ map (λ (q : Stated × X). q.1) pairs
  own_parts_are = ap (λ gs. parts_in (kth_parts comm c k gs)) (sym (map-id past))
      ∙ parts_are (λ s x. x)

  pub rows_are : kth_posts comm c k (posts_of past) ≡ map (option_map (λ (q : Stated × X). q.0))
      (kth_parts comm c k (paired past))
  rows_are = rows_mapped (λ (q : Stated × X). q.0) (λ m. parts_on c m (paired past))
      (λ m. posts_on c m (posts_of past)) k comm.members (λ m. statements_are c m past)

  -- in a full instance the statements are those of the pairs
  pub full_statements_are : is_full (kth_posts comm c k (posts_of past)) ≡ true →
      kth_posts comm c k (posts_of past) ≡ map (λ (q : Stated × X). Some q.0) pairs
  full_statements_are full =
      rows_are
      ∙ (ap (map (option_map (λ (q : Stated × X). q.0)))
      (full_rows (kth_parts comm c k (paired past))
      (sym (some_mapped (λ (q : Stated × X). q.0) (kth_parts comm c k (paired past)))
      ∙ (sym (ap (λ rows. list_all is_some rows) rows_are) ∙ full)))
      ∙ map_map (option_map (λ (q : Stated × X). q.0)) (λ q. Some q) pairs)
