-- What is charged to a member for what it gets: the datasets that an access would add to its
-- history. (Brewer and Nash 1989: sanitised information may be read by anybody. When a result is
-- sanitised, and what is charged to whom, are own rules.)
use Rattle.std.specs.Prelude.{ℕ, Bool, false, not, ◌&&◌, ◌==◌, Option, Some, None, nat_le, count_by}
use Rattle.std.specs.Prelude.{is_some, if◌then◌else◌}
use Rattle.std.specs.Option.{option_and_then}
use Rattle.std.specs.List.{list_any}
use Rattle.wall_labels.specs.declared.label.Label.{Label}
use Rattle.wall_labels.specs.Labels.{dataset_of}
use Rattle.wall_policy.specs.Policy.{ChineseWall, least_of, distinct_of}
use Rattle.mpi_cart.specs.Grids.{below}
use Rattle.coll_routes.specs.declared.roll.Roll.{Roll}
use Rattle.coll_routes.specs.Signatures.{reduction}
use Rattle.coll_routes.specs.Rolls.{ranks, label_of, routed}

-- the dataset of a label, if there is one; `public` is none
abbrev pub dataset_in : Option Label → Option ℕ
dataset_in (Some label) = dataset_of label
dataset_in None = None

abbrev pub is_that : Option ℕ → (d : ℕ) → Bool
is_that (Some e) d = e == d
is_that None d = false

-- what rank i contributes to rank j: the dataset of its label, if something of it is routed there
abbrev pub contribution : Roll → (i j : ℕ) → Option ℕ
contribution roll i j = if routed roll i j then dataset_in (label_of roll i) else None

-- rank i is a contributor of rank j
abbrev pub contributes : Roll → (i j : ℕ) → Bool
contributes roll i j = is_some (contribution roll i j)

-- how many contributors rank j has
abbrev pub contributors : Roll → (j : ℕ) → ℕ
contributors roll j = count_by (λ i. contributes roll i j) (ranks roll)

-- some rank below n contributes dataset d to rank j; some rank at all
abbrev pub contributed_below : Roll → (j n d : ℕ) → Bool
contributed_below roll j n d = list_any (λ i. is_that (contribution roll i j) d) (below n)

abbrev pub contributed : Roll → (j d : ℕ) → Bool
contributed roll j d = contributed_below roll j roll.shape.size d

-- the dataset, if there is one, is none of those before
abbrev pub is_another : (before : ℕ → Bool) → Option ℕ → Bool
is_another before (Some d) = not (before d)
is_another before None = false

-- rank i contributes to rank j a dataset that no rank below it contributes
abbrev pub contributes_another : Roll → (i j : ℕ) → Bool
contributes_another roll i j =
    is_another (λ d. contributed_below roll j i d) (contribution roll i j)

-- how many different datasets the contributors of rank j have: each counts at the lowest rank that
-- contributes it
abbrev pub different_datasets : Roll → (j : ℕ) → ℕ
different_datasets roll j = count_by (λ i. contributes_another roll i j) (ranks roll)

-- the least numbers that the policy states for the operation of a kind that reduces: of
-- contributors, and of different datasets among them
abbrev pub least_for : ChineseWall → Roll → Option ℕ
least_for wall roll = option_and_then (least_of wall) (reduction roll.sig)

abbrev pub distinct_for : ChineseWall → Roll → Option ℕ
distinct_for wall roll = option_and_then (distinct_of wall) (reduction roll.sig)

abbrev pub is_at_most : Option ℕ → ℕ → Bool
is_at_most (Some least) n = nat_le least n
is_at_most None n = false

-- What rank j gets is sanitised: the kind reduces, and the policy states for its operation two
-- least numbers, which are both reached: its contributors the one, and the different datasets among
-- them the other.
unfoldable pub sanitised : ChineseWall → Roll → (j : ℕ) → Bool
sanitised wall roll j =
    is_at_most (least_for wall roll) (contributors roll j)
    && is_at_most (distinct_for wall roll) (different_datasets roll j)

-- Dataset d is charged to rank j: what j gets isn't sanitised, and some rank contributes d to it.
abbrev pub charged : ChineseWall → Roll → (j d : ℕ) → Bool
charged wall roll j d = not (sanitised wall roll j) && contributed roll j d
