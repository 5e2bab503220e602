-- The verdict on a full instance, by the two rules of the wall. (Brewer and Nash 1989: simple
-- security and the *-property. That an instance is judged as one, and which rank a denial names,
-- are own rules.)
use Rattle.std.specs.Prelude.{ℕ, List, Bool, false, not, ◌&&◌, ◌||◌, map, slice_get, Option, Some}
use Rattle.std.specs.Prelude.{None, unwrap_or, find, flat_map}
use Rattle.wall_labels.specs.declared.label.Label.{Label}
use Rattle.wall_labels.specs.declared.label.Label.TheVariants.{Public}
use Rattle.wall_policy.specs.Policy.{ChineseWall}
use Rattle.wall_rules.specs.Histories.{History}
use Rattle.wall_rules.specs.Rules.{clashes}
use Rattle.coll_routes.specs.declared.roll.Roll.{Roll}
use Rattle.coll_routes.specs.Rolls.{ranks, label_of, is_barred}
use Rattle.wall_rules.specs.declared.rule.Rule.TheVariants.{Star, Simple}
use Rattle.wall_verdict.specs.declared.verdict.Verdict.{Verdict}
use Rattle.wall_verdict.specs.declared.verdict.Verdict.TheVariants.{Granted, Denied}
use Rattle.wall_verdict.specs.Charges.{contribution, contributed_below, sanitised}

-- the process of rank j, which is below the size
abbrev pub member : Roll → (j : ℕ) → ℕ
member roll j = unwrap_or (slice_get roll.members j) 0

-- the dataset, if there is one, has a rival among those that are held
abbrev pub meets_rival : List ℕ → (held : ℕ → Bool) → Option ℕ → Bool
meets_rival classes held (Some d) = clashes classes held d
meets_rival classes held None = false

-- what rank i contributes to rank j has a rival in the history of j's process, or among what ranks
-- below i contribute to j
abbrev pub meets : List ℕ → History → Roll → (j i : ℕ) → Bool
meets classes has roll j i = meets_rival classes
    (λ e. has (member roll j) e || contributed_below roll j i e) (contribution roll i j)

-- Receiver j and rank i offend: what j gets isn't sanitised, and what i contributes to it meets a
-- rival.
abbrev pub offends : ChineseWall → History → Roll → (j i : ℕ) → Bool
offends wall has roll j i = not (sanitised wall roll j) && meets wall.classes has roll j i

-- all pairs of a receiver and a rank, in order, the receiver first
abbrev pub pairs : Roll → List (ℕ × ℕ)
pairs roll = flat_map (λ j. map (λ i. (j, i)) (ranks roll)) (ranks roll)

-- the lowest rank that was barred, and the least pair that offends
abbrev pub first_barred : Roll → Option ℕ
first_barred roll = find (is_barred roll) (ranks roll)

abbrev pub first_offence : ChineseWall → History → Roll → Option (ℕ × ℕ)
first_offence wall has roll =
    find (λ (pair : ℕ × ℕ). offends wall has roll pair.0 pair.1) (pairs roll)

-- the label that a denial names; who is named has one
abbrev pub stated_label : Option Label → Label
stated_label label = unwrap_or label Public

abbrev pub verdict_by : Roll → (barred : Option ℕ) → (offence : Option (ℕ × ℕ)) → Verdict
verdict_by roll (Some i) offence = Denied Star (member roll i) (stated_label (label_of roll i))
verdict_by roll None (Some pair) =
    Denied Simple (member roll pair.0) (stated_label (label_of roll pair.1))
verdict_by roll None None = Granted

-- The verdict: denied by the star rule if a post was barred, else by the simple rule if a pair
-- offends, else granted.
unfoldable pub verdict : ChineseWall → History → Roll → Verdict
verdict wall has roll = verdict_by roll (first_barred roll) (first_offence wall has roll)
