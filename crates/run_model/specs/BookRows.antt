-- Worked books.
use Rattle.std.specs.Prelude.{ℕ, List, [], ◌∷◌, ◌++◌, Bool, true, false, Some, None, pos, codes}
use Rattle.wall_labels.specs.declared.op.Op.TheVariants.{Sum}
use Rattle.wall_labels.specs.declared.label.Label.{Label}
use Rattle.wall_labels.specs.declared.label.Label.TheVariants.{Public, Of}
use Rattle.wall_policy.specs.Policy.{ChineseWall}
use Rattle.mpi_elems.specs.declared.elem_type.ElemType.TheVariants.{Int32}
use Rattle.coll_routes.specs.declared.signature.Signature.{Signature}
use Rattle.coll_routes.specs.declared.signature.Signature.TheVariants.{Bcast, Gatherv, Allreduce}
use Rattle.coll_routes.specs.declared.signature.Signature.TheVariants.{Split, CartCreate, CartSub}
use Rattle.coll_routes.specs.declared.signature.Signature.TheVariants.{Barrier}
use Rattle.coll_routes.specs.declared.statement.Own.{Own}
use Rattle.coll_routes.specs.declared.statement.Own.TheVariants.{Plain, Split as SplitBy}
use Rattle.wall_rules.specs.declared.rule.Rule.TheVariants.{Star, Simple}
use Rattle.run_model.specs.declared.outcome.Outcome.TheVariants.{Granted, Denied, Made}
use Rattle.run_model.specs.declared.entry.Entry.{Entry}
use Rattle.run_model.specs.declared.entry.Entry.TheVariants.{Posted, Settled}

-- Two classes: the banks alpha and beta, and the oil firms crude and delta. Process a0 has home
-- alpha, b0 beta, c0 crude, n0 none.
abbrev pub banks_and_oil : ChineseWall
banks_and_oil = record {
  version = 1;
  class_names = codes "banks" ∷ codes "oil" ∷ [];
  dataset_names = codes "alpha" ∷ codes "beta" ∷ codes "crude" ∷ codes "delta" ∷ [];
  process_names = codes "a0" ∷ codes "b0" ∷ codes "c0" ∷ codes "n0" ∷ [];
  classes = 0 ∷ 0 ∷ 1 ∷ 1 ∷ [];
  homes = Some 0 ∷ Some 1 ∷ Some 2 ∷ None ∷ [];
  leasts = (Sum, 3) ∷ [];
  distincts = (Sum, 1) ∷ [];
  held = [];
}

-- one class, the banks, and four processes at home at alpha
abbrev pub four_of_a_bank : ChineseWall
four_of_a_bank = record {
  version = 1;
  class_names = codes "banks" ∷ [];
  dataset_names = codes "alpha" ∷ codes "beta" ∷ [];
  process_names = codes "p0" ∷ codes "p1" ∷ codes "p2" ∷ codes "p3" ∷ [];
  classes = 0 ∷ 0 ∷ [];
  homes = Some 0 ∷ Some 0 ∷ Some 0 ∷ Some 0 ∷ [];
  leasts = [];
  distincts = [];
  held = [];
}

abbrev pub alpha : Label
alpha = Of 0

-- a post with elements
abbrev pub gave : (p c : ℕ) → Signature → (given : ℕ) → Label → (barred : Bool) → Entry
gave p c sig given label barred = Posted p c
    (record { sig = sig; own = Plain; given = given; label = Some label; barred = barred })

-- a post without elements
abbrev pub without_elements : (p c : ℕ) → Signature → Own → Entry
without_elements p c sig own =
    Posted p c (record { sig = sig; own = own; given = 0; label = None; barred = false })

abbrev pub plainly : (p c : ℕ) → Signature → Entry
plainly p c sig = without_elements p c sig Plain

-- a0 broadcasts alpha's numbers, which b0 may not get
abbrev pub two_numbers : Signature
two_numbers = Bcast 0 Int32 2

abbrev pub broadcast : (outcome : List Entry) → List Entry
broadcast outcome =
    gave 0 0 two_numbers 2 alpha false
    ∷ plainly 1 0 two_numbers
    ∷ plainly 2 0 two_numbers
    ∷ plainly 3 0 two_numbers
    ∷ outcome

abbrev pub denied_broadcast : List Entry
denied_broadcast = broadcast (Settled 0 0 (Denied Simple 1 alpha) ∷ [])

abbrev pub granted_broadcast : List Entry
granted_broadcast = broadcast (Settled 0 0 Granted ∷ [])

-- a split into two
abbrev pub split_up : (outcome : List Entry) → List Entry
split_up outcome =
    without_elements 0 0 Split (SplitBy (Some (pos 2)) (pos 0))
    ∷ without_elements 1 0 Split (SplitBy None (pos 0))
    ∷ without_elements 2 0 Split (SplitBy (Some (pos 0)) (pos 5))
    ∷ without_elements 3 0 Split (SplitBy (Some (pos 2)) (pos 0))
    ∷ outcome

abbrev pub split_into_two : List Entry
split_into_two = split_up (Settled 0 0 (Made 1 2) ∷ [])

abbrev pub split_into_one : List Entry
split_into_one = split_up (Settled 0 0 (Made 1 1) ∷ [])

abbrev pub split_without_outcome : List Entry
split_without_outcome = split_up []

-- a0, which is at home at alpha, gathers under the label `public`
abbrev pub numbers_to_n0 : Signature
numbers_to_n0 = Gatherv 3 Int32

abbrev pub gathered : (barred : Bool) → List Entry
gathered barred =
    gave 0 0 numbers_to_n0 1 Public barred
    ∷ plainly 1 0 numbers_to_n0
    ∷ plainly 2 0 numbers_to_n0
    ∷ plainly 3 0 numbers_to_n0
    ∷ Settled 0 0 (Denied Star 0 Public)
    ∷ []

abbrev pub barred_gather : List Entry
barred_gather = gathered true

abbrev pub passed_gather : List Entry
passed_gather = gathered false

-- all of four post the same
abbrev pub all_post : (c : ℕ) → Signature → List Entry
all_post c sig = plainly 0 c sig ∷ plainly 1 c sig ∷ plainly 2 c sig ∷ plainly 3 c sig ∷ []

-- a grid of two by two is cut into its rows, and the second row meets
abbrev pub rows_of_a_grid : List Entry
rows_of_a_grid =
    all_post 0 (CartCreate (2 ∷ 2 ∷ []) (true ∷ false ∷ []))
    ++ Settled 0 0 (Made 1 1)
    ∷ all_post 1 (CartSub (false ∷ true ∷ []))
    ++ Settled 1 0 (Made 2 2)
    ∷ plainly 3 3 Barrier
    ∷ plainly 2 3 Barrier
    ∷ Settled 3 0 Granted
    ∷ []

-- four contributions to a sum are sanitised, and n0, which got it, may write as `public`
abbrev pub sum_of_four : List Entry
sum_of_four =
    gave 0 0 (Allreduce Sum Int32 1) 1 alpha false
    ∷ gave 1 0 (Allreduce Sum Int32 1) 1 (Of 1) false
    ∷ gave 2 0 (Allreduce Sum Int32 1) 1 (Of 2) false
    ∷ gave 3 0 (Allreduce Sum Int32 1) 1 Public false
    ∷ Settled 0 0 Granted
    ∷ gave 3 0 (Bcast 3 Int32 1) 1 Public false
    ∷ []
