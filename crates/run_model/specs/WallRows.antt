-- Worked runs that show the wall: when charges bite, what a post adds, and who is named.
use Rattle.std.specs.Prelude.{List, [], ◌∷◌, ◌++◌, pos, Some}
use Rattle.wall_labels.specs.declared.op.Op.TheVariants.{Max, Sum}
use Rattle.wall_labels.specs.declared.label.Label.TheVariants.{Public}
use Rattle.mpi_elems.specs.declared.elem_type.ElemType.TheVariants.{Int32}
use Rattle.coll_routes.specs.declared.signature.Signature.TheVariants.{Barrier, Bcast, Gather}
use Rattle.coll_routes.specs.declared.signature.Signature.TheVariants.{Allgather, Allgatherv}
use Rattle.coll_routes.specs.declared.signature.Signature.TheVariants.{Reduce, Allreduce, Scan}
use Rattle.coll_routes.specs.declared.signature.Signature.TheVariants.{Create, Dup, Split}
use Rattle.coll_routes.specs.declared.statement.Own.TheVariants.{Plain, Split as SplitBy}
use Rattle.coll_values.specs.declared.delivery.Block.TheVariants.{Numbers}
use Rattle.wall_rules.specs.declared.rule.Rule.TheVariants.{Simple}
use Rattle.run_model.specs.declared.refusal.Refusal.TheVariants.{Mismatch}
use Rattle.run_model.specs.declared.reply.Reply.TheVariants.{Posted, Barred, Pending, Delivered}
use Rattle.run_model.specs.declared.reply.Reply.TheVariants.{Denied, Refused}
use Rattle.run_model.specs.declared.reply.Reply.{Reply}
use Rattle.run_model.specs.Runs.{Entry}
use Rattle.run_model.specs.RunRows.{alpha, beta, crude, gave, stated, came, took, all_came}

-- n0 is granted alpha, and has not taken it, when beta would reach it too: denied, and alpha is
-- delivered
abbrev pub charged_before_it_is_taken : Reply → List Entry
charged_before_it_is_taken reply =
    stated 0 0 Split (SplitBy (Some (pos 0)) (pos 0)) (Posted 0)
    ∷ stated 1 0 Split (SplitBy (Some (pos 1)) (pos 0)) (Posted 0)
    ∷ stated 2 0 Split (SplitBy (Some (pos 1)) (pos 0)) (Posted 0)
    ∷ stated 3 0 Split (SplitBy (Some (pos 0)) (pos 0)) (Posted 0)
    ∷ stated 0 0 Split (SplitBy (Some (pos 1)) (pos 0)) (Posted 1)
    ∷ stated 1 0 Split (SplitBy (Some (pos 0)) (pos 0)) (Posted 1)
    ∷ stated 2 0 Split (SplitBy (Some (pos 1)) (pos 0)) (Posted 1)
    ∷ stated 3 0 Split (SplitBy (Some (pos 0)) (pos 0)) (Posted 1)
    ∷ gave 0 1 (Bcast 0 Int32 1) Plain alpha (pos 10 ∷ []) (Posted 2)
    ∷ came 3 1 (Bcast 0 Int32 1) (Posted 2)
    ∷ gave 1 3 (Bcast 0 Int32 1) Plain beta (pos 20 ∷ []) (Posted 2)
    ∷ came 3 3 (Bcast 0 Int32 1) (Posted 3)
    ∷ took 1 2 (Denied Simple 3 beta)
    ∷ took 3 2 (Delivered (Numbers (pos 10 ∷ []) ∷ []))
    ∷ took 3 3 reply
    ∷ []

-- n0 joins the other way round
abbrev pub charged_in_the_other_order : Reply → List Entry
charged_in_the_other_order reply =
    stated 0 0 Split (SplitBy (Some (pos 0)) (pos 0)) (Posted 0)
    ∷ stated 1 0 Split (SplitBy (Some (pos 1)) (pos 0)) (Posted 0)
    ∷ stated 2 0 Split (SplitBy (Some (pos 1)) (pos 0)) (Posted 0)
    ∷ stated 3 0 Split (SplitBy (Some (pos 0)) (pos 0)) (Posted 0)
    ∷ stated 0 0 Split (SplitBy (Some (pos 1)) (pos 0)) (Posted 1)
    ∷ stated 1 0 Split (SplitBy (Some (pos 0)) (pos 0)) (Posted 1)
    ∷ stated 2 0 Split (SplitBy (Some (pos 1)) (pos 0)) (Posted 1)
    ∷ stated 3 0 Split (SplitBy (Some (pos 0)) (pos 0)) (Posted 1)
    ∷ gave 0 1 (Bcast 0 Int32 1) Plain alpha (pos 10 ∷ []) (Posted 2)
    ∷ gave 1 3 (Bcast 0 Int32 1) Plain beta (pos 20 ∷ []) (Posted 2)
    ∷ came 3 3 (Bcast 0 Int32 1) (Posted 2)
    ∷ came 3 1 (Bcast 0 Int32 1) (Posted 3)
    ∷ took 3 2 (Delivered (Numbers (pos 20 ∷ []) ∷ []))
    ∷ took 0 2 (Denied Simple 3 alpha)
    ∷ took 3 3 reply
    ∷ []

-- b0 broadcasts beta to n0
abbrev pub beta_for_n0 : Reply → List Entry
beta_for_n0 reply =
    stated 0 0 Split (SplitBy (Some (pos 1)) (pos 0)) (Posted 0)
    ∷ stated 1 0 Split (SplitBy (Some (pos 0)) (pos 0)) (Posted 0)
    ∷ stated 2 0 Split (SplitBy (Some (pos 1)) (pos 0)) (Posted 0)
    ∷ stated 3 0 Split (SplitBy (Some (pos 0)) (pos 0)) (Posted 0)
    ∷ gave 1 1 (Bcast 0 Int32 1) Plain beta (pos 20 ∷ []) (Posted 1)
    ∷ came 3 1 (Bcast 0 Int32 1) (Posted 1)
    ∷ took 3 1 reply
    ∷ []

-- n0 posts alpha, then is granted crude, and then its gather completes: it is granted
abbrev pub star_rule_at_the_post : Reply → List Entry
star_rule_at_the_post reply =
    stated 0 0 Split (SplitBy (Some (pos 0)) (pos 0)) (Posted 0)
    ∷ stated 1 0 Split (SplitBy (Some (pos 1)) (pos 0)) (Posted 0)
    ∷ stated 2 0 Split (SplitBy (Some (pos 1)) (pos 0)) (Posted 0)
    ∷ stated 3 0 Split (SplitBy (Some (pos 0)) (pos 0)) (Posted 0)
    ∷ stated 0 0 Split (SplitBy (Some (pos 1)) (pos 0)) (Posted 1)
    ∷ stated 1 0 Split (SplitBy (Some (pos 1)) (pos 0)) (Posted 1)
    ∷ stated 2 0 Split (SplitBy (Some (pos 0)) (pos 0)) (Posted 1)
    ∷ stated 3 0 Split (SplitBy (Some (pos 0)) (pos 0)) (Posted 1)
    ∷ gave 3 1 (Gather 0 Int32 1) Plain alpha (pos 7 ∷ []) (Posted 2)
    ∷ gave 2 3 (Bcast 0 Int32 1) Plain crude (pos 9 ∷ []) (Posted 2)
    ∷ came 3 3 (Bcast 0 Int32 1) (Posted 3)
    ∷ took 3 3 (Delivered (Numbers (pos 9 ∷ []) ∷ []))
    ∷ gave 0 1 (Gather 0 Int32 1) Plain alpha (pos 8 ∷ []) (Posted 2)
    ∷ took 3 2 (Delivered [])
    ∷ took 0 2 reply
    ∷ []

-- n0 posts alpha and waits; a broadcast of beta that would reach it is denied
abbrev pub label_enters_at_the_post : Reply → List Entry
label_enters_at_the_post reply =
    stated 0 0 Split (SplitBy (Some (pos 0)) (pos 0)) (Posted 0)
    ∷ stated 1 0 Split (SplitBy (Some (pos 1)) (pos 0)) (Posted 0)
    ∷ stated 2 0 Split (SplitBy (Some (pos 1)) (pos 0)) (Posted 0)
    ∷ stated 3 0 Split (SplitBy (Some (pos 0)) (pos 0)) (Posted 0)
    ∷ stated 0 0 Split (SplitBy (Some (pos 1)) (pos 0)) (Posted 1)
    ∷ stated 1 0 Split (SplitBy (Some (pos 0)) (pos 0)) (Posted 1)
    ∷ stated 2 0 Split (SplitBy (Some (pos 1)) (pos 0)) (Posted 1)
    ∷ stated 3 0 Split (SplitBy (Some (pos 0)) (pos 0)) (Posted 1)
    ∷ gave 3 1 (Gather 0 Int32 1) Plain alpha (pos 7 ∷ []) (Posted 2)
    ∷ gave 1 3 (Bcast 0 Int32 1) Plain beta (pos 20 ∷ []) (Posted 2)
    ∷ came 3 3 (Bcast 0 Int32 1) (Posted 3)
    ∷ took 3 2 Pending
    ∷ took 3 3 reply
    ∷ []

-- two contributors where three are asked: the lowest receiver is named, and the rival that it would
-- get
abbrev pub sum_of_too_few : Reply → List Entry
sum_of_too_few reply =
    gave 0 0 (Allreduce Sum Int32 1) Plain alpha (pos 5 ∷ []) (Posted 0)
    ∷ gave 1 0 (Allreduce Sum Int32 1) Plain beta (pos 6 ∷ []) (Posted 0)
    ∷ came 2 0 (Allreduce Sum Int32 0) (Refused Mismatch)
    ∷ gave 2 0 (Allreduce Sum Int32 1) Plain crude (pos 7 ∷ []) (Posted 0)
    ∷ gave 3 0 (Allreduce Max Int32 1) Plain Public (pos 1 ∷ []) (Refused Mismatch)
    ∷ gave 3 0 (Allreduce Sum Int32 1) Plain Public (pos 1 ∷ []) (Posted 0)
    ∷ took 0 0 (Delivered (Numbers (pos 19 ∷ []) ∷ []))
    ∷ gave 0 0 (Allreduce Max Int32 1) Plain alpha (pos 5 ∷ []) (Posted 1)
    ∷ gave 1 0 (Allreduce Max Int32 1) Plain beta (pos 6 ∷ []) (Posted 1)
    ∷ gave 2 0 (Allreduce Max Int32 1) Plain crude (pos 7 ∷ []) (Posted 1)
    ∷ gave 3 0 (Allreduce Max Int32 1) Plain Public (pos 1 ∷ []) (Posted 1)
    ∷ took 2 1 reply
    ∷ []

-- three contribute to a sum, and two of them the same bank's numbers
abbrev pub sum_of_two_datasets : Reply → List Entry
sum_of_two_datasets reply =
    all_came 0 (Create (0 ∷ 1 ∷ 3 ∷ [])) 0
    ++ gave 0 1 (Allreduce Sum Int32 1) Plain alpha (pos 1 ∷ []) (Posted 1)
    ∷ gave 1 1 (Allreduce Sum Int32 1) Plain beta (pos 2 ∷ []) (Posted 1)
    ∷ gave 3 1 (Allreduce Sum Int32 1) Plain alpha (pos 3 ∷ []) (Posted 1)
    ∷ took 0 1 reply
    ∷ []

-- the same of a bank and an oil firm, which are no rivals: all get the sum, and a0 writes of its
-- bank again
abbrev pub written_after_a_sum : Reply → List Entry
written_after_a_sum reply =
    all_came 0 (Create (0 ∷ 2 ∷ 3 ∷ [])) 0
    ++ gave 0 1 (Allreduce Sum Int32 1) Plain alpha (pos 5 ∷ []) (Posted 1)
    ∷ gave 2 1 (Allreduce Sum Int32 1) Plain crude (pos 7 ∷ []) (Posted 1)
    ∷ gave 3 1 (Allreduce Sum Int32 1) Plain alpha (pos 1 ∷ []) (Posted 1)
    ∷ took 0 1 (Delivered (Numbers (pos 13 ∷ []) ∷ []))
    ∷ gave 0 1 (Allgather Int32 1) Plain alpha (pos 5 ∷ []) reply
    ∷ []

-- rank 1 has two contributors, and three are asked
abbrev pub prefix_of_too_few : Reply → List Entry
prefix_of_too_few reply =
    gave 0 0 (Scan Sum Int32 1) Plain alpha (pos 1 ∷ []) (Posted 0)
    ∷ gave 1 0 (Scan Sum Int32 1) Plain beta (pos 2 ∷ []) (Posted 0)
    ∷ gave 2 0 (Scan Sum Int32 1) Plain crude (pos 3 ∷ []) (Posted 0)
    ∷ gave 3 0 (Scan Sum Int32 1) Plain Public (pos 4 ∷ []) (Posted 0)
    ∷ took 3 0 reply
    ∷ []

-- b0 and c0 may not write for others
abbrev pub lowest_barred_is_named : Reply → List Entry
lowest_barred_is_named reply =
    gave 2 0 (Allgather Int32 1) Plain alpha (pos 3 ∷ []) (Barred 0 alpha)
    ∷ gave 0 0 (Allgather Int32 1) Plain alpha (pos 1 ∷ []) (Posted 0)
    ∷ gave 3 0 (Allgather Int32 1) Plain Public (pos 4 ∷ []) (Posted 0)
    ∷ gave 1 0 (Allgather Int32 1) Plain crude (pos 2 ∷ []) (Barred 0 crude)
    ∷ took 3 0 reply
    ∷ []

-- a0 and b0 offend, and c0 was barred
abbrev pub barred_before_offences : Reply → List Entry
barred_before_offences reply =
    gave 0 0 (Allgather Int32 1) Plain alpha (pos 1 ∷ []) (Posted 0)
    ∷ gave 1 0 (Allgather Int32 1) Plain beta (pos 2 ∷ []) (Posted 0)
    ∷ gave 2 0 (Allgather Int32 1) Plain Public (pos 3 ∷ []) (Barred 0 Public)
    ∷ gave 3 0 (Allgather Int32 1) Plain Public (pos 4 ∷ []) (Posted 0)
    ∷ took 0 0 reply
    ∷ []

-- two on the world and one on a duplicate of it
abbrev pub several_outstanding : Reply → List Entry
several_outstanding reply =
    came 0 0 Dup (Posted 0)
    ∷ came 1 0 Dup (Posted 0)
    ∷ came 2 0 Dup (Posted 0)
    ∷ came 3 0 Dup (Posted 0)
    ∷ came 0 0 Barrier (Posted 1)
    ∷ gave 0 0 (Allgatherv Int32) Plain alpha (pos 1 ∷ []) (Posted 2)
    ∷ gave 0 1 (Reduce 0 Sum Int32 1) Plain alpha (pos 1 ∷ []) (Posted 3)
    ∷ gave 1 1 (Reduce 0 Sum Int32 1) Plain alpha (pos 2 ∷ []) (Posted 1)
    ∷ gave 2 1 (Reduce 0 Sum Int32 1) Plain alpha (pos 3 ∷ []) (Posted 1)
    ∷ gave 3 1 (Reduce 0 Sum Int32 1) Plain alpha (pos 4 ∷ []) (Posted 1)
    ∷ took 0 3 (Delivered (Numbers (pos 10 ∷ []) ∷ []))
    ∷ took 0 1 Pending
    ∷ came 1 0 Barrier (Posted 2)
    ∷ came 2 0 Barrier (Posted 2)
    ∷ came 3 0 Barrier (Posted 2)
    ∷ took 0 1 (Delivered [])
    ∷ took 0 2 Pending
    ∷ gave 1 0 (Allgatherv Int32) Plain alpha (pos 2 ∷ pos 3 ∷ []) (Posted 3)
    ∷ came 2 0 (Allgatherv Int32) (Posted 3)
    ∷ gave 3 0 (Allgatherv Int32) Plain alpha (pos 4 ∷ []) (Posted 3)
    ∷ took 3 3 (Delivered (Numbers (pos 1 ∷ []) ∷ Numbers
    (pos 2 ∷ pos 3 ∷ []) ∷ Numbers [] ∷ Numbers (pos 4 ∷ []) ∷ []))
    ∷ took 1 3 (Delivered (Numbers (pos 1 ∷ []) ∷ Numbers
    (pos 2 ∷ pos 3 ∷ []) ∷ Numbers [] ∷ Numbers (pos 4 ∷ []) ∷ []))
    ∷ took 3 2 (Delivered [])
    ∷ took 0 2 reply
    ∷ []
