-- Worked lists of calls with their replies.
use Rattle.std.specs.Prelude.{ℕ, List, [], ◌∷◌, ◌++◌, length, Some, None, ℤ, pos, negsuc, reverse}
use Rattle.std.specs.Prelude.{true, false, codes}
use Rattle.wall_labels.specs.declared.op.Op.TheVariants.{Sum, Prod, Land, Maxloc}
use Rattle.wall_labels.specs.declared.label.Label.{Label}
use Rattle.wall_labels.specs.declared.label.Label.TheVariants.{Public, Of}
use Rattle.wall_policy.specs.Policy.{ChineseWall, with_held}
use Rattle.mpi_elems.specs.declared.elem_type.ElemType.TheVariants.{Int8, Int32, Uint8, TwoInt}
use Rattle.mpi_elems.specs.Contents.{contents}
use Rattle.coll_routes.specs.declared.signature.Signature.{Signature}
use Rattle.coll_routes.specs.declared.signature.Signature.TheVariants.{Bcast, Gatherv, Allgather}
use Rattle.coll_routes.specs.declared.signature.Signature.TheVariants.{Reduce, Allreduce}
use Rattle.coll_routes.specs.declared.signature.Signature.TheVariants.{ReduceScatterBlock, Scan}
use Rattle.coll_routes.specs.declared.signature.Signature.TheVariants.{Exscan, NeighborAllgather}
use Rattle.coll_routes.specs.declared.signature.Signature.TheVariants.{NeighborAlltoall}
use Rattle.coll_routes.specs.declared.signature.Signature.TheVariants.{NeighborAlltoallv, Dup}
use Rattle.coll_routes.specs.declared.signature.Signature.TheVariants.{Split, Create, CartCreate}
use Rattle.coll_routes.specs.declared.signature.Signature.TheVariants.{CartSub}
use Rattle.coll_routes.specs.declared.statement.Own.{Own}
use Rattle.coll_routes.specs.declared.statement.Own.TheVariants.{Plain, Counts, Split as SplitBy}
use Rattle.coll_routes.specs.Faults.{stated_type}
use Rattle.coll_values.specs.declared.delivery.Block.TheVariants.{Missing, Numbers}
use Rattle.wall_rules.specs.declared.rule.Rule.TheVariants.{Star, Simple}
use Rattle.run_model.specs.declared.refusal.Refusal.TheVariants.{NoSuchProcess, NoSuchComm}
use Rattle.run_model.specs.declared.refusal.Refusal.TheVariants.{NotMember, NoTopology, BadRoot}
use Rattle.run_model.specs.declared.refusal.Refusal.TheVariants.{BadOp, BadCount, BadColour}
use Rattle.run_model.specs.declared.refusal.Refusal.TheVariants.{NotSubgroup, BadDims, Mismatch}
use Rattle.run_model.specs.declared.refusal.Refusal.TheVariants.{NoSuchRequest, NoMemory}
use Rattle.run_model.specs.Posts.{Post}
use Rattle.run_model.specs.declared.call.Act.{Act}
use Rattle.run_model.specs.declared.call.Act.TheVariants.{Post as ToPost, Take, Info as ToInfo}
use Rattle.run_model.specs.declared.reply.Reply.{Reply}
use Rattle.run_model.specs.declared.reply.Reply.TheVariants.{Posted, Barred, Pending, Delivered}
use Rattle.run_model.specs.declared.reply.Reply.TheVariants.{NewComm, NullComm, Denied, Info}
use Rattle.run_model.specs.declared.reply.Reply.TheVariants.{Refused}
use Rattle.run_model.specs.Runs.{Entry, said, posts}
use Rattle.run_model.specs.Replies.{Legal}

-- the banks alpha and beta, the oil companies crude and delta; a0, b0 and c0 at home at alpha, beta
-- and crude, n0 nowhere; a sum of three contributors or more is sanitised
abbrev pub banks_and_oil : ChineseWall
banks_and_oil = record {
  version = 1;
  class_names = codes "banks" ∷ codes "oil" ∷ [];
  dataset_names = codes "alpha" ∷ codes "beta" ∷ codes "crude" ∷ codes "delta" ∷ [];
  process_names = codes "a0" ∷ codes "b0" ∷ codes "c0" ∷ codes "n0" ∷ [];
  classes = 0 ∷ 0 ∷ 1 ∷ 1 ∷ [];
  homes = Some 0 ∷ Some 1 ∷ Some 2 ∷ None ∷ [];
  leasts = (Sum, 3) ∷ [];
  distincts = (Sum, 1) ∷ [];
  held = [];
}

-- the same after a book in which n0 came to hold alpha, and the others kept to their homes
abbrev pub banks_and_oil_after : ChineseWall
banks_and_oil_after = with_held banks_and_oil ((0, 0) ∷ (1, 1) ∷ (2, 2) ∷ (3, 0) ∷ [])

-- the same in version 2, where a sum takes three different datasets too
abbrev pub banks_and_oil_in_version_2 : ChineseWall
banks_and_oil_in_version_2 = record {
  version = 2;
  class_names = codes "banks" ∷ codes "oil" ∷ [];
  dataset_names = codes "alpha" ∷ codes "beta" ∷ codes "crude" ∷ codes "delta" ∷ [];
  process_names = codes "a0" ∷ codes "b0" ∷ codes "c0" ∷ codes "n0" ∷ [];
  classes = 0 ∷ 0 ∷ 1 ∷ 1 ∷ [];
  homes = Some 0 ∷ Some 1 ∷ Some 2 ∷ None ∷ [];
  leasts = (Sum, 3) ∷ [];
  distincts = (Sum, 3) ∷ [];
  held = [];
}

-- the banks alpha and beta, and four processes at home at alpha
abbrev pub four_of_alpha : ChineseWall
four_of_alpha = record {
  version = 1;
  class_names = codes "banks" ∷ [];
  dataset_names = codes "alpha" ∷ codes "beta" ∷ [];
  process_names = codes "p0" ∷ codes "p1" ∷ codes "p2" ∷ codes "p3" ∷ [];
  classes = 0 ∷ 0 ∷ [];
  homes = Some 0 ∷ Some 0 ∷ Some 0 ∷ Some 0 ∷ [];
  leasts = [];
  distincts = [];
  held = [];
}

-- the same with two processes
abbrev pub two_of_alpha : ChineseWall
two_of_alpha = record {
  version = 1;
  class_names = codes "banks" ∷ [];
  dataset_names = codes "alpha" ∷ codes "beta" ∷ [];
  process_names = codes "p0" ∷ codes "p1" ∷ [];
  classes = 0 ∷ 0 ∷ [];
  homes = Some 0 ∷ Some 0 ∷ [];
  leasts = [];
  distincts = [];
  held = [];
}

abbrev pub alpha : Label
alpha = Of 0

abbrev pub beta : Label
beta = Of 1

abbrev pub crude : Label
crude = Of 2

-- the calls with their replies, in the order in which they were made, are a legal run
abbrev pub LegalList : ChineseWall → List Entry → Type 0
LegalList wall entries = Legal wall (reverse entries)

-- the posts of a list
abbrev pub listed_posts : List Entry → List Post
listed_posts entries = posts (reverse entries)

-- p posts these numbers on communicator c
abbrev pub gave : (p c : ℕ) → Signature → Own → Label → List ℤ → Reply → Entry
gave p c sig own label numbers reply = said p (ToPost (record {
  comm = c;
  sig = sig;
  own = own;
  label = label;
  elements = contents (stated_type sig) numbers (length numbers);
}))
    reply

-- p posts there and gives nothing
abbrev pub stated : (p c : ℕ) → Signature → Own → Reply → Entry
stated p c sig own reply = gave p c sig own Public [] reply

abbrev pub came : (p c : ℕ) → Signature → Reply → Entry
came p c sig reply = stated p c sig Plain reply

-- p takes its request of this number
abbrev pub took : (p request : ℕ) → Reply → Entry
took p request reply = said p (Take request) reply

-- p asks about communicator c
abbrev pub asked : (p c : ℕ) → Reply → Entry
asked p c reply = said p (ToInfo c) reply

-- processes 0 to 3 do the same, each with its request of this number
abbrev pub all_came : (c : ℕ) → Signature → (request : ℕ) → List Entry
all_came c sig request = came 0 c sig (Posted request) ∷ came 1 c sig (Posted request)
    ∷ came 2 c sig (Posted request) ∷ came 3 c sig (Posted request) ∷ []

abbrev pub all_but_first_came : (c : ℕ) → Signature → (request : ℕ) → List Entry
all_but_first_came c sig request = came 1 c sig (Posted request) ∷ came 2 c sig (Posted request)
    ∷ came 3 c sig (Posted request) ∷ []

abbrev pub all_took : (request : ℕ) → Reply → List Entry
all_took request reply =
    took 0 request reply ∷ took 1 request reply ∷ took 2 request reply ∷ took 3 request reply ∷ []

-- a0 broadcasts alpha's numbers, which b0 may not get: nobody gets them, and n0, which it would
-- have been charged to, may still post as `public`
abbrev pub denied_broadcast : List Entry
denied_broadcast =
    gave 0 0 (Bcast 0 Int32 2) Plain alpha (pos 7 ∷ negsuc 0 ∷ []) (Posted 0)
    ∷ came 1 0 (Bcast 0 Int32 2) (Posted 0)
    ∷ came 2 0 (Bcast 0 Int32 2) (Posted 0)
    ∷ took 0 0 Pending
    ∷ came 3 0 (Bcast 0 Int32 2) (Posted 0)
    ∷ all_took 0 (Denied Simple 1 alpha)
    ++ gave 3 0 (Bcast 3 Int32 1) Plain Public (pos 2 ∷ []) (Posted 1)
    ∷ []

-- a0, which is at home at alpha, may not write under the label `public`: its post is barred,
-- counts, and denies the gather
abbrev pub barred_gather : List Entry
barred_gather =
    gave 0 0 (Gatherv 3 Int32) Plain Public (pos 1 ∷ []) (Barred 0 Public)
    ∷ came 1 0 (Gatherv 3 Int32) (Posted 0)
    ∷ came 2 0 (Gatherv 3 Int32) (Posted 0)
    ∷ came 3 0 (Gatherv 3 Int32) (Posted 0)
    ∷ all_took 0 (Denied Star 0 Public)

-- n0 gets alpha's number from a0, among the two of them. It may not pass it on as `public`, and as
-- alpha's it reaches c0, but not alpha's rival b0.
abbrev pub relayed : ℤ → List Entry
relayed number =
    all_came 0 (Create (0 ∷ 3 ∷ [])) 0
    ++ all_came 0 (Create (1 ∷ 3 ∷ [])) 1
    ++ all_came 0 (Create (2 ∷ 3 ∷ [])) 2
    ++ gave 0 1 (Bcast 0 Int32 1) Plain alpha (number ∷ []) (Posted 3)
    ∷ came 3 1 (Bcast 0 Int32 1) (Posted 3)
    ∷ took 3 3 (Delivered (Numbers (number ∷ []) ∷ []))
    ∷ took 0 3 (Delivered [])
    ∷ gave 3 2 (Bcast 1 Int32 1) Plain Public (number ∷ []) (Barred 4 Public)
    ∷ came 1 2 (Bcast 1 Int32 1) (Posted 3)
    ∷ took 1 3 (Denied Star 3 Public)
    ∷ gave 3 2 (Bcast 1 Int32 1) Plain alpha (number ∷ []) (Posted 5)
    ∷ came 1 2 (Bcast 1 Int32 1) (Posted 4)
    ∷ took 1 4 (Denied Simple 1 alpha)
    ∷ took 3 5 (Denied Simple 1 alpha)
    ∷ gave 3 3 (Bcast 1 Int32 1) Plain alpha (number ∷ []) (Posted 6)
    ∷ came 2 3 (Bcast 1 Int32 1) (Posted 3)
    ∷ took 2 3 (Delivered (Numbers (number ∷ []) ∷ []))
    ∷ []

abbrev pub relayed_broadcast : List Entry
relayed_broadcast = relayed (pos 7)

-- all would get from all, and two of the labels are rivals: the lowest receiver is named, with the
-- first label that it may not get
abbrev pub four_rivals : List Entry
four_rivals =
    gave 0 0 (Allgather Int32 1) Plain alpha (pos 1 ∷ []) (Posted 0)
    ∷ gave 1 0 (Allgather Int32 1) Plain beta (pos 2 ∷ []) (Posted 0)
    ∷ gave 2 0 (Allgather Int32 1) Plain crude (pos 3 ∷ []) (Posted 0)
    ∷ gave 3 0 (Allgather Int32 1) Plain Public (pos 4 ∷ []) (Posted 0)
    ∷ all_took 0 (Denied Simple 0 beta)

-- a sum of three contributors, of three datasets, is sanitised: all get it, and it is charged to
-- nobody; with these numbers of a0 and of c0
abbrev pub summed : (first third total : ℤ) → List Entry
summed first third total =
    gave 0 0 (Allreduce Sum Int32 1) Plain alpha (first ∷ []) (Posted 0)
    ∷ gave 1 0 (Allreduce Sum Int32 1) Plain beta (pos 6 ∷ []) (Posted 0)
    ∷ gave 2 0 (Allreduce Sum Int32 1) Plain crude (third ∷ []) (Posted 0)
    ∷ gave 3 0 (Allreduce Sum Int32 1) Plain Public (pos 1 ∷ []) (Posted 0)
    ∷ all_took 0 (Delivered (Numbers (total ∷ []) ∷ []))
    ++ gave 3 0 (Bcast 3 Int32 1) Plain Public (pos 2 ∷ []) (Posted 1)
    ∷ []

abbrev pub sanitised_sum : List Entry
sanitised_sum = summed (pos 5) (pos 7) (pos 19)

-- all make five groups, communicators 1 to 5: a0, c0 and n0; a0, b0 and n0; n0 with each of a0, b0
-- and c0
abbrev pub five_groups : List Entry
five_groups =
    all_came 0 (Create (0 ∷ 2 ∷ 3 ∷ [])) 0
    ++ all_came 0 (Create (0 ∷ 1 ∷ 3 ∷ [])) 1
    ++ all_came 0 (Create (0 ∷ 3 ∷ [])) 2
    ++ all_came 0 (Create (1 ∷ 3 ∷ [])) 3
    ++ all_came 0 (Create (2 ∷ 3 ∷ [])) 4

-- two rivals broadcast a number each to n0: it gets a0's, and may then not have b0's
abbrev pub two_offers : ℤ → List Entry
two_offers number =
    five_groups
    ++ gave 0 3 (Bcast 0 Int32 1) Plain alpha (number ∷ []) (Posted 5)
    ∷ gave 1 4 (Bcast 0 Int32 1) Plain beta (pos 20 ∷ []) (Posted 5)
    ∷ came 3 3 (Bcast 0 Int32 1) (Posted 5)
    ∷ came 3 4 (Bcast 0 Int32 1) (Posted 6)
    ∷ took 3 5 (Delivered (Numbers (number ∷ []) ∷ []))
    ∷ took 3 6 (Denied Simple 3 beta)
    ∷ took 1 5 (Denied Simple 3 beta)
    ∷ took 0 5 (Delivered [])
    ∷ []

-- c0 gets a0's numbers: it may then not write of its own firm, and its post with this number is
-- barred
abbrev pub barred_allgather : ℤ → List Entry
barred_allgather number =
    five_groups
    ++ gave 0 1 (Bcast 0 Int32 2) Plain alpha (pos 7 ∷ negsuc 0 ∷ []) (Posted 5)
    ∷ came 2 1 (Bcast 0 Int32 2) (Posted 5)
    ∷ came 3 1 (Bcast 0 Int32 2) (Posted 5)
    ∷ took 0 5 (Delivered [])
    ∷ took 2 5 (Delivered (Numbers (pos 7 ∷ negsuc 0 ∷ []) ∷ []))
    ∷ took 3 5 (Delivered (Numbers (pos 7 ∷ negsuc 0 ∷ []) ∷ []))
    ∷ gave 2 1 (Allgather Int32 1) Plain crude (number ∷ []) (Barred 6 crude)
    ∷ gave 0 1 (Allgather Int32 1) Plain alpha (pos 5 ∷ []) (Posted 6)
    ∷ gave 3 1 (Allgather Int32 1) Plain alpha (pos 6 ∷ []) (Posted 6)
    ∷ took 0 6 (Denied Star 2 crude)
    ∷ took 2 6 (Denied Star 2 crude)
    ∷ took 3 6 (Denied Star 2 crude)
    ∷ []

-- the second asks for no communicator; the others' are numbered by colour
abbrev pub split_by_colours : List Entry
split_by_colours =
    stated 0 0 Split (SplitBy (Some (pos 2)) (pos 0)) (Posted 0)
    ∷ stated 1 0 Split (SplitBy None (pos 0)) (Posted 0)
    ∷ stated 2 0 Split (SplitBy (Some (pos 0)) (pos 5)) (Posted 0)
    ∷ stated 3 0 Split (SplitBy (Some (pos 2)) (pos 0)) (Posted 0)
    ∷ took 0 0 (NewComm 2 0 2)
    ∷ took 1 0 NullComm
    ∷ took 2 0 (NewComm 1 0 1)
    ∷ took 3 0 (NewComm 2 1 2)
    ∷ []

-- two by two, periodic in the first dimension alone: a neighbour that is missing keeps its slot
abbrev pub neighbours_of_a_grid : List Entry
neighbours_of_a_grid = all_came 0 (CartCreate (2 ∷ 2 ∷ []) (true ∷ false ∷ [])) 0
    ++ gave 0 1 (NeighborAllgather Int32 1) Plain alpha (pos 10 ∷ []) (Posted 1)
    ∷ gave 1 1 (NeighborAllgather Int32 1) Plain alpha (pos 11 ∷ []) (Posted 1)
    ∷ gave 2 1 (NeighborAllgather Int32 1) Plain alpha (pos 12 ∷ []) (Posted 1)
    ∷ gave 3 1 (NeighborAllgather Int32 1) Plain alpha (pos 13 ∷ []) (Posted 1)
    ∷ took 0 1 (Delivered
    (Numbers (pos 12 ∷ []) ∷ Numbers (pos 12 ∷ []) ∷ Missing ∷ Numbers (pos 11 ∷ []) ∷ []))
    ∷ took 1 1 (Delivered
    (Numbers (pos 13 ∷ []) ∷ Numbers (pos 13 ∷ []) ∷ Numbers (pos 10 ∷ []) ∷ Missing ∷ []))
    ∷ took 2 1 (Delivered
    (Numbers (pos 10 ∷ []) ∷ Numbers (pos 10 ∷ []) ∷ Missing ∷ Numbers (pos 13 ∷ []) ∷ []))
    ∷ took 3 1 (Delivered
    (Numbers (pos 11 ∷ []) ∷ Numbers (pos 11 ∷ []) ∷ Numbers (pos 12 ∷ []) ∷ Missing ∷ []))
    ∷ []

-- a duplicate has the grid too, and is cut into its rows
abbrev pub parts_of_a_grid : List Entry
parts_of_a_grid =
    all_came 0 (CartCreate (2 ∷ 2 ∷ []) (true ∷ false ∷ [])) 0
    ++ all_came 1 Dup 1
    ++ asked 3 2 (Info 4 3 (Some 2))
    ∷ all_came 2 (CartSub (false ∷ true ∷ [])) 2
    ++ took 0 2 (NewComm 3 0 2)
    ∷ took 1 2 (NewComm 3 1 2)
    ∷ took 2 2 (NewComm 4 0 2)
    ∷ took 3 2 (NewComm 4 1 2)
    ∷ took 3 1 (NewComm 2 3 4)
    ∷ asked 3 4 (Info 2 1 (Some 1))
    ∷ asked 1 0 (Info 4 1 None)
    ∷ asked 0 4 (Refused NotMember)
    ∷ asked 0 9 (Refused NoSuchComm)
    ∷ asked 4 0 (Refused NoSuchProcess)
    ∷ []

-- each is refused for the first reason that holds, and makes nothing: what was begun goes on
abbrev pub refused_calls : List Entry
refused_calls = gave 0 0 (Allgather Int32 1) Plain alpha (pos 5 ∷ []) (Posted 0)
    ∷ gave 1 0 (Allgather Int32 2) Plain alpha (pos 6 ∷ pos 7 ∷ []) (Refused Mismatch)
    ∷ gave 1 0 (Allgather Int32 1) Plain alpha (pos 6 ∷ pos 7 ∷ []) (Refused BadCount)
    ∷ came 4 9 (Bcast 4 Int32 0) (Refused NoSuchProcess)
    ∷ came 0 9 (Bcast 4 Int32 0) (Refused NoSuchComm)
    ∷ gave 1 0 (NeighborAllgather Int32 1) Plain alpha (pos 6 ∷ []) (Refused NoTopology)
    ∷ gave 1 0 (Reduce 4 Maxloc Int32 2) Plain alpha (pos 6 ∷ []) (Refused BadRoot)
    ∷ gave 1 0 (Reduce 3 Maxloc Int32 2) Plain alpha (pos 6 ∷ []) (Refused BadOp)
    ∷ stated 1 0 Split (SplitBy (Some (negsuc 0)) (pos 0)) (Refused BadColour)
    ∷ came 1 0 (Create (0 ∷ 0 ∷ [])) (Refused NotSubgroup)
    ∷ came 1 0 (CartCreate (5 ∷ []) (false ∷ [])) (Refused BadDims)
    ∷ gave 1 0 (Allgather Int32 1) Plain alpha (pos 6 ∷ []) (Posted 0)
    ∷ gave 2 0 (Allgather Int32 1) Plain alpha (pos 7 ∷ []) (Posted 0)
    ∷ took 0 1 (Refused NoSuchRequest) ∷ took 0 0 Pending
    ∷ gave 3 0 (Allgather Int32 1) Plain alpha (pos 8 ∷ []) (Posted 0)
    ∷ took 0 0 (Delivered (Numbers (pos 5 ∷ []) ∷ Numbers (pos 6 ∷ []) ∷ Numbers (pos 7 ∷ [])
    ∷ Numbers (pos 8 ∷ []) ∷ [])) ∷ took 0 0 (Refused NoSuchRequest)
    ∷ took 4 0 (Refused NoSuchRequest) ∷ []

-- sums and products wrap at the type's width, and truth is 0 or 1
abbrev pub wrapped_reductions : List Entry
wrapped_reductions = gave 0 0 (Allreduce Sum Int8 1) Plain alpha (pos 127 ∷ []) (Posted 0)
    ∷ gave 1 0 (Allreduce Sum Int8 1) Plain alpha (pos 1 ∷ []) (Posted 0)
    ∷ gave 2 0 (Allreduce Sum Int8 1) Plain alpha (pos 0 ∷ []) (Posted 0)
    ∷ gave 3 0 (Allreduce Sum Int8 1) Plain alpha (pos 0 ∷ []) (Posted 0)
    ∷ all_took 0 (Delivered (Numbers (negsuc 127 ∷ []) ∷ []))
    ++ gave 0 0 (ReduceScatterBlock Prod Uint8 1) Plain alpha
    (pos 16 ∷ pos 2 ∷ pos 255 ∷ pos 1 ∷ []) (Posted 1)
    ∷ gave 1 0 (ReduceScatterBlock Prod Uint8 1) Plain alpha
    (pos 16 ∷ pos 3 ∷ pos 255 ∷ pos 0 ∷ []) (Posted 1)
    ∷ gave 2 0 (ReduceScatterBlock Prod Uint8 1) Plain alpha (pos 1 ∷ pos 5 ∷ pos 1 ∷ pos 7 ∷ [])
    (Posted 1)
    ∷ gave 3 0 (ReduceScatterBlock Prod Uint8 1) Plain alpha (pos 1 ∷ pos 7 ∷ pos 1 ∷ pos 9 ∷ [])
    (Posted 1) ∷ took 0 1 (Delivered (Numbers (pos 0 ∷ []) ∷ []))
    ∷ took 1 1 (Delivered (Numbers (pos 210 ∷ []) ∷ []))
    ∷ took 2 1 (Delivered (Numbers (pos 1 ∷ []) ∷ []))
    ∷ took 3 1 (Delivered (Numbers (pos 0 ∷ []) ∷ []))
    ∷ gave 0 0 (Scan Land Int32 1) Plain alpha (pos 5 ∷ []) (Posted 2)
    ∷ gave 1 0 (Scan Land Int32 1) Plain alpha (pos 3 ∷ []) (Posted 2)
    ∷ gave 2 0 (Scan Land Int32 1) Plain alpha (pos 0 ∷ []) (Posted 2)
    ∷ gave 3 0 (Scan Land Int32 1) Plain alpha (pos 2 ∷ []) (Posted 2)
    ∷ took 0 2 (Delivered (Numbers (pos 5 ∷ []) ∷ []))
    ∷ took 1 2 (Delivered (Numbers (pos 1 ∷ []) ∷ []))
    ∷ took 2 2 (Delivered (Numbers (pos 0 ∷ []) ∷ []))
    ∷ took 3 2 (Delivered (Numbers (pos 0 ∷ []) ∷ [])) ∷ []

-- a post and a take that find no memory count nowhere, and may be made again
abbrev pub short_of_memory : List Entry
short_of_memory =
    gave 0 0 (Bcast 0 Int32 1) Plain alpha (pos 5 ∷ []) (Refused NoMemory)
    ∷ gave 0 0 (Bcast 0 Int32 1) Plain alpha (pos 5 ∷ []) (Posted 0)
    ∷ came 1 0 (Bcast 0 Int32 1) (Posted 0)
    ∷ came 2 0 (Bcast 0 Int32 1) (Posted 0)
    ∷ came 3 0 (Bcast 0 Int32 1) (Posted 0)
    ∷ took 1 0 (Refused NoMemory)
    ∷ took 1 0 (Delivered (Numbers (pos 5 ∷ []) ∷ []))
    ∷ took 1 0 (Refused NoSuchRequest)
    ∷ []

-- what goes to the positive neighbour arrives in its negative slot, also where both neighbours are
-- one, or oneself
abbrev pub neighbours_of_oneself : List Entry
neighbours_of_oneself = all_came 0 (CartCreate (1 ∷ []) (true ∷ [])) 0
    ++ gave 0 1 (NeighborAlltoall Int32 1) Plain alpha (pos 1 ∷ pos 2 ∷ []) (Posted 1)
    ∷ took 0 1 (Delivered (Numbers (pos 2 ∷ []) ∷ Numbers (pos 1 ∷ []) ∷ []))
    ∷ came 0 0 (CartCreate (2 ∷ []) (true ∷ [])) (Posted 2)
    ∷ came 1 0 (CartCreate (2 ∷ []) (true ∷ [])) (Posted 1)
    ∷ came 2 0 (CartCreate (2 ∷ []) (true ∷ [])) (Posted 1)
    ∷ came 3 0 (CartCreate (2 ∷ []) (true ∷ [])) (Posted 1)
    ∷ gave 0 2 (NeighborAlltoall Int32 1) Plain alpha (pos 1 ∷ pos 2 ∷ []) (Posted 3)
    ∷ gave 1 2 (NeighborAlltoall Int32 1) Plain alpha (pos 3 ∷ pos 4 ∷ []) (Posted 2)
    ∷ took 0 3 (Delivered (Numbers (pos 4 ∷ []) ∷ Numbers (pos 3 ∷ []) ∷ []))
    ∷ took 1 2 (Delivered (Numbers (pos 2 ∷ []) ∷ Numbers (pos 1 ∷ []) ∷ []))
    ∷ came 0 0 (CartCreate (2 ∷ []) (false ∷ [])) (Posted 4)
    ∷ came 1 0 (CartCreate (2 ∷ []) (false ∷ [])) (Posted 3)
    ∷ came 2 0 (CartCreate (2 ∷ []) (false ∷ [])) (Posted 2)
    ∷ came 3 0 (CartCreate (2 ∷ []) (false ∷ [])) (Posted 2)
    ∷ gave 0 3 (NeighborAlltoallv Int32) (Counts (1 ∷ 2 ∷ [])) alpha (pos 1 ∷ pos 2 ∷ pos 3 ∷ [])
    (Posted 5)
    ∷ gave 1 3 (NeighborAlltoallv Int32) (Counts (1 ∷ 0 ∷ [])) alpha (pos 4 ∷ []) (Posted 4)
    ∷ took 0 5 (Delivered (Missing ∷ Numbers (pos 4 ∷ []) ∷ []))
    ∷ took 1 4 (Delivered (Numbers (pos 2 ∷ pos 3 ∷ []) ∷ Missing ∷ [])) ∷ []

-- of equal values the one of the lower index wins, and nothing comes before the first rank
abbrev pub ties_and_prefixes : List Entry
ties_and_prefixes =
    gave 0 0 (Allreduce Maxloc TwoInt 1) Plain alpha (pos 5 ∷ pos 2 ∷ []) (Posted 0)
    ∷ gave 1 0 (Allreduce Maxloc TwoInt 1) Plain alpha (pos 5 ∷ pos 1 ∷ []) (Posted 0)
    ∷ gave 2 0 (Allreduce Maxloc TwoInt 1) Plain alpha (pos 4 ∷ pos 0 ∷ []) (Posted 0)
    ∷ gave 3 0 (Allreduce Maxloc TwoInt 1) Plain alpha (pos 5 ∷ pos 3 ∷ []) (Posted 0)
    ∷ all_took 0 (Delivered (Numbers (pos 5 ∷ pos 1 ∷ []) ∷ []))
    ++ gave 0 0 (Exscan Sum Int32 1) Plain alpha (pos 1 ∷ []) (Posted 1)
    ∷ gave 1 0 (Exscan Sum Int32 1) Plain alpha (pos 2 ∷ []) (Posted 1)
    ∷ gave 2 0 (Exscan Sum Int32 1) Plain alpha (pos 3 ∷ []) (Posted 1)
    ∷ gave 3 0 (Exscan Sum Int32 1) Plain alpha (pos 4 ∷ []) (Posted 1)
    ∷ took 0 1 (Delivered [])
    ∷ took 1 1 (Delivered (Numbers (pos 1 ∷ []) ∷ []))
    ∷ took 2 1 (Delivered (Numbers (pos 3 ∷ []) ∷ []))
    ∷ took 3 1 (Delivered (Numbers (pos 6 ∷ []) ∷ []))
    ∷ []

-- the broadcast that is denied, and what c0, which could have had the numbers, is told of it
abbrev pub told_of_denial : (told : Reply) → List Entry
told_of_denial told =
    gave 0 0 (Bcast 0 Int32 2) Plain alpha (pos 7 ∷ negsuc 0 ∷ []) (Posted 0)
    ∷ all_but_first_came 0 (Bcast 0 Int32 2) 0
    ++ took 2 0 told
    ∷ []

-- a gather of rivals at n0, which is denied, and what n0 is told of its next post, which is public
abbrev pub posted_after_denial : (told : Reply) → List Entry
posted_after_denial told =
    gave 0 0 (Gatherv 3 Int32) Plain alpha (pos 1 ∷ []) (Posted 0)
    ∷ gave 1 0 (Gatherv 3 Int32) Plain beta (pos 2 ∷ []) (Posted 0)
    ∷ came 2 0 (Gatherv 3 Int32) (Posted 0)
    ∷ came 3 0 (Gatherv 3 Int32) (Posted 0)
    ∷ all_took 0 (Denied Simple 3 beta)
    ++ gave 3 0 (Bcast 3 Int32 1) Plain Public (pos 4 ∷ []) told
    ∷ []
