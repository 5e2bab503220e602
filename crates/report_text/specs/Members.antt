-- The lines of the members of communicators. (Own format.)
use Rattle.std.specs.Prelude.{ℕ, List, ◌++◌, codes}
use Rattle.std.specs.Fmt.{decimal}
use Rattle.wall_policy.specs.Policy.{ChineseWall}
use Rattle.run_model.specs.Comms.{Comm}
use Rattle.report_text.specs.Words.{process_name, numbered}

abbrev pub rank_text : (c rank : ℕ) → List ℕ
rank_text c rank =
    codes "communicator " ++ decimal c ++ codes ", rank " ++ decimal rank ++ codes ": "

abbrev pub member_line : ChineseWall → (c rank p : ℕ) → List ℕ
member_line wall c rank p = rank_text c rank ++ process_name wall p ++ codes "\n"

-- a line for each member, rank 0 first
abbrev pub member_lines : ChineseWall → (c : ℕ) → (members : List ℕ) → List ℕ
member_lines wall c members = numbered (member_line wall c) 0 members

abbrev pub comm_lines : ChineseWall → (c : ℕ) → Comm → List ℕ
comm_lines wall c comm = member_lines wall c comm.members

-- the members of each communicator, number 0 first
abbrev pub comms_text : ChineseWall → List Comm → List ℕ
comms_text wall comms =
    codes "\nwho is in which communicator:\n" ++ numbered (comm_lines wall) 0 comms
