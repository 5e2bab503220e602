-- The rows of the seven tables, in the words of `report_text`. (Own format.)
use Rattle.std.specs.Prelude.{ℕ, List, [], ◌∷◌, ◌++◌, codes, Option, Some, None}
use Rattle.std.specs.List.{flat_map}
use Rattle.wall_policy.specs.Policy.{ChineseWall}
use Rattle.coll_text.specs.Words.{label_word}
use Rattle.run_model.specs.Comms.{Comm}
use Rattle.run_model.specs.declared.outcome.Outcome.{Outcome}
use Rattle.run_model.specs.declared.entry.Entry.{Entry}
use Rattle.run_model.specs.declared.entry.Entry.TheVariants.{Posted, Settled}
use Rattle.book_report.specs.declared.row.Row.{Row}
use Rattle.book_report.specs.declared.sanitised.Sanitised.{Sanitised}
use Rattle.book_report.specs.declared.wait.Wait.{Wait}
use Rattle.book_report.specs.declared.bar.Bar.{Bar}
use Rattle.book_report.specs.declared.denial.Denial.{Denial}
use Rattle.report_text.specs.Words.{process_name, dataset_name, kind_at, numbered}
use Rattle.report_text.specs.Rows.{way_text}
use Rattle.report_text.specs.Instances.{outcome_text}
use Rattle.report_text.specs.Reasons.{reason_text}
use Rattle.report_page.specs.Cells.{cell, number_cell, pair_cell, table}

-- ## who holds what

abbrev pub held_row : ChineseWall → List Entry → Row → List ℕ
held_row wall entries row = codes "<tr>" ++ number_cell row.entry
    ++ cell (process_name wall row.process) ++ cell (dataset_name wall row.dataset)
    ++ cell (way_text wall entries row.process row.dataset row.entry row.way) ++ codes "\n"

abbrev pub rows_table : ChineseWall → List Entry → List Row → List ℕ
rows_table wall entries rows = table (codes "Who holds what, and by which entry")
    (codes "<th>Entry<th>Process<th>Dataset<th>How it came") (flat_map (held_row wall entries) rows)

-- ## who is in which communicator

abbrev pub member_row : ChineseWall → (c rank p : ℕ) → List ℕ
member_row wall c rank p = codes "<tr>" ++ number_cell c ++ number_cell rank
    ++ cell (process_name wall p) ++ codes "\n"

-- a row for each member, rank 0 first
abbrev pub member_rows : ChineseWall → (c : ℕ) → (members : List ℕ) → List ℕ
member_rows wall c members = numbered (member_row wall c) 0 members

abbrev pub comm_rows : ChineseWall → (c : ℕ) → Comm → List ℕ
comm_rows wall c comm = member_rows wall c comm.members

-- the members of each communicator, number 0 first
abbrev pub comms_table : ChineseWall → List Comm → List ℕ
comms_table wall comms = table (codes "Who is in which communicator")
    (codes "<th>Communicator<th>Rank<th>Process") (numbered (comm_rows wall) 0 comms)

-- ## how each instance came out

abbrev pub instance_row : ChineseWall → (kind : List ℕ) → (c k n : ℕ) → Outcome → List ℕ
instance_row wall kind c k n outcome = codes "<tr>" ++ pair_cell c k ++ cell kind
    ++ number_cell n ++ cell (outcome_text wall outcome) ++ codes "\n"

-- the row of an entry that tells an outcome, where n entries stand before it: the last of them
-- filled the instance
abbrev pub entry_row : ChineseWall → List Entry → (n : ℕ) → Entry → List ℕ
entry_row wall entries n (Posted p c stated) = []
entry_row wall entries n (Settled c k outcome) =
    instance_row wall (kind_at entries n) c k n outcome

abbrev pub instances_table : ChineseWall → List Entry → List ℕ
instances_table wall entries = table (codes "How each instance came out")
    (codes "<th>Instance<th>Kind<th>Filled by entry<th>Outcome")
    (numbered (entry_row wall entries) 0 entries)

-- ## whose results were sanitised

abbrev pub sanitised_row : ChineseWall → List Entry → Sanitised → List ℕ
sanitised_row wall entries it = codes "<tr>" ++ pair_cell it.comm it.k
    ++ cell (kind_at entries it.entry) ++ number_cell it.entry
    ++ cell (process_name wall it.process) ++ codes "\n"

abbrev pub sanitised_table : ChineseWall → List Entry → List Sanitised → List ℕ
sanitised_table wall entries those = table (codes "Whose results were sanitised")
    (codes "<th>Instance<th>Kind<th>Filled by entry<th>Process")
    (flat_map (sanitised_row wall entries) those)

-- ## which instances wait, and for whom

abbrev pub posted_cell : Option ℕ → List ℕ
posted_cell (Some n) = number_cell n
posted_cell None = codes "<td>missing"

abbrev pub wait_row : ChineseWall → List Entry → Wait → List ℕ
wait_row wall entries it = codes "<tr>" ++ pair_cell it.comm it.k
    ++ cell (kind_at entries it.begun) ++ cell (process_name wall it.process)
    ++ posted_cell it.posted ++ codes "\n"

-- a row for each member of each instance that waits; no table where none does
abbrev pub waits_table : ChineseWall → List Entry → List Wait → List ℕ
waits_table wall entries [] = []
waits_table wall entries (it ∷ waits) = table (codes "Which instances wait, and for whom")
    (codes "<th>Instance<th>Kind<th>Process<th>Posted by entry")
    (flat_map (wait_row wall entries) (it ∷ waits))

-- ## why posts were barred and instances denied

abbrev pub bar_row : ChineseWall → Bar → List ℕ
bar_row wall bar = codes "<tr>" ++ number_cell bar.entry ++ cell (process_name wall bar.process)
    ++ cell (label_word wall.dataset_names bar.label) ++ cell (dataset_name wall bar.held)
    ++ codes "\n"

abbrev pub bars_table : ChineseWall → List Bar → List ℕ
bars_table wall bars = table (codes "Why posts were barred")
    (codes "<th>Entry<th>Process<th>May not post under<th>Since it holds")
    (flat_map (bar_row wall) bars)

abbrev pub denial_row : ChineseWall → Denial → List ℕ
denial_row wall denial = codes "<tr>" ++ number_cell denial.entry
    ++ pair_cell denial.comm denial.k
    ++ cell (reason_text wall denial.process denial.reason) ++ codes "\n"

abbrev pub denials_table : ChineseWall → List Denial → List ℕ
denials_table wall denials = table (codes "Why instances were denied")
    (codes "<th>Entry<th>Instance<th>Why") (flat_map (denial_row wall) denials)
