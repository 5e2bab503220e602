-- What names only processes and datasets that the policy has. (Own rule: the condition that a
-- caller keeps, and what it gets.)
use Rattle.std.specs.Prelude.{List, [], ◌∷◌, All, Option, Some, None}
use Rattle.wall_labels.specs.declared.label.Label.{Label}
use Rattle.wall_policy.specs.Policy.{ChineseWall}
pub use Rattle.wall_policy.specs.Known.{IsKnownProcess, IsKnownLabel}
use Rattle.run_model.specs.declared.outcome.Outcome.{Outcome}
use Rattle.run_model.specs.declared.outcome.Outcome.TheVariants.{Denied as DeniedBy}
use Rattle.run_model.specs.declared.entry.Entry.{Entry}
use Rattle.run_model.specs.declared.entry.Entry.TheVariants.{Posted as EntryPosted}
use Rattle.run_model.specs.declared.entry.Entry.TheVariants.{Settled as EntrySettled}
use Rattle.run_model.specs.declared.call.Act.{Act}
use Rattle.run_model.specs.declared.call.Act.TheVariants.{Post as ToPost, Take, Info as ToInfo}
use Rattle.run_model.specs.declared.call.Call.{Call}
use Rattle.run_model.specs.declared.reply.Reply.{Reply}
use Rattle.run_model.specs.declared.reply.Reply.TheVariants.{Posted, Barred, Pending, Delivered}
use Rattle.run_model.specs.declared.reply.Reply.TheVariants.{NewComm, NullComm, Denied, NoRoom}
use Rattle.run_model.specs.declared.reply.Reply.TheVariants.{Info, Refused}
use Rattle.run_model.specs.Posts.{Post}

-- the label of a post, which has none where it gives nothing
abbrev pub IsKnownIfAny : ChineseWall → Option Label → Type 0
IsKnownIfAny wall None = Unit {0}
IsKnownIfAny wall (Some label) = IsKnownLabel wall label

-- ## posts, and the entries of a book

abbrev pub PostsHaveKnownLabels : ChineseWall → List Post → Type 0
PostsHaveKnownLabels wall [] = Unit {0}
PostsHaveKnownLabels wall (x ∷ past) =
    PostsHaveKnownLabels wall past × IsKnownIfAny wall x.stated.label

abbrev pub IsKnownOutcome : ChineseWall → Outcome → Type 0
IsKnownOutcome wall (DeniedBy rule process label) =
    IsKnownProcess wall process × IsKnownLabel wall label
IsKnownOutcome wall _ = Unit {0}

abbrev pub IsKnownEntry : ChineseWall → Entry → Type 0
IsKnownEntry wall (EntryPosted process comm stated) =
    IsKnownProcess wall process × IsKnownIfAny wall stated.label
IsKnownEntry wall (EntrySettled comm k outcome) = IsKnownOutcome wall outcome

-- ## calls and replies

-- the label of a posting; the process of a call may be any number, and is judged when the call is
-- made
abbrev pub HasKnownLabel : ChineseWall → Act → Type 0
HasKnownLabel wall (ToPost posting) = IsKnownLabel wall posting.label
HasKnownLabel wall (Take request) = Unit {0}
HasKnownLabel wall (ToInfo comm) = Unit {0}

abbrev pub HaveKnownLabels : ChineseWall → List Call → Type 0
HaveKnownLabels wall calls = All (λ call. HasKnownLabel wall call.act) calls

-- those of the scripts of all processes
abbrev pub ScriptsHaveKnownLabels : ChineseWall → List (List Act) → Type 0
ScriptsHaveKnownLabels wall scripts = All (All (HasKnownLabel wall)) scripts

abbrev pub IsKnownReply : ChineseWall → Reply → Type 0
IsKnownReply wall (Barred request label) = IsKnownLabel wall label
IsKnownReply wall (Denied rule process label) =
    IsKnownProcess wall process × IsKnownLabel wall label
IsKnownReply wall (Posted request) = Unit {0}
IsKnownReply wall Pending = Unit {0}
IsKnownReply wall (Delivered delivery) = Unit {0}
IsKnownReply wall (NewComm comm rank size) = Unit {0}
IsKnownReply wall NullComm = Unit {0}
IsKnownReply wall NoRoom = Unit {0}
IsKnownReply wall (Info size rank dims) = Unit {0}
IsKnownReply wall (Refused refusal) = Unit {0}
