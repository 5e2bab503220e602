-- The line of each reply. (Own format.)
use Rattle.std.specs.Prelude.{ℕ, ℤ, List, [], ◌∷◌, ◌++◌, codes, Option, Some, None}
use Rattle.std.specs.List.{flat_map}
use Rattle.std.specs.Fmt.{decimal, signed_decimal}
use Rattle.wall_policy.specs.Policy.{ChineseWall}
use Rattle.coll_values.specs.declared.delivery.Block.{Block}
use Rattle.coll_values.specs.declared.delivery.Block.TheVariants.{Missing, Numbers}
use Rattle.wall_rules.specs.declared.rule.Rule.{Rule}
use Rattle.run_model.specs.declared.refusal.Refusal.{Refusal}
use Rattle.run_model.specs.declared.refusal.Refusal.TheVariants.{NoSuchProcess, NoSuchComm}
use Rattle.run_model.specs.declared.refusal.Refusal.TheVariants.{NotMember, NoTopology, BadRoot}
use Rattle.run_model.specs.declared.refusal.Refusal.TheVariants.{BadOp, BadCount, BadColour}
use Rattle.run_model.specs.declared.refusal.Refusal.TheVariants.{NotSubgroup, BadDims, Mismatch}
use Rattle.run_model.specs.declared.refusal.Refusal.TheVariants.{TooManyRequests, NoMemory}
use Rattle.run_model.specs.declared.refusal.Refusal.TheVariants.{NoSuchRequest}
use Rattle.run_model.specs.declared.reply.Reply.{Reply}
use Rattle.run_model.specs.declared.reply.Reply.TheVariants.{Posted, Barred, Pending, Delivered}
use Rattle.run_model.specs.declared.reply.Reply.TheVariants.{NewComm, NullComm, Denied, NoRoom}
use Rattle.run_model.specs.declared.reply.Reply.TheVariants.{Info, Refused}
use Rattle.coll_text.specs.Numbers.{Word}
use Rattle.coll_text.specs.Words.{name_at, label_word, rule_word}
use Rattle.coll_text.specs.Writing.{spaced_numbers}

abbrev pub numbers_text : List ℤ → List ℕ
numbers_text [] = codes "[]"
numbers_text (n ∷ ns) = codes "[" ++ signed_decimal n ++ spaced_numbers ns ++ codes "]"

abbrev pub block_text : Block → List ℕ
block_text Missing = codes "-"
block_text (Numbers ns) = numbers_text ns

-- each block behind a space
abbrev pub blocks_text : List Block → List ℕ
blocks_text bs = flat_map (λ b. 32 ∷ block_text b) bs

abbrev pub delivery_text : List Block → List ℕ
delivery_text [] = codes "delivered none"
delivery_text (b ∷ bs) = codes "delivered" ++ blocks_text (b ∷ bs)

abbrev pub denial_text : Rule → Word → Word → List ℕ
denial_text rule process label =
    codes "denied " ++ rule_word rule ++ codes " " ++ process ++ codes " " ++ label

abbrev pub info_text : ℕ → ℕ → Option ℕ → List ℕ
info_text size rank None = codes "info size " ++ decimal size ++ codes " rank " ++ decimal rank
info_text size rank (Some dims) = codes "info size " ++ decimal size ++ codes " rank "
    ++ decimal rank ++ codes " dims " ++ decimal dims

abbrev pub refusal_name : Refusal → Word
refusal_name NoSuchProcess = codes "NoSuchProcess"
refusal_name NoSuchComm = codes "NoSuchComm"
refusal_name NotMember = codes "NotMember"
refusal_name NoTopology = codes "NoTopology"
refusal_name BadRoot = codes "BadRoot"
refusal_name BadOp = codes "BadOp"
refusal_name BadCount = codes "BadCount"
refusal_name BadColour = codes "BadColour"
refusal_name NotSubgroup = codes "NotSubgroup"
refusal_name BadDims = codes "BadDims"
refusal_name Mismatch = codes "Mismatch"
refusal_name TooManyRequests = codes "TooManyRequests"
refusal_name NoMemory = codes "NoMemory"
refusal_name NoSuchRequest = codes "NoSuchRequest"

unfoldable pub reply_text : ChineseWall → Reply → List ℕ
reply_text wall (Posted request) = codes "posted " ++ decimal request
reply_text wall (Barred request label) =
    codes "barred " ++ decimal request ++ codes " " ++ label_word wall.dataset_names label
reply_text wall Pending = codes "pending"
reply_text wall (Delivered blocks) = delivery_text blocks
reply_text wall (NewComm comm rank size) = codes "comm " ++ decimal comm ++ codes " rank "
    ++ decimal rank ++ codes " size " ++ decimal size
reply_text wall NullComm = codes "null"
reply_text wall (Denied rule process label) =
    denial_text rule (name_at wall.process_names process) (label_word wall.dataset_names label)
reply_text wall NoRoom = codes "noroom"
reply_text wall (Info size rank dims) = info_text size rank dims
reply_text wall (Refused refusal) = codes "refused " ++ refusal_name refusal

-- with the end of the line
abbrev pub reply_line : ChineseWall → Reply → List ℕ
reply_line wall reply = reply_text wall reply ++ codes "\n"
