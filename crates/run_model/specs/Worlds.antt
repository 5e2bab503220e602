-- Two worlds: legal runs whose calls differ in the values of elements alone. What they share, and
-- what a process that does not hold a dataset sees in both. A run has its newest entry first.
-- (Own rule, after noninterference: Goguen and Meseguer 1982.)
use Rattle.std.specs.Prelude.{◌≡◌, ◌≢◌, ◌<◌, ◌⊎◌, ◌==◌, ◌&&◌, ℕ, List, [], ◌∷◌, Bool, true, false}
use Rattle.std.specs.Prelude.{slice_get, Option, Some, None, if◌then◌else◌}
use Rattle.std.specs.List.{AllZip}
use Rattle.wall_labels.specs.declared.ids.TheConstants.{DATASET_LIMIT}
use Rattle.wall_labels.specs.declared.label.Label.TheVariants.{Of}
use Rattle.wall_policy.specs.Policy.{ChineseWall, IsPolicy, HasAtFirst}
use Rattle.wall_policy.specs.Rivals.{AreRivals}
use Rattle.mpi_elems.specs.Contents.{elements}
use Rattle.mpi_group.specs.Groups.{rank_in}
use Rattle.coll_routes.specs.declared.roll.Roll.{Roll}
use Rattle.coll_values.specs.Forms.{form, AreOfOneForm}
use Rattle.wall_verdict.specs.Charges.{sanitised, contributed}
use Rattle.run_model.specs.declared.refusal.Refusal.TheVariants.{NoMemory}
use Rattle.run_model.specs.Posts.{Post, instance, histories, outcome_at}
use Rattle.run_model.specs.Books.{book}
use Rattle.run_model.specs.Holding.{Holds}
use Rattle.run_model.specs.declared.call.Posting.{Posting}
use Rattle.run_model.specs.declared.call.Act.{Act}
use Rattle.run_model.specs.declared.call.Act.TheVariants.{Post as ToPost, Take, Info as ToInfo}
use Rattle.run_model.specs.declared.call.Call.{Call}
use Rattle.run_model.specs.declared.reply.Reply.{Reply}
use Rattle.run_model.specs.declared.reply.Reply.TheVariants.{Delivered, Refused}
use Rattle.run_model.specs.Runs.{Entry, posts, label_in, requests}
use Rattle.run_model.specs.Replies.{comm_at, Legal}

-- ## runs whose calls are equal but for values

-- two postings are equal but for the values of their elements
pub record SamePostingButForValues (a b : Posting) : Type 0 where
  pub comm : a.comm ≡ b.comm
  pub sig : a.sig ≡ b.sig
  pub own : a.own ≡ b.own
  pub label : a.label ≡ b.label
  -- as many elements, of one type
  pub elements : AreOfOneForm a.elements b.elements

abbrev pub SameActButForValues : Act → Act → Type 0
SameActButForValues (ToPost a) (ToPost b) = SamePostingButForValues a b
SameActButForValues (Take r) (Take s) = r ≡ s
SameActButForValues (ToInfo c) (ToInfo d) = c ≡ d
SameActButForValues _ _ = ⊥

pub record SameCallButForValues (a b : Call) : Type 0 where
  pub process : a.process ≡ b.process
  pub act : SameActButForValues a.act b.act

-- the runs are of one length, and their calls are equal but for values, turn by turn
abbrev pub SameCallsButForValues : (run other : List Entry) → Type 0
SameCallsButForValues run other = AllZip (λ e f. SameCallButForValues e.call f.call) run other

-- no call was answered out of memory
abbrev pub NobodyLacksMemory : List Entry → Type 0
NobodyLacksMemory [] = Unit {0}
NobodyLacksMemory (e ∷ run) = NobodyLacksMemory run × (e.reply ≢ Refused NoMemory)

-- two legal runs without out of memory, whose calls are equal but for values
pub record AreTwoWorlds (wall : ChineseWall) (run other : List Entry) : Type 0 where
  pub first : Legal wall run
  pub second : Legal wall other
  pub first_memory : NobodyLacksMemory run
  pub second_memory : NobodyLacksMemory other
  pub calls : SameCallsButForValues run other

-- ## what two worlds share

-- a reply with 0 in the place of each number that it delivers
abbrev pub form_of_reply : Reply → Reply
form_of_reply (Delivered blocks) = Delivered (form blocks)
form_of_reply other = other

-- Two replies are equal but for numbers in deliveries: one delivers as many blocks as the other,
-- Missing at the same places, and as many numbers in each.
abbrev pub SameButForNumbers : Reply → Reply → Type 0
SameButForNumbers a b = form_of_reply a ≡ form_of_reply b

abbrev pub RepliesSameButForNumbers : (run other : List Entry) → Type 0
RepliesSameButForNumbers run other = AllZip (λ e f. SameButForNumbers e.reply f.reply) run other

-- All that the wall goes by is equal: posts, histories, verdicts with the other outcomes of
-- instances, and books.
pub record WallSeesOne (wall : ChineseWall) (run other : List Entry) : Type 0 where
  pub same_posts : posts run ≡ posts other
  pub same_histories : (p d : ℕ) →
      histories wall (posts run) p d ≡ histories wall (posts other) p d
  pub same_outcomes : (c k : ℕ) →
      outcome_at wall c k (posts run) ≡ outcome_at wall c k (posts other)
  pub same_books : book wall (posts run) ≡ book wall (posts other)

-- a relation holds of two runs of one length before the first turn and after each
abbrev pub AtEachTurn : (List Entry → List Entry → Type 0) → (run other : List Entry) → Type 0
AtEachTurn Are [] [] = Are [] []
AtEachTurn Are (e ∷ run) (f ∷ other) = AtEachTurn Are run other × Are (e ∷ run) (f ∷ other)
AtEachTurn Are _ _ = ⊥

-- at each turn the wall sees one, and the replies are equal but for numbers
pub record AreOneToTheWall (wall : ChineseWall) (run other : List Entry) : Type 0 where
  pub turns : AtEachTurn (WallSeesOne wall) run other
  pub replies : RepliesSameButForNumbers run other

-- the wall goes by no value: two worlds are one to it
abbrev pub ValuesDecideNothing : Type 0
ValuesDecideNothing = (wall : ChineseWall) (run other : List Entry) →
    AreTwoWorlds wall run other → AreOneToTheWall wall run other

-- the runs with which two worlds begin are two worlds at each turn
abbrev pub PrefixesOfWorldsAreWorlds : Type 0
PrefixesOfWorldsAreWorlds = (wall : ChineseWall) (run other : List Entry) →
    AreTwoWorlds wall run other → AtEachTurn (AreTwoWorlds wall) run other

-- ## worlds that are alike outside a dataset

abbrev pub SameValues : Act → Act → Type 0
SameValues (ToPost a) (ToPost b) = elements a.elements ≡ elements b.elements
SameValues _ _ = Unit {0}

-- p may write of dataset d: its post is labelled d, or it holds d, directly or through others
abbrev pub MayWriteOf : ChineseWall → List Post → (d p : ℕ) → Act → Type 0
MayWriteOf wall past d p (ToPost posting) =
    (label_in posting ≡ Some (Of d)) ⊎ Holds wall past p d
MayWriteOf wall past d p _ = ⊥

-- values differ only in posts of those who may write of d at their turn in the first run
abbrev pub DifferOnlyIn : ChineseWall → (d : ℕ) → (run other : List Entry) → Type 0
DifferOnlyIn wall d [] [] = Unit {0}
DifferOnlyIn wall d (e ∷ run) (f ∷ other) =
    DifferOnlyIn wall d run other
    × (SameValues e.call.act f.call.act
    ⊎ MayWriteOf wall (posts run) d e.call.process e.call.act)
DifferOnlyIn wall d _ _ = ⊥

-- two worlds that are alike outside d
pub record AreAlikeOutside (wall : ChineseWall) (d : ℕ) (run other : List Entry) : Type 0 where
  pub worlds : AreTwoWorlds wall run other
  pub values : DifferOnlyIn wall d run other

-- ## what a process sees

-- what this rank gets is sanitised, and has a contributor labelled d
abbrev pub is_sanitised_of : ChineseWall → Roll → (rank : Option ℕ) → (d : ℕ) → Bool
is_sanitised_of wall roll (Some j) d = sanitised wall roll j && contributed roll j d
is_sanitised_of wall roll None d = false

-- what p would get of instance (c, k) is sanitised for it, with a contributor labelled d
abbrev pub is_spared_at : ChineseWall → List Post → (d p : ℕ) → Option (ℕ × ℕ) → Bool
is_spared_at wall past d p (Some (c, k)) =
    is_sanitised_of wall (instance (comm_at wall past c) c k past)
    (rank_in (comm_at wall past c).members p) d
is_spared_at wall past d p None = false

-- a delivery to p by this act would be sanitised for it, with a contributor labelled d
abbrev pub is_spared : ChineseWall → List Post → (d p : ℕ) → Act → Bool
is_spared wall past d p (Take request) =
    is_spared_at wall past d p (slice_get (requests p past) request)
is_spared wall past d p _ = false

abbrev pub without_numbers_if : (spared : Bool) → Reply → Reply
without_numbers_if spared reply = if spared then form_of_reply reply else reply

-- What p sees of a run, the newest first: all its replies, each delivery with its numbers but those
-- that are sanitised for p with a contributor labelled d.
abbrev pub what_is_seen : ChineseWall → (d p : ℕ) → List Entry → List Reply
what_is_seen wall d p [] = []
what_is_seen wall d p (e ∷ run) =
    if e.call.process == p
    then without_numbers_if (is_spared wall (posts run) d p e.call.act) e.reply
    ∷ what_is_seen wall d p run
    else what_is_seen wall d p run

-- turn by turn: p gets the same reply in both runs, with the numbers that it delivers, or a
-- delivery that is sanitised for it with a contributor labelled d, and the same but for numbers
abbrev pub LooksTheSameTo : ChineseWall → (d p : ℕ) → (run other : List Entry) → Type 0
LooksTheSameTo wall d p [] [] = Unit {0}
LooksTheSameTo wall d p (e ∷ run) (f ∷ other) =
    LooksTheSameTo wall d p run other
    × (e.call.process ≡ p → (e.reply ≡ f.reply)
    ⊎ ((is_spared wall (posts run) d p e.call.act ≡ true)
    × SameButForNumbers e.reply f.reply))
LooksTheSameTo wall d p _ _ = ⊥

-- p can't tell the runs apart, but for sanitised results: it sees the same of both, and so it does
-- at each turn
pub record CannotTell (wall : ChineseWall) (d p : ℕ) (run other : List Entry) : Type 0 where
  pub turns : LooksTheSameTo wall d p run other
  pub seen : what_is_seen wall d p run ≡ what_is_seen wall d p other

-- Who doesn't hold d after the first of two worlds that are alike outside d can't tell them apart,
-- but for sanitised results.
abbrev pub WhoHoldsNothingLearnsNothing : Type 0
WhoHoldsNothingLearnsNothing = (wall : ChineseWall) (run other : List Entry) (d p : ℕ) →
    d < DATASET_LIMIT → AreAlikeOutside wall d run other → ¬ (Holds wall (posts run) p d) →
    CannotTell wall d p run other

-- ## on the side of who sees

-- no question about what p sees has another answer in a world that is alike outside d
abbrev pub NoQuestionTellsWorldsApart : Type 0
NoQuestionTellsWorldsApart = (wall : ChineseWall) (run other : List Entry) (d p : ℕ)
    (question : List Reply → Bool) →
    d < DATASET_LIMIT → AreAlikeOutside wall d run other → ¬ (Holds wall (posts run) p d) →
    question (what_is_seen wall d p run) ≡ question (what_is_seen wall d p other)

-- who holds a dataset can't tell apart what is alike outside a rival of it
abbrev pub RivalsLearnNothing : Type 0
RivalsLearnNothing = (wall : ChineseWall) (run other : List Entry) (own d p : ℕ) →
    IsPolicy wall → AreRivals wall.classes own d → AreAlikeOutside wall d run other →
    Holds wall (posts run) p own → CannotTell wall d p run other

-- So of two processes that have rivals at first, at home there or held before, neither sees what
-- the other's firm posts.
abbrev pub HomesOfRivalsSeeNothing : Type 0
HomesOfRivalsSeeNothing = (wall : ChineseWall) (run other : List Entry) (own d p q : ℕ) →
    IsPolicy wall → AreRivals wall.classes own d →
    HasAtFirst wall p own → HasAtFirst wall q d →
    (AreAlikeOutside wall d run other → CannotTell wall d p run other)
    × (AreAlikeOutside wall own run other → CannotTell wall own q run other)
