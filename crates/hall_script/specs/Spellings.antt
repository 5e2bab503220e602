-- The words of a call. (Own format.)
use Rattle.std.specs.Prelude.{◌≡◌, ℕ, ℤ, ◌≤◌, ◌⊎◌, List, [], ◌∷◌, ◌++◌, length, map, codes, None}
use Rattle.std.specs.List.{join_with_byte}
use Rattle.std.specs.Fmt.{decimal, signed_decimal}
use Rattle.wall_labels.specs.declared.label.Label.{Label}
use Rattle.wall_labels.specs.declared.label.Label.TheVariants.{Public, Of}
use Rattle.wall_policy.specs.Policy.{ChineseWall}
use Rattle.mpi_elems.specs.Elements.{elements_of}
use Rattle.mpi_elems.specs.Contents.{contents}
use Rattle.mpi_elems.specs.Faults.{fault_of}
use Rattle.coll_routes.specs.declared.signature.Signature.{Signature}
use Rattle.coll_routes.specs.declared.statement.Own.{Own}
use Rattle.coll_routes.specs.Signatures.{elem_type}
use Rattle.coll_routes.specs.Faults.{stated_type}
use Rattle.coll_text.specs.Numbers.{Word}
use Rattle.coll_text.specs.Spellings.{statement_words, IsSpellable}
use Rattle.run_model.specs.declared.call.Posting.{Posting}
use Rattle.run_model.specs.declared.call.Act.{Act}
use Rattle.run_model.specs.declared.call.Act.TheVariants.{Post, Take, Info}
use Rattle.run_model.specs.declared.call.Call.{Call}
use Rattle.run_model.specs.Known.{IsKnownLabel}
use Rattle.coll_text.specs.Words.{name_at}

-- what stands behind the statement of a post: nothing where it is public and gives no numbers
abbrev pub given_words : List Word → Label → List ℤ → List Word
given_words datasets Public [] = []
given_words datasets Public (n ∷ ns) = codes "as" ∷ codes "public" ∷ map signed_decimal (n ∷ ns)
given_words datasets (Of d) ns = codes "as" ∷ name_at datasets d ∷ map signed_decimal ns

-- the words of an act of process p
abbrev pub act_words : List Word → (p : ℕ) → Act → List Word
act_words datasets p (Post posting) = (codes "post" ∷ decimal p ∷ decimal posting.comm
    ∷ statement_words posting.sig posting.own)
    ++ given_words datasets posting.label posting.elements.numbers
act_words datasets p (Take request) = codes "take" ∷ decimal p ∷ decimal request ∷ []
act_words datasets p (Info comm) = codes "info" ∷ decimal p ∷ decimal comm ∷ []

abbrev pub call_words : List Word → Call → List Word
call_words datasets call = act_words datasets call.process call.act

-- its line: one space between two words
abbrev pub call_line : List Word → Call → List ℕ
call_line datasets call = join_with_byte 32 (call_words datasets call)

-- a post that says nothing behind its statement
abbrev pub GivesNothing : List Word → Act → Type 0
GivesNothing datasets (Post posting) =
    given_words datasets posting.label posting.elements.numbers ≡ []
GivesNothing datasets (Take request) = ⊥
GivesNothing datasets (Info comm) = ⊥

-- The words; or, where this holds, the words with `as public` behind them, which then say no more.
abbrev pub IsSpelled : (nothing : Type 0) → (words said : List Word) → Type 0
IsSpelled nothing words said =
    (said ≡ words) ⊎ (nothing × (said ≡ words ++ codes "as" ∷ codes "public" ∷ []))

-- the line is its words with one space between two
pub record IsLineOf (datasets : List Word) (call : Call) (line : List ℕ) : Type 0 where
  pub words : List Word
  pub said : IsSpelled (GivesNothing datasets call.act) (call_words datasets call) words
  pub text : line ≡ join_with_byte 32 words

-- A post that a line can say: numbers of 32 bits, a statement with a spelling, a label of the
-- policy, and numbers of the kind's type, whole elements with no more room than they need; nothing
-- where the kind has no type.
pub record IsSayable (wall : ChineseWall) (posting : Posting) : Type 0 where
  pub comm : posting.comm ≤ 4294967295
  pub statement : IsSpellable posting.sig posting.own
  pub label : IsKnownLabel wall posting.label
  pub numbers : fault_of (stated_type posting.sig) posting.elements.numbers ≡ None
  pub elements : posting.elements
      ≡ contents (stated_type posting.sig) posting.elements.numbers
      (length (elements_of (stated_type posting.sig) posting.elements.numbers))
  pub nothing : elem_type posting.sig ≡ None →
      given_words wall.dataset_names posting.label posting.elements.numbers ≡ []

abbrev pub IsSayableAct : ChineseWall → Act → Type 0
IsSayableAct wall (Post posting) = IsSayable wall posting
IsSayableAct wall (Take request) = request ≤ 18446744073709551615
IsSayableAct wall (Info comm) = comm ≤ 4294967295

abbrev pub IsSayableCall : ChineseWall → Call → Type 0
IsSayableCall wall call = (call.process ≤ 4294967295) × IsSayableAct wall call.act

-- ## worked calls

-- p posts these numbers on communicator c, with no more room than they need
abbrev pub call_to_post : (p c : ℕ) → Signature → Own → Label → List ℤ → Call
call_to_post p c sig own label numbers = record {
  process = p;
  act = Post (record {
    comm = c;
    sig = sig;
    own = own;
    label = label;
    elements = contents (stated_type sig) numbers (length (elements_of (stated_type sig) numbers));
  });
}

abbrev pub call_to_ask : (p c : ℕ) → Call
call_to_ask p c = record { process = p; act = Info c }
