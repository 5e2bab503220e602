-- The words of a kind with its fields. (Own format.)
use Rattle.std.specs.Prelude.{◌≡◌, ℕ, ◌≤◌, nat_lt, ℤ, Bool, true, false, List, [], ◌∷◌, map, codes}
use Rattle.std.specs.Prelude.{Option, Some, None, IfSome}
use Rattle.std.specs.List.{join_with_byte, list_all, AllByRecursion}
use Rattle.std.specs.Fmt.{decimal, signed_decimal}
use Rattle.wall_labels.specs.Ops.{op_name}
use Rattle.mpi_elems.specs.Types.{type_name}
use Rattle.coll_routes.specs.Kinds.{kind_name}
use Rattle.coll_routes.specs.Signatures.{kind}
use Rattle.coll_routes.specs.declared.signature.Signature.{Signature}
use Rattle.coll_routes.specs.declared.statement.Own.{Own}
use Rattle.coll_text.specs.declared.table.Form.{Form}
use Rattle.coll_text.specs.declared.table.Form.TheVariants.{Root, Operation, Typed, Count, Counts}
use Rattle.coll_text.specs.declared.table.Form.TheVariants.{Listed, Flagged, Colour, Key}
use Rattle.coll_text.specs.Table.{Fields}
use Rattle.coll_text.specs.Numbers.{Word, IsBetween}
use Rattle.coll_text.specs.Table.{forms_of, fields_of}
use Rattle.coll_routes.specs.Owns.{is_own_of}

-- `-` for none, or words between commas
abbrev pub list_word : {A : Type 0} → (A → Word) → List A → Word
list_word f [] = codes "-"
list_word f (x ∷ xs) = join_with_byte 44 (map f (x ∷ xs))

abbrev pub flag_word : Bool → Word
flag_word false = codes "0"
flag_word true = codes "1"

abbrev pub colour_word : Option ℤ → Word
colour_word None = codes "undefined"
colour_word (Some z) = signed_decimal z

unfoldable pub word_of : Form → Fields → Word
word_of Root f = decimal f.root
word_of Operation f = op_name f.op
word_of Typed f = type_name f.elem_type
word_of Count f = decimal f.count
word_of Counts f = list_word decimal f.counts
word_of Listed f = list_word decimal f.list
word_of Flagged f = list_word flag_word f.flags
word_of Colour f = colour_word f.colour
word_of Key f = signed_decimal f.key

abbrev pub words_of : List Form → Fields → List Word
words_of forms f = map (λ form. word_of form f) forms

-- the words of a statement: its kind's, and one for each field of the kind
unfoldable pub statement_words : Signature → Own → List Word
statement_words sig own = kind_name (kind sig) ∷ words_of (forms_of (kind sig)) (fields_of sig own)

-- with one space between two words
abbrev pub statement_text : Signature → Own → List ℕ
statement_text sig own = join_with_byte 32 (statement_words sig own)

abbrev pub IsSigned32 : ℤ → Type 0
IsSigned32 z = IsBetween 2147483647 2147483648 z

abbrev pub AreUnsigned32 : List ℕ → Type 0
AreUnsigned32 ns = AllByRecursion (λ n. n ≤ 4294967295) ns

-- what has a spelling: numbers of 32 bits
pub record Fits (f : Fields) : Type 0 where
  pub root : f.root ≤ 4294967295
  pub count : f.count ≤ 4294967295
  pub counts : AreUnsigned32 f.counts
  pub list : AreUnsigned32 f.list
  pub colour : IfSome f.colour IsSigned32
  pub key : IsSigned32 f.key

-- a statement that has a spelling of its own: numbers of 32 bits, and of the poster alone what the
-- kind asks
pub record IsSpellable (sig : Signature) (own : Own) : Type 0 where
  pub numbers : Fits (fields_of sig own)
  pub form : is_own_of (kind sig) own ≡ true

-- no space in the word, and no byte below
abbrev pub is_solid : Word → Bool
is_solid word = list_all (λ b. nat_lt 32 b) word

-- the second's fields, and that of this form as the first has it
abbrev pub put : Form → Fields → Fields → Fields
put Root f g = record g { root = f.root }
put Operation f g = record g { op = f.op }
put Typed f g = record g { elem_type = f.elem_type }
put Count f g = record g { count = f.count }
put Counts f g = record g { counts = f.counts }
put Listed f g = record g { list = f.list }
put Flagged f g = record g { flags = f.flags }
put Colour f g = record g { colour = f.colour }
put Key f g = record g { key = f.key }

abbrev pub put_all : List Form → Fields → Fields → Fields
put_all [] f g = g
put_all (form ∷ forms) f g = put_all forms f (put form f g)
