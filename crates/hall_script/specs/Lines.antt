-- A call, read from the left: the grammar of lines. (Own format.)
use Rattle.std.specs.Prelude.{◌≡◌, ℕ, true, ◌%◌, ℤ, not, ◌&&◌, ◌==◌, List, [], ◌∷◌, length, codes}
use Rattle.std.specs.Prelude.{Option, Some, None, unwrap_or, Result, Ok, Err, if◌then◌else◌}
use Rattle.std.specs.List.{list_all}
use Rattle.std.specs.Str.{bytes_eq}
use Rattle.wall_labels.specs.declared.label.Label.{Label}
use Rattle.wall_labels.specs.declared.label.Label.TheVariants as labels
use Rattle.mpi_elems.specs.declared.elem_type.ElemType.{ElemType}
use Rattle.mpi_elems.specs.declared.elem_type.ElemType.TheVariants.{Int8}
use Rattle.mpi_elems.specs.Types.{is_pair}
use Rattle.mpi_elems.specs.Numbers.{is_number_of}
use Rattle.mpi_elems.specs.Elements.{elements_of}
use Rattle.mpi_elems.specs.Contents.{Contents, contents}
use Rattle.coll_routes.specs.Signatures.{elem_type}
use Rattle.coll_text.specs.declared.fault.LineFault.{LineFault}
use Rattle.coll_text.specs.declared.fault.LineFault.TheVariants.{BadVerb, BadShape, BadNumber}
use Rattle.coll_text.specs.declared.fault.LineFault.TheVariants.{OddPair}
use Rattle.coll_text.specs.Numbers.{Word, signed_within}
use Rattle.coll_text.specs.Reading.{◌>>=◌, some_or, parts, each_of, word_at, number_at, ended}
use Rattle.coll_text.specs.Reading.{is_printable}
use Rattle.coll_text.specs.Words.{label_of}
use Rattle.coll_text.specs.Fields.{statement_at}
use Rattle.run_model.specs.declared.call.Act.{Act}
use Rattle.run_model.specs.declared.call.Act.TheVariants.{Post, Take, Info}
use Rattle.run_model.specs.declared.call.Call.{Call}
use Rattle.hall_script.specs.declared.line.Verb.{Verb}
use Rattle.hall_script.specs.declared.line.Verb.TheVariants as verbs

-- ---- elements

-- a number that the type has
abbrev pub typed : ElemType → Option ℤ → Option ℤ
typed ty None = None
typed ty (Some z) = if is_number_of ty z then Some z else None

-- no type has a number above 18446744073709551615, or as far below 0
abbrev pub value_of : ElemType → Word → Result ℤ LineFault
value_of ty w = if length w == 0 then Err BadShape
    else some_or BadNumber (typed ty (signed_within 18446744073709551615 18446744073709551615 w))

-- the numbers as elements: a pair is two numbers, its value and its index
unfoldable pub buffer_of : ElemType → List ℤ → Result Contents LineFault
buffer_of ty ns = if is_pair ty && not (length ns % 2 == 0) then Err OddPair
    else Ok (contents ty ns (length (elements_of ty ns)))

unfoldable pub values_of : ElemType → List Word → Result Contents LineFault
values_of ty ws = do
  ns ← each_of (value_of ty) ws
  buffer_of ty ns

unfoldable pub labelled : List Word → ElemType → List Word → Result (Label × Contents) LineFault
labelled datasets ty ws = do
  w ← word_at ws
  label ← label_of datasets w.0
  elements ← values_of ty w.1
  Ok (label, elements)

-- Nothing, or behind `as` a label and elements, where the kind has a type. Nothing is no elements
-- of the type, or of int8 where there is none.
unfoldable pub given_of : List Word → Option ElemType → List Word →
    Result (Label × Contents) LineFault
given_of datasets ty [] = Ok (labels.Public, contents (unwrap_or ty Int8) [] 0)
given_of datasets None (w ∷ ws) = Err BadShape
given_of datasets (Some ty) (w ∷ ws) =
    if bytes_eq w (codes "as") then labelled datasets ty ws else Err BadShape

-- ---- calls

unfoldable pub post_of : List Word → List Word → Result Act LineFault
post_of datasets ws = do
  comm ← number_at 4294967295 ws
  statement ← statement_at comm.1
  given ← given_of datasets (elem_type statement.0.0) statement.1
  Ok (Post (record {
    comm = comm.0;
    sig = statement.0.0;
    own = statement.0.1;
    label = given.0;
    elements = given.1;
  }))

-- a number up to most, and nothing behind it
unfoldable pub last_number : ℕ → List Word → Result ℕ LineFault
last_number most ws = do
  n ← number_at most ws
  ended n.1 n.0

-- what stands behind the verb and the process
unfoldable pub act_of : List Word → Verb → List Word → Result Act LineFault
act_of datasets verbs.Post ws = post_of datasets ws
act_of datasets verbs.Take ws = last_number 18446744073709551615 ws >>= λ request. Ok (Take request)
act_of datasets verbs.Info ws = last_number 4294967295 ws >>= λ comm. Ok (Info comm)

unfoldable pub verb_of : Word → Option Verb
verb_of w = if bytes_eq w (codes "post") then Some verbs.Post else if bytes_eq w (codes "take")
    then Some verbs.Take else if bytes_eq w (codes "info") then Some verbs.Info else None

-- the verb that words begin with
abbrev pub verb_at : List Word → Result Verb LineFault
verb_at ws = word_at ws >>= λ w. some_or BadVerb (verb_of w.0)

unfoldable pub call_of : List Word → List Word → Result Call LineFault
call_of datasets ws = do
  w ← word_at ws
  verb ← some_or BadVerb (verb_of w.0)
  process ← number_at 4294967295 w.1
  act ← act_of datasets verb process.1
  Ok (record { process = process.0; act = act })

-- the call that a line says, or its first fault from the left
unfoldable pub answer_to : List Word → List ℕ → Result Call LineFault
answer_to datasets line =
    if list_all is_printable line then call_of datasets (parts 32 line) else Err BadShape

-- a printable line that begins as a post
pub record IsPost (line : List ℕ) : Type 0 where
  pub printable : list_all is_printable line ≡ true
  pub verb : verb_at (parts 32 line) ≡ Ok verbs.Post
