-- A line of a book, read from the left. (Own format.)
use Rattle.std.specs.Prelude.{ℕ, Bool, true, false, ◌==◌, nat_lt, List, length, codes, Option, Some}
use Rattle.std.specs.Prelude.{None, Result, Ok, Err, if◌then◌else◌}
use Rattle.std.specs.Str.{bytes_eq}
use Rattle.wall_labels.specs.declared.label.Label.{Label}
use Rattle.wall_policy.specs.Names.{place_of}
use Rattle.wall_policy.specs.Policy.{ChineseWall}
use Rattle.wall_rules.specs.declared.rule.Rule.{Rule}
use Rattle.wall_rules.specs.declared.rule.Rule.TheVariants.{Star, Simple}
use Rattle.run_model.specs.declared.outcome.Outcome.{Outcome}
use Rattle.run_model.specs.declared.outcome.Outcome.TheVariants.{Granted, Denied, Made, NoRoom}
use Rattle.run_model.specs.declared.entry.Entry.{Entry}
use Rattle.run_model.specs.declared.entry.Entry.TheVariants.{Posted, Settled}
use Rattle.coll_text.specs.declared.fault.LineFault.{LineFault}
use Rattle.coll_text.specs.declared.fault.LineFault.TheVariants.{BadVerb, BadShape, BadField}
use Rattle.coll_text.specs.Numbers.{Word}
use Rattle.coll_text.specs.Reading.{◌>>=◌, some_or, parts, word_at, number_at, ended}
use Rattle.coll_text.specs.Words.{label_of}
use Rattle.coll_text.specs.Fields.{statement_at}
use Rattle.audit_book.specs.declared.line.Line.{Line}
use Rattle.audit_book.specs.declared.line.Line.TheVariants.{Said, End}
use Rattle.audit_book.specs.declared.words.Verb.{Verb}
use Rattle.audit_book.specs.declared.words.Verb.TheVariants as verbs
use Rattle.audit_book.specs.declared.words.OutcomeWord.{OutcomeWord}
use Rattle.audit_book.specs.declared.words.OutcomeWord.TheVariants as came
use Rattle.audit_book.specs.declared.words.Given.{Given}

-- this very word
abbrev pub past_word : Word → List Word → Result (Unit {0} × List Word) LineFault
past_word word ws = do
  w ← word_at ws
  if bytes_eq w.0 word then Ok (tt, w.1) else Err BadShape

-- a process of the policy, by its number
abbrev pub known_process : ChineseWall → ℕ → Result ℕ LineFault
known_process wall n = if nat_lt n (length wall.process_names) then Ok n else Err BadField

abbrev pub process_at : ChineseWall → List Word → Result (ℕ × List Word) LineFault
process_at wall ws = do
  n ← number_at 4294967295 ws
  p ← known_process wall n.0
  Ok (p, n.1)

-- a process by its name
abbrev pub named_at : ChineseWall → List Word → Result (ℕ × List Word) LineFault
named_at wall ws = do
  w ← word_at ws
  p ← some_or BadField (place_of w.0 wall.process_names)
  Ok (p, w.1)

abbrev pub label_at : ChineseWall → List Word → Result (Label × List Word) LineFault
label_at wall ws = do
  w ← word_at ws
  label ← label_of wall.dataset_names w.0
  Ok (label, w.1)

-- `none` exactly where no element is given
unfoldable pub given_label : ChineseWall → ℕ → List Word →
    Result (Option Label × List Word) LineFault
given_label wall given ws =
    if given == 0
    then (past_word (codes "none") ws >>= λ w. Ok (None, w.1))
    else (label_at wall ws >>= λ label. Ok (Some label.0, label.1))

-- the word of a truth value
abbrev pub either_word : (first second : Word) → Word → Result Bool LineFault
either_word first second w =
    if bytes_eq w first then Ok false else if bytes_eq w second then Ok true else Err BadShape

abbrev pub barred_at : List Word → Result (Bool × List Word) LineFault
barred_at ws = do
  w ← word_at ws
  b ← either_word (codes "passed") (codes "barred") w.0
  Ok (b, w.1)

abbrev pub rule_of : Bool → Rule
rule_of false = Star
rule_of true = Simple

abbrev pub rule_at : List Word → Result (Rule × List Word) LineFault
rule_at ws = do
  w ← word_at ws
  b ← either_word (codes "star") (codes "simple") w.0
  Ok (rule_of b, w.1)

-- how many elements are given, as what, and whether the post was barred
unfoldable pub given_at : ChineseWall → List Word → Result (Given × List Word) LineFault
given_at wall ws = do
  a ← past_word (codes "gives") ws
  n ← number_at 4294967295 a.1
  b ← past_word (codes "as") n.1
  label ← given_label wall n.0 b.1
  barred ← barred_at label.1
  Ok (record { given = n.0; label = label.0; barred = barred.0 }, barred.1)

unfoldable pub post_at : ChineseWall → List Word → Result Entry LineFault
post_at wall ws = do
  p ← process_at wall ws
  c ← number_at 4294967295 p.1
  s ← statement_at c.1
  g ← given_at wall s.1
  ended g.1 (Posted p.0 c.0 (record {
    sig = s.0.0;
    own = s.0.1;
    given = g.0.given;
    label = g.0.label;
    barred = g.0.barred;
  }))

unfoldable pub came_of : Word → Option OutcomeWord
came_of w =
    if bytes_eq w (codes "granted") then Some came.Granted
    else if bytes_eq w (codes "denied") then Some came.Denied
    else if bytes_eq w (codes "made") then Some came.Made
    else if bytes_eq w (codes "noroom") then Some came.NoRoom
    else None

unfoldable pub denied_at : ChineseWall → List Word → Result (Outcome × List Word) LineFault
denied_at wall ws = do
  rule ← rule_at ws
  p ← named_at wall rule.1
  label ← label_at wall p.1
  Ok (Denied rule.0 p.0 label.0, label.1)

unfoldable pub made_at : List Word → Result (Outcome × List Word) LineFault
made_at ws = do
  first ← number_at 4294967295 ws
  number ← number_at 4294967295 first.1
  Ok (Made first.0 number.0, number.1)

abbrev pub came_to : ChineseWall → OutcomeWord → List Word → Result (Outcome × List Word) LineFault
came_to wall came.Granted ws = Ok (Granted, ws)
came_to wall came.Denied ws = denied_at wall ws
came_to wall came.Made ws = made_at ws
came_to wall came.NoRoom ws = Ok (NoRoom, ws)

unfoldable pub outcome_at : ChineseWall → List Word → Result (Outcome × List Word) LineFault
outcome_at wall ws = do
  w ← word_at ws
  word ← some_or BadShape (came_of w.0)
  came_to wall word w.1

unfoldable pub verdict_at : ChineseWall → List Word → Result Entry LineFault
verdict_at wall ws = do
  c ← number_at 4294967295 ws
  k ← number_at 18446744073709551615 c.1
  o ← outcome_at wall k.1
  ended o.1 (Settled c.0 k.0 o.0)

unfoldable pub end_at : List Word → Result ℕ LineFault
end_at ws = do
  n ← number_at 18446744073709551615 ws
  ended n.1 n.0

unfoldable pub verb_of : Word → Option Verb
verb_of w =
    if bytes_eq w (codes "post") then Some verbs.Post
    else if bytes_eq w (codes "verdict") then Some verbs.Verdict
    else if bytes_eq w (codes "end") then Some verbs.End
    else None

-- what stands behind the first word
abbrev pub line_behind : ChineseWall → Verb → List Word → Result Line LineFault
line_behind wall verbs.Post ws = post_at wall ws >>= λ entry. Ok (Said entry)
line_behind wall verbs.Verdict ws = verdict_at wall ws >>= λ entry. Ok (Said entry)
line_behind wall verbs.End ws = end_at ws >>= λ n. Ok (End n)

unfoldable pub line_in : ChineseWall → List Word → Result Line LineFault
line_in wall ws = do
  w ← word_at ws
  verb ← some_or BadVerb (verb_of w.0)
  line_behind wall verb w.1

-- an entry, or the end with the number of entries that it states
abbrev pub line_at : ChineseWall → List ℕ → Result Line LineFault
line_at wall line = line_in wall (parts 32 line)
