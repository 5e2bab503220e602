-- What a line of a live session says: a call without its process, which is that of the session, or
-- what no script says. (Own format.)
use Rattle.std.specs.Prelude.{ℕ, List, codes, Result, Ok, Err, if◌then◌else◌}
use Rattle.std.specs.List.{list_all}
use Rattle.std.specs.Str.{bytes_eq}
use Rattle.coll_text.specs.declared.fault.LineFault.{LineFault}
use Rattle.coll_text.specs.declared.fault.LineFault.TheVariants.{BadVerb, BadShape}
use Rattle.coll_text.specs.Numbers.{Word}
use Rattle.coll_text.specs.Reading.{◌>>=◌, some_or, parts, word_at, ended, is_printable}
use Rattle.wall_policy.specs.Policy.{ChineseWall}
use Rattle.run_model.specs.Known.{HasKnownLabel}
use Rattle.hall_script.specs.declared.ask.Ask.{Ask}
use Rattle.hall_script.specs.declared.ask.Ask.TheVariants.{Act as ToAct, Wait, Head, Ping, Open}
use Rattle.hall_script.specs.declared.ask.Ask.TheVariants.{Next, Leave}
use Rattle.hall_script.specs.Lines.{last_number, verb_of, act_of}

-- What the words behind a first word say: behind `wait` and `ping` what stands behind `take`, behind
-- `head`, `open`, `next` and `leave` nothing, and behind the verb of a call all that stands behind its
-- process in a script.
unfoldable pub ask_of : List Word → (first : Word) → List Word → Result Ask LineFault
ask_of datasets first ws = if bytes_eq first (codes "wait")
    then (last_number 18446744073709551615 ws >>= λ request. Ok (Wait request))
    else if bytes_eq first (codes "head") then ended ws Head
    else if bytes_eq first (codes "ping")
    then (last_number 18446744073709551615 ws >>= λ number. Ok (Ping number))
    else if bytes_eq first (codes "open") then ended ws Open
    else if bytes_eq first (codes "next") then ended ws Next
    else if bytes_eq first (codes "leave") then ended ws Leave
    else (some_or BadVerb (verb_of first)
    >>= λ verb. (act_of datasets verb ws >>= λ act. Ok (ToAct act)))

unfoldable pub ask_at : List Word → List Word → Result Ask LineFault
ask_at datasets ws = do
  w ← word_at ws
  ask_of datasets w.0 w.1

-- what a line says, or its first fault from the left
unfoldable pub ask_said : List Word → List ℕ → Result Ask LineFault
ask_said datasets line =
    if list_all is_printable line then ask_at datasets (parts 32 line) else Err BadShape

-- the label of a post is public or a dataset of the policy
abbrev pub AsksWithKnownLabel : ChineseWall → Ask → Type 0
AsksWithKnownLabel wall (ToAct act) = HasKnownLabel wall act
AsksWithKnownLabel wall (Wait request) = Unit {0}
AsksWithKnownLabel wall Head = Unit {0}
AsksWithKnownLabel wall (Ping number) = Unit {0}
AsksWithKnownLabel wall Open = Unit {0}
AsksWithKnownLabel wall Next = Unit {0}
AsksWithKnownLabel wall Leave = Unit {0}
