use Rattle.std.proofs.Common.{◌≡◌, List, [], ◌∷◌, Option, None, Result, Err, map, refl, ap}
use Rattle.clap.specs.Words.{Kinds, Text, fault_of, subcommand_of}
use Rattle.clap.specs.declared.parser.ArgMatches.{ArgMatches}
use Rattle.program_words.specs.declared.words.ArgFault.{ArgFault}
use Rattle.program_words.specs.declared.words.ArgFault.TheVariants.{BadArguments, NoMemory}
use Rattle.program_words.specs.Grammar.{Asked, program_app, command_of, unless_refused, asked}
use Rattle.program_words.specs.Grammar.{SaysCommand}
use Rattle.program_words.proofs.words.read_words.Goals as goal

abbrev failed : ArgFault → Result ArgMatches ArgFault
failed f = Err f

is_refused : (kinds : Kinds) (said : Option Asked) → (kinds ≡ [] → ⊥) →
    unless_refused kinds said ≡ None
is_refused [] said some = absurd (some refl)
is_refused (k ∷ ks) said some = refl

refused : (f : ArgFault) (words : List Text) →
    (f ≡ BadArguments → fault_of program_app words ≡ [] → ⊥) → SaysCommand (Err f) (asked words)
unfolding asked
refused BadArguments words h =
    is_refused (fault_of program_app words) (command_of (subcommand_of program_app words)) (h refl)
refused NoMemory words h = tt

pub returns-in-Err : goal.returns-in-Err
returns-in-Err c = refused c.in-Err.fault (map (λ w. w.now) c.args.words.now)
    (λ e. c.in-Err.ensures.bad (ap (λ (f : ArgFault). failed f) e))
