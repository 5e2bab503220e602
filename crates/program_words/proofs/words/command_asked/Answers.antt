use Rattle.std.proofs.Common.{◌≡◌, Option, Some, None, ap, ◌∙◌}
use Rattle.std.specs.Prelude.{option_map}
use Rattle.std.specs.Box.{box_value}
use Rattle.clap.specs.Words.{rows_of, found_of}
use Rattle.clap.specs.declared.parser.ArgMatches.TheViews.{out-ArgMatches, out-SubCommand}
use Rattle.program_words.specs.Grammar.{command_of}
use Rattle.program_words.proofs.words.command_asked.Goals as goal

abbrev both : {X Y Z : Type 0} → (X → Y) → (X → Z) → X → Y × Z
both f g x = (f x, g x)

-- what is known of both parts is known of the pair
paired : {X Y Z : Type 0} (f : X → Y) (g : X → Z) (o : Option X) (p : Y × Z) →
    Some p.0 ≡ option_map f o →
    Some p.1 ≡ option_map (λ (q : Y × Z). q.1) (option_map (both f g) o) →
    Some p ≡ option_map (both f g) o
paired f g None p first second = let bad : Some p.0 ≡ None = first in cc
paired f g (Some x) (y, z) first second = cc

pub returns-in_ok-after-in-Some : goal.returns-in_ok-after-in-Some
returns-in_ok-after-in-Some c =
    c.command_named.ensures ∙ ap command_of (paired
    (λ b. (out-SubCommand (box_value b)).name.now)
    (λ b. rows_of (found_of (out-SubCommand (box_value b)).matches))
    (out-ArgMatches c.args.matches.now).subcommand
    (c.in-Some.name.now, rows_of (found_of c.in-Some.inner.now))
    c.in-Some.ensures.name c.in-Some.ensures.rows)
