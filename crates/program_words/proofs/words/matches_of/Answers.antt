use Rattle.std.proofs.Common.{◌≡◌, true, [], refl, sym, ap, subst, ◌∙◌, map}
use Rattle.std.proofs.Common.{inl, inr, ◌∷◌, Result, Err}
use Rattle.clap.specs.declared.Error.{Error}
use Rattle.clap.specs.declared.error.ErrorKind.TheVariants.{OutOfMemory}
use Rattle.clap.specs.declared.parser.ArgMatches.{ArgMatches}
use Rattle.program_words.specs.declared.words.ArgFault.{ArgFault}
use Rattle.program_words.specs.declared.words.ArgFault.TheVariants.{BadArguments}
use Rattle.clap.specs.Words.{Kinds, HasKind, kind_of, fault_of, subcommand_of, is_simple}
use Rattle.clap.specs.Words.{is_simple_and_free}
use Rattle.clap.proofs.OnLiterals.{clap_on_literals}
use Rattle.program_words.specs.Grammar.{program_app}
use Rattle.program_words.proofs.words.matches_of.Goals as goal

simple_and_free : is_simple_and_free program_app ≡ true
unfolding program_app clap_on_literals
simple_and_free = refl

simple : is_simple program_app ≡ true
unfolding program_app clap_on_literals
simple = refl

pub returns-in-Ok-try_get_matches_from-clause-ok : goal.returns-in-Ok-try_get_matches_from-clause-ok
returns-in-Ok-try_get_matches_from-clause-ok c =
    let app = c.in-Ok.ensures in
    let parse = c.in-Ok-try_get_matches_from.ensures in (
      ap (λ a. fault_of a (map (λ w. w.now) c.args.words.now)) (sym app)
          ∙ parse.kinds (ap is_simple_and_free app ∙ simple_and_free),
      (parse.matches (ap is_simple app ∙ simple)).1
          ∙ ap (λ a. subcommand_of a (map (λ w. w.now) c.args.words.now)) app,
    )

-- an error of another kind than memory has one of the kinds, so there are some
some_kind : (kinds : Kinds) (e : Error) → HasKind kinds e → (kind_of e ≡ OutOfMemory → ⊥) →
    kinds ≡ [] → ⊥
some_kind [] e (inl memory) other none = other memory
some_kind [] e (inr among) other none = among
some_kind (k ∷ ks) e h other none = let bad : k ∷ ks ≡ [] = none in cc

abbrev failed : ArgFault → Result ArgMatches ArgFault
failed f = Err f

bad_is : (f : ArgFault) → failed f ≡ failed BadArguments → f ≡ BadArguments
bad_is f e = cc

pub returns-in-Err-try_get_matches_from-clause-bad : goal.returns-in-Err-try_get_matches_from-clause-bad
returns-in-Err-try_get_matches_from-clause-bad c same none =
    let app = c.in-Ok.ensures in
    let parse = c.in-Err-try_get_matches_from.ensures in
    some_kind (fault_of program_app (map (λ w. w.now) c.args.words.now)) c.in-Err-try_get_matches_from.error
    (subst (λ a. HasKind (fault_of a (map (λ w. w.now) c.args.words.now)) c.in-Err-try_get_matches_from.error) app
    (parse.kinds (ap is_simple_and_free app ∙ simple_and_free)))
    (λ memory. c.fault_for.ensures.bad (bad_is c.fault_for.result same) (c.kind.ensures ∙
    memory)) none
