-- What a run of prepared jobs comes to.
use Rattle.std.proofs.Common.{◌≡◌, ℕ, ◌≤◌, List, length, map, vec_items, refl, sym, ap, subst, ◌∙◌}
use Rattle.std.proofs.Common.{Result, Ok, Err, IfOk, IfErr, Some, arith}
use Rattle.std.specs.List.{All}
use Rattle.std.specs.Global.{Vec}
use Rattle.std.proofs.lemmas.List.{length-map}
use Rattle.wall_policy.specs.Policy.{ChineseWall}
use Rattle.run_model.specs.Comms.{processes}
use Rattle.run_model.specs.declared.call.Act.{Act}
use Rattle.run_model.specs.declared.reply.Reply.{Reply}
use Rattle.run_model.specs.Known.{ScriptsHaveKnownLabels}
use Rattle.hall_core.specs.Halls.{HallValue}
use Rattle.hall_turn.specs.Known.{Doorway}
use Rattle.hall_turn.specs.Ending.{Closed}
use Rattle.rank_run.specs.declared.fault.RunFault.{RunFault}
use Rattle.rank_run.specs.declared.fault.RunFault.TheVariants.{Exhausted}
use Rattle.rank_stage.specs.declared.stage.Begun.{Begun}
use Rattle.rank_stage.specs.declared.stage.GivenUp.{GivenUp}
use Rattle.rank_run.specs.declared.rank.Job.{Job}
use Rattle.rank_run.specs.declared.rank.Ending.{Ending}
use Rattle.rank_run.specs.declared.rank.Ending.TheVariants.{Whole, Cut, NotBegun}
use Rattle.rank_run.specs.declared.rank.Played.{Played}
use Rattle.rank_run.specs.declared.run.Ended.{Ended}
use Rattle.rank_run.specs.declared.run.Run.{Run}
use Rattle.rank_run.specs.Jobs.{IsFresh, HaveEnded, ArePrepared, fault_of, fault_in}
use Rattle.rank_run.specs.Ran.{Ran, MayRunOut}
use Rattle.rank_run.proofs.RunLemmas.{all_fresh, all_back, jobs_long, played_long, Story, ran}
use Rattle.rank_run.proofs.RunLemmas.{cut_short, ends_whole, ends_cut}

pub prepared_fresh : (wall : ChineseWall) (scripts : List (List Act)) (door : Doorway)
    (jobs : List Job) → ArePrepared wall scripts door jobs → ScriptsHaveKnownLabels wall scripts
    → All (IsFresh door) jobs
prepared_fresh wall scripts door jobs p labels =
    all_fresh door (processes wall) jobs scripts p.passes p.scripts_are p.room
    (subst (λ (w : ChineseWall). ScriptsHaveKnownLabels w scripts) (sym p.policy) labels)

-- the fault of a run that was cut short is that the door is exhausted
cut_of : (ending : Ending) (fault : RunFault) → fault_of ending ≡ Some fault → fault ≡ Exhausted
    → ending ≡ Cut
cut_of Whole fault e is = absurd (cc)
cut_of Cut fault e is = refl
cut_of (NotBegun home) fault e is = absurd (cc)

cut_from : (told : Result Begun GivenUp) (ending : Ending) (fault : RunFault)
    → fault_in told ending ≡ Some fault → fault ≡ Exhausted → ending ≡ Cut
cut_from (Ok begun) ending fault e is = cut_of ending fault e is
cut_from (Err given_up) ending fault e is = absurd (cc)

module _ (patience : ℕ) (wall : ChineseWall) (scripts : List (List Act)) (door : Doorway)
    (jobs : List Job) (ended : Ended) (p : ArePrepared wall scripts door jobs) where
  pub come_back : ScriptsHaveKnownLabels wall scripts → HaveEnded patience jobs ended
      → All (λ pass. pass.door ≡ door) ended.passes.items
  come_back labels h =
      all_back patience door jobs h.all ended.passes.items
      (prepared_fresh wall scripts door jobs p labels) h.played h.passes

  pub all_come : HaveEnded patience jobs ended → processes door.policy ≤ length ended.passes.items
  all_come h =
      let long = jobs_long door (processes wall) jobs p.passes in
      let back = played_long patience jobs h.all h.played in
      let many = ap length h.passes ∙ length-map h.all (λ (x : Played). x.pass) in
      let same = ap (λ (w : ChineseWall). processes w) p.policy in
      omega arith

  story : (h : HaveEnded patience jobs ended) (hall : HallValue)
      → Closed door.policy hall ended.passes.items
      → Story patience wall scripts door jobs h.all ended.passes.items hall
  story h hall closed = record {
    same = p.policy;
    are = p.passes;
    scripts_are = p.scripts_are;
    played = h.played;
    back = h.passes;
    closed = closed;
  }

  pub whole_ran : HaveEnded patience jobs ended → (result : Result Run RunFault)
      → IfOk result (λ _. ended.ending ≡ Whole)
      → IfOk result (λ run. run.replies ≡ map vec_items ended.replies.items)
      → IfOk result (λ run. Closed door.policy run.hall ended.passes.items)
      → IfOk result (λ run. Ran patience wall scripts run.replies run.hall)
  whole_ran h (Ok run) whole replies closed =
      subst (λ (l : List (List Reply)). Ran patience wall scripts l run.hall)
      (sym (replies ∙ ap (λ (l : List (Vec Reply)). map vec_items l) h.replies))
      (ran patience wall scripts door jobs h.all ended.passes.items run.hall
      (story h run.hall closed)
      (ends_whole h.all (sym h.ending ∙ whole)))
  whole_ran h (Err fault) whole replies closed = tt

  pub may_run_out : HaveEnded patience jobs ended → (result : Result Run RunFault)
      → IfErr result (λ fault. fault_in ended.told ended.ending ≡ Some fault)
      → IfErr result (λ _. (hall : HallValue) × Closed door.policy hall ended.passes.items)
      → IfErr result (λ fault. fault ≡ Exhausted → MayRunOut patience scripts)
  may_run_out h (Ok run) is closed = tt
  may_run_out h (Err fault) is closed = λ exhausted.
      cut_short patience wall scripts door jobs h.all ended.passes.items closed.0
      (story h closed.0 closed.1)
      (ends_cut h.all (sym h.ending ∙ cut_from ended.told ended.ending fault is exhausted))
