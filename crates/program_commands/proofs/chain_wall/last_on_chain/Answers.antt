use Rattle.std.proofs.Common.{◌≡◌, ◌+◌, inr, refl, sym, ap, subst, length, List, ℕ, Option}
use Rattle.wall_policy.specs.Policy.{ChineseWall}
use Rattle.hall_script.specs.Devices.{used}
use Rattle.chain_runs.specs.Runs.{IsBegunUnder, IsChainAfter}
use Rattle.chain_runs.specs.Faults.{IsNotBegun}
use Rattle.program_commands.proofs.ChainLemmas.{goes_on, begun_named}
use Rattle.program_commands.proofs.chain_wall.last_on_chain.Goals as goal

pub returns-in-Ok-read-clause-last : goal.returns-in-Ok-read-clause-last
returns-in-Ok-read-clause-last g c =
    let p = c.in-Ok.ensures.past in
    let begun = c.in-Some.begun.now in
    let wall = c.in-Ok-read.wall in
    let device = used g.F.Reader.Source.failures g.F.Reader.Source.remaining
    c.reader-policy.result c.read_begun-read.new.policy in
    record {
      begun = begun;
      is = c.in-Some.ensures.some;
      links = p.0;
      past = c.in-Ok.past;
      stand = p.1;
      policy = record {
        first = c.reader-policy.result;
        last = c.read_begun-read.new.policy;
        at = subst (λ (l : List ℕ). g.F.FileSystem.is_at c.reader-policy.result l)
            c.bytes.ensures.bytes c.reader-policy.ensures;
      };
      under = subst (λ (o : Option ChineseWall). IsBegunUnder o begun device wall)
          c.as_ref.ensures.value c.in-Ok-read.ensures.under;
      goes_on = goes_on p.0 wall (c.in-Ok-read.ensures.chain p.0
          (subst (λ (o : Option ChineseWall). IsChainAfter o p.0) (sym c.as_ref.ensures.value)
          p.1.chain)) c.see_wall.ensures.policy c.see_wall.ensures.years;
    }

pub end_broken-status-requires : goal.end_broken-status-requires
end_broken-status-requires g c =
    let begun = c.in-Some.begun.now in
    let device = used g.F.Reader.Source.failures g.F.Reader.Source.remaining
    c.reader-policy.result c.read_begun-read.new.policy in
    begun_named c.in-Ok.past.policy begun device c.in-Err-read.fault
    (subst (λ (o : Option ChineseWall). IsNotBegun o begun device c.in-Err-read.fault)
    c.as_ref.ensures.value c.in-Err-read.ensures.fault)

pub returns-clause-none : goal.returns-clause-none
returns-clause-none g c =
    let begun = c.in-Some.begun.now in
    let device = used g.F.Reader.Source.failures g.F.Reader.Source.remaining
    c.reader-policy.result c.read_begun-read.new.policy in
    inr (inr (record {
      begun = begun;
      is = c.in-Some.ensures.some;
      past = c.in-Ok.past;
      stand = c.in-Ok.ensures.past;
      policy = record {
        first = c.reader-policy.result;
        last = c.read_begun-read.new.policy;
        at = subst (λ (l : List ℕ). g.F.FileSystem.is_at c.reader-policy.result l)
            c.bytes.ensures.bytes c.reader-policy.ensures;
      };
      broken = record {
        number = length c.ended.result.now + 1;
        after = c.in-Ok.past.policy;
        fault = c.in-Err-read.fault;
      };
      number = ap (λ l. length l + 1) c.ended.ensures;
      after = refl;
      why = subst (λ (o : Option ChineseWall). IsNotBegun o begun device c.in-Err-read.fault)
          c.as_ref.ensures.value c.in-Err-read.ensures.fault;
      status_is = c.end_broken-status.ensures.status;
      told = rw c.in-Ok.ensures.silent at c.end_broken-status.ensures.told;
    }))
