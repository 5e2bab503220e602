use Rattle.std.proofs.Common.{◌≡◌, ◌<◌, ◌+◌, ◌++◌, ◌∷◌, [], length, subst, sym, refl, arith}
use Rattle.std.proofs.lemmas.Grind.{common_steps}
use Rattle.std.proofs.lemmas.List.Sums.{count_by-le-length}
use Rattle.std.specs.Prelude.{slice_set, nat_eq}
use Rattle.rank_stage.specs.declared.board.Instance.{Instance}
use Rattle.rank_run.specs.Asked.{AreCounted, CountsAll, on_comm}
use Rattle.rank_run.proofs.AskedLemmas.{counted_more, counts_more}
use Rattle.rank_run.proofs.requests.Requests.enter.Goals as goal

pub overflow_add-number : goal.overflow_add-number
overflow_add-number c =
    let before = c.args.self.now in
    let comm = c.args.comm in
    let is : c.index-number.result.now ≡ on_comm comm before.instances.items = grind
    (arith, common_steps, before.counts comm c.requires.place) in
    let few = count_by-le-length (λ (it : Instance). nat_eq it.comm comm) before.instances.items in
    let o = before.instances.ok in
    let room = c.requires.room in
    omega arith

pub invariant_of-self : goal.invariant_of-self
invariant_of-self c =
    let before = c.args.self.now in
    let more = c.index-number.result.now + 1 in
    let it : Instance = record { comm = c.args.comm; number = c.index-number.result.now } in
    let pushed : c.push_reserved.new.self.items ≡ before.instances.items ++ it ∷ [] = grind
    (arith, common_steps) in
    let low : it.comm < length before.entered.items = c.requires.place in
    let is : it.number ≡ on_comm it.comm before.instances.items = grind
    (arith, common_steps, before.counts it.comm low) in record {
      counts = subst (CountsAll (slice_set before.entered.items it.comm more)) (sym pushed)
          (counts_more before.entered.items before.instances.items it more refl is low
          before.counts (λ comm lt. grind (arith, common_steps)));
      counted =
          subst AreCounted (sym pushed) (counted_more before.instances.items it is before.counted);
    }
