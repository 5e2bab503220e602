use Rattle.std.proofs.Common.{◌≡◌, true, ℕ, Vec, Global, length, map, sym, ap, subst, ◌∙◌}
use Rattle.std.specs.List.{list_all}
use Rattle.std.proofs.lemmas.List.{take_all}
use Rattle.std.proofs.lemmas.List.Folds.{list_all-map}
use Rattle.std.proofs.lemmas.List.Sums.{AllPass-from_list_all}
use Rattle.mpi_group.specs.Groups.{members_at}
use Rattle.mpi_comm.specs.Comms.{is_subgroup}
use Rattle.mpi_comm.proofs.SplitLemmas.{map_of_map}
use Rattle.mpi_comm.proofs.table.all_included.Goals as goal

pub included-requires : goal.included-requires
included-requires c =
    let good : Vec ℕ Global → Type 0 = λ list. is_subgroup (length c.args.group.now) list.items ≡
    true in
    let each : list_all (λ (list : Vec ℕ Global). is_subgroup (length c.args.group.now) list.items)
    c.args.lists.now ≡ true = sym (list_all-map (is_subgroup (length c.args.group.now))
    (λ (list : Vec ℕ Global). list.items) c.args.lists.now) ∙ c.requires in
    let one = AllPass-from_list_all
    (λ (list : Vec ℕ Global). is_subgroup (length c.args.group.now) list.items) c.args.lists.now
    each c.loop-ranks.ranks-index c.ranks-item.result c.loop-ranks-test.true in
    rw c.as_slice.ensures.value (subst good (sym c.ranks-item.is) one)

pub returns : goal.returns
returns c =
    c.loop-ranks.invariant
    ∙ ap (map (λ (list : Vec ℕ Global). members_at c.args.group.now list.items))
    (take_all c.loop-ranks.ranks-index c.args.lists.now c.loop-ranks-test.false)
    ∙ sym (map_of_map (members_at c.args.group.now) (λ (list : Vec ℕ Global). list.items)
    c.args.lists.now)
