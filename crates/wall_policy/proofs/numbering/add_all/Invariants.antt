use Rattle.std.proofs.Common.{◌≡◌, ◌++◌, map, drop}
use Rattle.wall_policy.specs.Numbering.{repeats_after}
use Rattle.wall_policy.proofs.numbering.add_all.Given as goal

abbrev pub invariant-loop-item : goal.invariant-loop-item
invariant-loop-item g l = record {
  rest : repeats_after l.table (map g.T.Named.name_of (drop l.item-index l.items))
      ≡ repeats_after l.fn.table (map g.T.Named.name_of l.items);
  all : l.table ++ map g.T.Named.name_of (drop l.item-index l.items)
      ≡ l.fn.table ++ map g.T.Named.name_of l.items;
}
