use Rattle.std.proofs.Common.{◌≡◌, ◌≤◌, ◌<◌, ◌^◌, ◌-◌, take, true}
use Rattle.std.specs.List.{list_all}
use Rattle.coll_text.specs.Numbers.{is_digit, value_after}
use Rattle.coll_text.proofs.eights.one_by_one.Given as goal

abbrev pub invariant-loop-len : goal.invariant-loop-len
invariant-loop-len l = record {
  within : l.len ≤ l.most;
  digits : list_all is_digit (take l.len l.text) ≡ true;
  value : l.value ≡ value_after 0 (take l.len l.text);
  small : l.value < 10 ^ l.len;
}

abbrev pub decreases-loop-len : goal.decreases-loop-len
decreases-loop-len l = l.most - l.len
