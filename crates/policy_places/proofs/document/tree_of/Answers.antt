use Rattle.std.proofs.Common.{◌≡◌, true, length, nat_eq, eq-eqb, sym}
use Rattle.std.specs.Str.Lossy.{utf8_valid_len}
use Rattle.std.proofs.lemmas.Str.{utf8_valid_len-IsUtf8}
use Rattle.wall_policy.specs.Answer.{tree_of}
use Rattle.policy_places.proofs.document.tree_of.Goals as goal

pub returns-in-Ok-table_from_str : goal.returns-in-Ok-table_from_str
unfolding tree_of
returns-in-Ok-table_from_str c =
    let whole : nat_eq (utf8_valid_len c.args.bytes.now) (length c.args.bytes.now) ≡ true = eq-eqb _
    _ (utf8_valid_len-IsUtf8 c.args.bytes.now c.in-Ok.ensures.cases.1) in
    rw whole (sym (rw c.in-Ok.ensures.cases.0 at c.in-Ok-table_from_str.ensures.ok))
