use Rattle.std.proofs.Common.{◌∙◌, ◌++◌, ◌∷◌, [], Some, ap, arith}
use Rattle.hall_turn.proofs.KeepLemmas.{opens}
use Rattle.hall_turn.proofs.door.DoorTo.set_up.Goals as goal

pub new-requires : goal.new-requires
new-requires g c =
    let r = c.requires in
    let count = r.count in
    let some = r.some in
    opens g.M.Machine.stands c.args.key.now.value c.args.machine c.push.new.self.items
    (c.in_ok-push.ensures.items
    ∙ ap (λ l. l ++ Some c.args.machine ∷ []) c.new-slots.ensures.items) r.stands (omega arith)
    (omega arith)
