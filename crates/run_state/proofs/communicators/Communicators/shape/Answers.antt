use Rattle.std.proofs.Common.{◌≡◌, ◌<◌, length, slice_get, Some, refl, sym, subst}
use Rattle.std.proofs.lemmas.Option.{slice_get_read}
use Rattle.run_state.proofs.LaidLemmas.{laid_beside, laid_shape}
use Rattle.run_state.proofs.communicators.Communicators.shape.Goals as goal

pub index-requires : goal.index-requires
index-requires c = subst (λ n. c.args.comm < n) (sym c.self.inside.shapes.ok.0)
    (laid_beside c.self.inside.table c.self.inside.shapes.items c.args.self.now c.self.view_is
    c.self.invariant c.args.comm c.requires)

pub returns : goal.returns
returns c = λ found e.
    let within = laid_beside c.self.inside.table c.self.inside.shapes.items c.args.self.now
    c.self.view_is c.self.invariant c.args.comm c.requires in
    let at : slice_get c.self.inside.shapes.items c.args.comm ≡ Some c.index.result.now =
    slice_get_read c.self.inside.shapes.items (length c.self.inside.shapes.items) c.args.comm
    c.index.result.now refl within c.index.ensures in
    laid_shape c.self.inside.table c.self.inside.shapes.items c.args.self.now c.self.view_is
    c.self.invariant c.args.comm found c.index.result.now at e
