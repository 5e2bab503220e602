use Rattle.std.proofs.Common.{◌≡◌, sym, ◌∙◌}
use Rattle.std.specs.Str.{bytes_eq}
use Rattle.std.specs.Cmp.Lexicographic.{bytes_decides}
use Rattle.mpi_group.proofs.group.Group.is_same.Goals as goal

pub returns : goal.returns
returns c =
    let tested : c.eq.result ≡ bytes_eq c.as_slice.result.now c.as_slice-2.result.now = c.eq.ensures
    in
    let one : c.as_slice.result.now ≡ c.args.self.now = c.as_slice.ensures.value ∙ c.self.view_is in
    let two : c.as_slice-2.result.now ≡ c.args.other.now = c.as_slice-2.ensures.value ∙
    c.other.view_is in
    let decides = bytes_decides c.as_slice.result.now c.as_slice-2.result.now in (
      λ yes. sym one ∙ decides.0 (sym tested ∙ yes) ∙ two,
      λ same. tested ∙ decides.1 (one ∙ same ∙ sym two),
    )
