use Rattle.std.proofs.Common.{◌≡◌, ◌+◌, eqb, ap, sym, ◌∙◌}
use Rattle.std.specs.List.{count_by}
use Rattle.std.proofs.lemmas.List.Splits.{length-slice_split}
use Rattle.coll_text.proofs.parts.count_parts.Goals as goal

pub returns : goal.returns
returns c =
    let last : c.from.result ≡ count_by (λ b. eqb b c.args.separator) c.loop-rest.rest.now =
    c.from.ensures ∙ c.count_few-2.ensures in
    ap (λ n. n + 1) (ap (λ n. c.loop-rest.count + n) last ∙ c.loop-rest.invariant)
    ∙ sym (length-slice_split (λ b. eqb b c.args.separator) c.args.text.now)
