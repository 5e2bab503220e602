use Rattle.std.proofs.Common.{eqb, sym, ◌∙◌}
use Rattle.coll_text.proofs.CutLemmas.{parts_none, parts_some}
use Rattle.coll_text.proofs.parts.cut.Goals as goal

pub returns-in-None : goal.returns-in-None
returns-in-None c =
    parts_none (λ b. eqb b c.args.separator) c.args.text.now (sym c.requires ∙ c.in-None.is)

pub returns-in-Some : goal.returns-in-Some
returns-in-Some c = rw (c.split_at.ensures.front, c.split_at-in-Some.ensures.back)
    (parts_some (λ b. eqb b c.args.separator) c.args.text.now c.in-Some.at
    (sym c.requires ∙ c.in-Some.is)).1
