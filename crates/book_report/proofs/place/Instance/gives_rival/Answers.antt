use Rattle.std.proofs.Common.{refl}
use Rattle.std.proofs.lemmas.Bool.{false≢true}
use Rattle.book_report.proofs.place.Instance.gives_rival.Goals as goal

pub returns-in-Some : goal.returns-in-Some
returns-in-Some c =
    (λ t. (c.in-Some.field-0, c.in-Some.ensures.gives, c.in-Some.ensures.rivals), λ g. refl)

pub returns-in-None : goal.returns-in-None
returns-in-None c =
    (λ t. absurd (false≢true t), λ g. absurd (c.in-None.ensures.none g))
