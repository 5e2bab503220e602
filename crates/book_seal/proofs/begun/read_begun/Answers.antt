use Rattle.std.proofs.Common.{◌≡◌, Ok, refl, sym, ap, subst, ◌∙◌}
use Rattle.std.specs.Prelude.{IsOk}
use Rattle.audit_book.specs.Reading.{book_in}
use Rattle.book_seal.specs.Seals.{finished}
use Rattle.book_seal.proofs.BegunLemmas.{whole_told}
use Rattle.book_seal.proofs.begun.read_begun.Goals as goal

pub returns-in-Ok-clause-begun : goal.returns-in-Ok-clause-begun
returns-in-Ok-clause-begun c =
    let read : book_in c.args.policy.now (finished c.args.text.now) ≡ Ok c.in-Ok.book.list =
    ap (book_in c.args.policy.now) (sym c.finished.ensures) ∙ c.in-Ok.ensures.answer in
    record {
      told = whole_told c.args.policy.now c.args.text.now c.in-Ok.book.list read;
      ends = subst IsOk (sym read) refl;
    }
