use Rattle.std.proofs.Common.{rules, ◌≡◌, true, refl}
use Rattle.std.specs.Str.{bytes_eq}
use Rattle.audit_book.specs.Text.{header_line}
use Rattle.seal_stream.proofs.ReadingLemmas.{header_read}
use Rattle.seal_stream.proofs.reading.take_header.Goals as goal

pub returns-clause-taken : goal.returns-clause-taken
returns-clause-taken c = λ lines kept h.
    let same : bytes_eq c.args.line.now (header_line c.args.policy.now.version) ≡ true =
    search rules in
    header_read c.args.policy.now c.args.reading.now _ lines kept c.args.line.now h c.requires.stage
    refl refl refl refl same
