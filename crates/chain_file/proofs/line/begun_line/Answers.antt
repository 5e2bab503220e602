use Rattle.std.proofs.Common.{sym, ap, ◌∙◌, is_some}
use Rattle.chain_file.proofs.LineLemmas.{begun_made, none_left}
use Rattle.chain_file.proofs.line.begun_line.Goals as goal

pub returns : goal.returns
returns c = begun_made c.args.words.now c.next.new.self c.next-2.new.self c.next-3.new.self
    c.next-4.new.self c.in_ok-policy.policy.now c.in_ok-digest.digest.now c.in_ok-book.book.now
    c.in_ok-head.head.now c.in_ok-policy_digest.policy_digest c.in_ok-policy.ensures
    c.in_ok-digest.ensures c.in_ok-book.ensures c.in_ok-head.ensures
    (none_left c.next-5.result c.next-4.new.self c.next-5.new.self
    (sym c.is_some.ensures ∙ c.if-is_some.false) c.next-5.ensures)
    (sym c.is_path.ensures ∙ c.if-not-is_path.false)
    (sym c.is_path-2.ensures ∙ c.if-not-is_path-2.false)
    (sym c.read_digest.ensures ∙ c.in_ok-policy_digest.was)
    (ap is_some (sym c.read_digest-2.ensures ∙ c.in_ok-read_digest.was))
