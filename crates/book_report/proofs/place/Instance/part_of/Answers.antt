use Rattle.std.proofs.Common.{◌≡◌, ◌+◌, ◌∙◌, sym, ap, subst, length, true, false, arith}
use Rattle.run_model.specs.Posts.{posts_on}
use Rattle.book_report.specs.Held.{posts_to}
use Rattle.book_report.specs.Reasons.{is_part}
use Rattle.book_report.proofs.HistoryLemmas.{no_posts}
use Rattle.book_report.proofs.PartLemmas.{part_counts, other_counts, part_is}
use Rattle.book_report.proofs.place.Instance.part_of.Goals as goal

pub loop-at-init : goal.loop-at-init
loop-at-init c = record {
  seen = sym (ap (λ ps. length (posts_on c.args.self.now.comm c.args.process ps))
      (no_posts c.args.self.now.place.book.now.list));
  low = omega arith;
}

pub loop-at-preserved-then-not-is_part : goal.loop-at-preserved-then-not-is_part
loop-at-preserved-then-not-is_part c =
    let comm = c.args.self.now.comm in
    let is : is_part c.get.result.now c.args.process comm ≡ false =
    sym c.is_part.ensures ∙ c.if-not-is_part.true in
    record {
      seen = c.loop-at.invariant.seen
          ∙ sym (other_counts c.args.self.now.place.book.now.list c.loop-at.at c.args.process comm
          c.get.result.now c.get.ensures.entry is);
      low = c.loop-at.invariant.low;
    }

pub loop-at-preserved : goal.loop-at-preserved
loop-at-preserved c =
    let comm = c.args.self.now.comm in
    let is : is_part c.get.result.now c.args.process comm ≡ true =
    sym c.is_part.ensures ∙ c.if-not-is_part.false in
    let low = c.loop-at.invariant.low in
    let other = c.if-seen-self.false in
    record {
      seen = ap (λ m. m + 1) c.loop-at.invariant.seen
          ∙ sym (part_counts c.args.self.now.place.book.now.list c.loop-at.at c.args.process comm
          c.get.result.now c.get.ensures.entry is);
      low = omega (arith, low, other);
    }

pub returns-then-seen-self : goal.returns-then-seen-self
returns-then-seen-self c =
    let comm = c.args.self.now.comm in
    let is : is_part c.get.result.now c.args.process comm ≡ true =
    sym c.is_part.ensures ∙ c.if-not-is_part.false in
    part_is c.args.self.now.place.book.now.list c.loop-at.at c.args.process comm
    c.get.result.now c.args.self.now.k c.get.ensures.entry is
    (sym c.loop-at.invariant.seen ∙ c.if-seen-self.true)

pub unreachable-requires : goal.unreachable-requires
unreachable-requires c =
    let low = c.loop-at.invariant.low in
    let posted = c.requires.posted in
    let same : c.loop-at.at ≡ c.args.self.now.place.at + 1 = omega arith in
    let all = subst (λ n. c.loop-at.seen
    ≡ length (posts_on c.args.self.now.comm c.args.process
    (posts_to c.args.self.now.place.book.now.list n))) same c.loop-at.invariant.seen in
    omega (arith, low, posted, all)
