use Rattle.report_text.specs.Members.{member_line}
use Rattle.report_text.proofs.WordLemmas.{writes_more}
use Rattle.report_text.proofs.members.put_members.Goals as goal

pub loop-rank-preserved : goal.loop-rank-preserved
loop-rank-preserved c =
    writes_more (member_line c.args.policy.now c.args.comm) c.args.group.now c.loop-rank.rank
    c.at-process.result c.loop-rank.text.items c.put_member.new.text.items _ c.at-process.ensures
    c.in_ok-put_member.ensures c.loop-rank.invariant
