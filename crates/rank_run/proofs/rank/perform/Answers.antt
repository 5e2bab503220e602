use Rattle.std.proofs.Common.{sym, subst}
use Rattle.rank_run.specs.declared.waiting.TheConstants.{PATIENCE}
use Rattle.rank_run.specs.Jobs.{Performed}
use Rattle.rank_run.proofs.PlayLemmas.{perform_post, perform_take, perform_info}
use Rattle.rank_run.proofs.rank.perform.Goals as goal

pub returns-in-Post-clause-performed : goal.returns-in-Post-clause-performed
returns-in-Post-clause-performed g c =
    let e = c.post.ensures in
    subst (λ act. Performed PATIENCE c.args.pass.now act c.post.result c.post.new.pass)
    (sym c.in-Post.is)
    (perform_post PATIENCE c.in-Post.posting c.post.result c.args.pass.now c.post.new.pass e.same
    e.answered)

pub returns-in-Take-clause-performed : goal.returns-in-Take-clause-performed
returns-in-Take-clause-performed g c =
    let e = c.wait.ensures in
    subst (λ act. Performed PATIENCE c.args.pass.now act c.wait.result c.wait.new.pass)
    (sym c.in-Take.is)
    (perform_take PATIENCE c.in-Take.request c.wait.result c.args.pass.now c.wait.new.pass
    e.same e.waited)

pub returns-in-Info-clause-performed : goal.returns-in-Info-clause-performed
returns-in-Info-clause-performed g c =
    let e = c.info.ensures in
    subst (λ act. Performed PATIENCE c.args.pass.now act c.info.result c.info.new.pass)
    (sym c.in-Info.is)
    (perform_info PATIENCE c.in-Info.comm c.info.result c.args.pass.now c.info.new.pass e.same
    e.answered)
