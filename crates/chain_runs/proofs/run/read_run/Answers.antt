use Rattle.std.proofs.Common.{sym, ◌∙◌, subst}
use Rattle.wall_policy.specs.Policy.{ChineseWall}
use Rattle.run_model.specs.Books.{posts_in}
use Rattle.run_model.specs.Chains.{IsPolicyAfter}
use Rattle.run_model.proofs.RunModelLemmas.{can_be_held, is_policy_after, labels_of_entries}
use Rattle.audit_book.proofs.NamedLemmas.{book_known}
use Rattle.chain_runs.proofs.run.read_run.Goals as goal

pub after-requires : goal.after-requires
after-requires g c =
    let wall = c.in-Ok.wall in
    let p = c.in-Ok-pass.ensures.passed.0 in
    can_be_held wall (posts_in p.entries) c.in-Ok-pass.passed.held.items p.sound.posts p.held
    c.processes.ensures.policy
    (labels_of_entries wall p.entries (book_known wall p.text p.entries p.says))

pub returns-clause-stands : goal.returns-clause-stands
returns-clause-stands g c =
    let wall = c.in-Ok.wall in
    let p = c.in-Ok-pass.ensures.passed.0 in
    let behind = subst (λ (w : ChineseWall). IsPolicyAfter wall (posts_in p.entries) w)
    (sym c.after.ensures)
    (is_policy_after wall (posts_in p.entries) c.in-Ok-pass.passed.held.items p.sound.posts
    p.held) in (
      record { wall = wall; book = p.entries },
      record {
        file = c.in-Ok.ensures.under.file;
        says = c.in-Ok.ensures.under.says;
        under = c.in-Ok.ensures.under.under;
        read = (p.text, p.gave, p.says, sym p.digest ∙ c.in-Ok-pass.ensures.passed.1);
        sound = p.sound;
        behind = behind;
      },
      p.number,
      λ older chain. (c.in-Ok.ensures.chain older chain, p.sound, behind),
    )
