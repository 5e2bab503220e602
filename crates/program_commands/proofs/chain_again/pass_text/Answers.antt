use Rattle.std.proofs.Common.{rules, ◌≡◌, refl, sym, ◌∙◌}
use Rattle.wall_labels.specs.declared.memory.Fuse.TheVariants.{Whole}
use Rattle.program_commands.proofs.chain_again.pass_text.Goals as goal

pub returns-in-Err : goal.returns-in-Err
returns-in-Err c = record {
  text = tt;
  fault = (
    record { rest = c.args.text; fuse = Whole },
    c.pass_source.new.source,
    refl,
    c.in-Err.ensures.fault,
    (search rules),
  );
}

pub returns-then-ne-clause-fault : goal.returns-then-ne-clause-fault
returns-then-ne-clause-fault c =
    let p = c.in-Ok.ensures.passed in
    let was = c.ne.ensures in
    let is = c.if-ne.true in (
      record { rest = c.args.text; fuse = Whole },
      c.pass_source.new.source,
      refl,
      (
        c.in-Ok.passed.digest,
        p.entries,
        (p.text, p.gave, p.says, sym p.digest),
        p.sound,
        (search rules),
      ),
    )

pub returns-clause-text : goal.returns-clause-text
returns-clause-text c =
    let p = c.in-Ok.ensures.passed in
    let was = c.ne.ensures in
    let is = c.if-ne.false in
    let same : c.in-Ok.passed.digest ≡ c.args.run.now.book_digest = search rules in (
      p.entries,
      record { rest = c.args.text; fuse = Whole },
      c.pass_source.new.source,
      refl,
      (p.text, p.gave, p.says, sym p.digest ∙ same),
      p.sound,
    )
