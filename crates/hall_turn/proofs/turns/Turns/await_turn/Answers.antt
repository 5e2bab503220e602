use Rattle.std.proofs.Common.{refl, ap, ◌∙◌, arith}
use Rattle.atomic_table.specs.Table.{step}
use mathlib.Core.Option.{none}
use Rattle.hall_turn.proofs.TurnLemmas.{waits_none, away, found}
use Rattle.hall_turn.proofs.turns.Turns.await_turn.Goals as goal

pub loop-init : goal.loop-init
loop-init g c = record {
  at = (refl, refl);
  waits = waits_none c.args.seat.now.me c.requires.out c.requires.told c.requires.slots;
}

pub look-requires-clause-at : goal.look-requires-clause-at
look-requires-clause-at g c = c.loop.invariant.at.0 ∙ c.requires.at

pub look-requires-clause-out : goal.look-requires-clause-out
look-requires-clause-out g c = ap (λ m. m.0.out) c.loop.invariant.waits.is

pub look-requires-clause-parts : goal.look-requires-clause-parts
look-requires-clause-parts g c =
    let e = ap (λ m. m.0.parts) c.loop.invariant.waits.is in let p = c.requires.parts in omega arith

pub returns-then-look-ticket : goal.returns-then-look-ticket
returns-then-look-ticket g c =
    let l = c.look.ensures.at in
    let i = c.loop.invariant.at in record {
      at = (l.0 ∙ i.0, l.1 ∙ i.1);
      holds = found g.M.Machine.stands c.args.seat.now.me.0 c.args.ticket c.look.result
          (step 1 0 0 0 none) c.loop.seat.me c.look.new.seat.me c.requires.ticket
          c.loop.invariant.waits c.look.ensures.looks c.if-look-ticket.true;
    }

pub loop-preserved : goal.loop-preserved
loop-preserved g c =
    let r = c.requires in
    let l = c.look.ensures.at in
    let i = c.loop.invariant.at in record {
      at = (l.0 ∙ i.0, l.1 ∙ i.1);
      waits = away g.M.Machine.stands c.args.seat.now.me.0 c.args.ticket c.look.result
          (step 1 0 0 0 none) c.loop.seat.me c.look.new.seat.me r.ticket c.loop.invariant.waits
          c.look.ensures.looks c.if-look-ticket.false;
    }
