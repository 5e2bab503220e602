-- Takes that are tried again.
use Rattle.std.proofs.Common.{◌≡◌, ℕ, suc, ◌+◌, ◌^◌, ◌<◌, ◌≤◌, true, false, List, ◌∷◌, ◌++◌, length}
use Rattle.std.proofs.Common.{refl, sym, ap, subst, ◌∙◌, append_assoc, true≢false, arith}
use Rattle.run_model.specs.declared.call.Act.TheVariants.{Take}
use Rattle.run_model.specs.declared.reply.Reply.TheVariants.{Posted, Barred, Pending, Delivered}
use Rattle.run_model.specs.declared.reply.Reply.TheVariants.{NewComm, NullComm, Denied, NoRoom}
use Rattle.run_model.specs.declared.reply.Reply.TheVariants.{Info, Refused}
use Rattle.run_model.specs.Runs.{Entry}
use Rattle.hall_turn.specs.declared.answer.Answer.{Answer}
use Rattle.hall_turn.specs.declared.answer.Answer.TheVariants.{Reply as Replied, Exhausted}
use Rattle.hall_turn.specs.Runs.{Continues, calls_of}
use Rattle.hall_turn.specs.Known.{Known}
use Rattle.hall_turn.specs.Answers.{IsSamePass, Answered}
use Rattle.hall_turn.proofs.HallTurnLemmas.{continues_trans, continues_more, continues_self}
use Rattle.rank_run.specs.Waits.{pending_takes, last_take, tries, is_pending, Waited}
use Rattle.run_model.specs.Runs.{said}

-- so many takes of the request were answered Pending, and nothing else was called
pub record Waits (request times : ℕ) (before now : Known) : Type 0 where
  pub same : IsSamePass before now
  pub begins : Continues now.seen before.seen
  pub own : calls_of before.process now.seen
      ≡ pending_takes before.process request times ++ calls_of before.process before.seen

pub waits_none : (request : ℕ) (before : Known) → Waits request 0 before before
waits_none request before =
    record { same = (refl, refl); begins = continues_self before.seen; own = refl }

pub pending_is : (answer : Answer) → is_pending answer ≡ true → answer ≡ Replied Pending
pending_is (Replied Pending) e = refl
pending_is (Replied (Posted request)) e = absurd (true≢false (sym e))
pending_is (Replied (Barred request label)) e = absurd (true≢false (sym e))
pending_is (Replied (Delivered delivery)) e = absurd (true≢false (sym e))
pending_is (Replied (NewComm comm rank size)) e = absurd (true≢false (sym e))
pending_is (Replied NullComm) e = absurd (true≢false (sym e))
pending_is (Replied (Denied rule process label)) e = absurd (true≢false (sym e))
pending_is (Replied NoRoom) e = absurd (true≢false (sym e))
pending_is (Replied (Info size rank dims)) e = absurd (true≢false (sym e))
pending_is (Replied (Refused refusal)) e = absurd (true≢false (sym e))
pending_is Exhausted e = absurd (true≢false (sym e))

-- what a take adds to the calls of the pass's process
taken : (p request : ℕ) (answer : Answer) (now after : Known) → now.process ≡ p →
    Answered now (Take request) answer after
    →
    Continues after.seen now.seen
    × (calls_of p after.seen ≡ last_take p request answer ++ calls_of p now.seen)
    × (answer ≡ Exhausted → 2 ^ 62 ≤ length after.seen)
taken p request (Replied reply) now after is a =
    let new = said now.process (Take request) reply in (
      subst (λ (run : List Entry). Continues run now.seen) (sym a.ends)
          (continues_more a.front now.seen new a.begins),
      subst (λ (q : ℕ).
          calls_of q after.seen ≡ last_take q request (Replied reply) ++ calls_of q now.seen) is
          a.own,
      λ e. absurd (cc),
    )
taken p request Exhausted now after is a = (
  a.0.begins,
  subst (λ (q : ℕ). calls_of q after.seen ≡ calls_of q now.seen) is a.0.own,
  λ e. a.1,
)

-- one take more was answered Pending
pub waits_more : (request times : ℕ) (answer : Answer) (before now after : Known) →
    Waits request times before now
    → IsSamePass now after → Answered now (Take request) answer after → is_pending answer ≡ true →
    Waits request (times + 1) before after
waits_more request times answer before now after w same a pending =
    let p = before.process in
    let t = taken p request answer now after w.same.1 a in
    record {
      same = (same.0 ∙ w.same.0, same.1 ∙ w.same.1);
      begins = continues_trans after.seen now.seen before.seen t.0 w.begins;
      own = t.1
          ∙ ap (λ (x : Answer). last_take p request x ++ calls_of p now.seen)
          (pending_is answer pending)
          ∙ ap (λ (l : List Entry). said p (Take request) Pending ∷ l) w.own
          ∙ (let e : suc times ≡ times + 1 = omega arith in
          ap (λ n. pending_takes p request n ++ calls_of p before.seen) e);
    }

-- the last take was answered so
pub waited : (patience request times : ℕ) (answer : Answer) (before now after : Known) →
    Waits request times before now
    → Answered now (Take request) answer after → times < tries patience →
    (answer ≡ Replied Pending → times + 1 ≡ tries patience)
    → Waited patience before request answer after
waited patience request times answer before now after w a within patient =
    let p = before.process in
    let t = taken p request answer now after w.same.1 a in
    record {
      again = times;
      within = within;
      begins = continues_trans after.seen now.seen before.seen t.0 w.begins;
      own = t.1 ∙ ap (λ (l : List Entry). last_take p request answer ++ l) w.own
          ∙ sym (append_assoc (last_take p request answer) (pending_takes p request times)
          (calls_of p before.seen));
      patient = patient;
      exhausted = t.2;
    }

pub not_pending : (answer : Answer) → is_pending answer ≡ false → {A : Type 0} →
    answer ≡ Replied Pending → A
not_pending answer other is = absurd (true≢false (sym (ap is_pending is) ∙ other))
