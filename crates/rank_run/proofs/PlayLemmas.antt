-- Scripts, act by act.
use Rattle.std.proofs.Common.{◌≡◌, ℕ, zero, suc, ◌+◌, ◌*◌, ◌^◌, ◌≤◌}
use Rattle.std.proofs.Common.{List, [], ◌∷◌, ◌++◌, length, replicate, reverse, append_assoc}
use Rattle.std.proofs.Common.{length-append, append-nil, refl, sym, ap, subst, subst₂, ◌∙◌, arith}
use Rattle.std.specs.List.{All}
use Rattle.std.specs.Global.{Vec}
use Rattle.std.proofs.Math.Nat.{le-max_left, mul-le-mul_left}
use Rattle.std.proofs.lemmas.List.{reverse-append, replicate_more, length-replicate, length_push}
use Rattle.std.proofs.lemmas.List.Elements.{All-push}
use Rattle.run_model.specs.declared.call.Act.{Act}
use Rattle.run_model.specs.declared.call.Act.TheVariants.{Post as ToPost, Take, Info as ToInfo}
use Rattle.run_model.specs.declared.reply.Reply.{Reply}
use Rattle.run_model.specs.declared.reply.Reply.TheVariants.{Pending}
use Rattle.run_model.specs.Runs.{Entry}
use Rattle.run_model.specs.Known.{IsKnownReply}
use Rattle.hall_turn.specs.declared.answer.Answer.{Answer}
use Rattle.hall_turn.specs.declared.answer.Answer.TheVariants.{Reply as Replied, Exhausted}
use Rattle.hall_turn.specs.Runs.{calls_of}
use Rattle.hall_turn.specs.Known.{Known}
use Rattle.hall_turn.specs.Answers.{IsSamePass, Answered, NamesKnown}
use Rattle.rank_stage.specs.declared.standing.SentHome.{SentHome}
use Rattle.rank_run.specs.declared.rank.Job.{Job}
use Rattle.rank_run.specs.declared.rank.Ending.TheVariants.{Whole, Cut, NotBegun}
use Rattle.rank_run.specs.declared.rank.Played.{Played}
use Rattle.rank_run.specs.Waits.{pending_takes, tries, Waited}
use Rattle.run_model.specs.Runs.{said}
use Rattle.rank_run.specs.Plays.{Performs, Plays}
use Rattle.rank_run.specs.Jobs.{made, Stopped, Performed, HasPlayed}
use Rattle.rank_run.proofs.CountLemmas.{both_le, times_more}

pub reverse_replicate : {A : Type 0} (n : ℕ) (x : A) → reverse (replicate n x) ≡ replicate n x
reverse_replicate zero x = refl
reverse_replicate (suc n) x =
    let e : n + 1 ≡ suc n = omega arith in
    reverse-append (x ∷ []) (replicate n x) ∙ ap (λ l. l ++ x ∷ []) (reverse_replicate n x)
    ∙ replicate_more n x ∙ ap (λ m. replicate m x) e

-- the calls after, the oldest first, where the newest are in front of those before
made_more : (before after : Known) (new : List Entry) → IsSamePass before after
    → calls_of before.process after.seen ≡ new ++ calls_of before.process before.seen →
    made after ≡ made before ++ reverse new
made_more before after new same own =
    ap (λ p. reverse (calls_of p after.seen)) same.1 ∙ ap reverse own
    ∙ reverse-append new (calls_of before.process before.seen)

-- a call that the door did not make: no call more
stopped_at_once : (patience : ℕ) (before after : Known) → IsSamePass before after
    → calls_of before.process after.seen ≡ calls_of before.process before.seen
    → 2 ^ 62 ≤ length after.seen → Stopped patience before after
stopped_at_once patience before after same own long = record {
  calls = [];
  more = made_more before after [] same own;
  few = (let some = le-max_left 1 patience in omega arith);
  long = long;
}

pub perform_post : (patience : ℕ) (posting : _) (answer : Answer) (before after : Known)
    → IsSamePass before after → Answered before (ToPost posting) answer after
    → Performed patience before (ToPost posting) answer after
perform_post patience posting (Replied reply) before after same a =
    let new = said before.process (ToPost posting) reply ∷ [] in
    (new, refl, made_more before after new same a.own)
perform_post patience posting Exhausted before after same a =
    stopped_at_once patience before after same a.0.own a.1

pub perform_info : (patience comm : ℕ) (answer : Answer) (before after : Known)
    → IsSamePass before after → Answered before (ToInfo comm) answer after
    → Performed patience before (ToInfo comm) answer after
perform_info patience comm (Replied reply) before after same a =
    let new = said before.process (ToInfo comm) reply ∷ [] in
    (new, refl, made_more before after new same a.own)
perform_info patience comm Exhausted before after same a =
    stopped_at_once patience before after same a.0.own a.1

pub perform_take : (patience request : ℕ) (answer : Answer) (before after : Known)
    → IsSamePass before after → Waited patience before request answer after
    → Performed patience before (Take request) answer after
perform_take patience request (Replied reply) before after same w =
    let p = before.process in
    let last = said p (Take request) reply ∷ [] in
    let pending = pending_takes p request w.again in (
      pending ++ last,
      (w.again, w.within, (λ e. w.patient (ap Replied e)), refl),
      made_more before after (last ++ pending) same w.own
          ∙ ap (λ l. made before ++ l)
          (reverse-append last pending
          ∙ ap (λ l. l ++ last) (reverse_replicate w.again (said p (Take request) Pending))),
    )
perform_take patience request Exhausted before after same w =
    let once = said before.process (Take request) Pending in
    let pending = pending_takes before.process request w.again in record {
      calls = pending;
      more = made_more before after pending same w.own
          ∙ ap (λ l. made before ++ l) (reverse_replicate w.again once);
      few = (let many = length-replicate w.again once in let within = w.within in omega arith);
      long = w.exhausted refl;
    }

-- an act comes to no more calls than it may be tried
performs_few : (patience p : ℕ) (act : Act) (reply : Reply) (calls : List Entry)
    → Performs patience p act reply calls → length calls ≤ tries patience
performs_few patience p (ToPost posting) reply calls h =
    let one = ap length h in let some = le-max_left 1 patience in omega arith
performs_few patience p (ToInfo comm) reply calls h =
    let one = ap length h in let some = le-max_left 1 patience in omega arith
performs_few patience p (Take request) reply calls (again, within, patient, is) =
    let once = said p (Take request) Pending in
    let last = said p (Take request) reply ∷ [] in
    let long = ap length is in
    let sum = length-append (pending_takes p request again) last in
    let many = length-replicate again once in
    omega arith

pub plays_more : (patience p : ℕ) (script : List Act) (replies : List Reply) (calls : List Entry)
    (act : Act) (reply : Reply) (more : List Entry)
    → Plays patience p script replies calls → Performs patience p act reply more
    → Plays patience p (script ++ act ∷ []) (replies ++ reply ∷ []) (calls ++ more)
unfolding Plays
plays_more patience p [] [] calls act reply more h new =
    (more, [], ap (λ l. l ++ more) h ∙ sym (append-nil more), new, refl)
plays_more patience p [] (r ∷ replies) calls act reply more h new = absurd h
plays_more patience p (a ∷ script) [] calls act reply more h new = absurd h
plays_more patience p (a ∷ script) (r ∷ replies) calls act reply more (first, rest, is, here, there)
    new = (
      first,
      rest ++ more,
      ap (λ l. l ++ more) is ∙ append_assoc first rest more,
      here,
      plays_more patience p script replies rest act reply more there new,
    )

-- so much of a job's script was played, with these replies
pub record HasCome (patience : ℕ) (job : Job) (script : List Act) (replies : List Reply)
    (now : Known) : Type 0 where
  pub same : IsSamePass job.pass now
  pub few : length (made now) ≤ tries patience * length script
  pub plays : Plays patience job.pass.process script replies (made now)
  pub named : All (IsKnownReply job.pass.door.policy) replies

pub come_none : (patience : ℕ) (job : Job) (replies : List Reply) → job.pass.seen ≡ []
    → replies ≡ [] → HasCome patience job [] replies job.pass
unfolding Plays
come_none patience job [] unseen none =
    let nothing = ap (λ run. reverse (calls_of job.pass.process run)) unseen in record {
      same = (refl, refl);
      few = subst (λ (l : List Entry). length l ≤ tries patience * 0) (sym nothing) (omega arith);
      plays = nothing;
      named = λ k d lt. absurd (omega arith);
    }
come_none patience job (r ∷ replies) unseen none = absurd (cc)

-- the calls after one act more, or a part of it
few_more : (patience : ℕ) (before after : Known) (calls : List Entry) (script : List Act)
    (act : Act) → length (made before) ≤ tries patience * length script
    → made after ≡ made before ++ calls → length calls ≤ tries patience
    → length (made after) ≤ tries patience * length (script ++ act ∷ [])
few_more patience before after calls script act few more new =
    let e : length script + 1 ≡ suc (length script) = omega arith in
    subst₂ (λ m n. m ≤ tries patience * n)
    (sym (ap length more ∙ length-append (made before) calls))
    (sym (length_push script act ∙ e))
    (times_more (tries patience) (length script) (length (made before)) (length calls) few new)

pub come_more : (patience : ℕ) (job : Job) (script : List Act) (replies all : List Reply)
    (act : Act) (answer : Answer) (reply : Reply) (now after : Known)
    → HasCome patience job script replies now → IsSamePass now after
    → Performed patience now act answer after → answer ≡ Replied reply
    → all ≡ replies ++ reply ∷ [] → NamesKnown job.pass.door.policy answer
    → HasCome patience job (script ++ act ∷ []) all after
come_more patience job script replies all act answer reply now after h same performed is pushed
    known =
    let p = job.pass.process in
    let wall = job.pass.door.policy in
    let new = subst (λ (a : Answer). Performed patience now act a after) is performed in
    let comes = subst (λ q. Performs patience q act reply new.0) h.same.1 new.1 in
    let more = plays_more patience p script replies (made now) act reply new.0 h.plays comes in
    record {
      same = (same.0 ∙ h.same.0, same.1 ∙ h.same.1);
      few = few_more patience now after new.0 script act h.few new.2
          (performs_few patience p act reply new.0 comes);
      plays = subst₂
          (λ (l : List Reply) (calls : List Entry). Plays patience p (script ++ act ∷ []) l calls)
          (sym pushed) (sym new.2) more;
      named = subst (All (IsKnownReply wall)) (sym pushed)
          (All-push (IsKnownReply wall) replies reply h.named (subst (NamesKnown wall) is known));
    }

-- the whole script was played
pub come_whole : (patience : ℕ) (job : Job) (script : List Act) (played : Played)
    → HasCome patience job script played.replies.items played.pass → script ≡ job.script.items
    → played.ending ≡ Whole → HasPlayed patience job played
come_whole patience job script played h is whole = record {
  same = h.same;
  few = subst (λ s. length (made played.pass) ≤ tries patience * length s) is h.few;
  whole = λ e. subst
      (λ s. Plays patience job.pass.process s played.replies.items (made played.pass)) is h.plays;
  cut = λ e. absurd (cc);
  not_begun = λ home e. absurd (cc);
  named = h.named;
}

-- the door was exhausted at an act
pub come_cut : (patience : ℕ) (job : Job) (script rest : List Act) (act : Act) (answer : Answer)
    (now : Known) (played : Played) → HasCome patience job script played.replies.items now
    → IsSamePass now played.pass → Performed patience now act answer played.pass
    → answer ≡ Exhausted → (script ++ act ∷ []) ++ rest ≡ job.script.items
    → played.ending ≡ Cut → HasPlayed patience job played
come_cut patience job script rest act answer now played h same performed is all cut =
    let s = subst (λ (a : Answer). Performed patience now act a played.pass) is performed in
    let few = few_more patience now played.pass s.calls script act h.few s.more
    (let less = s.few in omega arith) in
    let long = ap length all in
    let sum = length-append (script ++ act ∷ []) rest in
    let less : length (script ++ act ∷ []) ≤ length job.script.items = omega arith in
    let times = mul-le-mul_left (tries patience) less in
    record {
      same = (same.0 ∙ h.same.0, same.1 ∙ h.same.1);
      few = both_le (length (made played.pass)) (tries patience * length (script ++ act ∷ []))
          (tries patience * length job.script.items) few times;
      whole = λ e. absurd (cc);
      cut = λ e. s.long;
      not_begun = λ home e. absurd (cc);
      named = h.named;
    }

-- the run was given up before the job began
pub come_not_begun : (patience : ℕ) (job : Job) (played : Played) → job.pass.seen ≡ []
    → job.replies.items ≡ [] → played.pass ≡ job.pass → played.replies ≡ job.replies
    → (home : SentHome) → played.ending ≡ NotBegun home → HasPlayed patience job played
come_not_begun patience job played unseen none pass replies home ending =
    let nothing : made played.pass ≡ [] =
    ap made pass ∙ ap (λ run. reverse (calls_of job.pass.process run)) unseen in record {
      same = (ap (λ (p : Known). p.door) pass, ap (λ (p : Known). p.process) pass);
      few = subst (λ (l : List Entry). length l ≤ tries patience * length job.script.items)
          (sym nothing) (omega arith);
      whole = λ e. absurd (cc);
      cut = λ e. absurd (cc);
      not_begun = λ other e. (pass, replies);
      named = subst (All (IsKnownReply job.pass.door.policy))
          (sym (ap (λ (v : Vec Reply). v.items) replies ∙ none)) (λ k d lt. absurd (omega arith));
    }
