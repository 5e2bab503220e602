-- Worked rows.
use Rattle.std.proofs.Common.{List, [], ◌∷◌, ◌++◌, length, length-append, refl, ap, arith}
use Rattle.std.proofs.lemmas.List.{length-replicate}
use Rattle.run_model.specs.Runs.{Entry}
use Rattle.rank_run.specs.Waits.{pending_takes}
use Rattle.rank_run.specs.Plays.{Plays}
use Rattle.rank_run.specs.Rows.{ScriptWaits, ScriptGivesUp, ActsLeftOut, WaitEnds, WaitOnce}
use Rattle.rank_run.specs.Rows.{WaitGivesUp, waits_for, ends, other}

pub script_waits : ScriptWaits
unfolding Plays
script_waits = λ posting. (
  _,
  waits_for ∷ waits_for ∷ ends ∷ [],
  refl,
  refl,
  (waits_for ∷ waits_for ∷ ends ∷ [], [], refl, (2, omega arith, (λ e. absurd (cc)), refl), refl),
)

pub script_gives_up : ScriptGivesUp
unfolding Plays
script_gives_up = λ h.
    let first = h.0 in
    let none = ap (λ (l : List Entry). length l) h.4 in
    let all = ap (λ (l : List Entry). length l) h.2 in
    let sum = length-append first h.1 in
    let made = h.3 in
    let last = ap (λ (l : List Entry). length l) made.3 in
    let parts = length-append (pending_takes 2 0 made.0) (waits_for ∷ []) in
    let many = length-replicate made.0 waits_for in
    let patient = made.2 refl in
    absurd (omega arith)

pub acts_left_out : ActsLeftOut
unfolding Plays
acts_left_out = λ h.
    let one = ap (λ (l : List Entry). length l) h.3 in
    let all = ap (λ (l : List Entry). length l) h.2 in
    let sum = length-append h.0 h.1 in
    let rest = h.4 in
    let two = ap (λ (l : List Entry). length l) rest.3 in
    let more = ap (λ (l : List Entry). length l) rest.2 in
    let sum' = length-append rest.0 rest.1 in
    absurd (omega arith)

pub wait_ends : WaitEnds
wait_ends = λ door. record {
  again = 1;
  within = omega arith;
  begins = (waits_for ∷ other ∷ waits_for ∷ [], refl);
  own = refl;
  patient = λ e. refl;
  exhausted = λ e. absurd (cc);
}

pub wait_once : WaitOnce
wait_once = λ door. record {
  again = 0;
  within = omega arith;
  begins = (waits_for ∷ [], refl);
  own = refl;
  patient = λ e. refl;
  exhausted = λ e. absurd (cc);
}

pub wait_gives_up : WaitGivesUp
wait_gives_up = λ door w.
    let own = ap (λ (l : List Entry). length l) w.own in
    let sum = length-append (waits_for ∷ []) (pending_takes 2 0 w.again) in
    let sum' = length-append (waits_for ∷ [] ++ pending_takes 2 0 w.again) [] in
    let many = length-replicate w.again waits_for in
    let patient = w.patient refl in
    absurd (omega arith)
