-- Jobs that are handed out and played.
use Rattle.std.proofs.Common.{◌≡◌, ℕ, zero, suc, ◌+◌, ◌*◌, ◌^◌, ◌<◌, ◌≤◌}
use Rattle.std.proofs.Common.{Bool, ◌||◌, ◌&&◌, true, false, true≢false}
use Rattle.std.proofs.Common.{List, [], ◌∷◌, ◌++◌, length, map, take, get_or, reverse}
use Rattle.std.proofs.Common.{append_assoc, append-nil}
use Rattle.std.proofs.Common.{vec_items, vec_capacity, Global, refl, sym, ap, subst}
use Rattle.std.proofs.Common.{◌∙◌, arith}
use Rattle.std.specs.List.{All, AllZip, sum_by, fold, list_all, list_any}
use Rattle.std.proofs.Math.Nat.{mul-le-mul_left, mul-add}
use Rattle.std.proofs.lemmas.List.{get_or-map, length-map, length-reverse, map-append}
use Rattle.std.proofs.lemmas.List.Elements.{All-push}
use Rattle.std.proofs.lemmas.List.FromFn.{get_or-map-range_with_len}
use Rattle.std.proofs.lemmas.List.Sums.{sum_by_more, sum_by-take-le}
use Rattle.std.proofs.lemmas.Bool.{and_parts}
use Rattle.wall_policy.specs.Policy.{ChineseWall}
use Rattle.run_model.specs.Comms.{processes}
use Rattle.run_model.specs.declared.call.Act.{Act}
use Rattle.run_model.specs.declared.reply.Reply.{Reply}
use Rattle.run_model.specs.Replies.{Legal}
use Rattle.hall_core.specs.Halls.{HallValue}
use Rattle.run_model.specs.Known.{HasKnownLabel, IsKnownReply, ScriptsHaveKnownLabels}
use Rattle.hall_turn.specs.Runs.{Continues, calls_of}
use Rattle.hall_turn.specs.Known.{Doorway, Known}
use Rattle.hall_turn.specs.Answers.{new_pass, new_passes}
use Rattle.hall_turn.specs.Ending.{HasMade, Closed}
use Rattle.hall_turn.proofs.HallTurnLemmas.{passes_length, continues_length}
use Rattle.rank_run.specs.declared.rank.Job.{Job}
use Rattle.rank_run.specs.declared.rank.Ending.{Ending}
use Rattle.rank_run.specs.declared.rank.Ending.TheVariants.{Whole, Cut, NotBegun}
use Rattle.rank_run.specs.declared.rank.Played.{Played}
use Rattle.rank_run.specs.declared.rank.Sent.{Sent}
use Rattle.rank_run.specs.declared.rank.Sent.TheVariants.{Away, Home}
use Rattle.rank_run.specs.Waits.{tries}
use Rattle.rank_run.specs.Plays.{Plays}
use Rattle.rank_run.specs.Jobs.{made, IsFresh, HasPlayed, HaveRoom, AllPlayed}
use Rattle.rank_run.specs.Jobs.{joined, ending_of}
use Rattle.rank_run.specs.Jobs.{IsSent, AllSent, HasComeBack, AllCameBack}
use Rattle.rank_run.specs.Jobs.{passes_of, scripts_of, passes_in, replies_in}
use Rattle.rank_run.specs.Jobs.{scripts_shared, AreRoomy}
use Rattle.rank_run.specs.declared.ready.Share.{Share}
use Rattle.rank_run.specs.Ran.{IsRun, Ran, most_turns}
use Rattle.rank_run.proofs.CountLemmas.{calls_below, calls_whole, sum_le, both_le}

-- ---- pairs of lists, element by element

push_each : {A B : Type 0} (R : A → B → Type 0) (xs : List A) (ys : List B) (x : A) (y : B)
    → AllZip R xs ys → R x y → AllZip R (xs ++ x ∷ []) (ys ++ y ∷ [])
push_each R [] [] x y h new = (new, tt)
push_each R (a ∷ xs) (b ∷ ys) x y h new = (h.0, push_each R xs ys x y h.1 new)
push_each R [] (b ∷ ys) x y h new = absurd h
push_each R (a ∷ xs) [] x y h new = absurd h

-- one more job was sent
pub one_sent : (patience : ℕ) (jobs : List Job) (before after : List Sent) (job : Job) (sent : Sent)
    → AllSent patience jobs before → IsSent patience job sent → after ≡ before ++ sent ∷ []
    → AllSent patience (jobs ++ job ∷ []) after
one_sent patience jobs before after job sent h new pushed =
    subst (AllSent patience (jobs ++ job ∷ [])) (sym pushed)
    (push_each (IsSent patience) jobs before job sent h new)

pub none_back : (patience : ℕ) (all : List Played) → all ≡ [] → AllCameBack patience [] all
none_back patience [] e = tt
none_back patience (x ∷ all) e = absurd (cc)

-- one more came back
pub one_back : (patience : ℕ) (all : List Sent) (before after : List Played) (sent : Sent)
    (played : Played)
    → AllCameBack patience all before → HasComeBack patience sent played
    → after ≡ before ++ played ∷ [] → AllCameBack patience (all ++ sent ∷ []) after
one_back patience all before after sent played h new pushed =
    subst (AllCameBack patience (all ++ sent ∷ [])) (sym pushed)
    (push_each (HasComeBack patience) all before sent played h new)

-- a job that was sent and has come back was played
comes_back : (patience : ℕ) (job : Job) (sent : Sent) (played : Played) → IsSent patience job sent
    → HasComeBack patience sent played → HasPlayed patience job played
comes_back patience job (Away handle) played is back =
    subst (λ j. HasPlayed patience j played) is back
comes_back patience job (Home home) played is back = subst (HasPlayed patience job) (sym back) is

pub all_played : (patience : ℕ) (jobs : List Job) (sent : List Sent) (all : List Played)
    → AllSent patience jobs sent → AllCameBack patience sent all → AllPlayed patience jobs all
all_played patience [] [] [] h back = tt
all_played patience (j ∷ jobs) (s ∷ sent) (x ∷ all) h back =
    (comes_back patience j s x h.0 back.0, all_played patience jobs sent all h.1 back.1)
all_played patience [] (s ∷ sent) all h back = absurd h
all_played patience (j ∷ jobs) [] all h back = absurd h
all_played patience [] [] (x ∷ all) h back = absurd back
all_played patience (j ∷ jobs) (s ∷ sent) [] h back = absurd back

-- all jobs were sent, and have come back
pub all_done : (patience : ℕ) (jobs yielded rest : List Job) (sent : List Sent) (all : List Played)
    → yielded ++ rest ≡ jobs → length rest ≡ 0 → AllSent patience yielded sent
    → AllCameBack patience sent all → AllPlayed patience jobs all
all_done patience jobs yielded [] sent all is none h back =
    subst (λ js. AllPlayed patience js all) (sym (append-nil yielded) ∙ is)
    (all_played patience yielded sent all h back)
all_done patience jobs yielded (j ∷ rest) sent all is none h back = absurd (omega (arith, none))

-- the job at a place, with what became of it
pub record PlayedAt (patience : ℕ) (jobs : List Job) (all : List Played) (i : ℕ) : Type 0 where
  pub job : Job
  pub played : Played
  pub job_is : (d : Job) → get_or jobs i d ≡ job
  pub played_is : (d : Played) → get_or all i d ≡ played
  pub has : HasPlayed patience job played

pub played_at : (patience : ℕ) (jobs : List Job) (all : List Played) (i : ℕ) → i < length jobs
    → AllPlayed patience jobs all → PlayedAt patience jobs all i
played_at patience [] [] i lt h = absurd (omega arith)
played_at patience (j ∷ jobs) (x ∷ all) zero lt h =
    record { job = j; played = x; job_is = (λ d. refl); played_is = (λ d. refl); has = h.0 }
played_at patience (j ∷ jobs) (x ∷ all) (suc i) lt h =
    let at = played_at patience jobs all i (omega arith) h.1 in
    record {
      job = at.job;
      played = at.played;
      job_is = at.job_is;
      played_is = at.played_is;
      has = at.has;
    }
played_at patience [] (x ∷ all) i lt h = absurd h
played_at patience (j ∷ jobs) [] i lt h = absurd h

pub played_long : (patience : ℕ) (jobs : List Job) (all : List Played) → AllPlayed patience jobs all
    → length all ≡ length jobs
played_long patience [] [] h = refl
played_long patience (j ∷ jobs) (x ∷ all) h = ap suc (played_long patience jobs all h.1)
played_long patience [] (x ∷ all) h = absurd h
played_long patience (j ∷ jobs) [] h = absurd h

-- one of them was cut short
pub record CutAt (all : List Played) : Type 0 where
  pub i : ℕ
  pub low : i < length all
  pub cut : (d : Played) → (get_or all i d).ending ≡ Cut

abbrev is_whole : Ending → Bool
is_whole Whole = true
is_whole Cut = false
is_whole (NotBegun home) = false

abbrev is_cut : Ending → Bool
is_cut Whole = false
is_cut Cut = true
is_cut (NotBegun home) = false

-- whether each job was played to its end
abbrev pub are_whole : List Played → Bool
are_whole all = list_all (λ played. is_whole played.ending) all

-- whether one of the jobs was cut
abbrev pub has_cut : List Played → Bool
has_cut all = list_any (λ played. is_cut played.ending) all

cut_is : (ending : Ending) → is_cut ending ≡ true → ending ≡ Cut
cut_is Whole e = absurd (true≢false (sym e))
cut_is Cut e = refl
cut_is (NotBegun home) e = absurd (true≢false (sym e))

whole_is : (ending : Ending) → is_whole ending ≡ true → ending ≡ Whole
whole_is Whole e = refl
whole_is Cut e = absurd (true≢false (sym e))
whole_is (NotBegun home) e = absurd (true≢false (sym e))

cut_at : (all : List Played) → has_cut all ≡ true → CutAt all
cut_at [] e = absurd (true≢false (sym e))
cut_at (x ∷ all) e =
    elim (is_cut x.ending) as (λ b. (is_cut x.ending ≡ b) → ((b || has_cut all) ≡ true)
    → CutAt (x ∷ all)) [
      | true ↦ λ is f. record { i = 0; low = omega arith; cut = λ d. cut_is x.ending is }
      | false ↦ λ is f. (let c = cut_at all f in
          record { i = suc c.i; low = (let l = c.low in omega arith); cut = c.cut })
    ] refl e

-- two endings are whole together if both are
both_whole : (one other : Ending) → joined one other ≡ Whole → (one ≡ Whole) × (other ≡ Whole)
both_whole Whole other e = (refl, e)
both_whole Cut other e = absurd (cc)
both_whole (NotBegun home) Whole e = absurd (cc)
both_whole (NotBegun home) Cut e = absurd (cc)
both_whole (NotBegun home) (NotBegun later) e = absurd (cc)

-- and cut together if one is
one_cut : (one other : Ending) → is_cut (joined one other) ≡ (is_cut one || is_cut other)
one_cut Whole other = refl
one_cut Cut other = refl
one_cut (NotBegun home) Whole = refl
one_cut (NotBegun home) Cut = refl
one_cut (NotBegun home) (NotBegun later) = refl

or_more : (a b c : Bool) → ((a || b) || c) ≡ (a || (b || c))
or_more true b c = refl
or_more false b c = refl

-- the ending of all behind one more
abbrev ending_from : Ending → List Played → Ending
ending_from ending all = fold (λ (e : Ending) (x : Played). joined e x.ending) ending all

wholes : (ending : Ending) (all : List Played) → ending_from ending all ≡ Whole
    → (ending ≡ Whole) × (are_whole all ≡ true)
wholes ending [] e = (e, refl)
wholes ending (x ∷ all) e =
    let rest = wholes (joined ending x.ending) all e in
    let both = both_whole ending x.ending rest.0 in
    (both.0, ap (λ (y : Ending). is_whole y && are_whole all) both.1 ∙ rest.1)

cuts : (ending : Ending) (all : List Played) → ending_from ending all ≡ Cut
    → (is_cut ending || has_cut all) ≡ true
cuts ending [] e = ap (λ (y : Ending). is_cut y || false) e
cuts ending (x ∷ all) e =
    sym (or_more (is_cut ending) (is_cut x.ending) (has_cut all))
    ∙ sym (ap (λ b. b || has_cut all) (one_cut ending x.ending))
    ∙ cuts (joined ending x.ending) all e

-- what the ending of all tells
pub ends_whole : (all : List Played) → ending_of all ≡ Whole → are_whole all ≡ true
ends_whole all e = (wholes Whole all e).1

pub ends_cut : (all : List Played) → ending_of all ≡ Cut → has_cut all ≡ true
ends_cut all e = cuts Whole all e

pub whole_at : (all : List Played) (i : ℕ) (d : Played) → are_whole all ≡ true → i < length all
    → (get_or all i d).ending ≡ Whole
whole_at [] i d e lt = absurd (omega arith)
whole_at (x ∷ all) zero d e lt =
    whole_is x.ending (and_parts (is_whole x.ending) (are_whole all) e).0
whole_at (x ∷ all) (suc i) d e lt =
    whole_at all i d (and_parts (is_whole x.ending) (are_whole all) e).1 (omega arith)

-- the jobs of a new door: as many as its passes
pub jobs_long : (door : Doorway) (n : ℕ) (jobs : List Job) → passes_of jobs ≡ new_passes door n →
    length jobs ≡ n
jobs_long door n jobs are =
    sym (length-map jobs (λ (j : Job). j.pass)) ∙ passes_length door n (passes_of jobs) are

pub pass_at : (door : Doorway) (n : ℕ) (jobs : List Job) (i : ℕ) (d : Job) →
    passes_of jobs ≡ new_passes door n → i < length jobs
    → (get_or jobs i d).pass ≡ new_pass door i
pass_at door n jobs i d are lt =
    let long = jobs_long door n jobs are in
    sym (get_or-map (λ (j : Job). j.pass) jobs i d d.pass lt)
    ∙ ap (λ (l : List Known). get_or l i d.pass) are
    ∙ get_or-map-range_with_len (new_pass door) 0 n i i d.pass (omega arith) (omega arith)

pub script_at : (jobs : List Job) (scripts : List (List Act)) (i : ℕ) (d : Job) (e : List Act) →
    scripts_of jobs ≡ scripts → i < length jobs
    → get_or scripts i e ≡ (get_or jobs i d).script.items
script_at jobs scripts i d e are lt = ap (λ (l : List (List Act)). get_or l i e) (sym are)
    ∙ get_or-map (λ (j : Job). j.script.items) jobs i d e lt

-- jobs at a new door have not begun
pub all_fresh : (door : Doorway) (n : ℕ) (jobs : List Job) (scripts : List (List Act)) →
    passes_of jobs ≡ new_passes door n → scripts_of jobs ≡ scripts
    → HaveRoom jobs → ScriptsHaveKnownLabels door.policy scripts → All (IsFresh door) jobs
all_fresh door n jobs scripts passes are room labels = λ k d lt.
    let pass = pass_at door n jobs k d passes lt in
    let long : k < length scripts = (let a = ap length are in
    let b = length-map jobs (λ (j : Job). j.script.items) in omega arith) in
    record {
      door_is = ap (λ (p : Known). p.door) pass;
      unseen = ap (λ (p : Known). p.seen) pass;
      none = (room k d lt).0;
      room = (room k d lt).1;
      labels = subst (All (HasKnownLabel door.policy))
          (script_at jobs scripts k d d.script.items are lt) (labels k d.script.items long);
    }

pub pass_in : (all : List Played) (passes : List Known) (i : ℕ) (d : Known) (x : Played)
    → passes ≡ passes_in all → i < length all → get_or passes i d ≡ (get_or all i x).pass
pass_in all passes i d x is lt =
    ap (λ (l : List Known). get_or l i d) is ∙ get_or-map (λ (y : Played). y.pass) all i x d lt

-- the passes that come back are those of the door
pub all_back : (patience : ℕ) (door : Doorway) (jobs : List Job) (all : List Played)
    (passes : List Known) → All (IsFresh door) jobs → AllPlayed patience jobs all
    → passes ≡ passes_in all → All (λ pass. pass.door ≡ door) passes
all_back patience door jobs all passes fresh played is = λ k d lt.
    let back = played_long patience jobs all played in
    let many = ap length is in
    let map = length-map all (λ (x : Played). x.pass) in
    let in_all : k < length all = omega arith in
    let low : k < length jobs = omega arith in
    let at = played_at patience jobs all k low played in
    let j = at.job in
    ap (λ (p : Known). p.door)
    (pass_in all passes k d at.played is in_all
    ∙ ap (λ (x : Played). x.pass) (at.played_is at.played))
    ∙ at.has.same.0 ∙ sym (ap (λ (x : Job). x.pass.door) (at.job_is j)) ∙ (fresh k j low).door_is

-- a door that was opened, handed to threads and closed
pub record Story (patience : ℕ) (wall : ChineseWall) (scripts : List (List Act)) (door : Doorway)
    (jobs : List Job) (all : List Played) (passes : List Known) (hall : HallValue) : Type 0 where
  pub same : door.policy ≡ wall
  pub are : passes_of jobs ≡ new_passes door (processes wall)
  pub scripts_are : scripts_of jobs ≡ scripts
  pub played : AllPlayed patience jobs all
  pub back : passes ≡ passes_in all
  pub closed : Closed door.policy hall passes

module _ (patience : ℕ) (wall : ChineseWall) (scripts : List (List Act)) (door : Doorway)
    (jobs : List Job) (all : List Played) (passes : List Known) (hall : HallValue)
    (story : Story patience wall scripts door jobs all passes hall) where
  -- what became of the script of a process
  pub record RankAt (p : ℕ) : Type 0 where
    pub job : Job
    pub played : Played
    pub played_is : (d : Played) → get_or all p d ≡ played
    pub has : HasPlayed patience job played
    pub number : job.pass.process ≡ p
    pub door_is : job.pass.door ≡ door
    pub calls : made played.pass ≡ reverse (calls_of p story.closed.run)
    pub begins : Continues story.closed.run played.pass.seen
    pub script : (d : List Act) → get_or scripts p d ≡ job.script.items
    pub low : p < length all

  pub many_jobs : length jobs ≡ processes wall
  many_jobs = jobs_long door (processes wall) jobs story.are

  pub many_played : length all ≡ processes wall
  many_played = played_long patience jobs all story.played ∙ many_jobs

  pub many_scripts : length scripts ≡ processes wall
  many_scripts =
      ap length (sym story.scripts_are) ∙ length-map jobs (λ (j : Job). j.script.items) ∙ many_jobs

  pub rank_at : (p : ℕ) → p < processes wall → RankAt p
  rank_at p lt =
      let n = processes wall in
      let run = story.closed.run in
      let jobs_are = many_jobs in
      let all_are = many_played in
      let low : p < length jobs = omega arith in
      let in_all : p < length all = omega arith in
      let at = played_at patience jobs all p low story.played in
      let j = at.job in
      let k = at.played.pass in
      let back = ap length story.back in
      let map = length-map all (λ (x : Played). x.pass) in
      let in_passes : p < length passes = omega arith in
      let pass_is : get_or passes p k ≡ k =
      pass_in all passes p k at.played story.back in_all
      ∙ ap (λ (x : Played). x.pass) (at.played_is at.played) in
      let own : HasMade run k = subst (HasMade run) pass_is (story.closed.each p k in_passes) in
      let pass : j.pass ≡ new_pass door p =
      ap (λ (x : Job). x.pass) (sym (at.job_is j)) ∙ pass_at door n jobs p j story.are low in
      let number : j.pass.process ≡ p = ap (λ (x : Known). x.process) pass in
      record {
        job = j;
        played = at.played;
        played_is = at.played_is;
        has = at.has;
        number = number;
        door_is = ap (λ (x : Known). x.door) pass;
        calls = ap reverse (sym own.own ∙ ap (λ q. calls_of q run) (at.has.same.1 ∙ number));
        begins = own.begins;
        script = λ d. script_at jobs scripts p j d story.scripts_are low
            ∙ ap (λ (x : Job). x.script.items) (at.job_is j);
        low = in_all;
      }

  -- the replies of a process
  pub replies_at : (p : ℕ) (at : RankAt p) (d : List Reply)
      → get_or (map vec_items (replies_in all)) p d ≡ at.played.replies.items
  replies_at p at d =
      let x = at.played in
      let low = at.low in
      let map = length-map all (λ (y : Played). y.replies) in
      get_or-map vec_items (replies_in all) p x.replies d (omega arith)
      ∙ ap vec_items (get_or-map (λ (y : Played). y.replies) all p x x.replies low
      ∙ ap (λ (y : Played). y.replies) (at.played_is x))

  -- where all were played to their ends, the calls of each process are those of its script
  came : are_whole all ≡ true
      → IsRun patience wall scripts (map vec_items (replies_in all)) story.closed.run
  came whole = record {
    legal = subst (λ w. Legal w story.closed.run) story.same story.closed.legal;
    scripts_are = many_scripts;
    replies_are = length-map (replies_in all) vec_items
        ∙ length-map all (λ (y : Played). y.replies) ∙ many_played;
    each = λ p lt.
        let at = rank_at p lt in
        let x = at.played in
        let one : x.ending ≡ Whole =
        sym (ap (λ (y : Played). y.ending) (at.played_is x)) ∙ whole_at all p x whole at.low in
        let calls = reverse (calls_of p story.closed.run) in
        subst (λ s. Plays patience p s (get_or (map vec_items (replies_in all)) p []) calls)
        (sym (at.script []))
        (subst (λ r. Plays patience p at.job.script.items r calls) (sym (replies_at p at []))
        (subst (λ l. Plays patience p at.job.script.items x.replies.items l) at.calls
        (subst (λ q. Plays patience q at.job.script.items x.replies.items (made x.pass)) at.number
        (at.has.whole one))));
    others = λ p le. story.closed.others p (subst (λ w. processes w ≤ p) (sym story.same) le);
    named = λ p d lt.
        let long = length-map (replies_in all) (vec_items {X = Reply} {Z = Global}) in
        let map = length-map all (λ (y : Played). y.replies) in
        let many = many_played in
        let at = rank_at p (omega arith) in
        subst (All (IsKnownReply wall)) (sym (replies_at p at d))
        (subst (λ w. All (IsKnownReply w) at.played.replies.items)
        (ap (λ (x : Doorway). x.policy) at.door_is ∙ story.same) at.has.named);
  }

  -- and the hall stands for that run
  pub ran : are_whole all ≡ true → Ran patience wall scripts (map vec_items (replies_in all)) hall
  ran whole = record {
    run = story.closed.run;
    is = came whole;
    policy = story.closed.stood.0 ∙ story.same;
    stands = story.closed.stood.1;
  }

  -- the calls of the first processes are no more than their scripts take at most
  few_below : (n : ℕ) → n ≤ processes wall
      → calls_below n story.closed.run ≤ tries patience * sum_by length (take n scripts)
  few_below zero le = omega arith
  few_below (suc n) le =
      let t = tries patience in
      let run = story.closed.run in
      let at = rank_at n (omega arith) in
      let many = many_scripts in
      let low : n < length scripts = omega arith in
      let before = few_below n (omega arith) in
      let script = at.job.script.items in
      let own : length (calls_of n run) ≤ t * length script =
      subst (λ m. m ≤ t * length script) (ap length at.calls ∙ length-reverse (calls_of n run))
      at.has.few in
      let s = sum_by length (take n scripts) in
      let e : n + 1 ≡ suc n = omega arith in
      let one : sum_by length (take (suc n) scripts) ≡ s + length script =
      ap (λ m. sum_by length (take m scripts)) (sym e) ∙ sum_by_more length scripts n [] low
      ∙ ap (λ l. s + length l) (at.script []) in
      subst (λ m. calls_below (suc n) run ≤ t * m) (sym one)
      (subst (λ m. calls_below (suc n) run ≤ m) (sym (mul-add t s (length script)))
      (sum_le (calls_below n run) (t * s) (length (calls_of n run)) (t * length script) before own))

  -- where one was cut, the scripts could take 2^62 turns
  pub cut_short : has_cut all ≡ true → 2 ^ 62 ≤ most_turns patience scripts
  cut_short cut =
      let c = cut_at all cut in
      let n = processes wall in
      let t = tries patience in
      let run = story.closed.run in
      let low = c.low in
      let many = many_played in
      let at = rank_at c.i (omega arith) in
      let one : at.played.ending ≡ Cut =
      sym (ap (λ (y : Played). y.ending) (at.played_is at.played)) ∙ c.cut at.played in
      let long = at.has.cut one in
      let seen = continues_length run at.played.pass.seen at.begins in
      let all_calls = calls_whole n run
      (λ p le. story.closed.others p (subst (λ w. processes w ≤ p) (sym story.same) le)) in
      let few = few_below n (omega arith) in
      let less = mul-le-mul_left t (sum_by-take-le (λ (x : List Act). length x) scripts n) in
      both_le (2 ^ 62) (t * sum_by length (take n scripts)) (most_turns patience scripts)
      (both_le (2 ^ 62) (calls_below n run) (t * sum_by length (take n scripts)) (omega arith) few)
      less

pub shared_passes : (jobs : List Job) (job : Job) (rest : List Known) →
    passes_of (jobs ++ job ∷ []) ++ rest ≡ passes_of jobs ++ (job.pass ∷ rest)
shared_passes jobs job rest =
    ap (λ (l : List Known). l ++ rest) (map-append (λ (j : Job). j.pass) jobs (job ∷ []))
    ∙ append_assoc (passes_of jobs) (job.pass ∷ []) rest

pub shares_scripts : (shares : List Share) (share : Share) →
    scripts_shared (shares ++ share ∷ []) ≡ scripts_shared shares ++ share.script.items ∷ []
shares_scripts shares share = map-append (λ (s : Share). s.script.items) shares (share ∷ [])

pub shares_room : (shares : List Share) (share : Share) → AreRoomy shares →
    share.replies.items ≡ [] → length share.script.items ≤ vec_capacity share.replies
    → AreRoomy (shares ++ share ∷ [])
shares_room shares share room none fits =
    All-push
    (λ (s : Share). (s.replies.items ≡ []) × (length s.script.items ≤ vec_capacity s.replies))
    shares share room (none, fits)

pub shared_scripts : (jobs : List Job) (job : Job) →
    scripts_of (jobs ++ job ∷ []) ≡ scripts_of jobs ++ job.script.items ∷ []
shared_scripts jobs job = map-append (λ (j : Job). j.script.items) jobs (job ∷ [])

pub shared_room : (jobs : List Job) (job : Job) → HaveRoom jobs → job.replies.items ≡ [] →
    length job.script.items ≤ vec_capacity job.replies
    → HaveRoom (jobs ++ job ∷ [])
shared_room jobs job room none fits =
    All-push
    (λ (j : Job). (j.replies.items ≡ []) × (length j.script.items ≤ vec_capacity j.replies))
    jobs job room (none, fits)
