-- Jobs that are handed out and served.
use Rattle.std.proofs.Common.{◌≡◌, ◌∙◌, ℕ, zero, suc, ◌<◌, ◌≤◌, get_or, true, false, List, []}
use Rattle.std.proofs.Common.{◌∷◌, ◌++◌, length, Option, Some}
use Rattle.std.proofs.Common.{Result, Ok, Err, IfOk, refl, sym, ap, subst, subst₂}
use Rattle.std.proofs.Common.{append-nil, append_assoc, arith}
use Rattle.std.specs.Prelude.{IsOk}
use Rattle.std.proofs.lemmas.Bool.{false≢true}
use Rattle.std.specs.Global.{Vec}
use Rattle.std.specs.List.{All}
use Rattle.std.proofs.lemmas.List.{map-append, get_or-map, length-map}
use Rattle.std.proofs.lemmas.List.FromFn.{get_or-map-range_with_len}
use Rattle.std.specs.declared.thread.PromisedHandle.{PromisedHandle}
use Rattle.live_session.specs.declared.peer.Job.{Job}
use Rattle.live_session.specs.declared.peer.Played.{Played}
use Rattle.live_session.specs.declared.peer.Serving.{Serving}
use Rattle.live_session.specs.Joining.{HasServed, AllServed, handed, passes_of, peers_of}
use Rattle.live_session.specs.Joining.{passes_in, end_of, ends_of, end_in, ends_in, IsFresh}
use Rattle.live_session.specs.Joining.{ArePrepared, HaveEnded}
use Rattle.live_session.specs.Hearing.{DeskLog}
use Rattle.live_session.specs.Sessions.{Stood, IsWithin}
use Rattle.live_session.specs.Sittings.{at, Sits, SitsIfBegun}
use Rattle.live_session.specs.declared.ending.Closing.{Closing}
use Rattle.live_session.proofs.SittingLemmas.{sits_posts}
use Rattle.live_session.specs.Served.{SessionOf, ServedAll}
use Rattle.live_session.specs.declared.peer.Peer.{Peer}
use Rattle.live_session.specs.declared.peer.Session.{Session}
use Rattle.live_session.specs.declared.run.Ended.{Ended}
use Rattle.wall_policy.specs.Policy.{ChineseWall}
use Rattle.run_model.specs.Comms.{processes}
use Rattle.run_model.specs.Replies.{Legal}
use Rattle.run_model.specs.Runs.{Entry, posts}
use Rattle.hall_turn.specs.Runs.{calls_of}
use Rattle.hall_turn.specs.Receipts.{Covered}
use Rattle.hall_turn.specs.Known.{Known, Doorway}
use Rattle.hall_turn.specs.Answers.{new_pass, new_passes}
use Rattle.hall_turn.specs.Ending.{HasMade, ClosedTo}
use Rattle.hall_turn.proofs.HallTurnLemmas.{passes_length}

none_left : {A : Type 0} (rest : List A) → length rest ≡ 0 → rest ≡ []
none_left [] e = refl
none_left (x ∷ rest) e = absurd (omega arith)

-- nothing is left, so these were all
pub all_yielded : {A : Type 0} (done rest all : List A) → done ++ rest ≡ all → length rest ≡ 0 →
    done ≡ all
all_yielded done rest all whole none = sym (append-nil done)
    ∙ ap (λ l. done ++ l) (sym (none_left rest none)) ∙ whole

module _ (stood : ChineseWall → List Entry → Option Covered → Type 0)
    {M S O : Type 0} (fails : S → ℕ) (left : S → Option (List ℕ))
    (heard : S → DeskLog) (failures : O → ℕ) (contents : O → Option (List ℕ)) where
  abbrev Served : Job M S O → Played M S O → Type 0
  Served job played = HasServed stood fails left heard failures contents job played

  abbrev Each : List (Job M S O) → List (Played M S O) → Type 0
  Each jobs all = AllServed stood fails left heard failures contents jobs all

  push_served : (jobs : List (Job M S O)) (all : List (Played M S O)) (job : Job M S O)
      (played : Played M S O) → Each jobs all → Served job played →
      Each (jobs ++ job ∷ []) (all ++ played ∷ [])
  push_served [] [] job played h new = (new, tt)
  push_served (j ∷ jobs) (x ∷ all) job played h new =
      (h.0, push_served jobs all job played h.1 new)
  push_served [] (x ∷ all) job played h new = absurd h
  push_served (j ∷ jobs) [] job played h new = absurd h

  pub none_served : (all : List (Played M S O)) → all ≡ [] → Each [] all
  none_served [] e = tt
  none_served (x ∷ all) e = absurd cc

  pub more_served : (handles : List (PromisedHandle (Played M S O) (Serving M S O)))
      (handle : PromisedHandle (Played M S O) (Serving M S O)) (before after : List (Played M S O))
      (played : Played M S O) → Each (handed handles) before →
      Served handle.promise.0.value played → after ≡ before ++ played ∷ [] →
      Each (handed (handles ++ handle ∷ [])) after
  more_served handles handle before after played h new pushed =
      subst₂ (λ (l : List (Job M S O)) (m : List (Played M S O)). Each l m)
      (sym (map-append (λ (x : PromisedHandle (Played M S O) (Serving M S O)). x.promise.0.value)
      handles (handle ∷ [])))
      (sym pushed)
      (push_served (handed handles) before handle.promise.0.value played h new)

  -- all jobs were handed out
  pub all_handed : {E : Type 0} (r : Result (Vec (Played M S O)) E)
      (jobs done left_over : List (Job M S O))
      (handles : List (PromisedHandle (Played M S O) (Serving M S O))) → handed handles ≡ done →
      done ++ left_over ≡ jobs → length left_over ≡ 0 →
      IfOk r (λ all. Each (handed handles) all.items) → IfOk r (λ all. Each jobs all.items)
  all_handed (Ok all) jobs done left_over handles are whole none h =
      subst (λ (l : List (Job M S O)). Each l all.items)
      (are ∙ all_yielded done left_over jobs whole none) h
  all_handed (Err e) jobs done left_over handles are whole none h = tt

-- nothing comes of it where it cannot be so
pub refused : {A B E F : Type 0} (r : Result A E) (told : Result B F) (P : A → Type 0) →
    IfOk told (λ _. false ≡ true) → IfOk r (λ _. IsOk told) → IfOk r P
refused (Ok x) (Ok begun) P none h = absurd cc
refused (Ok x) (Err e) P none h = absurd (false≢true h)
refused (Err e) told P none h = tt

-- no more posts of a process count than its session made calls
session_posts : {S O : Type 0} (stood : ChineseWall → List Entry → Option Covered → Type 0)
    (most : Option ℕ) (fails : S → ℕ) (left : S → Option (List ℕ)) (heard : S → DeskLog)
    (failures : O → ℕ) (contents : O → Option (List ℕ)) (wall : ChineseWall) (door : Doorway)
    (run : List Entry) (p : ℕ) (pass : Known) (peer : Peer S O) (session : Session S O) →
    calls_of p run ≡ calls_of p pass.seen →
    Sits stood most fails left heard failures contents wall
    (at peer.source peer.sink (new_pass door p)) (at session.peer.source session.peer.sink pass)
    session.closing →
    IsWithin most (length (posts (calls_of p run)))
session_posts stood most fails left heard failures contents wall door run p pass peer session own
    s = subst (λ (l : List Entry). IsWithin most (length (posts l))) (sym own)
    (sits_posts stood most fails left heard failures contents wall p
    (at peer.source peer.sink (new_pass door p)) (at session.peer.source session.peer.sink pass)
    session.closing refl (omega arith) s)

same_append : {A : Type 0} (xs ys : List A) (x y : A) → xs ≡ ys → x ≡ y →
    xs ++ x ∷ [] ≡ ys ++ y ∷ []
same_append xs ys x y e f = cc

same_pair : {A B : Type 0} {a c : A} {b d : B} → a ≡ c → b ≡ d →
    ◌≡◌ {A = A × B} (a, b) (c, d)
same_pair e f = cc

module _ {M S O : Type 0} where
  pub shared_passes : (jobs : List (Job M S O)) (job : Job M S O) (rest : List Known) →
      passes_of (jobs ++ job ∷ []) ++ rest ≡ passes_of jobs ++ job.pass ∷ rest
  shared_passes jobs job rest =
      ap (λ (l : List Known). l ++ rest) (map-append (λ (j : Job M S O). j.pass) jobs (job ∷ []))
      ∙ append_assoc (passes_of jobs) (job.pass ∷ []) rest

  pub shared_peers : (jobs : List (Job M S O)) (job : Job M S O) →
      peers_of (jobs ++ job ∷ []) ≡ peers_of jobs ++ job.peer ∷ []
  shared_peers jobs job = map-append (λ (j : Job M S O). j.peer) jobs (job ∷ [])

  pub one_pass_more : (done : List (Played M S O)) (played : Played M S O)
      (before after : List Known) →
      before ≡ passes_in done → after ≡ before ++ played.pass ∷ [] →
      after ≡ passes_in (done ++ played ∷ [])
  one_pass_more done played before after are pushed = pushed
      ∙ ap (λ (l : List Known). l ++ played.pass ∷ []) are
      ∙ sym (map-append (λ (p : Played M S O). p.pass) done (played ∷ []))

  pub one_end_more : (done : List (Played M S O)) (played : Played M S O)
      (before after : List (Session S O)) (session : Session S O) → ends_of before ≡ ends_in done →
      after ≡ before ++ session ∷ [] → session.peer ≡ played.peer →
      played.ended ≡ Some session.closing → ends_of after ≡ ends_in (done ++ played ∷ [])
  one_end_more done played before after session are pushed peer ended =
      ap (ends_of {S = S} {O = O}) pushed
      ∙ map-append (end_of {S = S} {O = O}) before (session ∷ [])
      ∙ same_append (ends_of before) (ends_in done) (end_of session) (end_in played) are
      (same_pair peer (sym ended))
      ∙ sym (map-append (end_in {M = M} {S = S} {O = O}) done (played ∷ []))

  -- the jobs of a new door
  jobs_long : (door : Doorway) (n : ℕ) (jobs : List (Job M S O)) →
      passes_of jobs ≡ new_passes door n → length jobs ≡ n
  jobs_long door n jobs are =
      sym (length-map jobs (λ (j : Job M S O). j.pass)) ∙ passes_length door n (passes_of jobs) are

  pass_at : (door : Doorway) (n : ℕ) (jobs : List (Job M S O)) (i : ℕ) (d : Job M S O) →
      passes_of jobs ≡ new_passes door n → i < length jobs →
      (get_or jobs i d).pass ≡ new_pass door i
  pass_at door n jobs i d are lt =
      let long = jobs_long door n jobs are in
      sym (get_or-map (λ (j : Job M S O). j.pass) jobs i d d.pass lt)
      ∙ ap (λ (l : List Known). get_or l i d.pass) are
      ∙ get_or-map-range_with_len (new_pass door) 0 n i i d.pass (omega arith) (omega arith)

  pub all_fresh : (most : Option ℕ) (wall : ChineseWall) (peers : List (Peer S O))
      (door : Doorway) (jobs : List (Job M S O)) → ArePrepared most wall peers door jobs →
      All (IsFresh door) jobs
  all_fresh most wall peers door jobs p = λ k d lt.
      let pass = pass_at door (processes wall) jobs k d p.passes lt in record {
        door_is = ap (λ (x : Known). x.door) pass;
        unseen = ap (λ (x : Known). x.seen) pass;
      }

module _ (stood : ChineseWall → List Entry → Option Covered → Type 0)
    {M S O : Type 0} (fails : S → ℕ) (left : S → Option (List ℕ))
    (heard : S → DeskLog) (failures : O → ℕ) (contents : O → Option (List ℕ)) where
  -- the job at a place, with what became of it
  record ServedAt (jobs : List (Job M S O)) (all : List (Played M S O)) (i : ℕ) : Type 0 where
    pub job : Job M S O
    pub played : Played M S O
    pub job_is : (d : Job M S O) → get_or jobs i d ≡ job
    pub played_is : (d : Played M S O) → get_or all i d ≡ played
    pub has : HasServed stood fails left heard failures contents job played

  served_at : (jobs : List (Job M S O)) (all : List (Played M S O)) (i : ℕ) → i < length jobs →
      AllServed stood fails left heard failures contents jobs all → ServedAt jobs all i
  served_at [] [] i lt h = absurd (omega arith)
  served_at (j ∷ jobs) (x ∷ all) zero lt h =
      record { job = j; played = x; job_is = (λ d. refl); played_is = (λ d. refl); has = h.0 }
  served_at (j ∷ jobs) (x ∷ all) (suc i) lt h =
      let at = served_at jobs all i (omega arith) h.1 in
      record {
        job = at.job;
        played = at.played;
        job_is = at.job_is;
        played_is = at.played_is;
        has = at.has;
      }
  served_at [] (x ∷ all) i lt h = absurd h
  served_at (j ∷ jobs) [] i lt h = absurd h

  pub served_long : (jobs : List (Job M S O)) (all : List (Played M S O)) →
      AllServed stood fails left heard failures contents jobs all → length all ≡ length jobs
  served_long [] [] h = refl
  served_long (j ∷ jobs) (x ∷ all) h = ap suc (served_long jobs all h.1)
  served_long [] (x ∷ all) h = absurd h
  served_long (j ∷ jobs) [] h = absurd h

  module _ (most : Option ℕ) (wall : ChineseWall) (peers : List (Peer S O)) (door : Doorway)
      (jobs : List (Job M S O)) (ended : Ended M S O) (p : ArePrepared most wall peers door jobs)
      (h : HaveEnded stood fails left heard failures contents jobs ended) where
    many_jobs : length jobs ≡ processes wall
    many_jobs = jobs_long door (processes wall) jobs p.passes

    many_served : length h.all ≡ processes wall
    many_served = served_long jobs h.all h.served ∙ many_jobs

    pub many_sessions : length ended.sessions.items ≡ processes wall
    many_sessions =
        sym (length-map ended.sessions.items (end_of {S = S} {O = O}))
        ∙ ap length h.sessions ∙ length-map h.all (end_in {M = M} {S = S} {O = O})
        ∙ many_served

    pub all_come : processes door.policy ≤ length ended.passes.items
    all_come =
        let back = many_served in
        let many = ap length h.passes ∙ length-map h.all (λ (x : Played M S O). x.pass) in
        let same = ap (λ (w : ChineseWall). processes w) p.policy in omega arith

    pass_in : (i : ℕ) (d : Known) (x : Played M S O) → i < length h.all →
        get_or ended.passes.items i d ≡ (get_or h.all i x).pass
    pass_in i d x lt = ap (λ (l : List Known). get_or l i d) h.passes
        ∙ get_or-map (λ (y : Played M S O). y.pass) h.all i x d lt

    pub come_back : All (λ pass. pass.door ≡ door) ended.passes.items
    come_back = λ k d lt.
        let back = many_served in
        let jobs_are = many_jobs in
        let many = ap length h.passes ∙ length-map h.all (λ (x : Played M S O). x.pass) in
        let in_all : k < length h.all = omega arith in
        let low : k < length jobs = omega arith in
        let at = served_at jobs h.all k low h.served in
        ap (λ (x : Known). x.door)
        (pass_in k d at.played in_all ∙ ap (λ (x : Played M S O). x.pass) (at.played_is at.played))
        ∙ at.has.same.0 ∙ sym (ap (λ (x : Job M S O). x.pass.door) (at.job_is at.job))
        ∙ ap (λ (x : Known). x.door)
        (pass_at door (processes wall) jobs k at.job p.passes low)

    pub session_of : (run : List Entry) → All (HasMade run) ended.passes.items → (i : ℕ)
        (d : Peer S O) (e : Session S O) → i < processes wall →
        SessionOf fails left heard failures contents stood most wall run door i (get_or peers i d)
        (get_or ended.sessions.items i e)
    session_of run each i d e lt =
        let back = many_served in
        let jobs_are = many_jobs in
        let low : i < length jobs = omega arith in
        let in_all : i < length h.all = omega arith in
        let here = served_at jobs h.all i low h.served in
        let j = here.job in
        let x = here.played in
        let k = x.pass in
        let many = ap length h.passes ∙ length-map h.all (λ (y : Played M S O). y.pass) in
        let in_passes : i < length ended.passes.items = omega arith in
        let pass_is : get_or ended.passes.items i k ≡ k =
        pass_in i k x in_all ∙ ap (λ (y : Played M S O). y.pass) (here.played_is x) in
        let own : HasMade run k = subst (HasMade run) pass_is (each i k in_passes) in
        let pass : j.pass ≡ new_pass door i =
        ap (λ (y : Job M S O). y.pass) (sym (here.job_is j))
        ∙ pass_at door (processes wall) jobs i j p.passes low in
        let number : k.process ≡ i = here.has.same.1 ∙ ap (λ (y : Known). y.process) pass in
        let peer_is : get_or peers i d ≡ j.peer =
        ap (λ (l : List (Peer S O)). get_or l i d) (sym p.peers_are)
        ∙ get_or-map (λ (y : Job M S O). y.peer) jobs i j d low
        ∙ ap (λ (y : Job M S O). y.peer) (here.job_is j) in
        let session = get_or ended.sessions.items i e in
        let none = end_in x in
        let in_sessions = many_sessions in
        let told : end_of session ≡ end_in x =
        sym (get_or-map (end_of {S = S} {O = O}) ended.sessions.items i e none (omega arith))
        ∙ ap (λ (l : List (Peer S O × Option Closing)). get_or l i none) h.sessions
        ∙ get_or-map (end_in {M = M} {S = S} {O = O}) h.all i x none in_all
        ∙ ap (end_in {M = M} {S = S} {O = O}) (here.played_is x) in
        let wall_is : j.pass.door.policy ≡ wall =
        ap (λ (y : Known). y.door.policy) pass ∙ p.policy in
        let bound_is : j.most ≡ most =
        subst (λ (y : Job M S O). y.most ≡ most) (here.job_is j) (p.bounds i j low) in
        let served : Sits stood most fails left heard failures contents wall
        (at (get_or peers i d).source (get_or peers i d).sink (new_pass door i))
        (at session.peer.source session.peer.sink k) session.closing =
        subst (λ (y : Peer S O). Sits stood most fails left heard failures contents wall
        (at y.source y.sink (new_pass door i)) (at session.peer.source session.peer.sink k)
        session.closing)
        (sym peer_is)
        (subst (λ (y : Peer S O × Option Closing). SitsIfBegun stood most fails left heard failures
        contents wall (at j.peer.source j.peer.sink (new_pass door i))
        (at y.0.source y.0.sink k) y.1) (sym told)
        (subst (λ (b : Known). SitsIfBegun stood most fails left heard failures contents wall
        (at j.peer.source j.peer.sink b) (at x.peer.source x.peer.sink k) x.ended) pass
        (subst (λ (w : ChineseWall). SitsIfBegun stood most fails left heard failures contents w
        (at j.peer.source j.peer.sink j.pass) (at x.peer.source x.peer.sink k) x.ended) wall_is
        (subst (λ (m : Option ℕ). SitsIfBegun stood m fails left heard failures contents
        j.pass.door.policy (at j.peer.source j.peer.sink j.pass)
        (at x.peer.source x.peer.sink k) x.ended) bound_is
        here.has.so)))) in
        let mine : calls_of i run ≡ calls_of i k.seen =
        subst (λ (q : ℕ). calls_of q run ≡ calls_of q k.seen) number own.own in
        record {
          pass = k;
          begins = own.begins;
          own = mine;
          served = served;
          posted = session_posts stood most fails left heard failures contents wall door run i k
              (get_or peers i d) session mine served;
        }

module _ {M : Type 0} (stands : ChineseWall → M → List Entry → Type 0) (booked : M → Option Covered)
    {S O : Type 0} (fails : S → ℕ) (left : S → Option (List ℕ))
    (heard : S → DeskLog) (failures : O → ℕ) (contents : O → Option (List ℕ))
    (most : Option ℕ) (wall : ChineseWall) (peers : List (Peer S O)) (door : Doorway)
    (jobs : List (Job M S O)) (ended : Ended M S O) (p : ArePrepared most wall peers door jobs)
    (h : HaveEnded (Stood stands booked) fails left heard failures contents jobs ended) where
  pub served_all : (machine : M) → ClosedTo stands door.policy machine ended.passes.items →
      ServedAll fails left heard failures contents stands booked most wall peers
      ended.sessions.items machine
  served_all machine closed = record {
    door = door;
    run = closed.run;
    door_is = p.policy;
    legal = subst (λ (w : ChineseWall). Legal w closed.run) p.policy closed.legal;
    stood = subst (λ (w : ChineseWall). stands w machine closed.run) p.policy closed.stood;
    count = many_sessions (Stood stands booked) fails left heard failures contents most wall peers
        door jobs ended p h;
    each = λ i d e lt. session_of (Stood stands booked) fails left heard failures contents most
        wall peers door jobs ended p h closed.run closed.each i d e lt;
    others = λ i le. closed.others i
        (subst (λ (w : ChineseWall). processes w ≤ i) (sym p.policy) le);
  }
