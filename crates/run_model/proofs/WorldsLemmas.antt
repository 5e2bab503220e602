-- Two worlds are one to the wall.
use Rattle.std.proofs.Common.{◌≡◌, ◌≢◌, ℕ, List, [], ◌∷◌, length, map, refl, sym, ap, ◌∙◌}
use Rattle.std.proofs.Common.{Bool, true, false, not, ◌&&◌, ◌||◌, cond, Option, Some, None}
use Rattle.std.proofs.Common.{slice_get, option_map}
use Rattle.std.specs.Prelude.{◌==◌, unwrap_or, count_by}
use Rattle.std.specs.List.{cons_option}
use Rattle.std.proofs.lemmas.Option.{slice_get-map}
use Rattle.wall_labels.specs.declared.label.Label.{Label}
use Rattle.wall_policy.specs.Policy.{ChineseWall}
use Rattle.mpi_elems.specs.Elements.{Element}
use Rattle.mpi_elems.specs.Contents.{Contents, contents}
use Rattle.mpi_group.specs.Groups.{rank_in}
use Rattle.mpi_cart.specs.Grids.{below}
use Rattle.coll_routes.specs.declared.roll.Roll.{Roll}
use Rattle.coll_routes.specs.declared.statement.Stated.{Stated}
use Rattle.coll_values.specs.declared.full.Full.{Full}
use Rattle.coll_values.specs.Instances.{elements_in, part}
use Rattle.coll_values.specs.Values.{value}
use Rattle.coll_values.specs.Forms.{form_of_elements, form_of_part, form, AgreeInForm}
use Rattle.coll_values.proofs.CollValuesLemmas.{forms_are_of_forms, one_form}
use Rattle.wall_verdict.specs.Star.{star}
use Rattle.run_model.specs.declared.outcome.Outcome.{Outcome}
use Rattle.run_model.specs.declared.outcome.Outcome.TheVariants.{Granted, Denied as DeniedBy}
use Rattle.run_model.specs.declared.outcome.Outcome.TheVariants.{Made as MadeComms}
use Rattle.run_model.specs.declared.outcome.Outcome.TheVariants.{NoRoom as NoneMade}
use Rattle.run_model.specs.declared.refusal.Refusal.{Refusal}
use Rattle.run_model.specs.declared.refusal.Refusal.TheVariants.{TooManyRequests, NoSuchRequest}
use Rattle.run_model.specs.Comms.{Comm, new_comms}
use Rattle.run_model.specs.Posts.{Post, comms, instance, histories, outcome_at}
use Rattle.run_model.specs.Refusals.{or_else, fault}
use Rattle.run_model.specs.Books.{book}
use Rattle.run_model.specs.Contributions.{Contribution, full_at}
use Rattle.run_model.specs.declared.call.Posting.{Posting}
use Rattle.run_model.specs.declared.call.Act.{Act}
use Rattle.run_model.specs.declared.call.Act.TheVariants.{Post as ToPost, Take, Info as ToInfo}
use Rattle.run_model.specs.declared.reply.Reply.{Reply}
use Rattle.run_model.specs.declared.reply.Reply.TheVariants.{Posted, Barred, Delivered, Refused}
use Rattle.run_model.specs.Runs.{Entry, Effects, effects, contribution_by, given_in}
use Rattle.run_model.specs.Runs.{contribution_in, statement, counted, requests}
use Rattle.run_model.specs.Runs.{is_outcome, takes, after_entry}
use Rattle.run_model.specs.Replies.{posts_made, is_limit_reached, refusal, accepted}
use Rattle.run_model.specs.Replies.{reply_to_post, joined, reply_by_outcome, comm_at, reply_to_take}
use Rattle.run_model.specs.Replies.{reply_by, reply, IsAnswer}
use Rattle.run_model.specs.Worlds.{SamePostingButForValues, SameActButForValues}
use Rattle.run_model.specs.Worlds.{SameCallButForValues, AreTwoWorlds, form_of_reply}
use Rattle.run_model.specs.Worlds.{SameButForNumbers, RepliesSameButForNumbers, WallSeesOne}
use Rattle.run_model.specs.Worlds.{AtEachTurn, ValuesDecideNothing, PrefixesOfWorldsAreWorlds}
use Rattle.run_model.proofs.RunLemmas.{one_reply_is_due}
use Rattle.run_model.proofs.SeenLemmas.{View, seen, seen_all, same_posts, pairs}
use Rattle.coll_values.proofs.CollValuesLemmas.{map_cons_option}
use Rattle.run_model.proofs.SeenLemmas.{of_pair, parts_are, own_parts_are}

-- ## what two runs have made that look the same

-- through this view the posts look the same, and the same requests were taken
pub record LookTheSame (view : View Contents (List Element)) (m n : Effects) : Type 0 where
  pub contributions : seen_all view m.contributions ≡ seen_all view n.contributions
  pub taken : m.taken ≡ n.taken

pub one_past : (view : View Contents (List Element)) (m n : Effects) → LookTheSame view m n →
    posts_made m ≡ posts_made n
one_past view m n same = same_posts view m.contributions n.contributions same.contributions

-- elements without their numbers
abbrev pub forms : View Contents (List Element)
forms s x = form_of_part x

-- ## instances

form_at : (o : Option (Stated × Contents)) →
    form_of_elements (elements_in (option_map (λ (q : Stated × Contents). q.1) o))
    ≡ unwrap_or (option_map (of_pair forms) o) []
form_at None = refl
form_at (Some q) = refl

form_of_rank : (comm : Comm) (c k : ℕ) (past : List (Contribution Contents)) (i : ℕ) →
    form_of_elements (part (full_at comm c k past) i)
    ≡ unwrap_or (slice_get (map (of_pair forms) (pairs comm c k past)) i) []
form_of_rank comm c k past i =
    ap (λ ps. form_of_elements (elements_in (slice_get ps i))) (own_parts_are comm c k past)
    ∙ (ap (λ o. form_of_elements (elements_in o))
    (slice_get-map (λ (q : Stated × Contents). q.1) (pairs comm c k past) i)
    ∙ (form_at (slice_get (pairs comm c k past) i)
    ∙ ap (λ o. unwrap_or o []) (sym (slice_get-map (of_pair forms) (pairs comm c k past) i))))

pub pairs_look_same : {Y : Type 0} (view : View Contents Y) (comm : Comm) (c k : ℕ)
    (past other : List (Contribution Contents)) → seen_all view past ≡ seen_all view other →
    map (of_pair view) (pairs comm c k past) ≡ map (of_pair view) (pairs comm c k other)
pairs_look_same view comm c k past other same =
    sym (parts_are comm c k past view)
    ∙
    (ap
    (λ gs. Rattle.run_model.specs.Contributions.parts_in
    (Rattle.run_model.specs.Contributions.kth_parts comm c k gs)) same
    ∙ parts_are comm c k other view)

pub instances_agree : (comm : Comm) (c k : ℕ) (past other : List (Contribution Contents)) →
    seen_all forms past ≡ seen_all forms other →
    AgreeInForm (full_at comm c k past) (full_at comm c k other)
instances_agree comm c k past other same = record {
  roll = ap (λ ps. instance comm c k ps) (same_posts forms past other same);
  forms = λ i low. form_of_rank comm c k past i
      ∙ (ap (λ es. unwrap_or (slice_get es i) []) (pairs_look_same forms comm c k past other same)
      ∙ sym (form_of_rank comm c k other i));
}

-- ## replies

outcome_told : (p : ℕ) (F G : Full Contents) (o : Option Outcome) → AgreeInForm F G →
    form_of_reply (reply_by_outcome p F o) ≡ form_of_reply (reply_by_outcome p G o)
outcome_told p F G None agree = refl
outcome_told p F G (Some Granted) agree =
    ap (λ bs. Delivered bs) (forms_are_of_forms F G (unwrap_or (rank_in F.roll.members p) 0) agree
    ∙ ap (λ (r : Roll). form (value G (unwrap_or (rank_in r.members p) 0))) agree.roll)
outcome_told p F G (Some (DeniedBy rule q label)) agree = refl
outcome_told p F G (Some (MadeComms first number)) agree =
    ap (λ (r : Roll). form_of_reply (joined p first (new_comms r))) agree.roll
outcome_told p F G (Some NoneMade) agree = refl

-- the reply to a post, by what it is due to
abbrev post_reply : ChineseWall → List Post → (p : ℕ) → (given : ℕ) → Label → Option Refusal → Reply
post_reply wall past p given label (Some why) = Refused why
post_reply wall past p given label None =
    accepted (star (histories wall past) p (Rattle.run_model.specs.Runs.label_if given label))
    (length (requests p past)) label

post_reply_is : (wall : ChineseWall) (m : Effects) (p : ℕ) (posting : Posting) (o : Option Refusal)
    →
    reply_to_post wall m p posting o ≡ post_reply wall (posts_made m) p (given_in posting)
    posting.label o
post_reply_is wall m p posting (Some why) = refl
post_reply_is wall m p posting None = refl

module _ (view : View Contents (List Element)) (wall : ChineseWall) (m n : Effects)
    (same : LookTheSame view m n) where
  past_same : posts_made m ≡ posts_made n
  past_same = one_past view m n same

  -- posts are told the same
  pub posts_told : (p : ℕ) (a b : Posting) → SamePostingButForValues a b →
      reply_by wall m p (ToPost a) ≡ reply_by wall n p (ToPost b)
  posts_told p a b one =
      post_reply_is wall m p a (refusal wall m p a)
      ∙ ((λ i. post_reply wall (past_same i) p (one.elements.number i) (one.label i) (or_else
      (fault wall (past_same i) p (one.comm i) (one.sig i) (one.own i) (one.elements.of_type i)
      (one.elements.number i))
      (cond
      (is_limit_reached
      (count_by (λ r. not (same.taken i p r)) (below (length (requests p (past_same i)))))
      (length (requests p (past_same i)))) (Some TooManyRequests) None)))
      ∙ sym (post_reply_is wall n p b (refusal wall n p b)))

  pub infos_told : (p c : ℕ) → reply_by wall m p (ToInfo c) ≡ reply_by wall n p (ToInfo c)
  infos_told p c =
      ap
      (λ past. cond
      (Rattle.std.specs.Prelude.nat_lt p (Rattle.run_model.specs.Comms.processes wall))
      (Rattle.run_model.specs.Replies.info_on p (slice_get (comms wall past) c))
      (Refused Rattle.run_model.specs.declared.refusal.Refusal.TheVariants.NoSuchProcess))
      past_same

module _ (wall : ChineseWall) (m n : Effects) (same : LookTheSame forms m n) where
  past_one : posts_made m ≡ posts_made n
  past_one = one_past forms m n same

  instance_told : (p c k : ℕ) → form_of_reply
      (reply_by_outcome p (full_at (comm_at wall (posts_made m) c) c k m.contributions)
      (outcome_at wall c k (posts_made m)))
      ≡ form_of_reply
      (reply_by_outcome p (full_at (comm_at wall (posts_made n) c) c k n.contributions)
      (outcome_at wall c k (posts_made n)))
  instance_told p c k =
      outcome_told p (full_at (comm_at wall (posts_made m) c) c k m.contributions)
      (full_at (comm_at wall (posts_made m) c) c k n.contributions)
      (outcome_at wall c k (posts_made m))
      (instances_agree (comm_at wall (posts_made m) c) c k m.contributions n.contributions
      same.contributions)
      ∙ ap
      (λ past. form_of_reply (reply_by_outcome p (full_at (comm_at wall past c) c k n.contributions)
      (outcome_at wall c k past))) past_one

  refused_or : (s t : Bool) (a b : Reply) → s ≡ t → form_of_reply a ≡ form_of_reply b →
      form_of_reply (cond s (Refused NoSuchRequest) a)
      ≡ form_of_reply (cond t (Refused NoSuchRequest) b)
  refused_or true true a b e h = refl
  refused_or false false a b e h = h
  refused_or true false a b e h = absurd (cc)
  refused_or false true a b e h = absurd (cc)

  request_told : (p r : ℕ) (o : Option (ℕ × ℕ)) → form_of_reply (reply_to_take wall m p r o)
      ≡ form_of_reply (reply_to_take wall n p r o)
  request_told p r None = refl
  request_told p r (Some (c, k)) =
      refused_or (m.taken p r) (n.taken p r) _ _ (λ i. same.taken i p r) (instance_told p c k)

  takes_told : (p r : ℕ) → form_of_reply (reply_by wall m p (Take r))
      ≡ form_of_reply (reply_by wall n p (Take r))
  takes_told p r =
      request_told p r (slice_get (requests p (posts_made m)) r)
      ∙ ap (λ past. form_of_reply (reply_to_take wall n p r (slice_get (requests p past) r)))
      past_one

  -- replies are the same but for numbers
  pub replies_told : (p : ℕ) (act other : Act) → SameActButForValues act other →
      form_of_reply (reply_by wall m p act) ≡ form_of_reply (reply_by wall n p other)
  replies_told p (ToPost a) (ToPost b) one =
      ap form_of_reply (posts_told forms wall m n same p a b one)
  replies_told p (Take r) (Take s) one =
      takes_told p r ∙ ap (λ k. form_of_reply (reply_by wall n p (Take k))) one
  replies_told p (ToInfo c) (ToInfo d) one =
      ap form_of_reply (infos_told forms wall m n same p c)
      ∙ ap (λ k. form_of_reply (reply_by wall n p (ToInfo k))) one
  replies_told p (ToPost a) (Take r) one = absurd one
  replies_told p (ToPost a) (ToInfo c) one = absurd one
  replies_told p (Take r) (ToPost a) one = absurd one
  replies_told p (Take r) (ToInfo c) one = absurd one
  replies_told p (ToInfo c) (ToPost a) one = absurd one
  replies_told p (ToInfo c) (Take r) one = absurd one

-- ## one entry more

outcome_of_form : (a : Reply) → is_outcome (form_of_reply a) ≡ is_outcome a
outcome_of_form (Delivered blocks) = refl
outcome_of_form other = refl

same_takes : (act other : Act) → SameActButForValues act other → takes act ≡ takes other
same_takes (ToPost a) (ToPost b) one = refl
same_takes (Take r) (Take s) one = ap (λ k. takes (Take k)) one
same_takes (ToInfo c) (ToInfo d) one = refl
same_takes (ToPost a) (Take r) one = absurd one
same_takes (ToPost a) (ToInfo c) one = absurd one
same_takes (Take r) (ToPost a) one = absurd one
same_takes (Take r) (ToInfo c) one = absurd one
same_takes (ToInfo c) (ToPost a) one = absurd one
same_takes (ToInfo c) (Take r) one = absurd one

pub same_statement : (a b : Posting) (barred : Bool) → SamePostingButForValues a b →
    statement a barred ≡ statement b barred
same_statement a b barred one =
    λ i. record {
      sig = one.sig i;
      own = one.own i;
      given = one.elements.number i;
      label =
          Rattle.run_model.specs.Runs.label_if (one.elements.number i) (one.label i);
      barred = barred;
    }

-- through this view the elements of two postings look the same, if they passed
abbrev pub PassLookingTheSame : View Contents (List Element) → Act → Act → Reply → Type 0
PassLookingTheSame view act other got =
    (a b : Posting) (r : ℕ) → act ≡ ToPost a → other ≡ ToPost b → got ≡ Posted r →
    view (statement a false) a.elements ≡ view (statement b false) b.elements

module _ (view : View Contents (List Element)) (p q : ℕ) (same : p ≡ q) where
  post_seen : (a b : Posting) (got : Reply) → SamePostingButForValues a b →
      PassLookingTheSame view (ToPost a) (ToPost b) got →
      option_map (seen view) (contribution_by p (counted (ToPost a) got))
      ≡ option_map (seen view) (contribution_by q (counted (ToPost b) got))
  post_seen a b (Posted r) one pass =
      λ i. Some
      (record {
        post = record {
          process = same i;
          comm = one.comm i;
          stated =
              same_statement a b false one i;
        };
        part = pass a b r refl refl refl i;
      })
  post_seen a b (Barred r label) one pass =
      λ i. Some
      (record {
        post = record {
          process = same i;
          comm = one.comm i;
          stated =
              same_statement a b true one i;
        };
        part =
            view (same_statement a b true one i) (contents (one.elements.of_type i) [] 0);
      })
  post_seen a b other one pass = refl

  entry_seen : (act other : Act) (got : Reply) → SameActButForValues act other →
      PassLookingTheSame view act other got →
      option_map (seen view) (contribution_by p (counted act got))
      ≡ option_map (seen view) (contribution_by q (counted other got))
  entry_seen (ToPost a) (ToPost b) got one pass = post_seen a b got one pass
  entry_seen (Take r) (Take s) got one pass = refl
  entry_seen (ToInfo c) (ToInfo d) got one pass = refl
  entry_seen (ToPost a) (Take r) got one pass = absurd one
  entry_seen (ToPost a) (ToInfo c) got one pass = absurd one
  entry_seen (Take r) (ToPost a) got one pass = absurd one
  entry_seen (Take r) (ToInfo c) got one pass = absurd one
  entry_seen (ToInfo c) (ToPost a) got one pass = absurd one
  entry_seen (ToInfo c) (Take r) got one pass = absurd one

-- what is counted of two replies to a post that are equal, and of two others to the same act
same_count : (view : View Contents (List Element)) (p : ℕ) (act : Act) (got told : Reply) →
    ((a : Posting) → act ≡ ToPost a → got ≡ told) →
    option_map (seen view) (contribution_by p (counted act got))
    ≡ option_map (seen view) (contribution_by p (counted act told))
same_count view p (ToPost a) got told same =
    ap (λ g. option_map (seen view) (contribution_by p (counted (ToPost a) g))) (same a refl)
same_count view p (Take r) got told same = refl
same_count view p (ToInfo c) got told same = refl

module _ (view : View Contents (List Element)) (m n : Effects) (e f : Entry)
    (same : LookTheSame view m n) (calls : SameCallButForValues e.call f.call)
    (replies : SameButForNumbers e.reply f.reply)
    (posts_same : (b : Posting) → f.call.act ≡ ToPost b → e.reply ≡ f.reply)
    (pass : PassLookingTheSame view e.call.act f.call.act e.reply) where
  pub step_looks_same : LookTheSame view (after_entry m e) (after_entry n f)
  step_looks_same =
      let outcomes : is_outcome e.reply ≡ is_outcome f.reply =
      sym (outcome_of_form e.reply) ∙ (ap is_outcome replies ∙ outcome_of_form f.reply) in
      let entries : option_map (seen view) (contribution_in e)
      ≡ option_map (seen view) (contribution_in f) =
      entry_seen view e.call.process f.call.process calls.process e.call.act f.call.act e.reply
      calls.act pass
      ∙ same_count view f.call.process f.call.act e.reply f.reply posts_same in
      let takes_one = same_takes e.call.act f.call.act calls.act in
      record {
        contributions = map_cons_option (seen view) (contribution_in e) m.contributions
            ∙ ((λ i. cons_option (entries i) (same.contributions i))
            ∙ sym (map_cons_option (seen view) (contribution_in f) n.contributions));
        taken = λ i p r. calls.process i == p && takes_one i r && outcomes i || same.taken i p r;
      }

-- ## runs

pub due : (wall : ChineseWall) (run : List Entry) (e : Entry) →
    IsAnswer (reply wall run e.call) e.reply →
    e.reply ≢ Refused Rattle.run_model.specs.declared.refusal.Refusal.TheVariants.NoMemory →
    e.reply ≡ reply_by wall (effects run) e.call.process e.call.act
unfolding reply
due wall run e is memory = one_reply_is_due wall run e.call e.reply is memory

pub older : (wall : ChineseWall) (e f : Entry) (run other : List Entry) →
    AreTwoWorlds wall (e ∷ run) (f ∷ other) → AreTwoWorlds wall run other
older wall e f run other w = record {
  first = w.first.0;
  second = w.second.0;
  first_memory =
      w.first_memory.0;
  second_memory = w.second_memory.0;
  calls = w.calls.1;
}

module _ (wall : ChineseWall) (run other : List Entry) (e f : Entry)
    (w : AreTwoWorlds wall (e ∷ run) (f ∷ other)) where
  pub first_due : e.reply ≡ reply_by wall (effects run) e.call.process e.call.act
  first_due = due wall run e w.first.1 w.first_memory.1

  pub second_due : f.reply ≡ reply_by wall (effects other) f.call.process f.call.act
  second_due = due wall other f w.second.1 w.second_memory.1

  module _ (same : LookTheSame forms (effects run) (effects other)) where
    pub reply_told : SameButForNumbers e.reply f.reply
    reply_told =
        ap form_of_reply first_due
        ∙ (replies_told wall (effects run) (effects other) same e.call.process e.call.act f.call.act
        w.calls.0.act
        ∙ (ap (λ p. form_of_reply (reply_by wall (effects other) p f.call.act)) w.calls.0.process
        ∙ sym (ap form_of_reply second_due)))

    by_act : (act given : Act) (b : Posting) → SameActButForValues act given → given ≡ ToPost b →
        reply_by wall (effects run) e.call.process act
        ≡ reply_by wall (effects other) e.call.process
        given
    by_act (ToPost a) (ToPost c) b one is =
        posts_told forms wall (effects run) (effects other) same e.call.process a c one
    by_act (Take r) (ToPost c) b one is = absurd one
    by_act (ToInfo c) (ToPost d) b one is = absurd one
    by_act act (Take r) b one is = absurd (cc)
    by_act act (ToInfo c) b one is = absurd (cc)

    pub post_told : (b : Posting) → f.call.act ≡ ToPost b → e.reply ≡ f.reply
    post_told b is =
        first_due
        ∙ (by_act e.call.act f.call.act b w.calls.0.act is
        ∙ (ap (λ p. reply_by wall (effects other) p f.call.act) w.calls.0.process
        ∙ sym second_due))

same_act_forms : (act given : Act) (got : Reply) → SameActButForValues act given →
    PassLookingTheSame forms act given got
same_act_forms (ToPost c) (ToPost d) got one a b r is has posted =
    let a_is : c ≡ a = cc in
    let b_is : d ≡ b = cc in
    ap (λ (x : Posting). form_of_part x.elements) (sym a_is)
    ∙ (one_form c.elements d.elements one.elements
    ∙ ap (λ (x : Posting). form_of_part x.elements) b_is)
same_act_forms (Take r) given got one a b s is has posted = absurd (cc)
same_act_forms (ToInfo c) given got one a b s is has posted = absurd (cc)
same_act_forms (ToPost c) (Take r) got one a b s is has posted = absurd one
same_act_forms (ToPost c) (ToInfo r) got one a b s is has posted = absurd one

pub worlds_look_same : (wall : ChineseWall) (run other : List Entry) → AreTwoWorlds wall run other →
    LookTheSame forms (effects run) (effects other)
worlds_look_same wall [] [] w = record { contributions = refl; taken = refl }
worlds_look_same wall [] (f ∷ other) w = absurd w.calls
worlds_look_same wall (e ∷ run) [] w = absurd w.calls
worlds_look_same wall (e ∷ run) (f ∷ other) w =
    let same = worlds_look_same wall run other (older wall e f run other w) in
    step_looks_same forms (effects run) (effects other) e f same w.calls.0
    (reply_told wall run other e f w same) (post_told wall run other e f w same)
    (same_act_forms e.call.act f.call.act e.reply w.calls.0.act)

replies_same : (wall : ChineseWall) (run other : List Entry) → AreTwoWorlds wall run other →
    RepliesSameButForNumbers run other
replies_same wall [] [] w = tt
replies_same wall [] (f ∷ other) w = absurd w.calls
replies_same wall (e ∷ run) [] w = absurd w.calls
replies_same wall (e ∷ run) (f ∷ other) w =
    let before = older wall e f run other w in (
      reply_told wall run other e f w (worlds_look_same wall run other before),
      replies_same wall run other before,
    )

-- ## at each turn

pub prefixes_of_worlds_are_worlds : PrefixesOfWorldsAreWorlds
prefixes_of_worlds_are_worlds wall [] [] w = w
prefixes_of_worlds_are_worlds wall [] (f ∷ other) w = absurd w.calls
prefixes_of_worlds_are_worlds wall (e ∷ run) [] w = absurd w.calls
prefixes_of_worlds_are_worlds wall (e ∷ run) (f ∷ other) w =
    (prefixes_of_worlds_are_worlds wall run other (older wall e f run other w), w)

at_each_turn : (Are So : List Entry → List Entry → Type 0) →
    ((run other : List Entry) → Are run other → So run other) →
    (run other : List Entry) → AtEachTurn Are run other → AtEachTurn So run other
at_each_turn Are So leads [] [] h = leads [] [] h
at_each_turn Are So leads [] (f ∷ other) h = absurd h
at_each_turn Are So leads (e ∷ run) [] h = absurd h
at_each_turn Are So leads (e ∷ run) (f ∷ other) h =
    (at_each_turn Are So leads run other h.0, leads (e ∷ run) (f ∷ other) h.1)

wall_sees_one : (wall : ChineseWall) (run other : List Entry) → AreTwoWorlds wall run other →
    WallSeesOne wall run other
wall_sees_one wall run other w =
    let same = one_past forms (effects run) (effects other) (worlds_look_same wall run other w) in
    record {
      same_posts = same;
      same_histories = λ p d. ap (λ past. histories wall past p d) same;
      same_outcomes = λ c k. ap (outcome_at wall c k) same;
      same_books = ap (book wall) same;
    }

pub values_decide_nothing : ValuesDecideNothing
values_decide_nothing wall run other w = record {
  turns = at_each_turn (AreTwoWorlds wall) (WallSeesOne wall) (wall_sees_one wall) run other
      (prefixes_of_worlds_are_worlds wall run other w);
  replies = replies_same wall run other w;
}
