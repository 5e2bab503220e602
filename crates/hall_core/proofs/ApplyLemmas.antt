-- One call, from what a hall stands for to runs.
use Rattle.std.proofs.Common.{◌≡◌, ℕ, List, [], ◌∷◌, refl, sym, ap, ◌∙◌, subst, All}
use Rattle.std.proofs.Common.{Some, slice_get}
use Rattle.wall_policy.specs.Policy.{ChineseWall, IsPolicy}
use Rattle.wall_rules.specs.Histories.{History, NobodyHoldsRivals}
use Rattle.run_model.specs.Posts.{histories}
use Rattle.run_model.specs.Comms.{processes}
use Rattle.run_model.specs.Books.{book, IsSound, posts_in}
use Rattle.run_model.specs.PostLaws.{IsWhatIsHeld, NobodyHoldsBoth}
use Rattle.run_model.proofs.RunModelLemmas.{book_is_sound, posts_in-book, posts_keep_the_wall}
use Rattle.run_model.proofs.RunModelLemmas.{legal_proper, nobody_holds_two_rivals_in_runs}
use Rattle.run_model.proofs.RunModelLemmas.{holding_is_history_in_runs, posts_but_for_room}
use Rattle.run_model.proofs.RunModelLemmas.{proper_but_for_room, reply_but_for_room, book_named}
use Rattle.run_model.proofs.RunModelLemmas.{after_but_for_room}
use Rattle.run_model.specs.Contributions.{posts_of}
use Rattle.run_state.specs.Stands.{StandsForPosts}
use Rattle.run_model.specs.declared.call.Call.{Call}
use Rattle.run_model.specs.declared.reply.Reply.{Reply}
use Rattle.run_model.specs.Runs.{Entry, effects, posts, entry, requests, after_entry}
use Rattle.run_model.specs.Replies.{IsAnswer, Legal, posts_made, reply}
use Rattle.hall_core.specs.declared.claims.Claim.{Claim}
use Rattle.hall_core.specs.declared.requests.Request.{Request}
use Rattle.hall_core.specs.Claims.{HoldsWhatIsKept, Claims}
use Rattle.hall_core.proofs.TakeLemmas.{open_at}
use Rattle.hall_core.proofs.ClaimLemmas.{held_claims}
use Rattle.hall_core.specs.Halls.{HallValue, StandsForEffects, StandsForRun, StandsFor, view_of}
use Rattle.hall_core.specs.Asking.{opened, requests_of}
use Rattle.hall_core.specs.Invariant.{IsHallView}
use Rattle.hall_core.specs.Moves.{Steps}
use Rattle.run_model.specs.Known.{IsKnownEntry}

pub stands_for : (hall : HallValue) (run : List Entry) → StandsFor hall run →
    StandsForRun (view_of hall) run
unfolding StandsFor
stands_for hall run stands = stands

pub for_stands : (hall : HallValue) (run : List Entry) → StandsForRun (view_of hall) run →
    StandsFor hall run
unfolding StandsFor
for_stands hall run stands = stands

-- a hall that keeps just what the run has made
pub stands_exactly : (hall : HallValue) (run : List Entry) →
    StandsForEffects (view_of hall) (effects run) → StandsFor hall run
stands_exactly hall run stands = for_stands hall run (record {
  kept = effects run;
  same = record { contributions = refl; taken = λ p r. refl };
  stands = stands;
})

-- the contract of `apply`, from that of a step
pub applied : (old new : HallValue) (call : Call) (got : Reply) → new.policy ≡ old.policy →
    Steps (view_of old) (view_of new) call.process call.act got →
    (run : List Entry) → Legal old.policy run → StandsFor old run →
    Legal new.policy (entry call got ∷ run) × StandsFor new (entry call got ∷ run)
unfolding reply
applied old new call got same steps run legal stands =
    let of = stands_for old run stands in
    let step = steps of.kept
    (proper_but_for_room old.policy of.kept (effects run) of.same
    (legal_proper old.policy run legal)) of.stands in
    let due = subst (λ (r : Reply). IsAnswer r got)
    (reply_but_for_room old.policy of.kept (effects run) of.same call.process call.act) step.0 in (
      subst (λ (w : ChineseWall). Legal w (entry call got ∷ run)) (sym same) (legal, due),
      for_stands new (entry call got ∷ run) (record {
        kept = after_entry of.kept (entry call got);
        same = after_but_for_room old.policy of.kept (effects run) of.same (entry call got);
        stands = step.1;
      }),
    )

pub applied_apart : (old new : HallValue) (call : Call) (got : Reply) → IsPolicy old.policy →
    new.policy ≡ old.policy → Steps (view_of old) (view_of new) call.process call.act got →
    (run : List Entry) → Legal old.policy run → StandsFor old run →
    NobodyHoldsBoth new.policy (posts (entry call got ∷ run))
applied_apart old new call got policy same steps run legal stands =
    nobody_holds_two_rivals_in_runs new.policy [] (entry call got ∷ run)
    (subst IsPolicy (sym same) policy) (applied old new call got same steps run legal stands).0

-- the contract of `claim`, of what it holds
pub claimed : (old : HallValue) (p r : ℕ) (claim : Claim) → HoldsWhatIsKept (view_of old) p r claim
    → (run : List Entry) → Legal old.policy run → StandsFor old run
    → Claims old.policy (effects run) p r claim
claimed old p r claim holds run legal stands =
    let of = stands_for old run stands in
    held_claims (view_of old) of.kept (effects run) of.stands of.same p r claim holds

-- ## what is shown of a hall

pub histories_are : (hall : HallValue) (h : History) (run : List Entry) →
    ((wall : ChineseWall) (past : List _) → StandsForPosts wall (view_of hall).post_state past →
    h ≡ histories wall (posts_of past)) → StandsFor hall run →
    h ≡ histories hall.policy (posts run)
histories_are hall h run by stands =
    let of = stands_for hall run stands in
    by hall.policy of.kept.contributions of.stands.post_state
    ∙ ap (λ past. histories hall.policy past)
    (posts_but_for_room hall.policy of.kept (effects run) of.same)

-- the histories are those of the posts in the book
pub histories_of_book : (hall : HallValue) (h : History) → IsHallView (view_of hall)
    → ((wall : ChineseWall) (past : List _) → StandsForPosts wall (view_of hall).post_state past
    → h ≡ histories wall (posts_of past))
    → h ≡ histories hall.policy (posts_in hall.book.list)
histories_of_book hall h is by =
    let effects = is.effects in
    let posts = ap posts_in is.stands.book
    ∙ posts_in-book hall.policy (posts_made effects) in
    by hall.policy effects.contributions is.stands.post_state
    ∙ ap (histories hall.policy) (sym posts)

-- the histories have the processes and the classes of the policy
pub processes_are : (hall : HallValue) → IsHallView (view_of hall)
    → hall.post_state.accesses.processes ≡ processes hall.policy
processes_are hall is = is.stands.post_state.processes

pub classes_are : (hall : HallValue) → IsHallView (view_of hall)
    → hall.post_state.accesses.classes ≡ hall.policy.classes
classes_are hall is = is.stands.post_state.classes

pub nobody_holds_rivals : (hall : HallValue) (h : History) → IsHallView (view_of hall) →
    ((wall : ChineseWall) (past : List _) → StandsForPosts wall (view_of hall).post_state past →
    h ≡ histories wall (posts_of past)) → NobodyHoldsRivals hall.policy.classes h
nobody_holds_rivals hall h is by =
    subst (NobodyHoldsRivals hall.policy.classes)
    (sym (by hall.policy is.effects.contributions is.stands.post_state))
    (posts_keep_the_wall hall.policy (posts_made is.effects) is.policy is.is_made.proper.posts)

pub is_held : (hall : HallValue) (h : History) (run : List Entry) → ((wall : ChineseWall)
    (past : List _) → StandsForPosts wall (view_of hall).post_state past →
    h ≡ histories wall (posts_of past)) → Legal hall.policy run → StandsFor hall run →
    IsWhatIsHeld hall.policy (posts run) h
is_held hall h run by legal stands = subst (IsWhatIsHeld hall.policy (posts run))
    (sym (histories_are hall h run by stands)) (holding_is_history_in_runs hall.policy [] run legal)

pub book_is : (hall : HallValue) (run : List Entry) → StandsFor hall run →
    hall.book.list ≡ book hall.policy (posts run)
book_is hall run stands =
    let of = stands_for hall run stands in
    of.stands.book
    ∙ ap (λ past. book hall.policy past)
    (posts_but_for_room hall.policy of.kept (effects run) of.same)

pub sound : (hall : HallValue) → IsHallView (view_of hall) → IsSound hall.policy hall.book.list
sound hall is = subst (IsSound hall.policy) (sym is.stands.book)
    (book_is_sound hall.policy (posts_made is.effects) is.is_made.proper.posts)

pub named : (hall : HallValue) → IsHallView (view_of hall) →
    All (IsKnownEntry hall.policy) hall.book.list
named hall is = subst (All (IsKnownEntry hall.policy)) (sym is.stands.book)
    (book_named hall.policy (posts_made is.effects) is.policy is.is_made.proper.posts
    is.is_made.labels)

-- ## requests

-- what a request is for, of which the hall has the instance
pub asked_in : (hall : HallValue) (run : List Entry) (p r : ℕ) (q : Request) →
    StandsFor hall run → opened (requests_of hall.asked p) r ≡ Some q →
    slice_get (requests p (posts run)) r ≡ Some (q.comm, q.k)
asked_in hall run p r q stands waits =
    let of = stands_for hall run stands in
    ap (λ past. slice_get (requests p past) r)
    (sym (posts_but_for_room hall.policy of.kept (effects run) of.same))
    ∙ open_at (view_of hall) of.kept of.stands p r q waits
