-- A state whose posts have no parts, for the check of a book.
use Rattle.std.proofs.Common.{◌≡◌, ℕ, suc, ◌<◌, List, [], ◌∷◌, length, refl, sym, ap, ◌∙◌}
use Rattle.std.proofs.Common.{arith, not, Some, None}
use Rattle.std.specs.Option.{option_map}
use Rattle.wall_policy.specs.Policy.{ChineseWall}
use Rattle.wall_rules.specs.Histories.{has}
use Rattle.mpi_elems.specs.declared.elem_type.ElemType.{ElemType}
use Rattle.coll_routes.specs.declared.signature.Signature.{Signature}
use Rattle.coll_routes.specs.declared.statement.Own.{Own}
use Rattle.coll_routes.specs.declared.statement.Stated.{Stated}
use Rattle.coll_routes.specs.Faults.{stated_type}
use Rattle.wall_verdict.specs.Star.{star}
use Rattle.run_model.specs.declared.entry.Entry.TheVariants.{Settled as settled}
use Rattle.run_model.specs.Posts.{Post, comms, filled, histories, outcome, outcome_of, labelled}
use Rattle.run_model.specs.Posts.{place}
use Rattle.run_model.specs.Refusals.{fault}
use Rattle.run_model.specs.Books.{IsCounted, outcome_entry}
use Rattle.run_state.specs.declared.entered.Entered.{Entered}
use Rattle.run_state.specs.declared.entered.Entered.TheVariants.{Waiting, Settled}
use Rattle.run_model.specs.Contributions.{posts_of}
use Rattle.run_state.specs.declared.seat.Seat.{Seat}
use Rattle.run_state.specs.Views.{PostStateView, IsPostState, fault_of, LookedAt}
use Rattle.run_state.specs.Stands.{StandsForPosts, Tells}
use Rattle.audit_book.specs.Checks.{bare, due_after, entry_of, post_of}
use Rattle.run_state.proofs.RunStateLemmas.{fault_is, place_is_small}

pub bare_posts : (posts : List Post) → posts_of (bare posts) ≡ posts
bare_posts [] = refl
bare_posts (x ∷ posts) = ap (λ rest. x ∷ rest) (bare_posts posts)

bare_length : (posts : List Post) → length (bare posts) ≡ length posts
bare_length [] = refl
bare_length (x ∷ posts) = ap suc (bare_length posts)

-- a post that counts meets no refusal by what is seen
pub accepted_is : (wall : ChineseWall) (seen : PostStateView (Unit {0})) (past : List Post) →
    IsPostState seen → StandsForPosts wall seen (bare past) → (p c : ℕ) (s : Stated) →
    IsCounted wall (post_of p c s) past →
    fault_of wall seen p c s.sig s.own (stated_type s.sig) s.given ≡ None
accepted_is wall seen past post_state stands p c s taken =
    fault_is wall seen (bare past) stands post_state p c s.sig s.own (stated_type s.sig) s.given
    ∙ ((λ i. fault wall (bare_posts past i) p c s.sig s.own (stated_type s.sig) s.given)
    ∙ taken.accepted)

-- and its word is right, also of an equal statement
pub word_is : (wall : ChineseWall) (seen : PostStateView (Unit {0})) (past : List Post)
    (stands : StandsForPosts wall seen (bare past)) (seat : Seat) (s stated : Stated)
    (same : s ≡ stated) → IsCounted wall (post_of seat.process seat.meeting.comm stated) past →
    s.barred ≡ not (star (has seen.accesses) seat.process s.label)
word_is wall seen past stands seat s stated same taken =
    let held : histories wall past ≡ has seen.accesses = ap (λ posts. histories wall posts)
    (sym (bare_posts past)) ∙ sym stands.histories in
    ap (λ (q : Stated). q.barred) same
    ∙ (taken.word ∙ (λ i. not (star (held i) seat.process (sym same i).label)))

pub few_is : (wall : ChineseWall) (seen : PostStateView (Unit {0})) (past : List Post) →
    StandsForPosts wall seen (bare past) → (seat : Seat) (sig : Signature) (own : Own)
    (ty : ElemType) (given : ℕ) → LookedAt seen seat sig own ty given →
    length past < 4611686018427387904 → seat.meeting.k < 4611686018427387904
few_is wall seen past stands seat sig own ty given looked few = (
    let low = place_is_small wall seen (bare past) stands seat sig own ty given looked in
    let n = bare_length past in omega (arith, low, n, few))

-- what is told of a post is its settlement
told_by : (wall : ChineseWall) (x : Post) (past posts : List Post) (e : Entered (Unit {0})) →
    posts_of (bare past) ≡ posts → Tells wall (record { post = x; part = tt }) (bare past) e →
    option_map entry_of (due_after x.comm e) ≡ outcome_entry x posts (outcome wall x posts)
told_by wall x past posts (Waiting k) same told =
    (let none : filled (comms wall posts) x posts ≡ None =
    (λ i. filled (comms wall (sym same i)) x (sym same i)) ∙ told.1 in
    sym (ap (λ o. outcome_entry x posts (option_map (outcome_of wall
    (labelled (histories wall posts) x) (length (comms wall posts))) o)) none))
told_by wall x past posts (Settled full k o) same told =
    (let at : k ≡ place x posts = told.0 ∙ ap (λ ps. place x ps) same in
    let came : outcome wall x posts ≡ Some o = ap (λ ps. outcome wall x ps) (sym same) ∙ told.3 in
    ap (λ n. Some (settled x.comm n o)) at ∙ sym (ap (λ v. outcome_entry x posts v) came))

pub told_is : (wall : ChineseWall) (p c : ℕ) (s : Stated) (past : List Post)
    (e : Entered (Unit {0})) →
    Tells wall (record { post = post_of p c s; part = tt }) (bare past) e →
    option_map entry_of (due_after c e)
    ≡ outcome_entry (post_of p c s) past (outcome wall (post_of p c s) past)
told_is wall p c s past e told = told_by wall (post_of p c s) past past e (bare_posts past) told
