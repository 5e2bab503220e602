-- Effects that are the same but for the room of buffers: the same reply is due to each call.
use Rattle.std.proofs.Common.{◌≡◌, ℕ, List, [], ◌∷◌, length, map, refl, sym, ap, ◌∙◌, subst}
use Rattle.std.proofs.Common.{Bool, ◌&&◌, ◌||◌, cond, Option, Some, None, slice_get, option_map}
use Rattle.std.specs.Prelude.{◌==◌, ◌<◌, unwrap_or}
use Rattle.std.specs.List.{cons_option}
use Rattle.std.proofs.lemmas.Option.{slice_get-map}
use Rattle.wall_policy.specs.Policy.{ChineseWall}
use Rattle.mpi_elems.specs.Elements.{Element}
use Rattle.mpi_elems.specs.Contents.{Contents, elements}
use Rattle.mpi_group.specs.Groups.{rank_in}
use Rattle.coll_routes.specs.declared.roll.Roll.{Roll}
use Rattle.coll_routes.specs.declared.statement.Stated.{Stated}
use Rattle.coll_values.specs.declared.full.Full.{Full}
use Rattle.coll_values.specs.Instances.{elements_in, part}
use Rattle.coll_values.specs.Values.{value}
use Rattle.coll_values.proofs.CollValuesLemmas.{values_are_of_routed_elements}
use Rattle.run_model.specs.declared.outcome.Outcome.{Outcome}
use Rattle.run_model.specs.declared.outcome.Outcome.TheVariants.{Granted, Denied as DeniedBy}
use Rattle.run_model.specs.declared.outcome.Outcome.TheVariants.{Made as MadeComms}
use Rattle.run_model.specs.declared.outcome.Outcome.TheVariants.{NoRoom as NoneMade}
use Rattle.run_model.specs.declared.refusal.Refusal.TheVariants.{NoSuchRequest}
use Rattle.run_model.specs.Comms.{Comm, new_comms}
use Rattle.run_model.specs.Posts.{Post, instance, outcome_at}
use Rattle.run_model.specs.Books.{AreCounted}
use Rattle.run_model.specs.Contributions.{Contribution, parts_in, kth_parts, full_at}
use Rattle.run_model.specs.declared.call.Posting.{Posting}
use Rattle.run_model.specs.declared.call.Act.{Act}
use Rattle.run_model.specs.declared.call.Act.TheVariants.{Post as ToPost, Take, Info as ToInfo}
use Rattle.run_model.specs.declared.reply.Reply.TheVariants.{Delivered, Refused}
use Rattle.run_model.specs.Runs.{Entry, Effects, contribution_in, requests, is_outcome, takes}
use Rattle.run_model.specs.Runs.{after_entry}
use Rattle.run_model.specs.Replies.{posts_made, joined, reply_by_outcome, comm_at, reply_to_take}
use Rattle.run_model.specs.Replies.{reply_by}
use Rattle.run_model.specs.Proper.{AreAsStated, IsProper}
use Rattle.run_model.specs.Buffers.{bare, bare_contribution, SameInstanceButForRoom}
use Rattle.run_model.specs.Buffers.{SameButForRoom}
use Rattle.run_model.specs.Worlds.{SamePostingButForValues}
use Rattle.run_model.proofs.SeenLemmas.{View, seen, seen_all, same_posts}
use Rattle.coll_values.proofs.CollValuesLemmas.{map_map}
use Rattle.coll_values.proofs.CollValuesLemmas.{map_cons_option}
use Rattle.run_model.proofs.SeenLemmas.{pairs, parts_are, own_parts_are}
use Rattle.run_model.proofs.WorldsLemmas.{LookTheSame, posts_told, infos_told}

-- ## instances

elements_bare : (given : Option Contents) → elements_in (option_map bare given) ≡ elements_in given
elements_bare None = refl
elements_bare (Some buffer) = refl

part_bare : (parts : List Contents) (i : ℕ) →
    elements_in (slice_get (map bare parts) i) ≡ elements_in (slice_get parts i)
part_bare parts i =
    ap (λ given. elements_in given) (slice_get-map bare parts i)
    ∙ elements_bare (slice_get parts i)

same_part : (F G : Full Contents) → SameInstanceButForRoom F G → (i : ℕ) → part F i ≡ part G i
same_part F G same i =
    sym (part_bare F.parts i)
    ∙ (ap (λ parts. elements_in (slice_get parts i)) same.parts ∙ part_bare G.parts i)

-- each rank gets the same
pub same_value : (F G : Full Contents) (j : ℕ) → SameInstanceButForRoom F G →
    value F j ≡ value G j
same_value F G j same = values_are_of_routed_elements F G j (record {
  roll = same.roll;
  elements = λ i x t low few goes. ap (λ es. slice_get es x) (same_part F G same i);
})

same_told : (p : ℕ) (F G : Full Contents) (o : Option Outcome) → SameInstanceButForRoom F G →
    reply_by_outcome p F o ≡ reply_by_outcome p G o
same_told p F G None same = refl
same_told p F G (Some Granted) same =
    ap (λ bs. Delivered bs) (same_value F G (unwrap_or (rank_in F.roll.members p) 0) same
    ∙ ap (λ (r : Roll). value G (unwrap_or (rank_in r.members p) 0)) same.roll)
same_told p F G (Some (DeniedBy rule q label)) same = refl
same_told p F G (Some (MadeComms first number)) same =
    ap (λ (r : Roll). joined p first (new_comms r)) same.roll
same_told p F G (Some NoneMade) same = refl

-- ## lists of contributions

abbrev without_room : View Contents Contents
without_room stated buffer = bare buffer

abbrev as_elements : View Contents (List Element)
as_elements stated buffer = elements buffer

bare_elements : (past : List (Contribution Contents)) →
    seen_all as_elements (map bare_contribution past) ≡ seen_all as_elements past
bare_elements [] = refl
bare_elements (g ∷ past) = ap (λ rest. seen as_elements g ∷ rest) (bare_elements past)

bare_parts : (comm : Comm) (c k : ℕ) (past : List (Contribution Contents)) →
    map bare (parts_in (kth_parts comm c k past))
    ≡ parts_in (kth_parts comm c k (map bare_contribution past))
bare_parts comm c k past =
    ap (λ parts. map bare parts) (own_parts_are comm c k past)
    ∙ (map_map bare (λ (q : Stated × Contents). q.1) (pairs comm c k past)
    ∙ sym (parts_are comm c k past without_room))

same_instance : (comm : Comm) (c k : ℕ) (past other : List (Contribution Contents)) →
    map bare_contribution past ≡ map bare_contribution other →
    SameInstanceButForRoom (full_at comm c k past) (full_at comm c k other)
same_instance comm c k past other same = record {
  roll = ap (λ ps. instance comm c k ps) (same_posts without_room past other same);
  parts = bare_parts comm c k past
      ∙ (ap (λ gs. parts_in (kth_parts comm c k gs)) same ∙ sym (bare_parts comm c k other));
}

bare_stated : (past : List (Contribution Contents)) → AreAsStated past →
    AreAsStated (map bare_contribution past)
bare_stated [] brought = tt
bare_stated (g ∷ past) brought = (
  bare_stated past brought.0,
  λ passed. record {
    number = (brought.1 passed).number;
    of_type = (brought.1 passed).of_type;
  },
)

stated_bare : (past : List (Contribution Contents)) → AreAsStated (map bare_contribution past) →
    AreAsStated past
stated_bare [] brought = tt
stated_bare (g ∷ past) brought = (
  stated_bare past brought.0,
  λ passed. record {
    number = (brought.1 passed).number;
    of_type = (brought.1 passed).of_type;
  },
)

-- ## effects

own_posting : (posting : Posting) → SamePostingButForValues posting posting
own_posting posting = record {
  comm = refl;
  sig = refl;
  own = refl;
  label = refl;
  elements = record { of_type = refl; number = refl };
}

module _ (wall : ChineseWall) (m n : Effects) (same : SameButForRoom m n) where
  pub posts_but_for_room : posts_made m ≡ posts_made n
  posts_but_for_room = same_posts without_room m.contributions n.contributions same.contributions

  pub instance_but_for_room : (c k : ℕ) → SameInstanceButForRoom
      (full_at (comm_at wall (posts_made m) c) c k m.contributions)
      (full_at (comm_at wall (posts_made n) c) c k n.contributions)
  instance_but_for_room c k =
      subst (λ (past : List Post). SameInstanceButForRoom
      (full_at (comm_at wall (posts_made m) c) c k m.contributions)
      (full_at (comm_at wall past c) c k n.contributions)) posts_but_for_room
      (same_instance (comm_at wall (posts_made m) c) c k m.contributions n.contributions
      same.contributions)

  look_the_same : LookTheSame as_elements m n
  look_the_same = record {
    contributions = sym (bare_elements m.contributions)
        ∙ (ap (λ gs. seen_all as_elements gs) same.contributions ∙ bare_elements n.contributions);
    taken = λ i p r. same.taken p r i;
  }

  instance_told : (p c k : ℕ) →
      reply_by_outcome p (full_at (comm_at wall (posts_made m) c) c k m.contributions)
      (outcome_at wall c k (posts_made m))
      ≡ reply_by_outcome p (full_at (comm_at wall (posts_made n) c) c k n.contributions)
      (outcome_at wall c k (posts_made n))
  instance_told p c k =
      same_told p (full_at (comm_at wall (posts_made m) c) c k m.contributions)
      (full_at (comm_at wall (posts_made n) c) c k n.contributions)
      (outcome_at wall c k (posts_made m))
      (instance_but_for_room c k)
      ∙ ap
      (λ past. reply_by_outcome p (full_at (comm_at wall (posts_made n) c) c k n.contributions)
      (outcome_at wall c k past)) posts_but_for_room

  request_told : (p r : ℕ) (o : Option (ℕ × ℕ)) →
      reply_to_take wall m p r o ≡ reply_to_take wall n p r o
  request_told p r None = refl
  request_told p r (Some (c, k)) =
      λ i. cond (same.taken p r i) (Refused NoSuchRequest) (instance_told p c k i)

  -- the same reply is due
  pub reply_but_for_room : (p : ℕ) (act : Act) → reply_by wall m p act ≡ reply_by wall n p act
  reply_but_for_room p (ToPost posting) =
      posts_told as_elements wall m n look_the_same p posting posting (own_posting posting)
  reply_but_for_room p (Take r) =
      request_told p r (slice_get (requests p (posts_made m)) r)
      ∙ ap (λ past. reply_to_take wall n p r (slice_get (requests p past) r)) posts_but_for_room
  reply_but_for_room p (ToInfo c) = infos_told as_elements wall m n look_the_same p c

  -- and so are the effects of an entry more
  pub after_but_for_room : (e : Entry) → SameButForRoom (after_entry m e) (after_entry n e)
  after_but_for_room e = record {
    contributions = map_cons_option bare_contribution (contribution_in e) m.contributions
        ∙ (ap (λ gs. cons_option (option_map bare_contribution (contribution_in e)) gs)
        same.contributions
        ∙ sym (map_cons_option bare_contribution (contribution_in e) n.contributions));
    taken = λ p r. ap
        (λ (b : Bool). e.call.process == p && takes e.call.act r && is_outcome e.reply || b)
        (same.taken p r);
  }

  pub proper_but_for_room : IsProper wall n → IsProper wall m
  proper_but_for_room is = record {
    posts = subst (AreCounted wall) (sym posts_but_for_room) is.posts;
    parts = stated_bare m.contributions (subst AreAsStated (sym same.contributions)
        (bare_stated n.contributions is.parts));
    given = λ p r t. subst (λ (past : List Post). r < length (requests p past))
        (sym posts_but_for_room) (is.given p r (sym (same.taken p r) ∙ t));
  }
