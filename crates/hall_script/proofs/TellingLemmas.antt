-- Who is told the same.
use Rattle.std.proofs.Common.{◌≡◌, ◌≢◌, ℕ, List, ◌∷◌, ◌++◌, Bool, true, false, cond, Option, Some}
use Rattle.std.proofs.Common.{length, take, drop, ◌-◌, arith, slice_get, None, ◌&&◌, not, refl, sym, ap, ◌∙◌, subst, map, filter, filter_map, eqb}
use Rattle.std.specs.Prelude.{slice_index_or, Result, Ok, Err, OnOk}
use Rattle.std.specs.List.{cons_option, range_with_len}
use Rattle.std.proofs.lemmas.Bool.{false≢true}
use Rattle.std.proofs.lemmas.List.{length-append, take_all}
use Rattle.std.proofs.Math.Seq.{drop-append_seam}
use Rattle.wall_labels.specs.declared.op.Op.{Op}
use Rattle.wall_policy.specs.Policy.{ChineseWall}
use Rattle.mpi_elems.specs.Contents.{Contents}
use Rattle.coll_routes.specs.declared.roll.Roll.{Roll}
use Rattle.coll_routes.specs.declared.roll.Shape.{Shape}
use Rattle.coll_routes.specs.declared.signature.Signature.{Signature}
use Rattle.coll_routes.specs.declared.signature.Signature.TheVariants.{Bcast, Allgather, Allgatherv}
use Rattle.coll_routes.specs.declared.signature.Signature.TheVariants.{Allreduce}
use Rattle.coll_routes.specs.Signatures.{reduction, is_neighbourly}
use Rattle.coll_routes.specs.Rolls.{given, goes, goes_by, places, places_by, is_missing}
use Rattle.coll_values.specs.declared.full.Full.{Full}
use Rattle.coll_values.specs.Instances.{element}
use Rattle.coll_values.specs.Values.{sent, Sendings, copied, reduced, block_by, block_of, blocks}
use Rattle.coll_values.specs.Values.{value}
use Rattle.run_model.specs.declared.outcome.Outcome.TheVariants.{Granted}
use Rattle.run_model.specs.Posts.{outcome_at}
use Rattle.run_model.specs.Books.{AreCounted}
use Rattle.run_model.specs.Contributions.{Contribution, posts_of}
use Rattle.run_model.specs.Buffers.{SameInstanceButForRoom}
use Rattle.run_model.specs.Runs.{Entry, contribution_in, contributions, effects, entry, posts, requests}
use Rattle.run_model.specs.declared.reply.Reply.{Reply}
use Rattle.run_model.specs.declared.reply.Reply.TheVariants.{Delivered}
use Rattle.run_model.specs.Replies.{Legal}
use Rattle.run_model.proofs.RunModelLemmas.{settled_stays, instance_stays, legal_proper, same_value}
use Rattle.hall_core.specs.declared.looks.Open.{Open}
use Rattle.hall_core.specs.Claims.{to_take, IsClaimed}
use Rattle.hall_core.specs.Looks.{GoesOn, IsOf}
use Rattle.hall_core.specs.Halls.{HallValue, StandsFor}
use Rattle.hall_script.specs.declared.kept.KeptLine.{KeptLine}
use Rattle.hall_script.specs.declared.kept.KeptLines.{KeptLines}
use Rattle.hall_script.specs.declared.teller.Teller.{Teller}
use Rattle.hall_script.specs.Answering.{AnswersCall}
use Rattle.hall_script.specs.Replies.{reply_line, reply_text}
use Rattle.hall_script.specs.Telling.{tells_alike, IsToldAlike, told_line, instance_at, IsRight}
use Rattle.hall_script.specs.Telling.{IsShown, AreRight, TellsRun}
use Rattle.hall_script.specs.Telling.{IsRightLine}

-- ## the kinds of the table

abbrev unless_root : Bool → ℕ
unless_root b = cond b 0 1

not_root : (b : Bool) → unless_root b ≢ 0 → b ≡ false
not_root false h = refl
not_root true h = absurd (h refl)

module _ (shape : Shape) (j l : ℕ) where
  same_places : (sig : Signature) → tells_alike sig ≡ true → places_by sig shape j ≢ 0 →
      places_by sig shape l ≢ 0 → places_by sig shape j ≡ places_by sig shape l
  unfolding tells_alike places_by
  same_places (Bcast r ty n) e here there =
      ap unless_root (not_root (eqb j r) here ∙ sym (not_root (eqb l r) there))
  same_places (Allgather ty n) e here there = refl
  same_places (Allgatherv ty) e here there = refl
  same_places (Allreduce op ty n) e here there = refl
  same_places _ e here there = absurd (false≢true e)

  same_journey : (sig : Signature) → tells_alike sig ≡ true → places_by sig shape j ≢ 0 →
      places_by sig shape l ≢ 0 → (counts : List ℕ) (i x t : ℕ) →
      goes_by sig shape counts i x j t ≡ goes_by sig shape counts i x l t
  unfolding tells_alike places_by goes_by
  same_journey (Bcast r ty n) e here there counts i x t =
      ap (λ (b : Bool). eqb i r && not b && eqb t 0) (not_root (eqb j r) here ∙ sym (not_root (eqb l r) there))
  same_journey (Allgather ty n) e here there counts i x t = refl
  same_journey (Allgatherv ty) e here there counts i x t = refl
  same_journey (Allreduce op ty n) e here there counts i x t = refl
  same_journey _ e here there counts i x t = absurd (false≢true e)

no_neighbours : (sig : Signature) → tells_alike sig ≡ true → is_neighbourly sig ≡ false
unfolding tells_alike is_neighbourly
no_neighbours (Bcast r ty n) e = refl
no_neighbours (Allgather ty n) e = refl
no_neighbours (Allgatherv ty) e = refl
no_neighbours (Allreduce op ty n) e = refl
no_neighbours _ e = absurd (false≢true e)

-- ## blocks

block_alike : (r : Option Op) (roll : Roll) (s u : Sendings) (j l t : ℕ) → s ≡ u →
    is_missing roll j t ≡ is_missing roll l t → block_by r roll s j t ≡ block_by r roll u l t
block_alike (Some op) roll s u j l t same missing = λ e. Some (reduced op roll (same e))
block_alike None roll s u j l t same missing =
    λ e. cond (missing e) None (Some (copied roll (same e) t))

module _ (F : Full Contents) (j l : ℕ) (here : IsToldAlike F j)
    (there : places F.roll l ≢ 0) where
  same_sent : (i t : ℕ) → sent F i j t ≡ sent F i l t
  unfolding sent
  same_sent i t = λ e. filter_map (element F i)
      (filter (λ x. same_journey F.roll.shape j l F.roll.sig here.alike here.has_place there
      (Rattle.coll_routes.specs.Rolls.own_counts_in (Rattle.coll_routes.specs.Rolls.stated_by F.roll i)) i x t e)
      (range_with_len 0 (given F.roll i)))

  same_missing : (t : ℕ) → is_missing F.roll j t ≡ is_missing F.roll l t
  unfolding is_missing
  same_missing t =
      let none = no_neighbours F.roll.sig here.alike in
      rw none refl

  same_blocks : blocks F j ≡ blocks F l
  unfolding blocks
  same_blocks = λ e. map
      (λ t. block_alike (reduction F.roll.sig) F.roll (λ i t. sent F i j t) (λ i t. sent F i l t) j l t
      (λ d i u. same_sent i u d) (same_missing t) e)
      (range_with_len 0 (same_places F.roll.shape j l F.roll.sig here.alike here.has_place there e))

  -- each that gets any gets the same
  pub same_told : value F j ≡ value F l
  unfolding value
  same_told = ap (map block_of) same_blocks

-- ## lines that stay right

module _ (wall : ChineseWall) (c k : ℕ) (text : List ℕ) where
  right_with : (o : Option (Contribution Contents)) (past : List (Contribution Contents)) →
      AreCounted wall (posts_of (cons_option o past)) → IsRight wall past c k text →
      IsRight wall (cons_option o past) c k text
  right_with None past counted h = h
  right_with (Some g) past counted h =
      let same = instance_stays wall c k Granted g past h.granted in
      record {
        granted = settled_stays wall c k Granted g.post (posts_of past) counted.1 h.granted;
        told = λ j place.
            h.told j (λ none. place (ap (λ (F : Full Contents). places F.roll j) same ∙ none))
            ∙ ap (λ (F : Full Contents). told_line (value F j)) (sym same);
      }

  -- a line stays right with one entry more
  pub right_stays : (run : List Entry) (e : Entry) → Legal wall (e ∷ run) →
      IsRight wall (contributions run) c k text → IsRight wall (contributions (e ∷ run)) c k text
  right_stays run e legal h =
      right_with (contribution_in e) (contributions run) (legal_proper wall (e ∷ run) legal).posts h

-- ## instances in hand

module _ (wall : ChineseWall) (past : List (Contribution Contents)) (c k : ℕ) (F : Full Contents)
    (rank : ℕ) (same : SameInstanceButForRoom F (instance_at wall past c k)) where
  -- a line that is right is what a rank is told that gets a block
  pub is_told : (text : List ℕ) → places F.roll rank ≢ 0 → IsRight wall past c k text →
      text ≡ told_line (value F rank)
  is_told text place right =
      right.told rank (λ none. place (ap (λ (r : Roll). places r rank) same.roll ∙ none))
      ∙ ap told_line (sym (same_value F (instance_at wall past c k) rank same))

  -- what one is told is right for all
  pub is_right : (text : List ℕ) → IsToldAlike F rank → outcome_at wall c k (posts_of past) ≡ Some Granted →
      text ≡ told_line (value F rank) → IsRight wall past c k text
  is_right text alike granted e = record {
    granted = granted;
    told = λ j place.
        e ∙ ap told_line (same_told F rank j alike
        (λ none. place (ap (λ (r : Roll). places r j) (sym same.roll) ∙ none))
        ∙ same_value F (instance_at wall past c k) j same);
  }

-- ## lines of deliveries

-- what a rank is told that gets what each gets that gets any is right for its instance
pub right_by_line : (policy wall : ChineseWall) (past : List (Contribution Contents)) (c k : ℕ)
    (full : Full Contents) (rank : ℕ) (line : List ℕ) → IsToldAlike full rank →
    IsShown wall past (c, k) full → line ≡ reply_line policy (Delivered (value full rank)) →
    IsRight wall past c k line
unfolding reply_text
right_by_line policy wall past c k full rank line alike at e =
    is_right wall past c k full rank at.same line alike at.granted e

-- a line that is right is that of a rank that gets a block
pub told_by_line : (policy wall : ChineseWall) (past : List (Contribution Contents)) (c k : ℕ)
    (full : Full Contents) (rank : ℕ) (line : List ℕ) → IsToldAlike full rank →
    IsShown wall past (c, k) full → IsRight wall past c k line →
    line ≡ reply_line policy (Delivered (value full rank))
unfolding reply_text
told_by_line policy wall past c k full rank line alike at right =
    is_told wall past c k full rank at.same line alike.has_place right

-- ## runs

-- what a grant holds is the instance that the request is for
pub shown : (wall : ChineseWall) (run : List Entry) (p r : ℕ) (at : ℕ × ℕ) (full : Full Contents)
    (rank : ℕ) → slice_get (requests p (posts run)) r ≡ Some at →
    IsClaimed wall (effects run) p r full rank → IsShown wall (contributions run) at full
shown wall run p r at full rank asked claimed =
    let both : Some at ≡ Some (claimed.comm, claimed.k) = sym asked ∙ claimed.asked in
    let same : (claimed.comm, claimed.k) ≡ at = cc in
    record {
      granted = subst (λ (it : ℕ × ℕ). outcome_at wall it.0 it.1 (posts run) ≡ Some Granted) same
          claimed.granted;
      same = subst (λ (it : ℕ × ℕ). SameInstanceButForRoom full
          (instance_at wall (contributions run) it.0 it.1)) same claimed.is_full;
    }

-- what is kept stays right with one entry more
line_stays : (wall : ChineseWall) (run : List Entry) (e : Entry) (place : Option KeptLine) →
    Legal wall (e ∷ run) → IsRightLine wall (contributions run) place →
    IsRightLine wall (contributions (e ∷ run)) place
line_stays wall run e None legal right = tt
line_stays wall run e (Some kept) legal right =
    right_stays wall kept.comm kept.k kept.text.items run e legal right

pub all_stay : (wall : ChineseWall) (run : List Entry) (e : Entry) (lines : KeptLines) →
    Legal wall (e ∷ run) → AreRight wall (contributions run) lines →
    AreRight wall (contributions (e ∷ run)) lines
all_stay wall run e lines legal right = λ n d low.
    line_stays wall run e (slice_index_or lines.places.items n d) legal (right n d low)

-- ## tellers

-- a hall that stands for an entry more, with lines that are right after it
pub teller_after : (old new : HallValue) (lines : KeptLines) (run : List Entry) (e : Entry) →
    new.policy ≡ old.policy → Legal new.policy (e ∷ run) × StandsFor new (e ∷ run) →
    (Legal old.policy (e ∷ run) → AreRight old.policy (contributions (e ∷ run)) lines) →
    Legal old.policy (e ∷ run) × TellsRun (record { hall = new; lines = lines }) (e ∷ run)
teller_after old new lines run e same after right =
    let legal = subst (λ (wall : ChineseWall). Legal wall (e ∷ run)) same after.0 in (
      legal,
      record {
        stands = after.1;
        right = subst (λ (wall : ChineseWall). AreRight wall (contributions (e ∷ run)) lines)
            (sym same) (right legal);
      },
    )

-- the call that takes a request, by its process and number
pub goes_of : (old new : HallValue) (p r : ℕ) (it : Open) (got : Reply) → IsOf it p r →
    GoesOn old new (to_take it.process it.request) got → GoesOn old new (to_take p r) got
goes_of old new p r it got of goes =
    subst (λ q. GoesOn old new (to_take q r) got) of.process
    (subst (λ n. GoesOn old new (to_take it.process n) got) of.number goes)

-- a take is answered whose line was written, with lines that are right after it
pub take_answered : (old new : Teller) (before after : List ℕ) (p r : ℕ) (got : Reply) →
    new.hall.policy ≡ old.hall.policy → GoesOn old.hall new.hall (to_take p r) got →
    ((run : List Entry) → TellsRun old run →
    AreRight old.hall.policy (contributions run) new.lines) →
    ((run : List Entry) → TellsRun old run →
    after ≡ before ++ reply_line old.hall.policy got) →
    AnswersCall TellsRun old.hall.policy old new before after (to_take p r)
take_answered old new before after p r got same goes right e = λ run legal tells.
    let it = teller_after old.hall new.hall new.lines run (entry (to_take p r) got) same
    (goes run legal tells.stands) (λ longer. right run tells) in
    record { reply = got; legal = it.0; standing = it.1; text = e run tells }

-- so is one that changes nothing, if its line was written
pub told_answered : {X E : Type 0} (done : Result X E) (teller : Teller) (policy : ChineseWall)
    (before after : List ℕ) (p r : ℕ) (got : Reply) → policy ≡ teller.hall.policy →
    GoesOn teller.hall teller.hall (to_take p r) got →
    OnOk done (after ≡ before ++ reply_line policy got) →
    OnOk done (AnswersCall TellsRun teller.hall.policy teller teller before after (to_take p r))
told_answered (Ok x) teller policy before after p r got same goes e =
    take_answered teller teller before after p r got refl goes (λ run tells. tells.right)
    (λ run tells. e ∙ ap (λ (w : ChineseWall). before ++ reply_line w got) same)
told_answered (Err f) teller policy before after p r got same goes e = tt

-- what stands behind a text
pub behind : (before line now : List ℕ) (n : ℕ) → n ≡ length before → now ≡ before ++ line →
    take (length now - n) (drop n now) ≡ line
behind before line now n at is =
    rw (is, at, drop-append_seam before line) (take_all (length (before ++ line) - length before)
    line (omega (arith, length-append before line)))
