-- Two worlds that are alike outside a dataset look the same to who doesn't hold it.
use Rattle.std.proofs.Common.{◌≡◌, ℕ, ◌<◌, ◌≤◌, List, [], ◌∷◌, length, refl, sym, ap, ◌∙◌, subst}
use Rattle.std.proofs.Common.{arith, Bool, true, false, not, cond, ⊎_elim, ◌⊎◌, inl, inr, Option}
use Rattle.std.proofs.Common.{Some, None, slice_get, option_map, eqb-true}
use Rattle.std.specs.Prelude.{◌==◌}
use Rattle.std.proofs.lemmas.Bool.{cases_Bool, cond-true, cond-false, false≢true, and_from}
use Rattle.std.proofs.lemmas.Bool.{or_right}
use Rattle.std.proofs.lemmas.Option.{slice_get-map}
use Rattle.wall_labels.specs.declared.ids.TheConstants.{DATASET_LIMIT}
use Rattle.wall_labels.specs.declared.label.Label.{Label}
use Rattle.wall_labels.specs.declared.label.Label.TheVariants.{Of}
use Rattle.wall_policy.specs.Policy.{ChineseWall}
use Rattle.wall_policy.proofs.WallPolicyLemmas.{rivals_turned}
use Rattle.wall_rules.specs.Histories.{History}
use Rattle.mpi_elems.specs.Elements.{Element}
use Rattle.mpi_elems.specs.Contents.{Contents, elements}
use Rattle.mpi_group.specs.Groups.{rank_in}
use Rattle.coll_routes.specs.declared.roll.Roll.{Roll}
use Rattle.coll_routes.specs.declared.statement.Stated.{Stated}
use Rattle.coll_routes.specs.Rolls.{label_of, label_in, stated_in, routed}
use Rattle.coll_routes.proofs.CollRoutesLemmas.{any_at}
use Rattle.coll_values.specs.declared.full.Full.{Full}
use Rattle.coll_values.specs.declared.delivery.Block.{Block}
use Rattle.coll_values.specs.Instances.{elements_in, part}
use Rattle.coll_values.specs.Values.{value}
use Rattle.coll_values.specs.Forms.{form_of_part}
use Rattle.coll_values.specs.Laws.{ValuesAreOfRoutedRanks}
use Rattle.wall_verdict.specs.Charges.{dataset_in, is_that, contribution, contributed, sanitised}
use Rattle.wall_verdict.specs.Charges.{charged}
use Rattle.wall_verdict.specs.Grants.{charged_at, charged_to}
use Rattle.run_model.specs.declared.outcome.Outcome.TheVariants.{Granted}
use Rattle.run_model.specs.Comms.{Comm}
use Rattle.coll_routes.specs.Rolls.{is_full}
use Rattle.run_model.specs.Posts.{Post, kth_posts, instance, comms, labelled}
use Rattle.run_model.specs.Posts.{with_delivery, is_granted, histories, outcome_of, outcome_at}
use Rattle.run_model.specs.Holding.{Holds, had_at_first}
use Rattle.run_model.proofs.HoldingLemmas.{label_of_holder, rival_within, is_labelled_d}
use Rattle.run_model.proofs.PostLawLemmas.{grow}
use Rattle.run_model.specs.Contributions.{Contribution, posts_of, full_at}
use Rattle.run_model.specs.declared.call.Posting.{Posting}
use Rattle.run_model.specs.declared.call.Act.{Act}
use Rattle.run_model.specs.declared.call.Act.TheVariants.{Post as ToPost, Take, Info as ToInfo}
use Rattle.run_model.specs.declared.reply.Reply.{Reply}
use Rattle.run_model.specs.declared.reply.Reply.TheVariants.{Posted, Delivered}
use Rattle.run_model.specs.Runs.{Entry, effects, posts, contributions, given_in}
use Rattle.run_model.specs.Runs.{label_in as label_given, label_if, requests}
use Rattle.run_model.specs.Replies.{refusal, comm_at, reply_by, reply}
use Rattle.run_model.specs.RunLaws.{instance_in, IsDelivered}
use Rattle.run_model.specs.Worlds.{SamePostingButForValues, SameActButForValues, AreTwoWorlds}
use Rattle.run_model.specs.Worlds.{form_of_reply, SameButForNumbers, SameValues, MayWriteOf}
use Rattle.run_model.specs.Worlds.{DifferOnlyIn, is_sanitised_of, is_spared_at, is_spared}
use Rattle.run_model.specs.Worlds.{without_numbers_if, what_is_seen, LooksTheSameTo}
use Rattle.run_model.specs.Worlds.{WhoHoldsNothingLearnsNothing, NoQuestionTellsWorldsApart}
use Rattle.run_model.specs.Worlds.{RivalsLearnNothing, HomesOfRivalsSeeNothing}
use Rattle.run_model.proofs.CountLemmas.{posted_taken}
use Rattle.run_model.proofs.SettledLemmas.{settled_from, settled_full, settled_roll, comm_at_is}
use Rattle.run_model.proofs.RunLemmas.{one_reply_is_due, holding_is_history_in_runs}
use Rattle.run_model.proofs.RunLemmas.{nobody_holds_two_rivals_in_runs, histories_grow}
use Rattle.run_model.proofs.RunLemmas.{deliveries_are_of_grants}
use Rattle.run_model.proofs.TellLemmas.{grants_are_delivered}
use Rattle.run_model.proofs.SeenLemmas.{View, seen_all, same_posts, pairs, of_pair, own_parts_are}
use Rattle.run_model.proofs.SeenLemmas.{full_statements_are}
use Rattle.coll_values.proofs.CollValuesLemmas.{one_form}
use Rattle.run_model.proofs.WorldsLemmas.{LookTheSame, forms, one_past, pairs_look_same}
use Rattle.run_model.proofs.WorldsLemmas.{PassLookingTheSame, step_looks_same, older, first_due}
use Rattle.run_model.proofs.WorldsLemmas.{reply_told, post_told, worlds_look_same}

-- ## what is seen by who doesn't see d

-- the numbers of what is labelled d are hidden
abbrev pub outside : ℕ → View Contents (List Element)
outside d s x = cond (is_that (dataset_in s.label) d) (form_of_part x) (elements x)

-- ## a post that passes looks the same

one_outside : {X : Type 0} (s t : Bool) (f g a b : X) → s ≡ t → f ≡ g → (s ≡ false → a ≡ b) →
    cond s f a ≡ cond t g b
one_outside true true f g a b e h k = h
one_outside false false f g a b e h k = k refl
one_outside true false f g a b e h k = absurd (cc)
one_outside false true f g a b e h k = absurd (cc)

no_elements : {X : Type 0} (xs ys : List X) → length xs ≡ 0 → length ys ≡ 0 → xs ≡ ys
no_elements [] [] h k = refl
no_elements (x ∷ xs) ys h k = absurd (omega (arith, h))
no_elements [] (y ∷ ys) h k = absurd (omega (arith, k))

unlabelled : (given : ℕ) (label : Label) → label_if given label ≡ None → given ≡ 0
unlabelled given label e =
    ⊎_elim (λ t. eqb-true given 0 t) (λ f. let some =
    sym (cond-false (given == 0) None (Some label) f) ∙ e in absurd (cc)) (cases_Bool (given == 0))

module _ (wall : ChineseWall) (d : ℕ) (low : d < DATASET_LIMIT) (run other : List Entry)
    (e f : Entry) (w : AreTwoWorlds wall (e ∷ run) (f ∷ other)) where
  p : ℕ
  p = e.call.process

  -- who holds d and passes with elements labels them d
  holder_labels : (a : Posting) (r : ℕ) → e.call.act ≡ ToPost a → e.reply ≡ Posted r →
      Holds wall (posts run) e.call.process d → (label_given a ≡ None → ⊥) → label_given a
      ≡ Some (Of d)
  holder_labels a r is posted holds gives =
      let told : Posted r ≡ reply_by wall (effects run) e.call.process (ToPost a) =
      sym posted
      ∙ (first_due wall run other e f w
      ∙ ap (λ act. reply_by wall (effects run) e.call.process act) is) in
      let passed =
      (posted_taken wall (effects run) e.call.process r a
      (refusal wall (effects run) e.call.process a) told).1 in
      let has : histories wall (posts run) e.call.process d ≡ true =
      (holding_is_history_in_runs wall [] run w.first.0 e.call.process d low).1 holds in
      label_of_holder (histories wall (posts run))
      (record {
        process = e.call.process;
        comm = a.comm;
        stated =
            Rattle.run_model.specs.Runs.statement a false;
      }) d low has (label_given a) gives passed

  same_elements : (a b : Posting) (r : ℕ) → SamePostingButForValues a b → e.call.act ≡ ToPost a →
      e.reply ≡ Posted r → (elements a.elements ≡ elements b.elements) ⊎
      ((label_given a ≡ Some (Of d)) ⊎ Holds wall (posts run) e.call.process d) →
      is_that (dataset_in (label_given a)) d ≡ false → elements a.elements ≡ elements b.elements
  same_elements a b r one is posted (inl same) apart = same
  same_elements a b r one is posted (inr (inl label)) apart =
      absurd (false≢true (sym apart ∙ is_labelled_d (label_given a) d label))
  same_elements a b r one is posted (inr (inr holds)) apart =
      let nothing : label_given a ≡ None → elements a.elements ≡ elements b.elements =
      λ none. (let zero = unlabelled (given_in a) a.label none in
      no_elements (elements a.elements) (elements b.elements) zero
      (sym one.elements.number ∙ zero)) in
      by_label (label_given a) refl nothing
    where
      by_label : (o : Option Label) → label_given a ≡ o →
          (label_given a ≡ None → elements a.elements ≡ elements b.elements) → elements a.elements
          ≡ elements b.elements
      by_label None at nothing = nothing at
      by_label (Some l) at nothing =
          absurd
          (false≢true
          (sym apart ∙ is_labelled_d (label_given a) d
          (holder_labels a r is posted holds (λ none. let bad : Some l ≡ None =
          sym at ∙ none in absurd (cc)))))

  values_of : (act given : Act) (a b : Posting) → act ≡ ToPost a → given ≡ ToPost b →
      SameValues act given ⊎ MayWriteOf wall (posts run) d e.call.process act →
      (elements a.elements ≡ elements b.elements) ⊎
      ((label_given a ≡ Some (Of d)) ⊎ Holds wall (posts run) e.call.process d)
  values_of act given a b is has alike =
      subst (λ x. SameValues (ToPost a) x ⊎ MayWriteOf wall (posts run) d e.call.process (ToPost a))
      has (subst (λ x. SameValues x given ⊎ MayWriteOf wall (posts run) d e.call.process x) is
      alike)

  one_of : (act given : Act) (a b : Posting) → act ≡ ToPost a → given ≡ ToPost b →
      SameActButForValues act given → SamePostingButForValues a b
  one_of act given a b is has one =
      subst (λ x. SameActButForValues (ToPost a) x) has
      (subst (λ x. SameActButForValues x given) is one)

  passes_same : SameValues e.call.act f.call.act ⊎
      MayWriteOf wall (posts run) d e.call.process e.call.act →
      PassLookingTheSame (outside d) e.call.act f.call.act e.reply
  passes_same alike a b r is has posted =
      let one = one_of e.call.act f.call.act a b is has w.calls.0.act in
      one_outside (is_that (dataset_in (label_given a)) d) (is_that (dataset_in (label_given b)) d)
      (form_of_part a.elements) (form_of_part b.elements) (elements a.elements)
      (elements b.elements)
      (λ i. is_that (dataset_in (label_if (one.elements.number i) (one.label i))) d)
      (one_form a.elements b.elements one.elements)
      (same_elements a b r one is posted (values_of e.call.act f.call.act a b is has alike))

pub look_same_outside : (wall : ChineseWall) (d : ℕ) → d < DATASET_LIMIT →
    (run other : List Entry) → AreTwoWorlds wall run other → DifferOnlyIn wall d run other →
    LookTheSame (outside d) (effects run) (effects other)
look_same_outside wall d low [] [] w alike = record { contributions = refl; taken = refl }
look_same_outside wall d low [] (f ∷ other) w alike = absurd w.calls
look_same_outside wall d low (e ∷ run) [] w alike = absurd w.calls
look_same_outside wall d low (e ∷ run) (f ∷ other) w alike =
    let before = older wall e f run other w in
    let plain = worlds_look_same wall run other before in
    step_looks_same (outside d) (effects run) (effects other) e f
    (look_same_outside wall d low run other before alike.0) w.calls.0
    (reply_told wall run other e f w plain) (post_told wall run other e f w plain)
    (passes_same wall d low run other e f w alike.1)

-- ## parts that aren't labelled d are equal

label_at : Option (Stated × Contents) → Option Label
label_at o = label_in (stated_in (option_map (λ (q : Stated × Contents). Some q.0) o))

equal_outside : (d : ℕ) (o other : Option (Stated × Contents)) → option_map (of_pair (outside d)) o
    ≡ option_map (of_pair (outside d)) other → is_that (dataset_in (label_at o)) d ≡ false →
    is_that (dataset_in (label_at other)) d ≡ false →
    elements_in (option_map (λ (q : Stated × Contents). q.1) o)
    ≡ elements_in (option_map (λ (q : Stated × Contents). q.1) other)
unfolding label_at
equal_outside d None None e h k = refl
equal_outside d (Some q) None e h k = absurd (cc)
equal_outside d None (Some r) e h k = absurd (cc)
equal_outside d (Some q) (Some r) e h k =
    let same : of_pair (outside d) q ≡ of_pair (outside d) r = cc in
    sym (cond-false (is_that (dataset_in q.0.label) d) (form_of_part q.1) (elements q.1) h)
    ∙ (same ∙ cond-false (is_that (dataset_in r.0.label) d) (form_of_part r.1) (elements r.1) k)

module _ (comm : Comm) (c k : ℕ) (past : List (Contribution Contents))
    (full : is_full (kth_posts comm c k (posts_of past)) ≡ true) (i : ℕ) where
  label_of_pair : label_of (instance comm c k (posts_of past)) i
      ≡ label_at (slice_get (pairs comm c k past) i)
  unfolding label_at
  label_of_pair =
      ap (λ ss. label_in (stated_in (slice_get ss i))) (full_statements_are comm c k past full)
      ∙ ap (λ o. label_in (stated_in o))
      (slice_get-map (λ (q : Stated × Contents). Some q.0) (pairs comm c k past) i)

  part_of_pair : part (full_at comm c k past) i
      ≡ elements_in
      (option_map (λ (q : Stated × Contents). q.1) (slice_get (pairs comm c k past) i))
  part_of_pair =
      ap (λ ps. elements_in (slice_get ps i)) (own_parts_are comm c k past)
      ∙ ap elements_in (slice_get-map (λ (q : Stated × Contents). q.1) (pairs comm c k past) i)

part_outside : (d : ℕ) (comm : Comm) (c k : ℕ) (past other : List (Contribution Contents)) →
    seen_all (outside d) past ≡ seen_all (outside d) other →
    is_full (kth_posts comm c k (posts_of past)) ≡ true →
    (i : ℕ) → is_that (dataset_in (label_of (instance comm c k (posts_of past)) i)) d ≡ false →
    part (full_at comm c k past) i ≡ part (full_at comm c k other) i
part_outside d comm c k past other same full i apart =
    let ps = same_posts (outside d) past other same in
    let other_full : is_full (kth_posts comm c k (posts_of other)) ≡ true =
    ap (λ xs. is_full (kth_posts comm c k xs)) (sym ps) ∙ full in
    let other_apart : is_that (dataset_in (label_of (instance comm c k (posts_of other)) i)) d
    ≡ false = ap (λ xs. is_that (dataset_in (label_of (instance comm c k xs) i)) d) (sym ps)
    ∙ apart in
    part_of_pair comm c k past full i
    ∙ (equal_outside d (slice_get (pairs comm c k past) i) (slice_get (pairs comm c k other) i)
    (sym (slice_get-map (of_pair (outside d)) (pairs comm c k past) i)
    ∙ (ap (λ xs. slice_get xs i) (pairs_look_same (outside d) comm c k past other same)
    ∙ slice_get-map (of_pair (outside d)) (pairs comm c k other) i))
    (sym (ap (λ o. is_that (dataset_in o) d) (label_of_pair comm c k past full i)) ∙ apart)
    (sym (ap (λ o. is_that (dataset_in o) d) (label_of_pair comm c k other other_full i))
    ∙ other_apart)
    ∙ sym (part_of_pair comm c k other other_full i))

-- ## contributors

-- where nobody contributes d, what is routed isn't labelled d
routed_apart : (roll : Roll) (i j d : ℕ) → i < roll.shape.size → contributed roll j d ≡ false →
    routed roll i j ≡ true → is_that (dataset_in (label_of roll i)) d ≡ false
routed_apart roll i j d low none r = ⊎_elim
    (λ t. absurd
    (false≢true (sym none ∙ any_at (λ k. is_that (contribution roll k j) d) 0 roll.shape.size i
    (omega arith) (omega arith)
    (ap (λ o. is_that o d) (cond-true (routed roll i j) (dataset_in (label_of roll i)) None r)
    ∙ t))))
    (λ f. f)
    (cases_Bool (is_that (dataset_in (label_of roll i)) d))

-- an unsanitised contribution of a grant enters the receiver's history
charged_is_history : (wall : ChineseWall) (past : List (Contribution Contents)) (c k p j d : ℕ) →
    outcome_at wall c k (posts_of past) ≡ Some Granted →
    rank_in (comm_at wall (posts_of past) c).members p ≡ Some j →
    charged wall (full_at (comm_at wall (posts_of past) c) c k past).roll j d ≡ true →
    histories wall (posts_of past) p d ≡ true
charged_is_history wall past c k p j d granted member to_rank =
    let h = settled_from wall c k (posts_of past) Granted granted in
    let one = settled_roll wall c k Granted past h in
    let now : History = labelled (histories wall h.before) h.x in
    let number = length (comms wall h.before) in
    let came : outcome_of wall now number h.roll ≡ Granted =
    (let both = sym (ap (λ o. option_map (outcome_of wall now number) o) h.fills) ∙ h.came in
    cc) in
    let receiver : rank_in h.roll.members p ≡ Some j =
    ap (λ (r : Roll). rank_in r.members p) (sym one) ∙ member in
    let to_process : charged_to wall h.roll p d ≡ true =
    ap (λ o. charged_at wall h.roll o d) receiver
    ∙ (ap (λ (r : Roll). charged wall r j d) (sym one) ∙ to_rank) in
    let then_held : histories wall (h.x ∷ h.before) p d ≡ true =
    ap (λ o. with_delivery wall now number o p d) h.fills
    ∙ or_right (now p d) _ (and_from (is_granted (outcome_of wall now number h.roll))
    (charged_to wall h.roll p d) (ap is_granted came) to_process) in
    subst (λ ps. histories wall ps p d ≡ true) h.moment.1
    (grow wall h.moment.0 (h.x ∷ h.before) p d then_held)

-- ## one turn

is_delivered : Reply → Bool
is_delivered (Delivered blocks) = true
is_delivered other = false

delivered_form : (a : Reply) → is_delivered (form_of_reply a) ≡ is_delivered a
unfolding is_delivered
delivered_form (Delivered blocks) = refl
delivered_form other = refl

plain_form : (a : Reply) → is_delivered a ≡ false → form_of_reply a ≡ a
unfolding is_delivered
plain_form (Delivered blocks) h = absurd (false≢true (sym h))
plain_form other h = refl

delivers : (a : Reply) → is_delivered a ≡ true → (blocks : List Block) × (a ≡ Delivered blocks)
unfolding is_delivered
delivers (Delivered blocks) h = (blocks, refl)
delivers other h = absurd (false≢true h)

plain_same : (a b : Reply) → SameButForNumbers a b → is_delivered a ≡ false → a ≡ b
plain_same a b same plain =
    let other : is_delivered b ≡ false =
    sym (delivered_form b) ∙ (ap is_delivered (sym same) ∙ (delivered_form a ∙ plain)) in
    sym (plain_form a plain) ∙ (same ∙ plain_form b other)

same_take : (act given : Act) (r : ℕ) → SameActButForValues act given → act ≡ Take r →
    given ≡ Take r
same_take (Take s) (Take t) r one is = ap (λ k. Take k) (sym one) ∙ is
same_take (ToPost a) given r one is = absurd (cc)
same_take (ToInfo c) given r one is = absurd (cc)
same_take (Take s) (ToPost a) r one is = absurd one
same_take (Take s) (ToInfo c) r one is = absurd one

module _ (values : ValuesAreOfRoutedRanks) (wall : ChineseWall) (d : ℕ) (low : d < DATASET_LIMIT)
    (run other : List Entry) (e f : Entry) (w : AreTwoWorlds wall (e ∷ run) (f ∷ other))
    (alike : DifferOnlyIn wall d run other)
    (apart : histories wall (posts run) e.call.process d ≡ true → ⊥) where
  before : AreTwoWorlds wall run other
  before = older wall e f run other w

  same : LookTheSame (outside d) (effects run) (effects other)
  same = look_same_outside wall d low run other before alike

  past_one : posts run ≡ posts other
  past_one = one_past (outside d) (effects run) (effects other) same

  numbers_apart : SameButForNumbers e.reply f.reply
  numbers_apart = reply_told wall run other e f w (worlds_look_same wall run other before)

  -- the reply is the same, or spared
  abbrev SeenAlike : ℕ → Type 0
  SeenAlike p = (e.reply ≡ f.reply) ⊎
      ((is_spared wall (posts run) d p e.call.act ≡ true) × SameButForNumbers e.reply f.reply)

  module _ (blocks : List Block) (got : IsDelivered wall run e.call.process e.call.act blocks) where
    abbrev F : Full Contents
    F = instance_in wall run got.comm got.k

    abbrev G : Full Contents
    G = full_at (comm_at wall (posts run) got.comm) got.comm got.k (contributions other)

    is_full_now : is_full (kth_posts (comm_at wall (posts run) got.comm) got.comm got.k (posts run))
        ≡ true
    is_full_now =
        let there = settled_full wall got.comm got.k (posts run) Granted got.granted in
        ap (λ n. is_full (kth_posts n got.comm got.k (posts run)))
        (comm_at_is wall (posts run) got.comm there.comm there.at) ∙ there.full

    -- the other run's reply
    other_told : f.reply ≡ Delivered (value (instance_in wall other got.comm got.k) got.rank)
    other_told =
        let call_is : f.call ≡ record { process = e.call.process; act = Take got.request } =
        λ i. record {
          process = sym w.calls.0.process i;
          act =
              same_take e.call.act f.call.act got.request w.calls.0.act got.takes i;
        } in
        one_reply_is_due wall other f.call f.reply w.second.1 w.second_memory.1
        ∙ (ap (reply wall other) call_is
        ∙ grants_are_delivered wall other e.call.process got.request got.comm got.k got.rank
        (ap (λ ps. slice_get (requests e.call.process ps) got.request) (sym past_one) ∙ got.given)
        (sym (λ i. same.taken i e.call.process got.request) ∙ got.untaken)
        (ap (λ ps. outcome_at wall got.comm got.k ps) (sym past_one) ∙ got.granted)
        (ap (λ ps. rank_in (comm_at wall ps got.comm).members e.call.process) (sym past_one)
        ∙ got.is_member))

    value_same : contributed F.roll got.rank d ≡ false → value F got.rank
        ≡ value (instance_in wall other got.comm got.k) got.rank
    value_same none =
        values F G got.rank (record {
          roll = ap (λ ps. instance (comm_at wall (posts run) got.comm) got.comm got.k ps) past_one;
          parts = λ i less r. part_outside d (comm_at wall (posts run) got.comm) got.comm got.k
              (contributions run) (contributions other) same.contributions is_full_now i
              (routed_apart F.roll i got.rank d less none r);
        })
        ∙ ap (λ ps. value (full_at (comm_at wall ps got.comm) got.comm got.k (contributions other))
        got.rank) past_one

    from_d : contributed F.roll got.rank d ≡ true → sanitised wall F.roll got.rank ≡ true →
        is_spared wall (posts run) d e.call.process e.call.act ≡ true
    from_d some clean =
        let comm = comm_at wall (posts run) got.comm in
        ap (λ act. is_spared wall (posts run) d e.call.process act) got.takes
        ∙ (ap (is_spared_at wall (posts run) d e.call.process) got.given
        ∙ (ap (λ o. is_sanitised_of wall (instance comm got.comm got.k (posts run)) o d)
        got.is_member
        ∙ and_from (sanitised wall F.roll got.rank) (contributed F.roll got.rank d) clean some))

    delivery_same : (e.reply ≡ Delivered blocks) → SeenAlike e.call.process
    delivery_same is = ⊎_elim
        (λ some. ⊎_elim
        (λ clean. inr (from_d some clean, numbers_apart))
        (λ dirty. absurd
        (apart (charged_is_history wall (contributions run) got.comm got.k e.call.process got.rank d
        got.granted got.is_member
        (and_from (not (sanitised wall F.roll got.rank)) (contributed F.roll got.rank d)
        (ap not dirty) some))))
        (cases_Bool (sanitised wall F.roll got.rank)))
        (λ none. inl
        (is ∙ (ap (λ bs. Delivered bs) (got.blocks_are ∙ value_same none) ∙ sym other_told)))
        (cases_Bool (contributed F.roll got.rank d))

  turn_same : SeenAlike e.call.process
  turn_same = ⊎_elim
      (λ t.
      let is = delivers e.reply t in
      delivery_same is.0 (deliveries_are_of_grants wall run e is.0 w.first is.1) is.1)
      (λ n. inl (plain_same e.reply f.reply numbers_apart n))
      (cases_Bool (is_delivered e.reply))

-- ## runs

looks_same : ValuesAreOfRoutedRanks → (wall : ChineseWall) (run other : List Entry) (d p : ℕ) →
    d < DATASET_LIMIT → AreTwoWorlds wall run other → DifferOnlyIn wall d run other →
    (histories wall (posts run) p d ≡ true → ⊥) → LooksTheSameTo wall d p run other
looks_same values wall [] [] d p low w alike apart = tt
looks_same values wall [] (f ∷ other) d p low w alike apart = absurd w.calls
looks_same values wall (e ∷ run) [] d p low w alike apart = absurd w.calls
looks_same values wall (e ∷ run) (f ∷ other) d p low w alike apart =
    let was_apart : histories wall (posts run) p d ≡ true → ⊥ =
    λ h. apart (histories_grow wall run (e ∷ []) p d h) in (
      looks_same values wall run other d p low (older wall e f run other w) alike.0 was_apart,
      λ is. subst (λ q. (e.reply ≡ f.reply) ⊎
          ((is_spared wall (posts run) d q e.call.act ≡ true) × SameButForNumbers e.reply f.reply))
          is (turn_same values wall d low run other e f w alike.0
          (λ h. was_apart (subst (λ q. histories wall (posts run) q d ≡ true) is h))),
    )

-- ## what is seen

same_spared : (wall : ChineseWall) (past : List Post) (d p : ℕ) (act given : Act) →
    SameActButForValues act given → is_spared wall past d p act ≡ is_spared wall past d p given
same_spared wall past d p (ToPost a) (ToPost b) one = refl
same_spared wall past d p (Take r) (Take s) one = ap (λ k. is_spared wall past d p (Take k)) one
same_spared wall past d p (ToInfo a) (ToInfo b) one = refl
same_spared wall past d p (ToPost a) (Take s) one = absurd one
same_spared wall past d p (ToPost a) (ToInfo b) one = absurd one
same_spared wall past d p (Take r) (ToPost b) one = absurd one
same_spared wall past d p (Take r) (ToInfo b) one = absurd one
same_spared wall past d p (ToInfo a) (ToPost b) one = absurd one
same_spared wall past d p (ToInfo a) (Take s) one = absurd one

masked : (s t : Bool) (a b : Reply) → s ≡ t → (a ≡ b) ⊎ ((s ≡ true) × SameButForNumbers a b) →
    without_numbers_if s a ≡ without_numbers_if t b
masked s t a b e (inl same) = λ i. without_numbers_if (e i) (same i)
masked s t a b e (inr both) =
    cond-true s (form_of_reply a) a both.0
    ∙ (both.1 ∙ sym (cond-true t (form_of_reply b) b (sym e ∙ both.0)))

one_more : (s t : Bool) (a b : Reply) (seen told : List Reply) → s ≡ t → (s ≡ true → a ≡ b) →
    seen ≡ told → cond s (a ∷ seen) seen ≡ cond t (b ∷ told) told
one_more true true a b seen told e one rest = λ i. one refl i ∷ rest i
one_more false false a b seen told e one rest = rest
one_more true false a b seen told e one rest = absurd (cc)
one_more false true a b seen told e one rest = absurd (cc)

seen_same : (wall : ChineseWall) (run other : List Entry) (d p : ℕ) → AreTwoWorlds wall run other →
    LooksTheSameTo wall d p run other → what_is_seen wall d p run ≡ what_is_seen wall d p other
seen_same wall [] [] d p w looks = refl
seen_same wall [] (f ∷ other) d p w looks = absurd looks
seen_same wall (e ∷ run) [] d p w looks = absurd looks
seen_same wall (e ∷ run) (f ∷ other) d p w looks =
    let before = older wall e f run other w in
    let past : posts run ≡ posts other =
    one_past forms (effects run) (effects other) (worlds_look_same wall run other before) in
    let spared : is_spared wall (posts run) d p e.call.act
    ≡ is_spared wall (posts other) d p f.call.act =
    same_spared wall (posts run) d p e.call.act f.call.act w.calls.0.act
    ∙ ap (λ ps. is_spared wall ps d p f.call.act) past in
    one_more (e.call.process == p) (f.call.process == p)
    (without_numbers_if (is_spared wall (posts run) d p e.call.act) e.reply)
    (without_numbers_if (is_spared wall (posts other) d p f.call.act) f.reply)
    (what_is_seen wall d p run) (what_is_seen wall d p other)
    (ap (λ q. q == p) w.calls.0.process)
    (λ is. masked (is_spared wall (posts run) d p e.call.act)
    (is_spared wall (posts other) d p f.call.act) e.reply f.reply spared
    (looks.1 (eqb-true e.call.process p is)))
    (seen_same wall run other d p before looks.0)

-- ## the laws

module _ (values : ValuesAreOfRoutedRanks) where
  pub who_holds_nothing_learns_nothing : WhoHoldsNothingLearnsNothing
  who_holds_nothing_learns_nothing wall run other d p low alike apart =
      let looks = looks_same values wall run other d p low alike.worlds alike.values
      (λ h. apart ((holding_is_history_in_runs wall [] run alike.worlds.first p d low).0 h)) in
      record { turns = looks; seen = seen_same wall run other d p alike.worlds looks }

  pub no_question_tells_worlds_apart : NoQuestionTellsWorldsApart
  no_question_tells_worlds_apart wall run other d p question low alike apart =
      ap question (who_holds_nothing_learns_nothing wall run other d p low alike apart).seen

  pub rivals_learn_nothing : RivalsLearnNothing
  rivals_learn_nothing wall run other own d p policy rivals alike holds =
      let few : length wall.classes ≤ DATASET_LIMIT =
      subst (λ n. n ≤ DATASET_LIMIT) (sym policy.class_for_each) policy.few_datasets in
      let within = rival_within wall.classes own d rivals in
      who_holds_nothing_learns_nothing wall run other d p (omega (arith, few, within)) alike
      (nobody_holds_two_rivals_in_runs wall [] run policy alike.worlds.first p own d rivals holds)

  pub homes_of_rivals_see_nothing : HomesOfRivalsSeeNothing
  homes_of_rivals_see_nothing wall run other own d p q policy rivals home_p home_q = (
    λ alike. rivals_learn_nothing wall run other own d p policy rivals alike (had_at_first home_p),
    λ alike. rivals_learn_nothing wall run other d own q policy
        (rivals_turned wall.classes own d rivals) alike (had_at_first home_q),
  )
