-- What a rule names, found by the calls.
use Rattle.std.proofs.Common.{◌≡◌, ℕ, ◌+◌, ◌-◌, ◌<◌, Bool, true, Option, Some, None}
use Rattle.std.proofs.Common.{sym, ap}
use Rattle.std.proofs.Common.{◌∙◌, ◌||◌, subst, arith, slice_get, inl, inr, List}
use Rattle.std.specs.Prelude.{IfSome, IfNone}
use Rattle.std.specs.Ordering.{nat_cmp}
use Rattle.std.specs.FinSet.{FinSet, empty, contains, contains-empty}
use Rattle.std.proofs.lemmas.Bool.{false≢true, or_cases}
use Rattle.wall_labels.specs.declared.label.Label.{Label}
use Rattle.wall_labels.specs.declared.label.Label.TheVariants.{Of}
use Rattle.wall_policy.specs.Policy.{ChineseWall}
use Rattle.wall_policy.specs.Rivals.{AreRivals}
use Rattle.wall_rules.specs.Histories.{History}
use Rattle.mpi_group.specs.Groups.{IsGroup, rank_in}
use Rattle.wall_verdict.specs.Meanings.{NamesOffence}
use Rattle.coll_routes.specs.declared.roll.Roll.{Roll}
use Rattle.coll_routes.specs.Rolls.{label_of}
use Rattle.wall_verdict.specs.Charges.{dataset_in}
use Rattle.wall_rules.specs.declared.rule.Rule.TheVariants.{Star as by_star, Simple as by_simple}
use Rattle.run_model.specs.declared.entry.Entry.{Entry}
use Rattle.book_report.specs.declared.reason.Clash.{Clash}
use Rattle.book_report.specs.Denials.{IsDeniedAt, IsPartAt, IsFilledAt, IsStarDenial}
use Rattle.book_report.specs.Denials.{IsSimpleDenial}
use Rattle.book_report.specs.Walk.{GivesTo}
use Rattle.book_report.specs.Reasons.{GivesRival, IsDenied, IsClash}
use Rattle.book_report.proofs.OffenceLemmas.{IsFound, found, dataset_same, rank_same, gives_it}
use Rattle.book_report.proofs.OffenceLemmas.{giver_same}

pub some_more : {X : Type 0} (o : Option X) (P Q : X → Type 0) → ((x : X) → P x → Q x) →
    IfSome o P → IfSome o Q
some_more (Some x) P Q more h = more x h
some_more None P Q more h = h

pub none_more : {X : Type 0} (o : Option X) (P Q : Type 0) → (P → Q) → IfNone o P → IfNone o Q
none_more (Some x) P Q more h = h
none_more None P Q more h = more h

-- nothing stands in no set
pub apart : (h : Bool) (s : FinSet nat_cmp) (e : ℕ) → s ≡ empty → (h || contains s e) ≡ true →
    h ≡ true
apart h s e none both = elim (or_cases h (contains s e) both) [
  | inl held ↦ held
  | inr there ↦ absurd (false≢true (sym (contains-empty nat_cmp e)
      ∙ (ap (λ (t : FinSet nat_cmp). contains t e) (sym none) ∙ there)))
]

module _ (wall : ChineseWall) (roll : Roll) (from to d : ℕ) where
  -- a rank without a dataset gives no rival
  pub given_none : dataset_in (label_of roll from) ≡ None → GivesRival wall roll from to d → ⊥
  given_none none g =
      let both : ◌≡◌ {A = Option ℕ} None (Some g.0) = sym none ∙ ap dataset_in g.1.1 in absurd cc

  -- the only one that it can give is its own
  pub given_other : (e : ℕ) → dataset_in (label_of roll from) ≡ Some e →
      GivesRival wall roll from to d → GivesTo roll from to e × AreRivals wall.classes d e
  given_other e is g =
      let both : Some g.0 ≡ Some e = sym (ap dataset_in g.1.1) ∙ is in
      let same : g.0 ≡ e = cc in
      (subst (GivesTo roll from to) same g.1, subst (AreRivals wall.classes d) same g.2)

module _ (wall : ChineseWall) (has : History) (roll : Roll) (p : ℕ) (label : Label) where
  -- found under other names
  pub found_as : (j i d to from dataset : ℕ) → to ≡ j → from ≡ i → dataset ≡ d →
      IsFound wall has roll p label j i d → IsFound wall has roll p label to from dataset
  found_as j i d to from dataset a b e f =
      subst (λ x. IsFound wall has roll p label x from dataset) (sym a)
      (subst (λ x. IsFound wall has roll p label j x dataset) (sym b)
      (subst (λ x. IsFound wall has roll p label j i x) (sym e) f))

  module _ (names : NamesOffence wall has roll p label) (group : IsGroup roll.members)
      (dataset : ℕ) (names_it : label ≡ Of dataset) (to : ℕ)
      (ranks_it : rank_in roll.members p ≡ Some to) where
    -- it is at a rank, and some rank gives it what it may not have
    pub giver_there : (to < roll.shape.size)
        × ((i : ℕ) × (i < roll.shape.size) × GivesTo roll i to dataset)
    giver_there =
        let f = found wall has roll p label names in
        let a = rank_same wall has roll p label f.0 f.1 f.2 f.3 to group ranks_it in
        let e = dataset_same wall has roll p label f.0 f.1 f.2 f.3 dataset names_it in
        let gives = gives_it wall has roll p label f.0 f.1 f.2 f.3 in (
          subst (λ r. r < roll.shape.size) (sym a) f.3.least.receiver,
          (
            f.1,
            f.3.least.contributor,
            subst (λ r. GivesTo roll f.1 r dataset) (sym a)
                (subst (λ x. GivesTo roll f.1 f.0 x) (sym e) gives),
          ),
        )

    -- the lowest that does is the one that the rule names
    pub found_by : (from : ℕ) → GivesTo roll from to dataset
        → ((m : ℕ) → m < from → ¬ (GivesTo roll m to dataset)) →
        IsFound wall has roll p label to from dataset
    found_by from gives lowest =
        let f = found wall has roll p label names in
        let a = rank_same wall has roll p label f.0 f.1 f.2 f.3 to group ranks_it in
        let e = dataset_same wall has roll p label f.0 f.1 f.2 f.3 dataset names_it in
        let b = giver_same wall has roll p label f.0 f.1 f.2 f.3 from
        (subst (λ r. GivesTo roll from r f.2) a (subst (λ x. GivesTo roll from to x) e gives))
        (λ m low other. lowest m low
        (subst (λ r. GivesTo roll m r dataset) (sym a)
        (subst (λ x. GivesTo roll m f.0 x) (sym e) other))) in
        found_as f.0 f.1 f.2 to from dataset a b e f.3

  module _ (entries : List Entry) (n c k : ℕ) where
    last : n ≡ n + 1 - 1
    last = omega arith

    pub simple_is : (j i d giver given : ℕ) (clash : Clash) →
        IsDenied wall entries n c k roll has by_simple p label →
        IsFound wall has roll p label j i d → slice_get roll.members i ≡ Some giver →
        IsPartAt entries given giver c k → IsClash wall entries c k roll has j i p d clash →
        IsSimpleDenial wall entries (n + 1) c k p d giver given clash.rival clash.source
    simple_is j i d giver given clash denied f contributor part is = record {
      roll = roll;
      has = has;
      j = j;
      i = i;
      told = subst (λ l. IsDeniedAt entries (n + 1) c k by_simple p l) f.names denied.told;
      filled = subst (λ m. IsFilledAt wall entries m c k roll has) last denied.filled;
      least = f.least;
      receiver = f.receiver;
      contributor = contributor;
      charged = f.charged;
      posted = part;
      rivals = is.rivals;
      source = is.source;
    }

    pub star_is : (post : ℕ) → IsDenied wall entries n c k roll has by_star p label →
        IsPartAt entries post p c k → IsStarDenial wall entries (n + 1) c k p label post
    star_is post denied part = record {
      roll = roll;
      has = has;
      told = denied.told;
      filled = subst (λ m. IsFilledAt wall entries m c k roll has) last denied.filled;
      names = denied.verdict;
      posted = part;
    }
