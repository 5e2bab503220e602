-- What a grant brings, receiver by receiver and dataset by dataset.
use Rattle.std.proofs.Common.{◌≡◌, ℕ, ◌<◌, Bool, true, false, not, List, length}
use Rattle.std.proofs.Common.{Option, Some, None, refl, ap, ◌∙◌, slice_get}
use Rattle.std.proofs.Common.{get_or}
use Rattle.std.proofs.lemmas.Bool.{false≢true, and_parts}
use Rattle.std.proofs.lemmas.Option.{slice_get-get_or}
use Rattle.wall_labels.specs.declared.label.Label.{Label}
use Rattle.wall_labels.specs.declared.label.Label.TheVariants.{Public, Of}
use Rattle.wall_labels.specs.Labels.{dataset_of}
use Rattle.wall_policy.specs.Policy.{ChineseWall}
use Rattle.mpi_group.specs.Groups.{IsGroup, rank_in}
use Rattle.mpi_group.proofs.MpiGroupLemmas.{rank_is}
use Rattle.mpi_group.proofs.MpiGroupLemmas.{ranked}
use Rattle.coll_routes.specs.declared.roll.Roll.{Roll}
use Rattle.wall_verdict.specs.Charges.{dataset_in, sanitised, charged}
use Rattle.wall_verdict.specs.Grants.{charged_at, charged_to}
use Rattle.wall_verdict.proofs.WallVerdictLemmas.{charges_are_labels}
use Rattle.run_model.specs.declared.entry.Entry.{Entry}
use Rattle.book_report.specs.declared.row.Way.TheVariants.{Delivered}
use Rattle.book_report.specs.Held.{IsFirstAfter, IsOwnPost, IsRow}
use Rattle.book_report.specs.Walk.{GivesTo, IsGrantAt}

---- labels

pub names_it : (l : Label) (d : ℕ) → dataset_of l ≡ Some d → Some l ≡ Some (Of d)
names_it Public d h = absurd cc
names_it (Of e) d h = let same : e ≡ d = cc in ap (λ (k : ℕ). Some (Of k)) same

pub its_name : (l : Label) (d : ℕ) → Some l ≡ Some (Of d) → dataset_of l ≡ Some d
its_name l d h = ap dataset_in h

---- ranks and members

-- d is charged to the rank of p
abbrev pub IsMemberCharged : ChineseWall → Roll → (p d : ℕ) → Type 0
IsMemberCharged wall roll p d = (j : ℕ) × (j < length roll.members)
    × (slice_get roll.members j ≡ Some p)
    × (charged wall roll j d ≡ true)

module _ (wall : ChineseWall) (roll : Roll) where
  pub charged_member : (j p d : ℕ) → IsGroup roll.members → slice_get roll.members j ≡ Some p →
      charged wall roll j d ≡ true → charged_to wall roll p d ≡ true
  charged_member j p d group at charge =
      ap (λ o. charged_at wall roll o d) (ranked roll.members j p group at) ∙ charge

  pub member_charged : (p d : ℕ) → charged_to wall roll p d ≡ true → IsMemberCharged wall roll p d
  member_charged p d h = at (rank_in roll.members p) refl h
    where
      at : (o : Option ℕ) → rank_in roll.members p ≡ o → charged_at wall roll o d ≡ true →
          IsMemberCharged wall roll p d
      at None is h = absurd (false≢true h)
      at (Some j) is h =
          let rank = rank_is roll.members p j is in
          (j, rank.1, rank.0, h)

-- the member of a rank
pub member_there : (members : List ℕ) (j : ℕ) → j < length members →
    (p : ℕ) × (slice_get members j ≡ Some p)
member_there members j low = (get_or members j 0, slice_get-get_or members j 0 low)

---- the rows

module _ (wall : ChineseWall) (roll : Roll) (j d : ℕ) where
  not_true : (b : Bool) → not b ≡ true → b ≡ false
  not_true true h = absurd cc
  not_true false h = refl

  unsanitised : charged wall roll j d ≡ true → sanitised wall roll j ≡ false
  unsanitised charge =
      not_true (sanitised wall roll j) (and_parts (not (sanitised wall roll j)) _ charge).0

  -- who gives what is charged
  pub some_gives : charged wall roll j d ≡ true
      → ((m : ℕ) → m < roll.shape.size → ¬ (GivesTo roll m j d)) → ⊥
  some_gives charge none =
      let one = (charges_are_labels wall roll j d).0 charge in
      none one.0 one.1 (one.2.routed, one.2.label)

  pub delivered : (entries : List Entry) (p n c k i from : ℕ) → charged wall roll j d ≡ true →
      IsGrantAt wall entries n c k roll → slice_get roll.members j ≡ Some p →
      slice_get roll.members i ≡ Some from → GivesTo roll i j d
      → ((m : ℕ) → m < i → ¬ (GivesTo roll m j d)) → IsFirstAfter wall entries p d n →
      ¬ (IsOwnPost entries p d n) →
      IsRow wall entries
      (record { process = p; dataset = d; entry = n; way = Delivered c k from })
  delivered entries p n c k i from charge grant receiver giver gives lowest first other = record {
    first = first;
    way = (
      record {
        x = grant.x;
        roll = roll;
        i = i;
        j = j;
        at = grant.at;
        comm = grant.comm;
        kth = grant.kth;
        grant = grant.grant;
        receiver = receiver;
        giver = giver;
        charged = record { routed = gives.0; label = gives.1; unsanitised = unsanitised charge };
        lowest = λ m low from_m. lowest m low (from_m.routed, from_m.label);
      },
      other,
    );
  }
