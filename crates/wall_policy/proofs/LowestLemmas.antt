-- The reading that looks at one condition after the other gives the answer by the lowest fault that
-- holds.
use Rattle.std.proofs.Common.{◌≡◌, ℕ, Bool, true, false, cond, not, List, Option, Some, None}
use Rattle.std.proofs.Common.{Result, Ok, Err, refl}
use Rattle.std.specs.Prelude.{is_none}
use Rattle.std.specs.Option.{option_map_or}
use Rattle.toml.specs.Data.{Members}
use Rattle.wall_policy.specs.declared.fault.PolicyFault.{PolicyFault}
use Rattle.wall_policy.specs.declared.fault.PolicyFault.TheVariants.{MissingKey}
use Rattle.wall_policy.specs.declared.fault.PolicyFault.TheVariants.{UnknownKey, BadName}
use Rattle.wall_policy.specs.declared.fault.PolicyFault.TheVariants.{DuplicateName, UnknownDataset}
use Rattle.wall_policy.specs.declared.fault.PolicyFault.TheVariants.{BadOp, BadLeast, TooMany}
use Rattle.wall_policy.specs.Plain.{PolicyText}
use Rattle.wall_policy.specs.Form.{record_of}
use Rattle.wall_policy.specs.Keys.{version_of, has_known_keys}
use Rattle.wall_policy.specs.Checks.{has_good_names, has_repeats, has_known_homes, has_known_ops}
use Rattle.wall_policy.specs.Checks.{has_good_leasts, is_small}
use Rattle.wall_policy.specs.Meaning.{wall_of}
use Rattle.wall_policy.specs.Policy.{ChineseWall}
use Rattle.wall_policy.specs.Answer.{tree_of, answer_by, answer_in, answer_to}
use Rattle.wall_policy.specs.InTurn.{judged, of_record, of_version, of_tree, in_turn}

-- a test that holds answers, and one that does not leaves it to the rest
step : (b : Bool) (f : PolicyFault) (rest : Option PolicyFault) (t : Option PolicyText)
    (other : Result ChineseWall PolicyFault) → other ≡ answer_by rest t →
    cond b (Err f) other ≡ answer_by (cond b (Some f) rest) t
step true f rest t other e = refl
step false f rest t other e = e

judged_is : (t : PolicyText) → judged t ≡ answer_by
    (cond (not (has_good_names t)) (Some BadName) (cond (has_repeats t) (Some DuplicateName)
    (cond (not (has_known_homes t)) (Some UnknownDataset)
    (cond (not (has_known_ops t)) (Some BadOp) (cond (not (has_good_leasts t)) (Some BadLeast)
    (cond (not (is_small t)) (Some TooMany) None)))))) (Some t)
unfolding judged
judged_is t =
    step (not (has_good_names t)) BadName _ (Some t) _
    (step (has_repeats t) DuplicateName _ (Some t) _
    (step (not (has_known_homes t)) UnknownDataset _ (Some t) _
    (step (not (has_known_ops t)) BadOp _ (Some t) _
    (step (not (has_good_leasts t)) BadLeast _ (Some t) _
    (step (not (is_small t)) TooMany None (Some t) (Ok (wall_of t)) refl)))))

in_a_record : (v : ℕ) (ms : Members) (o : Option PolicyText) → record_of v ms ≡ o →
    of_record v ms o ≡ answer_by
    (cond (is_none o) (Some MissingKey) (cond (not (has_known_keys v ms)) (Some UnknownKey)
    (cond (option_map_or (λ t. not (has_good_names t)) o false) (Some BadName)
    (cond (option_map_or has_repeats o false) (Some DuplicateName)
    (cond (option_map_or (λ t. not (has_known_homes t)) o false) (Some UnknownDataset)
    (cond (option_map_or (λ t. not (has_known_ops t)) o false) (Some BadOp)
    (cond (option_map_or (λ t. not (has_good_leasts t)) o false) (Some BadLeast)
    (cond (option_map_or (λ t. not (is_small t)) o false) (Some TooMany) None)))))))) o
unfolding of_record
in_a_record v ms None e = refl
in_a_record v ms (Some t) e = step (not (has_known_keys v ms)) UnknownKey _ (Some t) _ (judged_is t)

in_a_version : (ms : Members) (o : Option ℕ) → version_of ms ≡ o →
    of_version ms o ≡ answer_in (Some ms)
unfolding of_version
in_a_version ms None e = rw e refl
in_a_version ms (Some v) e = rw e (in_a_record v ms (record_of v ms) refl)

in_a_tree : (tree : Option Members) → of_tree tree ≡ answer_in tree
unfolding of_tree
in_a_tree None = refl
in_a_tree (Some ms) = in_a_version ms (version_of ms) refl

pub in_turn-is : (bytes : List ℕ) → in_turn bytes ≡ answer_to bytes
unfolding in_turn answer_to
in_turn-is bytes = in_a_tree (tree_of bytes)
