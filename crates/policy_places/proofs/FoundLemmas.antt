-- Where nothing is found, what is missing is the version or each process.
use Rattle.std.proofs.Common.{◌≡◌, ℕ, Bool, true, false, not, List, [], ◌∷◌, Option, Some}
use Rattle.std.proofs.Common.{None}
use Rattle.std.proofs.Common.{Err, refl, sym, ap, ◌∙◌, subst}
use Rattle.std.specs.Prelude.{codes, is_some, is_none, find, option_and_then}
use Rattle.std.specs.Option.{option_map_or}
use Rattle.std.proofs.lemmas.Bool.{false≢true}
use Rattle.toml.specs.Data.{Members, get_member}
use Rattle.wall_policy.specs.declared.fault.PolicyFault.{PolicyFault}
use Rattle.wall_policy.specs.declared.fault.PolicyFault.TheVariants as faults
use Rattle.wall_policy.specs.Plain.{PolicyText}
use Rattle.wall_policy.specs.Form.{record_of}
use Rattle.wall_policy.specs.Keys.{version_of, has_known_keys}
use Rattle.wall_policy.specs.Answer.{tree_of, record_in, holds}
use Rattle.wall_policy.specs.Answer.{faults as fault_list, answer_by, answer_in, answer_to}
use Rattle.policy_places.specs.declared.sign.Sign.{Sign}
use Rattle.policy_places.specs.declared.sign.Sign.TheVariants as signs
use Rattle.policy_places.specs.Signs.{known_of, shows, sign_of}
use Rattle.policy_places.specs.Places.{IsFoundBy, IsFoundIn}
use Rattle.policy_places.specs.Laws.{IsSignOf, IsAbsent, NowhereIsAbsent}
use Rattle.policy_places.proofs.PlaceLemmas.{found_passes}
use Rattle.policy_places.proofs.KeyLemmas.{unknown_key}
use Rattle.policy_places.proofs.LawLemmas.{signs_are_faults}
use Rattle.policy_places.proofs.MissingLemmas.{missing_is_found, none_of}

-- the parts of what holds of a document
version_in : (ms : Members) (test : ℕ → Bool) → option_map_or test (version_of ms) false ≡ true →
    (version : ℕ) × (version_of ms ≡ Some version) × (test version ≡ true)
version_in ms test h = go (version_of ms) refl h
  where
    go : (o : Option ℕ) → version_of ms ≡ o → option_map_or test o false ≡ true →
        (version : ℕ) × (version_of ms ≡ Some version) × (test version ≡ true)
    go None is h = absurd cc
    go (Some version) is h = (version, is, h)

record_there : (ms : Members) (test : PolicyText → Bool) →
    option_map_or test (record_in ms) false ≡ true → (t : PolicyText) × (record_in ms ≡ Some t)
record_there ms test h = go (record_in ms) refl h
  where
    go : (o : Option PolicyText) → record_in ms ≡ o → option_map_or test o false ≡ true →
        (t : PolicyText) × (record_in ms ≡ Some t)
    go None is h = absurd cc
    go (Some t) is h = (t, is)

none_there : {A : Type 0} (o : Option A) → is_none o ≡ true → o ≡ None
none_there None h = refl
none_there (Some a) h = absurd cc

not_there : {A : Type 0} (o : Option A) → is_some o ≡ false → o ≡ None
not_there None h = refl
not_there (Some a) h = absurd cc

module _ (ms : Members) where
  -- a sign that is looked for first, and is shown, is found
  shown : (sign : Sign) (fault : PolicyFault) (others : List Sign) →
      IsSignOf ms sign fault → holds (Some ms) fault ≡ true →
      find (λ s. shows (known_of ms) s ms) (sign ∷ others) ≡ None → ⊥
  shown sign fault others same holding none =
      false≢true (sym (none_of (λ s. shows (known_of ms) s ms) sign others none).0
      ∙ same ∙ holding)

  absent : (fault : PolicyFault) → holds (Some ms) fault ≡ true → sign_of ms fault ≡ None →
      IsAbsent ms fault
  unfolding sign_of
  absent faults.NotToml holding none = absurd cc
  absent faults.BadVersion holding none =
      not_there (get_member (codes "version") ms)
      (none_of (λ s. shows (known_of ms) s ms) signs.Version (signs.FileKey ∷ []) none).0
  absent faults.MissingKey holding none =
      let (version, stated, unread) =
      version_in ms (λ version. is_none (record_of version ms)) holding in
      missing_is_found ms version stated (none_there (record_of version ms) unread) none
  absent faults.UnknownKey holding none =
      let (version, stated, unknown) =
      version_in ms (λ version. not (has_known_keys version ms)) holding in
      shown signs.UnknownKey faults.UnknownKey [] (unknown_key ms version stated) holding none
  absent faults.BadName holding none =
      let (t, is) = record_there ms _ holding in
      shown signs.BadName faults.BadName [] (signs_are_faults ms t is).1 holding none
  absent faults.DuplicateName holding none =
      let (t, is) = record_there ms _ holding in
      shown signs.DuplicateName faults.DuplicateName [] (signs_are_faults ms t is).2 holding none
  absent faults.UnknownDataset holding none =
      let (t, is) = record_there ms _ holding in
      shown signs.UnknownDataset faults.UnknownDataset [] (signs_are_faults ms t is).3 holding none
  absent faults.BadOp holding none =
      let (t, is) = record_there ms _ holding in
      shown signs.BadOp faults.BadOp [] (signs_are_faults ms t is).4 holding none
  absent faults.BadLeast holding none =
      let (t, is) = record_there ms _ holding in
      shown signs.BadLeast faults.BadLeast [] (signs_are_faults ms t is).5 holding none
  absent faults.TooMany holding none =
      let (t, is) = record_there ms _ holding in
      shown signs.TooMany faults.TooMany [] (signs_are_faults ms t is).6 holding none
  absent faults.NoMemory holding none = absurd cc

  -- a document that has no fault of its version and its keys says a record
  unread : find (holds (Some ms)) fault_list ≡ None → record_in ms ≡ None → ⊥
  unread none no_record = go (version_of ms) refl no_record
    where
      behind_toml : find (holds (Some ms)) (faults.BadVersion ∷ faults.MissingKey
          ∷ faults.UnknownKey ∷ faults.BadName ∷ faults.DuplicateName ∷ faults.UnknownDataset
          ∷ faults.BadOp ∷ faults.BadLeast ∷ faults.TooMany ∷ []) ≡ None
      behind_toml = none

      version : (holds (Some ms) faults.BadVersion ≡ false) × (find (holds (Some ms))
          (faults.MissingKey ∷ faults.UnknownKey ∷ faults.BadName ∷ faults.DuplicateName
          ∷ faults.UnknownDataset ∷ faults.BadOp ∷ faults.BadLeast ∷ faults.TooMany ∷ []) ≡ None)
      version = none_of (holds (Some ms)) faults.BadVersion (faults.MissingKey ∷ faults.UnknownKey
          ∷ faults.BadName ∷ faults.DuplicateName ∷ faults.UnknownDataset ∷ faults.BadOp
          ∷ faults.BadLeast ∷ faults.TooMany ∷ []) behind_toml

      missing : holds (Some ms) faults.MissingKey ≡ false
      missing = (none_of (holds (Some ms)) faults.MissingKey (faults.UnknownKey ∷ faults.BadName
          ∷ faults.DuplicateName ∷ faults.UnknownDataset ∷ faults.BadOp ∷ faults.BadLeast
          ∷ faults.TooMany ∷ []) version.1).0

      go : (o : Option ℕ) → version_of ms ≡ o →
          option_and_then (λ v. record_of v ms) o ≡ None → ⊥
      go None is h = false≢true (sym version.0 ∙ ap (λ (o : Option ℕ). is_none o) is)
      go (Some v) is h = false≢true (sym missing
          ∙ ap (λ (o : Option ℕ). option_map_or (λ n. is_none (record_of n ms)) o false) is
          ∙ ap (λ (o : Option PolicyText). is_none o) h)

  -- the fault of the answer holds
  answered : (fault : PolicyFault) → answer_in (Some ms) ≡ Err fault →
      holds (Some ms) fault ≡ true
  answered fault h = go (find (holds (Some ms)) fault_list) (record_in ms) refl refl h
    where
      go : (o : Option PolicyFault) (r : Option PolicyText) →
          find (holds (Some ms)) fault_list ≡ o → record_in ms ≡ r →
          answer_by o r ≡ Err fault → holds (Some ms) fault ≡ true
      go (Some f) r is said h =
          let same : f ≡ fault = cc in
          found_passes (holds (Some ms)) fault_list fault
          (is ∙ ap (λ (g : PolicyFault). Some g) same)
      go None (Some t) is said h = absurd cc
      go None None is said h = absurd (unread is said)

pub nowhere_is_absent : NowhereIsAbsent
unfolding answer_to
nowhere_is_absent text place is nowhere = go (tree_of text) refl
    (subst (λ f. IsFoundIn text place.fault (tree_of text) f) nowhere is.found) is.fault
  where
    by_sign : (ms : Members) → (o : Option Sign) → sign_of ms place.fault ≡ o →
        IsFoundBy text ms o None → sign_of ms place.fault ≡ None
    by_sign ms None same h = same
    by_sign ms (Some sign) same h = absurd h

    go : (o : Option Members) → tree_of text ≡ o → IsFoundIn text place.fault o None →
        answer_in o ≡ Err place.fault →
        (ms : Members) × (tree_of text ≡ Some ms) × IsAbsent ms place.fault
    go None same h answer = absurd h
    go (Some ms) same h answer = (
      ms,
      same,
      absent ms place.fault (answered ms place.fault answer)
          (by_sign ms (sign_of ms place.fault) refl h),
    )
