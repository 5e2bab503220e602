-- Which keys are known, here and in the table of faults.
use Rattle.std.proofs.Common.{◌≡◌, ℕ, ℤ, pos, negsuc, ◌&&◌, ◌||◌, ◌⊎◌, Bool, true, false, not, cond}
use Rattle.std.proofs.Common.{nat_eq, List, Option, Some, None, refl, sym, ap, ◌∙◌, inl, inr}
use Rattle.std.proofs.Common.{eqb-true, subst}
use Rattle.std.specs.Prelude.{codes}
use Rattle.std.specs.List.{list_all}
use Rattle.std.specs.Option.{option_map_or, unwrap_or}
use Rattle.std.proofs.lemmas.Bool.{cases_Bool}
use Rattle.std.proofs.lemmas.Option.{same_Some}
use Rattle.toml.specs.Data.{Data, string, integer, float, boolean, datetime, array, table, Items}
use Rattle.toml.specs.Data.{no_items, item, Members, get_member}
use Rattle.wall_policy.specs.declared.fault.PolicyFault.TheVariants as faults
use Rattle.wall_policy.specs.Policy.{is_version}
use Rattle.wall_policy.specs.Keys.{known_version, version_of, has_known_keys}
use Rattle.wall_policy.specs.Tree.{number_at}
use Rattle.policy_places.specs.declared.part.Part.{Part}
use Rattle.policy_places.specs.declared.part.Part.TheVariants.{Class, Process, Rule}
use Rattle.policy_places.specs.declared.sign.Sign.TheVariants as signs
use Rattle.policy_places.specs.Parts.{listed_items, items_in}
use Rattle.policy_places.specs.Signs.{is_file_key, is_key_of, all_keys, has_keys, are_known}
use Rattle.policy_places.specs.Laws.{IsSignOf}

-- the tests of the table of faults, for any keys
abbrev table_keys : (List ℕ → Bool) → Data → Bool
table_keys test (table ms) = all_keys test ms
table_keys test _ = true

abbrev items_keys : (List ℕ → Bool) → Items → Bool
items_keys test no_items = true
items_keys test (item d ds) = table_keys test d && items_keys test ds

abbrev array_keys : (List ℕ → Bool) → Option Data → Bool
array_keys test (Some (array ds)) = items_keys test ds
array_keys test _ = true

abbrev document_keys : (version : ℕ) → Members → Bool
document_keys version ms = all_keys is_file_key ms
    && array_keys (is_key_of version Class) (get_member (codes "class") ms)
    && array_keys (is_key_of version Process) (get_member (codes "process") ms)
    && array_keys (is_key_of version Rule) (get_member (codes "sanitise") ms)

keys_of_one : (ms : Members) → has_known_keys 1 ms ≡ document_keys 1 ms
unfolding has_known_keys
keys_of_one ms = refl

keys_of_two : (ms : Members) → has_known_keys 2 ms ≡ document_keys 2 ms
unfolding has_known_keys
keys_of_two ms = refl

module _ (version : ℕ) (part : Part) where
  table_is : (d : Data) → table_keys (is_key_of version part) d ≡ has_keys version part d
  table_is (table ms) = refl
  table_is (string s) = refl
  table_is (integer z) = refl
  table_is (float x) = refl
  table_is (boolean b) = refl
  table_is (datetime t) = refl
  table_is (array ds) = refl

  items_are : (ds : Items) →
      items_keys (is_key_of version part) ds ≡ list_all (has_keys version part) (listed_items ds)
  items_are no_items = refl
  items_are (item d ds) =
      ap (λ b. b && items_keys (is_key_of version part) ds) (table_is d)
      ∙ ap (λ b. has_keys version part d && b) (items_are ds)

  array_is : (o : Option Data) →
      array_keys (is_key_of version part) o ≡ list_all (has_keys version part) (items_in o)
  array_is None = refl
  array_is (Some (array ds)) = items_are ds
  array_is (Some (table ms)) = refl
  array_is (Some (string s)) = refl
  array_is (Some (integer z)) = refl
  array_is (Some (float x)) = refl
  array_is (Some (boolean b)) = refl
  array_is (Some (datetime t)) = refl

document_is : (version : ℕ) (ms : Members) → document_keys version ms ≡ are_known version ms
document_is version ms =
    ap (λ b. all_keys is_file_key ms && b
    && array_keys (is_key_of version Process) (get_member (codes "process") ms)
    && array_keys (is_key_of version Rule) (get_member (codes "sanitise") ms))
    (array_is version Class (get_member (codes "class") ms))
    ∙ ap (λ b. all_keys is_file_key ms
    && list_all (has_keys version Class) (items_in (get_member (codes "class") ms)) && b
    && array_keys (is_key_of version Rule) (get_member (codes "sanitise") ms))
    (array_is version Process (get_member (codes "process") ms))
    ∙ ap (λ b. all_keys is_file_key ms
    && list_all (has_keys version Class) (items_in (get_member (codes "class") ms))
    && list_all (has_keys version Process) (items_in (get_member (codes "process") ms)) && b)
    (array_is version Rule (get_member (codes "sanitise") ms))

-- a version is 1 or 2
one_or_two : (n : ℕ) → is_version n ≡ true → (n ≡ 1) ⊎ (n ≡ 2)
one_or_two n h = elim (cases_Bool (nat_eq n 1)) [
  | inl one ↦ inl (eqb-true n 1 one)
  | inr other ↦ inr (eqb-true n 2 (sym (ap (λ b. b || nat_eq n 2) other) ∙ h))
]

read_version : (o : Option ℤ) (version : ℕ) → known_version o ≡ Some version →
    is_version version ≡ true
read_version None version h = absurd cc
read_version (Some (negsuc n)) version h = absurd cc
read_version (Some (pos n)) version h = elim (cases_Bool (is_version n)) [
  | inl good ↦
      let same : n ≡ version =
      same_Some n version (sym (ap (λ b. cond b (Some n) None) good) ∙ h) in
      ap is_version (sym same) ∙ good
  | inr bad ↦
      let none : None ≡ Some version = sym (ap (λ b. cond b (Some n) None) bad) ∙ h in absurd cc
]

known_keys : (version : ℕ) (ms : Members) → (version ≡ 1) ⊎ (version ≡ 2) →
    are_known version ms ≡ has_known_keys version ms
known_keys version ms (inl one) =
    subst (λ n. are_known n ms ≡ has_known_keys n ms) (sym one)
    (sym (keys_of_one ms ∙ document_is 1 ms))
known_keys version ms (inr two) =
    subst (λ n. are_known n ms ≡ has_known_keys n ms) (sym two)
    (sym (keys_of_two ms ∙ document_is 2 ms))

-- the sign of an unknown key, in a document that states its version
pub unknown_key : (ms : Members) (version : ℕ) → version_of ms ≡ Some version →
    IsSignOf ms signs.UnknownKey faults.UnknownKey
unfolding version_of
unknown_key ms version stated =
    ap (λ (o : Option ℕ). not (are_known (unwrap_or o 0) ms)) stated
    ∙ ap not (known_keys version ms
    (one_or_two version (read_version (number_at (codes "version") ms) version stated)))
    ∙ sym (ap (λ (o : Option ℕ).
    option_map_or (λ n. not (has_known_keys n ms)) o false) stated)
