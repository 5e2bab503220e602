-- What to look for in a document, so as to see a fault where it stands. (Own rule. The conditions
-- are those of the table of faults, asked of what stands there, be the rest there or not.)
use Rattle.std.specs.Prelude.{ℕ, ℤ, pos, nat_eq, nat_lt, Bool, true, false, not, ◌&&◌, ◌||◌}
use Rattle.std.specs.Prelude.{List, [], ◌∷◌, length, find, Option, Some, None, is_some, codes}
use Rattle.std.specs.Prelude.{option_and_then, slice_get}
use Rattle.std.specs.List.{list_all, list_any, position_from}
use Rattle.std.specs.Option.{option_map_or, unwrap_or}
use Rattle.std.specs.Str.{bytes_eq}
use Rattle.toml.specs.Data.{Data, Members, no_members, member, get_member, as_str, as_integer}
use Rattle.toml.specs.Data.{as_array, as_table}
use Rattle.wall_labels.specs.Limits.{process_limit, dataset_limit, class_limit}
use Rattle.wall_labels.specs.Ops.{op_of}
use Rattle.wall_policy.specs.declared.fault.PolicyFault.{PolicyFault}
use Rattle.wall_policy.specs.declared.fault.PolicyFault.TheVariants as faults
use Rattle.wall_policy.specs.Names.{Name, is_name, is_dataset_name, is_in, comes_twice}
use Rattle.wall_policy.specs.Keys.{version_of}
use Rattle.wall_policy.specs.Checks.{is_good_least, is_good_distinct}
use Rattle.policy_places.specs.declared.part.Part.{Part}
use Rattle.policy_places.specs.declared.part.Part.TheVariants.{Class, Process, Rule}
use Rattle.policy_places.specs.declared.sign.Sign.{Sign}
use Rattle.policy_places.specs.declared.sign.Sign.TheVariants.{NotToml, Version, FileKey, OtherKind}
use Rattle.policy_places.specs.declared.sign.Sign.TheVariants.{StrayKey, Lacking, UnknownKey}
use Rattle.policy_places.specs.declared.sign.Sign.TheVariants.{BadName, DuplicateName}
use Rattle.policy_places.specs.declared.sign.Sign.TheVariants.{UnknownDataset, BadOp, BadLeast}
use Rattle.policy_places.specs.declared.sign.Sign.TheVariants.{TooMany}
use Rattle.policy_places.specs.Parts.{key_of, items_in, tables_at, value_in, texts_in, datasets_in}

---- keys

-- the keys of the file
abbrev pub is_file_key : List ℕ → Bool
is_file_key k = bytes_eq k (codes "version") || bytes_eq k (codes "class")
    || bytes_eq k (codes "process") || bytes_eq k (codes "sanitise")

-- those of a rule of sanitising, with one more in version 2
abbrev pub is_rule_key : (two : Bool) → List ℕ → Bool
is_rule_key true k =
    bytes_eq k (codes "op") || bytes_eq k (codes "least") || bytes_eq k (codes "distinct")
is_rule_key false k = bytes_eq k (codes "op") || bytes_eq k (codes "least")

-- the keys that a table of this part may have
abbrev pub is_key_of : (version : ℕ) → Part → List ℕ → Bool
is_key_of version Class k = bytes_eq k (codes "name") || bytes_eq k (codes "datasets")
is_key_of version Process k = bytes_eq k (codes "name") || bytes_eq k (codes "home")
is_key_of version Rule k = is_rule_key (nat_eq version 2) k

-- each key of the members passes
abbrev pub all_keys : (List ℕ → Bool) → Members → Bool
all_keys test no_members = true
all_keys test (member k d ms) = test k && all_keys test ms

-- no table, or one without a key that is unknown there
abbrev pub has_keys : (version : ℕ) → Part → Data → Bool
has_keys version part d = option_map_or (all_keys (is_key_of version part)) (as_table d) true

-- a table with a key that is unknown there
abbrev pub has_stray : (version : ℕ) → Part → Data → Bool
has_stray version part d = not (has_keys version part d)

-- no key is unknown, in the file or in one of its tables
abbrev pub are_known : (version : ℕ) → Members → Bool
are_known version ms = all_keys is_file_key ms
    && list_all (has_keys version Class) (tables_at Class ms)
    && list_all (has_keys version Process) (tables_at Process ms)
    && list_all (has_keys version Rule) (tables_at Rule ms)

abbrev pub has : List ℕ → Members → Bool
has key ms = is_some (get_member key ms)

-- the keys that a table of this part has to have
abbrev pub has_required : (version : ℕ) → Part → Members → Bool
has_required version Class ms = has (codes "name") ms && has (codes "datasets") ms
has_required version Process ms = has (codes "name") ms
has_required version Rule ms = has (codes "op") ms && has (codes "least") ms
    && (nat_eq version 1 || has (codes "distinct") ms)

-- a table that lacks one of them
abbrev pub lacks : (version : ℕ) → Part → Data → Bool
lacks version part d = option_map_or (λ ms. not (has_required version part ms)) (as_table d) false

abbrev pub or_next : Part → Option ℕ → Option (Part × ℕ) → Option (Part × ℕ)
or_next part None next = next
or_next part (Some n) next = Some (part, n)

-- the first table of the document that lacks a key, classes first, then processes, then rules
abbrev pub lacking_in : (version : ℕ) → Members → Option (Part × ℕ)
lacking_in version ms =
    or_next Class (position_from (lacks version Class) 0 (tables_at Class ms))
    (or_next Process (position_from (lacks version Process) 0 (tables_at Process ms))
    (or_next Rule (position_from (lacks version Rule) 0 (tables_at Rule ms)) None))

---- kinds of values

abbrev pub is_text : Data → Bool
is_text d = is_some (as_str d)

abbrev pub is_integer : Data → Bool
is_integer d = is_some (as_integer d)

abbrev pub is_texts : Data → Bool
is_texts d = is_some (as_array d) && list_all is_text (items_in (Some d))

-- nothing stands at the key, or what is asked
abbrev pub fits : (Data → Bool) → List ℕ → Members → Bool
fits test key ms = option_map_or test (get_member key ms) true

-- each key of the part that stands in the table holds its kind of value
abbrev pub keys_fit : (version : ℕ) → Part → Members → Bool
keys_fit version Class ms = fits is_text (codes "name") ms && fits is_texts (codes "datasets") ms
keys_fit version Process ms = fits is_text (codes "name") ms && fits is_text (codes "home") ms
keys_fit version Rule ms = fits is_text (codes "op") ms && fits is_integer (codes "least") ms
    && (nat_eq version 1 || fits is_integer (codes "distinct") ms)

-- a table of which that is so
abbrev pub is_fit : (version : ℕ) → Part → Data → Bool
is_fit version part d = option_map_or (keys_fit version part) (as_table d) false

-- of processes there is one at least
abbrev pub are_enough : Part → List Data → Bool
are_enough Process [] = false
are_enough _ _ = true

-- an array of such tables
abbrev pub are_fit : (version : ℕ) → Part → Data → Bool
are_fit version part d = is_some (as_array d) && are_enough part (items_in (Some d))
    && list_all (is_fit version part) (items_in (Some d))

-- the array of the part is absent, or one of such tables
abbrev pub part_fits : (version : ℕ) → Part → Members → Bool
part_fits version part ms = fits (are_fit version part) (key_of part) ms

---- least numbers

abbrev pub number_in : List ℕ → Data → Option ℤ
number_in key d = option_and_then as_integer (value_in key d)

-- a least number outside its range
abbrev pub has_bad_least : Data → Bool
has_bad_least d = option_map_or (λ n. not (is_good_least n)) (number_in (codes "least") d) false

-- a least number of datasets outside its range, which ends at the least number of contributors
-- beside it, and where none stands there at the most that there can be
abbrev pub has_bad_distinct : Data → Bool
has_bad_distinct d =
    option_map_or
    (λ n. not (is_good_distinct (unwrap_or (number_in (codes "least") d) (pos process_limit)) n))
    (number_in (codes "distinct") d) false

-- either, in a file of this version
abbrev pub is_bad_rule : (version : ℕ) → Data → Bool
is_bad_rule version d = has_bad_least d || (not (nat_eq version 1) && has_bad_distinct d)

---- signs

-- what is known of the whole document: its version (0, if it states none that is read), its
-- datasets, and the first of its tables that lacks a key
pub record Known : Type 0 where
  pub version : ℕ
  pub datasets : List Name
  pub lacking : Option (Part × ℕ)

abbrev pub stated_version : Members → ℕ
stated_version ms = unwrap_or (version_of ms) 0

abbrev pub known_of : Members → Known
known_of ms = record {
  version = stated_version ms;
  datasets = datasets_in (tables_at Class ms);
  lacking = lacking_in (stated_version ms) ms;
}

-- the table of that part and number, as far as it stands there
abbrev pub table_there : Members → Option (Part × ℕ) → (Part → Data → Bool) → Bool
table_there ms None test = false
table_there ms (Some (part, n)) test =
    option_map_or (test part) (slice_get (tables_at part ms) n) false

-- A document shows the sign, where this is known of the whole document whose prefix it is.
abbrev pub shows : Known → Sign → Members → Bool
shows k NotToml ms = false
shows k Version ms = has (codes "version") ms
shows k FileKey ms = not (all_keys is_file_key ms)
shows k OtherKind ms = not (part_fits k.version Class ms && part_fits k.version Process ms
    && part_fits k.version Rule ms)
shows k StrayKey ms = table_there ms k.lacking (has_stray k.version)
shows k Lacking ms = table_there ms k.lacking (λ _ _. true)
shows k UnknownKey ms = not (are_known k.version ms)
shows k BadName ms = not (
    list_all is_name (texts_in (codes "name") (tables_at Class ms))
    && list_all is_dataset_name (datasets_in (tables_at Class ms))
    && list_all is_name (texts_in (codes "name") (tables_at Process ms)))
shows k DuplicateName ms =
    comes_twice (texts_in (codes "name") (tables_at Class ms))
    || comes_twice (datasets_in (tables_at Class ms))
    || comes_twice (texts_in (codes "name") (tables_at Process ms))
    || comes_twice (texts_in (codes "op") (tables_at Rule ms))
shows k UnknownDataset ms =
    not (list_all (is_in k.datasets) (texts_in (codes "home") (tables_at Process ms)))
shows k BadOp ms =
    not (list_all (λ o. is_some (op_of o)) (texts_in (codes "op") (tables_at Rule ms)))
shows k BadLeast ms = list_any (is_bad_rule k.version) (tables_at Rule ms)
shows k TooMany ms =
    nat_lt process_limit (length (tables_at Process ms))
    || nat_lt dataset_limit (length (datasets_in (tables_at Class ms)))
    || nat_lt class_limit (length (tables_at Class ms))

-- what to look for, where a document has the fault: the first of these that it shows
abbrev pub signs_of : PolicyFault → List Sign
signs_of faults.NotToml = []
signs_of faults.BadVersion = Version ∷ FileKey ∷ []
signs_of faults.MissingKey = OtherKind ∷ StrayKey ∷ Lacking ∷ FileKey ∷ []
signs_of faults.UnknownKey = UnknownKey ∷ []
signs_of faults.BadName = BadName ∷ []
signs_of faults.DuplicateName = DuplicateName ∷ []
signs_of faults.UnknownDataset = UnknownDataset ∷ []
signs_of faults.BadOp = BadOp ∷ []
signs_of faults.BadLeast = BadLeast ∷ []
signs_of faults.TooMany = TooMany ∷ []
signs_of faults.NoMemory = []

unfoldable pub sign_of : Members → PolicyFault → Option Sign
sign_of ms fault = find (λ sign. shows (known_of ms) sign ms) (signs_of fault)
