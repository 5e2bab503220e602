-- Which keys stand in a policy file, and its version. (Own format.)
use Rattle.std.specs.Prelude.{ℕ, ℤ, pos, Bool, true, ◌&&◌, ◌||◌, List, nat_eq, Option, Some, None}
use Rattle.std.specs.Prelude.{codes, if◌then◌else◌}
use Rattle.std.specs.Str.{bytes_eq}
use Rattle.toml.specs.Data.{Data, Items, no_items, item, Members, no_members, member, array, table}
use Rattle.toml.specs.Data.{get_member}
use Rattle.wall_policy.specs.declared.keys.Section.{Section}
use Rattle.wall_policy.specs.declared.keys.Section.TheVariants.{File, Class, Process, Rule}
use Rattle.wall_policy.specs.declared.keys.Section.TheVariants.{RuleOfTwo}
use Rattle.wall_policy.specs.Policy.{is_version}
use Rattle.wall_policy.specs.Tree.{number_at}

-- the keys of the file, and of a table of each of its arrays
abbrev pub is_key : Section → List ℕ → Bool
is_key File k = bytes_eq k (codes "version") || bytes_eq k (codes "class")
    || bytes_eq k (codes "process") || bytes_eq k (codes "sanitise")
is_key Class k = bytes_eq k (codes "name") || bytes_eq k (codes "datasets")
is_key Process k = bytes_eq k (codes "name") || bytes_eq k (codes "home")
is_key Rule k = bytes_eq k (codes "op") || bytes_eq k (codes "least")
is_key RuleOfTwo k =
    bytes_eq k (codes "op") || bytes_eq k (codes "least") || bytes_eq k (codes "distinct")

-- the tables of `sanitise` have one key more in a file of version 2
abbrev pub rule_section : (version : ℕ) → Section
rule_section version = if nat_eq version 2 then RuleOfTwo else Rule

-- each key of the members is one of these
abbrev pub are_keys : Section → Members → Bool
are_keys section no_members = true
are_keys section (member k d ms) = is_key section k && are_keys section ms

-- the same of a value that is a table, and of each item of an array
abbrev pub table_has_keys : Section → Data → Bool
table_has_keys section (table ms) = are_keys section ms
table_has_keys section _ = true

abbrev pub items_have_keys : Section → Items → Bool
items_have_keys section no_items = true
items_have_keys section (item d ds) = table_has_keys section d && items_have_keys section ds

abbrev pub array_has_keys : Section → Option Data → Bool
array_has_keys section (Some (array ds)) = items_have_keys section ds
array_has_keys section _ = true

-- no key is outside the list, in the file or in one of its tables
unfoldable pub has_known_keys : (version : ℕ) → Members → Bool
has_known_keys version ms =
    are_keys File ms
    && array_has_keys Class (get_member (codes "class") ms)
    && array_has_keys Process (get_member (codes "process") ms)
    && array_has_keys (rule_section version) (get_member (codes "sanitise") ms)

-- the version of a number, if it is one that is read
abbrev pub known_version : Option ℤ → Option ℕ
known_version (Some (pos n)) = if is_version n then Some n else None
known_version _ = None

-- the version that the file states, if it is an integer and one that is read
unfoldable pub version_of : Members → Option ℕ
version_of ms = known_version (number_at (codes "version") ms)
