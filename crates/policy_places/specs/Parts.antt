-- What stands in the document of a policy, whole or not: the tables of its arrays, and their texts.
-- (Own format, over TOML.)
use Rattle.std.specs.Prelude.{ℕ, List, [], ◌∷◌, Option, codes}
use Rattle.std.specs.Prelude.{option_and_then}
use Rattle.std.specs.List.{filter_map, flat_map}
use Rattle.std.specs.Option.{option_map_or}
use Rattle.toml.specs.Data.{Data, Items, no_items, item, Members, get_member, as_str, as_array}
use Rattle.toml.specs.Data.{as_table}
use Rattle.wall_policy.specs.Names.{Name}
use Rattle.policy_places.specs.declared.part.Part.{Part}
use Rattle.policy_places.specs.declared.part.Part.TheVariants.{Class, Process, Rule}

-- the items of an array
abbrev pub listed_items : Items → List Data
listed_items no_items = []
listed_items (item d ds) = d ∷ listed_items ds

-- the items of the array that a value is; none, if it is no array
abbrev pub items_in : Option Data → List Data
items_in d = option_map_or listed_items (option_and_then as_array d) []

-- the key of the file that holds the tables of this part
abbrev pub key_of : Part → List ℕ
key_of Class = codes "class"
key_of Process = codes "process"
key_of Rule = codes "sanitise"

-- what stands in the array of this part, which may be absent
abbrev pub tables_at : Part → Members → List Data
tables_at part ms = items_in (get_member (key_of part) ms)

-- what stands at a key of a value that may be a table
abbrev pub value_in : List ℕ → Data → Option Data
value_in key d = option_and_then (get_member key) (as_table d)

-- the text there, and the number
abbrev pub text_in : List ℕ → Data → Option Name
text_in key d = option_and_then as_str (value_in key d)

-- the texts at this key of the tables that have one there
abbrev pub texts_in : List ℕ → List Data → List Name
texts_in key ds = filter_map (text_in key) ds

-- the names of datasets that a table lists
abbrev pub listed_in : Data → List Name
listed_in d = filter_map as_str (items_in (value_in (codes "datasets") d))

-- those of all tables
abbrev pub datasets_in : List Data → List Name
datasets_in ds = flat_map listed_in ds
