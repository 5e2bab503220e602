-- What is named where a fault stands: the key, the name or the number that shows its sign there, as
-- the document of the lines up to that one has it. (Own rule.)
use Rattle.std.specs.Prelude.{ℕ, nat_eq, nat_lt, Bool, not, ◌&&◌, ◌||◌, List, [], ◌∷◌}
use Rattle.std.specs.Prelude.{length, find, Option, Some, None, is_some, codes}
use Rattle.std.specs.Prelude.{option_and_then, slice_get, if◌then◌else◌}
use Rattle.toml.specs.Data.{Data, Members, no_members, member, as_table}
use Rattle.wall_labels.specs.Limits.{process_limit, dataset_limit}
use Rattle.wall_labels.specs.Ops.{op_of}
use Rattle.wall_policy.specs.Names.{Name, is_name, is_dataset_name, is_in}
use Rattle.wall_policy.specs.Answer.{tree_of}
use Rattle.policy_places.specs.declared.part.Part.{Part}
use Rattle.policy_places.specs.declared.part.Part.TheVariants.{Class, Process, Rule}
use Rattle.policy_places.specs.declared.sign.Sign.{Sign}
use Rattle.policy_places.specs.declared.sign.Sign.TheVariants.{NotToml, Version, FileKey, OtherKind}
use Rattle.policy_places.specs.declared.sign.Sign.TheVariants.{StrayKey, Lacking, UnknownKey}
use Rattle.policy_places.specs.declared.sign.Sign.TheVariants.{BadName, DuplicateName}
use Rattle.policy_places.specs.declared.sign.Sign.TheVariants.{UnknownDataset, BadOp, BadLeast}
use Rattle.policy_places.specs.declared.sign.Sign.TheVariants.{TooMany}
use Rattle.policy_places.specs.declared.place.Found.{Found}
use Rattle.policy_places.specs.Prefixes.{prefix}
use Rattle.policy_places.specs.Parts.{key_of, tables_at, texts_in, datasets_in}
use Rattle.policy_places.specs.Signs.{Known, known_of, is_file_key, is_key_of, has}
use Rattle.policy_places.specs.Signs.{has_bad_least, has_bad_distinct, is_text, is_texts}
use Rattle.policy_places.specs.Signs.{is_integer, fits, part_fits}

-- a word of the document, and the part in whose tables it stands; of none, where it stands outside
-- them
pub record Named : Type 0 where
  pub part : Option Part
  pub word : Name

-- the word, if there is one
abbrev pub named_in : Option Part → Option Name → Option Named
named_in part None = None
named_in part (Some w) = Some (record { part = part; word = w })

-- the first of two that is there
abbrev pub or_else : {X : Type 0} → Option X → Option X → Option X
or_else None second = second
or_else (Some x) second = Some x

-- the first that is read of some values
abbrev pub first_read : (Data → Option Name) → List Data → Option Name
first_read read [] = None
first_read read (d ∷ ds) = or_else (read d) (first_read read ds)

---- keys

-- the first key of the members that does not pass
abbrev pub first_key : (List ℕ → Bool) → Members → Option Name
first_key test no_members = None
first_key test (member k d ms) = if test k then first_key test ms else Some k

-- the first key of a table that no table of this part may have
abbrev pub stray_in : (version : ℕ) → Part → Data → Option Name
stray_in version part d = option_and_then (first_key (is_key_of version part)) (as_table d)

-- the first such key of the document's tables of this part
abbrev pub stray_of : (version : ℕ) → Part → Members → Option Named
stray_of version part ms =
    named_in (Some part) (first_read (stray_in version part) (tables_at part ms))

-- the first key that is unknown where it stands: outside the tables, in a class, a process, a rule
abbrev pub unknown_in : (version : ℕ) → Members → Option Named
unknown_in version ms = or_else (named_in None (first_key is_file_key ms))
    (or_else (stray_of version Class ms)
    (or_else (stray_of version Process ms) (stray_of version Rule ms)))

-- the first key that a table of this part has to have, and these members lack
abbrev pub first_missing : (version : ℕ) → Part → Members → Option Name
first_missing version Class ms =
    if has (codes "name") ms then Some (codes "datasets") else Some (codes "name")
first_missing version Process ms = Some (codes "name")
first_missing version Rule ms =
    if has (codes "op") ms then (if has (codes "least") ms then Some (codes "distinct")
    else Some (codes "least")) else Some (codes "op")

-- the first key that a value lacks, if it is a table
abbrev pub missing_in : (version : ℕ) → Part → Data → Option Name
missing_in version part d = option_and_then (first_missing version part) (as_table d)

-- what is read of the table of that part and number, as far as it stands there
abbrev pub read_there : Members → Option (Part × ℕ) → (Part → Data → Option Name) → Option Named
read_there ms None read = None
read_there ms (Some (part, n)) read =
    named_in (Some part) (option_and_then (read part) (slice_get (tables_at part ms) n))

---- names and numbers

-- the first name that comes again later
abbrev pub first_twice : List Name → Option Name
first_twice [] = None
first_twice (n ∷ ns) = if is_in ns n then Some n else first_twice ns

abbrev pub bad_name_in : Members → Option Named
bad_name_in ms =
    or_else (named_in (Some Class)
    (find (λ n. not (is_name n)) (texts_in (codes "name") (tables_at Class ms))))
    (or_else (named_in (Some Class)
    (find (λ n. not (is_dataset_name n)) (datasets_in (tables_at Class ms))))
    (named_in (Some Process)
    (find (λ n. not (is_name n)) (texts_in (codes "name") (tables_at Process ms)))))

abbrev pub twice_in : Members → Option Named
twice_in ms =
    or_else (named_in (Some Class) (first_twice (texts_in (codes "name") (tables_at Class ms))))
    (or_else (named_in (Some Class) (first_twice (datasets_in (tables_at Class ms))))
    (or_else (named_in (Some Process)
    (first_twice (texts_in (codes "name") (tables_at Process ms))))
    (named_in (Some Rule) (first_twice (texts_in (codes "op") (tables_at Rule ms))))))

-- the key of a least number outside its range
abbrev pub bad_least_in : (version : ℕ) → Data → Option Name
bad_least_in version d = if has_bad_least d then Some (codes "least")
    else (if not (nat_eq version 1) && has_bad_distinct d then Some (codes "distinct") else None)

-- what there is one too many of
abbrev pub too_many_in : Members → Name
too_many_in ms = if nat_lt process_limit (length (tables_at Process ms)) then codes "processes"
    else (if nat_lt dataset_limit (length (datasets_in (tables_at Class ms)))
    then codes "datasets" else codes "classes")

---- kinds of values

-- the first key of the part that holds another kind of value in these members than it should
abbrev pub misfit : (version : ℕ) → Part → Members → Option Name
misfit version Class ms = if fits is_text (codes "name") ms
    then (if fits is_texts (codes "datasets") ms then None else Some (codes "datasets"))
    else Some (codes "name")
misfit version Process ms = if fits is_text (codes "name") ms
    then (if fits is_text (codes "home") ms then None else Some (codes "home"))
    else Some (codes "name")
misfit version Rule ms = if fits is_text (codes "op") ms
    then (if fits is_integer (codes "least") ms
    then (if nat_eq version 1 || fits is_integer (codes "distinct") ms then None
    else Some (codes "distinct")) else Some (codes "least"))
    else Some (codes "op")

-- that of a value, if it is a table
abbrev pub misfit_in : (version : ℕ) → Part → Data → Option Name
misfit_in version part d = option_and_then (misfit version part) (as_table d)

-- what of a part is not as it should be: the first such key of its tables; else its own key, at
-- which no array of tables stands, or of processes none
abbrev pub misfit_of : (version : ℕ) → Part → Members → Option Named
misfit_of version part ms = if part_fits version part ms then None
    else or_else (named_in (Some part) (first_read (misfit_in version part) (tables_at part ms)))
    (named_in None (Some (key_of part)))

-- classes first, then processes, then rules
abbrev pub other_kind_in : (version : ℕ) → Members → Option Named
other_kind_in version ms = or_else (misfit_of version Class ms)
    (or_else (misfit_of version Process ms) (misfit_of version Rule ms))

---- signs

-- What is named of a document that shows the sign, where this is known of the whole document whose
-- prefix it is. Nothing of two signs; of a table that lacks a key, which the whole table lacks.
abbrev pub names : (whole : Members) → Known → Sign → Members → Option Named
names whole k NotToml ms = None
names whole k Version ms = None
names whole k FileKey ms = named_in None (first_key is_file_key ms)
names whole k OtherKind ms = other_kind_in k.version ms
names whole k StrayKey ms = read_there ms k.lacking (stray_in k.version)
names whole k Lacking ms = read_there whole k.lacking (missing_in k.version)
names whole k UnknownKey ms = unknown_in k.version ms
names whole k BadName ms = bad_name_in ms
names whole k DuplicateName ms = twice_in ms
names whole k UnknownDataset ms =
    named_in (Some Process)
    (find (λ n. not (is_in k.datasets n)) (texts_in (codes "home") (tables_at Process ms)))
names whole k BadOp ms =
    named_in (Some Rule)
    (find (λ n. not (is_some (op_of n))) (texts_in (codes "op") (tables_at Rule ms)))
names whole k BadLeast ms =
    named_in (Some Rule) (first_read (bad_least_in k.version) (tables_at Rule ms))
names whole k TooMany ms = named_in None (Some (too_many_in ms))

-- the word at fault in the document of the lines up to the one where something was found
abbrev pub named_at : (text : List ℕ) → Found → Option Named
named_at text found =
    option_and_then (λ whole.
    option_and_then (names whole (known_of whole) found.sign) (tree_of (prefix found.line text)))
    (tree_of text)
