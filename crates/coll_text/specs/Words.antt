-- The words that name a policy's datasets and processes, and the rules of the wall. (Own format.)
use Rattle.std.specs.Prelude.{ℕ, List, [], codes, option_map}
use Rattle.std.specs.Prelude.{unwrap_or, slice_get, Result, Ok, if◌then◌else◌}
use Rattle.std.specs.Str.{bytes_eq}
use Rattle.wall_labels.specs.declared.label.Label.{Label}
use Rattle.wall_labels.specs.declared.label.Label.TheVariants.{Public, Of}
use Rattle.wall_policy.specs.Names.{place_of}
use Rattle.wall_rules.specs.declared.rule.Rule.{Rule}
use Rattle.wall_rules.specs.declared.rule.Rule.TheVariants.{Star, Simple}
use Rattle.coll_text.specs.declared.fault.LineFault.{LineFault}
use Rattle.coll_text.specs.declared.fault.LineFault.TheVariants.{BadLabel}
use Rattle.coll_text.specs.Numbers.{Word}
use Rattle.coll_text.specs.Reading.{some_or}

-- the name of the thing of that number; a number without a thing has none
abbrev pub name_at : List Word → ℕ → Word
name_at names n = unwrap_or (slice_get names n) []

abbrev pub label_word : (datasets : List Word) → Label → Word
label_word datasets Public = codes "public"
label_word datasets (Of d) = name_at datasets d

-- the label that a word says
unfoldable pub label_of : (datasets : List Word) → Word → Result Label LineFault
label_of datasets w =
    if bytes_eq w (codes "public") then Ok Public
    else some_or BadLabel (option_map Of (place_of w datasets))

abbrev pub rule_word : Rule → Word
rule_word Star = codes "star"
rule_word Simple = codes "simple"
