use Rattle.std.proofs.Common.{◌≡◌, [], ◌∙◌, ap, Option, Some}
use Rattle.std.specs.Option.{option_map_or}
use Rattle.toml.specs.Data.{Items, as_array}
use Rattle.toml.specs.View.{view, array_view}
use Rattle.policy_places.specs.Parts.{listed_items}
use Rattle.policy_places.proofs.ViewLemmas.{listed_items-view}
use Rattle.policy_places.proofs.document.items_in.Goals as goal

pub returns-in-Some-as_array : goal.returns-in-Some-as_array
returns-in-Some-as_array c =
    let said :
    Some (array_view c.in-Some-as_array.array.now) ≡ as_array (view c.in-Some.value.now) =
    rw c.in-Some-as_array.is at c.as_array.ensures in
    rw (c.as_slice.ensures.value, c.in-Some.is)
    (listed_items-view c.in-Some-as_array.array.now.items
    ∙ ap (λ (o : Option Items). option_map_or listed_items o []) said)
