use Rattle.std.proofs.Common.{◌∙◌, ap, Option, Some, String, Global, string_bytes}
use Rattle.std.specs.Prelude.{option_map}
use Rattle.policy_places.specs.Signs.{is_key_of}
use Rattle.policy_places.proofs.ViewLemmas.{first_key-view}
use Rattle.policy_places.proofs.at_fault.stray_of_part.Goals as goal

pub returns-in-Some : goal.returns-in-Some
returns-in-Some c =
    let found = rw c.in-Some.is at c.first_of_part.ensures in
    ap Some c.as_str.ensures.value
    ∙ ap (λ (o : Option (String Global)). option_map (λ k. string_bytes k) o) found
    ∙ first_key-view (is_key_of c.args.version c.args.part) c.args.members.now.entries

pub returns-in-None : goal.returns-in-None
returns-in-None c =
    let none = rw c.in-None.is at c.first_of_part.ensures in
    ap (λ (o : Option (String Global)). option_map (λ k. string_bytes k) o) none
    ∙ first_key-view (is_key_of c.args.version c.args.part) c.args.members.now.entries
