use Rattle.std.proofs.Common.{ℕ, List, ◌++◌, ap, ◌∙◌}
use Rattle.std.specs.List.{flat_map}
use Rattle.policy_meaning.specs.declared.fact.Fact.{Fact}
use Rattle.policy_meaning.specs.declared.warning.Warning.{Warning}
use Rattle.meaning_text.specs.Sentences.{plain_line, pair_line, warning_line}
use Rattle.meaning_text.proofs.KnownLemmas.{known_facts, known_warnings}
use Rattle.meaning_text.proofs.sentences.meaning_text.Goals as goal

pub put_plain-requires : goal.put_plain-requires
put_plain-requires c = rw c.deref.ensures.value
    (known_facts c.args.policy.now c.in_ok-facts.facts.items c.in_ok-facts.ensures.policy
    c.in_ok-facts.ensures.all)

pub put_warnings-requires : goal.put_warnings-requires
put_warnings-requires c = rw c.deref-2.ensures.value
    (known_warnings c.args.policy.now c.in_ok-warnings.warnings.items
    c.in_ok-warnings.ensures.all)

pub put_pairs-requires : goal.put_pairs-requires
put_pairs-requires c = rw c.deref-3.ensures.value
    (known_facts c.args.policy.now c.in_ok-facts.facts.items c.in_ok-facts.ensures.policy
    c.in_ok-facts.ensures.all)

pub returns : goal.returns
returns c = record {
  facts = c.in_ok-facts.facts.items;
  warnings = c.in_ok-warnings.warnings.items;
  all_facts = c.in_ok-facts.ensures.all;
  facts_in_order = c.in_ok-facts.ensures.order;
  all_warnings = c.in_ok-warnings.ensures.all;
  warnings_in_order = c.in_ok-warnings.ensures.order;
  lines = c.in_ok-put_pairs.ensures
      ∙ ap (λ (fs : List Fact). c.put_warnings.new.text.items
      ++ flat_map (pair_line c.args.policy.now) fs) c.deref-3.ensures.value
      ∙ ap (λ (t : List ℕ). t ++ flat_map (pair_line c.args.policy.now) c.in_ok-facts.facts.items)
      (c.in_ok-put_warnings.ensures
      ∙ ap (λ (ws : List Warning). c.put_plain.new.text.items
      ++ flat_map (warning_line c.args.policy.now) ws) c.deref-2.ensures.value
      ∙ ap (λ (t : List ℕ). t
      ++ flat_map (warning_line c.args.policy.now) c.in_ok-warnings.warnings.items)
      (c.in_ok-put_plain.ensures
      ∙ ap (λ (fs : List Fact). c.new-text.result.items
      ++ flat_map (plain_line c.args.policy.now) fs) c.deref.ensures.value
      ∙ ap (λ (t : List ℕ). t ++ flat_map (plain_line c.args.policy.now) c.in_ok-facts.facts.items)
      c.new-text.ensures.items));
}
