use Rattle.std.proofs.Common.{◌≡◌, ℕ, List, ◌++◌, codes, ap, ◌∙◌, append_assoc}
use Rattle.std.proofs.lemmas.Result.{on_ok_weaker}
use Rattle.check_text.specs.Policies.{closed_text}
use Rattle.check_text.proofs.policies.put_tables.Goals as goal

pub returns : goal.returns
returns c =
    on_ok_weaker c.put_closed.result
    (λ (last : c.put_closed.new.text.items ≡ c.put.new.text.items ++ closed_text c.args.key.now).
    last ∙ ap (λ (t : List ℕ). t ++ closed_text c.args.key.now) c.in_ok-put.ensures.ok
    ∙ append_assoc c.args.text.now.items (codes " is not given by tables [[")
    (closed_text c.args.key.now))
    c.put_closed.ensures
