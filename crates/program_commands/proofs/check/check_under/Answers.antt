use Rattle.std.proofs.Common.{inl, inr, refl, ap, ◌∙◌, ◌++◌}
use Rattle.program_commands.specs.Checking.{first_ending}
use Rattle.program_commands.proofs.check.check_under.Goals as goal

pub returns-in-Ok : goal.returns-in-Ok
returns-in-Ok g c =
    let meaning = c.tell_meaning-meaning.result in
    let lines = c.tell_script_if_any-lines.result in
    let found = c.tell_book_if_any-found.result in (
      meaning.text.items ++ (lines.text.items ++ found.text.items),
      c.first_ending-ending.result,
      record {
        meaning = meaning.text.items;
        lines = lines.text.items;
        found = found.text.items;
        of_policy = meaning.ending;
        of_script = lines.ending;
        of_book = found.ending;
        by_policy = c.tell_meaning-meaning.ensures;
        by_script = c.tell_script_if_any-lines.ensures;
        by_book = c.tell_book_if_any-found.ensures;
        whole = refl;
        first = c.first_ending-ending.ensures
            ∙ ap (λ e. first_ending meaning.ending e) c.first_ending-behind.ensures;
      },
      inl (
        rw (c.deref.ensures.value, c.deref-2.ensures.value, c.deref-3.ensures.value)
            at c.in-Ok.ensures.written,
        refl,
      ),
    )

pub returns-in-Err : goal.returns-in-Err
returns-in-Err g c =
    let meaning = c.tell_meaning-meaning.result in
    let lines = c.tell_script_if_any-lines.result in
    let found = c.tell_book_if_any-found.result in (
      meaning.text.items ++ (lines.text.items ++ found.text.items),
      c.first_ending-ending.result,
      record {
        meaning = meaning.text.items;
        lines = lines.text.items;
        found = found.text.items;
        of_policy = meaning.ending;
        of_script = lines.ending;
        of_book = found.ending;
        by_policy = c.tell_meaning-meaning.ensures;
        by_script = c.tell_script_if_any-lines.ensures;
        by_book = c.tell_book_if_any-found.ensures;
        whole = refl;
        first = c.first_ending-ending.ensures
            ∙ ap (λ e. first_ending meaning.ending e) c.first_ending-behind.ensures;
      },
      inr (
        rw (c.deref.ensures.value, c.deref-2.ensures.value, c.deref-3.ensures.value)
            at c.in-Err.ensures.broken,
        refl,
      ),
    )
