-- Books that are read from a device.
use Rattle.std.proofs.Common.{◌≡◌, ℕ, List, Ok, Err, Result, sym, ap, ◌∙◌}
use Rattle.std.specs.Prelude.{IfErr}
use Rattle.wall_policy.specs.Policy.{ChineseWall}
use Rattle.run_model.specs.declared.entry.Entry.{Entry}
use Rattle.audit_book.specs.Reading.{book_in}
use Rattle.hall_script.specs.Devices.{Used, IsRead}
use Rattle.program_commands.specs.declared.ending.Ending.{Ending}
use Rattle.program_commands.specs.declared.ending.Ending.TheVariants as endings
use Rattle.program_commands.specs.Auditing.{book_limit, IsBookOf, GivesNoBook, IsNoBook}

module _ {B : Type 0} (wall : ChineseWall) (device : Used B) (bytes text : List ℕ)
    (same : text ≡ bytes) (read : IsRead device book_limit bytes) where
  pub is_book : (entries : List Entry) → book_in wall text ≡ Ok entries →
      IsBookOf wall device entries
  is_book entries h = (bytes, read, ap (book_in wall) (sym same) ∙ h)

  pub is_no_book : {X : Type 0} (r : Result X Ending) → IfErr r (GivesNoBook wall text) →
      IfErr r (IsNoBook wall device)
  is_no_book (Ok x) h = tt
  is_no_book (Err (endings.BadBookLine n)) h = (bytes, read, ap (book_in wall) (sym same) ∙ h)
  is_no_book (Err endings.CutBook) h = (bytes, read, ap (book_in wall) (sym same) ∙ h)
  is_no_book (Err endings.NoMemory) h = read.0
  is_no_book (Err endings.ReadFault) h = absurd h
  is_no_book (Err endings.Done) h = absurd h
  is_no_book (Err (endings.BadPolicy f)) h = absurd h
  is_no_book (Err (endings.BadLine n f)) h = absurd h
  is_no_book (Err (endings.Unsound n)) h = absurd h
  is_no_book (Err (endings.BadEarlier p f)) h = absurd h
  is_no_book (Err endings.WriteFault) h = absurd h
  is_no_book (Err endings.NoThread) h = absurd h
  is_no_book (Err endings.Exhausted) h = absurd h
  is_no_book (Err endings.BadArguments) h = absurd h
  is_no_book (Err (endings.Unread p w)) h = absurd h
