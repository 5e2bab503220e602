-- Halls as machines that keep no book.
use Rattle.std.specs.Prelude.{Option, Some}
use Rattle.hall_core.specs.Halls.{HallValue}
use Rattle.hall_turn.specs.Receipts.{Covered, nothing_known}

-- it has nothing to write down, so it never lacks anything that it had to write; nothing is known
abbrev pub has_no_book : HallValue → Option Covered
has_no_book hall = Some nothing_known
