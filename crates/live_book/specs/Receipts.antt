-- What a receipt of a book covers. (Own rule.)
use Rattle.std.specs.Prelude.{ℕ, List, Option, Some}
use Rattle.hall_turn.specs.Receipts.{Covered}
use Rattle.live_book.specs.declared.receipt.BookReceipt.{BookReceipt}

-- what the receipt of its sink covers, and how far the text of the book had come
abbrev pub covers_of : {R : Type 0} → (R → Option (List ℕ)) → BookReceipt R → Covered
covers_of covers r = record {
  contents = covers r.sink;
  extent = Some (record { entries = r.entries; hasher = r.hasher });
}
