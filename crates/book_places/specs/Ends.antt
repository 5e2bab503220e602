-- An end, read by itself: words of private contracts.
use Rattle.std.specs.Prelude.{ℕ, List, codes, Result, Err, if◌then◌else◌}
use Rattle.std.specs.Str.{bytes_eq}
use Rattle.coll_text.specs.declared.fault.LineFault.{LineFault}
use Rattle.coll_text.specs.declared.fault.LineFault.TheVariants.{BadVerb}
use Rattle.coll_text.specs.Numbers.{Word}
use Rattle.coll_text.specs.Reading.{◌>>=◌, word_at}
use Rattle.audit_book.specs.Lines.{end_at}

-- the number of an end
unfoldable pub end_in : List Word → Result ℕ LineFault
end_in ws = do
  w ← word_at ws
  if bytes_eq w.0 (codes "end") then end_at w.1 else Err BadVerb
