-- Where no instance waits there is no table of them.
use Rattle.std.proofs.Common.{◌≡◌, List, [], ◌∷◌, length, true, false, codes, refl, sym, arith}
use Rattle.std.proofs.Common.{eqb-true}
use Rattle.std.specs.Prelude.{◌==◌}
use Rattle.std.specs.List.{flat_map}
use Rattle.std.proofs.lemmas.Bool.{false≢true}
use Rattle.wall_policy.specs.Policy.{ChineseWall}
use Rattle.run_model.specs.declared.entry.Entry.{Entry}
use Rattle.book_report.specs.declared.wait.Wait.{Wait}
use Rattle.report_page.specs.Cells.{table}
use Rattle.report_page.specs.Tables.{wait_row, waits_table}

module _ (wall : ChineseWall) (entries : List Entry) where
  pub no_table : (waits : List Wait) → (length waits == 0) ≡ true →
      waits_table wall entries waits ≡ []
  no_table [] is = refl
  no_table (it ∷ waits) is =
      let none : length (it ∷ waits) ≡ 0 = eqb-true (length (it ∷ waits)) 0 is in
      absurd (omega (arith, none))

  pub whole_table : (waits : List Wait) → (length waits == 0) ≡ false →
      waits_table wall entries waits
      ≡ table (codes "Which instances wait, and for whom")
      (codes "<th>Instance<th>Kind<th>Process<th>Posted by entry")
      (flat_map (wait_row wall entries) waits)
  whole_table [] is = absurd (false≢true (sym is))
  whole_table (it ∷ waits) is = refl
