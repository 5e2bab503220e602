-- Where no instance waits nothing is told, and else the lines of all that do.
use Rattle.std.proofs.Common.{◌≡◌, List, [], ◌∷◌, ◌++◌, length, true, false, codes, refl, sym}
use Rattle.std.proofs.Common.{arith, eqb-true}
use Rattle.std.specs.Prelude.{◌==◌}
use Rattle.std.specs.List.{flat_map}
use Rattle.std.proofs.lemmas.Bool.{false≢true}
use Rattle.wall_policy.specs.Policy.{ChineseWall}
use Rattle.run_model.specs.declared.entry.Entry.{Entry}
use Rattle.book_report.specs.declared.wait.Wait.{Wait}
use Rattle.report_text.specs.Waits.{wait_line, waits_text}

module _ (wall : ChineseWall) (entries : List Entry) where
  pub none_told : (waits : List Wait) → (length waits == 0) ≡ true →
      waits_text wall entries waits ≡ []
  none_told [] is = refl
  none_told (it ∷ waits) is =
      let none : length (it ∷ waits) ≡ 0 = eqb-true (length (it ∷ waits)) 0 is in
      absurd (omega (arith, none))

  pub all_told : (waits : List Wait) → (length waits == 0) ≡ false →
      waits_text wall entries waits
      ≡ codes "\nwhich instances wait, and for whom:\n" ++ flat_map (wait_line wall entries) waits
  all_told [] is = absurd (false≢true (sym is))
  all_told (it ∷ waits) is = refl
