use Rattle.std.proofs.Common.{◌-◌, arith}
use Rattle.std.proofs.lemmas.Option.{slice_get_within}
use Rattle.run_model.specs.Books.{posted}
use Rattle.book_report.proofs.DenialLemmas.{all_told}
use Rattle.book_report.proofs.told.Told.into_report.Goals as goal

pub returns-clause-sanitised : goal.returns-clause-sanitised
returns-clause-sanitised c =
    let those = c.requires.told.sanitised in
    record {
      right = those.sound;
      all = λ n d k j p is.
          let counted = is.at.counted in
          let low = slice_get_within c.args.book.now.list (n - 1) (posted is.x) is.at.entry in
          those.whole n d k j p (omega (arith, counted, low)) is;
      once = those.rising;
    }

pub returns-clause-bars : goal.returns-clause-bars
returns-clause-bars c =
    let bars = c.requires.told.bars in
    record {
      right = bars.sound;
      all = λ n x barred.
          let counted = barred.at.counted in
          let low = slice_get_within c.args.book.now.list (n - 1) (posted x) barred.at.entry in
          bars.whole n x (omega (arith, counted, low)) barred;
      once = bars.rising;
    }

pub returns-clause-denials : goal.returns-clause-denials
returns-clause-denials c =
    let denials = c.requires.told.denials in
    record {
      right = denials.sound;
      all = λ n k j p rule label told.
          all_told c.args.policy.now c.args.book.now.list c.args.self.denials.items
          c.requires.sound denials n k j rule p label told;
      once = denials.rising;
    }
