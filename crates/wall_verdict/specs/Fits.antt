-- That a roll is fit has one proof at most, so a value can keep it beside its roll.
use Rattle.std.specs.Prelude.{ℕ, Option, Some, None}
use Rattle.std.specs.Coded.{Coded-set, coded_ℕ, coded_bool, coded_option, Unit-prop}
use Rattle.mpi_cart.specs.Grids.{Topology}
use Rattle.coll_routes.specs.contracts.signature.Signature as signature
use Rattle.coll_routes.specs.contracts.fault.ShapeFault as fault
use Rattle.coll_routes.specs.declared.statement.Stated.{Stated}
use Rattle.coll_routes.specs.declared.roll.Roll.{Roll}
use Rattle.coll_routes.specs.Fit.{IsFit, IsSound, IsStatement, IsSizedGrid}

sized_prop : (n : ℕ) (grid : Option Topology) → IsProp (IsSizedGrid n grid)
sized_prop n None = Unit-prop
sized_prop n (Some g) = Coded-set coded_ℕ _ _

statement_prop : (roll : Roll) (i : ℕ) (s : Stated) → IsProp (IsStatement roll i s)
statement_prop roll i s a b = λ k. record {
  sig = Coded-set signature.the_row.coded _ _ a.sig b.sig k;
  fault = Coded-set (coded_option fault.the_row.coded) _ _ a.fault b.fault k;
  labelled = λ barred. Coded-set coded_bool _ _ (a.labelled barred) (b.labelled barred) k;
}

sound_prop : (roll : Roll) → IsProp (IsSound roll)
sound_prop roll a b = λ k. record {
  members = Coded-set coded_ℕ _ _ a.members b.members k;
  grid = sized_prop roll.shape.size roll.shape.grid a.grid b.grid k;
  rows = Coded-set coded_ℕ _ _ a.rows b.rows k;
  statements =
      λ i s is. statement_prop roll i s (a.statements i s is) (b.statements i s is) k;
}

pub fit_prop : (roll : Roll) → IsProp (IsFit roll)
fit_prop roll a b = λ k. record {
  sound = sound_prop roll a.sound b.sound k;
  full = λ i below. Coded-set coded_bool _ _ (a.full i below) (b.full i below) k;
}
