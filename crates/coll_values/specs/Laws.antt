-- What holds of all values.
use Rattle.std.specs.Prelude.{◌≡◌, ◌<◌, ℕ, List, [], filter_map, fold, slice_get, length, true}
use Rattle.wall_labels.specs.declared.op.Op.{Op}
use Rattle.mpi_elems.specs.declared.elem_type.ElemType.{ElemType}
use Rattle.mpi_elems.specs.Elements.{Element, combine, folded}
use Rattle.mpi_elems.specs.Lists.{merged}
use Rattle.mpi_elems.specs.Contents.{Contents}
use Rattle.coll_routes.specs.Rolls.{given, goes, places, routed}
use Rattle.coll_values.specs.declared.full.Full.{Full}
use Rattle.coll_values.specs.Instances.{part, element}
use Rattle.coll_values.specs.Values.{value}

-- two instances of one roll have the same elements wherever an element goes to rank j
pub record AgreeAt (F G : Full Contents) (j : ℕ) : Type 0 where
  pub roll : F.roll ≡ G.roll
  pub elements : (i x t : ℕ) → i < F.roll.shape.size → x < given F.roll i →
      goes F.roll i x j t ≡ true → element F i x ≡ element G i x

-- the value of a rank depends on the elements alone that go to it
abbrev pub ValuesAreOfRoutedElements : Type 0
ValuesAreOfRoutedElements = (F G : Full Contents) (j : ℕ) → AgreeAt F G j → value F j ≡ value G j

-- two instances of one roll have the same parts of all ranks that are routed to j
pub record AgreeOnRouted (F G : Full Contents) (j : ℕ) : Type 0 where
  pub roll : F.roll ≡ G.roll
  pub parts : (i : ℕ) → i < F.roll.shape.size → routed F.roll i j ≡ true → part F i ≡ part G i

-- so it depends on the ranks alone that are routed to it
abbrev pub ValuesAreOfRoutedRanks : Type 0
ValuesAreOfRoutedRanks = (F G : Full Contents) (j : ℕ) → AgreeOnRouted F G j → value F j ≡ value G j

-- a rank gets as many blocks as it has places
abbrev pub ValuesFillPlaces : Type 0
ValuesFillPlaces = (F : Full Contents) (j : ℕ) → length (value F j) ≡ places F.roll j

-- merging rows one by one, the lower rank's first, is the fold at each place
abbrev pub MergedRowsAreFolds : Type 0
MergedRowsAreFolds = (op : Op) (ty : ElemType) (rows : List (List Element)) (y : ℕ) →
    slice_get (fold (merged (combine op ty)) [] rows) y
    ≡ folded op ty (filter_map (λ row. slice_get row y) rows)
