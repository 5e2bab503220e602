use Rattle.run_model.proofs.TypeRowProofs.{bits_and_places_is_legal, bits_and_places_is_wrong_1}
use Rattle.run_model.proofs.TypeRowProofs.{bits_and_places_is_wrong_2}
use Rattle.run_model.proofs.type_rows.bits_and_places.Goals as goal

pub returns-clause-legal : goal.returns-clause-legal
returns-clause-legal c = bits_and_places_is_legal

pub returns-clause-wrong_1 : goal.returns-clause-wrong_1
returns-clause-wrong_1 c = bits_and_places_is_wrong_1

pub returns-clause-wrong_2 : goal.returns-clause-wrong_2
returns-clause-wrong_2 c = bits_and_places_is_wrong_2
