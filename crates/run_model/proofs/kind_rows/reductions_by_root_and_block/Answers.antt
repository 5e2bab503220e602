use Rattle.run_model.proofs.KindRowProofs.{reductions_by_root_and_block_is_legal}
use Rattle.run_model.proofs.KindRowProofs.{reductions_by_root_and_block_is_wrong_1}
use Rattle.run_model.proofs.KindRowProofs.{reductions_by_root_and_block_is_wrong_2}
use Rattle.run_model.proofs.kind_rows.reductions_by_root_and_block.Goals as goal

pub returns-clause-legal : goal.returns-clause-legal
returns-clause-legal c = reductions_by_root_and_block_is_legal

pub returns-clause-wrong_1 : goal.returns-clause-wrong_1
returns-clause-wrong_1 c = reductions_by_root_and_block_is_wrong_1

pub returns-clause-wrong_2 : goal.returns-clause-wrong_2
returns-clause-wrong_2 c = reductions_by_root_and_block_is_wrong_2
