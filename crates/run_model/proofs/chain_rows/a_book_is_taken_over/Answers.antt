use Rattle.run_model.proofs.ChainRowProofs.{one_is_chain, grown_is_chain, forgotten_is_none}
use Rattle.run_model.proofs.chain_rows.a_book_is_taken_over.Goals as goal

pub returns-clause-chain : goal.returns-clause-chain
returns-clause-chain c = one_is_chain

pub returns-clause-grown : goal.returns-clause-grown
returns-clause-grown c = grown_is_chain

pub returns-clause-forgotten : goal.returns-clause-forgotten
returns-clause-forgotten c = forgotten_is_none
