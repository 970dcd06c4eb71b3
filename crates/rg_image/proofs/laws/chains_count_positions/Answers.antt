use Rattle.rg_image.proofs.Sound.{chain_positions, more_positions}
use Rattle.rg_image.proofs.laws.chains_count_positions.Goals as goal

pub returns-clause-chain : goal.returns-clause-chain
returns-clause-chain c = chain_positions

pub returns-clause-more : goal.returns-clause-more
returns-clause-more c = more_positions
