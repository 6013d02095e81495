use Rattle.modular_sum.proofs.PieceLemmas.{pieces_add_up}
use Rattle.modular_sum.proofs.laws.pieces.Goals as goal

pub returns : goal.returns
returns c = pieces_add_up
