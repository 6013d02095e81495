pub mod LaneMoves
pub mod EntityMoves
