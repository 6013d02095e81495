pub mod Rounds
pub mod Texts
pub mod Files
pub mod RoundLaws
pub mod LanePlaces
