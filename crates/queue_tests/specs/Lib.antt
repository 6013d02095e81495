pub mod Ended
pub mod Senders
