pub mod Agreement
pub mod SenderLaws
pub mod ReceiverLaws
