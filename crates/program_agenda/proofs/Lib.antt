pub mod ExpiryRows
pub mod Lists
pub mod PaceFacts
pub mod PaceRows
pub mod StoreRows
