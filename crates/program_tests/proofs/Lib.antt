pub mod StatusRows
pub mod EventRows
pub mod SeatRows
