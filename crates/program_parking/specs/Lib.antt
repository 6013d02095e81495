pub mod Lanes
pub mod Parkings
pub mod ParkingLaws
