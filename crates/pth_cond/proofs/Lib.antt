pub mod Seating
pub mod SeatingLaws
pub mod SeatingTables
pub mod EventSeats
pub mod Arrivals
pub mod BarrierTables
pub mod ToldOnce
