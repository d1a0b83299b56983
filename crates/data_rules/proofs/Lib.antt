pub mod DataRunning
pub mod Slotting
pub mod DataPlacing
pub mod DataFilling
pub mod TripsBetween
pub mod DataListing
pub mod DataPairing
pub mod DataStarting
mod DataGoing
pub mod DataSetsMore
pub mod DataPassing
pub mod Sizeless
