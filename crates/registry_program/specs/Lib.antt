pub mod Commands
pub mod LogPlaces
