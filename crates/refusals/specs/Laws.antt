pub mod DigitPlaces
pub mod FitLaws
pub mod ListLaws
pub mod ProductLaws
