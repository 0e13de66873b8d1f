pub mod Units
pub mod Runs
pub mod Segments
pub mod Pairs
pub mod Causes
pub mod Lists
pub mod Agreement
