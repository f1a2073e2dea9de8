pub mod Lists
pub mod Searches
pub mod Counts
pub mod Members
pub mod Inner
