pub mod Truth
pub mod Lists
pub mod Sublists
pub mod Counts
pub mod Searches
pub mod Lent
