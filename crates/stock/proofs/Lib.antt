pub mod Coefficients
pub mod Independence
pub mod Irreducibility
pub mod Sieve
pub mod Searches
pub mod Table
