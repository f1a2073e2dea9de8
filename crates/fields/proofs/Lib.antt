pub mod Primes
pub mod Values
pub mod Squaring
pub mod Roots
pub mod Pigeonhole
pub mod Fermat
pub mod Conjugates
