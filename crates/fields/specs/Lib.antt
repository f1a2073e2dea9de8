pub mod Fields
pub mod Primes
