pub mod Polynomials
pub mod Degrees
pub mod Powers
pub mod Moduli
pub mod Criterion
pub mod Inverses
