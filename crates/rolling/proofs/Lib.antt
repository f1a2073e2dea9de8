pub mod Window
pub mod Residues
