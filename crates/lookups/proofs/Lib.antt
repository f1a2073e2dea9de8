pub mod Rule
pub mod Cut
pub mod Groups
