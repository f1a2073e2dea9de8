pub mod Tables
pub mod Rolling
