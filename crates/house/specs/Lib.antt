pub mod House
