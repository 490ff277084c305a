pub mod Difference
