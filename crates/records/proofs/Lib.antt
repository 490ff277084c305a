-- The laws that belong to no one function, and the theorems.
pub mod Laws
pub mod Theorems
