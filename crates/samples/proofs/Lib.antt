-- The laws of the hash.
pub mod Laws
