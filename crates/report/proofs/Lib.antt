-- The laws of the definitions, and what they give on examples.
pub mod Laws
pub mod Cases
