-- The definitions of the engine, in the order of document 01.
pub mod Choice
pub mod Eval
pub mod Ternary
pub mod Rectify
pub mod Support
pub mod Verdict
pub mod Compare
pub mod Tree
pub mod Fit
pub mod Reply
pub mod Claims
pub mod Cases
pub mod Inner
