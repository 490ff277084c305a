-- The definitions of the record library, in the order of document 01.
pub mod Bytes
pub mod Gate
pub mod Netlist
pub mod Job
pub mod Refusal
pub mod Sheet
pub mod Service
pub mod Columns
pub mod Inner
pub mod Claims
pub mod Parts
