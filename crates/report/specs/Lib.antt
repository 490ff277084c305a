-- The definitions of the report.
pub mod Text
pub mod Inner
