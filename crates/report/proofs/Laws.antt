-- Laws of the definitions, a file for each notion.
pub mod Line
pub mod Printed
pub mod Sheet
pub mod Text
