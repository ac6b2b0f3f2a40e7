pub mod Faults
pub mod File
pub mod Layout
pub mod Lines
pub mod Loading
pub mod Rows
pub mod Sections
