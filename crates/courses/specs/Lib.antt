pub mod Courses
pub mod Theorems
