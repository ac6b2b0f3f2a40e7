pub mod BladeLaws
pub mod LockLaws
pub mod OpenExits
pub mod Steps
pub mod TableAnswers
pub mod TableLaws
