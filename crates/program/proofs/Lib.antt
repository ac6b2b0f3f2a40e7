pub mod Lines
pub mod Pages
pub mod SameContent
pub mod LockAnswers
pub mod Outcomes
pub mod OneReport
pub mod FaultLines
