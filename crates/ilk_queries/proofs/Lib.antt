pub mod Walks
pub mod Demands
pub mod Queries
pub mod Answered
pub mod Steps
pub mod Lifted
pub mod GoalMeaning
pub mod Satisfying
