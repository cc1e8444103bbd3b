pub mod Grammar
pub mod FirstBad
pub mod Answers
pub mod Stages
pub mod Fed
