pub mod Choice
pub mod Rules
pub mod Frame
pub mod Step
pub mod Size
