pub mod HeadAndTail
pub mod Shape
