pub mod Lines
pub mod Words
pub mod Decimal
pub mod LinesLeft
pub mod Reading
pub mod Written
pub mod FirstBad
pub mod Answers
