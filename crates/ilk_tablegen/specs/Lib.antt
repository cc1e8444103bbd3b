pub mod Ways
pub mod Routes
pub mod Table
pub mod NetworkDraft
pub mod Rounds
pub mod Flags
pub mod Rules
pub mod EachWay
