mod FromOne
mod Walks
