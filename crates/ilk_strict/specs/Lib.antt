pub mod IsStrict
