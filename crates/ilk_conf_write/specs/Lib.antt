pub mod ConfigurationText
