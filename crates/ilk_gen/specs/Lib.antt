pub mod Stations
pub mod StationRoutes
pub mod WrittenRoutes
pub mod StationsText
