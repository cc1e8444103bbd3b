pub mod CarriedForever
pub mod Lasting
pub mod OnPlant
pub mod RangeBytes
pub mod Refuted
pub mod StrictForever
