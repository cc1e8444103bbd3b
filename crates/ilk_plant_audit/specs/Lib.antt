pub mod Audited
pub mod PlantAudit
