-- An audit of a plant's certificate, as contracts see it.
use Rattle.ilk_plant.specs.Plant.{PlantLists}
use Rattle.ilk_cert_audit.specs.declared.audit.SystemCertAudit.{SystemCertAudit}

-- The plant, and the audit of a certificate of its finite system and goal.
pub record PlantAudit : Type 0 where
  pub plant : PlantLists
  pub audit : SystemCertAudit
