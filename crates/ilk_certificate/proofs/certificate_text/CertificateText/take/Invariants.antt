use Rattle.std.proofs.Common.{◌≡◌, ◌≤◌, ◌-◌, ◌++◌, drop, flat_map, length, take, vec_len}
use Rattle.ilk_certificate.specs.Writing.{untaken_bytes_of_part}
use Rattle.ilk_certificate.proofs.certificate_text.CertificateText.take.Given as goal

abbrev pub invariant-parts : goal.invariant-parts
invariant-parts l = record {
  whole : l.fn.self ≡ take l.count l.into ++ flat_map untaken_bytes_of_part (drop l.self-inside.at l.self-inside.parts.items);
  within : l.count ≤ length l.into;
  at : l.self-inside.at ≤ vec_len l.self-inside.parts;
}

abbrev pub decreases-parts : goal.decreases-parts
decreases-parts l = vec_len l.self-inside.parts - l.self-inside.at
