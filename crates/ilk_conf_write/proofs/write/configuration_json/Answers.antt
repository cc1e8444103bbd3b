use Rattle.ilk_conf_write.proofs.ReadBack.{read-of, text-of}
use Rattle.ilk_conf_write.proofs.write.configuration_json.Goals as goal

pub returns-clause-text : goal.returns-clause-text
returns-clause-text c =
    text-of (λ b. b.items) c.to_vec.result _ c.args.version c.args.net.now c.args.table.now c.in_ok-configuration_value.ensures c.to_vec.ensures.text

pub returns-clause-read : goal.returns-clause-read
returns-clause-read c =
    read-of (λ b. b.items) c.to_vec.result _ c.args.version c.args.net.now c.args.table.now c.requires.limits c.requires.version c.in_ok-configuration_value.ensures c.to_vec.ensures.utf8 c.to_vec.ensures.reads_back
