use Rattle.std.proofs.Common.{rules, refl, length, false}
use Rattle.disk_model.specs.declared.kept.KeptWrite.{KeptWrite}
use Rattle.std.proofs.lemmas.Grind.{common_steps}
use Rattle.disk_model.proofs.Puts.{logged}
use Rattle.disk_model.proofs.kept.put.Goals as goal

pub returns-clause-logged : goal.returns-clause-logged
returns-clause-logged c =
    let entry : KeptWrite = record { at = c.args.at; len = length c.args.new.now; covered = c.in_ok-covered.covered; synced = false } in
    logged c.args.at c.min-overlap.result c.args.new.now c.args.bytes.now.items _ c.args.log.now.items _ entry c.requires.at (search rules) (search (rules, common_steps)) (search rules) refl refl refl (search rules)
