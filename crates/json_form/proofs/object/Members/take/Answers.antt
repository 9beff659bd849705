use Rattle.std.proofs.Common.{option_map, ap, ◌∙◌}
use Rattle.serde_json.specs.View.{view}
use Rattle.serde_json.proofs.Views.{view-lookup}
use Rattle.json_form.proofs.TakenOut.{member_taken}
use Rattle.json_form.proofs.object.Members.take.Goals as goal

pub returns-clause-taken : goal.returns-clause-taken
returns-clause-taken c = ap (option_map view) c.remove.ensures.value ∙ view-lookup c.args.name.now c.args.self.now.map.entries

pub returns-clause-left : goal.returns-clause-left
returns-clause-left c = member_taken c.args.name.now c.args.self.now.map.entries c.remove.new.self.entries c.remove.ensures.entries c.remove.ensures.updates.1
