use Rattle.std.proofs.Common.{◌≡◌, ◌++◌}
use Rattle.std.specs.List.{flat_map}
use Rattle.json_form.specs.Tokens.{tokens_of}
use Rattle.report_text.specs.meaning.Values.{setting_value}
use Rattle.report_text.proofs.identifier.each_setting.Given as goal

abbrev pub invariant-loop-name : goal.invariant-loop-name
invariant-loop-name l = l.out ++ flat_map (λ pair. tokens_of (setting_value pair)) l.name-iterator ≡ l.fn.out ++ flat_map (λ pair. tokens_of (setting_value pair)) l.settings
