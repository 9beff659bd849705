use Rattle.json_form.proofs.Offered.{array_written}
use Rattle.report_text.specs.meaning.Values.{setting_value}
use Rattle.report_text.proofs.identifier.settings_written.Goals as goal

pub returns : goal.returns
returns c =
    array_written c.end_array.result c.args.out.now c.begin_array.new.self c.each_setting.new.out c.end_array.new.self setting_value c.args.settings.now c.in_ok-begin_array.ensures c.in_ok-each_setting.ensures c.end_array.ensures
