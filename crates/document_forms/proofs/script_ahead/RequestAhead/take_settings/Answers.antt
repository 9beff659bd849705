use Rattle.std.proofs.Common.{rules}
use Rattle.document_forms.specs.meaning.Scripts.{settings_of}
use Rattle.json_form.specs.Streams.{value_ahead}
use Rattle.json_form.proofs.Offered.{begun}
use Rattle.document_forms.proofs.RequestsAhead.{settings_put}
use Rattle.document_forms.proofs.script_ahead.RequestAhead.take_settings.Goals as goal

pub returns-clause-read : goal.returns-clause-read
returns-clause-read c =
    let b = begun settings_of (value_ahead c.args.depth c.args.tokens.now) c.in_ok-settings.settings c.ahead.new.tokens (search rules) in
    (b.0, b.1, λ ms are. settings_put c.args.self.now b.0 ms c.in_ok-settings.settings b.2 are)
