use Rattle.std.proofs.Common.{◌≡◌, [], Some, Ok, sym, ap, ◌∙◌, rules}
use Rattle.std.specs.Option.{unwrap_or}
use Rattle.json.specs.Json.{parse_map}
use Rattle.serde_json.specs.Data.{object}
use Rattle.document_forms.specs.meaning.Scripts.{if_submitted_rightly, request_of}
use Rattle.document_forms.proofs.RequestsAhead.{made, request_joined}
use Rattle.document_forms.proofs.script_ahead.request_ahead.Goals as goal

pub returns-clause-begins : goal.returns-clause-begins
returns-clause-begins c =
    let ahead = c.in_ok-settings.field-0 in
    let x = c.in_ok-settings.ensures.read in
    let calls = c.in_ok-calls.field-0 in
    let one = c.in_ok-rightly.rightly in
    let there : ahead.calls ≡ Some calls = search rules in
    let settings : c.unwrap_or.result ≡ unwrap_or ahead.settings [] = search rules in
    let again : c.unwrap_or-2.result ≡ unwrap_or ahead.again 0 = search rules in
    let rightly : if_submitted_rightly (made c.unwrap_or.result calls c.unwrap_or-2.result) ≡ Ok one = search rules in
    let read = request_joined x.0 ahead calls one x.2 there x.3 (ap (λ s. if_submitted_rightly (made s calls (unwrap_or ahead.again 0))) (sym settings) ∙ ap (λ n. if_submitted_rightly (made c.unwrap_or.result calls n)) (sym again) ∙ rightly) in
    ap (parse_map request_of) (c.in_ok-inside.ensures.object.1 ∙ ap (parse_map object) x.1) ∙ ap (λ q. Some (q, c.members_ahead.new.tokens)) read
