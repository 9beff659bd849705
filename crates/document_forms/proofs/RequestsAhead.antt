-- Requests and clients whose members were read one after the other.
use Rattle.std.proofs.Common.{◌≡◌, ◌-◌, ◌<◌, ℕ, List, [], ◌∷◌, length, Option, Some, None, option_map, Ok, codes, refl, ap, ◌∙◌, arith}
use Rattle.std.specs.Option.{unwrap_or}
use Rattle.json.specs.Token.{Token}
use Rattle.json.specs.Json.{read_key, value, parse_map}
use Rattle.serde_json.specs.Data.{Data, Members, no_members, put, object}
use Rattle.json_form.specs.declared.hexadecimal.Digits.TheVariants as digits
use Rattle.json_form.specs.meaning.Faults.{◌>>=◌, within}
use Rattle.json_form.specs.meaning.Values.{whole_of}
use Rattle.json_form.specs.meaning.Arrays.{array_of, list_of, each_of}
use Rattle.json_form.specs.meaning.Objects.{Named, named, known, object_with, required, optional}
use Rattle.json_form.specs.Objects.{putting}
use Rattle.json_form.specs.Streams.{value_ahead, members_ahead, Begins}
use Rattle.svc_values.specs.declared.call.Call.{Call}
use Rattle.svc_values.specs.meaning.SettingsList.{NamedValues}
use Rattle.outage_schedule.specs.declared.document.Request.{Request}
use Rattle.outage_schedule.specs.declared.document.Client.{Client}
use Rattle.call_forms.specs.meaning.Calls.{call_of}
use Rattle.document_forms.specs.declared.script_ahead.RequestAhead.{RequestAhead}
use Rattle.document_forms.specs.meaning.Scripts.{settings_of, if_submitted_rightly, request_of, client_of}
use Rattle.document_forms.specs.RequestsAhead.{request_members, IsRequestRead}
use Rattle.json_form.proofs.Offered.{given, begun, member_turn, members_over, read_key-shorter, named_put, known_put}
use Rattle.document_forms.proofs.Steps.{gives_after}
use Rattle.document_forms.proofs.OneByOne.{at_this, at_other, one_there, may_be_there, members_there, required_there}
use Rattle.document_forms.proofs.ReadScripts.{with_again, with_calls, with_settings, with_requests}

module _ (old : RequestAhead) (d : Data) (ms : Named) where
  pub settings_put : (settings : NamedValues) → settings_of d ≡ Ok settings → IsRequestRead old ms → IsRequestRead (record { settings = Some settings; calls = old.calls; again = old.again }) (putting (codes "settings") d ms)
  settings_put settings e are = record {
    settings = ap (option_map settings_of) (at_this (codes "settings") d ms refl) ∙ ap (λ r. Some r) e;
    calls = ap (option_map (array_of 1 1024 (each_of (call_of digits.Any)))) (at_other (codes "calls") (codes "settings") d ms refl) ∙ are.calls;
    again = ap (option_map (whole_of 0 4)) (at_other (codes "again") (codes "settings") d ms refl) ∙ are.again;
  }

  pub calls_put : (calls : List Call) → array_of 1 1024 (each_of (call_of digits.Any)) d ≡ Ok calls → IsRequestRead old ms → IsRequestRead (record { settings = old.settings; calls = Some calls; again = old.again }) (putting (codes "calls") d ms)
  calls_put calls e are = record {
    settings = ap (option_map settings_of) (at_other (codes "settings") (codes "calls") d ms refl) ∙ are.settings;
    calls = ap (option_map (array_of 1 1024 (each_of (call_of digits.Any)))) (at_this (codes "calls") d ms refl) ∙ ap (λ r. Some r) e;
    again = ap (option_map (whole_of 0 4)) (at_other (codes "again") (codes "calls") d ms refl) ∙ are.again;
  }

  pub again_put : (again : ℕ) → whole_of 0 4 d ≡ Ok again → IsRequestRead old ms → IsRequestRead (record { settings = old.settings; calls = old.calls; again = Some again }) (putting (codes "again") d ms)
  again_put again e are = record {
    settings = ap (option_map settings_of) (at_other (codes "settings") (codes "again") d ms refl) ∙ are.settings;
    calls = ap (option_map (array_of 1 1024 (each_of (call_of digits.Any)))) (at_other (codes "calls") (codes "again") d ms refl) ∙ are.calls;
    again = ap (option_map (whole_of 0 4)) (at_this (codes "again") d ms refl) ∙ ap (λ r. Some r) e;
  }

-- ---- the whole request

read_settings : (ms : Named) (settings : Option NamedValues) → option_map settings_of (ms (codes "settings")) ≡ option_map (given {A = NamedValues}) settings → optional (codes "settings") [] settings_of ms ≡ Ok (unwrap_or settings [])
unfolding optional
read_settings ms settings e = may_be_there (codes "settings") [] settings_of (ms (codes "settings")) settings e

read_again : (ms : Named) (again : Option ℕ) → option_map (whole_of 0 4) (ms (codes "again")) ≡ option_map (given {A = ℕ}) again → optional (codes "again") 0 (whole_of 0 4) ms ≡ Ok (unwrap_or again 0)
unfolding optional
read_again ms again e = may_be_there (codes "again") 0 (whole_of 0 4) (ms (codes "again")) again e

abbrev pub made : NamedValues → List Call → ℕ → Request
made settings calls again = record { settings = settings; calls = calls; again = again }

pub request_joined : (ms : Members) (ahead : RequestAhead) (calls : List Call) (one : Request) → known request_members ms ≡ Ok tt → ahead.calls ≡ Some calls → IsRequestRead ahead (named ms)
    → if_submitted_rightly (made (unwrap_or ahead.settings []) calls (unwrap_or ahead.again 0)) ≡ Ok one → request_of (object ms) ≡ Ok one
unfolding request_of
request_joined ms ahead calls one all hc are rightly =
    let settings = unwrap_or ahead.settings [] in
    let again = unwrap_or ahead.again 0 in
    let reads = array_of 1 1024 (each_of (call_of digits.Any)) in
    let c = one_there reads (named ms (codes "calls")) calls (are.calls ∙ ap (option_map (given {A = List Call})) hc) in
    gives_after (object_with request_members (object ms)) (named ms) (λ found. required (codes "calls") found >>= with_settings found) one (members_there request_members ms all)
    (gives_after (required (codes "calls") (named ms)) c.0 (with_settings (named ms)) one (required_there (codes "calls") (named ms) c.0 c.1)
    (gives_after (optional (codes "settings") [] settings_of (named ms)) settings (with_calls (named ms) c.0) one (read_settings (named ms) ahead.settings are.settings)
    (gives_after (within (codes "calls") (reads c.0)) calls (with_again (named ms) settings) one (ap (within (codes "calls")) c.2)
    (gives_after (optional (codes "again") 0 (whole_of 0 4) (named ms)) again (λ n. if_submitted_rightly (made settings calls n)) one (read_again (named ms) ahead.again are.again) rightly))))

-- ---- a client, whose only member its requests are

abbrev with_list : List Request → Client
with_list requests = record { requests = requests }

client_of_list : (ms : Members) (d : Data) (requests : List Request) → known (codes "requests" ∷ []) ms ≡ Ok tt → named ms (codes "requests") ≡ Some d → list_of (each_of request_of) d ≡ Ok requests → client_of (object ms) ≡ Ok (with_list requests)
unfolding client_of
client_of_list ms d requests all there read =
    gives_after (object_with (codes "requests" ∷ []) (object ms)) (named ms) (λ found. required (codes "requests") found >>= with_requests) (with_list requests) (members_there (codes "requests" ∷ []) ms all)
    (gives_after (required (codes "requests") (named ms)) d with_requests (with_list requests) (required_there (codes "requests") (named ms) d there)
    (gives_after (within (codes "requests") (list_of (each_of request_of) d)) requests (λ rs. Ok (with_list rs)) (with_list requests) (ap (within (codes "requests")) read) refl))

pub client_joined : (depth inside : ℕ) (ts begin s r rest : List Token) (requests : List Request) → value_ahead depth ts ≡ parse_map object (members_ahead inside begin) → read_key begin ≡ Some (Some (codes "requests"), s)
    → Begins (list_of (each_of request_of)) inside s requests r → length r < length s → read_key r ≡ Some (None, rest) → Begins client_of depth ts (with_list requests) rest
client_joined depth inside ts begin s r rest requests opens key begins less ends =
    let b = begun (list_of (each_of request_of)) (value_ahead inside s) requests r begins in
    let ms = put (codes "requests") b.0 no_members in
    let fewer = read_key-shorter begin (Some (codes "requests")) s key in
    let turn = member_turn (value inside) no_members (length begin) (codes "requests") begin s r b.0 (omega (arith, fewer)) key b.1 in
    let over = members_over (value inside) ms (length begin - 1) r rest (omega (arith, fewer, less)) ends in
    let there = ap (λ (found : Named). found (codes "requests")) (named_put (codes "requests") b.0 no_members) ∙ at_this (codes "requests") b.0 (named no_members) refl in
    ap (parse_map client_of) (opens ∙ ap (parse_map object) (turn ∙ over)) ∙ ap (λ q. Some (q, rest)) (client_of_list ms b.0 requests (known_put (codes "requests" ∷ []) (codes "requests") b.0 no_members refl refl) there b.2)
