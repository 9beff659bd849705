-- How clients and their requests stand in a document.
use Rattle.std.specs.Prelude.{ℕ, ◌==◌, ◌||◌, ◌&&◌, not, List, [], ◌∷◌, Bool, false, fold, Result, Ok, Err, codes, if◌then◌else◌}
use Rattle.std.specs.Str.{bytes_eq}
use Rattle.serde_json.specs.Data.{Data}
use Rattle.json_form.specs.declared.hexadecimal.Digits.TheVariants as digits
use Rattle.json_form.specs.declared.fault.DocCode.TheVariants.{Rule}
use Rattle.json_form.specs.meaning.Faults.{Fault, ◌>>=◌, here, within}
use Rattle.json_form.specs.meaning.Values.{whole_of}
use Rattle.json_form.specs.meaning.Objects.{object_with, required, optional}
use Rattle.json_form.specs.meaning.Arrays.{each_of, array_of, list_of, distinct, fixed, part}
use Rattle.svc_values.specs.declared.value.Value.{Value}
use Rattle.svc_values.specs.declared.call.Call.{Call}
use Rattle.svc_values.specs.declared.call.Call.TheVariants as call
use Rattle.svc_values.specs.meaning.Calls.{has_commit}
use Rattle.svc_values.specs.meaning.SettingsList.{NamedValues, put_setting}
use Rattle.outage_schedule.specs.declared.document.Request.{Request}
use Rattle.outage_schedule.specs.declared.document.Client.{Client}
use Rattle.call_forms.specs.meaning.Values.{new_name, value_of}
use Rattle.call_forms.specs.meaning.Calls.{call_of}

-- a pair of a new name and a value
unfoldable pub setting_of : (List ℕ → Bool) → Data → Result (List ℕ × Value) Fault
setting_of taken d = fixed 2 d >>= λ ds. part 0 (new_name taken) ds >>= λ name.
    part 1 (value_of digits.Any) ds >>= λ x. Ok (name, x)

-- settings, by name
abbrev pub by_name : NamedValues → NamedValues
by_name pairs = fold (λ settings pair. put_setting settings pair.0 pair.1) [] pairs

-- pairs of different names
abbrev pub settings_of : Data → Result NamedValues Fault
settings_of d = list_of (distinct bytes_eq (λ pair. pair.0) setting_of) d >>= λ pairs.
    Ok (by_name pairs)

-- a call that may stand before the last one of a request that is submitted again: no commit, no
-- rollback and no alter
abbrev pub is_inside : Call → Bool
is_inside call.Rollback = false
is_inside (call.Alter line) = false
is_inside one = not (has_commit one)

-- one transaction: its last call commits, and no other call ends it or stores anything
abbrev pub is_one_transaction : List Call → Bool
is_one_transaction [] = false
is_one_transaction (one ∷ []) = has_commit one
is_one_transaction (one ∷ calls) = is_inside one && is_one_transaction calls

-- only a request that is one transaction may be submitted again
abbrev pub if_submitted_rightly : Request → Result Request Fault
if_submitted_rightly request = if (request.again == 0) || is_one_transaction request.calls then
    Ok request else Err (here Rule)

-- 1 to 1,024 calls, settings, and at most 4 further submissions; the rule on these comes last
unfoldable pub request_of : Data → Result Request Fault
request_of d =
    object_with (codes "settings" ∷ codes "calls" ∷ codes "again" ∷ []) d >>= λ ms.
    required (codes "calls") ms >>= λ calls.
    optional (codes "settings") [] settings_of ms >>= λ settings. within
    (codes "calls") (array_of 1 1024 (each_of (call_of digits.Any)) calls) >>= λ cs.
    optional (codes "again") 0 (whole_of 0 4) ms >>= λ again. if_submitted_rightly (record {
      settings = settings;
      calls = cs;
      again = again;
    })

unfoldable pub client_of : Data → Result Client Fault
client_of d =
    object_with (codes "requests" ∷ []) d >>= λ ms. required (codes "requests") ms >>= λ requests.
    within (codes "requests") (list_of (each_of request_of) requests) >>= λ rs. Ok (record {
      requests = rs;
    })
