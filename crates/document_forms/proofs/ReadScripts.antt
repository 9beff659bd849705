-- What clients that were read keep to.
use Rattle.std.proofs.Common.{◌≡◌, ◌≤◌, ℕ, ◌||◌, ◌==◌, List, [], ◌∷◌, length, true, Result, Ok, codes, refl, sym, ap, ◌∙◌, arith}
use Rattle.std.specs.List.{list_all}
use Rattle.std.proofs.lemmas.Bool.{le-leb}
use Rattle.serde_json.specs.Data.{Data}
use Rattle.json_form.specs.declared.hexadecimal.Digits.TheVariants as digits
use Rattle.json_form.specs.declared.fault.DocCode.TheVariants.{Rule}
use Rattle.json_form.specs.meaning.Faults.{Fault, ◌>>=◌, here, within}
use Rattle.json_form.specs.meaning.Pointers.{escaped}
use Rattle.json_form.specs.meaning.Values.{items_of, whole_of}
use Rattle.json_form.specs.meaning.Objects.{Named, object_with, required, optional}
use Rattle.json_form.specs.meaning.Arrays.{each_of, array_of, list_of}
use Rattle.svc_values.specs.declared.call.Call.{Call}
use Rattle.svc_values.specs.meaning.Calls.{is_made}
use Rattle.svc_values.specs.meaning.SettingsList.{NamedValues}
use Rattle.outage_schedule.specs.declared.document.Request.{Request}
use Rattle.outage_schedule.specs.declared.document.Client.{Client}
use Rattle.call_forms.specs.meaning.Calls.{call_of}
use Rattle.document_forms.specs.meaning.Scripts.{settings_of, is_one_transaction, if_submitted_rightly, request_of, client_of}
use Rattle.document_forms.specs.Numbers.{is_between}
use Rattle.document_forms.specs.Keeping.{is_request, is_client}
use Rattle.json_form.proofs.Offered.{after, ok_is, within_ok, passed, each_long, read_array, all_read, both_true}
use Rattle.document_forms.proofs.ReadNumbers.{member_whole}
use Rattle.call_forms.proofs.Offered.{call_read}

-- 1 to 1,024 calls that can be made
pub record AreCalls (calls : List Call) : Type 0 where
  pub made : list_all is_made calls ≡ true
  pub count : is_between 1 1024 (length calls) ≡ true

pub calls_read : (d : Data) (calls : List Call) → array_of 1 1024 (each_of (call_of digits.Any)) d ≡ Ok calls → AreCalls calls
calls_read d calls h =
    let a = read_array 1 1024 (each_of (call_of digits.Any)) d calls h in
    let long = each_long (λ before. call_of digits.Any) [] a.items calls a.gave in
    let enough = a.enough in
    let few = a.few in record {
      made = all_read is_made (call_of digits.Any) (call_read digits.Any) a.items calls a.gave;
      count = both_true _ _ (le-leb 1 (length calls) (omega (arith, long, enough))) (le-leb (length calls) 1024 (omega (arith, long, few)));
    }

abbrev pub with_again : Named → NamedValues → List Call → Result Request Fault
with_again ms settings cs = optional (codes "again") 0 (whole_of 0 4) ms >>= λ again. if_submitted_rightly (record { settings = settings; calls = cs; again = again })

abbrev pub with_calls : Named → Data → NamedValues → Result Request Fault
with_calls ms calls settings = within (codes "calls") (array_of 1 1024 (each_of (call_of digits.Any)) calls) >>= with_again ms settings

abbrev pub with_settings : Named → Data → Result Request Fault
with_settings ms calls = optional (codes "settings") [] settings_of ms >>= with_calls ms calls

made_request : (settings : NamedValues) (calls : List Call) (again : ℕ) → AreCalls calls → is_between 0 4 again ≡ true → ((again == 0) || is_one_transaction calls) ≡ true → is_request (record { settings = settings; calls = calls; again = again }) ≡ true
unfolding is_request
made_request settings calls again are within rightly = both_true _ _ are.made (both_true _ _ are.count (both_true _ _ within rightly))

request_read : (d : Data) (one : Request) → request_of d ≡ Ok one → is_request one ≡ true
unfolding request_of
request_read d one h =
    let a = after (object_with (codes "settings" ∷ codes "calls" ∷ codes "again" ∷ []) d) (λ ms. required (codes "calls") ms >>= with_settings ms) one h in
    let ms = a.0 in
    let b = after (required (codes "calls") ms) (with_settings ms) one a.2 in
    let s = after (optional (codes "settings") [] settings_of ms) (with_calls ms b.0) one b.2 in
    let cs = after (within (codes "calls") (array_of 1 1024 (each_of (call_of digits.Any)) b.0)) (with_again ms s.0) one s.2 in
    let n = after (optional (codes "again") 0 (whole_of 0 4) ms) (λ again. if_submitted_rightly (record { settings = s.0; calls = cs.0; again = again })) one cs.2 in
    let made : Request = record { settings = s.0; calls = cs.0; again = n.0 } in
    let p = passed ((n.0 == 0) || is_one_transaction cs.0) (Ok made) (here Rule) one n.2 in
    let are = calls_read b.0 cs.0 (within_ok (escaped (codes "calls")) _ cs.0 cs.1) in
    ap is_request (sym (ok_is made one p.1)) ∙ made_request s.0 cs.0 n.0 are (member_whole (codes "again") 0 4 0 ms n.0 refl n.1) p.0

abbrev pub with_requests : Data → Result Client Fault
with_requests requests = within (codes "requests") (list_of (each_of request_of) requests) >>= λ rs. Ok (record { requests = rs })

made_client : (requests : List Request) → list_all is_request requests ≡ true → is_client (record { requests = requests }) ≡ true
unfolding is_client
made_client requests all = all

client_read : (d : Data) (one : Client) → client_of d ≡ Ok one → is_client one ≡ true
unfolding client_of
client_read d one h =
    let a = after (object_with (codes "requests" ∷ []) d) (λ ms. required (codes "requests") ms >>= with_requests) one h in
    let b = after (required (codes "requests") a.0) with_requests one a.2 in
    let c = after (within (codes "requests") (list_of (each_of request_of) b.0)) (λ rs. Ok (record { requests = rs })) one b.2 in
    let e = after (items_of b.0) (each_of request_of) c.0 (within_ok (escaped (codes "requests")) _ c.0 c.1) in
    let made : Client = record { requests = c.0 } in
    ap is_client (sym (ok_is made one c.2)) ∙ made_client c.0 (all_read is_request request_of request_read e.0 c.0 e.2)

pub record AreClients (clients : List Client) : Type 0 where
  pub all : list_all is_client clients ≡ true
  pub few : length clients ≤ 64

pub clients_read : (d : Data) (clients : List Client) → array_of 0 64 (each_of client_of) d ≡ Ok clients → AreClients clients
clients_read d clients h =
    let a = read_array 0 64 (each_of client_of) d clients h in
    let long = each_long (λ before. client_of) [] a.items clients a.gave in
    let few = a.few in record { all = all_read is_client client_of client_read a.items clients a.gave; few = omega (arith, long, few) }
