-- What events that were read keep to.
use Rattle.std.proofs.Common.{◌≡◌, ◌≤◌, ℕ, ◌+◌, ◌||◌, nat_le, List, [], length, Bool, true, false, Result, Ok, refl, sym, ap, ◌∙◌, arith}
use Rattle.std.specs.List.{list_all}
use Rattle.std.proofs.lemmas.Bool.{le-leb, leb-true}
use Rattle.serde_json.specs.Data.{Data}
use Rattle.json_form.specs.declared.hexadecimal.Digits.TheVariants as digits
use Rattle.json_form.specs.declared.fault.DocCode.TheVariants.{Rule}
use Rattle.json_form.specs.meaning.Faults.{Fault, ◌>>=◌, here}
use Rattle.json_form.specs.meaning.Values.{whole_of}
use Rattle.json_form.specs.meaning.Arrays.{Placed, each_of, array_of, fixed, part}
use Rattle.json_form.specs.meaning.Texts.{head_of}
use Rattle.svc_values.specs.declared.entry.Ltxid.{Ltxid}
use Rattle.outage_schedule.specs.declared.event.Event.{Event}
use Rattle.outage_schedule.specs.declared.event.Event.TheVariants as event
use Rattle.document_forms.specs.declared.event.EventWord.{EventWord}
use Rattle.document_forms.specs.declared.event.EventWord.TheVariants as word
use Rattle.call_forms.specs.meaning.Calls.{call_of}
use Rattle.document_forms.specs.meaning.Events.{count_of, pick_of, lost_pick_of, go_of, serve_of, reap_of, cut_of, crash_of, upcrash_of, bare_of, outside_of, ltxid_of, ask_of, if_second, failover_of, event_words, event_by, event_of, schedule_of}
use Rattle.document_forms.specs.meaning.Numbers.{is_count, is_small_ltxid}
use Rattle.document_forms.specs.Keeping.{is_event}
use Rattle.json_form.proofs.Offered.{after, ok_is, given, passed, part_read, each_long, read_array, all_read, both_true, second_true}
use Rattle.document_forms.proofs.ReadNumbers.{part_whole, whole_read}
use Rattle.document_forms.proofs.ReadScripts.{calls_read}

count_read : (i : ℕ) (ds : Placed) (n : ℕ) → part i count_of ds ≡ Ok n → is_count n ≡ true
count_read i ds n h = second_true _ _ (part_whole i 0 4611686018427387904 ds n h)

pick_read : (i : ℕ) (ds : Placed) (n : ℕ) → part i pick_of ds ≡ Ok n → nat_le n 3 ≡ true
pick_read i ds n h = second_true _ _ (part_whole i 0 3 ds n h)

-- any number fits in the place of the one that was made
abbrev Fits : ℕ → Bool → Event → Type 0
Fits clients standby one = is_event clients standby one ≡ true

as_made : (clients : ℕ) (standby : Bool) (made one : Event) → Fits clients standby made → given made ≡ given one → Fits clients standby one
as_made clients standby made one is h = ap (is_event clients standby) (sym (ok_is made one h)) ∙ is

go_read : (clients : ℕ) (standby : Bool) (d : Data) (one : Event) → go_of clients d ≡ Ok one → Fits clients standby one
unfolding go_of is_event
go_read clients standby d one h =
    let a = after (fixed 2 d) (λ ds. part 1 (whole_of 1 clients) ds >>= λ client. Ok (event.Go client)) one h in
    let b = after (part 1 (whole_of 1 clients) a.0) (λ client. Ok (event.Go client)) one a.2 in
    as_made clients standby (event.Go b.0) one (part_whole 1 1 clients a.0 b.0 b.1) b.2

serve_read : (clients : ℕ) (standby : Bool) (d : Data) (one : Event) → serve_of d ≡ Ok one → Fits clients standby one
unfolding serve_of is_event
serve_read clients standby d one h =
    let a = after (fixed 2 d) (λ ds. part 1 count_of ds >>= λ connection. Ok (event.Serve connection)) one h in
    let b = after (part 1 count_of a.0) (λ connection. Ok (event.Serve connection)) one a.2 in
    as_made clients standby (event.Serve b.0) one (count_read 1 a.0 b.0 b.1) b.2

reap_read : (clients : ℕ) (standby : Bool) (d : Data) (one : Event) → reap_of d ≡ Ok one → Fits clients standby one
unfolding reap_of is_event
reap_read clients standby d one h =
    let a = after (fixed 2 d) (λ ds. part 1 count_of ds >>= λ connection. Ok (event.Reap connection)) one h in
    let b = after (part 1 count_of a.0) (λ connection. Ok (event.Reap connection)) one a.2 in
    as_made clients standby (event.Reap b.0) one (count_read 1 a.0 b.0 b.1) b.2

abbrev with_down : Placed → ℕ → ℕ → Result Event Fault
with_down ds connection up = part 3 count_of ds >>= λ down. Ok (event.Cut connection up down)

abbrev with_up : Placed → ℕ → Result Event Fault
with_up ds connection = part 2 count_of ds >>= with_down ds connection

cut_read : (clients : ℕ) (standby : Bool) (d : Data) (one : Event) → cut_of d ≡ Ok one → Fits clients standby one
unfolding cut_of is_event
cut_read clients standby d one h =
    let a = after (fixed 4 d) (λ ds. part 1 count_of ds >>= with_up ds) one h in
    let b = after (part 1 count_of a.0) (with_up a.0) one a.2 in
    let c = after (part 2 count_of a.0) (with_down a.0 b.0) one b.2 in
    let e = after (part 3 count_of a.0) (λ down. Ok (event.Cut b.0 c.0 down)) one c.2 in
    as_made clients standby (event.Cut b.0 c.0 e.0) one (both_true _ _ (count_read 1 a.0 b.0 b.1) (both_true _ _ (count_read 2 a.0 c.0 c.1) (count_read 3 a.0 e.0 e.1))) e.2

abbrev with_pick : Placed → ℕ → ℕ → Result Event Fault
with_pick ds connection after_calls = part 3 pick_of ds >>= λ pick. Ok (event.Crash connection after_calls pick)

abbrev with_after : Placed → ℕ → Result Event Fault
with_after ds connection = part 2 count_of ds >>= with_pick ds connection

either : (a b : Bool) → a ≡ true → (a || b) ≡ true
either true b h = refl
either false b h = absurd (cc)

or_other : (a b : Bool) → b ≡ true → (a || b) ≡ true
or_other true b h = refl
or_other false b h = h

crash_read : (clients : ℕ) (standby : Bool) (d : Data) (one : Event) → crash_of d ≡ Ok one → Fits clients standby one
unfolding crash_of is_event
crash_read clients standby d one h =
    let a = after (fixed 4 d) (λ ds. part 1 count_of ds >>= with_after ds) one h in
    let b = after (part 1 count_of a.0) (with_after a.0) one a.2 in
    let c = after (part 2 count_of a.0) (with_pick a.0 b.0) one b.2 in
    let e = after (part 3 pick_of a.0) (λ pick. Ok (event.Crash b.0 c.0 pick)) one c.2 in
    as_made clients standby (event.Crash b.0 c.0 e.0) one (both_true _ _ (count_read 1 a.0 b.0 b.1) (both_true _ _ (count_read 2 a.0 c.0 c.1) (either _ _ (pick_read 3 a.0 e.0 e.1)))) e.2

abbrev with_up_pick : Placed → ℕ → Result Event Fault
with_up_pick ds after_calls = part 2 pick_of ds >>= λ pick. Ok (event.UpCrash after_calls pick)

upcrash_read : (clients : ℕ) (standby : Bool) (d : Data) (one : Event) → upcrash_of d ≡ Ok one → Fits clients standby one
unfolding upcrash_of is_event
upcrash_read clients standby d one h =
    let a = after (fixed 3 d) (λ ds. part 1 count_of ds >>= with_up_pick ds) one h in
    let b = after (part 1 count_of a.0) (with_up_pick a.0) one a.2 in
    let c = after (part 2 pick_of a.0) (λ pick. Ok (event.UpCrash b.0 pick)) one b.2 in
    as_made clients standby (event.UpCrash b.0 c.0) one (both_true _ _ (count_read 1 a.0 b.0 b.1) (pick_read 2 a.0 c.0 c.1)) c.2

bare_read : (clients : ℕ) (standby : Bool) (made : Event) (d : Data) (one : Event) → Fits clients standby made → bare_of made d ≡ Ok one → Fits clients standby one
bare_read clients standby made d one is h =
    let a = after (fixed 1 d) (λ _. Ok made) one h in as_made clients standby made one is a.2

outside_read : (clients : ℕ) (standby : Bool) (d : Data) (one : Event) → outside_of d ≡ Ok one → Fits clients standby one
unfolding outside_of is_event
outside_read clients standby d one h =
    let a = after (fixed 2 d) (λ ds. part 1 (array_of 1 1024 (each_of (call_of digits.Any))) ds >>= λ calls. Ok (event.Outside calls)) one h in
    let b = after (part 1 (array_of 1 1024 (each_of (call_of digits.Any))) a.0) (λ calls. Ok (event.Outside calls)) one a.2 in
    let c = part_read 1 (array_of 1 1024 (each_of (call_of digits.Any))) a.0 b.0 b.1 in
    let are = calls_read c.0 b.0 c.1 in as_made clients standby (event.Outside b.0) one (both_true _ _ are.made are.count) b.2

abbrev with_number : Placed → ℕ → ℕ → Result Ltxid Fault
with_number ds incarnation session = part 2 count_of ds >>= λ number. Ok (record { incarnation = incarnation; session = session; number = number })

abbrev with_session : Placed → ℕ → Result Ltxid Fault
with_session ds incarnation = part 1 count_of ds >>= with_number ds incarnation

ltxid_read : (d : Data) (x : Ltxid) → ltxid_of d ≡ Ok x → is_small_ltxid x ≡ true
unfolding ltxid_of
ltxid_read d x h =
    let a = after (fixed 3 d) (λ ds. part 0 count_of ds >>= with_session ds) x h in
    let b = after (part 0 count_of a.0) (with_session a.0) x a.2 in
    let c = after (part 1 count_of a.0) (with_number a.0 b.0) x b.2 in
    let e = after (part 2 count_of a.0) (λ number. Ok (record { incarnation = b.0; session = c.0; number = number })) x c.2 in
    let made : Ltxid = record { incarnation = b.0; session = c.0; number = e.0 } in
    ap is_small_ltxid (sym (ok_is made x e.2)) ∙ both_true _ _ (count_read 0 a.0 b.0 b.1) (both_true _ _ (count_read 1 a.0 c.0 c.1) (count_read 2 a.0 e.0 e.1))

ask_read : (clients : ℕ) (standby : Bool) (d : Data) (one : Event) → ask_of d ≡ Ok one → Fits clients standby one
unfolding ask_of is_event
ask_read clients standby d one h =
    let a = after (fixed 2 d) (λ ds. part 1 ltxid_of ds >>= λ ltxid. Ok (event.Ask ltxid)) one h in
    let b = after (part 1 ltxid_of a.0) (λ ltxid. Ok (event.Ask ltxid)) one a.2 in
    let c = part_read 1 ltxid_of a.0 b.0 b.1 in as_made clients standby (event.Ask b.0) one (ltxid_read c.0 b.0 c.1) b.2

lost_read : (d : Data) (n : ℕ) → lost_pick_of d ≡ Ok n → nat_le n 7 ≡ true
lost_read d n h =
    let a = after (pick_of d) (λ pick. Ok (pick + 4)) n h in
    let small : a.0 ≤ 3 = leb-true a.0 3 (second_true _ _ (whole_read 0 3 d a.0 a.1)) in
    ap (λ m. nat_le m 7) (sym (ok_is (a.0 + 4) n a.2)) ∙ le-leb (a.0 + 4) 7 (omega (arith, small))

abbrev pub with_lost : Bool → Placed → ℕ → ℕ → Result Event Fault
with_lost standby ds connection after_calls = part 3 lost_pick_of ds >>= λ pick. if_second standby (event.Crash connection after_calls pick)

abbrev pub with_lost_after : Bool → Placed → ℕ → Result Event Fault
with_lost_after standby ds connection = part 2 count_of ds >>= with_lost standby ds connection

abbrev pub with_lost_connection : Bool → Placed → Result Event Fault
with_lost_connection standby ds = part 1 count_of ds >>= with_lost_after standby ds

failover_read : (clients : ℕ) (standby : Bool) (d : Data) (one : Event) → failover_of standby d ≡ Ok one → Fits clients standby one
unfolding failover_of is_event
failover_read clients standby d one h =
    let a = after (fixed 4 d) (with_lost_connection standby) one h in
    let b = after (part 1 count_of a.0) (with_lost_after standby a.0) one a.2 in
    let c = after (part 2 count_of a.0) (with_lost standby a.0 b.0) one b.2 in
    let e = after (part 3 lost_pick_of a.0) (λ pick. if_second standby (event.Crash b.0 c.0 pick)) one c.2 in
    let f = passed standby (Ok (event.Crash b.0 c.0 e.0)) (here Rule) one e.2 in
    let p = part_read 3 lost_pick_of a.0 e.0 e.1 in
    as_made clients standby (event.Crash b.0 c.0 e.0) one
    (both_true _ _ (count_read 1 a.0 b.0 b.1) (both_true _ _ (count_read 2 a.0 c.0 c.1) (or_other (nat_le e.0 3) _ (both_true standby (nat_le e.0 7) f.0 (lost_read p.0 e.0 p.1))))) f.1

by_read : (clients : ℕ) (standby : Bool) (w : EventWord) (d : Data) (one : Event) → event_by clients standby w d ≡ Ok one → Fits clients standby one
unfolding is_event
by_read clients standby word.Go d one h = go_read clients standby d one h
by_read clients standby word.Serve d one h = serve_read clients standby d one h
by_read clients standby word.Cut d one h = cut_read clients standby d one h
by_read clients standby word.Reap d one h = reap_read clients standby d one h
by_read clients standby word.Crash d one h = crash_read clients standby d one h
by_read clients standby word.Up d one h = bare_read clients standby event.Up d one refl h
by_read clients standby word.UpCrash d one h = upcrash_read clients standby d one h
by_read clients standby word.Tick d one h = bare_read clients standby event.Tick d one refl h
by_read clients standby word.Outside d one h = outside_read clients standby d one h
by_read clients standby word.Ask d one h = ask_read clients standby d one h
by_read clients standby word.Drain d one h = bare_read clients standby event.Drain d one refl h
by_read clients standby word.Failover d one h = failover_read clients standby d one h

event_read : (clients : ℕ) (standby : Bool) (d : Data) (one : Event) → event_of clients standby d ≡ Ok one → Fits clients standby one
unfolding event_of
event_read clients standby d one h =
    let a = after (head_of event_words d) (λ w. event_by clients standby w d) one h in by_read clients standby a.0 d one a.2

pub record AreEvents (clients : ℕ) (standby : Bool) (events : List Event) : Type 0 where
  pub all : list_all (is_event clients standby) events ≡ true
  pub few : length events ≤ 100000

pub schedule_read : (clients : ℕ) (standby : Bool) (d : Data) (events : List Event) → schedule_of clients standby d ≡ Ok events → AreEvents clients standby events
schedule_read clients standby d events h =
    let a = read_array 0 100000 (each_of (event_of clients standby)) d events h in
    let long = each_long (λ before. event_of clients standby) [] a.items events a.gave in
    let few = a.few in record { all = all_read (is_event clients standby) (event_of clients standby) (event_read clients standby) a.items events a.gave; few = omega (arith, long, few) }

pub no_events : (clients : ℕ) (standby : Bool) → AreEvents clients standby []
no_events clients standby = record { all = refl; few = omega arith }
