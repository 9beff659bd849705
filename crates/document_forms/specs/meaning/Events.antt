-- How events stand in a schedule: arrays that begin with a word.
use Rattle.std.specs.Prelude.{ℕ, ◌+◌, List, [], ◌∷◌, Bool, Result, Ok, Err, codes, if◌then◌else◌}
use Rattle.serde_json.specs.Data.{Data}
use Rattle.json_form.specs.declared.hexadecimal.Digits.TheVariants as digits
use Rattle.json_form.specs.declared.fault.DocCode.TheVariants.{Rule}
use Rattle.json_form.specs.meaning.Faults.{Fault, ◌>>=◌, here}
use Rattle.json_form.specs.meaning.Values.{whole_of}
use Rattle.json_form.specs.meaning.Arrays.{array_of, each_of, fixed, part}
use Rattle.json_form.specs.meaning.Texts.{head_of}
use Rattle.svc_values.specs.declared.entry.Ltxid.{Ltxid}
use Rattle.outage_schedule.specs.declared.event.Event.{Event}
use Rattle.outage_schedule.specs.declared.event.Event.TheVariants as event
use Rattle.document_forms.specs.declared.event.EventWord.{EventWord}
use Rattle.document_forms.specs.declared.event.EventWord.TheVariants as word
use Rattle.call_forms.specs.meaning.Calls.{call_of}

-- connections, numbers of bytes and device calls, and the parts of an identifier: at most 2^62
abbrev pub count_of : Data → Result ℕ Fault
count_of = whole_of 0 4611686018427387904

abbrev pub pick_of : Data → Result ℕ Fault
pick_of = whole_of 0 3

-- the pick of a failover stands for that of the crash plus 4
abbrev pub lost_pick_of : Data → Result ℕ Fault
lost_pick_of d = pick_of d >>= λ pick. Ok (pick + 4)

-- ["go",client], by the number of clients
unfoldable pub go_of : ℕ → Data → Result Event Fault
go_of clients d = fixed 2 d >>= λ ds. part 1 (whole_of 1 clients) ds >>= λ client.
    Ok (event.Go client)

-- ["serve",connection] and ["reap",connection]
unfoldable pub serve_of : Data → Result Event Fault
serve_of d = fixed 2 d >>= λ ds. part 1 count_of ds >>= λ connection. Ok (event.Serve connection)

unfoldable pub reap_of : Data → Result Event Fault
reap_of d = fixed 2 d >>= λ ds. part 1 count_of ds >>= λ connection. Ok (event.Reap connection)

-- ["cut",connection,up,down]
unfoldable pub cut_of : Data → Result Event Fault
cut_of d = fixed 4 d >>= λ ds. part 1 count_of ds >>= λ connection. part 2 count_of
    ds >>= λ up. part 3 count_of ds >>= λ down. Ok (event.Cut connection up down)

-- ["crash",connection,after,pick]
unfoldable pub crash_of : Data → Result Event Fault
crash_of d = fixed 4 d >>= λ ds. part 1 count_of ds >>= λ connection. part 2 count_of
    ds >>= λ after. part 3 pick_of ds >>= λ pick. Ok (event.Crash connection after pick)

-- ["upcrash",after,pick]
unfoldable pub upcrash_of : Data → Result Event Fault
upcrash_of d = fixed 3 d >>= λ ds. part 1 count_of ds >>= λ after. part 2 pick_of ds >>= λ pick.
    Ok (event.UpCrash after pick)

-- ["up"], ["tick"] and ["drain"]
abbrev pub bare_of : Event → Data → Result Event Fault
bare_of one d = fixed 1 d >>= λ _. Ok one

-- ["outside",[call,...]] with 1 to 1,024 calls
unfoldable pub outside_of : Data → Result Event Fault
outside_of d = fixed 2 d >>= λ ds. part 1 (array_of 1 1024 (each_of (call_of digits.Any))) ds >>=
    λ calls. Ok (event.Outside calls)

-- [incarnation,session,number]
unfoldable pub ltxid_of : Data → Result Ltxid Fault
ltxid_of d =
    fixed 3 d >>= λ ds. part 0 count_of ds >>= λ incarnation. part 1 count_of ds >>= λ session.
    part 2 count_of ds >>= λ number.
    Ok (record { incarnation = incarnation; session = session; number = number })

-- ["ask",identifier]
unfoldable pub ask_of : Data → Result Event Fault
ask_of d = fixed 2 d >>= λ ds. part 1 ltxid_of ds >>= λ ltxid. Ok (event.Ask ltxid)

-- there is a second store for it
abbrev pub if_second : Bool → Event → Result Event Fault
if_second standby one = if standby then Ok one else Err (here Rule)

-- ["failover",connection,after,pick] is the crash with its pick plus 4. It asks for a second store
-- once its parts are read.
unfoldable pub failover_of : Bool → Data → Result Event Fault
failover_of standby d =
    fixed 4 d >>= λ ds. part 1 count_of ds >>= λ connection. part 2 count_of ds >>= λ after.
    part 3 lost_pick_of ds >>= λ pick.
    if_second standby (event.Crash connection after pick)

abbrev pub event_words : List (List ℕ × EventWord)
event_words =
    (codes "go", word.Go) ∷ (codes "serve", word.Serve) ∷ (codes "cut", word.Cut)
    ∷ (codes "reap", word.Reap) ∷ (codes "crash", word.Crash) ∷ (codes "up", word.Up)
    ∷ (codes "upcrash", word.UpCrash)
    ∷ (codes "tick", word.Tick) ∷ (codes "outside", word.Outside) ∷ (codes "ask", word.Ask)
    ∷ (codes "drain", word.Drain) ∷ (codes "failover", word.Failover) ∷ []

-- by the word that it begins with
abbrev pub event_by : ℕ → Bool → EventWord → Data → Result Event Fault
event_by clients standby word.Go = go_of clients
event_by clients standby word.Serve = serve_of
event_by clients standby word.Cut = cut_of
event_by clients standby word.Reap = reap_of
event_by clients standby word.Crash = crash_of
event_by clients standby word.Up = bare_of event.Up
event_by clients standby word.UpCrash = upcrash_of
event_by clients standby word.Tick = bare_of event.Tick
event_by clients standby word.Outside = outside_of
event_by clients standby word.Ask = ask_of
event_by clients standby word.Drain = bare_of event.Drain
event_by clients standby word.Failover = failover_of standby

unfoldable pub event_of : ℕ → Bool → Data → Result Event Fault
event_of clients standby d = head_of event_words d >>= λ w. event_by clients standby w d

-- at most 100,000 events
abbrev pub schedule_of : ℕ → Bool → Data → Result (List Event) Fault
schedule_of clients standby d = array_of 0 100000 (each_of (event_of clients standby)) d
