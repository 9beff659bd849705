-- What sessions served is read back from what is written of it.
use Rattle.std.proofs.Common.{◌≡◌, ℕ, List, refl, ap, ◌∙◌, codes}
use Rattle.std.specs.Prelude.{if◌then◌else◌}
use Rattle.std.specs.Str.{bytes_eq}
use Rattle.serde_json.specs.Data.{Data}
use Rattle.json_form.specs.meaning.Writing.{whole}
use Rattle.report_text.specs.meaning.Values.{session_value}
use Rattle.outage_schedule.specs.declared.item.Item.{Item}
use Rattle.outage_schedule.specs.declared.item.Item.TheVariants as item
use Rattle.outage_schedule.specs.declared.item.Served.{Served}
use Rattle.report_text.specs.meaning.Notes.{told_values}
use Rattle.report_text.specs.meaning.Items.{item_value, served_value}
use Rattle.report_text.specs.meaning.Octets.{ItemOfBytes, ServedOfBytes}
use Rattle.report_text.proofs.Places.{nat_in, text_in, flag_in, is_flag, items, part, behind, listed_back}
use Rattle.report_text.proofs.ValuesBack.{settings_in, settings_back, identifier_in, session_in, answers_in, answers_back, draws_in, draws_back}
use Rattle.report_text.proofs.CallsBack.{call_in, call_back}
use Rattle.report_text.proofs.NotesBack.{told_in, told_back}

-- an item, of its word and of what follows the session
abbrev item_of : List ℕ → List Data → Item
item_of word ds =
    if bytes_eq word (codes "connect") then item.Connect
    else if bytes_eq word (codes "begin") then item.Begin (settings_in (part 0 ds))
    else if bytes_eq word (codes "call") then item.Call (flag_in (part 0 ds)) (call_in (part 1 ds)) (answers_in (part 2 ds)) (draws_in (part 3 ds))
    else if bytes_eq word (codes "blocked") then item.Blocked (call_in (part 0 ds))
    else if bytes_eq word (codes "outcome") then item.Outcome (identifier_in (part 0 ds)) (told_in (behind ds))
    else if bytes_eq word (codes "end") then item.End
    else if bytes_eq word (codes "close") then item.Close
    else if bytes_eq word (codes "refused") then item.Refused (nat_in (part 0 ds))
    else if is_flag (part 0 ds) then item.CrashedCall (flag_in (part 0 ds)) (call_in (part 1 ds))
    else item.CrashedOutcome (identifier_in (part 0 ds))

abbrev item_in : Data → Item
item_in d = item_of (text_in (part 0 (items d))) (behind (behind (behind (items d))))

item_back : (e s : Data) (x : Item) → ItemOfBytes x → item_in (item_value e s x) ≡ x
unfolding item_value
item_back e s item.Connect ok = refl
item_back e s (item.Begin settings) ok = ap item.Begin (settings_back settings ok)
item_back e s (item.Call replay call answers draws) ok = rw (call_back call ok.0, answers_back answers ok.1.0, draws_back draws ok.1.1) refl
item_back e s (item.Blocked call) ok = ap item.Blocked (call_back call ok)
item_back e s (item.Outcome x result) ok = ap (λ ds. item.Outcome x (told_in ds)) (listed_back (told_values result)) ∙ ap (item.Outcome x) (told_back result)
item_back e s item.End ok = refl
item_back e s item.Close ok = refl
item_back e s (item.Refused cause) ok = refl
item_back e s (item.CrashedCall replay call) ok = ap (item.CrashedCall replay) (call_back call ok)
item_back e s (item.CrashedOutcome x) ok = refl

abbrev pub served_in : Data → Served
served_in d = record { event = nat_in (part 1 (items d)); session = session_in (part 2 (items d)); item = item_in d }

event_back : (n : ℕ) (s : Data) (x : Item) → nat_in (part 1 (items (item_value (whole n) s x))) ≡ n
unfolding item_value
event_back n s item.Connect = refl
event_back n s (item.Begin settings) = refl
event_back n s (item.Call replay call answers draws) = refl
event_back n s (item.Blocked call) = refl
event_back n s (item.Outcome x result) = refl
event_back n s item.End = refl
event_back n s item.Close = refl
event_back n s (item.Refused cause) = refl
event_back n s (item.CrashedCall replay call) = refl
event_back n s (item.CrashedOutcome x) = refl

part_back : (e s : Data) (x : Item) → part 2 (items (item_value e s x)) ≡ s
unfolding item_value
part_back e s item.Connect = refl
part_back e s (item.Begin settings) = refl
part_back e s (item.Call replay call answers draws) = refl
part_back e s (item.Blocked call) = refl
part_back e s (item.Outcome x result) = refl
part_back e s item.End = refl
part_back e s item.Close = refl
part_back e s (item.Refused cause) = refl
part_back e s (item.CrashedCall replay call) = refl
part_back e s (item.CrashedOutcome x) = refl

pub served_back : (x : Served) → ServedOfBytes x → served_in (served_value x) ≡ x
served_back x ok = rw (event_back x.event (session_value x.session) x.item, part_back (whole x.event) (session_value x.session) x.item, item_back (whole x.event) (session_value x.session) x.item ok) refl
