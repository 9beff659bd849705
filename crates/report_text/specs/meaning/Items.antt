-- What sessions served.
use Rattle.std.specs.Prelude.{[], ◌∷◌, codes}
use Rattle.serde_json.specs.Data.{Data}
use Rattle.json_form.specs.meaning.Writing.{whole, flag}
use Rattle.outage_schedule.specs.declared.item.Item.{Item}
use Rattle.outage_schedule.specs.declared.item.Item.TheVariants as item
use Rattle.outage_schedule.specs.declared.item.Served.{Served}
use Rattle.report_text.specs.meaning.Parts.{headed}
use Rattle.report_text.specs.meaning.Values.{identifier_value, session_value, settings_value}
use Rattle.report_text.specs.meaning.Calls.{call_value}
use Rattle.report_text.specs.meaning.Answers.{answers_value, draws_value}
use Rattle.report_text.specs.meaning.Notes.{told_values}

-- a word, the event e, the session s, and what the frame carried and was answered
unfoldable pub item_value : Data → Data → Item → Data
item_value e s item.Connect = headed (codes "connect") (e ∷ s ∷ [])
item_value e s (item.Begin settings) = headed (codes "begin") (e ∷ s ∷ settings_value settings ∷ [])
item_value e s (item.Call replay call answers draws) =
    headed (codes "call") (e ∷ s ∷ flag replay ∷ call_value call ∷ answers_value answers
    ∷ draws_value draws ∷ [])
item_value e s (item.Blocked call) = headed (codes "blocked") (e ∷ s ∷ call_value call ∷ [])
item_value e s (item.Outcome x result) =
    headed (codes "outcome") (e ∷ s ∷ identifier_value x ∷ told_values result)
item_value e s item.End = headed (codes "end") (e ∷ s ∷ [])
item_value e s item.Close = headed (codes "close") (e ∷ s ∷ [])
item_value e s (item.Refused cause) = headed (codes "refused") (e ∷ s ∷ whole cause ∷ [])
item_value e s (item.CrashedCall replay call) =
    headed (codes "crashed") (e ∷ s ∷ flag replay ∷ call_value call ∷ [])
item_value e s (item.CrashedOutcome x) = headed (codes "crashed") (e ∷ s ∷ identifier_value x ∷ [])

abbrev pub served_value : Served → Data
served_value served = item_value (whole served.event) (session_value served.session) served.item
