-- Which replies show a call.
use Rattle.std.proofs.Common.{◌≡◌, refl, Bool, true, false, not, List}
use Rattle.std.specs.Prelude.{is_some}
use Rattle.std.specs.Option.{option_map_or}
use Rattle.svc_values.specs.declared.answer.Answer.{Answer}
use Rattle.svc_values.specs.declared.call.Call.{Call}
use Rattle.svc_values.specs.declared.draw.Draw.{Draw}
use Rattle.svc_values.specs.declared.entry.Ltxid.{Ltxid}
use Rattle.outage_schedule.specs.declared.item.Item.TheVariants as item
use Rattle.outage_schedule.specs.declared.item.Served.{Served}
use Rattle.outage_schedule.specs.declared.note.AskResult.{AskResult}
use Rattle.outage_schedule.specs.declared.note.AskResult.TheVariants as told
use Rattle.shown_clauses.specs.meaning.Showings.{shown_answers, is_showing, showing_of}
use Rattle.report_parts.specs.Showing.{tells_completed}

pub shows_call : (replay : Bool) (call : Call) (answers : List Answer) (draws : List Draw) → option_map_or (λ (given : List Answer). true) (shown_answers (item.Call replay call answers draws)) false ≡ not replay
shows_call true call answers draws = refl
shows_call false call answers draws = refl

pub shows_outcome : (x : Ltxid) (result : AskResult) → option_map_or (λ (given : List Answer). true) (shown_answers (item.Outcome x result)) false ≡ tells_completed result
shows_outcome x (told.Committed true) = refl
shows_outcome x (told.Committed false) = refl
shows_outcome x _ = refl

pub step_shows : (one : Served) → is_some (showing_of (is_showing one) one) ≡ is_showing one
step_shows one = by (is_showing one)
  where
    by : (b : Bool) → is_some (showing_of b one) ≡ b
    by true = refl
    by false = refl
