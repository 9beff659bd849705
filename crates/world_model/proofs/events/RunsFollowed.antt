-- A whole run is followed: event by event through the schedule, and then through the finish.
use Rattle.std.proofs.Common.{◌≡◌, refl, sym, ap, subst, ◌∙◌, append_assoc, append-nil, List, [], ◌∷◌, ◌++◌, Option, Some, None, if◌then◌else◌}
use Rattle.std.specs.Prelude.{is_none, option_and_then}
use Rattle.std.specs.Cmp.Lexicographic.{pointwise}
use Rattle.outage_schedule.specs.declared.document.Document.{Document}
use Rattle.outage_schedule.specs.declared.event.Event.{Event}
use Rattle.outage_schedule.specs.declared.item.Served.{Served}
use Rattle.outage_schedule.specs.declared.note.Note.{Note}
use Rattle.outage_schedule.specs.declared.request.RequestReport.{RequestReport}
use Rattle.server_model.specs.Seen.{Seen}
use Rattle.world_model.specs.meaning.Finishing.{Place, AtServer, Finished, walk_finish}
use Rattle.world_model.specs.meaning.Followed.{run_of, transcripts_of, tells_steps, ends_so}
use Rattle.world_model.specs.OrderlyLaws.{OrderlyIsKept}
use Rattle.world_model.specs.meaning.Machines.{start_of}
use Rattle.world_model.specs.Reached.{Reached, Begins, GoesOn, IsFinishing, Scheduled, Finishes}
use Rattle.world_model.specs.RunLaws.{RunsAreFollowed, RunsAreOrderly}
use Rattle.world_model.specs.meaning.Settings.{Setting, setting_of}
use Rattle.world_model.specs.Traced.{Traced}
use Rattle.world_model.specs.meaning.Walking.{Walked, follow, walk}
use Rattle.world_model.proofs.events.Items.{walk_more, finish_step}
use Rattle.world_model.proofs.wire.SameSelf.{each_self}
use Rattle.world_model.proofs.script.TalkTests.{steps_self}

-- THE SCHEDULE ------------------------------------------------------------------------------------

-- its setting is that of the document
pub reached_setting : (document : Document) (events : List Event) (notes : List Note) (items : List Served) (seen : Seen) (t : Traced) → Reached document events notes items seen t → t.setting ≡ setting_of document
reached_setting document _ _ _ _ _ (Begins seen start history horizon coupled) = refl
reached_setting document _ _ _ _ _ (GoesOn events notes items more before after old new event note reached one forgets) = one.setting ∙ reached_setting document events notes items before old reached

pub reached_walk : (document : Document) (events : List Event) (notes : List Note) (items : List Served) (seen : Seen) (t : Traced) → Reached document events notes items seen t
    → walk (setting_of document) (start_of document) events notes items ≡ Some (record { machine = t.machine; notes = []; items = [] })
reached_walk document _ _ _ _ _ (Begins seen start history horizon coupled) = refl
reached_walk document _ _ _ _ _ (GoesOn events notes items more before after old new event note reached one forgets) =
    walk_more (setting_of document) (start_of document) old.machine events (event ∷ []) notes (note ∷ []) items more (reached_walk document events notes items before old reached)
    ∙ ap (option_and_then (λ next. walk (setting_of document) next.0 [] [] next.1)) (subst (λ (setting : Setting). follow setting old.machine event note more ≡ Some (new.machine, [])) (reached_setting document events notes items before old reached) one.follows)

-- THE FINISH --------------------------------------------------------------------------------------

abbrev run_with : Document → List Note → List Served → Finished
run_with document notes items =
    option_and_then (λ (walked : Walked). walk_finish (setting_of document) walked.machine AtServer walked.notes walked.items) (walk (setting_of document) (start_of document) document.schedule notes items)

pub finishing_setting : (document : Document) (place : Place) (notes : List Note) (items : List Served) (seen : Seen) (t : Traced) → IsFinishing document place notes items seen t → t.setting ≡ setting_of document
finishing_setting document _ _ _ _ _ (Scheduled notes items seen t reached) = reached_setting document document.schedule notes items seen t reached
finishing_setting document _ _ _ _ _ (Finishes place later notes items more before after old new event note finishing next one forgets) = one.setting ∙ finishing_setting document place notes items before old finishing

finishing_walk : (document : Document) (place : Place) (notes : List Note) (items : List Served) (seen : Seen) (t : Traced) → IsFinishing document place notes items seen t
    → (others : List Note) (left : List Served) → run_with document (notes ++ others) (items ++ left) ≡ walk_finish (setting_of document) t.machine place others left
finishing_walk document _ _ _ _ _ (Scheduled notes items seen t reached) others left =
    ap (option_and_then (λ (walked : Walked). walk_finish (setting_of document) walked.machine AtServer walked.notes walked.items))
    (ap (λ events. walk (setting_of document) (start_of document) events (notes ++ others) (items ++ left)) (sym (append-nil document.schedule))
    ∙ walk_more (setting_of document) (start_of document) t.machine document.schedule [] notes others items left (reached_walk document document.schedule notes items seen t reached))
finishing_walk document _ _ _ _ _ (Finishes place later notes items more before after old new event note finishing next one forgets) others left =
    ap (λ all. run_with document all ((items ++ more) ++ left)) (append_assoc notes (note ∷ []) others)
    ∙ ap (run_with document (notes ++ note ∷ others)) (append_assoc items more left)
    ∙ finishing_walk document place notes items before old finishing (note ∷ others) (more ++ left)
    ∙ finish_step (setting_of document) old.machine new.machine place later event note others more left next
    (subst (λ (setting : Setting). follow setting old.machine event note more ≡ Some (new.machine, [])) (finishing_setting document place notes items before old finishing) one.follows)

-- THE REPORT --------------------------------------------------------------------------------------

pub runs_followed : RunsAreFollowed
runs_followed document report seen t run shown =
    ap (ends_so report) ends ∙ ap (λ (told : List (List RequestReport)). pointwise (pointwise tells_steps) (transcripts_of t.machine) told) shown
    ∙ each_self (pointwise tells_steps) (each_self tells_steps steps_self) (transcripts_of t.machine)
  where
    ends : run_of document report ≡ Some (t.machine, [])
    ends =
        ap (λ notes. run_with document notes report.served) (sym (append-nil report.notes)) ∙ ap (run_with document (report.notes ++ [])) (sym (append-nil report.served))
        ∙ finishing_walk document run.place report.notes report.served seen t run.finishing [] []
        ∙ ap (λ (next : Option (Event × Place)). if is_none next then Some (t.machine, []) else None) run.over

pub runs_orderly : OrderlyIsKept → RunsAreOrderly
runs_orderly kept document _ _ _ _ _ calls (Begins seen start history horizon coupled) = kept.at_start document calls
runs_orderly kept document _ _ _ _ _ calls (GoesOn events notes items more before after old new event note reached one forgets) =
    kept.at_event before after old new event note more [] one (runs_orderly kept document events notes items before old calls reached)
