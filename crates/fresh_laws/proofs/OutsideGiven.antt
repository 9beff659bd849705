-- What runs from outside drew is what their calls were answered with, and was drawn anew by their
-- sessions.
use Rattle.std.proofs.Common.{◌≡◌, refl, sym, ap, ◌∙◌, arith, ℕ, ◌+◌, ◌≤◌, Bool, true, false, List, [], ◌∷◌, ◌++◌, map, Some}
use Rattle.std.specs.Prelude.{flat_map}
use Rattle.std.proofs.lemmas.Bool.{and_parts, or_left, or_right}
use Rattle.std.proofs.lemmas.List.Concat.{flat_map-append}
use Rattle.std.proofs.lemmas.List.Folds.{list_any-append}
use Rattle.svc_values.specs.declared.call.Call.{Call}
use Rattle.svc_values.specs.declared.draw.Draw.{Draw}
use Rattle.svc_values.specs.declared.entry.SessionId.{SessionId}
use Rattle.svc_values.specs.declared.frame.Down.TheVariants as down
use Rattle.svc_values.specs.declared.frame.Up.TheVariants as up
use Rattle.svc_values.specs.meaning.Identifiers.{same_session}
use Rattle.outage_schedule.specs.declared.document.Document.{Document}
use Rattle.outage_schedule.specs.declared.event.Event.{Event}
use Rattle.outage_schedule.specs.declared.event.Event.TheVariants as event
use Rattle.outage_schedule.specs.declared.item.Served.{Served as ServedItem}
use Rattle.outage_schedule.specs.declared.note.Note.{Note}
use Rattle.outage_schedule.specs.declared.note.Note.TheVariants as note
use Rattle.outage_schedule.specs.declared.note.NoteRun.{NoteRun}
use Rattle.server_model.specs.meaning.Base.{Base}
use Rattle.server_model.specs.meaning.Fresh.{new_in}
use Rattle.server_model.specs.meaning.Items.{Item}
use Rattle.server_model.specs.Items.{item_of, items_from}
use Rattle.server_model.specs.meaning.Legal.{deed_holds, is_of_now, item_holds, items_hold}
use Rattle.server_model.specs.meaning.Outcomes.{Says}
use Rattle.server_model.specs.Runs.{Happened, Served}
use Rattle.server_model.specs.Seen.{Seen}
use Rattle.server_model.specs.ServiceCalls.{RunsAre}
use Rattle.server_model.specs.meaning.Walk.{Walk, Performed, Deed, deed, deed_of, entered, after}
use Rattle.service_calls.specs.Answers.{run_of}
use Rattle.world_model.specs.meaning.Machines.{Machine, next_session}
use Rattle.world_model.specs.OneEvent.{session_outside, drawn_outside}
use Rattle.world_model.specs.Reached.{Reached, Begins, GoesOn}
use Rattle.world_model.specs.ServiceDid.{ServiceDid}
use Rattle.world_model.specs.meaning.Settings.{Setting}
use Rattle.world_model.specs.Traced.{Traced}
use Rattle.world_model.specs.meaning.Walking.{follow}
use Rattle.fresh_laws.proofs.DrawnFor.{is_by, new_by, drawn_for, among}
use Rattle.once_laws.proofs.Offered.{times, times_both, all_new}
use Rattle.fresh_laws.proofs.FrameDraws.{performed_drew}
use Rattle.world_model.proofs.Offered.{session_self, not_both}

-- the draws that calls of these sessions were answered with, those without the mark
abbrev given_one : (SessionId → Bool) → Happened → List Draw
given_one some (Served session now (up.Call false kept called) (Says (down.Reply answers draws x))) = new_by (some session) draws
given_one some _ = []

abbrev pub answered_with : (SessionId → Bool) → List Happened → List Draw
answered_with some history = flat_map (given_one some) history

module _ (value : Draw) where
  -- of more sessions they are more
  one_more : (some more : SessionId → Bool) → ((session : SessionId) → some session ≡ true → more session ≡ true) → (one : Happened) → times value (given_one some one) ≤ times value (given_one more one)
  one_more some more within (Served session now (up.Call false kept called) (Says (down.Reply answers draws x))) = by (some session) (more session) refl refl
    where
      by : (a b : Bool) → some session ≡ a → more session ≡ b → times value (new_by a draws) ≤ times value (new_by b draws)
      by false b is_some is_more = omega arith
      by true true is_some is_more = omega arith
      by true false is_some is_more = absurd (not_both (more session) (within session is_some) is_more)
  one_more some more within one = omega arith

  all_more : (some more : SessionId → Bool) → ((session : SessionId) → some session ≡ true → more session ≡ true) → (history : List Happened) → times value (answered_with some history) ≤ times value (answered_with more history)
  all_more some more within [] = omega arith
  all_more some more within (one ∷ history) =
      let here = one_more some more within one in
      let rest = all_more some more within history in
      let a = times_both value (given_one some one) (answered_with some history) in
      let b = times_both value (given_one more one) (answered_with more history) in
      omega (arith, here, rest, a, b)

  -- AN EVENT --------------------------------------------------------------------------------------

  calls_given : (some : SessionId → Bool) (session : SessionId) (now : ℕ) → some session ≡ true → (calls : List Call) (runs : List NoteRun) (happened : List Happened) → RunsAre session now calls (map run_of runs) happened → flat_map (λ run. run.draws) runs ≡ answered_with some happened
  calls_given some session now own [] [] happened are = ap (answered_with some) (sym are)
  calls_given some session now own [] (run ∷ runs) happened are = absurd are
  calls_given some session now own (call ∷ calls) [] happened are = ap (answered_with some) (sym are)
  calls_given some session now own (call ∷ calls) (run ∷ runs) happened (x, more, (is, are)) =
      ap (λ (rest : List Draw). run.draws ++ rest) (calls_given some session now own calls runs more are)
      ∙ (ap (λ (test : Bool). new_by test run.draws ++ answered_with some more) (sym own) ∙ ap (answered_with some) (sym is))

  event_given : (some : SessionId → Bool) (setting : Setting) (m n : Machine) (event : Event) (note : Note) (items left : List ServedItem) (happened : List Happened) → follow setting m event note items ≡ Some (n, left) → ServiceDid m event note items happened
      → some (next_session m.server) ≡ true → times value (drawn_outside note) ≤ times value (answered_with some happened)
  event_given some setting m n (event.Outside calls) (note.Outside (Some ran)) items left happened e (runs, (is, are)) own =
      let same : times value (flat_map (λ run. run.draws) ran.runs) ≡ times value (answered_with some happened) =
      ap (times value) (calls_given some (next_session m.server) m.tick own calls ran.runs runs are ∙ ap (answered_with some) (sym is)) in
      omega (arith, same)
  event_given some setting m n event (note.Outside (Some ran)) items left happened e did own = absurd (let none : ⊥ = cc in none)
  event_given some setting m n event note items left happened e did own = omega arith

  -- an event without a run outside draws nothing there
  quiet_given : (old : Traced) (some : SessionId → Bool) (note : Note) (happened : List Happened) → (some (next_session old.machine.server) ≡ true → times value (drawn_outside note) ≤ times value (answered_with some happened))
      → ((session : SessionId) → among (session_outside old note) session ≡ true → some session ≡ true) → times value (drawn_outside note) ≤ times value (answered_with some happened)
  quiet_given old some (note.Outside (Some ran)) happened given own = given (own (next_session old.machine.server) (or_left (same_session (next_session old.machine.server) (next_session old.machine.server)) false (session_self (next_session old.machine.server))))
  quiet_given old some note happened given own = omega arith

  -- A RUN -----------------------------------------------------------------------------------------

  pub outside_told : (document : Document) (events : List Event) (notes : List Note) (items : List ServedItem) (seen : Seen) (t : Traced) → Reached document events notes items seen t → times value t.outside_draws ≤ times value (answered_with (among t.outside) seen.history)
  outside_told document _ _ _ _ _ (Begins seen start history horizon coupled) = omega arith
  outside_told document _ _ _ _ _ (GoesOn events notes items more before after old new event note reached one forgets) =
      let was = outside_told document events notes items before old reached in
      let wider = all_more (among old.outside) (among new.outside)
      (λ session is. ap (among_in session) one.outside ∙ (list_any-append (same_session session) old.outside (session_outside old note) ∙ or_left (among old.outside session) (among (session_outside old note) session) is)) before.history in
      let now = quiet_given old (among new.outside) note one.happened (λ own. event_given (among new.outside) old.setting old.machine new.machine event note more [] one.happened one.follows one.did own)
      (λ session is. ap (among_in session) one.outside ∙ (list_any-append (same_session session) old.outside (session_outside old note) ∙ or_right (among old.outside session) (among (session_outside old note) session) is)) in
      let drew : times value new.outside_draws ≡ times value old.outside_draws + times value (drawn_outside note) = ap (times value) one.outside_draws ∙ times_both value old.outside_draws (drawn_outside note) in
      let told : times value (answered_with (among new.outside) after.history) ≡ times value (answered_with (among new.outside) before.history) + times value (answered_with (among new.outside) one.happened) =
      ap (λ (history : List Happened). times value (answered_with (among new.outside) history)) one.history
      ∙ (ap (times value) (flat_map-append (given_one (among new.outside)) before.history one.happened) ∙ times_both value (answered_with (among new.outside) before.history) (answered_with (among new.outside) one.happened)) in
      omega (arith, was, wider, now, drew, told)
    where
      among_in : SessionId → List SessionId → Bool
      among_in session sessions = among sessions session

  -- ITS SESSIONS DREW IT --------------------------------------------------------------------------

  -- a call without the mark drew anew all that it was answered with
  one_drawn : (base : Base) (some : SessionId → Bool) (walk : Walk) (n : ℕ) (one : Happened) → item_holds base walk (item_of n one) (deed_of base walk (item_of n one)) ≡ true
      → times value (given_one some one) ≤ times value (new_by (is_by some (item_of n one)) (new_in base (deed_of base walk (item_of n one))))
  one_drawn base some walk n (Served session now (up.Call false kept called) (Says (down.Reply answers draws x))) holds =
      let performed : Performed = record { session = session; now = now; replay = false; kept = kept; called = called; answers = answers; draws = draws } in
      let parts = and_parts (is_of_now walk session) _ holds in
      let drew = performed_drew base walk performed (and_parts (deed_holds base walk (deed base walk (Some performed))) _ parts.1).0 in
      let same : times value (new_by (some session) draws) ≡ times value (new_by (some session) (new_in base (deed base walk (Some performed)))) = ap (λ (new : List Draw). times value (new_by (some session) new)) (sym (drew.0 ∙ all_new draws)) in
      omega (arith, same)
  one_drawn base some walk n one holds = omega arith

  pub answers_drawn : (base : Base) (some : SessionId → Bool) (history : List Happened) (walk : Walk) (n : ℕ) → items_hold base walk (items_from n history) ≡ true → times value (answered_with some history) ≤ times value (drawn_for some base walk (items_from n history))
  answers_drawn base some [] walk n held = omega arith
  answers_drawn base some (one ∷ history) walk n held =
      let item : Item = item_of n one in
      let here : Walk = entered walk item in
      let did : Deed = deed_of base here item in
      let parts = and_parts (item_holds base here item did) (items_hold base (after base here item did) (items_from (n + 1) history)) held in
      let first = one_drawn base some here n one parts.0 in
      let rest = answers_drawn base some history (after base here item did) (n + 1) parts.1 in
      let a = times_both value (given_one some one) (answered_with some history) in
      let b = times_both value (new_by (is_by some item) (new_in base did)) (drawn_for some base (after base here item did) (items_from (n + 1) history)) in
      omega (arith, first, rest, a, b)
