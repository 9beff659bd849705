-- Each answer that a report tells of says forgotten exactly below the horizon at its event, which
-- the store has before it, and so it is right.
use Rattle.std.proofs.Common.{◌≡◌, refl, sym, ap, subst, ◌∙◌, append-nil, append_assoc, Bool, true, ℕ, ◌+◌, ◌&&◌, ◌||◌, length, List, [], ◌∷◌, ◌++◌, Some, ◌⊎◌, inl, inr}
use Rattle.std.specs.Prelude.{not, nat_lt}
use Rattle.std.specs.List.{list_all}
use Rattle.std.proofs.lemmas.Bool.{and_parts, and_from, or_cases, not-true}
use Rattle.svc_values.specs.declared.entry.Ltxid.{Ltxid}
use Rattle.svc_values.specs.declared.entry.SessionId.{SessionId}
use Rattle.svc_values.specs.declared.frame.Up.{Up}
use Rattle.svc_values.specs.declared.frame.Up.TheVariants as up
use Rattle.svc_values.specs.meaning.Same.{same_bool}
use Rattle.svc_values.specs.SameLaws.{same_ltxid_decides}
use Rattle.ltxid_book.specs.meaning.Outcomes.{verdict_of}
use Rattle.commit_log.specs.Keeping.{EachKeeps}
use Rattle.outage_schedule.specs.declared.document.Document.{Document}
use Rattle.outage_schedule.specs.declared.event.Event.{Event}
use Rattle.outage_schedule.specs.declared.item.Item.{Item}
use Rattle.outage_schedule.specs.declared.item.Item.TheVariants as item
use Rattle.outage_schedule.specs.declared.item.Served.{Served}
use Rattle.outage_schedule.specs.declared.note.AskResult.{AskResult}
use Rattle.outage_schedule.specs.declared.note.Note.{Note}
use Rattle.outage_schedule.specs.declared.report.Report.{Report}
use Rattle.run_clauses.specs.meaning.Horizons.{horizon_at}
use Rattle.run_clauses.specs.meaning.Moments.{HappenedAt, ServedItem, moments}
use Rattle.run_clauses.specs.meaning.Outcomes.{is_forgotten, says_forgotten}
use Rattle.run_clauses.specs.meaning.Stored.{Kept, kept_by, horizon_before, is_rightly_forgotten}
use Rattle.server_model.specs.Laws.{EntryNumbers}
use Rattle.server_model.specs.Outcomes.{down_of}
use Rattle.server_model.specs.Runs.{Happened}
use Rattle.server_model.specs.Seen.{Store, book_in, Seen}
use Rattle.server_model.specs.ServiceCalls.{TellsByTable}
use Rattle.world_model.specs.meaning.Crashing.{is_crashed_item}
use Rattle.world_model.specs.meaning.Finishing.{Place}
use Rattle.world_model.specs.meaning.Machines.{Machine}
use Rattle.world_model.specs.OneEvent.{OneEvent}
use Rattle.world_model.specs.Reached.{Reached, Begins, GoesOn, IsFinishing, Scheduled, Finishes}
use Rattle.world_model.specs.meaning.ServiceDid.{item_telling}
use Rattle.world_model.specs.meaning.Serving.{Front, front_at, is_item_of, commits_after, outcome_frame}
use Rattle.run_laws.specs.StoredLaws.{AnswersAreRight}
use Rattle.world_model.specs.ToldByStore.{AreByStore}
use Rattle.world_model.specs.Traced.{Traced}
use Rattle.world_model.proofs.Offered.{IsFront, front_is, at_link, append_all, not_refused, at_event, event_of_item, is_down_link, not_both}
use Rattle.run_laws.proofs.AnswersRight.{forgets_at, answers_by_count}
use Rattle.run_laws.proofs.EventsTell.{EventTells, TellsNothing, TellsItem, TellsRun, TellsAnswer}
use Rattle.run_laws.proofs.MomentsGrow.{moments_of, event_moments}
use Rattle.run_laws.proofs.RunTells.{HasCome, told, moments_now, reached_come, finishing_come}
use Rattle.run_laws.proofs.StoredHorizons.{reached_told, finishing_told}
use Rattle.run_laws.proofs.TableTold.{forgotten_by_table}

-- ONE EVENT ---------------------------------------------------------------------------------------

-- a frame is served by a server that is up
up_where_living : (m : Machine) (number : ℕ) (front : Front) → front_at m.links number ≡ Some front → (m.server.is_up || list_all is_down_link m.links) ≡ true → m.server.is_up ≡ true
up_where_living m number front at down = by (or_cases m.server.is_up (list_all is_down_link m.links) down)
  where
    is : IsFront m.links number front
    is = front_is m.links number front at

    by : (m.server.is_up ≡ true) ⊎ (list_all is_down_link m.links ≡ true) → m.server.is_up ≡ true
    by (inl up) = up
    by (inr fallen) =
        let rests : not front.link.is_living ≡ true = (and_parts (not front.link.is_open) (not front.link.is_living) (at_link is_down_link m.links number front.link fallen is.there)).1 in
        absurd (let never : ⊥ = not_both front.link.is_living is.living (not-true front.link.is_living rests) in never)

module _ (k : Kept) (store : Store) where
  answer_forgets : (event : ℕ) (x : Ltxid) (result : AskResult) → store.horizon ≡ horizon_before k event → outcome_frame result ≡ down_of (verdict_of (book_in store) x) → is_rightly_forgotten k event x result ≡ true
  answer_forgets event x result same tells =
      subst (λ (horizon : ℕ). (same_bool (is_forgotten result) (nat_lt x.incarnation horizon) && (not (is_forgotten result) || says_forgotten result horizon)) ≡ true) same
      (forgotten_by_table result store.horizon store.entries store.blocked x tells)

  item_forgets : (event : ℕ) (session : SessionId) (now commits : ℕ) (frame : Up) (one : Item) → store.horizon ≡ horizon_before k event → (is_item_of frame one ≡ true) ⊎ (is_crashed_item frame one ≡ true)
      → TellsByTable store frame (item_telling session commits one) → forgets_at k event (ServedItem session one) ≡ true
  item_forgets event session now commits (up.Outcome x) (item.Outcome asked result) same (inl its) (inl refused) = absurd (not_refused result refused)
  item_forgets event session now commits (up.Outcome x) (item.Outcome asked result) same (inl its) (inr tells) =
      answer_forgets event asked result same (tells ∙ ap (λ (y : Ltxid). down_of (verdict_of (book_in store) y)) (sym ((same_ltxid_decides asked x).0 its)))
  item_forgets event session now commits frame (item.Outcome asked result) same (inl its) by_table = absurd (let none : ⊥ = cc in none)
  item_forgets event session now commits frame (item.Outcome asked result) same (inr its) by_table = absurd (let none : ⊥ = cc in none)
  item_forgets event session now commits frame one same its by_table = refl

  event_forgets : (m : Machine) (more : List HappenedAt) (happened : List Happened) → EventTells m more happened → (m.server.is_up || list_all is_down_link m.links) ≡ true → (m.server.is_up ≡ true → store.horizon ≡ horizon_before k (m.event + 1)) → AreByStore store happened
      → list_all (λ moment. forgets_at k moment.event moment.happened) more ≡ true
  event_forgets m _ _ TellsNothing down same by_store = refl
  event_forgets m _ _ (TellsItem number front served at_front of_front its) down same by_store =
      let at : served.event ≡ m.event + 1 = event_of_item (at_event m) front served of_front in
      and_from (forgets_at k served.event (ServedItem served.session served.item)) true
      (item_forgets served.event served.session m.tick (commits_after front.link served.item) front.first.frame served.item (same (up_where_living m number front at_front down) ∙ ap (horizon_before k) (sym at)) its by_store.0) refl
  event_forgets m _ _ (TellsRun ran calls runs named ran_so) down same by_store = refl
  event_forgets m _ _ (TellsAnswer x result up) down same by_store = and_from (is_rightly_forgotten k (m.event + 1) x result) true (answer_forgets (m.event + 1) x result (same up) by_store.0) refl

-- ALL EVENTS --------------------------------------------------------------------------------------

module _ (document : Document) (report : Report) where
  abbrev forgets : HappenedAt → Bool
  forgets moment = forgets_at (kept_by document report) moment.event moment.happened

  one_more : (before after : Seen) (old new : Traced) (event : Event) (note : Note) (notes : List Note) (items more : List Served) (one : OneEvent before old event note more [] after new) → HasCome notes items before old.machine
      → (old.machine.server.is_up ≡ true → before.state.store.horizon ≡ horizon_at document report (length notes + 1)) → list_all forgets (moments_of notes items) ≡ true → list_all forgets (moments_of (notes ++ note ∷ []) (items ++ more)) ≡ true
  one_more before after old new event note notes items more one was horizon all =
      subst (λ (list : List HappenedAt). list_all forgets list ≡ true) (sym (moments_now before after old new event note notes items more one was))
      (append_all forgets (moments_of notes items) (event_moments (old.machine.event + 1) note more) all
      (event_forgets (kept_by document report) before.state.store old.machine (event_moments (old.machine.event + 1) note more) one.happened (told before after old new event note notes items more one was).tells
      was.down (λ up. horizon up ∙ ap (λ (n : ℕ). horizon_at document report (n + 1)) (sym was.count)) one.told))

  reached_forgets : (events : List Event) (notes others : List Note) (items : List Served) (seen : Seen) (t : Traced) → Reached document events notes items seen t → report.notes ≡ notes ++ others → list_all forgets (moments_of notes items) ≡ true
  reached_forgets _ _ others _ _ _ (Begins seen start history horizon coupled) same = refl
  reached_forgets _ _ others _ _ _ (GoesOn events notes items more before after old new event note reached one stored) same =
      let front : report.notes ≡ notes ++ note ∷ others = same ∙ append_assoc notes (note ∷ []) others in
      one_more before after old new event note notes items more one (reached_come document events notes items before old reached) (reached_told document report events notes (note ∷ others) items before old reached front)
      (reached_forgets events notes (note ∷ others) items before old reached front)

  finishing_forgets : (place : Place) (notes others : List Note) (items : List Served) (seen : Seen) (t : Traced) → IsFinishing document place notes items seen t → report.notes ≡ notes ++ others → list_all forgets (moments_of notes items) ≡ true
  finishing_forgets _ _ others _ _ _ (Scheduled notes items seen t reached) same = reached_forgets document.schedule notes others items seen t reached same
  finishing_forgets _ _ others _ _ _ (Finishes place later notes items more before after old new event note finishing next one stored) same =
      let front : report.notes ≡ notes ++ note ∷ others = same ∙ append_assoc notes (note ∷ []) others in
      one_more before after old new event note notes items more one (finishing_come document place notes items before old finishing) (finishing_told document report place notes (note ∷ others) items before old finishing front)
      (finishing_forgets place notes (note ∷ others) items before old finishing front)

  -- each answer of a whole run
  run_forgets : (place : Place) (seen : Seen) (t : Traced) → IsFinishing document place report.notes report.served seen t → list_all forgets (moments report) ≡ true
  run_forgets place seen t finishing = finishing_forgets place report.notes [] report.served seen t finishing (sym (append-nil report.notes))

pub answers_right_law : EachKeeps → EntryNumbers → AnswersAreRight
answers_right_law keeps numbers document report seen t server is = answers_by_count keeps numbers document report seen t server is (run_forgets document report is.run.place seen t is.run.finishing)
