-- Of Once: what became of each sending is told by its connection, at the start and behind each
-- event.
use Rattle.std.proofs.Common.{◌≡◌, ◌≢◌, refl, sym, ap, subst, ◌∙◌, Bool, true, false, ℕ, ◌&&◌, filter, fold, length, List, [], ◌∷◌, ◌++◌, Option, Some, None}
use Rattle.std.specs.Prelude.{◌==◌}
use Rattle.std.specs.List.{list_all, list_any}
use Rattle.std.specs.Option.{option_map_or}
use Rattle.std.proofs.lemmas.Bool.{and_parts, and_from}
use Rattle.svc_values.specs.declared.call.Call.{Call}
use Rattle.svc_values.specs.declared.entry.Ltxid.{Ltxid}
use Rattle.svc_values.specs.declared.frame.Up.{Up}
use Rattle.svc_values.specs.declared.frame.Up.TheVariants as up
use Rattle.svc_values.specs.declared.value.Value.{Value}
use Rattle.svc_values.specs.meaning.Calls.{has_commit}
use Rattle.client_model.specs.declared.act.Hold.{Hold}
use Rattle.client_model.specs.declared.act.Hold.TheVariants.{Keep}
use Rattle.client_model.specs.declared.input.Input.{Input}
use Rattle.client_model.specs.meaning.Talk.{talk_step}
use Rattle.world_model.specs.meaning.Acting.{call_in}
use Rattle.world_model.specs.meaning.Clients.{Client, Doing, Step}
use Rattle.world_model.specs.records.Conversing.{connected}
use Rattle.world_model.specs.meaning.Frames.{Owner, Sent}
use Rattle.world_model.specs.records.Hold.{is_idle}
use Rattle.world_model.specs.Orderly.{Orderly}
use Rattle.invariant_laws.specs.KeptLaws.{IsKeptOfAll}
use Rattle.world_model.specs.meaning.Links.{Link, link_at, sends}
use Rattle.world_model.specs.meaning.Machines.{Machine}
use Rattle.invariant_laws.specs.Once.{have_fates, are_apart}
use Rattle.world_model.specs.Parts.{Sending, Scan, sent_on, answered, commit_sendings, is_unmarked_frame}
use Rattle.world_model.specs.Reached.{traced_start}
use Rattle.world_model.specs.meaning.Settings.{Setting, setting_of}
use Rattle.world_model.specs.Traced.{Traced, Course, course_now, courses_of, courses_of_clients}
use Rattle.world_model.proofs.Offered.{weaker_all, HasStepped, HeardOn, OfNone, OfIdle, OfNew, OfReply, OfEnded, is_frame, all_step, Followed, follow_happens, at_event, held_now, resting_none, some_same, opening, sends_at, moves_next_number as next_number, scan_by, heard_scan, after_sendings, leads, lent_idle, first_step, first_doing, same_owner_is, at_link, sends_alike, all_orderly, ends_at, is_orderly, open_living, places}
use Rattle.invariant_laws.proofs.sendings.Fates.{Fate, same_fate, call_frames, made_fate}
use Rattle.invariant_laws.proofs.sendings.FateLinks.{idle_fate}
use Rattle.invariant_laws.proofs.losses.KeptGone.{new_apart}
use Rattle.invariant_laws.proofs.talks.LinksStay.{Stays}
use Rattle.invariant_laws.proofs.losses.LostSteps.{before_so}
use Rattle.invariant_laws.proofs.talks.Placing.{SameOut, self_out, joined_out, Moving, Quietly, Stepping, moving, IsLent, lent_at, said as spoken_frames}
use Rattle.invariant_laws.proofs.sendings.SendingsMade.{flat_all, chosen_from, chosen_to, made}
use Rattle.world_model.specs.Parts.{scanned}
use Rattle.world_model.specs.Sames.{same_owner}
use Rattle.invariant_laws.proofs.sendings.FateSteps.{Says, Silent, CallsOne, fated, fated_from, fated_to, says_at, silent_fold, called_fold, called_at, has_call, committing, committing_by, committing_from, no_connection, elsewhere, stays_at, none_at, Taking, taking_others}
use Rattle.invariant_laws.proofs.sendings.FateTaken.{scan_owned, plain_none, plain_answers, taking_mine}
use Rattle.invariant_laws.proofs.losses.LostKept.{both_all}
use Rattle.invariant_laws.proofs.sendings.SendingsMade.{Speaks, speaks}
use Rattle.invariant_laws.proofs.talks.SpokenLinks.{Spoke, spoke, said_call}

scan_owner : (scan : Scan) (steps : List Step) → (fold scanned scan steps).owner ≡ scan.owner
scan_owner scan [] = refl
scan_owner scan (step ∷ steps) = scan_owner (scanned scan step) steps

-- A STEP ------------------------------------------------------------------------------------------

module _ (t : Traced) (inv : Orderly t) (apart : are_apart t ≡ true) (new : Traced) (who : ℕ) (step : HasStepped t.setting (at_event t.machine) who new.machine) where
  abbrev m : Machine
  m = at_event t.machine

  abbrev mine : Owner
  mine = record { client = who; place = length step.client.past }

  abbrev one : Step
  one = first_step t.setting m inv.script.talks who new.machine step

  abbrev sendings : List Sending
  sendings = (scan_by mine step.before.steps).sendings

  abbrev scan_now : Scan
  scan_now = heard_scan t.setting m inv.script.talks who new.machine step

  abbrev said_now : List Sent
  said_now = spoken_frames t.setting m who new.machine step

  abbrev old_so : Sending → Bool
  old_so = committing (fated t.machine.links)

  abbrev new_so : Sending → Bool
  new_so = committing (fated new.machine.links)

  -- Where it hears no reply each fate stays, and no sending is answered.
  record Heard : Type 0 where
    others : (sending : Sending) → (sending.owner ≡ mine → ⊥) → fated t.machine.links sending ≡ true → fated new.machine.links sending ≡ true
    own : list_all old_so sendings ≡ true → list_all new_so scan_now.sendings ≡ true

  quietly : ((sending : Sending) → fated t.machine.links sending ≡ true → fated new.machine.links sending ≡ true) → is_frame step.input ≡ false → list_all old_so sendings ≡ true → list_all new_so scan_now.sendings ≡ true
  quietly stays plain all =
      subst (λ (list : List Sending). list_all new_so list ≡ true) (sym (plain_answers step.input one.done.act.shown sendings plain))
      (weaker_all old_so new_so sendings (λ sending here. committing_by (fated new.machine.links) sending (λ commits. stays sending (committing_from (fated t.machine.links) sending here commits))) all)

  speaking : list_any is_unmarked_frame one.done.act.send ≡ true → Speaks t inv who new.machine step
  speaking calls = speaks t inv who new.machine step calls

  heard_so : Heard
  heard_so = by step.before.connection step.input step.after refl refl step.heard_on
    where
      by : {kept : Hold} (had : Option ℕ) (input : Input) (after : Doing) → step.before.connection ≡ had → step.input ≡ input → HeardOn t.setting m new.machine who (first_doing t.setting m inv.script.talks who new.machine step) kept said_now after had input → Heard
      by _ _ after was is (OfNone had input none plain same) =
          let not_frame : is_frame step.input ≡ false = ap is_frame is ∙ plain in
          let away : step.connection ≡ None = sym step.connects ∙ (ap (λ (c : Option ℕ). connected c step.input) (no_connection t inv apart new who step not_frame) ∙ (ap (connected None) is ∙ plain_none input none plain)) in
          record { others = λ sending strange here. none_at t inv apart new who step sending away here; own = quietly (λ sending here. none_at t inv apart new who step sending away here) not_frame }
      by _ _ after was is (OfIdle had connection x answer same) =
          let lent : IsLent t.setting m who new.machine step connection x = lent_at t.setting m who new.machine step connection x is in
          let on_it : step.connection ≡ Some connection = sym step.connects ∙ ap (connected step.before.connection) is in
          let idle : is_idle lent.link ≡ true = lent_idle m.pool who connection m.links lent.link answer (held_now t inv).idle lent.there in
          let opens : lent.link.is_open ≡ true = (and_parts lent.link.is_open _ idle).0 in
          let orderly : is_orderly lent.link ≡ true = at_link is_orderly t.machine.links connection lent.link (all_orderly t.machine.links inv.wire.sent inv.wire.replies inv.wire.handled inv.basic.life) lent.there in
          let living : lent.link.is_living ≡ true = open_living t.machine.event lent.link (at_link (ends_at t.machine.event) t.machine.links connection lent.link inv.basic.ended lent.there) opens in
          let stays : (sending : Sending) → fated t.machine.links sending ≡ true → fated new.machine.links sending ≡ true =
          λ sending here. stays_at t inv apart new who step connection lent.link (sends m.event said_now lent.link) on_it lent.there lent.next sending (idle_fate sending lent.link m.event said_now idle orderly living) here in
          record {
            others = λ sending strange here. stays sending here;
            own = quietly stays (ap is_frame is);
          }
      by _ _ after was is (OfNew had same) =
          let on_it : step.connection ≡ Some (next_number m) = sym step.connects ∙ ap (connected step.before.connection) is in
          let stays : (sending : Sending) → fated t.machine.links sending ≡ true → fated new.machine.links sending ≡ true =
          λ sending here.
          elsewhere t inv apart new who step sending
          (λ on_sending.
          let at = fated_from t.machine.links sending here in
          let both : Some sending.connection ≡ Some (next_number m) = sym on_sending ∙ on_it in
          let same_number : sending.connection ≡ next_number m = cc in
          new_apart t.machine.links sending.connection at.link at.there same_number) here in
          record {
            others = λ sending strange here. stays sending here;
            own = quietly stays (ap is_frame is);
          }
      by _ _ after was is (OfReply had connection link reply later some there down_is next back) =
          let taking : Taking t inv apart new who step =
          record { connection = connection; link = link; reply = reply; later = later; has = was ∙ some; there = there; down_is = down_is; heard = is; after = next } in
          record {
            others = taking_others t inv apart new who step taking;
            own = taking_mine t inv apart new who step taking;
          }
      by _ _ after was is (OfEnded had connection link some there shut next same) =
          let away : step.connection ≡ None = sym step.connects ∙ ap (connected step.before.connection) is in
          let stays : (sending : Sending) → fated t.machine.links sending ≡ true → fated new.machine.links sending ≡ true = λ sending here. none_at t inv apart new who step sending away here in
          record {
            others = λ sending strange here. stays sending here;
            own = λ all.
                subst (λ (input : Input). list_all new_so (answered input one.done.act.shown sendings) ≡ true) (sym is)
                (weaker_all old_so new_so sendings (λ sending here. committing_by (fated new.machine.links) sending (λ commits. stays sending (committing_from (fated t.machine.links) sending here commits))) all);
          }

  -- what is made now waits
  made_so : (begun : Bool) (settings : List (List ℕ × Value)) (call : Call) (x : Ltxid) → one.done.act.send ≡ opening begun settings ++ up.Call false [] call ∷ [] → one.done.act.hold ≡ Keep → scan_now.held ≡ Some x → has_commit call ≡ true
      → fated new.machine.links (made scan_now call x) ≡ true
  made_so begun settings call x sends_it keeps held commits =
      let calls : list_any is_unmarked_frame one.done.act.send ≡ true = ap (list_any is_unmarked_frame) sends_it ∙ has_call begun settings call in
      let is = speaking calls in
      let spoken : Spoke t inv apart new who step is.connection =
      spoke t inv apart new who step is.connection is.has
      (λ opened. let never : false ≡ true = subst (λ (i : Input). list_any is_unmarked_frame (talk_step t.setting.terms step.before.talk i m.tick).1.send ≡ true) opened calls in let none : ⊥ = cc in none) in
      let same : sends m.event said_now spoken.link ≡ is.next = some_same (link_at new.machine.links is.connection) (sends m.event said_now spoken.link) is.next spoken.after is.there in
      let link_held : spoken.link.held ≡ Some x = sym (sends_alike (λ (l : Link). l.held ≡ spoken.link.held) m.event said_now spoken.link refl refl) ∙ (ap (λ (l : Link). l.held) same ∙ (is.held ∙ held)) in
      let place : ℕ = call_in (first_doing t.setting m inv.script.talks who new.machine step).talk.phase in
      let at : (place == scan_now.shown) ≡ true = called_at scan_now place begun settings call (subst (λ (frames : List Up). list_all (sends_at scan_now place) frames ≡ true) sends_it (places t.setting m inv.script.talks who new.machine step)) in
      let fate : Fate (made scan_now call x) (sends m.event (call_frames mine place begun settings call) spoken.link) = made_fate mine place settings call m.event begun spoken.link scan_now x spoken.none link_held (scan_owner (scan_by mine []) step.before.steps) at commits in
      fated_to new.machine.links (made scan_now call x) (sends m.event said_now spoken.link)
      (ap (link_at new.machine.links) (leads t.setting m inv.script.talks who new.machine step is.connection is.has) ∙ spoken.after)
      (subst (λ (frames : List Sent). Fate (made scan_now call x) (sends m.event frames spoken.link)) (sym (said_call t inv apart new who step begun settings call sends_it keeps)) fate)

  with_calls : (send : List Up) (held : Hold) → one.done.act.send ≡ send → one.done.act.hold ≡ held → Says send held → list_all new_so scan_now.sendings ≡ true → list_all new_so (fold (sent_on scan_now) scan_now.sendings send) ≡ true
  with_calls _ _ sends_it keeps (Silent send held none) all = subst (λ (list : List Sending). list_all new_so list ≡ true) (sym (silent_fold scan_now send scan_now.sendings none)) all
  with_calls _ _ sends_it keeps (CallsOne begun settings call) all =
      subst (λ (list : List Sending). list_all new_so list ≡ true) (sym (called_fold scan_now begun settings call scan_now.sendings)) (by scan_now.held refl)
    where
      by : (held : Option Ltxid) → scan_now.held ≡ held → list_all new_so (option_map_or (λ x. made scan_now call x ∷ scan_now.sendings) held scan_now.sendings) ≡ true
      by None is = all
      by (Some x) is = and_from (new_so (made scan_now call x)) (list_all new_so scan_now.sendings) (committing_by (fated new.machine.links) (made scan_now call x) (λ commits. made_so begun settings call x sends_it keeps is commits)) all

  pub mine_fated : list_all (fated t.machine.links) (filter (λ (sending : Sending). has_commit sending.call) sendings) ≡ true
      → list_all (fated new.machine.links) (filter (λ (sending : Sending). has_commit sending.call) (scan_by mine step.after.steps).sendings) ≡ true
  mine_fated here =
      chosen_to (λ (sending : Sending). has_commit sending.call) (fated new.machine.links) (scan_by mine step.after.steps).sendings
      (subst (λ (list : List Sending). list_all new_so list ≡ true) (sym (after_sendings t.setting m inv.script.talks who new.machine step))
      (with_calls one.done.act.send one.done.act.hold refl refl (says_at t.setting.terms step.before.talk step.input m.tick)
      (heard_so.own (chosen_from (λ (sending : Sending). has_commit sending.call) (fated t.machine.links) sendings here))))

  pub others_fated : (course : Course) → course.owner ≢ mine → list_all (fated t.machine.links) (commit_sendings course) ≡ true → list_all (fated new.machine.links) (commit_sendings course) ≡ true
  others_fated course strange here =
      let own : list_all (λ sending. same_owner sending.owner course.owner) (scan_by course.owner course.steps).sendings ≡ true = scan_owned course.owner (scan_by course.owner []) course.steps refl refl in
      let old : list_all old_so (scan_by course.owner course.steps).sendings ≡ true = chosen_from (λ (sending : Sending). has_commit sending.call) (fated t.machine.links) (scan_by course.owner course.steps).sendings here in
      chosen_to (λ (sending : Sending). has_commit sending.call) (fated new.machine.links) (scan_by course.owner course.steps).sendings
      (weaker_all (λ sending. same_owner sending.owner course.owner && old_so sending) new_so (scan_by course.owner course.steps).sendings
      (λ sending both.
      let parts = and_parts (same_owner sending.owner course.owner) (old_so sending) both in
      committing_by (fated new.machine.links) sending
      (λ commits. heard_so.others sending (λ same. strange (sym (same_owner_is sending.owner course.owner parts.0) ∙ same)) (committing_from (fated t.machine.links) sending parts.1 commits)))
      (both_all (λ sending. same_owner sending.owner course.owner) old_so (scan_by course.owner course.steps).sendings own old))

-- EVENTS ------------------------------------------------------------------------------------------

abbrev course_fated : List Link → Course → Bool
course_fated links course = list_all (fated links) (commit_sendings course)

still_fated : (links later : List Link) → Stays SameOut self_out joined_out links later → (sending : Sending) → fated links sending ≡ true → fated later sending ≡ true
still_fated links later stays sending here =
    let at = fated_from links sending here in
    let becomes = stays sending.connection at.link at.there in
    fated_to later sending becomes.next becomes.there (same_fate sending at.link becomes.next becomes.so at.fate)

by_step : (t : Traced) (inv : Orderly t) (apart : are_apart t ≡ true) (new : Traced) → Moving t.setting (at_event t.machine) new.machine → list_all (course_fated t.machine.links) (courses_of t) ≡ true
    → list_all (course_fated new.machine.links) (courses_of_clients t.setting 1 new.machine.clients) ≡ true
by_step t inv apart new (Quietly same stays) all =
    subst (λ (clients : List Client). list_all (course_fated new.machine.links) (courses_of_clients t.setting 1 clients) ≡ true) (sym same)
    (weaker_all (course_fated t.machine.links) (course_fated new.machine.links) (courses_of t)
    (λ course here. weaker_all (fated t.machine.links) (fated new.machine.links) (commit_sendings course) (still_fated t.machine.links new.machine.links stays) here) all)
by_step t inv apart new (Stepping who step) all =
    let here : course_fated t.machine.links (course_now t.setting who (length step.client.past) step.before) ≡ true = before_so t inv who new.machine step (course_fated t.machine.links) all (λ request. refl) in
    all_step t.setting (course_fated t.machine.links) (course_fated new.machine.links) (record { client = who; place = length step.client.past }) (λ course differs so. others_fated t inv apart new who step course differs so)
    (at_event t.machine) who new.machine step refl (λ keep. mine_fated t inv apart new who step here) (λ over. mine_fated t inv apart new who step here) all

pub fates_law : IsKeptOfAll have_fates
fates_law = record {
  at_start = λ document. flat_all (fated (traced_start document).machine.links) commit_sendings (courses_of (traced_start document)) ∙ resting_none (setting_of document) 1 (course_fated (traced_start document).machine.links) document.clients;
  at_event = λ before after old new event note items left one inv.
      let by : Followed old.setting old.machine event note items left new.machine = follow_happens old.setting old.machine event note items left new.machine one.follows in
      flat_all (fated new.machine.links) commit_sendings (courses_of new)
      ∙ subst (λ (setting : Setting). list_all (course_fated new.machine.links) (courses_of_clients setting 1 new.machine.clients) ≡ true) (sym one.setting)
      (by_step old inv.orderly inv.once.apart new (moving old.setting (at_event old.machine) items left by.kind new.machine by.happens) (sym (flat_all (fated old.machine.links) commit_sendings (courses_of old)) ∙ inv.once.fates));
}
