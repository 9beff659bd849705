-- Where a request takes a reply its sendings are fated on: its last one is answered, and no other
-- one waits on the connection.
use Rattle.std.proofs.Common.{◌≡◌, refl, sym, ap, subst, ◌∙◌, Bool, true, false, ℕ, ◌+◌, ◌&&◌, cond, filter, fold, length, List, [], ◌∷◌, map, Option, Some, None}
use Rattle.std.specs.Prelude.{◌==◌, is_some, is_none, unwrap_or}
use Rattle.std.specs.List.{list_all, list_any}
use Rattle.std.specs.Option.{option_or, option_map_or}
use Rattle.std.proofs.lemmas.Bool.{and_parts, and_from}
use Rattle.svc_values.specs.declared.answer.Answer.{Answer}
use Rattle.svc_values.specs.declared.call.Call.{Call}
use Rattle.svc_values.specs.declared.draw.Draw.{Draw}
use Rattle.svc_values.specs.declared.entry.Ltxid.{Ltxid}
use Rattle.svc_values.specs.declared.frame.Down.{Down}
use Rattle.svc_values.specs.declared.frame.Down.TheVariants as down
use Rattle.svc_values.specs.meaning.Calls.{has_commit}
use Rattle.client_model.specs.declared.act.Hold.TheVariants as hold
use Rattle.client_model.specs.declared.act.Shown.{Shown}
use Rattle.client_model.specs.declared.input.Input.{Input}
use Rattle.client_model.specs.declared.input.Input.TheVariants.{Start, Waiting, Lent, Opened, TryFailed, Took, Gone}
use Rattle.client_model.specs.meaning.States.{Living}
use Rattle.client_model.specs.meaning.Talk.{talk_step, takes as taken_by, next_call}
use Rattle.client_model.specs.meaning.Terms.{Terms, Talk, Phase, Running}
use Rattle.svc_values.specs.declared.frame.Up.{Up}
use Rattle.svc_values.specs.declared.frame.Up.TheVariants as up
use Rattle.world_model.specs.meaning.Acting.{sent_by, call_in}
use Rattle.world_model.specs.meaning.Clients.{Step}
use Rattle.world_model.specs.records.Conversing.{connected}
use Rattle.world_model.specs.meaning.Frames.{Owner, Sent}
use Rattle.world_model.specs.Orderly.{Orderly}
use Rattle.world_model.specs.meaning.Links.{Link, link_at, sends, takes, told_by}
use Rattle.world_model.specs.meaning.Machines.{Machine}
use Rattle.invariant_laws.specs.Once.{share, are_apart, is_open_or_committed}
use Rattle.world_model.specs.records.Hold.{is_awaited, is_call}
use Rattle.world_model.specs.Parts.{Sending, Scan, answered, commit_sendings, is_commit_call, is_unmarked_frame}
use Rattle.world_model.specs.Sames.{each_pair, all_with, owned_by}
use Rattle.world_model.specs.Traced.{Traced, courses_of}
use Rattle.world_model.specs.Words.{brought}
use Rattle.world_model.proofs.Offered.{weaker_all, HasStepped, is_frame, at_event, held_now, some_same, scan_by, heard_scan, first_step, eq_from, eq_to, none_is, at_link, counts_so, ltxid_self, owner_self, not_both}
use Rattle.invariant_laws.proofs.sendings.Fates.{Fate, Waits}
use Rattle.invariant_laws.proofs.sendings.FateLinks.{OutOf, runs_where, unmarked_call, blocked_fate, answered_fate}
use Rattle.invariant_laws.proofs.sendings.FateTops.{all_with_is, pairs_each, call_left, last_open, scan_on, last_call}
use Rattle.invariant_laws.proofs.entries.TriedApart.{share_not}
use Rattle.invariant_laws.proofs.losses.LostSteps.{before_so, in_course}
use Rattle.invariant_laws.proofs.talks.Placing.{said as spoken_frames}
use Rattle.invariant_laws.proofs.sendings.SendingsMade.{chosen_from}
use Rattle.svc_values.specs.meaning.Endings.{ends_committed}
use Rattle.svc_values.specs.meaning.Identifiers.{same_ltxid}
use Rattle.client_model.specs.meaning.Talk.{on_reply, talk_shown}
use Rattle.world_model.specs.meaning.Acting.{frames_of, owner_at}
use Rattle.world_model.specs.meaning.Clients.{heard, step_at}
use Rattle.world_model.specs.Parts.{scanned, with_taken}
use Rattle.world_model.specs.Sames.{same_owner}
use Rattle.world_model.specs.records.Wire.{is_reply_front, handled_from, is_answered_in_order}
use Rattle.invariant_laws.proofs.sendings.FateSteps.{fated, fated_from, fated_to, committing, committing_by, committing_from, stays_at, Taking, on, known, out, waits_commits, waits_out, fate_by}
use Rattle.invariant_laws.proofs.losses.KeptUnasked.{each_among}
use Rattle.invariant_laws.proofs.losses.ReplyFits.{is_expected, reply_fits}
use Rattle.invariant_laws.proofs.rows.RowKept.{at_before}
use Rattle.invariant_laws.proofs.sendings.SendingsMade.{answered_all, frames_all}
use Rattle.invariant_laws.proofs.talks.TalkShows.{ShowsBy, ByReply, ByOutcome, taken_shows, next_shows}
use Rattle.invariant_laws.proofs.talks.TalkTop.{top_open}

-- OF ONE REQUEST ----------------------------------------------------------------------------------

-- each sending is of the request
pub scan_owned : (owner : Owner) (scan : Scan) (steps : List Step) → scan.owner ≡ owner → list_all (λ sending. same_owner sending.owner owner) scan.sendings ≡ true → list_all (λ sending. same_owner sending.owner owner) (fold scanned scan steps).sendings ≡ true
scan_owned owner scan [] same all = all
scan_owned owner scan (step ∷ steps) same all =
    let now : Scan = record {
      owner = scan.owner;
      connection = option_map_or (λ number. number) (brought step.done.input) scan.connection;
      held = option_or (told_by step.done.input) scan.held;
      shown = scan.shown + cond (is_some step.done.act.shown) 1 0;
      sendings = answered step.done.input step.done.act.shown scan.sendings;
    } in
    scan_owned owner (scanned scan step) steps same
    (frames_all (λ sending. same_owner sending.owner owner) now step.done.act.send now.sendings (λ any call x is. ap (λ (one : Owner). same_owner one owner) same ∙ owner_self owner)
    (answered_all (λ sending. same_owner sending.owner owner) (λ sending answers so. so) step.done.input step.done.act.shown scan.sendings all))

pub plain_none : (input : Input) → brought input ≡ None → is_frame input ≡ false → connected None input ≡ None
plain_none Start none plain = refl
plain_none Waiting none plain = refl
plain_none TryFailed none plain = refl
plain_none (Lent connection x) none plain = absurd (let never : ⊥ = cc in never)
plain_none (Opened connection) none plain = absurd (let never : ⊥ = cc in never)
plain_none (Took frame alive) none plain = absurd (let never : ⊥ = cc in never)
plain_none (Gone event) none plain = absurd (let never : ⊥ = cc in never)

pub plain_answers : (input : Input) (shown : Option Shown) (sendings : List Sending) → is_frame input ≡ false → answered input shown sendings ≡ sendings
plain_answers Start shown sendings plain = refl
plain_answers Waiting shown sendings plain = refl
plain_answers TryFailed shown sendings plain = refl
plain_answers (Lent connection x) shown sendings plain = refl
plain_answers (Opened connection) shown sendings plain = refl
plain_answers (Took frame alive) shown sendings plain = absurd (let never : ⊥ = cc in never)
plain_answers (Gone event) shown sendings plain = absurd (let never : ⊥ = cc in never)

module _ (t : Traced) (inv : Orderly t) (apart : are_apart t ≡ true) (new : Traced) (who : ℕ) (step : HasStepped t.setting (at_event t.machine) who new.machine) where
  abbrev m : Machine
  m = at_event t.machine

  abbrev terms : Terms
  terms = t.setting.terms

  abbrev mine : Owner
  mine = record { client = who; place = length step.client.past }

  abbrev one : Step
  one = first_step t.setting m inv.script.talks who new.machine step

  abbrev sendings : List Sending
  sendings = (scan_by mine step.before.steps).sendings

  abbrev scan_now : Scan
  scan_now = heard_scan t.setting m inv.script.talks who new.machine step

  abbrev old_so : Sending → Bool
  old_so = committing (fated t.machine.links)

  abbrev new_so : Sending → Bool
  new_so = committing (fated new.machine.links)

  pairs : each_pair share (filter (λ (sending : Sending). has_commit sending.call) sendings) ≡ true
  pairs = before_so t inv who new.machine step (λ course. each_pair share (commit_sendings course)) (pairs_each share commit_sendings (courses_of t) apart) (λ request. refl)

  -- WHERE A REPLY IS TAKEN ------------------------------------------------------------------------

  module _ (taking : Taking t inv apart new who step) where
    abbrev link : Link
    link = taking.link

    abbrev next : Link
    next = sends m.event (spoken_frames t.setting m who new.machine step) (takes (Took taking.reply.frame link.is_open) taking.reply taking.later link)

    abbrev at_out : OutOf mine step.before.talk.phase link
    at_out = out t inv apart new who step taking

    stays_on : (sending : Sending) → (sending.taken ≡ None → Fate sending link → Fate sending next) → fated t.machine.links sending ≡ true → fated new.machine.links sending ≡ true
    stays_on sending untaken here =
        stays_at t inv apart new who step taking.connection link next (on t inv apart new who step taking) taking.there taking.after sending (fate_by t inv apart new who step taking sending untaken) here

    plain_each : ((sending : Sending) → sending.taken ≡ None → Fate sending link → Fate sending next) → list_all old_so sendings ≡ true → list_all new_so sendings ≡ true
    plain_each untaken all =
        weaker_all old_so new_so sendings (λ sending here. committing_by (fated new.machine.links) sending (λ commits. stays_on sending (untaken sending) (committing_from (fated t.machine.links) sending here commits))) all

    -- where one waits the request runs
    runs : (sending : Sending) → Waits sending link → (state : Living) × (step.before.talk.phase ≡ Running state)
    runs sending waits = runs_where step.before.talk.phase at_out.sent at_out.awaited (waits_commits t inv apart new who step taking sending waits)

    expected : (state : Living) → step.before.talk.phase ≡ Running state → is_expected (Running state) taking.reply.frame ≡ true
    expected state is =
        subst (λ (p : Phase). is_expected p taking.reply.frame ≡ true) is
        (reply_fits mine step.before.talk.phase link taking.reply taking.later
        ((held_now t inv).out who step.client step.before taking.connection link step.here (in_course t inv who new.machine step taking.connection taking.has) taking.has taking.there) taking.down_is
        (at_link is_reply_front t.machine.links taking.connection link inv.wire.replies taking.there) (at_link (λ one. handled_from 0 one.served) t.machine.links taking.connection link inv.wire.handled taking.there)
        (at_link is_answered_in_order t.machine.links taking.connection link inv.wire.in_order taking.there))

    never_expected : (frame : Down) → taking.reply.frame ≡ frame → ((state : Living) → is_expected (Running state) frame ≡ false) → (sending : Sending) → sending.taken ≡ None → Fate sending link → ⊥
    never_expected frame says never sending none fate =
        let at = runs sending (fate.waits none) in not_both (is_expected (Running at.0) taking.reply.frame) (expected at.0 at.1) (ap (is_expected (Running at.0)) says ∙ never at.0)

    not_expected : (frame : Down) → taking.reply.frame ≡ frame → ((state : Living) → is_expected (Running state) frame ≡ false) → (sending : Sending) → sending.taken ≡ None → Fate sending link → Fate sending next
    not_expected frame says never sending none fate = absurd (never_expected frame says never sending none fate)

    act_is : (frame : Down) → taking.reply.frame ≡ frame → step.input ≡ Took frame link.is_open
    act_is frame says = taking.heard ∙ ap (λ (f : Down). Took f link.is_open) says

    -- a reply that a running request takes is shown
    shows : (answers : List Answer) (draws : List Draw) (x : Ltxid) → taking.reply.frame ≡ down.Reply answers draws x → one.done.act.shown ≡ None → (sending : Sending) → sending.taken ≡ None → Fate sending link → ⊥
    shows answers draws x says none sending untaken fate =
        let at = runs sending (fate.waits untaken) in
        let left = call_left t inv who new.machine step at.0 at.1 in
        let after : Talk = talk_shown terms step.before.talk left.0 answers in
        let first : one.done.act.shown ≡ (on_reply terms step.before.talk at.0 answers draws x link.is_open m.tick (Some left.0)).1.shown =
        ap (λ (input : Input). (talk_step terms step.before.talk input m.tick).1.shown) (act_is (down.Reply answers draws x) says)
        ∙ (ap (λ (p : Phase). (taken_by terms step.before.talk p (down.Reply answers draws x) link.is_open m.tick).1.shown) at.1
        ∙ ap (λ (call : Option Call). (on_reply terms step.before.talk at.0 answers draws x link.is_open m.tick call).1.shown) left.1) in
        let some : (on_reply terms step.before.talk at.0 answers draws x link.is_open m.tick (Some left.0)).1.shown ≡ Some (record { answers = answers; draws = draws; ltxid = x }) =
        next_shows terms after _ link.is_open [] (Some (record { answers = answers; draws = draws; ltxid = x })) m.tick (next_call after) in
        let never : ◌≡◌ {A = Option Shown} None (Some (record { answers = answers; draws = draws; ltxid = x })) = sym none ∙ (first ∙ some) in
        let nothing : ⊥ = cc in nothing

    silent_blocked : taking.reply.frame ≡ down.Blocked → spoken_frames t.setting m who new.machine step ≡ []
    silent_blocked says =
        ap (λ (input : Input). map (sent_by (owner_at m who) (call_in (heard terms m.event m.tick (record step.before { connection = step.connection }) input).talk.phase))
        (frames_of step.pool (unwrap_or step.connection 0) (step_at terms m.event m.tick (record step.before { connection = step.connection }) input).done.act)) (act_is down.Blocked says)

    -- the last sending is answered, and no other one waits
    module _ (answers : List Answer) (draws : List Draw) (x : Ltxid) (says : taking.reply.frame ≡ down.Reply answers draws x) (state : Living) (running : step.before.talk.phase ≡ Running state) where
      answered_all_so : (all : List Sending) → sendings ≡ all → list_all old_so all ≡ true → list_all new_so (with_taken answers all) ≡ true
      answered_all_so [] are so = refl
      answered_all_so (top ∷ rest) are so = and_from (new_so (record top { taken = Some answers })) (list_all new_so rest) (committing_by (fated new.machine.links) (record top { taken = Some answers }) first) others
        where
          parts : (old_so top ≡ true) × (list_all old_so rest ≡ true)
          parts = and_parts (old_so top) (list_all old_so rest) so

          opened : ((top.connection == (scan_by mine step.before.steps).connection) ≡ true) × (is_none top.taken ≡ true)
          opened =
              and_parts (top.connection == (scan_by mine step.before.steps).connection) (is_none top.taken)
              (subst (λ (list : List Sending). top_open (scan_by mine step.before.steps).connection list ≡ true) are (last_open t inv who new.machine step state running))

          place : top.connection ≡ taking.connection
          place = eq_from top.connection (scan_by mine step.before.steps).connection opened.0 ∙ scan_on t inv who new.machine step state running taking.connection taking.has link taking.there

          untaken : top.taken ≡ None
          untaken = none_is top.taken opened.1

          top_fate : has_commit top.call ≡ true → Fate top link
          top_fate commits =
              let at = fated_from t.machine.links top (committing_from (fated t.machine.links) top parts.0 commits) in
              subst (Fate top) (some_same (link_at m.links taking.connection) at.link link (subst (λ (k : ℕ). link_at m.links k ≡ Some at.link) place at.there) taking.there) at.fate

          first : has_commit top.call ≡ true → fated new.machine.links (record top { taken = Some answers }) ≡ true
          first commits =
              let fate = top_fate commits in
              fated_to new.machine.links (record top { taken = Some answers }) next (ap (link_at new.machine.links) place ∙ taking.after)
              (answered_fate link taking.reply taking.later (known t inv apart new who step taking) taking.down_is m.event (spoken_frames t.setting m who new.machine step) top answers draws x at_out.sent says at_out.last
              (waits_commits t inv apart new who step taking top (fate.waits untaken)) fate untaken)

          shares : has_commit top.call ≡ true → list_all (committing (share top)) rest ≡ true
          shares commits =
              let chosen : each_pair share (top ∷ filter (λ (sending : Sending). has_commit sending.call) rest) ≡ true =
              subst (λ (test : Bool). each_pair share (cond test (top ∷ filter (λ (sending : Sending). has_commit sending.call) rest) (filter (λ (sending : Sending). has_commit sending.call) rest)) ≡ true) commits
              (subst (λ (list : List Sending). each_pair share (filter (λ (sending : Sending). has_commit sending.call) list) ≡ true) are pairs) in
              chosen_from (λ (sending : Sending). has_commit sending.call) (share top) rest
              (sym (all_with_is (share top) (filter (λ (sending : Sending). has_commit sending.call) rest))
              ∙ (and_parts (all_with (share top) (filter (λ (sending : Sending). has_commit sending.call) rest)) (each_pair share (filter (λ (sending : Sending). has_commit sending.call) rest)) chosen).0)

          -- another one that waited would be the same
          clash : (sending : Sending) → ((all : Sending → Bool) → list_all all rest ≡ true → all sending ≡ true) → has_commit sending.call ≡ true → sending.taken ≡ None → Fate sending link → ⊥
          clash sending among commits none fate =
              let waits = fate.waits none in
              let out_commits = waits_commits t inv apart new who step taking sending waits in
              let top_commits : has_commit top.call ≡ true =
              last_call t inv who new.machine step state running taking.connection taking.has link taking.there top rest are (eq_to top.connection taking.connection place) at_out.sent at_out.last at_out.own (unmarked_call at_out.sent out_commits) out_commits in
              let both : Some top.ltxid ≡ Some sending.ltxid = sym ((top_fate top_commits).waits untaken).held ∙ waits.held in
              let same : top.ltxid ≡ sending.ltxid = cc in
              share_not top.ltxid top sending (and_from (is_open_or_committed top) (same_ltxid top.ltxid top.ltxid) (ap (λ (taken : Option (List Answer)). option_map_or ends_committed taken true) untaken) (ltxid_self top.ltxid))
              (and_from (is_open_or_committed sending) (same_ltxid top.ltxid sending.ltxid) (ap (λ (taken : Option (List Answer)). option_map_or ends_committed taken true) none) (ap (same_ltxid top.ltxid) (sym same) ∙ ltxid_self top.ltxid)) (committing_from (share top) sending (among (committing (share top)) (shares top_commits)) commits)

          others : list_all new_so rest ≡ true
          others =
              each_among old_so new_so rest
              (λ sending among here. committing_by (fated new.machine.links) sending (λ commits. stays_on sending (λ none fate. absurd (clash sending among commits none fate)) (committing_from (fated t.machine.links) sending here commits))) parts.1

    by_frame : (frame : Down) (shown : Option Shown) → taking.reply.frame ≡ frame → one.done.act.shown ≡ shown → list_all old_so sendings ≡ true → list_all new_so (answered (Took frame link.is_open) shown sendings) ≡ true
    by_frame (down.Reply answers draws x) None says none all = plain_each (λ sending untaken fate. absurd (shows answers draws x says none sending untaken fate)) all
    by_frame (down.Reply answers draws x) (Some shown) says some all =
        by (taken_shows terms step.before.talk step.before.talk.phase (down.Reply answers draws x) link.is_open m.tick shown (sym (ap (λ (input : Input). (talk_step terms step.before.talk input m.tick).1.shown) (act_is (down.Reply answers draws x) says)) ∙ some))
      where
        by : ShowsBy step.before.talk.phase (down.Reply answers draws x) shown → list_all new_so (with_taken answers sendings) ≡ true
        by (ByReply state running same) = answered_all_so answers draws x says state running sendings refl all
        by (ByOutcome asking is same commits) = absurd (let none : ⊥ = cc in none)
    by_frame down.Blocked shown says shows_so all =
        plain_each (λ sending untaken fate. blocked_fate link taking.reply taking.later (known t inv apart new who step taking) taking.down_is m.event (spoken_frames t.setting m who new.machine step) sending (silent_blocked says) says fate untaken) all
    by_frame (down.Hello x) shown says shows_so all = plain_each (not_expected (down.Hello x) says (λ state. refl)) all
    by_frame (down.OutcomeIs committed completed) shown says shows_so all = plain_each (not_expected (down.OutcomeIs committed completed) says (λ state. refl)) all
    by_frame (down.OutcomeRefused ahead horizon) shown says shows_so all = plain_each (not_expected (down.OutcomeRefused ahead horizon) says (λ state. refl)) all
    by_frame (down.Refused cause) shown says shows_so all = plain_each (not_expected (down.Refused cause) says (λ state. refl)) all

    pub taking_mine : list_all old_so sendings ≡ true → list_all new_so scan_now.sendings ≡ true
    taking_mine all =
        subst (λ (input : Input). list_all new_so (answered input one.done.act.shown sendings) ≡ true) (sym taking.heard) (by_frame taking.reply.frame one.done.act.shown refl refl all)

    -- where a call is sent behind it, one that waited was the call that is shown now
    pub shown_behind : list_any is_unmarked_frame one.done.act.send ≡ true → (sending : Sending) → sending.taken ≡ None → Fate sending link → is_some one.done.act.shown ≡ true
    shown_behind calls sending untaken fate = by taking.reply.frame one.done.act.shown refl refl
      where
        by : (frame : Down) (shown : Option Shown) → taking.reply.frame ≡ frame → one.done.act.shown ≡ shown → is_some shown ≡ true
        by (down.Reply answers draws x) (Some shown) says some = refl
        by (down.Reply answers draws x) None says none = absurd (shows answers draws x says none sending untaken fate)
        by down.Blocked shown says some =
            absurd (let never : false ≡ true = subst (λ (input : Input). list_any is_unmarked_frame (talk_step terms step.before.talk input m.tick).1.send ≡ true) (act_is down.Blocked says) calls in let nothing : ⊥ = cc in nothing)
        by (down.Hello x) shown says some = absurd (never_expected (down.Hello x) says (λ state. refl) sending untaken fate)
        by (down.OutcomeIs committed completed) shown says some = absurd (never_expected (down.OutcomeIs committed completed) says (λ state. refl) sending untaken fate)
        by (down.OutcomeRefused ahead horizon) shown says some = absurd (never_expected (down.OutcomeRefused ahead horizon) says (λ state. refl) sending untaken fate)
        by (down.Refused cause) shown says some = absurd (never_expected (down.Refused cause) says (λ state. refl) sending untaken fate)

    -- and so it was where the request ends with it
    pub shown_ending : (one.done.act.hold ≡ hold.Keep → ⊥) → (sending : Sending) → sending.taken ≡ None → Fate sending link → is_some one.done.act.shown ≡ true
    shown_ending lets sending untaken fate = by taking.reply.frame one.done.act.shown refl refl
      where
        by : (frame : Down) (shown : Option Shown) → taking.reply.frame ≡ frame → one.done.act.shown ≡ shown → is_some shown ≡ true
        by (down.Reply answers draws x) (Some shown) says some = refl
        by (down.Reply answers draws x) None says none = absurd (shows answers draws x says none sending untaken fate)
        by down.Blocked shown says some = absurd (lets (ap (λ (input : Input). (talk_step terms step.before.talk input m.tick).1.hold) (act_is down.Blocked says)))
        by (down.Hello x) shown says some = absurd (never_expected (down.Hello x) says (λ state. refl) sending untaken fate)
        by (down.OutcomeIs committed completed) shown says some = absurd (never_expected (down.OutcomeIs committed completed) says (λ state. refl) sending untaken fate)
        by (down.OutcomeRefused ahead horizon) shown says some = absurd (never_expected (down.OutcomeRefused ahead horizon) says (λ state. refl) sending untaken fate)
        by (down.Refused cause) shown says some = absurd (never_expected (down.Refused cause) says (λ state. refl) sending untaken fate)

    pub waits_at : (sending : Sending) → sending.taken ≡ None → Fate sending link → sending.at ≡ (scan_by mine step.before.steps).shown
    waits_at sending untaken fate =
        let waits = fate.waits untaken in
        let at = runs sending waits in
        let called : at_out.sent.call ≡ at.0.track.call = call_at at.0.track.call at_out.sent at_out.sent.frame (subst (λ (p : Phase). is_awaited p at_out.sent ≡ true) at.1 at_out.awaited) in
        let own : at_out.sent.call ≡ sending.at =
        eq_from at_out.sent.call sending.at
        (and_parts (owned_by sending.owner at_out.sent) (at_out.sent.call == sending.at) (and_parts (is_commit_call at_out.sent) (owned_by sending.owner at_out.sent && (at_out.sent.call == sending.at)) (waits_out t inv apart new who step taking sending waits)).1).1 in
        let so = at_before t.setting m inv.script.talks who new.machine step in
        let counted : at.0.track.call ≡ (scan_by mine step.before.steps).shown = eq_from at.0.track.call (scan_by mine step.before.steps).shown (subst (λ (p : Phase). counts_so (scan_by mine step.before.steps).shown p ≡ true) at.1 so.shown) in
        sym own ∙ (called ∙ counted)
      where
        call_at : (index : ℕ) (sent : Sent) (frame : Up) → is_call false index sent frame ≡ true → sent.call ≡ index
        call_at index sent (up.Call false kept call) is = eq_from sent.call index is
        call_at index sent (up.Call true kept call) is = absurd (let none : ⊥ = cc in none)
        call_at index sent frame is = absurd (let none : ⊥ = cc in none)
