-- Where a request has asked for an outcome and the entry of that identifier is there: it sent its
-- next call under the identifier, and no reply to it was taken.
use Rattle.std.proofs.Common.{◌≡◌, refl, sym, ap, subst, ◌∙◌, Bool, true, false, ℕ, ◌&&◌, length, List, [], ◌∷◌, filter, Option, Some, None, if◌then◌else◌}
use Rattle.std.specs.Prelude.{◌==◌, is_some, flat_map, option_map}
use Rattle.std.specs.Cmp.Lexicographic.{pointwise}
use Rattle.std.specs.List.{list_all, list_any}
use Rattle.std.specs.Option.{option_map_or, option_or}
use Rattle.std.proofs.lemmas.Bool.{and_parts, and_from}
use Rattle.std.proofs.lemmas.List.Folds.{list_all-append}
use Rattle.svc_values.specs.declared.entry.Ltxid.{Ltxid}
use Rattle.svc_values.specs.declared.frame.Down.TheVariants as down
use Rattle.svc_values.specs.meaning.Calls.{has_commit}
use Rattle.svc_values.specs.meaning.Identifiers.{same_ltxid}
use Rattle.svc_values.specs.meaning.Same.{same_bool}
use Rattle.svc_values.specs.SameLaws.{same_ltxid_decides}
use Rattle.outage_schedule.specs.declared.document.Request.{Request}
use Rattle.run_clauses.specs.meaning.Outcomes.{completed_of}
use Rattle.client_model.specs.declared.input.Input.TheVariants.{Took}
use Rattle.client_model.specs.meaning.States.{Asking}
use Rattle.client_model.specs.meaning.Terms.{Phase, Asked}
use Rattle.world_model.specs.meaning.Clients.{Client, Doing, begun, client_at}
use Rattle.invariant_laws.specs.Invariant.{Invariant}
use Rattle.world_model.specs.meaning.Links.{Link, link_at}
use Rattle.invariant_laws.specs.Lost.{lost_links, is_wanted, same_event, is_next, is_asked_next, wants_next}
use Rattle.world_model.specs.meaning.Machines.{Machine}
use Rattle.world_model.specs.records.Number.{is_ahead, ahead_rightly}
use Rattle.invariant_laws.specs.Once.{has_fate, notes_sendings}
use Rattle.world_model.specs.Parts.{Sending, implies, scan_of, sendings_of, commit_sendings}
use Rattle.world_model.specs.records.Script.{is_sending_of}
use Rattle.invariant_laws.specs.Shown.{calls_on, ends_own, is_current, is_row, rows_on}
use Rattle.world_model.specs.Traced.{Traced, Course, course_now, courses_of}
use Rattle.world_model.specs.Wanted.{Wanted, wanted_in}
use Rattle.world_model.specs.Words.{held_in}
use Rattle.world_model.proofs.Offered.{at_link, HasStepped, at_event, doing_course, scan_by, calls_of, on_of, eq_from}
use Rattle.invariant_laws.proofs.losses.AskedAnswers.{told_now}
use Rattle.invariant_laws.proofs.losses.AskedNear.{any_all}
use Rattle.invariant_laws.proofs.sendings.CommittedSendings.{is_unanswered, fated, committed_sending}
use Rattle.invariant_laws.proofs.losses.KeptLost.{entry_counts, one_ahead}
use Rattle.invariant_laws.proofs.losses.LostKept.{both_all}
use Rattle.invariant_laws.proofs.losses.LostLists.{lost_of}
use Rattle.invariant_laws.proofs.sendings.SendingsTaken.{taken_among, scan_among}

-- LISTS -------------------------------------------------------------------------------------------

-- what holds of all of the lists holds of all of each
pub each_flat : {A B : Type 0} (test : B → Bool) (parts : A → List B) (xs : List A) → list_all test (flat_map parts xs) ≡ true → list_all (λ x. list_all test (parts x)) xs ≡ true
each_flat test parts [] all = refl
each_flat test parts (x ∷ xs) all =
    let both = and_parts (list_all test (parts x)) (list_all test (flat_map parts xs)) (sym (list_all-append test (parts x) (flat_map parts xs)) ∙ all) in
    and_from (list_all test (parts x)) (list_all (λ y. list_all test (parts y)) xs) both.0 (each_flat test parts xs both.1)

-- what holds of those that a filter leaves in
pub unfiltered : {A : Type 0} (test keep : A → Bool) (xs : List A) → list_all test (filter keep xs) ≡ true → list_all (λ x. implies (keep x) (test x)) xs ≡ true
unfiltered test keep [] all = refl
unfiltered test keep (x ∷ xs) all = by (keep x) all (λ later. unfiltered test keep xs later)
  where
    by : (kept : Bool) → list_all test (if kept then x ∷ filter keep xs else filter keep xs) ≡ true → (list_all test (filter keep xs) ≡ true → list_all (λ y. implies (keep y) (test y)) xs ≡ true)
        → (implies kept (test x) && list_all (λ y. implies (keep y) (test y)) xs) ≡ true
    by true all later = let parts = and_parts (test x) (list_all test (filter keep xs)) all in and_from (test x) (list_all (λ y. implies (keep y) (test y)) xs) parts.0 (later parts.1)
    by false all later = later all

-- of the connections that a request lost, what holds of all that it held
lost_all : (test : ℕ → Bool) (has : Bool) (numbers : List ℕ) → list_all test numbers ≡ true → list_all test (lost_of has numbers) ≡ true
lost_all test false numbers all = all
lost_all test true [] all = refl
lost_all test true (number ∷ []) all = refl
lost_all test true (number ∷ next ∷ others) all =
    let parts = and_parts (test number) (list_all test (next ∷ others)) all in and_from (test number) (list_all test (lost_of true (next ∷ others))) parts.0 (lost_all test true (next ∷ others) parts.1)

-- A STATE -----------------------------------------------------------------------------------------

module _ (t : Traced) (whole : Invariant t) (who : ℕ) (client : Client) (here : client_at t.machine.clients who ≡ Some client) (doing : Doing) (now : client.now ≡ Some doing) (asking : Asking) (completed : Bool)
    (stands : option_map_or (same_bool completed) (completed_of t.entries asking.ltxid) false ≡ true) (phase : doing.talk.phase ≡ Asked asking) where
  abbrev before : Course
  before = course_now t.setting who (length client.past) doing

  abbrev count : ℕ
  count = length before.report.calls

  abbrev x : Ltxid
  x = asking.ltxid

  abbrev wanted : Wanted
  wanted = record { ltxid = asking.ltxid; event = asking.event }

  -- none of those sendings was answered that are of the next call
  all_taken : list_all (taken_among count) (sendings_of before) ≡ true
  all_taken = subst (λ (n : ℕ). list_all (taken_among n) (sendings_of before) ≡ true) same (scan_among (scan_by before.owner []) doing.steps refl)
    where
      same : (scan_by before.owner doing.steps).shown ≡ count
      same = eq_from (scan_of before).shown count (and_parts ((scan_of before).shown == count) _ (doing_course notes_sendings t who client doing whole.once.noted here now)).0

  all_fated : list_all (fated t.machine.links) (sendings_of before) ≡ true
  all_fated =
      unfiltered (λ (s : Sending). option_map_or (has_fate s) (link_at t.machine.links s.connection) false) (λ (s : Sending). has_commit s.call) (sendings_of before)
      (doing_course (λ course. list_all (λ (s : Sending). option_map_or (has_fate s) (link_at t.machine.links s.connection) false) (commit_sendings course)) t who client doing
      (each_flat (λ (s : Sending). option_map_or (has_fate s) (link_at t.machine.links s.connection) false) commit_sendings (courses_of t) whole.once.fates) here now)

  abbrev asked_test : ℕ → Bool
  asked_test number = option_map_or (λ link. is_wanted link wanted && is_next count link) (link_at t.machine.links number) false

  abbrev own_test : ℕ → Bool
  own_test number = option_map_or (ends_own before) (link_at t.machine.links number) false

  abbrev sent_test : ℕ → Bool
  sent_test number = option_map_or (λ link. pointwise is_sending_of (calls_of before.owner link.sent) (on_of number (sendings_of before))) (link_at t.machine.links number) false

  -- a row of the script's calls was sent on it
  abbrev row_test : ℕ → Bool
  row_test number = option_map_or (λ link. is_row before (is_current before number) (calls_on before link)) (link_at t.machine.links number) false

  -- The connection whose identifier is asked is one ahead of what it holds, and what is out there
  -- is the request's next call, without the mark.
  pub record AskedOn : Type 0 where
    pub number : ℕ
    pub link : Link
    pub there : link_at t.machine.links number ≡ Some link
    pub held : link.held ≡ Some x
    pub ahead : is_ahead t link ≡ true
    pub next : is_next count link ≡ true
    pub own : ends_own before link ≡ true
    pub sent : pointwise is_sending_of (calls_of before.owner link.sent) (on_of number (sendings_of before)) ≡ true
    pub row : is_row before (is_current before number) (calls_on before link) ≡ true

  pub asked_on : AskedOn
  asked_on =
      let two = and_parts (own_test found.0) (sent_test found.0 && row_test found.0) found.2 in
      let three = and_parts (sent_test found.0) (row_test found.0) two.1 in
      at found.0 (link_at t.machine.links found.0) refl found.1 two.0 three.0 three.1
    where
      asked : list_any asked_test (lost_links before) ≡ true
      asked =
          sym (ap (λ (one : Option Wanted). option_map_or (is_asked_next t before) one true) (ap wanted_in phase))
          ∙ doing_course (wants_next t) t who client doing whole.lost.next here now

      own : list_all own_test (lost_links before) ≡ true
      own = doing_course (λ course. list_all (λ number. option_map_or (ends_own course) (link_at t.machine.links number) false) (lost_links course)) t who client doing whole.shown.own here now

      sent : list_all sent_test (lost_links before) ≡ true
      sent =
          lost_all sent_test (is_some doing.connection) (held_in doing.steps)
          (doing_course (λ course. list_all (λ number. option_map_or (λ link. pointwise is_sending_of (calls_of course.owner link.sent) (on_of number (sendings_of course))) (link_at t.machine.links number) false) (held_in course.steps)) t who client doing
          whole.orderly.script.sent here now)

      row : list_all row_test (lost_links before) ≡ true
      row = lost_all row_test (is_some doing.connection) (held_in doing.steps) (doing_course (rows_on t) t who client doing whole.shown.rows here now)

      found : (number : ℕ) × (asked_test number ≡ true) × ((own_test number && (sent_test number && row_test number)) ≡ true)
      found =
          let one = any_all asked_test (λ number. own_test number && (sent_test number && row_test number)) (lost_links before) asked
          (both_all own_test (λ number. sent_test number && row_test number) (lost_links before) own (both_all sent_test row_test (lost_links before) sent row)) in
          (one.0, one.1.0, one.1.1)

      on : (number : ℕ) (link : Link) (held : Option Ltxid) → link_at t.machine.links number ≡ Some link → link.held ≡ held → option_map_or (same_ltxid x) held false ≡ true → is_next count link ≡ true → ends_own before link ≡ true
          → pointwise is_sending_of (calls_of before.owner link.sent) (on_of number (sendings_of before)) ≡ true → is_row before (is_current before number) (calls_on before link) ≡ true → AskedOn
      on number link None there held same next owns agrees rows = absurd (let none : ⊥ = cc in none)
      on number link (Some y) there held same next owns agrees rows =
          let equal : x ≡ y = (same_ltxid_decides x y).0 same in
          let holds : link.held ≡ Some x = held ∙ ap Some (sym equal) in
          let less = entry_counts t.entries x completed stands whole.orderly.number.entries in
          record {
            number = number;
            link = link;
            there = there;
            held = holds;
            ahead = one_ahead t whole.orderly.basic.named whole.orderly.number number link x there holds less;
            next = next;
            own = owns;
            sent = agrees;
            row = rows;
          }

      at : (number : ℕ) (one : Option Link) → link_at t.machine.links number ≡ one → asked_test number ≡ true → own_test number ≡ true → sent_test number ≡ true → row_test number ≡ true → AskedOn
      at number None there here owns agrees rows = absurd (let never : false ≡ true = sym (ap (λ (l : Option Link). option_map_or (λ link. is_wanted link wanted && is_next count link) l false) there) ∙ here in let none : ⊥ = cc in none)
      at number (Some link) there here owns agrees rows =
          let so : (is_wanted link wanted && is_next count link) ≡ true = sym (ap (λ (l : Option Link). option_map_or (λ one. is_wanted one wanted && is_next count one) l false) there) ∙ here in
          let parts = and_parts (is_wanted link wanted) (is_next count link) so in
          on number link link.held there refl (and_parts (option_map_or (same_ltxid x) link.held false) (same_event link.ended asking.event) parts.0).0 parts.1
          (sym (ap (λ (l : Option Link). option_map_or (ends_own before) l false) there) ∙ owns)
          (sym (ap (λ (l : Option Link). option_map_or (λ one. pointwise is_sending_of (calls_of before.owner one.sent) (on_of number (sendings_of before))) l false) there) ∙ agrees)
          (sym (ap (λ (l : Option Link). option_map_or (λ one. is_row before (is_current before number) (calls_on before one)) l false) there) ∙ rows)

  pub asked_sent : list_any (is_unanswered x count) (sendings_of before) ≡ true
  asked_sent =
      committed_sending t.machine.links count asked_on.number asked_on.link x asked_on.there asked_on.held t before (sendings_of before) asked_on.ahead
      (at_link (ahead_rightly t) t.machine.links asked_on.number asked_on.link whole.orderly.number.ahead asked_on.there) asked_on.next asked_on.own asked_on.sent
      (both_all (taken_among count) (fated t.machine.links) (sendings_of before) all_taken all_fated)

-- A STEP ------------------------------------------------------------------------------------------

abbrev has_asked : Phase → Bool
has_asked (Asked asking) = true
has_asked _ = false

-- a request that asked for an outcome was in course before the event
pub asks_before : (t : Traced) (who : ℕ) (n : Machine) (step : HasStepped t.setting (at_event t.machine) who n) (asking : Asking) → step.before.talk.phase ≡ Asked asking → step.client.now ≡ Some step.before
asks_before t who n step asking phase = by step.client.now refl step.client.next step.does
  where
    by : (found : Option Doing) → step.client.now ≡ found → (next : Option Request) → option_or found (option_map (begun t.setting.terms (at_event t.machine).event (at_event t.machine).tick) next) ≡ Some step.before → step.client.now ≡ Some step.before
    by (Some doing) is next does = is ∙ does
    by None is (Some request) does =
        let same : begun t.setting.terms (at_event t.machine).event (at_event t.machine).tick request ≡ step.before = cc in
        absurd (let never : false ≡ true = ap (λ (doing : Doing). has_asked doing.talk.phase) same ∙ ap has_asked phase in let none : ⊥ = cc in none)
    by None is None does = absurd (let none : ⊥ = cc in none)

-- so where it takes an outcome that says committed
pub sent_one : (t : Traced) (whole : Invariant t) (who : ℕ) (n : Machine) (step : HasStepped t.setting (at_event t.machine) who n) (asking : Asking) (completed alive : Bool) → step.input ≡ Took (down.OutcomeIs true completed) alive
    → step.before.talk.phase ≡ Asked asking
    → list_any (is_unanswered asking.ltxid (length (course_now t.setting who (length step.client.past) step.before).report.calls)) (sendings_of (course_now t.setting who (length step.client.past) step.before)) ≡ true
sent_one t whole who n step asking completed alive input phase =
    asked_sent t whole who step.client step.here step.before (asks_before t who n step asking phase) asking completed (told_now t whole.orderly whole.shown.answers who n step asking true completed alive input phase) phase
