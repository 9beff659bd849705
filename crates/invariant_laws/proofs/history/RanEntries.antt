-- The entry of a number of a connection's session has the pieces of the transaction of this number
-- that the connection ran, and the settings at its start.
use Rattle.std.proofs.Common.{◌≡◌, refl, sym, ap, ◌∙◌, ℕ, ◌&&◌, Bool, true, false, not, List, ◌++◌, filter, Option, Some, None}
use Rattle.std.specs.Prelude.{◌==◌, is_some, option_and_then, slice_get}
use Rattle.std.specs.List.{list_all, last_or}
use Rattle.std.specs.Option.{option_map_or}
use Rattle.std.proofs.lemmas.Bool.{and_parts, and_from, not-true}
use Rattle.svc_values.specs.declared.entry.Entry.{Entry}
use Rattle.svc_values.specs.declared.entry.SessionId.{SessionId}
use Rattle.svc_values.specs.meaning.SettingsList.{same_settings}
use Rattle.outage_schedule.specs.declared.document.Document.{Document}
use Rattle.outage_schedule.specs.declared.event.Event.{Event}
use Rattle.outage_schedule.specs.declared.item.Served.{Served}
use Rattle.outage_schedule.specs.declared.note.Note.{Note}
use Rattle.server_model.specs.Items.{items_of}
use Rattle.server_model.specs.Laws.{RunsLegal}
use Rattle.server_model.specs.meaning.Legal.{items_hold, lines_of, lines_stand}
use Rattle.server_model.specs.Seen.{Seen}
use Rattle.server_model.specs.meaning.Walk.{walk_of}
use Rattle.world_model.specs.records.Basic.{none_behind, lives_rightly}
use Rattle.world_model.specs.Orderly.{Orderly}
use Rattle.world_model.specs.meaning.Links.{Link, link_at}
use Rattle.world_model.specs.Parts.{implies}
use Rattle.world_model.specs.Reached.{Reached}
use Rattle.world_model.specs.records.Ready.{all_requests_right}
use Rattle.world_model.specs.RunLaws.{RunsAreOrderly}
use Rattle.invariant_laws.specs.Same.{ran_by, are_pieces, is_session_of, link_of, is_ran, is_started, entries_ran, entries_started}
use Rattle.invariant_laws.specs.SameLaws.{RunsRan, RunsServe, RunsStarted}
use Rattle.world_model.specs.Traced.{Traced}
use Rattle.world_model.specs.records.Wire.{is_sent_front, handled_from, stage_of, is_right}
use Rattle.world_model.proofs.Offered.{at_link, at_all, filter_all, filter_passes, weaker_all, by_index, by_number, reached_coupled, last_all, eq_from, eq_to}
use Rattle.invariant_laws.proofs.history.RanBefore.{counts_none, none_before}
use Rattle.invariant_laws.proofs.history.RanFrames.{link_rests}
use Rattle.invariant_laws.proofs.history.RanHistory.{history_ran}
use Rattle.invariant_laws.proofs.history.RanLists.{is_its, has_pieces_of, has_ran, has_start_of, none_ran, other_ran, ran_pieces, ran_start}

module _ (orderly : RunsAreOrderly) (serve : RunsServe) (legal : RunsLegal) (document : Document) (events : List Event) (notes : List Note) (items : List Served) (seen : Seen) (t : Traced) (calls : all_requests_right document ≡ true)
    (reached : Reached document events notes items seen t) where
  inv : Orderly t
  inv = orderly document events notes items seen t calls reached

  -- a connection
  link_ran : (number : ℕ) (link : Link) (session : SessionId) → link_at t.machine.links number ≡ Some link → link.session ≡ Some session → list_all (has_ran session (ran_by link)) t.entries ≡ true
  unfolding inv
  link_ran number link session there its =
      let coupled = reached_coupled document events notes items seen t reached in
      let gained : List Entry = coupled.history.server.core.entries in
      let none = none_before orderly document events notes items seen t calls reached number link session there its in
      let held = (and_parts (items_hold seen.start (walk_of seen.start gained) (items_of seen.history)) (lines_stand (lines_of (items_of seen.history)) coupled.history.server.core.alerts)
      (legal seen.start seen.history coupled.history.server coupled.sound coupled.history.runs coupled.stops)).0 in
      ap (list_all (has_ran session (ran_by link))) (coupled.entries ∙ coupled.history.entries)
      ∙ history_ran seen.start (seen.start.entries ++ gained) session seen.history (walk_of seen.start gained) link.served none_ran held refl
      (serve document events notes items seen t calls reached number link session there its)
      (at_link (λ l. handled_from 0 l.served) t.machine.links number link inv.wire.handled there)
      (and_parts (none_behind link.served) _ (at_link lives_rightly t.machine.links number link inv.basic.life there)).0
      (link_rests link (at_link is_sent_front t.machine.links number link inv.wire.sent there) (at_link (λ l. is_right (stage_of l)) t.machine.links number link inv.wire.grammar there))
      (record {
        count = counts_none seen.start.entries session none;
        many = refl;
        now = λ is. record { pieces = refl; settings = refl; at_start = refl };
        all = weaker_all (λ entry. not (is_its session entry)) (has_ran session none_ran) seen.start.entries (λ entry is. other_ran session none_ran entry (not-true (is_its session entry) is)) none;
      })

  -- an entry
  its_session : (session : SessionId) (entry : Entry) → ((session.incarnation == entry.ltxid.incarnation) && (session.session == entry.ltxid.session)) ≡ true → is_its session entry ≡ true
  its_session session entry is =
      let parts = and_parts (session.incarnation == entry.ltxid.incarnation) (session.session == entry.ltxid.session) is in
      and_from (entry.ltxid.incarnation == session.incarnation) (entry.ltxid.session == session.session) (eq_to entry.ltxid.incarnation session.incarnation (sym (eq_from session.incarnation entry.ltxid.incarnation parts.0)))
      (eq_to entry.ltxid.session session.session (sym (eq_from session.session entry.ltxid.session parts.1)))

  -- what the history's walk says of it, and so what it has of its connection
  module _ (has : Entry → Link → Bool) (from : (session : SessionId) (link : Link) (entry : Entry) → has_ran session (ran_by link) entry ≡ true → implies (is_its session entry) (has entry link) ≡ true) where
    link_has : (index : ℕ) (entry : Entry) → slice_get t.entries index ≡ Some entry → (number : ℕ) (link : Link) → link_at t.machine.links number ≡ Some link → implies (is_session_of entry link) (has entry link) ≡ true
    link_has index entry at number link there = by link.session refl
      where
        own : (session : SessionId) → link.session ≡ Some session → is_its session entry ≡ true → has entry link ≡ true
        own session its is =
            sym (ap (λ (b : Bool). implies b (has entry link)) is) ∙ from session link entry (at_all (has_ran session (ran_by link)) t.entries index entry (link_ran number link session there its) at)

        test_is : (session : SessionId) → link.session ≡ Some session → (test : Bool) → ((session.incarnation == entry.ltxid.incarnation) && (session.session == entry.ltxid.session)) ≡ test → implies test (has entry link) ≡ true
        test_is session its true is = own session its (its_session session entry is)
        test_is session its false is = refl

        by : (found : Option SessionId) → link.session ≡ found → implies (is_session_of entry link) (has entry link) ≡ true
        by None is = ap (λ (found : Option SessionId). implies (option_map_or (λ session. (session.incarnation == entry.ltxid.incarnation) && (session.session == entry.ltxid.session)) found false) (has entry link)) is
        by (Some session) is =
            ap (λ (found : Option SessionId). implies (option_map_or (λ session. (session.incarnation == entry.ltxid.incarnation) && (session.session == entry.ltxid.session)) found false) (has entry link)) is
            ∙ test_is session is ((session.incarnation == entry.ltxid.incarnation) && (session.session == entry.ltxid.session)) refl

    entry_has : (index : ℕ) (entry : Entry) → slice_get t.entries index ≡ Some entry → option_map_or (has entry) (link_of t entry) true ≡ true
    entry_has index entry at = by (link_of t entry) refl
      where
        good : list_all (λ link. implies (is_session_of entry link) (has entry link)) (filter (is_session_of entry) t.machine.links) ≡ true
        good = filter_all (λ link. implies (is_session_of entry link) (has entry link)) (is_session_of entry) t.machine.links (by_number (λ link. implies (is_session_of entry link) (has entry link)) t.machine.links (link_has index entry at))

        by : (found : Option Link) → last_or None (filter (is_session_of entry) t.machine.links) ≡ found → option_map_or (has entry) found true ≡ true
        by None is = refl
        by (Some link) is =
            let own : is_session_of entry link ≡ true = last_all (is_session_of entry) (filter (is_session_of entry) t.machine.links) link is (filter_passes (is_session_of entry) t.machine.links) in
            sym (ap (λ (test : Bool). implies test (has entry link)) own) ∙ last_all (λ one. implies (is_session_of entry one) (has entry one)) (filter (is_session_of entry) t.machine.links) link is good

  of_link : {A : Type 0} (test : A → Bool) (get : Link → Option A) (found : Option Link) → option_map_or (λ link. option_map_or test (get link) false) found true ≡ true → implies (is_some found) (option_map_or test (option_and_then get found) false) ≡ true
  of_link test get None is = refl
  of_link test get (Some link) is = is

  entry_ran : (index : ℕ) (entry : Entry) → slice_get t.entries index ≡ Some entry → is_ran t entry ≡ true
  entry_ran index entry at =
      of_link (λ dids. are_pieces dids entry.pieces) (λ link. slice_get (ran_by link).over entry.ltxid.number) (link_of t entry) (entry_has (λ one link. has_pieces_of (ran_by link) one) (λ session link one. ran_pieces session (ran_by link) one) index entry at)

  entry_started : (index : ℕ) (entry : Entry) → slice_get t.entries index ≡ Some entry → is_started t entry ≡ true
  entry_started index entry at =
      of_link (same_settings entry.settings) (λ link. slice_get (ran_by link).starts entry.ltxid.number) (link_of t entry) (entry_has (λ one link. has_start_of (ran_by link) one) (λ session link one. ran_start session (ran_by link) one) index entry at)

  pub entries_have_run : entries_ran t ≡ true
  entries_have_run = by_index (is_ran t) t.entries entry_ran

  pub entries_have_started : entries_started t ≡ true
  entries_have_started = by_index (is_started t) t.entries entry_started

pub runs_ran : RunsAreOrderly → RunsServe → RunsLegal → RunsRan
runs_ran orderly serve legal document events notes items seen t calls reached = entries_have_run orderly serve legal document events notes items seen t calls reached

pub runs_started : RunsAreOrderly → RunsServe → RunsLegal → RunsStarted
runs_started orderly serve legal document events notes items seen t calls reached = entries_have_started orderly serve legal document events notes items seen t calls reached
