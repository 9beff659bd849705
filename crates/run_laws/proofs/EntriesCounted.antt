-- Of each connection: behind a frame that its session answered, as many entries were stored of this
-- session by the event as it had answered Committed. Wherever the run has come to that a report
-- tells.
use Rattle.std.proofs.Common.{◌≡◌, refl, sym, ap, subst, ◌∙◌, Bool, true, false, ℕ, ◌+◌, ◌<◌, ◌≤◌, ◌&&◌, ◌||◌, length, List, [], ◌∷◌, ◌++◌, map, count_by, cond, Option, Some, None, ◌⊎◌, inl, inr, arith}
use Rattle.std.specs.Prelude.{◌==◌, IsTrue, nat_le, nat_lt, is_none, is_some}
use Rattle.std.specs.List.{list_all, last_or}
use Rattle.std.specs.Option.{option_map_or}
use Rattle.std.proofs.lemmas.Bool.{and_parts, and_from, or_cases, or_left, or_right}
use Rattle.std.proofs.lemmas.List.Sums.{sum_by-cons}
use Rattle.svc_values.specs.declared.entry.Entry.{Entry}
use Rattle.svc_values.specs.declared.entry.SessionId.{SessionId}
use Rattle.svc_values.specs.declared.frame.Down.{Down}
use Rattle.svc_values.specs.meaning.Identifiers.{same_session, is_of_session}
use Rattle.svc_values.specs.meaning.Same.{same_bool}
use Rattle.svc_values.specs.SameLaws.{same_session_decides}
use Rattle.commit_log.specs.Keeping.{EachKeeps}
use Rattle.outage_schedule.specs.declared.document.Document.{Document}
use Rattle.outage_schedule.specs.declared.event.Event.{Event}
use Rattle.outage_schedule.specs.declared.item.Served.{Served}
use Rattle.outage_schedule.specs.declared.note.Note.{Note}
use Rattle.outage_schedule.specs.declared.report.Report.{Report}
use Rattle.run_clauses.specs.meaning.Before.{journal_before}
use Rattle.run_clauses.specs.meaning.EntryEvents.{StoredEntry, stored_entries, stored_before, stored_up_to, entries_of}
use Rattle.server_model.specs.Laws.{EntryNumbers}
use Rattle.server_model.specs.Runs.{Server}
use Rattle.server_model.specs.Seen.{Seen}
use Rattle.world_model.specs.records.Basic.{item_events, is_named, first_is_connect}
use Rattle.world_model.specs.meaning.Crashing.{is_crashed_item}
use Rattle.run_laws.specs.EntryCounts.{RunsOn, OneMore, stored_by, is_counted_by, are_counted_from, are_counted, RunsCountEntries, FinishesCountEntries}
use Rattle.world_model.specs.meaning.Frames.{Handled}
use Rattle.world_model.specs.Orderly.{Orderly}
use Rattle.world_model.specs.meaning.Links.{Link}
use Rattle.world_model.specs.meaning.Machines.{Machine}
use Rattle.world_model.specs.records.Number.{is_stopped_call, is_counted, last_is_stopped_commit}
use Rattle.world_model.specs.OneEvent.{OneEvent}
use Rattle.world_model.specs.Parts.{implies, number_of, is_commit_call}
use Rattle.world_model.specs.Reached.{Reached, Begins, GoesOn}
use Rattle.world_model.specs.records.Ready.{all_requests_right}
use Rattle.world_model.specs.Reported.{IsReported}
use Rattle.world_model.specs.RunLaws.{RunsAreOrderly}
use Rattle.world_model.specs.Sames.{each_pair, all_with}
use Rattle.world_model.specs.meaning.Serving.{Front, is_of_front, is_item_of, reply_of, after_front}
use Rattle.world_model.specs.Traced.{Traced}
use Rattle.world_model.specs.records.Wire.{is_handled, counted_with, handled_from, same_replies}
use Rattle.world_model.proofs.Offered.{Keeps, links_keep, every_all, weaker_all, opens_once, sends_alike, handled_alike, cut_case, fallen_case, last_pushed, Followed, follow_happens, at_event, commits_behind, is_commit_of, behind_is, items_at, event_of_item, no_test, counts_commits, stopped_item, reached_start, reached_coupled, finishing_reached, eq_from, eq_to, le_from, le_to, lt_from, lt_to, not_both}
use Rattle.run_laws.proofs.EntriesThen.{later_of, stored_then}
use Rattle.run_laws.proofs.RunTells.{HasCome, reached_come}

-- UP TO AN EVENT ----------------------------------------------------------------------------------

module _ (count : SessionId → ℕ → ℕ) where
  -- of the frames that were served up to an event
  abbrev pub upto : ℕ → ℕ → List Handled → Bool
  upto limit commits [] = true
  upto limit commits (one ∷ others) = (nat_lt limit one.served.event || is_counted_by count (counted_with commits one.served.item) one) && upto limit (counted_with commits one.served.item) others

  all_upto : (limit commits : ℕ) (served : List Handled) → are_counted_from count commits served ≡ true → upto limit commits served ≡ true
  all_upto limit commits [] all = refl
  all_upto limit commits (one ∷ others) all =
      let now : ℕ = counted_with commits one.served.item in
      let parts = and_parts (is_counted_by count now one) (are_counted_from count now others) all in
      and_from (nat_lt limit one.served.event || is_counted_by count now one) (upto limit now others) (or_right (nat_lt limit one.served.event) (is_counted_by count now one) parts.0) (all_upto limit now others parts.1)

  -- one that is served later
  upto_more : (limit commits : ℕ) (served : List Handled) (one : Handled) → upto limit commits served ≡ true → nat_lt limit one.served.event ≡ true → upto limit commits (served ++ one ∷ []) ≡ true
  upto_more limit commits [] one all later =
      let now : ℕ = counted_with commits one.served.item in
      and_from (nat_lt limit one.served.event || is_counted_by count now one) true (or_left (nat_lt limit one.served.event) (is_counted_by count now one) later) refl
  upto_more limit commits (first ∷ others) one all later =
      let now : ℕ = counted_with commits first.served.item in
      let parts = and_parts (nat_lt limit first.served.event || is_counted_by count now first) (upto limit now others) all in
      and_from (nat_lt limit first.served.event || is_counted_by count now first) (upto limit now (others ++ one ∷ [])) parts.0 (upto_more limit now others one parts.1 later)

  abbrev upto_link : ℕ → Link → Bool
  upto_link limit link = upto limit 0 link.served

  served_upto : (m : Machine) (limit : ℕ) → m.event ≡ limit + 1 → (front : Front) (served : Served) (reply : Option Down) → is_of_front m front served ≡ true → upto limit 0 front.link.served ≡ true
      → upto limit 0 (after_front front served reply).served ≡ true
  served_upto m limit next front served reply of old =
      let at : served.event ≡ m.event = event_of_item m front served of in
      upto_more limit 0 front.link.served (record { sent = front.first; served = served; reply = reply }) old (lt_to limit served.event (omega (arith, at, next)))

  -- whatever happens in the event behind it
  upto_keep : (m : Machine) (limit : ℕ) → m.event ≡ limit + 1 → Keeps m no_test (upto_link limit)
  upto_keep m limit next = record {
    at_new = λ up. refl;
    at_sends = λ frames link here. sends_alike (λ one. upto_link limit one ≡ true) m.event frames link here here;
    at_takes = λ reply left link old here down. here;
    at_serves = λ number front served at ordinary old here.
        let of : is_of_front m front served ≡ true = (and_parts (is_of_front m front served) (is_item_of front.first.frame served.item) ordinary).0 in
        handled_alike (λ one. upto_link limit one ≡ true) m.event front served (λ reply. served_upto m limit next front served reply of here) (λ reply. served_upto m limit next front served reply of here);
    at_stops = λ number after front served at stopped old here.
        let of : is_of_front m front served ≡ true = (and_parts (is_of_front m front served) _ stopped).0 in
        fallen_case (λ one. upto_link limit one ≡ true) m.event (after_front front served None) (λ is. served_upto m limit next front served None of here) (λ is. served_upto m limit next front served None of here);
    at_cuts = λ up down link opens here. cut_case (λ one. upto_link limit one ≡ true) m.event up down link opens here;
    at_reaps = λ link orphan here. here;
    at_falls = λ link here. fallen_case (λ one. upto_link limit one ≡ true) m.event link (λ is. here) (λ is. here);
  }

  -- THE LAST FRAME --------------------------------------------------------------------------------

  -- it is right where it is of this event
  abbrev LastIs : ℕ → ℕ → List Handled → Type 0
  LastIs event commits served = (before : List Handled) (one : Handled) → served ≡ before ++ one ∷ [] → one.served.event ≡ event → is_counted_by count (counted_with (commits_behind commits before) one.served.item) one ≡ true

  abbrev events : List Handled → List ℕ
  events served = map (λ one. one.served.event) served

  none_later : (event : ℕ) (one : Handled) (others : List Handled) → one.served.event ≡ event → all_with (nat_lt one.served.event) (map (λ (other : Handled). other.served.event) others) ≡ true
      → list_all (λ (n : ℕ). nat_le n event) (map (λ (other : Handled). other.served.event) others) ≡ true → others ≡ []
  none_later event one [] is rise below = refl
  none_later event one (next ∷ others) is rise below =
      let later : one.served.event < next.served.event = lt_from one.served.event next.served.event (and_parts (nat_lt one.served.event next.served.event) _ rise).0 in
      let most : next.served.event ≤ event = le_from next.served.event event (and_parts (nat_le next.served.event event) _ below).0 in
      absurd (let none : ⊥ = omega (arith, later, most, is) in none)

  upto_now : (limit event commits : ℕ) (served : List Handled) → event ≡ limit + 1 → upto limit commits served ≡ true → each_pair nat_lt (map (λ (other : Handled). other.served.event) served) ≡ true
      → list_all (λ (n : ℕ). nat_le n event) (map (λ (other : Handled). other.served.event) served) ≡ true → LastIs event commits served → are_counted_from count commits served ≡ true
  upto_now limit event commits [] next all rise below last = refl
  upto_now limit event commits (one ∷ others) next all rise below last =
      and_from (is_counted_by count now one) (are_counted_from count now others) (by (or_cases (nat_lt limit one.served.event) (is_counted_by count now one) parts.0))
      (upto_now limit event now others next parts.1 pairs.1 most.1 (λ before other same at. last (one ∷ before) other (ap (λ (l : List Handled). one ∷ l) same) at))
    where
      now : ℕ
      now = counted_with commits one.served.item

      parts : ((nat_lt limit one.served.event || is_counted_by count (counted_with commits one.served.item) one) ≡ true) × (upto limit (counted_with commits one.served.item) others ≡ true)
      parts = and_parts (nat_lt limit one.served.event || is_counted_by count (counted_with commits one.served.item) one) (upto limit (counted_with commits one.served.item) others) all

      pairs : (all_with (nat_lt one.served.event) (map (λ (other : Handled). other.served.event) others) ≡ true) × (each_pair nat_lt (map (λ (other : Handled). other.served.event) others) ≡ true)
      pairs = and_parts (all_with (nat_lt one.served.event) (map (λ (other : Handled). other.served.event) others)) (each_pair nat_lt (map (λ (other : Handled). other.served.event) others)) rise

      most : (nat_le one.served.event event ≡ true) × (list_all (λ (n : ℕ). nat_le n event) (map (λ (other : Handled). other.served.event) others) ≡ true)
      most = and_parts (nat_le one.served.event event) (list_all (λ (n : ℕ). nat_le n event) (map (λ (other : Handled). other.served.event) others)) below

      by : (nat_lt limit one.served.event ≡ true) ⊎ (is_counted_by count (counted_with commits one.served.item) one ≡ true) → is_counted_by count (counted_with commits one.served.item) one ≡ true
      by (inr is) = is
      by (inl later) =
          let above : limit < one.served.event = lt_from limit one.served.event later in
          let bound : one.served.event ≤ event = le_from one.served.event event most.0 in
          let at : one.served.event ≡ event = omega (arith, above, bound, next) in
          last [] one (ap (λ (l : List Handled). one ∷ l) (none_later event one others at pairs.0 most.1)) at

-- WHAT A SESSION HAS ------------------------------------------------------------------------------

some_none : (reply : Option Down) → is_some reply ≡ true → is_none reply ≡ true → ⊥
some_none None some none = let never : ⊥ = cc in never
some_none (Some frame) some none = let never : ⊥ = cc in never

-- a frame that was answered was not stopped
not_stopped : (commits : ℕ) (one : Handled) → is_some one.reply ≡ true → is_handled commits one ≡ true → is_stopped_call one.served.item ≡ false
not_stopped commits one some handled =
    by (or_cases (is_item_of one.sent.frame one.served.item && same_replies one.reply (reply_of one.served.session commits one.served.item)) (is_crashed_item one.sent.frame one.served.item && is_none one.reply) handled)
  where
    by : ((is_item_of one.sent.frame one.served.item && same_replies one.reply (reply_of one.served.session commits one.served.item)) ≡ true) ⊎ ((is_crashed_item one.sent.frame one.served.item && is_none one.reply) ≡ true)
        → is_stopped_call one.served.item ≡ false
    by (inl so) = stopped_item one.sent.frame one.served.item (and_parts (is_item_of one.sent.frame one.served.item) (same_replies one.reply (reply_of one.served.session commits one.served.item)) so).0
    by (inr so) = absurd (some_none one.reply some (and_parts (is_crashed_item one.sent.frame one.served.item) (is_none one.reply) so).1)

handled_last : (commits : ℕ) (before : List Handled) (one : Handled) → handled_from commits (before ++ one ∷ []) ≡ true → is_handled (counted_with (commits_behind commits before) one.served.item) one ≡ true
handled_last commits [] one handled = (and_parts (is_handled (counted_with commits one.served.item) one) true handled).0
handled_last commits (first ∷ before) one handled =
    let now : ℕ = counted_with commits first.served.item in
    handled_last now before one (and_parts (is_handled now first) (handled_from now (before ++ one ∷ [])) handled).1

behind_last : (commits : ℕ) (before : List Handled) (one : Handled) → commits_behind commits (before ++ one ∷ []) ≡ counted_with (commits_behind commits before) one.served.item
behind_last commits [] one = refl
behind_last commits (first ∷ before) one = behind_last (counted_with commits first.served.item) before one

own_last : (found : Option SessionId) (before : List Handled) (one : Handled) → list_all (λ other. option_map_or (same_session other.served.session) found false) (before ++ one ∷ []) ≡ true → found ≡ Some one.served.session
own_last None [] one all = absurd (let none : ⊥ = cc in none)
own_last (Some session) [] one all = ap Some (sym ((same_session_decides one.served.session session).0 (and_parts (same_session one.served.session session) true all).0))
own_last found (first ∷ before) one all =
    own_last found before one (and_parts (option_map_or (same_session first.served.session) found false) (list_all (λ other. option_map_or (same_session other.served.session) found false) (before ++ one ∷ [])) all).1

-- what is known of a connection: its items are its session's, and this counts what was answered
-- Committed
record Counts (t : Traced) (link : Link) : Type 0 where
  pub handled : handled_from 0 link.served ≡ true
  pub commits : counts_commits link ≡ true
  pub named : is_named link ≡ true
  pub number : is_counted t link ≡ true

all_own : (link : Link) → is_named link ≡ true → list_all (λ other. option_map_or (same_session other.served.session) link.session false) link.served ≡ true
all_own link named =
    let one = and_parts (same_bool (is_some link.session) (first_is_connect link.served)) _ named in
    let two = and_parts (implies (is_none link.session) (length link.served == 0)) _ one.1 in
    (and_parts (list_all (λ other. option_map_or (same_session other.served.session) link.session false) link.served) _ two.1).0

last_counted : (t : Traced) (link : Link) → Counts t link → (before : List Handled) (one : Handled) → link.served ≡ before ++ one ∷ [] → is_some one.reply ≡ true → entries_of t.entries one.served.session ≡ counted_with (commits_behind 0 before) one.served.item
last_counted t link known before one same some = by (or_cases (number_of t.entries link == link.commits) ((number_of t.entries link == link.commits + 1) && last_is_stopped_commit link) known.number)
  where
    session : link.session ≡ Some one.served.session
    session =
        own_last link.session before one
        (subst (λ (l : List Handled). list_all (λ other. option_map_or (same_session other.served.session) link.session false) l ≡ true) same (all_own link known.named))

    number : number_of t.entries link ≡ entries_of t.entries one.served.session
    number = ap (λ (s : Option SessionId). option_map_or (entries_of t.entries) s 0) session

    commits : link.commits ≡ counted_with (commits_behind 0 before) one.served.item
    commits =
        let counts : link.commits ≡ count_by is_commit_of link.served = eq_from link.commits (count_by is_commit_of link.served) known.commits in
        let behind : commits_behind 0 link.served ≡ 0 + count_by is_commit_of link.served = behind_is 0 link.served in
        let here : link.commits ≡ commits_behind 0 link.served = omega (arith, counts, behind) in
        here ∙ (ap (commits_behind 0) same ∙ behind_last 0 before one)

    going : is_stopped_call one.served.item ≡ false
    going = not_stopped (counted_with (commits_behind 0 before) one.served.item) one some (handled_last 0 before one (subst (λ (l : List Handled). handled_from 0 l ≡ true) same known.handled))

    by : ((number_of t.entries link == link.commits) ≡ true) ⊎ (((number_of t.entries link == link.commits + 1) && last_is_stopped_commit link) ≡ true) → entries_of t.entries one.served.session ≡ counted_with (commits_behind 0 before) one.served.item
    by (inl is) = sym number ∙ (eq_from (number_of t.entries link) link.commits is ∙ commits)
    by (inr is) =
        let last : option_map_or (λ (h : Handled). is_stopped_call h.served.item && is_commit_call h.sent) (last_or None link.served) false ≡ true = (and_parts (number_of t.entries link == link.commits + 1) (last_is_stopped_commit link) is).1 in
        let found : last_or None link.served ≡ Some one = ap (last_or None) same ∙ last_pushed None before one in
        let stopped : (is_stopped_call one.served.item && is_commit_call one.sent) ≡ true = subst (λ (f : Option Handled). option_map_or (λ (h : Handled). is_stopped_call h.served.item && is_commit_call h.sent) f false ≡ true) found last in
        let yes : is_stopped_call one.served.item ≡ true = (and_parts (is_stopped_call one.served.item) (is_commit_call one.sent) stopped).0 in
        absurd (not_both (is_stopped_call one.served.item) yes going)

-- WHEREVER THE RUN HAS COME TO --------------------------------------------------------------------

module _ (count : SessionId → ℕ → ℕ) (t : Traced) (so : (session : SessionId) → count session t.machine.event ≡ entries_of t.entries session) where
  last_is : (link : Link) → Counts t link → LastIs count t.machine.event 0 link.served
  last_is link known before one same at = by (is_some one.reply) refl
    where
      by : (some : Bool) → is_some one.reply ≡ some → implies some (count one.served.session one.served.event == counted_with (commits_behind 0 before) one.served.item) ≡ true
      by false is = refl
      by true is =
          eq_to (count one.served.session one.served.event) (counted_with (commits_behind 0 before) one.served.item)
          (ap (count one.served.session) at ∙ (so one.served.session ∙ last_counted t link known before one same is))

  links_now : (limit : ℕ) → t.machine.event ≡ limit + 1 → (links : List Link) → list_all (upto_link count limit) links ≡ true → list_all (items_at t.machine.event) links ≡ true → list_all (λ link. handled_from 0 link.served) links ≡ true
      → list_all counts_commits links ≡ true → list_all is_named links ≡ true → list_all (is_counted t) links ≡ true → list_all (λ link. are_counted_from count 0 link.served) links ≡ true
  links_now limit next [] all items handled commits named numbers = refl
  links_now limit next (link ∷ links) all items handled commits named numbers =
      let one = and_parts (upto_link count limit link) (list_all (upto_link count limit) links) all in
      let two = and_parts (items_at t.machine.event link) (list_all (items_at t.machine.event) links) items in
      let three = and_parts (handled_from 0 link.served) (list_all (λ (l : Link). handled_from 0 l.served) links) handled in
      let four = and_parts (counts_commits link) (list_all counts_commits links) commits in
      let five = and_parts (is_named link) (list_all is_named links) named in
      let six = and_parts (is_counted t link) (list_all (is_counted t) links) numbers in
      let order = and_parts (each_pair nat_lt (item_events link)) (list_all (λ event. nat_le event t.machine.event) (item_events link)) two.0 in
      and_from (are_counted_from count 0 link.served) (list_all (λ (l : Link). are_counted_from count 0 l.served) links)
      (upto_now count limit t.machine.event 0 link.served next one.0 order.0 order.1 (last_is link (record { handled = three.0; commits = four.0; named = five.0; number = six.0 })))
      (links_now limit next links one.1 two.1 three.1 four.1 five.1 six.1)

-- up to an event is before the next
le_lt : (a b : ℕ) → nat_le a b ≡ nat_lt a (b + 1)
le_lt a b = by (nat_le a b) (nat_lt a (b + 1)) refl refl
  where
    by : (x y : Bool) → nat_le a b ≡ x → nat_lt a (b + 1) ≡ y → x ≡ y
    by true true one other = refl
    by false false one other = refl
    by true false one other =
        let under : a ≤ b = le_from a b one in
        let yes : nat_lt a (b + 1) ≡ true = lt_to a (b + 1) (omega (arith, under)) in
        absurd (let none : ⊥ = cc in none)
    by false true one other =
        let under : a < b + 1 = lt_from a (b + 1) other in
        let yes : nat_le a b ≡ true = le_to a b (omega (arith, under)) in
        absurd (let none : ⊥ = cc in none)

up_to_before : (image : List Entry) (stored : List StoredEntry) (session : SessionId) (event : ℕ) → stored_up_to image stored session event ≡ stored_before image stored session (event + 1)
up_to_before image stored session event = ap (λ (n : ℕ). entries_of image session + n) (by stored)
  where
    by : (stored : List StoredEntry) → count_by (λ (one : StoredEntry). is_of_session session one.ltxid && nat_le one.event event) stored ≡ count_by (λ (one : StoredEntry). is_of_session session one.ltxid && nat_lt one.event (event + 1)) stored
    by [] = refl
    by (one ∷ others) =
        sum_by-cons (λ (each : StoredEntry). cond (is_of_session session each.ltxid && nat_le each.event event) 1 0) one others
        ∙ ((λ i. cond (is_of_session session one.ltxid && le_lt one.event event i) 1 0 + by others i)
        ∙ sym (sum_by-cons (λ (each : StoredEntry). cond (is_of_session session each.ltxid && nat_lt each.event (event + 1)) 1 0) one others))

module _ (keeps : EachKeeps) (numbers : EntryNumbers) (orderly : RunsAreOrderly) (document : Document) (report : Report) (seen : Seen) (t : Traced) (server : Server) (right : IsTrue (all_requests_right document)) (is : IsReported document report seen t server) where
  abbrev count : SessionId → ℕ → ℕ
  count = stored_by document report

  counts_then : (events : List Event) (notes : List Note) (items : List Served) (before : Seen) (old : Traced) → Reached document events notes items before old → RunsOn report.notes report.served seen t notes items before old
      → (session : SessionId) → stored_by document report session old.machine.event ≡ entries_of old.entries session
  counts_then events notes items before old reached on session =
      let come : HasCome notes items before old.machine = reached_come document events notes items before old reached in
      up_to_before (journal_before document).entries (stored_entries report) session old.machine.event
      ∙ stored_then keeps numbers document report seen t server is notes items before old (reached_start document events notes items before old reached) (reached_coupled document events notes items before old reached) come
      (later_of report.notes report.served seen t notes items before old on come) session

  event_counted : (before after : Seen) (old new : Traced) (event : Event) (note : Note) (more : List Served) → OneEvent before old event note more [] after new → Orderly new → ((session : SessionId) → stored_by document report session new.machine.event ≡ entries_of new.entries session)
      → are_counted (stored_by document report) old ≡ true → are_counted (stored_by document report) new ≡ true
  event_counted before after old new event note more one now counts was =
      let by : Followed old.setting old.machine event note more [] new.machine = follow_happens old.setting old.machine event note more [] new.machine one.follows in
      let next : new.machine.event ≡ old.machine.event + 1 = (opens_once old.setting old.machine new.machine event note more [] one.follows).0 in
      let kept : list_all (upto_link count old.machine.event) new.machine.links ≡ true =
      links_keep old.setting (at_event old.machine) no_test (upto_link count old.machine.event) (upto_keep count (at_event old.machine) old.machine.event refl) more [] by.kind new.machine by.happens
      (every_all no_test old.machine.links (λ link. refl))
      (weaker_all (λ (link : Link). are_counted_from count 0 link.served) (upto_link count old.machine.event) old.machine.links (λ link here. all_upto count old.machine.event 0 link.served here) was) in
      links_now count new counts old.machine.event next new.machine.links kept now.basic.items now.wire.handled now.basic.commits now.basic.named now.number.counted

  pub reached_counted : (events : List Event) (notes : List Note) (items : List Served) (before : Seen) (old : Traced) → Reached document events notes items before old → RunsOn report.notes report.served seen t notes items before old
      → are_counted (stored_by document report) old ≡ true
  reached_counted _ _ _ _ _ (Begins before start history horizon coupled) on = refl
  reached_counted _ _ _ _ _ (GoesOn events notes items more before after old new event note reached one forgets) on =
      let now = GoesOn events notes items more before after old new event note reached one forgets in
      event_counted before after old new event note more one (orderly document (events ++ event ∷ []) (notes ++ note ∷ []) (items ++ more) after new right now)
      (counts_then (events ++ event ∷ []) (notes ++ note ∷ []) (items ++ more) after new now on)
      (reached_counted events notes items before old reached (OneMore notes items more before after old new event note one on))

pub runs_count_entries : EachKeeps → EntryNumbers → RunsAreOrderly → RunsCountEntries
runs_count_entries keeps numbers orderly document report seen t server events notes items before old right is reached on = reached_counted keeps numbers orderly document report seen t server right is events notes items before old reached on

pub finishes_count_entries : EachKeeps → EntryNumbers → RunsAreOrderly → FinishesCountEntries
finishes_count_entries keeps numbers orderly document report seen t server place notes items before old right is finishing on =
    let so = finishing_reached document place notes items before old finishing in reached_counted keeps numbers orderly document report seen t server right is so.0 notes items before old so.1 on
