-- The call that stored a transaction on a connection is the sending of its request: under an
-- identifier of the connection's session that has its entry.
use Rattle.std.proofs.Common.{◌≡◌, ◌≢◌, refl, sym, ap, subst, ◌∙◌, arith, Bool, true, false, ℕ, suc, ◌+◌, ◌<◌, ◌≤◌, ◌&&◌, filter, length, List, [], Option, Some, None, ◌⊎◌, inl, inr}
use Rattle.std.specs.Prelude.{◌==◌, count_by, is_none, nat_le, slice_get}
use Rattle.std.specs.Cmp.Lexicographic.{pointwise}
use Rattle.std.specs.List.{list_all, list_any, last_or}
use Rattle.std.specs.Option.{option_map_or}
use Rattle.std.proofs.lemmas.Bool.{and_parts, and_from, or_cases}
use Rattle.std.proofs.lemmas.List.Sums.{length-filter}
use Rattle.std.proofs.lemmas.Option.{slice_get_within}
use Rattle.svc_values.specs.declared.answer.Answer.{Answer}
use Rattle.svc_values.specs.declared.call.Call.{Call}
use Rattle.svc_values.specs.declared.draw.Draw.{Draw}
use Rattle.svc_values.specs.declared.entry.Entry.{Entry}
use Rattle.svc_values.specs.declared.entry.Ltxid.{Ltxid}
use Rattle.svc_values.specs.meaning.Calls.{has_commit}
use Rattle.svc_values.specs.meaning.Endings.{ends_committed}
use Rattle.svc_values.specs.meaning.Identifiers.{is_of_session, same_ltxid, session_of}
use Rattle.svc_values.specs.meaning.Same.{same_answers}
use Rattle.svc_values.specs.SameLaws.{same_ltxid_decides}
use Rattle.outage_schedule.specs.declared.item.Item.TheVariants as item
use Rattle.run_clauses.specs.meaning.EntryEvents.{entries_of}
use Rattle.world_model.specs.records.Basic.{is_named, sessions_of}
use Rattle.once_laws.specs.CallEndings.{end_fittingly}
use Rattle.world_model.specs.meaning.Frames.{Owner, Sent, Reply, Handled}
use Rattle.invariant_laws.specs.Invariant.{Invariant}
use Rattle.world_model.specs.meaning.Links.{Link, link_at}
use Rattle.world_model.specs.records.Number.{is_counted, last_is_stopped_commit}
use Rattle.invariant_laws.specs.Once.{all_sendings, answered_blocked, are_known, has_fate, has_sending, is_blocked_reply, is_frame_of, is_known, is_of_link, is_on_link, is_open_or_committed, is_untold, is_waiting_on, shows_at, under}
use Rattle.world_model.specs.Parts.{Sending, commit_sendings, sendings_of, count_reps, has_entry, held_number, implies, is_commit_call, is_out, is_rep, is_unmarked, is_unmarked_frame, number_of, out_frame}
use Rattle.world_model.specs.Sames.{is_of, owned_by}
use Rattle.world_model.specs.records.Script.{are_sent, is_sending_of, sendings_on, sent_on}
use Rattle.world_model.specs.meaning.Serving.{is_commit, is_item_of}
use Rattle.invariant_laws.specs.Shown.{calls_on, in_row, is_call}
use Rattle.once_laws.specs.Showing.{show_replies}
use Rattle.once_laws.specs.StoredOnce.{stood_in}
use Rattle.world_model.specs.Traced.{Traced, Course, courses_of}
use Rattle.world_model.specs.records.Wire.{is_handled, one_is_out}
use Rattle.world_model.specs.Words.{held_in}
use Rattle.world_model.proofs.Offered.{at_link, at_all, number_named, links_apart, counted_few, known_of, Known, implied, any_goes, at_any, eq_from, eq_to, le_from, none_is, either}
use Rattle.invariant_laws.proofs.Offered.{call_answered, calls_same, unmarked_same, unmarked_called, any_filtered, any_pair, any_reversed, calls_at, commit_alike, commit_unmarked, either_false, filter_any, pair_sends, sends_at, owned_same, Fate, Waits, fate_from, outs_from, entry_there, last_at, is_under, under_at}
use Rattle.once_laws.proofs.calls.CallRows.{IsFrom, is_from, less_or, rank, ranked, same_place}
use Rattle.once_laws.proofs.calls.CallsApart.{WasSent, at_held}
use Rattle.once_laws.proofs.calls.CallsBefore.{alone, count_taken, fits_at, handled, in_a_row, item_mark, start, taken_shown}
use Rattle.once_laws.proofs.calls.HeldBefore.{held_below}
use Rattle.once_laws.proofs.calls.OneCourse.{any_at, one_course}
use Rattle.once_laws.proofs.calls.SendingLookups.{InSendings, in_sendings, its_owner, of_all}
use Rattle.once_laws.proofs.values.StoredCommits.{stores_item}
use Rattle.once_laws.proofs.values.Storing.{Answered, Stopped, Storing, any_of_count, blocked_says, held_session, item_commit, last_place, of_session, shown_answers, storing}
use Rattle.once_laws.proofs.calls.ToldCalls.{Replied, ShownAt, TookReply, handled_is, replied, reply_says, says, sent_at, told_call, took_reply}

-- ONE CONNECTION ----------------------------------------------------------------------------------

module _ (t : Traced) (inv : Invariant t) (shows : show_replies t ≡ true) (fit : end_fittingly t ≡ true) (index : ℕ) (link : Link) (there : slice_get t.machine.links index ≡ Some link) (number : ℕ) (course : Course)
    (at_course : slice_get (courses_of t) number ≡ Some course) (had : list_any (λ other. other == suc index) (held_in course.steps) ≡ true) (last : ℕ) (end : Handled) (ends_at : slice_get link.served last ≡ Some end) (mine : owned_by course.owner end.sent ≡ true)
    (call : is_call end.sent.frame ≡ true) where
  abbrev count : ℕ
  count = end.sent.call

  abbrev place : ℕ
  place = rank is_rep link.sent last

  abbrev was : WasSent link last end
  was = sent_at t inv index link there last end ends_at

  mine_was : owned_by course.owner was.sent ≡ true
  mine_was = ap (is_of course.owner) (sym was.owner) ∙ mine

  call_was : is_call was.sent.frame ≡ true
  call_was = sym (calls_same end.sent.frame was.sent.frame was.frame) ∙ call

  rep : is_rep was.sent ≡ true
  rep = call_answered was.sent.frame call_was

  reps_at : slice_get (filter is_rep link.sent) place ≡ Some was.sent
  reps_at = ranked is_rep link.sent last was.sent was.at rep

  within : place < length (filter is_rep link.sent)
  within = slice_get_within (filter is_rep link.sent) place was.sent reps_at

  all_count : length (filter is_rep link.sent) ≡ count_reps link.sent
  all_count = length-filter is_rep link.sent

  most_taken : count_reps link.sent ≤ length link.taken + 1
  most_taken = count_taken t inv shows fit index link there number course at_course had

  known : Known link
  known = known_of t inv.orderly (suc index) link there

  -- its sending, under an identifier that has its entry
  pub record StoredSending : Type 0 where
    pub x : Ltxid
    pub entry : has_entry t.entries x ≡ true
    pub sent : list_any (under_at (λ at. at == count) x) (commit_sendings course) ≡ true
    pub own : option_map_or (λ session. is_of_session session x) link.session false ≡ true
    pub plain : is_unmarked_frame end.sent.frame ≡ true

  on_this : (n : ℕ) (c : Course) (m : ℕ) (s : Sending) → slice_get (courses_of t) n ≡ Some c → slice_get (commit_sendings c) m ≡ Some s → s.connection ≡ suc index → option_map_or (λ session. is_of_session session s.ltxid) link.session false ≡ true
  on_this n c m s at_c at_s same =
      sym (ap (λ (found : Option Link). option_map_or (λ (l : Link). option_map_or (λ session. is_of_session session s.ltxid) l.session false) found false) (ap (link_at t.machine.links) same ∙ there)) ∙ of_all t (is_on_link t) n c m s inv.once.links at_c at_s

  fate_of : (n : ℕ) (c : Course) (m : ℕ) (s : Sending) → slice_get (courses_of t) n ≡ Some c → slice_get (commit_sendings c) m ≡ Some s → s.connection ≡ suc index → Fate s link
  fate_of n c m s at_c at_s same =
      fate_from s link
      (sym (ap (λ (found : Option Link). option_map_or (has_fate s) found false) (ap (link_at t.machine.links) same ∙ there)) ∙ of_all t (λ (one : Sending). option_map_or (has_fate one) (link_at t.machine.links one.connection) false) n c m s inv.once.fates at_c at_s)

  under_this : (x : Ltxid) (m : ℕ) (s : Sending) → slice_get (commit_sendings course) m ≡ Some s → s.at ≡ count → is_open_or_committed s ≡ true → s.ltxid ≡ x → list_any (under_at (λ at. at == count) x) (commit_sendings course) ≡ true
  under_this x m s at_s at open_so same =
      at_any (under_at (λ at. at == count) x) (commit_sendings course) m s at_s
      (and_from (s.at == count) (is_under x s) (eq_to s.at count at) (and_from (is_open_or_committed s) (same_ltxid x s.ltxid) open_so ((same_ltxid_decides x s.ltxid).1 (sym same))))

  -- WHERE IT IS OUT -------------------------------------------------------------------------------

  module _ (most : length link.taken ≤ place) where
    long : length link.taken ≡ place
    long = let a = within in let b = all_count in let c = most_taken in omega (arith, a, b, c, most)

    out_is : is_out link ≡ true
    out_is = let a = within in let b = all_count in let c = most_taken in eq_to (count_reps link.sent) (length link.taken + 1) (omega (arith, a, b, c, most))

    last_out : out_frame link ≡ Some was.sent
    last_out = let a = within in let b = all_count in let c = most_taken in last_at (filter is_rep link.sent) place was.sent None reps_at (omega (arith, a, b, c, most))

    waiting : (n : ℕ) (c : Course) (m : ℕ) (s : Sending) → slice_get (courses_of t) n ≡ Some c → slice_get (commit_sendings c) m ≡ Some s → s.connection ≡ suc index → s.taken ≡ None → (option_map_or (λ session. is_of_session session s.ltxid) link.session false ≡ true → link.held ≡ Some s.ltxid → has_entry t.entries s.ltxid ≡ true) → StoredSending
    waiting n c m s at_c at_s same none stored = record {
      x = s.ltxid;
      entry = stored own waits.held;
      sent = under_this s.ltxid m s (subst (λ (one : Course). slice_get (commit_sendings one) m ≡ Some s) course_is at_s) (sym (was.call ∙ eq_from was.sent.call s.at two.1)) (ap (λ (taken : Option (List Answer)). option_map_or ends_committed taken true) none) refl;
      own = own;
      plain = unmarked_same end.sent.frame was.sent.frame was.frame ∙ commit_unmarked was.sent.frame one.0;
    }
      where
        own : option_map_or (λ session. is_of_session session s.ltxid) link.session false ≡ true
        own = on_this n c m s at_c at_s same

        waits : Waits s link
        waits = (fate_of n c m s at_c at_s same).waits none

        frame_is : is_frame_of s was.sent ≡ true
        frame_is = let both : Some waits.frame ≡ Some was.sent = sym waits.last ∙ last_out in let equal : waits.frame ≡ was.sent = cc in subst (λ (f : Sent). is_frame_of s f ≡ true) equal waits.is

        one : (is_commit_call was.sent ≡ true) × ((owned_by s.owner was.sent && (was.sent.call == s.at)) ≡ true)
        one = and_parts (is_commit_call was.sent) (owned_by s.owner was.sent && (was.sent.call == s.at)) frame_is

        two : (owned_by s.owner was.sent ≡ true) × ((was.sent.call == s.at) ≡ true)
        two = and_parts (owned_by s.owner was.sent) (was.sent.call == s.at) one.1

        course_is : c ≡ course
        course_is = one_course t n number c course at_c at_course (sym (its_owner c m s at_s) ∙ owned_same s.owner course.owner was.sent two.0 mine_was)

    out_answered : (called : Call) (answers : List Answer) (draws : List Draw) → end.served.item ≡ item.Call false called answers draws → is_item_of end.sent.frame (item.Call false called answers draws) ≡ true → ends_committed answers ≡ true → has_commit called ≡ true → StoredSending
    out_answered called answers draws is of committed commits = waiting found.number found.course found.place found.sending found.at found.there (eq_from found.sending.connection (suc index) one.0) none stored
      where
        commit_was : is_commit_call was.sent ≡ true
        commit_was = commit_alike end.sent.frame was.sent.frame was.frame (item_commit end.sent.frame called answers draws of commits)

        found : InSendings t (is_waiting_on (record { number = suc index; link = link }))
        found =
            in_sendings t (is_waiting_on (record { number = suc index; link = link }))
            (outs_from t inv.once.waits (suc index) link there (and_from (is_out link) (option_map_or is_commit_call (out_frame link) false) out_is (ap (λ (f : Option Sent). option_map_or is_commit_call f false) last_out ∙ commit_was)))

        one : ((found.sending.connection == suc index) ≡ true) × ((is_none found.sending.taken && option_map_or (same_ltxid found.sending.ltxid) link.held false) ≡ true)
        one = and_parts (found.sending.connection == suc index) (is_none found.sending.taken && option_map_or (same_ltxid found.sending.ltxid) link.held false) found.passes

        none : found.sending.taken ≡ None
        none = none_is found.sending.taken (and_parts (is_none found.sending.taken) (option_map_or (same_ltxid found.sending.ltxid) link.held false) one.1).0

        stored : option_map_or (λ session. is_of_session session found.sending.ltxid) link.session false ≡ true → link.held ≡ Some found.sending.ltxid → has_entry t.entries found.sending.ltxid ≡ true
        stored own held =
            let x : Ltxid = found.sending.ltxid in
            let of_it = of_session x link.session own in
            let below = held_below link known (alone t inv shows fit index link there number course at_course had) last end ends_at (ap is_commit is ∙ committed) long in
            let least = counted_few (number_of t.entries link) link.commits (last_is_stopped_commit link) (at_link (is_counted t) t.machine.links (suc index) link inv.orderly.number.counted there) in
            let named : number_of t.entries link ≡ entries_of t.entries (session_of x) = number_named t.entries link of_it.one of_it.is ∙ ap (entries_of t.entries) (sym of_it.same) in
            let held_is : held_number link ≡ x.number = ap (λ (h : Option Ltxid). option_map_or (λ (y : Ltxid). y.number) h 0) held in
            let first : entries_of [] (session_of x) ≡ 0 = refl in
            entry_there [] t.entries x inv.orderly.number.entries (omega (arith, first)) (omega (arith, below, least, named, held_is, first))

    out_stopped : (x : Ltxid) → link.held ≡ Some x → has_entry t.entries x ≡ true → StoredSending
    out_stopped x held stood = waiting found.number found.course found.place found.sending found.at found.there on_it untaken (λ own held_so. ap (has_entry t.entries) same ∙ stood)
      where
        entry : (place : ℕ) × ((one : Entry) × ((slice_get t.entries place ≡ Some one) × (same_ltxid x one.ltxid ≡ true)))
        entry = any_at (λ (one : Entry). same_ltxid x one.ltxid) t.entries stood

        its : entry.1.0.ltxid ≡ x
        its = sym ((same_ltxid_decides x entry.1.0.ltxid).0 entry.1.1.1)

        own : option_map_or (λ session. is_of_session session x) link.session false ≡ true
        own = held_session link x (at_link is_named t.machine.links (suc index) link inv.orderly.basic.named there) held

        sent_so : has_sending t entry.1.0 ≡ true
        sent_so =
            implied (is_of_link t entry.1.0) (has_sending t entry.1.0)
            (at_any (λ (l : Link). option_map_or (λ session. is_of_session session entry.1.0.ltxid) l.session false) t.machine.links index link there (ap (λ (y : Ltxid). option_map_or (λ session. is_of_session session y) link.session false) its ∙ own))
            (at_all (λ (one : Entry). implies (is_of_link t one) (has_sending t one)) t.entries entry.0 entry.1.0 inv.once.entries entry.1.1.0)

        found : InSendings t (λ (s : Sending). is_open_or_committed s && same_ltxid s.ltxid entry.1.0.ltxid)
        found =
            in_sendings t (λ (s : Sending). is_open_or_committed s && same_ltxid s.ltxid entry.1.0.ltxid)
            (any_filtered is_open_or_committed (λ (s : Sending). same_ltxid s.ltxid entry.1.0.ltxid) (all_sendings t)
            (any_of_count is_open_or_committed (under entry.1.0.ltxid (all_sendings t)) (eq_from (count_by is_open_or_committed (under entry.1.0.ltxid (all_sendings t))) 1 sent_so)))

        parts : (is_open_or_committed found.sending ≡ true) × (same_ltxid found.sending.ltxid entry.1.0.ltxid ≡ true)
        parts = and_parts (is_open_or_committed found.sending) (same_ltxid found.sending.ltxid entry.1.0.ltxid) found.passes

        same : found.sending.ltxid ≡ x
        same = (same_ltxid_decides found.sending.ltxid entry.1.0.ltxid).0 parts.1 ∙ its

        on_it : found.sending.connection ≡ suc index
        on_it = by (either found.sending.connection (suc index)) (link_at t.machine.links found.sending.connection) refl (of_all t (is_on_link t) found.number found.course found.place found.sending inv.once.links found.at found.there)
          where
            by : (found.sending.connection ≡ suc index) ⊎ (found.sending.connection ≢ suc index) → (other : Option Link) → link_at t.machine.links found.sending.connection ≡ other
                → option_map_or (λ (l : Link). option_map_or (λ session. is_of_session session found.sending.ltxid) l.session false) other false ≡ true → found.sending.connection ≡ suc index
            by (inl equal) other at on = equal
            by (inr differ) None at on = absurd (let none : ⊥ = cc in none)
            by (inr differ) (Some other) at on =
                let first = of_session found.sending.ltxid other.session on in
                let second = of_session x link.session own in
                absurd (links_apart t.machine.links found.sending.connection (suc index) other link first.one second.one differ at there first.is second.is (and_parts _ (list_all _ (sessions_of t)) inv.orderly.basic.apart).0
                (sym first.same ∙ (ap session_of same ∙ second.same)))

        untaken : found.sending.taken ≡ None
        untaken = by found.sending.taken refl
          where
            by : (taken : Option (List Answer)) → found.sending.taken ≡ taken → found.sending.taken ≡ None
            by None is = is
            by (Some answers) is =
                let ends : ends_committed answers ≡ true = sym (ap (λ (a : Option (List Answer)). option_map_or ends_committed a true) is) ∙ parts.0 in
                let below = (fate_of found.number found.course found.place found.sending found.at found.there on_it).told answers is ends in
                let held_is : held_number link ≡ x.number = ap (λ (h : Option Ltxid). option_map_or (λ (y : Ltxid). y.number) h 0) held in
                let equal : found.sending.ltxid.number ≡ x.number = ap (λ (y : Ltxid). y.number) same in
                absurd (let never : ⊥ = omega (arith, below, held_is, equal) in never)

  -- WHERE ITS REPLY WAS TAKEN ---------------------------------------------------------------------

  module _ (less : place < length link.taken) where
    took : TookReply t inv index link there was.sent place
    took = took_reply t inv index link there last was.sent was.at rep less

    in_row_so : in_row (start t inv shows fit index link there number course at_course had) (calls_on course link) ≡ true
    in_row_so = in_a_row t inv shows fit index link there number course at_course had

    taken_stopped : {A : Type 0} → is_none end.reply ≡ true → A
    taken_stopped none =
        let got : Replied t inv index link there course (start t inv shows fit index link there number course at_course had) in_row_so end took.reply =
        replied t inv index link there course (start t inv shows fit index link there number course at_course had) in_row_so last end ends_at mine call place took.reply took.at took.to in
        absurd (let never : false ≡ true = ap is_none (sym got.is) ∙ none in let nothing : ⊥ = cc in nothing)

    module _ (called : Call) (answers : List Answer) (draws : List Draw) (is : end.served.item ≡ item.Call false called answers draws) (of : is_item_of end.sent.frame (item.Call false called answers draws) ≡ true) (committed : ends_committed answers ≡ true) (commits : has_commit called ≡ true) where
      plain : is_unmarked_frame end.sent.frame ≡ true
      plain = item_mark end.sent.frame false called answers draws of

      commit_was : is_commit_call was.sent ≡ true
      commit_was = commit_alike end.sent.frame was.sent.frame was.frame (item_commit end.sent.frame called answers draws of commits)

      told : ShownAt course.report.calls count answers
      told = told_call t inv index link there course (start t inv shows fit index link there number course at_course had) in_row_so (taken_shown t inv shows fit index link there number course at_course had) last end false called answers draws ends_at is mine plain call less

      agrees : pointwise is_sending_of (sent_on course link) (sendings_on course (suc index)) ≡ true
      agrees = at_held t.machine.links (suc index) link (λ n l. pointwise is_sending_of (sent_on course l) (sendings_on course n)) (held_in course.steps) there had (at_all (are_sent t) (courses_of t) number course inv.orderly.script.sent at_course)

      among : list_any (calls_at count) (sent_on course link) ≡ true
      among =
          at_any (calls_at count) (sent_on course link) (rank (λ (s : Sent). owned_by course.owner s && is_unmarked s) link.sent last) was.sent
          (ranked (λ (s : Sent). owned_by course.owner s && is_unmarked s) link.sent last was.sent was.at (and_from (owned_by course.owner was.sent) (is_unmarked was.sent) mine_was (commit_unmarked was.sent.frame commit_was)))
          (and_from (was.sent.call == count) (is_commit_call was.sent) (eq_to was.sent.call count (sym was.call)) commit_was)

      abbrev on_connection : Sending → Bool
      on_connection s = s.connection == suc index

      sendings_any : list_any (λ (s : Sending). sends_at count s && on_connection s) (sendings_of course) ≡ true
      sendings_any =
          any_filtered (sends_at count) on_connection (sendings_of course)
          (either_false (list_any (sends_at count) (filter on_connection (sendings_of course)))
          (any_reversed (sends_at count) (filter on_connection (sendings_of course)) [] (any_pair (calls_at count) (sends_at count) (sent_on course link) (sendings_on course (suc index)) (pair_sends count) agrees among)))

      found : (m : ℕ) × ((s : Sending) × ((slice_get (commit_sendings course) m ≡ Some s) × ((sends_at count s && on_connection s) ≡ true)))
      found =
          any_at (λ (s : Sending). sends_at count s && on_connection s) (commit_sendings course)
          (filter_any (λ (s : Sending). sends_at count s && on_connection s) (λ (s : Sending). has_commit s.call) (sendings_of course)
          (any_goes (λ (s : Sending). sends_at count s && on_connection s) (λ (s : Sending). (sends_at count s && on_connection s) && has_commit s.call)
          (λ s both. and_from (sends_at count s && on_connection s) (has_commit s.call) both (and_parts (s.at == count) (has_commit s.call) (and_parts (sends_at count s) (on_connection s) both).0).1) (sendings_of course) sendings_any))

      abbrev one : Sending
      one = found.1.0

      parts : (sends_at count one ≡ true) × (on_connection one ≡ true)
      parts = and_parts (sends_at count one) (on_connection one) found.1.1.1

      at_is : one.at ≡ count
      at_is = eq_from one.at count (and_parts (one.at == count) (has_commit one.call) parts.0).0

      on_is : one.connection ≡ suc index
      on_is = eq_from one.connection (suc index) parts.1

      -- a reply was taken to it
      never_open : {A : Type 0} → one.taken ≡ None → A
      never_open none = by (or_cases (is_out link) (answered_blocked link) waits.out)
        where
          waits : Waits one link
          waits = (fate_of number course found.0 one at_course found.1.1.0 on_is).waits none

          frame_parts : (is_commit_call waits.frame ≡ true) × ((owned_by one.owner waits.frame && (waits.frame.call == one.at)) ≡ true)
          frame_parts = and_parts (is_commit_call waits.frame) (owned_by one.owner waits.frame && (waits.frame.call == one.at)) waits.is

          mine_parts : (owned_by one.owner waits.frame ≡ true) × ((waits.frame.call == one.at) ≡ true)
          mine_parts = and_parts (owned_by one.owner waits.frame) (waits.frame.call == one.at) frame_parts.1

          end_at : (n : ℕ) × ((slice_get (filter is_rep link.sent) n ≡ Some waits.frame) × (length (filter is_rep link.sent) ≡ n + 1))
          end_at = last_place (filter is_rep link.sent) waits.frame waits.last

          from : IsFrom is_rep link.sent end_at.0 waits.frame
          from = is_from is_rep link.sent end_at.0 waits.frame end_at.1.0

          keep : Sent → Bool
          keep s = owned_by course.owner s && is_call s.frame

          same_last : from.place ≡ last
          same_last =
              same_place keep (start t inv shows fit index link there number course at_course had) link.sent in_row_so from.place last waits.frame was.sent from.at
              (and_from (owned_by course.owner waits.frame) (is_call waits.frame.frame) (ap (λ (o : Owner). owned_by o waits.frame) (sym (its_owner course found.0 one found.1.1.0)) ∙ mine_parts.0) (unmarked_called waits.frame.frame (commit_unmarked waits.frame.frame frame_parts.0))) was.at
              (and_from (owned_by course.owner was.sent) (is_call was.sent.frame) mine_was call_was) (eq_from waits.frame.call one.at mine_parts.1 ∙ (at_is ∙ was.call))

          place_is : place ≡ end_at.0
          place_is = ap (rank is_rep link.sent) (sym same_last) ∙ from.ranks

          by : {A : Type 0} → (is_out link ≡ true) ⊎ (answered_blocked link ≡ true) → A
          by (inl out) =
              let ahead : count_reps link.sent ≡ length link.taken + 1 = eq_from (count_reps link.sent) (length link.taken + 1) out in
              let a = all_count in
              let b = end_at.1.1 in
              let c = place_is in
              absurd (let never : ⊥ = omega (arith, ahead, a, b, c, less) in never)
          by (inr blocked) =
              let a = all_count in
              let b = end_at.1.1 in
              let c = place_is in
              let d = le_from (length link.taken) (count_reps link.sent) (and_parts (nat_le (length link.taken) (count_reps link.sent)) (nat_le (count_reps link.sent) (length link.taken + 1)) (at_link one_is_out t.machine.links (suc index) link inv.orderly.wire.out there)).0 in
              let last_is : last_or None link.taken ≡ Some took.reply = last_at link.taken place took.reply None took.at (omega (arith, a, b, c, d, less)) in
              let hushed : is_blocked_reply took.reply.frame ≡ true = sym (ap (λ (r : Option Reply). option_map_or (λ one. is_blocked_reply one.frame) r false) last_is) ∙ blocked in
              let said : says took.reply.frame answers ≡ true = reply_says t inv index link there course (start t inv shows fit index link there number course at_course had) in_row_so last end false called answers draws ends_at is mine call place took.reply took.at took.to in
              blocked_says took.reply.frame answers hushed said

      taken_answered : StoredSending
      taken_answered = by one.taken refl
        where
          by : (taken : Option (List Answer)) → one.taken ≡ taken → StoredSending
          by None none = never_open none
          by (Some given) some =
              let knows : is_known t.blocked course.report.calls course.report.outcomes one ≡ true =
              at_all (is_known t.blocked course.report.calls course.report.outcomes) (commit_sendings course) found.0 one (at_all (are_known t) (courses_of t) number course inv.once.known at_course) found.1.1.0 in
              let shows_so : shows_at (same_answers given) course.report.calls one.at ≡ true =
              sym (ap (λ (taken : Option (List Answer)). option_map_or (λ a. shows_at (same_answers a) course.report.calls one.at) taken (is_untold t.blocked course.report.calls course.report.outcomes one)) some) ∙ knows in
              let same : given ≡ answers = shown_answers course.report.calls count given answers told (ap (shows_at (same_answers given) course.report.calls) (sym at_is) ∙ shows_so) in
              let ends : ends_committed given ≡ true = ap ends_committed same ∙ committed in
              record {
                x = one.ltxid;
                entry = implied (option_map_or ends_committed one.taken false) (has_entry t.entries one.ltxid) (ap (λ (taken : Option (List Answer)). option_map_or ends_committed taken false) some ∙ ends)
                    (of_all t (λ (s : Sending). implies (option_map_or ends_committed s.taken false) (has_entry t.entries s.ltxid)) number course found.0 one inv.once.stored at_course found.1.1.0);
                sent = under_this one.ltxid found.0 one found.1.1.0 at_is (ap (λ (taken : Option (List Answer)). option_map_or ends_committed taken true) some ∙ ends) refl;
                own = on_this number course found.0 one at_course found.1.1.0 on_is;
                plain = plain;
              }

  -- EITHER WAY ------------------------------------------------------------------------------------

  pub stored_sending : stores_item (stood_in t link.held) end.served.item ≡ true → StoredSending
  stored_sending stores = by (storing t link so.0 end so.1 (fits_at t inv shows fit index link there number course at_course had last end ends_at) stores) (less_or place (length link.taken))
    where
      so : (n : ℕ) × (is_handled n end ≡ true)
      so = handled_is 0 link.served last end (handled t inv shows fit index link there number course at_course had) ends_at

      by : Storing t link end → (place < length link.taken) ⊎ (length link.taken ≤ place) → StoredSending
      by (Answered called answers draws is of committed commits) (inl less) = taken_answered less called answers draws is of committed commits
      by (Answered called answers draws is of committed commits) (inr most) = out_answered most called answers draws is of committed commits
      by (Stopped x held stood none) (inl less) = taken_stopped less none
      by (Stopped x held stood none) (inr most) = out_stopped most x held stood
