-- Of Once: the lines on each transaction of a request that is over, by what is known of its
-- sendings.
use Rattle.std.proofs.Common.{◌≡◌, refl, sym, ap, subst, ◌∙◌, Bool, true, false, ℕ, ◌+◌, ◌<◌, ◌≤◌, ◌&&◌, ◌||◌, length, List, Option, Some, None, if◌then◌else◌, arith}
use Rattle.std.specs.Prelude.{◌==◌, not, slice_get, is_none, is_some}
use Rattle.std.specs.List.{list_all, list_any, last_or}
use Rattle.std.specs.Option.{option_map_or}
use Rattle.std.proofs.lemmas.Bool.{and_parts, and_from, not-true}
use Rattle.svc_values.specs.declared.answer.Answer.{Answer}
use Rattle.svc_values.specs.declared.call.Call.{Call}
use Rattle.svc_values.specs.declared.entry.Ltxid.{Ltxid}
use Rattle.svc_values.specs.meaning.Endings.{ends_committed, ends_conflict, ends_transaction, ends_with, is_rolled_back}
use Rattle.svc_values.specs.meaning.Identifiers.{same_ltxid}
use Rattle.svc_values.specs.meaning.Same.{same_call}
use Rattle.svc_values.specs.SameLaws.{same_ltxid_decides}
use Rattle.outage_schedule.specs.declared.failure.Failure.{Failure}
use Rattle.outage_schedule.specs.declared.failure.Failure.TheVariants as failure
use Rattle.outage_schedule.specs.declared.request.ShownCall.{ShownCall}
use Rattle.client_model.specs.meaning.Tried.{Trying, trying_of, tried_in}
use Rattle.run_clauses.specs.meaning.Once.{committed_has_one, count_in, dropped_has_none, entries_differ, last_ends, may_end, request_ends}
use Rattle.run_clauses.specs.meaning.Transactions.{is_shown_committed, is_shown_dropped, txns, with_tried}
use Rattle.run_clauses.specs.meaning.Tried.{holds}
use Rattle.invariant_laws.specs.Lost.{ends_unknown, fails_incomplete, is_failed_by, is_wanted, lost_links, lost_rightly, outcome_on}
use Rattle.invariant_laws.specs.Once.{all_but_last, are_known, ends_so, is_known, is_left_lost, is_open_at, is_open_or_committed, is_placed, is_stored_at, notes_sendings, shows_at, stored_from, tells_completed, tells_tried, transaction_at}
use Rattle.world_model.specs.Parts.{Sending, commit_sendings, has_entry}
use Rattle.world_model.specs.Sames.{same_owner}
use Rattle.world_model.specs.Traced.{Traced, Course}
use Rattle.world_model.specs.Wanted.{wanted_in}
use Rattle.world_model.specs.Words.{dones_of, held_in}
use Rattle.invariant_laws.proofs.losses.AskedNear.{any_all}
use Rattle.invariant_laws.proofs.rows.EndedCalls.{committed_ends, ended_before, shown_same, shows_weaker}
use Rattle.invariant_laws.proofs.entries.EntriesFew.{few_in, list_sent, lists_are, over_is, sent_list}
use Rattle.invariant_laws.proofs.sendings.FateSteps.{IsFated, fated, fated_from}
use Rattle.invariant_laws.proofs.sendings.KnownLists.{IsNext, Known, IsAnswered, IsLast, IsBlocked, IsCommitted, known_from}
use Rattle.world_model.proofs.Offered.{any_goes, same_owner_is, eq_from, eq_to, le_to, not_both, or_second, none_is}
use Rattle.invariant_laws.proofs.losses.LostBlocked.{Ended, Pends, Blocks, Completes, Fails, lost_ends}
use Rattle.invariant_laws.proofs.losses.LostKept.{both_all}
use Rattle.invariant_laws.proofs.entries.OverLists.{LastOf, dropped_ends, dropped_not, last_of, none_in, some_in, stored_id, stored_there}
use Rattle.invariant_laws.proofs.entries.TransactionParts.{IsTxn, each_txn, is_ended}
use Rattle.invariant_laws.proofs.entries.TriedApart.{is_under, under_at}

-- A REQUEST THAT IS OVER --------------------------------------------------------------------------

-- what is known of it
pub record IsKnown (t : Traced) (course : Course) : Type 0 where
  pub over : course.is_over ≡ true
  pub tells : tells_tried course ≡ true
  pub notes : notes_sendings course ≡ true
  pub settled : all_but_last t course.report.calls (commit_sendings course) ≡ true
  pub known : are_known t course ≡ true
  pub placed : list_all (is_placed course.request.calls (held_in course.steps)) (commit_sendings course) ≡ true
  pub stored : stored_from t.entries (commit_sendings course) 0 course.report.calls ≡ true
  pub ends : ends_so t.entries course course.report.failed ≡ true
  pub lost_so : list_all (is_left_lost (length course.report.calls) (lost_links course)) (commit_sendings course) ≡ true
  pub fates : list_all (fated t.machine.links) (commit_sendings course) ≡ true
  pub owned : list_all (λ s. same_owner s.owner course.owner) (commit_sendings course) ≡ true
  pub lost : lost_rightly t course ≡ true
  pub failed : list_all (is_failed_by course) course.report.outcomes ≡ true

module _ (t : Traced) (unblocked : list_all (λ entry. not (holds t.blocked entry.ltxid)) t.entries ≡ true) (differ : entries_differ t.entries ≡ true) (course : Course) (facts : IsKnown t course) where
  abbrev calls : List ShownCall
  calls = course.report.calls

  abbrev trying : Trying
  trying = trying_of (dones_of course.steps)

  abbrev sent : List Sending
  sent = commit_sendings course

  module _ (k : ℕ) (part : List ShownCall) (txn : IsTxn calls k part) where
    abbrev ids : List Ltxid
    ids = tried_in k trying.sendings

    abbrev in_it : ℕ → Bool
    in_it at = transaction_at calls at == k

    few : count_in t.entries ids ≤ 1
    few = few_in t calls k sent facts.settled ids (list_sent course facts.tells facts.notes k) t.entries differ unblocked

    -- what is under one of them that is not blocked
    data Left (x : Ltxid) : Type 0 where
      CommittedAt : (at : ℕ) → transaction_at calls at ≡ k → shows_at ends_committed calls at ≡ true → Left x
      OpenLast : (s : Sending) → s.ltxid ≡ x → s.taken ≡ None → IsNext calls course.report.outcomes s → transaction_at calls (length calls) ≡ k → is_placed course.request.calls (held_in course.steps) s ≡ true
          → is_left_lost (length calls) (lost_links course) s ≡ true → fated t.machine.links s ≡ true → same_owner s.owner course.owner ≡ true → Left x

    abbrev all_of : Sending → Bool
    all_of s = is_known t.blocked calls course.report.outcomes s && (is_placed course.request.calls (held_in course.steps) s && (is_left_lost (length calls) (lost_links course) s && (fated t.machine.links s && same_owner s.owner course.owner)))

    left_of : (x : Ltxid) → holds ids x ≡ true → holds t.blocked x ≡ false → Left x
    left_of x held free =
        let found =
        any_all (under_at in_it x) all_of sent (list_sent course facts.tells facts.notes k x held)
        (both_all (is_known t.blocked calls course.report.outcomes) (λ s. is_placed course.request.calls (held_in course.steps) s && (is_left_lost (length calls) (lost_links course) s && (fated t.machine.links s && same_owner s.owner course.owner))) sent facts.known
        (both_all (is_placed course.request.calls (held_in course.steps)) (λ s. is_left_lost (length calls) (lost_links course) s && (fated t.machine.links s && same_owner s.owner course.owner)) sent facts.placed
        (both_all (is_left_lost (length calls) (lost_links course)) (λ s. fated t.machine.links s && same_owner s.owner course.owner) sent facts.lost_so (both_all (fated t.machine.links) (λ s. same_owner s.owner course.owner) sent facts.fates facts.owned)))) in
        let one = and_parts (in_it found.0.at) (is_under x found.0) found.1.0 in
        let two = and_parts (is_open_or_committed found.0) (same_ltxid x found.0.ltxid) one.1 in
        let three = and_parts (is_known t.blocked calls course.report.outcomes found.0) _ found.1.1 in
        let four = and_parts (is_placed course.request.calls (held_in course.steps) found.0) _ three.1 in
        let five = and_parts (is_left_lost (length calls) (lost_links course) found.0) _ four.1 in
        let six = and_parts (fated t.machine.links found.0) (same_owner found.0.owner course.owner) five.1 in
        by found.0 (eq_from (transaction_at calls found.0.at) k one.0) two.0 ((same_ltxid_decides x found.0.ltxid).0 two.1) (known_from t.blocked calls course.report.outcomes found.0 three.0) four.0 five.0 six.0 six.1
      where
        by : (s : Sending) → transaction_at calls s.at ≡ k → is_open_or_committed s ≡ true → x ≡ s.ltxid → Known t.blocked calls course.report.outcomes s → is_placed course.request.calls (held_in course.steps) s ≡ true
            → is_left_lost (length calls) (lost_links course) s ≡ true → fated t.machine.links s ≡ true → same_owner s.owner course.owner ≡ true → Left x
        by s of is_open named (IsAnswered answers is shows) on lost fate own =
            CommittedAt s.at of (shown_same answers ends_committed calls s.at (sym (ap (λ (taken : Option (List Answer)). option_map_or ends_committed taken true) is) ∙ is_open) shows)
        by s of is_open named (IsLast none next) on lost fate own = OpenLast s (sym named) none next (ap (transaction_at calls) (sym next.place) ∙ of) on lost fate own
        by s of is_open named (IsBlocked none blocked) on lost fate own = absurd (not_both (holds t.blocked x) (ap (holds t.blocked) named ∙ blocked) free)
        by s of is_open named (IsCommitted none shows) on lost fate own = CommittedAt s.at of shows

    -- the call that ended it
    ended_by : (at : ℕ) → transaction_at calls at ≡ k → shows_at ends_committed calls at ≡ true → LastOf ends_committed part
    ended_by at same shows = by (slice_get calls at) refl shows (txn.ender at same (shows_weaker ends_committed ends_transaction committed_ends calls at shows))
      where
        by : (found : Option ShownCall) → slice_get calls at ≡ found → option_map_or (λ call. ends_committed call.answers) found false ≡ true → last_or None part ≡ slice_get calls at → LastOf ends_committed part
        by None is shows last = absurd (let none : ⊥ = cc in none)
        by (Some call) is shows last = record { call = call; is = last ∙ is; passes = shows }

    not_last_one : (call : ShownCall) → last_or None part ≡ Some call → ends_transaction call.answers ≡ true → transaction_at calls (length calls) ≡ k → ⊥
    not_last_one call is ends same =
        let at = txn.ended call is ends in
        let below : transaction_at calls at.0 < transaction_at calls (length calls) = ended_before calls at.0 (ap (λ (found : Option ShownCall). option_map_or (λ c. ends_transaction c.answers) found false) at.1.0 ∙ ends) in
        let here : transaction_at calls at.0 ≡ k = at.1.1 in
        let never : ⊥ = omega (arith, below, here, same) in
        never

    committed_so : committed_has_one t.entries (record { shown = part; tried = ids }) ≡ true
    committed_so = by (is_shown_committed (record { shown = part; tried = ids })) refl
      where
        by : (test : Bool) → is_shown_committed (record { shown = part; tried = ids }) ≡ test → (not test || (count_in t.entries ids == 1)) ≡ true
        by false is = refl
        by true is =
            let last = last_of ends_committed part is in
            let at = txn.ended last.call last.is (committed_ends last.call.answers last.passes) in
            let stored : list_any (is_stored_at t.entries (0 + at.0)) sent ≡ true = stored_there t.entries sent 0 at.0 calls last.call at.1.0 last.passes facts.stored in
            let found = stored_id t.entries (0 + at.0) sent stored in
            let plain : 0 + at.0 ≡ at.0 = omega arith in
            let held : holds ids found.0 ≡ true =
            sent_list course facts.tells facts.notes k found.0
            (any_goes (λ s. (s.at == 0 + at.0) && is_under found.0 s) (under_at in_it found.0)
            (λ s here.
            let parts = and_parts (s.at == 0 + at.0) (is_under found.0 s) here in
            and_from (in_it s.at) (is_under found.0 s) (eq_to (transaction_at calls s.at) k (ap (transaction_at calls) (eq_from s.at (0 + at.0) parts.0 ∙ plain) ∙ at.1.1)) parts.1) sent found.1.1) in
            let least : 1 ≤ count_in t.entries ids = some_in ids found.0 t.entries held found.1.0 in
            let most = few in
            eq_to (count_in t.entries ids) 1 (omega (arith, least, most))

    dropped_so : dropped_has_none t.entries (record { shown = part; tried = ids }) ≡ true
    dropped_so = by (is_shown_dropped (record { shown = part; tried = ids })) refl
      where
        by : (test : Bool) → is_shown_dropped (record { shown = part; tried = ids }) ≡ test → (not test || (count_in t.entries ids == 0)) ≡ true
        by false is = refl
        by true is = eq_to (count_in t.entries ids) 0 (none_in t.blocked ids t.entries (λ x held free. never (left_of x held free)) unblocked)
          where
            last : LastOf (λ answers. ends_conflict answers || ends_with is_rolled_back answers) part
            last = last_of (λ answers. ends_conflict answers || ends_with is_rolled_back answers) part is

            never : {x : Ltxid} → Left x → ⊥
            never (CommittedAt at same shows) =
                let one = ended_by at same shows in
                let both : Some one.call ≡ Some last.call = sym one.is ∙ last.is in
                let equal : one.call ≡ last.call = cc in
                dropped_not last.call.answers (ap (λ (c : ShownCall). ends_committed c.answers) (sym equal) ∙ one.passes) last.passes
            never (OpenLast s named none next same on lost fate own) = not_last_one last.call last.is (dropped_ends last.call.answers last.passes) same

    -- THE LAST ONE --------------------------------------------------------------------------------

    -- after an error that is none of these, what is open was lost, and is blocked
    abbrev is_told_so : Failure → Bool
    is_told_so (failure.Incomplete x) = false
    is_told_so (failure.Retries tries) = false
    is_told_so (failure.Unknown x) = false
    is_told_so other = true

    abbrev no_incomplete : Failure → Type 0
    no_incomplete fault = (x : Ltxid) → fails_incomplete x (Some fault) ≡ false

    open_blocked_so : (fault : Failure) → course.report.failed ≡ Some fault → ends_unknown (Some fault) ≡ false → no_incomplete fault → (x : Ltxid) (s : Sending) → s.ltxid ≡ x → holds t.blocked x ≡ false → s.taken ≡ None → IsNext calls course.report.outcomes s
        → is_left_lost (length calls) (lost_links course) s ≡ true → fated t.machine.links s ≡ true → same_owner s.owner course.owner ≡ true → ⊥
    open_blocked_so fault is known whole x s named free none next lost fate own =
        by (lost_ends t course s at.link (same_owner_is s.owner course.owner own) (at.fate.waits none) facts.failed facts.lost at.there among)
      where
        at : IsFated t.machine.links s
        at = fated_from t.machine.links s fate

        among : list_any (λ other. other == s.connection) (lost_links course) ≡ true
        among =
            or_second (not (s.at == length calls)) (list_any (λ other. other == s.connection) (lost_links course)) (ap not (eq_to s.at (length calls) next.place))
            (or_second (is_some s.taken) (not (s.at == length calls) || list_any (λ other. other == s.connection) (lost_links course)) (ap is_some none) lost)

        by : Ended t course at.link s.ltxid → ⊥
        by (Pends pending) =
            let here : ends_unknown course.report.failed ≡ true =
            subst (λ (over : Bool). (if over then ends_unknown course.report.failed else option_map_or (is_wanted at.link) (wanted_in course.phase) false) ≡ true) facts.over (and_parts (is_none (outcome_on course at.link.held)) _ pending).1 in
            let never : false ≡ true = sym known ∙ (ap ends_unknown (sym is) ∙ here) in
            let nothing : ⊥ = cc in
            nothing
        by (Blocks blocked) = not_both (holds t.blocked x) (ap (holds t.blocked) (sym named) ∙ blocked) free
        by (Completes completed) = not_both (list_any (tells_completed s.ltxid) course.report.outcomes) completed (not-true (list_any (tells_completed s.ltxid) course.report.outcomes) next.untold)
        by (Fails incomplete) = let never : false ≡ true = sym (whole s.ltxid) ∙ (ap (fails_incomplete s.ltxid) (sym is) ∙ incomplete) in let nothing : ⊥ = cc in nothing

    last_so : last_ends t.entries course.report.failed (record { shown = part; tried = ids }) ≡ true
    last_so = by (is_ended part) refl
      where
        -- no entry, where none is left of those that are open
        none_open : is_ended part ≡ false → ((x : Ltxid) (s : Sending) → s.ltxid ≡ x → holds t.blocked x ≡ false → s.taken ≡ None → IsNext calls course.report.outcomes s → is_placed course.request.calls (held_in course.steps) s ≡ true
            → is_left_lost (length calls) (lost_links course) s ≡ true → fated t.machine.links s ≡ true → same_owner s.owner course.owner ≡ true → ⊥) → (count_in t.entries ids == 0) ≡ true
        none_open is_open never = eq_to (count_in t.entries ids) 0 (none_in t.blocked ids t.entries (λ x held free. left_never x free (left_of x held free)) unblocked)
          where
            left_never : (x : Ltxid) → holds t.blocked x ≡ false → Left x → ⊥
            left_never x free (CommittedAt at same shows) =
                let one = ended_by at same shows in
                let ended : is_ended part ≡ true = ap (λ (found : Option ShownCall). option_map_or (λ call. ends_transaction call.answers) found false) one.is ∙ committed_ends one.call.answers one.passes in
                not_both (is_ended part) ended is_open
            left_never x free (OpenLast s named none next same on lost fate own) = never x s named free none next on lost fate own

        told_none : is_ended part ≡ false → (fault : Failure) → course.report.failed ≡ Some fault → ends_unknown (Some fault) ≡ false → no_incomplete fault → (count_in t.entries ids == 0) ≡ true
        told_none is_open fault is known whole = none_open is_open (λ x s named free none next on lost fate own. open_blocked_so fault is known whole x s named free none next lost fate own)

        ends_at : (fault : Option Failure) → course.report.failed ≡ fault → is_ended part ≡ false → may_end t.entries fault ids ≡ true
        ends_at None is is_open = none_open is_open (λ x s named free none next on lost fate own.
            let done : is_none (slice_get course.request.calls (length calls)) ≡ true = subst (λ (f : Option Failure). ends_so t.entries course f ≡ true) is facts.ends in
            let there : option_map_or (same_call s.call) (slice_get course.request.calls (length calls)) false ≡ true =
            subst (λ (n : ℕ). option_map_or (same_call s.call) (slice_get course.request.calls n) false ≡ true) next.place (and_parts (option_map_or (same_call s.call) (slice_get course.request.calls s.at) false) _ on).0 in
            none_there (slice_get course.request.calls (length calls)) s.call done there)
          where
            none_there : (found : Option Call) (call : Call) → is_none found ≡ true → option_map_or (same_call call) found false ≡ true → ⊥
            none_there None call done there = let nothing : ⊥ = cc in nothing
            none_there (Some other) call done there = let nothing : ⊥ = cc in nothing
        ends_at (Some (failure.Incomplete x)) is is_open =
            let parts = and_parts (has_entry t.entries x) (list_any (is_open_at x (length calls)) sent) (subst (λ (f : Option Failure). ends_so t.entries course f ≡ true) is facts.ends) in
            and_from (holds ids x) (list_any (λ entry. same_ltxid entry.ltxid x) t.entries)
            (sent_list course facts.tells facts.notes k x (any_goes (is_open_at x (length calls)) (under_at in_it x)
            (λ s here.
            let one = and_parts (same_ltxid s.ltxid x) ((s.at == length calls) && is_none s.taken) here in
            let two = and_parts (s.at == length calls) (is_none s.taken) one.1 in
            and_from (in_it s.at) (is_under x s) (eq_to (transaction_at calls s.at) k (ap (transaction_at calls) (eq_from s.at (length calls) two.0) ∙ sym (txn.last is_open)))
            (and_from (is_open_or_committed s) (same_ltxid x s.ltxid) (ap (λ (taken : Option (List Answer)). option_map_or ends_committed taken true) (none_is s.taken two.1)) ((same_ltxid_decides x s.ltxid).1 (sym ((same_ltxid_decides s.ltxid x).0 one.0))))) sent parts.1))
            (any_goes (λ entry. same_ltxid x entry.ltxid) (λ entry. same_ltxid entry.ltxid x) (λ entry same. (same_ltxid_decides entry.ltxid x).1 (sym ((same_ltxid_decides x entry.ltxid).0 same))) t.entries parts.0)
        ends_at (Some (failure.Retries tries)) is is_open = le_to (count_in t.entries ids) 1 few
        ends_at (Some (failure.Unknown x)) is is_open = le_to (count_in t.entries ids) 1 few
        ends_at (Some (failure.Disabled reason event)) is is_open = told_none is_open (failure.Disabled reason event) is refl (λ y. refl)
        ends_at (Some (failure.Mismatch call seen now)) is is_open = told_none is_open (failure.Mismatch call seen now) is refl (λ y. refl)
        ends_at (Some (failure.Replays limit event)) is is_open = told_none is_open (failure.Replays limit event) is refl (λ y. refl)
        ends_at (Some (failure.ReplayTimeout since ready)) is is_open = told_none is_open (failure.ReplayTimeout since ready) is refl (λ y. refl)
        ends_at (Some (failure.PoolWait since until)) is is_open = told_none is_open (failure.PoolWait since until) is refl (λ y. refl)

        by : (test : Bool) → is_ended part ≡ test → (not (not test) || may_end t.entries course.report.failed ids) ≡ true
        by true is = refl
        by false is = ends_at course.report.failed refl is

    pub txn_so : (committed_has_one t.entries (record { shown = part; tried = ids }) && (dropped_has_none t.entries (record { shown = part; tried = ids }) && last_ends t.entries course.report.failed (record { shown = part; tried = ids }))) ≡ true
    txn_so =
        and_from (committed_has_one t.entries (record { shown = part; tried = ids })) (dropped_has_none t.entries (record { shown = part; tried = ids }) && last_ends t.entries course.report.failed (record { shown = part; tried = ids })) committed_so
        (and_from (dropped_has_none t.entries (record { shown = part; tried = ids })) (last_ends t.entries course.report.failed (record { shown = part; tried = ids })) dropped_so last_so)

  pub course_ends : request_ends t.entries course.report ≡ true
  course_ends =
      ap (λ (lists : List (List Ltxid)). list_all (λ txn. committed_has_one t.entries txn && (dropped_has_none t.entries txn && last_ends t.entries course.report.failed txn)) (with_tried (txns calls) lists)) (lists_are course facts.tells facts.notes)
      ∙ each_txn calls (λ txn. committed_has_one t.entries txn && (dropped_has_none t.entries txn && last_ends t.entries course.report.failed txn)) trying.sendings trying.over (over_is course facts.tells facts.notes) (λ k part txn. txn_so k part txn)
