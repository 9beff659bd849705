-- The transaction of an entry is its request's first, or it begins behind a call that was shown as
-- the end of one: with a decided commit, or as its connection answered it.
use Rattle.std.proofs.Common.{◌≡◌, refl, sym, ap, ◌∙◌, arith, Bool, true, false, ℕ, ◌+◌, ◌-◌, ◌<◌, ◌≤◌, ◌&&◌, ◌||◌, filter, List, [], ◌∷◌, ◌++◌, Option, Some, None, ◌⊎◌, inl, inr}
use Rattle.std.specs.Prelude.{◌==◌, nat_le, nat_lt, slice_get}
use Rattle.std.specs.List.{list_all, list_any, last_or}
use Rattle.std.specs.Option.{option_map_or}
use Rattle.std.proofs.lemmas.Bool.{and_parts, or_cases, or_left, or_right}
use Rattle.svc_values.specs.declared.answer.Answer.{Answer}
use Rattle.svc_values.specs.declared.draw.Draw.{Draw}
use Rattle.svc_values.specs.meaning.Endings.{ends_transaction, ends_with, is_committed, is_conflict, is_rolled_back}
use Rattle.svc_values.specs.meaning.Same.{same_answers, same_draws}
use Rattle.svc_values.specs.SameLaws.{same_answers_decide}
use Rattle.outage_schedule.specs.declared.item.Item.{Item}
use Rattle.outage_schedule.specs.declared.item.Item.TheVariants as item
use Rattle.outage_schedule.specs.declared.request.ShownCall.{ShownCall}
use Rattle.request_bounds.specs.meaning.Replies.{ends_decided}
use Rattle.once_laws.specs.CommitAnswers.{commit_fittingly}
use Rattle.invariant_laws.specs.EntryParts.{ended_at, of_entries, starts_one}
use Rattle.invariant_laws.specs.FirstCalls.{all_begin_there, begins_there, ends_before, is_behind_decided, is_ended, may_begin, transactions_begin}
use Rattle.world_model.specs.meaning.Frames.{Handled}
use Rattle.invariant_laws.specs.Invariant.{Invariant}
use Rattle.world_model.specs.Parts.{implies}
use Rattle.once_laws.specs.Redrawn.{repeats_redraw}
use Rattle.invariant_laws.specs.Same.{ServedCall, ends_on_server, is_no_commit, is_scripts, ran_by, scripts_from, test_at}
use Rattle.world_model.specs.Sames.{owned_by}
use Rattle.world_model.specs.Traced.{Traced, courses_of}
use Rattle.invariant_laws.specs.Verified.{answers_known, are_verified, commits_ran}
use Rattle.world_model.specs.Words.{held_in}
use Rattle.world_model.proofs.Offered.{at_all, implied, eq_from, lt_to, not_both}
use Rattle.once_laws.proofs.Offered.{tells_as, at_held, EntryRan, EntryAt, any, begins, dids, entry_places_entry_ran as entry_ran, first, had, of_each, row, any_at, at_most, did_stands, of_did, of_item, owns, never_in_replay}
use Rattle.same_laws.proofs.entries.EntryTold.{last_sent, pieces_told, served_told}

-- ANSWERS -----------------------------------------------------------------------------------------

-- a decided commit ends a transaction
decided_ends : (answers : List Answer) → ends_decided answers ≡ true → ends_transaction answers ≡ true
decided_ends answers is = by (last_or None answers) is
  where
    one : (a : Answer) → (is_committed a ≡ true) ⊎ (is_conflict a ≡ true) → (is_committed a || (is_conflict a || is_rolled_back a)) ≡ true
    one a (inl committed) = or_left (is_committed a) (is_conflict a || is_rolled_back a) committed
    one a (inr conflict) = or_right (is_committed a) (is_conflict a || is_rolled_back a) (or_left (is_conflict a) (is_rolled_back a) conflict)

    by : (found : Option Answer) → (option_map_or is_committed found false || option_map_or is_conflict found false) ≡ true → option_map_or (λ a. is_committed a || (is_conflict a || is_rolled_back a)) found false ≡ true
    by None is = absurd (let none : ⊥ = cc in none)
    by (Some a) is = one a (or_cases (is_committed a) (is_conflict a) is)

decided_ended : (shown : List ShownCall) (index : ℕ) → option_map_or (λ one. ends_decided one.answers) (slice_get shown index) false ≡ true → ended_at shown index ≡ true
decided_ended shown index is = by (slice_get shown index) is
  where
    by : (found : Option ShownCall) → option_map_or (λ one. ends_decided one.answers) found false ≡ true → option_map_or (λ call. ends_transaction call.answers) found false ≡ true
    by None is = is
    by (Some call) is = decided_ends call.answers is

-- AN ENTRY ----------------------------------------------------------------------------------------

module _ (t : Traced) (whole : Invariant t) (ran : commits_ran t ≡ true) (granted : Draw → Bool) (verified : are_verified t ≡ true) (answered : answers_known t ≡ true) (redrew : repeats_redraw granted t ≡ true) (begin : transactions_begin t ≡ true) (fits : commit_fittingly t ≡ true) where
  module _ (e : EntryAt t whole ran) where
    abbrev run : EntryRan t e.course e.sending e.entry
    run = entry_ran t whole ran e

    abbrev start : ℕ
    start = first t whole ran e

    abbrev calls : List ShownCall
    calls = e.course.report.calls

    abbrev last : ℕ
    last = last_sent t whole ran granted verified answered redrew e

    abbrev stands : ServedCall → Bool
    stands = of_did (did_stands e.course (tells_as granted) last)

    may : may_begin e.course run.link.served start ≡ true
    may =
        implied (list_any (owns e.course) (dids t whole ran e)) (may_begin e.course run.link.served start) (any t whole ran e)
        (at_all (begins_there e.course run.link.served) (ran_by run.link).over e.entry.ltxid.number (dids t whole ran e)
        (and_parts (list_all (begins_there e.course run.link.served) (ran_by run.link).over) (begins_there e.course run.link.served (ran_by run.link).pieces)
        (at_held t.machine.links e.sending.connection run.link (λ n l. all_begin_there e.course l) (held_in e.course.steps) run.there (had t whole ran e)
        (at_all (λ course. list_all (test_at t (all_begin_there course)) (held_in course.steps)) (courses_of t) e.number e.course begin e.at_course))).0 run.over)

    -- its first call is at most the last one that was sent
    most : start ≤ last
    most = by run.before (row t whole ran e) (pieces_told t whole ran granted verified answered redrew e)
      where
        by : (before : List ServedCall) → scripts_from e.course start (before ++ run.did ∷ []) ≡ true → list_all stands (before ++ run.did ∷ []) ≡ true → start ≤ last
        by [] scripts all = (at_most e.course (tells_as granted) last start run.did (and_parts (is_scripts e.course start run.did) true scripts).0 (and_parts (stands run.did) true all).0).1
        by (did ∷ before) scripts all =
            (at_most e.course (tells_as granted) last start did (and_parts (is_scripts e.course start did) (scripts_from e.course (start + 1) (before ++ run.did ∷ [])) scripts).0 (and_parts (stands did) (list_all stands (before ++ run.did ∷ [])) all).0).1

    -- the call before it ended one on its connection, and was shown so
    ended : (one : Handled) → owned_by e.course.owner one.sent ≡ true → one.sent.call + 1 ≡ start → (told : Item) → is_ended told ≡ true → of_item (did_stands e.course (tells_as granted) last) one.sent told ≡ true → ended_at calls (start - 1) ≡ true
    ended one own at (item.Call marked called answers draws) ends told = by (slice_get calls one.sent.call) refl shown_so
      where
        below : one.sent.call < last
        below = let upto = most in omega (arith, upto, at)

        shown_so : option_map_or (λ shown. tells_as granted shown answers draws) (slice_get calls one.sent.call) false ≡ true
        shown_so =
            implied (nat_lt one.sent.call last) (option_map_or (λ shown. tells_as granted shown answers draws) (slice_get calls one.sent.call) false) (lt_to one.sent.call last below)
            (and_parts (nat_le one.sent.call last) _
            (implied (owned_by e.course.owner one.sent) (nat_le one.sent.call last && implies (nat_lt one.sent.call last) (option_map_or (λ shown. tells_as granted shown answers draws) (slice_get calls one.sent.call) false)) own told)).1

        place : start - 1 ≡ one.sent.call
        place = omega (arith, at)

        by : (found : Option ShownCall) → slice_get calls one.sent.call ≡ found → option_map_or (λ shown. tells_as granted shown answers draws) found false ≡ true → ended_at calls (start - 1) ≡ true
        by None is so = absurd (let none : ⊥ = cc in none)
        by (Some shown) is so = cases (or_cases (ends_transaction shown.answers) (ends_with is_no_commit shown.answers) (sym (ap ends_on_server same) ∙ ends))
          where
            same : answers ≡ shown.answers
            same = (same_answers_decide answers shown.answers).0 (and_parts (same_answers answers shown.answers) (same_draws (filter granted draws) (filter granted shown.draws)) so).0

            cases : (ends_transaction shown.answers ≡ true) ⊎ (ends_with is_no_commit shown.answers ≡ true) → ended_at calls (start - 1) ≡ true
            cases (inl transaction) = ap (ended_at calls) place ∙ (ap (λ (found : Option ShownCall). option_map_or (λ call. ends_transaction call.answers) found false) is ∙ transaction)
            cases (inr no_commit) = absurd (not_both (ends_with is_no_commit shown.answers) no_commit (never_in_replay t whole fits e.number e.course e.at_course one.sent.call shown is))
    ended one own at told ends so = absurd (let none : ⊥ = cc in none)

    starts : ((start == 0) || ended_at calls (start - 1)) ≡ true
    starts = by (or_cases (is_behind_decided calls start) (list_any (ends_before e.course start) run.link.served) may)
      where
        decided : (start == 0 ≡ true) ⊎ (option_map_or (λ one. ends_decided one.answers) (slice_get calls (start - 1)) false ≡ true) → ((start == 0) || ended_at calls (start - 1)) ≡ true
        decided (inl none) = or_left (start == 0) (ended_at calls (start - 1)) none
        decided (inr one) = or_right (start == 0) (ended_at calls (start - 1)) (decided_ended calls (start - 1) one)

        by : (is_behind_decided calls start ≡ true) ⊎ (list_any (ends_before e.course start) run.link.served ≡ true) → ((start == 0) || ended_at calls (start - 1)) ≡ true
        by (inl so) = decided (or_cases (start == 0) (option_map_or (λ one. ends_decided one.answers) (slice_get calls (start - 1)) false) so)
        by (inr one) =
            let found = any_at (ends_before e.course start) run.link.served one in
            let it : Handled = found.1.0 in
            let mine = and_parts (owned_by e.course.owner it.sent) ((it.sent.call + 1 == start) && is_ended it.served.item) found.1.1.1 in
            let next = and_parts (it.sent.call + 1 == start) (is_ended it.served.item) mine.1 in
            or_right (start == 0) (ended_at calls (start - 1))
            (ended it mine.0 (eq_from (it.sent.call + 1) start next.0) it.served.item next.1
            (at_all (λ h. of_item (did_stands e.course (tells_as granted) last) h.sent h.served.item) run.link.served found.0 it (served_told t whole ran granted verified answered redrew e) found.1.1.0))

    entry_starts : starts_one e.course e.sending e.entry ≡ true
    entry_starts = ap (λ (n : ℕ). (n == 0) || ended_at calls (n - 1)) (begins t whole ran e) ∙ starts

  pub all_start : of_entries starts_one t ≡ true
  all_start = of_each t whole ran starts_one entry_starts
