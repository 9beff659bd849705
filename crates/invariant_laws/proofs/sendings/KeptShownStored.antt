-- Of Once: each call that was shown as committed has a sending at its place whose entry is there,
-- at the start and behind each event.
use Rattle.std.proofs.Common.{◌≡◌, refl, sym, ap, subst, ◌∙◌, Bool, true, false, ℕ, ◌+◌, ◌<◌, ◌≤◌, ◌&&◌, cond, filter, flat_map, fold, length, List, [], ◌∷◌, ◌++◌, map, Option, Some, ◌⊎◌, inl, inr, arith}
use Rattle.std.specs.Prelude.{◌==◌, is_none, is_some, nat_le}
use Rattle.std.specs.List.{list_all, list_any}
use Rattle.std.specs.Option.{option_map_or}
use Rattle.std.proofs.lemmas.Bool.{and_parts, and_from, or_cases, or_left, or_right}
use Rattle.std.proofs.lemmas.List.Folds.{list_all-append}
use Rattle.svc_values.specs.declared.answer.Answer.{Answer}
use Rattle.svc_values.specs.declared.call.Call.{Call}
use Rattle.svc_values.specs.declared.draw.Draw.{Draw}
use Rattle.svc_values.specs.declared.entry.Entry.{Entry}
use Rattle.svc_values.specs.declared.entry.Ltxid.{Ltxid}
use Rattle.svc_values.specs.declared.frame.Down.TheVariants as down
use Rattle.svc_values.specs.declared.frame.Up.{Up}
use Rattle.svc_values.specs.declared.frame.Up.TheVariants as up
use Rattle.svc_values.specs.meaning.Calls.{has_commit}
use Rattle.svc_values.specs.meaning.Endings.{ends_committed}
use Rattle.svc_values.specs.meaning.Identifiers.{same_ltxid}
use Rattle.svc_values.specs.SameLaws.{same_ltxid_decides}
use Rattle.outage_schedule.specs.declared.item.Served.{Served}
use Rattle.outage_schedule.specs.declared.request.ShownCall.{ShownCall}
use Rattle.run_clauses.specs.meaning.Reports.{shown_call}
use Rattle.server_model.specs.Laws.{EntryNumbers}
use Rattle.client_model.specs.declared.act.Shown.{Shown}
use Rattle.client_model.specs.meaning.States.{Living}
use Rattle.client_model.specs.meaning.Terms.{Phase, Running}
use Rattle.world_model.specs.records.Basic.{sessions_differ}
use Rattle.world_model.specs.meaning.Clients.{Step, Doing}
use Rattle.world_model.specs.meaning.Frames.{Owner, Sent}
use Rattle.world_model.specs.records.Hold.{are_by_held, is_awaited, is_call}
use Rattle.invariant_laws.specs.Invariant.{Invariant}
use Rattle.invariant_laws.specs.KeptLaws.{IsKeptOfAll}
use Rattle.world_model.specs.meaning.Links.{Link}
use Rattle.world_model.specs.meaning.Machines.{Machine}
use Rattle.world_model.specs.meaning.Matching.{Noted}
use Rattle.world_model.specs.records.Number.{ahead_rightly, cond_held, is_ahead, is_counted, is_near, last_is_stopped_commit}
use Rattle.invariant_laws.specs.Once.{all_sendings, is_open_or_committed, is_shown_stored, is_stored_at, shown_stored, stored_from}
use Rattle.world_model.specs.Parts.{Scan, Sending, commit_sendings, has_entry, held_number, implies, is_answered, is_commit_call, is_unmarked, is_unmarked_frame, number_of, sent_on}
use Rattle.world_model.specs.Reached.{traced_start}
use Rattle.world_model.specs.meaning.Settings.{Setting, setting_of}
use Rattle.world_model.specs.Traced.{Traced, Course, courses_of, courses_of_clients}
use Rattle.world_model.proofs.Offered.{at_link, weaker_all, HasStepped, happens_step, Followed, follow_happens, at_event, any_goes, basic_is_kept, by_held_law, resting_none, extra_few, implied, Happens, scan_by, heard_scan, after_sendings, account_now, first_step, first_doing, eq_from, eq_to, le_from, implied_by, none_is}
use Rattle.invariant_laws.proofs.sendings.ApartSteps.{PushedAs, NoMore, OneMade, commits, pushed_as}
use Rattle.invariant_laws.proofs.losses.AskedAnswers.{told_now}
use Rattle.invariant_laws.proofs.losses.AskedSendings.{sent_one}
use Rattle.invariant_laws.proofs.sendings.CommittedSendings.{CommitOut, commit_out, filter_any, is_unanswered}
use Rattle.invariant_laws.proofs.sendings.FateLinks.{OutOf, committed_above}
use Rattle.invariant_laws.proofs.sendings.FateSteps.{Taking, known, out}
use Rattle.invariant_laws.proofs.sendings.FateTops.{last_call, last_open, scan_on}
use Rattle.invariant_laws.proofs.talks.InPlace.{InPlace, Here, There, in_flat, step_in}
use Rattle.invariant_laws.proofs.sendings.SendingsPlaced.{now_is}
use Rattle.invariant_laws.proofs.entries.KeptEnded.{completed_there, more_entries}
use Rattle.invariant_laws.proofs.sendings.KeptSettled.{without_first}
use Rattle.invariant_laws.proofs.sendings.KeptStored.{stored_law}
use Rattle.invariant_laws.proofs.sendings.KnownSteps.{HeardAs, Quietly, Replied, Completed, heard_as}
use Rattle.invariant_laws.proofs.losses.LostKept.{course_before, KeepsLost, lost_kept}
use Rattle.invariant_laws.proofs.rows.RowSteps.{shown_after}
use Rattle.invariant_laws.proofs.sendings.SendingsMade.{made}
use Rattle.invariant_laws.proofs.talks.TalkTop.{top_open}

-- LISTS -------------------------------------------------------------------------------------------

stored_weaker : (entries others : List Entry) (xs ys : List Sending) (from : ℕ) (calls : List ShownCall) → ((at : ℕ) → from ≤ at → at < from + length calls → list_any (is_stored_at entries at) xs ≡ true → list_any (is_stored_at others at) ys ≡ true)
    → stored_from entries xs from calls ≡ true → stored_from others ys from calls ≡ true
stored_weaker entries others xs ys from [] goes all = refl
stored_weaker entries others xs ys from (call ∷ calls) goes all =
    let parts = and_parts (is_shown_stored entries xs from call) (stored_from entries xs (from + 1) calls) all in
    and_from (is_shown_stored others ys from call) (stored_from others ys (from + 1) calls)
    (by (ends_committed call.answers) (goes from (omega arith) (omega arith)) parts.0)
    (stored_weaker entries others xs ys (from + 1) calls (λ at least less. goes at (omega (arith, least)) (omega (arith, less))) parts.1)
  where
    by : (ends : Bool) → (list_any (is_stored_at entries from) xs ≡ true → list_any (is_stored_at others from) ys ≡ true) → implies ends (list_any (is_stored_at entries from) xs) ≡ true → implies ends (list_any (is_stored_at others from) ys) ≡ true
    by true goes_so here = goes_so here
    by false goes_so here = refl

stored_push : (entries : List Entry) (xs : List Sending) (from at : ℕ) (calls : List ShownCall) (call : ShownCall) → at ≡ from + length calls → is_shown_stored entries xs at call ≡ true → stored_from entries xs from calls ≡ true → stored_from entries xs from (calls ++ call ∷ []) ≡ true
stored_push entries xs from at [] call same here all =
    let equal : at ≡ from = omega (arith, same) in and_from (is_shown_stored entries xs from call) true (subst (λ (n : ℕ). is_shown_stored entries xs n call ≡ true) equal here) refl
stored_push entries xs from at (first ∷ calls) call same here all =
    let parts = and_parts (is_shown_stored entries xs from first) (stored_from entries xs (from + 1) calls) all in
    let next : at ≡ (from + 1) + length calls = omega (arith, same) in
    and_from (is_shown_stored entries xs from first) (stored_from entries xs (from + 1) (calls ++ call ∷ [])) parts.0 (stored_push entries xs (from + 1) at calls call next here parts.1)

in_new : {A : Type 0} (test : A → Bool) (a b old now : List A) → InPlace a b old now → list_all test now ≡ true → list_all test b ≡ true
in_new test a b _ _ (Here back) all = (and_parts (list_all test b) (list_all test back) (sym (list_all-append test b back) ∙ all)).0
in_new test a b _ _ (There x old now is) all = in_new test a b old now is (and_parts (test x) (list_all test now) all).1

-- EVENTS ------------------------------------------------------------------------------------------

module _ (t : Traced) (whole : Invariant t) (new : Traced) (setting : new.setting ≡ t.setting) (items left : List Served) (kind : Noted) (happens : Happens t.setting (at_event t.machine) items left kind new.machine)
    (by_held : are_by_held new ≡ true) (differ : sessions_differ new ≡ true) (more : List Entry) (entries : new.entries ≡ t.entries ++ more)
    (stored : list_all (λ sending. implies (option_map_or ends_committed sending.taken false) (has_entry new.entries sending.ltxid)) (flat_map commit_sendings (courses_of_clients t.setting 1 new.machine.clients)) ≡ true) where
  abbrev m : Machine
  m = at_event t.machine

  abbrev stored_test : List Link → Course → Bool
  stored_test links course = stored_from new.entries (commit_sendings course) 0 course.report.calls

  abbrev has_its : Sending → Bool
  has_its sending = implies (option_map_or ends_committed sending.taken false) (has_entry new.entries sending.ltxid)

  entry_still : (x : Ltxid) → has_entry t.entries x ≡ true → has_entry new.entries x ≡ true
  entry_still x here = ap (λ (all : List Entry). has_entry all x) entries ∙ more_entries t.entries more x here

  stored_still : (at : ℕ) (s : Sending) → is_stored_at t.entries at s ≡ true → is_stored_at new.entries at s ≡ true
  stored_still at s here =
      let one = and_parts (s.at == at) (is_open_or_committed s && has_entry t.entries s.ltxid) here in
      let two = and_parts (is_open_or_committed s) (has_entry t.entries s.ltxid) one.1 in
      and_from (s.at == at) (is_open_or_committed s && has_entry new.entries s.ltxid) one.0 (and_from (is_open_or_committed s) (has_entry new.entries s.ltxid) two.0 (entry_still s.ltxid two.1))

  pub course_stored : (course : Course) → stored_from t.entries (commit_sendings course) 0 course.report.calls ≡ true → stored_from new.entries (commit_sendings course) 0 course.report.calls ≡ true
  course_stored course here =
      stored_weaker t.entries new.entries (commit_sendings course) (commit_sendings course) 0 course.report.calls
      (λ at least less any. any_goes (is_stored_at t.entries at) (is_stored_at new.entries at) (stored_still at) (commit_sendings course) any) here

  module _ (who : ℕ) (step : HasStepped t.setting m who new.machine) where
    abbrev mine : Owner
    mine = record { client = who; place = length step.client.past }

    abbrev before : Course
    before = course_before t whole.orderly new setting items left kind happens who step

    abbrev one : Step
    one = first_step t.setting m whole.orderly.script.talks who new.machine step

    abbrev first : Doing
    first = first_doing t.setting m whole.orderly.script.talks who new.machine step

    abbrev sendings : List Sending
    sendings = (scan_by mine step.before.steps).sendings

    abbrev scan_now : Scan
    scan_now = heard_scan t.setting m whole.orderly.script.talks who new.machine step

    abbrev pushed : List Sending
    pushed = fold (sent_on scan_now) scan_now.sendings one.done.act.send

    abbrev calls : List ShownCall
    calls = map shown_call (account_now t.setting.terms step.before).shown

    abbrev shown : List ShownCall
    shown = map shown_call (account_now t.setting.terms first).shown

    -- what was answered Committed has its entry
    heard_has : list_all has_its (filter commits scan_now.sendings) ≡ true
    heard_has = by pushed (pushed_as t whole.orderly whole.once.apart new who step) pushed_has
      where
        pushed_has : list_all has_its (filter commits pushed) ≡ true
        pushed_has =
            let found = step_in t.setting m who new.machine step in
            subst (λ (list : List Sending). list_all has_its list ≡ true) (now_is t whole.orderly new who step found.0 found.1.0 found.1.1.0)
            (in_new has_its _ (flat_map commit_sendings (found.0 ∷ [])) (all_sendings t) (flat_map commit_sendings (courses_of_clients t.setting 1 new.machine.clients))
            (in_flat commit_sendings _ (found.0 ∷ []) (courses_of t) (courses_of_clients t.setting 1 new.machine.clients) found.1.1.1) stored)

        by : (list : List Sending) → PushedAs t whole.orderly whole.once.apart new who step scan_now.sendings list → list_all has_its (filter commits list) ≡ true → list_all has_its (filter commits scan_now.sendings) ≡ true
        by _ NoMore all = all
        by _ (OneMade begun settings call x sends keeps under) all = without_first has_its (made scan_now call x) scan_now.sendings all

    -- A COMMITTED REPLY ---------------------------------------------------------------------------

    call_of : (index : ℕ) (sent : Sent) (frame : Up) → sent.frame ≡ frame → is_call false index sent frame ≡ true → (kept : List Draw) × (call : Call) × (sent.frame ≡ up.Call false kept call)
    call_of index sent (up.Call false kept call) is awaited = (kept, call, is)
    call_of index sent (up.Call true kept call) is awaited = absurd (let none : ⊥ = cc in none)
    call_of index sent frame is awaited = absurd (let none : ⊥ = cc in none)

    -- it is of a call with a commit
    commits_top : (shown_one : Shown) (state : Living) (taking : Taking t whole.orderly whole.once.apart new who step) (top : Sending) (rest : List Sending) → step.before.talk.phase ≡ Running state
        → taking.reply.frame ≡ down.Reply shown_one.answers shown_one.draws shown_one.ltxid → sendings ≡ top ∷ rest → ends_committed shown_one.answers ≡ true → has_commit top.call ≡ true
    commits_top shown_one state taking top rest runs says are ends =
        last_call t whole.orderly who new.machine step state runs taking.connection taking.has taking.link taking.there top rest are (eq_to top.connection taking.connection place) out_now.sent out_now.last out_now.own unmarked out_commits
      where
        out_now : OutOf mine step.before.talk.phase taking.link
        out_now = out t whole.orderly whole.once.apart new who step taking

        called : (kept : List Draw) × (call : Call) × (out_now.sent.frame ≡ up.Call false kept call)
        called = call_of state.track.call out_now.sent out_now.sent.frame refl (subst (λ (p : Phase). is_awaited p out_now.sent ≡ true) runs out_now.awaited)

        unmarked : is_unmarked out_now.sent ≡ true
        unmarked = ap is_unmarked_frame called.2

        opened : ((top.connection == (scan_by mine step.before.steps).connection) ≡ true) × (is_none top.taken ≡ true)
        opened =
            and_parts (top.connection == (scan_by mine step.before.steps).connection) (is_none top.taken)
            (subst (λ (list : List Sending). top_open (scan_by mine step.before.steps).connection list ≡ true) are (last_open t whole.orderly who new.machine step state runs))

        place : top.connection ≡ taking.connection
        place = eq_from top.connection (scan_by mine step.before.steps).connection opened.0 ∙ scan_on t whole.orderly who new.machine step state runs taking.connection taking.has taking.link taking.there

        high : held_number taking.link < taking.link.commits
        high =
            (committed_above taking.link taking.reply taking.later (known t whole.orderly whole.once.apart new who step taking) taking.down_is 0 [] shown_one.answers shown_one.draws shown_one.ltxid out_now.sent called.0 called.1 says out_now.last called.2
            (ap (λ (frame : Up). is_answered frame) called.2) ends).0

        ahead : is_ahead t taking.link ≡ true
        ahead =
            let near = and_parts (nat_le (held_number taking.link) (number_of t.entries taking.link)) (nat_le (number_of t.entries taking.link) (held_number taking.link + cond_held taking.link)) (at_link (is_near t) t.machine.links taking.connection taking.link whole.orderly.number.near taking.there) in
            let most : number_of t.entries taking.link ≤ held_number taking.link + cond_held taking.link = le_from (number_of t.entries taking.link) (held_number taking.link + cond_held taking.link) near.1 in
            let few : cond_held taking.link ≤ 1 = extra_few (is_some taking.link.held) in
            let above = high in
            eq_to (number_of t.entries taking.link) (held_number taking.link + 1) (by (or_cases (number_of t.entries taking.link == taking.link.commits) _ (at_link (is_counted t) t.machine.links taking.connection taking.link whole.orderly.number.counted taking.there)) most few above)
          where
            by : ((number_of t.entries taking.link == taking.link.commits) ≡ true) ⊎ (((number_of t.entries taking.link == taking.link.commits + 1) && last_is_stopped_commit taking.link) ≡ true)
                → number_of t.entries taking.link ≤ held_number taking.link + cond_held taking.link → cond_held taking.link ≤ 1 → held_number taking.link < taking.link.commits → number_of t.entries taking.link ≡ held_number taking.link + 1
            by (inl same) most few above = let count : number_of t.entries taking.link ≡ taking.link.commits = eq_from (number_of t.entries taking.link) taking.link.commits same in omega (arith, count, most, few, above)
            by (inr one_more) most few above =
                let count : number_of t.entries taking.link ≡ taking.link.commits + 1 = eq_from (number_of t.entries taking.link) (taking.link.commits + 1) (and_parts (number_of t.entries taking.link == taking.link.commits + 1) (last_is_stopped_commit taking.link) one_more).0 in
                omega (arith, count, most, few, above)

        out_commits : is_commit_call out_now.sent ≡ true
        out_commits =
            let made_it : CommitOut taking.link = commit_out t taking.link ahead (at_link (ahead_rightly t) t.machine.links taking.connection taking.link whole.orderly.number.ahead taking.there) in
            let both : Some made_it.sent ≡ Some out_now.sent = sym made_it.is ∙ out_now.frame in
            let same : made_it.sent ≡ out_now.sent = cc in
            subst (λ (sent : Sent). is_commit_call sent ≡ true) same made_it.commits

    -- BEHIND AN INPUT -----------------------------------------------------------------------------

    heard_stored : stored_from new.entries (filter commits sendings) 0 calls ≡ true → stored_from new.entries (filter commits scan_now.sendings) 0 shown ≡ true
    heard_stored old = by shown scan_now.sendings (heard_as t whole new setting items left kind happens by_held who step) heard_has
      where
        length_is : length calls ≡ 0 + length calls
        length_is = omega arith

        by : (list : List ShownCall) (behind : List Sending) → HeardAs t whole new setting items left kind happens by_held who step list behind → list_all has_its (filter commits behind) ≡ true → stored_from new.entries (filter commits behind) 0 list ≡ true
        by _ _ (Quietly none) has = old
        by _ _ (Completed shown_one asking alive heard asked committed) has =
            stored_push new.entries (filter commits sendings) 0 (length calls) calls (shown_call shown_one) length_is
            (implied_by (ends_committed shown_one.answers) (list_any (is_stored_at new.entries (length calls)) (filter commits sendings)) (λ ends.
            filter_any (is_stored_at new.entries (length calls)) commits sendings
            (any_goes (is_unanswered asking.ltxid (length calls)) (λ s. is_stored_at new.entries (length calls) s && commits s) sent_so sendings (sent_one t whole who new.machine step asking true alive heard asked))))
            old
          where
            there : has_entry new.entries asking.ltxid ≡ true
            there = entry_still asking.ltxid (completed_there t.entries asking.ltxid true (told_now t whole.orderly whole.shown.answers who new.machine step asking true true alive heard asked))

            sent_so : (s : Sending) → is_unanswered asking.ltxid (length calls) s ≡ true → (is_stored_at new.entries (length calls) s && commits s) ≡ true
            sent_so s here =
                let one_so = and_parts (same_ltxid s.ltxid asking.ltxid) ((s.at == length calls) && (has_commit s.call && is_none s.taken)) here in
                let two = and_parts (s.at == length calls) (has_commit s.call && is_none s.taken) one_so.1 in
                let three = and_parts (has_commit s.call) (is_none s.taken) two.1 in
                and_from (is_stored_at new.entries (length calls) s) (commits s)
                (and_from (s.at == length calls) (is_open_or_committed s && has_entry new.entries s.ltxid) two.0
                (and_from (is_open_or_committed s) (has_entry new.entries s.ltxid) (ap (λ (taken : Option (List Answer)). option_map_or ends_committed taken true) (none_is s.taken three.1))
                (ap (has_entry new.entries) ((same_ltxid_decides s.ltxid asking.ltxid).0 one_so.0) ∙ there))) three.0
        by _ _ (Replied shown_one state taking top rest runs says are place) has =
            stored_push new.entries (filter commits (record top { taken = Some shown_one.answers } ∷ rest)) 0 (length calls) calls (shown_call shown_one) length_is
            (implied_by (ends_committed shown_one.answers) (list_any (is_stored_at new.entries (length calls)) (filter commits (record top { taken = Some shown_one.answers } ∷ rest))) (λ ends. last_one ends (has_commit top.call) (commits_top shown_one state taking top rest runs says are ends) has))
            (stored_weaker new.entries new.entries (filter commits (top ∷ rest)) (filter commits (record top { taken = Some shown_one.answers } ∷ rest)) 0 calls (λ at least less any. earlier at less (has_commit top.call) any)
            (subst (λ (list : List Sending). stored_from new.entries (filter commits list) 0 calls ≡ true) are old))
          where
            -- the one that is answered now
            last_one : ends_committed shown_one.answers ≡ true → (test : Bool) → test ≡ true → list_all has_its (cond test (record top { taken = Some shown_one.answers } ∷ filter commits rest) (filter commits rest)) ≡ true
                → list_any (is_stored_at new.entries (length calls)) (cond test (record top { taken = Some shown_one.answers } ∷ filter commits rest) (filter commits rest)) ≡ true
            last_one ends false never has = absurd (let none : ⊥ = cc in none)
            last_one ends true is has =
                let its : implies (ends_committed shown_one.answers) (has_entry new.entries top.ltxid) ≡ true = (and_parts (has_its (record top { taken = Some shown_one.answers })) (list_all has_its (filter commits rest)) has).0 in
                or_left (is_stored_at new.entries (length calls) (record top { taken = Some shown_one.answers })) (list_any (is_stored_at new.entries (length calls)) (filter commits rest))
                (and_from (top.at == length calls) (ends_committed shown_one.answers && has_entry new.entries top.ltxid) (eq_to top.at (length calls) place)
                (and_from (ends_committed shown_one.answers) (has_entry new.entries top.ltxid) ends (implied (ends_committed shown_one.answers) (has_entry new.entries top.ltxid) ends its)))

            earlier : (at : ℕ) → at < 0 + length calls → (test : Bool) → list_any (is_stored_at new.entries at) (cond test (top ∷ filter commits rest) (filter commits rest)) ≡ true
                → list_any (is_stored_at new.entries at) (cond test (record top { taken = Some shown_one.answers } ∷ filter commits rest) (filter commits rest)) ≡ true
            earlier at less false any = any
            earlier at less true any = pick (or_cases (is_stored_at new.entries at top) (list_any (is_stored_at new.entries at) (filter commits rest)) any)
              where
                pick : (is_stored_at new.entries at top ≡ true) ⊎ (list_any (is_stored_at new.entries at) (filter commits rest) ≡ true) → list_any (is_stored_at new.entries at) (record top { taken = Some shown_one.answers } ∷ filter commits rest) ≡ true
                pick (inl here) =
                    let at_is : top.at ≡ at = eq_from top.at at (and_parts (top.at == at) (is_open_or_committed top && has_entry new.entries top.ltxid) here).0 in
                    absurd (let never : ⊥ = omega (arith, less, at_is, place) in never)
                pick (inr later) =
                    or_right (is_stored_at new.entries at (record top { taken = Some shown_one.answers })) (list_any (is_stored_at new.entries at) (filter commits rest)) later

    pushed_stored : (list : List Sending) → PushedAs t whole.orderly whole.once.apart new who step scan_now.sendings list → stored_from new.entries (filter commits scan_now.sendings) 0 shown ≡ true → stored_from new.entries (filter commits list) 0 shown ≡ true
    pushed_stored _ NoMore all = all
    pushed_stored _ (OneMade begun settings call x sends keeps under) all = by (has_commit call)
      where
        by : (test : Bool) → stored_from new.entries (cond test (made scan_now call x ∷ filter commits scan_now.sendings) (filter commits scan_now.sendings)) 0 shown ≡ true
        by false = all
        by true =
            stored_weaker new.entries new.entries (filter commits scan_now.sendings) (made scan_now call x ∷ filter commits scan_now.sendings) 0 shown
            (λ at least less any. or_right (is_stored_at new.entries at (made scan_now call x)) (list_any (is_stored_at new.entries at) (filter commits scan_now.sendings)) any) all

    step_stored : stored_from new.entries (commit_sendings before) 0 before.report.calls ≡ true → stored_from new.entries (filter commits (scan_by mine step.after.steps).sendings) 0 (map shown_call (account_now t.setting.terms step.after).shown) ≡ true
    step_stored old =
        ap (stored_from new.entries (filter commits (scan_by mine step.after.steps).sendings) 0) (ap (map shown_call) (shown_after t.setting m whole.orderly.script.talks who new.machine step))
        ∙ (ap (λ (list : List Sending). stored_from new.entries (filter commits list) 0 shown) (after_sendings t.setting m whole.orderly.script.talks who new.machine step)
        ∙ pushed_stored pushed (pushed_as t whole.orderly whole.once.apart new who step) (heard_stored old))

  keeps_stored : KeepsLost t whole.orderly new setting items left kind happens stored_test
  keeps_stored = record {
    others = λ course gone here. here;
    begins = λ who place request. refl;
    goes = λ who step keep gone here. step_stored who step here;
    ends = λ who step over gone here. step_stored who step here;
  }

pub shown_stored_law : EntryNumbers → IsKeptOfAll shown_stored
shown_stored_law numbers = record {
  at_start = λ document. resting_none (setting_of document) 1 (λ course. stored_from (traced_start document).entries (commit_sendings course) 0 course.report.calls) document.clients;
  at_event = λ before after old new event note items left one inv.
      let by : Followed old.setting old.machine event note items left new.machine = follow_happens old.setting old.machine event note items left new.machine one.follows in
      let by_held = by_held_law.at_event before after old new event note items left one inv.orderly in
      let differ = (basic_is_kept before after old new event note items left one inv.orderly).apart in
      let stored = (stored_law numbers).at_event before after old new event note items left one inv in
      let stored_now = subst (λ (setting : Setting). list_all (λ sending. implies (option_map_or ends_committed sending.taken false) (has_entry new.entries sending.ltxid)) (flat_map commit_sendings (courses_of_clients setting 1 new.machine.clients)) ≡ true) one.setting stored in
      lost_kept old inv.orderly new one.setting items left by.kind by.happens (stored_test old inv new one.setting items left by.kind by.happens by_held differ one.more_entries one.entries stored_now)
      (keeps_stored old inv new one.setting items left by.kind by.happens by_held differ one.more_entries one.entries stored_now) inv.lost.gone
      (happens_step old.setting (at_event old.machine) items left by.kind new.machine by.happens)
      (weaker_all (λ course. stored_from old.entries (commit_sendings course) 0 course.report.calls) (λ course. stored_from new.entries (commit_sendings course) 0 course.report.calls) (courses_of old)
      (course_stored old inv new one.setting items left by.kind by.happens by_held differ one.more_entries one.entries stored_now) inv.once.shown);
}
