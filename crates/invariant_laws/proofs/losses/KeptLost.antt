-- Of Lost: each connection that a request lost is no longer open, and no call was sent there, or
-- its outcome is wanted or not known, or it is blocked, or its entry is stored. At the start and
-- behind each event.
use Rattle.std.proofs.Common.{◌≡◌, refl, sym, ap, subst, ◌∙◌, Bool, true, false, ℕ, ◌+◌, ◌<◌, ◌&&◌, ◌||◌, List, [], ◌∷◌, filter, Option, Some, None, cond, ◌⊎◌, inl, inr, arith}
use Rattle.std.specs.Prelude.{◌==◌, not, is_some, nat_lt, find, option_map}
use Rattle.std.specs.List.{list_all, list_any}
use Rattle.std.specs.Option.{option_map_or}
use Rattle.std.proofs.lemmas.Bool.{and_parts, and_from, or_cases, or_right, or_left}
use Rattle.svc_values.specs.declared.entry.Entry.{Entry}
use Rattle.svc_values.specs.declared.entry.Ltxid.{Ltxid}
use Rattle.svc_values.specs.meaning.Identifiers.{same_ltxid, session_of}
use Rattle.svc_values.specs.meaning.Same.{same_bool}
use Rattle.svc_values.specs.SameLaws.{same_ltxid_decides}
use Rattle.outage_schedule.specs.declared.request.Outcome.{Outcome}
use Rattle.commit_log.specs.Keeping.{EachKeeps}
use Rattle.server_model.specs.Laws.{EntryNumbers}
use Rattle.run_clauses.specs.meaning.EntryEvents.{entries_of}
use Rattle.run_clauses.specs.meaning.Outcomes.{completed_of}
use Rattle.run_clauses.specs.meaning.Tried.{holds}
use Rattle.world_model.specs.records.Basic.{is_named, are_named}
use Rattle.world_model.specs.Orderly.{Orderly}
use Rattle.invariant_laws.specs.KeptLaws.{IsKeptOfAll}
use Rattle.world_model.specs.meaning.Links.{Link, link_at}
use Rattle.invariant_laws.specs.Lost.{lost_links, is_gone, outcome_on, is_nothing, is_pending, is_blocked, is_stored, nothing_left, is_settled, is_lost, lost_rightly, are_lost}
use Rattle.world_model.specs.records.Number.{Number, numbered_after, is_near, is_ahead, ahead_rightly, last_served_made}
use Rattle.world_model.specs.Parts.{number_of, held_number, is_out, is_commit_call}
use Rattle.world_model.specs.Reached.{traced_start}
use Rattle.world_model.specs.meaning.Settings.{setting_of}
use Rattle.invariant_laws.specs.Shown.{outcome_stands}
use Rattle.world_model.specs.Traced.{Traced, Course, courses_of}
use Rattle.invariant_laws.proofs.losses.AccountedLinks.{is_accounted, accounted_on, is_told_of}
use Rattle.world_model.proofs.Offered.{at_link, weaker_all, filter_all, filter_passes, happens_step, Followed, follow_happens, at_event, resting_none, implied, all_below, eq_to, lt_from, orderly_is_kept}
use Rattle.invariant_laws.proofs.losses.AskedNear.{IsNear, held_count, held_near}
use Rattle.invariant_laws.proofs.losses.KeptAccounted.{keeps_accounted}
use Rattle.invariant_laws.proofs.losses.KeptGone.{gone_law}
use Rattle.invariant_laws.proofs.rows.KeptStands.{stands_law}
use Rattle.invariant_laws.proofs.losses.LostKept.{both_all, lost_kept}
use Rattle.invariant_laws.proofs.rows.ShownNow.{all_last}

-- AN ENTRY THAT IS THERE --------------------------------------------------------------------------

-- one that is found passes what all do
pub found_passes : (test keep : Entry → Bool) (entries : List Entry) (one : Entry) → find keep entries ≡ Some one → list_all test entries ≡ true → (test one ≡ true) × (keep one ≡ true)
found_passes test keep [] one is all = absurd (let none : ⊥ = cc in none)
found_passes test keep (entry ∷ entries) one is all =
    let parts = and_parts (test entry) (list_all test entries) all in by (keep entry) refl is parts.0 (λ later. found_passes test keep entries one later parts.1)
  where
    by : (kept : Bool) → keep entry ≡ kept → cond kept (Some entry) (find keep entries) ≡ Some one → test entry ≡ true → (find keep entries ≡ Some one → (test one ≡ true) × (keep one ≡ true)) → (test one ≡ true) × (keep one ≡ true)
    by true here is passes later = let same : entry ≡ one = cc in subst (λ (e : Entry). (test e ≡ true) × (keep e ≡ true)) same (passes, here)
    by false here is passes later = later is

-- an entry is one of those of its session
pub entry_counts : (entries : List Entry) (x : Ltxid) (completed : Bool) → option_map_or (same_bool completed) (completed_of entries x) false ≡ true → numbered_after [] entries ≡ true → x.number < entries_of entries (session_of x)
entry_counts entries x completed here numbered = by (find (λ entry. same_ltxid entry.ltxid x) entries) refl here
  where
    by : (found : Option Entry) → find (λ entry. same_ltxid entry.ltxid x) entries ≡ found → option_map_or (same_bool completed) (option_map (λ entry. entry.completed) found) false ≡ true → x.number < entries_of entries (session_of x)
    by None is here = absurd (let none : ⊥ = cc in none)
    by (Some entry) is here =
        let both = found_passes (λ one. nat_lt one.ltxid.number (entries_of entries (session_of one.ltxid))) (λ one. same_ltxid one.ltxid x) entries entry is (all_below entries numbered) in
        subst (λ (y : Ltxid). y.number < entries_of entries (session_of y)) ((same_ltxid_decides entry.ltxid x).0 both.1) (lt_from entry.ltxid.number (entries_of entries (session_of entry.ltxid)) both.0)

some_of : (test : Outcome → Bool) (found : Option Outcome) → option_map_or test found false ≡ true → is_some found ≡ true
some_of test None here = absurd (let none : ⊥ = cc in none)
some_of test (Some outcome) here = refl

-- ONE CONNECTION ----------------------------------------------------------------------------------

-- what is settled is accounted for
settled_accounts : (t : Traced) (course : Course) (link : Link) → is_settled t course link ≡ true → is_accounted course link ≡ true
settled_accounts t course link here = by (or_cases (is_nothing course link) (is_pending course link || (is_blocked t course link || is_stored t course link)) here)
  where
    taken : is_some (outcome_on course link.held) ≡ true → is_accounted course link ≡ true
    taken some = or_left (is_some (outcome_on course link.held)) (is_nothing course link || is_pending course link) some

    is_open : (is_nothing course link || is_pending course link) ≡ true → is_accounted course link ≡ true
    is_open some = or_right (is_some (outcome_on course link.held)) (is_nothing course link || is_pending course link) some

    told : (is_blocked t course link ≡ true) ⊎ (is_stored t course link ≡ true) → is_accounted course link ≡ true
    told (inl blocked) = taken (some_of (λ outcome. not outcome.committed && holds t.blocked outcome.ltxid) (outcome_on course link.held) blocked)
    told (inr stored) =
        taken (some_of (λ outcome. outcome.committed && option_map_or (same_bool outcome.completed) (completed_of t.entries outcome.ltxid) false) (outcome_on course link.held) (and_parts _ ((number_of t.entries link == held_number link + 1) && nothing_left link) stored).0)

    rest : (is_pending course link ≡ true) ⊎ ((is_blocked t course link || is_stored t course link) ≡ true) → is_accounted course link ≡ true
    rest (inl pending) = is_open (or_right (is_nothing course link) (is_pending course link) pending)
    rest (inr some) = told (or_cases (is_blocked t course link) (is_stored t course link) some)

    by : (is_nothing course link ≡ true) ⊎ ((is_pending course link || (is_blocked t course link || is_stored t course link)) ≡ true) → is_accounted course link ≡ true
    by (inl nothing) = is_open (or_left (is_nothing course link) (is_pending course link) nothing)
    by (inr some) = rest (or_cases (is_pending course link) (is_blocked t course link || is_stored t course link) some)

pub lost_accounts : (t : Traced) (course : Course) → lost_rightly t course ≡ true → accounted_on t.machine.links course ≡ true
lost_accounts t course here =
    weaker_all (λ number. option_map_or (is_lost t course) (link_at t.machine.links number) false) (λ number. option_map_or (is_accounted course) (link_at t.machine.links number) false) (lost_links course)
    (λ number one. by (link_at t.machine.links number) one) here
  where
    by : (found : Option Link) → option_map_or (is_lost t course) found false ≡ true → option_map_or (is_accounted course) found false ≡ true
    by None one = one
    by (Some link) one = settled_accounts t course link (and_parts (not link.is_open) (is_settled t course link) one).1

module _ (t : Traced) (named : are_named t ≡ true) (numbers : Number t) where
  -- a session whose identifier was committed is one ahead of what is held
  pub one_ahead : (number : ℕ) (link : Link) (x : Ltxid) → link_at t.machine.links number ≡ Some link → link.held ≡ Some x → x.number < entries_of t.entries (session_of x) → is_ahead t link ≡ true
  one_ahead number link x there held below =
      let named_one : is_named link ≡ true = at_link is_named t.machine.links number link named there in
      let near : IsNear t x = held_near t link x x held ((same_ltxid_decides x x).1 refl) named_one (at_link (is_near t) t.machine.links number link numbers.near there) in
      let count : number_of t.entries link ≡ entries_of t.entries (session_of x) = held_count t link x held named_one in
      let number_is : held_number link ≡ x.number = ap (λ (o : Option Ltxid). option_map_or (λ y. y.number) o 0) held in
      eq_to (number_of t.entries link) (held_number link + 1) (omega (arith, count, number_is, near.most, below))

  -- and no further commit may be served
  is_ahead_now : (number : ℕ) (link : Link) (x : Ltxid) → link_at t.machine.links number ≡ Some link → link.held ≡ Some x → x.number < entries_of t.entries (session_of x) → ((number_of t.entries link == held_number link + 1) && nothing_left link) ≡ true
  is_ahead_now number link x there held below =
      let one : is_ahead t link ≡ true = one_ahead number link x there held below in
      let ahead = implied (is_ahead t link) (is_out link && (last_served_made link && not (list_any is_commit_call link.up))) one (at_link (ahead_rightly t) t.machine.links number link numbers.ahead there) in
      and_from (number_of t.entries link == held_number link + 1) (nothing_left link) one (and_parts (last_served_made link) (not (list_any is_commit_call link.up)) (and_parts (is_out link) _ ahead).1).1

  module _ (course : Course) (stand : list_all (outcome_stands t) course.report.outcomes ≡ true) (number : ℕ) (link : Link) (there : link_at t.machine.links number ≡ Some link) where
    -- one whose outcome was taken is blocked, or its entry is stored
    told_settled : (outcome : Outcome) → outcome_on course link.held ≡ Some outcome → (is_blocked t course link || is_stored t course link) ≡ true
    told_settled outcome is = by link.held refl is
      where
        kinds : (x : Ltxid) → link.held ≡ Some x → outcome.ltxid ≡ x → (committed completed : Bool) → outcome_stands t (record outcome { committed = committed; completed = completed }) ≡ true
            → outcome_on course link.held ≡ Some (record outcome { committed = committed; completed = completed }) → (is_blocked t course link || is_stored t course link) ≡ true
        kinds x held same false completed stands found =
            or_left (is_blocked t course link) (is_stored t course link) (ap (λ (one : Option Outcome). option_map_or (λ o. not o.committed && holds t.blocked o.ltxid) one false) found ∙ stands)
        kinds x held same true completed stands found =
            or_right (is_blocked t course link) (is_stored t course link)
            (and_from (option_map_or (λ o. o.committed && option_map_or (same_bool o.completed) (completed_of t.entries o.ltxid) false) (outcome_on course link.held) false) ((number_of t.entries link == held_number link + 1) && nothing_left link)
            (ap (λ (one : Option Outcome). option_map_or (λ o. o.committed && option_map_or (same_bool o.completed) (completed_of t.entries o.ltxid) false) one false) found ∙ stands)
            (is_ahead_now number link x there held (subst (λ (y : Ltxid). y.number < entries_of t.entries (session_of y)) same (entry_counts t.entries outcome.ltxid completed stands numbers.entries))))

        never : (one : Outcome) → None ≡ Some one → ⊥
        never one same = let none : ⊥ = cc in none

        by : (held : Option Ltxid) → link.held ≡ held → outcome_on course held ≡ Some outcome → (is_blocked t course link || is_stored t course link) ≡ true
        by None held found = absurd (never outcome found)
        by (Some x) held found =
            let outcomes : List Outcome = course.report.outcomes in
            let same : is_told_of x outcome ≡ true = all_last (is_told_of x) None (filter (is_told_of x) outcomes) outcome (λ one none. absurd (never one none)) (filter_passes (is_told_of x) outcomes) found in
            let stands : outcome_stands t outcome ≡ true = all_last (outcome_stands t) None (filter (is_told_of x) outcomes) outcome (λ one none. absurd (never one none)) (filter_all (outcome_stands t) (is_told_of x) outcomes stand) found in
            kinds x held ((same_ltxid_decides outcome.ltxid x).0 same) outcome.committed outcome.completed stands is

    accounts_settled : is_accounted course link ≡ true → is_settled t course link ≡ true
    accounts_settled here = by (outcome_on course link.held) refl
      where
        either_so : (is_nothing course link ≡ true) ⊎ (is_pending course link ≡ true) → is_settled t course link ≡ true
        either_so (inl nothing) = or_left (is_nothing course link) (is_pending course link || (is_blocked t course link || is_stored t course link)) nothing
        either_so (inr pending) =
            or_right (is_nothing course link) (is_pending course link || (is_blocked t course link || is_stored t course link)) (or_left (is_pending course link) (is_blocked t course link || is_stored t course link) pending)

        by : (found : Option Outcome) → outcome_on course link.held ≡ found → is_settled t course link ≡ true
        by None is =
            either_so (or_cases (is_nothing course link) (is_pending course link) (sym (ap (λ (one : Option Outcome). is_some one || (is_nothing course link || is_pending course link)) is) ∙ here))
        by (Some outcome) is =
            or_right (is_nothing course link) (is_pending course link || (is_blocked t course link || is_stored t course link))
            (or_right (is_pending course link) (is_blocked t course link || is_stored t course link) (told_settled outcome is))

  -- all that a request lost
  accounts_lost : (course : Course) → list_all (outcome_stands t) course.report.outcomes ≡ true → list_all (is_gone t.machine.links (courses_of t)) (lost_links course) ≡ true → accounted_on t.machine.links course ≡ true → lost_rightly t course ≡ true
  accounts_lost course stand gone accounts =
      weaker_all (λ number. is_gone t.machine.links (courses_of t) number && option_map_or (is_accounted course) (link_at t.machine.links number) false) (λ number. option_map_or (is_lost t course) (link_at t.machine.links number) false) (lost_links course)
      (λ number here.
      let parts = and_parts (is_gone t.machine.links (courses_of t) number) (option_map_or (is_accounted course) (link_at t.machine.links number) false) here in
      by number (link_at t.machine.links number) refl (and_parts (option_map_or (λ link. not link.is_open) (link_at t.machine.links number) false) _ parts.0).0 parts.1)
      (both_all (is_gone t.machine.links (courses_of t)) (λ number. option_map_or (is_accounted course) (link_at t.machine.links number) false) (lost_links course) gone accounts)
    where
      by : (number : ℕ) (found : Option Link) → link_at t.machine.links number ≡ found → option_map_or (λ link. not link.is_open) found false ≡ true → option_map_or (is_accounted course) found false ≡ true → option_map_or (is_lost t course) found false ≡ true
      by number None there shut accounted = shut
      by number (Some link) there shut accounted = and_from (not link.is_open) (is_settled t course link) shut (accounts_settled course stand number link there accounted)

pub lost_law : EachKeeps → EntryNumbers → IsKeptOfAll are_lost
lost_law keeps numbers = record {
  at_start = λ document. resting_none (setting_of document) 1 (lost_rightly (traced_start document)) document.clients;
  at_event = λ before after old new event note items left one inv.
      let by : Followed old.setting old.machine event note items left new.machine = follow_happens old.setting old.machine event note items left new.machine one.follows in
      let orderly : Orderly new = (orderly_is_kept keeps numbers).at_event before after old new event note items left one inv.orderly in
      let accounted : list_all (accounted_on new.machine.links) (courses_of new) ≡ true =
      lost_kept old inv.orderly new one.setting items left by.kind by.happens accounted_on (keeps_accounted old inv.orderly inv.shown.answers inv.lost.next new one.setting items left by.kind by.happens) inv.lost.gone
      (happens_step old.setting (at_event old.machine) items left by.kind new.machine by.happens) (weaker_all (lost_rightly old) (accounted_on old.machine.links) (courses_of old) (lost_accounts old) inv.lost.lost) in
      let gone_all : Course → Bool = λ course. list_all (is_gone new.machine.links (courses_of new)) (lost_links course) in
      let stand_all : Course → Bool = λ course. list_all (outcome_stands new) course.report.outcomes in
      weaker_all (λ course. stand_all course && (gone_all course && accounted_on new.machine.links course)) (lost_rightly new) (courses_of new)
      (λ course here.
      let one_so = and_parts (stand_all course) (gone_all course && accounted_on new.machine.links course) here in
      let two = and_parts (gone_all course) (accounted_on new.machine.links course) one_so.1 in
      accounts_lost new orderly.basic.named orderly.number course one_so.0 two.0 two.1)
      (both_all stand_all (λ course. gone_all course && accounted_on new.machine.links course) (courses_of new) (stands_law.at_event before after old new event note items left one inv)
      (both_all gone_all (accounted_on new.machine.links) (courses_of new) (gone_law.at_event before after old new event note items left one inv) accounted));
}
