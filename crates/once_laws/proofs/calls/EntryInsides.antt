-- In an entry of a sending that is open or was answered Committed, no call but the last was shown
-- as an end: it is what a connection ran for the request, and ends with the one that was sent.
use Rattle.std.proofs.Common.{◌≡◌, refl, sym, ap, ◌∙◌, Bool, true, false, ℕ, zero, suc, ◌+◌, ◌&&◌, drop, length, take, List, [], ◌∷◌, ◌++◌, Option, Some, None, arith}
use Rattle.std.specs.Prelude.{◌==◌, not, nat_le, nat_lt, slice_get}
use Rattle.std.specs.List.{list_all, list_any, last_or}
use Rattle.std.specs.Option.{option_map_or}
use Rattle.std.proofs.lemmas.Bool.{and_parts, and_from, or_left, or_right}
use Rattle.std.proofs.lemmas.List.{drop-take, length_push}
use Rattle.std.proofs.lemmas.List.Folds.{list_any-append}
use Rattle.svc_values.specs.declared.answer.Answer.{Answer}
use Rattle.svc_values.specs.declared.entry.Entry.{Entry}
use Rattle.svc_values.specs.declared.entry.Ltxid.{Ltxid}
use Rattle.svc_values.specs.declared.entry.Piece.{Piece}
use Rattle.svc_values.specs.declared.entry.SessionId.{SessionId}
use Rattle.svc_values.specs.meaning.Endings.{ends_committed, ends_transaction}
use Rattle.svc_values.specs.meaning.Identifiers.{is_of_session, same_ltxid, session_of}
use Rattle.svc_values.specs.meaning.Same.{same_answers, same_piece}
use Rattle.svc_values.specs.SameLaws.{same_ltxid_decides, same_piece_decides, same_session_decides}
use Rattle.outage_schedule.specs.declared.request.ShownCall.{ShownCall}
use Rattle.run_clauses.specs.meaning.EntryEvents.{entries_of}
use Rattle.invariant_laws.specs.EntryParts.{answered_from, first_of, goes_on, has_its_calls, inside_answered, of_entries}
use Rattle.invariant_laws.specs.Invariant.{Invariant}
use Rattle.invariant_laws.specs.KeptLaws.{RunsKeepInvariant}
use Rattle.world_model.specs.meaning.Links.{Link, link_at}
use Rattle.invariant_laws.specs.Once.{is_on_link, is_open_or_committed}
use Rattle.world_model.specs.Parts.{Sending, commit_sendings, implies}
use Rattle.invariant_laws.specs.Same.{ServedCall, are_pieces, first_call, has_script_calls, is_ran, is_scripts, is_started, ran_by, runs_script_calls, scripts_from, test_at}
use Rattle.invariant_laws.specs.SameLaws.{RunsEntriesGoOn, RunsKnowInsides, RunsRanLast, WholeRunsEntriesGoOn, WholeRunsKnowInsides, WholeRunsRanLast}
use Rattle.world_model.specs.Sames.{owned_by}
use Rattle.world_model.specs.Traced.{Traced, Course, courses_of}
use Rattle.invariant_laws.specs.Verified.{all_but_last, commits_ran, insides_known, is_committed_ran, is_inside, knows_inside, on_held, ran_knowing, ran_last}
use Rattle.world_model.specs.Words.{held_in}
use Rattle.world_model.proofs.Offered.{at_all, weaker_all, implied, finishing_reached, eq_from, eq_to, le_to}
use Rattle.invariant_laws.proofs.Offered.{any_all, each_flat, link_ran, none_of, both_all}
use Rattle.once_laws.proofs.calls.OpenEntries.{HasRun, all_its, all_there, entry_ran, is_its, is_there, last_index, pieces_long}
use Rattle.once_laws.proofs.calls.RanInside.{last_dropped}
use Rattle.once_laws.proofs.calls.RanScripts.{owns, scripts_ran}

-- LISTS -------------------------------------------------------------------------------------------

record HasLast {A : Type 0} (xs : List A) (x : A) : Type 0 where
  front : List A
  is : xs ≡ front ++ x ∷ []

has_last : {A : Type 0} (xs : List A) (x : A) → last_or None xs ≡ Some x → HasLast xs x
has_last [] x is = absurd (let none : ⊥ = cc in none)
has_last (y ∷ []) x is = let same : y ≡ x = cc in record { front = []; is = ap (λ z. z ∷ []) same }
has_last (y ∷ z ∷ xs) x is = let rest = has_last (z ∷ xs) x is in record { front = y ∷ rest.front; is = ap (λ more. y ∷ more) rest.is }

pub drop_got : (shown : List ShownCall) (index : ℕ) (call : ShownCall) → slice_get shown index ≡ Some call → drop index shown ≡ call ∷ drop (index + 1) shown
drop_got [] index call is = absurd (let none : ⊥ = cc in none)
drop_got (first ∷ shown) zero call is = let same : first ≡ call = cc in ap (λ (c : ShownCall). c ∷ shown) same
drop_got (first ∷ shown) (suc index) call is =
    let next : suc (index + 1) ≡ suc index + 1 = omega arith in drop_got shown index call is ∙ ap (λ (n : ℕ). call ∷ drop n (first ∷ shown)) next

-- the calls inside a transaction, as they were shown
none_ended : (course : Course) (index : ℕ) (dids : List ServedCall) → scripts_from course index dids ≡ true → list_all (is_inside course) dids ≡ true → list_all (λ call. not (ends_transaction call.answers)) (take (length dids) (drop index course.report.calls)) ≡ true
none_ended course index [] row all = refl
none_ended course index (did ∷ dids) row all = by (slice_get course.report.calls did.sent.call) refl parts.0 (none_ended course (index + 1) dids one.1 parts.1)
  where
    parts : (is_inside course did ≡ true) × (list_all (is_inside course) dids ≡ true)
    parts = and_parts (is_inside course did) (list_all (is_inside course) dids) all

    one : (is_scripts course index did ≡ true) × (scripts_from course (index + 1) dids ≡ true)
    one = and_parts (is_scripts course index did) (scripts_from course (index + 1) dids) row

    at : did.sent.call ≡ index
    at = eq_from did.sent.call index (and_parts (did.sent.call == index) _ (and_parts (owned_by course.owner did.sent) _ one.0).1).0

    by : (found : Option ShownCall) → slice_get course.report.calls did.sent.call ≡ found → option_map_or (λ shown. same_answers did.piece.answers shown.answers && not (ends_transaction shown.answers)) found false ≡ true
        → list_all (λ call. not (ends_transaction call.answers)) (take (length dids) (drop (index + 1) course.report.calls)) ≡ true
        → list_all (λ call. not (ends_transaction call.answers)) (take (suc (length dids)) (drop index course.report.calls)) ≡ true
    by None is inside rest = absurd (let none : ⊥ = cc in none)
    by (Some shown) is inside rest =
        ap (λ (calls : List ShownCall). list_all (λ call. not (ends_transaction call.answers)) (take (suc (length dids)) calls)) (drop_got course.report.calls index shown (ap (slice_get course.report.calls) (sym at) ∙ is))
        ∙ and_from (not (ends_transaction shown.answers)) (list_all (λ call. not (ends_transaction call.answers)) (take (length dids) (drop (index + 1) course.report.calls))) (and_parts (same_answers did.piece.answers shown.answers) (not (ends_transaction shown.answers)) inside).1 rest

-- what is behind the first piece, which is the first call's own where a call is behind it
pub more_pieces : (first : ServedCall) (before : List ServedCall) (did : ServedCall) (piece : Piece) (pieces : List Piece) → are_pieces (first ∷ (before ++ did ∷ [])) (piece ∷ pieces) ≡ true → (same_piece first.piece piece ≡ true) × (are_pieces (before ++ did ∷ []) pieces ≡ true)
more_pieces first [] did piece pieces are = and_parts (same_piece first.piece piece) (are_pieces (did ∷ []) pieces) are
more_pieces first (next ∷ before) did piece pieces are = and_parts (same_piece first.piece piece) (are_pieces (next ∷ (before ++ did ∷ [])) pieces) are

pub no_pieces : {A : Type 0} (before : List ServedCall) (did : ServedCall) → are_pieces (before ++ did ∷ []) [] ≡ true → A
no_pieces [] did are = none_of did [] are
no_pieces (first ∷ before) did are = none_of first (before ++ did ∷ []) are

-- the answers inside a transaction, as they were shown
inside_answers : (course : Course) (index : ℕ) (before : List ServedCall) (did : ServedCall) (pieces : List Piece) → scripts_from course index before ≡ true → list_all (is_inside course) before ≡ true → are_pieces (before ++ did ∷ []) pieces ≡ true
    → answered_from (all_but_last pieces) (drop index course.report.calls) ≡ true
inside_answers course index before did [] row all are = refl
inside_answers course index before did (piece ∷ []) row all are = refl
inside_answers course index [] did (piece ∷ next ∷ pieces) row all are = absurd (let none : ⊥ = cc in none)
inside_answers course index (first ∷ before) did (piece ∷ next ∷ pieces) row all are =
    by (slice_get course.report.calls first.sent.call) refl parts.0 (inside_answers course (index + 1) before did (next ∷ pieces) one.1 parts.1 two.1)
  where
    parts : (is_inside course first ≡ true) × (list_all (is_inside course) before ≡ true)
    parts = and_parts (is_inside course first) (list_all (is_inside course) before) all

    one : (is_scripts course index first ≡ true) × (scripts_from course (index + 1) before ≡ true)
    one = and_parts (is_scripts course index first) (scripts_from course (index + 1) before) row

    two : (same_piece first.piece piece ≡ true) × (are_pieces (before ++ did ∷ []) (next ∷ pieces) ≡ true)
    two = more_pieces first before did piece (next ∷ pieces) are

    at : first.sent.call ≡ index
    at = eq_from first.sent.call index (and_parts (first.sent.call == index) _ (and_parts (owned_by course.owner first.sent) _ one.0).1).0

    by : (found : Option ShownCall) → slice_get course.report.calls first.sent.call ≡ found → option_map_or (λ shown. same_answers first.piece.answers shown.answers && not (ends_transaction shown.answers)) found false ≡ true
        → answered_from (all_but_last (next ∷ pieces)) (drop (index + 1) course.report.calls) ≡ true → answered_from (piece ∷ all_but_last (next ∷ pieces)) (drop index course.report.calls) ≡ true
    by None is inside rest = absurd (let none : ⊥ = cc in none)
    by (Some shown) is inside rest =
        ap (answered_from (piece ∷ all_but_last (next ∷ pieces))) (drop_got course.report.calls index shown (ap (slice_get course.report.calls) (sym at) ∙ is))
        ∙ and_from (same_answers piece.answers shown.answers) (answered_from (all_but_last (next ∷ pieces)) (drop (index + 1) course.report.calls))
        (ap (λ (p : Piece). same_answers p.answers shown.answers) (sym ((same_piece_decides first.piece piece).0 two.0)) ∙ (and_parts (same_answers first.piece.answers shown.answers) (not (ends_transaction shown.answers)) inside).0) rest

-- WHAT AN ENTRY RAN -------------------------------------------------------------------------------

abbrev pub is_known_inside : Course → Sending → Entry → Bool
is_known_inside course sending entry = goes_on course sending entry && inside_answered course sending entry

-- the transaction that an entry has, with the call that was sent as its last one
pub record EntryRan (t : Traced) (course : Course) (sending : Sending) (entry : Entry) : Type 0 where
  pub link : Link
  pub there : link_at t.machine.links sending.connection ≡ Some link
  pub before : List ServedCall
  pub did : ServedCall
  pub over : slice_get (ran_by link).over entry.ltxid.number ≡ Some (before ++ did ∷ [])
  pub pieces : are_pieces (before ++ did ∷ []) entry.pieces ≡ true
  pub script : has_script_calls course (before ++ did ∷ []) ≡ true
  pub own : owned_by course.owner did.sent ≡ true
  pub index : did.sent.call ≡ sending.at

module _ (t : Traced) (whole : Invariant t) (course : Course) (runs : list_all (test_at t (runs_script_calls course)) (held_in course.steps) ≡ true) (sending : Sending) (its : is_its t course sending ≡ true) where
  -- it is on a connection that the request held
  pub on_its : list_any (λ number. number == sending.connection) (held_in course.steps) ≡ true
  on_its = (and_parts _ (list_any (λ number. number == sending.connection) (held_in course.steps)) (and_parts _ _ its).1).1

  module _ (on : is_on_link t sending ≡ true) (committed_ran : is_committed_ran t.machine.links course sending ≡ true) (may : is_open_or_committed sending ≡ true) (entry : Entry) (is_in : is_there t whole entry ≡ true) (same : same_ltxid entry.ltxid sending.ltxid ≡ true) where
    abbrev x : Ltxid
    x = sending.ltxid

    equal : entry.ltxid ≡ x
    equal = (same_ltxid_decides entry.ltxid x).0 same

    committed_so : (link : Link) → link_at t.machine.links sending.connection ≡ Some link → option_map_or (λ session. is_of_session session x) link.session false ≡ true
        → option_map_or (λ dids. option_map_or (λ did. owned_by course.owner did.sent && (did.sent.call == sending.at)) (last_or None dids) false) (slice_get (ran_by link).over x.number) false ≡ true → EntryRan t course sending entry
    committed_so link there own_session ran = by (slice_get (ran_by link).over x.number) refl ran
      where
        named : (found : Option SessionId) → link.session ≡ found → option_map_or (λ session. is_of_session session x) found false ≡ true → link.session ≡ Some (session_of entry.ltxid)
        named None is of = absurd (let none : ⊥ = cc in none)
        named (Some session) is of = is ∙ ap Some (sym ((same_session_decides (session_of x) session).0 of) ∙ ap session_of (sym equal))

        known : runs_script_calls course link ≡ true
        known =
            let found = any_all (λ number. number == sending.connection) (test_at t (runs_script_calls course)) (held_in course.steps) on_its runs in
            let at : found.0 ≡ sending.connection = eq_from found.0 sending.connection found.1.0 in
            sym (ap (λ (one : Option Link). option_map_or (runs_script_calls course) one false) (ap (link_at t.machine.links) at ∙ there)) ∙ found.1.1

        last : (dids : List ServedCall) → slice_get (ran_by link).over x.number ≡ Some dids → (found : Option ServedCall) → last_or None dids ≡ found → option_map_or (λ did. owned_by course.owner did.sent && (did.sent.call == sending.at)) found false ≡ true
            → EntryRan t course sending entry
        last dids got None at is = absurd (let none : ⊥ = cc in none)
        last dids got (Some did) at is =
            let front = has_last dids did at in
            let parts = and_parts (owned_by course.owner did.sent) (did.sent.call == sending.at) is in
            let over : slice_get (ran_by link).over entry.ltxid.number ≡ Some (front.front ++ did ∷ []) = ap (λ (y : Ltxid). slice_get (ran_by link).over y.number) equal ∙ (got ∙ ap Some front.is) in
            record {
              link = link;
              there = there;
              before = front.front;
              did = did;
              over = over;
              pieces =
                  sym (ap (λ (some : Option (List ServedCall)). option_map_or (λ dids. are_pieces dids entry.pieces) some false) over)
                  ∙ link_ran t whole.orderly.basic.apart entry sending.connection link there (named link.session refl own_session) (and_parts (is_ran t entry) (is_started t entry) (and_parts (nat_lt entry.ltxid.number (entries_of t.entries (session_of entry.ltxid))) (is_ran t entry && is_started t entry) is_in).1).0;
              script = at_all (has_script_calls course) (ran_by link).over entry.ltxid.number (front.front ++ did ∷ []) (and_parts (list_all (has_script_calls course) (ran_by link).over) (has_script_calls course (ran_by link).pieces) known).0 over;
              own = parts.0;
              index = eq_from did.sent.call sending.at parts.1;
            }

        by : (dids : Option (List ServedCall)) → slice_get (ran_by link).over x.number ≡ dids → option_map_or (λ dids. option_map_or (λ did. owned_by course.owner did.sent && (did.sent.call == sending.at)) (last_or None dids) false) dids false ≡ true → EntryRan t course sending entry
        by None got is = absurd (let none : ⊥ = cc in none)
        by (Some dids) got is = last dids got (last_or None dids) refl is

    pub ran_so : EntryRan t course sending entry
    ran_so = by sending.taken refl
      where
        link_so : (found : Option Link) → link_at t.machine.links sending.connection ≡ found → option_map_or (λ link. option_map_or (λ session. is_of_session session x) link.session false) found false ≡ true
            → option_map_or (ran_last course sending) found false ≡ true → EntryRan t course sending entry
        link_so None there on_it ran = absurd (let none : ⊥ = cc in none)
        link_so (Some link) there on_it ran = committed_so link there on_it ran

        by : (taken : Option (List Answer)) → sending.taken ≡ taken → EntryRan t course sending entry
        by None is = let so : HasRun t whole course runs sending its is entry = entry_ran t whole course runs sending its is entry is_in same in record { link = so.link; there = so.there; before = so.before; did = so.did; over = so.over; pieces = so.pieces; script = so.script; own = so.own; index = so.index }
        by (Some answers) is =
            let ends : ends_committed answers ≡ true = sym (ap (λ (taken : Option (List Answer)). option_map_or ends_committed taken true) is) ∙ may in
            link_so (link_at t.machine.links sending.connection) refl on
            (implied (option_map_or ends_committed sending.taken false) (option_map_or (ran_last course sending) (link_at t.machine.links sending.connection) false) (ap (λ (taken : Option (List Answer)). option_map_or ends_committed taken false) is ∙ ends) committed_ran)

    -- no call inside it was shown as an end, and each has the shown answers
    pub entry_goes : on_held t course (ran_knowing course) ≡ true → is_known_inside course sending entry ≡ true
    entry_goes knows =
        and_from (goes_on course sending entry) (inside_answered course sending entry) goes
        (ap (λ (n : ℕ). answered_from (all_but_last entry.pieces) (drop n course.report.calls)) begin ∙ inside_answers course first ran.before ran.did entry.pieces (scripts_front ran.before first row) inside ran.pieces)
      where
        ran : EntryRan t course sending entry
        ran = ran_so

        first : ℕ
        first = first_call (ran.before ++ ran.did ∷ []) 0

        any : list_any (owns course) (ran.before ++ ran.did ∷ []) ≡ true
        any = list_any-append (owns course) ran.before (ran.did ∷ []) ∙ or_right (list_any (owns course) ran.before) (list_any (owns course) (ran.did ∷ [])) (or_left (owns course ran.did) false ran.own)

        row : scripts_from course first (ran.before ++ ran.did ∷ []) ≡ true
        row = implied (list_any (owns course) (ran.before ++ ran.did ∷ [])) (scripts_from course first (ran.before ++ ran.did ∷ [])) any ran.script

        long : length (ran.before ++ ran.did ∷ []) ≡ length ran.before + 1
        long = length_push ran.before ran.did

        count : length entry.pieces ≡ length (ran.before ++ ran.did ∷ [])
        count = pieces_long (ran.before ++ ran.did ∷ []) entry.pieces ran.pieces

        index : sending.at ≡ first + length ran.before
        index = sym ran.index ∙ last_index course first ran.before ran.did row

        at : sending.at ≡ first + length ran.before
        at = index

        begin : first_of sending entry ≡ first
        begin = omega (arith, long, count, index)

        scripts_front : (dids : List ServedCall) (from : ℕ) → scripts_from course from (dids ++ ran.did ∷ []) ≡ true → scripts_from course from dids ≡ true
        scripts_front [] from all = refl
        scripts_front (did ∷ dids) from all =
            let parts = and_parts (is_scripts course from did) (scripts_from course (from + 1) (dids ++ ran.did ∷ [])) all in and_from (is_scripts course from did) (scripts_from course (from + 1) dids) parts.0 (scripts_front dids (from + 1) parts.1)

        link_knows : ran_knowing course ran.link ≡ true
        link_knows =
            let found = any_all (λ number. number == sending.connection) (λ number. option_map_or (ran_knowing course) (link_at t.machine.links number) true) (held_in course.steps) on_its knows in
            let same_number : found.0 ≡ sending.connection = eq_from found.0 sending.connection found.1.0 in
            sym (ap (λ (one : Option Link). option_map_or (ran_knowing course) one true) (ap (link_at t.machine.links) same_number ∙ ran.there)) ∙ found.1.1

        inside : list_all (is_inside course) ran.before ≡ true
        inside =
            ap (list_all (is_inside course)) (sym (last_dropped ran.before ran.did))
            ∙ implied (list_any (owns course) (ran.before ++ ran.did ∷ [])) (list_all (is_inside course) (all_but_last (ran.before ++ ran.did ∷ []))) any
            (at_all (knows_inside course) (ran_by ran.link).over entry.ltxid.number (ran.before ++ ran.did ∷ []) (and_parts (list_all (knows_inside course) (ran_by ran.link).over) (knows_inside course (ran_by ran.link).pieces) link_knows).0 ran.over)

        goes : goes_on course sending entry ≡ true
        goes =
            and_from (has_its_calls sending entry) (list_all (λ call. not (ends_transaction call.answers)) (drop (first_of sending entry) (take sending.at course.report.calls)))
            (and_from ((first_of sending entry + length entry.pieces) == (sending.at + 1)) (nat_le (first_of sending entry) sending.at) (eq_to (first_of sending entry + length entry.pieces) (sending.at + 1) (omega (arith, begin, long, count, index)))
            (le_to (first_of sending entry) sending.at (omega (arith, begin, index))))
            (ap (λ (calls : List ShownCall). list_all (λ call. not (ends_transaction call.answers)) calls) (ap (λ (n : ℕ). drop n (take sending.at course.report.calls)) begin ∙ (ap (λ (n : ℕ). drop first (take n course.report.calls)) at ∙ drop-take first (length ran.before) course.report.calls))
            ∙ none_ended course first ran.before (scripts_front ran.before first row) inside)

-- ALL ---------------------------------------------------------------------------------------------

-- what follows of each such entry
pub entries_go : (test : Course → Sending → Entry → Bool) → ((course : Course) (sending : Sending) (entry : Entry) → is_known_inside course sending entry ≡ true → test course sending entry ≡ true)
    → (t : Traced) → Invariant t → commits_ran t ≡ true → insides_known t ≡ true → of_entries test t ≡ true
entries_go test each t whole ran knows =
    weaker_all facts (λ course. list_all (so course) (commit_sendings course)) (courses_of t) by_course
    (both_all (λ course. list_all (test_at t (runs_script_calls course)) (held_in course.steps)) (λ course. on_held t course (ran_knowing course) && (list_all (is_its t course) (commit_sendings course) && (list_all (is_on_link t) (commit_sendings course) && list_all (is_committed_ran t.machine.links course) (commit_sendings course)))) (courses_of t) (scripts_ran t whole)
    (both_all (λ course. on_held t course (ran_knowing course)) (λ course. list_all (is_its t course) (commit_sendings course) && (list_all (is_on_link t) (commit_sendings course) && list_all (is_committed_ran t.machine.links course) (commit_sendings course))) (courses_of t) knows
    (both_all (λ course. list_all (is_its t course) (commit_sendings course)) (λ course. list_all (is_on_link t) (commit_sendings course) && list_all (is_committed_ran t.machine.links course) (commit_sendings course)) (courses_of t) (all_its t whole)
    (both_all (λ course. list_all (is_on_link t) (commit_sendings course)) (λ course. list_all (is_committed_ran t.machine.links course) (commit_sendings course)) (courses_of t) (each_flat (is_on_link t) commit_sendings (courses_of t) whole.once.links) ran))))
  where
    facts : Course → Bool
    facts course =
        list_all (test_at t (runs_script_calls course)) (held_in course.steps)
        && (on_held t course (ran_knowing course) && (list_all (is_its t course) (commit_sendings course) && (list_all (is_on_link t) (commit_sendings course) && list_all (is_committed_ran t.machine.links course) (commit_sendings course))))

    so : Course → Sending → Bool
    so course sending = implies (is_open_or_committed sending) (list_all (λ entry. implies (same_ltxid entry.ltxid sending.ltxid) (test course sending entry)) t.entries)

    by_course : (course : Course) → facts course ≡ true → list_all (so course) (commit_sendings course) ≡ true
    by_course course all =
        weaker_all (λ s. is_its t course s && (is_on_link t s && is_committed_ran t.machine.links course s)) (so course) (commit_sendings course) by_sending
        (both_all (is_its t course) (λ s. is_on_link t s && is_committed_ran t.machine.links course s) (commit_sendings course) three.0 (both_all (is_on_link t) (is_committed_ran t.machine.links course) (commit_sendings course) four.0 four.1))
      where
        one : (list_all (test_at t (runs_script_calls course)) (held_in course.steps) ≡ true) × ((on_held t course (ran_knowing course) && (list_all (is_its t course) (commit_sendings course) && (list_all (is_on_link t) (commit_sendings course) && list_all (is_committed_ran t.machine.links course) (commit_sendings course)))) ≡ true)
        one = and_parts (list_all (test_at t (runs_script_calls course)) (held_in course.steps)) _ all

        two : (on_held t course (ran_knowing course) ≡ true) × ((list_all (is_its t course) (commit_sendings course) && (list_all (is_on_link t) (commit_sendings course) && list_all (is_committed_ran t.machine.links course) (commit_sendings course))) ≡ true)
        two = and_parts (on_held t course (ran_knowing course)) _ one.1

        three : (list_all (is_its t course) (commit_sendings course) ≡ true) × ((list_all (is_on_link t) (commit_sendings course) && list_all (is_committed_ran t.machine.links course) (commit_sendings course)) ≡ true)
        three = and_parts (list_all (is_its t course) (commit_sendings course)) _ two.1

        four : (list_all (is_on_link t) (commit_sendings course) ≡ true) × (list_all (is_committed_ran t.machine.links course) (commit_sendings course) ≡ true)
        four = and_parts (list_all (is_on_link t) (commit_sendings course)) _ three.1

        by_sending : (sending : Sending) → (is_its t course sending && (is_on_link t sending && is_committed_ran t.machine.links course sending)) ≡ true → so course sending ≡ true
        by_sending sending here = by (is_open_or_committed sending) refl
          where
            parts : (is_its t course sending ≡ true) × ((is_on_link t sending && is_committed_ran t.machine.links course sending) ≡ true)
            parts = and_parts (is_its t course sending) _ here

            rest : (is_on_link t sending ≡ true) × (is_committed_ran t.machine.links course sending ≡ true)
            rest = and_parts (is_on_link t sending) (is_committed_ran t.machine.links course sending) parts.1

            entry_so : is_open_or_committed sending ≡ true → (entry : Entry) → is_there t whole entry ≡ true → implies (same_ltxid entry.ltxid sending.ltxid) (test course sending entry) ≡ true
            entry_so may entry is_in = of (same_ltxid entry.ltxid sending.ltxid) refl
              where
                of : (same : Bool) → same_ltxid entry.ltxid sending.ltxid ≡ same → implies same (test course sending entry) ≡ true
                of false is = refl
                of true is = each course sending entry (entry_goes t whole course one.0 sending parts.0 rest.0 rest.1 may entry is_in is two.0)

            by : (may : Bool) → is_open_or_committed sending ≡ may → implies may (list_all (λ entry. implies (same_ltxid entry.ltxid sending.ltxid) (test course sending entry)) t.entries) ≡ true
            by false is = refl
            by true is = weaker_all (is_there t whole) (λ entry. implies (same_ltxid entry.ltxid sending.ltxid) (test course sending entry)) t.entries (entry_so is) (all_there t whole)

-- RUNS --------------------------------------------------------------------------------------------

goes_so : (course : Course) (sending : Sending) (entry : Entry) → is_known_inside course sending entry ≡ true → goes_on course sending entry ≡ true
goes_so course sending entry is = (and_parts (goes_on course sending entry) (inside_answered course sending entry) is).0

answered_so : (course : Course) (sending : Sending) (entry : Entry) → is_known_inside course sending entry ≡ true → inside_answered course sending entry ≡ true
answered_so course sending entry is = (and_parts (goes_on course sending entry) (inside_answered course sending entry) is).1

pub runs_go_on : RunsKeepInvariant → RunsKnowInsides → RunsRanLast → RunsEntriesGoOn
runs_go_on keeps knows last document events notes items seen t right reached clash =
    let invariant = keeps document events notes items seen t right reached in
    let ran = last document events notes items seen t right reached in
    let inside = knows document events notes items seen t right reached clash in
    (entries_go goes_on goes_so t invariant ran inside, entries_go inside_answered answered_so t invariant ran inside)

pub whole_runs_go_on : RunsKeepInvariant → WholeRunsKnowInsides → WholeRunsRanLast → WholeRunsEntriesGoOn
whole_runs_go_on keeps knows last document notes items seen t right run clash =
    let so = finishing_reached document run.place notes items seen t run.finishing in
    let invariant = keeps document so.0 notes items seen t right so.1 in
    let ran = last document notes items seen t right run in
    let inside = knows document notes items seen t right run clash in
    (entries_go goes_on goes_so t invariant ran inside, entries_go inside_answered answered_so t invariant ran inside)
