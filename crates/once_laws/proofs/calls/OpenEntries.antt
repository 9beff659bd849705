-- The entry of a sending to which no reply was taken has the calls of the script that end with the
-- one that was sent, and the settings before them: it is what its connection ran last.
use Rattle.std.proofs.Common.{◌≡◌, refl, sym, ap, subst, ◌∙◌, Bool, true, false, ℕ, zero, suc, ◌+◌, ◌-◌, ◌<◌, ◌≤◌, ◌&&◌, ◌||◌, length, take, drop, List, [], ◌∷◌, ◌++◌, map, Option, Some, None, arith}
use Rattle.std.specs.Prelude.{◌==◌, not, nat_le, nat_lt, is_some, slice_get}
use Rattle.std.specs.List.{list_all, list_any}
use Rattle.std.specs.Option.{option_map_or}
use Rattle.std.proofs.lemmas.Bool.{and_parts, and_from, or_left, or_right}
use Rattle.std.proofs.lemmas.List.{drop-take, length_push}
use Rattle.std.proofs.lemmas.List.Folds.{list_any-append}
use Rattle.svc_values.specs.declared.answer.Answer.{Answer}
use Rattle.svc_values.specs.declared.call.Call.{Call}
use Rattle.svc_values.specs.declared.entry.Entry.{Entry}
use Rattle.svc_values.specs.declared.entry.Ltxid.{Ltxid}
use Rattle.svc_values.specs.declared.entry.Piece.{Piece}
use Rattle.svc_values.specs.meaning.Calls.{has_commit}
use Rattle.svc_values.specs.meaning.Identifiers.{same_ltxid, session_of}
use Rattle.svc_values.specs.meaning.Same.{same_call, same_calls}
use Rattle.svc_values.specs.SameLaws.{same_call_decides, same_calls_decide, same_ltxid_decides}
use Rattle.svc_values.specs.meaning.SettingsList.{NamedValues, same_settings}
use Rattle.run_clauses.specs.meaning.EntryEvents.{entries_of}
use Rattle.world_model.specs.records.Basic.{lives_rightly, none_behind}
use Rattle.invariant_laws.specs.Begins.{has_start, have_starts, settings_before, starts_rightly}
use Rattle.world_model.specs.meaning.Frames.{Owner, Sent}
use Rattle.invariant_laws.specs.Invariant.{Invariant}
use Rattle.world_model.specs.meaning.Links.{Link, link_at}
use Rattle.world_model.specs.records.Number.{ahead_rightly, cond_held, is_ahead, is_counted, is_near, last_served_made}
use Rattle.invariant_laws.specs.Once.{is_placed, are_placed}
use Rattle.world_model.specs.Parts.{Sending, commit_sendings, held_number, is_commit_call, is_out, number_of, sendings_of}
use Rattle.invariant_laws.specs.Same.{ServedCall, are_pieces, calls_of, ends_with_sent, first_call, has_script_calls, is_open_stored, is_ran, is_scripts, is_started, open_entries_known, ran_by, runs_script_calls, scripts_from, test_at}
use Rattle.world_model.specs.Sames.{is_of, owned_by, same_owner, same_owners, same_sent, same_up}
use Rattle.world_model.specs.Traced.{Traced, Course, courses_of}
use Rattle.world_model.specs.Words.{held_in}
use Rattle.world_model.proofs.Offered.{at_link, at_all, filter_all, weaker_all, number_named, known_of, extra_few, implied, all_below, scan_by, same_owner_is, eq_from, eq_to, le_from, lt_from}
use Rattle.invariant_laws.proofs.Offered.{any_all, owners_are, each_flat, link_ran, link_started, IsFated, fated, fated_from, Waits, scan_owned, held_session, OutRan, out_ran, same_piece_call, none_of, parts_of, both_all, settings_decide}
use Rattle.once_laws.proofs.calls.LinkStarts.{starts_known}
use Rattle.once_laws.proofs.calls.RanScripts.{owns, scripts_ran}

-- THE CALLS OF A TRANSACTION ----------------------------------------------------------------------

drop_at : (calls : List Call) (index : ℕ) (call : Call) → slice_get calls index ≡ Some call → drop index calls ≡ call ∷ drop (index + 1) calls
drop_at [] index call is = absurd (let none : ⊥ = cc in none)
drop_at (first ∷ calls) zero call is = let same : first ≡ call = cc in ap (λ (c : Call). c ∷ calls) same
drop_at (first ∷ calls) (suc index) call is =
    let next : suc (index + 1) ≡ suc index + 1 = omega arith in drop_at calls index call is ∙ ap (λ (n : ℕ). call ∷ drop n (first ∷ calls)) next

pub script_call : (course : Course) (index : ℕ) (did : ServedCall) → is_scripts course index did ≡ true → slice_get course.request.calls index ≡ Some did.piece.call
script_call course index did is =
    by (slice_get course.request.calls index) (and_parts (did.sent.call == index) (option_map_or (same_call did.piece.call) (slice_get course.request.calls index) false) (and_parts (owned_by course.owner did.sent) _ is).1).1
  where
    by : (found : Option Call) → option_map_or (same_call did.piece.call) found false ≡ true → found ≡ Some did.piece.call
    by None same = absurd (let none : ⊥ = cc in none)
    by (Some call) same = ap Some (sym ((same_call_decides did.piece.call call).0 same))

-- the entry's calls are so many of the script's from the first one on
piece_calls : (course : Course) (index : ℕ) (dids : List ServedCall) (pieces : List Piece) → scripts_from course index dids ≡ true → are_pieces dids pieces ≡ true
    → map (λ (piece : Piece). piece.call) pieces ≡ take (length dids) (drop index course.request.calls)
piece_calls course index [] [] all are = refl
piece_calls course index [] (piece ∷ pieces) all are = absurd (let none : ⊥ = cc in none)
piece_calls course index (did ∷ dids) [] all are = none_of did dids are
piece_calls course index (did ∷ dids) (piece ∷ pieces) all are =
    let one = and_parts (is_scripts course index did) (scripts_from course (index + 1) dids) all in
    let two = parts_of did dids piece pieces are in
    ap (λ (call : Call). call ∷ map (λ (p : Piece). p.call) pieces) (sym (same_piece_call did piece two.0))
    ∙ (ap (λ (rest : List Call). did.piece.call ∷ rest) (piece_calls course (index + 1) dids pieces one.1 two.1)
    ∙ ap (take (length (did ∷ dids))) (sym (drop_at course.request.calls index did.piece.call (script_call course index did one.0))))

pub pieces_long : (dids : List ServedCall) (pieces : List Piece) → are_pieces dids pieces ≡ true → length pieces ≡ length dids
pieces_long [] [] are = refl
pieces_long [] (piece ∷ pieces) are = absurd (let none : ⊥ = cc in none)
pieces_long (did ∷ dids) [] are = none_of did dids are
pieces_long (did ∷ dids) (piece ∷ pieces) are = ap suc (pieces_long dids pieces (parts_of did dids piece pieces are).1)

-- the last one is of the last index
pub last_index : (course : Course) (index : ℕ) (before : List ServedCall) (did : ServedCall) → scripts_from course index (before ++ did ∷ []) ≡ true → did.sent.call ≡ index + length before
last_index course index [] did all =
    let parts = and_parts (is_scripts course index did) true all in
    let at : did.sent.call ≡ index = eq_from did.sent.call index (and_parts (did.sent.call == index) _ (and_parts (owned_by course.owner did.sent) _ parts.0).1).0 in
    omega (arith, at)
last_index course index (first ∷ before) did all =
    let parts = and_parts (is_scripts course index first) (scripts_from course (index + 1) (before ++ did ∷ [])) all in
    let rest : did.sent.call ≡ (index + 1) + length before = last_index course (index + 1) before did parts.1 in
    omega (arith, rest)

-- a transaction that ends with this call of the request
pub script_entry : (course : Course) (sending : Sending) (entry : Entry) (before : List ServedCall) (did : ServedCall) → has_script_calls course (before ++ did ∷ []) ≡ true → are_pieces (before ++ did ∷ []) entry.pieces ≡ true
    → owned_by course.owner did.sent ≡ true → did.sent.call ≡ sending.at → (start : NamedValues) → has_start course (before ++ did ∷ []) start ≡ true → same_settings entry.settings start ≡ true → ends_with_sent course sending entry ≡ true
script_entry course sending entry before did knows are own at start has starts =
    and_from (same_calls (calls_of entry) whole) (same_settings entry.settings (settings_before course.request ((sending.at + 1) - length entry.pieces))) ((same_calls_decide (calls_of entry) whole).1 (calls ∙ sym same))
    ((settings_decide entry.settings (settings_before course.request ((sending.at + 1) - length entry.pieces))).1
    ((settings_decide entry.settings start).0 starts
    ∙ ((settings_decide start (settings_before course.request first)).0 (implied (list_any (owns course) (before ++ did ∷ [])) (same_settings start (settings_before course.request first)) owned has) ∙ ap (settings_before course.request) (sym begin))))
  where
    first : ℕ
    first = first_call (before ++ did ∷ []) 0

    whole : List Call
    whole = drop ((sending.at + 1) - length entry.pieces) (take (sending.at + 1) course.request.calls)

    owned : list_any (owns course) (before ++ did ∷ []) ≡ true
    owned = list_any-append (owns course) before (did ∷ []) ∙ or_right (list_any (owns course) before) (list_any (owns course) (did ∷ [])) (or_left (owns course did) false own)

    all : scripts_from course first (before ++ did ∷ []) ≡ true
    all = implied (list_any (owns course) (before ++ did ∷ [])) (scripts_from course first (before ++ did ∷ [])) owned knows

    calls : calls_of entry ≡ take (length (before ++ did ∷ [])) (drop first course.request.calls)
    calls = piece_calls course first (before ++ did ∷ []) entry.pieces all are

    long : length (before ++ did ∷ []) ≡ length before + 1
    long = length_push before did

    index : did.sent.call ≡ first + length before
    index = last_index course first before did all

    count : length entry.pieces ≡ length (before ++ did ∷ [])
    count = pieces_long (before ++ did ∷ []) entry.pieces are

    begin : (sending.at + 1) - length entry.pieces ≡ first
    begin = omega (arith, long, index, count, at)

    end : sending.at + 1 ≡ first + length (before ++ did ∷ [])
    end = omega (arith, long, index, at)

    same : whole ≡ take (length (before ++ did ∷ [])) (drop first course.request.calls)
    same =
        ap (λ (n : ℕ). drop n (take (sending.at + 1) course.request.calls)) begin ∙ (ap (λ (n : ℕ). drop first (take n course.request.calls)) end ∙ drop-take first (length (before ++ did ∷ [])) course.request.calls)

-- the settings at the start of the transaction of a number
record StartAt (course : Course) (starts : List NamedValues) (number : ℕ) (dids : List ServedCall) : Type 0 where
  start : NamedValues
  is : slice_get starts number ≡ Some start
  has : has_start course dids start ≡ true

start_at : (course : Course) (over : List (List ServedCall)) (starts : List NamedValues) (number : ℕ) (dids : List ServedCall) → have_starts course over starts ≡ true → slice_get over number ≡ Some dids → StartAt course starts number dids
start_at course [] starts number dids have at = absurd (let none : ⊥ = cc in none)
start_at course (one ∷ over) [] number dids have at = absurd (let none : ⊥ = cc in none)
start_at course (one ∷ over) (start ∷ starts) zero dids have at =
    let same : one ≡ dids = cc in
    record { start = start; is = refl; has = subst (λ (d : List ServedCall). has_start course d start ≡ true) same (and_parts (has_start course one start) (have_starts course over starts) have).0 }
start_at course (one ∷ over) (start ∷ starts) (suc number) dids have at =
    let so = start_at course over starts number dids (and_parts (has_start course one start) (have_starts course over starts) have).1 at in record { start = so.start; is = so.is; has = so.has }

-- A SENDING ---------------------------------------------------------------------------------------

-- it is the request's, on a connection that it held, and what became of it is known
abbrev pub is_its : Traced → Course → Sending → Bool
is_its t course sending = same_owner sending.owner course.owner && (fated t.machine.links sending && list_any (λ number. number == sending.connection) (held_in course.steps))

module _ (t : Traced) (whole : Invariant t) where
  -- an entry that is there is below the count of its session, and was run
  abbrev pub is_run : Entry → Bool
  is_run entry = is_ran t entry && is_started t entry

  abbrev pub is_there : Entry → Bool
  is_there entry = nat_lt entry.ltxid.number (entries_of t.entries (session_of entry.ltxid)) && is_run entry

  pub all_there : list_all is_there t.entries ≡ true
  all_there =
      both_all (λ entry. nat_lt entry.ltxid.number (entries_of t.entries (session_of entry.ltxid))) is_run t.entries (all_below t.entries whole.orderly.number.entries)
      (both_all (is_ran t) (is_started t) t.entries whole.ran whole.started)

  module _ (course : Course) (runs : list_all (test_at t (runs_script_calls course)) (held_in course.steps) ≡ true) (sending : Sending) (its : is_its t course sending ≡ true) (untaken : sending.taken ≡ None) where
    abbrev x : Ltxid
    x = sending.ltxid

    parts : (same_owner sending.owner course.owner ≡ true) × ((fated t.machine.links sending && list_any (λ number. number == sending.connection) (held_in course.steps)) ≡ true)
    parts = and_parts (same_owner sending.owner course.owner) (fated t.machine.links sending && list_any (λ number. number == sending.connection) (held_in course.steps)) its

    two : (fated t.machine.links sending ≡ true) × (list_any (λ number. number == sending.connection) (held_in course.steps) ≡ true)
    two = and_parts (fated t.machine.links sending) (list_any (λ number. number == sending.connection) (held_in course.steps)) parts.1

    at : IsFated t.machine.links sending
    at = fated_from t.machine.links sending two.0

    waits : Waits sending at.link
    waits = at.fate.waits untaken

    named : at.link.session ≡ Some (session_of x)
    named = held_session t whole.orderly.basic.named whole.orderly.basic.apart sending.connection at.link x at.there waits.held

    held : held_number at.link ≡ x.number
    held = ap (λ (found : Option Ltxid). option_map_or (λ (y : Ltxid). y.number) found 0) waits.held

    -- its connection's transactions are the script's
    on_link : (test : Link → Bool) (link : Link) → link_at t.machine.links sending.connection ≡ Some link → list_all (test_at t test) (held_in course.steps) ≡ true → test link ≡ true
    on_link test link there all =
        let found = any_all (λ number. number == sending.connection) (test_at t test) (held_in course.steps) two.1 all in
        let same : found.0 ≡ sending.connection = eq_from found.0 sending.connection found.1.0 in
        sym (ap (λ (one : Option Link). option_map_or test one false) (ap (link_at t.machine.links) same ∙ there)) ∙ found.1.1

    known : runs_script_calls course at.link ≡ true
    known = on_link (runs_script_calls course) at.link at.there runs

    owner : sending.owner ≡ course.owner
    owner = same_owner_is sending.owner course.owner parts.0

    -- the transaction that the entry has, with the call that was sent as its last one
    pub record HasRun (entry : Entry) : Type 0 where
      pub link : Link
      pub there : link_at t.machine.links sending.connection ≡ Some link
      pub before : List ServedCall
      pub did : ServedCall
      pub named : link.session ≡ Some (session_of entry.ltxid)
      pub started : is_started t entry ≡ true
      pub over : slice_get (ran_by link).over entry.ltxid.number ≡ Some (before ++ did ∷ [])
      pub pieces : are_pieces (before ++ did ∷ []) entry.pieces ≡ true
      pub script : has_script_calls course (before ++ did ∷ []) ≡ true
      pub own : owned_by course.owner did.sent ≡ true
      pub index : did.sent.call ≡ sending.at

    pub entry_ran : (entry : Entry) → is_there entry ≡ true → same_ltxid entry.ltxid x ≡ true → HasRun entry
    entry_ran entry there same = record { link = at.link; there = at.there; before = ran.before; did = ran.did; named = named_so; started = its_runs.1; over = over; pieces = pieces; script = script; own = own; index = index }
      where
        its_parts : (nat_lt entry.ltxid.number (entries_of t.entries (session_of entry.ltxid)) ≡ true) × (is_run entry ≡ true)
        its_parts = and_parts (nat_lt entry.ltxid.number (entries_of t.entries (session_of entry.ltxid))) (is_run entry) there

        its_runs : (is_ran t entry ≡ true) × (is_started t entry ≡ true)
        its_runs = and_parts (is_ran t entry) (is_started t entry) its_parts.1

        equal : entry.ltxid ≡ x
        equal = (same_ltxid_decides entry.ltxid x).0 same

        below : x.number < entries_of t.entries (session_of x)
        below = subst (λ (y : Ltxid). y.number < entries_of t.entries (session_of y)) equal (lt_from entry.ltxid.number (entries_of t.entries (session_of entry.ltxid)) its_parts.0)

        count : number_of t.entries at.link ≡ entries_of t.entries (session_of x)
        count = number_named t.entries at.link (session_of x) named

        ahead : number_of t.entries at.link ≡ held_number at.link + 1
        ahead =
            let near = at_link (is_near t) t.machine.links sending.connection at.link whole.orderly.number.near at.there in
            let most : number_of t.entries at.link ≤ held_number at.link + cond_held at.link =
            le_from (number_of t.entries at.link) (held_number at.link + cond_held at.link) (and_parts (nat_le (held_number at.link) (number_of t.entries at.link)) (nat_le (number_of t.entries at.link) (held_number at.link + cond_held at.link)) near).1 in
            let extra : cond_held at.link ≤ 1 = extra_few (is_some at.link.held) in
            omega (arith, most, extra, below, count, held)

        rightly : (is_out at.link && (last_served_made at.link && not (list_any is_commit_call at.link.up))) ≡ true
        rightly =
            implied (is_ahead t at.link) (is_out at.link && (last_served_made at.link && not (list_any is_commit_call at.link.up))) (eq_to (number_of t.entries at.link) (held_number at.link + 1) ahead)
            (at_link (ahead_rightly t) t.machine.links sending.connection at.link whole.orderly.number.ahead at.there)

        ran : OutRan at.link
        ran =
            out_ran at.link (known_of t whole.orderly sending.connection at.link at.there) (and_parts (none_behind at.link.served) _ (at_link lives_rightly t.machine.links sending.connection at.link whole.orderly.basic.life at.there)).0
            (number_of t.entries at.link) ahead (at_link (is_counted t) t.machine.links sending.connection at.link whole.orderly.number.counted at.there)
            (and_parts (last_served_made at.link) (not (list_any is_commit_call at.link.up)) (and_parts (is_out at.link) (last_served_made at.link && not (list_any is_commit_call at.link.up)) rightly).1).0

        over : slice_get (ran_by at.link).over entry.ltxid.number ≡ Some (ran.before ++ ran.did ∷ [])
        over = ap (slice_get (ran_by at.link).over) (ap (λ (y : Ltxid). y.number) equal ∙ sym held) ∙ ran.over

        named_so : at.link.session ≡ Some (session_of entry.ltxid)
        named_so = named ∙ ap (λ (y : Ltxid). Some (session_of y)) (sym equal)

        pieces : are_pieces (ran.before ++ ran.did ∷ []) entry.pieces ≡ true
        pieces =
            sym (ap (λ (some : Option (List ServedCall)). option_map_or (λ dids. are_pieces dids entry.pieces) some false) over)
            ∙ link_ran t whole.orderly.basic.apart entry sending.connection at.link at.there named_so its_runs.0

        script : has_script_calls course (ran.before ++ ran.did ∷ []) ≡ true
        script =
            at_all (has_script_calls course) (ran_by at.link).over entry.ltxid.number (ran.before ++ ran.did ∷ []) (and_parts (list_all (has_script_calls course) (ran_by at.link).over) (has_script_calls course (ran_by at.link).pieces) known).0 over

        -- what it ran last is what is out
        last : same_sent ran.did.sent waits.frame ≡ true
        last = sym (ap (λ (found : Option Sent). option_map_or (same_sent ran.did.sent) found false) waits.last) ∙ ran.sent

        frame : (owned_by sending.owner waits.frame && (waits.frame.call == sending.at)) ≡ true
        frame = (and_parts (is_commit_call waits.frame) (owned_by sending.owner waits.frame && (waits.frame.call == sending.at)) waits.is).1

        same_parts : (same_owners ran.did.sent.owner waits.frame.owner ≡ true) × (((ran.did.sent.call == waits.frame.call) && same_up ran.did.sent.frame waits.frame.frame) ≡ true)
        same_parts = and_parts (same_owners ran.did.sent.owner waits.frame.owner) ((ran.did.sent.call == waits.frame.call) && same_up ran.did.sent.frame waits.frame.frame) last

        own : owned_by course.owner ran.did.sent ≡ true
        own =
            ap (is_of course.owner) (owners_are ran.did.sent.owner waits.frame.owner same_parts.0)
            ∙ (ap (λ (one : Owner). is_of one waits.frame.owner) (sym owner) ∙ (and_parts (owned_by sending.owner waits.frame) (waits.frame.call == sending.at) frame).0)

        index : ran.did.sent.call ≡ sending.at
        index =
            eq_from ran.did.sent.call waits.frame.call (and_parts (ran.did.sent.call == waits.frame.call) (same_up ran.did.sent.frame waits.frame.frame) same_parts.1).0
            ∙ eq_from waits.frame.call sending.at (and_parts (owned_by sending.owner waits.frame) (waits.frame.call == sending.at) frame).1

    entry_known : list_all (test_at t (starts_rightly course)) (held_in course.steps) ≡ true → (entry : Entry) → is_there entry ≡ true → same_ltxid entry.ltxid x ≡ true → ends_with_sent course sending entry ≡ true
    entry_known starts entry there same = script_entry course sending entry so.before so.did so.script so.pieces so.own so.index start.start start.has settings
      where
        so : HasRun entry
        so = entry_ran entry there same

        -- the settings at the start of it
        start : StartAt course (ran_by so.link).starts entry.ltxid.number (so.before ++ so.did ∷ [])
        start =
            start_at course (ran_by so.link).over (ran_by so.link).starts entry.ltxid.number (so.before ++ so.did ∷ [])
            (and_parts (have_starts course (ran_by so.link).over (ran_by so.link).starts) (has_start course (ran_by so.link).pieces (ran_by so.link).at_start) (on_link (starts_rightly course) so.link so.there starts)).0 so.over

        settings : same_settings entry.settings start.start ≡ true
        settings =
            sym (ap (λ (found : Option NamedValues). option_map_or (same_settings entry.settings) found false) start.is)
            ∙ link_started t whole.orderly.basic.apart entry sending.connection so.link so.there so.named so.started

  sending_known : (course : Course) → list_all (test_at t (runs_script_calls course)) (held_in course.steps) ≡ true → list_all (test_at t (starts_rightly course)) (held_in course.steps) ≡ true → (sending : Sending) → is_its t course sending ≡ true → is_open_stored t course sending ≡ true
  sending_known course runs starts sending its = by sending.taken refl
    where
      entry_so : sending.taken ≡ None → (entry : Entry) → is_there entry ≡ true → (not (same_ltxid entry.ltxid sending.ltxid) || ends_with_sent course sending entry) ≡ true
      entry_so none entry there = of (same_ltxid entry.ltxid sending.ltxid) refl
        where
          of : (test : Bool) → same_ltxid entry.ltxid sending.ltxid ≡ test → (not test || ends_with_sent course sending entry) ≡ true
          of false is = refl
          of true is = entry_known course runs sending its none starts entry there is

      by : (taken : Option (List Answer)) → sending.taken ≡ taken → (is_some taken || list_all (λ entry. not (same_ltxid entry.ltxid sending.ltxid) || ends_with_sent course sending entry) t.entries) ≡ true
      by (Some answers) is = refl
      by None is = weaker_all is_there (λ entry. not (same_ltxid entry.ltxid sending.ltxid) || ends_with_sent course sending entry) t.entries (entry_so is) all_there

  course_its : (course : Course) → (list_all (fated t.machine.links) (commit_sendings course) && are_placed course) ≡ true → list_all (is_its t course) (commit_sendings course) ≡ true
  course_its course so =
      both_all (λ s. same_owner s.owner course.owner) (λ s. fated t.machine.links s && list_any (λ number. number == s.connection) (held_in course.steps)) (commit_sendings course)
      (filter_all (λ s. same_owner s.owner course.owner) commits (sendings_of course) (scan_owned course.owner (scan_by course.owner []) course.steps refl refl))
      (both_all (fated t.machine.links) (λ s. list_any (λ number. number == s.connection) (held_in course.steps)) (commit_sendings course) two.0
      (filter_all (λ s. list_any (λ number. number == s.connection) (held_in course.steps)) commits (sendings_of course)
      (weaker_all (is_placed course.request.calls (held_in course.steps)) (λ s. list_any (λ number. number == s.connection) (held_in course.steps)) (sendings_of course)
      (λ s is. (and_parts (option_map_or (same_call s.call) (slice_get course.request.calls s.at) false) (list_any (λ number. number == s.connection) (held_in course.steps)) is).1) two.1)))
    where
      commits : Sending → Bool
      commits sending = has_commit sending.call

      two : (list_all (fated t.machine.links) (commit_sendings course) ≡ true) × (are_placed course ≡ true)
      two = and_parts (list_all (fated t.machine.links) (commit_sendings course)) (are_placed course) so

  -- each sending with a commit is its request's
  pub all_its : list_all (λ course. list_all (is_its t course) (commit_sendings course)) (courses_of t) ≡ true
  all_its =
      weaker_all (λ course. list_all (fated t.machine.links) (commit_sendings course) && are_placed course) (λ course. list_all (is_its t course) (commit_sendings course)) (courses_of t) course_its
      (both_all (λ course. list_all (fated t.machine.links) (commit_sendings course)) are_placed (courses_of t) (each_flat (fated t.machine.links) commit_sendings (courses_of t) whole.once.fates) whole.once.placed)

  course_known : (course : Course)
      → (list_all (test_at t (runs_script_calls course)) (held_in course.steps) && (list_all (test_at t (starts_rightly course)) (held_in course.steps) && list_all (is_its t course) (commit_sendings course))) ≡ true
      → list_all (is_open_stored t course) (commit_sendings course) ≡ true
  course_known course so =
      let one = and_parts (list_all (test_at t (runs_script_calls course)) (held_in course.steps)) (list_all (test_at t (starts_rightly course)) (held_in course.steps) && list_all (is_its t course) (commit_sendings course)) so in
      let two = and_parts (list_all (test_at t (starts_rightly course)) (held_in course.steps)) (list_all (is_its t course) (commit_sendings course)) one.1 in
      weaker_all (is_its t course) (is_open_stored t course) (commit_sendings course) (sending_known course one.0 two.0) two.1

pub open_known : (t : Traced) → Invariant t → open_entries_known t ≡ true
open_known t whole =
    weaker_all (λ course. list_all (test_at t (runs_script_calls course)) (held_in course.steps) && (list_all (test_at t (starts_rightly course)) (held_in course.steps) && list_all (is_its t course) (commit_sendings course)))
    (λ course. list_all (is_open_stored t course) (commit_sendings course)) (courses_of t) (course_known t whole)
    (both_all (λ course. list_all (test_at t (runs_script_calls course)) (held_in course.steps))
    (λ course. list_all (test_at t (starts_rightly course)) (held_in course.steps) && list_all (is_its t course) (commit_sendings course)) (courses_of t) (scripts_ran t whole)
    (both_all (λ course. list_all (test_at t (starts_rightly course)) (held_in course.steps)) (λ course. list_all (is_its t course) (commit_sendings course)) (courses_of t)
    (starts_known t whole.orderly whole.shown.rows whole.settings whole.followed) (all_its t whole)))
