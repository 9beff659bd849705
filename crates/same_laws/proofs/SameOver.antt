-- A request that is over stands in the journal with what its client knows, where each entry of a
-- sending does that is open or was answered Committed.
use Rattle.std.proofs.Common.{◌≡◌, refl, sym, ap, subst, ◌∙◌, Bool, true, false, ℕ, zero, suc, ◌+◌, ◌-◌, ◌<◌, ◌≤◌, ◌&&◌, append-nil, append_assoc, cond, drop, filter, length, length-append, take, List, [], ◌∷◌, ◌++◌, Option, Some, None, ◌⊎◌, inl, inr, if◌then◌else◌, arith}
use Rattle.std.specs.Prelude.{nat_le, nat_lt, slice_get}
use Rattle.std.specs.List.{list_all, last_or}
use Rattle.std.specs.Option.{option_map_or}
use Rattle.std.proofs.Math.Seq.{drop-append_seam}
use Rattle.std.proofs.lemmas.Bool.{and_parts, and_from}
use Rattle.std.proofs.lemmas.List.{drop-drop, drop-take, length_push, length-map}
use Rattle.std.proofs.lemmas.List.Sums.{fold-append}
use Rattle.svc_values.specs.declared.call.Call.{Call}
use Rattle.svc_values.specs.declared.draw.Draw.{Draw}
use Rattle.svc_values.specs.declared.entry.Entry.{Entry}
use Rattle.svc_values.specs.declared.entry.Ltxid.{Ltxid}
use Rattle.svc_values.specs.declared.entry.Piece.{Piece}
use Rattle.svc_values.specs.meaning.Endings.{ends_committed, ends_transaction}
use Rattle.svc_values.specs.meaning.Same.{same_answers, same_draws}
use Rattle.svc_values.specs.SameLaws.{same_calls_decide}
use Rattle.svc_values.specs.meaning.SettingsList.{NamedValues, same_settings, with_set, with_sets}
use Rattle.outage_schedule.specs.declared.request.ShownCall.{ShownCall}
use Rattle.run_clauses.specs.meaning.Same.{are_same, has_answers, has_calls, has_draws, is_any, is_same, is_same_txn}
use Rattle.run_clauses.specs.meaning.Transactions.{txns, with_tried}
use Rattle.run_clauses.specs.meaning.Tried.{holds}
use Rattle.run_clauses.specs.Tried.{Sending as Tried, tried_among, tried_from}
use Rattle.invariant_laws.specs.Once.{shows_at}
use Rattle.invariant_laws.specs.Same.{agree_from, agrees, begins_at, calls_of}
use Rattle.invariant_laws.proofs.Offered.{ended_calls_committed_ends as committed_ends, shows_weaker, some_part}
use Rattle.same_laws.proofs.SettingsOn.{take_on}
use Rattle.same_laws.proofs.ShownTxns.{Begins, Cut, EndedPart, LastPart, all_go_on, begins_in, begins_next, cut, end_place, got_behind, never_ends}
use Rattle.world_model.proofs.Offered.{le_from, lt_from}

-- LISTS -------------------------------------------------------------------------------------------

pub kept_all : {A : Type 0} (test keep : A → Bool) (xs : List A) → ((place : ℕ) (x : A) → slice_get xs place ≡ Some x → keep x ≡ true → test x ≡ true) → list_all test (filter keep xs) ≡ true
kept_all test keep [] each = refl
kept_all test keep (x ∷ xs) each = by (keep x) refl (kept_all test keep xs (λ place y at held. each (suc place) y at held))
  where
    by : (kept : Bool) → keep x ≡ kept → list_all test (filter keep xs) ≡ true → list_all test (if kept then x ∷ filter keep xs else filter keep xs) ≡ true
    by true is rest = and_from (test x) (list_all test (filter keep xs)) (each 0 x refl is) rest
    by false is rest = rest

calls_long : (first n : ℕ) (xs : List Call) → first + n ≤ length xs → length (take n (drop first xs)) ≡ n
calls_long zero zero xs most = refl
calls_long zero (suc n) [] most = absurd (let never : ⊥ = omega (arith, most) in never)
calls_long zero (suc n) (x ∷ xs) most = let less : zero + n ≤ length xs = omega (arith, most) in ap suc (calls_long zero n xs less)
calls_long (suc first) n [] most = absurd (let never : ⊥ = omega (arith, most) in never)
calls_long (suc first) n (x ∷ xs) most = let less : first + n ≤ length xs = omega (arith, most) in calls_long first n xs less

-- what agrees with all calls from here has the answers and the draws of a front of them
agree_has : (granted : Draw → Bool) (pieces : List Piece) (part later : List ShownCall) → agree_from granted pieces (part ++ later) ≡ true → length part ≤ length pieces → (has_answers pieces part ≡ true) × (has_draws granted pieces part ≡ true)
agree_has granted [] [] later all most = (refl, refl)
agree_has granted (piece ∷ pieces) [] later all most = (refl, refl)
agree_has granted [] (x ∷ part) later all most = absurd (let never : ⊥ = omega (arith, most) in never)
agree_has granted (piece ∷ pieces) (x ∷ part) later all most =
    let parts = and_parts (agrees granted piece x) (agree_from granted pieces (part ++ later)) all in
    let two = and_parts (same_answers piece.answers x.answers) (same_draws (filter granted piece.draws) (filter granted x.draws)) parts.0 in
    let less : length part ≤ length pieces = omega (arith, most) in
    let rest = agree_has granted pieces part later parts.1 less in
    (and_from (same_answers piece.answers x.answers) (has_answers pieces part) two.0 rest.0, and_from (same_draws (filter granted piece.draws) (filter granted x.draws)) (has_draws granted pieces part) two.1 rest.1)

holds_any : (ids : List Ltxid) (x : Ltxid) → holds ids x ≡ true → is_any ids ≡ true
holds_any [] x held = absurd (let none : ⊥ = cc in none)
holds_any (y ∷ ids) x held = refl

-- ONE REQUEST -------------------------------------------------------------------------------------

-- its settings at the start, its script, the calls shown, whether it failed, its lists, and its
-- sendings
module _ (granted : Draw → Bool) (entries : List Entry) (start : NamedValues) (script : List Call) (shown : List ShownCall) (fails : Bool) (lists : List (List Ltxid)) (told : List Tried) where
  abbrev pub more : ℕ
  more = cond (fails && option_map_or is_any (last_or None lists) false) 1 0

  -- an entry of a sending of one of these calls: of the next call of a request that failed, or of
  -- one that was shown as committed
  pub record EntryAt (is_of : ℕ → Bool) (entry : Entry) : Type 0 where
    pub at : ℕ
    pub of_it : is_of at ≡ true
    pub calls : calls_of entry ≡ drop (begins_at shown at) (take (at + 1) script)
    pub settings : same_settings entry.settings (with_sets start (take (begins_at shown at) script)) ≡ true
    pub agree : agree_from granted entry.pieces (drop (begins_at shown at) shown) ≡ true
    pub place : (at ≡ length shown) × (fails ≡ true) ⊎ (shows_at ends_committed shown at ≡ true)
    pub within : at < length script

  abbrev pub EachEntry : Type 0
  EachEntry = (is_of : ℕ → Bool) (place : ℕ) (entry : Entry) → slice_get entries place ≡ Some entry → holds (tried_among is_of told) entry.ltxid ≡ true → EntryAt is_of entry

  abbrev settings_at : ℕ → NamedValues
  settings_at first = with_sets start (take first script)

  -- an entry of the transaction that begins behind these calls, and has so many
  entry_same : (before part later : List ShownCall) (n : ℕ) (is_of : ℕ → Bool) (entry : Entry) (found : EntryAt is_of entry) → shown ≡ before ++ (part ++ later) → begins_at shown found.at ≡ length before → found.at + 1 ≡ length before + n → length part ≤ n
      → is_same granted (settings_at (length before)) (take n (drop (length before) script)) part entry ≡ true
  entry_same before part later n is_of entry found is begins ends most =
      and_from (has_calls entry (take n (drop (length before) script))) (has_answers entry.pieces part && (has_draws granted entry.pieces part && same_settings entry.settings (settings_at (length before))))
      ((same_calls_decide (calls_of entry) (take n (drop (length before) script))).1 calls)
      (and_from (has_answers entry.pieces part) (has_draws granted entry.pieces part && same_settings entry.settings (settings_at (length before))) both.0
      (and_from (has_draws granted entry.pieces part) (same_settings entry.settings (settings_at (length before))) both.1
      (subst (λ (b : ℕ). same_settings entry.settings (with_sets start (take b script)) ≡ true) begins found.settings)))
    where
      calls : calls_of entry ≡ take n (drop (length before) script)
      calls = found.calls ∙ (ap (λ (b : ℕ). drop b (take (found.at + 1) script)) begins ∙ (ap (λ (m : ℕ). drop (length before) (take m script)) ends ∙ drop-take (length before) n script))

      long : length before + n ≤ length script
      long = let within : found.at < length script = found.within in omega (arith, within, ends)

      count : length entry.pieces ≡ n
      count = sym (length-map entry.pieces (λ (piece : Piece). piece.call)) ∙ (ap length calls ∙ calls_long (length before) n script long)

      both : (has_answers entry.pieces part ≡ true) × (has_draws granted entry.pieces part ≡ true)
      both =
          agree_has granted entry.pieces part later
          (subst (λ (xs : List ShownCall). agree_from granted entry.pieces xs ≡ true) (ap (λ (b : ℕ). drop b shown) begins ∙ (ap (drop (length before)) is ∙ drop-append_seam before (part ++ later))) found.agree)
          (omega (arith, count, most))

  module _ (each : EachEntry) where
    -- what is shown in a part
    shown_in : (before rest : List ShownCall) (at k : ℕ) → shown ≡ before ++ rest → at ≡ length before + k → shows_at ends_committed shown at ≡ true → shows_at ends_transaction rest k ≡ true
    shown_in before rest at k is place shows =
        subst (λ (got : Option ShownCall). option_map_or (λ (call : ShownCall). ends_transaction call.answers) got false ≡ true) (ap (λ (xs : List ShownCall). slice_get xs at) is ∙ (ap (slice_get (before ++ rest)) place ∙ got_behind before rest k))
        (shows_weaker ends_committed ends_transaction committed_ends shown at shows)

    -- a part that a call ended
    ended_same : (before part : List ShownCall) (call : ShownCall) (later : List ShownCall) → shown ≡ before ++ (part ++ call ∷ later) → Begins before → all_go_on part ≡ true
        → is_same_txn granted entries (settings_at (length before)) (take (length (part ++ call ∷ [])) (drop (length before) script))
        (record { shown = part ++ call ∷ []; tried = tried_among (λ at. nat_le (length before) at && nat_lt at (length before + length (part ++ call ∷ []))) told }) ≡ true
    ended_same before part call later is begins go =
        kept_all (is_same granted (settings_at (length before)) (take (length (part ++ call ∷ [])) (drop (length before) script)) (part ++ call ∷ [])) (λ entry. holds (tried_among is_of told) entry.ltxid) entries (λ place entry here held. one entry (each is_of place entry here held))
      where
        is_of : ℕ → Bool
        is_of at = nat_le (length before) at && nat_lt at (length before + length (part ++ call ∷ []))

        one : (entry : Entry) → EntryAt is_of entry → is_same granted (settings_at (length before)) (take (length (part ++ call ∷ [])) (drop (length before) script)) (part ++ call ∷ []) entry ≡ true
        one entry found = entry_same before (part ++ call ∷ []) later (length (part ++ call ∷ [])) is_of entry found (is ∙ ap (λ (xs : List ShownCall). before ++ xs) (sym (append_assoc part (call ∷ []) later))) begins_so ends (omega arith)
          where
            long : length (part ++ call ∷ []) ≡ length part + 1
            long = length_push part call

            range : (length before ≤ found.at) × (found.at < length before + length (part ++ call ∷ []))
            range =
                let both = and_parts (nat_le (length before) found.at) (nat_lt found.at (length before + length (part ++ call ∷ []))) found.of_it in
                (le_from (length before) found.at both.0, lt_from found.at (length before + length (part ++ call ∷ [])) both.1)

            k : ℕ
            k = found.at - length before

            at_k : found.at ≡ length before + k
            at_k = let least : length before ≤ found.at = range.0 in omega (arith, least)

            below : k < length part + 1
            below = let less : found.at < length before + length (part ++ call ∷ []) = range.1 in omega (arith, less, at_k, long)

            all_long : length shown ≡ length before + (length part + suc (length later))
            all_long = ap length is ∙ (length-append before (part ++ call ∷ later) ∙ ap (λ (n : ℕ). length before + n) (length-append part (call ∷ later)))

            shows : shows_at ends_committed shown found.at ≡ true
            shows = by found.place
              where
                by : (found.at ≡ length shown) × (fails ≡ true) ⊎ (shows_at ends_committed shown found.at ≡ true) → shows_at ends_committed shown found.at ≡ true
                by (inl last) = let at_end : found.at ≡ length shown = last.0 in absurd (let never : ⊥ = omega (arith, at_end, all_long, at_k, below) in never)
                by (inr here) = here

            end : k ≡ length part
            end = end_place part call later k go below (shown_in before (part ++ call ∷ later) found.at k is at_k shows)

            ends : found.at + 1 ≡ length before + length (part ++ call ∷ [])
            ends = omega (arith, at_k, end, long)

            begins_so : begins_at shown found.at ≡ length before
            begins_so = ap (λ (xs : List ShownCall). begins_at xs found.at) is ∙ (ap (begins_at (before ++ (part ++ call ∷ later))) at_k ∙ begins_in before part (call ∷ later) k begins go (omega (arith, end)))

    -- the last part
    last_same : (before rest : List ShownCall) → shown ≡ before ++ rest → Begins before → all_go_on rest ≡ true → last_or None lists ≡ Some (tried_among (λ at. nat_le (length before) at) told)
        → is_same_txn granted entries (settings_at (length before)) (take (length rest + more) (drop (length before) script)) (record { shown = rest; tried = tried_among (λ at. nat_le (length before) at) told }) ≡ true
    last_same before rest is begins go last =
        kept_all (is_same granted (settings_at (length before)) (take (length rest + more) (drop (length before) script)) rest) (λ entry. holds (tried_among is_of told) entry.ltxid) entries (λ place entry here held. one entry held (each is_of place entry here held))
      where
        is_of : ℕ → Bool
        is_of at = nat_le (length before) at

        one : (entry : Entry) → holds (tried_among is_of told) entry.ltxid ≡ true → EntryAt is_of entry → is_same granted (settings_at (length before)) (take (length rest + more) (drop (length before) script)) rest entry ≡ true
        one entry held found = by found.place
          where
            whole : shown ≡ before ++ (rest ++ [])
            whole = is ∙ ap (λ (xs : List ShownCall). before ++ xs) (sym (append-nil rest))

            least : length before ≤ found.at
            least = le_from (length before) found.at found.of_it

            k : ℕ
            k = found.at - length before

            at_k : found.at ≡ length before + k
            at_k = omega (arith, least)

            all_long : length shown ≡ length before + length rest
            all_long = ap length is ∙ length-append before rest

            by : (found.at ≡ length shown) × (fails ≡ true) ⊎ (shows_at ends_committed shown found.at ≡ true) → is_same granted (settings_at (length before)) (take (length rest + more) (drop (length before) script)) rest entry ≡ true
            by (inr shows) = never_ends rest k go (shown_in before rest found.at k is at_k shows)
            by (inl next) =
                let at_end : found.at ≡ length shown = next.0 in
                let some : option_map_or is_any (last_or None lists) false ≡ true = ap (λ (ids : Option (List Ltxid)). option_map_or is_any ids false) last ∙ holds_any (tried_among is_of told) entry.ltxid held in
                let one_more : more ≡ 1 = ap (λ (b : Bool). cond b 1 0) (and_from fails (option_map_or is_any (last_or None lists) false) next.1 some) in
                let end : k ≡ length rest = omega (arith, at_end, all_long, at_k) in
                let ends : found.at + 1 ≡ length before + (length rest + more) = omega (arith, at_end, all_long, one_more) in
                entry_same before rest [] (length rest + more) is_of entry found whole
                (ap (λ (xs : List ShownCall). begins_at xs found.at) whole ∙ (ap (begins_at (before ++ (rest ++ []))) at_k ∙ begins_in before rest [] k begins go (omega (arith, end)))) ends (omega arith)

    -- all parts from a place on
    abbrev same_from : ℕ → NamedValues → List Call → List (List ShownCall) → Bool
    same_from first settings calls parts = are_same granted entries settings calls more (with_tried parts (tried_from first parts told))

    two_parts : (first : ℕ) (settings : NamedValues) (calls : List Call) (part next : List ShownCall) (others : List (List ShownCall))
        → same_from first settings calls (part ∷ next ∷ others)
        ≡ (is_same_txn granted entries settings (take (length part) calls) (record { shown = part; tried = tried_among (λ at. nat_le first at && nat_lt at (first + length part)) told })
        && same_from (first + length part) (with_sets settings (take (length part) calls)) (drop (length part) calls) (next ∷ others))
    two_parts first settings calls part next [] = refl
    two_parts first settings calls part next (another ∷ others) = refl

    last_two : (first : ℕ) (part next : List ShownCall) (others : List (List ShownCall)) → last_or None (tried_from first (part ∷ next ∷ others) told) ≡ last_or None (tried_from (first + length part) (next ∷ others) told)
    last_two first part next [] = refl
    last_two first part next (another ∷ others) = refl

    settings_further : (first n : ℕ) → with_sets (settings_at first) (take n (drop first script)) ≡ settings_at (first + n)
    settings_further first n = sym (ap (with_sets start) (take_on first n script) ∙ fold-append with_set start (take first script) (take n (drop first script)))

    walk : (parts : List (List ShownCall)) (before rest : List ShownCall) → shown ≡ before ++ rest → Begins before → txns rest ≡ parts → last_or None lists ≡ last_or None (tried_from (length before) parts told)
        → same_from (length before) (settings_at (length before)) (drop (length before) script) parts ≡ true
    walk [] before rest is begins so last = refl
    walk (part ∷ []) before rest is begins so last = by (cut rest)
      where
        by : Cut rest → same_from (length before) (settings_at (length before)) (drop (length before) script) (part ∷ []) ≡ true
        by (LastPart go parts) =
            let same : rest ≡ part = first_of (sym parts ∙ so) in
            subst (λ (xs : List ShownCall). same_from (length before) (settings_at (length before)) (drop (length before) script) (xs ∷ []) ≡ true) same (last_same before rest is begins go last)
          where
            first_of : rest ∷ [] ≡ part ∷ [] → rest ≡ part
            first_of equal = cc
        by (EndedPart ended call later same go ends parts) =
            let some = some_part later in
            let none : (ended ++ call ∷ []) ∷ (some.0.first ∷ some.0.rest) ≡ part ∷ [] = sym (parts ∙ ap (λ (xs : List (List ShownCall)). (ended ++ call ∷ []) ∷ xs) some.1) ∙ so in
            absurd (let never : ⊥ = cc in never)
    walk (part ∷ next ∷ others) before rest is begins so last = by (cut rest) (walk (next ∷ others))
      where
        by : Cut rest
            → ((before rest : List ShownCall) → shown ≡ before ++ rest → Begins before → txns rest ≡ next ∷ others → last_or None lists ≡ last_or None (tried_from (length before) (next ∷ others) told)
            → same_from (length before) (settings_at (length before)) (drop (length before) script) (next ∷ others) ≡ true)
            → same_from (length before) (settings_at (length before)) (drop (length before) script) (part ∷ next ∷ others) ≡ true
        by (LastPart go parts) again = let none : rest ∷ [] ≡ part ∷ next ∷ others = sym parts ∙ so in absurd (let never : ⊥ = cc in never)
        by (EndedPart ended call later same go ends parts) again =
            two_parts (length before) (settings_at (length before)) (drop (length before) script) part next others
            ∙ and_from (is_same_txn granted entries (settings_at (length before)) (take (length part) (drop (length before) script)) (record { shown = part; tried = tried_among (λ at. nat_le (length before) at && nat_lt at (length before + length part)) told }))
            (same_from (length before + length part) (with_sets (settings_at (length before)) (take (length part) (drop (length before) script))) (drop (length part) (drop (length before) script)) (next ∷ others)) here behind
          where
            both : (ended ++ call ∷ []) ∷ txns later ≡ part ∷ next ∷ others
            both = sym parts ∙ so

            part_is : ended ++ call ∷ [] ≡ part
            part_is = cc

            later_is : txns later ≡ next ∷ others
            later_is = cc

            whole : shown ≡ before ++ (ended ++ call ∷ later)
            whole = is ∙ ap (λ (xs : List ShownCall). before ++ xs) same

            here : is_same_txn granted entries (settings_at (length before)) (take (length part) (drop (length before) script)) (record { shown = part; tried = tried_among (λ at. nat_le (length before) at && nat_lt at (length before + length part)) told }) ≡ true
            here =
                subst
                (λ (xs : List ShownCall). is_same_txn granted entries (settings_at (length before)) (take (length xs) (drop (length before) script)) (record { shown = xs; tried = tried_among (λ at. nat_le (length before) at && nat_lt at (length before + length xs)) told }) ≡ true)
                part_is (ended_same before ended call later whole begins go)

            further : shown ≡ (before ++ part) ++ later
            further = whole ∙ (ap (λ (xs : List ShownCall). before ++ xs) (sym (append_assoc ended (call ∷ []) later) ∙ ap (λ (xs : List ShownCall). xs ++ later) part_is) ∙ sym (append_assoc before part later))

            begins_there : Begins (before ++ part)
            begins_there = subst (λ (xs : List ShownCall). Begins (before ++ xs)) part_is (begins_next before ended call begins go ends)

            long : length (before ++ part) ≡ length before + length part
            long = length-append before part

            last_there : last_or None lists ≡ last_or None (tried_from (length (before ++ part)) (next ∷ others) told)
            last_there = last ∙ (last_two (length before) part next others ∙ ap (λ (n : ℕ). last_or None (tried_from n (next ∷ others) told)) (sym long))

            behind : same_from (length before + length part) (with_sets (settings_at (length before)) (take (length part) (drop (length before) script))) (drop (length part) (drop (length before) script)) (next ∷ others) ≡ true
            behind =
                ap (λ (settings : NamedValues). same_from (length before + length part) settings (drop (length part) (drop (length before) script)) (next ∷ others)) (settings_further (length before) (length part))
                ∙ (ap (λ (calls : List Call). same_from (length before + length part) (settings_at (length before + length part)) calls (next ∷ others)) (drop-drop (length part) (length before) script)
                ∙ subst (λ (n : ℕ). same_from n (settings_at n) (drop n script) (next ∷ others) ≡ true) long (again (before ++ part) later further begins_there later_is last_there))

    pub all_same : lists ≡ tried_from 0 (txns shown) told → are_same granted entries start script more (with_tried (txns shown) lists) ≡ true
    all_same is =
        ap (λ (ids : List (List Ltxid)). are_same granted entries start script more (with_tried (txns shown) ids)) is
        ∙ walk (txns shown) [] shown refl (λ xs. refl) refl (ap (last_or None) is)
