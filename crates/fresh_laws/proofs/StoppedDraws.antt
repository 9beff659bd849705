-- What a call drew that was stopped, as far as its entry tells: there is at most one of its
-- identifier.
use Rattle.std.proofs.Common.{◌≡◌, refl, sym, ap, subst, ◌∙◌, arith, ℕ, ◌<◌, cond, Bool, true, false, List, [], ◌∷◌, ◌++◌, length, filter, Option, Some, None, if◌then◌else◌}
use Rattle.std.specs.Prelude.{slice_get}
use Rattle.std.specs.List.{list_all, last_or}
use Rattle.std.specs.Option.{option_map_or}
use Rattle.std.proofs.lemmas.Bool.{and_parts}
use Rattle.std.proofs.lemmas.List.Elements.{filter-append}
use Rattle.std.proofs.lemmas.Option.{slice_get_past}
use Rattle.svc_values.specs.declared.draw.Draw.{Draw}
use Rattle.svc_values.specs.declared.entry.Entry.{Entry}
use Rattle.svc_values.specs.declared.entry.Ltxid.{Ltxid}
use Rattle.svc_values.specs.declared.entry.Piece.{Piece}
use Rattle.svc_values.specs.declared.entry.SessionId.{SessionId}
use Rattle.svc_values.specs.meaning.Identifiers.{same_ltxid, session_of, is_of_session, ltxid_of}
use Rattle.svc_values.specs.SameLaws.{same_ltxid_decides}
use Rattle.run_clauses.specs.meaning.EntryEvents.{entries_of}
use Rattle.world_model.specs.records.Number.{numbered_after}
use Rattle.invariant_laws.specs.Once.{last_draws}
use Rattle.world_model.specs.Parts.{implies}
use Rattle.invariant_laws.specs.Same.{Ran, ServedCall, are_pieces}
use Rattle.world_model.proofs.Offered.{last_pushed, entries_cons, numbered_parts, session_self}
use Rattle.invariant_laws.proofs.Offered.{is_its, has_ran, ran_pieces}

-- the draws of the last piece of the entry of this identifier, if there is one
abbrev pub under : Ltxid → Entry → Bool
under x entry = same_ltxid entry.ltxid x

abbrev pub stopped_in : List Entry → Ltxid → List Draw
stopped_in entries x = option_map_or (λ entry. last_draws entry.pieces) (last_or None (filter (under x) entries)) []

abbrev draws_in : Option Piece → List Draw
draws_in found = option_map_or (λ piece. piece.draws) found []

last_behind : (first : Piece) (pieces : List Piece) → last_draws (first ∷ pieces) ≡ draws_in (last_or (Some first) pieces)
last_behind first [] = refl
last_behind first (next ∷ pieces) = last_behind next pieces

pub last_drawn : (pieces : List Piece) (piece : Piece) → last_or None pieces ≡ Some piece → last_draws pieces ≡ piece.draws
last_drawn [] piece is = absurd (let none : ⊥ = cc in none)
last_drawn (first ∷ pieces) piece is = last_behind first pieces ∙ ap draws_in is

-- NONE BEHIND -------------------------------------------------------------------------------------

-- behind more entries of its session than its number says there is none
none_later : (x : Ltxid) (before entries : List Entry) → numbered_after before entries ≡ true → x.number < entries_of before (session_of x) → filter (under x) entries ≡ []
none_later x before [] numbered many = refl
none_later x before (entry ∷ entries) numbered many = by (same_ltxid entry.ltxid x) refl (λ numbered_on more. none_later x (entry ∷ before) entries numbered_on more)
  where
    parts : (entry.ltxid.number ≡ entries_of before (session_of entry.ltxid)) × (numbered_after (entry ∷ before) entries ≡ true)
    parts = numbered_parts before entries entry numbered

    more : x.number < entries_of (entry ∷ before) (session_of x)
    more = let all = entries_cons entry before (session_of x) in omega (arith, all, many)

    by : (test : Bool) → same_ltxid entry.ltxid x ≡ test → (numbered_after (entry ∷ before) entries ≡ true → x.number < entries_of (entry ∷ before) (session_of x) → filter (under x) entries ≡ [])
        → (if test then entry ∷ filter (under x) entries else filter (under x) entries) ≡ []
    by true is again =
        let equal : entry.ltxid ≡ x = (same_ltxid_decides entry.ltxid x).0 is in
        let number : x.number ≡ entries_of before (session_of x) = subst (λ (y : Ltxid). y.number ≡ entries_of before (session_of y)) equal parts.0 in
        absurd (let never : ⊥ = omega (arith, number, many) in never)
    by false is again = again parts.1 more

-- behind an entry there is none of its identifier
none_behind : (before stored : List Entry) (entry : Entry) (rest : List Entry) → numbered_after before (stored ++ entry ∷ rest) ≡ true → filter (under entry.ltxid) rest ≡ []
none_behind before [] entry rest numbered =
    let parts = numbered_parts before rest entry numbered in
    let all = entries_cons entry before (session_of entry.ltxid) in
    let own : ◌≡◌ {A = ℕ} (cond (is_of_session (session_of entry.ltxid) entry.ltxid) 1 0) 1 = ap (λ (test : Bool). cond test 1 0) (session_self (session_of entry.ltxid)) in
    let number = parts.0 in
    none_later entry.ltxid (entry ∷ before) rest parts.1 (omega (arith, all, own, number))
none_behind before (first ∷ stored) entry rest numbered = none_behind (first ∷ before) stored entry rest (numbered_parts before (stored ++ entry ∷ rest) first numbered).1

-- so the entry is the one that is found
pub found_in : (stored : List Entry) (entry : Entry) (rest : List Entry) (x : Ltxid) → numbered_after [] (stored ++ entry ∷ rest) ≡ true → same_ltxid entry.ltxid x ≡ true → stopped_in (stored ++ entry ∷ rest) x ≡ last_draws entry.pieces
found_in stored entry rest x numbered same =
    let equal : entry.ltxid ≡ x = (same_ltxid_decides entry.ltxid x).0 same in
    let none : filter (under x) rest ≡ [] = subst (λ (y : Ltxid). filter (under y) rest ≡ []) equal (none_behind [] stored entry rest numbered) in
    ap (λ (found : Option Entry). option_map_or (λ one. last_draws one.pieces) found [])
    (ap (last_or None) (filter-append (under x) stored (entry ∷ rest) ∙ ap (λ (test : Bool). filter (under x) stored ++ cond test (entry ∷ filter (under x) rest) (filter (under x) rest)) same ∙ ap (λ (all : List Entry). filter (under x) stored ++ entry ∷ all) none)
    ∙ last_pushed None (filter (under x) stored) entry)

-- NONE AT ALL -------------------------------------------------------------------------------------

own_entry : (session : SessionId) (number : ℕ) (entry : Entry) → same_ltxid entry.ltxid (ltxid_of session number) ≡ true → (is_its session entry ≡ true) × (entry.ltxid.number ≡ number)
own_entry session number entry is =
    let equal : entry.ltxid ≡ ltxid_of session number = (same_ltxid_decides entry.ltxid (ltxid_of session number)).0 is in
    (subst (λ (x : Ltxid). is_its session (record entry { ltxid = x }) ≡ true) (sym equal) (session_self session), ap (λ (x : Ltxid). x.number) equal)

none_under : (session : SessionId) (ran : Ran) (entries : List Entry) → list_all (has_ran session ran) entries ≡ true → filter (under (ltxid_of session (length ran.over))) entries ≡ []
none_under session ran [] all = refl
none_under session ran (entry ∷ entries) all = by (same_ltxid entry.ltxid (ltxid_of session (length ran.over))) refl (none_under session ran entries parts.1)
  where
    parts : (has_ran session ran entry ≡ true) × (list_all (has_ran session ran) entries ≡ true)
    parts = and_parts (has_ran session ran entry) (list_all (has_ran session ran) entries) all

    by : (test : Bool) → same_ltxid entry.ltxid (ltxid_of session (length ran.over)) ≡ test → filter (under (ltxid_of session (length ran.over))) entries ≡ []
        → (if test then entry ∷ filter (under (ltxid_of session (length ran.over))) entries else filter (under (ltxid_of session (length ran.over))) entries) ≡ []
    by false is rest = rest
    by true is rest =
        let own = own_entry session (length ran.over) entry is in
        let number = own.1 in
        let past : slice_get ran.over entry.ltxid.number ≡ None = slice_get_past ran.over entry.ltxid.number (omega (arith, number)) in
        let here : implies true (option_map_or (λ dids. are_pieces dids entry.pieces) None false) ≡ true =
        sym (ap (λ (test : Bool). implies test (option_map_or (λ dids. are_pieces dids entry.pieces) (slice_get ran.over entry.ltxid.number) false)) own.0 ∙ ap (λ (found : Option (List ServedCall)). implies true (option_map_or (λ dids. are_pieces dids entry.pieces) found false)) past) ∙ ran_pieces session ran entry parts.0 in
        absurd (let never : ⊥ = cc in never)

-- where each entry of the session is of a transaction that is over, the next identifier has none
pub none_in : (session : SessionId) (ran : Ran) (entries : List Entry) → list_all (has_ran session ran) entries ≡ true → stopped_in entries (ltxid_of session (length ran.over)) ≡ []
none_in session ran entries all = ap (λ (found : List Entry). option_map_or (λ one. last_draws one.pieces) (last_or None found) []) (none_under session ran entries all)
