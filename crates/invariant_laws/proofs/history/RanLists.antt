-- Entries of a session beside what its connection ran: each has the pieces of the transaction of
-- its number, and the settings at its start.
use Rattle.std.proofs.Common.{◌≡◌, refl, sym, ap, ◌∙◌, arith, ℕ, ◌+◌, ◌&&◌, Bool, true, false, List, [], ◌∷◌, ◌++◌, length, length-append, filter, cond, Option, Some, None}
use Rattle.std.specs.Prelude.{slice_get}
use Rattle.std.specs.Option.{option_map_or}
use Rattle.std.proofs.lemmas.Bool.{and_parts, and_from}
use Rattle.std.proofs.lemmas.List.Elements.{filter-append}
use Rattle.svc_values.specs.declared.entry.Entry.{Entry}
use Rattle.svc_values.specs.declared.entry.SessionId.{SessionId}
use Rattle.svc_values.specs.declared.value.Value.{Value}
use Rattle.svc_values.specs.meaning.Identifiers.{is_of}
use Rattle.svc_values.specs.meaning.SettingsList.{same_settings}
use Rattle.server_model.specs.meaning.Walk.{number_of}
use Rattle.world_model.specs.Parts.{implies}
use Rattle.invariant_laws.specs.Same.{ServedCall, Ran, are_pieces}
use Rattle.world_model.proofs.Offered.{get_further, get_last}

-- HOW MANY ----------------------------------------------------------------------------------------

abbrev pub is_its : SessionId → Entry → Bool
is_its session entry = is_of entry.ltxid session.incarnation session.session

number_more : (stored : List Entry) (entry : Entry) (session : SessionId) → number_of (stored ++ entry ∷ []) session ≡ number_of stored session + length (cond (is_its session entry) (entry ∷ []) [])
number_more stored entry session = ap length (filter-append (is_its session) stored (entry ∷ [])) ∙ length-append (filter (is_its session) stored) (cond (is_its session entry) (entry ∷ []) [])

pub number_own : (stored : List Entry) (entry : Entry) (session : SessionId) → is_its session entry ≡ true → number_of (stored ++ entry ∷ []) session ≡ number_of stored session + 1
number_own stored entry session is = number_more stored entry session ∙ ap (λ (test : Bool). number_of stored session + length (cond test (entry ∷ []) [])) is

pub number_other : (stored : List Entry) (entry : Entry) (session : SessionId) → is_its session entry ≡ false → number_of (stored ++ entry ∷ []) session ≡ number_of stored session
number_other stored entry session is =
    number_more stored entry session ∙ ap (λ (test : Bool). number_of stored session + length (cond test (entry ∷ []) [])) is ∙ (let same : number_of stored session + 0 ≡ number_of stored session = omega arith in same)

-- WHAT THEY HAVE ----------------------------------------------------------------------------------

-- before anything was served
abbrev pub none_ran : Ran
none_ran = record { settings = []; at_start = []; pieces = []; over = []; starts = [] }

-- an entry of this session has the pieces of its transaction, and the settings at its start
abbrev pub has_pieces_of : Ran → Entry → Bool
has_pieces_of ran entry = option_map_or (λ dids. are_pieces dids entry.pieces) (slice_get ran.over entry.ltxid.number) false

abbrev pub has_start_of : Ran → Entry → Bool
has_start_of ran entry = option_map_or (same_settings entry.settings) (slice_get ran.starts entry.ltxid.number) false

abbrev pub has_ran : SessionId → Ran → Entry → Bool
has_ran session ran entry = implies (is_its session entry) (has_pieces_of ran entry && has_start_of ran entry)

pub ran_pieces : (session : SessionId) (ran : Ran) (entry : Entry) → has_ran session ran entry ≡ true → implies (is_its session entry) (has_pieces_of ran entry) ≡ true
ran_pieces session ran entry = by (is_its session entry)
  where
    by : (own : Bool) → implies own (has_pieces_of ran entry && has_start_of ran entry) ≡ true → implies own (has_pieces_of ran entry) ≡ true
    by false is = refl
    by true is = (and_parts (has_pieces_of ran entry) (has_start_of ran entry) is).0

pub ran_start : (session : SessionId) (ran : Ran) (entry : Entry) → has_ran session ran entry ≡ true → implies (is_its session entry) (has_start_of ran entry) ≡ true
ran_start session ran entry = by (is_its session entry)
  where
    by : (own : Bool) → implies own (has_pieces_of ran entry && has_start_of ran entry) ≡ true → implies own (has_start_of ran entry) ≡ true
    by false is = refl
    by true is = (and_parts (has_pieces_of ran entry) (has_start_of ran entry) is).1

further : {A : Type 0} (test : A → Bool) (list more : List A) (number : ℕ) → option_map_or test (slice_get list number) false ≡ true → option_map_or test (slice_get (list ++ more) number) false ≡ true
further {A} test list more number = by (slice_get list number) refl
  where
    by : (found : Option A) → slice_get list number ≡ found → option_map_or test found false ≡ true → option_map_or test (slice_get (list ++ more) number) false ≡ true
    by None is passes = absurd (let never : ⊥ = cc in never)
    by (Some x) is passes = ap (λ (found : Option A). option_map_or test found false) (get_further list more number x is) ∙ passes

-- one transaction more is over
pub record IsMore (ran later : Ran) (dids : List ServedCall) (start : List (List ℕ × Value)) : Type 0 where
  pub over : later.over ≡ ran.over ++ dids ∷ []
  pub starts : later.starts ≡ ran.starts ++ start ∷ []

pub more_ran : (session : SessionId) (ran later : Ran) (dids : List ServedCall) (start : List (List ℕ × Value)) → IsMore ran later dids start → (entry : Entry) → has_ran session ran entry ≡ true → has_ran session later entry ≡ true
more_ran session ran later dids start more entry = by (is_its session entry)
  where
    by : (own : Bool) → implies own (has_pieces_of ran entry && has_start_of ran entry) ≡ true → implies own (has_pieces_of later entry && has_start_of later entry) ≡ true
    by false is = refl
    by true is =
        let parts = and_parts (has_pieces_of ran entry) (has_start_of ran entry) is in
        and_from (has_pieces_of later entry) (has_start_of later entry)
        (ap (λ (over : List (List ServedCall)). option_map_or (λ dids. are_pieces dids entry.pieces) (slice_get over entry.ltxid.number) false) more.over ∙ further (λ dids. are_pieces dids entry.pieces) ran.over (dids ∷ []) entry.ltxid.number parts.0)
        (ap (λ (starts : List (List (List ℕ × Value))). option_map_or (same_settings entry.settings) (slice_get starts entry.ltxid.number) false) more.starts ∙ further (same_settings entry.settings) ran.starts (start ∷ []) entry.ltxid.number parts.1)

pub other_ran : (session : SessionId) (ran : Ran) (entry : Entry) → is_its session entry ≡ false → has_ran session ran entry ≡ true
other_ran session ran entry is = ap (λ (own : Bool). implies own (has_pieces_of ran entry && has_start_of ran entry)) is

last_at : {A : Type 0} (test : A → Bool) (list : List A) (x : A) (number : ℕ) → number ≡ length list → test x ≡ true → option_map_or test (slice_get (list ++ x ∷ []) number) false ≡ true
last_at {A} test list x number is passes =
    ap (λ (n : ℕ). option_map_or test (slice_get (list ++ x ∷ []) n) false) is ∙ ap (λ (found : Option A). option_map_or test found false) (get_last list x) ∙ passes

-- the last one
pub last_ran : (session : SessionId) (ran later : Ran) (dids : List ServedCall) (start : List (List ℕ × Value)) (entry : Entry) → IsMore ran later dids start → length ran.starts ≡ length ran.over → is_its session entry ≡ true → entry.ltxid.number ≡ length ran.over
    → are_pieces dids entry.pieces ≡ true → same_settings entry.settings start ≡ true → has_ran session later entry ≡ true
last_ran session ran later dids start entry more many own number pieces settings =
    ap (λ (test : Bool). implies test (has_pieces_of later entry && has_start_of later entry)) own
    ∙ and_from (has_pieces_of later entry) (has_start_of later entry)
    (ap (λ (over : List (List ServedCall)). option_map_or (λ dids. are_pieces dids entry.pieces) (slice_get over entry.ltxid.number) false) more.over ∙ last_at (λ dids. are_pieces dids entry.pieces) ran.over dids entry.ltxid.number number pieces)
    (ap (λ (starts : List (List (List ℕ × Value))). option_map_or (same_settings entry.settings) (slice_get starts entry.ltxid.number) false) more.starts
    ∙ last_at (same_settings entry.settings) ran.starts start entry.ltxid.number (number ∙ sym many) settings)
