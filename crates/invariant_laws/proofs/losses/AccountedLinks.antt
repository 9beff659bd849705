-- Of one connection that a request lost: its outcome was taken, or the request wants it or ended
-- without knowing it, or no call was sent there; and so it is behind a step.
use Rattle.std.proofs.Common.{◌≡◌, refl, ap, subst, ◌∙◌, Bool, true, false, ℕ, ◌&&◌, ◌||◌, length, List, [], ◌∷◌, ◌++◌, filter, Option, Some, None, ◌⊎◌, inl, inr, if◌then◌else◌}
use Rattle.std.specs.Prelude.{not, is_some, is_none}
use Rattle.std.specs.List.{list_all, list_any, last_or}
use Rattle.std.specs.Option.{option_map_or}
use Rattle.std.proofs.lemmas.Bool.{and_parts, and_from, or_cases, or_right, or_left}
use Rattle.std.proofs.lemmas.List.Folds.{list_any-append}
use Rattle.svc_values.specs.declared.entry.Ltxid.{Ltxid}
use Rattle.svc_values.specs.meaning.Identifiers.{same_ltxid}
use Rattle.svc_values.specs.SameLaws.{same_ltxid_decides}
use Rattle.outage_schedule.specs.declared.request.Outcome.{Outcome}
use Rattle.world_model.specs.meaning.Frames.{Owner, Sent}
use Rattle.world_model.specs.meaning.Links.{Link, new_link, link_at}
use Rattle.invariant_laws.specs.Lost.{lost_links, outcome_on, ends_unknown, submitted_on, is_nothing, is_pending, is_wanted, same_event}
use Rattle.world_model.specs.Parts.{is_unmarked}
use Rattle.world_model.specs.Sames.{owned_by}
use Rattle.invariant_laws.specs.Shown.{is_call}
use Rattle.world_model.specs.Traced.{Course}
use Rattle.world_model.specs.Wanted.{Wanted, wanted_in}
use Rattle.invariant_laws.proofs.rows.CallFrames.{unmarked_called}
use Rattle.invariant_laws.proofs.losses.KeptLeft.{none_kept, none_weaker}
use Rattle.invariant_laws.proofs.rows.RowLast.{row_of}
use Rattle.invariant_laws.proofs.losses.ShutStays.{IsFrozen}

-- ONE CONNECTION ----------------------------------------------------------------------------------

abbrev pub is_accounted : Course → Link → Bool
is_accounted course link = is_some (outcome_on course link.held) || (is_nothing course link || is_pending course link)

abbrev pub accounted_on : List Link → Course → Bool
accounted_on links course = list_all (λ number. option_map_or (is_accounted course) (link_at links number) false) (lost_links course)

-- what it wants, or what it ended without, is held there
abbrev pub wants_there : Course → Link → Bool
wants_there course link = if course.is_over then ends_unknown course.report.failed else option_map_or (is_wanted link) (wanted_in course.phase) false

pub accounted_none : (course : Course) (link : Link) → not (submitted_on course link) ≡ true → is_accounted course link ≡ true
accounted_none course link quiet = by (outcome_on course link.held)
  where
    by : (found : Option Outcome) → (is_some found || ((is_none found && not (submitted_on course link)) || (is_none found && wants_there course link))) ≡ true
    by None = or_left (not (submitted_on course link)) (wants_there course link) quiet
    by (Some outcome) = refl

pub accounted_wanted : (course : Course) (link : Link) → wants_there course link ≡ true → is_accounted course link ≡ true
accounted_wanted course link wants = by (outcome_on course link.held)
  where
    by : (found : Option Outcome) → (is_some found || ((is_none found && not (submitted_on course link)) || (is_none found && wants_there course link))) ≡ true
    by None = or_right (not (submitted_on course link)) (wants_there course link) wants
    by (Some outcome) = refl

-- what stays of it is all that is looked at
abbrev accounted_as : Course → Option Ltxid → Option ℕ → List Sent → Bool
accounted_as course held ended sents = is_accounted course (record new_link { held = held; ended = ended; sent = sents })

pub accounted_alike : (course : Course) (a b : Link) → IsFrozen a b → is_accounted course a ≡ true → is_accounted course b ≡ true
accounted_alike course a b same here =
    ap (λ (held : Option Ltxid). accounted_as course held b.ended b.sent) same.held
    ∙ (ap (λ (ended : Option ℕ). accounted_as course a.held ended b.sent) same.ended ∙ (ap (λ (sents : List Sent). accounted_as course a.held a.ended sents) same.sent ∙ here))

-- OUTCOMES ----------------------------------------------------------------------------------------

abbrev pub is_told_of : Ltxid → Outcome → Bool
is_told_of x outcome = same_ltxid outcome.ltxid x

some_last : (keep : Outcome → Bool) (found : Option Outcome) (outcomes : List Outcome) → is_some found ≡ true → is_some (last_or found (filter keep outcomes)) ≡ true
some_last keep found [] some = some
some_last keep found (one ∷ outcomes) some = by (keep one) (some_last keep (Some one) outcomes refl) (some_last keep found outcomes some)
  where
    by : (kept : Bool) → is_some (last_or (Some one) (filter keep outcomes)) ≡ true → is_some (last_or found (filter keep outcomes)) ≡ true
        → is_some (last_or found (if kept then one ∷ filter keep outcomes else filter keep outcomes)) ≡ true
    by true with_it without = with_it
    by false with_it without = without

any_last : (keep : Outcome → Bool) (found : Option Outcome) (outcomes : List Outcome) → list_any keep outcomes ≡ true → is_some (last_or found (filter keep outcomes)) ≡ true
any_last keep found [] any = absurd (let none : ⊥ = cc in none)
any_last keep found (one ∷ outcomes) any = by (keep one) any (λ later. any_last keep found outcomes later)
  where
    by : (kept : Bool) → (kept || list_any keep outcomes) ≡ true → (list_any keep outcomes ≡ true → is_some (last_or found (filter keep outcomes)) ≡ true)
        → is_some (last_or found (if kept then one ∷ filter keep outcomes else filter keep outcomes)) ≡ true
    by true any later = some_last keep (Some one) outcomes refl
    by false any later = later any

last_any : (keep : Outcome → Bool) (outcomes : List Outcome) → is_some (last_or None (filter keep outcomes)) ≡ true → list_any keep outcomes ≡ true
last_any keep [] some = absurd (let none : ⊥ = cc in none)
last_any keep (one ∷ outcomes) some = by (keep one) some (λ later. last_any keep outcomes later)
  where
    by : (kept : Bool) → is_some (last_or None (if kept then one ∷ filter keep outcomes else filter keep outcomes)) ≡ true → (is_some (last_or None (filter keep outcomes)) ≡ true → list_any keep outcomes ≡ true)
        → (kept || list_any keep outcomes) ≡ true
    by true some later = refl
    by false some later = later some

-- an outcome that was taken is taken still
pub taken_more : (before after : Course) (more : List Outcome) → after.report.outcomes ≡ before.report.outcomes ++ more → (held : Option Ltxid) → is_some (outcome_on before held) ≡ true → is_some (outcome_on after held) ≡ true
taken_more before after more is None some = absurd (let none : ⊥ = cc in none)
taken_more before after more is (Some x) some =
    ap (λ (all : List Outcome). is_some (last_or None (filter (is_told_of x) all))) is
    ∙ any_last (is_told_of x) None (before.report.outcomes ++ more)
    (list_any-append (is_told_of x) before.report.outcomes more ∙ or_left (list_any (is_told_of x) before.report.outcomes) (list_any (is_told_of x) more) (last_any (is_told_of x) before.report.outcomes some))

-- and so is one of what was wanted
wanted_taken : (course : Course) (wanted : Wanted) (link : Link) → list_any (is_told_of wanted.ltxid) course.report.outcomes ≡ true → is_wanted link wanted ≡ true → is_some (outcome_on course link.held) ≡ true
wanted_taken course wanted link any here = by link.held (and_parts (option_map_or (same_ltxid wanted.ltxid) link.held false) (same_event link.ended wanted.event) here).0
  where
    by : (held : Option Ltxid) → option_map_or (same_ltxid wanted.ltxid) held false ≡ true → is_some (outcome_on course held) ≡ true
    by None same = absurd (let none : ⊥ = cc in none)
    by (Some x) same =
        let equal : wanted.ltxid ≡ x = (same_ltxid_decides wanted.ltxid x).0 same in
        any_last (is_told_of x) None course.report.outcomes (subst (λ (y : Ltxid). list_any (is_told_of y) course.report.outcomes ≡ true) equal any)

-- A STEP ------------------------------------------------------------------------------------------

-- behind a step of what was wanted: its outcome was taken, or the request wants it still, or ended
-- without knowing it
pub data Later (after : Course) (wanted : Wanted) : Type 0 where
  TakenNow : list_any (is_told_of wanted.ltxid) after.report.outcomes ≡ true → Later after wanted
  WantsYet : ((link : Link) → is_wanted link wanted ≡ true → wants_there after link ≡ true) → Later after wanted

pub accounted_later : (before after : Course) (more : List Outcome) → after.owner ≡ before.owner → after.report.outcomes ≡ before.report.outcomes ++ more → before.is_over ≡ false → ((wanted : Wanted) → wanted_in before.phase ≡ Some wanted → Later after wanted)
    → (link : Link) → is_accounted before link ≡ true → is_accounted after link ≡ true
accounted_later before after more owner outcomes running later link here = by (or_cases (is_some (outcome_on before link.held)) (is_nothing before link || is_pending before link) here)
  where
    wants : (found : Option Wanted) → wanted_in before.phase ≡ found → option_map_or (is_wanted link) found false ≡ true → is_accounted after link ≡ true
    wants None is here = absurd (let none : ⊥ = cc in none)
    wants (Some wanted) is here = cases (later wanted is)
      where
        cases : Later after wanted → is_accounted after link ≡ true
        cases (TakenNow any) = or_left (is_some (outcome_on after link.held)) (is_nothing after link || is_pending after link) (wanted_taken after wanted link any here)
        cases (WantsYet yet) = accounted_wanted after link (yet link here)

    open_so : (is_nothing before link ≡ true) ⊎ (is_pending before link ≡ true) → is_accounted after link ≡ true
    open_so (inl nothing) =
        accounted_none after link
        (ap (λ (o : Owner). not (list_any (λ sent. owned_by o sent && is_unmarked sent) link.sent)) owner ∙ (and_parts (is_none (outcome_on before link.held)) (not (submitted_on before link)) nothing).1)
    open_so (inr pending) =
        let parts = and_parts (is_none (outcome_on before link.held)) (wants_there before link) pending in
        wants (wanted_in before.phase) refl (subst (λ (over : Bool). (if over then ends_unknown before.report.failed else option_map_or (is_wanted link) (wanted_in before.phase) false) ≡ true) running parts.1)

    by : (is_some (outcome_on before link.held) ≡ true) ⊎ ((is_nothing before link || is_pending before link) ≡ true) → is_accounted after link ≡ true
    by (inl taken) = or_left (is_some (outcome_on after link.held)) (is_nothing after link || is_pending after link) (taken_more before after more outcomes link.held taken)
    by (inr rest) = open_so (or_cases (is_nothing before link) (is_pending before link) rest)

-- WHERE NO CALL WAS SENT --------------------------------------------------------------------------

pub none_submitted : (owner : Owner) (sents : List Sent) → row_of owner sents ≡ [] → list_any (λ (sent : Sent). owned_by owner sent && is_unmarked sent) sents ≡ false
none_submitted owner sents none =
    none_weaker (λ (sent : Sent). owned_by owner sent && is_call sent.frame) (λ (sent : Sent). owned_by owner sent && is_unmarked sent) sents
    (λ sent here. let parts = and_parts (owned_by owner sent) (is_unmarked sent) here in and_from (owned_by owner sent) (is_call sent.frame) parts.0 (unmarked_called sent.frame parts.1))
    (none_kept (λ (sent : Sent). owned_by owner sent && is_call sent.frame) sents (ap length none))
