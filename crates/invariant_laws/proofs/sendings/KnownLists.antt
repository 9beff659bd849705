-- What is known of a sending by the calls that were shown and the outcomes that were taken stays so
-- where more are.
use Rattle.std.proofs.Common.{◌≡◌, refl, ap, ◌∙◌, Bool, true, false, ◌&&◌, ◌||◌, length, List, [], ◌∷◌, ◌++◌, Option, Some, None, ◌⊎◌, inl, inr}
use Rattle.std.specs.Prelude.{◌==◌, not}
use Rattle.std.specs.List.{list_any}
use Rattle.std.specs.Option.{option_map_or}
use Rattle.std.proofs.lemmas.Bool.{and_parts, and_from, or_cases, or_left, or_right}
use Rattle.std.proofs.lemmas.List.Folds.{list_any-append}
use Rattle.svc_values.specs.declared.answer.Answer.{Answer}
use Rattle.svc_values.specs.declared.entry.Ltxid.{Ltxid}
use Rattle.svc_values.specs.meaning.Endings.{ends_committed}
use Rattle.svc_values.specs.meaning.Same.{same_answers}
use Rattle.outage_schedule.specs.declared.request.Outcome.{Outcome}
use Rattle.outage_schedule.specs.declared.request.ShownCall.{ShownCall}
use Rattle.run_clauses.specs.meaning.Tried.{holds}
use Rattle.invariant_laws.specs.Once.{is_known, is_untold, shows_at, tells_completed}
use Rattle.world_model.specs.Parts.{Sending}
use Rattle.invariant_laws.proofs.rows.EndedCalls.{shows_further}
use Rattle.world_model.proofs.Offered.{eq_from, eq_to}
use Rattle.invariant_laws.proofs.entries.TriedApart.{holds_append}

-- it is of the next call, and no outcome told it completed
pub record IsNext (calls : List ShownCall) (outcomes : List Outcome) (sending : Sending) : Type 0 where
  pub place : sending.at ≡ length calls
  pub untold : not (list_any (tells_completed sending.ltxid) outcomes) ≡ true

-- by cases
pub data Known (blocked : List Ltxid) (calls : List ShownCall) (outcomes : List Outcome) (sending : Sending) : Type 0 where
  IsAnswered : (answers : List Answer) → sending.taken ≡ Some answers → shows_at (same_answers answers) calls sending.at ≡ true → Known blocked calls outcomes sending
  IsLast : sending.taken ≡ None → IsNext calls outcomes sending → Known blocked calls outcomes sending
  IsBlocked : sending.taken ≡ None → holds blocked sending.ltxid ≡ true → Known blocked calls outcomes sending
  IsCommitted : sending.taken ≡ None → shows_at ends_committed calls sending.at ≡ true → Known blocked calls outcomes sending

abbrev known_by : List Ltxid → List ShownCall → List Outcome → Sending → Option (List Answer) → Bool
known_by blocked calls outcomes sending taken = option_map_or (λ answers. shows_at (same_answers answers) calls sending.at) taken (is_untold blocked calls outcomes sending)

pub known_from : (blocked : List Ltxid) (calls : List ShownCall) (outcomes : List Outcome) (sending : Sending) → is_known blocked calls outcomes sending ≡ true → Known blocked calls outcomes sending
known_from blocked calls outcomes sending here = by sending.taken refl here
  where
    next : Bool
    next = (sending.at == length calls) && not (list_any (tells_completed sending.ltxid) outcomes)

    untold : sending.taken ≡ None → (next ≡ true) ⊎ ((holds blocked sending.ltxid || shows_at ends_committed calls sending.at) ≡ true) → Known blocked calls outcomes sending
    untold none (inl one) =
        let parts = and_parts (sending.at == length calls) (not (list_any (tells_completed sending.ltxid) outcomes)) one in
        IsLast none (record { place = eq_from sending.at (length calls) parts.0; untold = parts.1 })
    untold none (inr other) = rest (or_cases (holds blocked sending.ltxid) (shows_at ends_committed calls sending.at) other)
      where
        rest : (holds blocked sending.ltxid ≡ true) ⊎ (shows_at ends_committed calls sending.at ≡ true) → Known blocked calls outcomes sending
        rest (inl held) = IsBlocked none held
        rest (inr shown) = IsCommitted none shown

    by : (taken : Option (List Answer)) → sending.taken ≡ taken → known_by blocked calls outcomes sending taken ≡ true → Known blocked calls outcomes sending
    by (Some answers) is here = IsAnswered answers is here
    by None is here = untold is (or_cases next (holds blocked sending.ltxid || shows_at ends_committed calls sending.at) here)

pub known_to : (blocked : List Ltxid) (calls : List ShownCall) (outcomes : List Outcome) (sending : Sending) → Known blocked calls outcomes sending → is_known blocked calls outcomes sending ≡ true
known_to blocked calls outcomes sending known = by known
  where
    next : Bool
    next = (sending.at == length calls) && not (list_any (tells_completed sending.ltxid) outcomes)

    at : (taken : Option (List Answer)) → sending.taken ≡ taken → known_by blocked calls outcomes sending taken ≡ true → is_known blocked calls outcomes sending ≡ true
    at taken is here = ap (known_by blocked calls outcomes sending) is ∙ here

    by : Known blocked calls outcomes sending → is_known blocked calls outcomes sending ≡ true
    by (IsAnswered answers is shown) = at (Some answers) is shown
    by (IsLast is one) =
        at None is (or_left next (holds blocked sending.ltxid || shows_at ends_committed calls sending.at)
        (and_from (sending.at == length calls) (not (list_any (tells_completed sending.ltxid) outcomes)) (eq_to sending.at (length calls) one.place) one.untold))
    by (IsBlocked is held) = at None is (or_right next (holds blocked sending.ltxid || shows_at ends_committed calls sending.at) (or_left (holds blocked sending.ltxid) (shows_at ends_committed calls sending.at) held))
    by (IsCommitted is shown) = at None is (or_right next (holds blocked sending.ltxid || shows_at ends_committed calls sending.at) (or_right (holds blocked sending.ltxid) (shows_at ends_committed calls sending.at) shown))

-- where one more call was shown: of the one that was the next it is said what it is then
pub known_more : (blocked : List Ltxid) (calls : List ShownCall) (call : ShownCall) (outcomes others : List Outcome) (sending : Sending)
    → (sending.taken ≡ None → sending.at ≡ length calls → (holds blocked sending.ltxid ≡ true) ⊎ (shows_at ends_committed (calls ++ call ∷ []) sending.at ≡ true)) → is_known blocked calls outcomes sending ≡ true → is_known blocked (calls ++ call ∷ []) others sending ≡ true
known_more blocked calls call outcomes others sending late here = known_to blocked (calls ++ call ∷ []) others sending (by (known_from blocked calls outcomes sending here))
  where
    late_one : sending.taken ≡ None → (holds blocked sending.ltxid ≡ true) ⊎ (shows_at ends_committed (calls ++ call ∷ []) sending.at ≡ true) → Known blocked (calls ++ call ∷ []) others sending
    late_one none (inl held) = IsBlocked none held
    late_one none (inr shown) = IsCommitted none shown

    by : Known blocked calls outcomes sending → Known blocked (calls ++ call ∷ []) others sending
    by (IsAnswered answers is shown) = IsAnswered answers is (shows_further (same_answers answers) calls (call ∷ []) sending.at shown)
    by (IsLast none one) = late_one none (late none one.place)
    by (IsBlocked none held) = IsBlocked none held
    by (IsCommitted none shown) = IsCommitted none (shows_further ends_committed calls (call ∷ []) sending.at shown)

-- where none was shown
pub known_still : (blocked : List Ltxid) (calls : List ShownCall) (outcomes more : List Outcome) (sending : Sending) → ((x : Ltxid) → list_any (tells_completed x) more ≡ false) → is_known blocked calls outcomes sending ≡ true → is_known blocked calls (outcomes ++ more) sending ≡ true
known_still blocked calls outcomes more sending none_told here = known_to blocked calls (outcomes ++ more) sending (by (known_from blocked calls outcomes sending here))
  where
    neither : (a b : Bool) → not a ≡ true → b ≡ false → not (a || b) ≡ true
    neither true b one other = absurd (let none : ⊥ = cc in none)
    neither false true one other = absurd (let none : ⊥ = cc in none)
    neither false false one other = refl

    by : Known blocked calls outcomes sending → Known blocked calls (outcomes ++ more) sending
    by (IsAnswered answers is shown) = IsAnswered answers is shown
    by (IsLast none one) =
        IsLast none (record {
          place = one.place;
          untold = ap not (list_any-append (tells_completed sending.ltxid) outcomes more) ∙ neither (list_any (tells_completed sending.ltxid) outcomes) (list_any (tells_completed sending.ltxid) more) one.untold (none_told sending.ltxid);
        })
    by (IsBlocked none held) = IsBlocked none held
    by (IsCommitted none shown) = IsCommitted none shown

-- where more identifiers are blocked
pub known_blocks : (blocked more : List Ltxid) (calls : List ShownCall) (outcomes : List Outcome) (sending : Sending) → is_known blocked calls outcomes sending ≡ true → is_known (blocked ++ more) calls outcomes sending ≡ true
known_blocks blocked more calls outcomes sending here = known_to (blocked ++ more) calls outcomes sending (by (known_from blocked calls outcomes sending here))
  where
    by : Known blocked calls outcomes sending → Known (blocked ++ more) calls outcomes sending
    by (IsAnswered answers is shown) = IsAnswered answers is shown
    by (IsLast none one) = IsLast none one
    by (IsBlocked none held) = IsBlocked none (holds_append blocked more sending.ltxid ∙ or_left (holds blocked sending.ltxid) (holds more sending.ltxid) held)
    by (IsCommitted none shown) = IsCommitted none shown
