-- What a session did with a frame, as the report tells it: by its item, and by what its frame
-- brings where it is a call with the mark.
use Rattle.std.proofs.Common.{◌≡◌, refl, sym, ap, ◌∙◌, ◌&&◌, ℕ, Bool, true, false, List, []}
use Rattle.std.specs.Prelude.{not}
use Rattle.std.proofs.lemmas.Bool.{and_parts}
use Rattle.svc_values.specs.declared.call.Call.{Call}
use Rattle.svc_values.specs.declared.draw.Draw.{Draw}
use Rattle.svc_values.specs.declared.entry.SessionId.{SessionId}
use Rattle.svc_values.specs.declared.frame.Up.{Up}
use Rattle.svc_values.specs.declared.frame.Up.TheVariants as up
use Rattle.svc_values.specs.meaning.Same.{same_bool, same_call}
use Rattle.svc_values.specs.SameLaws.{same_bool_decides, same_call_decides, same_ltxid_decides}
use Rattle.outage_schedule.specs.declared.item.Item.{Item}
use Rattle.outage_schedule.specs.declared.item.Item.TheVariants as item
use Rattle.outage_schedule.specs.declared.note.AskResult.{AskResult}
use Rattle.outage_schedule.specs.declared.note.AskResult.TheVariants as told
use Rattle.server_model.specs.meaning.Items.{Began, Called, MetBlock, TellsOutcome, CallStopped, OutcomeStopped, of_outcome, thing_of}
use Rattle.shown_clauses.specs.meaning.KeptDraws.{is_marked_item}
use Rattle.shown_clauses.specs.meaning.Things.{outcome_of, thing_of as thing_told}
use Rattle.world_model.specs.meaning.Crashing.{is_crashed_item}
use Rattle.world_model.specs.meaning.ServiceDid.{item_telling}
use Rattle.world_model.specs.meaning.Serving.{is_blocked, is_item_of, outcome_frame}
use Rattle.invariant_laws.specs.Shown.{is_marked}
use Rattle.legal_laws.proofs.BareItems.{bare_thing}
use Rattle.legal_laws.proofs.SettingsSame.{settings_are}

abbrev pub if_marked : Bool → List Draw → List Draw
if_marked true told = told
if_marked false told = []

-- what is told of a call with the mark is what its frame brings
abbrev pub Brings : Up → Item → List Draw → Type 0
Brings frame one told = (kept : List Draw) (call : Call) → frame ≡ up.Call true kept call → is_marked_item one ≡ true → told ≡ kept

outcome_told : (x : _) (result : AskResult) → of_outcome x (outcome_frame result) ≡ TellsOutcome x (outcome_of result)
outcome_told x (told.Committed completed) = refl
outcome_told x told.Uncommitted = refl
outcome_told x (told.ServerAhead next) = refl
outcome_told x (told.ClientAhead next) = refl
outcome_told x (told.Forgotten horizon) = refl

-- the item of a frame
pub ordinary_told : (frame : Up) (one : Item) (session : SessionId) (commits : ℕ) (kept : List Draw) → is_item_of frame one ≡ true → not (is_blocked one && is_marked frame) ≡ true → Brings frame one kept
    → bare_thing (thing_told (if_marked (is_marked_item one) kept) one) ≡ bare_thing (thing_of frame (item_telling session commits one))
ordinary_told up.Connect item.Connect session commits told is unblocked brings = refl
ordinary_told (up.Begin settings) (item.Begin begun) session commits told is unblocked brings = ap Began (settings_are begun settings is)
ordinary_told (up.Call true kept call) (item.Call true served answers draws) session commits told is unblocked brings =
    ap (λ (c : Call). Called true told c answers draws) ((same_call_decides served call).0 is) ∙ ap (λ (brought : List Draw). Called true brought call answers draws) (brings kept call refl refl)
ordinary_told (up.Call false kept call) (item.Call false served answers draws) session commits told is unblocked brings = ap (λ (c : Call). Called false [] c answers draws) ((same_call_decides served call).0 is)
ordinary_told (up.Call true kept call) (item.Call false served answers draws) session commits told is unblocked brings = absurd (let none : ⊥ = cc in none)
ordinary_told (up.Call false kept call) (item.Call true served answers draws) session commits told is unblocked brings = absurd (let none : ⊥ = cc in none)
ordinary_told (up.Call true kept call) (item.Blocked served) session commits told is unblocked brings = absurd (let none : ⊥ = cc in none)
ordinary_told (up.Call false kept call) (item.Blocked served) session commits told is unblocked brings = ap (MetBlock false) ((same_call_decides served call).0 is)
ordinary_told (up.Outcome x) (item.Outcome asked result) session commits told is unblocked brings =
    ap (λ y. TellsOutcome y (outcome_of result)) ((same_ltxid_decides asked x).0 is) ∙ sym (ap bare_thing (outcome_told x result))
ordinary_told up.End item.End session commits told is unblocked brings = refl
ordinary_told up.Close item.Close session commits told is unblocked brings = refl
ordinary_told frame one session commits told is unblocked brings = absurd (let none : ⊥ = cc in none)

-- and of one that was stopped
pub stopped_told : (frame : Up) (one : Item) (session : SessionId) (commits : ℕ) (kept : List Draw) → is_crashed_item frame one ≡ true
    → bare_thing (thing_told (if_marked (is_marked_item one) kept) one) ≡ bare_thing (thing_of frame (item_telling session commits one))
stopped_told (up.Call replay kept call) (item.CrashedCall marked served) session commits told is =
    let parts = and_parts (same_bool marked replay) (same_call served call) is in
    ap (λ (m : Bool). CallStopped m served) ((same_bool_decides marked replay).0 parts.0) ∙ ap (CallStopped replay) ((same_call_decides served call).0 parts.1)
stopped_told (up.Outcome x) (item.CrashedOutcome asked) session commits told is = ap OutcomeStopped ((same_ltxid_decides asked x).0 is)
stopped_told frame one session commits told is = absurd (let none : ⊥ = cc in none)
