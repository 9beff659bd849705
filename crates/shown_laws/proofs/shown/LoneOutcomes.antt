-- The outcomes of a part showed lone commits of their transactions where each did at its place.
use Rattle.std.proofs.Common.{◌≡◌, refl, ap, ◌∙◌, true, ℕ, suc, List, [], ◌∷◌, Some}
use Rattle.std.specs.Prelude.{slice_get}
use Rattle.std.specs.List.{list_all}
use Rattle.std.proofs.lemmas.Bool.{and_from}
use Rattle.svc_values.specs.declared.call.Call.{Call}
use Rattle.svc_values.specs.declared.entry.Ltxid.{Ltxid}
use Rattle.svc_values.specs.meaning.Calls.{is_lone_commit}
use Rattle.outage_schedule.specs.declared.item.Item.{Item}
use Rattle.outage_schedule.specs.declared.item.Item.TheVariants as item
use Rattle.outage_schedule.specs.declared.item.Served.{Served}
use Rattle.outage_schedule.specs.declared.note.AskResult.{AskResult}
use Rattle.outage_schedule.specs.declared.request.ShownCall.{ShownCall}
use Rattle.run_clauses.specs.meaning.Tried.{holds}
use Rattle.shown_clauses.specs.meaning.Parts.{Part}
use Rattle.shown_clauses.specs.meaning.Showings.{shown_with, showings, tried_by_call}
use Rattle.shown_laws.specs.AnswersTold.{is_lone, outcomes_lone}
use Rattle.shown_laws.proofs.shown.TriedLists.{HasList}

-- the call of this place is a lone commit, and its list has this identifier
pub record IsLoneAt (calls : List Call) (tried : List (List Ltxid)) (place : ℕ) (x : Ltxid) : Type 0 where
  pub call : Call
  pub there : slice_get calls place ≡ Some call
  pub lone : is_lone_commit call ≡ true
  pub list : HasList tried place x

-- each outcome that showed a call did so at such a place
abbrev pub AreLone : List Call → List (List Ltxid) → List Served → Type 0
AreLone calls tried items = (place : ℕ) (served : Served) (x : Ltxid) (result : AskResult) → slice_get items place ≡ Some served → served.item ≡ item.Outcome x result → IsLoneAt calls tried place x

later_lone : (call : Call) (calls : List Call) (ids : List Ltxid) (tried : List (List Ltxid)) (one : Served) (items : List Served) → AreLone (call ∷ calls) (ids ∷ tried) (one ∷ items) → AreLone calls tried items
later_lone call calls ids tried one items are place served x result there is =
    let found = are (suc place) served x result there is in
    record { call = found.call; there = found.there; lone = found.lone; list = record { ids = found.list.ids; there = found.list.there; has = found.list.has } }

lone_here : (call : Call) (calls : List Call) (ids : List Ltxid) (tried : List (List Ltxid)) (shown : ShownCall) (one : Served) (it : Item) → one.item ≡ it → ((x : Ltxid) (result : AskResult) → it ≡ item.Outcome x result → IsLoneAt (call ∷ calls) (ids ∷ tried) 0 x)
    → is_lone (record { call = call; tried = ids; shown = shown; showing = one }) it ≡ true
lone_here call calls ids tried shown one (item.Outcome x result) is at =
    let found = at x result refl in
    let same : call ≡ found.call = (let both : Some call ≡ Some found.call = found.there in cc) in
    let list : ids ≡ found.list.ids = (let both : Some ids ≡ Some found.list.ids = found.list.there in cc) in
    and_from (is_lone_commit call) (holds ids x) (ap is_lone_commit same ∙ found.lone) (ap (λ (l : List Ltxid). holds l x) list ∙ found.list.has)
lone_here call calls ids tried shown one _ is at = refl

lone_with : (calls : List Call) (tried : List (List Ltxid)) (shown : List ShownCall) (items : List Served) → AreLone calls tried items → list_all (λ one. is_lone one one.showing.item) (shown_with calls tried shown items) ≡ true
lone_with [] tried shown items are = refl
lone_with (call ∷ calls) [] shown items are = refl
lone_with (call ∷ calls) (ids ∷ tried) [] items are = refl
lone_with (call ∷ calls) (ids ∷ tried) (one ∷ shown) [] are = refl
lone_with (call ∷ calls) (ids ∷ tried) (one ∷ shown) (served ∷ items) are =
    and_from (is_lone (record { call = call; tried = ids; shown = one; showing = served }) served.item) (list_all (λ one. is_lone one one.showing.item) (shown_with calls tried shown items))
    (lone_here call calls ids tried one served served.item refl (λ x result is. are 0 served x result refl is)) (lone_with calls tried shown items (later_lone call calls ids tried served items are))

pub part_lone : (part : Part) → AreLone part.submission.request.calls (tried_by_call part.submission.copy) (showings part.steps) → outcomes_lone part ≡ true
part_lone part are = lone_with part.submission.request.calls (tried_by_call part.submission.copy) part.submission.copy.calls (showings part.steps) are
