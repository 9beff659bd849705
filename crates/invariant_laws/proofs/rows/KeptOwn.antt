-- Of Shown: on a connection that a request lost, the answered frame that was sent last is its own,
-- at the start and behind each event.
use Rattle.std.proofs.Common.{◌≡◌, refl, sym, ap, subst, ◌∙◌, Bool, true, false, ℕ, filter, length, List, [], ◌∷◌, ◌++◌, map, Option, Some, None}
use Rattle.std.specs.Prelude.{unwrap_or}
use Rattle.std.specs.List.{list_all, last_or}
use Rattle.std.specs.Option.{option_map_or}
use Rattle.std.proofs.lemmas.Bool.{and_parts, and_from}
use Rattle.std.proofs.lemmas.List.Elements.{filter-append}
use Rattle.svc_values.specs.declared.frame.Up.{Up}
use Rattle.outage_schedule.specs.declared.item.Served.{Served}
use Rattle.world_model.specs.meaning.Acting.{frames_of, sent_by, call_in, owner_at}
use Rattle.world_model.specs.meaning.Frames.{Owner, Sent}
use Rattle.world_model.specs.Orderly.{Orderly}
use Rattle.invariant_laws.specs.KeptLaws.{IsKeptOfAll}
use Rattle.world_model.specs.meaning.Links.{Link, link_at}
use Rattle.invariant_laws.specs.Lost.{lost_links}
use Rattle.world_model.specs.meaning.Machines.{Machine}
use Rattle.world_model.specs.meaning.Matching.{Noted}
use Rattle.world_model.specs.Parts.{is_rep}
use Rattle.world_model.specs.Reached.{traced_start}
use Rattle.world_model.specs.Sames.{owned_by, same_owner}
use Rattle.world_model.specs.meaning.Settings.{setting_of}
use Rattle.invariant_laws.specs.Shown.{ends_own, loses_own, lose_own}
use Rattle.world_model.specs.Traced.{Traced, Course}
use Rattle.world_model.proofs.Offered.{append_all, filter_all, HasStepped, happens_step, last_kept, Followed, follow_happens, at_event, spoken_passes, resting_none, Happens, owner_self, sents_pass, PassesAt, passes_from, passes_to, grown_at, link_passes, sent_lists, first_step, first_doing, step_owner}
use Rattle.invariant_laws.proofs.rows.KeptRows.{before_on}
use Rattle.invariant_laws.proofs.losses.LostKept.{KeepsLost, lost_kept, all_still, course_before, course_kept, course_ended}
use Rattle.invariant_laws.proofs.losses.LostLists.{LostMore, NoneLost, OneLost}
use Rattle.invariant_laws.proofs.losses.LostSteps.{IsLeft, kept_lost, over_lost}
use Rattle.invariant_laws.proofs.rows.RowCourses.{OnIt}
use Rattle.invariant_laws.proofs.losses.ShutStays.{IsFrozen}

-- LISTS -------------------------------------------------------------------------------------------

-- the last answered one is this request's
abbrev own_sents : Owner → List Sent → Bool
own_sents owner sents = option_map_or (owned_by owner) (last_or None (filter is_rep sents)) false

last_appended : (found : Option Sent) (sents more : List Sent) → last_or found (sents ++ more) ≡ last_or (last_or found sents) more
last_appended found [] more = refl
last_appended found (sent ∷ sents) more = last_appended (Some sent) sents more

last_over : (owner : Owner) (found : Option Sent) (more : List Sent) → option_map_or (owned_by owner) found false ≡ true → list_all (owned_by owner) more ≡ true → option_map_or (owned_by owner) (last_or found more) false ≡ true
last_over owner found [] here all = here
last_over owner found (sent ∷ more) here all = let parts = and_parts (owned_by owner sent) (list_all (owned_by owner) more) all in last_over owner (Some sent) more parts.0 parts.1

own_more : (owner : Owner) (sents more : List Sent) → list_all (owned_by owner) more ≡ true → own_sents owner sents ≡ true → own_sents owner (sents ++ more) ≡ true
own_more owner sents more all here =
    ap (λ (list : List Sent). option_map_or (owned_by owner) (last_or None list) false) (filter-append is_rep sents more)
    ∙ (ap (λ (found : Option Sent). option_map_or (owned_by owner) found false) (last_appended None (filter is_rep sents) (filter is_rep more))
    ∙ last_over owner (last_or None (filter is_rep sents)) (filter is_rep more) here (filter_all (owned_by owner) is_rep more all))

own_frames : (owner : Owner) (call : ℕ) (frames : List Up) → list_all (owned_by owner) (map (sent_by owner call) frames) ≡ true
own_frames owner call [] = refl
own_frames owner call (frame ∷ frames) = and_from (same_owner owner owner) (list_all (owned_by owner) (map (sent_by owner call) frames)) (owner_self owner) (own_frames owner call frames)

-- EVENTS ------------------------------------------------------------------------------------------

module _ (t : Traced) (inv : Orderly t) (new : Traced) (setting : new.setting ≡ t.setting) (items left : List Served) (kind : Noted) (happens : Happens t.setting (at_event t.machine) items left kind new.machine) where
  abbrev now : Machine
  now = at_event t.machine

  frozen_own : (course : Course) (a b : Link) → IsFrozen a b → ends_own course a ≡ true → ends_own course b ≡ true
  frozen_own course a b same here = ap (own_sents course.owner) same.sent ∙ here

  module _ (who : ℕ) (step : HasStepped t.setting now who new.machine) where
    abbrev mine : Owner
    mine = record { client = who; place = length step.client.past }

    abbrev said : List Sent
    said = map (sent_by (owner_at now who) (call_in (first_doing t.setting now inv.script.talks who new.machine step).talk.phase))
        (frames_of step.pool (unwrap_or step.connection 0) (first_step t.setting now inv.script.talks who new.machine step).done.act)

    said_own : list_all (owned_by mine) said ≡ true
    said_own =
        ap (λ (owner : Owner). list_all (owned_by mine) (map (sent_by owner (call_in (first_doing t.setting now inv.script.talks who new.machine step).talk.phase))
        (frames_of step.pool (unwrap_or step.connection 0) (first_step t.setting now inv.script.talks who new.machine step).done.act))) (step_owner t.setting now inv.script.talks who new.machine step)
        ∙ own_frames mine (call_in (first_doing t.setting now inv.script.talks who new.machine step).talk.phase) (frames_of step.pool (unwrap_or step.connection 0) (first_step t.setting now inv.script.talks who new.machine step).done.act)

    -- the one that it had
    had_own : (number : ℕ) → step.before.connection ≡ Some number → (course : Course) → course.owner ≡ mine → option_map_or (ends_own course) (link_at new.machine.links number) false ≡ true
    had_own number has course owner =
        subst (λ (o : Owner). option_map_or (λ link. own_sents o link.sent) (link_at new.machine.links number) false ≡ true) (sym owner)
        (link_passes (own_sents mine) new.machine.links number
        ∙ subst (λ (lists : List (List Sent)). sents_pass (own_sents mine) lists number ≡ true) (sym step.sent_are)
        (spoken_passes (own_sents mine) said (λ sents here. own_more mine sents said said_own here) step.lists (unwrap_or step.connection 0) number (grown (passes_from (own_sents mine) (sent_lists t.machine.links) number before))))
      where
        on : OnIt t.machine.links mine step.before.connection step.before.talk.phase
        on = before_on t now who new.machine step step.here inv.hold.held inv.wire.grammar number has

        rep : is_rep on.last ≡ true
        rep = on.answered

        last : last_or None (filter is_rep on.link.sent) ≡ Some on.last
        last = last_kept is_rep None None on.link.sent (λ never. refl) (ap (λ (found : Option Sent). option_map_or is_rep found false) on.is ∙ rep) ∙ on.is

        there : link_at t.machine.links number ≡ Some on.link
        there = let e : Some on.number ≡ Some number = sym on.has ∙ has in let same : on.number ≡ number = cc in ap (link_at t.machine.links) (sym same) ∙ on.there

        before : sents_pass (own_sents mine) (sent_lists t.machine.links) number ≡ true
        before =
            sym (link_passes (own_sents mine) t.machine.links number)
            ∙ (ap (λ (found : Option Link). option_map_or (λ link. own_sents mine link.sent) found false) there ∙ (ap (λ (found : Option Sent). option_map_or (owned_by mine) found false) last ∙ on.mine))

        grown : PassesAt (own_sents mine) (sent_lists t.machine.links) number → sents_pass (own_sents mine) step.lists number ≡ true
        grown is = passes_to (own_sents mine) step.lists number is.sents (grown_at (sent_lists t.machine.links) step.lists number is.sents step.grows is.there) is.passes

    by_lost : (P : ℕ → Type 0) (course : Course) → course.owner ≡ mine → (before after : List ℕ) → LostMore P step.before.connection before after
        → list_all (λ number. option_map_or (ends_own course) (link_at new.machine.links number) false) before ≡ true → list_all (λ number. option_map_or (ends_own course) (link_at new.machine.links number) false) after ≡ true
    by_lost P course owner before _ NoneLost all = all
    by_lost P course owner before _ (OneLost number has lost) all =
        append_all (λ n. option_map_or (ends_own course) (link_at new.machine.links n) false) before (number ∷ []) all
        (and_from (option_map_or (ends_own course) (link_at new.machine.links number) false) true (had_own number has course owner) refl)

  keeps_own : KeepsLost t inv new setting items left kind happens loses_own
  keeps_own = record {
    others = λ course gone here. all_still t inv new setting items left kind happens (ends_own course) (frozen_own course) (lost_links course) gone here;
    begins = λ who place request. refl;
    goes = λ who step keep gone here.
        by_lost who step (IsLeft t inv who new.machine step) (course_kept t inv new setting items left kind happens who step) refl (lost_links (course_before t inv new setting items left kind happens who step))
        (lost_links (course_kept t inv new setting items left kind happens who step)) (kept_lost t inv who new.machine step)
        (all_still t inv new setting items left kind happens (ends_own (course_before t inv new setting items left kind happens who step)) (frozen_own (course_before t inv new setting items left kind happens who step)) (lost_links (course_before t inv new setting items left kind happens who step)) gone here);
    ends = λ who step over gone here.
        by_lost who step (λ (connection : ℕ). ⊥) (course_ended t inv new setting items left kind happens who step) refl (lost_links (course_before t inv new setting items left kind happens who step))
        (lost_links (course_ended t inv new setting items left kind happens who step)) (over_lost t inv who new.machine step over)
        (all_still t inv new setting items left kind happens (ends_own (course_before t inv new setting items left kind happens who step)) (frozen_own (course_before t inv new setting items left kind happens who step)) (lost_links (course_before t inv new setting items left kind happens who step)) gone here);
  }

pub own_law : IsKeptOfAll lose_own
own_law = record {
  at_start = λ document. resting_none (setting_of document) 1 (loses_own (traced_start document).machine.links) document.clients;
  at_event = λ before after old new event note items left one inv.
      let by : Followed old.setting old.machine event note items left new.machine = follow_happens old.setting old.machine event note items left new.machine one.follows in
      lost_kept old inv.orderly new one.setting items left by.kind by.happens loses_own (keeps_own old inv.orderly new one.setting items left by.kind by.happens) inv.lost.gone
      (happens_step old.setting (at_event old.machine) items left by.kind new.machine by.happens) inv.shown.own;
}
