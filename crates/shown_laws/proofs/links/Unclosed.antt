-- At no event is a connection closed that a request in course held.
use Rattle.std.proofs.Common.{◌≡◌, refl, sym, ap, subst, ◌∙◌, append-nil, Bool, true, false, ℕ, ◌+◌, ◌&&◌, ◌||◌, length, List, [], ◌∷◌, ◌++◌, map, Option, Some, None, option_map, ◌⊎◌, inl, inr}
use Rattle.std.specs.Prelude.{◌==◌, is_some, is_none, not}
use Rattle.std.specs.List.{list_any, cons_option}
use Rattle.std.specs.Option.{option_or, option_map_or}
use Rattle.std.proofs.lemmas.Bool.{and_parts, or_cases}
use Rattle.std.proofs.lemmas.List.Elements.{filter_map-append}
use Rattle.std.proofs.lemmas.List.Folds.{list_any-append}
use Rattle.svc_values.specs.declared.frame.Up.{Up}
use Rattle.svc_values.specs.meaning.Same.{same_bool}
use Rattle.pool_core.specs.declared.answers.Back.{Back}
use Rattle.client_model.specs.declared.act.Hold.{Hold}
use Rattle.client_model.specs.declared.act.Hold.TheVariants as hold
use Rattle.client_model.specs.declared.input.Input.{Input}
use Rattle.client_model.specs.declared.input.Wants.{Wants}
use Rattle.client_model.specs.declared.input.Wants.TheVariants as wants
use Rattle.client_model.specs.meaning.Talk.{wants_of}
use Rattle.outage_schedule.specs.declared.document.Request.{Request}
use Rattle.world_model.specs.meaning.Acting.{closing}
use Rattle.world_model.specs.records.Basic.{at_most, ends_rightly}
use Rattle.world_model.specs.meaning.Clients.{Step, Doing, Client, client_at, begun, doing_of, step_at}
use Rattle.world_model.specs.meaning.Frames.{Sent}
use Rattle.world_model.specs.records.Hold.{holds_connection, waits_on, is_held}
use Rattle.invariant_laws.specs.Invariant.{Invariant}
use Rattle.world_model.specs.meaning.Links.{Link, link_at, is_close}
use Rattle.world_model.specs.meaning.Machines.{Machine}
use Rattle.world_model.specs.Parts.{is_closed, implies}
use Rattle.world_model.specs.meaning.Settings.{Setting}
use Rattle.world_model.specs.Traced.{Traced, course_now}
use Rattle.world_model.specs.Words.{brought, held_in}
use Rattle.shown_laws.specs.Closing.{IsUnclosed, HeldUnclosed, AllUnclosed}
use Rattle.shown_laws.proofs.events.CourseNow.{course_holds}
use Rattle.shown_laws.proofs.links.LinksStay.{StaysAt, AllStay}
use Rattle.shown_laws.proofs.events.Lookups.{eq_from}
use Rattle.shown_laws.proofs.links.NoClose.{step_open}
use Rattle.shown_laws.proofs.links.Single.{holds_none}

-- STAYING -----------------------------------------------------------------------------------------

-- one that stays is not closed, and is not open where it was not
pub still_unclosed : (links news : List Link) (doing : Doing) (number : ℕ) → AllStay links news number → IsUnclosed links doing number → IsUnclosed news doing number
still_unclosed links news doing number stays is = record { link = at.next; there = at.there; never = at.stays.closed ∙ is.never; had = by is.had }
  where
    at : StaysAt links news number is.link
    at = stays is.link is.there

    by : (doing.connection ≡ Some number) ⊎ (is.link.is_open ≡ false) → (doing.connection ≡ Some number) ⊎ (at.next.is_open ≡ false)
    by (inl has) = inl has
    by (inr shut) = inr (at.stays.shut shut)

-- where no client does a step
pub all_still : (m n : Machine) → n.clients ≡ m.clients → ((client : ℕ) (own : Client) (doing : Doing) (number : ℕ) → client_at m.clients client ≡ Some own → own.now ≡ Some doing → IsUnclosed m.links doing number → AllStay m.links n.links number)
    → AllUnclosed m → AllUnclosed n
all_still m n same stays before client own doing here now number among =
    let at : client_at m.clients client ≡ Some own = ap (λ (c : List Client). client_at c client) (sym same) ∙ here in
    let is : IsUnclosed m.links doing number = before client own doing at now number among in
    still_unclosed m.links n.links doing number (stays client own doing number at now is) is

-- WHAT IT HELD ------------------------------------------------------------------------------------

-- with one step more
pub held_more : (steps : List Step) (step : Step) (number : ℕ) → list_any (λ other. other == number) (held_in (steps ++ step ∷ [])) ≡ true → (list_any (λ other. other == number) (held_in steps) ≡ true) ⊎ (brought step.done.input ≡ Some number)
held_more steps step number among =
    by (or_cases (list_any (λ other. other == number) (held_in steps)) (list_any (λ other. other == number) (held_in (step ∷ [])))
    (sym (list_any-append (λ (other : ℕ). other == number) (held_in steps) (held_in (step ∷ []))) ∙ (ap (list_any (λ other. other == number)) (sym (filter_map-append (λ (one : Step). brought one.done.input) steps (step ∷ []))) ∙ among)))
  where
    last : (found : Option ℕ) → list_any (λ other. other == number) (cons_option found []) ≡ true → found ≡ Some number
    last None is = absurd (let none : ⊥ = cc in none)
    last (Some one) is = by_either (or_cases (one == number) false is)
      where
        by_either : ((one == number) ≡ true) ⊎ (false ≡ true) → Some one ≡ Some number
        by_either (inl same) = ap Some (eq_from one number same)
        by_either (inr never) = absurd (let none : ⊥ = cc in none)

    by : (list_any (λ other. other == number) (held_in steps) ≡ true) ⊎ (list_any (λ other. other == number) (held_in (step ∷ [])) ≡ true) → (list_any (λ other. other == number) (held_in steps) ≡ true) ⊎ (brought step.done.input ≡ Some number)
    by (inl before) = inl before
    by (inr now) = inr (last (brought step.done.input) now)

-- the request that acts, new or old
pub acting : (t : Traced) (own : Client) (client : ℕ) (doing : Doing) → AllUnclosed t.machine → client_at t.machine.clients client ≡ Some own → doing_of t.setting.terms (t.machine.event + 1) t.machine.tick own ≡ Some doing → HeldUnclosed t.machine.links doing
acting t own client doing before here does = by own.now own.next refl does
  where
    by : (now : Option Doing) (next : Option Request) → own.now ≡ now → option_or now (option_map (begun t.setting.terms (t.machine.event + 1) t.machine.tick) next) ≡ Some doing → HeldUnclosed t.machine.links doing
    by (Some one) next now is = let same : one ≡ doing = cc in subst (HeldUnclosed t.machine.links) same (before client own one here now)
    by None None now is = absurd (let none : ⊥ = cc in none)
    by None (Some request) now is = λ number among.
        let same : begun t.setting.terms (t.machine.event + 1) t.machine.tick request ≡ doing = cc in
        let none : list_any (λ other. other == number) (held_in (begun t.setting.terms (t.machine.event + 1) t.machine.tick request).steps) ≡ true = subst (λ (d : Doing). list_any (λ other. other == number) (held_in d.steps) ≡ true) (sym same) among in
        absurd (let never : ⊥ = cc in never)

-- one that waits for no frame has no connection
pub no_connection : (t : Traced) (inv : Invariant t) (own : Client) (client : ℕ) (doing : Doing) (wanted : Wants) → client_at t.machine.clients client ≡ Some own → doing_of t.setting.terms (t.machine.event + 1) t.machine.tick own ≡ Some doing
    → wants_of t.setting.terms doing.talk t.machine.tick ≡ wanted → (wants.Frame ≡ wanted → ⊥) → doing.connection ≡ None
no_connection t inv own client doing wanted here does is other = by own.now own.next refl does
  where
    none : (found : Option ℕ) → same_bool (is_some found) false ≡ true → found ≡ None
    none None is = refl
    none (Some number) is = absurd (let never : ⊥ = cc in never)

    by : (now : Option Doing) (next : Option Request) → own.now ≡ now → option_or now (option_map (begun t.setting.terms (t.machine.event + 1) t.machine.tick) next) ≡ Some doing → doing.connection ≡ None
    by (Some one) next now so =
        let same : one ≡ doing = cc in
        let held : is_held t (course_now t.setting client (length own.past) doing) ≡ true = course_holds (is_held t) t client own doing inv.orderly.hold.held here (now ∙ ap Some same) in
        let first = (and_parts (same_bool (is_some doing.connection) (holds_connection doing.talk.phase)) (option_map_or (λ k. option_map_or (waits_on (course_now t.setting client (length own.past) doing)) (link_at t.machine.links k) false) doing.connection true) held).0 in
        none doing.connection (subst (λ (b : Bool). same_bool (is_some doing.connection) b ≡ true) (holds_none t.setting.terms doing.talk doing.talk.phase t.machine.tick wanted is other) first)
    by None None now so = absurd (let never : ⊥ = cc in never)
    by None (Some request) now so =
        let same : begun t.setting.terms (t.machine.event + 1) t.machine.tick request ≡ doing = cc in
        ap (λ (d : Doing). d.connection) (sym same)

-- FRAMES ------------------------------------------------------------------------------------------

-- the frames of a request that goes on have no Close
frames_open : (sends : List Up) (make : Up → Sent) → ((frame : Up) → (make frame).frame ≡ frame) → list_any is_close sends ≡ false → list_any (λ sent. is_close sent.frame) (map make sends) ≡ false
frames_open [] make same none = refl
frames_open (frame ∷ sends) make same none = by (is_close frame) (ap is_close (same frame)) none (frames_open sends make same)
  where
    by : (test : Bool) → is_close (make frame).frame ≡ test → (test || list_any is_close sends) ≡ false → (list_any is_close sends ≡ false → list_any (λ sent. is_close sent.frame) (map make sends) ≡ false)
        → (is_close (make frame).frame || list_any (λ sent. is_close sent.frame) (map make sends)) ≡ false
    by true is none rest = absurd (let never : ⊥ = cc in never)
    by false is none rest = ap (λ (b : Bool). b || list_any (λ sent. is_close sent.frame) (map make sends)) is ∙ rest none

pub none_closes : (setting : Setting) (event tick : ℕ) (doing : Doing) (input : Input) (back : Back) (make : Up → Sent) → ((frame : Up) → (make frame).frame ≡ frame) → (step_at setting.terms event tick doing input).done.act.hold ≡ hold.Keep
    → list_any (λ sent. is_close sent.frame) (map make ((step_at setting.terms event tick doing input).done.act.send ++ closing (step_at setting.terms event tick doing input).done.act.hold back)) ≡ false
none_closes setting event tick doing input back make same keep =
    frames_open _ make same
    (ap (λ (held : Hold). list_any is_close ((step_at setting.terms event tick doing input).done.act.send ++ closing held back)) keep
    ∙ (ap (list_any is_close) (append-nil (step_at setting.terms event tick doing input).done.act.send) ∙ step_open setting.terms doing.talk input tick keep))

-- an open connection is not closed
pub open_unclosed : (t : Traced) (link : Link) → ends_rightly t link ≡ true → link.is_open ≡ true → is_closed link ≡ false
open_unclosed t link here opens =
    let rest : Bool = implies (is_closed link || link.is_cut) (not link.is_open) && implies link.is_open link.is_living in
    let one = and_parts (same_bool link.is_open (is_none link.ended)) (at_most t.machine.event link.ended && (implies (is_closed link || link.is_cut) (not link.is_open) && implies link.is_open link.is_living)) here in
    let two = and_parts (at_most t.machine.event link.ended) (implies (is_closed link || link.is_cut) (not link.is_open) && implies link.is_open link.is_living) one.1 in
    let three = and_parts (implies (is_closed link || link.is_cut) (not link.is_open)) (implies link.is_open link.is_living) two.1 in
    by (is_closed link) link.is_cut link.is_open opens three.0
  where
    by : (closed cut opened : Bool) → opened ≡ true → implies (closed || cut) (not opened) ≡ true → closed ≡ false
    by true cut true is met = absurd (let none : ⊥ = cc in none)
    by true cut false is met = absurd (let none : ⊥ = cc in none)
    by false cut opened is met = refl
