-- The incarnation that a store has at the end of a run, and the horizon that it holds in one: what
-- the openings so far raised it to, or more by one that was stopped and asked for no more than the
-- next one will. While the server is up it is the one that the report tells of the next event.
use Rattle.std.proofs.Common.{◌≡◌, refl, sym, ap, subst, ◌∙◌, arith, inl, inr, ℕ, ◌+◌, ◌≤◌, Bool, true, false, List, [], ◌∷◌, ◌++◌, length, Some, None}
use Rattle.std.specs.Prelude.{◌⊎◌, fold, max}
use Rattle.outage_schedule.specs.declared.document.Document.{Document}
use Rattle.outage_schedule.specs.declared.event.Event.{Event}
use Rattle.outage_schedule.specs.declared.item.Served.{Served}
use Rattle.outage_schedule.specs.declared.note.Note.{Note}
use Rattle.outage_schedule.specs.declared.note.Note.TheVariants as notes
use Rattle.outage_schedule.specs.declared.report.Report.{Report}
use Rattle.run_clauses.specs.meaning.Horizons.{after_note, wanted_horizon, horizon_at, last_horizon, incarnation_after, incarnation_behind}
use Rattle.server_model.specs.Seen.{Store, Seen}
use Rattle.world_model.specs.Coupled.{Coupled}
use Rattle.world_model.specs.FinishEnds.{is_at_server}
use Rattle.world_model.specs.meaning.Finishing.{Place}
use Rattle.world_model.specs.Forgets.{Forgets, openings_of, first_of, wanted_behind}
use Rattle.world_model.specs.meaning.Machines.{Machine}
use Rattle.world_model.specs.OneEvent.{OneEvent}
use Rattle.world_model.specs.Reached.{Reached, Begins, GoesOn, IsFinishing, Scheduled, Finishes}
use Rattle.run_laws.specs.StoredLaws.{HorizonsAreStored, IncarnationsAreStored}
use Rattle.world_model.specs.meaning.Settings.{Setting}
use Rattle.run_laws.specs.StoredLaws.{HorizonsAreTold}
use Rattle.world_model.specs.Traced.{Traced}
use Rattle.world_model.specs.meaning.Walking.{follow}
use Rattle.world_model.proofs.Offered.{finish_up, over_up, finishing_coupled, eq_to, openings_more, wanted_rises}
use Rattle.run_laws.proofs.RaisedHorizons.{raised_by, raised_at, raised_more, raised_so_far, last_raised}
use Rattle.run_laws.proofs.WasUp.{was_up, stopped_down, incarnation_noted}

-- between what was raised and what is wanted, and what was raised while the server is up
record Holds (up : Bool) (raised wanted horizon : ℕ) : Type 0 where
  low : raised ≤ horizon
  high : horizon ≤ max raised wanted
  exact : up ≡ true → horizon ≡ raised

holds_first : (up : Bool) (raised wanted horizon : ℕ) → horizon ≡ raised → Holds up raised wanted horizon
holds_first up raised wanted horizon is = record { low = omega (arith, is); high = omega (arith, is); exact = λ same. is }

-- by an opening
holds_opened : (up later : Bool) (raised wanted next horizon stored : ℕ) → Holds up raised wanted horizon → stored ≡ max horizon wanted → Holds later (max raised wanted) next stored
holds_opened up later raised wanted next horizon stored holds is =
    let low = holds.low in
    let high = holds.high in
    let same : stored ≡ max raised wanted = omega (arith, low, high, is) in
    holds_first later (max raised wanted) next stored same

-- by one that was stopped
holds_stopped : (up later : Bool) (raised wanted next horizon stored : ℕ) → Holds up raised wanted horizon → (stored ≡ horizon) ⊎ (stored ≡ max horizon wanted) → wanted ≤ next → later ≡ false → Holds later raised next stored
holds_stopped up later raised wanted next horizon stored holds is rises down = record { low = (both is).0; high = (both is).1; exact = λ never. absurd (let clash : true ≡ false = sym never ∙ down in let none : ⊥ = cc in none) }
  where
    both : (stored ≡ horizon) ⊎ (stored ≡ max horizon wanted) → (raised ≤ stored) × (stored ≤ max raised next)
    both (inl same) = let low = holds.low in let high = holds.high in (omega (arith, low, same), omega (arith, high, same, rises))
    both (inr raises) = let low = holds.low in let high = holds.high in (omega (arith, low, raises), omega (arith, high, raises, rises))

-- by any other event
holds_still : (up later : Bool) (raised wanted next horizon stored : ℕ) → Holds up raised wanted horizon → stored ≡ horizon → wanted ≤ next → (later ≡ true → up ≡ true) → Holds later raised next stored
holds_still up later raised wanted next horizon stored holds same rises was = record {
  low = let low = holds.low in omega (arith, low, same);
  high = let high = holds.high in omega (arith, high, same, rises);
  exact = λ is. same ∙ holds.exact (was is);
}

-- NOTE BY NOTE ------------------------------------------------------------------------------------

holds_noted : (raised wanted next : ℕ) (setting : Setting) (m n : Machine) (event : Event) (note : Note) (items left : List Served) (old new : Store) → follow setting m event note items ≡ Some (n, left) → wanted ≤ next → Forgets wanted note old new
    → Holds m.server.is_up raised wanted old.horizon → Holds n.server.is_up (raised_at raised wanted note) next new.horizon
holds_noted raised wanted next setting m n event (notes.Up (Some incarnation)) items left old new follows rises forgets holds = holds_opened m.server.is_up n.server.is_up raised wanted next old.horizon new.horizon holds forgets
holds_noted raised wanted next setting m n event (notes.UpCrash true) items left old new follows rises forgets holds =
    holds_stopped m.server.is_up n.server.is_up raised wanted next old.horizon new.horizon holds forgets rises (stopped_down setting m n event items left follows)
holds_noted raised wanted next setting m n event (notes.Up None) items left old new follows rises forgets holds = holds_still m.server.is_up n.server.is_up raised wanted next old.horizon new.horizon holds forgets rises (was_up setting m n event (notes.Up None) items left follows refl)
holds_noted raised wanted next setting m n event (notes.UpCrash false) items left old new follows rises forgets holds =
    holds_still m.server.is_up n.server.is_up raised wanted next old.horizon new.horizon holds forgets rises (was_up setting m n event (notes.UpCrash false) items left follows refl)
holds_noted raised wanted next setting m n event note items left old new follows rises forgets holds = holds_still m.server.is_up n.server.is_up raised wanted next old.horizon new.horizon holds forgets rises (was_up setting m n event note items left follows refl)

module _ (document : Document) where
  abbrev HoldsAt : List Note → Seen → Traced → Type 0
  HoldsAt before seen t = Holds t.machine.server.is_up (raised_by document before) (wanted_behind document before) seen.state.store.horizon

  holds_next : (before : List Note) (seen later : Seen) (old new : Traced) (event : Event) (note : Note) (items left : List Served) → OneEvent seen old event note items left later new → Forgets (wanted_behind document before) note seen.state.store later.state.store
      → HoldsAt before seen old → HoldsAt (before ++ note ∷ []) later new
  holds_next before seen later old new event note items left one forgets holds =
      let wants : wanted_behind document (before ++ note ∷ []) ≡ wanted_horizon document.service.retention (after_note (openings_of (first_of document) before) note) = ap (wanted_horizon document.service.retention) (openings_more (first_of document) before note) in
      let more = wanted_rises document.service.retention (openings_of (first_of document) before) note in
      let rises : wanted_behind document before ≤ wanted_behind document (before ++ note ∷ []) = omega (arith, wants, more) in
      subst (λ (raised : ℕ). Holds new.machine.server.is_up raised (wanted_behind document (before ++ note ∷ [])) later.state.store.horizon) (sym (raised_more document before note))
      (holds_noted (raised_by document before) (wanted_behind document before) (wanted_behind document (before ++ note ∷ [])) old.setting old.machine new.machine event note items left seen.state.store later.state.store one.follows rises forgets holds)

  reached_holds : (events : List Event) (all : List Note) (items : List Served) (seen : Seen) (t : Traced) → Reached document events all items seen t → HoldsAt all seen t
  reached_holds _ _ _ _ _ (Begins seen start history horizon coupled) = holds_first true (raised_by document []) (wanted_behind document []) seen.state.store.horizon horizon
  reached_holds _ _ _ _ _ (GoesOn events all items more before after old new event note reached one forgets) = holds_next all before after old new event note more [] one forgets (reached_holds events all items before old reached)

  finishing_holds : (place : Place) (all : List Note) (items : List Served) (seen : Seen) (t : Traced) → IsFinishing document place all items seen t → HoldsAt all seen t × (is_at_server place ≡ false → t.machine.server.is_up ≡ true)
  finishing_holds _ _ _ _ _ (Scheduled all items seen t reached) = (reached_holds document.schedule all items seen t reached, λ never. absurd (let none : ⊥ = cc in none))
  finishing_holds _ _ _ _ _ (Finishes place later all items more before after old new event note finishing next one forgets) =
      let earlier = finishing_holds place all items before old finishing in (
        holds_next all before after old new event note more [] one forgets earlier.0,
        λ behind. finish_up old.setting old.machine new.machine more [] event note place later earlier.1 next one.follows,
      )

  module _ (report : Report) where
    abbrev Told : List Note → Seen → Traced → Type 0
    Told all seen t = t.machine.server.is_up ≡ true → seen.state.store.horizon ≡ horizon_at document report (length all + 1)

    pub reached_told : (events : List Event) (all others : List Note) (items : List Served) (seen : Seen) (t : Traced) → Reached document events all items seen t → report.notes ≡ all ++ others → Told all seen t
    reached_told events all others items seen t reached same up = (reached_holds events all items seen t reached).exact up ∙ sym (raised_so_far document report all others same)

    pub finishing_told : (place : Place) (all others : List Note) (items : List Served) (seen : Seen) (t : Traced) → IsFinishing document place all items seen t → report.notes ≡ all ++ others → Told all seen t
    finishing_told place all others items seen t finishing same up = (finishing_holds place all items seen t finishing).0.exact up ∙ sym (raised_so_far document report all others same)

pub horizons_stored : HorizonsAreStored
horizons_stored document report seen t run =
    let end = finishing_holds document run.place report.notes report.served seen t run.finishing in
    end.0.exact (over_up t.machine run.place end.1 run.over) ∙ sym (last_raised document report)

pub horizons_told : HorizonsAreTold
horizons_told document report seen t server is = eq_to report.forgotten (last_horizon document report) (is.forgotten ∙ horizons_stored document report seen t is.run)

-- THE INCARNATION ---------------------------------------------------------------------------------

behind_more : (document : Document) (before : List Note) (note : Note) → incarnation_behind document (before ++ note ∷ []) ≡ incarnation_after (incarnation_behind document before) note
behind_more document before note = from (incarnation_behind document []) before
  where
    from : (first : ℕ) (before : List Note) → fold incarnation_after first (before ++ note ∷ []) ≡ incarnation_after (fold incarnation_after first before) note
    from first [] = refl
    from first (one ∷ before) = from (incarnation_after first one) before

opened_next : (document : Document) (before : List Note) (seen later : Seen) (old new : Traced) (event : Event) (note : Note) (items left : List Served) → OneEvent seen old event note items left later new
    → old.machine.server.incarnation ≡ incarnation_behind document before → new.machine.server.incarnation ≡ incarnation_behind document (before ++ note ∷ [])
opened_next document before seen later old new event note items left one same =
    incarnation_noted old.setting old.machine new.machine event note items left one.follows ∙ ap (λ (incarnation : ℕ). incarnation_after incarnation note) same ∙ sym (behind_more document before note)

reached_opened : (document : Document) (events : List Event) (all : List Note) (items : List Served) (seen : Seen) (t : Traced) → Reached document events all items seen t → t.machine.server.incarnation ≡ incarnation_behind document all
reached_opened document _ _ _ _ _ (Begins seen start history horizon coupled) = refl
reached_opened document _ _ _ _ _ (GoesOn events all items more before after old new event note reached one forgets) =
    opened_next document all before after old new event note more [] one (reached_opened document events all items before old reached)

finishing_opened : (document : Document) (place : Place) (all : List Note) (items : List Served) (seen : Seen) (t : Traced) → IsFinishing document place all items seen t → t.machine.server.incarnation ≡ incarnation_behind document all
finishing_opened document _ _ _ _ _ (Scheduled all items seen t reached) = reached_opened document document.schedule all items seen t reached
finishing_opened document _ _ _ _ _ (Finishes place later all items more before after old new event note finishing next one forgets) =
    opened_next document all before after old new event note more [] one (finishing_opened document place all items before old finishing)

pub incarnations_stored : IncarnationsAreStored
incarnations_stored document report seen t run =
    let end = finishing_holds document run.place report.notes report.served seen t run.finishing in
    let up : t.machine.server.is_up ≡ true = over_up t.machine run.place end.1 run.over in
    let coupled : Coupled seen t = finishing_coupled document run.place report.notes report.served seen t run.finishing in
    sym (coupled.server.opened (sym coupled.server.is_up ∙ up)).0 ∙ finishing_opened document run.place report.notes report.served seen t run.finishing
