-- What each event of a walk keeps holds at its end, and what each tells of its items is told of all
-- of them.
use Rattle.std.proofs.Common.{◌≡◌, Bool, true, false, List, [], ◌∷◌, Option, Some, None, refl, sym, ap, subst, if◌then◌else◌}
use Rattle.std.specs.Prelude.{option_and_then, is_none}
use Rattle.outage_schedule.specs.declared.document.Document.{Document}
use Rattle.outage_schedule.specs.declared.event.Event.{Event}
use Rattle.outage_schedule.specs.declared.item.Served.{Served}
use Rattle.outage_schedule.specs.declared.note.Note.{Note}
use Rattle.outage_schedule.specs.declared.report.Report.{Report}
use Rattle.world_model.specs.meaning.Finishing.{Place, AtServer, Finished, next_finish, walk_finish}
use Rattle.world_model.specs.meaning.Followed.{ends_so, followed}
use Rattle.world_model.specs.meaning.Machines.{Machine, start_of}
use Rattle.world_model.specs.meaning.Settings.{Setting, setting_of}
use Rattle.world_model.specs.meaning.Walking.{After, Walked, follow, walk}
use Rattle.world_model.proofs.Offered.{left_or, reaches}

-- Where `Stands` holds before an event with the notes from it on, it holds behind it, and where
-- `Tells` holds of the items that it leaves, it does of all of them.
pub record EachTells (setting : Setting) (Stands : Machine → List Note → Type 0) (Tells : Machine → List Served → Type 0) : Type 0 where
  pub stands : (m n : Machine) (event : Event) (note : Note) (notes : List Note) (items left : List Served) → follow setting m event note items ≡ Some (n, left)
      → Stands m (note ∷ notes) → Stands n notes
  pub tells : (m n : Machine) (event : Event) (note : Note) (notes : List Note) (items left : List Served) → follow setting m event note items ≡ Some (n, left)
      → Stands m (note ∷ notes) → Tells n left → Tells m items
  pub none : (m : Machine) → Tells m []

module _ (setting : Setting) (Stands : Machine → List Note → Type 0) (Tells : Machine → List Served → Type 0) (each : EachTells setting Stands Tells) where
  -- it holds where this leads
  record Leads (m : Machine) (items : List Served) (walked : Walked) : Type 0 where
    stands : Stands walked.machine walked.notes
    tells : Tells walked.machine walked.items → Tells m items

  walk_leads : (m : Machine) (events : List Event) (notes : List Note) (items : List Served) (walked : Walked) → walk setting m events notes items ≡ Some walked → Stands m notes
      → Leads m items walked
  walk_leads m [] notes items walked e stands =
      let same : record { machine = m; notes = notes; items = items } ≡ walked = cc in
      subst (Leads m items) {x = record { machine = m; notes = notes; items = items }} same (record { stands = stands; tells = λ told. told })
  walk_leads m (event ∷ events) [] items walked e stands = absurd (let none : ⊥ = cc in none)
  walk_leads m (event ∷ events) (note ∷ notes) items walked e stands =
      by (follow setting m event note items) refl e (λ n left is so. walk_leads n events notes left walked so (each.stands m n event note notes items left is stands))
    where
      by : (after : After) → follow setting m event note items ≡ after → option_and_then (λ next. walk setting next.0 events notes next.1) after ≡ Some walked
          → ((n : Machine) (left : List Served) → follow setting m event note items ≡ Some (n, left) → walk setting n events notes left ≡ Some walked → Leads n left walked)
          → Leads m items walked
      by None is e later = absurd (let none : ⊥ = cc in none)
      by (Some (n, left)) is e later =
          let behind : Leads n left walked = later n left is e in
          record { stands = behind.stands; tells = λ told. each.tells m n event note notes items left is stands (behind.tells told) }

  over_tells : (over : Bool) (m last : Machine) (items : List Served) → (if over then reaches m items else None) ≡ Some (last, []) → Tells m items
  over_tells true m last items e = let same : items ≡ [] = ap (left_or items) e in subst (Tells m) (sym same) (each.none m)
  over_tells false m last items e = absurd (let none : ⊥ = cc in none)

  -- what the later events of a finish tell
  abbrev Later : Machine → Note → List Note → List Served → Machine → Type 0
  Later m note notes items last =
      (event : Event) (later : Place) (n : Machine) (left : List Served) → follow setting m event note items ≡ Some (n, left) → walk_finish setting n later notes left ≡ Some (last, []) → Tells n left

  finish_leads : (m : Machine) (place : Place) (notes : List Note) (items : List Served) (last : Machine) → walk_finish setting m place notes items ≡ Some (last, []) → Stands m notes → Tells m items
  finish_leads m place [] items last e stands = over_tells (is_none (next_finish m place)) m last items e
  finish_leads m place (note ∷ notes) items last e stands =
      made (next_finish m place) e (λ event later n left is so. finish_leads n later notes left last so (each.stands m n event note notes items left is stands))
    where
      after : Later m note notes items last → (event : Event) (later : Place) (so : After) → follow setting m event note items ≡ so → option_and_then (λ next. walk_finish setting next.0 later notes next.1) so ≡ Some (last, [])
          → Tells m items
      after behind event later None is e = absurd (let none : ⊥ = cc in none)
      after behind event later (Some (n, left)) is e = each.tells m n event note notes items left is stands (behind event later n left is e)

      made : (next : Option (Event × Place)) → option_and_then (λ made. option_and_then (λ next. walk_finish setting next.0 made.1 notes next.1) (follow setting m made.0 note items)) next ≡ Some (last, [])
          → Later m note notes items last → Tells m items
      made None e behind = absurd (let none : ⊥ = cc in none)
      made (Some (event, later)) e behind = after behind event later (follow setting m event note items) refl e

-- What the events of a report's walk tell is told of all that was served.
pub followed_tells : (document : Document) (report : Report) (Stands : Machine → List Note → Type 0) (Tells : Machine → List Served → Type 0) → EachTells (setting_of document) Stands Tells
    → Stands (start_of document) report.notes → followed document report ≡ true → Tells (start_of document) report.served
followed_tells document report Stands Tells each stands is = by (walk (setting_of document) (start_of document) document.schedule report.notes report.served) refl is
  where
    ended : (walked : Walked) (finished : Finished) → walk_finish (setting_of document) walked.machine AtServer walked.notes walked.items ≡ finished → ends_so report finished ≡ true
        → Stands walked.machine walked.notes → Tells walked.machine walked.items
    ended walked None e so stands = absurd (let none : ⊥ = cc in none)
    ended walked (Some (last, served ∷ left)) e so stands = absurd (let none : ⊥ = cc in none)
    ended walked (Some (last, [])) e so stands = finish_leads (setting_of document) Stands Tells each walked.machine AtServer walked.notes walked.items last e stands

    by : (walked : Option Walked) → walk (setting_of document) (start_of document) document.schedule report.notes report.served ≡ walked
        → ends_so report (option_and_then (λ walked. walk_finish (setting_of document) walked.machine AtServer walked.notes walked.items) walked) ≡ true → Tells (start_of document) report.served
    by None e so = absurd (let none : ⊥ = cc in none)
    by (Some walked) e so =
        let leads = walk_leads (setting_of document) Stands Tells each (start_of document) document.schedule report.notes report.served walked e stands in
        leads.tells (ended walked (walk_finish (setting_of document) walked.machine AtServer walked.notes walked.items) refl so leads.stands)
