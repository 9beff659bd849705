-- The notes of a run whose schedule has no `outside` tell no session of one.
use Rattle.std.proofs.Common.{◌≡◌, refl, ap, ◌∙◌, ℕ, ◌+◌, Bool, true, false, not, List, [], ◌∷◌, ◌++◌}
use Rattle.std.specs.Prelude.{Option, Some, None, is_some, option_and_then, if◌then◌else◌}
use Rattle.std.specs.List.{list_any}
use Rattle.std.specs.Option.{option_map_or}
use Rattle.std.proofs.lemmas.Bool.{and_parts, not-true}
use Rattle.outage_schedule.specs.declared.event.Event.{Event}
use Rattle.outage_schedule.specs.declared.event.Event.TheVariants as event
use Rattle.outage_schedule.specs.declared.item.Served.{Served}
use Rattle.outage_schedule.specs.declared.note.Note.{Note}
use Rattle.outage_schedule.specs.declared.note.Note.TheVariants as note
use Rattle.run_clauses.specs.meaning.Sessions.{outside_session, outside_sessions}
use Rattle.svc_values.specs.declared.entry.SessionId.{SessionId}
use Rattle.world_model.specs.meaning.Clients.{is_unfinished}
use Rattle.world_model.specs.meaning.Finishing.{AtClients, AtLinks, AtOrphans, AtRound, AtServer, Finished, Next, Place, first_behind, goes_or_serves, next_finish, next_round, reaps_or_goes, serves_or_ticks, walk_finish}
use Rattle.world_model.specs.meaning.Followed.{ends_so, run_of}
use Rattle.world_model.specs.meaning.Links.{is_orphan}
use Rattle.world_model.specs.meaning.Machines.{Machine, start_of}
use Rattle.world_model.specs.meaning.Matching.{matched}
use Rattle.world_model.specs.meaning.Serving.{front_of}
use Rattle.world_model.specs.meaning.Settings.{Setting, setting_of}
use Rattle.world_model.specs.meaning.Walking.{After, Walked, by_kind, follow, walk}
use Rattle.load_laws.specs.Insides.{InsidesTellNone, is_outside, none_outside}

-- ---- one event

note_inside : (made : Event) (told : Note) → is_outside made ≡ false → is_some (matched made told) ≡ true → outside_session told ≡ []
note_inside (event.Outside calls) told inside there = absurd (let none : ⊥ = cc in none)
note_inside (event.Go client) (note.Outside (Some ran)) inside there = absurd (let none : ⊥ = cc in none)
note_inside (event.Serve connection) (note.Outside (Some ran)) inside there = absurd (let none : ⊥ = cc in none)
note_inside (event.Cut connection up down) (note.Outside (Some ran)) inside there = absurd (let none : ⊥ = cc in none)
note_inside (event.Reap connection) (note.Outside (Some ran)) inside there = absurd (let none : ⊥ = cc in none)
note_inside (event.Crash connection after pick) (note.Outside (Some ran)) inside there = absurd (let none : ⊥ = cc in none)
note_inside event.Up (note.Outside (Some ran)) inside there = absurd (let none : ⊥ = cc in none)
note_inside (event.UpCrash after pick) (note.Outside (Some ran)) inside there = absurd (let none : ⊥ = cc in none)
note_inside event.Tick (note.Outside (Some ran)) inside there = absurd (let none : ⊥ = cc in none)
note_inside (event.Ask ltxid) (note.Outside (Some ran)) inside there = absurd (let none : ⊥ = cc in none)
note_inside event.Drain (note.Outside (Some ran)) inside there = absurd (let none : ⊥ = cc in none)
note_inside made (note.Outside None) inside there = refl
note_inside made (note.Go client did) inside there = refl
note_inside made (note.Serve connection frame) inside there = refl
note_inside made (note.Cut connection reached) inside there = refl
note_inside made (note.Reap connection reaped) inside there = refl
note_inside made (note.Crash connection down) inside there = refl
note_inside made (note.Up incarnation) inside there = refl
note_inside made (note.UpCrash begun) inside there = refl
note_inside made note.Tick inside there = refl
note_inside made (note.Ask ltxid answered) inside there = refl
note_inside made (note.Drain closed) inside there = refl

there_is : {A B : Type 0} (f : A → Option B) (found : Option A) (y : B) → option_and_then f found ≡ Some y → is_some found ≡ true
there_is f None y is = absurd (let none : ⊥ = cc in none)
there_is f (Some x) y is = refl

followed_inside : (setting : Setting) (m : Machine) (made : Event) (told : Note) (items : List Served) (next : Machine × List Served) → is_outside made ≡ false → follow setting m made told items ≡ Some next → outside_session told ≡ []
followed_inside setting m made told items next inside is =
    note_inside made told inside (there_is (by_kind setting (record m { event = m.event + 1 }) items) (matched made told) next is)

-- ---- the schedule

abbrev notes_left : Option Walked → List Note
notes_left None = []
notes_left (Some walked) = walked.notes

walk_inside : (setting : Setting) (m : Machine) (events : List Event) (notes : List Note) (items : List Served) (walked : Walked) → none_outside events ≡ true → walk setting m events notes items ≡ Some walked
    → outside_sessions notes ≡ outside_sessions walked.notes
walk_inside setting m [] notes items walked inside is = ap (λ (found : Option Walked). outside_sessions (notes_left found)) is
walk_inside setting m (made ∷ events) [] items walked inside is = absurd (let none : ⊥ = cc in none)
walk_inside setting m (made ∷ events) (told ∷ notes) items walked inside is =
    by (follow setting m made told items) refl is (λ next on. walk_inside setting next.0 events notes next.1 walked parts.1 on)
  where
    parts : (not (is_outside made) ≡ true) × (none_outside events ≡ true)
    parts = and_parts (not (is_outside made)) (none_outside events) inside

    by : (found : After) → follow setting m made told items ≡ found → option_and_then (λ (next : Machine × List Served). walk setting next.0 events notes next.1) found ≡ Some walked
        → ((next : Machine × List Served) → walk setting next.0 events notes next.1 ≡ Some walked → outside_sessions notes ≡ outside_sessions walked.notes) → outside_sessions (told ∷ notes) ≡ outside_sessions walked.notes
    by None at on again = absurd (let none : ⊥ = cc in none)
    by (Some next) at on again = ap (λ (front : List SessionId). front ++ outside_sessions notes) (followed_inside setting m made told items next (not-true (is_outside made) parts.0) at) ∙ again next on

-- ---- the finish

abbrev next_inside : Next → Bool
next_inside None = true
next_inside (Some made) = not (is_outside made.0)

found_or : (found : Option ℕ) (f : ℕ → Next) (other : Next) → ((n : ℕ) → next_inside (f n) ≡ true) → next_inside other ≡ true → next_inside (option_map_or f found other) ≡ true
found_or None f other each is = is
found_or (Some n) f other each is = each n

either : (b : Bool) (one other : Next) → next_inside one ≡ true → next_inside other ≡ true → next_inside (if b then one else other) ≡ true
either true one other first second = first
either false one other first second = second

serves_inside : (m : Machine) → next_inside (serves_or_ticks m) ≡ true
serves_inside m = found_or (first_behind (λ link. is_some (front_of link)) 0 m.links) (λ number. Some (event.Serve number, AtLinks)) (Some (event.Tick, AtRound)) (λ n. refl) refl

goes_inside : (m : Machine) (last : ℕ) → next_inside (goes_or_serves m last) ≡ true
goes_inside m last = found_or (first_behind is_unfinished last m.clients) (λ number. Some (event.Go number, AtClients number)) (serves_or_ticks m) (λ n. refl) (serves_inside m)

round_inside : (m : Machine) → next_inside (next_round m) ≡ true
round_inside m = either (list_any is_unfinished m.clients) (goes_or_serves m 0) None (goes_inside m 0) refl

reaps_inside : (m : Machine) → next_inside (reaps_or_goes m) ≡ true
reaps_inside m = found_or (first_behind is_orphan 0 m.links) (λ number. Some (event.Reap number, AtOrphans)) (next_round m) (λ n. refl) (round_inside m)

finish_inside : (m : Machine) (place : Place) → next_inside (next_finish m place) ≡ true
finish_inside m AtServer = either m.server.is_up (reaps_or_goes m) (Some (event.Up, AtOrphans)) (reaps_inside m) refl
finish_inside m AtOrphans = reaps_inside m
finish_inside m AtRound = round_inside m
finish_inside m (AtClients last) = goes_inside m last
finish_inside m AtLinks = serves_inside m

abbrev End : Type 0
End = Machine × List Served

ends_inside : (setting : Setting) (m : Machine) (place : Place) (notes : List Note) (items : List Served) (end : End) → walk_finish setting m place notes items ≡ Some end → outside_sessions notes ≡ []
ends_inside setting m place [] items end is = refl
ends_inside setting m place (told ∷ notes) items end is =
    by (next_finish m place) (finish_inside m place) is (λ next to on. ends_inside setting next.0 to notes next.1 end on)
  where
    then_on : (made : Event) (to : Place) (found : After) → is_outside made ≡ false → follow setting m made told items ≡ found → option_and_then (λ (next : End). walk_finish setting next.0 to notes next.1) found ≡ Some end
        → ((next : End) (to : Place) → walk_finish setting next.0 to notes next.1 ≡ Some end → outside_sessions notes ≡ []) → outside_sessions (told ∷ notes) ≡ []
    then_on made to None inside at on again = absurd (let none : ⊥ = cc in none)
    then_on made to (Some next) inside at on again = ap (λ (front : List SessionId). front ++ outside_sessions notes) (followed_inside setting m made told items next inside at) ∙ again next to on

    by : (found : Next) → next_inside found ≡ true → option_and_then (λ (made : Event × Place). option_and_then (λ (next : End). walk_finish setting next.0 made.1 notes next.1) (follow setting m made.0 told items)) found ≡ Some end
        → ((next : End) (to : Place) → walk_finish setting next.0 to notes next.1 ≡ Some end → outside_sessions notes ≡ []) → outside_sessions (told ∷ notes) ≡ []
    by None inside on again = absurd (let none : ⊥ = cc in none)
    by (Some made) inside on again = then_on made.0 made.1 (follow setting m made.0 told items) (not-true (is_outside made.0) inside) refl on again

-- ---- the run

pub tell_none : InsidesTellNone
tell_none document report inside follows = by (run_of document report) refl follows
  where
    through : (found : Option Walked) (end : End) → walk (setting_of document) (start_of document) document.schedule report.notes report.served ≡ found
        → option_and_then (λ (walked : Walked). walk_finish (setting_of document) walked.machine AtServer walked.notes walked.items) found ≡ Some end → outside_sessions report.notes ≡ []
    through None end at is = absurd (let none : ⊥ = cc in none)
    through (Some walked) end at is =
        walk_inside (setting_of document) (start_of document) document.schedule report.notes report.served walked inside at
        ∙ ends_inside (setting_of document) walked.machine AtServer walked.notes walked.items end is

    by : (found : Finished) → run_of document report ≡ found → ends_so report found ≡ true → outside_sessions report.notes ≡ []
    by None at ends = absurd (let none : ⊥ = cc in none)
    by (Some end) at ends = through (walk (setting_of document) (start_of document) document.schedule report.notes report.served) end refl at
