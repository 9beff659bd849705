-- What a run's history has of the sessions of runs from outside: no call has the mark, and none was
-- stopped.
use Rattle.std.proofs.Common.{◌≡◌, refl, sym, ap, ◌∙◌, Bool, true, false, ℕ, not, List, [], ◌∷◌, ◌++◌, map, Some, ◌⊎◌, inl, inr, if◌then◌else◌}
use Rattle.std.specs.List.{list_all, list_any}
use Rattle.std.proofs.lemmas.Bool.{and_parts, and_from, or_cases, not-true}
use Rattle.std.proofs.lemmas.List.Folds.{list_all-append, list_any-append}
use Rattle.svc_values.specs.declared.call.Call.{Call}
use Rattle.svc_values.specs.declared.entry.SessionId.{SessionId}
use Rattle.svc_values.specs.meaning.Identifiers.{same_session}
use Rattle.outage_schedule.specs.declared.document.Document.{Document}
use Rattle.outage_schedule.specs.declared.event.Event.{Event}
use Rattle.outage_schedule.specs.declared.event.Event.TheVariants as event
use Rattle.outage_schedule.specs.declared.item.Served.{Served as ServedItem}
use Rattle.outage_schedule.specs.declared.note.Note.{Note}
use Rattle.outage_schedule.specs.declared.note.Note.TheVariants as note
use Rattle.outage_schedule.specs.declared.note.NoteRun.{NoteRun}
use Rattle.server_model.specs.Runs.{Happened, Served, Asked}
use Rattle.server_model.specs.Seen.{Seen}
use Rattle.server_model.specs.ServiceCalls.{RunsAre}
use Rattle.service_calls.specs.Answers.{run_of}
use Rattle.world_model.specs.records.Basic.{is_made, sessions_of}
use Rattle.world_model.specs.Orderly.{Orderly}
use Rattle.world_model.specs.meaning.Machines.{Machine, next_session}
use Rattle.world_model.specs.OneEvent.{OneEvent, session_outside}
use Rattle.world_model.specs.Reached.{Reached, Begins, GoesOn}
use Rattle.world_model.specs.records.Ready.{all_requests_right}
use Rattle.world_model.specs.RunLaws.{RunsAreOrderly}
use Rattle.world_model.specs.Sames.{each_pair}
use Rattle.world_model.specs.meaning.ServiceDid.{front_telling}
use Rattle.world_model.specs.ServiceDid.{ServiceDid}
use Rattle.invariant_laws.specs.SessionHistory.{served_in}
use Rattle.world_model.specs.meaning.Settings.{Setting}
use Rattle.world_model.specs.Traced.{Traced}
use Rattle.world_model.specs.meaning.Walking.{follow}
use Rattle.fresh_laws.proofs.DrawnFor.{among}
use Rattle.world_model.proofs.Offered.{session_in, made_before, same_session_is, not_both}
use Rattle.fresh_laws.proofs.OutsideEntries.{plain_told, is_plain}
use Rattle.invariant_laws.proofs.Offered.{served_more, one_other, NoneUnmade, reached_served, Adds, AddsFrame, AddsNone, event_adds}

-- ONE EVENT ---------------------------------------------------------------------------------------

abbrev plain_one : Happened → Bool
plain_one (Served session now frame told) = plain_told frame told
plain_one (Asked x told) = true

in_plain : (history : List Happened) (session : SessionId) → list_all plain_one history ≡ true → list_all is_plain (served_in history session) ≡ true
in_plain [] session all = refl
in_plain (Asked x told ∷ history) session all = in_plain history session all
in_plain (Served other now frame told ∷ history) session all = by (same_session other session) (in_plain history session parts.1)
  where
    parts : (plain_told frame told ≡ true) × (list_all plain_one history ≡ true)
    parts = and_parts (plain_told frame told) (list_all plain_one history) all

    by : (test : Bool) → list_all is_plain (served_in history session) ≡ true → list_all is_plain (if test then (frame, told) ∷ served_in history session else served_in history session) ≡ true
    by true rest = and_from (plain_told frame told) (list_all is_plain (served_in history session)) parts.0 rest
    by false rest = rest

runs_plain : (session : SessionId) (now : ℕ) (calls : List Call) (runs : List NoteRun) (happened : List Happened) → RunsAre session now calls (map run_of runs) happened → list_all plain_one happened ≡ true
runs_plain session now [] [] happened are = ap (list_all plain_one) are
runs_plain session now [] (run ∷ runs) happened are = absurd are
runs_plain session now (call ∷ calls) [] happened are = ap (list_all plain_one) are
runs_plain session now (call ∷ calls) (run ∷ runs) happened (x, more, (is, are)) = ap (list_all plain_one) is ∙ runs_plain session now calls runs more are

outside_plain : (old : Traced) (setting : Setting) (m n : Machine) (event : Event) (note : Note) (items left : List ServedItem) (happened : List Happened) (session : SessionId) → follow setting m event note items ≡ Some (n, left) → ServiceDid m event note items happened
    → session_outside old note ≡ session ∷ [] → list_all plain_one happened ≡ true
outside_plain old setting m n (event.Outside calls) (note.Outside (Some ran)) items left happened session e (runs, (is, are)) out = ap (list_all plain_one) is ∙ runs_plain (next_session m.server) m.tick calls ran.runs runs are
outside_plain old setting m n event (note.Outside (Some ran)) items left happened session e did out = absurd (let none : ⊥ = cc in none)
outside_plain old setting m n event note items left happened session e did out = absurd (let none : ⊥ = cc in none)

-- the session that was made outside is the next one
outside_is : (old : Traced) (note : Note) (session : SessionId) → among (session_outside old note) session ≡ true → session ≡ next_session old.machine.server
outside_is old (note.Outside (Some ran)) session is = by (or_cases (same_session session (next_session old.machine.server)) false is)
  where
    by : (same_session session (next_session old.machine.server) ≡ true) ⊎ (false ≡ true) → session ≡ next_session old.machine.server
    by (inl same) = same_session_is session (next_session old.machine.server) same
    by (inr never) = absurd (let none : ⊥ = cc in none)
outside_is old note session is = absurd (let none : ⊥ = cc in none)

-- it was not made before
next_unmade : (old : Traced) → is_made old (next_session old.machine.server) ≡ false
next_unmade old = by (is_made old (next_session old.machine.server)) refl
  where
    by : (test : Bool) → is_made old (next_session old.machine.server) ≡ test → is_made old (next_session old.machine.server) ≡ false
    by true is = absurd (made_before old.machine.server (next_session old.machine.server) is refl)
    by false is = is

abbrev pub PlainOutside : Seen → Traced → Type 0
PlainOutside seen t = (session : SessionId) → among t.outside session ≡ true → list_all is_plain (served_in seen.history session) ≡ true

module _ (before after : Seen) (old new : Traced) (event : Event) (note : Note) (items left : List ServedItem) (one : OneEvent before old event note items left after new) (inv : Orderly old) (later : Orderly new) (unmade : NoneUnmade before old)
    (was : PlainOutside before old) where
  before_plain : (session : SessionId) → among new.outside session ≡ true → list_all is_plain (served_in before.history session) ≡ true
  before_plain session is =
      by (or_cases (among old.outside session) (among (session_outside old note) session)
      (sym (list_any-append (same_session session) old.outside (session_outside old note)) ∙ (sym (ap (λ (sessions : List SessionId). list_any (same_session session) sessions) one.outside) ∙ is)))
    where
      by : (among old.outside session ≡ true) ⊎ (among (session_outside old note) session ≡ true) → list_all is_plain (served_in before.history session) ≡ true
      by (inl here) = was session here
      by (inr made) = ap (list_all is_plain) (ap (served_in before.history) (outside_is old note session made) ∙ unmade (next_session old.machine.server) (next_unmade old))

  apart : list_all (λ session. not (list_any (same_session session) new.outside)) (sessions_of new) ≡ true
  apart = (and_parts (each_pair (λ a b. not (same_session a b)) (sessions_of new)) _ later.basic.apart).1

  now_plain : (session : SessionId) → among new.outside session ≡ true → list_all is_plain (served_in one.happened session) ≡ true
  now_plain session is = by (event_adds before after old new event note items left one inv)
    where
      by : Adds old note new.machine.links one.happened → list_all is_plain (served_in one.happened session) ≡ true
      by (AddsFrame number front served at of_front happened turned) =
          let link = turned.there in
          let none : not (list_any (same_session served.session) new.outside) ≡ true = session_in (λ s. not (list_any (same_session s) new.outside)) new.machine.links number link.0 served.session link.1.0 link.1.1 apart in
          ap (λ (all : List Happened). list_all is_plain (served_in all session)) happened
          ∙ ap (list_all is_plain) (one_other served.session session old.machine.tick front.first.frame (front_telling front served) (λ same. not_both (among new.outside session) is (ap (among new.outside) (sym same) ∙ not-true (list_any (same_session served.session) new.outside) none)))
      by (AddsNone none alone) = of (none session)
        where
          of : (served_in one.happened session ≡ []) ⊎ ((session ≡ next_session old.machine.server) × (session_outside old note ≡ session ∷ [])) → list_all is_plain (served_in one.happened session) ≡ true
          of (inl empty) = ap (list_all is_plain) empty
          of (inr made) = in_plain one.happened session (outside_plain old old.setting old.machine new.machine event note items left one.happened session one.follows one.did made.1)

  plain_now : PlainOutside after new
  plain_now session is =
      ap (λ (history : List Happened). list_all is_plain (served_in history session)) one.history
      ∙ (ap (list_all is_plain) (served_more before.history one.happened session)
      ∙ (list_all-append is_plain (served_in before.history session) (served_in one.happened session)
      ∙ and_from (list_all is_plain (served_in before.history session)) (list_all is_plain (served_in one.happened session)) (before_plain session is) (now_plain session is)))

pub reached_plain : RunsAreOrderly → (document : Document) (events : List Event) (notes : List Note) (items : List ServedItem) (seen : Seen) (t : Traced) → all_requests_right document ≡ true → Reached document events notes items seen t → PlainOutside seen t
reached_plain orderly document _ _ _ _ _ calls (Begins seen start history horizon coupled) = λ session never. absurd (let none : ⊥ = cc in none)
reached_plain orderly document _ _ _ _ _ calls (GoesOn events notes items more before after old new event note reached one forgets) =
    plain_now before after old new event note more [] one (orderly document events notes items before old calls reached)
    (orderly document (events ++ event ∷ []) (notes ++ note ∷ []) (items ++ more) after new calls (GoesOn events notes items more before after old new event note reached one forgets))
    (reached_served orderly document events notes items before old calls reached).1 (reached_plain orderly document events notes items before old calls reached)
