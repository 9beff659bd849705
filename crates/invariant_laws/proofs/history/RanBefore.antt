-- No entry of the time before a run is of the session of one of its connections.
use Rattle.std.proofs.Common.{◌≡◌, refl, sym, ap, subst, ◌∙◌, Bool, true, false, not, ℕ, List, [], ◌∷◌, length, filter, cond, Some, None}
use Rattle.std.specs.List.{list_all}
use Rattle.std.proofs.lemmas.Bool.{and_parts, not_from_false}
use Rattle.std.proofs.lemmas.List.Folds.{list_all-append}
use Rattle.svc_values.specs.declared.entry.Entry.{Entry}
use Rattle.svc_values.specs.declared.entry.SessionId.{SessionId}
use Rattle.svc_values.specs.meaning.Identifiers.{session_of}
use Rattle.outage_schedule.specs.declared.document.Document.{Document}
use Rattle.outage_schedule.specs.declared.event.Event.{Event}
use Rattle.outage_schedule.specs.declared.item.Served.{Served}
use Rattle.outage_schedule.specs.declared.note.Note.{Note}
use Rattle.server_model.specs.Seen.{Seen}
use Rattle.server_model.specs.meaning.Walk.{number_of}
use Rattle.world_model.specs.records.Hold.{is_connect}
use Rattle.world_model.specs.Orderly.{Orderly}
use Rattle.world_model.specs.meaning.Links.{Link, link_at}
use Rattle.world_model.specs.meaning.Machines.{next_session}
use Rattle.world_model.specs.records.Number.{is_known, is_of_run}
use Rattle.world_model.specs.OneEvent.{OneEvent}
use Rattle.world_model.specs.Reached.{Reached, Begins, GoesOn}
use Rattle.world_model.specs.records.Ready.{all_requests_right}
use Rattle.world_model.specs.RunLaws.{RunsAreOrderly}
use Rattle.world_model.specs.meaning.Serving.{Front, front_at, is_of_front}
use Rattle.world_model.specs.Traced.{Traced}
use Rattle.world_model.proofs.Offered.{front_is, weaker_all, at_event, other_session, serving, same_some, known_before, connect_session}
use Rattle.invariant_laws.proofs.history.RanLists.{is_its}
use Rattle.invariant_laws.proofs.history.SessionLists.{apart_sessions}
use Rattle.invariant_laws.proofs.history.SessionRuns.{none_at}
use Rattle.invariant_laws.proofs.history.SessionTurns.{IsAlike, ComesOf, AtFront, Elsewhere, Alone, Unnamed, Alike, Adds, AddsFrame, AddsNone, event_adds}

-- none of these entries is the session's
abbrev pub HasNoEntry : List Entry → SessionId → Type 0
HasNoEntry entries session = list_all (λ entry. not (is_its session entry)) entries ≡ true

pub counts_none : (entries : List Entry) (session : SessionId) → HasNoEntry entries session → number_of entries session ≡ 0
counts_none [] session none = refl
counts_none (entry ∷ entries) session none = by (is_its session entry) parts.0 (counts_none entries session parts.1)
  where
    parts : (not (is_its session entry) ≡ true) × (list_all (λ one. not (is_its session one)) entries ≡ true)
    parts = and_parts (not (is_its session entry)) (list_all (λ one. not (is_its session one)) entries) none

    by : (test : Bool) → not test ≡ true → length (filter (is_its session) entries) ≡ 0 → length (cond test (entry ∷ filter (is_its session) entries) (filter (is_its session) entries)) ≡ 0
    by true never rest = absurd (let none : ⊥ = cc in none)
    by false not_own rest = rest

abbrev NoneBefore : Seen → Traced → Type 0
NoneBefore seen t = (number : ℕ) (link : Link) (session : SessionId) → link_at t.machine.links number ≡ Some link → link.session ≡ Some session → HasNoEntry seen.start.entries session

module _ (before after : Seen) (old new : Traced) (event : Event) (note : Note) (items left : List Served) (one : OneEvent before old event note items left after new) (inv : Orderly old) (was : NoneBefore before old) where
  -- the session that is made next has no entry at all
  next_none : HasNoEntry before.start.entries (next_session old.machine.server)
  next_none =
      let known = (and_parts (list_all (λ entry. is_known old (session_of entry.ltxid)) old.entries) (list_all (is_of_run old) _) inv.number.known).0 in
      let none : HasNoEntry old.entries (next_session old.machine.server) =
      weaker_all (λ entry. is_known old (session_of entry.ltxid)) (λ entry. not (is_its (next_session old.machine.server) entry)) old.entries
      (λ entry is. not_from_false (is_its (next_session old.machine.server) entry)
      (apart_sessions (session_of entry.ltxid) (next_session old.machine.server) (known_before old.machine.server (session_of entry.ltxid) is))) known in
      let all = one.coupled_before.entries ∙ one.coupled_before.history.entries in
      (and_parts (list_all (λ entry. not (is_its (next_session old.machine.server) entry)) before.start.entries) _
      (sym (list_all-append (λ (entry : Entry). not (is_its (next_session old.machine.server) entry)) before.start.entries one.coupled_before.history.server.core.entries)
      ∙ subst (λ (entries : List Entry). HasNoEntry entries (next_session old.machine.server)) all none)).0

  front_none : (number : ℕ) (front : Front) (served : Served) → front_at old.machine.links number ≡ Some front → is_of_front (at_event old.machine) front served ≡ true → (connects : Bool) → is_connect front.first.frame ≡ connects
      → HasNoEntry before.start.entries served.session
  front_none number front served at of_front true connects =
      subst (HasNoEntry before.start.entries) (sym (connect_session old.machine.server front.link front.first.frame served.session connects (serving (at_event old.machine) front served of_front))) next_none
  front_none number front served at of_front false connects =
      was number front.link served.session (front_is old.machine.links number front at).there
      (other_session old.machine.server front.link front.first.frame served.session connects (serving (at_event old.machine) front served of_front))

  none_now : NoneBefore after new
  none_now number link session here its = subst (λ (entries : List Entry). HasNoEntry entries session) (ap (λ (base : _). base.entries) (sym one.start)) (by (event_adds before after old new event note items left one inv))
    where
      alike_none : (found : Link) → link_at old.machine.links number ≡ Some found → IsAlike found link → HasNoEntry before.start.entries session
      alike_none found there alike = was number found session there (sym alike.session ∙ its)

      by_front : (at : ℕ) (front : Front) (served : Served) → front_at old.machine.links at ≡ Some front → is_of_front (at_event old.machine) front served ≡ true → ComesOf old.machine.links at front served number link
          → HasNoEntry before.start.entries session
      by_front at front served is of_front (AtFront same more) =
          let mine : served.session ≡ session = same_some served.session session (sym more.session ∙ its) in
          subst (HasNoEntry before.start.entries) mine (front_none at front served is of_front (is_connect front.first.frame) refl)
      by_front at front served is of_front (Elsewhere differ found there alike) = alike_none found there alike

      by_alone : Alone old.machine.links number link → HasNoEntry before.start.entries session
      by_alone (Unnamed unnamed) = absurd (let both : None ≡ Some session = sym unnamed ∙ its in let never : ⊥ = cc in never)
      by_alone (Alike found there alike) = alike_none found there alike

      by : Adds old note new.machine.links one.happened → HasNoEntry before.start.entries session
      by (AddsFrame at front served is of_front happened turned) = by_front at front served is of_front (turned.all number link here)
      by (AddsNone none alone) = by_alone (alone number link here)

pub none_before : RunsAreOrderly → (document : Document) (events : List Event) (notes : List Note) (items : List Served) (seen : Seen) (t : Traced) → all_requests_right document ≡ true → Reached document events notes items seen t → NoneBefore seen t
none_before orderly document _ _ _ _ _ calls (Begins seen start history horizon coupled) = λ number link session there its. none_at number link there
none_before orderly document _ _ _ _ _ calls (GoesOn events notes items more before after old new event note reached one forgets) =
    none_now before after old new event note more [] one (orderly document events notes items before old calls reached) (none_before orderly document events notes items before old calls reached)
