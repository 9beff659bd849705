-- Of Once: an entry of the run is completed where the call that committed it has no statement, and
-- one of the image is of no connection's session, at the start and behind each event.
use Rattle.std.proofs.Common.{◌≡◌, refl, sym, ap, ◌∙◌, Bool, true, false, ℕ, ◌+◌, ◌||◌, ◌&&◌, length, List, [], ◌∷◌, ◌++◌, take, drop, append_assoc, arith}
use Rattle.std.specs.List.{list_all, list_any}
use Rattle.std.proofs.Math.Seq.{take-append_seam}
use Rattle.std.proofs.lemmas.Bool.{and_parts, and_from, not_from_false, not-true}
use Rattle.std.proofs.lemmas.Bool.Decides.{nat_tests}
use Rattle.std.proofs.lemmas.List.Folds.{list_all-append}
use Rattle.svc_values.specs.declared.entry.Entry.{Entry}
use Rattle.svc_values.specs.declared.entry.SessionId.{SessionId}
use Rattle.svc_values.specs.meaning.Identifiers.{same_session, session_of}
use Rattle.outage_schedule.specs.declared.document.Document.{Document}
use Rattle.outage_schedule.specs.declared.event.Event.{Event}
use Rattle.outage_schedule.specs.declared.item.Served.{Served}
use Rattle.outage_schedule.specs.declared.note.Note.{Note}
use Rattle.server_model.specs.Seen.{Seen}
use Rattle.world_model.specs.records.Basic.{sessions_of}
use Rattle.world_model.specs.Orderly.{Orderly}
use Rattle.invariant_laws.specs.KeptLaws.{IsKeptOfAll}
use Rattle.world_model.specs.records.Number.{is_known, is_of_run}
use Rattle.invariant_laws.specs.Once.{is_foreign, is_completed_rightly, completed_rightly}
use Rattle.world_model.specs.OneEvent.{OneEvent}
use Rattle.world_model.specs.Reached.{traced_start}
use Rattle.world_model.specs.Traced.{Traced}
use Rattle.world_model.proofs.Offered.{weaker_all, Census, next_of, CensusGrows as Grows, CensusStands as Stands, Connects, Outside, Reopens, Inserted, Here, There, any_links, grown, known_in, known_sessions_none_later as none_later}
use Rattle.invariant_laws.proofs.entries.EntriesMade.{gained_right}
use Rattle.invariant_laws.proofs.losses.LostKept.{both_all}

-- a session that is known is no new one
known_differs : (incarnation count : ℕ) (session : SessionId) → known_in incarnation count session ≡ true → same_session session (record { incarnation = incarnation; session = count + 1 }) ≡ false
known_differs incarnation count session known = grind (arith, nat_tests)

inserted_back : (session next : SessionId) (xs ys : List SessionId) → Inserted next xs ys → same_session session next ≡ false → list_any (same_session session) xs ≡ false → list_any (same_session session) ys ≡ false
inserted_back session next xs _ (Here _) differs none = ap (λ (test : Bool). test || list_any (same_session session) xs) differs ∙ none
inserted_back session next _ _ (There y xs ys more) differs none = by (same_session session y) none (inserted_back session next xs ys more differs)
  where
    by : (test : Bool) → (test || list_any (same_session session) xs) ≡ false → (list_any (same_session session) xs ≡ false → list_any (same_session session) ys ≡ false) → (test || list_any (same_session session) ys) ≡ false
    by true none again = absurd (let never : true ≡ false = none in let none : ⊥ = cc in none)
    by false none again = again none

grows_none : (a b : Census) → Grows a b → (session : SessionId) → known_in a.incarnation a.count session ≡ true → list_any (same_session session) a.here ≡ false → list_any (same_session session) b.here ≡ false
grows_none a _ Stands session known none = none
grows_none a _ (Connects here more) session known none = inserted_back session (next_of a) a.here here more (known_differs a.incarnation a.count session known) none
grows_none a _ Outside session known none = none
grows_none a _ (Reopens incarnation below) session known none = none

module _ (before after : Seen) (old new : Traced) (event : Event) (note : Note) (items left : List Served) (one : OneEvent before old event note items left after new) (inv : Orderly old) where
  pub still_foreign : (entry : Entry) → (is_known old (session_of entry.ltxid) && is_foreign old entry) ≡ true → is_foreign new entry ≡ true
  still_foreign entry both =
      let session : SessionId = session_of entry.ltxid in
      let parts = and_parts (is_known old session) (is_foreign old entry) both in
      let was : list_any (same_session session) (sessions_of old) ≡ false = sym (any_links session old.machine.links) ∙ not-true _ parts.1 in
      not_from_false _ (any_links session new.machine.links ∙ grows_none _ _ (grown before after old new event note items left one inv) session parts.0 was)

  abbrev image : List Entry
  image = before.start.entries

  image_before : take old.image old.entries ≡ image
  image_before = ap (λ (n : ℕ). take n old.entries) one.coupled_before.image ∙ (ap (take (length image)) (one.coupled_before.entries ∙ one.coupled_before.history.entries) ∙ take-append_seam image one.coupled_before.history.server.core.entries)

  same_image : take new.image new.entries ≡ take old.image old.entries
  same_image =
      ap (λ (n : ℕ). take n new.entries) (one.image ∙ one.coupled_before.image) ∙ (ap (take (length image)) (one.entries ∙ (ap (λ (all : List Entry). all ++ one.more_entries) (one.coupled_before.entries ∙ one.coupled_before.history.entries)
      ∙ append_assoc image one.coupled_before.history.server.core.entries one.more_entries)) ∙ (take-append_seam image (one.coupled_before.history.server.core.entries ++ one.more_entries) ∙ sym image_before))

  image_known : list_all (λ entry. is_known old (session_of entry.ltxid)) (take old.image old.entries) ≡ true
  image_known =
      let all = (and_parts (list_all (λ entry. is_known old (session_of entry.ltxid)) old.entries) (list_all (is_of_run old) (drop old.image old.entries)) inv.number.known).0 in
      ap (list_all (λ entry. is_known old (session_of entry.ltxid))) image_before
      ∙ (and_parts (list_all (λ entry. is_known old (session_of entry.ltxid)) image) (list_all (λ entry. is_known old (session_of entry.ltxid)) one.coupled_before.history.server.core.entries)
      (sym (list_all-append (λ (entry : Entry). is_known old (session_of entry.ltxid)) image one.coupled_before.history.server.core.entries)
      ∙ (sym (ap (list_all (λ entry. is_known old (session_of entry.ltxid))) (one.coupled_before.entries ∙ one.coupled_before.history.entries)) ∙ all))).0

  pub foreign_still : list_all (is_foreign old) (take old.image old.entries) ≡ true → list_all (is_foreign new) (take new.image new.entries) ≡ true
  foreign_still all =
      ap (list_all (is_foreign new)) same_image
      ∙ weaker_all (λ entry. is_known old (session_of entry.ltxid) && is_foreign old entry) (is_foreign new) (take old.image old.entries) still_foreign (both_all (λ entry. is_known old (session_of entry.ltxid)) (is_foreign old) (take old.image old.entries) image_known all)

none_foreign : (document : Document) (entries : List Entry) → list_all (is_foreign (traced_start document)) entries ≡ true
none_foreign document [] = refl
none_foreign document (entry ∷ entries) = none_foreign document entries

pub completed_law : IsKeptOfAll completed_rightly
completed_law = record {
  at_start = λ document.
      let t : Traced = traced_start document in
      and_from (list_all (is_foreign t) (take t.image t.entries)) (list_all is_completed_rightly (drop t.image t.entries)) (none_foreign document (take t.image t.entries)) (none_later is_completed_rightly t.entries);
  at_event = λ before after old new event note items left one inv.
      and_from (list_all (is_foreign new) (take new.image new.entries)) (list_all is_completed_rightly (drop new.image new.entries))
      (foreign_still before after old new event note items left one inv.orderly (and_parts (list_all (is_foreign old) (take old.image old.entries)) (list_all is_completed_rightly (drop old.image old.entries)) inv.once.completed).0)
      (gained_right after new one.coupled_after);
}
