-- No connection is told twice, so that the one of a session is the one of its number.
use Rattle.std.proofs.Common.{◌≡◌, ◌≢◌, refl, sym, ap, subst, ◌∙◌, Bool, true, false, ℕ, List, [], ◌∷◌, map, fold, Option, Some, None, if◌then◌else◌}
use Rattle.std.specs.Prelude.{◌==◌, not}
use Rattle.std.proofs.lemmas.Bool.{and_parts, and_from}
use Rattle.svc_values.specs.declared.entry.SessionId.{SessionId}
use Rattle.svc_values.specs.SameLaws.{same_session_decides}
use Rattle.outage_schedule.specs.declared.item.Item.{Item}
use Rattle.outage_schedule.specs.declared.item.Item.TheVariants as item
use Rattle.outage_schedule.specs.declared.item.Served.{Served}
use Rattle.outage_schedule.specs.declared.note.GoNote.{GoNote}
use Rattle.outage_schedule.specs.declared.note.GoNote.TheVariants as go
use Rattle.outage_schedule.specs.declared.note.Note.{Note}
use Rattle.outage_schedule.specs.declared.note.Note.TheVariants as note
use Rattle.shown_clauses.specs.meaning.Fronts.{first_of, changed_if, with_changed}
use Rattle.shown_clauses.specs.meaning.Happenings.{Happening}
use Rattle.shown_clauses.specs.meaning.Links.{Link, Seen, is_link, has_session, link_of, new_link, connected, served_on, stopped_connected, stopped_on, end_link, end_session, turn_begun, call_served, in_turn, acquire, linked, after_item, take_reply, after_go, after_note, after_happening}
use Rattle.world_model.specs.meaning.Links.{Link as Connection, link_at}
use Rattle.world_model.specs.Sames.{all_with, each_pair}
use Rattle.shown_laws.specs.Connections.{TellsAt, NoLink, Unnamed, Named, FoundBySession}
use Rattle.shown_laws.proofs.links.ConnectionsTold.{AllTold, takes_kept}
use Rattle.shown_laws.proofs.links.ItemsTold.{AreApart}
use Rattle.shown_laws.proofs.events.Lookups.{eq_from, eq_to, ne_to}
use Rattle.shown_laws.proofs.links.SeenLists.{KeepsNumber, first_is, new_own}

abbrev numbers : List Link → List ℕ
numbers told = map (λ one. one.connection) told

abbrev differs : ℕ → ℕ → Bool
differs a b = not (a == b)

abbrev pub ToldOnce : List Link → Type 0
ToldOnce told = each_pair differs (numbers told) ≡ true

-- NUMBERS -----------------------------------------------------------------------------------------

changed_numbers : (test : Link → Bool) (change : Link → Link) → KeepsNumber change → (told : List Link) → numbers (with_changed test change told) ≡ numbers told
changed_numbers test change keeps [] = refl
changed_numbers test change keeps (one ∷ told) = λ i. by (test one) i ∷ changed_numbers test change keeps told i
  where
    by : (met : Bool) → (changed_if met change one).connection ≡ one.connection
    by true = keeps one
    by false = refl

mapped_numbers : (change : Link → Link) → KeepsNumber change → (told : List Link) → numbers (map change told) ≡ numbers told
mapped_numbers change keeps [] = refl
mapped_numbers change keeps (one ∷ told) = λ i. keeps one i ∷ mapped_numbers change keeps told i

once_as : (a b : List Link) → numbers b ≡ numbers a → ToldOnce a → ToldOnce b
once_as a b same once = ap (each_pair differs) same ∙ once

changed_once : (test : Link → Bool) (change : Link → Link) → KeepsNumber change → (told : List Link) → ToldOnce told → ToldOnce (with_changed test change told)
changed_once test change keeps told once = once_as told (with_changed test change told) (changed_numbers test change keeps told) once

-- one that is not told has a number of its own
not_among : (number : ℕ) (told : List Link) → link_of number told ≡ None → all_with (differs number) (numbers told) ≡ true
not_among number [] none = refl
not_among number (one ∷ told) none = by (is_link number one) refl (sym (first_is (is_link number) (is_link number one) one told) ∙ none) (not_among number told)
  where
    by : (met : Bool) → is_link number one ≡ met → (if met then Some one else link_of number told) ≡ None → (link_of number told ≡ None → all_with (differs number) (numbers told) ≡ true) → all_with (differs number) (one.connection ∷ numbers told) ≡ true
    by true is none rest = absurd (let no : ⊥ = cc in no)
    by false is none rest =
        and_from (not (number == one.connection)) (all_with (differs number) (numbers told))
        (ap not (ne_to number one.connection (λ same. let yes : (one.connection == number) ≡ true = eq_to one.connection number (sym same) in let no : ⊥ = cc in no))) (rest none)

new_once : (one : Link) (told : List Link) → link_of one.connection told ≡ None → ToldOnce told → ToldOnce (one ∷ told)
new_once one told none once = and_from (all_with (differs one.connection) (numbers told)) (each_pair differs (numbers told)) (not_among one.connection told none) once

-- EVENTS ------------------------------------------------------------------------------------------

connected_once : (number : ℕ) (served : Served) (told : List Link) (found : Option Link) → link_of number told ≡ found → ToldOnce told → ToldOnce (connected number served found told)
connected_once number served told None is once = new_once (new_link number served.session (served ∷ [])) told is once
connected_once number served told (Some one) is once = changed_once (is_link number) _ (λ one. refl) told once

stopped_once : (number : ℕ) (served : Served) (told : List Link) (found : Option Link) → link_of number told ≡ found → ToldOnce told → ToldOnce (stopped_connected number served found told)
stopped_once number served told None is once = new_once (new_link number served.session []) told is once
stopped_once number served told (Some one) is once = once

served_once : (number : ℕ) (served : Served) (one : Item) (told : List Link) → ToldOnce told → ToldOnce (served_on number served one told)
served_once number served item.Connect told once = connected_once number served told (link_of number told) refl once
served_once number served (item.Call replay call answers draws) told once = changed_once (is_link number) _ (λ one. refl) told once
served_once number served (item.Blocked call) told once = changed_once (is_link number) _ (λ one. refl) told once
served_once number served (item.Outcome x result) told once = changed_once (is_link number) _ (λ one. refl) told once
served_once number served (item.Refused cause) told once = changed_once (is_link number) _ (λ one. refl) told once
served_once number served (item.Begin settings) told once = once
served_once number served item.End told once = once
served_once number served item.Close told once = once
served_once number served (item.CrashedCall replay call) told once = once
served_once number served (item.CrashedOutcome x) told once = once

crashed_once : (number : ℕ) (served : Served) (one : Item) (told : List Link) → ToldOnce told → ToldOnce (stopped_on number served one told)
crashed_once number served item.Connect told once = stopped_once number served told (link_of number told) refl once
crashed_once number served (item.Call replay call answers draws) told once = once
crashed_once number served (item.Blocked call) told once = once
crashed_once number served (item.Outcome x result) told once = once
crashed_once number served (item.Refused cause) told once = once
crashed_once number served (item.Begin settings) told once = once
crashed_once number served item.End told once = once
crashed_once number served item.Close told once = once
crashed_once number served (item.CrashedCall replay call) told once = once
crashed_once number served (item.CrashedOutcome x) told once = once

linked_once : (noted : Note) (told : List Link) (served : Served) → ToldOnce told → ToldOnce (linked noted told served)
linked_once (note.Serve connection (Some frame)) told served once = served_once connection served served.item told once
linked_once (note.Serve connection None) told served once = once
linked_once (note.Crash connection false) told served once = crashed_once connection served served.item told once
linked_once (note.Crash connection true) told served once = once
linked_once noted told served once = once

turn_once : (session : SessionId) (one : Item) (told : List Link) → ToldOnce told → ToldOnce (in_turn session one told)
turn_once session (item.Begin settings) told once = changed_once (has_session session) turn_begun (λ one. refl) told once
turn_once session (item.Call replay call answers draws) told once = changed_once (has_session session) (call_served replay call) (λ one. refl) told once
turn_once session (item.Blocked call) told once = changed_once (has_session session) (call_served false call) (λ one. refl) told once
turn_once session (item.CrashedCall replay call) told once = changed_once (has_session session) (call_served replay call) (λ one. refl) told once
turn_once session one told once = once

end_once : (event : ℕ) (session : SessionId) (one : Item) (told : List Link) → ToldOnce told → ToldOnce (end_session event session one told)
end_once event session (item.Blocked call) told once = changed_once (has_session session) (end_link event) (λ one. refl) told once
end_once event session (item.Refused cause) told once = changed_once (has_session session) (end_link event) (λ one. refl) told once
end_once event session one told once = once

items_once : (event : ℕ) (noted : Note) (items : List Served) (seen : Seen) → ToldOnce seen.links → ToldOnce (fold (after_item event noted) seen items).links
items_once event noted [] seen once = once
items_once event noted (served ∷ items) seen once =
    items_once event noted items (after_item event noted seen served)
    (end_once event served.session served.item (in_turn served.session served.item (linked noted seen.links served))
    (turn_once served.session served.item (linked noted seen.links served) (linked_once noted seen.links served once)))

go_once : (client event : ℕ) (did : GoNote) (told : List Link) → ToldOnce told → ToldOnce (after_go client event did told)
go_once client event (go.Lent connection) told once = changed_once (is_link connection) (acquire client event) (λ one. refl) told once
go_once client event (go.Took connection sent) told once = changed_once (is_link connection) (take_reply client event) (takes_kept client event) told once
go_once client event did told once = once

note_once : (event : ℕ) (noted : Note) (told : List Link) → ToldOnce told → ToldOnce (after_note event noted told)
note_once event (note.Go client did) told once = go_once client event did told once
note_once event (note.Cut connection (Some reached)) told once = changed_once (is_link connection) (end_link event) (λ one. refl) told once
note_once event (note.Crash connection false) told once = once_as told (map (end_link event) told) (mapped_numbers (end_link event) (λ one. refl) told) once
note_once event noted told once = once

-- None is told twice behind an event, if none was before it.
pub still_once : (happening : Happening) (seen : Seen) → ToldOnce seen.links → ToldOnce (after_happening seen happening).links
still_once happening seen once =
    note_once happening.event happening.noted (fold (after_item happening.event happening.noted) seen happening.items).links (items_once happening.event happening.noted happening.items seen once)

-- BY SESSION --------------------------------------------------------------------------------------

-- one that is found has another number than one that is not among them
other_number : (number mine : ℕ) (told : List Link) (one : Link) → link_of number told ≡ Some one → all_with (differs mine) (numbers told) ≡ true → mine ≢ number
other_number number mine [] one is all same = let no : ⊥ = cc in no
other_number number mine (first ∷ told) one is all same =
    let parts = and_parts (not (mine == first.connection)) (all_with (differs mine) (numbers told)) all in
    by (is_link number first) refl (sym (first_is (is_link number) (is_link number first) first told) ∙ is) parts.0 (λ rest. other_number number mine told one rest parts.1 same)
  where
    by : (met : Bool) → is_link number first ≡ met → (if met then Some first else link_of number told) ≡ Some one → not (mine == first.connection) ≡ true → (link_of number told ≡ Some one → ⊥) → ⊥
    by true here is apart rest =
        let yes : (mine == first.connection) ≡ true = eq_to mine first.connection (same ∙ sym (eq_from first.connection number here)) in
        let no : ⊥ = cc in
        no
    by false here is apart rest = rest is

-- The one that meets a test is the first that does, where no other does.
lone_first : (test : Link → Bool) (told : List Link) (number : ℕ) (one : Link) → ToldOnce told → link_of number told ≡ Some one → test one ≡ true
    → ((other : ℕ) (link : Link) → link_of other told ≡ Some link → test link ≡ true → link ≡ one) → first_of test told ≡ Some one
lone_first test [] number one once is met lone = absurd (let no : ⊥ = cc in no)
lone_first test (first ∷ told) number one once is met lone =
    first_is test (test first) first told
    ∙ by (test first) refl (is_link number first) refl (sym (first_is (is_link number) (is_link number first) first told) ∙ is)
    (λ rest. lone_first test told number one parts.1 rest met (λ other link at meets. lone other link (further other link at) meets))
  where
    parts : (all_with (differs first.connection) (numbers told) ≡ true) × (each_pair differs (numbers told) ≡ true)
    parts = and_parts (all_with (differs first.connection) (numbers told)) (each_pair differs (numbers told)) once

    further : (other : ℕ) (link : Link) → link_of other told ≡ Some link → link_of other (first ∷ told) ≡ Some link
    further other link at =
        first_is (is_link other) (is_link other first) first told
        ∙ (ap (λ (test : Bool). if test then Some first else link_of other told) (ne_to first.connection other (other_number other first.connection told link at parts.0)) ∙ at)

    by : (mine : Bool) → test first ≡ mine → (here : Bool) → is_link number first ≡ here → (if here then Some first else link_of number told) ≡ Some one → (link_of number told ≡ Some one → first_of test told ≡ Some one)
        → (if mine then Some first else first_of test told) ≡ Some one
    by true mine here at is rest = ap Some (lone first.connection first (new_own first.connection first told refl) mine)
    by false mine false at is rest = rest is
    by false mine true at is rest =
        let same : first ≡ one = cc in
        let yes : test first ≡ true = subst (λ (l : Link). test l ≡ true) (sym same) met in
        absurd (let no : ⊥ = cc in no)

pub session_told : (number : ℕ) (found : Option Connection) (one : Option Link) (link : Link) → TellsAt number found one → one ≡ Some link → (own : Connection) × ((found ≡ Some own) × (own.session ≡ Some link.session))
session_told number _ _ link NoLink is = absurd (let no : ⊥ = cc in no)
session_told number _ _ link (Unnamed own here) is = absurd (let no : ⊥ = cc in no)
session_told number _ _ link (Named own seen here) is = let same : seen ≡ link = cc in (own, (refl, here.session ∙ ap (λ (l : Link). Some l.session) same))

-- A connection that is found by its number is found by its session, since sessions differ.
pub found_by_session : (links : List Connection) (told : List Link) → AllTold links told → ToldOnce told → AreApart links → FoundBySession told
found_by_session links told all once apart number one is =
    lone_first (has_session one.session) told number one once is ((same_session_decides one.session one.session).1 refl) alone
  where
    alone : (other : ℕ) (link : Link) → link_of other told ≡ Some link → has_session one.session link ≡ true → link ≡ one
    alone other link at meets =
        let same : link.session ≡ one.session = (same_session_decides link.session one.session).0 meets in
        let mine = session_told number (link_at links number) (link_of number told) one (all number) is in
        let its = session_told other (link_at links other) (link_of other told) link (all other) at in
        let equal : number ≡ other = apart number other mine.0 its.0 one.session mine.1.0 its.1.0 mine.1.1 (its.1.1 ∙ ap Some same) in
        let both : Some link ≡ Some one = sym at ∙ (ap (λ (k : ℕ). link_of k told) (sym equal) ∙ is) in
        let it : link ≡ one = cc in
        it
