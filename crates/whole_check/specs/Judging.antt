-- The lines of `Whole`, by how many entries of a session were stored up to an event.
use Rattle.std.specs.Prelude.{ℕ, ◌+◌, ◌&&◌, Bool, true, List, [], ◌∷◌, length}
use Rattle.std.specs.List.{list_all}
use Rattle.svc_values.specs.declared.entry.SessionId.{SessionId}
use Rattle.svc_values.specs.meaning.Identifiers.{same_ltxid}
use Rattle.run_clauses.specs.meaning.Copies.{shows_script}
use Rattle.shown_clauses.specs.meaning.Links.{Turn}
use Rattle.shown_clauses.specs.meaning.Steps.{Step, steps_of}
use Rattle.shown_clauses.specs.meaning.Submissions.{Submission}
use Rattle.shown_clauses.specs.meaning.Parts.{Part, parts_of, left_of, has_its_sessions}
use Rattle.shown_clauses.specs.meaning.Showings.{Shown, shown_calls, has_its_showings, calls_served}
use Rattle.shown_clauses.specs.meaning.Turns.{Owned, turns_right, turns_of, has_request, has_client}
use Rattle.shown_clauses.specs.meaning.Whole.{are_taken}

-- all calls of its script were shown, or it failed and fewer were
abbrev pub shows_own : Submission → Bool
shows_own one = shows_script one.request one.copy

-- the identifier shown is that of its session with as many entries
abbrev pub has_number : (SessionId → ℕ → ℕ) → Shown → Bool
has_number numbers one =
    same_ltxid one.shown.ltxid (record {
      incarnation = one.showing.session.incarnation;
      session = one.showing.session.session;
      number = numbers one.showing.session one.showing.event;
    })

-- the lines on the shown calls of a part
abbrev pub are_calls_right : (SessionId → ℕ → ℕ) → Part → Bool
are_calls_right numbers part = has_its_showings part
    && (calls_served part && list_all (has_number numbers) (shown_calls part))

-- all lines of a part, with the turns of its client
abbrev pub is_part_right : (SessionId → ℕ → ℕ) → List Owned → Part → Bool
is_part_right numbers mine part = has_its_sessions part
    && (are_calls_right numbers part && turns_right mine part)

-- of a client, and of the clients from this one on
abbrev pub is_client_right : (SessionId → ℕ → ℕ) → List Step → List Turn → ℕ → List Submission
    → Bool
is_client_right numbers steps turns client submissions =
    let mine : List Step = steps_of client steps in
    let its : List Owned = turns_of client turns in
    list_all (has_request (left_of submissions mine)) its
    && list_all (is_part_right numbers its) (parts_of submissions mine)

abbrev pub are_clients_right : (SessionId → ℕ → ℕ) → List Step → List Turn → ℕ
    → List (List Submission) → Bool
are_clients_right numbers steps turns client [] = true
are_clients_right numbers steps turns client (submissions ∷ more) =
    is_client_right numbers steps turns client submissions
    && are_clients_right numbers steps turns (client + 1) more

-- of all clients
abbrev pub is_told_right : (SessionId → ℕ → ℕ) → List Step → List Turn → List (List Submission)
    → Bool
is_told_right numbers steps turns submissions =
    are_taken steps && (list_all (has_client (length submissions)) turns
    && are_clients_right numbers steps turns 1 submissions)
