-- The parts of all clients, one client after the other.
use Rattle.std.proofs.Common.{◌≡◌, refl, sym, ap, ◌∙◌, append_assoc, ℕ, zero, suc, ◌+◌, ◌<◌, length, get_or, take, drop, List, [], ◌∷◌, ◌++◌, map, Option, option_map, add-one}
use Rattle.std.specs.Prelude.{slice_get, flat_map}
use Rattle.std.specs.Option.{option_map_or}
use Rattle.std.proofs.lemmas.List.{drop_more, map_push, take_more}
use Rattle.svc_values.specs.declared.draw.Draw.{Draw}
use Rattle.outage_schedule.specs.declared.document.Client.{Client}
use Rattle.outage_schedule.specs.declared.request.RequestReport.{RequestReport}
use Rattle.run_clauses.specs.meaning.Copies.{copies_of, copies_by_client}
use Rattle.shown_clauses.specs.meaning.KeptDraws.{parts_from}
use Rattle.shown_clauses.specs.meaning.Parts.{Part, parts_of}
use Rattle.shown_clauses.specs.meaning.Steps.{Step, steps_of}
use Rattle.shown_clauses.specs.meaning.Submissions.{Submission, submissions_of}
use Rattle.report_story.specs.declared.line.Repeated.{Repeated as RepeatedAt}
use Rattle.report_story.specs.Brought.{brought}
use Rattle.report_story.specs.Views.{repeated_as}

abbrev pub submissions_in : List Client → List (List RequestReport) → List (List Submission)
submissions_in clients transcripts = map (flat_map submissions_of) (copies_by_client clients transcripts)

abbrev reports_in : List (List RequestReport) → ℕ → List RequestReport
reports_in transcripts place = option_map_or (λ reports. reports) (slice_get transcripts place) []

client_first : (client : Client) (clients : List Client) (transcripts : List (List RequestReport)) (place : ℕ)
    → submissions_in (client ∷ clients) (drop place transcripts) ≡ flat_map submissions_of (copies_of client.requests (reports_in transcripts place)) ∷ submissions_in clients (drop (suc place) transcripts)
client_first client clients [] zero = refl
client_first client clients [] (suc place) = refl
client_first client clients (transcript ∷ transcripts) zero = refl
client_first client clients (transcript ∷ transcripts) (suc place) = client_first client clients transcripts place

pub client_next : (all : List Step) (clients : List Client) (transcripts : List (List RequestReport)) (place number : ℕ) (client : Client) (reports : List RequestReport) (before after : List Part)
    → place < length clients → client ≡ get_or clients place client → number ≡ place + 1 → reports ≡ reports_in transcripts place
    → after ≡ before ++ parts_of (flat_map submissions_of (copies_of client.requests reports)) (steps_of number all)
    → after ++ parts_from (place + 1 + 1) all (submissions_in (drop (place + 1) clients) (drop (place + 1) transcripts))
    ≡ before ++ parts_from (place + 1) all (submissions_in (drop place clients) (drop place transcripts))
client_next all clients transcripts place number client reports before after within is number_is reports_is after_is =
    let later = parts_from (place + 1 + 1) all (submissions_in (drop (place + 1) clients) (drop (place + 1) transcripts)) in
    let mine = flat_map submissions_of (copies_of client.requests (reports_in transcripts place)) in
    ap (λ (parts : List Part). parts ++ later) after_is
    ∙ ((λ i. (before ++ parts_of (flat_map submissions_of (copies_of client.requests (reports_is i))) (steps_of (number_is i) all)) ++ later)
    ∙ (append_assoc before (parts_of mine (steps_of (place + 1) all)) later
    ∙ (ap (λ n. before ++ (parts_of mine (steps_of (place + 1) all) ++ parts_from (place + 1 + 1) all (submissions_in (drop (place + 1) clients) (drop n transcripts)))) (add-one place)
    ∙ sym (ap (λ (left : List Client). before ++ parts_from (place + 1) all (submissions_in left (drop place transcripts))) (drop_more clients place client within ∙ ap (λ (one : Client). one ∷ drop (place + 1) clients) (sym is))
    ∙ ap (λ (lists : List (List Submission)). before ++ parts_from (place + 1) all lists) (client_first client (drop (place + 1) clients) transcripts place)))))

-- what one item more brings
pub brought_more : (parts : List Part) (all : List (Option RepeatedAt)) (i : ℕ) (one : Option RepeatedAt) (lists more : List (List Draw)) (draws : List Draw)
    → i < length all → one ≡ get_or all i one → lists ≡ map (brought parts) (map (option_map repeated_as) (take i all))
    → draws ≡ brought parts (option_map repeated_as one) → more ≡ lists ++ draws ∷ []
    → more ≡ map (brought parts) (map (option_map repeated_as) (take (i + 1) all))
brought_more parts all i one lists more draws within is lists_are draws_are more_is =
    let seen : List (Option RepeatedAt) → List (List Draw) = λ some. map (brought parts) (map (option_map repeated_as) some) in
    more_is
    ∙ ((λ j. lists_are j ++ draws_are j ∷ [])
    ∙ sym (ap seen (take_more all i one within ∙ ap (λ (x : Option RepeatedAt). take i all ++ x ∷ []) (sym is))
    ∙ (ap (map (brought parts)) (map_push (option_map repeated_as) (take i all) one)
    ∙ map_push (brought parts) (map (option_map repeated_as) (take i all)) (option_map repeated_as one))))
