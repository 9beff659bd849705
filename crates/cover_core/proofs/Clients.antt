-- The counts of a run, one client after the other.
use Rattle.std.proofs.Common.{◌≡◌, ℕ, zero, suc, ◌+◌, ◌<◌, ◌≤◌, List, [], ◌∷◌, ◌++◌, length, drop, get_or, refl, sym, ap, ◌∙◌, append-nil, append_assoc, add-one}
use Rattle.std.specs.Prelude.{slice_get}
use Rattle.std.specs.Option.{option_map_or}
use Rattle.std.proofs.lemmas.List.{drop_all, drop_more}
use Rattle.outage_schedule.specs.declared.document.ServiceOf.{ServiceOf}
use Rattle.outage_schedule.specs.declared.document.Client.{Client}
use Rattle.outage_schedule.specs.declared.request.RequestReport.{RequestReport}
use Rattle.shown_clauses.specs.meaning.Cover.{Counts}
use Rattle.cover_core.specs.Walks.{client_cover, clients_cover}

-- the reports at a place, and none past the end
abbrev pub reports_in : List (List RequestReport) → ℕ → List RequestReport
reports_in transcripts place = option_map_or (λ reports. reports) (slice_get transcripts place) []

get_first : {A : Type 0} (items : List A) (place : ℕ)
    → slice_get (drop place items) 0 ≡ slice_get items place
get_first [] zero = refl
get_first [] (suc place) = refl
get_first (a ∷ items) zero = refl
get_first (a ∷ items) (suc place) = get_first items place

drop_one : {A : Type 0} (items : List A) (place : ℕ)
    → drop 1 (drop place items) ≡ drop (suc place) items
drop_one [] zero = refl
drop_one [] (suc place) = refl
drop_one (a ∷ items) zero = refl
drop_one (a ∷ items) (suc place) = drop_one items place

module _ (service : ServiceOf) where
  first_client : (client : Client) (clients : List Client) (transcripts : List (List RequestReport))
      → clients_cover service (client ∷ clients) transcripts ≡ client_cover service client.requests (reports_in transcripts 0) ∷ clients_cover service clients (drop 1 transcripts)
  first_client client clients [] = refl
  first_client client clients (reports ∷ transcripts) = refl

  module _ (clients : List Client) (transcripts : List (List RequestReport)) (place : ℕ) where
    abbrev left : List (List Counts)
    left = clients_cover service (drop place clients) (drop place transcripts)

    -- one client more
    pub client_more : (client : Client) (so_far : List (List Counts)) → place < length clients
        → client ≡ get_or clients place client
        → (so_far ++ client_cover service client.requests (reports_in transcripts place) ∷ []) ++ clients_cover service (drop (place + 1) clients) (drop (place + 1) transcripts) ≡ so_far ++ left
    client_more client so_far within is =
        let one : List Counts = client_cover service client.requests (reports_in transcripts place) in
        let rest : List (List Counts) = clients_cover service (drop (place + 1) clients) (drop (place + 1) transcripts) in
        append_assoc so_far (one ∷ []) rest
        ∙ ap (λ all. so_far ++ all) (sym (
        ap (λ all. clients_cover service all (drop place transcripts)) (drop_more clients place client within ∙ ap (λ (one : Client). one ∷ drop (place + 1) clients) (sym is))
        ∙ (first_client client (drop (place + 1) clients) (drop place transcripts)
        ∙ (ap (λ found. client_cover service client.requests (option_map_or (λ reports. reports) found []) ∷ clients_cover service (drop (place + 1) clients) (drop 1 (drop place transcripts))) (get_first transcripts place)
        ∙ ap (λ all. one ∷ clients_cover service (drop (place + 1) clients) all) (drop_one transcripts place ∙ ap (λ n. drop n transcripts) (sym (add-one place)))))))

    -- no client is left
    pub none_left : (so_far : List (List Counts)) → length clients ≤ place
        → so_far ++ left ≡ so_far
    none_left so_far all = ap (λ clients. so_far ++ clients_cover service clients (drop place transcripts)) (drop_all place clients all) ∙ append-nil so_far
