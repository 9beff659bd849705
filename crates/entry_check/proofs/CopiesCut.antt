-- The reports of a client, cut into the copies of its requests.
use Rattle.std.proofs.Common.{◌≡◌, ℕ, zero, suc, ◌+◌, ◌-◌, ◌≤◌, ◌<◌, List, [], ◌∷◌, length, Bool, true, false, cond, ◌&&◌, take, drop, get_or, refl, sym, ap, ◌∙◌, arith, add-one}
use Rattle.std.specs.Prelude.{slice_get}
use Rattle.std.specs.List.{list_all}
use Rattle.std.specs.Option.{option_map_or}
use Rattle.std.proofs.lemmas.List.{drop_more}
use Rattle.outage_schedule.specs.declared.document.Request.{Request}
use Rattle.outage_schedule.specs.declared.document.Client.{Client}
use Rattle.outage_schedule.specs.declared.request.RequestReport.{RequestReport}
use Rattle.run_clauses.specs.meaning.Copies.{Copies, is_repeated, with_copy, further_copies, copies_of, copies_by_client}
use Rattle.entry_check.specs.Copying.{copies_len}
use Rattle.entry_check.proofs.Spans.{drop_both}

-- the first copy, and those behind it
abbrev cut_at : ℕ → List RequestReport → List RequestReport × List RequestReport
cut_at n reports = (take n reports, drop n reports)

further_cut : (allowed : ℕ) (copy : RequestReport) (reports : List RequestReport)
    → (n : ℕ) → copies_len allowed (copy ∷ reports) ≡ suc n → further_copies allowed copy reports ≡ cut_at n reports
further_cut allowed copy [] n is = by n
  where
    by : (n : ℕ) → ([], []) ≡ cut_at n []
    by zero = refl
    by (suc n) = refl
further_cut allowed copy (report ∷ reports) n is = by (is_repeated allowed copy) refl (λ k long. further_cut (allowed - 1) report reports k long) n is
  where
    by : (b : Bool) → is_repeated allowed copy ≡ b
        → ((k : ℕ) → copies_len (allowed - 1) (report ∷ reports) ≡ suc k → further_copies (allowed - 1) report reports ≡ cut_at k reports)
        → (n : ℕ) → cond (is_repeated allowed copy) (suc (copies_len (allowed - 1) (report ∷ reports))) 1 ≡ suc n
        → with_copy (is_repeated allowed copy) report reports (further_copies (allowed - 1) report reports) ≡ cut_at n (report ∷ reports)
    by true again rest zero same = absurd (let more = one_more (is_repeated (allowed - 1) report) (copies_len (allowed - 1 - 1) reports) in
        let none : suc (copies_len (allowed - 1) (report ∷ reports)) ≡ 1 = sym (ap (λ b. cond b (suc (copies_len (allowed - 1) (report ∷ reports))) 1) again) ∙ same in omega (arith, more, none))
      where
        one_more : (b : Bool) (k : ℕ) → 1 ≤ cond b (suc k) 1
        one_more true k = omega arith
        one_more false k = omega arith
    by true again rest (suc n) same =
        let long : copies_len (allowed - 1) (report ∷ reports) ≡ suc n =
        let all : suc (copies_len (allowed - 1) (report ∷ reports)) ≡ suc (suc n) = sym (ap (λ b. cond b (suc (copies_len (allowed - 1) (report ∷ reports))) 1) again) ∙ same in omega (arith, all) in
        ap (λ b. with_copy b report reports (further_copies (allowed - 1) report reports)) again
        ∙ ap (with_copy true report reports) (rest n long)
    by false again rest zero same = ap (λ b. with_copy b report reports (further_copies (allowed - 1) report reports)) again
    by false again rest (suc n) same = absurd (let none : 1 ≡ suc (suc n) = sym (ap (λ b. cond b (suc (copies_len (allowed - 1) (report ∷ reports))) 1) again) ∙ same in omega (arith, none))

some_copy : (allowed : ℕ) (copy : RequestReport) (reports : List RequestReport) → (n : ℕ) × (copies_len allowed (copy ∷ reports) ≡ suc n)
some_copy allowed copy reports = by (is_repeated allowed copy) refl
  where
    by : (b : Bool) → is_repeated allowed copy ≡ b → (n : ℕ) × (cond (is_repeated allowed copy) (suc (copies_len (allowed - 1) reports)) 1 ≡ suc n)
    by true is = (copies_len (allowed - 1) reports, ap (λ b. cond b (suc (copies_len (allowed - 1) reports)) 1) is)
    by false is = (0, ap (λ b. cond b (suc (copies_len (allowed - 1) reports)) 1) is)

abbrev copies_at : Request → ℕ → List RequestReport → Copies
copies_at request n reports = record { request = request; reports = take n reports }

-- the first request has the first reports, and the others have those behind them
pub copies_cut : (request : Request) (requests : List Request) (reports : List RequestReport)
    → copies_of (request ∷ requests) reports
    ≡ copies_at request (copies_len request.again reports) reports ∷ copies_of requests (drop (copies_len request.again reports) reports)
copies_cut request requests [] = refl
copies_cut request requests (first ∷ reports) =
    let found = some_copy request.again first reports in
    let n = found.0 in
    let cut = further_cut request.again first reports n found.1 in
    ap (λ (pair : List RequestReport × List RequestReport). record { request = request; reports = first ∷ pair.0 } ∷ copies_of requests pair.1) cut
    ∙ sym (ap (λ k. copies_at request k (first ∷ reports) ∷ copies_of requests (drop k (first ∷ reports))) found.1)

pub copies_within : (allowed : ℕ) (reports : List RequestReport) → copies_len allowed reports ≤ length reports
copies_within allowed [] = omega arith
copies_within allowed (copy ∷ copies) = by (is_repeated allowed copy) (copies_within (allowed - 1) copies)
  where
    by : (b : Bool) → copies_len (allowed - 1) copies ≤ length copies → cond b (suc (copies_len (allowed - 1) copies)) 1 ≤ suc (length copies)
    by true most = omega (arith, most)
    by false most = omega arith

-- ---- clients

abbrev reports_in : List (List RequestReport) → ℕ → List RequestReport
reports_in transcripts place = option_map_or (λ reports. reports) (slice_get transcripts place) []

first_client : (client : Client) (clients : List Client) (transcripts : List (List RequestReport)) (place : ℕ)
    → copies_by_client (client ∷ clients) (drop place transcripts) ≡ copies_of client.requests (reports_in transcripts place) ∷ copies_by_client clients (drop (suc place) transcripts)
first_client client clients [] zero = refl
first_client client clients [] (suc place) = refl
first_client client clients (transcript ∷ transcripts) zero = refl
first_client client clients (transcript ∷ transcripts) (suc place) = first_client client clients transcripts place

pub client_cut : (clients : List Client) (transcripts : List (List RequestReport)) (place : ℕ) (client : Client) → place < length clients → client ≡ get_or clients place client
    → copies_by_client (drop place clients) (drop place transcripts) ≡ copies_of client.requests (reports_in transcripts place) ∷ copies_by_client (drop (place + 1) clients) (drop (place + 1) transcripts)
client_cut clients transcripts place client within is =
    ap (λ (left : List Client). copies_by_client left (drop place transcripts)) (drop_more clients place client within ∙ ap (λ (one : Client). one ∷ drop (place + 1) clients) (sym is))
    ∙ first_client client (drop (place + 1) clients) transcripts place
    ∙ ap (λ k. copies_of client.requests (reports_in transcripts place) ∷ copies_by_client (drop (place + 1) clients) (drop k transcripts)) (sym (add-one place))

-- a step over a script, from the place of the next report on
pub script_step : (p : Copies → Bool) (script : List Request) (reports : List RequestReport) (i from n : ℕ) (request : Request) → i < length script → request ≡ get_or script i request
    → n ≡ copies_len request.again (drop from reports)
    → list_all p (copies_of (drop i script) (drop from reports))
    ≡ (p (copies_at request n (drop from reports)) && list_all p (copies_of (drop (i + 1) script) (drop (from + n) reports)))
script_step p script reports i from n request within is long =
    let left = drop (i + 1) script in
    let rest = drop from reports in
    let m = copies_len request.again rest in
    ap (λ (requests : List Request). list_all p (copies_of requests rest)) (drop_more script i request within ∙ ap (λ (one : Request). one ∷ left) (sym is))
    ∙ ap (list_all p) (copies_cut request left rest)
    ∙ sym (ap (λ k. p (copies_at request k rest) && list_all p (copies_of left (drop k rest))) long)
    ∙ ap (λ (later : List RequestReport). p (copies_at request n rest) && list_all p (copies_of left later)) (drop_both from n reports)

-- a step over the clients
pub clients_step : (p : Copies → Bool) (clients : List Client) (transcripts : List (List RequestReport)) (place : ℕ) (client : Client) → place < length clients → client ≡ get_or clients place client
    → (script : List Request) → script ≡ client.requests → (reports : List RequestReport) → reports ≡ reports_in transcripts place
    → list_all (list_all p) (copies_by_client (drop place clients) (drop place transcripts))
    ≡ (list_all p (copies_of script reports) && list_all (list_all p) (copies_by_client (drop (place + 1) clients) (drop (place + 1) transcripts)))
clients_step p clients transcripts place client within is script are reports told =
    ap (list_all (list_all p)) (client_cut clients transcripts place client within is)
    ∙ sym (ap (λ (rs : List Request). list_all p (copies_of rs reports) && list_all (list_all p) (copies_by_client (drop (place + 1) clients) (drop (place + 1) transcripts))) are
    ∙ ap (λ (rs : List RequestReport). list_all p (copies_of client.requests rs) && list_all (list_all p) (copies_by_client (drop (place + 1) clients) (drop (place + 1) transcripts))) told)
