-- The horizon that the openings of a run raise, note by note.
use Rattle.std.proofs.Common.{◌≡◌, refl, sym, ap, ◌∙◌, append_assoc, append-nil, arith, ℕ, ◌+◌, ◌≤◌, ◌<◌, fold, List, [], ◌∷◌, ◌++◌, length, map, Some, None}
use Rattle.std.specs.Prelude.{max, nat_lt, filter}
use Rattle.std.proofs.lemmas.Bool.{lt-ltb, le-ltb}
use Rattle.outage_schedule.specs.declared.document.Document.{Document}
use Rattle.outage_schedule.specs.declared.note.Note.{Note}
use Rattle.outage_schedule.specs.declared.note.Note.TheVariants as notes
use Rattle.outage_schedule.specs.declared.report.Report.{Report}
use Rattle.run_clauses.specs.meaning.Before.{journal_before}
use Rattle.run_clauses.specs.meaning.Horizons.{Openings, Wanted, after_note, wanted_horizon, wanted_at, wanted_from, raised, horizon_at, last_horizon}
use Rattle.world_model.specs.Forgets.{openings_of, first_of, wanted_behind}

abbrev all_raised : ℕ → List Wanted → ℕ
all_raised image all = fold max image (map (λ (one : Wanted). one.horizon) all)

-- what the openings of these notes have raised it to
abbrev pub raised_by : Document → List Note → ℕ
raised_by document notes = all_raised (journal_before document).horizon (wanted_from document.service.retention 1 (first_of document) notes)

-- ONE NOTE MORE -----------------------------------------------------------------------------------

-- an opening raises it to what is wanted, where that is greater
abbrev pub raised_at : ℕ → ℕ → Note → ℕ
raised_at before wanted (notes.Up (Some incarnation)) = max before wanted
raised_at before wanted _ = before

raised_once : (retention event before : ℕ) (told : Openings) (note : Note) → all_raised before (wanted_at retention event told note) ≡ raised_at before (wanted_horizon retention told) note
raised_once retention event before told (notes.Up (Some incarnation)) = refl
raised_once retention event before told (notes.Up None) = refl
raised_once retention event before told note = refl

raised_append : (image : ℕ) (all more : List Wanted) → all_raised image (all ++ more) ≡ all_raised (all_raised image all) more
raised_append image [] more = refl
raised_append image (one ∷ all) more = raised_append (max image one.horizon) all more

wanted_more : (retention event : ℕ) (told : Openings) (before : List Note) (note : Note)
    → (number : ℕ) × (wanted_from retention event told (before ++ note ∷ []) ≡ wanted_from retention event told before ++ wanted_at retention number (openings_of told before) note)
wanted_more retention event told [] note = (event, append-nil (wanted_at retention event told note))
wanted_more retention event told (one ∷ before) note =
    let more = wanted_more retention (event + 1) (after_note told one) before note in (
      more.0,
      ap (λ (all : List Wanted). wanted_at retention event told one ++ all) more.1
          ∙ sym (append_assoc (wanted_at retention event told one) (wanted_from retention (event + 1) (after_note told one) before) (wanted_at retention more.0 (openings_of (after_note told one) before) note)),
    )

pub raised_more : (document : Document) (before : List Note) (note : Note) → raised_by document (before ++ note ∷ []) ≡ raised_at (raised_by document before) (wanted_behind document before) note
raised_more document before note =
    let more = wanted_more document.service.retention 1 (first_of document) before note in
    ap (all_raised (journal_before document).horizon) more.1
    ∙ raised_append (journal_before document).horizon (wanted_from document.service.retention 1 (first_of document) before) (wanted_at document.service.retention more.0 (openings_of (first_of document) before) note)
    ∙ raised_once document.service.retention more.0 (raised_by document before) (openings_of (first_of document) before) note

-- BEFORE AN EVENT ---------------------------------------------------------------------------------

before_limit : (retention event limit : ℕ) (told : Openings) (note : Note) (all : List Wanted) → event < limit
    → filter (λ one. nat_lt one.event limit) (wanted_at retention event told note ++ all) ≡ wanted_at retention event told note ++ filter (λ one. nat_lt one.event limit) all
before_limit retention event limit told (notes.Up (Some incarnation)) all less = rw (lt-ltb event limit less) refl
before_limit retention event limit told (notes.Up None) all less = refl
before_limit retention event limit told note all less = refl

past_limit : (retention event limit : ℕ) (told : Openings) (note : Note) (all : List Wanted) → limit ≤ event
    → filter (λ one. nat_lt one.event limit) (wanted_at retention event told note ++ all) ≡ filter (λ one. nat_lt one.event limit) all
past_limit retention event limit told (notes.Up (Some incarnation)) all past = rw (le-ltb event limit past) refl
past_limit retention event limit told (notes.Up None) all past = refl
past_limit retention event limit told note all past = refl

none_before : (retention event limit : ℕ) (told : Openings) (others : List Note) → limit ≤ event → filter (λ one. nat_lt one.event limit) (wanted_from retention event told others) ≡ []
none_before retention event limit told [] past = refl
none_before retention event limit told (note ∷ others) past =
    past_limit retention event limit told note (wanted_from retention (event + 1) (after_note told note) others) past
    ∙ none_before retention (event + 1) limit (after_note told note) others (omega (arith, past))

-- those of the first notes alone
first_before : (retention event limit : ℕ) (told : Openings) (all others : List Note) → event + length all ≡ limit
    → filter (λ one. nat_lt one.event limit) (wanted_from retention event told (all ++ others)) ≡ wanted_from retention event told all
first_before retention event limit told [] others same = none_before retention event limit told others (omega (arith, same))
first_before retention event limit told (note ∷ all) others same =
    before_limit retention event limit told note (wanted_from retention (event + 1) (after_note told note) (all ++ others)) (omega (arith, same))
    ∙ ap (λ (wanted : List Wanted). wanted_at retention event told note ++ wanted) (first_before retention (event + 1) limit (after_note told note) all others (omega (arith, same)))

pub raised_so_far : (document : Document) (report : Report) (all others : List Note) → report.notes ≡ all ++ others → horizon_at document report (length all + 1) ≡ raised_by document all
raised_so_far document report all others same =
    ap (λ (every : List Note). raised (journal_before document).horizon (wanted_from document.service.retention 1 (first_of document) every) (length all + 1)) same
    ∙ ap (all_raised (journal_before document).horizon) (first_before document.service.retention 1 (length all + 1) (first_of document) all others (omega arith))

pub last_raised : (document : Document) (report : Report) → last_horizon document report ≡ raised_by document report.notes
last_raised document report = raised_so_far document report report.notes [] (sym (append-nil report.notes))
