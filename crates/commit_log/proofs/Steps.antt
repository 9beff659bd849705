-- How far a journal has come, by its records and after one more.
use Rattle.std.proofs.Common.{◌≡◌, ℕ, ◌+◌, List, [], ◌∷◌, ◌++◌, length, drop, Option, Some, None, refl, sym, ◌∙◌, ap, arith, append_assoc, append-nil}
use Rattle.std.specs.Prelude.{Result, Ok, Err, option_and_then}
use Rattle.redo_store.specs.declared.walk.Walk.{Walk}
use Rattle.redo_store.specs.meaning.Records.{records_of, whole_records, whole_from}
use Rattle.redo_store.specs.Records.{spelling_of, with_last}
use Rattle.redo_store.specs.Walk.{HasRead}
use Rattle.redo_store.proofs.Offered.{length-spelling_of, whole_of_read}
use Rattle.commit_log.specs.declared.records.Record.{Record}
use Rattle.commit_log.specs.meaning.RecordBytes.{record_at}
use Rattle.commit_log.specs.RecordBytes.{spell_record, FitsRecord, record_again}
use Rattle.commit_log.specs.meaning.Rules.{SoFar, Empty, after}
use Rattle.commit_log.specs.meaning.Journals.{if_whole, whole_record, after_payload, if_next, judged, with_gates, so_far_of}
use Rattle.commit_log.specs.Adding.{HasAlso}

-- ---- records judged after others

chosen : (o : Option SoFar) (place : ℕ) (on on' : SoFar → Result SoFar ℕ) (last : SoFar) (r : Result SoFar ℕ)
    → ((next : SoFar) → on next ≡ Ok last → on' next ≡ r) → if_next o place on ≡ Ok last → if_next o place on' ≡ r
chosen None place on on' last r later e = absurd cc
chosen (Some next) place on on' last r later e = later next e

pub judged-append : (so_far last : SoFar) (place : ℕ) (first rest : List (List ℕ)) → judged so_far place first ≡ Ok last → judged so_far place (first ++ rest) ≡ judged last (place + length (spelling_of first)) rest
judged-append so_far last place [] rest e =
    let same : so_far ≡ last = cc in
    ap (λ (s : SoFar). judged s place rest) same ∙ ap (λ n. judged last n rest) (omega arith)
judged-append so_far last place (payload ∷ first) rest e =
    let behind = place + 9 + length payload in
    chosen (after_payload so_far payload) place (λ next. judged next behind first) (λ next. judged next behind (first ++ rest)) last (judged last (place + length (spelling_of (payload ∷ first))) rest)
    (λ next whole. judged-append next last behind first rest whole ∙ ap (λ n. judged last n rest) (omega (arith, length-spelling_of payload first)))
    e

-- one more, last
pub judged_push : (done : List (List ℕ)) (payload : List ℕ) (so_far next : SoFar) → judged Empty 8 done ≡ Ok so_far → after_payload so_far payload ≡ Some next → judged Empty 8 (done ++ payload ∷ []) ≡ Ok next
judged_push done payload so_far next judges may =
    judged-append Empty so_far 8 done (payload ∷ []) judges ∙ ap (λ (o : Option SoFar). if_next o (8 + length (spelling_of done)) (λ (p : SoFar). Ok p)) may

-- ---- an image, by its records

gates_closed : (r : Result SoFar ℕ) (records : List (List ℕ)) → with_gates r (Ok records) ≡ r
gates_closed (Ok so_far) records = refl
gates_closed (Err place) records = refl

pub so_far_by_records : (image : List ℕ) (records : List (List ℕ)) → records_of image ≡ Ok records → so_far_of image ≡ judged Empty 8 records
unfolding so_far_of
so_far_by_records image records e =
    ap (with_gates (judged Empty 8 (whole_records image))) e
    ∙ gates_closed (judged Empty 8 (whole_records image)) records
    ∙ ap (judged Empty 8) (whole_of_read image records e)

-- the records of an image whose journal is read
pub record HasRecords (image : List ℕ) (so_far : SoFar) : Type 0 where
  pub records : List (List ℕ)
  pub are : records_of image ≡ Ok records
  pub judges : judged Empty 8 records ≡ Ok so_far

never_damaged : (r : Result SoFar ℕ) (so_far : SoFar) (place : ℕ) → with_gates r (Err place) ≡ Ok so_far → ⊥
never_damaged (Ok other) so_far place e = cc
never_damaged (Err at) so_far place e = cc

read_by : (image : List ℕ) (so_far : SoFar) (records : Result (List (List ℕ)) ℕ) → records_of image ≡ records → with_gates (judged Empty 8 (whole_records image)) records ≡ Ok so_far → HasRecords image so_far
read_by image so_far (Ok records) is e = record {
  records = records;
  are = is;
  judges = sym (ap (judged Empty 8) (whole_of_read image records is)) ∙ sym (gates_closed (judged Empty 8 (whole_records image)) records) ∙ e;
}
read_by image so_far (Err place) is e = absurd (never_damaged (judged Empty 8 (whole_records image)) so_far place e)

pub read_of : (image : List ℕ) (so_far : SoFar) → so_far_of image ≡ Ok so_far → HasRecords image so_far
unfolding so_far_of
read_of image so_far e = read_by image so_far (records_of image) refl e

-- records that may come next, and behind them a gate that is damaged
pub damaged_gate : (image : List ℕ) (done : List (List ℕ)) (so_far : SoFar) (place : ℕ) → judged Empty 8 done ≡ Ok so_far → whole_records image ≡ done → records_of image ≡ Err place → so_far_of image ≡ Err place
unfolding so_far_of
damaged_gate image done so_far place judges whole e =
    ap (λ (l : List (List ℕ)). with_gates (judged Empty 8 l) (records_of image)) whole
    ∙ ap (λ (r : Result SoFar ℕ). with_gates r (records_of image)) judges
    ∙ ap (with_gates (Ok so_far)) e

-- and a record that may not come next
pub damaged_record : (image : List ℕ) (done : List (List ℕ)) (payload : List ℕ) (walk : Walk) (so_far : SoFar) (place : ℕ)
    → judged Empty 8 done ≡ Ok so_far → HasRead walk (done ++ payload ∷ []) image → after_payload so_far payload ≡ None → place ≡ 8 + length (spelling_of done) → so_far_of image ≡ Err place
unfolding so_far_of
damaged_record image done payload walk so_far place judges read misplaced at =
    let behind : List (List ℕ) = whole_from 0 (drop walk.place image) in
    let here : ℕ = 8 + length (spelling_of done) in
    let on : SoFar → Result SoFar ℕ = λ next. judged next (here + 9 + length payload) behind in
    ap (λ (l : List (List ℕ)). with_gates (judged Empty 8 l) (records_of image)) (read.stands.whole ∙ append_assoc done (payload ∷ []) behind)
    ∙ ap (λ (r : Result SoFar ℕ). with_gates r (records_of image)) (judged-append Empty so_far 8 done (payload ∷ behind) judges ∙ ap (λ (o : Option SoFar). if_next o here on) misplaced)
    ∙ ap (λ (n : ℕ). Err n) (sym at)

-- ---- one record more

pub read_back : (one : Record) → FitsRecord one → whole_record (spell_record one) ≡ Some one
read_back one fits = ap (λ (l : List ℕ). if_whole (record_at l)) (sym (append-nil (spell_record one))) ∙ ap if_whole (record_again one [] fits)

pub so_far_after : (old image : List ℕ) (one : Record) (so_far next : SoFar) → so_far_of old ≡ Ok so_far → after so_far one ≡ Some next → HasAlso old one image → so_far_of image ≡ Ok next
so_far_after old image one so_far next begun may also =
    let read = read_of old so_far begun in
    so_far_by_records image (read.records ++ spell_record one ∷ []) (also.records ∙ ap (with_last (spell_record one)) read.are)
    ∙ judged-append Empty so_far 8 read.records (spell_record one ∷ []) read.judges
    ∙ ap (λ (o : Option SoFar). if_next o (8 + length (spelling_of read.records)) (λ (p : SoFar). Ok p)) (ap (option_and_then (after so_far)) (read_back one also.fits) ∙ may)

pub so_far_stays : (old image : List ℕ) (so_far : SoFar) → so_far_of old ≡ Ok so_far → records_of image ≡ records_of old → so_far_of image ≡ Ok so_far
so_far_stays old image so_far begun same =
    let read = read_of old so_far begun in
    so_far_by_records image read.records (same ∙ read.are) ∙ read.judges
