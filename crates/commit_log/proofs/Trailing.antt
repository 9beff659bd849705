-- A log that ends behind the first records of a store.
use Rattle.std.proofs.Common.{◌≡◌, ℕ, ◌+◌, ◌||◌, Bool, false, List, [], ◌∷◌, ◌++◌, length, None, Vec, Global, refl, sym, ◌∙◌, ap, subst}
use Rattle.std.specs.Prelude.{IsTrue, Option, Some, IfSome, IfNone, Result, Ok, Err}
use Rattle.disk_model.specs.Moment.{MayLeave}
use Rattle.disk_model.specs.Disk.{DiskState, Meanwhile}
use Rattle.disk_model.proofs.Offered.{crash_now}
use Rattle.redo_store.specs.declared.redo.Redo.{Redo}
use Rattle.redo_store.specs.meaning.Records.{records_of, whole_records}
use Rattle.redo_store.specs.Records.{spelling_of, record_count}
use Rattle.redo_store.specs.Redo.{CanAppend, tail_of, count_of as count_of_store}
use Rattle.redo_store.specs.declared.walk.Walk.{Walk}
use Rattle.redo_store.specs.Walk.{HasRead, KeepsFront, StandsBehind, place_of, with_firsts}
use Rattle.redo_store.proofs.Offered.{keeps_itself}
use Rattle.commit_log.specs.declared.journal.Journal.{Journal}
use Rattle.commit_log.specs.declared.log.Log.{Log}
use Rattle.commit_log.specs.declared.records.Record.{Record}
use Rattle.commit_log.specs.meaning.Rules.{SoFar, Empty, Begun, is_opening, is_horizon, may_come, with_record}
use Rattle.commit_log.specs.meaning.Journals.{after_payload, journal_in, journal_of, judged, so_far_of, whole_record}
use Rattle.commit_log.specs.Logs.{HasBegun, HasReadOn, IsBehindBase, Trails, count_of}
use Rattle.commit_log.proofs.KeepingJournals.{unset_of}
use Rattle.commit_log.proofs.Fronts.{base_first, begun_of, comes, comes_true, halves, next_of, one_of}
use Rattle.commit_log.proofs.Steps.{HasRecords, judged-append, read_of, so_far_by_records}

-- ---- where its records end

module _ (is_opened has_horizon : Bool) (journal : Journal) (redo : Redo) (disk : DiskState) (ready : CanAppend redo disk) (so_far : so_far_of disk.now.seen ≡ Ok (Begun journal is_opened has_horizon)) where
  abbrev read : HasRecords disk.now.seen (Begun journal is_opened has_horizon)
  read = read_of disk.now.seen (Begun journal is_opened has_horizon) so_far

  -- a log that ends there, of an image in which the records stand so
  ends_there : (log : Log) (image : List ℕ) → tail_of log.redo ≡ tail_of redo → count_of_store log.redo ≡ count_of_store redo → KeepsFront (tail_of redo) disk.now.seen image → Trails is_opened has_horizon journal log image
  ends_there log image tail count keeps = record {
    done = read.records;
    stands = subst (λ (place : ℕ). StandsBehind place read.records image) (sym tail) (keeps read.records read.are);
    counted = count ∙ ready.counted ∙ ap record_count read.are;
    judges = read.judges;
  }

  pub trails_at_end : (log : Log) → log.redo ≡ redo → Trails is_opened has_horizon journal log disk.now.seen
  trails_at_end log same = ends_there log disk.now.seen (ap tail_of same) (ap count_of_store same) (keeps_itself redo.tail disk.now.seen ready.store)

  -- behind a stop, in whatever a crash leaves
  pub trails_then : (log : Log) (new : DiskState) → tail_of log.redo ≡ tail_of redo → count_of_store log.redo ≡ count_of_store redo → Meanwhile disk new (KeepsFront (tail_of redo) disk.now.seen)
      → (image : List ℕ) → MayLeave new.now image → Trails is_opened has_horizon journal log image
  trails_then log new tail count front image left =
      ends_there log image tail count
      (crash_now disk new (KeepsFront (tail_of redo) disk.now.seen) front
      (λ there here. subst (λ (l : List ℕ). KeepsFront (tail_of redo) disk.now.seen l) (sym (ready.settled there here)) (keeps_itself redo.tail disk.now.seen ready.store)) image left)

pub trails_begun : (is_opened has_horizon : Bool) (log : Log) (disk : DiskState) (begun : HasBegun is_opened has_horizon log disk) → Trails is_opened has_horizon begun.journal log disk.now.seen
trails_begun is_opened has_horizon log disk begun = trails_at_end is_opened has_horizon begun.journal log.redo disk begun.append begun.so_far log refl

-- ---- the record behind

-- it is one that may come next
pub record Came (is_opened has_horizon : Bool) (journal : Journal) (done : List (List ℕ)) (payload : List ℕ) : Type 0 where
  pub one : Record
  pub spells : whole_record payload ≡ Some one
  pub may : IsTrue (may_come journal is_opened has_horizon one)
  pub judges : judged Empty 8 (done ++ payload ∷ []) ≡ Ok (Begun (with_record journal one) (is_opened || is_opening one) (has_horizon || is_horizon one))

firsts_of : (first : List (List ℕ)) (rest : Result (List (List ℕ)) ℕ) (records : List (List ℕ)) → with_firsts first rest ≡ Ok records → (more : List (List ℕ)) × (records ≡ first ++ more)
firsts_of first (Ok more) records e = (more, cc)
firsts_of first (Err place) records e = absurd cc

module _ (is_opened has_horizon : Bool) (journal : Journal) (done : List (List ℕ)) (payload : List ℕ) (judges : judged Empty 8 done ≡ Ok (Begun journal is_opened has_horizon)) where
  abbrev here : SoFar
  here = Begun journal is_opened has_horizon

  came_by : (between : SoFar) → judged Empty 8 (done ++ payload ∷ []) ≡ Ok between → Came is_opened has_horizon journal done payload
  came_by between e =
      let place = 8 + length (spelling_of done) in
      let next = next_of (after_payload here payload) place (λ (s : SoFar). Ok s) between (sym (judged-append Empty here 8 done (payload ∷ []) judges) ∙ e) in
      let one = one_of here (whole_record payload) next.0 next.1 in
      let later : SoFar = Begun (with_record journal one.0) (is_opened || is_opening one.0) (has_horizon || is_horizon one.0) in
      let same : later ≡ next.0 = comes (may_come journal is_opened has_horizon one.0) later next.0 one.2 in
      record {
        one = one.0;
        spells = one.1;
        may = comes_true (may_come journal is_opened has_horizon one.0) later next.0 one.2;
        judges = e ∙ sym next.2 ∙ ap (λ (s : SoFar). Ok s) (sym same);
      }

  pub came_of : (place : ℕ) (image : List ℕ) (whole : SoFar) → StandsBehind place (done ++ payload ∷ []) image → so_far_of image ≡ Ok whole → Came is_opened has_horizon journal done payload
  came_of place image whole stands so_far =
      let read = read_of image whole so_far in
      let split = firsts_of (done ++ payload ∷ []) _ read.records (sym stands.records ∙ read.are) in
      let parts = halves Empty whole 8 (done ++ payload ∷ []) split.0 (ap (judged Empty 8) (sym split.1) ∙ read.judges) in
      came_by parts.0 parts.2

-- whichever the journal of an image is, its records are read
pub records_there : (image : List ℕ) (last : Journal) → journal_of image ≡ Ok last → (whole : SoFar) × (so_far_of image ≡ Ok whole)
records_there image last reads = let begun = begun_of (so_far_of image) last reads in (Begun last begun.0 begun.1, begun.2)

pub never_damaged_there : (image : List ℕ) (last : Journal) (place : ℕ) → journal_of image ≡ Ok last → records_of image ≡ Err place → ⊥
never_damaged_there image last place reads damaged =
    let there = records_there image last reads in
    let read = read_of image there.0 there.1 in
    let clash : ◌≡◌ {A = Result (List (List ℕ)) ℕ} (Err place) (Ok read.records) = sym damaged ∙ read.are in cc

-- a walk from the end of a log has gone over what the log has
pub walks_from : (place count : ℕ) (log : Log) (image : List ℕ) (walk : Walk) (done : List (List ℕ)) → ((over : List ℕ) (firsts : List (List ℕ)) → StandsBehind place firsts over → count ≡ length firsts → HasRead walk firsts over)
    → place ≡ tail_of log.redo → count ≡ count_of log → StandsBehind (tail_of log.redo) done image → count_of log ≡ length done → HasRead walk done image
walks_from place count log image walk done behind is_place is_count stands counted = behind image done (subst (λ (at : ℕ). StandsBehind at done image) (sym is_place) stands) (is_count ∙ counted)

pub read_on : (is_opened has_horizon : Bool) (journal : Journal) (old new : Log) (image : List ℕ) (trails : Trails is_opened has_horizon journal old image) (walk : Walk) (payload : List ℕ) (one : Record) (last : Journal) → journal_of image ≡ Ok last
    → HasRead walk (trails.done ++ payload ∷ []) image → tail_of new.redo ≡ place_of walk → count_of new ≡ walk.count → whole_record payload ≡ Some one → HasReadOn is_opened has_horizon journal one new image
read_on is_opened has_horizon journal old new image trails walk payload one last reads read tail count spelled =
    let there = records_there image last reads in
    let came = came_of is_opened has_horizon journal trails.done payload trails.judges walk.place image there.0 read.stands there.1 in
    let same : came.one ≡ one = (let both : ◌≡◌ {A = Option Record} (Some came.one) (Some one) = sym came.spells ∙ spelled in cc) in
    subst (λ (r : Record). HasReadOn is_opened has_horizon journal r new image) same
    (record {
      may = came.may;
      trails = record {
        done = trails.done ++ payload ∷ [];
        stands = subst (λ (at : ℕ). StandsBehind at (trails.done ++ payload ∷ []) image) (sym tail) read.stands;
        counted = count ∙ read.counted;
        judges = came.judges;
      };
    })

-- ---- the first record of a journal is its base

module _ (image : List ℕ) (last : Journal) (reads : journal_of image ≡ Ok last) where
  never_empty : records_of image ≡ Ok [] → ⊥
  never_empty none = let clash : ◌≡◌ {A = Result Journal ℕ} (Err 8) (Ok last) = sym (ap journal_in (so_far_by_records image [] none)) ∙ reads in cc

  behind_first : (walk : Walk) (payload : List ℕ) (log : Log) → HasRead walk (payload ∷ []) image → tail_of log.redo ≡ place_of walk → count_of log ≡ walk.count → IsBehindBase log image
  behind_first walk payload log read tail count =
      let there = records_there image last reads in
      let all = read_of image there.0 there.1 in
      let split = firsts_of (payload ∷ []) _ all.records (sym read.stands.records ∙ all.are) in
      let parts = halves Empty there.0 8 (payload ∷ []) split.0 (ap (judged Empty 8) (sym split.1) ∙ all.judges) in
      let next = next_of (after_payload Empty payload) 8 (λ (s : SoFar). Ok s) parts.0 parts.2 in
      let one = one_of Empty (whole_record payload) next.0 next.1 in
      let begins = base_first one.0 next.0 one.2 in
      record {
        base = begins.0;
        trails = record {
          done = payload ∷ [];
          stands = subst (λ (at : ℕ). StandsBehind at (payload ∷ []) image) (sym tail) read.stands;
          counted = count ∙ read.counted;
          judges = parts.2 ∙ sym next.2 ∙ ap (λ (s : SoFar). Ok s) (sym begins.1);
        };
      }

  pub behind_found : (found : Option (Vec ℕ Global)) (walk : Walk) (log : Log) → IfSome found (λ (payload : Vec ℕ Global). HasRead walk ([] ++ payload.items ∷ []) image)
      → IfNone found ((records_of image ≡ Ok []) × (whole_records image ≡ [])) → tail_of log.redo ≡ place_of walk → count_of log ≡ walk.count → IsBehindBase log image
  behind_found None walk log some none tail count = absurd (never_empty none.0)
  behind_found (Some payload) walk log some none tail count = behind_first walk payload.items log some tail count

-- a journal in which no horizon was stored has the horizon 0
pub trails_unset : (is_opened has_horizon : Bool) (journal : Journal) (log : Log) (image : List ℕ) → Trails is_opened has_horizon journal log image → has_horizon ≡ false → journal.horizon ≡ 0
trails_unset is_opened has_horizon journal log image trails = unset_of trails.done journal is_opened has_horizon trails.judges
