-- Records that are appended one behind another.
use Rattle.std.proofs.Common.{◌≡◌, inl, inr, ◌∙◌, ◌+◌, ◌*◌, ◌<◌, ◌≤◌, ℕ, refl, sym, ap, subst, List, [], ◌∷◌, ◌++◌, length, map, take, drop, get_or, Vec, Global, append_assoc, append-nil, arith}
use Rattle.std.proofs.lemmas.List.{take-append-drop, take-map, take_all, take_more}
use Rattle.std.specs.Prelude.{Option, Some, None, Result, Ok, Err}
use Rattle.disk_model.specs.Moment.{MayLeave}
use Rattle.disk_model.specs.Disk.{Caused, DiskState, Lowered, LoweredByLess, Meanwhile}
use Rattle.disk_model.proofs.Offered.{caused_by_none, caused_then, crash_now, lowered_by_less, lowered_by_less_then, lowered_then}
use Rattle.redo_store.specs.declared.redo.Redo.{Redo}
use Rattle.redo_store.specs.Records.{with_last}
use Rattle.redo_store.specs.Redo.{CanAppend}
use Rattle.redo_store.specs.Store.{IsOldOrNew}
use Rattle.redo_store.specs.meaning.Records.{records_of}
use Rattle.standby_ship.specs.Shipped.{HasSomeLasts, with_lasts}

-- the bytes of each
abbrev pub items_of : List (Vec ℕ Global) → List (List ℕ)
items_of payloads = map (λ payload. payload.items) payloads

pub with_none : (r : Result (List (List ℕ)) ℕ) → with_lasts [] r ≡ r
with_none (Ok records) = ap (λ (l : List (List ℕ)). Ok l) (append-nil records)
with_none (Err place) = refl

-- one more behind those
pub with_more : (some : List (List ℕ)) (payload : List ℕ) (r : Result (List (List ℕ)) ℕ) → with_last payload (with_lasts some r) ≡ with_lasts (some ++ payload ∷ []) r
with_more some payload (Ok records) = ap (λ (l : List (List ℕ)). Ok l) (append_assoc records some (payload ∷ []))
with_more some payload (Err place) = refl

pub so_many : (payloads : List (Vec ℕ Global)) (count : ℕ) (payload : Vec ℕ Global) → count < length payloads → payload ≡ get_or payloads count payload → items_of (take (count + 1) payloads) ≡ items_of (take count payloads) ++ payload.items ∷ []
so_many payloads count payload within is =
    ap items_of (take_more payloads count payload within)
    ∙ map_more (take count payloads) (get_or payloads count payload)
    ∙ ap (λ (p : Vec ℕ Global). items_of (take count payloads) ++ p.items ∷ []) (sym is)
  where
    map_more : (front : List (Vec ℕ Global)) (one : Vec ℕ Global) → items_of (front ++ one ∷ []) ≡ items_of front ++ one.items ∷ []
    map_more [] one = refl
    map_more (other ∷ front) one = ap (λ (l : List (List ℕ)). other.items ∷ l) (map_more front one)

-- one more was appended
pub appended_more : (payloads : List (Vec ℕ Global)) (count : ℕ) (payload : Vec ℕ Global) (old at new : List ℕ) → count < length payloads → payload ≡ get_or payloads count payload → records_of at ≡ with_lasts (items_of (take count payloads)) (records_of old)
    → records_of new ≡ with_last payload.items (records_of at) → records_of new ≡ with_lasts (items_of (take (count + 1) payloads)) (records_of old)
appended_more payloads count payload old at new within is before added =
    added ∙ ap (with_last payload.items) before ∙ with_more (items_of (take count payloads)) payload.items (records_of old) ∙ ap (λ (l : List (List ℕ)). with_lasts l (records_of old)) (sym (so_many payloads count payload within is))

-- so many of them stand there
pub has_some : (payloads : List (Vec ℕ Global)) (count : ℕ) (old image : List ℕ) → records_of image ≡ with_lasts (items_of (take count payloads)) (records_of old) → HasSomeLasts (items_of payloads) old image
has_some payloads count old image are = record {
  some = items_of (take count payloads);
  more = drop count (items_of payloads);
  split = sym (ap (λ (l : List (List ℕ)). l ++ drop count (items_of payloads)) (sym (take-map (λ (payload : Vec ℕ Global). payload.items) count payloads)) ∙ take-append-drop count (items_of payloads));
  records = are;
}

-- or one more
pub has_some_or_more : (payloads : List (Vec ℕ Global)) (count : ℕ) (payload : Vec ℕ Global) (old at image : List ℕ) → count < length payloads → payload ≡ get_or payloads count payload → records_of at ≡ with_lasts (items_of (take count payloads)) (records_of old)
    → IsOldOrNew at payload.items image → HasSomeLasts (items_of payloads) old image
has_some_or_more payloads count payload old at image within is before (inl same) = has_some payloads count old image (same ∙ before)
has_some_or_more payloads count payload old at image within is before (inr added) = has_some payloads (count + 1) old image (appended_more payloads count payload old at image within is before added)

-- ---- one behind another

-- So many were appended, without a fault.
pub record SoFar (payloads : List (Vec ℕ Global)) (count : ℕ) (store : Redo) (old at : DiskState) : Type 0 where
  pub ready : CanAppend store at
  pub few : count ≤ length payloads
  pub added : records_of at.now.seen ≡ with_lasts (items_of (take count payloads)) (records_of old.now.seen)
  pub stop : Lowered (4 * count) old.stop at.stop
  pub cause : Caused ⊥ old at

lowered_none : (stop : Option ℕ) → Lowered 0 stop stop
lowered_none None = tt
lowered_none (Some left) = omega arith

pub so_far_none : (payloads : List (Vec ℕ Global)) (store : Redo) (disk : DiskState) → CanAppend store disk → SoFar payloads 0 store disk disk
so_far_none payloads store disk ready = record { ready = ready; few = omega arith; added = sym (with_none (records_of disk.now.seen)); stop = lowered_none disk.stop; cause = caused_by_none ⊥ disk (λ none. none) }

module _ (payloads : List (Vec ℕ Global)) (count : ℕ) (payload : Vec ℕ Global) (store : Redo) (old at : DiskState) (so_far : SoFar payloads count store old at) where
  pub so_far_more : (later : Redo) (end : DiskState) → count < length payloads → payload ≡ get_or payloads count payload → CanAppend later end → records_of end.now.seen ≡ with_last payload.items (records_of at.now.seen) → Lowered 4 at.stop end.stop → Caused ⊥ at end
      → SoFar payloads (count + 1) later old end
  so_far_more later end within is ready added stop cause =
      let many : 4 * count + 4 ≡ 4 * (count + 1) = omega arith in
      record {
        ready = ready;
        few = omega (arith, within);
        added = appended_more payloads count payload old.now.seen at.now.seen end.now.seen within is so_far.added added;
        stop = subst (λ (n : ℕ). Lowered n old.stop end.stop) many (lowered_then (4 * count) 4 old.stop at.stop end.stop so_far.stop stop);
        cause = caused_then ⊥ ⊥ old at end (λ none. none) so_far.cause cause;
      }

  -- where it was not answered some of them stand there
  pub left_some : (end : DiskState) → count < length payloads → payload ≡ get_or payloads count payload → Meanwhile at end (IsOldOrNew at.now.seen payload.items) → (image : List ℕ) → MayLeave end.now image → HasSomeLasts (items_of payloads) old.now.seen image
  left_some end within is run image left =
      has_some_or_more payloads count payload old.now.seen at.now.seen image within is so_far.added
      (crash_now at end (IsOldOrNew at.now.seen payload.items) run (λ (was : List ℕ) left_then. inl (ap records_of (so_far.ready.settled was left_then))) image left)

  pub stops_there : (end : DiskState) → count < length payloads → LoweredByLess 4 at.stop end.stop → LoweredByLess (4 * length payloads) old.stop end.stop
  stops_there end within stop = lowered_by_less (4 * count + 4) (4 * length payloads) old.stop end.stop (omega (arith, within)) (lowered_by_less_then (4 * count) 4 old.stop at.stop end.stop so_far.stop stop)

  pub caused_there : (end : DiskState) (Fault : Type 0) → Caused Fault at end → Caused Fault old end
  caused_there end Fault cause = caused_then ⊥ Fault old at end (λ none. none) so_far.cause cause

-- ---- and all of them

module _ (payloads : List (Vec ℕ Global)) (count : ℕ) (store : Redo) (old at : DiskState) (so_far : SoFar payloads count store old at) (all : length payloads ≤ count) where
  pub added_all : records_of at.now.seen ≡ with_lasts (items_of payloads) (records_of old.now.seen)
  added_all = so_far.added ∙ ap (λ (l : List (Vec ℕ Global)). with_lasts (items_of l) (records_of old.now.seen)) (take_all count payloads all)

  pub left_all : (image : List ℕ) → MayLeave at.now image → HasSomeLasts (items_of payloads) old.now.seen image
  left_all image left = has_some payloads count old.now.seen image (ap records_of (so_far.ready.settled image left) ∙ so_far.added)

  pub lowered_all : Lowered (4 * length payloads) old.stop at.stop
  lowered_all =
      let many : count ≡ length payloads = omega (arith, so_far.few, all) in
      subst (λ (n : ℕ). Lowered (4 * n) old.stop at.stop) many so_far.stop
