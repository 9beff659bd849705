-- Draws at a desk, one after the other.
use Rattle.std.proofs.Common.{◌≡◌, ◌≤◌, ◌+◌, ℕ, ℤ, true, List, [], ◌∷◌, ◌++◌, length, map, filter, refl, sym, ◌∙◌, ap, subst, arith, length-append}
use Rattle.std.proofs.lemmas.List.{map-append}
use Rattle.std.proofs.lemmas.Slice.Eq.{bytes_eq-Decides}
use Rattle.std.specs.Prelude.{IsTrue, Some, Result, Ok, Err}
use Rattle.disk_model.specs.Disk.{DiskState, Meanwhile}
use Rattle.svc_values.specs.declared.draw.Draw.{Draw}
use Rattle.svc_values.specs.declared.draw.Draw.TheVariants as draw
use Rattle.svc_values.specs.declared.draw.DrawKind.{DrawKind}
use Rattle.svc_values.specs.declared.draw.DrawKind.TheVariants as kind
use Rattle.svc_values.specs.meaning.Draws.{is_of_kind}
use Rattle.mutable_values.specs.declared.source.Drawn.TheVariants as drawn
use Rattle.mutable_values.specs.Sources.{Opening, HasRoom, DrawnFrom, are_sequences, draw_of, may_reserve, reserved_to}
use Rattle.redo_store.specs.declared.fault.RedoFault.{RedoFault}
use Rattle.redo_store.specs.declared.fault.RedoFault.TheVariants as log_fault
use Rattle.commit_log.specs.declared.journal.Reservation.{Reservation}
use Rattle.commit_log.specs.declared.log.Log.{Log}
use Rattle.commit_log.specs.declared.records.Record.{Record}
use Rattle.commit_log.specs.declared.records.Record.TheVariants as kept
use Rattle.commit_log.specs.Adds.{Adds}
use Rattle.commit_log.specs.Growth.{IsGrown}
use Rattle.commit_log.specs.meaning.Rules.{with_record}
use Rattle.stmt_meaning.specs.Asked.{kind_drawn, sequences_drawn, is_of_sequence}
use Rattle.server_model.specs.Draws.{Draws, Gives, Reserves as ReservesFirst, DrawsAll}
use Rattle.server_session.specs.Adding.{HasGained, HasHalted}
use Rattle.server_session.specs.Dealing.{AtDesk, IsPrepared, HasReserved, HasDealt, HasHaltedAt, HasLackedAt, Reserves as ReservesAs, reserving, reservation_of, with_reserved}
use Rattle.server_model.specs.declared.fault.ServeFault.{ServeFault}
use Rattle.server_model.specs.declared.fault.ServeFault.TheVariants as fault
use Rattle.server_session.specs.Fits.{IsSourceOf}
use Rattle.server_session.specs.Leaving.{StillEnds}
use Rattle.server_session.specs.Stored.{stored_as}
use Rattle.server_session.proofs.Gaining.{gained_none, gained_then, gained_one, halted_one}
use Rattle.server_session.proofs.Halting.{halts_first, halts_then, source_behind, source_none}
use Rattle.server_session.proofs.Plains.{reads_same, reads_more}
use Rattle.server_session.proofs.Reserving.{source_after, source_told, sequences_after, sequences_told, asks_reservation}

pub kind_is : (asked : DrawKind) (given : Draw) → is_of_kind asked given ≡ true → kind_drawn given ≡ asked
kind_is (kind.Seq asked) (draw.Seq name n) h = ap kind.Seq ((bytes_eq-Decides name asked).0 h)
kind_is (kind.Seq asked) (draw.Clock tick) h = cc
kind_is (kind.Seq asked) (draw.Id id) h = cc
kind_is kind.Clock (draw.Seq name n) h = cc
kind_is kind.Clock (draw.Clock tick) h = refl
kind_is kind.Clock (draw.Id id) h = cc
kind_is kind.Id (draw.Seq name n) h = cc
kind_is kind.Id (draw.Clock tick) h = cc
kind_is kind.Id (draw.Id id) h = refl

-- nothing is drawn
pub dealt_none : (now : ℕ) (desk : AtDesk) → IsPrepared desk.opening desk.log desk.disk → HasDealt now desk [] desk
dealt_none now desk prepared = record {
  reservations = [];
  few = omega arith;
  gained = gained_none desk.disk;
  draws = (refl, refl);
  moved = λ journal is. source_none desk.opening journal is;
  halts = λ count few some. absurd (some refl);
  prepared = prepared;
}

-- a source that gives a value at once
pub dealt_value : (now : ℕ) (before : AtDesk) (asked : DrawKind) (given : Draw) (opening : Opening) (left : List Draw) → IsPrepared before.opening before.log before.disk → HasRoom before.opening
    → draw_of before.opening before.left asked now ≡ Some (record { answer = drawn.Value given; opening = opening; kept = left }) → is_of_kind asked given ≡ true
    → HasDealt now before (given ∷ []) (record { opening = opening; left = left; log = before.log; disk = before.disk })
dealt_value now before asked given opening left prepared room is of_kind =
    let told : DrawnFrom = record { answer = drawn.Value given; opening = opening; kept = left } in
    let here : Draws before.left (kind_drawn given) now before.opening given opening left =
    subst (λ (k : DrawKind). Draws before.left k now before.opening given opening left) (sym (kind_is asked given of_kind)) (Gives before.opening opening given left room is) in
    record {
      reservations = [];
      few = omega arith;
      gained = gained_none before.disk;
      draws = (opening, left, (here, (refl, refl)));
      moved = λ journal source. source_none opening journal (source_after before.opening before.left asked now told journal is source);
      halts = λ count few some. absurd (some refl);
      prepared = record {
        ready = prepared.ready;
        journal = prepared.journal;
        reads = prepared.reads;
        source = source_after before.opening before.left asked now told prepared.journal is prepared.source;
        sequences = sequences_after before.opening before.left asked now told is prepared.sequences;
      };
    }

one_at_most : (name : List ℕ) (given : Draw) → kind_drawn given ≡ kind.Seq name → 1 ≤ sequences_drawn (given ∷ [])
one_at_most name (draw.Seq other n) e = omega arith
one_at_most name (draw.Clock tick) e = cc
one_at_most name (draw.Id id) e = cc

-- what a source answers that has to store a reservation first: it is as it was
wanted_still : (before : AtDesk) (asked : DrawKind) (now : ℕ) (name : List ℕ) (upto : ℤ) (between : Opening) (same : List Draw)
    → draw_of before.opening before.left asked now ≡ Some (record { answer = drawn.Reserve name upto; opening = between; kept = same })
    → draw_of before.opening before.left asked now ≡ Some (record { answer = drawn.Reserve name upto; opening = before.opening; kept = before.left })
wanted_still before asked now name upto between same wanted =
    let asks = asks_reservation before.opening before.left asked now name upto between same wanted in
    wanted ∙ (λ i. Some (record { answer = drawn.Reserve name upto; opening = asks.opening_is i; kept = asks.left_is i }))

-- a source that has to store a reservation first
pub dealt_reserved : (now : ℕ) (before : AtDesk) (asked : DrawKind) (name : List ℕ) (upto : ℤ) (between : Opening) (same : List Draw) (given : Draw) (opening : Opening) (left : List Draw) (log : Log) (disk : DiskState) → HasRoom before.opening
    → draw_of before.opening before.left asked now ≡ Some (record { answer = drawn.Reserve name upto; opening = between; kept = same })
    → HasReserved name upto between before.disk (reserved_to between name upto) log disk
    → draw_of (reserved_to between name upto) before.left asked now ≡ Some (record { answer = drawn.Value given; opening = opening; kept = left }) → is_of_kind asked given ≡ true
    → HasDealt now before (given ∷ []) (record { opening = opening; left = left; log = log; disk = disk })
dealt_reserved now before asked name upto between same given opening left log disk room wanted reserved is of_kind =
    let told : DrawnFrom = record { answer = drawn.Value given; opening = opening; kept = left } in
    let asks = asks_reservation before.opening before.left asked now name upto between same wanted in
    let here : Draws before.left (kind_drawn given) now before.opening given opening left =
    subst (λ (k : DrawKind). Draws before.left k now before.opening given opening left) (sym (kind_is asked given of_kind)) (ReservesFirst before.opening between opening name upto same given left room wanted is) in
    record {
      reservations = reservation_of name upto ∷ [];
      few = one_at_most name given (kind_is asked given of_kind ∙ asks.kind_is);
      gained = reserved.gained;
      draws = (opening, left, (here, (refl, refl)));
      moved = λ journal source.
          source_after (reserved_to between name upto) before.left asked now told (with_reserved journal (reservation_of name upto ∷ [])) is
          (source_told between name upto journal (subst (λ (o : Opening). IsSourceOf o journal) (sym asks.opening_is) source));
      halts = λ count few some. halts_first now before given name upto (subst (λ (k : DrawKind). draw_of before.opening before.left k now ≡ Some (record { answer = drawn.Reserve name upto; opening = before.opening; kept = before.left })) (sym (kind_is asked given of_kind)) (wanted_still before asked now name upto between same wanted)) [] count few;
      prepared = record {
        ready = reserved.prepared.ready;
        journal = reserved.prepared.journal;
        reads = reserved.prepared.reads;
        source = source_after (reserved_to between name upto) before.left asked now told reserved.prepared.journal is reserved.prepared.source;
        sequences = sequences_after (reserved_to between name upto) before.left asked now told is reserved.prepared.sequences;
      };
    }

-- ---- one after the other

count_by : (k : DrawKind) (rest : List DrawKind) → length (filter is_of_sequence (k ∷ rest)) ≡ length (filter is_of_sequence (k ∷ [])) + length (filter is_of_sequence rest)
count_by (kind.Seq name) rest = omega arith
count_by kind.Clock rest = omega arith
count_by kind.Id rest = omega arith

pub drawn_more : (given : Draw) (more : List Draw) → sequences_drawn (given ∷ more) ≡ sequences_drawn (given ∷ []) + sequences_drawn more
drawn_more given more = count_by (kind_drawn given) (map kind_drawn more)

pub dealt_then : (now : ℕ) (a b c : AtDesk) (given : Draw) (more : List Draw) → HasDealt now a (given ∷ []) b → HasDealt now b more c → HasDealt now a (given ∷ more) c
dealt_then now a b c given more first second =
    let d = first.draws in
    let on : DrawsAll now d.0 d.1 more c.opening c.left =
    subst (λ (o : Opening). DrawsAll now o d.1 more c.opening c.left) d.2.1.0 (subst (λ (l : List Draw). DrawsAll now b.opening l more c.opening c.left) d.2.1.1 second.draws) in
    record {
      reservations = first.reservations ++ second.reservations;
      few = omega (arith, first.few, second.few, length-append first.reservations second.reservations, drawn_more given more);
      gained = subst (λ (l : List Record). HasGained l a.disk c.disk) (sym (map-append (λ (one : Reservation). kept.Reserved one) first.reservations second.reservations))
          (gained_then a.disk b.disk c.disk (reserving first.reservations) (reserving second.reservations) first.gained second.gained);
      draws = (d.0, d.1, (d.2.0, on));
      moved = λ journal is. source_behind c.opening journal first.reservations second.reservations (second.moved (with_reserved journal first.reservations) (first.moved journal is));
      halts = halts_then now a b given more first.reservations second.reservations first.draws first.moved first.halts second.halts;
      prepared = second.prepared;
    }

-- ---- no memory

-- before anything was stored
pub lacked_at_once : (before after : AtDesk) → after.disk ≡ before.disk → HasLackedAt before after
lacked_at_once before after same = record {
  reservations = [];
  few = omega arith;
  moments = subst (λ (d : DiskState). Meanwhile before.disk d (IsGrown before.disk.now.seen [])) (sym same) (gained_none before.disk).moments;
  faults = ap (λ (d : DiskState). d.faults) same;
}

-- behind a reservation
pub lacked_behind : (before after : AtDesk) (name : List ℕ) (upto : ℤ) → Meanwhile before.disk after.disk (IsGrown before.disk.now.seen (kept.Reserved (reservation_of name upto) ∷ [])) → after.disk.faults ≡ before.disk.faults → HasLackedAt before after
lacked_behind before after name upto moments faults = record { reservations = reservation_of name upto ∷ []; few = omega arith; moments = moments; faults = faults }

-- the store was stopped in a reservation
pub halted_in : (now : ℕ) (before after : AtDesk) (asked : DrawKind) (name : List ℕ) (upto : ℤ) (between : Opening) (same : List Draw)
    → draw_of before.opening before.left asked now ≡ Some (record { answer = drawn.Reserve name upto; opening = between; kept = same })
    → HasHalted [] (kept.Reserved (reservation_of name upto)) before.disk after.disk → after.opening ≡ between → StillEnds after.log before.disk after.disk → HasHaltedAt now before asked after
halted_in now before after asked name upto between same wanted halted opening ends =
    let asks = asks_reservation before.opening before.left asked now name upto between same wanted in
    record {
      name = name;
      upto = upto;
      is = asks.kind_is;
      wanted = wanted_still before asked now name upto between same wanted;
      halted = halted;
      same = opening ∙ asks.opening_is;
      ends = ends;
    }

-- a log that is prepared is so for a source that is the same
pub prepared_still : (before after : Opening) (log : Log) (disk : DiskState) → after ≡ before → IsPrepared before log disk → IsPrepared after log disk
prepared_still before after log disk same prepared = subst (λ (o : Opening). IsPrepared o log disk) (sym same) prepared

-- and for one that was asked
pub prepared_after : (before : Opening) (left : List Draw) (asked : DrawKind) (now : ℕ) (told : DrawnFrom) (log : Log) (disk : DiskState) → draw_of before left asked now ≡ Some told → IsPrepared before log disk → IsPrepared told.opening log disk
prepared_after before left asked now told log disk is prepared = record {
  ready = prepared.ready;
  journal = prepared.journal;
  reads = prepared.reads;
  source = source_after before left asked now told prepared.journal is prepared.source;
  sequences = sequences_after before left asked now told is prepared.sequences;
}

-- ---- a reservation, by what the log answers

module _ (opening : Opening) (name : List ℕ) (upto : ℤ) (before log : Log) (disk end : DiskState) (prepared : IsPrepared opening before disk) where
  pub reserve_fault : (answer : Result (Unit {0}) RedoFault) (error : ServeFault) → ◌≡◌ {A = Result (Unit {0}) ServeFault} (Err error) (stored_as answer) → Adds answer log disk end (kept.Reserved (reservation_of name upto))
      → ReservesAs name upto (Err error) opening disk opening log end
  reserve_fault (Ok done) error e adds = absurd (let clash : ◌≡◌ {A = Result (Unit {0}) ServeFault} (Err error) (Ok done) = e in cc)
  reserve_fault (Err log_fault.NoMemory) error e adds =
      let same : error ≡ fault.NoMemory = (let both : ◌≡◌ {A = Result (Unit {0}) ServeFault} (Err error) (Err fault.NoMemory) = e in cc) in
      rw same (record {
        same = refl;
        moments = adds.any_moment;
        faults = adds.cause.uncounted (λ e. cc);
        prepared = record { ready = adds.goes_on; journal = prepared.journal; reads = reads_same disk.now.seen end.now.seen prepared.journal prepared.reads (adds.refused refl); source = prepared.source; sequences = prepared.sequences };
      })
  reserve_fault (Err log_fault.Stopped) error e adds =
      let same : error ≡ fault.Stopped = (let both : ◌≡◌ {A = Result (Unit {0}) ServeFault} (Err error) (Err fault.Stopped) = e in cc) in
      rw same (record { same = refl; halted = halted_one before log disk end (kept.Reserved (reservation_of name upto)) prepared.ready adds; dead = adds.goes_on; ends = adds.trails refl })
  reserve_fault (Err (log_fault.Damaged place)) error e adds = absurd adds.goes_on

  pub reserve_done : (answer : Result (Unit {0}) RedoFault) (later : Opening) → ◌≡◌ {A = Result (Unit {0}) ServeFault} (Ok tt) (stored_as answer) → Adds answer log disk end (kept.Reserved (reservation_of name upto))
      → later ≡ reserved_to opening name upto → IsTrue (may_reserve opening name upto) → HasReserved name upto opening disk later log end
  reserve_done (Ok done) later e adds told may =
      let journal = with_record prepared.journal (kept.Reserved (reservation_of name upto)) in
      record {
        told = told;
        gained = gained_one log disk end (kept.Reserved (reservation_of name upto)) adds;
        prepared = record {
          ready = adds.goes_on;
          journal = journal;
          reads = reads_more disk.now.seen end.now.seen prepared.journal (kept.Reserved (reservation_of name upto)) prepared.reads adds.added;
          source = subst (λ (o : Opening). IsSourceOf o journal) (sym told) (source_told opening name upto prepared.journal prepared.source);
          sequences = subst (λ (o : Opening). IsTrue (are_sequences o.sequences)) (sym told) (sequences_told opening name upto may prepared.sequences);
        };
      }
  reserve_done (Err log_fault.NoMemory) later e adds told may = absurd (let clash : ◌≡◌ {A = Result (Unit {0}) ServeFault} (Ok tt) (Err fault.NoMemory) = e in cc)
  reserve_done (Err log_fault.Stopped) later e adds told may = absurd (let clash : ◌≡◌ {A = Result (Unit {0}) ServeFault} (Ok tt) (Err fault.Stopped) = e in cc)
  reserve_done (Err (log_fault.Damaged place)) later e adds told may = absurd adds.goes_on
