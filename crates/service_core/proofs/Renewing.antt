-- How an opening goes on from record to record, and what its sessions then share.
use Rattle.std.proofs.Common.{◌≡◌, ◌∙◌, ◌+◌, ◌*◌, ◌-◌, ◌^◌, ◌<◌, ◌≤◌, ◌&&◌, ◌||◌, ℕ, ℤ, Bool, true, false, refl, sym, ap, subst, List, [], ◌∷◌, ◌++◌, map, fold, length, length-append, arith}
use Rattle.std.proofs.lemmas.Bool.{le-leb, lt-ltb}
use Rattle.std.proofs.Math.Bool.{or-true}
use Rattle.std.proofs.lemmas.Int.{ints}
use Rattle.std.proofs.lemmas.List.Sums.{AllPass-from_list_all}
use Rattle.std.specs.Prelude.{pos, ◌+ℤ◌, int_le, int_lt, nat_le, nat_lt, not, All, IsTrue, Option, Some, None, Result, Ok, Err, OnOk, IsErrOf, if◌then◌else◌}
use Rattle.std.specs.List.{list_all}
use Rattle.disk_model.specs.Moment.{DiskMoment, MayLeave}
use Rattle.disk_model.specs.Disk.{DiskState, IsSettled, Lowered, LoweredByLess, Lowers, Meanwhile, OnlyReads}
use Rattle.disk_model.proofs.Offered.{caused_by_none, caused_then, lowered_by_less, lowered_by_none, lowers_then, reads_for, stays, then as after_that}
use Rattle.redo_store.specs.declared.fault.RedoFault.{RedoFault}
use Rattle.redo_store.specs.declared.fault.RedoFault.TheVariants as redo_fault
use Rattle.ltxid_book.specs.meaning.Sessions.{Sessions}
use Rattle.ltxid_book.specs.Sessions.{Contents, sessions_in, after_forgetting}
use Rattle.mutable_values.specs.declared.grants.Grants.{Grants}
use Rattle.mutable_values.specs.declared.source.SeqState.{SeqState}
use Rattle.mutable_values.specs.Sources.{Opening, are_sequences, is_within, names_of}
use Rattle.commit_log.specs.declared.base.BaseSequence.{BaseSequence}
use Rattle.commit_log.specs.declared.journal.Journal.{Journal}
use Rattle.commit_log.specs.declared.log.Log.{Log}
use Rattle.commit_log.specs.declared.records.Record.{Record}
use Rattle.commit_log.specs.declared.records.Record.TheVariants as kept
use Rattle.commit_log.specs.meaning.Rules.{SoFar, Begun, may_forget, rises, with_record}
use Rattle.commit_log.specs.meaning.Journals.{journal_in, journal_of, so_far_of}
use Rattle.commit_log.specs.Adds.{AddsTo, MayAddTo}
use Rattle.commit_log.specs.Growth.{HasAdded, IsGrown, first_of_opening, opening_of, with_opening, with_records}
use Rattle.commit_log.specs.Keeping.{EachKeeps}
use Rattle.commit_log.specs.Laws.{RaisesHorizon}
use Rattle.commit_log.specs.declared.log.Found.{Found}
use Rattle.commit_log.specs.Logs.{CanAdd, CanLog, HasBegun, Trails}
use Rattle.commit_log.proofs.Offered.{adds_on, grown_more, grown_then, has_itself, ready_then, trails_at_end, trails_begun, trails_unset}
use Rattle.svc_values.specs.meaning.Names.{names_differ}
use Rattle.server_model.specs.declared.fault.ServeFault.{ServeFault}
use Rattle.server_model.specs.declared.fault.ServeFault.TheVariants as serve_fault
use Rattle.server_model.specs.meaning.Base.{Sequence}
use Rattle.server_model.specs.Core.{reopened}
use Rattle.server_session.specs.declared.shared.Core.{Core}
use Rattle.server_session.specs.Fits.{sequence_in, sequence_of}
use Rattle.server_session.specs.Following.{IsOfJournal}
use Rattle.server_session.proofs.Offered.{follows_horizon}
use Rattle.journal_tables.proofs.Offered.{first_true, second_true, both_true}
use Rattle.service_core.specs.declared.resting.Resting.{Resting}
use Rattle.service_core.specs.InnerOpening.{IsCoreOf, ends_low}
use Rattle.service_core.specs.Keeping.{IsCurrent, Rests, RestsBy, rises_on}
use Rattle.service_core.specs.Opening.{CanOpen, HasOpened, stop_of}
use Rattle.service_core.specs.Resting.{Begins, Extends, IsRaised, IsRenewed, Opens, Raises, Stays, leaves_room}
use Rattle.service_core.proofs.GoingOn.{goes_on, has_opened, source_is, source_of_is}
use Rattle.service_core.proofs.Reaching.{forgetting_journal, one_last, opened_journal, then_opens}
use Rattle.service_core.proofs.Reopening.{source_on}
use Rattle.service_core.proofs.Rested.{one_journal, with_log}

abbrev Answer : Type 0
Answer = Result (Unit {0}) RedoFault

abbrev failed : Answer → Type 0
failed answer = IsErrOf answer redo_fault.Stopped

-- ---- records behind records

no_fault : (told : RedoFault) → ◌≡◌ {A = Answer} (Ok tt) (Err told) → ⊥
no_fault told is = let none : ⊥ = cc in none

lowered_zero : (stop : Option ℕ) → Lowered 0 stop stop
lowered_zero None = tt
lowered_zero (Some left) = omega arith

-- none at all
pub extends_none : (disk : DiskState) → Extends [] (Ok tt) disk disk
extends_none disk = record {
  added = has_itself disk.now.seen;
  moments = stays disk disk (IsGrown disk.now.seen []) (record { past = refl; now = refl });
  stop = lowered_zero disk.stop;
  cause = caused_by_none (failed (Ok tt)) disk (no_fault redo_fault.Stopped);
  whole = λ place is. no_fault (redo_fault.Damaged place) is;
}

-- one that the log adds
pub extends_one : (is_opened has_horizon : Bool) (one : Record) (answer : Answer) (log : Log) (old new : DiskState) → AddsTo is_opened has_horizon answer log old new one → Extends (one ∷ []) answer old new
extends_one is_opened has_horizon one (Ok done) log old new adds = record { added = adds.added; moments = adds.any_moment; stop = adds.stop; cause = adds.cause; whole = λ place is. let none : ⊥ = cc in none }
extends_one is_opened has_horizon one (Err redo_fault.NoMemory) log old new adds = record { added = tt; moments = adds.any_moment; stop = adds.stop; cause = adds.cause; whole = λ place is. let none : ⊥ = cc in none }
extends_one is_opened has_horizon one (Err redo_fault.Stopped) log old new adds = record { added = tt; moments = adds.any_moment; stop = adds.stop; cause = adds.cause; whole = λ place is. let none : ⊥ = cc in none }
extends_one is_opened has_horizon one (Err (redo_fault.Damaged place)) log old new adds = absurd adds.goes_on

-- and what comes behind them
pub extends_then : (first more : List Record) (answer : Answer) (old mid new : DiskState) → Extends first (Ok tt) old mid → Extends more answer mid new → Extends (first ++ more) answer old new
extends_then first more answer old mid new front back = record {
  added = all_added answer back.added;
  moments = grown_then old mid new old.now.seen first more front.moments front.added back.moments;
  stop = subst (λ (n : ℕ). Lowers n answer old.stop new.stop) total_is (lowers_then (4 * length first) (4 * length more) answer old.stop mid.stop new.stop front.stop back.stop);
  cause = caused_then (failed (Ok tt)) (failed answer) old mid new (no_fault redo_fault.Stopped) front.cause back.cause;
  whole = back.whole;
}
  where
    total_is : 4 * length first + 4 * length more ≡ 4 * length (first ++ more)
    total_is = omega (arith, length-append first more)

    all_added : (told : Answer) → OnOk told (HasAdded mid.now.seen more new.now.seen) → OnOk told (HasAdded old.now.seen (first ++ more) new.now.seen)
    all_added (Ok done) has = adds_on old.now.seen first mid.now.seen more new.now.seen front.added has
    all_added (Err told) none = tt

-- a fault in the first of them
pub extends_short : (first more : List Record) (fault : RedoFault) (old new : DiskState) → Extends first (Err fault) old new → Extends (first ++ more) (Err fault) old new
extends_short first more fault old new front = record {
  added = tt;
  moments = grown_more old new old.now.seen first more front.moments;
  stop = lowered_by_less (4 * length first) (4 * length (first ++ more)) old.stop new.stop (omega (arith, length-append first more)) front.stop;
  cause = front.cause;
  whole = front.whole;
}

-- ---- behind a reading

pub extends_read : (records : List Record) (answer : Answer) (old mid new : DiskState) → OnlyReads (failed (Ok tt)) old mid → Extends records answer mid new → Extends records answer old new
extends_read records answer old mid new read back = record {
  added = subst (λ (m : DiskMoment). OnOk answer (HasAdded m.seen records new.now.seen)) read.same.now back.added;
  moments = after_that old mid new (IsGrown old.now.seen records) (stays old mid (IsGrown old.now.seen records) read.same)
      (subst (λ (m : DiskMoment). Meanwhile mid new (IsGrown m.seen records)) read.same.now back.moments);
  stop = subst (λ (o : Option ℕ). Lowers (4 * length records) answer o new.stop) read.stop back.stop;
  cause = caused_then (failed (Ok tt)) (failed answer) old mid new (no_fault redo_fault.Stopped) read.cause back.cause;
  whole = back.whole;
}

-- and in a reading
pub extends_unread : (records : List Record) (fault : RedoFault) (old new : DiskState) → 1 ≤ length records → OnlyReads (failed (Err fault)) old new → ((place : ℕ) → fault ≡ redo_fault.Damaged place → ⊥) → Extends records (Err fault) old new
extends_unread records fault old new some read whole = record {
  added = tt;
  moments = stays old new (IsGrown old.now.seen records) read.same;
  stop = subst (λ (o : Option ℕ). LoweredByLess (4 * length records) old.stop o) (sym read.stop) (lowered_by_none (4 * length records) old.stop (omega (arith, some)));
  cause = read.cause;
  whole = λ place is. whole place (let same : fault ≡ redo_fault.Damaged place = cc in same);
}

-- ---- a log that knows all

module _ (resting : Resting) (disk : DiskState) (current : IsCurrent resting disk) where
  abbrev pub has_begun : HasBegun current.knows.is_opened resting.has_horizon resting.core.log disk
  has_begun = record { append = current.log; journal = current.knows.journal; so_far = current.knows.so_far }

  -- a stop leaves the log where it was
  pub left_behind : (answer : Answer) (log : Log) (end : DiskState) (one : Record) → AddsTo current.knows.is_opened resting.has_horizon answer log disk end one → Stays answer resting (record resting { core = record resting.core { log = log } }) end
  left_behind answer log end one adds = record {
    left = λ stopped image left. record { is_opened = current.knows.is_opened; journal = current.knows.journal; of_journal = with_log resting.core log current.knows.journal current.knows.of_journal; trails = adds.trails stopped current.knows.journal current.knows.so_far image left };
    grants = refl;
  }

-- ---- the horizon

not_first : (has up : Bool) → (not has || up) ≡ false → (has ≡ true) × (up ≡ false)
not_first true up e = (refl, e)
not_first false up e = absurd (let clash : ⊥ = cc in clash)

module _ (horizon : ℕ) (resting : Resting) (disk : DiskState) (current : IsCurrent resting disk) where
  abbrev pub its : Journal
  its = current.knows.journal

  pub rises_by : (up : Bool) → up ≡ rises_on resting horizon → rises its resting.has_horizon horizon ≡ up
  rises_by up is = ap (λ (s : Sessions). not resting.has_horizon || nat_lt s.horizon horizon) (sym current.knows.of_journal.book.sessions) ∙ sym is

  first_by : (up : Bool) → up ≡ rises_on resting horizon → first_of_opening horizon (so_far_of disk.now.seen) ≡ (if up then kept.Horizon horizon ∷ [] else [])
  first_by up is = ap (first_of_opening horizon) current.knows.so_far ∙ ap (λ (b : Bool). if b then kept.Horizon horizon ∷ [] else []) (rises_by up is)

  -- it need not be stored
  pub not_raised : false ≡ rises_on resting horizon → Raises horizon (Ok tt) resting resting disk disk
  not_raised is = record {
    extends = subst (λ (l : List Record). Extends l (Ok tt) disk disk) (sym (first_by false is)) (extends_none disk);
    current = current;
    stored = (not_first resting.has_horizon _ (sym is)).0;
    stays = record { left = λ e. absurd (no_fault redo_fault.Stopped e); grants = refl };
  }

  pub may_rise : true ≡ rises_on resting horizon → ((journal : Journal) → journal_of disk.now.seen ≡ Ok journal → horizon ≤ journal.incarnation + 1) → MayAddTo current.knows.is_opened resting.has_horizon disk (kept.Horizon horizon)
  may_rise is may other reads =
      let same : its ≡ other = one_journal disk.now.seen its other (ap journal_in current.knows.so_far) reads in
      let small : nat_le horizon (its.incarnation + 1) ≡ true = le-leb horizon (its.incarnation + 1) (may its (ap journal_in current.knows.so_far)) in
      subst (λ (j : Journal). IsTrue (may_forget j resting.has_horizon horizon)) same (ap (λ (b : Bool). b && rises its resting.has_horizon horizon) small ∙ rises_by true is)

  -- it was stored
  pub was_raised : (book : Contents) (log : Log) (end : DiskState) → true ≡ rises_on resting horizon → AddsTo current.knows.is_opened resting.has_horizon (Ok tt) log disk end (kept.Horizon horizon) → sessions_in book ≡ after_forgetting (sessions_in resting.core.book) horizon
      → Raises horizon (Ok tt) resting (record { core = record resting.core { log = log; book = book }; has_horizon = true }) disk end
  was_raised book log end is adds forgot =
      let begun = adds.goes_on in
      let now : Journal = with_record its (kept.Horizon horizon) in
      let reads : journal_of end.now.seen ≡ Ok now = adds.added.journal ∙ ap (λ (r : Result SoFar ℕ). with_records (kept.Horizon horizon ∷ []) (journal_in r)) current.knows.so_far in
      let same : begun.journal ≡ now = one_journal end.now.seen begun.journal now (ap journal_in begun.so_far) reads in
      let later : Core = record resting.core { log = log; book = book } in
      record {
        extends = subst (λ (l : List Record). Extends l (Ok tt) disk end) (sym (first_by true is)) (extends_one current.knows.is_opened resting.has_horizon (kept.Horizon horizon) (Ok tt) log disk end adds);
        current = record {
          knows = record {
            is_opened = current.knows.is_opened || false;
            journal = now;
            of_journal = follows_horizon resting.core later its resting.has_horizon horizon current.knows.of_journal
                (trails_unset current.knows.is_opened resting.has_horizon its resting.core.log disk.now.seen (trails_begun current.knows.is_opened resting.has_horizon resting.core.log disk (has_begun resting disk current))) (rises_by true is) forgot refl refl;
            so_far = begun.so_far ∙ (λ i. Ok (Begun (same i) (current.knows.is_opened || false) (or-true resting.has_horizon i)));
          };
          log = begun.append;
        };
        stored = refl;
        stays = record { left = λ e. absurd (no_fault redo_fault.Stopped e); grants = refl };
      }

  pub raise_failed : (fault : RedoFault) (log : Log) (end : DiskState) → true ≡ rises_on resting horizon → AddsTo current.knows.is_opened resting.has_horizon (Err fault) log disk end (kept.Horizon horizon)
      → Raises horizon (Err fault) resting (record resting { core = record resting.core { log = log } }) disk end
  raise_failed fault log end is adds = record {
    extends = subst (λ (l : List Record). Extends l (Err fault) disk end) (sym (first_by true is)) (extends_one current.knows.is_opened resting.has_horizon (kept.Horizon horizon) (Err fault) log disk end adds);
    current = tt;
    stored = tt;
    stays = left_behind resting disk current (Err fault) log end (kept.Horizon horizon) adds;
  }

-- ---- the incarnation

module _ (resting : Resting) (disk : DiskState) (current : IsCurrent resting disk) (few : resting.core.source.incarnation < 2 ^ 63) where
  may_open_next : (is_opened : Bool) (a b : ℕ) → a ≡ b → a < 2 ^ 63 → (nat_le (a + 1) (2 ^ 63) && (not is_opened || nat_lt b (a + 1))) ≡ true
  may_open_next is_opened a b same low =
      let small : nat_le (a + 1) (2 ^ 63) ≡ true = le-leb (a + 1) (2 ^ 63) (omega (arith, low)) in
      let above : nat_lt b (a + 1) ≡ true = lt-ltb b (a + 1) (omega (arith, same)) in
      rw (small, above) (or-true (not is_opened))

  pub may_begin : MayAddTo current.knows.is_opened resting.has_horizon disk (kept.Opened (resting.core.source.incarnation + 1))
  may_begin other reads =
      let same : current.knows.journal ≡ other = one_journal disk.now.seen current.knows.journal other (ap journal_in current.knows.so_far) reads in
      may_open_next current.knows.is_opened resting.core.source.incarnation other.incarnation (current.knows.of_journal.source.incarnation ∙ ap (λ (j : Journal). j.incarnation) same) few

  pub began : (answer : Answer) (log : Log) (end : DiskState) → IsTrue resting.has_horizon → AddsTo current.knows.is_opened resting.has_horizon answer log disk end (kept.Opened (resting.core.source.incarnation + 1))
      → Begins answer resting (record resting { core = record resting.core { log = log } }) disk end
  began answer log end has adds = record {
    extends = extends_one current.knows.is_opened resting.has_horizon (kept.Opened (resting.core.source.incarnation + 1)) answer log disk end adds;
    ready = by answer adds;
    same = told answer;
    stays = left_behind resting disk current answer log end (kept.Opened (resting.core.source.incarnation + 1)) adds;
  }
    where
      told : (a : Answer) → OnOk a (◌≡◌ {A = Core} (record resting.core { log = log }) (record resting.core { log = log }))
      told (Ok done) = refl
      told (Err fault) = tt

      by : (a : Answer) → AddsTo current.knows.is_opened resting.has_horizon a log disk end (kept.Opened (resting.core.source.incarnation + 1)) → OnOk a (CanLog log end)
      by (Ok done) with_it = ready_then current.knows.is_opened log end (subst (λ (h : Bool). HasBegun (current.knows.is_opened || true) (h || false) log end) has with_it.goes_on)
      by (Err fault) with_it = tt

-- ---- both

some_of : (first : List Record) (last : Record) → 1 ≤ length (first ++ last ∷ [])
some_of first last = omega (arith, length-append first (last ∷ []))

module _ (horizon : ℕ) (old : Resting) (disk : DiskState) (can : CanOpen horizon disk.now.seen) where
  abbrev pub begins : List Record
  begins = first_of_opening horizon (so_far_of disk.now.seen)

  pub opening_is : opening_of horizon (so_far_of disk.now.seen) ≡ begins ++ kept.Opened (can.journal.incarnation + 1) ∷ []
  opening_is = then_opens horizon (so_far_of disk.now.seen) can.journal can.reads

  -- in the first part
  pub opens_short : (fault : RedoFault) (new : Resting) (end : DiskState) → Raises horizon (Err fault) old new disk end → Opens horizon (Err fault) old new disk end
  opens_short fault new end raised = record {
    extends = subst (λ (l : List Record). Extends l (Err fault) disk end) (sym opening_is) (extends_short begins (kept.Opened (can.journal.incarnation + 1) ∷ []) fault disk end raised.extends);
    ready = tt;
    core = tt;
    stays = raised.stays;
  }

  -- in a reading before it
  pub opens_unread : (fault : RedoFault) (new : Resting) (end : DiskState) → IsSettled disk → OnlyReads (failed (Err fault)) disk end → ((place : ℕ) → fault ≡ redo_fault.Damaged place → ⊥) → (failed (Err fault) → Rests disk.now.seen new)
      → new.core.grants ≡ old.core.grants → Opens horizon (Err fault) old new disk end
  opens_unread fault new end settled read whole rests grants = record {
    extends = subst (λ (l : List Record). Extends l (Err fault) disk end) (sym opening_is) (extends_unread (begins ++ kept.Opened (can.journal.incarnation + 1) ∷ []) fault disk end (some_of begins (kept.Opened (can.journal.incarnation + 1))) read whole);
    ready = tt;
    core = tt;
    stays = record {
      left = λ stopped image left. subst (λ (i : List ℕ). Rests i new) (sym (settled image (subst (λ (m : DiskMoment). MayLeave m image) read.same.now left))) (rests stopped);
      grants = grants;
    };
  }

  module _ (mid : Resting) (at : DiskState) (raised : Raises horizon (Ok tt) old mid disk at) (raises : RaisesHorizon) where
    its_journal : raised.current.knows.journal ≡ forgetting_journal can.journal horizon
    its_journal =
        one_journal at.now.seen raised.current.knows.journal (forgetting_journal can.journal horizon) (ap journal_in raised.current.knows.so_far)
        (raised.extends.added.journal ∙ ap (with_records begins) can.reads ∙ ap (λ (j : Journal). Ok j) (raises disk.now.seen can.journal horizon can.reads))

    pub number_is : mid.core.source.incarnation ≡ can.journal.incarnation
    number_is = raised.current.knows.of_journal.source.incarnation ∙ ap (λ (j : Journal). j.incarnation) its_journal

    pub few_openings : mid.core.source.incarnation < 2 ^ 63
    few_openings = omega (arith, number_is, can.incarnation)

    pub opens_whole : (answer : Answer) (new : Resting) (end : DiskState) → Begins answer mid new at end → Opens horizon answer old new disk end
    opens_whole answer new end begun = record {
      extends = subst (λ (l : List Record). Extends l answer disk end) (sym opening_is)
          (extends_then begins (kept.Opened (can.journal.incarnation + 1) ∷ []) answer disk at end raised.extends (subst (λ (n : ℕ). Extends (kept.Opened (n + 1) ∷ []) answer at end) number_is begun.extends));
      ready = begun.ready;
      core = by answer begun.same;
      stays = record { left = begun.stays.left; grants = begun.stays.grants ∙ raised.stays.grants };
    }
      where
        by : (a : Answer) → OnOk a (new.core ≡ record mid.core { log = new.core.log }) → OnOk a (IsRaised horizon disk.now.seen new.core)
        by (Err fault) none = tt
        by (Ok done) same = λ journal reads.
            let own : journal ≡ can.journal = one_journal disk.now.seen journal can.journal reads can.reads in
            subst (λ (c : Core). IsOfJournal c (forgetting_journal journal horizon)) (sym same)
            (with_log mid.core new.core.log (forgetting_journal journal horizon)
            (subst (λ (j : Journal). IsOfJournal mid.core j) (its_journal ∙ ap (λ (j : Journal). forgetting_journal j horizon) (sym own)) raised.current.knows.of_journal))

-- and behind a reading
pub opens_read : (horizon : ℕ) (answer : Answer) (old mid new : Resting) (disk at end : DiskState) → OnlyReads (failed (Ok tt)) disk at → mid.core.grants ≡ old.core.grants → Opens horizon answer mid new at end → Opens horizon answer old new disk end
opens_read horizon answer old mid new disk at end read grants opened = record {
  extends = extends_read (opening_of horizon (so_far_of disk.now.seen)) answer disk at end read
      (subst (λ (m : DiskMoment). Extends (opening_of horizon (so_far_of m.seen)) answer at end) read.same.now opened.extends);
  ready = opened.ready;
  core = subst (λ (m : DiskMoment). OnOk answer (IsRaised horizon m.seen new.core)) read.same.now opened.core;
  stays = record { left = opened.stays.left; grants = opened.stays.grants ∙ grants };
}

pub can_open_still : (horizon : ℕ) (disk at : DiskState) → at.now ≡ disk.now → CanOpen horizon disk.now.seen → CanOpen horizon at.now.seen
can_open_still horizon disk at same can = subst (λ (m : DiskMoment). CanOpen horizon m.seen) (sym same) can

-- ---- what is shared

-- the reservations that a journal has leave room
pub leave_room : (journal : Journal) (sequences : List BaseSequence) (states : List SeqState) → map sequence_in states ≡ map (sequence_of journal) sequences → list_all (ends_low journal) sequences ≡ true → list_all leaves_room states ≡ true
leave_room journal [] [] same low = refl
leave_room journal [] (state ∷ states) same low = absurd (cc)
leave_room journal (sequence ∷ sequences) [] same low = refl
leave_room journal (sequence ∷ sequences) (state ∷ states) same low =
    let here : sequence_in state ≡ sequence_of journal sequence = cc in
    let rest : map sequence_in states ≡ map (sequence_of journal) sequences = cc in
    both_true (leaves_room state) (list_all leaves_room states)
    (ap (λ (s : Sequence). int_lt s.upto (pos (2 ^ 63 - 1))) here ∙ first_true (ends_low journal sequence) (list_all (ends_low journal) sequences) low)
    (leave_room journal sequences states rest (second_true (ends_low journal sequence) (list_all (ends_low journal) sequences) low))

-- sequences that go on behind their reservations are such as a source may have
same_names : (states : List SeqState) → names_of (map reopened states) ≡ names_of states
same_names [] = refl
same_names (state ∷ states) = ap (λ names. state.name ∷ names) (same_names states)

all_within : (states : List SeqState) → list_all is_within (map reopened states) ≡ true
all_within [] = refl
all_within (state ∷ states) = both_true _ _ (below_itself (state.upto +ℤ pos 1)) (all_within states)
  where
    below_itself : (n : ℤ) → int_le n n ≡ true
    below_itself n = grind (arith, ints)

pub still_sequences : (states : List SeqState) → IsTrue (are_sequences states) → IsTrue (are_sequences (map reopened states))
still_sequences states are =
    both_true (names_differ (names_of (map reopened states))) (list_all is_within (map reopened states))
    (ap names_differ (same_names states) ∙ first_true (names_differ (names_of states)) (list_all is_within states) are) (all_within states)

-- the renewed core is that of the journal with the opening
core_again : (horizon : ℕ) (journal : Journal) (core again : Core) → IsOfJournal core (forgetting_journal journal horizon) → IsRenewed core again → IsCoreOf core.log (opened_journal journal horizon) core.grants again
core_again horizon journal core again is new = record {
  tables = new.tables ∙ is.tables;
  book = new.book ∙ is.book.sessions;
  source = new.source ∙ source_on core.source (forgetting_journal journal horizon) horizon is.source;
  log_is = new.log_is;
  grants_are = new.grants_are;
}

pub opened_again : (horizon : ℕ) (kept_before kept_now : Resting) (again : Core) (old new : DiskState) (can : CanOpen horizon old.now.seen) → EachKeeps → RaisesHorizon → Opens horizon (Ok tt) kept_before kept_now old new → IsRenewed kept_now.core again
    → HasOpened horizon kept_before.core.grants old again new
opened_again horizon kept_before kept_now again old new can keeps raises opened renewed =
    let records = opening_of horizon (so_far_of old.now.seen) in
    let begins = first_of_opening horizon (so_far_of old.now.seen) in
    let opened_is = then_opens horizon (so_far_of old.now.seen) can.journal can.reads in
    let reads : journal_of new.now.seen ≡ Ok (opened_journal can.journal horizon) =
    opened.extends.added.journal ∙ ap (with_records records) can.reads ∙ ap (λ (l : List Record). Ok (fold with_record can.journal l)) opened_is
    ∙ ap (λ (j : Journal). Ok j) (one_last can.journal begins (kept.Opened (can.journal.incarnation + 1)) ∙ ap (λ (j : Journal). with_record j (kept.Opened (can.journal.incarnation + 1))) (raises old.now.seen can.journal horizon can.reads)) in
    let total : 4 * length records ≡ stop_of horizon old.now.seen =
    ap (λ (l : List Record). 4 * length l) opened_is ∙ (let sum : 4 * length (begins ++ kept.Opened (can.journal.incarnation + 1) ∷ []) ≡ 4 * length begins + 4 = omega (arith, length-append begins (kept.Opened (can.journal.incarnation + 1) ∷ [])) in sum) in
    has_opened horizon kept_before.core.grants old new kept_now.core.log (opened_journal can.journal horizon) again can keeps opened.extends.added (ap (with_opening horizon) can.reads) reads opened.ready
    (subst (λ (n : ℕ). Lowered n old.stop new.stop) total opened.extends.stop)
    (subst (λ (grants : Grants). IsCoreOf kept_now.core.log (opened_journal can.journal horizon) grants again) opened.stays.grants (core_again horizon can.journal kept_now.core again (opened.core can.journal can.reads) renewed))

pub raised_core : (horizon : ℕ) (old new : Resting) (disk end : DiskState) (can : CanOpen horizon disk.now.seen) → Opens horizon (Ok tt) old new disk end → IsOfJournal new.core (forgetting_journal can.journal horizon)
raised_core horizon old new disk end can opened = opened.core can.journal can.reads

pub few_before : (horizon : ℕ) (old new : Resting) (disk end : DiskState) (can : CanOpen horizon disk.now.seen) → Opens horizon (Ok tt) old new disk end → new.core.source.incarnation < 2 ^ 63
few_before horizon old new disk end can opened = let is = raised_core horizon old new disk end can opened in omega (arith, is.source.incarnation, can.incarnation)

pub room_behind : (horizon : ℕ) (old new : Resting) (disk end : DiskState) (can : CanOpen horizon disk.now.seen) → EachKeeps → length disk.now.seen ≤ 2 ^ 62 → Opens horizon (Ok tt) old new disk end
    → All (λ sequence. IsTrue (leaves_room sequence)) new.core.source.sequences
room_behind horizon old new disk end can keeps few opened =
    let is = raised_core horizon old new disk end can opened in
    AllPass-from_list_all leaves_room new.core.source.sequences
    (leave_room (forgetting_journal can.journal horizon) can.journal.base.sequences new.core.source.sequences is.source.sequences (goes_on disk.now.seen can.journal keeps can.reads few).within)

-- ---- what a whole store says

pub rests_whole : (grants : Grants) (disk end : DiskState) (found : Found) (core : Core) (is_opened : Bool) → EachKeeps → IsSettled disk → so_far_of disk.now.seen ≡ Ok (Begun found.journal is_opened found.has_horizon) → CanAdd found.log end → end.now ≡ disk.now
    → IsCoreOf found.log found.journal grants core → RestsBy grants disk (record { core = core; has_horizon = found.has_horizon })
rests_whole grants disk end found core is_opened keeps settled so_far ready same is =
    let kept_by = keeps disk.now.seen found.journal (ap journal_in so_far) in
    let trails = trails_at_end is_opened found.has_horizon found.journal found.log.redo end ready (ap (λ (m : DiskMoment). so_far_of m.seen) same ∙ so_far) core.log (ap (λ (l : Log). l.redo) is.log_is) in
    record {
      rests = λ image left. subst (λ (i : List ℕ). Rests i (record { core = core; has_horizon = found.has_horizon })) (sym (settled image left)) (record {
        is_opened = is_opened;
        journal = found.journal;
        of_journal = record {
          tables = is.tables;
          book = record { sessions = is.book; blocks = kept_by.commits.standing };
          source = source_of_is found.journal core.source is.source;
          sequences = subst (λ (o : Opening). IsTrue (are_sequences o.sequences)) (sym is.source) (source_is found.journal kept_by.base);
        };
        trails = subst (λ (m : DiskMoment). Trails is_opened found.has_horizon found.journal core.log m.seen) same trails;
      });
      granted = is.grants_are;
    }

-- what was kept or read, before the opening
pub read_before : (resting : Resting) (disk at : DiskState) → (let r : Result Resting ServeFault = Ok resting in OnlyReads (IsErrOf r serve_fault.Stopped) disk at) → OnlyReads (failed (Ok tt)) disk at
read_before resting disk at read =
    let r : Result Resting ServeFault = Ok resting in
    reads_for (IsErrOf r serve_fault.Stopped) (failed (Ok tt)) disk at (λ is. absurd (let none : ⊥ = cc in none)) (λ is. absurd (no_fault redo_fault.Stopped is)) read
