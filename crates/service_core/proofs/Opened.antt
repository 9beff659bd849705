-- What a service is seen as after an opening.
use Rattle.std.proofs.Common.{◌≡◌, ◌∙◌, ◌+◌, ◌≤◌, ◌^◌, ℕ, Bool, true, false, refl, sym, ap, subst, List, [], ◌∷◌, map, append-nil, arith}
use Rattle.std.proofs.lemmas.Bool.Decides.{nat_tests}
use Rattle.std.proofs.lemmas.List.Elements.{All-tail, All-head}
use Rattle.std.specs.Prelude.{Option, Some, None, Result, Ok, Err, IsErrOf, IfOk, is_some, All, max, length, nat_lt, if◌then◌else◌}
use Rattle.disk_model.specs.Disk.{DiskState, Caused}
use Rattle.redo_store.specs.meaning.Records.{records_of}
use Rattle.redo_store.specs.Records.{record_count}
use Rattle.svc_values.specs.declared.entry.Entry.{Entry}
use Rattle.svc_values.specs.meaning.Identifiers.{is_of}
use Rattle.ltxid_book.specs.declared.State.{State}
use Rattle.ltxid_book.specs.meaning.Journal.{Committed, committed_of, commits_of, state_of as state_by}
use Rattle.ltxid_book.specs.meaning.Sessions.{untouched}
use Rattle.ltxid_book.specs.Sessions.{sessions_in}
use Rattle.commit_log.specs.declared.journal.Journal.{Journal}
use Rattle.commit_log.specs.meaning.Journals.{journal_of}
use Rattle.commit_log.specs.Keeping.{EachKeeps}
use Rattle.commit_log.specs.meaning.Rules.{sessions_of}
use Rattle.server_model.specs.declared.fault.ServeFault.{ServeFault}
use Rattle.server_model.specs.declared.fault.ServeFault.TheVariants as fault
use Rattle.server_model.specs.meaning.Base.{Base}
use Rattle.server_model.specs.Core.{Core as Plain}
use Rattle.server_model.specs.Runs.{Happened, Server, Off, On, Runs, Then, Opens, MayOpen}
use Rattle.server_model.specs.Seen.{Store, HasPower}
use Rattle.server_model.specs.ServiceCalls.{Opened, SameLists, MayForget as MayForgetAt}
use Rattle.server_session.specs.declared.shared.Core.{Core}
use Rattle.server_session.specs.Plain.{IsStored}
use Rattle.server_session.specs.SeenSession.{SeenSession as Session}
use Rattle.service_calls.specs.Kept.{Goes}
use Rattle.service_core.specs.declared.notes.Notes.{Notes}
use Rattle.service_core.specs.Held.{Held, held_at}
use Rattle.service_core.specs.InnerHonest.{store_is}
use Rattle.service_core.specs.Opening.{HasOpened}
use Rattle.service_core.specs.Within.{Within}
use Rattle.service_core.specs.Seeing.{store_in, store_of, state_in, Stands, StandsIn, SeesIn}
use Rattle.service_core.specs.Sound.{IsDown, IsSoundWithin, Reads}
use Rattle.service_core.proofs.Faulty.{still_none, still_room}
use Rattle.service_core.proofs.Reaching.{opened_journal}
use Rattle.service_core.proofs.Reopening.{opened_plain, opened_is, opened_reads, plain_again}
use Rattle.service_core.proofs.Standing.{goes_from}

-- ---- a service that is down

pub down_of : (old : Within) → is_some old.core ≡ false → IsSoundWithin old → IsDown old.disk old.held old.notes
down_of old down sound = by old.core down sound
  where
    by : (core : Option Core) → is_some core ≡ false → IsSoundWithin (record old { core = core }) → IsDown old.disk old.held old.notes
    by None none sound = sound
    by (Some core) none sound = absurd (cc)

pub stands_down : (old : Within) (start : Base) (history : List Happened) → is_some old.core ≡ false → StandsIn old start history → Stands old.grants old.disk None old.held old.notes start history
stands_down old start history down stands = by old.core down stands
  where
    by : (core : Option Core) → is_some core ≡ false → StandsIn (record old { core = core }) start history → Stands old.grants old.disk None old.held old.notes start history
    by None none stands = stands
    by (Some core) none stands = absurd (cc)

-- no connection lives where none is held
none_at : {A : Type 0} (held : Held) (connection : ℕ) (session : Session) → held ≡ [] → held_at held connection ≡ Some (Some session) → A
none_at held connection session none is = absurd (let e : ◌≡◌ {A = Option (Option Session)} None (Some (Some session)) = ap (λ (h : Held). held_at h connection) (sym none) ∙ is in cc)

-- what may be forgotten by the state may be by the journal
pub may_forget : (old : Within) (journal : Journal) (below : ℕ) → journal_of old.disk.now.seen ≡ Ok journal → MayForgetAt (state_in old) below → below ≤ journal.incarnation + 1
may_forget old journal below reads may = subst (λ (s : Store). below ≤ s.incarnation + 1) (store_is old.disk.now.seen journal reads) may

-- the plain server that has what the journal has may then be opened as well
pub may_open : (plain : Plain) (journal : Journal) (below : ℕ) → IsStored plain journal → journal.incarnation ≤ 2 ^ 63 → below ≤ journal.incarnation + 1 → MayOpen plain below
may_open plain journal below stored few may = record { spelled = omega (arith, stored.source.incarnation, few); forgets = subst (λ (n : ℕ). below ≤ n + 1) (sym stored.source.incarnation) may }

-- ---- no session of this incarnation has committed

none_later : (entries : List Entry) (n session : ℕ) → All (λ entry. entry.ltxid.incarnation ≤ n) entries → commits_of (map committed_of entries) (n + 1) session ≡ []
none_later [] n session each = refl
none_later (entry ∷ entries) n session each =
    let other : is_of entry.ltxid (n + 1) session ≡ false = not_of entry (All-head (λ (one : Entry). one.ltxid.incarnation ≤ n) entry entries each) in
    rw other (none_later entries n session (All-tail (λ (one : Entry). one.ltxid.incarnation ≤ n) entry entries each))
  where
    not_of : (one : Entry) → one.ltxid.incarnation ≤ n → is_of one.ltxid (n + 1) session ≡ false
    not_of one earlier = grind (arith, nat_tests)

next_none : (forgotten : Bool) (state : State) → state.next ≡ 0 → 0 ≡ (if forgotten then untouched else state).next
next_none true state none = refl
next_none false state none = sym none

unmade_next : (journal : Journal) (below session : ℕ) → All (λ entry. entry.ltxid.incarnation ≤ journal.incarnation) journal.entries → 0 ≡ ((sessions_of (opened_journal journal below)).state (journal.incarnation + 1) session).next
unmade_next journal below session earlier =
    next_none (nat_lt (journal.incarnation + 1) (max journal.horizon below)) (state_by (map committed_of journal.entries) journal.blocked (journal.incarnation + 1) session)
    (ap (λ (l : List Committed). length l) (none_later journal.entries journal.incarnation session earlier))

-- ---- an opening

-- the notes of a service that was opened: `stop` is the one at the start of the call
abbrev pub opened_notes : Notes → Option ℕ → Notes
opened_notes notes stop = record notes { is_opened = true; sessions = 0; kept = stop; calls = notes.calls + 1 }

abbrev pub opened_from : Within → DiskState → Core → Option ℕ → Within
opened_from old new core stop = record old { disk = new; core = Some core; notes = opened_notes old.notes stop }

-- what an opening says of its disk beside what it has opened
pub record IsOpening (below : ℕ) (old : Within) (new : DiskState) (core : Core) : Type 0 where
  pub opened : HasOpened below old.grants old.disk core new
  pub faults : new.faults ≡ old.disk.faults
  pub quiet : new.quiet ≡ old.disk.quiet

pub is_opening : (below : ℕ) (old : Within) (new : DiskState) (core : Core) → HasOpened below old.grants old.disk core new → Caused (IsErrOf {T = Core} {E = ServeFault} (Ok core) fault.Stopped) old.disk new → IsOpening below old new core
is_opening below old new core opened cause = record {
  opened = opened;
  faults = cause.uncounted (λ stopped. absurd (let e : ◌≡◌ {A = Result Core ServeFault} (Ok core) (Err fault.Stopped) = stopped in cc));
  quiet = cause.still_quiet;
}

-- what it was opened from
read_of : (old : Within) (down : IsDown old.disk old.held old.notes) → Reads down.base old.notes old.disk.now.seen
read_of old down = down.leaves old.disk.now.seen down.reads_now

pub opens_soundly : (old : Within) (new : DiskState) (core : Core) (stop : Option ℕ) (below : ℕ) → EachKeeps → is_some old.core ≡ false → old.notes.is_settled ≡ true → IsSoundWithin old → IsOpening below old new core → IsSoundWithin (opened_from old new core stop)
opens_soundly old new core stop below keeps off settled sound opening =
    let down = down_of old off sound in
    let read = read_of old down in
    let opened = opening.opened in
    let is = opened_is read.journal below old.grants old.disk new core read.reads opened in
    let number : core.source.incarnation ≡ read.journal.incarnation + 1 = opened.fits.source.incarnation ∙ ap (λ (j : Journal). j.incarnation) is in
    let book : sessions_in core.book ≡ sessions_of (opened_journal read.journal below) = opened.fits.book.sessions ∙ ap sessions_of is in
    record {
      fits = opened.fits;
      granted = opened.grants_are;
      faults = still_room old.disk.faults new.faults old.notes (opened_from old new core stop).notes down.faults opening.faults (omega arith) refl;
      settled = settled;
      room = omega (arith, number, read.room);
      few = omega arith;
      crashes = omega (arith, down.crashes);
      each = λ connection session at. none_at old.held connection session down.none at;
      counted = λ connection session at. none_at old.held connection session down.none at;
      unmade_belong = λ session above. record {
        incarnation = refl;
        number = unmade_next read.journal below session (keeps old.disk.now.seen read.journal read.reads).commits.earlier ∙ sym (λ i. ((book i).state (number i) session).next);
        writes = refl;
        calls = tt;
        holds = refl;
      };
      apart = λ connection other session another here there one. none_at old.held connection session down.none here;
    }

opened_stands : (old : Within) (new : DiskState) (core : Core) (stop : Option ℕ) (below : ℕ) (start : Base) (history : List Happened) → EachKeeps → is_some old.core ≡ false → old.notes.is_settled ≡ true → IsSoundWithin old → MayForgetAt (state_in old) below → IsOpening below old new core
    → StandsIn old start history → StandsIn (opened_from old new core stop) start history
opened_stands old new core stop below start history keeps off settled sound may opening stands =
    let down = down_of old off sound in
    let read = read_of old down in
    let came = stands_down old start history off stands old.disk.now.seen down.reads_now in
    let server : Server = record { power = On; core = opened_plain came.server.core below; sessions = []; count = 0 } in
    let stored = subst (λ (r : Result Journal ℕ). IfOk r (IsStored came.server.core)) read.reads came.stands.stored in
    let power : came.server.power ≡ Off = subst (λ (b : Bool). HasPower false b came.server.power) settled came.stands.power in
    let opens : MayOpen came.server.core below = may_open came.server.core read.journal below stored (keeps old.disk.now.seen read.journal read.reads).incarnation (may_forget old read.journal below read.reads may) in
    record {
      server = server;
      runs = subst (λ (h : List Happened). Runs start h server) (append-nil history) (Then history [] came.server server came.runs (Opens below power opens));
      is_base = came.is_base;
      stands = record {
        power = refl;
        plain = plain_again came.server.core read.journal below old.grants old.disk new core stored came.stands.grants_are read.reads opening.opened;
        count = refl;
        attends = λ connection session at. none_at old.held connection session down.none at;
      };
    }

-- what an opened store holds
record IsOpenedStore (old : Store) (below : ℕ) (new : Store) : Type 0 where
  lists : SameLists old new
  incarnation : new.incarnation ≡ old.incarnation + 1
  horizon : new.horizon ≡ max old.horizon below

store_opened : (old new : List ℕ) (journal : Journal) (below : ℕ) → journal_of old ≡ Ok journal → journal_of new ≡ Ok (opened_journal journal below) → IsOpenedStore (store_of old) below (store_of new)
store_opened old new journal below reads later =
    subst (λ (s : Store). IsOpenedStore s below (store_of new)) (sym (store_is old journal reads))
    (subst (λ (s : Store). IsOpenedStore (store_in (Ok journal) (record_count (records_of old))) below s) (sym (store_is new (opened_journal journal below) later))
    (record { lists = record { entries = refl; blocked = refl; alerts = refl }; incarnation = refl; horizon = refl }))

pub opens : (old : Within) (new : DiskState) (core : Core) (stop : Option ℕ) (below : ℕ) → stop ≡ old.disk.stop → EachKeeps → old.notes.is_spent ≡ false → is_some old.core ≡ false → old.notes.is_settled ≡ true → IsSoundWithin old → MayForgetAt (state_in old) below → IsOpening below old new core
    → Goes (SeesIn old) (SeesIn (opened_from old new core stop)) (λ before after. Opened before below after)
opens old new core stop below same keeps live off settled sound may opening =
    goes_from old (opened_from old new core stop) (λ before after. Opened before below after) live (opens_soundly old new core stop below keeps off settled sound opening)
    (λ start history stands.
    let read = read_of old (down_of old off sound) in
    let store = store_opened old.disk.now.seen new.now.seen read.journal below read.reads (opened_reads read.journal below old.grants old.disk new core read.reads opening.opened) in
    record {
      later = history;
      stands = opened_stands old new core stop below start history keeps off settled sound may opening stands;
      does = record {
        keeps = record {
          start = refl;
          history = refl;
          living = λ connection. refl;
          is_quiet = opening.quiet;
          per_record = refl;
          crashes = (refl, refl, refl);
          faults = omega (arith, opening.faults);
          stop = λ none. still_none _ old.disk.stop new.stop opening.opened.stop none;
          kept = same;
          calls = refl;
          is_spent = live;
        };
        is_up = (refl, refl);
        lists = store.lists;
        incarnation = store.incarnation;
        horizon = store.horizon;
        sessions = refl;
        cause = record { rose = λ stopped. absurd (let e : ◌≡◌ {A = Bool} false true = stopped in cc); quiet = λ is_quiet changed. absurd (changed opening.faults) };
      };
    })
