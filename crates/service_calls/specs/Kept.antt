-- What every call of a service keeps, and what the bytes of its store say.
use Rattle.std.specs.Prelude.{◌≡◌, ℕ, List, Ok}
use Rattle.commit_log.specs.declared.journal.Journal.{Journal}
use Rattle.commit_log.specs.meaning.Journals.{journal_of}
use Rattle.server_model.specs.Seen.{Store, ServiceState, Seen, IsHistory}

-- the journal says what the store holds
pub record Tells (store : Store) (journal : Journal) : Type 0 where
  pub incarnation : journal.incarnation ≡ store.incarnation
  pub horizon : journal.horizon ≡ store.horizon
  pub entries : journal.entries ≡ store.entries
  pub blocked : journal.blocked ≡ store.blocked
  pub alerts : journal.alerts ≡ store.alerts

-- the bytes are those of a journal that says so
pub record Pictures (store : Store) (bytes : List ℕ) : Type 0 where
  pub journal : Journal
  pub reads : journal_of bytes ≡ Ok journal
  pub tells : Tells store journal

-- both are of journals with one base
abbrev pub HaveOneBase : List ℕ → List ℕ → Type 0
HaveOneBase old new = (journal other : Journal) → journal_of old ≡ Ok journal
    → journal_of new ≡ Ok other → other.base ≡ journal.base

-- What is seen of a service in this state, whose store has these bytes: the history is one of the
-- plain server, which ends with the store, and the bytes say what the store holds.
pub record IsHonest (state : ServiceState) (bytes : List ℕ) (seen : Seen) : Type 0 where
  pub state_is : seen.state ≡ state
  pub history : IsHistory seen
  pub pictures : Pictures seen.state.store bytes

-- Whatever was seen before, something is seen afterwards of which this holds.
abbrev pub Goes : (Seen → Type 0) → (Seen → Type 0) → (Seen → Seen → Type 0) → Type 0
Goes before after Holds = (old : Seen) → before old → (new : Seen) × (after new × Holds old new)
