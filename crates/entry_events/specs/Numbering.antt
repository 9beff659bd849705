-- Entries by their sessions, and when each was stored: at 0 before the run, and else behind its
-- event.
use Rattle.std.specs.Prelude.{ℕ, ◌+◌, ◌==◌, ◌&&◌, Bool, nat_le, List, count_by}
use Rattle.std.specs.declared.cmp.Ordering.{Ordering}
use Rattle.std.specs.Ordering.{nat_cmp, ordering_then}
use Rattle.svc_values.specs.declared.entry.Entry.{Entry}
use Rattle.svc_values.specs.declared.entry.SessionId.{SessionId}
use Rattle.run_clauses.specs.meaning.EntryEvents.{StoredEntry}

-- the two numbers of its session, and its time
abbrev pub image_key : Entry → ℕ × ℕ × ℕ
image_key entry = (entry.ltxid.incarnation, entry.ltxid.session, 0)

abbrev pub stored_key : StoredEntry → ℕ × ℕ × ℕ
stored_key one = (one.ltxid.incarnation, one.ltxid.session, one.event + 1)

-- by session, and then by time
abbrev pub key_cmp : ℕ × ℕ × ℕ → ℕ × ℕ × ℕ → Ordering
key_cmp a b = ordering_then (ordering_then (nat_cmp a.0 b.0) (nat_cmp a.1 b.1)) (nat_cmp a.2 b.2)

-- it is one of this session, no later than this time
abbrev pub is_until : SessionId → ℕ → ℕ × ℕ × ℕ → Bool
is_until session time key = (key.0 == session.incarnation && key.1 == session.session)
    && nat_le key.2 time

-- how many are
abbrev pub until : List (ℕ × ℕ × ℕ) → SessionId → ℕ → ℕ
until keys session time = count_by (is_until session time) keys

-- how many entries of a session were stored before an event, and up to it
abbrev pub before : List (ℕ × ℕ × ℕ) → SessionId → ℕ → ℕ
before keys session event = until keys session event

abbrev pub up_to : List (ℕ × ℕ × ℕ) → SessionId → ℕ → ℕ
up_to keys session event = until keys session (event + 1)
