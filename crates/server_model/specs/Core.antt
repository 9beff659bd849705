-- What the sessions of a service share: its store and its source of values.
-- Here is what contracts and proofs say of it besides.
use Rattle.std.specs.Prelude.{ℕ, pos, ◌+ℤ◌, List, [], ◌++◌, map}
use Rattle.std.specs.List.{flat_map}
use Rattle.svc_values.specs.declared.entry.Entry.{Entry}
use Rattle.svc_values.specs.declared.entry.Ltxid.{Ltxid}
use Rattle.svc_values.specs.declared.entry.Write.{Write}
use Rattle.svc_values.specs.declared.tables.PlainRow.{PlainRow}
use Rattle.svc_values.specs.meaning.Tables.{with_writes}
use Rattle.ltxid_book.specs.meaning.Sessions.{Sessions}
use Rattle.ltxid_book.specs.meaning.Journal.{book_of, committed_of}
use Rattle.mutable_values.specs.declared.source.SeqState.{SeqState}
use Rattle.mutable_values.specs.Sources.{Opening}
use Rattle.server_model.specs.meaning.Base.{Base}
use Rattle.server_model.specs.meaning.Core.{sequence_at}

-- `entries`, `blocked` and `alerts` are what the store has gained since the service was made, each
-- in the order in which it was stored. Outcomes of incarnations below `horizon` are forgotten.
pub record Core : Type 0 where
  pub base : Base
  pub opening : Opening
  pub entries : List Entry
  pub blocked : List Ltxid
  pub alerts : List (List ℕ)
  pub horizon : ℕ

abbrev pub writes_in : Entry → List Write
writes_in entry = entry.writes

-- the tables with what entries wrote, one entry after the other
abbrev pub tables_with : List PlainRow → List Entry → List PlainRow
tables_with tables entries = with_writes tables (flat_map writes_in entries)

-- what is committed now
abbrev pub committed : Core → List PlainRow
committed core = tables_with core.base.tables core.entries

-- all entries of the store, and all identifiers that it blocks
abbrev pub all_entries : Core → List Entry
all_entries core = core.base.entries ++ core.entries

abbrev pub all_blocked : Core → List Ltxid
all_blocked core = core.base.blocked ++ core.blocked

-- what the store says of each session
abbrev pub book : Core → Sessions
book core = book_of core.horizon (map committed_of (all_entries core)) (all_blocked core)

-- a sequence goes on behind its last block
abbrev pub reopened : SeqState → SeqState
reopened sequence = record sequence { next = sequence.upto +ℤ pos 1 }

-- the source of a new opening
abbrev pub opening_after : Opening → ℕ → Opening
opening_after opening incarnation = record {
  incarnation = incarnation;
  identifiers = 0;
  sequences = map reopened opening.sequences;
}

-- a service as it is made has gained nothing
abbrev pub core_of : Base → Core
core_of base = record {
  base = base;
  opening = record {
    incarnation = base.incarnation;
    identifiers = 0;
    sequences = map sequence_at base.sequences;
  };
  entries = [];
  blocked = [];
  alerts = [];
  horizon = base.horizon;
}
