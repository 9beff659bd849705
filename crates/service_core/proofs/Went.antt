-- Calls that are run from outside: the session that is made for them, and what stands beside it
-- throughout.
use Rattle.std.proofs.Common.{◌≡◌, ◌∙◌, ◌+◌, ℕ, refl, sym, ap, List, [], arith}
use Rattle.std.specs.Prelude.{Some, Ok}
use Rattle.disk_model.specs.Disk.{DiskState}
use Rattle.svc_values.specs.declared.entry.SessionId.{SessionId}
use Rattle.mutable_values.specs.declared.grants.Grants.{Grants}
use Rattle.commit_log.specs.declared.journal.Journal.{Journal}
use Rattle.commit_log.specs.meaning.Journals.{journal_of}
use Rattle.server_model.specs.ServiceCalls.{next_session as next_id}
use Rattle.server_model.specs.meaning.Base.{Base}
use Rattle.server_model.specs.Runs.{Happened}
use Rattle.server_session.specs.declared.shared.Core.{Core}
use Rattle.server_session.specs.SeenSession.{SeenSession as Session}
use Rattle.service_calls.specs.Kept.{HaveOneBase}
use Rattle.service_core.specs.declared.notes.Notes.{Notes}
use Rattle.service_core.specs.Held.{Held}
use Rattle.service_core.specs.Seeing.{state_of}
use Rattle.service_core.specs.Sound.{IsUp, unmade}
use Rattle.service_core.specs.Through.{Item, Through, Still, Then}
use Rattle.service_core.proofs.Beside.{IsBeside}
use Rattle.service_core.proofs.Faulty.{still_room}
use Rattle.service_core.proofs.Gained.{Grew, added_grew}
use Rattle.service_core.proofs.Standing.{later_call, seen_with}
use Rattle.service_core.proofs.Taken.{incarnation_is}

-- ---- the base

-- they leave a journal with its base
pub through_grew : (now : ℕ) (session : Session) (core : Core) (disk : DiskState) (journal : Journal) (items : List Item) (new : Session) (later : Core) (end : DiskState) → journal_of disk.now.seen ≡ Ok journal
    → Through now session core disk items new later end → Grew disk.now.seen [] journal end.now.seen
through_grew now session core disk journal _ _ _ _ reads Still = record { later = journal; reads = reads; base_is = refl }
through_grew now session core disk journal _ _ _ _ reads (Then items mid between at frame told new later end through served answered) =
    let first = through_grew now session core disk journal items mid between at reads through in
    let next = added_grew at.now.seen served.records first.later end.now.seen first.reads served.gained.added in
    record { later = next.later; reads = next.reads; base_is = next.base_is ∙ first.base_is }

pub one_base_on : (old mid new : List ℕ) (between : Journal) → journal_of mid ≡ Ok between → HaveOneBase old mid → HaveOneBase mid new → HaveOneBase old new
one_base_on old mid new between reads first second journal other is is_other = second between other reads is_other ∙ first journal between is reads

-- ---- the session

-- one session more was made in one call more
abbrev pub made_notes : Notes → Notes
made_notes notes = record notes { sessions = notes.sessions + 1; calls = notes.calls + 1 }

-- the one that is made for it
abbrev pub made_session : Core → Notes → Session
made_session core notes = unmade core (notes.sessions + 1)

abbrev pub made_id : Core → Notes → SessionId
made_id core notes = record { incarnation = core.source.incarnation; session = notes.sessions + 1 }

pub made_beside : (grants : Grants) (disk : DiskState) (core : Core) (held : Held) (notes : Notes) → IsUp grants disk core held notes → IsBeside grants disk core held (made_notes notes) (made_session core notes)
made_beside grants disk core held notes up = record {
  up = record {
    fits = up.fits;
    granted = up.granted;
    faults = still_room disk.faults disk.faults notes (made_notes notes) up.faults refl (omega arith) refl;
    settled = up.settled;
    room = omega (arith, up.room);
    few = omega (arith, up.few);
    crashes = omega (arith, up.crashes);
    each = λ connection other at. let one = up.each connection other at in record { reads = one.reads; noted = one.noted; belongs = one.belongs; lives = one.lives; numbered = omega (arith, one.numbered) };
    counted = λ connection other at. later_call other.ltxid.number notes.calls (up.counted connection other at);
    unmade_belong = λ number above. up.unmade_belong number (omega (arith, above));
    apart = up.apart;
  };
  going = record { fits = up.fits; belongs = up.unmade_belong (notes.sessions + 1) (omega arith); reads = []; noted = λ at. tt };
  numbered = omega arith;
  apart = λ connection other at same. let one = up.each connection other at in let no : ⊥ = omega (arith, one.numbered, same) in no;
}

-- it is the next one by what is shown
pub made_is_next : (grants : Grants) (disk : DiskState) (core : Core) (held : Held) (notes : Notes) (start : Base) (history : List Happened) → IsUp grants disk core held notes
    → made_id core notes ≡ next_id (seen_with start history (state_of disk (Some core) held notes))
made_is_next grants disk core held notes start history up = ap (λ (n : ℕ). record { incarnation = n; session = notes.sessions + 1 }) (sym (incarnation_is grants disk core held notes up))
