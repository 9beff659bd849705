use Rattle.std.proofs.Common.{◌≡◌, ◌||◌, drop}
use Rattle.svc_values.specs.declared.entry.Ltxid.{Ltxid}
use Rattle.ltxid_book.specs.meaning.Journal.{is_blocked}
use Rattle.legal_walk.proofs.service.ids_of.Given as goal

abbrev pub invariant-loop-ltxid : goal.invariant-loop-ltxid
invariant-loop-ltxid l = (x : Ltxid) → is_blocked l.ltxids x ≡ (is_blocked l.ids x || is_blocked (drop l.ltxid-index l.ltxids) x)
