use Rattle.std.proofs.Common.{◌≡◌, List, drop}
use Rattle.svc_values.specs.declared.entry.Ltxid.{Ltxid}
use Rattle.ltxid_book.specs.meaning.Journal.{is_blocked}
use Rattle.stored_check.specs.Blocking.{all_answered}
use Rattle.stored_check.proofs.BlocksOn.{HasCome}
use Rattle.stored_check.proofs.blocks.first_disordered.Given as goal

abbrev pub invariant-loop-one : goal.invariant-loop-one
invariant-loop-one l =
    (before : List Ltxid) → ((x : Ltxid) → is_blocked l.fn.done x ≡ is_blocked before x) → HasCome l.blocking before l.blocked (all_answered l.answered) (all_answered (drop l.one-index l.answered))
