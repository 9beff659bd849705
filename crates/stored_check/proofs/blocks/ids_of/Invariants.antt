use Rattle.std.proofs.Common.{◌≡◌, ◌||◌, drop}
use Rattle.std.specs.List.{list_any}
use Rattle.svc_values.specs.declared.entry.Ltxid.{Ltxid}
use Rattle.svc_values.specs.meaning.Identifiers.{same_ltxid}
use Rattle.ltxid_book.specs.meaning.Journal.{is_blocked}
use Rattle.stored_check.specs.Blocking.{all_answered}
use Rattle.stored_check.proofs.blocks.ids_of.Given as goal

abbrev pub invariant-loop-one : goal.invariant-loop-one
invariant-loop-one l =
    (x : Ltxid) → (is_blocked l.ids x || list_any (λ one. same_ltxid one.ltxid x) (all_answered (drop l.one-index l.answered))) ≡ list_any (λ one. same_ltxid one.ltxid x) (all_answered l.answered)
