use Rattle.std.proofs.Common.{◌≡◌, drop}
use Rattle.std.specs.List.{list_all}
use Rattle.ltxid_book.specs.meaning.Journal.{is_blocked}
use Rattle.stored_check.proofs.blocks.first_other.Given as goal

abbrev pub invariant-loop-at : goal.invariant-loop-at
invariant-loop-at l = list_all (is_blocked l.ids) (drop l.at l.blocked) ≡ list_all (is_blocked l.ids) l.blocked
