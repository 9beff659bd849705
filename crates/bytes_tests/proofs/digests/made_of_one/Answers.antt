use Rattle.std.proofs.Common.{[], sym, ◌∙◌}
use Rattle.bytes_tests.proofs.digests.made_of_one.Goals as goal

-- one answer was taken in, and it was begun for one
pub finish-requires : goal.finish-requires
finish-requires c = let taken = c.in_ok-add.ensures.ok 1 [] c.new-digesting.ensures in taken.taken ∙ sym taken.begun
