use Rattle.std.proofs.Common.{ap, ◌∙◌}
use Rattle.ltxid_book.specs.meaning.Sessions.{Sessions, may_commit as may_note}
use Rattle.store_tests.proofs.adding.may_block.Goals as goal

pub returns : goal.returns
returns c = c.may_commit.ensures ∙ ap (λ (s : Sessions). may_note s c.args.x.now) c.in_ok-book.ensures
