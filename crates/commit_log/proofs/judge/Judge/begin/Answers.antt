use Rattle.std.proofs.Common.{sym, ap, ◌∙◌}
use Rattle.std.specs.List.{list_all}
use Rattle.commit_log.specs.meaning.Bases.{is_sequence}
use Rattle.commit_log.proofs.Reserving.{sequences_begin}
use Rattle.commit_log.proofs.judge.Judge.begin.Goals as goal

pub first_ends-requires : goal.first_ends-requires
first_ends-requires c =
    ap (list_all is_sequence) c.as_slice.ensures.items ∙ sequences_begin c.in-Some-Base.base (sym c.in_ok-is_base.ensures ∙ c.if-not-branch.false)
