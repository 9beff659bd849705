use Rattle.std.proofs.Common.{◌≡◌, ◌+◌, true, sym, ◌∙◌}
use Rattle.std.specs.Prelude.{nat_le}
use Rattle.commit_log.specs.meaning.Rules.{rises}
use Rattle.commit_log.proofs.Committing.{second_holds, notes_horizon}
use Rattle.commit_log.proofs.judge.Judge.forget.Goals as goal

pub returns-clause-kept : goal.returns-clause-kept
returns-clause-kept c =
    let judge = c.args.self.now in
    let journal = judge.journal in
    let horizon = c.args.horizon in
    let up : rises journal judge.has_horizon horizon ≡ true = second_holds (nat_le horizon (journal.incarnation + 1)) (rises journal judge.has_horizon horizon) (sym c.can_forget.ensures ∙ c.if-not-can_forget.false) in
    record {
      book_for = notes_horizon judge.book c.forget.new.self journal judge.has_horizon horizon c.requires.book_for c.requires.unset up c.forget.ensures;
      shape = c.requires.shape;
      ends = c.requires.ends;
      unset = λ e. absurd cc;
    }
