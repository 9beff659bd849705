use Rattle.std.proofs.Common.{◌≡◌, Bool, true, List, sym, ◌∙◌, subst}
use Rattle.svc_values.specs.declared.entry.Write.{Write}
use Rattle.svc_values.specs.meaning.Endings.{ends_committed}
use Rattle.server_model.specs.meaning.Walk.{if_commits}
use Rattle.legal_walk.specs.Beside.{Moves}
use Rattle.legal_walk.proofs.service.Service.settle.Goals as goal

pub returns-clause-moves : goal.returns-clause-moves
returns-clause-moves c =
    let commits : true ≡ ends_committed c.args.answers.now = sym c.if-not-ends_committed.false ∙ c.ends_committed.ensures in
    subst (λ (b : Bool). Moves c.args.self.now (λ walk. if_commits b walk c.args.ongoing.going.writes) c.commit.new.self) commits
    (subst (λ (writes : List Write). Moves c.args.self.now (λ walk. if_commits true walk writes) c.commit.new.self) c.end-writes.ensures.writes c.in_ok-commit.ensures)
