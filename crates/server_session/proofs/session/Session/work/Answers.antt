use Rattle.std.proofs.Common.{◌≡◌, ◌+◌, true, false, sym, ◌∙◌, ap, subst}
use Rattle.std.proofs.lemmas.Result.{err_from_is_err_and}
use Rattle.std.specs.Prelude.{Err}
use Rattle.svc_values.specs.declared.call.Call.TheVariants as call
use Rattle.svc_values.specs.declared.frame.Down.TheVariants as down
use Rattle.svc_values.specs.declared.frame.Up.TheVariants as up
use Rattle.svc_values.specs.meaning.Calls.{sequences_in}
use Rattle.svc_values.specs.meaning.Endings.{ends_committed}
use Rattle.table_txn.specs.Changes.{begun_at}
use Rattle.server_model.specs.Sessions.{piece_of}
use Rattle.server_session.specs.Dealing.{AtDesk}
use Rattle.server_session.specs.Fits.{Belongs}
use Rattle.server_session.specs.Running.{HasRunOver, RunsOver}
use Rattle.server_session.specs.SeenSession.{SeenSession}
use Rattle.server_session.specs.Serving.{Serves, commits_as}
use Rattle.server_session.proofs.Quiet.{noting}
use Rattle.server_session.proofs.Worked.{core_after, err_is, ground_of, seen_is, start_at, work_answered, work_belongs, work_committed, work_ended, work_fits, work_lacked}
use Rattle.server_session.proofs.session.Session.work.Goals as goal

pub returns-in_err-answers : goal.returns-in_err-answers
returns-in_err-answers g c =
    let state = g.D.Disk.state in
    let disk = state c.args.disk.now in
    let core = c.args.core.now in
    let old = c.args.self.now in
    let statements = c.args.statements.now in
    let desk : AtDesk = record { opening = c.run_over.new.source; left = c.run_over.new.kept; log = c.run_over.new.log; disk = state c.run_over.new.disk } in
    let most = 1 + sequences_in (up.Call c.args.replay c.args.kept.now (call.Work statements c.args.commit)) in
    let over = subst (λ (s : SeenSession). RunsOver c.args.now (ground_of core s statements) most (start_at core c.in_ok-left.left disk) (Err c.in_err-answers.field-0.0) c.run_over.new.txn desk) c.self.view_is c.in_err-answers.ensures in
    let p = err_from_is_err_and c.from_residual-in_err-answers.result c.from_residual-in_err-answers.ensures.1 in
    work_ended statements c.args.commit c.args.replay c.args.kept.now c.args.now old core disk c.requires.fits c.requires.belongs c.args.call.now c.requires.call c.in_ok-left.left c.in_ok-left.ensures
    c.in_err-answers.field-0.0 c.run_over.new.txn desk c.from_residual-in_err-answers.result _ (err_is c.from_residual-in_err-answers.result p.0 c.in_err-answers.field-0.0 p.1 p.2) over

pub returns-in_err-answers-2 : goal.returns-in_err-answers-2
returns-in_err-answers-2 g c =
    let state = g.D.Disk.state in
    let disk = state c.args.disk.now in
    let core = c.args.core.now in
    let old = c.args.self.now in
    let statements = c.args.statements.now in
    let desk : AtDesk = record { opening = c.run_over.new.source; left = c.run_over.new.kept; log = c.run_over.new.log; disk = state c.run_over.new.disk } in
    let over = subst (λ (s : SeenSession). HasRunOver c.args.now (ground_of core s statements) (start_at core c.in_ok-left.left disk) c.in_ok-answers.field-0 c.run_over.new.txn desk) c.self.view_is c.in_ok-answers.ensures in
    let p = err_from_is_err_and c.from_residual-in_err-answers-2.result c.from_residual-in_err-answers-2.ensures.1 in
    work_lacked statements c.args.commit c.args.replay c.args.kept.now c.args.now old core disk c.requires.fits c.requires.belongs c.args.call.now c.requires.call c.in_ok-left.left c.in_ok-left.ensures
    c.in_ok-answers.field-0 c.run_over.new.txn desk over
    c.from_residual-in_err-answers-2.result _ _ (err_is c.from_residual-in_err-answers-2.result p.0 _ p.1 p.2)

pub commit-requires : goal.commit-requires
commit-requires g c =
    let state = g.D.Disk.state in
    let disk = state c.args.disk.now in
    let core = c.args.core.now in
    let old = c.args.self.now in
    let statements = c.args.statements.now in
    let desk : AtDesk = record { opening = c.run_over.new.source; left = c.run_over.new.kept; log = c.run_over.new.log; disk = state c.run_over.new.disk } in
    let over = subst (λ (s : SeenSession). HasRunOver c.args.now (ground_of core s statements) (start_at core c.in_ok-left.left disk) c.in_ok-answers.field-0 c.run_over.new.txn desk) c.self.view_is c.in_ok-answers.ensures in
    let answers = c.in_ok-answers-2.answers in
    let same = seen_is core _ old c.run_over.new.txn c.or-self-inside.result c.self.view_is (c.or-self-inside.ensures ∙ ap (begun_at c.self.inside.since) c.commits.ensures) in
    record {
      fits = work_fits statements c.args.commit c.args.replay c.args.kept.now c.args.now old core disk c.requires.fits c.requires.belongs c.args.call.now c.requires.call c.in_ok-left.left c.in_ok-left.ensures
          c.in_ok-answers.field-0 c.run_over.new.txn desk over answers c.in_ok-answers-2.ensures;
      belongs = subst (λ (s : SeenSession). Belongs (core_after core desk) s) (sym same)
          (work_belongs statements c.args.commit c.args.replay c.args.kept.now c.args.now old core disk c.requires.fits c.requires.belongs c.args.call.now c.requires.call c.in_ok-left.left c.in_ok-left.ensures
          c.in_ok-answers.field-0 c.run_over.new.txn desk over answers c.in_ok-answers-2.ensures);
      made = c.requires.made;
    }

pub returns-then-ends_committed : goal.returns-then-ends_committed
returns-then-ends_committed g c =
    let state = g.D.Disk.state in
    let disk = state c.args.disk.now in
    let core = c.args.core.now in
    let old = c.args.self.now in
    let statements = c.args.statements.now in
    let desk : AtDesk = record { opening = c.run_over.new.source; left = c.run_over.new.kept; log = c.run_over.new.log; disk = state c.run_over.new.disk } in
    let over = subst (λ (s : SeenSession). HasRunOver c.args.now (ground_of core s statements) (start_at core c.in_ok-left.left disk) c.in_ok-answers.field-0 c.run_over.new.txn desk) c.self.view_is c.in_ok-answers.ensures in
    let answers = c.in_ok-answers-2.answers in
    let ends : ends_committed answers ≡ true = ap ends_committed (sym c.as_slice.ensures) ∙ (sym c.ends_committed.ensures ∙ c.if-ends_committed.true) in
    let same = seen_is core _ old c.run_over.new.txn c.or-self-inside.result c.self.view_is (c.or-self-inside.ensures ∙ ap (begun_at c.self.inside.since) c.commits.ensures) in
    let served = subst (λ (s : SeenSession). Serves (commits_as c.args.replay c.args.call.now answers c.in_ok-answers.field-0.draws) 1 c.commit.result s (core_after core desk) desk.disk c.commit.new.self c.commit.new.core (state c.commit.new.disk)) same c.commit.ensures in
    work_committed statements c.args.commit c.args.replay c.args.kept.now c.args.now old core disk c.requires.fits c.requires.belongs c.args.call.now c.requires.call c.in_ok-left.left c.in_ok-left.ensures
    c.in_ok-answers.field-0 c.run_over.new.txn desk over answers c.in_ok-answers-2.ensures
    c.commit.result c.commit.new.self c.commit.new.core (state c.commit.new.disk) ends served

pub returns-in_err-told : goal.returns-in_err-told
returns-in_err-told g c =
    let state = g.D.Disk.state in
    let disk = state c.args.disk.now in
    let core = c.args.core.now in
    let old = c.args.self.now in
    let statements = c.args.statements.now in
    let desk : AtDesk = record { opening = c.run_over.new.source; left = c.run_over.new.kept; log = c.run_over.new.log; disk = state c.run_over.new.disk } in
    let over = subst (λ (s : SeenSession). HasRunOver c.args.now (ground_of core s statements) (start_at core c.in_ok-left.left disk) c.in_ok-answers.field-0 c.run_over.new.txn desk) c.self.view_is c.in_ok-answers.ensures in
    let p = err_from_is_err_and c.from_residual-in_err-told.result c.from_residual-in_err-told.ensures.1 in
    work_lacked statements c.args.commit c.args.replay c.args.kept.now c.args.now old core disk c.requires.fits c.requires.belongs c.args.call.now c.requires.call c.in_ok-left.left c.in_ok-left.ensures
    c.in_ok-answers.field-0 c.run_over.new.txn desk over
    c.from_residual-in_err-told.result _ _ (err_is c.from_residual-in_err-told.result p.0 _ p.1 p.2)

pub returns : goal.returns
returns g c =
    let state = g.D.Disk.state in
    let disk = state c.args.disk.now in
    let core = c.args.core.now in
    let old = c.args.self.now in
    let statements = c.args.statements.now in
    let desk : AtDesk = record { opening = c.run_over.new.source; left = c.run_over.new.kept; log = c.run_over.new.log; disk = state c.run_over.new.disk } in
    let over = subst (λ (s : SeenSession). HasRunOver c.args.now (ground_of core s statements) (start_at core c.in_ok-left.left disk) c.in_ok-answers.field-0 c.run_over.new.txn desk) c.self.view_is c.in_ok-answers.ensures in
    let answers = c.in_ok-answers-2.answers in
    let draws = c.in_ok-answers.field-0.draws in
    let open_still : ends_committed answers ≡ false = ap ends_committed (sym c.as_slice.ensures) ∙ (sym c.ends_committed.ensures ∙ c.if-ends_committed.false) in
    let same = seen_is core _ old c.run_over.new.txn c.or-self-inside.result c.self.view_is (c.or-self-inside.ensures ∙ ap (begun_at c.self.inside.since) c.commits.ensures) in
    let seen = c.in_ok-told.ensures.seen ∙ ap (λ (s : SeenSession). noting s (piece_of c.args.call.now answers draws)) same in
    let said = c.in_ok-told.ensures.told ∙ ap (λ (s : SeenSession). down.Reply answers draws s.ltxid) same in
    work_answered statements c.args.commit c.args.replay c.args.kept.now c.args.now old core disk c.requires.fits c.requires.belongs c.args.call.now c.requires.call c.in_ok-left.left c.in_ok-left.ensures
    c.in_ok-answers.field-0 c.run_over.new.txn desk over answers c.in_ok-answers-2.ensures
    c.in_ok-told.told c.answer.new.self open_still c.requires.made said seen
