use Rattle.std.proofs.Common.{IsTrue, true, sym, ap, subst, ◌∙◌}
use Rattle.ltxid_book.specs.declared.State.{State}
use Rattle.ltxid_book.specs.meaning.Sessions.{may_commit}
use Rattle.ltxid_book.specs.Sessions.{Contents, state_in, sessions_in, with_state}
use Rattle.ltxid_book.proofs.Lookups.{state_in-put}
use Rattle.ltxid_book.proofs.Known.{may_known}
use Rattle.ltxid_book.proofs.Books.{says_with}
use Rattle.ltxid_book.proofs.Book.block.Goals as goal

pub returns-clause-ok : goal.returns-clause-ok
returns-clause-ok c =
    let x = c.args.x.now in
    let old = c.self.inside.sessions.entries in
    let horizon = c.self.inside.horizon in
    let at = may_known horizon (state_in old) x (subst (λ (b : Contents). IsTrue (may_commit (sessions_in b) x)) (sym c.self.view_is) c.requires) in
    says_with horizon old c.insert.new.self.entries c.args.self.now x _ c.self.view_is at.0 (state_in-put _ _ _ _ c.in_ok-insert.ensures.updates.0)
    ∙ ap (λ (state : State). with_state (sessions_in c.args.self.now) x (record state { blocked = true })) c.state-state.ensures
