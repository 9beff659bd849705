use Rattle.std.proofs.Common.{◌≡◌, ◌+◌, false, sym, ap, subst, ◌∙◌}
use Rattle.std.specs.Prelude.{nat_lt}
use Rattle.ltxid_book.specs.declared.State.{State}
use Rattle.ltxid_book.specs.Sessions.{Contents, sessions_in, with_state}
use Rattle.ltxid_book.proofs.Lookups.{state_in-put}
use Rattle.ltxid_book.proofs.Books.{says_with, known_in, counts}
use Rattle.ltxid_book.proofs.Book.count.Goals as goal

pub returns : goal.returns
returns c =
    let x = c.args.x.now in
    let horizon = c.self.inside.horizon in
    let known = known_in horizon x c.if-x-self.false in
    says_with horizon c.self.inside.sessions.entries c.insert.new.self.entries c.args.self.now x _ c.self.view_is known (state_in-put _ _ _ _ c.in_ok-insert.ensures.updates.0)
    ∙ ap (λ (state : State). with_state (sessions_in c.args.self.now) x (record state { next = state.next + 1; completed = c.args.completed })) c.state-state.ensures
    ∙ sym (counts (sessions_in c.args.self.now) x c.args.completed (subst (λ (b : Contents). nat_lt x.incarnation b.horizon ≡ false) c.self.view_is known))
