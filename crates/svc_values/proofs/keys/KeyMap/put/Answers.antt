use Rattle.std.proofs.Common.{List, cond, ap, ◌∙◌}
use Rattle.std.specs.Prelude.{Some}
use Rattle.svc_values.specs.Keys.{value_of}
use Rattle.svc_values.proofs.KeyLookups.{value_put}
use Rattle.svc_values.proofs.keys.KeyMap.put.Goals as goal

pub returns-clause-ok : goal.returns-clause-ok
returns-clause-ok g c = λ k.
    let same = g.K.PartialEq.eq in
    let symm = g.met.K.Eq.laws.symm in
    let value = c.args.value in
    let new = c.insert.new.self.entries in
    let updates = c.in_ok-insert.ensures.updates.0 in
    value_put same g.K.Ord.cmp g.met.K.Ord.matches_eq symm c.args.key _ new value updates k
    ∙ ap (λ (pairs : List (g.row.K.Denot × g.row.V.Denot)).
    cond (same k c.args.key) (Some value) (value_of same pairs k)) c.self.view_is
