use Rattle.std.proofs.Common.{◌||◌, List, ap, ◌∙◌}
use Rattle.svc_values.specs.Keys.{is_key}
use Rattle.svc_values.proofs.KeyLookups.{has_added}
use Rattle.svc_values.proofs.keys.KeySet.add.Goals as goal

pub returns-clause-ok : goal.returns-clause-ok
returns-clause-ok g c = λ k.
    let same = g.K.PartialEq.eq in
    let symm = g.met.K.Eq.laws.symm in
    let key = c.args.key in
    let updates = c.in_ok-insert.ensures.updates.0 in
    has_added same g.K.Ord.cmp g.met.K.Ord.matches_eq symm key _ c.insert.new.self.keys updates k
    ∙ ap (λ (keys : List g.row.K.Denot). is_key same keys k || same k key) c.self.view_is
