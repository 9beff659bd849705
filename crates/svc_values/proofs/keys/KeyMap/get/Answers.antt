use Rattle.std.proofs.Common.{List, ap, ◌∙◌}
use Rattle.svc_values.specs.Keys.{value_of}
use Rattle.svc_values.proofs.KeyLookups.{value_at}
use Rattle.svc_values.proofs.keys.KeyMap.get.Goals as goal

pub returns : goal.returns
returns g c =
    let same = g.K.PartialEq.eq in
    let key = c.args.key.now in
    c.get.ensures.value
    ∙ value_at same g.K.Ord.cmp g.met.K.Ord.matches_eq c.self.inside.map.entries key
    ∙ ap (λ (pairs : List (g.row.K.Denot × g.row.V.Denot)). value_of same pairs key) c.self.view_is
