use Rattle.std.proofs.Common.{◌||◌, List, ap, ◌∙◌}
use Rattle.json_form.specs.meaning.Arrays.{is_key}
use Rattle.json_form.proofs.Keys.{has_added, has_added_behind}
use Rattle.json_form.proofs.distinct.Taken.add.Goals as goal

pub returns-in_ok-insert : goal.returns-in_ok-insert
returns-in_ok-insert g c = λ k.
    let added = has_added g.K.PartialEq.eq g.K.Ord.cmp g.met.K.Ord.matches_eq g.met.K.Eq.laws.symm c.self.inside.others.keys c.insert.new.self.keys c.args.key c.in_ok-insert.ensures.updates.0 in
    has_added_behind g.K.PartialEq.eq c.self.inside.run.items c.self.inside.others.keys c.insert.new.self.keys c.args.key added k ∙ ap (λ (ks : List g.row.K.Denot). is_key g.K.PartialEq.eq ks k || g.K.PartialEq.eq k c.args.key) c.self.view_is
