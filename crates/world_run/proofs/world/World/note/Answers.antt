use Rattle.std.proofs.Common.{refl, sym, ap, ◌∙◌, ◌++◌, append-nil}
use Rattle.std.specs.Prelude.{option_to_list}
use Rattle.world_run.proofs.Onward.{noted_from}
use Rattle.world_run.proofs.world.World.note.Goals as goal

pub returns-in_ok-push-2 : goal.returns-in_ok-push-2
returns-in_ok-push-2 g c = noted_from c.args.note (option_to_list c.args.served) _ _ _ c.self.view_is (record {
  notes = c.in_ok-push.ensures.items;
  served = c.in_ok-push-2.ensures.items ∙ ap (λ served. c.self.inside.served.items ++ option_to_list served) (sym c.in-Some.is);
  tracked = c.in_ok-follow.ensures;
  same = (refl, refl, refl);
})

pub returns-in_default : goal.returns-in_default
returns-in_default g c = noted_from c.args.note (option_to_list c.args.served) _ _ _ c.self.view_is (record {
  notes = c.in_ok-push.ensures.items;
  served = sym (append-nil c.self.inside.served.items) ∙ ap (λ served. c.self.inside.served.items ++ option_to_list served) (sym c.in_default.is);
  tracked = c.in_ok-follow.ensures;
  same = (refl, refl, refl);
})
