use Rattle.std.proofs.Common.{◌≡◌, ◌≤◌, length, map, refl, sym, ◌∙◌, subst, add-one, arith}
use Rattle.world_model.specs.meaning.Crashing.{fallen_link}
use Rattle.world_core.specs.Linked.{AreLinks, HaveFallen}
use Rattle.world_core.proofs.Ages.{all_fallen, none_living}
use Rattle.world_core.proofs.Places.{set_length}
use Rattle.world_core.proofs.Standing.{first_fallen, next_changed, all_changed, same_length}
use Rattle.world_core.proofs.connections.Connections.fall.Goals as goal

pub loop-at-init : goal.loop-at-init
loop-at-init c = record { long = refl; links = λ links stands. subst (AreLinks c.args.self.now.all.items) (sym (first_fallen c.args.event c.args.self.now.fallen links stands.fallen)) stands.are }

pub loop-at-preserved : goal.loop-at-preserved
loop-at-preserved c =
    let all = c.loop-at.self.all.items in
    record {
      long = set_length all c.loop-at.at c.fall.new.self ∙ c.loop-at.invariant.long;
      links = λ links stands. rw (add-one c.loop-at.at)
          (next_changed (fallen_link c.args.event) all links c.loop-at.at c.index_mut.result.now c.fall.new.self (omega (arith, c.loop-at-test.true, c.len-at-end.ensures, c.loop-at.invariant.long)) c.index_mut.ensures.value c.fall.ensures (c.loop-at.invariant.links links stands));
    }

pub returns : goal.returns
returns c = λ links stands.
    let long : length c.args.self.now.all.items ≡ length links = same_length c.args.self.now.all.items links stands.are in
    let within : length links ≤ c.loop-at.at = omega (arith, long, c.len-at-end.ensures, c.loop-at-test.false) in
    let many : length links ≡ c.len-self.result = omega (arith, long, c.len-self.ensures, c.loop-at.invariant.long) in
    record {
      are = subst (AreLinks c.loop-at.self.all.items) (all_changed (fallen_link c.args.event) c.loop-at.at links within) (c.loop-at.invariant.links links stands);
      fallen = subst (λ n. HaveFallen n (map (fallen_link c.args.event) links)) many (all_fallen c.args.event links);
      living = none_living c.args.event c.clear.new.self links;
    }
