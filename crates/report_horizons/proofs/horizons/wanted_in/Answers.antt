use Rattle.std.proofs.Common.{◌+◌, rules, sym, subst}
use Rattle.run_clauses.specs.meaning.Horizons.{Openings}
use Rattle.report_horizons.specs.Horizons.{openings_as, wanted_with, IsFrontAt}
use Rattle.report_horizons.proofs.Front.{stays_front, wants_more}
use Rattle.report_horizons.proofs.Ordered.{last_within}
use Rattle.report_horizons.proofs.horizons.wanted_in.Goals as goal

pub loop-at-preserved : goal.loop-at-preserved
loop-at-preserved c =
    let openings = openings_as c.loop-at.openings in
    let here = wanted_with (c.loop-at.at + 1) c.wanted_at-horizon.result in
    record {
      so_far = wants_more c.args.retention c.loop-at.at openings _ c.args.notes.now c.index-notes-at.result c.loop-at.all here c.put.new.self _ c.loop-at-test.true c.index-notes-at.is (c.wanted_at-horizon.ensures.is (c.loop-at.at + 1)) c.in_ok-put.ensures
          c.in_ok-follow.ensures.is c.loop-at.invariant.so_far;
      last = last_within c.loop-at.all c.put.new.self c.loop-at.at c.wanted_at-horizon.result c.in_ok-put.ensures c.loop-at.invariant.last;
      within = search rules;
      front =
          let P : Openings → Type 0 = IsFrontAt c.args.retention c.wanted_at-horizon.new.front in
          subst P (sym c.in_ok-follow.ensures.is) (stays_front c.args.retention c.wanted_at-horizon.new.front openings _ c.wanted_at-horizon.ensures.front);
    }
