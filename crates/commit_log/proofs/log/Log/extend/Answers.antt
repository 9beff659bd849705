use Rattle.std.proofs.Common.{◌∷◌, [], ap}
use Rattle.disk_model.proofs.Offered.{weaker}
use Rattle.commit_log.specs.meaning.Rules.{with_record}
use Rattle.commit_log.specs.meaning.Journals.{journal_in}
use Rattle.commit_log.specs.Adding.{record_in, HasAlso, IsOldOrWith}
use Rattle.commit_log.specs.Growth.{HasAdded, IsGrown}
use Rattle.commit_log.proofs.Misfits.{on_ok, log_goes_on, stops_so}
use Rattle.commit_log.proofs.Trailing.{trails_then}
use Rattle.commit_log.proofs.Growing.{comes_to, has_one, still_at, has_no_more, grown_by_one}
use Rattle.commit_log.proofs.log.Log.extend.Goals as goal

pub returns : goal.returns
returns g c is_opened has_horizon ready may =
    let s = g.D.Disk.state c.args.disk.now in
    let t = g.D.Disk.state c.put.new.disk in
    let old = s.now.seen in
    let image = t.now.seen in
    let one = record_in c.args.adding in
    let j = ready.journal in
    let begun = ready.so_far in
    let comes = may j (ap journal_in begun) in
    record {
      added = on_ok c.put.result (HasAlso old one image) (HasAdded old (one ∷ []) image) (has_one old one j is_opened has_horizon begun comes image) c.put.ensures.added;
      refused = λ is. has_no_more old one j is_opened has_horizon begun comes image (c.put.ensures.refused is);
      any_moment = weaker s t (IsOldOrWith old one) (IsGrown old (one ∷ [])) c.put.ensures.any_moment (grown_by_one old one j is_opened has_horizon begun comes);
      goes_on = log_goes_on is_opened has_horizon one c.put.result (HasAlso old one image) c.args.self.now.redo c.put.new.self t
          (λ also append. record { append = append; journal = with_record j one; so_far = comes_to old one j is_opened has_horizon begun comes image also })
          (λ is append. record { append = append; journal = j; so_far = still_at old one j is_opened has_horizon begun comes image (c.put.ensures.refused is) })
          c.put.ensures.added c.put.ensures.goes_on;
      trails = λ stopped journal so_far.
          let ends = stops_so c.put.result c.args.self.now.redo c.put.new.self.redo t stopped c.put.ensures.goes_on in
          trails_then is_opened has_horizon journal c.args.self.now.redo s ready.append so_far c.put.new.self t ends.1 ends.0 c.put.ensures.front;
      stop = c.put.ensures.stop;
      cause = c.put.ensures.cause;
    }
