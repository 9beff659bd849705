-- Wherever a run has come to, each turn that is told is right for a request that held its
-- connection.
use Rattle.invariant_laws.specs.FirstBegins.{begin_once}
use Rattle.invariant_laws.specs.Invariant.{Invariant}
use Rattle.invariant_laws.specs.KeptLaws.{RunsKeepInvariant, FinishesKeepInvariant}
use Rattle.invariant_laws.specs.NearCalls.{send_near}
use Rattle.invariant_laws.specs.SameLaws.{FollowsInvariant, HoldsInRuns}
use Rattle.shown_laws.specs.Telling.{seen_told}
use Rattle.shown_laws.specs.TurnsRight.{RunsTellRight, FinishesTellRight}
use Rattle.shown_laws.specs.Unblocked.{serve_unblocked}
use Rattle.shown_laws.proofs.events.FinishesReached.{finishing_reached}
use Rattle.shown_laws.proofs.links.LinksTold.{AllStand}
use Rattle.shown_laws.proofs.owners.TurnsInRuns.{reached_over, reached_turns, finishing_over, finishing_turns}
use Rattle.shown_laws.proofs.owners.TurnsRight.{over_right, open_right}

module _ (keeps : RunsKeepInvariant) (stand : AllStand) (unblocked : HoldsInRuns serve_unblocked) (once : HoldsInRuns begin_once) (near : FollowsInvariant send_near) where
  pub runs_tell_right : RunsTellRight
  runs_tell_right document events notes items seen t calls reached =
      let inv : Invariant t = keeps document events notes items seen t calls reached in
      record {
        over =
            over_right t inv (unblocked document events notes items seen t calls reached) (once document events notes items seen t calls reached) (near t inv) (seen_told notes items).over
            (reached_over keeps stand document events notes items seen t calls reached);
        current =
            open_right t inv (unblocked document events notes items seen t calls reached) (once document events notes items seen t calls reached) (near t inv) (seen_told notes items).links
            (reached_turns keeps stand document events notes items seen t calls reached);
      }

  pub finishes_tell_right : FinishesKeepInvariant → FinishesTellRight
  finishes_tell_right all document place notes items seen t calls finishing =
      let so = finishing_reached document place notes items seen t finishing in
      let inv : Invariant t = all document place notes items seen t calls finishing in
      record {
        over =
            over_right t inv (unblocked document so.0 notes items seen t calls so.1) (once document so.0 notes items seen t calls so.1) (near t inv) (seen_told notes items).over
            (finishing_over keeps stand all document place notes items seen t calls finishing);
        current =
            open_right t inv (unblocked document so.0 notes items seen t calls so.1) (once document so.0 notes items seen t calls so.1) (near t inv) (seen_told notes items).links
            (finishing_turns keeps stand all document place notes items seen t calls finishing);
      }
