-- The calls that a request was shown, each with the reply that showed it.
use Rattle.std.specs.Prelude.{◌≡◌, ℕ, true, false, List, [], ◌∷◌}
use Rattle.svc_values.specs.declared.answer.Answer.TheVariants as answer
use Rattle.svc_values.specs.declared.call.Call.{Call}
use Rattle.svc_values.specs.declared.entry.Ltxid.{Ltxid}
use Rattle.client_model.specs.declared.act.Shown.{Shown}
use Rattle.outage_schedule.specs.declared.item.Item.TheVariants as item
use Rattle.outage_schedule.specs.declared.item.Served.{Served}
use Rattle.outage_schedule.specs.declared.note.AskResult.TheVariants as told
use Rattle.world_model.specs.meaning.Serving.{identifier}

-- It has the answers and draws of a call that was served without the mark, and the identifier of
-- that session with its commits; or it is shown with Committed and no draws, by an outcome that
-- says committed and completed.
pub data ShownBy (shown : Shown) (served : Served) : Type 0 where
  ByReply : (call : Call) (commits : ℕ) → served.item
      ≡ item.Call false call shown.answers shown.draws
      → shown.ltxid ≡ identifier served.session commits → ShownBy shown served
  ByOutcome : (x : Ltxid) → served.item ≡ item.Outcome x (told.Committed true)
      → shown.answers ≡ answer.Committed ∷ [] → shown.draws ≡ [] → ShownBy shown served

-- each of these by the one beside it
pub data AreShownBy : List Shown → List Served → Type 0 where
  NoneShown : AreShownBy [] []
  OneShown : (shown : Shown) (served : Served) (more : List Shown) (items : List Served)
      → ShownBy shown served → AreShownBy more items → AreShownBy (shown ∷ more) (served ∷ items)
