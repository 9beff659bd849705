-- What a service's history has of an event: the frames that were served then and the identifiers
-- that were asked, in order.
use Rattle.std.specs.Prelude.{ℕ}
use Rattle.svc_values.specs.declared.entry.SessionId.{SessionId}
use Rattle.outage_schedule.specs.declared.item.Item.{Item}
use Rattle.outage_schedule.specs.declared.item.Item.TheVariants as item
use Rattle.outage_schedule.specs.declared.item.Served.{Served}
use Rattle.server_model.specs.meaning.Outcomes.{Telling, Stopped, telling_of}
use Rattle.world_model.specs.meaning.Serving.{Front, reply_of, commits_after}

-- what is told of the frame of this item, by a session that has answered so many commits: nothing
-- at a stop
abbrev pub item_telling : SessionId → ℕ → Item → Telling
item_telling session commits (item.CrashedCall marked call) = Stopped
item_telling session commits (item.CrashedOutcome asked) = Stopped
item_telling session commits one = telling_of (reply_of session commits one)

abbrev pub front_telling : Front → Served → Telling
front_telling front served = item_telling served.session (commits_after front.link served.item)
    served.item
