-- Of each connection, the frames that were sent, served, taken, and that are on their way.
use Rattle.std.specs.Prelude.{ℕ, ◌+◌, ◌==◌, ◌&&◌, ◌||◌, Bool, true, false, not, nat_le, if◌then◌else◌, IsTrue, List, [], ◌∷◌, ◌++◌, length, map, filter, filter_map, fold, Option, Some, None, is_some, is_none, option_map}
use Rattle.std.specs.List.{list_all, list_any}
use Rattle.svc_values.specs.declared.call.Call.{Call}
use Rattle.svc_values.specs.declared.call.Call.TheVariants as call
use Rattle.svc_values.specs.declared.frame.Up.{Up}
use Rattle.svc_values.specs.declared.frame.Up.TheVariants as up
use Rattle.svc_values.specs.declared.frame.Down.{Down}
use Rattle.outage_schedule.specs.declared.item.Item.{Item}
use Rattle.world_model.specs.meaning.Frames.{Owner, Sent, Reply, Handled}
use Rattle.world_model.specs.meaning.Links.{Link}
use Rattle.world_model.specs.meaning.Serving.{is_item_of, is_commit, is_last, reply_of}
use Rattle.world_model.specs.meaning.Crashing.{is_crashed_item}
use Rattle.world_model.specs.Traced.{Traced}
use Rattle.world_model.specs.Sames.{same_owners, same_sent, same_down, same_reply, is_front}
use Rattle.world_model.specs.Parts.{is_rep, count_reps, is_closed, implies}

-- wire1: what was served and what may be served is a front of what was sent, and all of it as long
-- as nothing was lost
abbrev pub up_of : Link → List Sent
up_of link = map (λ one. one.sent) link.served ++ link.up

abbrev pub nothing_cut : Link → Bool
nothing_cut link = link.is_open || (is_closed link && (link.is_living && not link.is_cut))

abbrev pub is_sent_front : Link → Bool
is_sent_front link = is_front same_sent (up_of link) link.sent
    && implies (nothing_cut link) (length (up_of link) == length link.sent)

abbrev pub sent_fronts : Traced → Bool
sent_fronts t = list_all is_sent_front t.machine.links

-- wire2: so are the replies
abbrev pub reply_to : Handled → Option Reply
reply_to one = option_map (λ frame. record { to = one.sent; frame = frame }) one.reply

abbrev pub replies_of : Link → List Reply
replies_of link = filter_map reply_to link.served

abbrev pub is_reply_front : Link → Bool
is_reply_front link = is_front same_reply (link.taken ++ link.down) (replies_of link)
    && implies link.is_open (length (link.taken ++ link.down) == length (replies_of link))

abbrev pub reply_fronts : Traced → Bool
reply_fronts t = list_all is_reply_front t.machine.links

-- wire2b: each item is that of its frame, or the frame was stopped; and the reply is that of the
-- item
abbrev pub same_replies : Option Down → Option Down → Bool
same_replies None None = true
same_replies (Some a) (Some b) = same_down a b
same_replies _ _ = false

abbrev pub is_handled : ℕ → Handled → Bool
is_handled commits one =
    (is_item_of one.sent.frame one.served.item
    && same_replies one.reply (reply_of one.served.session commits one.served.item))
    || (is_crashed_item one.sent.frame one.served.item && is_none one.reply)

-- a commit is answered with the number behind it
abbrev pub counted_with : ℕ → Item → ℕ
counted_with commits one = if is_commit one then commits + 1 else commits

abbrev pub handled_from : ℕ → List Handled → Bool
handled_from commits [] = true
handled_from commits (one ∷ others) = is_handled (counted_with commits one.served.item) one
    && handled_from (counted_with commits one.served.item) others

abbrev pub are_handled : Traced → Bool
are_handled t = list_all (λ link. handled_from 0 link.served) t.machine.links

-- wire3: the grammar of a connection. (End may come behind an outcome with no Begin: where the last
-- call was shown by it.) `Repeated`: a request is in course whose outcome was asked here, and no
-- call without the mark was sent; `Begun`: one is in course, and calls are without the mark from
-- now on.
pub data Stage : Type 0 where
  New : Stage
  Greeted : (owner : Option Owner) → Stage
  Told : (owner : Option Owner) → Stage
  Repeated : (owner : Option Owner) → Stage
  Begun : (owner : Option Owner) → Stage
  Rested : (owner : Option Owner) → Stage
  Shut : Stage
  Wrong : Stage

abbrev pub stage_if : Bool → Stage → Stage
stage_if true stage = stage
stage_if false stage = Wrong

abbrev pub is_alter : Call → Bool
is_alter (call.Alter line) = true
is_alter _ = false

abbrev pub next_stage : Stage → Option Owner → Up → Stage
next_stage New owner up.Connect = stage_if (is_some owner) (Greeted owner)
next_stage (Greeted one) owner (up.Outcome x) = stage_if (same_owners one owner) (Told owner)
next_stage (Greeted one) owner (up.Begin settings) = stage_if (same_owners one owner) (Begun owner)
next_stage (Told one) owner (up.Begin settings) = stage_if (same_owners one owner) (Repeated owner)
next_stage (Repeated one) owner (up.Call true kept call) =
    stage_if (same_owners one owner && not (is_alter call)) (Repeated owner)
next_stage (Repeated one) owner (up.Call false kept call) =
    stage_if (same_owners one owner) (Begun owner)
next_stage (Begun one) owner (up.Call false kept call) =
    stage_if (same_owners one owner) (Begun owner)
next_stage (Begun one) owner up.End = stage_if (same_owners one owner) (Rested owner)
next_stage (Told one) owner up.End = stage_if (same_owners one owner) (Rested owner)
next_stage (Repeated one) owner up.End = stage_if (same_owners one owner) (Rested owner)
next_stage (Rested one) owner (up.Begin settings) =
    stage_if (is_some owner && not (same_owners one owner)) (Begun owner)
next_stage (Rested one) owner up.Close = stage_if (is_none owner || same_owners one owner) Shut
next_stage (Greeted one) owner up.Close = stage_if (same_owners one owner) Shut
next_stage (Told one) owner up.Close = stage_if (same_owners one owner) Shut
next_stage (Repeated one) owner up.Close = stage_if (same_owners one owner) Shut
next_stage (Begun one) owner up.Close = stage_if (same_owners one owner) Shut
next_stage _ owner frame = Wrong

abbrev pub stage_of : Link → Stage
stage_of link = fold (λ stage sent. next_stage stage sent.owner sent.frame) New link.sent

abbrev pub is_right : Stage → Bool
is_right Wrong = false
is_right _ = true

abbrev pub in_grammar : Traced → Bool
in_grammar t = list_all (λ link. is_right (stage_of link)) t.machine.links

-- wire4: at most one answered frame is out, and none is taken that was not sent
abbrev pub one_is_out : Link → Bool
one_is_out link = nat_le (length link.taken) (count_reps link.sent)
    && nat_le (count_reps link.sent) (length link.taken + 1)

abbrev pub one_out : Traced → Bool
one_out t = list_all one_is_out t.machine.links

-- wire4b: an answered frame is sent only once all before it were answered and taken: so the k-th
-- reply taken is to the k-th answered frame
abbrev pub reps_of : Link → List Sent
reps_of link = filter is_rep link.sent

abbrev pub is_answered_in_order : Link → Bool
is_answered_in_order link = is_front same_sent (map (λ reply. reply.to) (link.taken ++ link.down))
    (reps_of link)

abbrev pub answered_in_order : Traced → Bool
answered_in_order t = list_all is_answered_in_order t.machine.links

-- wire6: the session that may still serve a frame served all before it without a stop: where frames
-- are left to be served it lives, or was cut off
abbrev pub up_lives : Traced → Bool
up_lives t = list_all (λ link. link.is_living
    || (list_any (λ one. is_last one.served.item) link.served
    || ((length link.up == 0) || link.is_cut))) t.machine.links

-- wire7: before Hello was taken only Connect was sent
abbrev pub is_fresh : Link → Bool
is_fresh link = implies (is_none link.held) (length link.sent == 1)

abbrev pub are_fresh : Traced → Bool
are_fresh t = list_all is_fresh t.machine.links

pub record Wire (t : Traced) : Type 0 where
  pub sent : IsTrue (sent_fronts t)
  pub replies : IsTrue (reply_fronts t)
  pub handled : IsTrue (are_handled t)
  pub grammar : IsTrue (in_grammar t)
  pub out : IsTrue (one_out t)
  pub in_order : IsTrue (answered_in_order t)
  pub left : IsTrue (up_lives t)
  pub fresh : IsTrue (are_fresh t)
