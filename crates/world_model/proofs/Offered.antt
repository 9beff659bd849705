-- Laws of this crate that the crates above cite.

-- what Basic says of each connection by itself is kept
pub use Rattle.world_model.proofs.basic.BasicLinks.{down_kept}
-- what Basic says of the sessions of all connections is kept
pub use Rattle.world_model.proofs.basic.BasicSessions.{all_wired}
-- the sessions of connections and those made outside: how they grow, and that they stay apart, made
-- and counted
pub use Rattle.world_model.proofs.basic.Census.{Census, Connects, Grows as CensusGrows, Outside, Reopens, Stands as CensusStands, next_of}
-- what holds of a connection that may end, by cases: it was open, or it was not
pub use Rattle.world_model.proofs.basic.Ends.{cut_case, ends_case, fallen_case, handled_alike, handled_case, if_by, sends_alike, sends_case, shut, with_frames}
-- Basic as a whole, at the start and behind each event
pub use Rattle.world_model.proofs.basic.KeptBasic.{basic_is_kept}
-- the tests of Basic that speak of the sessions of all connections, at the start and behind each
-- event
pub use Rattle.world_model.proofs.basic.KeptSessions.{made_law}
-- of each connection: it is open as long as no event ended it
pub use Rattle.world_model.proofs.basic.LinkEnds.{ends_at}
-- of each connection: its items are in the order of their events, which are past
pub use Rattle.world_model.proofs.basic.LinkItems.{event_of_item, items_at}
-- of each connection: it counts its commits, and nothing is served behind what ends its session
pub use Rattle.world_model.proofs.basic.LinkLives.{counts_commits, implied, lone_later, no_test, none_later as link_lives_none_later}
-- of each connection: it has its name once its Connect was served, and each item and identifier is
-- of that session
pub use Rattle.world_model.proofs.basic.LinkNamed.{held_of, is_of_one, named_held, named_test, other_session, unnamed}
-- a session that lives is of this incarnation; while the server is down nothing is open and none
-- lives
pub use Rattle.world_model.proofs.basic.LinkNow.{is_down_link}
-- a connection keeps its name
pub use Rattle.world_model.proofs.basic.NamesKept.{is_wired, serving, wired_right, wired_sent}
-- what an event does to the server and to the clock
pub use Rattle.world_model.proofs.basic.Servers.{AsBefore as ServersAsBefore, Fell, Opened, Stands as ServersStands, goes_same, happens_stands}
-- how the sessions grow in an event, and that it has one item at most
pub use Rattle.world_model.proofs.basic.SessionsGrow.{connect_session}
-- a test over the steps of all requests, by clients; and where one client goes on
pub use Rattle.world_model.proofs.events.AllClients.{client_others, client_set}
-- a test over all connections is kept in an event if it is kept by each thing that may happen to
-- one of them
pub use Rattle.world_model.proofs.events.AllLinks.{IsFront, Keeps, KeepsServed, at_link, front_is, links_keep, open_is}
-- a test that holds of each item of a list: where one is changed, where all are, and where one
-- comes behind them
pub use Rattle.world_model.proofs.events.AllLists.{append_all, at_all, every_all, filter_all, filter_passes, map_all, one_all, weaker_all}
-- no event but a step of a client changes a client, and none turns the clock back; each is one
-- event more, with one opening at most, and a note of one tells the incarnation; and each is at
-- most a tick
pub use Rattle.world_model.proofs.events.Beside.{Rest, opens_noted, opens_once, others_rest, ticks_once}
-- what an event does to the clients and to what was sent: nothing, or one client steps and sends,
-- or idle connections are closed
pub use Rattle.world_model.proofs.events.ClientSteps.{AsBefore as ClientStepsAsBefore, AsFirst, AtOnce, Behind, Brings, Closed, GoesOn, Grows as ClientStepsGrows, HasStepped, HeardOn, IdleOne, LostBehind, LostToo, MayStep, NewOne, NoneNew, OfEnded, OfIdle, OfNew, OfNone, OfReply, OneMore as ClientStepsOneMore, Stepped, Still, goes_steps, happens_step, is_frame, same_request_after}
-- no event adds a client, and none takes one away
pub use Rattle.world_model.proofs.events.ClientsLong.{happens_long}
-- a test over all requests, from each client; and no two clients have one connection
pub use Rattle.world_model.proofs.events.Courses.{all_courses_by, clients_apart}
-- what holds of some request that was submitted holds still when a client steps, if further steps
-- keep it
pub use Rattle.world_model.proofs.events.CoursesGrow.{HasMore}
-- a test of all requests where a client steps: of the others as before, and of its own as it stands
-- then
pub use Rattle.world_model.proofs.events.CoursesStep.{all_step}
-- where the machine follows an event, it does what its kind says
pub use Rattle.world_model.proofs.events.Happened.{Followed, at_event, follow_happens, leaves, left_or}
-- an event takes its items from the front, and looks at no later one: so the walk goes on event by
-- event
pub use Rattle.world_model.proofs.events.Items.{follow_local, mapped, reaches, reaches_if, walk_more}
-- which parts of the state each kind of event leaves as they are
pub use Rattle.world_model.proofs.events.Kept.{only_is, pair_is, reached_is}
-- small facts on lists: what stands at a place, what is found, and what is joined
pub use Rattle.world_model.proofs.events.Lists.{any_goes, any_with, at_any, get_mapped, none_of}
-- where the connection of a number stands after an event
pub use Rattle.world_model.proofs.events.Lookups.{IsSaid as LookupsIsSaid, changed_own, cut_said, each_others, fallen_said, handled_said, new_others, with_others, with_own}
-- what an event does to the state, kind by kind, with what holds where it does it
pub use Rattle.world_model.proofs.events.Moves.{Again, Asks as MovesAsks, Crashes, Cuts, Drains, Fails as MovesFails, FromQueue, Goes, Happens, IsDoing, IsStep, LastNone, LastServed, LastStopped, Lends, Loses, Nothing, Opens, OpensUp, Reaps, Rests, RunsOutside, Serves, ServesLast, StopsOpening, Takes, Ticks, Tries, Waits, next_number as moves_next_number, only_met, takes_one, with_pool}
-- `serve`, `cut` and `reap` touch their own connection alone
pub use Rattle.world_model.proofs.events.Others.{changed_others}
-- where a run began
pub use Rattle.world_model.proofs.events.RunStarts.{finishing_coupled, finishing_reached, finishing_sound, finishing_start, reached_coupled, reached_start}
-- a whole run is followed: event by event through the schedule, and then through the finish
pub use Rattle.world_model.proofs.events.RunsFollowed.{finishing_setting, reached_setting, reached_walk}
-- what is known of a client that steps: its conversation, and where it stands behind its input
pub use Rattle.world_model.proofs.events.StepFacts.{FitsNow, account_now, before_talks, behind_first, first_doing, first_fits, first_step, first_talks_on, request_after, shown_later, step_owner, talks_fit}
-- small facts on tests
pub use Rattle.world_model.proofs.events.Tests.{eq_from, eq_to, implied_by, implies_more, le_from, le_to, lt_from, lt_to, met, ne_back, ne_to, none_first, none_is, none_some, not_both, or_false, or_second, same_session_is, session_self}
-- what each connection becomes in an event
pub use Rattle.world_model.proofs.events.Turning.{ComesFrom, HasFallen, IsCut, IsNew, IsOld, IsReaped, IsSaid as TurningIsSaid, IsServed, IsTaken, Stays, Turns, WasServed, WasStopped, all_turn, either, fallen_at, some_same}
-- the horizon that incarnations that ended ask for, and the openings behind one note more
pub use Rattle.world_model.proofs.events.WantedHorizons.{horizon_both, horizon_more, horizon_of, openings_more, share, wanted_rises}
-- what is orderly as a whole, at the start and behind each event
pub use Rattle.world_model.proofs.events.WholeOrderly.{orderly_is_kept}
-- the rounds of one client: where it stays as it is, where its frame is served, and behind a tick
pub use Rattle.world_model.proofs.finish.ClientRounds.{once_most}
-- each request that is over leaves its client fewer of them
pub use Rattle.world_model.proofs.finish.CopiesLeft.{IsLater, IsMine, OneMore as CopiesLeftOneMore, is_left, one_more}
-- the rounds of the client that steps
pub use Rattle.world_model.proofs.finish.FinishGoes.{follows_by}
-- what the finish does at the server and at connections leaves less of it: the opening, reaps,
-- frames that are served, and the tick
pub use Rattle.world_model.proofs.finish.FinishLinks.{leaves_is}
-- what a step of a client does, as far as the finish goes
pub use Rattle.world_model.proofs.finish.FinishSteps.{few_frames, follows_now, steps_work, takes_work}
-- once the finish has opened the server it stays up
pub use Rattle.world_model.proofs.finish.FinishUp.{finish_up, over_up, served_up, up_of}
-- which of some is the first that meets a test
pub use Rattle.world_model.proofs.finish.FirstBehind.{IsFirst, any_found, counted, first_there, get_behind, none_there, position_cons}
-- what is left on the connections, where one is changed, where a frame is served on one, and where
-- one is opened
pub use Rattle.world_model.proofs.finish.LinksWork.{changed_work, handled_work, new_work, sends_work, with_work}
-- the rounds of all clients, where those of each are no more
pub use Rattle.world_model.proofs.finish.RoundSums.{rounds_at}
-- each step of a request on its connection leaves it fewer rounds
pub use Rattle.world_model.proofs.finish.TalkRounds.{records_few, try_most}
-- a request that tries to connect or awaits a frame has a slot, and one that awaits a frame has a
-- connection that was opened and is not idle; a connection that the pool lends is open and has an
-- identifier, and with leave to open one a slot is lent; nothing is sent where a frame comes from a
-- connection that has ended, and a request that goes on behind a frame awaits another; each idle
-- connection is open, and idle once
pub use Rattle.world_model.proofs.hold.Awaiting.{AreOpenOnce, Awaits, IsLent, awaits_frame, dead_sends_none, idle_open_once, is_lent, open_lent, tries_lent}
-- an open connection is one request's or idle, where a client has none, opens one or is lent one
pub use Rattle.world_model.proofs.hold.HadEvents.{not_zero}
-- an open connection is one request's or idle: the counts before an event, and behind it
pub use Rattle.world_model.proofs.hold.HadKept.{all_numbered}
-- what the invariant says of idle connections and of those that requests have, one by one
pub use Rattle.world_model.proofs.hold.Held.{doing_course, held_now, numbered_at}
-- the reply to a repeated call brings the identifier that is held: what is out commits nothing
pub use Rattle.world_model.proofs.hold.HeldAgain.{again_now, counted_few, told_same}
-- on the connection of each request is out what it waits for, event by event
pub use Rattle.world_model.proofs.hold.HeldEvents.{sends_held}
-- on the connection of each request is out what it waits for, in each event of a run
pub use Rattle.world_model.proofs.hold.HeldKept.{HasIt, HasNone, HasOne, has_it, same_none, slot_holds_none}
-- what a request says that goes on is out on its connection, and is what its phase waits for
pub use Rattle.world_model.proofs.hold.HeldSaid.{all_said_loud, last_behind, loud}
-- one item more, somewhere in a list
pub use Rattle.world_model.proofs.hold.Inserted.{Here, Inserted, There}
-- of Hold, test by test, at the start and behind each event
pub use Rattle.world_model.proofs.hold.KeptHold.{by_held_law}
-- lists of numbers that are apart: one behind them, and without one of them
pub use Rattle.world_model.proofs.hold.QueueLists.{pair_from, with_append, with_parts}
-- Hold as a whole, at the start and behind each event
pub use Rattle.world_model.proofs.hold.WholeHold.{hold_is_kept}
-- how a service answers the question for an outcome: it refuses it, or it tells what the table says
-- on its store
pub use Rattle.world_model.proofs.number.AnswersTold.{IsAnswer, blocked_holds, blocks_none, move_answer, not_refused, outcomes_answer}
-- a blocked identifier is its session's next one: what a service's store has it so
pub use Rattle.world_model.proofs.number.Blocks.{all_next, commits_count}
-- what the table says of an identifier: committed, its entry is there and is its session's last;
-- and where it says ahead, its session is not near it
pub use Rattle.world_model.proofs.number.Completed.{told_client, told_committed, told_server, verdict_committed, verdict_near}
-- how many entries the session has whose frame an event serves, before it and behind it
pub use Rattle.world_model.proofs.number.GainedFront.{item_commits}
-- a session whose frame an event does not serve gains no entry, and one that lives has as many as
-- it answered Committed
pub use Rattle.world_model.proofs.number.GainedQuiet.{entries_more, number_named, serves_at}
-- of which sessions an event stores entries: of the one whose frame was served, or of the one that
-- was made outside
pub use Rattle.world_model.proofs.number.Gaining.{DidOf, commits_session, commits_unmarked, gains_none, links_apart, made_before, none_in, one_of, outside_next, session_in}
-- what a client goes by where it takes a frame or is lent a connection: the identifier that is held
-- there then
pub use Rattle.world_model.proofs.number.GoesBy.{by_its, by_repeated, by_reply, taken_goes}
-- of Number: how far each session is ahead of what is held, at the start and behind each event
pub use Rattle.world_model.proofs.number.KeptAhead.{ahead_law, near_law}
-- of Number: the entries of each session are numbered in order, and none of them is blocked, at the
-- start and behind each event
pub use Rattle.world_model.proofs.number.KeptEntries.{entries_law, numbered_now, unblocked_law}
-- what orderly states tell of a connection, by its number
pub use Rattle.world_model.proofs.number.KnownLinks.{known_of}
-- each entry is of a session that was made, and one of the run is of a connection's session or of
-- one that was made outside
pub use Rattle.world_model.proofs.number.KnownSessions.{any_links, grown, grows_made, known_in, none_later as known_sessions_none_later, number_among}
-- of a connection, by how many entries its session has: what is held, what is counted, and what is
-- out where the session is ahead of what is held
pub use Rattle.world_model.proofs.number.LinkCounts.{IsLast, Known, Right, commit_rep, commits_all, extra_few, last_was, taken_last, taken_number}
-- of each connection: the identifier that is held is that of the last reply taken that tells one
pub use Rattle.world_model.proofs.number.LinkHeld.{told_alive}
-- of a connection: which item the next reply is of, and that what was answered counts what its
-- session committed
pub use Rattle.world_model.proofs.number.LinkNumbers.{Halted, Ordinary, Was, alike_told, all_told, counted_same, crashed_commits, last_handled, plain_commits, rep_of, stopped_item, stopped_silent, was_so}
-- of a connection: by whatever happens to it, its session stays as far ahead of what is held as
-- what is out explains
pub use Rattle.world_model.proofs.number.LinkRight.{made_commit, taken_right}
-- of a connection whose first frame is served: its session stays as far ahead of what is held as
-- what is out explains
pub use Rattle.world_model.proofs.number.LinkServed.{all_level}
-- the entries of each session are numbered in order: those of an image, and behind them what a
-- service gained
pub use Rattle.world_model.proofs.number.Numbered.{all_below, entries_cons, numbered_on, numbered_parts}
-- behind an event each connection's session is as far ahead of what is held as what is out explains
pub use Rattle.world_model.proofs.number.NumbersEvent.{apart, by, did, happens_one, made, right_now}
-- small facts of the items and frames of an event, for the count of entries behind it
pub use Rattle.world_model.proofs.number.NumbersItems.{right_from, same_some}
-- behind an event each connection's session is as far ahead of what is held as what is out explains
pub use Rattle.world_model.proofs.number.NumbersTurn.{by_index, by_number, known_before}
-- the numbers of the identifiers in the replies of a connection rise, up to what its session
-- committed
pub use Rattle.world_model.proofs.number.RepliesRise.{next_number as replies_rise_next_number, number_in}
-- as many answered frames were served as were taken, or one more: what Wire says of a connection
-- has it so
pub use Rattle.world_model.proofs.number.ServedNear.{few_replies, front_long, reply_rep, reps_sent}
-- each request in course stays ready in each event of a run
pub use Rattle.world_model.proofs.script.ClientsReady.{script_all}
-- a marked call carries the draws that were shown of its call, in each event of a run
pub use Rattle.world_model.proofs.script.DrawsKept.{all_sent_so, by_links, carries, each_said, grown_so, next_recalled, said_so}
-- a test of the frames of each request stays true of all that were sent: where what a request says
-- at its step passes, and what it said before still does
pub use Rattle.world_model.proofs.script.FramesKept.{StepPasses, frames_event, frames_start}
-- what a request keeps is what its steps told, in runs of documents
pub use Rattle.world_model.proofs.script.Keeping.{IsRuled, behind_more, hears_same, ruled}
-- of Script: each request in course is ready, at the start and behind each event
pub use Rattle.world_model.proofs.script.KeptReady.{have_calls, of_document, rightly_repeated}
-- of Script: the sendings of a request are the unmarked calls that it sent, at the start and behind
-- each event
pub use Rattle.world_model.proofs.script.KeptSendings.{any_of_all, before_sent, each_passes, resting_none, spoken_passes}
-- of Script: what the track of a request keeps is what the account of its steps tells, at the start
-- and behind each event
pub use Rattle.world_model.proofs.script.KeptTracks.{records}
-- each frame with an owner was sent by that request, on a connection that it held, in each event of
-- a run
pub use Rattle.world_model.proofs.script.OwnedKept.{left_held}
-- what is recorded of a call is what was shown of it
pub use Rattle.world_model.proofs.script.Recalling.{Recalled, ShownMore, all_more, folds_more, get_further, get_last}
-- each request is the one that follows the reports before it, in each event of a run
pub use Rattle.world_model.proofs.script.ScriptsKept.{follows_get, scripts_law}
-- where a client steps, its sendings are the unmarked calls that it sent, on each connection that
-- it held
pub use Rattle.world_model.proofs.script.SendingSteps.{after_held, after_sendings, course_sent, heard_scan, leads, places, said_mine, scan_by, sent_on_held, sent_so, slot_wanted}
-- the unmarked calls that a request sent on a connection agree with what the scan of its steps
-- says, and go on to
pub use Rattle.world_model.proofs.script.Sendings.{agrees, calls_of, on_of, onto_append, sends_at}
-- a request that has no slot sent nothing on any connection; and each request in course is ready
pub use Rattle.world_model.proofs.script.Strangers.{doing_ready, doing_strange, other_owner, owned_from, owned_is, same_owner_is, slot_strange, waiting_none}
-- the track of a request counts the calls that were shown, and one that sent a Begin, or asks for
-- an outcome, was told its identifier
pub use Rattle.world_model.proofs.script.TalkCounts.{counts_so, replied_call}
-- what a step of a client may send: a call without the mark where it runs then, and one with the
-- mark where it is the next that is repeated
pub use Rattle.world_model.proofs.script.TalkFrames.{frame_fits, frames_fit, is_next, is_running, send_fits}
-- a request never keeps more calls to be repeated than may be recorded
pub use Rattle.world_model.proofs.script.TalkRecorded.{talk_few}
-- behind each step a request has a connection on which it waits, or goes on without one, or is over
pub use Rattle.world_model.proofs.script.TalkRests.{awaits_after, frame_holds, holds_frame}
-- what the tests of Script say of the conversations of all requests
pub use Rattle.world_model.proofs.script.TalkTests.{courses_talk}
-- a request that sent a Begin, or asks for an outcome, was told an identifier; and what the scan of
-- its steps says of it
pub use Rattle.world_model.proofs.script.TalkTold.{IsAt, scan_leads, scan_step, scan_steps, told_so}
-- the conversations of all requests go on in each event, to the letter
pub use Rattle.world_model.proofs.script.TalksKept.{does_talk, talks_at}
-- fronts of lists: of longer lists, shortened, continued, filtered
pub use Rattle.world_model.proofs.wire.FrontLists.{Begins, front_begun, front_filter, last_alike, last_kept, last_pushed, whole_begins}
-- a Connect is served before all others
pub use Rattle.world_model.proofs.wire.Fronts.{connect_first, moved, same_frames, wrong_stays}
-- of Wire, test by test, at the start and behind each event
pub use Rattle.world_model.proofs.wire.KeptWire.{all_orderly}
-- of each connection: each item is that of its frame, or the frame was stopped, and each reply is
-- that of the item
pub use Rattle.world_model.proofs.wire.LinkHandled.{behind_is, commits_behind, is_commit_of}
-- of each connection: the replies answer the answered frames, in the order in which these were sent
pub use Rattle.world_model.proofs.wire.LinkOrder.{handled_replied, is_orderly, same_reps}
-- of each connection: at most one answered frame is out, and before Hello was taken only Connect
-- was sent
pub use Rattle.world_model.proofs.wire.LinkOut.{idle_none, reps_more, taken_none}
-- of each connection: what was served and may be served is a front of what was sent; where frames
-- are left to be served, its session lives, or it was cut
pub use Rattle.world_model.proofs.wire.LinkSent.{idle_open, open_living}
-- of each connection: what was sent keeps to the grammar
pub use Rattle.world_model.proofs.wire.LinkStage.{keeps_grammar, left_some}
-- frames and replies are the same as themselves
pub use Rattle.world_model.proofs.wire.SameSelf.{bool_self, each_self, ltxid_self, owner_self, owners_self}
-- what a client sends where it takes a frame or is lent a connection, by cases: nothing, a Close,
-- an End, or one answered frame last
pub use Rattle.world_model.proofs.wire.Saying.{Asks as SayingAsks, Calls, Ends, Fails as SayingFails, Marks, Quiet, Spoken, begun_in, has_next, is_hushed, may_ask, opening, said, said_lent}
-- what was sent on the connection of a number, and what a request sends on one that it never held:
-- nothing
pub use Rattle.world_model.proofs.wire.SentAt.{PassesAt, grown_at, link_passes, link_sents, new_at, passes_from, passes_to, sents_at, sents_pass, spoken_others, spoken_own}
-- a test over all connections is kept in an event if it is kept by what a client says on its
-- connection, by a drain, and by all that may happen otherwise
pub use Rattle.world_model.proofs.wire.SentLinks.{KeepsSent, awaits, is_strange, lent_idle, sends_none, sent_keep, slot_waits, spoken_by}
-- what was sent on each connection, as lists in the order of connections
pub use Rattle.world_model.proofs.wire.SentLists.{sends_more, sent_lists, spoken, spoken_at}
-- the grammar of a connection: what its last frame tells of it, and what its client says next
pub use Rattle.world_model.proofs.wire.Stages.{behind, is_begin, last_all, stage_is}
