-- Laws of this crate that the crates above cite.

-- which request a report is of: one report more is a copy of the request that follows those before
-- it
pub use Rattle.invariant_laws.proofs.entries.CopiesOf.{first_follows, later_follows, one_copy}
-- no two entries have one identifier, and those of one transaction of a request are at most one
pub use Rattle.invariant_laws.proofs.entries.EntriesFew.{numbered_differ, one_id}
-- an entry of a connection's session that has its sending has it still where a client steps: one
-- that is answered where it has its entry is answered Committed
pub use Rattle.invariant_laws.proofs.entries.EntriesStay.{right_of}
-- the connection of an entry's session is the only one with it, so the entry has the pieces of the
-- transaction of its number there, and its settings
pub use Rattle.invariant_laws.proofs.entries.EntryLinks.{link_ran, link_started}
-- of the sendings under one identifier exactly one is open or committed, where there is one and no
-- two of them are
pub use Rattle.invariant_laws.proofs.entries.EntrySendings.{any_sent}
-- the transactions of a request, part by part: the lists that it noted are those of its sendings
pub use Rattle.invariant_laws.proofs.entries.NotedParts.{some_part}
-- what holds of all entries of a journal holds of those that stand behind the first ones, and lists
-- of identifiers none of which stands twice
pub use Rattle.invariant_laws.proofs.entries.OnceLists.{flat_tried, holds_once, is_apart, later_copies, later_differ, later_ends, later_few, no_copies}
-- no identifier stands twice in what the requests of a run have as tried, where no two of their
-- sendings under one identifier are both open or committed
pub use Rattle.invariant_laws.proofs.entries.TriedApart.{commits as tried_apart_commits, is_under, lists_of, tried_sent, under_at}
-- what a request has as tried are the identifiers of its sendings with a commit that are open or
-- committed, and of no others
pub use Rattle.invariant_laws.proofs.entries.TriedSendings.{sent_of_tried, tried_of_sent}
-- where a session is one ahead of what is held, the transaction of the number held is its last one,
-- and it ends with the call that is out
pub use Rattle.invariant_laws.proofs.history.LastRan.{OutRan, out_ran}
-- no entry of the time before a run is of the session of one of its connections
pub use Rattle.invariant_laws.proofs.history.RanBefore.{counts_none, none_before}
-- what a connection serves, frame by frame: what each item tells of what its session did, and that
-- no call comes between a request's End and the next one's Begin
pub use Rattle.invariant_laws.proofs.history.RanFrames.{Deals, DealsBegin, DealsCall, DealsEnd, DealsQuietly, DealsStop, handled_deals, is_quiet_item, is_quiet_thing, link_rests, rests_behind, rests_rightly}
-- along a legal history each entry of a session has the pieces of what its connection ran
pub use Rattle.invariant_laws.proofs.history.RanHistory.{Rest, asked_same, both_hold, done_all, moved_whole, none_left, same_whole, whole_of}
-- entries of a session beside what its connection ran: each has the pieces of the transaction of
-- its number, and the settings at its start
pub use Rattle.invariant_laws.proofs.history.RanLists.{has_ran, is_its, none_ran, other_ran, ran_pieces}
-- along the walk over legal items each entry of a session has the pieces of its session's
-- transaction of this number
pub use Rattle.invariant_laws.proofs.history.RanSessions.{GoesOn, GoesTo, IsDone, Stands, moved_others, others_stand, over_same, own_stands, quiet_item, quiet_same, same_stands, same_stored, transaction_own}
-- what a call does to the settings of its session: a `set` changes one, and no other call any
pub use Rattle.invariant_laws.proofs.history.RanSettings.{IsBeside, set_beside, set_settings, settings_decide}
-- what an item does to the entries that are stored and to the transactions of sessions, along the
-- walk over legal items
pub use Rattle.invariant_laws.proofs.history.RanWalks.{Calls, IsNothing, IsSameWalk, IsStored, Keeps, Moved, Stores, Takes, committed_ends as ran_walks_committed_ends, enters, thing_moved}
-- what was served on a connection stays: behind each event it is there, and what was among its
-- items still is
pub use Rattle.invariant_laws.proofs.history.ServedGrows.{IsLonger, happens_longer}
-- a test of what was served on each connection: behind an event it holds where it did before and
-- holds of what the event serves
pub use Rattle.invariant_laws.proofs.history.ServedPass.{served_pass, still_pass}
-- what a history has of a session: it grows by what is of that session alone
pub use Rattle.invariant_laws.proofs.history.SessionLists.{one_other, served_more}
-- wherever a run has come to, what the history has of a connection's session is what the connection
-- served, and it has nothing of a session that was not made
pub use Rattle.invariant_laws.proofs.history.SessionRuns.{NoneUnmade, reached_served}
-- what an event adds to the history, and what becomes of the frames that each connection served: a
-- frame is served on one of them, or none
pub use Rattle.invariant_laws.proofs.history.SessionTurns.{Adds, AddsFrame, AddsNone, Alike, Alone, AtFront, ComesOf, Elsewhere, Unnamed, event_adds, noted_kind}
-- which sending of a request a step answers: its last one, of the call whose reply is taken, or
-- none
pub use Rattle.invariant_laws.proofs.losses.Answering.{Answering, IsAnswered as AnsweringIsAnswered, LastAnswered, Unanswered, answering as answering_answering}
-- the answer that a request takes where it asked for an outcome: it says what the item of its
-- question does, and that item stands
pub use Rattle.invariant_laws.proofs.losses.AskedAnswers.{TellsOutcome, told_item}
-- an identifier whose outcome is asked on a connection is held on another one, so its session is
-- near it
pub use Rattle.invariant_laws.proofs.losses.AskedNear.{any_all, any_one, first_all, front_all, no_owner, owned_at, owners_are, right_before, stages}
-- where a request has asked for an outcome and the entry of that identifier is there: it sent its
-- next call under the identifier, and no reply to it was taken
pub use Rattle.invariant_laws.proofs.losses.AskedSendings.{asked_sent, each_flat, unfiltered}
-- of Lost: a connection that a request lost is no longer open, and no request has it, at the start
-- and behind each event
pub use Rattle.invariant_laws.proofs.losses.KeptGone.{new_apart}
-- of Lost: the identifier that a request goes by was not asked for by itself, at the start and
-- behind each event
pub use Rattle.invariant_laws.proofs.losses.KeptUnasked.{held_session}
-- a call that an outcome shows is a lone commit: its entry is completed, and ends with the call
-- that was sent under its identifier
pub use Rattle.invariant_laws.proofs.losses.LoneCalls.{asked_lone, none_of, parts_of, same_piece_call}
-- a test of each request that speaks of the connections that it lost: it is kept where a step of
-- the request keeps it
pub use Rattle.invariant_laws.proofs.losses.LostKept.{KeepsLost, both_all, lost_kept}
-- what a request lost, where it takes a step: nothing more, or the connection that it had
pub use Rattle.invariant_laws.proofs.losses.LostSteps.{before_so}
-- a test of each outcome that a request took: behind an event it holds where it did before and
-- holds of what is told in the event
pub use Rattle.invariant_laws.proofs.losses.OutcomesPass.{may_pass, outcomes_pass}
-- a reply that is taken answers the frame that the request waits for: it fits its phase
pub use Rattle.invariant_laws.proofs.losses.ReplyFits.{front_at, last_at}
-- the reply that a request takes answers what was sent last, and says what the item of that frame
-- does
pub use Rattle.invariant_laws.proofs.losses.ReplyItems.{SaysCall, answering as reply_items_answering, answers_last, awaited_mark, mark_alike, said_by, says_call}
-- frames that are the same are calls alike, with the mark or without
pub use Rattle.invariant_laws.proofs.rows.CallFrames.{begin_alike, call_answered, calls_same, sent_parts, unmarked_called, unmarked_same}
-- what the calls that were shown tell of a place: how the call of it ended, and which transaction
-- it is of
pub use Rattle.invariant_laws.proofs.rows.EndedCalls.{committed_ends as ended_calls_committed_ends, place_behind, shown_same, shows_weaker}
-- of Shown: the calls that a request sent on each connection are in a row, at the start and behind
-- each event
pub use Rattle.invariant_laws.proofs.rows.KeptRows.{before_on, course_rows, held_scripts, rows_law}
-- the calls of a request are in a row on each connection that it held, where its client steps
pub use Rattle.invariant_laws.proofs.rows.RowCourses.{AwaitedCall, OnIt, ask_opens, awaited_call, connect_opens, others_row, row_append, strange_row}
-- the calls of a request are in a row on each connection that it held, in each event of a run
pub use Rattle.invariant_laws.proofs.rows.RowKept.{no_row_yet, said_silent}
-- the last call on a connection, by what was sent last; and where a connection comes to its first
-- calls
pub use Rattle.invariant_laws.proofs.rows.RowLast.{is_opening, opening_calls, row_of}
-- where a client steps, its calls on the connection stay in a row
pub use Rattle.invariant_laws.proofs.rows.RowSteps.{NoneMore, OneMore, ShownStep, before_fits, shown_after, shown_more, shown_step}
-- the call that a step shows is that of the item of its frame, or an outcome said that it was
-- committed and completed
pub use Rattle.invariant_laws.proofs.rows.ShownNow.{FirstReply, FromItem, FromOutcome, ShownNow, first_reply, shown_now}
-- what sendings share an identifier with others, where a client steps: one that is answered with no
-- more than before, one that is made with none
pub use Rattle.invariant_laws.proofs.sendings.ApartSteps.{NoMore, OneMade, PushedAs, commits as apart_steps_commits, pushed_as}
-- a request that has asked for an outcome, whose entry is there, sent its next call under that
-- identifier, and no reply to it was taken; where the entry is completed that call is a lone commit
pub use Rattle.invariant_laws.proofs.sendings.CommittedSendings.{any_filtered, any_pair, any_reversed, calls_at, commit_alike, commit_unmarked, either_false, filter_any, is_unanswered, pair_sends, sends_at}
-- the fate of a sending where its connection is lent, and where a reply is taken on it
pub use Rattle.invariant_laws.proofs.sendings.FateLinks.{OutOf, owned_same}
-- where a client steps: what it sends, which fates of sendings stay, and what is known where a
-- reply is taken
pub use Rattle.invariant_laws.proofs.sendings.FateSteps.{IsFated, Taking, fated, fated_from, no_connection, out}
-- where a request takes a reply its sendings are fated on: its last one is answered, and no other
-- one waits on the connection
pub use Rattle.invariant_laws.proofs.sendings.FateTaken.{plain_none, scan_owned}
-- of a request that runs: its last sending is what is out on its connection, and no other sending
-- of it is open under the identifier held there
pub use Rattle.invariant_laws.proofs.sendings.FateTops.{all_with_is, call_left}
-- what became of a sending against its connection, as facts; and what keeps it
pub use Rattle.invariant_laws.proofs.sendings.Fates.{Fate, Waits, fate_from}
-- of Once: what became of each sending is told by its connection, at the start and behind each
-- event
pub use Rattle.invariant_laws.proofs.sendings.KeptFates.{mine_fated}
-- of Once: a call with a commit that is out on a connection has its sending there, which waits
-- under the identifier held, at the start and behind each event
pub use Rattle.invariant_laws.proofs.sendings.KeptOuts.{outs_from}
-- of Once: a sending that was answered Committed has its entry, at the start and behind each event
pub use Rattle.invariant_laws.proofs.sendings.KeptStored.{entry_there}
-- what is known of a sending by the calls that were shown and the outcomes that were taken stays so
-- where more are
pub use Rattle.invariant_laws.proofs.sendings.KnownLists.{IsAnswered as KnownListsIsAnswered, IsBlocked, IsCommitted, IsLast, Known, known_from}
-- of a connection: what is held rises with each reply that is taken, and above what it was where
-- the reply says Committed
pub use Rattle.invariant_laws.proofs.sendings.LinkFates.{front_cut, handled_parts}
-- the sendings that a step makes: on the connection on which the request speaks, under the
-- identifier that is held there then
pub use Rattle.invariant_laws.proofs.sendings.SendingsMade.{flat_all, made}
-- each Begin of a request goes with its first call, or with one behind a call that was shown with a
-- decided commit: at the start and behind each event
pub use Rattle.invariant_laws.proofs.talks.KeptDecided.{carries as kept_decided_carries}
-- each Begin of a request carries its settings, changed by each `set` before the call that follows
-- it: at the start and behind each event
pub use Rattle.invariant_laws.proofs.talks.KeptSettings.{carries as kept_settings_carries}
-- who sent last where more was sent: a request that says more, or sent last before, and the one
-- whose frame is the last
pub use Rattle.invariant_laws.proofs.talks.KeptUnserved.{last_is, last_more, moves, stays_own}
-- what becomes of the connection of a number in an event: it is there still, and stands so to what
-- it was
pub use Rattle.invariant_laws.proofs.talks.LinksStay.{Becomes}
-- what an event does to clients and connections: one client steps, and every other connection stays
-- as it is; or what was taken, is held and is out stays on each
pub use Rattle.invariant_laws.proofs.talks.Placing.{IsLent, Moving, Quietly, SameOut, Stepping, lent_at, moving, others_at, said}
-- which call a client sends behind a frame that it takes: the one that follows on its connection,
-- or the first there
pub use Rattle.invariant_laws.proofs.talks.TalkRows.{no_calls}
-- which call a client shows: that of the reply that it takes, or the lost one, where the outcome
-- says that it was committed and completed
pub use Rattle.invariant_laws.proofs.talks.TalkShows.{completed_gives, next_shows}
