-- Laws of this crate that the crates above cite.

-- what holds of each call that the plain server answers, by its mark and its answers, holds of each
-- call that a run's connections served
pub use Rattle.once_laws.proofs.calls.AnsweredCalls.{runs_hold, tells, told_by_item, whole_runs_hold}
-- each call of a request behind which it sent a further one on the same connection was answered as
-- it was shown, and drew the granted values that were shown, where no digests clash
pub use Rattle.once_laws.proofs.calls.CallsAgree.{link_agrees, tells_as}
-- each call that was served on a connection is of a request that had it, and two calls that a
-- request sent on one connection are never the same call of it
pub use Rattle.once_laws.proofs.calls.CallsApart.{at_held, handled_at}
-- how the answers to the calls end that a run's connections served: with RolledBack those of a
-- rollback, and with Committed only those of a call with a commit and without the mark
pub use Rattle.once_laws.proofs.calls.CallsFit.{ends_otherwise}
-- in an entry of a sending that is open or was answered Committed, no call but the last was shown
-- as an end: it is what a connection ran for the request, and ends with the one that was sent
pub use Rattle.once_laws.proofs.calls.EntryInsides.{EntryRan, drop_got, more_pieces, no_pieces, runs_go_on, whole_runs_go_on}
-- an entry of a sending that is open or was answered Committed: the transaction that its connection
-- ran, with its request, and what holds of each such entry
pub use Rattle.once_laws.proofs.calls.EntryPlaces.{EntryAt, any, begins, dids, ends, entry_ran as entry_places_entry_ran, first, had, held_link, of_each, row}
-- the last piece of an entry has the answers and the granted draws with which its call was shown,
-- where it was shown: by the reply on its own connection, since no call is stored twice; or by an
-- outcome, where it is a commit with no statement, which has one answer
pub use Rattle.once_laws.proofs.calls.LastPieces.{last_told}
-- what holds of the Begins that were sent on a connection holds of those that it served, so its
-- transactions start with the settings of their request
pub use Rattle.once_laws.proofs.calls.LinkStarts.{carried_on, followed_on, owner_same, sessions_known, starts_known}
-- no two requests of a run have one owner, so a frame is of one request
pub use Rattle.once_laws.proofs.calls.OneCourse.{any_at}
-- the entry of a sending to which no reply was taken has the calls of the script that end with the
-- one that was sent, and the settings before them: it is what its connection ran last
pub use Rattle.once_laws.proofs.calls.OpenEntries.{HasRun, all_its, all_there, entry_ran as open_entries_entry_ran, is_its, is_there, open_known}
-- a statement is answered neither Committed, nor RolledBack, nor CommitInReplay
pub use Rattle.once_laws.proofs.calls.PlainAnswers.{work_plainly}
-- what a request knows of the calls that a connection served for it, and of the pieces of
-- transactions there: no call is behind the last one that was sent, and what holds of each call
-- behind which it sent a further one holds of each piece before the last
pub use Rattle.once_laws.proofs.calls.RanAgrees.{at_most, did_so, did_stands, inner_so, is_told_so, items_stand, last, link_came, of_did, of_item}
-- what holds of the frames that were sent on a connection holds of those that it served: they keep
-- to the grammar, and a request's calls among them are in a row and its script's
pub use Rattle.once_laws.proofs.calls.RanCalls.{call_same, follows, follows_alike, is_mine, mine_alike, was_right}
-- what a request knows of the calls inside a transaction that its connection ran: each but the last
-- was answered as it was shown, and ended none
pub use Rattle.once_laws.proofs.calls.RanInside.{inside_known, last_dropped}
-- a transaction that a connection ran and that has a call of a request has all its calls from the
-- request's script, in a row from the first one
pub use Rattle.once_laws.proofs.calls.RanScripts.{Asks, Begins, Calls, Deal, Ends, Greets, IsLast, Stops, first_more, handled_deal, owns, plain_left, scripts_ran}
-- a transaction that a connection ran and that has a call of a request starts with the request's
-- settings, changed by each `set` before its first call; and its session has them, changed by each
-- `set` that it served too
pub use Rattle.once_laws.proofs.calls.RanStarts.{GoesOn, IsDone, Next, StandsAt as RanStartsStandsAt, follows_so, knows, next_step, one_next, row_from, sents_of, since, step, was_set}
-- at the end of a run each client is finished: all its requests are over, and their reports are
-- what it was shown
pub use Rattle.once_laws.proofs.calls.RunEnds.{all_finished}
-- what a connection that a request held served: its frames keep to the grammar, and the request's
-- calls among them are the script's, in a row
pub use Rattle.once_laws.proofs.calls.ServedRows.{InRow, held_so, row_at}
-- what holds of each frame that was sent on a connection holds of each that it served: so a
-- repeated call that was served brought the draws that were shown
pub use Rattle.once_laws.proofs.calls.ServedSent.{carries_alike, pass_split, sent_front, sent_split}
-- each of the calls that were shown is from somewhere, by its index
pub use Rattle.once_laws.proofs.calls.ShownFrom.{commit_ends, from_at}
-- where a shown call is from: an item of a connection that its request held, of the call without
-- the mark; or an outcome, where it is a commit with no statement
pub use Rattle.once_laws.proofs.calls.ShownSources.{never_in_replay}
-- where a session stands while it serves the frames of its connection in order: in a request, of
-- which one thing is known, or in none
pub use Rattle.once_laws.proofs.calls.StageStands.{StandsAt as StageStandsStandsAt, asked_stands, begin_stands, end_stands, greeted_stands, now_within, was_within}
-- the calls of a request among what a connection served, and among what was sent on it: of one
-- front, and all but one of them at least
pub use Rattle.once_laws.proofs.calls.VerifiedLists.{calls_few, calls_many, last_call, last_too, take_all, take_before}
-- how often a value stands among draws
pub use Rattle.once_laws.proofs.values.DrawnOnce.{AreOnce, all_new, each_once, once_each, some_time, time_some, times, times_both}
-- where no call of a request is stored twice, no value stands twice among what the entries of a run
-- drew
pub use Rattle.once_laws.proofs.values.FreshStored.{Each, Fits, drawn, each_flat, each_stored, given_so, one_time, some_given, total, total_any, total_at, total_both, total_flat}
-- each transaction of a report stands in its journal at most once: what the invariant says of the
-- state at the end of a run, said of its report
pub use Rattle.once_laws.proofs.values.OnceEnd.{later_are, script_is}
-- values that were given: where none is the first of its kind twice, each has one owner
pub use Rattle.once_laws.proofs.values.OwnedLists.{From, Here, Later, Stands, each_owned, firsts, firsts_both, from_one, has_origin, is_origin, some_first}
-- each value that a marked call carries was given to the same call of the same request at an
-- earlier event, by an item without the mark
pub use Rattle.once_laws.proofs.values.RepeatedGiven.{are_repeated, gave_before, kept_given, repeated_now, repeats_given}
-- the values of a call that was shown were given to this call, by an item without the mark
pub use Rattle.once_laws.proofs.values.ShownGiven.{any_served, are_given, given_now, given_start, gives_draws, gives_to, is_nothing}
