-- Laws of this crate that the crates above cite.

-- what is told of a connection that is there, and of one that is not
pub use Rattle.shown_laws.proofs.links.ConnectionsTold.{AllTold, told_at, none_told}
-- the connection with its session of one that is told
pub use Rattle.shown_laws.proofs.links.ToldOnce.{session_told}
-- what holds of all connections, or of all requests, holds of the one of a number, or of the one
-- that a client is at
pub use Rattle.shown_laws.proofs.events.CourseNow.{course_holds, was_there}
pub use Rattle.shown_laws.proofs.links.SessionsApart.{at_link}
-- what was done at all steps of a request is what it did
pub use Rattle.shown_laws.proofs.steps.ActsTold.{acts_in, acts_told}
-- each event does what its note and its items say
pub use Rattle.shown_laws.proofs.events.Following.{Does, Goes, ServesNone, Serves, CutsNone, Cuts, ReapsNone, Reaps, IsDown, Crashes, CrashStops, CrashServes, Ticks, Drains, IsServers, at_event, follow_does}
pub use Rattle.shown_laws.proofs.events.GoNotes.{GoesAs, follow_goes}
-- the connection of a frame that may be served, and the connection of a number where one becomes
-- another, or all change
pub use Rattle.shown_laws.proofs.links.ItemsTold.{IsFront, front_is}
pub use Rattle.shown_laws.proofs.events.Lookups.{with_own, all_changed}
-- what a connection had served stays where it ends
pub use Rattle.shown_laws.proofs.links.ServedStays.{fallen_served}
pub use Rattle.shown_laws.proofs.owners.TurnsHappen.{blocked_served}
-- machine and service stand beside one another
pub use Rattle.shown_laws.proofs.events.FinishesReached.{reached_coupled}
-- the turn that is told of a connection was acquired by a step on it that is told, as it is where
-- more is told
pub use Rattle.shown_laws.proofs.owners.TurnHeard.{HeardBy, still_heard, turn_heard}
-- the request of a course, the steps that it did, and one that did no more
pub use Rattle.shown_laws.proofs.steps.RequestCourses.{IsCourseOf, course_is}
pub use Rattle.shown_laws.proofs.steps.RequestsGrow.{same_more}
pub use Rattle.shown_laws.proofs.steps.StepsOwned.{has_did}
-- what was shown at some steps is a front of what was shown at more, and where a connection was
-- opened stays
pub use Rattle.shown_laws.proofs.shown.ShownBefore.{ShownMore, shown_more}
pub use Rattle.shown_laws.proofs.shown.HelloOpening.{opened_front}
-- the request that acquired a session is told by its part, with as many calls shown before as
-- before it opened the connection
pub use Rattle.shown_laws.proofs.judged.AcquirersTold.{TellsAcquirer, acquirer_told}
