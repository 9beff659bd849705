-- The invariant as a whole, wherever a run has come to, its finish among it.
use Rattle.std.proofs.Common.{List, []}
use Rattle.commit_log.specs.Keeping.{EachKeeps}
use Rattle.outage_schedule.specs.declared.document.Document.{Document}
use Rattle.outage_schedule.specs.declared.event.Event.{Event}
use Rattle.outage_schedule.specs.declared.item.Served.{Served}
use Rattle.outage_schedule.specs.declared.note.Note.{Note}
use Rattle.server_model.specs.Laws.{EntryNumbers}
use Rattle.server_model.specs.Seen.{Seen}
use Rattle.invariant_laws.specs.Invariant.{Invariant}
use Rattle.invariant_laws.specs.KeptLaws.{FinishesKeepInvariant, RunsKeepInvariant, WholeRunsKeepInvariant}
use Rattle.invariant_laws.specs.Lost.{Lost}
use Rattle.invariant_laws.specs.Once.{Once}
use Rattle.world_model.specs.OneEvent.{OneEvent}
use Rattle.world_model.specs.Reached.{traced_start, Begins, GoesOn}
use Rattle.world_model.specs.RunLaws.{RunsAreOrderly}
use Rattle.invariant_laws.specs.SameLaws.{RunsRan, RunsStarted}
use Rattle.invariant_laws.specs.Shown.{Shown}
use Rattle.world_model.specs.Traced.{Traced}
use Rattle.invariant_laws.proofs.entries.EntriesFew.{one_law}
use Rattle.invariant_laws.proofs.entries.KeptCopies.{copies_law}
use Rattle.invariant_laws.proofs.losses.KeptAnswers.{answers_law}
use Rattle.invariant_laws.proofs.sendings.KeptApart.{apart_law}
use Rattle.invariant_laws.proofs.losses.KeptAsks.{asks_law}
use Rattle.invariant_laws.proofs.entries.KeptCompleted.{completed_law}
use Rattle.invariant_laws.proofs.talks.KeptDecided.{decided_law}
use Rattle.invariant_laws.proofs.entries.KeptEnded.{ended_law}
use Rattle.invariant_laws.proofs.losses.KeptEvents.{events_law}
use Rattle.invariant_laws.proofs.sendings.KeptFates.{fates_law}
use Rattle.invariant_laws.proofs.talks.KeptFollowed.{followed_law}
use Rattle.invariant_laws.proofs.losses.KeptGone.{gone_law}
use Rattle.invariant_laws.proofs.sendings.KeptKnown.{known_law}
use Rattle.invariant_laws.proofs.losses.KeptLeft.{left_law}
use Rattle.invariant_laws.proofs.losses.KeptLost.{lost_law}
use Rattle.invariant_laws.proofs.entries.KeptNoted.{noted_law}
use Rattle.invariant_laws.proofs.sendings.KeptOnLinks.{links_law}
use Rattle.invariant_laws.proofs.losses.KeptOutcomes.{outcomes_law}
use Rattle.invariant_laws.proofs.sendings.KeptOuts.{outs_law}
use Rattle.invariant_laws.proofs.entries.KeptOver.{over_law}
use Rattle.invariant_laws.proofs.rows.KeptOwn.{own_law}
use Rattle.invariant_laws.proofs.losses.KeptPending.{pending_law}
use Rattle.invariant_laws.proofs.sendings.KeptPlaced.{placed_law}
use Rattle.invariant_laws.proofs.rows.KeptRows.{rows_law}
use Rattle.invariant_laws.proofs.entries.KeptSent.{sent_law}
use Rattle.invariant_laws.proofs.talks.KeptSettings.{settings_law}
use Rattle.invariant_laws.proofs.sendings.KeptSettled.{settled_law}
use Rattle.invariant_laws.proofs.rows.KeptShown.{from_law}
use Rattle.invariant_laws.proofs.sendings.KeptShownStored.{shown_stored_law}
use Rattle.invariant_laws.proofs.rows.KeptStands.{stands_law}
use Rattle.invariant_laws.proofs.sendings.KeptStored.{stored_law}
use Rattle.invariant_laws.proofs.losses.KeptTold.{told_law}
use Rattle.invariant_laws.proofs.entries.KeptTried.{lists_law, tried_law}
use Rattle.invariant_laws.proofs.losses.KeptUnasked.{unasked_law}
use Rattle.invariant_laws.proofs.losses.KeptWanted.{next_law}
use Rattle.world_model.proofs.Offered.{finishing_reached}

-- THE START ---------------------------------------------------------------------------------------

shown_begins : (document : Document) → Shown (traced_start document)
shown_begins document = record {
  shown = from_law.at_start document;
  rows = rows_law.at_start document;
  own = own_law.at_start document;
  answers = answers_law.at_start document;
  outcomes = stands_law.at_start document;
}

lost_begins : EachKeeps → EntryNumbers → (document : Document) → Lost (traced_start document)
lost_begins keeps numbers document = record {
  gone = gone_law.at_start document;
  lost = (lost_law keeps numbers).at_start document;
  pending = pending_law.at_start document;
  next = next_law.at_start document;
  told = told_law.at_start document;
  outcomes = outcomes_law.at_start document;
  unasked = unasked_law.at_start document;
  asks = asks_law.at_start document;
  left = left_law.at_start document;
  events = events_law.at_start document;
}

once_begins : EachKeeps → EntryNumbers → (document : Document) → Once (traced_start document)
once_begins keeps numbers document = record {
  entries = (sent_law numbers).at_start document;
  completed = completed_law.at_start document;
  links = links_law.at_start document;
  stored = (stored_law numbers).at_start document;
  fates = fates_law.at_start document;
  waits = outs_law.at_start document;
  apart = apart_law.at_start document;
  placed = placed_law.at_start document;
  known = known_law.at_start document;
  settled = (settled_law keeps numbers).at_start document;
  shown = (shown_stored_law numbers).at_start document;
  ended = ended_law.at_start document;
  ends = (over_law keeps numbers).at_start document;
  one = (one_law keeps numbers).at_start document;
  noted = noted_law.at_start document;
  tried = tried_law.at_start document;
  lists = lists_law.at_start document;
  copies = (copies_law keeps numbers).at_start document;
}

-- AN EVENT ----------------------------------------------------------------------------------------

module _ (before after : Seen) (old new : Traced) (event : Event) (note : Note) (items left : List Served) (one : OneEvent before old event note items left after new) (inv : Invariant old) where
  shown_kept : Shown new
  shown_kept = record {
    shown = from_law.at_event before after old new event note items left one inv;
    rows = rows_law.at_event before after old new event note items left one inv.orderly inv.shown.rows;
    own = own_law.at_event before after old new event note items left one inv;
    answers = answers_law.at_event before after old new event note items left one inv;
    outcomes = stands_law.at_event before after old new event note items left one inv;
  }

  lost_kept : EachKeeps → EntryNumbers → Lost new
  lost_kept keeps numbers = record {
    gone = gone_law.at_event before after old new event note items left one inv;
    lost = (lost_law keeps numbers).at_event before after old new event note items left one inv;
    pending = pending_law.at_event before after old new event note items left one inv;
    next = next_law.at_event before after old new event note items left one inv;
    told = told_law.at_event before after old new event note items left one inv;
    outcomes = outcomes_law.at_event before after old new event note items left one inv;
    unasked = unasked_law.at_event before after old new event note items left one inv;
    asks = asks_law.at_event before after old new event note items left one inv;
    left = left_law.at_event before after old new event note items left one inv;
    events = events_law.at_event before after old new event note items left one inv;
  }

  once_kept : EachKeeps → EntryNumbers → Once new
  once_kept keeps numbers = record {
    entries = (sent_law numbers).at_event before after old new event note items left one inv;
    completed = completed_law.at_event before after old new event note items left one inv;
    links = links_law.at_event before after old new event note items left one inv.orderly inv.once.links;
    stored = (stored_law numbers).at_event before after old new event note items left one inv;
    fates = fates_law.at_event before after old new event note items left one inv;
    waits = outs_law.at_event before after old new event note items left one inv;
    apart = apart_law.at_event before after old new event note items left one inv;
    placed = placed_law.at_event before after old new event note items left one inv;
    known = known_law.at_event before after old new event note items left one inv;
    settled = (settled_law keeps numbers).at_event before after old new event note items left one inv;
    shown = (shown_stored_law numbers).at_event before after old new event note items left one inv;
    ended = ended_law.at_event before after old new event note items left one inv;
    ends = (over_law keeps numbers).at_event before after old new event note items left one inv;
    one = (one_law keeps numbers).at_event before after old new event note items left one inv;
    noted = noted_law.at_event before after old new event note items left one inv.orderly inv.once.noted;
    tried = tried_law.at_event before after old new event note items left one inv;
    lists = lists_law.at_event before after old new event note items left one inv;
    copies = (copies_law keeps numbers).at_event before after old new event note items left one inv;
  }

-- A RUN -------------------------------------------------------------------------------------------

module _ (keeps : EachKeeps) (numbers : EntryNumbers) (orderly : RunsAreOrderly) (ran : RunsRan) (started : RunsStarted) where
  pub reached_invariant : RunsKeepInvariant
  reached_invariant document _ _ _ _ _ calls (Begins seen start history horizon coupled) =
      let reached = Begins seen start history horizon coupled in
      record {
        orderly = orderly document _ _ _ seen (traced_start document) calls reached;
        shown = shown_begins document;
        lost = lost_begins keeps numbers document;
        once = once_begins keeps numbers document;
        ran = ran document _ _ _ seen (traced_start document) calls reached;
        started = started document _ _ _ seen (traced_start document) calls reached;
        settings = settings_law.at_start document;
        followed = followed_law.at_start document;
        decided = decided_law.at_start document;
      }
  reached_invariant document _ _ _ _ _ calls (GoesOn events notes items more before after old new event note reached one forgets) =
      let inv = reached_invariant document events notes items before old calls reached in
      let now = GoesOn events notes items more before after old new event note reached one forgets in
      record {
        orderly = orderly document _ _ _ after new calls now;
        shown = shown_kept before after old new event note more [] one inv;
        lost = lost_kept before after old new event note more [] one inv keeps numbers;
        once = once_kept before after old new event note more [] one inv keeps numbers;
        ran = ran document _ _ _ after new calls now;
        started = started document _ _ _ after new calls now;
        settings = settings_law.at_event before after old new event note more [] one inv.orderly inv.settings;
        followed = followed_law.at_event before after old new event note more [] one inv.orderly inv.followed;
        decided = decided_law.at_event before after old new event note more [] one inv.orderly inv.decided;
      }

  pub finishing_invariant : FinishesKeepInvariant
  finishing_invariant document place notes items seen t calls finishing =
      let so = finishing_reached document place notes items seen t finishing in reached_invariant document so.0 notes items seen t calls so.1

  pub run_invariant : WholeRunsKeepInvariant
  run_invariant document notes items seen t calls run = finishing_invariant document run.place notes items seen t calls run.finishing
