-- The entries of a session that a report tells to be stored before an event are those of the
-- journal where the run had come to then.
use Rattle.std.proofs.Common.{◌≡◌, refl, sym, ap, subst, ◌∙◌, append-nil, append_assoc, true, ℕ, ◌+◌, List, [], ◌∷◌, ◌++◌}
use Rattle.std.specs.Prelude.{All, not, nat_lt}
use Rattle.std.specs.List.{list_all}
use Rattle.std.proofs.lemmas.List.{append_cancel_left}
use Rattle.std.proofs.lemmas.List.Elements.{All-nil}
use Rattle.svc_values.specs.declared.entry.Entry.{Entry}
use Rattle.svc_values.specs.declared.entry.SessionId.{SessionId}
use Rattle.commit_log.specs.Keeping.{EachKeeps}
use Rattle.outage_schedule.specs.declared.document.Document.{Document}
use Rattle.outage_schedule.specs.declared.event.Event.{Event}
use Rattle.outage_schedule.specs.declared.item.Served.{Served}
use Rattle.outage_schedule.specs.declared.note.Note.{Note}
use Rattle.outage_schedule.specs.declared.report.Report.{Report}
use Rattle.run_clauses.specs.meaning.Before.{journal_before}
use Rattle.run_clauses.specs.meaning.EntryEvents.{commits, commits_from, stored_at, stored_before, stored_entries, entries_of}
use Rattle.run_clauses.specs.meaning.Moments.{HappenedAt}
use Rattle.run_clauses.specs.meaning.ServiceBase.{service_base}
use Rattle.server_model.specs.meaning.Base.{Base}
use Rattle.server_model.specs.Base.{IsSound}
use Rattle.server_model.specs.Laws.{EntryNumbers, stops_last}
use Rattle.server_model.specs.Runs.{Happened, Server, Runs}
use Rattle.server_model.specs.Seen.{Seen}
use Rattle.server_model.specs.ServiceCalls.{CameFrom}
use Rattle.world_model.specs.Coupled.{Coupled}
use Rattle.run_laws.specs.EntryCounts.{RunsOn, IsThere, OneMore}
use Rattle.world_model.specs.records.Number.{numbered_after}
use Rattle.world_model.specs.OneEvent.{OneEvent}
use Rattle.world_model.specs.Reported.{IsReported}
use Rattle.world_model.specs.Traced.{Traced}
use Rattle.run_laws.proofs.AnswersRight.{is_from, told_before, from_event_on}
use Rattle.world_model.proofs.Offered.{opens_once, finishing_coupled, finishing_sound}
use Rattle.run_laws.proofs.BlockedApart.{report_numbered}
use Rattle.run_laws.proofs.CommitsAligned.{all_came}
use Rattle.run_laws.proofs.CommitsGrow.{AreOf, commits_behind, commits_more, commits_pass, before_counts}
use Rattle.run_laws.proofs.CommitsRun.{aligned}
use Rattle.run_laws.proofs.MomentsGrow.{moments_of, event_moments}
use Rattle.run_laws.proofs.RunTells.{HasCome, told, moments_now, come_on}

-- WHAT COMES LATER --------------------------------------------------------------------------------

-- what is told and what happens behind a place of the run, and the entries that the journal gains
-- from it
pub record Later (all : List Note) (whole : List Served) (last : Seen) (end : Traced) (notes : List Note) (items : List Served) (before : Seen) (old : Traced) : Type 0 where
  pub rest : List HappenedAt
  pub moments : moments_of all whole ≡ moments_of notes items ++ rest
  pub behind : list_all (is_from (old.machine.event + 1)) rest ≡ true
  pub later : List Happened
  pub history : last.history ≡ before.history ++ later
  pub few : List Entry
  pub entries : end.entries ≡ old.entries ++ few
  pub came : All (CameFrom later) few

later_more : (all : List Note) (whole : List Served) (last : Seen) (end : Traced) (notes : List Note) (items more : List Served) (before after : Seen) (old new : Traced) (event : Event) (note : Note) (one : OneEvent before old event note more [] after new)
    → HasCome notes items before old.machine → Later all whole last end (notes ++ note ∷ []) (items ++ more) after new → Later all whole last end notes items before old
later_more all whole last end notes items more before after old new event note one come it =
    let next : new.machine.event ≡ old.machine.event + 1 = (opens_once old.setting old.machine new.machine event note more [] one.follows).0 in
    let here : List HappenedAt = event_moments (old.machine.event + 1) note more in
    record {
      rest = event_moments (old.machine.event + 1) note more ++ it.rest;
      moments = it.moments ∙ (ap (λ (l : List HappenedAt). l ++ it.rest) (moments_now before after old new event note notes items more one come) ∙ append_assoc (moments_of notes items) here it.rest);
      behind =
          from_event_on old.machine here it.rest one.happened (told before after old new event note notes items more one come).tells
          (subst (λ (n : ℕ). list_all (is_from (n + 1)) it.rest ≡ true) next it.behind);
      later = one.happened ++ it.later;
      history = it.history ∙ (ap (λ (h : List Happened). h ++ it.later) one.history ∙ append_assoc before.history one.happened it.later);
      few = one.more_entries ++ it.few;
      entries = it.entries ∙ (ap (λ (l : List Entry). l ++ it.few) one.entries ∙ append_assoc old.entries one.more_entries it.few);
      came = all_came one.happened it.later one.more_entries it.few one.own it.came;
    }

pub later_of : (all : List Note) (whole : List Served) (last : Seen) (end : Traced) (notes : List Note) (items : List Served) (before : Seen) (old : Traced) → RunsOn all whole last end notes items before old → HasCome notes items before old.machine
    → Later all whole last end notes items before old
later_of all whole last end _ _ _ _ IsThere come = record {
  rest = [];
  moments = sym (append-nil (moments_of all whole));
  behind = refl;
  later = [];
  history = sym (append-nil last.history);
  few = [];
  entries = sym (append-nil end.entries);
  came = All-nil (CameFrom []);
}
later_of all whole last end _ _ _ _ (OneMore notes items more before after old new event note one further) come =
    later_more all whole last end notes items more before after old new event note one come
    (later_of all whole last end (notes ++ note ∷ []) (items ++ more) after new further (come_on before after old new event note notes items more one come))

-- WHAT IS STORED ----------------------------------------------------------------------------------

module _ (keeps : EachKeeps) (numbers : EntryNumbers) (document : Document) (report : Report) (seen : Seen) (t : Traced) (server : Server) (is : IsReported document report seen t server) where
  abbrev base : Base
  base = service_base document

  abbrev final : List Entry
  final = report.entries

  abbrev image : List Entry
  image = (journal_before document).entries

  sound : IsSound (service_base document)
  sound = finishing_sound document is.run.place report.notes report.served seen t is.run.finishing

  coupled_last : Coupled seen t
  coupled_last = finishing_coupled document is.run.place report.notes report.served seen t is.run.finishing

  numbered : numbered_after [] ((service_base document).entries ++ report.entries) ≡ true
  numbered = report_numbered keeps numbers document report seen t server is

  module _ (notes : List Note) (items : List Served) (before : Seen) (old : Traced) (starts : before.start ≡ service_base document) (coupled : Coupled before old) (come : HasCome notes items before old.machine)
      (it : Later report.notes report.served seen t notes items before old) where
    abbrev store : Server
    store = coupled.history.server

    abbrev told_so_far : List HappenedAt
    told_so_far = moments_of notes items

    runs : Runs (service_base document) before.history coupled.history.server
    runs = subst (λ (b : Base). Runs b before.history coupled.history.server) starts coupled.history.runs

    entries_then : old.entries ≡ (journal_before document).entries ++ coupled.history.server.core.entries
    entries_then = coupled.entries ∙ (coupled.history.entries ∙ ap (λ (b : Base). b.entries ++ coupled.history.server.core.entries) starts)

    split : report.entries ≡ coupled.history.server.core.entries ++ it.few
    split =
        append_cancel_left image final (store.core.entries ++ it.few)
        (sym is.gained ∙ (sym coupled_last.entries ∙ (it.entries ∙ (ap (λ (l : List Entry). l ++ it.few) entries_then ∙ append_assoc image store.core.entries it.few))))

    are : AreOf coupled.history.server.core.entries (commits_from report.entries [] (moments_of notes items))
    are =
        aligned base sound numbers final numbered old.machine.event told_so_far before.history come.tells it.later store runs
        (subst (λ (h : List Happened). stops_last h ≡ true) it.history coupled_last.stops) it.few split it.came

    commits_split : commits report ≡ commits_from report.entries [] (moments_of notes items) ++ commits_from report.entries (commits_behind report.entries [] (moments_of notes items)) it.rest
    commits_split = ap (commits_from final []) it.moments ∙ commits_more final [] told_so_far it.rest

    -- so many entries of the session
    pub stored_then : (session : SessionId) → stored_before (journal_before document).entries (stored_entries report) session (old.machine.event + 1) ≡ entries_of old.entries session
    stored_then session =
        (λ i. stored_before image (stored_at (split i) (commits_split i)) session (old.machine.event + 1))
        ∙ (before_counts session (old.machine.event + 1) image store.core.entries it.few (commits_from final [] told_so_far) (commits_from final (commits_behind final [] told_so_far) it.rest) are
        (commits_pass (λ (n : ℕ). nat_lt n (old.machine.event + 1)) final [] told_so_far (told_before old.machine.event told_so_far before.history come.tells))
        (commits_pass (λ (n : ℕ). not (nat_lt n (old.machine.event + 1))) final (commits_behind final [] told_so_far) it.rest it.behind)
        ∙ ap (λ (l : List Entry). entries_of l session) (sym entries_then))
