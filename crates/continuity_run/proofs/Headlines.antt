-- What the report of a run that is over says of its document.
use Rattle.std.proofs.Common.{◌≡◌, arith, ◌∙◌, refl, sym, ap, ap₂, subst, ℕ, Bool, true, false, List, [], ◌∷◌, ◌++◌, length, drop, map, Some, Option, Ok}
use Rattle.std.specs.Prelude.{◌==◌, ◌≤◌, ℤ, if◌then◌else◌}
use Rattle.std.specs.Option.{option_map}
use Rattle.std.specs.Str.{bytes_eq}
use Rattle.std.proofs.Math.Path.{fun_ext}
use Rattle.std.proofs.lemmas.Bool.Decides.{nat_tests}
use Rattle.json_form.proofs.Offered.{both_true}
use Rattle.svc_values.specs.declared.entry.Entry.{Entry}
use Rattle.svc_values.specs.declared.entry.Ltxid.{Ltxid}
use Rattle.stmt_meaning.specs.meaning.Serial.{Serial}
use Rattle.mutable_values.specs.declared.source.SeqState.{SeqState}
use Rattle.mutable_values.specs.Sources.{Opening, sequence_of}
use Rattle.commit_log.specs.declared.journal.Journal.{Journal}
use Rattle.commit_log.specs.meaning.Journals.{journal_of}
use Rattle.outage_schedule.specs.declared.document.Document.{Document}
use Rattle.outage_schedule.specs.declared.item.Served.{Served}
use Rattle.outage_schedule.specs.declared.note.Note.{Note}
use Rattle.outage_schedule.specs.declared.report.Report.{Report}
use Rattle.run_clauses.specs.meaning.Before.{journal_before, start, shape}
use Rattle.run_clauses.specs.meaning.Serial.{IsSerial, printed_tables}
use Rattle.run_clauses.specs.meaning.Horizons.{last_horizon}
use Rattle.run_clauses.specs.meaning.ServiceBase.{sequences_of, service_base}
use Rattle.run_clauses.specs.meaning.Stored.{stored}
use Rattle.server_model.specs.meaning.Base.{Base, Sequence}
use Rattle.server_model.specs.Base.{IsSound}
use Rattle.server_model.specs.Core.{committed}
use Rattle.server_model.specs.Laws.{RunsSerial}
use Rattle.server_model.specs.Seen.{Seen}
use Rattle.server_model.specs.meaning.SetAside.{SetAside, ends_in}
use Rattle.server_model.specs.SetAside.{ends_of}
use Rattle.server_session.specs.Fits.{IsSourceOf, sequence_in}
use Rattle.world_model.specs.meaning.Judged.{drawn_in}
use Rattle.world_model.specs.Reached.{IsRun}
use Rattle.world_model.specs.Reported.{IsReported}
use Rattle.world_model.specs.records.Ready.{all_requests_right}
use Rattle.world_model.proofs.Offered.{finishing_start}
use Rattle.world_run.specs.declared.world.Ran.{Ran}
use Rattle.continuity_run.specs.declared.store.Before.{Before}
use Rattle.continuity_run.specs.meaning.Headline.{Headline, IsReadFrom}
use Rattle.continuity_run.proofs.Images.{image_is}
use Rattle.continuity_run.specs.Reading.{IsReadOff}
use Rattle.continuity_run.specs.RunLaws.{RunsHold}
use Rattle.continuity_run.specs.Runs.{HasRun, IsReportOf}
use Rattle.continuity_run.specs.Stores.{Counts}
use Rattle.continuity_run.proofs.Ending.{EndsIn, HasGained}

-- LISTS -------------------------------------------------------------------------------------------

drop_front : {A : Type 0} (front back : List A) → drop (length front) (front ++ back) ≡ back
drop_front [] back = refl
drop_front (one ∷ front) back = drop_front front back

-- what stands behind so many
behind : {A : Type 0} (front back all later : List A) (count : ℕ) → all ≡ front ++ back → count ≡ length front → later ≡ drop count all → later ≡ back
behind front back all later count is many dropped = dropped ∙ (ap (λ (n : ℕ). drop n all) many ∙ (ap (λ (one : List _). drop (length front) one) is ∙ drop_front front back))

-- where the values end that a source has set aside
ends_as : (sequences : List SeqState) (name : List ℕ) → option_map (λ (sequence : SeqState). sequence.upto) (sequence_of sequences name) ≡ ends_in (map sequence_in sequences) name
ends_as [] name = refl
ends_as (sequence ∷ sequences) name = by (bytes_eq sequence.name name) (ends_as sequences name)
  where
    by : (own : Bool) → option_map (λ (one : SeqState). one.upto) (sequence_of sequences name) ≡ ends_in (map sequence_in sequences) name
        → option_map (λ (one : SeqState). one.upto) (if own then Some sequence else sequence_of sequences name) ≡ (if own then Some sequence.upto else ends_in (map sequence_in sequences) name)
    by true more = refl
    by false more = more

ends_same : (opening : Opening) (journal : Journal) → IsSourceOf opening journal → ends_of opening ≡ ends_in (sequences_of journal)
ends_same opening journal source = fun_ext (λ name. ends_as opening.sequences name ∙ ap (λ (sequences : List Sequence). ends_in sequences name) source.sequences)

same_number : (a b : ℕ) → (a == b) ≡ true → a ≡ b
same_number a b is = grind (arith, nat_tests)

-- THE REPORT --------------------------------------------------------------------------------------

module _ {S : Type 0} (sees : S → Seen → Type 0) (document : Document) (ran : Ran S) (bytes : List ℕ) (before : Before) (report : Report) (has : HasRun sees document ran) (counts : Counts (journal_before document) before)
    (off : IsReadOff bytes before document.print_image ran report) (ends : EndsIn has.seen off.journal) (base : off.journal.base ≡ (journal_before document).base) where
  is_run : IsRun document report.notes report.served has.seen has.traced
  is_run =
      subst (λ (notes : List Note). IsRun document notes report.served has.seen has.traced) (sym off.notes)
      (subst (λ (served : List Served). IsRun document ran.notes served has.seen has.traced) (sym off.served) has.run)

  starts : has.seen.start ≡ service_base document
  starts = finishing_start document has.run.place ran.notes ran.served has.seen has.traced has.run.finishing

  gained : HasGained (service_base document) has.seen.history off.journal
  gained = subst (λ (start : Base). HasGained start has.seen.history off.journal) starts ends.gained

  entries_are : report.entries ≡ gained.server.core.entries
  entries_are = behind (journal_before document).entries gained.server.core.entries off.journal.entries report.entries before.entries gained.entries counts.entries off.entries

  blocked_are : report.blocked ≡ gained.server.core.blocked
  blocked_are = behind (journal_before document).blocked gained.server.core.blocked off.journal.blocked report.blocked before.blocked gained.blocked counts.blocked off.blocked

  alerts_are : report.alerts ≡ gained.server.core.alerts
  alerts_are = behind (journal_before document).alerts gained.server.core.alerts off.journal.alerts report.alerts before.alerts gained.alerts counts.alerts off.alerts

  printed : report.tables ≡ printed_tables (journal_before document).base (committed gained.server.core)
  printed =
      off.tables ∙ ap₂ printed_tables base (sym gained.tables)

  serial_of : RunsSerial → IsSerial document report
  serial_of serial = record {
    after = committed gained.server.core;
    runs = subst (λ (entries : List Entry). Serial (shape document) (start document) entries (committed gained.server.core)) (sym entries_are)
        (serial (service_base document) has.seen.history gained.server (subst IsSound starts has.place.coupled.sound) gained.runs);
    printed = printed;
  }

  entries_read : off.journal.entries ≡ (journal_before document).entries ++ report.entries
  entries_read = gained.entries ∙ ap (λ (entries : List Entry). (journal_before document).entries ++ entries) (sym entries_are)

  reported : IsReported document report has.seen has.traced gained.server
  reported = record {
    run = is_run;
    clients = off.clients ∙ has.clients;
    runs = gained.runs;
    entries = entries_are;
    gained = ends.entries ∙ entries_read;
    blocked = blocked_are;
    alerts = alerts_are;
    forgotten = off.forgotten ∙ sym ends.horizon;
  }

  -- what the journal at the end says of the report
  read_from : RunsHold → IsReadFrom document report off.journal
  read_from laws = record {
    base = base;
    entries = entries_read;
    blocked = gained.blocked ∙ ap (λ (blocked : List Ltxid). (journal_before document).blocked ++ blocked) (sym blocked_are);
    alerts = gained.alerts ∙ ap (λ (alerts : List (List ℕ)). (journal_before document).alerts ++ alerts) (sym alerts_are);
    tables = off.tables;
    horizon = off.forgotten;
    incarnation = sym ends.incarnation ∙ laws.incarnations document report has.seen has.traced is_run;
    set_aside =
        subst (λ (ends : List ℕ → Option ℤ). SetAside (sequences_of (journal_before document)) ends (drawn_in document report)) (ends_same gained.server.core.opening off.journal gained.source)
        (laws.set_aside document report has.seen has.traced gained.server reported);
  }

  stored_so : RunsHold → all_requests_right document ≡ true → stored document report ≡ true
  stored_so laws calls =
      let told = laws.horizons document report has.seen has.traced gained.server reported in
      both_true _ _ (laws.outcomes document report has.seen has.traced gained.server calls reported)
      (both_true _ _ (laws.answers document report has.seen has.traced gained.server reported)
      (both_true _ _ told
      (both_true _ _ (laws.apart document report has.seen has.traced gained.server reported)
      (both_true _ _
      (both_true _ _ (laws.answered document report has.seen has.traced gained.server reported) (laws.ordered document report has.seen has.traced gained.server reported))
      (image_is document report off.journal (read_from laws) (sym off.forgotten ∙ same_number report.forgotten (last_horizon document report) told) bytes off.reads off.image)))))

  headline : RunsHold → all_requests_right document ≡ true → 1 ≤ document.service.retries → Headline document report
  headline laws calls tries = record {
    followed_so = laws.followed document report has.seen has.traced is_run (off.clients ∙ has.clients);
    serial = serial_of laws.serial;
    legal = laws.legal document report has.seen has.traced gained.server reported;
    legal_so = laws.legal_told document report has.seen has.traced gained.server calls reported;
    fresh_new = laws.fresh_new document report has.seen has.traced gained.server reported;
    fresh = laws.fresh document report has.seen has.traced gained.server calls reported;
    once_so = laws.once document report has.seen has.traced gained.server calls reported;
    same_so = laws.same document report has.seen has.traced gained.server calls reported;
    scripted_so = laws.scripted document report has.seen has.traced gained.server calls reported;
    stored_so = stored_so laws calls;
    caused_so = laws.caused document report has.seen has.traced gained.server calls tries reported;
    whole_so = laws.whole document report has.seen has.traced gained.server calls reported;
    calm_so = laws.calm document report has.seen has.traced gained.server calls reported;
    bytes = bytes;
    journal = off.journal;
    holds = off.reads;
    read = read_from laws;
    image = off.image;
  }

-- The report that is read off the store of a run says what the headline says, where what is seen of
-- the service says what its store holds.
pub headline_of : {S : Type 0} (sees : S → Seen → Type 0) (bytes : S → List ℕ) → ((service : S) (seen : Seen) (journal : Journal) → sees service seen → journal_of (bytes service) ≡ Ok journal → EndsIn seen journal)
    → (first : List ℕ) (document : Document) (before : Before) (report : Report) → IsReportOf sees bytes first before document.print_image document report → Counts (journal_before document) before → journal_of first ≡ Ok (journal_before document)
    → RunsHold → all_requests_right document ≡ true → 1 ≤ document.service.retries → Headline document report
headline_of sees bytes end first document before report of counts reads laws calls tries =
    headline sees document of.ran (bytes of.ran.service) before report of.has counts of.off (end of.ran.service of.has.seen of.off.journal of.has.place.seen_so of.off.reads)
    (of.base (journal_before document) of.off.journal reads of.off.reads) laws calls tries
