-- No identifier of a report's journal is both blocked and an entry's: a blocked one is its
-- session's next, and the entries are numbered.
use Rattle.std.proofs.Common.{◌≡◌, refl, sym, ap, subst, ◌∙◌, Bool, true, false, ◌<◌, ◌||◌, cond, List, [], ◌∷◌, ◌++◌, map, Some, arith}
use Rattle.std.specs.Prelude.{◌==◌, nat_lt, find, is_none, option_map}
use Rattle.std.specs.List.{list_all, list_any}
use Rattle.std.proofs.lemmas.Bool.{and_parts, and_from}
use Rattle.std.proofs.lemmas.List.{append-nil}
use Rattle.svc_values.specs.declared.entry.Entry.{Entry}
use Rattle.svc_values.specs.declared.entry.Ltxid.{Ltxid}
use Rattle.svc_values.specs.meaning.Identifiers.{same_ltxid, session_of}
use Rattle.svc_values.specs.SameLaws.{same_ltxid_decides}
use Rattle.ltxid_book.specs.meaning.Journal.{committed_of}
use Rattle.ltxid_book.specs.Journal.{BlocksStand}
use Rattle.outage_schedule.specs.declared.document.Document.{Document}
use Rattle.outage_schedule.specs.declared.report.Report.{Report}
use Rattle.run_clauses.specs.meaning.Before.{journal_before}
use Rattle.run_clauses.specs.meaning.EntryEvents.{entries_of}
use Rattle.run_clauses.specs.meaning.Outcomes.{completed_of}
use Rattle.run_clauses.specs.meaning.ServiceBase.{service_base}
use Rattle.commit_log.specs.Keeping.{EachKeeps}
use Rattle.server_model.specs.meaning.Base.{Base}
use Rattle.server_model.specs.Laws.{EntryNumbers, RunsStand}
use Rattle.server_model.specs.Runs.{Server}
use Rattle.server_model.specs.Seen.{Seen}
use Rattle.server_model.proofs.Offered.{runs_keep_base}
use Rattle.world_model.specs.records.Number.{numbered_after}
use Rattle.world_model.specs.Reported.{IsReported}
use Rattle.run_laws.specs.StoredLaws.{BlocksStayApart}
use Rattle.world_model.specs.Traced.{Traced}
use Rattle.world_model.proofs.Offered.{all_next, entries_law, numbered_on, all_below, finishing_sound, eq_from, lt_from}

-- no entry has the next identifier of a session
pub none_alike : (all entries : List Entry) (x : Ltxid) → x.number ≡ entries_of all (session_of x) → list_all (λ entry. nat_lt entry.ltxid.number (entries_of all (session_of entry.ltxid))) entries ≡ true
    → list_any (λ entry. same_ltxid entry.ltxid x) entries ≡ false
none_alike all [] x next below = refl
none_alike all (entry ∷ entries) x next below =
    let parts = and_parts (nat_lt entry.ltxid.number (entries_of all (session_of entry.ltxid))) (list_all (λ one. nat_lt one.ltxid.number (entries_of all (session_of one.ltxid))) entries) below in
    by (same_ltxid entry.ltxid x) refl (lt_from entry.ltxid.number (entries_of all (session_of entry.ltxid)) parts.0) (none_alike all entries x next parts.1)
  where
    by : (same : Bool) → same_ltxid entry.ltxid x ≡ same → entry.ltxid.number < entries_of all (session_of entry.ltxid) → list_any (λ (one : Entry). same_ltxid one.ltxid x) entries ≡ false
        → (same || list_any (λ (one : Entry). same_ltxid one.ltxid x) entries) ≡ false
    by false is under later = later
    by true is under later =
        let one : entry.ltxid ≡ x = (same_ltxid_decides entry.ltxid x).0 is in
        let below : x.number < entries_of all (session_of x) = subst (λ (y : Ltxid). y.number < entries_of all (session_of y)) one under in
        absurd (let never : ⊥ = omega (arith, next, below) in never)

none_found : (entries : List Entry) (x : Ltxid) → list_any (λ entry. same_ltxid entry.ltxid x) entries ≡ false → is_none (completed_of entries x) ≡ true
none_found [] x none = refl
none_found (entry ∷ entries) x none = by (same_ltxid entry.ltxid x) (none_found entries x) none
  where
    by : (same : Bool) → (list_any (λ (one : Entry). same_ltxid one.ltxid x) entries ≡ false → is_none (completed_of entries x) ≡ true) → (same || list_any (λ (one : Entry). same_ltxid one.ltxid x) entries) ≡ false
        → is_none (option_map (λ (one : Entry). one.completed) (cond same (Some entry) (find (λ (one : Entry). same_ltxid one.ltxid x) entries))) ≡ true
    by false again later = again later
    by true again later = absurd (let never : ⊥ = cc in never)

none_in_all : (entries : List Entry) (blocked : List Ltxid) → list_all (λ entry. nat_lt entry.ltxid.number (entries_of entries (session_of entry.ltxid))) entries ≡ true
    → list_all (λ x. x.number == entries_of entries (session_of x)) blocked ≡ true → list_all (λ x. is_none (completed_of entries x)) blocked ≡ true
none_in_all entries [] below next = refl
none_in_all entries (x ∷ blocked) below next =
    let parts = and_parts (x.number == entries_of entries (session_of x)) (list_all (λ y. y.number == entries_of entries (session_of y)) blocked) next in
    and_from (is_none (completed_of entries x)) (list_all (λ y. is_none (completed_of entries y)) blocked)
    (none_found entries x (none_alike entries entries x (eq_from x.number (entries_of entries (session_of x)) parts.0) below)) (none_in_all entries blocked below parts.1)

-- the entries of the image and those of the run are numbered
pub report_numbered : EachKeeps → EntryNumbers → (document : Document) (report : Report) (seen : Seen) (t : Traced) (server : Server) → IsReported document report seen t server
    → numbered_after [] ((journal_before document).entries ++ report.entries) ≡ true
report_numbered keeps numbers document report seen t server is =
    let image : List Entry = (journal_before document).entries in
    subst (λ (more : List Entry). numbered_after [] (image ++ more) ≡ true) (sym is.entries)
    (numbered_on image [] server.core.entries (subst (λ (all : List Entry). numbered_after [] all ≡ true) (sym (append-nil image)) ((entries_law keeps).at_start document))
    (numbers (service_base document) seen.history server (finishing_sound document is.run.place report.notes report.served seen t is.run.finishing) is.runs))

pub blocks_apart : EachKeeps → EntryNumbers → RunsStand → BlocksStayApart
blocks_apart keeps numbers stand document report seen t server is =
    none_in_all entries blocked (all_below entries (report_numbered keeps numbers document report seen t server is)) (all_next entries blocked stands)
  where
    entries : List Entry
    entries = (journal_before document).entries ++ report.entries

    blocked : List Ltxid
    blocked = (journal_before document).blocked ++ report.blocked

    same_entries : server.core.base.entries ++ server.core.entries ≡ entries
    same_entries = ap (λ (b : Base). b.entries ++ server.core.entries) (runs_keep_base (service_base document) seen.history server is.runs) ∙ ap (λ (more : List Entry). (journal_before document).entries ++ more) (sym is.entries)

    same_blocked : server.core.base.blocked ++ server.core.blocked ≡ blocked
    same_blocked = ap (λ (b : Base). b.blocked ++ server.core.blocked) (runs_keep_base (service_base document) seen.history server is.runs) ∙ ap (λ (more : List Ltxid). (journal_before document).blocked ++ more) (sym is.blocked)

    stands : BlocksStand (map committed_of entries) blocked
    stands =
        subst (λ (all : List Entry). BlocksStand (map committed_of all) blocked) same_entries
        (subst (λ (all : List Ltxid). BlocksStand (map committed_of (server.core.base.entries ++ server.core.entries)) all) same_blocked
        (stand (service_base document) seen.history server (finishing_sound document is.run.place report.notes report.served seen t is.run.finishing) is.runs))
