-- What a store gains in a frame: what the plain server beside it does, in so many records more.
use Rattle.std.proofs.Common.{◌≡◌, ◌∙◌, ◌+◌, ◌≤◌, ℕ, refl, sym, ap, subst, List, [], ◌∷◌, ◌++◌, length, map, fold, append_assoc, length-append, arith}
use Rattle.std.proofs.lemmas.List.{length-map}
use Rattle.std.proofs.lemmas.List.Elements.{All-weaker}
use Rattle.std.specs.Prelude.{Result, Ok, Err}
use Rattle.redo_store.specs.meaning.Records.{records_of}
use Rattle.redo_store.specs.Records.{record_count}
use Rattle.svc_values.specs.declared.entry.Entry.{Entry}
use Rattle.svc_values.specs.declared.entry.Ltxid.{Ltxid}
use Rattle.svc_values.specs.declared.frame.Up.{Up}
use Rattle.ltxid_book.specs.meaning.Journal.{book_of, committed_of}
use Rattle.commit_log.specs.declared.journal.Journal.{Journal}
use Rattle.commit_log.specs.declared.records.Record.{Record}
use Rattle.commit_log.specs.declared.records.Record.TheVariants as kept
use Rattle.commit_log.specs.Growth.{HasAdded, with_records, with_payloads}
use Rattle.commit_log.specs.RecordBytes.{spell_record}
use Rattle.commit_log.specs.meaning.Rules.{SoFar, with_record}
use Rattle.commit_log.specs.meaning.Journals.{journal_of, journal_in, so_far_of, with_gates}
use Rattle.server_model.specs.meaning.Base.{Base}
use Rattle.server_model.specs.Core.{Core as Plain, book}
use Rattle.server_model.specs.Laws.{CommitsAs}
use Rattle.server_model.specs.meaning.Outcomes.{Telling}
use Rattle.server_model.specs.Outcomes.{Outcomes}
use Rattle.server_model.specs.Runs.{Happened}
use Rattle.server_model.specs.Seen.{Store, book_in}
use Rattle.server_model.specs.Serve.{Serve}
use Rattle.server_model.specs.ServiceCalls.{CameFrom, WasAsked, AsksFor, Gains, Adds, StoresTold, BlocksAsTold}
use Rattle.server_model.specs.Sessions.{Sess}
use Rattle.server_model.proofs.Offered.{AddsBy, store_beside, told_stored, told_blocks, asked_blocks}
use Rattle.server_session.specs.Plain.{IsStored}
use Rattle.service_calls.specs.Kept.{HaveOneBase}
use Rattle.service_core.specs.Seeing.{store_in, store_of}
use Rattle.service_core.specs.InnerHonest.{store_is}

-- ---- the base

record_base : (journal : Journal) (one : Record) → (with_record journal one).base ≡ journal.base
record_base journal (kept.Base base) = refl
record_base journal (kept.Opened incarnation) = refl
record_base journal (kept.Commit entry) = refl
record_base journal (kept.Blocked x) = refl
record_base journal (kept.Reserved reservation) = refl
record_base journal (kept.Alert line) = refl
record_base journal (kept.Horizon horizon) = refl

folded_base : (journal : Journal) (records : List Record) → (fold with_record journal records).base ≡ journal.base
folded_base journal [] = refl
folded_base journal (one ∷ records) = folded_base (with_record journal one) records ∙ record_base journal one

-- What was added to a journal leaves one with its base.
pub record Grew (old : List ℕ) (added : List Record) (journal : Journal) (image : List ℕ) : Type 0 where
  pub later : Journal
  pub reads : journal_of image ≡ Ok later
  pub base_is : later.base ≡ journal.base

pub added_grew : (old : List ℕ) (added : List Record) (journal : Journal) (image : List ℕ) → journal_of old ≡ Ok journal → HasAdded old added image → Grew old added journal image
added_grew old added journal image reads has = record {
  later = fold with_record journal added;
  reads = has.journal ∙ ap (with_records added) reads;
  base_is = folded_base journal added;
}

pub grew_base : (old : List ℕ) (added : List Record) (journal : Journal) (image : List ℕ) → journal_of old ≡ Ok journal → Grew old added journal image → HaveOneBase old image
grew_base old added journal image is grew first second reads reads_second =
    let e : ◌≡◌ {A = Result Journal ℕ} (Ok journal) (Ok first) = sym is ∙ reads in
    let f : ◌≡◌ {A = Result Journal ℕ} (Ok grew.later) (Ok second) = sym grew.reads ∙ reads_second in
    let here : journal ≡ first = cc in
    let there : grew.later ≡ second = cc in
    ap (λ (j : Journal). j.base) (sym there) ∙ grew.base_is ∙ ap (λ (j : Journal). j.base) here

-- ---- how many records

-- a journal is read from whole records
pub record HasRecords (image : List ℕ) : Type 0 where
  pub payloads : List (List ℕ)
  pub are : records_of image ≡ Ok payloads

whole : (image : List ℕ) (judging : Result SoFar ℕ) (found : Result (List (List ℕ)) ℕ) (journal : Journal) → records_of image ≡ found → journal_in (with_gates judging found) ≡ Ok journal → HasRecords image
whole image (Err place) found journal is reads = absurd (let none : ⊥ = cc in none)
whole image (Ok so_far) (Err place) journal is reads = absurd (let none : ⊥ = cc in none)
whole image (Ok so_far) (Ok payloads) journal is reads = record { payloads = payloads; are = is }

pub has_records : (image : List ℕ) (journal : Journal) → journal_of image ≡ Ok journal → HasRecords image
unfolding so_far_of
has_records image journal reads = whole image _ (records_of image) journal refl reads

pub count_more : (old : List ℕ) (added : List Record) (image : List ℕ) (journal : Journal) → journal_of old ≡ Ok journal → HasAdded old added image → record_count (records_of image) ≡ record_count (records_of old) + length added
count_more old added image journal reads has =
    let found = has_records old journal reads in
    let more : record_count (records_of image) ≡ length (found.payloads ++ map spell_record added) = ap record_count has.records ∙ ap (λ (r : Result (List (List ℕ)) ℕ). record_count (with_payloads added r)) found.are in
    let before : record_count (records_of old) ≡ length found.payloads = ap record_count found.are in
    omega (arith, more, before, length-append found.payloads (map spell_record added), length-map added spell_record)

records_of_store : (image : List ℕ) (journal : Journal) → journal_of image ≡ Ok journal → (store_of image).records ≡ record_count (records_of image)
records_of_store image journal reads = ap (λ (s : Store). s.records) (store_is image journal reads)

-- as many records more as were added
pub records_more : (old : List ℕ) (added : List Record) (image : List ℕ) (journal : Journal) → journal_of old ≡ Ok journal → HasAdded old added image → (store_of image).records ≡ (store_of old).records + length added
records_more old added image journal reads has =
    let grew = added_grew old added journal image reads has in
    records_of_store image grew.later grew.reads ∙ count_more old added image journal reads has ∙ ap (λ n. n + length added) (sym (records_of_store old journal reads))

-- ---- what records add

abbrev items_in : Journal → ℕ
items_in journal = length journal.entries + length journal.blocked + length journal.alerts

abbrev items_of : Store → ℕ
items_of store = length store.entries + length store.blocked + length store.alerts

-- a record adds an entry, a block or a line at most
record_adds : (journal : Journal) (one : Record) → items_in (with_record journal one) ≤ items_in journal + 1
record_adds journal (kept.Base base) = omega arith
record_adds journal (kept.Opened incarnation) = omega arith
record_adds journal (kept.Commit entry) = omega (arith, length-append journal.entries (entry ∷ []))
record_adds journal (kept.Blocked x) = omega (arith, length-append journal.blocked (x ∷ []))
record_adds journal (kept.Reserved reservation) = omega arith
record_adds journal (kept.Alert line) = omega (arith, length-append journal.alerts (line ∷ []))
record_adds journal (kept.Horizon horizon) = omega arith

records_add : (journal : Journal) (records : List Record) → items_in (fold with_record journal records) ≤ items_in journal + length records
records_add journal [] = omega arith
records_add journal (one ∷ records) = omega (arith, records_add (with_record journal one) records, record_adds journal one)

items_stored : (image : List ℕ) (journal : Journal) → journal_of image ≡ Ok journal → items_of (store_of image) ≡ items_in journal
items_stored image journal reads = ap items_of (store_is image journal reads)

few_items : (old : List ℕ) (records : List Record) (image : List ℕ) (journal : Journal) → journal_of old ≡ Ok journal → HasAdded old records image → items_of (store_of image) ≤ items_of (store_of old) + length records
few_items old records image journal reads has =
    let later : journal_of image ≡ Ok (fold with_record journal records) = has.journal ∙ ap (with_records records) reads in
    omega (arith, items_stored old journal reads, items_stored image (fold with_record journal records) later, records_add journal records)

-- so what is gained takes as many records at least
stored_by : (happened : List Happened) (old new : Store) (gains : Gains happened old new) (n : ℕ) → new.records ≡ old.records + n → items_of new ≤ items_of old + n
    → old.records + length gains.more_entries + length gains.more_blocked + length gains.more_alerts ≤ new.records
stored_by happened old new gains n more few =
    let entries : length new.entries ≡ length old.entries + length gains.more_entries = ap length gains.entries ∙ length-append old.entries gains.more_entries in
    let blocked : length new.blocked ≡ length old.blocked + length gains.more_blocked = ap length gains.blocked ∙ length-append old.blocked gains.more_blocked in
    let alerts : length new.alerts ≡ length old.alerts + length gains.more_alerts = ap length gains.alerts ∙ length-append old.alerts gains.more_alerts in
    omega (arith, more, few, entries, blocked, alerts)

-- ---- what the store holds

-- what the plain server says of sessions is what the store says
pub book_stored : (core : Plain) (image : List ℕ) (journal : Journal) → journal_of image ≡ Ok journal → IsStored core journal → book core ≡ book_in (store_of image)
book_stored core image journal reads is = (λ i. book_of (is.horizon i) (map committed_of (is.entries i)) (is.blocked i)) ∙ ap book_in (sym (store_is image journal reads))

came : (one : Happened) (entry : Entry) → CommitsAs entry one → CameFrom (one ∷ []) entry
came one entry commits = (one, ((0, omega arith, refl), commits))

asked : (one : Happened) (x : Ltxid) → AsksFor x one → WasAsked (one ∷ []) x
asked one x asks = (one, ((0, omega arith, refl), asks))

grown : {A : Type 0} (base old new more before after : List A) → base ++ old ≡ before → base ++ new ≡ after → new ≡ old ++ more → after ≡ before ++ more
grown base old new more before after was is same = sym is ∙ ap (λ l. base ++ l) same ∙ sym (append_assoc base old more) ∙ ap (λ l. l ++ more) was

-- What stays of a plain server's core.
pub record Stays (core after : Plain) : Type 0 where
  pub base : after.base ≡ core.base
  pub incarnation : after.opening.incarnation ≡ core.opening.incarnation
  pub horizon : after.horizon ≡ core.horizon

module _ (one : Happened) (core after : Plain) (adds : AddsBy one core after) (journal later : Journal) (a b : Store) (n m : ℕ) (a_is : a ≡ store_in (Ok journal) n) (b_is : b ≡ store_in (Ok later) m) (was : IsStored core journal) (is : IsStored after later) (stays : Stays core after) where
  gains_in : Gains (one ∷ []) a b
  gains_in = record {
    incarnation = ap (λ (s : Store). s.incarnation) b_is ∙ sym is.source.incarnation ∙ stays.incarnation ∙ was.source.incarnation ∙ ap (λ (s : Store). s.incarnation) (sym a_is);
    horizon = ap (λ (s : Store). s.horizon) b_is ∙ sym is.horizon ∙ stays.horizon ∙ was.horizon ∙ ap (λ (s : Store). s.horizon) (sym a_is);
    more_entries = adds.adds.more_entries;
    more_blocked = adds.adds.more_blocked;
    more_alerts = adds.adds.more_alerts;
    entries =
        grown core.base.entries core.entries after.entries adds.adds.more_entries a.entries b.entries (was.entries ∙ ap (λ (s : Store). s.entries) (sym a_is))
        (ap (λ (l : Base). l.entries ++ after.entries) (sym stays.base) ∙ is.entries ∙ ap (λ (s : Store). s.entries) (sym b_is)) adds.adds.entries;
    blocked =
        grown core.base.blocked core.blocked after.blocked adds.adds.more_blocked a.blocked b.blocked (was.blocked ∙ ap (λ (s : Store). s.blocked) (sym a_is))
        (ap (λ (l : Base). l.blocked ++ after.blocked) (sym stays.base) ∙ is.blocked ∙ ap (λ (s : Store). s.blocked) (sym b_is)) adds.adds.blocked;
    alerts =
        grown core.base.alerts core.alerts after.alerts adds.adds.more_alerts a.alerts b.alerts (was.alerts ∙ ap (λ (s : Store). s.alerts) (sym a_is))
        (ap (λ (l : Base). l.alerts ++ after.alerts) (sym stays.base) ∙ is.alerts ∙ ap (λ (s : Store). s.alerts) (sym b_is)) adds.adds.alerts;
    own = All-weaker (λ (entry : Entry). CommitsAs entry one) (CameFrom (one ∷ [])) (came one) adds.adds.more_entries adds.own;
    asked = All-weaker (λ (x : Ltxid). AsksFor x one) (WasAsked (one ∷ [])) (asked one) adds.adds.more_blocked adds.asked;
  }

-- Between two images that plain servers stand beside, of which one came from the other in this.
pub adds_between : (one : Happened) (most : ℕ) (core after : Plain) (adds : AddsBy one core after) (old image : List ℕ) (records : List Record) (journal later : Journal) → journal_of old ≡ Ok journal → journal_of image ≡ Ok later
    → IsStored core journal → IsStored after later → Stays core after → HasAdded old records image → length records ≤ most → Adds (one ∷ []) most (store_of old) (store_of image)
unfolding gains_in
adds_between one most core after adds old image records journal later reads reads_later was is stays has few =
    let more = records_more old records image journal reads has in
    let gains : Gains (one ∷ []) (store_of old) (store_of image) = gains_in one core after adds journal later (store_of old) (store_of image) _ _ (store_is old journal reads) (store_is image later reads_later) was is stays in
    record {
      gains = gains;
      few = adds.adds.few;
      stored = stored_by (one ∷ []) (store_of old) (store_of image) gains (length records) more (few_items old records image journal reads has);
      records = (omega (arith, more), omega (arith, more, few));
    }

-- ---- what is told

-- the store of an image that a plain server stands beside
stands_beside : (core : Plain) (image : List ℕ) (journal : Journal) → journal_of image ≡ Ok journal → IsStored core journal → store_beside core (record_count (records_of image)) ≡ store_of image
stands_beside core image journal reads is =
    let beside : store_beside core (record_count (records_of image)) ≡ store_in (Ok journal) (record_count (records_of image)) =
    (λ i. record { incarnation = is.source.incarnation i; horizon = is.horizon i; entries = is.entries i; blocked = is.blocked i; alerts = is.alerts i; records = record_count (records_of image) }) in
    beside ∙ sym (store_is image journal reads)

-- what is told is stored, and no more is blocked, between two images that plain servers stand
-- beside
module _ (core after : Plain) (old image : List ℕ) (journal later : Journal) (reads : journal_of old ≡ Ok journal) (reads_later : journal_of image ≡ Ok later) (was : IsStored core journal) (is : IsStored after later) where
  abbrev n : ℕ
  n = record_count (records_of old)

  abbrev m : ℕ
  m = record_count (records_of image)

  between : (Holds : Store → Store → Type 0) → Holds (store_beside core n) (store_beside after m) → Holds (store_of old) (store_of image)
  between Holds beside = subst (λ (s : Store). Holds (store_of old) s) (stands_beside after image later reads_later is) (subst (λ (s : Store). Holds s (store_beside after m)) (stands_beside core old journal reads was) beside)

  module _ (sess t : Sess) (now : ℕ) (frame : Up) (told : Telling) (serve : Serve core sess now frame after t told) where
    pub stored_between : StoresTold (store_of old) frame told (store_of image)
    stored_between = between (λ before behind. StoresTold before frame told behind) (told_stored core sess now frame after t told n m serve)

    pub blocks_between : BlocksAsTold (store_of old) told (store_of image)
    blocks_between = between (λ before behind. BlocksAsTold before told behind) (told_blocks core sess now frame after t told n m serve)

  pub asked_between : (x : Ltxid) (told : Telling) → after.base ≡ core.base → Outcomes core x after told → BlocksAsTold (store_of old) told (store_of image)
  asked_between x told base asked = between (λ before behind. BlocksAsTold before told behind) (asked_blocks core x after told n m base asked)
