-- Of Number: the entries of each session are numbered in order, and none of them is blocked, at the
-- start and behind each event.
use Rattle.std.proofs.Common.{◌≡◌, refl, sym, ap, subst, ◌∙◌, true, ℕ, List, [], ◌++◌, Option, Some, None}
use Rattle.std.specs.Prelude.{◌==◌, Result, Ok, Err}
use Rattle.std.specs.List.{list_all}
use Rattle.svc_values.specs.declared.entry.Entry.{Entry}
use Rattle.svc_values.specs.meaning.Identifiers.{session_of}
use Rattle.commit_log.specs.declared.base.Base.{Base}
use Rattle.commit_log.specs.declared.journal.Journal.{Journal}
use Rattle.commit_log.specs.meaning.Journals.{journal_of}
use Rattle.commit_log.specs.Keeping.{EachKeeps}
use Rattle.outage_schedule.specs.declared.document.Document.{Document}
use Rattle.run_clauses.specs.meaning.Before.{base_of, read_journal, given_journal, journal_before}
use Rattle.run_clauses.specs.meaning.EntryEvents.{entries_of}
use Rattle.server_model.specs.meaning.Base as base
use Rattle.server_model.specs.Seen.{Seen}
use Rattle.server_model.specs.Laws.{StoresRight}
use Rattle.server_model.proofs.Offered.{service_stores}
use Rattle.world_model.specs.Coupled.{Coupled}
use Rattle.world_model.specs.OrderlyLaws.{IsKept}
use Rattle.world_model.specs.records.Number.{numbered_after, blocks_next, entries_numbered, none_blocked}
use Rattle.world_model.specs.Reached.{traced_start}
use Rattle.world_model.specs.Traced.{Traced}
use Rattle.world_model.proofs.number.Blocks.{all_next, blocks_law}
use Rattle.world_model.proofs.number.Numbered.{numbered_on, image_numbered, all_below, none_held}

-- THE START ---------------------------------------------------------------------------------------

-- what a journal has before a run
record IsRight (journal : Journal) : Type 0 where
  numbered : numbered_after [] journal.entries ≡ true
  next : list_all (λ x. x.number == entries_of journal.entries (session_of x)) journal.blocked ≡ true

read_right : EachKeeps → (base : Base) (image : List ℕ) (read : Result Journal ℕ) → journal_of image ≡ read → IsRight (read_journal base read)
read_right keeps base image (Err place) is = record { numbered = refl; next = refl }
read_right keeps base image (Ok journal) is =
    let commits = (keeps image journal is).commits in record { numbered = image_numbered journal.entries commits.counted; next = all_next journal.entries journal.blocked commits.standing }

given_right : EachKeeps → (base : Base) (image : Option (List ℕ)) → IsRight (given_journal base image)
given_right keeps base None = record { numbered = refl; next = refl }
given_right keeps base (Some image) = read_right keeps base image (journal_of image) refl

-- EACH EVENT --------------------------------------------------------------------------------------

pub numbered_now : (before after : Seen) (old new : Traced) → Coupled before old → Coupled after new → after.start ≡ before.start → numbered_after [] old.entries ≡ true → numbered_after [] new.entries ≡ true
numbered_now before after old new was now same here =
    let earlier : StoresRight before = service_stores before was.sound was.history in
    let later : StoresRight after = service_stores after now.sound now.history in
    let begun : after.start.entries ≡ before.start.entries = ap (λ (b : base.Base). b.entries) same in
    subst (λ (all : List Entry). numbered_after [] all ≡ true) (sym (now.entries ∙ later.entries))
    (numbered_on after.start.entries earlier.gained later.gained
    (subst (λ (start : List Entry). numbered_after [] (start ++ earlier.gained) ≡ true) (sym begun) (subst (λ (all : List Entry). numbered_after [] all ≡ true) (was.entries ∙ earlier.entries) here)) later.numbered)

pub entries_law : EachKeeps → IsKept entries_numbered
entries_law keeps = record {
  at_start = λ document. (given_right keeps (base_of document) document.image).numbered;
  at_event = λ before after old new event note items left one inv. numbered_now before after old new one.coupled_before one.coupled_after one.start inv.number.entries;
}

pub unblocked_law : EachKeeps → IsKept none_blocked
unblocked_law keeps = record {
  at_start = λ document.
      let right : IsRight (journal_before document) = given_right keeps (base_of document) document.image in
      none_held (journal_before document).entries (journal_before document).entries (journal_before document).blocked right.next (all_below (journal_before document).entries right.numbered);
  at_event = λ before after old new event note items left one inv.
      none_held new.entries new.entries new.blocked (blocks_law after new one.coupled_after)
      (all_below new.entries ((entries_law keeps).at_event before after old new event note items left one inv));
}

-- what the image has blocked
pub blocks_begin : EachKeeps → (document : Document) → blocks_next (traced_start document) ≡ true
blocks_begin keeps document = (given_right keeps (base_of document) document.image).next
