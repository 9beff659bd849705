-- What a journal that was read keeps is what an opening asks of it, and what an opening makes fits
-- its disk.
use Rattle.std.proofs.Common.{◌≡◌, ◌∙◌, ◌+◌, ◌-◌, ◌^◌, ◌≤◌, ◌&&◌, ℕ, ℤ, true, false, refl, sym, ap, subst, List, [], ◌∷◌, map, length, IsTrue, arith}
use Rattle.std.proofs.lemmas.Bool.Decides.{nat_tests}
use Rattle.std.proofs.lemmas.Int.{ints}
use Rattle.std.proofs.lemmas.List.Sums.{AllPass-from_list_all, list_all-from_AllPass}
use Rattle.std.specs.Prelude.{pos, ◌+ℤ◌, int_lt, int_le, nat_lt, max, Result, Ok, slice_index_or}
use Rattle.std.specs.List.{list_all}
use Rattle.disk_model.specs.Disk.{DiskState, Lowered}
use Rattle.svc_values.specs.meaning.Names.{names_differ}
use Rattle.table_store.specs.Given.{is_index_of}
use Rattle.table_store.specs.declared.shelves.IndexOf.{IndexOf}
use Rattle.mutable_values.specs.declared.grants.Grants.{Grants}
use Rattle.mutable_values.specs.declared.source.SeqState.{SeqState}
use Rattle.mutable_values.specs.Sources.{Opening, are_sequences, is_within, names_of}
use Rattle.commit_log.specs.declared.base.BaseSequence.{BaseSequence}
use Rattle.commit_log.specs.declared.journal.Journal.{Journal}
use Rattle.commit_log.specs.declared.log.Log.{Log}
use Rattle.commit_log.specs.meaning.Bases.{is_sequence, schemas_of, sequence_name}
use Rattle.commit_log.specs.Bases.{IsBase}
use Rattle.commit_log.specs.Growth.{HasAdded, opening_of, with_opening}
use Rattle.commit_log.specs.meaning.Journals.{so_far_of, journal_of}
use Rattle.commit_log.specs.Keeping.{KeepsJournal, EachKeeps}
use Rattle.commit_log.specs.Logs.{CanLog}
use Rattle.commit_log.specs.meaning.Rules.{end_of, sessions_of}
use Rattle.ltxid_book.specs.meaning.Sessions.{is_forgotten}
use Rattle.journal_tables.proofs.Offered.{sequences_begin, sequence_names_differ, second_true, both_true}
use Rattle.server_session.specs.declared.shared.Core.{Core}
use Rattle.server_session.specs.Fits.{Fits, IsSourceOf, sequence_in, sequence_of}
use Rattle.service_core.specs.Indexed.{FitBase}
use Rattle.service_core.specs.Opening.{CanOpen, HasOpened, source_of, stop_of}
use Rattle.service_core.specs.InnerOpening.{CanGoOn, IsCoreOf, ends_low, state_of}

-- ---- what is asked of a journal

-- a sequence that begins low enough ends low enough in an image of any length
below_most : (start end : ℤ) (n : ℕ) → (int_le (pos 0) start && int_le start (pos 1000000000)) ≡ true → int_lt end (start +ℤ pos n) ≡ true → n ≤ 2 ^ 62 → int_lt end (pos (2 ^ 63 - 1)) ≡ true
below_most start end n begins ends few =
    let low : int_le start (pos 1000000000) ≡ true = second_true (int_le (pos 0) start) (int_le start (pos 1000000000)) begins in
    grind (arith, ints)

pub can_go_on : (image : List ℕ) (journal : Journal) → KeepsJournal image journal → length image ≤ 2 ^ 62 → CanGoOn journal
can_go_on image journal keeps few = record {
  base = keeps.base;
  fitting = keeps.commits.fitting;
  within = list_all-from_AllPass (ends_low journal) journal.base.sequences
      (λ k d at.
      let sequence : BaseSequence = slice_index_or journal.base.sequences k d in
      below_most sequence.start (end_of journal.reserved sequence) (length image) (AllPass-from_list_all is_sequence journal.base.sequences (sequences_begin journal.base keeps.base) k d at) (keeps.within k d at) few);
}

-- ---- the source

all_within : (journal : Journal) (sequences : List BaseSequence) → list_all is_within (map (state_of journal) sequences) ≡ true
all_within journal [] = refl
all_within journal (sequence ∷ sequences) = both_true _ _ (below_itself (end_of journal.reserved sequence +ℤ pos 1)) (all_within journal sequences)
  where
    below_itself : (n : ℤ) → int_le n n ≡ true
    below_itself n = grind (arith, ints)

same_names : (journal : Journal) (sequences : List BaseSequence) → names_of (map (state_of journal) sequences) ≡ map sequence_name sequences
same_names journal [] = refl
same_names journal (sequence ∷ sequences) = ap (λ names. sequence.name ∷ names) (same_names journal sequences)

pub source_is : (journal : Journal) → IsBase journal.base → IsTrue (are_sequences (source_of journal).sequences)
source_is journal base =
    both_true (names_differ (names_of (source_of journal).sequences)) (list_all is_within (source_of journal).sequences)
    (ap names_differ (same_names journal journal.base.sequences) ∙ sequence_names_differ journal.base base) (all_within journal journal.base.sequences)

-- what was made of the sequences is what the source has
pub made_is : (journal : Journal) (sequences : List BaseSequence) (made : List SeqState) → made ≡ map (state_of journal) sequences → sequences ≡ journal.base.sequences → made ≡ (source_of journal).sequences
made_is journal sequences made is same = is ∙ ap (map (state_of journal)) same

same_sequences : (journal : Journal) (sequences : List BaseSequence) → map sequence_in (map (state_of journal) sequences) ≡ map (sequence_of journal) sequences
same_sequences journal [] = refl
same_sequences journal (sequence ∷ sequences) = ap (λ rest. sequence_of journal sequence ∷ rest) (same_sequences journal sequences)

pub source_of_is : (journal : Journal) (source : Opening) → source ≡ source_of journal → IsSourceOf source journal
source_of_is journal source is = record {
  incarnation = ap (λ (o : Opening). o.incarnation) is;
  sequences = ap (λ (o : Opening). map sequence_in o.sequences) is ∙ same_sequences journal journal.base.sequences;
}

-- ---- the core

-- the journal with its opening
opened_is : (horizon : ℕ) (image : List ℕ) (old journal : Journal) → journal_of image ≡ Ok old → with_opening horizon (journal_of image) ≡ Ok journal → journal ≡ record old { incarnation = old.incarnation + 1; horizon = max old.horizon horizon }
opened_is horizon image old journal reads opened =
    let e : ◌≡◌ {A = Result Journal ℕ} (Ok journal) (Ok (record old { incarnation = old.incarnation + 1; horizon = max old.horizon horizon })) = sym opened ∙ ap (with_opening horizon) reads in cc

not_forgotten : (a b n : ℕ) → a ≤ n + 1 → b ≤ n + 1 → nat_lt (n + 1) (max a b) ≡ false
not_forgotten a b n ha hb = let below : max a b ≤ n + 1 = omega (arith, ha, hb) in grind (arith, nat_tests)

pub is_current : (horizon : ℕ) (image : List ℕ) (can : CanOpen horizon image) → KeepsJournal image can.journal → (journal : Journal) → with_opening horizon (journal_of image) ≡ Ok journal → is_forgotten (sessions_of journal) journal.incarnation ≡ false
is_current horizon image can keeps journal opened =
    subst (λ (j : Journal). is_forgotten (sessions_of j) j.incarnation ≡ false) (sym (opened_is horizon image can.journal journal can.reads opened)) (not_forgotten can.journal.horizon horizon can.journal.incarnation keeps.horizon can.forgets)

pub core_fits : (log : Log) (journal : Journal) (grants : Grants) (core : Core) (disk : DiskState) → IsCoreOf log journal grants core → CanLog log disk → journal_of disk.now.seen ≡ Ok journal
    → KeepsJournal disk.now.seen journal → is_forgotten (sessions_of journal) journal.incarnation ≡ false → Fits core disk
core_fits log journal grants core disk is ready reads keeps current = record {
  log = subst (λ (l : Log). CanLog l disk) (sym is.log_is) ready;
  journal = journal;
  reads = reads;
  tables = is.tables;
  book = record { sessions = is.book; blocks = keeps.commits.standing };
  source = source_of_is journal core.source is.source;
  sequences = subst (λ (o : Opening). IsTrue (are_sequences o.sequences)) (sym is.source) (source_is journal keeps.base);
  current = current;
}

-- an opening leaves the base as it was
pub indexes_go_on : (horizon : ℕ) (image : List ℕ) (can : CanOpen horizon image) (journal : Journal) (indexes : List IndexOf) → with_opening horizon (journal_of image) ≡ Ok journal → FitBase indexes image
    → IsTrue (list_all (is_index_of (schemas_of journal.base)) indexes)
indexes_go_on horizon image can journal indexes opened fit =
    subst (λ (j : Journal). IsTrue (list_all (is_index_of (schemas_of j.base)) indexes)) (sym (opened_is horizon image can.journal journal can.reads opened)) (fit can.journal can.reads)

-- an opened store's journal is one to go on from
pub goes_on : (image : List ℕ) (journal : Journal) → EachKeeps → journal_of image ≡ Ok journal → length image ≤ 2 ^ 62 → CanGoOn journal
goes_on image journal keeps reads few = can_go_on image journal (keeps image journal reads) few

pub has_opened : (horizon : ℕ) (grants : Grants) (old new : DiskState) (log : Log) (journal : Journal) (core : Core) → CanOpen horizon old.now.seen → EachKeeps
    → HasAdded old.now.seen (opening_of horizon (so_far_of old.now.seen)) new.now.seen → with_opening horizon (journal_of old.now.seen) ≡ Ok journal → journal_of new.now.seen ≡ Ok journal → CanLog log new
    → Lowered (stop_of horizon old.now.seen) old.stop new.stop → IsCoreOf log journal grants core → HasOpened horizon grants old core new
unfolding core_fits
has_opened horizon grants old new log journal core can keeps added opened reads ready stop is = record {
  fits = core_fits log journal grants core new is ready reads (keeps new.now.seen journal reads) (is_current horizon old.now.seen can (keeps old.now.seen can.journal can.reads) journal opened);
  opened = opened;
  source = is.source;
  grants_are = is.grants_are;
  added = added;
  stop = stop;
}
