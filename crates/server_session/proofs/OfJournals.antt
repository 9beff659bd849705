-- A core follows the records of its journal.
use Rattle.std.proofs.Common.{◌≡◌, ◌∙◌, ◌&&◌, ◌||◌, ◌+ℤ◌, ℕ, pos, Bool, true, false, List, [], ◌∷◌, map, refl, sym, ap, subst}
use Rattle.std.specs.Prelude.{IsTrue, not, nat_le, Some, if◌then◌else◌}
use Rattle.std.specs.List.{list_any}
use Rattle.std.specs.Ordering.{int_eq}
use Rattle.std.specs.Str.{bytes_eq}
use Rattle.std.proofs.lemmas.Slice.Eq.{bytes_eq-Decides}
use Rattle.svc_values.specs.declared.entry.Entry.{Entry}
use Rattle.svc_values.specs.declared.entry.Ltxid.{Ltxid}
use Rattle.svc_values.specs.meaning.Fitting.{writes_fit}
use Rattle.svc_values.specs.meaning.Names.{is_name_of, names_differ}
use Rattle.svc_values.specs.meaning.Tables.{with_writes}
use Rattle.ltxid_book.specs.meaning.Sessions.{may_commit as may_note}
use Rattle.ltxid_book.specs.Sessions.{sessions_in, after_block, after_commit, after_forgetting}
use Rattle.mutable_values.specs.declared.source.SeqState.{SeqState}
use Rattle.mutable_values.specs.Sources.{Opening, are_sequences, ends_next, may_reserve, names_of, reserved_to, sequence_of}
use Rattle.table_store.specs.Stored.{Stored}
use Rattle.commit_log.specs.declared.base.BaseSequence.{BaseSequence}
use Rattle.commit_log.specs.declared.journal.Journal.{Journal}
use Rattle.commit_log.specs.declared.journal.Reservation.{Reservation}
use Rattle.commit_log.specs.declared.records.Record.TheVariants as kept
use Rattle.commit_log.specs.meaning.Bases.{schemas_of}
use Rattle.commit_log.specs.meaning.Rules.{end_of, is_next_reservation, may_block, may_commit, may_reserve as may_store, rises, with_record}
use Rattle.commit_log.proofs.Offered.{block_beside, may_beside, notes_block, notes_commit, notes_horizon}
use Rattle.server_model.specs.meaning.Base.{Sequence}
use Rattle.server_session.specs.declared.shared.Core.{Core}
use Rattle.server_session.specs.Fits.{IsSourceOf, sequence_in, sequence_of as sequence_of_journal}
use Rattle.server_session.specs.Following.{IsOfJournal}
use Rattle.server_session.proofs.Cores.{tables_after}
use Rattle.server_session.proofs.Reserving.{heads, sequences_told, source_told}

-- ---- tests

pub first_of : (a b : Bool) → (a && b) ≡ true → a ≡ true
first_of true b e = refl
first_of false b e = absurd (let clash : ⊥ = cc in clash)

pub second_of : (a b : Bool) → (a && b) ≡ true → b ≡ true
second_of true b e = e
second_of false b e = absurd (let clash : ⊥ = cc in clash)

-- ---- a commit

module _ (core : Core) (journal : Journal) (is : IsOfJournal core journal) (entry : Entry) (may : IsTrue (may_commit journal entry)) where
  parts : (nat_le entry.ltxid.incarnation journal.incarnation && (may_note (sessions_in core.book) entry.ltxid && writes_fit (schemas_of journal.base) entry.writes)) ≡ true
  parts = sym (may_beside core.book journal entry is.book) ∙ may

  behind : (may_note (sessions_in core.book) entry.ltxid && writes_fit (schemas_of journal.base) entry.writes) ≡ true
  behind = second_of (nat_le entry.ltxid.incarnation journal.incarnation) _ parts

  pub may_be_noted : IsTrue (may_note (sessions_in core.book) entry.ltxid)
  may_be_noted = first_of (may_note (sessions_in core.book) entry.ltxid) _ behind

  pub writes_are_fit : IsTrue (writes_fit core.tables.schemas entry.writes)
  writes_are_fit = ap (λ (t : Stored). writes_fit t.schemas entry.writes) is.tables ∙ second_of (may_note (sessions_in core.book) entry.ltxid) _ behind

  pub follows_commit : (later : Core) → later.tables ≡ record { schemas = core.tables.schemas; rows = with_writes core.tables.rows entry.writes } → sessions_in later.book ≡ after_commit (sessions_in core.book) entry.ltxid entry.completed
      → later.source ≡ core.source → IsOfJournal later (with_record journal (kept.Commit entry))
  follows_commit later wrote says source = record {
    tables = tables_after core journal entry later.tables is.tables wrote;
    book = notes_commit core.book later.book journal entry is.book may_be_noted says;
    source = subst (λ (o : Opening). IsSourceOf o (with_record journal (kept.Commit entry))) (sym source) (record { incarnation = is.source.incarnation; sequences = is.source.sequences });
    sequences = subst (λ (o : Opening). IsTrue (are_sequences o.sequences)) (sym source) is.sequences;
  }

-- ---- a block

module _ (core : Core) (journal : Journal) (is : IsOfJournal core journal) (x : Ltxid) (may : IsTrue (may_block journal x)) where
  pub may_be_blocked_now : IsTrue (may_note (sessions_in core.book) x)
  may_be_blocked_now = block_beside core.book journal x is.book ∙ may

  pub follows_block : (later : Core) → sessions_in later.book ≡ after_block (sessions_in core.book) x → later.tables ≡ core.tables → later.source ≡ core.source → IsOfJournal later (with_record journal (kept.Blocked x))
  follows_block later says tables source = record {
    tables = tables ∙ is.tables;
    book = notes_block core.book later.book journal x is.book may_be_blocked_now says;
    source = subst (λ (o : Opening). IsSourceOf o (with_record journal (kept.Blocked x))) (sym source) (record { incarnation = is.source.incarnation; sequences = is.source.sequences });
    sequences = subst (λ (o : Opening). IsTrue (are_sequences o.sequences)) (sym source) is.sequences;
  }

-- ---- a horizon

pub follows_horizon : (core later : Core) (journal : Journal) (has_horizon : Bool) (horizon : ℕ) → IsOfJournal core journal → (has_horizon ≡ false → journal.horizon ≡ 0) → rises journal has_horizon horizon ≡ true
    → sessions_in later.book ≡ after_forgetting (sessions_in core.book) horizon → later.tables ≡ core.tables → later.source ≡ core.source → IsOfJournal later (with_record journal (kept.Horizon horizon))
follows_horizon core later journal has_horizon horizon is unset up says tables source = record {
  tables = tables ∙ is.tables;
  book = notes_horizon core.book later.book journal has_horizon horizon is.book unset up says;
  source = subst (λ (o : Opening). IsSourceOf o (with_record journal (kept.Horizon horizon))) (sym source) (record { incarnation = is.source.incarnation; sequences = is.source.sequences });
  sequences = subst (λ (o : Opening). IsTrue (are_sequences o.sequences)) (sym source) is.sequences;
}

-- ---- a line

pub follows_line : (core : Core) (journal : Journal) (line : List ℕ) → IsOfJournal core journal → IsOfJournal core (with_record journal (kept.Alert line))
follows_line core journal line is = record {
  tables = is.tables;
  book = record { sessions = is.book.sessions; blocks = is.book.blocks };
  source = record { incarnation = is.source.incarnation; sequences = is.source.sequences };
  sequences = is.sequences;
}

-- ---- an opening

pub follows_opening : (core later : Core) (journal : Journal) (incarnation : ℕ) → IsOfJournal core journal → later ≡ record core { source = record core.source { incarnation = incarnation; identifiers = 0 } } → IsOfJournal later (with_record journal (kept.Opened incarnation))
follows_opening core later journal incarnation is same =
    subst (λ (c : Core). IsOfJournal c (with_record journal (kept.Opened incarnation))) (sym same) (record {
      tables = is.tables;
      book = record { sessions = is.book.sessions; blocks = is.book.blocks };
      source = record { incarnation = refl; sequences = is.source.sequences };
      sequences = is.sequences;
    })

-- ---- a reservation

abbrev asks : List Reservation → Reservation → BaseSequence → Bool
asks reserved reservation sequence = is_next_reservation reserved reservation sequence

-- a sequence that is asked for has its name in the list
asked_name : (journal : Journal) (reservation : Reservation) (sequences : List SeqState) (bases : List BaseSequence) → map sequence_in sequences ≡ map (sequence_of_journal journal) bases
    → list_any (asks journal.reserved reservation) bases ≡ true → is_name_of (names_of sequences) reservation.name ≡ true
asked_name journal reservation [] [] same any = absurd (let clash : ⊥ = cc in clash)
asked_name journal reservation [] (b ∷ bases) same any = absurd (let clash : ◌≡◌ {A = List Sequence} [] (sequence_of_journal journal b ∷ map (sequence_of_journal journal) bases) = same in cc)
asked_name journal reservation (s ∷ rest) [] same any = absurd (let clash : ◌≡◌ {A = List Sequence} (sequence_in s ∷ map sequence_in rest) [] = same in cc)
asked_name journal reservation (s ∷ rest) (b ∷ bases) same any =
    let both = heads (sequence_in s) (sequence_of_journal journal b) (map sequence_in rest) (map (sequence_of_journal journal) bases) same in
    by (bytes_eq b.name reservation.name) refl (ap (λ (q : Sequence). q.name) both.0) any (asked_name journal reservation rest bases both.1)
  where
    by : (own : Bool) → bytes_eq b.name reservation.name ≡ own → s.name ≡ b.name → (asks journal.reserved reservation b || list_any (asks journal.reserved reservation) bases) ≡ true
        → (list_any (asks journal.reserved reservation) bases ≡ true → is_name_of (names_of rest) reservation.name ≡ true) → (bytes_eq s.name reservation.name || is_name_of (names_of rest) reservation.name) ≡ true
    by true e names told more = let here : bytes_eq s.name reservation.name ≡ true = ap (λ n. bytes_eq n reservation.name) names ∙ e in rw here refl
    by false e names told more =
        let here : bytes_eq s.name reservation.name ≡ false = ap (λ n. bytes_eq n reservation.name) names ∙ e in
        let none : asks journal.reserved reservation b ≡ false = ap (λ t. t && int_eq reservation.upto (end_of journal.reserved b +ℤ pos 16)) e in
        let rest_told : list_any (asks journal.reserved reservation) bases ≡ true = ap (λ t. t || list_any (asks journal.reserved reservation) bases) (sym none) ∙ told in
        rw here (more rest_told)

not_twice : (name other : List ℕ) (names : List (List ℕ)) → names_differ (name ∷ names) ≡ true → bytes_eq name other ≡ true → is_name_of names other ≡ true → ⊥
not_twice name other names differ own there =
    let same : name ≡ other = (bytes_eq-Decides name other).0 own in
    let none : not (is_name_of names name) ≡ true = first_of (not (is_name_of names name)) (names_differ names) differ in
    let clash : not true ≡ true = ap not (sym (ap (is_name_of names) same ∙ there)) ∙ none in
    let false_is : false ≡ true = clash in cc

-- the sequence's next reservation ends there
ends_where : (journal : Journal) (reservation : Reservation) (sequences : List SeqState) (bases : List BaseSequence) → names_differ (names_of sequences) ≡ true → map sequence_in sequences ≡ map (sequence_of_journal journal) bases
    → list_any (asks journal.reserved reservation) bases ≡ true → ends_next (sequence_of sequences reservation.name) reservation.upto ≡ true
ends_where journal reservation [] [] differ same any = absurd (let clash : ⊥ = cc in clash)
ends_where journal reservation [] (b ∷ bases) differ same any = absurd (let clash : ◌≡◌ {A = List Sequence} [] (sequence_of_journal journal b ∷ map (sequence_of_journal journal) bases) = same in cc)
ends_where journal reservation (s ∷ rest) [] differ same any = absurd (let clash : ◌≡◌ {A = List Sequence} (sequence_in s ∷ map sequence_in rest) [] = same in cc)
ends_where journal reservation (s ∷ rest) (b ∷ bases) differ same any =
    let both = heads (sequence_in s) (sequence_of_journal journal b) (map sequence_in rest) (map (sequence_of_journal journal) bases) same in
    let names : s.name ≡ b.name = ap (λ (q : Sequence). q.name) both.0 in
    let ends : s.upto ≡ end_of journal.reserved b = ap (λ (q : Sequence). q.upto) both.0 in
    by (bytes_eq s.name reservation.name) refl names ends both.1 (λ further. ends_where journal reservation rest bases (second_of (not (is_name_of (names_of rest) s.name)) (names_differ (names_of rest)) differ) both.1 further)
  where
    own_next : (t : Bool) → (t || list_any (asks journal.reserved reservation) bases) ≡ true → (list_any (asks journal.reserved reservation) bases ≡ true → ⊥) → t ≡ true
    own_next true told none = refl
    own_next false told none = absurd (none told)

    by : (own : Bool) → bytes_eq s.name reservation.name ≡ own → s.name ≡ b.name → s.upto ≡ end_of journal.reserved b → map sequence_in rest ≡ map (sequence_of_journal journal) bases
        → (list_any (asks journal.reserved reservation) bases ≡ true → ends_next (sequence_of rest reservation.name) reservation.upto ≡ true)
        → ends_next (if own then Some s else sequence_of rest reservation.name) reservation.upto ≡ true
    by true e names ends rest_same more =
        let here : asks journal.reserved reservation b ≡ true = own_next (asks journal.reserved reservation b) any (λ told. not_twice s.name reservation.name (names_of rest) differ e (asked_name journal reservation rest bases rest_same told)) in
        let there : int_eq reservation.upto (end_of journal.reserved b +ℤ pos 16) ≡ true = second_of (bytes_eq b.name reservation.name) _ here in
        ap (λ z. int_eq reservation.upto (z +ℤ pos 16)) ends ∙ there
    by false e names ends rest_same more =
        let none : asks journal.reserved reservation b ≡ false = ap (λ n. bytes_eq n reservation.name && int_eq reservation.upto (end_of journal.reserved b +ℤ pos 16)) (sym names) ∙ ap (λ t. t && int_eq reservation.upto (end_of journal.reserved b +ℤ pos 16)) e in
        more (ap (λ t. t || list_any (asks journal.reserved reservation) bases) (sym none) ∙ any)

module _ (core : Core) (journal : Journal) (is : IsOfJournal core journal) (reservation : Reservation) (may : IsTrue (may_store journal reservation)) where
  pub may_be_reserved_now : IsTrue (may_reserve core.source reservation.name reservation.upto)
  unfolding may_store
  may_be_reserved_now =
      ends_where journal reservation core.source.sequences journal.base.sequences (first_of (names_differ (names_of core.source.sequences)) _ is.sequences) is.source.sequences may

  pub follows_reservation : (later : Core) → later ≡ record core { source = reserved_to core.source reservation.name reservation.upto } → IsOfJournal later (with_record journal (kept.Reserved reservation))
  follows_reservation later same =
      subst (λ (c : Core). IsOfJournal c (with_record journal (kept.Reserved reservation))) (sym same) (record {
        tables = is.tables;
        book = record { sessions = is.book.sessions; blocks = is.book.blocks };
        source = source_told core.source reservation.name reservation.upto journal is.source;
        sequences = sequences_told core.source reservation.name reservation.upto may_be_reserved_now is.sequences;
      })
