-- What a journal keeps, record by record.
use Rattle.std.proofs.Common.{◌≡◌, ℕ, ◌+◌, ◌*◌, ◌≤◌, ◌^◌, ◌==◌, ◌&&◌, ◌||◌, not, Bool, true, false, ℤ, List, [], ◌∷◌, length, map, Some, None, refl, sym, ◌∙◌, ap, subst, arith, length-append, get_or}
use Rattle.std.proofs.lemmas.Int.{ints}
use Rattle.std.proofs.lemmas.Bool.{leb-true, ltb-true, ltb-false, and_parts}
use Rattle.std.proofs.Math.Bool.{or-true, or-false}
use Rattle.std.specs.Prelude.{pos, ◌+ℤ◌, ◌-ℤ◌, int_lt, nat_le, nat_lt, Result, Ok, Err, suc, if◌then◌else◌}
use Rattle.std.specs.List.{list_all, list_any}
use Rattle.canon_bytes.specs.meaning.Reading.{◌>>=◌}
use Rattle.canon_bytes.specs.meaning.Numbers.{u64_at}
use Rattle.canon_bytes.specs.meaning.TextBytes.{bytes_at, name_at, text_at}
use Rattle.canon_bytes.specs.declared.fault.Fault.{Fault}
use Rattle.canon_bytes.specs.declared.fault.Fault.TheVariants.{Short, BadTag}
use Rattle.svc_values.specs.declared.entry.Entry.{Entry}
use Rattle.svc_values.specs.declared.entry.Ltxid.{Ltxid}
use Rattle.svc_values.specs.meaning.Names.{names_differ}
use Rattle.svc_values.specs.meaning.Fitting.{writes_fit}
use Rattle.ltxid_book.specs.meaning.Sessions.{may_commit as may_note}
use Rattle.ltxid_book.specs.meaning.Journal.{committed_of, state_of}
use Rattle.ltxid_book.proofs.Offered.{may_known}
use Rattle.redo_store.specs.Records.{spelling_of}
use Rattle.redo_store.proofs.Offered.{length-spelling_of, records_within}
use Rattle.commit_log.specs.declared.base.Base.{Base}
use Rattle.commit_log.specs.declared.base.BaseSequence.{BaseSequence}
use Rattle.commit_log.specs.declared.journal.Journal.{Journal}
use Rattle.commit_log.specs.declared.journal.Reservation.{Reservation}
use Rattle.commit_log.specs.declared.records.Record.{Record}
use Rattle.commit_log.specs.declared.records.Record.TheVariants as kept
use Rattle.commit_log.specs.meaning.Bases.{is_base, is_table, is_sequence, schemas_of, table_name, sequence_name}
use Rattle.commit_log.specs.Bases.{IsBase}
use Rattle.canon_bytes.specs.meaning.Entries.{entry_at, ltxid_at}
use Rattle.commit_log.specs.meaning.BaseBytes.{base_at}
use Rattle.commit_log.specs.meaning.RecordBytes.{record_at, reservation_at}
use Rattle.commit_log.specs.meaning.Rules.{SoFar, Empty, Begun, new_journal, sessions_of, may_commit, may_block, may_reserve, may_open, may_forget, rises, may_come, with_record, is_opening, is_horizon, end_of, is_next_reservation, after}
use Rattle.commit_log.specs.meaning.Journals.{if_whole, whole_record, after_payload, judged, so_far_of}
use Rattle.commit_log.specs.Keeping.{AreCommits, AreReservations, KeepsJournal, EachKeeps, ends_of}
use Rattle.commit_log.proofs.Steps.{read_of}
use Rattle.commit_log.proofs.Fronts.{next_of, one_of, begun_of}
use Rattle.commit_log.proofs.KeepingCommits.{AreBelow, none_below, no_commits, commits_later, below_more, commits_more, blocks_more}
use Rattle.commit_log.proofs.KeepingReservations.{no_reservations, reservations_more, ends_few}

-- ---- tests

-- the names of a base's sequences differ
names_of_base : (base : Base) → is_base base ≡ true → names_differ (map sequence_name base.sequences) ≡ true
unfolding is_base
names_of_base base is =
    let tables_first = and_parts (names_differ (map table_name base.tables)) (names_differ (map sequence_name base.sequences) && (list_all is_table base.tables && list_all is_sequence base.sequences)) is in
    (and_parts (names_differ (map sequence_name base.sequences)) (list_all is_table base.tables && list_all is_sequence base.sequences) tables_first.1).0

-- what a commit that may come next is known by
commit_parts : (journal : Journal) (entry : Entry) → may_commit journal entry ≡ true
    → (nat_le entry.ltxid.incarnation journal.incarnation ≡ true) × (may_note (sessions_of journal) entry.ltxid ≡ true) × (writes_fit (schemas_of journal.base) entry.writes ≡ true)
unfolding may_commit
commit_parts journal entry e =
    let first = and_parts (nat_le entry.ltxid.incarnation journal.incarnation) (may_note (sessions_of journal) entry.ltxid && writes_fit (schemas_of journal.base) entry.writes) e in
    let rest = and_parts (may_note (sessions_of journal) entry.ltxid) (writes_fit (schemas_of journal.base) entry.writes) first.1 in
    (first.0, rest.0, rest.1)

reserve_part : (journal : Journal) (reservation : Reservation) → may_reserve journal reservation ≡ true → list_any (is_next_reservation journal.reserved reservation) journal.base.sequences ≡ true
unfolding may_reserve
reserve_part journal reservation e = e

-- ---- how long a reservation is

other_form : {X : Type 0} (form : X → Record) (read : Result (X × List ℕ) Fault) (reservation : Reservation) → ((x : X) → form x ≡ kept.Reserved reservation → ⊥) → if_whole (read >>= λ found. Ok (form found.0, found.1)) ≡ Some (kept.Reserved reservation) → ⊥
other_form form (Err fault) reservation apart e = cc
other_form form (Ok (x, [])) reservation apart e = apart x (let same : form x ≡ kept.Reserved reservation = cc in same)
other_form form (Ok (x, byte ∷ rest)) reservation apart e = cc

short_fails : (bytes : List ℕ) → nat_lt (length bytes) 8 ≡ true → reservation_at bytes ≡ Err Short
unfolding reservation_at name_at bytes_at u64_at
short_fails bytes short = rw short refl

long_read : (bytes : List ℕ) (reservation : Reservation) (short : Bool) → nat_lt (length bytes) 8 ≡ short → if_whole (reservation_at bytes >>= λ found. Ok (kept.Reserved found.0, found.1)) ≡ Some (kept.Reserved reservation) → 8 ≤ length bytes
long_read bytes reservation true short e =
    let fails = ap (λ (r : Result (Reservation × List ℕ) Fault). if_whole (r >>= λ found. Ok (kept.Reserved found.0, found.1))) (short_fails bytes short) in
    absurd (let none : ⊥ = cc in none)
long_read bytes reservation false long e = omega (arith, ltb-false (length bytes) 8 long)

reserved_long : (payload : List ℕ) (reservation : Reservation) → whole_record payload ≡ Some (kept.Reserved reservation) → 9 ≤ length payload
unfolding record_at
reserved_long [] reservation e = absurd (let none : ⊥ = cc in none)
reserved_long (tag ∷ rest) reservation e = by (tag == 1) (tag == 2) (tag == 3) (tag == 4) (tag == 5) (tag == 6) (tag == 7) e
  where
    by : (one two three four five six seven : Bool) → if_whole (
        if one then (base_at rest >>= λ base. Ok (kept.Base base.0, base.1))
        else (if two then (u64_at rest >>= λ incarnation. Ok (kept.Opened incarnation.0, incarnation.1))
        else (if three then (entry_at rest >>= λ entry. Ok (kept.Commit entry.0, entry.1))
        else (if four then (ltxid_at rest >>= λ x. Ok (kept.Blocked x.0, x.1))
        else (if five then (reservation_at rest >>= λ reservation. Ok (kept.Reserved reservation.0, reservation.1))
        else (if six then (text_at rest >>= λ line. Ok (kept.Alert line.0, line.1))
        else (if seven then (u64_at rest >>= λ horizon. Ok (kept.Horizon horizon.0, horizon.1))
        else Err (BadTag (suc (length rest)))))))))) ≡ Some (kept.Reserved reservation) → 9 ≤ length (tag ∷ rest)
    by true two three four five six seven h = absurd (other_form kept.Base (base_at rest) reservation (λ base same. let none : ⊥ = cc in none) h)
    by false true three four five six seven h = absurd (other_form kept.Opened (u64_at rest) reservation (λ incarnation same. let none : ⊥ = cc in none) h)
    by false false true four five six seven h = absurd (other_form kept.Commit (entry_at rest) reservation (λ entry same. let none : ⊥ = cc in none) h)
    by false false false true five six seven h = absurd (other_form kept.Blocked (ltxid_at rest) reservation (λ x same. let none : ⊥ = cc in none) h)
    by false false false false true six seven h = omega (arith, long_read rest reservation (nat_lt (length rest) 8) refl h)
    by false false false false false true seven h = absurd (other_form kept.Alert (text_at rest) reservation (λ line same. let none : ⊥ = cc in none) h)
    by false false false false false false true h = absurd (other_form kept.Horizon (u64_at rest) reservation (λ horizon same. let none : ⊥ = cc in none) h)
    by false false false false false false false h = absurd (let none : ⊥ = cc in none)

-- ---- a journal after records of so many bytes

record Sound (bytes : ℕ) (journal : Journal) (is_opened : Bool) : Type 0 where
  base : IsBase journal.base
  incarnation : journal.incarnation ≤ 2 ^ 63
  unopened : is_opened ≡ false → journal.incarnation ≡ 0
  horizon : journal.horizon ≤ journal.incarnation + 1
  commits : AreCommits (schemas_of journal.base) journal.incarnation journal.entries journal.blocked
  below : AreBelow journal.entries
  reservations : AreReservations journal.base.sequences journal.reserved
  few : 16 * length journal.reserved ≤ bytes

-- where no horizon was stored it is 0
abbrev pub IsUnset : Bool → Journal → Type 0
IsUnset has_horizon journal = has_horizon ≡ false → journal.horizon ≡ 0

abbrev IsSound : ℕ → SoFar → Type 0
IsSound bytes Empty = Unit {0}
IsSound bytes (Begun journal is_opened has_horizon) = Sound bytes journal is_opened × IsUnset has_horizon journal

first_sound : (bytes : ℕ) (base : Base) → is_base base ≡ true → Sound bytes (new_journal base) false
first_sound bytes base is = record {
  base = is;
  incarnation = omega arith;
  unopened = λ e. refl;
  horizon = omega arith;
  commits = no_commits (schemas_of base) 0;
  below = none_below;
  reservations = no_reservations base.sequences;
  few = omega arith;
}

-- ---- one record more

still_unopened : (is_opened : Bool) (incarnation : ℕ) → (is_opened ≡ false → incarnation ≡ 0) → (is_opened || false) ≡ false → incarnation ≡ 0
still_unopened is_opened incarnation before e = before (sym (or-false is_opened) ∙ e)

opened_now : (is_opened : Bool) (incarnation : ℕ) → (is_opened || true) ≡ false → incarnation ≡ 0
opened_now is_opened incarnation e = absurd (let none : true ≡ false = sym (or-true is_opened) ∙ e in let never : ⊥ = cc in never)

no_lower : (is_opened : Bool) (old new : ℕ) → (is_opened ≡ false → old ≡ 0) → (not is_opened || nat_lt old new) ≡ true → old ≤ new
no_lower true old new before e = omega (arith, ltb-true old new e)
no_lower false old new before e = omega (arith, before refl)

module _ (bytes n : ℕ) (journal : Journal) (is_opened has_horizon : Bool) (sound : Sound bytes journal is_opened) where
  after_opening : (incarnation : ℕ) → may_open journal is_opened incarnation ≡ true → Sound (bytes + (9 + n)) (with_record journal (kept.Opened incarnation)) (is_opened || true)
  after_opening incarnation may =
      let parts = and_parts (nat_le incarnation (2 ^ 63)) (not is_opened || nat_lt journal.incarnation incarnation) may in
      let up = no_lower is_opened journal.incarnation incarnation sound.unopened parts.1 in
      record {
        base = sound.base;
        incarnation = leb-true incarnation (2 ^ 63) parts.0;
        unopened = opened_now is_opened incarnation;
        horizon = omega (arith, sound.horizon, up);
        commits = commits_later (schemas_of journal.base) journal.incarnation incarnation journal.entries journal.blocked up sound.commits;
        below = sound.below;
        reservations = sound.reservations;
        few = omega (arith, sound.few);
      }

  after_commit : (entry : Entry) → may_commit journal entry ≡ true → Sound (bytes + (9 + n)) (with_record journal (kept.Commit entry)) (is_opened || false)
  after_commit entry may =
      let parts = commit_parts journal entry may in
      let lets = (may_known journal.horizon (state_of (map committed_of journal.entries) journal.blocked) entry.ltxid parts.1).1 in
      record {
        base = sound.base;
        incarnation = sound.incarnation;
        unopened = still_unopened is_opened journal.incarnation sound.unopened;
        horizon = sound.horizon;
        commits = commits_more (schemas_of journal.base) journal.incarnation journal.entries journal.blocked entry lets sound.commits (leb-true entry.ltxid.incarnation journal.incarnation parts.0) parts.2;
        below = below_more (schemas_of journal.base) journal.incarnation journal.entries journal.blocked entry lets sound.below;
        reservations = sound.reservations;
        few = omega (arith, sound.few);
      }

  after_block : (x : Ltxid) → may_block journal x ≡ true → Sound (bytes + (9 + n)) (with_record journal (kept.Blocked x)) (is_opened || false)
  after_block x may =
      let lets = (may_known journal.horizon (state_of (map committed_of journal.entries) journal.blocked) x may).1 in
      record {
        base = sound.base;
        incarnation = sound.incarnation;
        unopened = still_unopened is_opened journal.incarnation sound.unopened;
        horizon = sound.horizon;
        commits = blocks_more (schemas_of journal.base) journal.incarnation journal.entries journal.blocked x lets sound.below sound.commits;
        below = sound.below;
        reservations = sound.reservations;
        few = omega (arith, sound.few);
      }

  after_reservation : (reservation : Reservation) → may_reserve journal reservation ≡ true → 7 ≤ n → Sound (bytes + (9 + n)) (with_record journal (kept.Reserved reservation)) (is_opened || false)
  after_reservation reservation may long = record {
    base = sound.base;
    incarnation = sound.incarnation;
    unopened = still_unopened is_opened journal.incarnation sound.unopened;
    horizon = sound.horizon;
    commits = sound.commits;
    below = sound.below;
    reservations = reservations_more journal.base.sequences journal.reserved reservation (names_of_base journal.base sound.base) (reserve_part journal reservation may) sound.reservations;
    few = omega (arith, sound.few, long, length-append journal.reserved (reservation ∷ []));
  }

  after_alert : (line : List ℕ) → Sound (bytes + (9 + n)) (with_record journal (kept.Alert line)) (is_opened || false)
  after_alert line = record {
    base = sound.base;
    incarnation = sound.incarnation;
    unopened = still_unopened is_opened journal.incarnation sound.unopened;
    horizon = sound.horizon;
    commits = sound.commits;
    below = sound.below;
    reservations = sound.reservations;
    few = omega (arith, sound.few);
  }

  after_horizon : (horizon : ℕ) → may_forget journal has_horizon horizon ≡ true → Sound (bytes + (9 + n)) (with_record journal (kept.Horizon horizon)) (is_opened || false)
  after_horizon horizon may = record {
    base = sound.base;
    incarnation = sound.incarnation;
    unopened = still_unopened is_opened journal.incarnation sound.unopened;
    horizon = leb-true horizon (journal.incarnation + 1) (and_parts (nat_le horizon (journal.incarnation + 1)) (rises journal has_horizon horizon) may).0;
    commits = sound.commits;
    below = sound.below;
    reservations = sound.reservations;
    few = omega (arith, sound.few);
  }

  sound_with : (one : Record) → may_come journal is_opened has_horizon one ≡ true → ((reservation : Reservation) → one ≡ kept.Reserved reservation → 7 ≤ n) → Sound (bytes + (9 + n)) (with_record journal one) (is_opened || is_opening one)
  sound_with (kept.Base base) may long = absurd (let none : ⊥ = cc in none)
  sound_with (kept.Opened incarnation) may long = after_opening incarnation may
  sound_with (kept.Commit entry) may long = after_commit entry (and_parts is_opened (may_commit journal entry) may).1
  sound_with (kept.Blocked x) may long = after_block x may
  sound_with (kept.Reserved reservation) may long = after_reservation reservation may (long reservation refl)
  sound_with (kept.Alert line) may long = after_alert line
  sound_with (kept.Horizon horizon) may long = after_horizon horizon may

unset_with : (journal : Journal) (has_horizon : Bool) (one : Record) → IsUnset has_horizon journal → IsUnset (has_horizon || is_horizon one) (with_record journal one)
unset_with journal has_horizon (kept.Base base) unset e = unset (sym (or-false has_horizon) ∙ e)
unset_with journal has_horizon (kept.Opened incarnation) unset e = unset (sym (or-false has_horizon) ∙ e)
unset_with journal has_horizon (kept.Commit entry) unset e = unset (sym (or-false has_horizon) ∙ e)
unset_with journal has_horizon (kept.Blocked x) unset e = unset (sym (or-false has_horizon) ∙ e)
unset_with journal has_horizon (kept.Reserved reservation) unset e = unset (sym (or-false has_horizon) ∙ e)
unset_with journal has_horizon (kept.Alert line) unset e = unset (sym (or-false has_horizon) ∙ e)
unset_with journal has_horizon (kept.Horizon horizon) unset e = absurd (let none : true ≡ false = sym (or-true has_horizon) ∙ e in let never : ⊥ = cc in never)

sound_next : (bytes n : ℕ) (so_far next : SoFar) (one : Record) → IsSound bytes so_far → after so_far one ≡ Some next → ((reservation : Reservation) → one ≡ kept.Reserved reservation → 7 ≤ n) → IsSound (bytes + (9 + n)) next
sound_next bytes n Empty next (kept.Base base) sound e long = by (is_base base) refl e
  where
    by : (b : Bool) → is_base base ≡ b → (if b then Some (Begun (new_journal base) false false) else None) ≡ Some next → IsSound (bytes + (9 + n)) next
    by true is h = let same : Begun (new_journal base) false false ≡ next = cc in subst (IsSound (bytes + (9 + n))) same (first_sound (bytes + (9 + n)) base is, λ e. refl)
    by false is h = absurd (let none : ⊥ = cc in none)
sound_next bytes n Empty next one sound e long = absurd (let none : ⊥ = cc in none)
sound_next bytes n (Begun journal is_opened has_horizon) next one sound e long = by (may_come journal is_opened has_horizon one) refl e
  where
    by : (b : Bool) → may_come journal is_opened has_horizon one ≡ b → (if b then Some (Begun (with_record journal one) (is_opened || is_opening one) (has_horizon || is_horizon one)) else None) ≡ Some next → IsSound (bytes + (9 + n)) next
    by true may h = let same : Begun (with_record journal one) (is_opened || is_opening one) (has_horizon || is_horizon one) ≡ next = cc in subst (IsSound (bytes + (9 + n))) same (sound_with bytes n journal is_opened has_horizon sound.0 one may long, unset_with journal has_horizon one sound.1)
    by false may h = absurd (let none : ⊥ = cc in none)

-- ---- all records

sound_on : (bytes place : ℕ) (so_far last : SoFar) (payloads : List (List ℕ)) → IsSound bytes so_far → judged so_far place payloads ≡ Ok last → IsSound (bytes + length (spelling_of payloads)) last
sound_on bytes place so_far last [] sound e =
    let same : so_far ≡ last = cc in
    let long : bytes ≡ bytes + 0 = omega arith in
    subst (λ n. IsSound n last) long (subst (IsSound bytes) same sound)
sound_on bytes place so_far last (payload ∷ payloads) sound e =
    let here = next_of (after_payload so_far payload) place (λ next. judged next (place + 9 + length payload) payloads) last e in
    let one = one_of so_far (whole_record payload) here.0 here.1 in
    let on = sound_next bytes (length payload) so_far here.0 one.0 sound one.2 (λ reservation same. omega (arith, reserved_long payload reservation (one.1 ∙ ap (λ (r : Record). Some r) same))) in
    let long : bytes + (9 + length payload) + length (spelling_of payloads) ≡ bytes + length (spelling_of (payload ∷ payloads)) = omega (arith, length-spelling_of payload payloads) in
    subst (λ n. IsSound n last) long (sound_on (bytes + (9 + length payload)) (place + 9 + length payload) here.0 last payloads on here.2)

below_size : (start end : ℤ) (n m : ℕ) → end ≡ (start -ℤ pos 1) +ℤ pos (16 * n) → 16 * n ≤ m → int_lt end (start +ℤ pos m) ≡ true
below_size start end n m is few = grind (arith, ints)

kept_in : (image : List ℕ) (bytes : ℕ) (journal : Journal) (is_opened : Bool) → bytes ≤ length image → Sound bytes journal is_opened → KeepsJournal image journal
kept_in image bytes journal is_opened within sound = record {
  base = sound.base;
  incarnation = sound.incarnation;
  horizon = sound.horizon;
  commits = sound.commits;
  reservations = sound.reservations;
  within = λ k d at.
      let sequence : BaseSequence = get_or journal.base.sequences k d in
      below_size sequence.start (end_of journal.reserved sequence) (length (ends_of journal.reserved sequence)) (length image) (sound.reservations.last k d at) (omega (arith, sound.few, within, ends_few journal.reserved sequence));
}

pub each_keeps : EachKeeps
each_keeps image journal e =
    let begun = begun_of (so_far_of image) journal e in
    let read = read_of image (Begun journal begun.0 begun.1) begun.2 in
    let sound = sound_on 0 8 Empty (Begun journal begun.0 begun.1) read.records tt read.judges in
    kept_in image (0 + length (spelling_of read.records)) journal begun.0 (omega (arith, records_within image read.records read.are)) sound.0

-- of records that were judged
pub unset_of : (records : List (List ℕ)) (journal : Journal) (is_opened has_horizon : Bool) → judged Empty 8 records ≡ Ok (Begun journal is_opened has_horizon) → IsUnset has_horizon journal
unset_of records journal is_opened has_horizon judges = (sound_on 0 8 Empty (Begun journal is_opened has_horizon) records tt judges).1

-- of a journal that was read
pub unset_in : (image : List ℕ) (journal : Journal) (is_opened has_horizon : Bool) → so_far_of image ≡ Ok (Begun journal is_opened has_horizon) → IsUnset has_horizon journal
unset_in image journal is_opened has_horizon e =
    let read = read_of image (Begun journal is_opened has_horizon) e in unset_of read.records journal is_opened has_horizon read.judges
