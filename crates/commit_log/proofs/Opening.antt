-- How an opening goes on from part to part: the records are read, the horizon is stored where it
-- rises, and then the incarnation.
use Rattle.std.proofs.Common.{◌≡◌, ℕ, ◌+◌, ◌*◌, ◌^◌, ◌<◌, ◌≤◌, ◌&&◌, ◌||◌, List, [], ◌∷◌, ◌++◌, length, Option, refl, sym, ◌∙◌, ap, subst, arith}
use Rattle.std.specs.Prelude.{Bool, true, false, not, max, nat_le, nat_lt, IsTrue, Result, Ok, if◌then◌else◌}
use Rattle.std.proofs.lemmas.Bool.{le-leb, lt-ltb, ltb-false}
use Rattle.std.proofs.Math.Bool.{or-true, or-false}
use Rattle.disk_model.specs.Moment.{DiskMoment}
use Rattle.disk_model.specs.Disk.{DiskState, Meanwhile, SameBytes, Lowered, LoweredByLess}
use Rattle.disk_model.proofs.Offered.{stays, then as after_that, weaker, lowered_then, lowered_by_less_then, lowered_by_less, lowered_by_none}
use Rattle.redo_store.specs.Redo.{CanAppend}
use Rattle.commit_log.specs.declared.journal.Journal.{Journal}
use Rattle.commit_log.specs.declared.judge.Judge.{Judge}
use Rattle.commit_log.specs.declared.log.Log.{Log}
use Rattle.commit_log.specs.declared.records.Record.{Record}
use Rattle.commit_log.specs.declared.records.Record.TheVariants as kept
use Rattle.commit_log.specs.meaning.Rules.{SoFar, Begun, with_record, may_open, rises, may_forget}
use Rattle.commit_log.specs.meaning.Journals.{journal_in, journal_of, so_far_of}
use Rattle.commit_log.specs.Judging.{so_far_in, Keeps}
use Rattle.commit_log.specs.Growth.{with_records, HasAdded, IsGrown, horizon_of, first_of_opening, opening_of, with_opening}
use Rattle.commit_log.specs.Logs.{HasBegun, CanLog}
use Rattle.commit_log.specs.Adds.{MayAddTo}
use Rattle.commit_log.specs.InnerOpening.{HasRaised}
use Rattle.commit_log.proofs.Committing.{greater}
use Rattle.commit_log.proofs.Growing.{has_itself, has_still, grown_by_all, grows_by_more, grown_then, adds_on}

same_journal : (a b : Journal) (image : List ℕ) → journal_of image ≡ Ok a → journal_of image ≡ Ok b → a ≡ b
same_journal a b image first second = cc

-- ---- the horizon

has_one : (has_horizon : Bool) (journal : Journal) (horizon : ℕ) → rises journal has_horizon horizon ≡ false → has_horizon ≡ true
has_one true journal horizon e = refl
has_one false journal horizon e = absurd cc

not_above : (a b : ℕ) → nat_lt a b ≡ false → max a b ≡ a
not_above a b e = omega (arith, ltb-false a b e)

-- a horizon that does not rise is below the one that there is
pub stays_greater : (journal : Journal) (has_horizon : Bool) (horizon : ℕ) → rises journal has_horizon horizon ≡ false → max journal.horizon horizon ≡ journal.horizon
stays_greater journal true horizon e = not_above journal.horizon horizon e
stays_greater journal false horizon e = absurd cc

-- a horizon that does not rise is not stored
pub not_stored : (horizon : ℕ) (journal : Journal) (has_horizon : Bool) → rises journal has_horizon horizon ≡ false → horizon_of horizon journal has_horizon ≡ []
not_stored horizon journal has_horizon e = ap (λ (b : Bool). if b then kept.Horizon horizon ∷ [] else []) e

pub stored : (horizon : ℕ) (journal : Journal) (has_horizon : Bool) → rises journal has_horizon horizon ≡ true → horizon_of horizon journal has_horizon ≡ kept.Horizon horizon ∷ []
stored horizon journal has_horizon e = ap (λ (b : Bool). if b then kept.Horizon horizon ∷ [] else []) e

pub not_raised : (horizon : ℕ) (judge : Judge) (log : Log) (s : DiskState) → rises judge.journal judge.has_horizon horizon ≡ false → CanAppend log.redo s → so_far_of s.now.seen ≡ Ok (so_far_in judge) → HasRaised horizon judge judge.journal log s s
not_raised horizon judge log s e append judged = record {
  journal_is = ap (λ n. let journal : Journal = record judge.journal { horizon = n } in journal) (sym (stays_greater judge.journal judge.has_horizon horizon e));
  added = subst (λ (l : List Record). HasAdded s.now.seen l s.now.seen) (sym (not_stored horizon judge.journal judge.has_horizon e)) (has_itself s.now.seen);
  append = append;
  so_far = judged ∙ ap (λ (b : Bool). Ok (Begun judge.journal judge.is_opened b)) (has_one judge.has_horizon judge.journal horizon e);
}

-- it may be stored where it rises
pub may_raise : (horizon : ℕ) (judge : Judge) (s : DiskState) → rises judge.journal judge.has_horizon horizon ≡ true → horizon ≤ judge.journal.incarnation + 1 → so_far_of s.now.seen ≡ Ok (so_far_in judge) → MayAddTo judge.is_opened judge.has_horizon s (kept.Horizon horizon)
may_raise horizon judge s up room judged other is =
    let same : judge.journal ≡ other = same_journal judge.journal other s.now.seen (ap journal_in judged) is in
    let small : nat_le horizon (judge.journal.incarnation + 1) ≡ true = le-leb horizon (judge.journal.incarnation + 1) room in
    subst (λ (j : Journal). IsTrue (may_forget j judge.has_horizon horizon)) same (ap (λ (b : Bool). b && rises judge.journal judge.has_horizon horizon) small ∙ up)

pub was_raised : (horizon : ℕ) (judge : Judge) (log : Log) (s t : DiskState) → Keeps judge → rises judge.journal judge.has_horizon horizon ≡ true → so_far_of s.now.seen ≡ Ok (so_far_in judge)
    → HasAdded s.now.seen (kept.Horizon horizon ∷ []) t.now.seen → HasBegun (judge.is_opened || false) (judge.has_horizon || true) log t → HasRaised horizon judge (record judge.journal { horizon = horizon }) log s t
was_raised horizon judge log s t keeps up judged has begun =
    let now : Journal = record judge.journal { horizon = horizon } in
    let holds : journal_of t.now.seen ≡ Ok now = has.journal ∙ ap (λ (r : Result SoFar ℕ). with_records (kept.Horizon horizon ∷ []) (journal_in r)) judged in
    let same : begun.journal ≡ now = same_journal begun.journal now t.now.seen (ap journal_in begun.so_far) holds in
    record {
      journal_is = ap (λ n. let journal : Journal = record judge.journal { horizon = n } in journal) (sym (greater judge.journal judge.has_horizon horizon keeps.unset up));
      added = subst (λ (l : List Record). HasAdded s.now.seen l t.now.seen) (sym (stored horizon judge.journal judge.has_horizon up)) has;
      append = begun.append;
      so_far = begun.so_far
          ∙ ap (λ (j : Journal). Ok (Begun j (judge.is_opened || false) (judge.has_horizon || true))) same
          ∙ ap (λ (b : Bool). Ok (Begun now b (judge.has_horizon || true))) (or-false judge.is_opened)
          ∙ ap (λ (b : Bool). Ok (Begun now judge.is_opened b)) (or-true judge.has_horizon);
    }

-- ---- the incarnation

may_open_next : (journal : Journal) (is_opened : Bool) → journal.incarnation < 2 ^ 63 → may_open journal is_opened (journal.incarnation + 1) ≡ true
may_open_next journal is_opened room =
    let small : nat_le (journal.incarnation + 1) (2 ^ 63) ≡ true = le-leb (journal.incarnation + 1) (2 ^ 63) (omega (arith, room)) in
    let up : nat_lt journal.incarnation (journal.incarnation + 1) ≡ true = lt-ltb journal.incarnation (journal.incarnation + 1) (omega arith) in
    ap (λ (b : Bool). b && (not is_opened || nat_lt journal.incarnation (journal.incarnation + 1))) small ∙ ap (λ (b : Bool). not is_opened || b) up ∙ or-true (not is_opened)

-- a run behind a reading
behind_reading : (s t u : DiskState) (records : List Record) → SameBytes s t → Meanwhile t u (IsGrown t.now.seen records) → Meanwhile s u (IsGrown s.now.seen records)
behind_reading s t u records same run =
    after_that s t u (IsGrown s.now.seen records) (stays s t (IsGrown s.now.seen records) same)
    (weaker t u (IsGrown t.now.seen records) (IsGrown s.now.seen records) run (λ image grown. subst (λ (m : DiskMoment). IsGrown m.seen records image) same.now grown))

module _ (horizon : ℕ) (judge : Judge) (s t u : DiskState) (judged : so_far_of s.now.seen ≡ Ok (so_far_in judge)) (same : SameBytes s t) where
  abbrev pub first : List Record
  first = horizon_of horizon judge.journal judge.has_horizon

  first_is : first_of_opening horizon (so_far_of s.now.seen) ≡ first
  first_is = ap (first_of_opening horizon) judged

  -- it ends while the horizon is stored
  pub ends_first : Meanwhile t u (IsGrown t.now.seen first) → Meanwhile s u (IsGrown s.now.seen (opening_of horizon (so_far_of s.now.seen)))
  ends_first run =
      subst (λ (l : List Record). Meanwhile s u (IsGrown s.now.seen l)) (sym (ap (opening_of horizon) judged))
      (weaker s u (IsGrown s.now.seen first) (IsGrown s.now.seen (first ++ kept.Opened (judge.journal.incarnation + 1) ∷ [])) (behind_reading s t u first same run)
      (λ image. grows_by_more s.now.seen first (kept.Opened (judge.journal.incarnation + 1) ∷ []) image))

  pub none_at_first : HasAdded t.now.seen [] u.now.seen → IsGrown s.now.seen (first_of_opening horizon (so_far_of s.now.seen)) u.now.seen
  none_at_first none = record { count = 0; within = omega arith; has = subst (λ (m : DiskMoment). HasAdded m.seen [] u.now.seen) same.now none }

  pub stops_first : t.stop ≡ s.stop → LoweredByLess (4 * length first) t.stop u.stop → LoweredByLess (4 * length (first_of_opening horizon (so_far_of s.now.seen)) + 4) s.stop u.stop
  stops_first stop less =
      subst (λ (l : List Record). LoweredByLess (4 * length l + 4) s.stop u.stop) (sym first_is)
      (subst (λ (o : Option ℕ). LoweredByLess (4 * length first + 4) o u.stop) stop (lowered_by_less (4 * length first) (4 * length first + 4) t.stop u.stop (omega arith) less))

  module _ (journal : Journal) (log : Log) (raised : HasRaised horizon judge journal log t u) where
    abbrev pub opening : Record
    opening = kept.Opened (journal.incarnation + 1)

    pub incarnation_is : journal.incarnation ≡ judge.journal.incarnation
    incarnation_is = ap (λ (j : Journal). j.incarnation) raised.journal_is

    pub begun : HasBegun judge.is_opened true log u
    begun = record { append = raised.append; journal = journal; so_far = raised.so_far }

    pub may_begin : journal.incarnation < 2 ^ 63 → MayAddTo judge.is_opened true u opening
    may_begin room other is =
        let same_one : journal ≡ other = same_journal journal other u.now.seen (ap journal_in raised.so_far) is in
        subst (λ (j : Journal). IsTrue (may_open j judge.is_opened (journal.incarnation + 1))) same_one (may_open_next journal judge.is_opened room)

    opening_is : opening_of horizon (so_far_of s.now.seen) ≡ first ++ opening ∷ []
    opening_is = ap (opening_of horizon) judged ∙ ap (λ n. first ++ kept.Opened (n + 1) ∷ []) (sym incarnation_is)

    has_first : HasAdded s.now.seen first u.now.seen
    has_first = subst (λ (m : DiskMoment). HasAdded m.seen first u.now.seen) same.now raised.added

    -- the whole run, also where it ends while the incarnation is stored
    pub ends_second : (v : DiskState) → Meanwhile t u (IsGrown t.now.seen first) → Meanwhile u v (IsGrown u.now.seen (opening ∷ [])) → Meanwhile s v (IsGrown s.now.seen (opening_of horizon (so_far_of s.now.seen)))
    ends_second v run more =
        subst (λ (l : List Record). Meanwhile s v (IsGrown s.now.seen l)) (sym opening_is)
        (grown_then s u v s.now.seen first (opening ∷ []) (behind_reading s t u first same run) has_first more)

    pub none_at_second : (v : DiskState) → HasAdded u.now.seen [] v.now.seen → IsGrown s.now.seen (first_of_opening horizon (so_far_of s.now.seen)) v.now.seen
    none_at_second v none =
        subst (λ (l : List Record). IsGrown s.now.seen l v.now.seen) (sym first_is)
        (grown_by_all s.now.seen first v.now.seen (has_still s.now.seen first u.now.seen v.now.seen has_first none))

    pub has_both : (v : DiskState) → HasAdded u.now.seen (opening ∷ []) v.now.seen → HasAdded s.now.seen (opening_of horizon (so_far_of s.now.seen)) v.now.seen
    has_both v more = subst (λ (l : List Record). HasAdded s.now.seen l v.now.seen) (sym opening_is) (adds_on s.now.seen first u.now.seen (opening ∷ []) v.now.seen has_first more)

    pub journal_then : (v : DiskState) → HasAdded u.now.seen (opening ∷ []) v.now.seen → journal_of v.now.seen ≡ Ok (with_record journal opening)
    journal_then v more = more.journal ∙ ap (λ (r : Result SoFar ℕ). with_records (opening ∷ []) (journal_in r)) raised.so_far

    pub opens_with : with_opening horizon (journal_of s.now.seen) ≡ Ok (with_record journal opening)
    opens_with = ap (λ (r : Result SoFar ℕ). with_opening horizon (journal_in r)) judged ∙ ap (λ (j : Journal). Ok (with_record j (kept.Opened (j.incarnation + 1)))) (sym raised.journal_is)

    pub stops_second : (v : DiskState) → t.stop ≡ s.stop → Lowered (4 * length first) t.stop u.stop → LoweredByLess 4 u.stop v.stop
        → LoweredByLess (4 * length (first_of_opening horizon (so_far_of s.now.seen)) + 4) s.stop v.stop
    stops_second v stop before less =
        subst (λ (l : List Record). LoweredByLess (4 * length l + 4) s.stop v.stop) (sym first_is)
        (subst (λ (o : Option ℕ). LoweredByLess (4 * length first + 4) o v.stop) stop (lowered_by_less_then (4 * length first) 4 t.stop u.stop v.stop before less))

    pub lowers_both : (v : DiskState) → t.stop ≡ s.stop → Lowered (4 * length first) t.stop u.stop → Lowered 4 u.stop v.stop
        → Lowered (4 * length (first_of_opening horizon (so_far_of s.now.seen)) + 4) s.stop v.stop
    lowers_both v stop before more =
        subst (λ (l : List Record). Lowered (4 * length l + 4) s.stop v.stop) (sym first_is)
        (subst (λ (o : Option ℕ). Lowered (4 * length first + 4) o v.stop) stop (lowered_then (4 * length first) 4 t.stop u.stop v.stop before more))

-- it ends while it reads
pub stops_reading : (horizon : ℕ) (s t : DiskState) → t.stop ≡ s.stop → LoweredByLess (4 * length (first_of_opening horizon (so_far_of s.now.seen)) + 4) s.stop t.stop
stops_reading horizon s t stop =
    let n : ℕ = 4 * length (first_of_opening horizon (so_far_of s.now.seen)) + 4 in
    subst (λ (o : Option ℕ). LoweredByLess n s.stop o) (sym stop) (lowered_by_none n s.stop (omega arith))

-- and then the store is ready
pub ready_then : (is_opened : Bool) (log : Log) (disk : DiskState) → HasBegun (is_opened || true) true log disk → CanLog log disk
ready_then is_opened log disk begun = record {
  append = begun.append;
  journal = begun.journal;
  so_far = begun.so_far ∙ ap (λ (b : Bool). Ok (Begun begun.journal b true)) (or-true is_opened);
}
