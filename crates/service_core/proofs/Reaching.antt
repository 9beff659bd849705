-- What an opening that was stopped has stored: nothing, its horizon, or its incarnation behind
-- that.
use Rattle.std.proofs.Common.{◌≡◌, ◌∙◌, ◌+◌, ◌≤◌, ℕ, zero, suc, Bool, true, false, refl, sym, ap, subst, inl, inr, List, [], ◌∷◌, ◌++◌, length, length-append, take, fold, arith}
use Rattle.std.specs.Prelude.{◌⊎◌, max, Result, Ok, Err, if◌then◌else◌}
use Rattle.disk_model.specs.Moment.{MayLeave}
use Rattle.disk_model.specs.Disk.{DiskState, Meanwhile, IsSettled}
use Rattle.disk_model.proofs.Offered.{crash_now}
use Rattle.commit_log.specs.declared.journal.Journal.{Journal}
use Rattle.commit_log.specs.declared.records.Record.{Record}
use Rattle.commit_log.specs.declared.records.Record.TheVariants as kept
use Rattle.commit_log.specs.meaning.Rules.{SoFar, Empty, Begun, rises, with_record}
use Rattle.commit_log.specs.meaning.Journals.{so_far_of, journal_in, journal_of}
use Rattle.commit_log.specs.Growth.{IsGrown, horizon_of, first_of_opening, opening_of, with_records}
use Rattle.commit_log.specs.Laws.{RaisesHorizon}
use Rattle.commit_log.proofs.Offered.{has_itself, grows_by_none}

-- the journal with the horizon of an opening, and with the whole opening
abbrev pub forgetting_journal : Journal → ℕ → Journal
forgetting_journal journal below = record journal { horizon = max journal.horizon below }

abbrev pub opened_journal : Journal → ℕ → Journal
opened_journal journal below = record journal { incarnation = journal.incarnation + 1; horizon = max journal.horizon below }

-- so far an opening may have come
abbrev pub IsPartOf : Journal → ℕ → Journal → Type 0
IsPartOf journal below reached = (reached ≡ journal) ⊎ ((reached ≡ forgetting_journal journal below) ⊎ (reached ≡ opened_journal journal below))

-- the image is that of a journal to which an opening may have come
pub record Reaches (journal : Journal) (below : ℕ) (image : List ℕ) : Type 0 where
  pub reached : Journal
  pub reads : journal_of image ≡ Ok reached
  pub part : IsPartOf journal below reached

-- ---- the records of an opening

few_rise : (below : ℕ) (journal : Journal) (rising : Bool) → length (if rising then kept.Horizon below ∷ [] else []) ≤ 1
few_rise below journal true = omega arith
few_rise below journal false = omega arith

few_first : (below : ℕ) (so_far : Result SoFar ℕ) → length (first_of_opening below so_far) ≤ 1
few_first below (Err place) = omega arith
few_first below (Ok Empty) = omega arith
few_first below (Ok (Begun journal is_opened has_horizon)) = few_rise below journal (rises journal has_horizon below)

-- behind its first records comes the incarnation
pub then_opens : (below : ℕ) (so_far : Result SoFar ℕ) (journal : Journal) → journal_in so_far ≡ Ok journal → opening_of below so_far ≡ first_of_opening below so_far ++ kept.Opened (journal.incarnation + 1) ∷ []
then_opens below (Err place) journal is = absurd (cc)
then_opens below (Ok Empty) journal is = absurd (cc)
then_opens below (Ok (Begun begun is_opened has_horizon)) journal is =
    let same : begun ≡ journal = (let e : ◌≡◌ {A = Result Journal ℕ} (Ok begun) (Ok journal) = is in cc) in
    ap (λ (j : Journal). horizon_of below begun has_horizon ++ kept.Opened (j.incarnation + 1) ∷ []) same

-- a front of at most one record and another behind it
fronts : (first : List Record) (last : Record) (count : ℕ) → length first ≤ 1 → count ≤ length first + 1
    → (take count (first ++ last ∷ []) ≡ []) ⊎ ((take count (first ++ last ∷ []) ≡ first) ⊎ (take count (first ++ last ∷ []) ≡ first ++ last ∷ []))
fronts [] last zero few within = inl refl
fronts [] last (suc zero) few within = inr (inr refl)
fronts [] last (suc (suc count)) few within = absurd (omega (arith, within))
fronts (one ∷ []) last zero few within = inl refl
fronts (one ∷ []) last (suc zero) few within = inr (inl refl)
fronts (one ∷ []) last (suc (suc zero)) few within = inr (inr refl)
fronts (one ∷ []) last (suc (suc (suc count))) few within = absurd (omega (arith, within))
fronts (one ∷ two ∷ more) last count few within = absurd (omega (arith, few))

pub one_last : (journal : Journal) (first : List Record) (last : Record) → fold with_record journal (first ++ last ∷ []) ≡ with_record (fold with_record journal first) last
one_last journal [] last = refl
one_last journal (one ∷ first) last = one_last (with_record journal one) first last

-- ---- the journal

pub reaches : (journal : Journal) (below : ℕ) (old image : List ℕ) → RaisesHorizon → journal_of old ≡ Ok journal → IsGrown old (opening_of below (so_far_of old)) image → Reaches journal below image
reaches journal below old image raises reads grown =
    let first = first_of_opening below (so_far_of old) in
    let last = kept.Opened (journal.incarnation + 1) in
    let opening : opening_of below (so_far_of old) ≡ first ++ last ∷ [] = then_opens below (so_far_of old) journal reads in
    let read : journal_of image ≡ Ok (fold with_record journal (take grown.count (first ++ last ∷ []))) =
    grown.has.journal ∙ ap (with_records (take grown.count (opening_of below (so_far_of old)))) reads ∙ ap (λ (l : List Record). Ok (fold with_record journal (take grown.count l))) opening in
    let within : grown.count ≤ length first + 1 = omega (arith, grown.within, ap (λ (l : List Record). length l) opening, length-append first (last ∷ [])) in
    let raised : fold with_record journal first ≡ forgetting_journal journal below = raises old journal below reads in
    record {
      reached = fold with_record journal (take grown.count (first ++ last ∷ []));
      reads = read;
      part = parts (take grown.count (first ++ last ∷ [])) first raised (fronts first last grown.count (few_first below (so_far_of old)) within);
    }
  where
    parts : (records first : List Record) → fold with_record journal first ≡ forgetting_journal journal below
        → (records ≡ []) ⊎ ((records ≡ first) ⊎ (records ≡ first ++ kept.Opened (journal.incarnation + 1) ∷ [])) → IsPartOf journal below (fold with_record journal records)
    parts records first raised (inl none) = inl (ap (fold with_record journal) none)
    parts records first raised (inr (inl all)) = inr (inl (ap (fold with_record journal) all ∙ raised))
    parts records first raised (inr (inr whole)) =
        inr (inr (ap (fold with_record journal) whole ∙ one_last journal first (kept.Opened (journal.incarnation + 1)) ∙ ap (λ (j : Journal). with_record j (kept.Opened (journal.incarnation + 1))) raised))

-- ---- what a crash leaves

-- whatever is left when an opening ends began with nothing pending
pub grows_now : (below : ℕ) (old new : DiskState) → IsSettled old → Meanwhile old new (IsGrown old.now.seen (opening_of below (so_far_of old.now.seen))) → (image : List ℕ) → MayLeave new.now image → IsGrown old.now.seen (opening_of below (so_far_of old.now.seen)) image
grows_now below old new settled run image leaves =
    crash_now old new (IsGrown old.now.seen (opening_of below (so_far_of old.now.seen))) run
    (λ image left. subst (λ (i : List ℕ). IsGrown old.now.seen (opening_of below (so_far_of old.now.seen)) i) (sym (settled image left)) (grows_by_none old.now.seen (opening_of below (so_far_of old.now.seen)) old.now.seen (has_itself old.now.seen)))
    image leaves
