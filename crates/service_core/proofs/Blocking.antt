-- What an outcome that is told leaves of the plain server and of the store beside it: a block more,
-- or nothing.
use Rattle.std.proofs.Common.{◌≡◌, ◌∙◌, ◌≤◌, ℕ, refl, sym, ap, List, [], ◌∷◌, ◌++◌, length, inl, inr, append_assoc, arith}
use Rattle.std.specs.Prelude.{◌⊎◌, Ok}
use Rattle.redo_store.specs.meaning.Records.{records_of}
use Rattle.redo_store.specs.Records.{record_count}
use Rattle.svc_values.specs.declared.entry.Ltxid.{Ltxid}
use Rattle.ltxid_book.specs.declared.verdict.Verdict.{Verdict}
use Rattle.ltxid_book.specs.declared.verdict.Verdict.TheVariants as verdict
use Rattle.commit_log.specs.declared.journal.Journal.{Journal}
use Rattle.commit_log.specs.declared.records.Record.{Record}
use Rattle.commit_log.specs.Growth.{HasAdded}
use Rattle.commit_log.specs.meaning.Journals.{journal_of}
use Rattle.server_model.specs.Core.{Core as Plain, all_entries, all_blocked}
use Rattle.server_model.specs.Outcomes.{if_blocks, with_block}
use Rattle.server_model.specs.Seen.{Store}
use Rattle.server_model.specs.ServiceCalls.{AddsBlock}
use Rattle.server_session.specs.Plain.{IsStored}
use Rattle.service_core.specs.Seeing.{store_in, store_of}
use Rattle.service_core.proofs.Gained.{Stays, records_more}
use Rattle.service_core.specs.InnerHonest.{store_is}

-- the core is the same, or has the block
abbrev pub MayBlock : Ltxid → Plain → Plain → Type 0
MayBlock x core after = (after ≡ core) ⊎ (after ≡ with_block core x)

pub told_blocks : (judged : Verdict) (core : Plain) (x : Ltxid) → MayBlock x core (if_blocks judged core x)
told_blocks verdict.BlockIt core x = inr refl
told_blocks verdict.AlreadyBlocked core x = inl refl
told_blocks (verdict.Committed completed) core x = inl refl
told_blocks (verdict.ServerAhead next) core x = inl refl
told_blocks (verdict.ClientAhead next) core x = inl refl
told_blocks (verdict.Forgotten horizon) core x = inl refl

-- what no block changes
pub same_in : {A : Type 0} (f : Plain → A) (x : Ltxid) (core after : Plain) → f (with_block core x) ≡ f core → MayBlock x core after → f after ≡ f core
same_in f x core after same (inl is) = ap f is
same_in f x core after same (inr is) = ap f is ∙ same

pub block_stays : (x : Ltxid) (core after : Plain) → MayBlock x core after → Stays core after
block_stays x core after may = record {
  base = same_in (λ c. c.base) x core after refl may;
  incarnation = same_in (λ c. c.opening.incarnation) x core after refl may;
  horizon = same_in (λ c. c.horizon) x core after refl may;
}

blocked_by : (x : Ltxid) (core after : Plain) → MayBlock x core after → (all_blocked after ≡ all_blocked core) ⊎ (all_blocked after ≡ all_blocked core ++ x ∷ [])
blocked_by x core after (inl is) = inl (ap all_blocked is)
blocked_by x core after (inr is) = inr (ap all_blocked is ∙ sym (append_assoc core.base.blocked core.blocked (x ∷ [])))

-- Between two images that plain servers stand beside.
pub adds_block : (x : Ltxid) (core after : Plain) → MayBlock x core after → (old image : List ℕ) (records : List Record) (journal later : Journal) → journal_of old ≡ Ok journal → journal_of image ≡ Ok later
    → IsStored core journal → IsStored after later → HasAdded old records image → length records ≤ 1 → AddsBlock x (store_of old) (store_of image)
adds_block x core after may old image records journal later reads reads_later was is has few =
    let more = records_more old records image journal reads has in
    let a : store_of old ≡ store_in (Ok journal) (record_count (records_of old)) = store_is old journal reads in
    let b : store_of image ≡ store_in (Ok later) (record_count (records_of image)) = store_is image later reads_later in
    let stays = block_stays x core after may in
    record {
      opening = (
        ap (λ (s : Store). s.incarnation) b ∙ sym is.source.incarnation ∙ stays.incarnation ∙ was.source.incarnation ∙ ap (λ (s : Store). s.incarnation) (sym a),
        ap (λ (s : Store). s.horizon) b ∙ sym is.horizon ∙ stays.horizon ∙ was.horizon ∙ ap (λ (s : Store). s.horizon) (sym a),
      );
      entries = (
        ap (λ (s : Store). s.entries) b ∙ sym is.entries ∙ same_in all_entries x core after refl may ∙ was.entries ∙ ap (λ (s : Store). s.entries) (sym a),
        ap (λ (s : Store). s.alerts) b ∙ sym is.alerts ∙ same_in (λ c. c.base.alerts ++ c.alerts) x core after refl may ∙ was.alerts ∙ ap (λ (s : Store). s.alerts) (sym a),
      );
      blocked = by (blocked_by x core after may);
      records = (omega (arith, more), omega (arith, more, few));
    }
  where
    by : (all_blocked after ≡ all_blocked core) ⊎ (all_blocked after ≡ all_blocked core ++ x ∷ []) → ((store_of image).blocked ≡ (store_of old).blocked) ⊎ ((store_of image).blocked ≡ (store_of old).blocked ++ x ∷ [])
    by (inl same) = inl (ap (λ (s : Store). s.blocked) (store_is image later reads_later) ∙ sym is.blocked ∙ same ∙ was.blocked ∙ ap (λ (s : Store). s.blocked) (sym (store_is old journal reads)))
    by (inr more) = inr (ap (λ (s : Store). s.blocked) (store_is image later reads_later) ∙ sym is.blocked ∙ more ∙ ap (λ (l : List Ltxid). l ++ x ∷ []) (was.blocked ∙ ap (λ (s : Store). s.blocked) (sym (store_is old journal reads))))
