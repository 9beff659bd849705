use Rattle.std.proofs.Common.{◌≡◌, [], ◌∷◌, ◌++◌, ◌∙◌, refl, ℕ, List, ⊎_elim, sym, ap, subst}
use Rattle.disk_model.specs.Moment.{DiskMoment, MayLeave}
use Rattle.disk_model.specs.Disk.{DiskState, Meanwhile}
use Rattle.disk_model.specs.Log.{first_bytes, past_of, now_of}
use Rattle.disk_model.specs.InnerLog.{IsLog, with_sync}
use Rattle.disk_model.specs.declared.kept.KeptWrite.{KeptWrite}
use Rattle.disk_model.specs.Mem.{mem_state}
use Rattle.disk_model.proofs.Moments.{stays, one_more}
use Rattle.disk_model.proofs.Past.{log-with_sync, sync_settles, sync_moves}
use Rattle.disk_model.proofs.mem.MemDiskDisk.sync.Goals as goal

synced_time : (s t : DiskState) (log later : List KeptWrite) (bytes : List ℕ) → later ≡ with_sync log → s.past ≡ past_of (first_bytes log bytes) [] log bytes → s.now ≡ now_of log bytes → t.past ≡ past_of (first_bytes later bytes) [] later bytes → t.now ≡ now_of later bytes → Meanwhile s t (MayLeave t.now)
synced_time s t log later bytes e sp sn tp tn =
    ⊎_elim
    (λ moved. one_more s t (tp ∙ ap (λ (l : List KeptWrite). past_of (first_bytes l bytes) [] l bytes) e ∙ moved ∙ ap (λ (l : List DiskMoment). l ++ now_of log bytes ∷ []) (sym sp) ∙ ap (λ (m : DiskMoment). s.past ++ m ∷ []) (sym sn)))
    (λ still. let same : later ≡ log = e ∙ still in
    stays s t (MayLeave t.now) record {
      past = tp ∙ ap (λ (l : List KeptWrite). past_of (first_bytes l bytes) [] l bytes) same ∙ sym sp;
      now = tn ∙ ap (λ (l : List KeptWrite). now_of l bytes) same ∙ sym sn;
    })
    (sync_moves log bytes)

pub invariant_of-self-2 : goal.invariant_of-self-2
invariant_of-self-2 c =
    let d = c.args.self.now in
    record { small = d.small; fits = subst (λ (l : List KeptWrite). IsLog l d.bytes.items) (sym c.mark.ensures) (log-with_sync d.log.items d.bytes.items d.fits) }

pub returns-clause-durable : goal.returns-clause-durable
returns-clause-durable c image left =
    let d = c.args.self.now in
    sync_settles d.log.items d.bytes.items image (subst (λ (l : List KeptWrite). MayLeave (now_of l d.bytes.items) image) c.mark.ensures left)

pub returns-clause-time : goal.returns-clause-time
returns-clause-time c =
    let d = c.args.self.now in
    synced_time (mem_state d) _ d.log.items _ d.bytes.items c.mark.ensures refl refl refl refl
