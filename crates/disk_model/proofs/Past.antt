-- How the moments that a log stands for go on.
use Rattle.std.proofs.Common.{◌≡◌, ◌⊎◌, inl, inr, ⊎_elim, ℕ, ◌≤◌, Bool, true, false, List, [], ◌∷◌, ◌++◌, length, refl, sym, ◌∙◌, ap, subst, arith, append_assoc}
use Rattle.std.specs.Prelude.{if◌then◌else◌}
use Rattle.std.proofs.lemmas.Grind.{same_number_lists}
use Rattle.std.proofs.lemmas.Bool.{cases_Bool}
use Rattle.disk_model.specs.declared.kept.KeptWrite.{KeptWrite}
use Rattle.disk_model.specs.Moment.{DiskMoment, MayLeave, next_moment}
use Rattle.disk_model.specs.InnerKept.{torn_step}
use Rattle.disk_model.specs.Log.{bytes_before, first_bytes, synced_of, ranges_of, past_of, now_of}
use Rattle.disk_model.specs.InnerLog.{synced_write, with_sync, Covers, IsLog, Logged}

abbrev pub at_moment : List ℕ → List (ℕ × ℕ) → List ℕ → DiskMoment
at_moment synced ranges seen = record { seen = seen; synced = synced; written = ranges }

same_image : (bytes image : List ℕ) → MayLeave (at_moment bytes [] bytes) image → image ≡ bytes
same_image bytes image left =
    let long : length image ≡ length bytes = omega (arith, left.no_shorter, left.no_longer) in
    same_number_lists image bytes long (λ k lt. left.same k (omega (arith, lt, long)) (λ none. none))

pub ranges_push : (w : KeptWrite) → w.synced ≡ false → (log : List KeptWrite) (ranges : List (ℕ × ℕ)) → ranges_of ranges (log ++ w ∷ []) ≡ (w.at, w.len) ∷ ranges_of ranges log
ranges_push w pending [] ranges = rw pending refl
ranges_push w pending (x ∷ log) ranges = ranges_push w pending log (if x.synced then [] else (x.at, x.len) ∷ ranges)

module _ (w : KeptWrite) (old new : List ℕ) (undoes : bytes_before w new ≡ old) where
  pub first_bytes-push : (log : List KeptWrite) → first_bytes (log ++ w ∷ []) new ≡ first_bytes log old
  first_bytes-push [] = undoes
  first_bytes-push (x ∷ log) = ap (bytes_before x) (first_bytes-push log)

  module _ (pending : w.synced ≡ false) where
    pub synced_push : (log : List KeptWrite) (synced : List ℕ) → synced_of synced (log ++ w ∷ []) new ≡ synced_of synced log old
    synced_push [] synced = rw pending refl
    synced_push (x ∷ log) synced =
        synced_push log (if x.synced then first_bytes (log ++ w ∷ []) new else synced) ∙ ap (λ (b : List ℕ). synced_of (if x.synced then b else synced) log old) (first_bytes-push log)

    pub past_push : (log : List KeptWrite) (synced : List ℕ) (ranges : List (ℕ × ℕ)) → past_of synced ranges (log ++ w ∷ []) new ≡ past_of synced ranges log old ++ at_moment (synced_of synced log old) (ranges_of ranges log) old ∷ []
    past_push [] synced ranges = rw (pending, undoes) refl
    past_push (x ∷ log) synced ranges =
        let later : List (ℕ × ℕ) = if x.synced then [] else (x.at, x.len) ∷ ranges in
        let before : List ℕ → DiskMoment = λ b. at_moment synced ranges (bytes_before x b) in
        let between : List ℕ → List DiskMoment = λ b. if x.synced then at_moment synced ((x.at, x.len) ∷ ranges) b ∷ [] else [] in
        let here = first_bytes log old in
        let next = if x.synced then here else synced in
        ap (λ (b : List ℕ). before b ∷ (between b ++ past_of (if x.synced then b else synced) later (log ++ w ∷ []) new)) (first_bytes-push log)
        ∙ ap (λ (l : List DiskMoment). before here ∷ (between here ++ l)) (past_push log next later)
        ∙ ap (λ (l : List DiskMoment). before here ∷ l) (sym (append_assoc (between here) (past_of next later log old) (at_moment (synced_of next log old) (ranges_of later log) old ∷ [])))

  pub log_push : Covers w new → (log : List KeptWrite) → IsLog log old → IsLog (log ++ w ∷ []) new
  log_push covers [] fits = (covers, tt)
  log_push covers (x ∷ log) fits = (subst (Covers x) (sym (first_bytes-push log)) fits.0, log_push covers log fits.1)

-- one write more
module _ (at n : ℕ) (old new : List ℕ) (log later : List KeptWrite) (more : Logged at n old new log later) where
  pub now_is : now_of later new ≡ next_moment at n new (now_of log old)
  now_is =
      let w = more.entry in
      let synced = ap (λ (b : List ℕ). synced_of b (log ++ w ∷ []) new) (first_bytes-push w old new more.undoes log) ∙ synced_push w old new more.undoes more.pending log (first_bytes log old) in
      let ranges = ranges_push w more.pending log [] ∙ ap (λ a. (a, w.len) ∷ ranges_of [] log) more.offset ∙ ap (λ m. (at, m) ∷ ranges_of [] log) more.size in
      ap (λ (l : List KeptWrite). now_of l new) more.one_more ∙ ap (λ (s : List ℕ). at_moment s (ranges_of [] (log ++ w ∷ [])) new) synced ∙ ap (λ (r : List (ℕ × ℕ)). at_moment (synced_of (first_bytes log old) log old) r new) ranges

  pub past_is : past_of (first_bytes later new) [] later new ≡ past_of (first_bytes log old) [] log old ++ now_of log old ∷ []
  past_is =
      let w = more.entry in
      ap (λ (l : List KeptWrite). past_of (first_bytes l new) [] l new) more.one_more
      ∙ ap (λ (b : List ℕ). past_of b [] (log ++ w ∷ []) new) (first_bytes-push w old new more.undoes log)
      ∙ past_push w old new more.undoes more.pending log (first_bytes log old) []

  pub still_log : IsLog log old → IsLog later new
  still_log fits = subst (λ (l : List KeptWrite). IsLog l new) (sym more.one_more) (log_push more.entry old new more.undoes more.covers log fits)

-- a sync
same_synced_write : (w : KeptWrite) → w.synced ≡ true → synced_write w ≡ w
same_synced_write w e = ap (λ (b : Bool). record w { synced = b }) (sym e)

first_bytes-with_sync : (log : List KeptWrite) (bytes : List ℕ) → first_bytes (with_sync log) bytes ≡ first_bytes log bytes
first_bytes-with_sync [] bytes = refl
first_bytes-with_sync (w ∷ []) bytes = refl
first_bytes-with_sync (w ∷ x ∷ log) bytes = ap (bytes_before w) (first_bytes-with_sync (x ∷ log) bytes)

synced-with_sync : (synced : List ℕ) (w : KeptWrite) (log : List KeptWrite) (bytes : List ℕ) → synced_of synced (with_sync (w ∷ log)) bytes ≡ bytes
synced-with_sync synced w [] bytes = refl
synced-with_sync synced w (x ∷ log) bytes = synced-with_sync (if w.synced then first_bytes (with_sync (x ∷ log)) bytes else synced) x log bytes

ranges-with_sync : (ranges : List (ℕ × ℕ)) (w : KeptWrite) (log : List KeptWrite) → ranges_of ranges (with_sync (w ∷ log)) ≡ []
ranges-with_sync ranges w [] = refl
ranges-with_sync ranges w (x ∷ log) = ranges-with_sync (if w.synced then [] else (w.at, w.len) ∷ ranges) x log

covers_synced_write : (w : KeptWrite) (after : List ℕ) → Covers w after → Covers (synced_write w) after
covers_synced_write w after c = record { within = c.within; covered = c.covered; at_end = c.at_end }

pub log-with_sync : (log : List KeptWrite) (bytes : List ℕ) → IsLog log bytes → IsLog (with_sync log) bytes
log-with_sync [] bytes fits = tt
log-with_sync (w ∷ []) bytes fits = (covers_synced_write w bytes fits.0, tt)
log-with_sync (w ∷ x ∷ log) bytes fits = (subst (Covers w) (sym (first_bytes-with_sync (x ∷ log) bytes)) fits.0, log-with_sync (x ∷ log) bytes fits.1)

past-synced_write : (synced : List ℕ) (ranges : List (ℕ × ℕ)) (w : KeptWrite) (bytes : List ℕ) → w.synced ≡ false → past_of synced ranges (synced_write w ∷ []) bytes ≡ past_of synced ranges (w ∷ []) bytes ++ at_moment (synced_of synced (w ∷ []) bytes) (ranges_of ranges (w ∷ [])) bytes ∷ []
past-synced_write synced ranges w bytes pending = rw pending refl

past-with_sync : (synced : List ℕ) (ranges : List (ℕ × ℕ)) (w : KeptWrite) (log : List KeptWrite) (bytes : List ℕ) → (past_of synced ranges (with_sync (w ∷ log)) bytes ≡ past_of synced ranges (w ∷ log) bytes ++ at_moment (synced_of synced (w ∷ log) bytes) (ranges_of ranges (w ∷ log)) bytes ∷ []) ⊎ (with_sync (w ∷ log) ≡ w ∷ log)
past-with_sync synced ranges w [] bytes = ⊎_elim (λ e. inr (ap (λ (x : KeptWrite). x ∷ []) (same_synced_write w e))) (λ e. inl (past-synced_write synced ranges w bytes e)) (cases_Bool w.synced)
past-with_sync synced ranges w (x ∷ log) bytes =
    let later : List (ℕ × ℕ) = if w.synced then [] else (w.at, w.len) ∷ ranges in
    let before : List ℕ → DiskMoment = λ b. at_moment synced ranges (bytes_before w b) in
    let between : List ℕ → List DiskMoment = λ b. if w.synced then at_moment synced ((w.at, w.len) ∷ ranges) b ∷ [] else [] in
    let here = first_bytes (x ∷ log) bytes in
    let next = if w.synced then here else synced in
    ⊎_elim
    (λ e. inl (ap (λ (b : List ℕ). before b ∷ (between b ++ past_of (if w.synced then b else synced) later (with_sync (x ∷ log)) bytes)) (first_bytes-with_sync (x ∷ log) bytes)
    ∙ ap (λ (l : List DiskMoment). before here ∷ (between here ++ l)) e
    ∙ ap (λ (l : List DiskMoment). before here ∷ l) (sym (append_assoc (between here) (past_of next later (x ∷ log) bytes) (at_moment (synced_of next (x ∷ log) bytes) (ranges_of later (x ∷ log)) bytes ∷ [])))))
    (λ e. inr (ap (λ (l : List KeptWrite). w ∷ l) e))
    (past-with_sync next later x log bytes)

pub sync_settles : (log : List KeptWrite) (bytes image : List ℕ) → MayLeave (now_of (with_sync log) bytes) image → image ≡ bytes
sync_settles [] bytes image left = same_image bytes image left
sync_settles (w ∷ log) bytes image left =
    let synced = synced-with_sync (first_bytes (with_sync (w ∷ log)) bytes) w log bytes in
    let ranges = ranges-with_sync [] w log in
    same_image bytes image (subst (λ (s : List ℕ). MayLeave (at_moment s [] bytes) image) synced (subst (λ (r : List (ℕ × ℕ)). MayLeave (at_moment (synced_of (first_bytes (with_sync (w ∷ log)) bytes) (with_sync (w ∷ log)) bytes) r bytes) image) ranges left))

-- a sync adds a moment, or nothing was pending
pub sync_moves : (log : List KeptWrite) (bytes : List ℕ) → (past_of (first_bytes (with_sync log) bytes) [] (with_sync log) bytes ≡ past_of (first_bytes log bytes) [] log bytes ++ now_of log bytes ∷ []) ⊎ (with_sync log ≡ log)
sync_moves [] bytes = inr refl
sync_moves (w ∷ log) bytes =
    ⊎_elim
    (λ e. inl (ap (λ (b : List ℕ). past_of b [] (with_sync (w ∷ log)) bytes) (first_bytes-with_sync (w ∷ log) bytes) ∙ e))
    (λ e. inr e)
    (past-with_sync (first_bytes (w ∷ log) bytes) [] w log bytes)

-- the last write of a log, taken off
pub log_snoc : (w : KeptWrite) (bytes : List ℕ) (log : List KeptWrite) → IsLog (log ++ w ∷ []) bytes → Covers w bytes × IsLog log (bytes_before w bytes)
log_snoc w bytes [] fits = (fits.0, tt)
log_snoc w bytes (x ∷ log) fits =
    let rest = log_snoc w bytes log fits.1 in
    (rest.0, (subst (Covers x) (first_bytes-push w (bytes_before w bytes) bytes refl log) fits.0, rest.1))

pub synced_snoc : (w : KeptWrite) (bytes : List ℕ) → w.synced ≡ true → (log : List KeptWrite) (synced : List ℕ) → synced_of synced (log ++ w ∷ []) bytes ≡ bytes
synced_snoc w bytes e [] synced = rw e refl
synced_snoc w bytes e (x ∷ log) synced = synced_snoc w bytes e log (if x.synced then first_bytes (log ++ w ∷ []) bytes else synced)

pub ranges_snoc : (w : KeptWrite) → w.synced ≡ true → (log : List KeptWrite) (ranges : List (ℕ × ℕ)) → ranges_of ranges (log ++ w ∷ []) ≡ []
ranges_snoc w e [] ranges = rw e refl
ranges_snoc w e (x ∷ log) ranges = ranges_snoc w e log (if x.synced then [] else (x.at, x.len) ∷ ranges)

-- a walk back over a log: the bytes before the writes that were taken off it
pub record Unwound (first_log : List KeptWrite) (first : List ℕ) (log : List KeptWrite) : Type 0 where
  pub after : List ℕ
  pub same_first : first_bytes log after ≡ first_bytes first_log first
  pub same_synced : synced_of (first_bytes first_log first) log after ≡ synced_of (first_bytes first_log first) first_log first
  pub fits : IsLog log after
  pub shorter : length after ≤ length first

unfoldable pub unwound_start : (log : List KeptWrite) (bytes : List ℕ) → IsLog log bytes → Unwound log bytes log
unwound_start log bytes fits = record { after = bytes; same_first = refl; same_synced = refl; fits = fits; shorter = omega arith }

-- one write more is taken off
unfoldable pub unwind : (first_log : List KeptWrite) (first : List ℕ) (was log : List KeptWrite) (w : KeptWrite) → was ≡ log ++ w ∷ [] → w.synced ≡ false → (u : Unwound first_log first was) → Covers w u.after × Unwound first_log first log
unwind first_log first was log w e pending u =
    let split = log_snoc w u.after log (subst (λ (l : List KeptWrite). IsLog l u.after) e u.fits) in (
      split.0,
      record {
        after = bytes_before w u.after;
        same_first = sym (first_bytes-push w (bytes_before w u.after) u.after refl log) ∙ ap (λ (l : List KeptWrite). first_bytes l u.after) (sym e) ∙ u.same_first;
        same_synced = sym (synced_push w (bytes_before w u.after) u.after refl pending log (first_bytes first_log first)) ∙ ap (λ (l : List KeptWrite). synced_of (first_bytes first_log first) l u.after) (sym e) ∙ u.same_synced;
        fits = split.1;
        shorter = omega (arith, u.shorter, (torn_step w u.after split.0).no_shorter);
      },
    )

-- where it stops, it has come to the last sync
pub unwound_end : (first_log : List KeptWrite) (first : List ℕ) (was log : List KeptWrite) (w : KeptWrite) → was ≡ log ++ w ∷ [] → w.synced ≡ true → (u : Unwound first_log first was) → u.after ≡ (now_of first_log first).synced
unwound_end first_log first was log w is e u =
    sym (synced_snoc w u.after e log (first_bytes first_log first)) ∙ ap (λ (l : List KeptWrite). synced_of (first_bytes first_log first) l u.after) (sym is) ∙ u.same_synced

pub unwound_all : (first_log : List KeptWrite) (first : List ℕ) (u : Unwound first_log first []) → u.after ≡ (now_of first_log first).synced
unwound_all first_log first u = u.same_first ∙ u.same_synced
