-- An outcome that was asked for from outside.
use Rattle.std.proofs.Common.{◌≡◌, ◌∙◌, ◌+◌, ◌*◌, ◌<◌, ◌^◌, ℕ, false, refl, sym, ap, subst, List, [], ◌∷◌, ◌++◌, length, arith}
use Rattle.std.specs.Prelude.{Some, None, Result, IfOk}
use Rattle.disk_model.specs.Moment.{MayLeave}
use Rattle.disk_model.specs.Disk.{DiskState}
use Rattle.svc_values.specs.declared.entry.Ltxid.{Ltxid}
use Rattle.svc_values.specs.declared.frame.Down.{Down}
use Rattle.svc_values.specs.meaning.Identifiers.{ltxid_of}
use Rattle.ltxid_book.specs.declared.verdict.Verdict.{Verdict}
use Rattle.ltxid_book.specs.meaning.Outcomes.{verdict_of}
use Rattle.ltxid_book.specs.meaning.Sessions.{Sessions}
use Rattle.mutable_values.specs.declared.grants.Grants.{Grants}
use Rattle.mutable_values.specs.Sources.{Opening}
use Rattle.commit_log.specs.declared.journal.Journal.{Journal}
use Rattle.commit_log.specs.declared.records.Record.TheVariants as kept
use Rattle.commit_log.specs.Growth.{IsGrown}
use Rattle.server_model.specs.meaning.Base.{Base}
use Rattle.server_model.specs.Core.{Core as Plain}
use Rattle.server_model.specs.meaning.Outcomes.{Says, Stopped}
use Rattle.server_model.specs.Outcomes.{IsTold, Outcomes, down_of, if_blocks}
use Rattle.server_model.specs.Runs.{Happened, Asked, Then, AnswersAsk}
use Rattle.server_model.specs.Seen.{Seen}
use Rattle.server_model.specs.ServiceCalls.{AddsBlock, AskedOne, IsAnswer, StoppedAsk}
use Rattle.server_session.specs.declared.shared.Core.{Core}
use Rattle.server_session.specs.Fits.{Belongs}
use Rattle.server_session.specs.Plain.{IsStored, IsPlain}
use Rattle.server_session.specs.SeenSession.{begins}
use Rattle.server_session.specs.Storing.{HasStoppedTelling, HasTold}
use Rattle.server_session.proofs.Offered.{left_grown}
use Rattle.service_calls.specs.Kept.{HaveOneBase}
use Rattle.service_core.specs.declared.notes.Notes.{Notes}
use Rattle.service_core.specs.Held.{Held}
use Rattle.service_core.specs.Seeing.{Came, Leaves, StandsDown, StandsUp, called, store_of, state_of}
use Rattle.service_core.specs.Sound.{IsDown, IsUp, unmade}
use Rattle.service_core.proofs.Blocking.{adds_block, block_stays, same_in, told_blocks}
use Rattle.service_core.proofs.Faulty.{never_falls, none_before, rises, still_counted, still_none, still_none_by_less, still_room}
use Rattle.service_core.proofs.Gained.{added_grew, asked_between, book_stored, grew_base}
use Rattle.service_core.proofs.Standing.{later_call, seen_with}
use Rattle.service_core.proofs.Taken.{has_plain}
use Rattle.service_core.proofs.halts.AskFronts.{ask_adds, ask_base, ask_came, ask_reads}

module _ (grants : Grants) (disk end : DiskState) (core : Core) (held : Held) (notes : Notes) (x : Ltxid) (up : IsUp grants disk core held notes) where
  stored_before : (plain : Plain) → IsPlain plain core disk → IsStored plain up.fits.journal
  stored_before plain is = subst (λ (r : Result Journal ℕ). IfOk r (IsStored plain)) up.fits.reads is.stored

  -- ---- answered

  module _ (later : Core) (judged told : Verdict) (answer : IsAnswer told) (same : down_of told ≡ down_of judged) (asked : HasTold x judged core disk later end) where
    same_incarnation : later.source.incarnation ≡ core.source.incarnation
    same_incarnation =
        let beside = has_plain core disk up.fits in
        let steps = asked.steps beside.plain beside.stands in
        ap (λ (o : Opening). o.incarnation) (sym steps.1.opening) ∙ same_in (λ c. c.opening.incarnation) x beside.plain (if_blocks judged beside.plain x) refl (told_blocks judged beside.plain x) ∙ ap (λ (o : Opening). o.incarnation) beside.stands.opening

    same_grants : later.grants ≡ core.grants
    same_grants =
        let beside = has_plain core disk up.fits in
        let steps = asked.steps beside.plain beside.stands in
        sym steps.1.grants ∙ same_in (λ c. c.base.grants) x beside.plain (if_blocks judged beside.plain x) refl (told_blocks judged beside.plain x) ∙ beside.stands.grants

    pub asked_up : IsUp grants end later held (called notes)
    asked_up = record {
      fits = asked.fits;
      granted = same_grants ∙ up.granted;
      faults = still_room disk.faults end.faults notes (called notes) up.faults asked.gained.faults (omega arith) refl;
      settled = up.settled;
      room = omega (arith, up.room, same_incarnation);
      few = omega (arith, up.few);
      crashes = omega (arith, up.crashes);
      each = λ connection session at. let one = up.each connection session at in record { reads = one.reads; noted = one.noted; belongs = asked.belongs session one.belongs; lives = one.lives; numbered = one.numbered };
      counted = λ connection session at. later_call session.ltxid.number notes.calls (up.counted connection session at);
      unmade_belong = λ number above.
          subst (λ n. Belongs later (begins (ltxid_of (record { incarnation = n; session = number }) 0))) (sym same_incarnation) (asked.belongs (unmade core number) (up.unmade_belong number above));
      apart = up.apart;
    }

    pub asked_base : HaveOneBase disk.now.seen end.now.seen
    asked_base = grew_base disk.now.seen asked.records up.fits.journal end.now.seen up.fits.reads (added_grew disk.now.seen asked.records up.fits.journal end.now.seen up.fits.reads asked.gained.added)

    module _ (start : Base) (history : List Happened) (came : Came start history (StandsUp disk core held notes.sessions)) where
      after : Plain
      after = if_blocks judged came.server.core x

      outcomes : Outcomes came.server.core x after (Says (down_of told))
      unfolding after
      outcomes =
          subst (λ (f : Down). Outcomes came.server.core x (if_blocks judged came.server.core x) (Says f)) (sym same) (IsTold judged (asked.steps came.server.core came.stands.plain).0)

      plain_after : IsPlain after later end
      unfolding after
      plain_after = (asked.steps came.server.core came.stands.plain).1

      pub asked_came : Came start (history ++ Asked x (Says (down_of told)) ∷ []) (StandsUp end later held notes.sessions)
      unfolding after
      asked_came = record {
        server = record came.server { core = after };
        runs = Then history (Asked x (Says (down_of told)) ∷ []) came.server (record came.server { core = after }) came.runs (AnswersAsk x after (down_of told) came.stands.power outcomes);
        is_base = (block_stays x came.server.core after (told_blocks judged came.server.core x)).base ∙ came.is_base;
        stands = record { power = came.stands.power; plain = plain_after; count = came.stands.count; attends = came.stands.attends };
      }

      abbrev asked_before : Seen
      asked_before = seen_with start history (state_of disk (Some core) held notes)

      abbrev asked_behind : Seen
      asked_behind = seen_with start (history ++ Asked x (Says (down_of told)) ∷ []) (state_of end (Some later) held (called notes))

      pub asked_does : notes.is_spent ≡ false → AskedOne asked_before x told asked_behind
      unfolding after
      asked_does live = record {
        keeps = record {
          start = refl;
          is_opened = refl;
          is_quiet = asked.gained.quiet;
          per_record = refl;
          crashes = (refl, refl, refl);
          faults = omega (arith, asked.gained.faults);
          stop = λ none. still_none (4 * length asked.records) disk.stop end.stop asked.gained.stop none;
          calls = refl;
          is_spent = live;
        };
        verdict = answer;
        outcome = same ∙ ap down_of (sym (asked.steps came.server.core came.stands.plain).0) ∙ ap (λ (s : Sessions). down_of (verdict_of s x)) (book_stored came.server.core disk.now.seen up.fits.journal up.fits.reads (stored_before came.server.core came.stands.plain));
        history = refl;
        others = ((λ connection. refl), refl, refl, refl);
        adds =
            adds_block x came.server.core after (told_blocks judged came.server.core x) disk.now.seen end.now.seen asked.records up.fits.journal asked.fits.journal up.fits.reads asked.fits.reads (stored_before came.server.core came.stands.plain)
            (subst (λ (r : Result Journal ℕ). IfOk r (IsStored after)) asked.fits.reads plain_after.stored) asked.gained.added asked.few;
        blocks =
            asked_between came.server.core after disk.now.seen end.now.seen up.fits.journal asked.fits.journal up.fits.reads asked.fits.reads (stored_before came.server.core came.stands.plain)
            (subst (λ (r : Result Journal ℕ). IfOk r (IsStored after)) asked.fits.reads plain_after.stored) x (Says (down_of told)) (block_stays x came.server.core after (told_blocks judged came.server.core x)).base outcomes;
        cause = record { rose = λ stopped. absurd (let no : ⊥ = cc in no); quiet = λ quiet changed. absurd (changed asked.gained.faults) };
      }

  -- ---- stopped

  module _ (stopped : HasStoppedTelling x core disk end) (reads_now : MayLeave end.now end.now.seen) where
    abbrev pub halted_notes : Notes
    halted_notes = record notes { is_settled = false; calls = notes.calls + 1 }

    grown : (image : List ℕ) → MayLeave end.now image → IsGrown disk.now.seen (kept.Blocked x ∷ []) image
    grown image left = left_grown disk.now.seen [] (kept.Blocked x) image (stopped.halted.left image left)

    pub halted_down : IsDown end [] halted_notes
    halted_down = record {
      none = refl;
      base = up.fits.journal.base;
      leaves = λ image left. ask_reads grants disk core held notes x up (kept.Blocked x ∷ []) (omega arith) stopped.steps halted_notes (omega arith) image (grown image left);
      faults = still_counted disk.faults end.faults notes halted_notes up.faults stopped.halted.faults refl refl;
      crashes = omega (arith, up.crashes);
      reads_now = reads_now;
      settled = λ settled. absurd (let no : ⊥ = cc in no);
    }

    pub halted_base : HaveOneBase disk.now.seen end.now.seen
    halted_base = ask_base grants disk core held notes x up (kept.Blocked x ∷ []) (omega arith) stopped.steps end.now.seen (grown end.now.seen reads_now)

    module _ (start : Base) (history : List Happened) (came : Came start history (StandsUp disk core held notes.sessions)) where
      pub halted_came : (image : List ℕ) → MayLeave end.now image → Came start (history ++ Asked x Stopped ∷ []) (StandsDown grants false image)
      halted_came image left = ask_came grants disk core held notes x up (kept.Blocked x ∷ []) (omega arith) stopped.steps start history came image (grown image left)

      abbrev halted_before : Seen
      halted_before = seen_with start history (state_of disk (Some core) held notes)

      abbrev halted_behind : Seen
      halted_behind = seen_with start (history ++ Asked x Stopped ∷ []) (state_of end None [] halted_notes)

      adds_at : (image : List ℕ) → MayLeave end.now image → AddsBlock x (store_of disk.now.seen) (store_of image)
      adds_at image left = ask_adds grants disk core held notes x up (kept.Blocked x ∷ []) (omega arith) stopped.steps start history came image (grown image left)

      pub halted_does : notes.is_spent ≡ false → notes.calls < 2 ^ 48 → StoppedAsk halted_before x (Leaves end) halted_behind
      halted_does live few = record {
        keeps = record {
          start = refl;
          is_opened = refl;
          is_quiet = stopped.halted.quiet;
          per_record = refl;
          crashes = (refl, refl, refl);
          faults = never_falls disk.faults end.faults notes up.faults few stopped.halted.faults;
          stop = λ none. still_none_by_less 4 disk.stop end.stop stopped.halted.stop none;
          calls = refl;
          is_spent = live;
        };
        history = refl;
        others = ((λ connection. refl), refl, refl);
        adds = adds_at end.now.seen reads_now;
        left = λ store leaves. subst (AddsBlock x (store_of disk.now.seen)) (sym leaves.store_is) (adds_at leaves.image leaves.left);
        cause = record { rose = λ is. rises disk.faults end.faults notes up.faults few stopped.halted.faults; quiet = λ quiet changed. none_before 4 disk.stop end.stop stopped.halted.stop (stopped.halted.reached quiet) };
      }
