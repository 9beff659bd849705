-- What a service is seen as after calls from outside that were stopped.
use Rattle.std.proofs.Common.{◌≡◌, ◌∙◌, ◌+◌, ◌*◌, ◌<◌, ◌^◌, ℕ, false, refl, sym, ap, subst, List, [], ◌∷◌, ◌++◌, length, append_assoc, arith}
use Rattle.std.proofs.lemmas.List.Elements.{All-append, All-cons, All-nil}
use Rattle.std.specs.Prelude.{Some, None, All}
use Rattle.disk_model.specs.Moment.{MayLeave}
use Rattle.disk_model.specs.Disk.{DiskState, with_fault}
use Rattle.svc_values.specs.declared.entry.SessionId.{SessionId}
use Rattle.svc_values.specs.meaning.Identifiers.{session_of}
use Rattle.mutable_values.specs.declared.grants.Grants.{Grants}
use Rattle.server_model.specs.meaning.Base.{Base}
use Rattle.server_model.specs.meaning.Outcomes.{Stopped}
use Rattle.server_model.specs.Runs.{Happened, Served}
use Rattle.server_model.specs.Seen.{Seen}
use Rattle.server_model.specs.ServiceCalls.{Gains, IsOf, StoppedOutside, next_session as next_id}
use Rattle.server_session.specs.declared.shared.Core.{Core}
use Rattle.service_calls.specs.Kept.{HaveOneBase}
use Rattle.service_core.specs.declared.notes.Notes.{Notes}
use Rattle.service_core.specs.Held.{Held}
use Rattle.service_core.specs.Seeing.{Came, Leaves, StandsDown, StandsUp, state_of, store_of}
use Rattle.service_core.specs.Sound.{IsDown, IsUp}
use Rattle.service_core.specs.Through.{HasHaltedFrom, HasHaltedIn, Item, begun_items, happened_in}
use Rattle.service_core.proofs.Answered.{Went, went, went_on}
use Rattle.service_core.proofs.Beside.{Follows, IsBeside, gains_on, through_beside, through_follows}
use Rattle.service_core.proofs.Faulty.{never_falls, none_before, rises, still_counted, still_none_by_less}
use Rattle.service_core.proofs.Gained.{grew_base}
use Rattle.service_core.proofs.Standing.{seen_with}
use Rattle.service_core.proofs.halts.Stopping.{stopped_adds_at, stopped_base, stopped_came, stopped_down}
use Rattle.service_core.proofs.Taken.{IsReady, next_ready}
use Rattle.service_core.proofs.Went.{made_beside, made_id, made_is_next, made_notes, made_session, one_base_on, through_grew}

-- what one session was served is its own
own_one : (session : SessionId) (happened : Happened) → IsOf session happened → All (IsOf session) (happened ∷ [])
own_one session happened own = All-cons (IsOf session) happened [] own (All-nil (IsOf session))

pub own_all : (session id : SessionId) (now : ℕ) (items : List Item) → id ≡ session → All (IsOf session) (happened_in id now items)
own_all session id now [] same = All-nil (IsOf session)
own_all session id now (one ∷ items) same = All-cons (IsOf session) (Served id now one.frame one.told) (happened_in id now items) same (own_all session id now items same)

module _ (grants : Grants) (now : ℕ) (core : Core) (disk end : DiskState) (held : Held) (notes : Notes) (up : IsUp grants disk core held notes) (halted : HasHaltedFrom now (made_session core notes) core disk end) (reads_now : MayLeave end.now end.now.seen) where
  abbrev pub halted_notes : Notes
  halted_notes = record notes { is_settled = false; sessions = notes.sessions + 1; calls = notes.calls + 1 }

  abbrev last : HasHaltedIn now halted.mid halted.between halted.at end
  last = halted.halted

  beside_begun : IsBeside grants halted.at halted.between held (made_notes notes) halted.mid
  beside_begun = through_beside grants now (made_session core notes) core disk held (made_notes notes) (made_beside grants disk core held notes up) _ halted.mid halted.between halted.at halted.begun.through

  beside_last : IsBeside grants last.at last.between held (made_notes notes) last.mid
  beside_last = through_beside grants now halted.mid halted.between halted.at held (made_notes notes) beside_begun last.items last.mid last.between last.at last.through

  went_all : Went disk last.at
  went_all =
      went_on disk halted.at last.at (went now (made_session core notes) core disk _ halted.mid halted.between halted.at halted.begun.through)
      (went now halted.mid halted.between halted.at last.items last.mid last.between last.at last.through)

  one_fault : end.faults ≡ with_fault disk.faults
  one_fault = last.stopped.halted.faults ∙ ap with_fault went_all.faults

  pub halted_down : IsDown end [] halted_notes
  halted_down =
      stopped_down grants last.at end last.between held (made_notes notes) now last.frame last.mid beside_last.going.reads beside_last.going.noted beside_last.up last.stopped reads_now halted_notes (omega arith) refl refl
      (still_counted disk.faults end.faults notes halted_notes up.faults one_fault refl refl)

  pub halted_base : HaveOneBase disk.now.seen end.now.seen
  halted_base =
      let first = through_grew now (made_session core notes) core disk up.fits.journal _ halted.mid halted.between halted.at up.fits.reads halted.begun.through in
      let next = through_grew now halted.mid halted.between halted.at first.later last.items last.mid last.between last.at first.reads last.through in
      one_base_on disk.now.seen last.at.now.seen end.now.seen next.later next.reads
      (grew_base disk.now.seen [] up.fits.journal last.at.now.seen up.fits.reads (record { later = next.later; reads = next.reads; base_is = next.base_is ∙ first.base_is }))
      (stopped_base grants last.at end last.between held (made_notes notes) now last.frame last.mid beside_last.going.reads beside_last.going.noted beside_last.up last.stopped reads_now)

  module _ (start : Base) (history : List Happened) (came : Came start history (StandsUp disk core held notes.sessions)) where
    abbrev begun : List Happened
    begun = happened_in (made_id core notes) now (begun_items (made_session core notes).ltxid)

    abbrev answered : List Happened
    answered = happened_in (session_of halted.mid.ltxid) now last.items

    abbrev stopped_in : List Happened
    stopped_in = Served (session_of last.mid.ltxid) now last.frame Stopped ∷ []

    abbrev pub halted_in : List Happened
    halted_in = (begun ++ answered) ++ stopped_in

    ready : Came start history (IsReady disk core held (notes.sessions + 1) (made_session core notes))
    ready = next_ready disk core held held notes.sessions start history (λ connection session at. at) came

    first : Follows start history begun disk halted.between halted.at held (notes.sessions + 1) halted.mid (made_id core notes)
    first = through_follows grants now (made_session core notes) core disk held (made_notes notes) (made_beside grants disk core held notes up) start history (notes.sessions + 1) ready _ halted.mid halted.between halted.at halted.begun.through

    second : Follows start (history ++ begun) answered halted.at last.between last.at held (notes.sessions + 1) last.mid (session_of halted.mid.ltxid)
    second = through_follows grants now halted.mid halted.between halted.at held (made_notes notes) beside_begun start (history ++ begun) (notes.sessions + 1) first.came last.items last.mid last.between last.at last.through

    in_order : ((history ++ begun) ++ answered) ++ stopped_in ≡ history ++ halted_in
    in_order = ap (λ (l : List Happened). l ++ stopped_in) (append_assoc history begun answered) ∙ append_assoc history (begun ++ answered) stopped_in

    pub halted_came : (image : List ℕ) → MayLeave end.now image → Came start (history ++ halted_in) (StandsDown grants false image)
    halted_came image left =
        subst (λ (l : List Happened). Came start l (StandsDown grants false image)) in_order
        (stopped_came grants last.at end last.between held (made_notes notes) now last.frame last.mid beside_last.going.reads beside_last.going.noted beside_last.up last.stopped reads_now held (notes.sessions + 1) start ((history ++ begun) ++ answered) second.came image left)

    -- ---- what is done

    abbrev before : Seen
    before = seen_with start history (state_of disk (Some core) held notes)

    abbrev behind : Seen
    behind = seen_with start (history ++ halted_in) (state_of end None [] halted_notes)

    is_next : made_id core notes ≡ next_id before
    is_next = made_is_next grants disk core held notes start history up

    gains_at : (image : List ℕ) → MayLeave end.now image → Gains halted_in (store_of disk.now.seen) (store_of image)
    gains_at image left =
        gains_on (begun ++ answered) stopped_in (store_of disk.now.seen) (store_of last.at.now.seen) (store_of image)
        (gains_on begun answered (store_of disk.now.seen) (store_of halted.at.now.seen) (store_of last.at.now.seen) first.gains second.gains)
        (stopped_adds_at grants last.at end last.between held (made_notes notes) now last.frame last.mid beside_last.going.reads beside_last.going.noted beside_last.up last.stopped reads_now held (notes.sessions + 1) start ((history ++ begun) ++ answered) second.came image left).gains

    own : All (IsOf (next_id before)) halted_in
    own =
        let mid : session_of halted.mid.ltxid ≡ next_id before = halted.begun.session ∙ is_next in
        All-append (IsOf (next_id before)) (begun ++ answered) stopped_in
        (All-append (IsOf (next_id before)) begun answered (own_all (next_id before) (made_id core notes) now (begun_items (made_session core notes).ltxid) is_next) (own_all (next_id before) (session_of halted.mid.ltxid) now last.items mid))
        (own_one (next_id before) (Served (session_of last.mid.ltxid) now last.frame Stopped) (second.same ∙ mid))

    pub halted_does : notes.is_spent ≡ false → notes.calls < 2 ^ 48 → StoppedOutside before (Leaves end) behind
    halted_does live few = record {
      keeps = record {
        start = refl;
        is_opened = refl;
        is_quiet = last.stopped.halted.quiet ∙ went_all.quiet;
        per_record = refl;
        crashes = (refl, refl, refl);
        faults = never_falls disk.faults end.faults notes up.faults few one_fault;
        stop = λ none. still_none_by_less (4 * length last.stopped.records + 4) last.at.stop end.stop last.stopped.halted.stop (went_all.stop none);
        calls = refl;
        is_spent = live;
      };
      more = halted_in;
      served = own;
      history = refl;
      others = ((λ connection. refl), refl, refl);
      gains = gains_at end.now.seen reads_now;
      left = λ store leaves. subst (Gains halted_in (store_of disk.now.seen)) (sym leaves.store_is) (gains_at leaves.image leaves.left);
      cause = record {
        rose = λ is. rises disk.faults end.faults notes up.faults few one_fault;
        quiet = λ quiet changed none. none_before (4 * length last.stopped.records + 4) last.at.stop end.stop last.stopped.halted.stop (last.stopped.halted.reached (went_all.quiet ∙ quiet)) (went_all.stop none);
      };
    }
