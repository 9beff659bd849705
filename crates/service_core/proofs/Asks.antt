-- What a service is seen as after an outcome that was asked for.
use Rattle.std.proofs.Common.{◌≡◌, ◌+◌, ◌<◌, ◌^◌, false, sym, subst, [], ◌∷◌, ◌++◌}
use Rattle.std.specs.Prelude.{Option, Some, None}
use Rattle.disk_model.specs.Moment.{MayLeave}
use Rattle.disk_model.specs.Disk.{DiskState}
use Rattle.svc_values.specs.declared.entry.Ltxid.{Ltxid}
use Rattle.ltxid_book.specs.declared.verdict.Verdict.{Verdict}
use Rattle.server_model.specs.meaning.Outcomes.{Says, Stopped}
use Rattle.server_model.specs.Outcomes.{down_of}
use Rattle.server_model.specs.Runs.{Asked}
use Rattle.server_model.specs.ServiceCalls.{AskedOne, IsAnswer, StoppedAsk}
use Rattle.server_session.specs.declared.shared.Core.{Core}
use Rattle.server_session.specs.Storing.{HasStoppedTelling, HasTold}
use Rattle.service_calls.specs.Kept.{Goes, HaveOneBase}
use Rattle.service_core.specs.Held.{Held}
use Rattle.service_core.specs.Seeing.{LeavesIn, SeesIn, Stands, called, state_of}
use Rattle.service_core.specs.Sound.{IsSound, IsSoundWithin, IsUp}
use Rattle.service_core.specs.Within.{Within}
use Rattle.service_core.proofs.Told.{asked_base, asked_came, asked_does, asked_up, halted_base, halted_came, halted_does, halted_down}
use Rattle.service_core.proofs.Standing.{goes_from, seen_with}

module _ (old : Within) (core : Core) (is_up : old.core ≡ Some core) (sound : IsSoundWithin old) (x : Ltxid) (end : DiskState) where
  up : IsUp old.grants old.disk core old.held old.notes
  up = subst (λ (c : Option Core). IsSound old.grants old.disk c old.held old.notes) is_up sound

  -- ---- answered

  module _ (later : Core) (judged told : Verdict) (answer : IsAnswer told) (same : down_of told ≡ down_of judged) (asked : HasTold x judged core old.disk later end) where
    abbrev pub with_asked : Within
    with_asked = record old { disk = end; core = Some later; notes = called old.notes }

    pub asks_soundly : IsSoundWithin with_asked
    asks_soundly = asked_up old.grants old.disk end core old.held old.notes x up later judged told answer same asked

    pub asks_on_base : HaveOneBase old.disk.now.seen end.now.seen
    asks_on_base = asked_base old.grants old.disk end core old.held old.notes x up later judged told answer same asked

    pub asks : old.notes.is_spent ≡ false → Goes (SeesIn old) (SeesIn with_asked) (λ before behind. AskedOne before x told behind)
    asks live =
        goes_from old with_asked (λ before behind. AskedOne before x told behind) live asks_soundly
        (λ start history stands.
        let came = subst (λ (c : Option Core). Stands old.grants old.disk c old.held old.notes start history) is_up stands in
        record {
          later = history ++ Asked x (Says (down_of told)) ∷ [];
          stands = asked_came old.grants old.disk end core old.held old.notes x up later judged told answer same asked start history came;
          does =
              subst (λ (c : Option Core). AskedOne (seen_with start history (state_of old.disk c old.held old.notes)) x told (seen_with start (history ++ Asked x (Says (down_of told)) ∷ []) (state_of end (Some later) old.held (called old.notes)))) (sym is_up)
              (asked_does old.grants old.disk end core old.held old.notes x up later judged told answer same asked start history came live);
        })

  -- ---- stopped

  module _ (stopped : HasStoppedTelling x core old.disk end) (reads_now : MayLeave end.now end.now.seen) (gone : Option Core) (gone_is : gone ≡ None) (empty : Held) (empty_is : empty ≡ []) where
    abbrev pub with_halted : Option Core → Held → Within
    with_halted none held = record { grants = old.grants; disk = end; core = none; held = held; notes = record old.notes { is_settled = false; calls = old.notes.calls + 1 } }

    of_both : (P : Within → Type 0) → P (with_halted None []) → P (with_halted gone empty)
    of_both P is = subst (λ (c : Option Core). P (with_halted c empty)) (sym gone_is) (subst (λ (h : Held). P (with_halted None h)) (sym empty_is) is)

    soundly : IsSoundWithin (with_halted None [])
    soundly = halted_down old.grants old.disk end core old.held old.notes x up stopped reads_now

    pub halts_soundly : IsSoundWithin (with_halted gone empty)
    halts_soundly = of_both IsSoundWithin soundly

    pub halts_on_base : HaveOneBase old.disk.now.seen end.now.seen
    halts_on_base = halted_base old.grants old.disk end core old.held old.notes x up stopped reads_now

    pub halts : old.notes.is_spent ≡ false → old.notes.calls < 2 ^ 48 → Goes (SeesIn old) (SeesIn (with_halted gone empty)) (λ before behind. StoppedAsk before x (LeavesIn (with_halted gone empty)) behind)
    halts live few =
        of_both (λ (w : Within). Goes (SeesIn old) (SeesIn w) (λ before behind. StoppedAsk before x (LeavesIn w) behind))
        (goes_from old (with_halted None []) (λ before behind. StoppedAsk before x (LeavesIn (with_halted None [])) behind) live soundly
        (λ start history stands.
        let came = subst (λ (c : Option Core). Stands old.grants old.disk c old.held old.notes start history) is_up stands in
        record {
          later = history ++ Asked x Stopped ∷ [];
          stands = halted_came old.grants old.disk end core old.held old.notes x up stopped reads_now start history came;
          does =
              subst (λ (c : Option Core). StoppedAsk (seen_with start history (state_of old.disk c old.held old.notes)) x (LeavesIn (with_halted None [])) (seen_with start (history ++ Asked x Stopped ∷ []) (state_of end None [] (with_halted None []).notes))) (sym is_up)
              (halted_does old.grants old.disk end core old.held old.notes x up stopped reads_now start history came live few);
        }))
