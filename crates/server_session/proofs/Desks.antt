-- Draws at a desk that holds borrows.
use Rattle.std.proofs.Common.{◌≡◌, ◌≤◌, ◌+◌, inl, inr, ℕ, Bool, true, false, List, [], ◌∷◌, ◌++◌, refl, sym, ap, ◌∙◌, subst, arith, length-append}
use Rattle.std.proofs.lemmas.List.{length-map}
use Rattle.std.specs.Prelude.{IsTrue, IfOk, IfErr, OnOk, Option, Some, None, Result, Ok, Err}
use Rattle.std.specs.Option.{option_map}
use Rattle.disk_model.specs.Disk.{DiskState, Meanwhile}
use Rattle.svc_values.specs.declared.call.Call.TheVariants as call
use Rattle.svc_values.specs.declared.draw.Draw.{Draw}
use Rattle.svc_values.specs.declared.frame.Up.TheVariants as up
use Rattle.svc_values.specs.meaning.Calls.{sequences_in}
use Rattle.svc_values.specs.meaning.Draws.{is_of_kind}
use Rattle.svc_values.specs.meaning.Fitting.{writes_fit}
use Rattle.svc_values.specs.meaning.Tables.{with_writes}
use Rattle.commit_log.specs.Growth.{IsGrown}
use Rattle.commit_log.proofs.Offered.{grown_then}
use Rattle.mutable_values.specs.Sources.{names_of}
use Rattle.stmt_meaning.specs.declared.fault.TxnFault.{TxnFault}
use Rattle.stmt_meaning.specs.declared.fault.TxnFault.TheVariants as txn_fault
use Rattle.stmt_meaning.specs.Asked.{sequences_drawn}
use Rattle.stmt_meaning.specs.Drawing.{DrewAll, Ends, EndedBy, AreAsked, is_first}
use Rattle.stmt_meaning.specs.meaning.Meaning.{Meant}
use Rattle.stmt_meaning.proofs.Offered.{sequences-few}
use Rattle.table_txn.specs.declared.txn.Ran.{Ran}
use Rattle.table_txn.specs.Readings.{StayUnchanged}
use Rattle.table_txn.specs.Transactions.{Transaction, HasRun, shape_of, meaning}
use Rattle.server_session.specs.declared.desk.Desk.{Desk}
use Rattle.server_session.specs.Dealing.{IsPrepared, HasDealt, HasHaltedAt, HasLackedAt, reserving}
use Rattle.server_session.specs.Desks.{at_desk, SamePlaces, DrewAt}
use Rattle.server_session.specs.Running.{Ground, left_on, ended_as, HasRunOver, HasHaltedOver, RunsOver}
use Rattle.server_session.specs.Serving.{HasLacked}
use Rattle.server_session.proofs.Dealing.{dealt_none, dealt_then, drawn_more, kind_is}

same_at : {D : Type 0} (a b : Desk D) → b ≡ a → SamePlaces a b
same_at {D} a b e = subst (λ (d : Desk D). SamePlaces a d) (sym e) (record { source = refl; kept = refl; log = refl; disk = refl; tick = refl })

then_same : {D : Type 0} (a b c : Desk D) → SamePlaces a b → SamePlaces b c → SamePlaces a c
then_same a b c x y = record { source = x.source ∙ y.source; kept = x.kept ∙ y.kept; log = x.log ∙ y.log; disk = x.disk ∙ y.disk; tick = x.tick ∙ y.tick }

-- ---- how many values of sequences

front_few : (given more : List Draw) → sequences_drawn given ≤ sequences_drawn (given ++ more)
front_few [] more = omega arith
front_few (one ∷ given) more = omega (arith, front_few given more, drawn_more one given, drawn_more one (given ++ more))

pub with_meant : (result : Option Meant) → option_map (λ (m : Meant). m.rest) result ≡ Some [] → (meant : Meant) × ((result ≡ Some meant) × (meant.rest ≡ []))
with_meant None e = absurd (let clash : ◌≡◌ {A = Option (List Draw)} None (Some []) = e in cc)
with_meant (Some meant) e = (meant, (refl, (let same : ◌≡◌ {A = Option (List Draw)} (Some meant.rest) (Some []) = e in cc)))

pub given_few : (ground : Ground) (names : List (List ℕ)) (given more : List Draw) → AreAsked (left_on ground names) (given ++ more) → sequences_drawn given ≤ sequences_in (up.Call true [] (call.Work ground.statements true))
given_few ground names given more asked =
    let means = with_meant (meaning ground.tables names ground.settings ground.txn ground.statements (given ++ more)) asked in
    omega (
      arith,
      front_few given more,
      sequences-few (shape_of ground.tables names) (with_writes ground.tables.rows ground.txn.writes) ground.settings (call.Work ground.statements false) (given ++ more) means.0 means.1.0 means.1.1 true [],
    )

-- ---- at the desk

module _ (D : Type 0) (state : D → DiskState) where
  pub all_dealt : (draws : List Draw) (a b : Desk D) → IsPrepared a.source.now a.log.now (state a.disk.now) → DrewAll (DrewAt state) a draws b → SamePlaces a b × HasDealt a.tick (at_desk state a) draws (at_desk state b)
  all_dealt [] a b prepared drew = (same_at a b drew, subst (λ (d : Desk D). HasDealt a.tick (at_desk state a) [] (at_desk state d)) (sym drew) (dealt_none a.tick (at_desk state a) prepared))
  all_dealt (given ∷ more) a b prepared drew =
      let mid : Desk D = drew.0 in
      let places : SamePlaces a mid = drew.1.0.0 in
      let dealt : HasDealt a.tick (at_desk state a) (given ∷ []) (at_desk state mid) = drew.1.0.1 in
      let rest = all_dealt more mid b dealt.prepared drew.1.1 in (
        then_same a mid b places rest.0,
        dealt_then a.tick (at_desk state a) (at_desk state mid) (at_desk state b) given more dealt (subst (λ n. HasDealt n (at_desk state mid) more (at_desk state b)) (sym places.tick) rest.1),
      )

  -- the borrows after a run that was ended
  ended_places : (left : List Draw → Option (List Draw)) (given : List Draw) (a between b : Desk D) (fault : TxnFault) → IsPrepared a.source.now a.log.now (state a.disk.now) → DrewAll (DrewAt state) a given between
      → EndedBy (DrewAt state) left given between fault b → SamePlaces a b
  ended_places left given a between b txn_fault.Stopped prepared drew because = then_same a between b (all_dealt given a between prepared drew).0 because.1.0.0
  ended_places left given a between b txn_fault.NoMemory prepared drew (inl same) = then_same a between b (all_dealt given a between prepared drew).0 (same_at between b same)
  ended_places left given a between b txn_fault.NoMemory prepared drew (inr lacked) = then_same a between b (all_dealt given a between prepared drew).0 lacked.1.0.0

  -- there was no memory, in a draw or beside it
  lacked_by : (ground : Ground) (names : List (List ℕ)) (given more : List Draw) (a between b : Desk D) → IsPrepared a.source.now a.log.now (state a.disk.now) → DrewAll (DrewAt state) a given between
      → AreAsked (left_on ground names) (given ++ more) → EndedBy (DrewAt state) (left_on ground names) given between txn_fault.NoMemory b
      → HasLacked (1 + sequences_in (up.Call true [] (call.Work ground.statements true))) (state a.disk.now) (state b.disk.now)
  lacked_by ground names given more a between b prepared drew asked (inl same) =
      let dealt = (all_dealt given a between prepared drew).1 in
      record {
        records = reserving dealt.reservations;
        few = simp length-map (omega (arith, dealt.few, given_few ground names given more asked));
        moments = subst (λ (d : Desk D). Meanwhile (state a.disk.now) (state d.disk.now) (IsGrown (state a.disk.now).now.seen (reserving dealt.reservations))) (sym same) dealt.gained.moments;
        faults = ap (λ (d : Desk D). (state d.disk.now).faults) same ∙ dealt.gained.faults;
      }
  lacked_by ground names given more a between b prepared drew asked (inr lacked) =
      let dealt = (all_dealt given a between prepared drew).1 in
      let at : HasLackedAt (at_desk state between) (at_desk state b) = lacked.1.0.1 in
      record {
        records = reserving dealt.reservations ++ reserving at.reservations;
        few = simp (length-append, length-map) (omega (arith, dealt.few, at.few, given_few ground names given more asked));
        moments = grown_then (state a.disk.now) (state between.disk.now) (state b.disk.now) (state a.disk.now).now.seen (reserving dealt.reservations) (reserving at.reservations) dealt.gained.moments dealt.gained.added at.moments;
        faults = at.faults ∙ dealt.gained.faults;
      }

  -- the store was stopped in a draw
  halted_by : (ground : Ground) (names : List (List ℕ)) (given more : List Draw) (a between b : Desk D) → names ≡ names_of a.source.now.sequences → IsPrepared a.source.now a.log.now (state a.disk.now) → DrewAll (DrewAt state) a given between
      → AreAsked (left_on ground names) (given ++ more) → EndedBy (DrewAt state) (left_on ground names) given between txn_fault.Stopped b
      → HasHaltedOver a.tick ground (at_desk state a) (at_desk state b)
  halted_by ground names given more a between b same prepared drew asked because = by more asked
    where
      none_left : (rest : List Draw) → is_first because.0 rest ≡ false → AreAsked (left_on ground names) (given ++ rest) → ⊥
      none_left rest other all_asked =
          let nothing : left_on ground names (given ++ rest) ≡ None = because.1.1 rest other in
          let clash : ◌≡◌ {A = Option (List Draw)} None (Some []) = sym nothing ∙ all_asked in
          cc

      here : (next : Draw) (rest : List Draw) → is_of_kind because.0 next ≡ true → AreAsked (left_on ground names) (given ++ next ∷ rest) → HasHaltedOver a.tick ground (at_desk state a) (at_desk state b)
      here next rest of_kind all_asked =
          let all = all_dealt given a between prepared drew in
          let dealt = all.1 in
          let at : HasHaltedAt between.tick (at_desk state between) because.0 (at_desk state b) = because.1.0.1 dealt.prepared.ready.append.live in
          record {
            given = given;
            next = next;
            more = rest;
            between = at_desk state between;
            dealt = dealt;
            halted = subst (λ k. HasHaltedAt a.tick (at_desk state between) k (at_desk state b)) (sym (kind_is because.0 next of_kind))
                (subst (λ n. HasHaltedAt n (at_desk state between) because.0 (at_desk state b)) (sym all.0.tick) at);
            asks = subst (λ (n : List (List ℕ)). AreAsked (left_on ground n) (given ++ next ∷ rest)) same all_asked;
          }

      of : (next : Draw) (rest : List Draw) (t : Bool) → is_of_kind because.0 next ≡ t → AreAsked (left_on ground names) (given ++ next ∷ rest) → HasHaltedOver a.tick ground (at_desk state a) (at_desk state b)
      of next rest true e all_asked = here next rest e all_asked
      of next rest false e all_asked = absurd (none_left (next ∷ rest) e all_asked)

      by : (rest : List Draw) → AreAsked (left_on ground names) (given ++ rest) → HasHaltedOver a.tick ground (at_desk state a) (at_desk state b)
      by [] all_asked = absurd (none_left [] refl all_asked)
      by (next ∷ rest) all_asked = of next rest (is_of_kind because.0 next) refl all_asked

  pub places_after : (ground : Ground) (a b : Desk D) (fault : TxnFault) → IsPrepared a.source.now a.log.now (state a.disk.now) → Ends (DrewAt state) (left_on ground (names_of a.source.now.sequences)) a fault b → SamePlaces a b
  places_after ground a b fault prepared ends = ended_places (left_on ground (names_of a.source.now.sequences)) ends.given a ends.between b fault prepared ends.drew_all ends.because

  pub lacked_after : (ground : Ground) (a b : Desk D) → IsPrepared a.source.now a.log.now (state a.disk.now) → Ends (DrewAt state) (left_on ground (names_of a.source.now.sequences)) a txn_fault.NoMemory b
      → HasLacked (1 + sequences_in (up.Call true [] (call.Work ground.statements true))) (state a.disk.now) (state b.disk.now)
  lacked_after ground a b prepared ends = lacked_by ground (names_of a.source.now.sequences) ends.given ends.more a ends.between b prepared ends.drew_all ends.asked ends.because

  pub halted_after : (ground : Ground) (a b : Desk D) → IsPrepared a.source.now a.log.now (state a.disk.now) → Ends (DrewAt state) (left_on ground (names_of a.source.now.sequences)) a txn_fault.Stopped b
      → HasHaltedOver a.tick ground (at_desk state a) (at_desk state b)
  halted_after ground a b prepared ends = halted_by ground (names_of a.source.now.sequences) ends.given ends.more a ends.between b refl prepared ends.drew_all ends.asked ends.because

  -- ---- the statements ran, or were ended

  abbrev pub ran_to : (ground : Ground) (a b : Desk D) (txn : Transaction) → Result Ran TxnFault → Type 0
  ran_to ground a b txn result =
      IfOk result (λ ran. HasRun ground.tables (names_of a.source.now.sequences) ground.settings ground.txn ground.statements ran.answers ran.draws txn × DrewAll (DrewAt state) a ran.draws b)

  abbrev pub ended_at : (ground : Ground) (a b : Desk D) → Result Ran TxnFault → Type 0
  ended_at ground a b result = IfErr result (λ ended. Ends (DrewAt state) (left_on ground (names_of a.source.now.sequences)) a ended b)

  -- the borrows come back
  pub ran_places : (ground : Ground) (a b : Desk D) (txn : Transaction) (result : Result Ran TxnFault) → IsPrepared a.source.now a.log.now (state a.disk.now) → ran_to ground a b txn result → ended_at ground a b result → SamePlaces a b
  ran_places ground a b txn (Ok ran) prepared done ended = (all_dealt ran.draws a b prepared done.1).0
  ran_places ground a b txn (Err fault) prepared done ended = places_after ground a b fault prepared ended

  pub ran_over : (ground : Ground) (a b : Desk D) (txn : Transaction) (ran : Ran) → IsPrepared a.source.now a.log.now (state a.disk.now)
      → HasRun ground.tables (names_of a.source.now.sequences) ground.settings ground.txn ground.statements ran.answers ran.draws txn × DrewAll (DrewAt state) a ran.draws b → IsTrue (writes_fit ground.tables.schemas txn.writes)
      → StayUnchanged ground.tables.rows ground.txn.readings txn.readings → HasRunOver a.tick ground (at_desk state a) ran txn (at_desk state b)
  ran_over ground a b txn ran prepared done fits unchanged = record { dealt = (all_dealt ran.draws a b prepared done.1).1; run = done.0; fits = fits; unchanged = unchanged }

  -- what the run comes to, as the session tells it
  pub runs_over : (ground : Ground) (a b : Desk D) (txn : Transaction) (result : Result Ran TxnFault) → IsPrepared a.source.now a.log.now (state a.disk.now) → ran_to ground a b txn result → ended_at ground a b result
      → OnOk result (IsTrue (writes_fit ground.tables.schemas txn.writes)) → OnOk result (StayUnchanged ground.tables.rows ground.txn.readings txn.readings)
      → RunsOver a.tick ground (1 + sequences_in (up.Call true [] (call.Work ground.statements true))) (at_desk state a) (ended_as result) txn (at_desk state b)
  runs_over ground a b txn (Ok ran) prepared done ended fits unchanged = ran_over ground a b txn ran prepared done fits unchanged
  runs_over ground a b txn (Err txn_fault.NoMemory) prepared done ended fits unchanged = lacked_after ground a b prepared ended
  runs_over ground a b txn (Err txn_fault.Stopped) prepared done ended fits unchanged = halted_after ground a b prepared ended
