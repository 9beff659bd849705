-- What is known of a service holds of it behind each call.
use Rattle.std.proofs.Common.{◌≡◌, ◌⊎◌, ◌∙◌, ◌+◌, ◌≤◌, ℕ, Bool, true, false, List, refl, sym, ap, subst, arith}
use Rattle.std.proofs.lemmas.Bool.Decides.{nat_tests}
use Rattle.std.specs.Prelude.{Option, Some, None, is_some, not, if◌then◌else◌}
use Rattle.svc_values.specs.declared.answer.Answer.{Answer}
use Rattle.svc_values.specs.declared.call.Call.{Call}
use Rattle.svc_values.specs.declared.draw.Draw.{Draw}
use Rattle.svc_values.specs.declared.entry.Ltxid.{Ltxid}
use Rattle.svc_values.specs.declared.entry.SessionId.{SessionId}
use Rattle.svc_values.specs.declared.frame.Down.{Down}
use Rattle.svc_values.specs.declared.frame.Up.{Up}
use Rattle.ltxid_book.specs.declared.verdict.Verdict.{Verdict}
use Rattle.server_model.specs.meaning.Outcomes.{Says, Silent, Stopped, telling_of}
use Rattle.server_model.specs.Seen.{Connections, Store, ServiceState, Seen, IsNew, Keeps, none_living, with_connection, without_connection}
use Rattle.server_model.specs.ServiceCalls.{Connected, Reaped, ServedOne, Crashed, Opened, StoppedOpening, RanOutside, StoppedOutside, AskedOne, StoppedAsk, Looked, HasSoFar, Neither, Forgets, Both, ends_session, living_after, if_connected, with_stop}
use Rattle.service_calls.specs.Kept.{Goes}
use Rattle.service_tests.specs.Facts.{Facts, HasPlace, called, crashed, lives_at, none_called, opened, stopped, with_living, worked}
use Rattle.service_tests.specs.Knows.{Knows, Tells}
use Rattle.service_tests.proofs.Living.{has_place, lives_with, lives_without, lives_as_before}

-- ---- of the state

never : {A : Type 0} → false ≡ true → A
never e = absurd (let none : ⊥ = cc in none)

-- these connections live
abbrev Living : Facts → Seen → Type 0
Living facts seen = (connection : ℕ) → is_some (seen.state.living connection) ≡ lives_at facts connection

module _ (facts : Facts) (old new : Seen) (tells : Tells facts old.state) where
  module _ (keeps : Keeps old new) where
    called_tells : new.state.store ≡ old.state.store → new.state.is_settled ≡ old.state.is_settled → (first second : Bool) → Living (record facts { first = first; second = second }) new
        → Tells (record (called facts) { first = first; second = second }) new.state
    called_tells store settled first second living = record {
      live = keeps.is_spent;
      calls = keeps.calls ∙ ap (λ n. n + 1) tells.calls;
      settled = λ is. settled ∙ tells.settled is;
      opened = λ is. keeps.is_opened ∙ tells.opened is;
      incarnation = subst (λ (s : Store). facts.incarnation ≤ s.incarnation) (sym store) tells.incarnation;
      living = living;
    }

    worked_tells : new.state.store.incarnation ≡ old.state.store.incarnation → (first second : Bool) → Living (record facts { first = first; second = second }) new
        → Tells (record (worked facts) { first = first; second = second }) new.state
    worked_tells incarnation first second living = record {
      live = keeps.is_spent;
      calls = keeps.calls ∙ ap (λ n. n + 1) tells.calls;
      settled = never;
      opened = λ is. keeps.is_opened ∙ tells.opened is;
      incarnation = subst (λ n. facts.incarnation ≤ n) (sym incarnation) tells.incarnation;
      living = living;
    }

  -- a call that leaves none that lives
  none_lives : {living : Connections} → ((connection : ℕ) → living connection ≡ none_living connection) → (connection : ℕ) → is_some (living connection) ≡ lives_at (stopped facts) connection
  none_lives none connection = ap (λ (o : Option (Option SessionId)). is_some o) (none connection) ∙ grind (arith, nat_tests)

  pub connected_tells : (connection : ℕ) (up : Bool) → HasPlace connection → lives_at facts connection ≡ false → Connected old connection up new → Tells (with_living connection up (called facts)) new.state
  connected_tells connection up place none is = called_tells is.keeps is.keeps_store.store is.keeps_store.is_settled _ _ (λ other. ap (λ (o : Option (Option SessionId)). is_some o) (is.living other) ∙ lives up other)
    where
      lives : (up : Bool) (other : ℕ) → is_some (if_connected up connection old.state.living other) ≡ lives_at (with_living connection up facts) other
      lives true other = lives_with facts old.state.living tells.living connection None place other
      lives false other = lives_as_before facts old.state.living tells.living connection none other

  pub reaped_tells : (connection : ℕ) → Reaped old connection new → Tells (with_living connection false (called facts)) new.state
  reaped_tells connection is = called_tells is.keeps is.keeps_store.store is.keeps_store.is_settled _ _ (λ other. ap (λ (o : Option (Option SessionId)). is_some o) (is.living other) ∙ lives_without facts old.state.living tells.living connection other)

  pub looked_tells : Looked old new → Tells (called facts) new.state
  looked_tells is = called_tells is.keeps is.keeps_store.store is.keeps_store.is_settled _ _ (λ other. ap (λ (o : Option (Option SessionId)). is_some o) (is.living other) ∙ tells.living other)

  pub served_tells : (connection now : ℕ) (frame : Up) (told : Option Down) (leaves : Store → Type 0) → lives_at facts connection ≡ true → ServedOne old connection now frame (telling_of told) leaves new
      → Tells (with_living connection (not (ends_session frame (telling_of told))) (worked facts)) new.state
  served_tells connection now frame told leaves lives is =
      worked_tells is.keeps is.adds.gains.incarnation _ _ (λ other. ap (λ (o : Option (Option SessionId)). is_some o) (is.living other) ∙ after told other)
    where
      by_end : (ends : Bool) (other : ℕ) → is_some ((if ends then without_connection connection old.state.living else with_connection connection (Some is.session) old.state.living) other) ≡ lives_at (with_living connection (not ends) facts) other
      by_end true other = lives_without facts old.state.living tells.living connection other
      by_end false other = lives_with facts old.state.living tells.living connection (Some is.session) (has_place facts connection lives) other

      after : (told : Option Down) (other : ℕ) → is_some (living_after frame (telling_of told) connection is.session old.state.living other) ≡ lives_at (with_living connection (not (ends_session frame (telling_of told))) facts) other
      after None other = by_end (ends_session frame Silent) other
      after (Some down) other = by_end (ends_session frame (Says down)) other

  pub stopped_tells : (connection now : ℕ) (frame : Up) (leaves : Store → Type 0) → ServedOne old connection now frame Stopped leaves new → Tells (stopped facts) new.state
  stopped_tells connection now frame leaves is = worked_tells is.keeps is.adds.gains.incarnation _ _ (none_lives is.living)

  pub asked_tells : (x : Ltxid) (told : Verdict) → AskedOne old x told new → Tells (worked facts) new.state
  asked_tells x told is = worked_tells is.keeps is.adds.opening.0 _ _ (λ other. ap (λ (o : Option (Option SessionId)). is_some o) (is.others.0 other) ∙ tells.living other)

  pub stopped_ask_tells : (x : Ltxid) (leaves : Store → Type 0) → StoppedAsk old x leaves new → Tells (stopped facts) new.state
  stopped_ask_tells x leaves is = worked_tells is.keeps is.adds.opening.0 _ _ (none_lives is.others.0)

  pub ran_tells : (calls : List Call) (now : ℕ) (x : Ltxid) (runs : List (List Answer × List Draw)) → RanOutside old calls now x runs new → Tells (worked facts) new.state
  ran_tells calls now x runs is = worked_tells is.keeps is.gains.incarnation _ _ (λ other. ap (λ (o : Option (Option SessionId)). is_some o) (is.others.0 other) ∙ tells.living other)

  pub stopped_outside_tells : (leaves : Store → Type 0) → StoppedOutside old leaves new → Tells (stopped facts) new.state
  stopped_outside_tells leaves is = worked_tells is.keeps is.gains.incarnation _ _ (none_lives is.others.0)

  pub stop_tells : (stop : Option ℕ) → new ≡ with_stop old stop → Tells (called facts) new.state
  stop_tells stop is = subst (λ (s : Seen). Tells (called facts) s.state) (sym is) (record {
    live = tells.live;
    calls = ap (λ n. n + 1) tells.calls;
    settled = tells.settled;
    opened = tells.opened;
    incarnation = tells.incarnation;
    living = tells.living;
  })

  pub crashed_tells : (pick : ℕ) (may_change : Bool) → (may_change ≡ false → (old.state.is_up ≡ true) ⊎ (old.state.is_settled ≡ true)) → Crashed old pick new → Tells (crashed may_change facts) new.state
  crashed_tells pick may_change same is = record {
    live = is.is_spent;
    calls = is.calls ∙ ap (λ n. n + 1) tells.calls;
    settled = λ _. is.down.1;
    opened = never;
    incarnation = at_least may_change same;
    living = none_lives is.living;
  }
    where
      at_least : (may_change : Bool) → (may_change ≡ false → (old.state.is_up ≡ true) ⊎ (old.state.is_settled ≡ true)) → (if may_change then 0 else facts.incarnation) ≤ new.state.store.incarnation
      at_least true same = omega arith
      at_least false same = subst (λ (s : Store). facts.incarnation ≤ s.incarnation) (sym (is.store (same refl))) tells.incarnation

  pub opened_tells : (below incarnation : ℕ) → incarnation ≡ new.state.store.incarnation → Opened old below new → Tells (opened incarnation facts) new.state
  opened_tells below incarnation same is = record {
    live = is.keeps.is_spent;
    calls = is.keeps.calls ∙ ap (λ n. n + 1) tells.calls;
    settled = never;
    opened = λ _. is.is_up.1;
    incarnation = omega (arith, same);
    living = λ other. ap (λ (o : Option (Option SessionId)). is_some o) (is.keeps.living other) ∙ tells.living other;
  }

  pub stopped_opening_tells : (below : ℕ) (leaves : Store → Type 0) → StoppedOpening old below leaves new → Tells (worked facts) new.state
  stopped_opening_tells below leaves is = record {
    live = is.keeps.is_spent;
    calls = is.keeps.calls ∙ ap (λ n. n + 1) tells.calls;
    settled = never;
    opened = λ so. is.is_up.1 ∙ tells.opened so;
    incarnation = at_least is.so_far.so_far;
    living = λ other. ap (λ (o : Option (Option SessionId)). is_some o) (is.keeps.living other) ∙ tells.living other;
  }
    where
      at_least : HasSoFar old.state.store below new.state.store → facts.incarnation ≤ new.state.store.incarnation
      at_least (Neither same horizon) = omega (arith, same, tells.incarnation)
      at_least (Forgets same horizon) = omega (arith, same, tells.incarnation)
      at_least (Both more horizon) = omega (arith, more, tells.incarnation)

-- ---- and of what is seen

pub went : {facts : Facts} {state next : ServiceState} {Before After : Seen → Type 0} (behind : Facts) (Holds : Seen → Seen → Type 0)
    → ((seen : Seen) → Before seen → seen.state ≡ state) → ((seen : Seen) → After seen → seen.state ≡ next) → Knows facts state Before
    → Goes Before After Holds → ((old new : Seen) → Tells facts old.state → Holds old new → Tells behind new.state) → Knows behind next After
went {facts = facts} {state = state} {next = next} behind Holds is_before is_after knows goes tells =
    let behind_it = goes knows.seen knows.sees in
    record {
      tells = subst (λ s. Tells behind s) (is_after behind_it.0 behind_it.1.0) (tells knows.seen behind_it.0 (subst (λ s. Tells facts s) (sym (is_before knows.seen knows.sees)) knows.tells) behind_it.1.1);
      seen = behind_it.0;
      sees = behind_it.1.0;
    }

pub new_knows : {Sees : Seen → Type 0} (seen : Seen) → Sees seen → IsNew seen → Knows none_called seen.state Sees
new_knows seen sees is = record {
  tells = record {
    live = is.none.5;
    calls = is.none.4;
    settled = λ _. is.down.1;
    opened = never;
    incarnation = omega arith;
    living = λ connection. ap (λ (o : Option (Option SessionId)). is_some o) (is.none.0 connection) ∙ grind (arith, nat_tests);
  };
  seen = seen;
  sees = sees;
}
