-- No frame of an opening stands behind one that was stopped, with more behind a history.
use Rattle.std.proofs.Common.{◌≡◌, ◌≤◌, ◌<◌, ℕ, Bool, true, false, List, [], ◌∷◌, ◌++◌, refl, subst, arith}
use Rattle.std.proofs.lemmas.Bool.{lt-ltb}
use Rattle.std.specs.Prelude.{◌&&◌, nat_lt}
use Rattle.server_model.specs.Base.{IsSound}
use Rattle.server_model.specs.meaning.Outcomes.{Silent, Says, Stopped}
use Rattle.server_model.specs.Runs.{Happened, Served, Asked, Power, On}
use Rattle.server_model.specs.Laws.{is_behind, stops_last, AreStoppedBefore}
use Rattle.server_model.specs.Seen.{Seen, IsHistory, HasPower}
use Rattle.server_model.proofs.Offered.{runs_stopped}

-- each frame is of this incarnation, or of a later one
abbrev pub AreFrom : ℕ → List Happened → Type 0
AreFrom incarnation [] = Unit {0}
AreFrom incarnation (Served session now frame told ∷ more) = (incarnation ≤ session.incarnation) × AreFrom incarnation more
AreFrom incarnation (Asked x told ∷ more) = AreFrom incarnation more

both : (a b : Bool) → (a && b) ≡ true → (a ≡ true) × (b ≡ true)
both true b e = (refl, e)
both false b e = absurd (let nothing : ⊥ = cc in nothing)

both_are : (a b : Bool) → a ≡ true → b ≡ true → (a && b) ≡ true
both_are a b p q = rw (p, q) refl

behind_all : (incarnation from : ℕ) (more : List Happened) → incarnation < from → AreFrom from more → is_behind incarnation more ≡ true
behind_all incarnation from [] below are = refl
behind_all incarnation from (Served session now frame told ∷ more) below are =
    let first = are.0 in
    let later : incarnation < session.incarnation = omega (arith, below, first) in
    both_are (nat_lt incarnation session.incarnation) (is_behind incarnation more) (lt-ltb incarnation session.incarnation later) (behind_all incarnation from more below are.1)
behind_all incarnation from (Asked x told ∷ more) below are = behind_all incarnation from more below are

behind_more : (incarnation from : ℕ) (history more : List Happened) → is_behind incarnation history ≡ true → incarnation < from → AreFrom from more → is_behind incarnation (history ++ more) ≡ true
behind_more incarnation from [] more behind below are = behind_all incarnation from more below are
behind_more incarnation from (Served session now frame told ∷ history) more behind below are =
    let parts = both (nat_lt incarnation session.incarnation) (is_behind incarnation history) behind in
    both_are (nat_lt incarnation session.incarnation) (is_behind incarnation (history ++ more)) parts.0 (behind_more incarnation from history more parts.1 below are)
behind_more incarnation from (Asked x told ∷ history) more behind below are = behind_more incarnation from history more behind below are

pub stops_more : (from : ℕ) (history more : List Happened) → stops_last history ≡ true → AreStoppedBefore from history → stops_last more ≡ true → AreFrom from more → stops_last (history ++ more) ≡ true
stops_more from [] more last stopped lasts are = lasts
stops_more from (Served session now frame Silent ∷ history) more last stopped lasts are = stops_more from history more last stopped lasts are
stops_more from (Served session now frame (Says told) ∷ history) more last stopped lasts are = stops_more from history more last stopped lasts are
stops_more from (Served session now frame Stopped ∷ history) more last stopped lasts are =
    let parts = both (stops_last history) (is_behind session.incarnation history) last in
    both_are (stops_last (history ++ more)) (is_behind session.incarnation (history ++ more)) (stops_more from history more parts.0 stopped.1 lasts are) (behind_more session.incarnation from history more parts.1 stopped.0 are)
stops_more from (Asked x told ∷ history) more last stopped lasts are = stops_more from history more last stopped lasts are

is_on : (is_up is_settled : Bool) (power : Power) → is_up ≡ true → HasPower is_up is_settled power → power ≡ On
is_on true is_settled power up has = has
is_on false is_settled power up has = absurd (let nothing : ⊥ = cc in nothing)

-- behind what a service that serves has served
pub stops_behind : (seen : Seen) (more : List Happened) → IsSound seen.start → IsHistory seen → seen.state.is_up ≡ true → stops_last seen.history ≡ true → stops_last more ≡ true → AreFrom seen.state.store.incarnation more
    → stops_last (seen.history ++ more) ≡ true
stops_behind seen more sound history up last lasts are =
    let on = is_on seen.state.is_up seen.state.is_settled history.server.power up history.power in
    let stopped = runs_stopped seen.start seen.history history.server sound history.runs on in
    stops_more history.server.core.opening.incarnation seen.history more last stopped lasts (subst (λ n. AreFrom n more) history.incarnation are)
