use Rattle.std.proofs.Common.{◌≡◌, ◌++◌, ◌∷◌, [], ℕ, List, subst, arith, Vec, Global, Some, Option}
use Rattle.std.specs.Prelude.{MatchOption}
use Rattle.redo_store.specs.Gate.{HasRecord, HasClosedGate}
use Rattle.redo_store.specs.Walk.{StandsBehind}
use Rattle.redo_store.proofs.Walking.{walk_on}
use Rattle.redo_store.proofs.redo.Redo.record_at.Goals as goal

found_some : (place : ℕ) (image : List ℕ) (found : Option (Vec ℕ Global)) (payload : Vec ℕ Global) → found ≡ Some payload → MatchOption found (HasClosedGate place image) (λ v. HasRecord place v.items image) → HasRecord place payload.items image
found_some place image found payload is met = subst (λ o. MatchOption o (HasClosedGate place image) (λ v. HasRecord place v.items image)) is met

pub returns-clause-next : goal.returns-clause-next
returns-clause-next g c done stands =
    let seen = (g.D.Disk.state c.args.disk.now).now.seen in
    let payload = c.in-Some.payload in
    let there : HasRecord c.args.gate payload.items seen = found_some c.args.gate seen c.in_ok-payload.field-0 payload c.in-Some.is c.in_ok-payload.ensures.found in
    subst (λ k. StandsBehind k (done ++ payload.items ∷ []) seen) (omega (arith, c.len.ensures, payload.ok.0)) (walk_on seen c.args.gate done payload.items stands there)
