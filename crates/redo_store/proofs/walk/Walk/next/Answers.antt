use Rattle.std.proofs.Common.{◌≡◌, ◌+◌, ◌<◌, ℕ, List, length, subst, Vec, Global, Some, Option}
use Rattle.std.specs.Prelude.{MatchOption}
use Rattle.redo_store.specs.Gate.{HasRecord, HasClosedGate}
use Rattle.redo_store.proofs.Walking.{record_within}
use Rattle.redo_store.proofs.walk.Walk.next.Goals as goal

behind_within : (gate : ℕ) (image : List ℕ) (found : Option (Vec ℕ Global × ℕ)) (payload : Vec ℕ Global) (behind : ℕ) → found ≡ Some (payload, behind)
    → MatchOption found (HasClosedGate gate image) (λ one. HasRecord gate one.0.items image × (one.1 ≡ gate + 9 + length one.0.items)) → behind < length image
behind_within gate image found payload behind is met =
    let there : HasRecord gate payload.items image × (behind ≡ gate + 9 + length payload.items) = subst (λ o. MatchOption o (HasClosedGate gate image) (λ one. HasRecord gate one.0.items image × (one.1 ≡ gate + 9 + length one.0.items))) is met in
    record_within gate behind payload.items image there.0 there.1

pub returns-clause-within : goal.returns-clause-within
returns-clause-within g c = behind_within c.args.self.now.place (g.D.Disk.state c.args.disk.now).now.seen c.in_ok-payload.field-0 c.in-Some.payload c.in-Some.behind c.in-Some.is c.in_ok-payload.ensures.found
