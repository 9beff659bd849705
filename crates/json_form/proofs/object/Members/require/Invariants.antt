use Rattle.std.proofs.Common.{◌≡◌, map, drop}
use Rattle.json_form.specs.Objects.{members_at}
use Rattle.json_form.specs.meaning.Objects.{all_there}
use Rattle.json_form.proofs.object.Members.require.Given as goal

abbrev pub invariant-loop-name : goal.invariant-loop-name
invariant-loop-name l =
    all_there (map (λ n. n.now) (drop l.name-index l.names)) (members_at l.self) ≡ all_there (map (λ n. n.now) l.names) (members_at l.self)
