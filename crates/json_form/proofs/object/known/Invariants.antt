use Rattle.std.proofs.Common.{◌≡◌, map}
use Rattle.serde_json.specs.View.{members_view}
use Rattle.json_form.specs.meaning.Objects.{known}
use Rattle.json_form.proofs.object.known.Given as goal

abbrev pub invariant-loop-key : goal.invariant-loop-key
invariant-loop-key l =
    known (map (λ n. n.now) l.names) (members_view l.members.entries) ≡ known (map (λ n. n.now) l.names) (members_view l.key-iterator)
