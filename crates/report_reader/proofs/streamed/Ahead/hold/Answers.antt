use Rattle.std.proofs.Common.{◌≡◌, string_bytes, ap, ◌∙◌, rules}
use Rattle.serde_json.specs.View.{view}
use Rattle.json_form.specs.Objects.{members_at, putting}
use Rattle.report_reader.proofs.OneByOne.{held_put}
use Rattle.report_reader.proofs.streamed.Ahead.hold.Goals as goal

pub returns-clause-read : goal.returns-clause-read
returns-clause-read c = λ print among.
    let v = view c.in_ok-value.value in
    let copied : string_bytes c.in_ok-key.key ≡ c.args.name.now = search rules in
    let put : members_at c.put.new.self ≡ putting (string_bytes c.in_ok-key.key) v (members_at c.args.self.now.others) = search rules in
    (v, c.in_ok-value.ensures.read, λ ms are. held_put print c.args.self.now c.put.new.self c.args.name.now v ms among (put ∙ ap (λ k. putting k v (members_at c.args.self.now.others)) copied) are)
