use Rattle.std.proofs.Common.{◌≡◌, Bor, Option, Some, None, option_map, refl, ap, ◌∙◌}
use Rattle.std.specs.Option.{is_some, option_copied}
use Rattle.serde_json.specs.View.{view}
use Rattle.serde_json.specs.declared.value.Value.{Value}
use Rattle.serde_json.proofs.Views.{view-lookup}
use Rattle.json_form.specs.meaning.Objects.{has}
use Rattle.json_form.proofs.object.Members.has.Goals as goal

is_some_copied : (r : Option (Bor Value)) → is_some r ≡ is_some (option_copied r)
is_some_copied None = refl
is_some_copied (Some x) = refl

is_some_viewed : (o : Option Value) → is_some o ≡ is_some (option_map view o)
is_some_viewed None = refl
is_some_viewed (Some v) = refl

pub returns : goal.returns
unfolding has
returns c =
    c.is_some.ensures ∙ is_some_copied c.get.result ∙ ap is_some c.get.ensures.value ∙ is_some_viewed _ ∙ ap is_some (view-lookup c.args.name.now c.args.self.now.map.entries)
