use Rattle.std.proofs.Common.{◌≡◌, ◌++◌, ◌∷◌, [], ℕ, List, sym, ap, ◌∙◌, append_assoc}
use Rattle.std.specs.List.{flat_map}
use Rattle.std.proofs.lemmas.List.{flat_map_more}
use Rattle.svc_values.specs.declared.value.Value.{Value}
use Rattle.canon_bytes.specs.meaning.TextBytes.{spell_bytes}
use Rattle.canon_bytes.specs.meaning.Values.{spell_value}
use Rattle.canon_bytes.specs.meaning.SettingsBytes.{spell_setting}
use Rattle.canon_bytes.specs.SettingsBytes.{FitsSetting}
use Rattle.canon_bytes.proofs.Loop.{AllByRecursion-push}
use Rattle.canon_bytes.proofs.settings.put_each.Goals as goal
use Rattle.svc_values.specs.meaning.SettingsList.{NamedValues}

written-push : (front : List ℕ) (done : NamedValues) (name : List ℕ) (value : Value) → ((front ++ flat_map spell_setting done) ++ spell_bytes name) ++ spell_value value ≡ front ++ flat_map spell_setting (done ++ (name, value) ∷ [])
written-push front done name value =
    append_assoc (front ++ flat_map spell_setting done) (spell_bytes name) (spell_value value)
    ∙ append_assoc front (flat_map spell_setting done) (spell_setting (name, value))
    ∙ ap (λ (r : List ℕ). front ++ r) (flat_map_more spell_setting [] done (name, value))

pub loop-name-preserved : goal.loop-name-preserved
loop-name-preserved c =
    let i = c.loop-name.invariant in
    let name = c.in-Some.name.now in
    let value = c.in-Some.value.now in
    let last : NamedValues = (name, value) ∷ [] in (
      i.0 ++ last,
      append_assoc i.0 last c.next.new.self ∙ ap (λ (r : NamedValues). i.0 ++ r) (sym c.in-Some.ensures.steps) ∙ i.1,
      c.in_ok-put-2.ensures.written ∙ ap (λ (o : List ℕ). o ++ spell_value value) (c.in_ok-put.ensures.written ∙ ap (λ (o : List ℕ). o ++ spell_bytes name) i.2) ∙ written-push c.args.out.now.items i.0 name value,
      AllByRecursion-push FitsSetting i.0 (name, value) i.3 (c.in_ok-put.ensures.fitting, c.in_ok-put-2.ensures.fitting),
      i.4,
    )
