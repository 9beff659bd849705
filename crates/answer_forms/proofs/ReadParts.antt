-- What settings and calls that were read keep to.
use Rattle.std.proofs.Common.{◌≡◌, ℕ, List, [], ◌∷◌, ◌++◌, true, Option, Some, None, Result, Ok, refl, sym, ap, ◌∙◌, decimal}
use Rattle.std.specs.List.{last_or}
use Rattle.std.specs.Map.{keys_of}
use Rattle.serde_json.specs.Data.{Data}
use Rattle.json_form.specs.declared.fault.DocCode.TheVariants.{Rule}
use Rattle.json_form.specs.declared.hexadecimal.Digits.TheVariants as digits
use Rattle.json_form.specs.meaning.Faults.{Fault, ◌>>=◌, here, within_item}
use Rattle.json_form.specs.meaning.Values.{items_of}
use Rattle.json_form.specs.meaning.Arrays.{Placed, each_after, fixed, part}
use Rattle.svc_values.specs.declared.call.Call.{Call}
use Rattle.svc_values.specs.declared.value.Value.{Value}
use Rattle.svc_values.specs.meaning.Calls.{is_made}
use Rattle.svc_values.specs.meaning.SettingsList.{NamedValues, rises, last_name}
use Rattle.call_forms.specs.meaning.Values.{name_of}
use Rattle.json_form.proofs.Offered.{after, ok_is, within_ok, passed, part_read, each_keeps, first_true, second_true, both_true}
use Rattle.call_forms.proofs.Offered.{call_read}
use Rattle.answer_forms.specs.meaning.Parts.{value_in, call_in, if_rising, setting_in, settings_in}
use Rattle.told_reports.specs.meaning.Settings.{names_rise}

names_push : (o : Option (List ℕ)) (before : NamedValues) (pair : List ℕ × Value) → names_rise o before ≡ true
    → rises (last_or o (keys_of before)) pair.0 ≡ true → names_rise o (before ++ pair ∷ []) ≡ true
names_push o [] pair rising behind = both_true (rises o pair.0) true behind refl
names_push o (e ∷ es) pair rising behind =
    both_true (rises o e.0) (names_rise (Some e.0) (es ++ pair ∷ [])) (first_true _ _ rising)
    (names_push (Some e.0) es pair (second_true _ _ rising) behind)

abbrev with_name : NamedValues → Placed → List ℕ → Result (List ℕ × Value) Fault
with_name before ds name =
    within_item 0 (if_rising before name) >>= λ _. part 1 value_in ds >>= λ x. Ok (name, x)

setting_read : (before : NamedValues) (d : Data) (pair : List ℕ × Value) → names_rise None before ≡ true
    → setting_in before d ≡ Ok pair → names_rise None (before ++ pair ∷ []) ≡ true
unfolding setting_in
setting_read before d pair rising h =
    let a = after (fixed 2 d) (λ ds. part 0 name_of ds >>= with_name before ds) pair h in
    let b = after (part 0 name_of a.0) (with_name before a.0) pair a.2 in
    let c = after (within_item 0 (if_rising before b.0)) (λ _. part 1 value_in a.0 >>= λ x. Ok (b.0, x)) pair b.2 in
    let e = after (part 1 value_in a.0) (λ x. Ok (b.0, x)) pair c.2 in
    let same = ok_is (b.0, e.0) pair e.2 in
    let behind = passed (rises (last_name before) b.0) (Ok tt) (here Rule) c.0 (within_ok (decimal 0) (if_rising before b.0) c.0 c.1) in
    names_push None before pair rising (ap (λ (p : List ℕ × Value). rises (last_name before) p.0) (sym same) ∙ behind.0)

pub settings_read : (d : Data) (settings : NamedValues) → settings_in d ≡ Ok settings → names_rise None settings ≡ true
settings_read d settings h =
    let a = after (items_of d) (each_after setting_in []) settings h in
    each_keeps (λ (ys : NamedValues). names_rise None ys ≡ true) setting_in setting_read [] a.0 settings refl a.2

-- a call that stands at a position can be made
pub call_at : (at : ℕ) (ds : Placed) (call : Call) → part at call_in ds ≡ Ok call → is_made call ≡ true
call_at at ds call h = let a = part_read at call_in ds call h in call_read digits.Lower a.0 call a.1
