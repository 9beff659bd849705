-- What a call does to the settings of its session: a `set` changes one, and no other call any.
use Rattle.std.proofs.Common.{◌≡◌, refl, sym, ap, ◌∙◌, ℕ, ◌&&◌, Bool, true, false, List, Option, Some, None, if◌then◌else◌}
use Rattle.std.specs.Bool.{Decides}
use Rattle.std.specs.Cmp.Lexicographic.{pointwise, pointwise_decides}
use Rattle.std.specs.Prelude.{nat_eq}
use Rattle.std.proofs.lemmas.Bool.{and_parts, and_from}
use Rattle.svc_values.specs.declared.call.Call.{Call}
use Rattle.svc_values.specs.declared.call.Call.TheVariants as call
use Rattle.svc_values.specs.declared.draw.Draw.{Draw}
use Rattle.svc_values.specs.declared.schema.Shape.{Shape}
use Rattle.svc_values.specs.declared.tables.PlainRow.{PlainRow}
use Rattle.svc_values.specs.declared.value.Value.{Value}
use Rattle.svc_values.specs.meaning.Same.{same_value}
use Rattle.svc_values.specs.SameLaws.{bytes_decide, same_value_decides}
use Rattle.svc_values.specs.meaning.SettingsList.{NamedValues, same_settings, with_set}
use Rattle.stmt_meaning.specs.meaning.Meaning.{AllDone, Meant, mean, statements_done, worked}
use Rattle.invariant_laws.specs.Same.{Ran, with_call}
use Rattle.world_model.proofs.Offered.{same_some}

-- settings that are compared as equal are the same
setting_decides : (a b : List ℕ × Value) → Decides (pointwise nat_eq a.0 b.0 && same_value a.1 b.1) (a ≡ b)
setting_decides a b = (to, from)
  where
    to : (pointwise nat_eq a.0 b.0 && same_value a.1 b.1) ≡ true → a ≡ b
    to is =
        let parts = and_parts (pointwise nat_eq a.0 b.0) (same_value a.1 b.1) is in
        ap (λ (name : List ℕ). (name, a.1)) ((bytes_decide a.0 b.0).0 parts.0) ∙ ap (λ (x : Value). (b.0, x)) ((same_value_decides a.1 b.1).0 parts.1)

    from : a ≡ b → (pointwise nat_eq a.0 b.0 && same_value a.1 b.1) ≡ true
    from same =
        and_from (pointwise nat_eq a.0 b.0) (same_value a.1 b.1) ((bytes_decide a.0 b.0).1 (ap (λ (one : List ℕ × Value). one.0) same)) ((same_value_decides a.1 b.1).1 (ap (λ (one : List ℕ × Value). one.1) same))

pub settings_decide : (a b : NamedValues) → Decides (same_settings a b) (a ≡ b)
settings_decide = pointwise_decides setting_decides

-- A CALL THAT MEANS SOMETHING ---------------------------------------------------------------------

one_of : (refused : Bool) (a b meant : Meant) (settings : NamedValues) → a.settings ≡ settings → b.settings ≡ settings → (if refused then Some a else Some b) ≡ Some meant → meant.settings ≡ settings
one_of true a b meant settings first second is = ap (λ (m : Meant). m.settings) (sym (same_some a meant is)) ∙ first
one_of false a b meant settings first second is = ap (λ (m : Meant). m.settings) (sym (same_some b meant is)) ∙ second

worked_settings : (tables : List PlainRow) (settings : NamedValues) (commit : Bool) (all : Option AllDone) (meant : Meant) → worked tables settings commit all ≡ Some meant → meant.settings ≡ settings
worked_settings tables settings commit None meant is = absurd (let never : ⊥ = cc in never)
worked_settings tables settings commit (Some done) meant is = one_of done.refused _ _ meant settings refl refl is

pub mean_settings : (shape : Shape) (tables : List PlainRow) (settings : NamedValues) (called : Call) (draws : List Draw) (meant : Meant) → mean shape tables settings called draws ≡ Some meant → meant.settings ≡ with_set settings called
mean_settings shape tables settings (call.Work statements commit) draws meant is = worked_settings tables settings commit (statements_done shape tables settings statements draws) meant is
mean_settings shape tables settings (call.Set name x) draws meant is = ap (λ (m : Meant). m.settings) (sym (same_some _ meant is))
mean_settings shape tables settings (call.Alter line) draws meant is = ap (λ (m : Meant). m.settings) (sym (same_some _ meant is))
mean_settings shape tables settings call.Disable draws meant is = ap (λ (m : Meant). m.settings) (sym (same_some _ meant is))
mean_settings shape tables settings call.Rollback draws meant is = ap (λ (m : Meant). m.settings) (sym (same_some _ meant is))

-- WHAT A SESSION DID ------------------------------------------------------------------------------

pub set_settings : (ran : Ran) (called : Call) → (with_call ran called).settings ≡ with_set ran.settings called
set_settings ran (call.Set name x) = refl
set_settings ran called = refl

-- nothing else of it
pub record IsBeside (ran : Ran) (called : Call) : Type 0 where
  pub at_start : (with_call ran called).at_start ≡ ran.at_start
  pub over : (with_call ran called).over ≡ ran.over
  pub starts : (with_call ran called).starts ≡ ran.starts

pub set_beside : (ran : Ran) (called : Call) → IsBeside ran called
set_beside ran (call.Set name x) = record { at_start = refl; over = refl; starts = refl }
set_beside ran called = record { at_start = refl; over = refl; starts = refl }
