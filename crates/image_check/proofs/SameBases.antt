-- Bases that are compared as one are one.
use Rattle.std.proofs.Common.{◌≡◌, true, refl, ap}
use Rattle.std.specs.Bool.{Decides}
use Rattle.std.specs.Cmp.Lexicographic.{pointwise_decides}
use Rattle.std.proofs.lemmas.Bool.Decides.{Decides-int_eq}
use Rattle.svc_values.specs.declared.value.Kind.{Kind}
use Rattle.svc_values.specs.declared.value.Kind.TheVariants as kind
use Rattle.svc_values.specs.declared.schema.Column.{Column}
use Rattle.svc_values.specs.meaning.Kinds.{same_kind}
use Rattle.svc_values.specs.SameLaws.{bytes_decide, same_value_decides, same_bool_decides, and_decides}
use Rattle.commit_log.specs.declared.base.Base.{Base}
use Rattle.commit_log.specs.declared.base.BaseTable.{BaseTable}
use Rattle.commit_log.specs.declared.base.BaseSequence.{BaseSequence}
use Rattle.run_clauses.specs.meaning.Comparing.{same_base, same_base_sequence, same_base_table, same_column}

kind_decides : (a b : Kind) → Decides (same_kind a b) (a ≡ b)
kind_decides kind.Int kind.Int = (λ h. refl, λ e. refl)
kind_decides kind.Text kind.Text = (λ h. refl, λ e. refl)
kind_decides kind.Bytes kind.Bytes = (λ h. refl, λ e. refl)
kind_decides a b = (λ h. cc, λ e. cc)

column_decides : (a b : Column) → Decides (same_column a b) (a ≡ b)
column_decides a b =
    let d = and_decides _ _ (bytes_decide a.name b.name) (kind_decides a.kind b.kind) in
    (λ h. (λ i. record { name = (d.0 h).0 i; kind = (d.0 h).1 i }), λ e. d.1 (ap (λ (c : Column). c.name) e, ap (λ (c : Column). c.kind) e))

table_decides : (a b : BaseTable) → Decides (same_base_table a b) (a ≡ b)
table_decides a b =
    let d = and_decides _ _ (bytes_decide a.schema.name b.schema.name) (and_decides _ _ (pointwise_decides column_decides a.schema.columns b.schema.columns) (pointwise_decides (pointwise_decides same_value_decides) a.rows b.rows)) in (
      λ h. (λ i. record { schema = record { name = (d.0 h).0 i; columns = (d.0 h).1.0 i }; rows = (d.0 h).1.1 i }),
      λ e. d.1 (ap (λ (t : BaseTable). t.schema.name) e, (ap (λ (t : BaseTable). t.schema.columns) e, ap (λ (t : BaseTable). t.rows) e)),
    )

sequence_decides : (a b : BaseSequence) → Decides (same_base_sequence a b) (a ≡ b)
sequence_decides a b =
    let d = and_decides _ _ (bytes_decide a.name b.name) (and_decides _ _ (Decides-int_eq a.start b.start) (same_bool_decides a.keep b.keep)) in (
      λ h. (λ i. record { name = (d.0 h).0 i; start = (d.0 h).1.0 i; keep = (d.0 h).1.1 i }),
      λ e. d.1 (ap (λ (s : BaseSequence). s.name) e, (ap (λ (s : BaseSequence). s.start) e, ap (λ (s : BaseSequence). s.keep) e)),
    )

base_decides : (a b : Base) → Decides (same_base a b) (a ≡ b)
base_decides a b =
    let d = and_decides _ _ (pointwise_decides table_decides a.tables b.tables) (pointwise_decides sequence_decides a.sequences b.sequences) in
    (λ h. (λ i. record { tables = (d.0 h).0 i; sequences = (d.0 h).1 i }), λ e. d.1 (ap (λ (o : Base). o.tables) e, ap (λ (o : Base). o.sequences) e))

pub one_base : (a b : Base) → same_base a b ≡ true → a ≡ b
one_base a b = (base_decides a b).0
