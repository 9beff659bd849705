-- When two entries or bases are the same one, as far as a report prints them.
use Rattle.std.specs.Prelude.{◌&&◌, Bool, List}
use Rattle.std.specs.Ordering.{int_eq}
use Rattle.std.specs.Str.{bytes_eq}
use Rattle.std.specs.Cmp.Lexicographic.{pointwise}
use Rattle.svc_values.specs.declared.value.Value.{Value}
use Rattle.svc_values.specs.declared.schema.Column.{Column}
use Rattle.svc_values.specs.declared.entry.Entry.{Entry}
use Rattle.svc_values.specs.meaning.Kinds.{same_kind}
use Rattle.svc_values.specs.meaning.Identifiers.{same_ltxid}
use Rattle.svc_values.specs.meaning.Same.{same_value, same_bool, same_piece}
use Rattle.svc_values.specs.meaning.SettingsList.{same_settings}
use Rattle.commit_log.specs.declared.base.Base.{Base}
use Rattle.commit_log.specs.declared.base.BaseTable.{BaseTable}
use Rattle.commit_log.specs.declared.base.BaseSequence.{BaseSequence}

-- the same entry, its writes apart: a report does not print them
abbrev pub same_entry : Entry → Entry → Bool
same_entry a b = same_ltxid a.ltxid b.ltxid
    && (same_bool a.completed b.completed
    && (same_settings a.settings b.settings && pointwise same_piece a.pieces b.pieces))

abbrev pub same_printed_rows : List (List Value) → List (List Value) → Bool
same_printed_rows = pointwise (pointwise same_value)

abbrev pub same_column : Column → Column → Bool
same_column a b = bytes_eq a.name b.name && same_kind a.kind b.kind

abbrev pub same_base_table : BaseTable → BaseTable → Bool
same_base_table a b = bytes_eq a.schema.name b.schema.name
    && (pointwise same_column a.schema.columns b.schema.columns && same_printed_rows a.rows b.rows)

abbrev pub same_base_sequence : BaseSequence → BaseSequence → Bool
same_base_sequence a b = bytes_eq a.name b.name
    && (int_eq a.start b.start && same_bool a.keep b.keep)

abbrev pub same_base : Base → Base → Bool
same_base a b = pointwise same_base_table a.tables b.tables
    && pointwise same_base_sequence a.sequences b.sequences
