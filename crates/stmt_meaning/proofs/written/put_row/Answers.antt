use Rattle.std.proofs.Common.{◌≡◌, length, ap, ap₂, sym, ◌∙◌}
use Rattle.std.specs.Prelude.{insert, unwrap_or, position}
use Rattle.std.specs.List.{position_or_len}
use Rattle.svc_values.specs.meaning.Tables.{comes_before}
use Rattle.stmt_meaning.proofs.PutRow.{put_row-insert, place_is}
use Rattle.stmt_meaning.proofs.written.put_row.Goals as goal

pub returns-clause-ok : goal.returns-clause-ok
returns-clause-ok c =
    let rows = c.args.rows.now.items in
    let found = c.first_after.ensures ∙ ap (position (λ other. comes_before c.args.row other)) c.as_slice.ensures.value in
    let len : c.len.result ≡ length rows = c.len.ensures ∙ sym c.as_slice.ensures.len ∙ ap length c.as_slice.ensures.value in
    let at : c.unwrap_or-at.result ≡ position_or_len (λ other. comes_before c.args.row other) rows = c.unwrap_or-at.ensures ∙ ap₂ unwrap_or found len ∙ place_is c.args.row rows in
    c.in_ok-insert.ensures.items ∙ ap (λ i. insert rows i c.args.row) at ∙ sym (put_row-insert c.args.row rows)
