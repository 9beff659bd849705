-- Rows at a place, found one after the other.
use Rattle.std.proofs.Common.{◌≡◌, ℕ, ◌+◌, ◌<◌, ◌≤◌, Bool, true, false, cond, List, [], ◌∷◌, ◌++◌, length, take, drop, map, get_or, refl, sym, ap, ◌∙◌, append-nil}
use Rattle.std.specs.Prelude.{Some, fold}
use Rattle.std.proofs.lemmas.List.{take-append-drop, drop_more, take_more, map-append, take_all}
use Rattle.std.proofs.lemmas.List.Elements.{filter-append}
use Rattle.svc_values.specs.declared.value.Value.{Value}
use Rattle.stmt_meaning.specs.declared.plan.TableWork.{TableWork}
use Rattle.stmt_meaning.specs.declared.scan.Scan.{Scan}
use Rattle.svc_values.specs.declared.tables.PlainRow.{PlainRow}
use Rattle.svc_values.specs.declared.tables.Place.{Place}
use Rattle.svc_values.specs.meaning.Tables.{rows_at, is_at}
use Rattle.stmt_meaning.specs.meaning.Effects.{first_of, table_answer}
use Rattle.stmt_meaning.specs.meaning.Meaning.{seen_at}
use Rattle.stmt_meaning.specs.InnerScans.{scanned, next_scan, last_answer}
use Rattle.stmt_meaning.proofs.ScanLaws.{scanned-next, scanned-append, last_answer-scanned}

module _ (at : Place) where
  pub seen_at-append : (a b : List PlainRow) → seen_at (a ++ b) (Some at) ≡ seen_at a (Some at) ++ seen_at b (Some at)
  seen_at-append a b = ap (map (λ one. one.row)) (filter-append (is_at at) a b) ∙ map-append (λ (one : PlainRow). one.row) (rows_at a at) (rows_at b at)

  seen_at-one : (row : PlainRow) (b : Bool) → is_at at row ≡ b → seen_at (row ∷ []) (Some at) ≡ cond b (row.row ∷ []) []
  seen_at-one row true e = rw e refl
  seen_at-one row false e = rw e refl

  -- the first of the rows that stands at the place
  pub found : (rows : List PlainRow) (i : ℕ) (row : PlainRow) → i < length rows → row ≡ get_or rows i row → is_at at row ≡ true → seen_at (take i rows) (Some at) ≡ [] → first_of (seen_at rows (Some at)) ≡ Some row.row
  found rows i row lt is here before =
      let more = drop (i + 1) rows in
      let whole : rows ≡ take i rows ++ (row ∷ [] ++ more) = sym (take-append-drop i rows) ∙ ap (λ l. take i rows ++ l) (drop_more rows i row lt ∙ ap (λ y. y ∷ more) (sym is)) in
      let seen : seen_at rows (Some at) ≡ row.row ∷ seen_at more (Some at) =
      ap (λ l. seen_at l (Some at)) whole ∙ seen_at-append (take i rows) (row ∷ [] ++ more) ∙ ap (λ l. l ++ seen_at (row ∷ [] ++ more) (Some at)) before
      ∙ seen_at-append (row ∷ []) more ∙ ap (λ l. l ++ seen_at more (Some at)) (seen_at-one row true here) in
      ap first_of seen

  -- one row more
  pub seen_more : (rows : List PlainRow) (i : ℕ) (row : PlainRow) → i < length rows → row ≡ get_or rows i row → (b : Bool) → is_at at row ≡ b
      → seen_at (take (i + 1) rows) (Some at) ≡ seen_at (take i rows) (Some at) ++ cond b (row.row ∷ []) []
  seen_more rows i row lt is b e =
      ap (λ l. seen_at l (Some at)) (take_more rows i row lt ∙ ap (λ y. take i rows ++ y ∷ []) (sym is))
      ∙ seen_at-append (take i rows) (row ∷ []) ∙ ap (λ l. seen_at (take i rows) (Some at) ++ l) (seen_at-one row b e)

  pub scan_more : (work : TableWork) (rows : List PlainRow) (i : ℕ) (row : PlainRow) (scan : Scan) → i < length rows → row ≡ get_or rows i row → is_at at row ≡ true → scan ≡ scanned work (seen_at (take i rows) (Some at))
      → next_scan scan row.row ≡ scanned work (seen_at (take (i + 1) rows) (Some at))
  scan_more work rows i row scan lt is here so_far =
      ap (λ s. next_scan s row.row) so_far ∙ scanned-next work (seen_at (take i rows) (Some at)) row.row ∙ ap (scanned work) (sym (seen_more rows i row lt is true here))

  pub scan_same : (work : TableWork) (rows : List PlainRow) (i : ℕ) (row : PlainRow) (scan : Scan) → i < length rows → row ≡ get_or rows i row → is_at at row ≡ false → scan ≡ scanned work (seen_at (take i rows) (Some at))
      → scan ≡ scanned work (seen_at (take (i + 1) rows) (Some at))
  scan_same work rows i row scan lt is other so_far =
      so_far ∙ ap (scanned work) (sym (seen_more rows i row lt is false other ∙ append-nil (seen_at (take i rows) (Some at))))

  -- the answer after all rows
  pub scan_end : (work : TableWork) (rows : List PlainRow) (i : ℕ) (scan : Scan) → length rows ≤ i → scan ≡ scanned work (seen_at (take i rows) (Some at)) → last_answer scan ≡ table_answer work (seen_at rows (Some at))
  scan_end work rows i scan le so_far =
      ap last_answer so_far ∙ last_answer-scanned work (seen_at (take i rows) (Some at)) ∙ ap (λ l. table_answer work (seen_at l (Some at))) (take_all i rows le)

  -- and of a scan that no row changes
  pub scan_settled : (work : TableWork) (rows : List PlainRow) (i : ℕ) (scan : Scan) → scan ≡ scanned work (seen_at (take i rows) (Some at)) → ((more : List (List Value)) → last_answer (fold next_scan scan more) ≡ last_answer scan)
      → last_answer scan ≡ table_answer work (seen_at rows (Some at))
  scan_settled work rows i scan so_far stays =
      let rest = seen_at (drop i rows) (Some at) in
      let whole : seen_at rows (Some at) ≡ seen_at (take i rows) (Some at) ++ rest = ap (λ l. seen_at l (Some at)) (sym (take-append-drop i rows)) ∙ seen_at-append (take i rows) (drop i rows) in
      sym (stays rest) ∙ ap (λ s. last_answer (fold next_scan s rest)) so_far ∙ ap last_answer (scanned-append work (seen_at (take i rows) (Some at)) rest)
      ∙ last_answer-scanned work (seen_at (take i rows) (Some at) ++ rest) ∙ ap (table_answer work) (sym whole)
