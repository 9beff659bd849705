use Rattle.std.proofs.Common.{◌≡◌, ℕ, List, codes, sym, subst, rules}
use Rattle.std.specs.Str.{bytes_eq}
use Rattle.json_form.specs.meaning.Arrays.{is_key}
use Rattle.document_forms.specs.TablesAhead.{PassesMember}
use Rattle.call_forms.proofs.Offered.{of_each}
use Rattle.document_forms.proofs.table_ahead.TableAhead.take.Goals as goal

pub returns-then-eq-2-clause-read : goal.returns-then-eq-2-clause-read
returns-then-eq-2-clause-read c =
    let taken = is_key bytes_eq c.args.taken.now in
    let same : c.args.name.now ≡ codes "columns" = search rules in
    of_each _ _ c.take_columns.result (λ done told. subst (λ (k : List ℕ). PassesMember taken c.args.depth k c.args.self.now c.args.tokens.now c.take_columns.new.self c.take_columns.new.tokens) (sym same) (told taken)) c.take_columns.ensures.read

pub returns-then-eq-3-clause-read : goal.returns-then-eq-3-clause-read
returns-then-eq-3-clause-read c =
    let taken = is_key bytes_eq c.args.taken.now in
    let same : c.args.name.now ≡ codes "rows" = search rules in
    of_each _ _ c.take_rows.result (λ done told. subst (λ (k : List ℕ). PassesMember taken c.args.depth k c.args.self.now c.args.tokens.now c.take_rows.new.self c.take_rows.new.tokens) (sym same) (told taken)) c.take_rows.ensures.read

pub returns-then-eq-4-clause-read : goal.returns-then-eq-4-clause-read
returns-then-eq-4-clause-read c =
    let taken = is_key bytes_eq c.args.taken.now in
    let same : c.args.name.now ≡ codes "index" = search rules in
    of_each _ _ c.take_index.result (λ done told. subst (λ (k : List ℕ). PassesMember taken c.args.depth k c.args.self.now c.args.tokens.now c.take_index.new.self c.take_index.new.tokens) (sym same) (told taken)) c.take_index.ensures.read
