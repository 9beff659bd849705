use Rattle.std.proofs.Common.{◌≡◌, ◌<◌, ◌≤◌, ◌+◌, ◌∷◌, length, drop, get_or, ap, sym, subst, refl, ◌∙◌}
use Rattle.std.proofs.lemmas.List.{drop_more}
use Rattle.std.proofs.Math.ListN.{drop_of_length-le}
use Rattle.table_txn.proofs.Changing.{change_behind, noted_more}
use Rattle.table_txn.proofs.changes.mark.Goals as goal

pub loop-write-init : goal.loop-write-init
loop-write-init c = record { last = λ table. refl; items = c.as_slice-write-items.ensures }

pub loop-write-preserved : goal.loop-write-preserved
loop-write-preserved c =
    let l = c.loop-write in
    let writes = c.args.writes.now in
    let lt : l.write-index < length writes = subst (λ s. l.write-index < length s) l.invariant.items c.loop-write-test.true in
    let is = c.write-item.is ∙ ap (λ s. get_or s l.write-index c.write-item.result) l.invariant.items in
    let left : drop l.write-index writes ≡ c.write-item.result ∷ drop (l.write-index + 1) writes = drop_more writes l.write-index c.write-item.result lt ∙ ap (λ s. s ∷ drop (l.write-index + 1) writes) (sym is) in
    record {
      last = λ table.
          noted_more l.last c.insert.new.self c.args.commits c.write-item.result (drop (l.write-index + 1) writes) (rw c.copied.ensures at c.in_ok-insert.ensures.updates) table
          ∙ sym (ap (λ more. change_behind l.last.entries more c.args.commits table) left) ∙ l.invariant.last table;
      items = l.invariant.items;
    }

pub returns : goal.returns
returns c = λ table.
    let l = c.loop-write in
    let writes = c.args.writes.now in
    let all : length writes ≤ l.write-index = subst (λ s. length s ≤ l.write-index) l.invariant.items c.loop-write-test.false in
    sym (ap (λ more. change_behind l.last.entries more c.args.commits table) (drop_of_length-le writes {i = l.write-index} all)) ∙ l.invariant.last table
