use Rattle.std.proofs.Common.{sym, ap, ◌∙◌}
use Rattle.std.specs.Option.{option_copied_mut}
use Rattle.table_txn.specs.declared.readings.ReadPlace.{ReadPlace}
use Rattle.table_txn.specs.Found.{kept}
use Rattle.table_txn.proofs.FoundLaws.{again_read, not_read}
use Rattle.table_txn.proofs.readings.read_again.Goals as goal

pub returns-in_default : goal.returns-in_default
returns-in_default c = record {
  absent = not_read c.args.places.now.entries c.args.at.now (sym (ap option_copied_mut c.in_default.is) ∙ c.get_mut.ensures.value);
  same = ap (λ m. m.entries) c.get_mut.follows.holds-at-none;
}

pub returns : goal.returns
returns c =
    let one : ReadPlace = record { found = c.in-Some.there.now.found; is_torn = c.has_changed-there.result } in
    again_read c.args.places.now (c.get_mut.follows.lender one) c.args.at.now c.in-Some.there.now one (kept c.args.committed) c.requires.kinds c.requires.kind c.in-Some.ensures.value
    (ap (λ b. let n : ReadPlace = record { found = c.in-Some.there.now.found; is_torn = b } in n) c.has_changed-there.ensures) (c.get_mut.follows.holds one)
