use Rattle.std.proofs.Common.{◌≡◌, map, sym}
use Rattle.std.proofs.Math.Path.{fun_ext}
use Rattle.json_form.specs.meaning.Arrays.{is_key}
use Rattle.json_form.proofs.distinct.next_distinct.Goals as goal

pub returns : goal.returns
returns g c =
    let same : is_key g.R.Key.PartialEq.eq c.args.taken.now ≡ is_key g.R.Key.PartialEq.eq (map g.R.KeyedReader.key_of c.args.found.now) = fun_ext c.requires in
    rw (sym same) (c.within_item.ensures.read _ c.read.ensures)
