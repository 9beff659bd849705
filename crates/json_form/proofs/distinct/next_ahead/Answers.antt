use Rattle.std.proofs.Common.{◌≡◌, map, sym}
use Rattle.std.proofs.Math.Path.{fun_ext}
use Rattle.json_form.specs.meaning.Arrays.{is_key}
use Rattle.json_form.proofs.distinct.next_ahead.Goals as goal

pub returns-clause-begins : goal.returns-clause-begins
returns-clause-begins g c =
    let same : is_key g.R.Key.PartialEq.eq c.args.taken.now ≡ is_key g.R.Key.PartialEq.eq (map g.R.KeyedReader.key_of c.args.found.now) = fun_ext c.requires in
    rw (sym same) c.ahead.ensures.begins
