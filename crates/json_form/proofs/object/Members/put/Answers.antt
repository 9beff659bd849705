use Rattle.std.proofs.Common.{◌≡◌, string_cmp, rules}
use Rattle.std.specs.BTreeMap.{insert_entry}
use Rattle.json_form.proofs.PutThere.{named_inserted}
use Rattle.json_form.proofs.object.Members.put.Goals as goal

pub returns : goal.returns
returns c =
    let entries : c.insert.new.self.entries ≡ insert_entry string_cmp c.args.self.now.map.entries c.args.name c.args.member = search rules in
    named_inserted c.args.name c.args.member c.args.self.now.map.entries c.insert.new.self.entries entries
