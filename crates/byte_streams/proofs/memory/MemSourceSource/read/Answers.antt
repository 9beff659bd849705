use Rattle.std.proofs.Common.{◌≡◌, length, drop, arith, length-append, length-drop}
use Rattle.std.proofs.Math.ListN.{drop_of_length-le}
use Rattle.std.proofs.lemmas.Grind.{common_steps}
use Rattle.byte_streams.proofs.Moves.{copied}
use Rattle.byte_streams.proofs.memory.MemSourceSource.read.Goals as goal

pub returns-clause-bytes : goal.returns-clause-bytes
returns-clause-bytes c =
    let len : length c.copy_from_slice.new.self ≡ c.min-count.result = grind (arith, common_steps) in (
      copied c.args.self.now.bytes.items c.copy_from_slice.new.self _ c.args.self.now.at c.min-count.result (grind (arith, common_steps)) len,
      λ none room. drop_of_length-le c.args.self.now.bytes.items (let inside = c.args.self.now.within in let some = c.args.self.now.some in omega (arith, length-append c.copy_from_slice.new.self (drop c.min-count.result c.args.into.now), length-drop c.min-count.result c.args.into.now, len)),
    )
