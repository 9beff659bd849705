use Rattle.std.proofs.Common.{◌∙◌, length, ap, arith}
use Rattle.std.specs.Int.{w64, from_be_bytes}
use Rattle.std.proofs.lemmas.Int.{ints}
use Rattle.frame_wire.proofs.Payloads.{payload_stands}
use Rattle.frame_wire.proofs.feed.payload_of.Goals as goal

pub returns-clause-front : goal.returns-clause-front
returns-clause-front c =
    let parts = c.in_ok-length.ensures.cases in
    rw parts.1 (payload_stands c.args.bytes.now c.from_be_bytes-length.result (λ i. omega (arith, ints, c.type_inv.bytes i)) (omega (arith, parts.2)) (c.from_be_bytes-length.ensures ∙ ap (from_be_bytes w64) parts.0) (omega (arith, c.if-rest-length.false, ap length parts.1)))
