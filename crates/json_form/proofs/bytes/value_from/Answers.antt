use Rattle.std.proofs.Common.{refl}
use Rattle.json_form.proofs.Utf8.{is_json, is_no_json}
use Rattle.json_form.proofs.bytes.value_from.Goals as goal

pub returns-in-Ok : goal.returns-in-Ok
returns-in-Ok c = is_json c.args.bytes.now _ c.in-Ok.ensures.ok.0 c.in-Ok.ensures.ok.1

pub returns-else-is_memory : goal.returns-else-is_memory
returns-else-is_memory c = rw (is_no_json c.args.bytes.now (c.in-Err.ensures.err (λ m. let t = c.if-is_memory.ensures.1 m in cc)), c.here.ensures) refl
