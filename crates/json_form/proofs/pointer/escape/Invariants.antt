use Rattle.std.proofs.Common.{◌≡◌, string_bytes, take}
use Rattle.std.specs.List.{flat_map}
use Rattle.std.specs.Str.{chars}
use Rattle.json_form.specs.meaning.Pointers.{escaped_char}
use Rattle.json_form.proofs.pointer.escape.Given as goal

abbrev pub invariant-loop-c : goal.invariant-loop-c
invariant-loop-c l = record {
  so_far : string_bytes l.out ≡ flat_map escaped_char (take l.c-index l.c-items);
  same : l.c-items ≡ chars l.name;
}
