-- Objects: which members stand there, and what stands at their names.
-- Here is what contracts and proofs say of it besides.
use Rattle.std.specs.Prelude.{ℕ, List, if◌then◌else◌, Some, None}
use Rattle.std.specs.Str.{bytes_eq}
use Rattle.serde_json.specs.Data.{Data, Members}
use Rattle.serde_json.specs.View.{members_view}
use Rattle.json_form.specs.declared.object.Members as held
use Rattle.json_form.specs.meaning.Objects.{Named, named}

abbrev pub members_at : held.Members → Named
members_at held = named (members_view held.map.entries)

-- the members once the one with this name was taken out
unfoldable pub without : List ℕ → Named → Named
without name ms other = if bytes_eq other name then None else ms other

-- the members once this value was put at this name
unfoldable pub putting : List ℕ → Data → Named → Named
putting name d ms other = if bytes_eq other name then Some d else ms other
