-- Names of lists, as they stand in a pointer.
use Rattle.std.proofs.Common.{◌≡◌, codes, refl}
use Rattle.std.specs.Str.{chars}
use lib.Utf8.{encode}
use Rattle.json_form.specs.meaning.Pointers.{escaped}

pub entries_named : escaped (codes "entries") ≡ codes "entries"
unfolding chars encode
entries_named = refl

pub pieces_named : escaped (codes "pieces") ≡ codes "pieces"
unfolding chars encode
pieces_named = refl

pub tables_named : escaped (codes "tables") ≡ codes "tables"
unfolding chars encode
tables_named = refl
