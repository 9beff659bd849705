-- What becomes of a connection that meets a test.
use Rattle.std.specs.Prelude.{Bool, [], ◌∷◌, ◌++◌}
use Rattle.outage_schedule.specs.declared.item.Served.{Served}
use Rattle.shown_clauses.specs.meaning.Fronts.{changed_if}
use Rattle.shown_clauses.specs.meaning.Links.{Link}

abbrev pub changed : (Link → Bool) → (Link → Link) → Link → Link
changed test change link = changed_if (test link) change link

abbrev pub reply_added : Served → Link → Link
reply_added one link = record link { replies = link.replies ++ one ∷ [] }
