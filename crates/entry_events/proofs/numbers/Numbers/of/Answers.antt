use Rattle.std.proofs.Common.{◌++◌, ◌∙◌, List, ap, map, subst}
use Rattle.std.specs.List.Sorted.{IsPermutation}
use Rattle.run_clauses.specs.meaning.EntryEvents.{StoredEntry, stored_entries}
use Rattle.entry_events.specs.Commits.{all_stored}
use Rattle.entry_events.specs.Numbering.{image_key, stored_key}
use Rattle.entry_events.proofs.Ranks.{Key}
use Rattle.entry_events.proofs.Timed.{before_is, up_to_event}
use Rattle.entry_events.proofs.numbers.Numbers.of.Goals as goal

pub returns-clause-before : goal.returns-clause-before
returns-clause-before c =
    let image = c.args.image.now in
    let stored = ap all_stored c.as_slice.ensures.value ∙ c.in_ok-stored.ensures in
    let keys = c.in_ok-keys.ensures ∙ ap (λ (all : List StoredEntry). map image_key image ++ map stored_key all) stored in
    before_is image (stored_entries c.args.report.now) c.sort.new.self.items (subst (λ (all : List Key). IsPermutation all c.sort.new.self.items) keys c.in_ok-sort.ensures.permutation)

pub returns-clause-up_to : goal.returns-clause-up_to
returns-clause-up_to c =
    let image = c.args.image.now in
    let stored = ap all_stored c.as_slice.ensures.value ∙ c.in_ok-stored.ensures in
    let keys = c.in_ok-keys.ensures ∙ ap (λ (all : List StoredEntry). map image_key image ++ map stored_key all) stored in
    up_to_event image (stored_entries c.args.report.now) c.sort.new.self.items (subst (λ (all : List Key). IsPermutation all c.sort.new.self.items) keys c.in_ok-sort.ensures.permutation)
