use Rattle.std.proofs.Common.{◌+◌, ◌∙◌, [], ◌∷◌, drop, ap}
use Rattle.std.proofs.lemmas.List.{map-append}
use Rattle.report_moments.proofs.Offered.{left_is}
use Rattle.entry_events.specs.declared.stored.StoredAt.{StoredAt}
use Rattle.entry_events.specs.Commits.{commit_as, commits_as, stored_as, all_stored}
use Rattle.entry_events.proofs.CommitsAt.{stored_more}
use Rattle.entry_events.proofs.stored.stored_at.Goals as goal

pub loop-at-preserved : goal.loop-at-preserved
loop-at-preserved c =
    let entries = c.args.entries.now in
    let commits = c.args.commits.now in
    let i = c.loop-at.at in
    let entry = c.index-entries-at.result in
    let commit = c.in-Some.commit.now in
    let there = c.in-Some.ensures.lookup.3 in
    let all = c.loop-at.all.items in
    let one : StoredAt = record { ltxid = entry.ltxid; event = commit.event } in
    stored_more (all_stored all) (all_stored c.push.new.self.items) entry (commit_as commit) (drop i entries) (drop (i + 1) entries) (commits_as (drop i commits)) (commits_as (drop (i + 1) commits))
    (left_is entries i entry c.loop-at-test.true c.index-entries-at.is)
    (ap commits_as (left_is commits i commit there.0 (there.1 commit)))
    (ap all_stored c.in_ok-push.ensures.items ∙ map-append stored_as all (one ∷ []))
    ∙ c.loop-at.invariant
