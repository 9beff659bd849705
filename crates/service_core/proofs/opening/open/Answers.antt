use Rattle.std.proofs.Common.{refl, subst}
use Rattle.std.specs.Prelude.{Ok}
use Rattle.mutable_values.specs.declared.grants.Grants.{Grants}
use Rattle.service_core.specs.Opening.{HasOpened}
use Rattle.service_core.proofs.Renewing.{few_before, opened_again, opens_read, raised_core, read_before, room_behind}
use Rattle.service_core.proofs.opening.open.Goals as goal

pub renewed-requires-clause-few : goal.renewed-requires-clause-few
renewed-requires-clause-few g c =
    let s = g.D.Disk.state c.args.disk.now in
    let t = g.D.Disk.state c.kept_or_read.new.disk in
    let u = g.D.Disk.state c.open.new.disk in
    let kept = c.in_ok-kept.kept in
    few_before c.args.horizon kept c.open.new.self s u c.requires.journal (opens_read c.args.horizon (Ok tt) kept kept c.open.new.self s t u (read_before kept s t c.in_ok-kept.ensures.only_reads) refl c.in-Ok.ensures)

pub renewed-requires-clause-sequences : goal.renewed-requires-clause-sequences
renewed-requires-clause-sequences g c =
    let s = g.D.Disk.state c.args.disk.now in
    let t = g.D.Disk.state c.kept_or_read.new.disk in
    let u = g.D.Disk.state c.open.new.disk in
    let kept = c.in_ok-kept.kept in
    (raised_core c.args.horizon kept c.open.new.self s u c.requires.journal (opens_read c.args.horizon (Ok tt) kept kept c.open.new.self s t u (read_before kept s t c.in_ok-kept.ensures.only_reads) refl c.in-Ok.ensures)).sequences

pub renewed-requires-clause-room : goal.renewed-requires-clause-room
renewed-requires-clause-room g c =
    let s = g.D.Disk.state c.args.disk.now in
    let t = g.D.Disk.state c.kept_or_read.new.disk in
    let u = g.D.Disk.state c.open.new.disk in
    let kept = c.in_ok-kept.kept in
    room_behind c.args.horizon kept c.open.new.self s u c.requires.journal c.keeps_journal.ensures.keeps (g.met.D.Disk.bounded c.args.disk.now)
    (opens_read c.args.horizon (Ok tt) kept kept c.open.new.self s t u (read_before kept s t c.in_ok-kept.ensures.only_reads) refl c.in-Ok.ensures)

pub returns-in-Ok-clause-opened : goal.returns-in-Ok-clause-opened
returns-in-Ok-clause-opened g c =
    let s = g.D.Disk.state c.args.disk.now in
    let t = g.D.Disk.state c.kept_or_read.new.disk in
    let u = g.D.Disk.state c.open.new.disk in
    let kept = c.in_ok-kept.kept in
    let opened = opens_read c.args.horizon (Ok tt) kept kept c.open.new.self s t u (read_before kept s t c.in_ok-kept.ensures.only_reads) refl c.in-Ok.ensures in
    subst (λ (grants : Grants). HasOpened c.args.horizon grants s c.renewed.result u) c.in_ok-kept.ensures.rests.granted
    (opened_again c.args.horizon kept c.open.new.self c.renewed.result s u c.requires.journal c.keeps_journal.ensures.keeps c.raises_horizon.ensures opened c.renewed.ensures)

pub returns-in-Ok-clause-any_moment : goal.returns-in-Ok-clause-any_moment
returns-in-Ok-clause-any_moment g c =
    let s = g.D.Disk.state c.args.disk.now in
    let t = g.D.Disk.state c.kept_or_read.new.disk in
    let u = g.D.Disk.state c.open.new.disk in
    let kept = c.in_ok-kept.kept in
    (opens_read c.args.horizon (Ok tt) kept kept c.open.new.self s t u (read_before kept s t c.in_ok-kept.ensures.only_reads) refl c.in-Ok.ensures).extends.moments
