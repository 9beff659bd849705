use Rattle.std.proofs.Common.{◌≡◌, ◌∙◌, ◌+◌, refl, sym, ap, subst}
use Rattle.std.specs.Prelude.{IsTrue, nat_le}
use Rattle.std.specs.Int.{w64}
use Rattle.std.proofs.lemmas.Int.{to_z-of_z}
use Rattle.mutable_values.specs.Sources.{may_reserve, reserved_to}
use Rattle.commit_log.specs.declared.records.Record.{Record}
use Rattle.commit_log.specs.RecordBytes.{FitsRecord}
use Rattle.commit_log.specs.meaning.Rules.{may_come, may_commit, rises, with_record}
use Rattle.server_session.specs.declared.shared.Core.{Core}
use Rattle.server_session.specs.Following.{IsOfJournal}
use Rattle.server_session.proofs.OfJournals.{follows_block, follows_commit, follows_horizon, follows_line, follows_opening, follows_reservation, may_be_blocked_now, may_be_noted, may_be_reserved_now, second_of, writes_are_fit}
use Rattle.server_session.proofs.shared.Core.follow.Goals as goal

pub take_entry-requires-clause-may : goal.take_entry-requires-clause-may
take_entry-requires-clause-may c =
    let r = c.requires in
    let may = subst (λ (one : Record). IsTrue (may_come r.journal r.is_opened r.has_horizon one)) c.in-Commit.is r.may in
    may_be_noted c.args.self.now r.journal r.of_journal c.in-Commit.entry (second_of r.is_opened (may_commit r.journal c.in-Commit.entry) may)

pub take_entry-requires-clause-writes : goal.take_entry-requires-clause-writes
take_entry-requires-clause-writes c =
    let r = c.requires in
    let may = subst (λ (one : Record). IsTrue (may_come r.journal r.is_opened r.has_horizon one)) c.in-Commit.is r.may in
    writes_are_fit c.args.self.now r.journal r.of_journal c.in-Commit.entry (second_of r.is_opened (may_commit r.journal c.in-Commit.entry) may)

pub block-requires : goal.block-requires
block-requires c =
    let r = c.requires in
    may_be_blocked_now c.args.self.now r.journal r.of_journal c.in-Blocked.x (subst (λ (one : Record). IsTrue (may_come r.journal r.is_opened r.has_horizon one)) c.in-Blocked.is r.may)

pub reserved-requires : goal.reserved-requires
reserved-requires c =
    let r = c.requires in
    let fits = subst FitsRecord c.in-Reserved.is r.fits in
    let may = may_be_reserved_now c.args.self.now r.journal r.of_journal c.in-Reserved.reservation (subst (λ (one : Record). IsTrue (may_come r.journal r.is_opened r.has_horizon one)) c.in-Reserved.is r.may) in
    ap (may_reserve c.args.self.now.source c.in-Reserved.reservation.name) (to_z-of_z w64 c.in-Reserved.reservation.upto fits.1) ∙ may

pub returns-in-Opened-clause-follows : goal.returns-in-Opened-clause-follows
returns-in-Opened-clause-follows c is_opened has_horizon journal is unset may =
    subst (λ (one : Record). IsOfJournal c.take_incarnation.new.self (with_record journal one)) (sym c.in-Opened.is)
    (follows_opening c.args.self.now c.take_incarnation.new.self journal c.in-Opened.incarnation is c.take_incarnation.ensures)

pub returns-in_ok-take_entry-in-Commit-clause-follows : goal.returns-in_ok-take_entry-in-Commit-clause-follows
returns-in_ok-take_entry-in-Commit-clause-follows c is_opened has_horizon journal is unset may =
    let here = subst (λ (one : Record). IsTrue (may_come journal is_opened has_horizon one)) c.in-Commit.is may in
    let said = c.in_ok-take_entry-in-Commit.ensures in
    subst (λ (one : Record). IsOfJournal c.take_entry.new.self (with_record journal one)) (sym c.in-Commit.is)
    (follows_commit c.args.self.now journal is c.in-Commit.entry (second_of is_opened (may_commit journal c.in-Commit.entry) here) c.take_entry.new.self said.tables said.book said.source)

pub returns-in_ok-block-in-Blocked-clause-follows : goal.returns-in_ok-block-in-Blocked-clause-follows
returns-in_ok-block-in-Blocked-clause-follows c is_opened has_horizon journal is unset may =
    let here = subst (λ (one : Record). IsTrue (may_come journal is_opened has_horizon one)) c.in-Blocked.is may in
    let later : Core = record c.args.self.now { book = c.block.new.self } in
    subst (λ (one : Record). IsOfJournal later (with_record journal one)) (sym c.in-Blocked.is)
    (follows_block c.args.self.now journal is c.in-Blocked.x here later c.in_ok-block-in-Blocked.ensures.ok refl refl)

pub returns-in-Reserved-clause-follows : goal.returns-in-Reserved-clause-follows
returns-in-Reserved-clause-follows c is_opened has_horizon journal is unset may =
    let reservation = c.in-Reserved.reservation in
    let here = subst (λ (one : Record). IsTrue (may_come journal is_opened has_horizon one)) c.in-Reserved.is may in
    let fits = subst FitsRecord c.in-Reserved.is c.requires.fits in
    let later : Core = record c.args.self.now { source = c.reserved.new.self } in
    let told : later ≡ record c.args.self.now { source = reserved_to c.args.self.now.source reservation.name reservation.upto } =
    ap (λ o. let core : Core = record c.args.self.now { source = o } in core) (c.reserved.ensures ∙ ap (reserved_to c.args.self.now.source reservation.name) (to_z-of_z w64 reservation.upto fits.1)) in
    subst (λ (one : Record). IsOfJournal later (with_record journal one)) (sym c.in-Reserved.is) (follows_reservation c.args.self.now journal is reservation here later told)

pub returns-in-Alert-clause-follows : goal.returns-in-Alert-clause-follows
returns-in-Alert-clause-follows c is_opened has_horizon journal is unset may =
    subst (λ (one : Record). IsOfJournal c.args.self.now (with_record journal one)) (sym c.in-Alert.is) (follows_line c.args.self.now journal c.in-Alert.field-0 is)

pub returns-in-Horizon-clause-follows : goal.returns-in-Horizon-clause-follows
returns-in-Horizon-clause-follows c is_opened has_horizon journal is unset may =
    let horizon = c.in-Horizon.horizon in
    let here = subst (λ (one : Record). IsTrue (may_come journal is_opened has_horizon one)) c.in-Horizon.is may in
    let later : Core = record c.args.self.now { book = c.forget.new.self } in
    subst (λ (one : Record). IsOfJournal later (with_record journal one)) (sym c.in-Horizon.is)
    (follows_horizon c.args.self.now later journal has_horizon horizon is unset (second_of (nat_le horizon (journal.incarnation + 1)) (rises journal has_horizon horizon) here) c.forget.ensures refl refl)
