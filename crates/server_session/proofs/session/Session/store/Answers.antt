use Rattle.std.proofs.Common.{refl, subst, ◌∙◌}
use Rattle.std.proofs.lemmas.Result.{err_from_is_err_and}
use Rattle.svc_values.specs.Identifiers.{IsLtxid}
use Rattle.server_session.specs.SeenSession.{SeenSession}
use Rattle.server_session.proofs.Lifting.{lacked_nothing}
use Rattle.server_session.proofs.Reaching.{entry_made, entry_current, entry_may, entry_fits, entry_told, entry_fault}
use Rattle.server_session.proofs.session.Session.store.Goals as goal

pub returns-then-not-is_ltxid : goal.returns-then-not-is_ltxid
returns-then-not-is_ltxid g c = lacked_nothing 1 (g.D.Disk.state c.args.disk.now)

pub returns-in_err-entry : goal.returns-in_err-entry
returns-in_err-entry g c =
    let p = err_from_is_err_and c.from_residual.result c.from_residual.ensures.1 in
    rw (p.1, p.2) (lacked_nothing 1 (g.D.Disk.state c.args.disk.now))

pub store_entry-requires : goal.store_entry-requires
store_entry-requires g c =
    let old = c.args.self.now in
    let core = c.args.core.now in
    let disk = g.D.Disk.state c.args.disk.now in
    let is = c.in_ok-entry.ensures.entry in
    record {
      fits = c.requires.fits;
      made = entry_made c.args.call.now c.args.answers c.args.draws core disk old c.requires.fits c.requires.belongs c.in_ok-entry.entry is (subst (λ (s : SeenSession). IsLtxid s.ltxid) c.self.view_is (c.if-not-is_ltxid.ensures.within.0 refl)) c.requires.made;
      here = entry_current c.args.call.now c.args.answers c.args.draws core disk old c.requires.fits c.requires.belongs c.in_ok-entry.entry is;
      may = entry_may c.args.call.now c.args.answers c.args.draws core disk old c.requires.fits c.requires.belongs c.in_ok-entry.entry is c.requires.free;
      writes = entry_fits c.args.call.now c.args.answers c.args.draws core disk old c.requires.fits c.requires.belongs c.in_ok-entry.entry is;
    }

pub returns-in_err-store_entry : goal.returns-in_err-store_entry
returns-in_err-store_entry g c =
    let old = c.args.self.now in
    let core = c.args.core.now in
    let state = g.D.Disk.state in
    let is = c.in_ok-entry.ensures.entry in
    let p = err_from_is_err_and c.from_residual-in_err-store_entry.result c.from_residual-in_err-store_entry.ensures.1 in
    rw (p.1, p.2) (entry_fault c.args.call.now c.args.answers c.args.draws core (state c.args.disk.now) old c.requires.fits c.requires.belongs c.in_ok-entry.entry is _ c.take_entry.new.self c.store_entry.new.core (state c.store_entry.new.disk) c.in_err-store_entry.ensures)

pub returns : goal.returns
returns g c =
    let old = c.args.self.now in
    let core = c.args.core.now in
    let state = g.D.Disk.state in
    let is = c.in_ok-entry.ensures.entry in
    let seen = c.self-2.view_is ∙ c.in_ok-entry.ensures.seen in
    entry_told c.args.call.now c.args.answers c.args.draws core (state c.args.disk.now) old c.requires.fits c.requires.belongs c.in_ok-entry.entry is _ c.store_entry.new.core (state c.store_entry.new.disk) seen c.in_ok-store_entry.ensures
