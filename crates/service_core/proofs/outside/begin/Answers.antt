use Rattle.std.proofs.Common.{◌+◌, refl, ap, subst}
use Rattle.svc_values.specs.meaning.SettingsList.{NamedValues}
use Rattle.svc_values.specs.declared.frame.Up.TheVariants as up
use Rattle.svc_values.specs.meaning.Calls.{sequences_in}
use Rattle.server_session.specs.SeenSession.{is_alive}
use Rattle.server_session.specs.Serving.{HasServed, served_as, told_of}
use Rattle.service_core.proofs.Throughout.{begins_lacked, has_begun, is_idle}
use Rattle.service_core.proofs.outside.begin.Goals as goal

pub serve-requires-2-clause-lives : goal.serve-requires-2-clause-lives
serve-requires-2-clause-lives g c = ap is_alive (is_idle c.args.now 1 (told_of c.in-Ok.field-0) c.args.core.now c.serve.new.core (g.D.Disk.state c.args.disk.now) (g.D.Disk.state c.serve.new.disk) c.args.session.now c.serve.new.self c.requires.going c.in-Ok.ensures.served c.requires.new)

pub returns-in-Ok-serve : goal.returns-in-Ok-serve
returns-in-Ok-serve g c =
    let disk = g.D.Disk.state c.args.disk.now in
    let at = g.D.Disk.state c.serve.new.disk in
    let end = g.D.Disk.state c.serve-2.new.disk in
    has_begun c.args.now (told_of c.in-Ok.field-0) (told_of c.in-Ok-serve.field-0) c.args.core.now c.serve.new.core c.serve-2.new.core disk at end c.args.session.now c.serve.new.self c.serve-2.new.self c.requires.going c.requires.new
    c.in-Ok.ensures.served (c.in-Ok.ensures.silent refl).0
    (subst (λ (s : NamedValues). HasServed (served_as (up.Begin s) c.args.now) (1 + sequences_in (up.Begin s)) (told_of c.in-Ok-serve.field-0) c.serve.new.self c.serve.new.core at c.serve-2.new.self c.serve-2.new.core end) c.new-settings.ensures c.in-Ok-serve.ensures.served) (c.in-Ok-serve.ensures.silent refl).0

pub returns-in-Err : goal.returns-in-Err
returns-in-Err g c =
    let disk = g.D.Disk.state c.args.disk.now in
    begins_lacked c.in-Err.fault up.Connect c.args.now (1 + sequences_in up.Connect) c.args.session.now c.args.core.now disk c.args.session.now c.args.core.now disk c.serve.new.self c.serve.new.core (g.D.Disk.state c.serve.new.disk) c.in-Err.ensures.served refl (c.in-Err.ensures.silent refl).1
