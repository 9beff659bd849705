use Rattle.std.proofs.Common.{◌∙◌, ap, sym, subst}
use Rattle.std.specs.Prelude.{Option, IfOk}
use Rattle.redo_store.specs.declared.redo.Redo.{Redo}
use Rattle.standby_ship.specs.Lagging.{Lags, lacked_in, open_at}
use Rattle.standby_ship.specs.Shipped.{HasBroken, HasShipped}
use Rattle.standby_ship.specs.Sound.{MayShip}
use Rattle.standby_ship.specs.Twins.{Second}
use Rattle.standby_ship.proofs.Sending.{may_append, may_not}
use Rattle.standby_ship.proofs.shipping.ship.Goals as goal

pub ship_to-requires-clause-lags : goal.ship_to-requires-clause-lags
ship_to-requires-clause-lags g c =
    let disk = g.D.Disk.state c.second.inside.disk in
    let is = sym c.second.view_is ∙ ap (λ (o : Option Redo). record { disk = disk; store = o }) c.in-Some.is in
    subst (λ (s : Second). Lags c.args.primary.now s) {y = open_at c.in-Some.store disk} is c.requires.lags

pub ship_to-requires-clause-ready : goal.ship_to-requires-clause-ready
ship_to-requires-clause-ready g c =
    let disk = g.D.Disk.state c.second.inside.disk in
    let is = sym c.second.view_is ∙ ap (λ (o : Option Redo). record { disk = disk; store = o }) c.in-Some.is in
    may_append c.in-Some.store disk (subst (λ (s : Second). MayShip s) {y = open_at c.in-Some.store disk} is c.requires.ready)

pub unreachable-requires : goal.unreachable-requires
unreachable-requires g c =
    let disk = g.D.Disk.state c.second.inside.disk in
    let is = sym c.second.view_is ∙ ap (λ (o : Option Redo). record { disk = disk; store = o }) c.in-None.is in
    may_not disk (subst (λ (s : Second). MayShip s) is c.requires.ready)

pub returns-clause-shipped : goal.returns-clause-shipped
returns-clause-shipped g c =
    let disk = g.D.Disk.state c.second.inside.disk in
    let is = sym c.second.view_is ∙ ap (λ (o : Option Redo). record { disk = disk; store = o }) c.in-Some.is in
    subst (λ (s : Second). IfOk c.ship_to.result (λ _. HasShipped c.args.primary.now c.ship_to.new.primary s (open_at c.ship_to.new.store (g.D.Disk.state c.ship_to.new.disk)))) {x = open_at c.in-Some.store disk} (sym is) c.ship_to.ensures.shipped

pub returns-clause-broken : goal.returns-clause-broken
returns-clause-broken g c told =
    let disk = g.D.Disk.state c.second.inside.disk in
    let is = sym c.second.view_is ∙ ap (λ (o : Option Redo). record { disk = disk; store = o }) c.in-Some.is in
    subst (λ (s : Second). HasBroken (lacked_in c.args.primary.now s) c.args.primary.now c.ship_to.new.primary s (open_at c.ship_to.new.store (g.D.Disk.state c.ship_to.new.disk))) {x = open_at c.in-Some.store disk} (sym is) (c.ship_to.ensures.broken told)
