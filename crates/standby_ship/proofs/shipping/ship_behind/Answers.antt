use Rattle.std.proofs.Common.{refl, sym, subst}
use Rattle.std.specs.Prelude.{Option, Some, IfOk}
use Rattle.standby_ship.specs.Lagging.{LagsOpen, lacked_some}
use Rattle.standby_ship.specs.Shipped.{HasBrokenSome, HasShippedSome}
use Rattle.standby_ship.specs.Twins.{Second}
use Rattle.standby_ship.proofs.shipping.ship_behind.Goals as goal

pub ship-shipped-requires-clause-lags : goal.ship-shipped-requires-clause-lags
ship-shipped-requires-clause-lags g c = (subst (λ (s : Option Second). LagsOpen c.args.primary.now s) c.in-Some.is c.requires).0

pub ship-shipped-requires-clause-ready : goal.ship-shipped-requires-clause-ready
ship-shipped-requires-clause-ready g c = (subst (λ (s : Option Second). LagsOpen c.args.primary.now s) c.in-Some.is c.requires).1

pub returns-in-Some-clause-shipped : goal.returns-in-Some-clause-shipped
returns-in-Some-clause-shipped g c =
    subst (λ (s : Option Second). IfOk c.ship-shipped.result (λ _. HasShippedSome c.args.primary.now c.ship-shipped.new.primary s (Some c.ship-shipped.new.second))) (sym c.in-Some.is) c.ship-shipped.ensures.shipped

pub returns-in-Some-clause-broken : goal.returns-in-Some-clause-broken
returns-in-Some-clause-broken g c told =
    subst (λ (s : Option Second). HasBrokenSome (lacked_some c.args.primary.now s) c.args.primary.now c.ship-shipped.new.primary s (Some c.ship-shipped.new.second)) (sym c.in-Some.is) (c.ship-shipped.ensures.broken told)

pub returns-in-Some-clause-kept : goal.returns-in-Some-clause-kept
returns-in-Some-clause-kept g c = c.keeps_to_it.ensures

pub returns-in-None-clause-shipped : goal.returns-in-None-clause-shipped
returns-in-None-clause-shipped g c = subst (λ (s : Option Second). HasShippedSome c.args.primary.now c.args.primary.now s s) (sym c.in-None.is) refl
