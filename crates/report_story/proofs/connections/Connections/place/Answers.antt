use Rattle.std.proofs.Common.{◌∙◌, sym, ap}
use Rattle.svc_values.specs.Keys.{value_of}
use Rattle.report_story.specs.declared.which.Which.TheVariants as which
use Rattle.report_story.specs.Placing.{is_which, place_of, same_key}
use Rattle.report_story.proofs.Placed.{place_noted}
use Rattle.report_story.proofs.connections.Connections.place.Goals as goal

pub returns-in-Number : goal.returns-in-Number
returns-in-Number c =
    let inside = c.self.inside in
    c.copied.ensures ∙ c.get.ensures ∙ place_noted inside.numbers inside.sessions inside.twice inside.lines.items c.self.invariant (which.Number c.in-Number.connection)
    ∙ λ i. place_of (is_which (sym c.in-Number.is i)) (c.self.view_is i)

pub returns-in-Session : goal.returns-in-Session
returns-in-Session c =
    let inside = c.self.inside in
    c.copied-in-Session.ensures ∙ c.get-in-Session.ensures ∙ ap (value_of same_key inside.sessions) c.key_of.ensures
    ∙ place_noted inside.numbers inside.sessions inside.twice inside.lines.items c.self.invariant (which.Session c.in-Session.session)
    ∙ λ i. place_of (is_which (sym c.in-Session.is i)) (c.self.view_is i)
