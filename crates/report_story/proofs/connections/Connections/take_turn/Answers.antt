use Rattle.std.proofs.Common.{◌∙◌, sym, ap, subst, refl, List, [], ◌∷◌, map}
use Rattle.shown_clauses.specs.meaning.Fronts.{with_changed}
use Rattle.shown_clauses.specs.meaning.Links.{Link, Turn, has_session, over_on, turn_begun}
use Rattle.report_story.specs.Lines.{without_turn, turns_on}
use Rattle.report_story.specs.Placing.{Identity, identity_of, older_at, changed_at, IsIndexed}
use Rattle.report_story.proofs.Placed.{found_none, stays_changed}
use Rattle.report_story.proofs.Changing.{begun_over, turn_found}
use Rattle.report_story.proofs.connections.Connections.take_turn.Goals as goal

pub invariant_of-self : goal.invariant_of-self
invariant_of-self c =
    let inside = c.self.inside in
    let P : List Identity → Type 0 = IsIndexed inside.numbers inside.sessions inside.twice in
    subst P (sym (ap (map identity_of) c.take_turn_at.ensures.rest ∙ stays_changed identity_of without_turn (λ link. refl) c.in-Some.place inside.lines.items)) c.self.invariant

pub returns-in-Some-clause-turn : goal.returns-in-Some-clause-turn
returns-in-Some-clause-turn c =
    c.take_turn_at.ensures.turn ∙ ap (λ (links : List Link). turns_on (older_at c.in-Some.place links)) c.self.view_is
    ∙ turn_found c.args.session c.args.self.now c.in-Some.place (sym c.place.ensures ∙ c.in-Some.is)

pub returns-in-Some-clause-links : goal.returns-in-Some-clause-links
returns-in-Some-clause-links c =
    ap (with_changed (has_session c.args.session) turn_begun) (c.take_turn_at.ensures.rest ∙ ap (changed_at without_turn c.in-Some.place) c.self.view_is)
    ∙ begun_over c.args.session c.args.self.now c.in-Some.place (sym c.place.ensures ∙ c.in-Some.is)

pub returns-in-None-clause-turn : goal.returns-in-None-clause-turn
returns-in-None-clause-turn c =
    ap (λ (turn : Turn). turn ∷ []) c.new.ensures ∙ sym (ap over_on (found_none (has_session c.args.session) c.args.self.now (sym c.place.ensures ∙ c.in-None.is)))
