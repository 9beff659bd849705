use Rattle.std.proofs.Common.{◌≡◌, List, Option, Some, None, ap, ap₂, sym, ◌∙◌, refl}
use Rattle.svc_values.specs.declared.draw.Draw.{Draw}
use Rattle.svc_values.specs.declared.draw.Draw.TheVariants as draw
use Rattle.mutable_values.specs.declared.source.Drawn.{Drawn}
use Rattle.mutable_values.specs.declared.source.Drawn.TheVariants as drawn
use Rattle.mutable_values.specs.Sources.{Opening, DrawnFrom, new_draw}
use Rattle.mutable_values.proofs.Draws.{draw_absent, draw_first, draw_new, sequence_absent, sequence_drawn, sequence_fault}
use Rattle.mutable_values.proofs.Firsts.{without_none}
use Rattle.mutable_values.proofs.source.Source.draw.Goals as goal

abbrev told : Drawn → Opening → List Draw → Option DrawnFrom
told answer opening kept = Some (record { answer = answer; opening = opening; kept = kept })

told_not : (answer : Drawn) (opening : Opening) (kept : List Draw) (all : Option DrawnFrom) → all ≡ told answer opening kept → all ≡ None → ⊥
told_not answer opening kept all some none = let clash : told answer opening kept ≡ None = sym some ∙ none in cc

pub returns-then-not-is_there-clause-none : goal.returns-then-not-is_there-clause-none
returns-then-not-is_there-clause-none c =
    (λ err. draw_absent c.args.self.now c.args.kept.now c.args.kind.now c.args.now (sym c.is_there.ensures ∙ c.if-not-is_there.true), λ absent. refl)

pub returns-in-Some-clause-drawn : goal.returns-in-Some-clause-drawn
returns-in-Some-clause-drawn c =
    draw_first c.args.self.now c.args.kept.now c.args.kind.now c.args.now c.in-Some.draw (sym c.is_there.ensures ∙ c.if-not-is_there.false) (sym c.take.ensures.given ∙ c.in-Some.is)
    ∙ ap (told (drawn.Value c.in-Some.draw) c.args.self.now) (sym c.take.ensures.left)

pub returns-in-Some-clause-none : goal.returns-in-Some-clause-none
returns-in-Some-clause-none c = (λ err. absurd (cc), λ absent. absurd (told_not _ _ _ _ (returns-in-Some-clause-drawn c) absent))

pub returns-in-Seq-clause-drawn : goal.returns-in-Seq-clause-drawn
returns-in-Seq-clause-drawn c =
    let none = sym c.take.ensures.given ∙ c.in_default.is in
    let left = c.take.ensures.left ∙ without_none c.args.kind.now c.args.kept.now none in
    sequence_drawn c.args.self.now c.args.kept.now c.args.kind.now c.in-Seq.name c.args.now c.next_value.new.self c.take.new.self c.next_value.result
    c.in-Seq.is (sym c.is_there.ensures ∙ c.if-not-is_there.false) none left c.next_value.ensures.drawn

pub returns-in-Seq-clause-none : goal.returns-in-Seq-clause-none
returns-in-Seq-clause-none c =
    sequence_absent c.args.self.now c.args.kept.now c.args.kind.now c.in-Seq.name c.args.now c.next_value.result
    c.in-Seq.is (sym c.is_there.ensures ∙ c.if-not-is_there.false) (sym c.take.ensures.given ∙ c.in_default.is) c.next_value.ensures.none

pub returns-in-Seq-clause-err : goal.returns-in-Seq-clause-err
returns-in-Seq-clause-err c =
    let left = c.take.ensures.left ∙ without_none c.args.kind.now c.args.kept.now (sym c.take.ensures.given ∙ c.in_default.is) in
    sequence_fault c.args.self.now c.next_value.new.self c.args.kept.now c.take.new.self c.next_value.result left c.next_value.ensures.err

pub returns-in-Clock-clause-drawn : goal.returns-in-Clock-clause-drawn
returns-in-Clock-clause-drawn c =
    let none = sym c.take.ensures.given ∙ c.in_default.is in
    let left = c.take.ensures.left ∙ without_none c.args.kind.now c.args.kept.now none in
    draw_new c.args.self.now c.args.kept.now c.args.kind.now c.args.now (sym c.is_there.ensures ∙ c.if-not-is_there.false) none
    ∙ ap (λ asked. new_draw c.args.self.now c.args.kept.now asked c.args.now) c.in-Clock.is
    ∙ ap (told (drawn.Value (draw.Clock c.args.now)) c.args.self.now) (sym left)

pub returns-in-Clock-clause-none : goal.returns-in-Clock-clause-none
returns-in-Clock-clause-none c = (λ err. absurd (cc), λ absent. absurd (told_not _ _ _ _ (returns-in-Clock-clause-drawn c) absent))

pub returns-in-Id-clause-drawn : goal.returns-in-Id-clause-drawn
returns-in-Id-clause-drawn c =
    let none = sym c.take.ensures.given ∙ c.in_default.is in
    let left = c.take.ensures.left ∙ without_none c.args.kind.now c.args.kept.now none in
    draw_new c.args.self.now c.args.kept.now c.args.kind.now c.args.now (sym c.is_there.ensures ∙ c.if-not-is_there.false) none
    ∙ ap (λ asked. new_draw c.args.self.now c.args.kept.now asked c.args.now) c.in-Id.is
    ∙ sym (ap₂ (λ one opening. told (drawn.Value one) opening c.args.kept.now) c.next_identifier.ensures.given c.next_identifier.ensures.counted)
    ∙ ap (told (drawn.Value c.next_identifier.result) c.next_identifier.new.self) (sym left)

pub returns-in-Id-clause-none : goal.returns-in-Id-clause-none
returns-in-Id-clause-none c = (λ err. absurd (cc), λ absent. absurd (told_not _ _ _ _ (returns-in-Id-clause-drawn c) absent))
