-- A conversation that grows by a step.
use Rattle.std.proofs.Common.{◌≡◌, List, [], ◌∷◌, ◌++◌, reverse, refl, sym, ap, ◌∙◌}
use Rattle.std.specs.Prelude.{fold}
use Rattle.std.proofs.lemmas.Grind.{reverse_onto}
use Rattle.std.proofs.lemmas.List.{append-nil, append_assoc}
use Rattle.outage_schedule.specs.declared.document.Request.{Request}
use Rattle.client_model.specs.meaning.Terms.{Terms}
use Rattle.caused_laws.specs.Laws.{shown_steps}
use Rattle.caused_laws.specs.Telling.{ToldStep, Before, Tells, AllTell, behind, inputs_of}

-- one more that tells what it has to behind the others
pub tells_more : (terms : Terms) (request : Request) (all : List ToldStep) (before : Before) (one : ToldStep)
    → AllTell terms request before all → Tells terms request (fold behind before all) one → AllTell terms request before (all ++ one ∷ [])
tells_more terms request [] before one tell last = (last, tt)
tells_more terms request (first ∷ all) before one tell last = (tell.0, tells_more terms request all (behind before first) one tell.1 last)

-- what stands behind these
pub behind_inputs : (all : List ToldStep) (before : Before) → (fold behind before all).inputs ≡ before.inputs ++ inputs_of all
behind_inputs [] before = sym (append-nil before.inputs)
behind_inputs (one ∷ all) before = behind_inputs all (behind before one) ∙ append_assoc before.inputs one.inputs (inputs_of all)

pub behind_steps : (all : List ToldStep) (before : Before) → (fold behind before all).steps ≡ reverse (shown_steps all) ++ before.steps
behind_steps [] before = refl
behind_steps (one ∷ all) before =
    behind_steps all (behind before one)
    ∙ sym (append_assoc (reverse (shown_steps all)) (one.step ∷ []) before.steps)
    ∙ ap (λ l. l ++ before.steps) (sym (reverse_onto (shown_steps all) one.step []))
