-- What was done at the steps that are told of a request is all that it did, in order.
use Rattle.std.proofs.Common.{◌≡◌, refl, sym, ap, ◌∙◌, append-nil, append_assoc, ℕ, List, [], ◌∷◌, ◌++◌}
use Rattle.outage_schedule.specs.declared.document.Request.{Request}
use Rattle.world_model.specs.meaning.Clients.{Step}
use Rattle.world_model.specs.meaning.Settings.{Setting}
use Rattle.shown_laws.specs.Tellings.{Telling, TellsRequest, NoneYet, OneMore}

-- one after the other
abbrev pub acts_in : List Telling → List Step
acts_in [] = []
acts_in (one ∷ tellings) = one.acts ++ acts_in tellings

acts_more : (tellings : List Telling) (one : Telling) → acts_in (tellings ++ one ∷ []) ≡ acts_in tellings ++ one.acts
acts_more [] one = append-nil one.acts
acts_more (first ∷ tellings) one = ap (λ (rest : List Step). first.acts ++ rest) (acts_more tellings one) ∙ sym (append_assoc first.acts (acts_in tellings) one.acts)

pub acts_told : (setting : Setting) (client place : ℕ) (request : Request) (tellings : List Telling) (steps : List Step) → TellsRequest setting client place request tellings steps → acts_in tellings ≡ steps
acts_told setting client place request _ _ NoneYet = refl
acts_told setting client place request _ _ (OneMore tellings steps one told step) = acts_more tellings one ∙ ap (λ (rest : List Step). rest ++ one.acts) (acts_told setting client place request tellings steps told)
