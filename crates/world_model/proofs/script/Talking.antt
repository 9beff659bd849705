-- A conversation goes on by an input that may come.
use Rattle.std.proofs.Common.{◌≡◌, refl, sym, ap, subst, ◌∙◌, Bool, true, false, ℕ, List, [], ◌∷◌, ◌++◌, Option, None}
use Rattle.std.proofs.lemmas.List.{map-append}
use Rattle.std.proofs.lemmas.List.Sums.{fold-append}
use Rattle.client_model.specs.declared.input.Input.{Input}
use Rattle.client_model.specs.declared.input.Input.TheVariants.{Start}
use Rattle.client_model.specs.meaning.Terms.{Terms, Talk}
use Rattle.client_model.specs.meaning.Talk.{wants_of}
use Rattle.client_model.specs.meaning.Conversation.{Done, Timed, talk_at, done_at}
use Rattle.client_model.specs.Conversation.{steps_of, talk_after, may_come, is_gone_next, MayCome}
use Rattle.outage_schedule.specs.declared.document.Request.{Request}
use Rattle.world_model.specs.meaning.Clients.{Step, Doing, heard, begun, step_at}
use Rattle.world_model.specs.records.Conversing.{timed, inputs_of, first_talk, gone_due, connected, Talks}
use Rattle.world_model.specs.Words.{dones_of}

-- ONE INPUT MORE ----------------------------------------------------------------------------------

module _ (terms : Terms) where
  steps_more : (talk : Talk) (inputs : List Timed) (one : Timed) → steps_of terms talk (inputs ++ one ∷ []) ≡ steps_of terms talk inputs ++ done_at terms (talk_after terms talk inputs) one ∷ []
  steps_more talk [] one = refl
  steps_more talk (first ∷ inputs) one = ap (λ (dones : List Done). done_at terms talk first ∷ dones) (steps_more (talk_at terms talk first) inputs one)

  talk_more : (talk : Talk) (inputs : List Timed) (one : Timed) → talk_after terms talk (inputs ++ one ∷ []) ≡ talk_at terms (talk_after terms talk inputs) one
  talk_more talk [] one = refl
  talk_more talk (first ∷ inputs) one = talk_more (talk_at terms talk first) inputs one

  due_more : (talk : Talk) (due : Bool) (inputs : List Timed) (one : Timed) → gone_due terms talk due (inputs ++ one ∷ []) ≡ is_gone_next one.0 (done_at terms (talk_after terms talk inputs) one).act.hold
  due_more talk due [] one = refl
  due_more talk due (first ∷ inputs) one = due_more (talk_at terms talk first) (is_gone_next first.0 (done_at terms talk first).act.hold) inputs one

  may_more : (talk : Talk) (due : Bool) (inputs : List Timed) (one : Timed) → MayCome terms talk due inputs
      → may_come (gone_due terms talk due inputs) (wants_of terms (talk_after terms talk inputs) one.1) one.0 ≡ true → MayCome terms talk due (inputs ++ one ∷ [])
  may_more talk due [] one all may = (may, tt)
  may_more talk due (first ∷ inputs) one all may = (all.0, may_more (talk_at terms talk first) (is_gone_next first.0 (done_at terms talk first).act.hold) inputs one all.1 may)

-- A REQUEST HEARS ---------------------------------------------------------------------------------

pub talk_hears : (terms : Terms) (due : Bool) (event tick : ℕ) (doing : Doing) (had : Option ℕ) (input : Input) → Talks terms due (record doing { connection = had }) → connected had input ≡ doing.connection
    → may_come due (wants_of terms doing.talk tick) input ≡ true → Talks terms (is_gone_next input (step_at terms event tick doing input).done.act.hold) (heard terms event tick doing input)
talk_hears terms due event tick doing had input talks has may = record {
  converses = record { acts = acts; may = subst (λ (all : List Timed). MayCome terms talk false all) (sym inputs) come };
  stands = ap (λ (all : List Timed). talk_after terms talk all) inputs ∙ (talk_more terms talk (inputs_of doing.steps) one ∙ ap (λ (t : Talk). talk_at terms t one) talks.stands);
  loss = ap (λ (all : List Timed). gone_due terms talk false all) inputs
      ∙ (due_more terms talk false (inputs_of doing.steps) one ∙ ap (λ (t : Talk). is_gone_next input (done_at terms t one).act.hold) talks.stands);
  has = fold-append (λ (had : Option ℕ) (step : Step). connected had step.done.input) None doing.steps (next ∷ []) ∙ (ap (λ (had : Option ℕ). connected had input) talks.has ∙ has);
}
  where
    talk : Talk
    talk = first_talk doing.request

    one : Timed
    one = (input, tick)

    next : Step
    next = step_at terms event tick doing input

    inputs : inputs_of (doing.steps ++ next ∷ []) ≡ inputs_of doing.steps ++ one ∷ []
    inputs = map-append timed doing.steps (next ∷ [])

    acts : dones_of (doing.steps ++ next ∷ []) ≡ steps_of terms talk (inputs_of (doing.steps ++ next ∷ []))
    acts = map-append (λ (step : Step). step.done) doing.steps (next ∷ [])
        ∙ (ap (λ (dones : List Done). dones ++ next.done ∷ []) talks.converses.acts
        ∙ (ap (λ (t : Talk). steps_of terms talk (inputs_of doing.steps) ++ done_at terms t one ∷ []) (sym talks.stands)
        ∙ (sym (steps_more terms talk (inputs_of doing.steps) one) ∙ ap (λ (all : List Timed). steps_of terms talk all) (sym inputs))))

    come : MayCome terms talk false (inputs_of doing.steps ++ one ∷ [])
    come = may_more terms talk false (inputs_of doing.steps) one talks.converses.may
        (subst (λ (d : Bool). may_come d (wants_of terms (talk_after terms talk (inputs_of doing.steps)) tick) input ≡ true) (sym talks.loss)
        (subst (λ (t : Talk). may_come due (wants_of terms t tick) input ≡ true) (sym talks.stands) may))

-- before its first input
abbrev unheard_yet : Request → Doing
unheard_yet request = record { request = request; talk = first_talk request; connection = None; steps = [] }

silent_talks : (terms : Terms) (request : Request) → Talks terms false (unheard_yet request)
silent_talks terms request = record { converses = record { acts = refl; may = tt }; stands = refl; loss = refl; has = refl }

pub begun_talks : (terms : Terms) (event tick : ℕ) (request : Request) → Talks terms false (begun terms event tick request)
begun_talks terms event tick request = talk_hears terms false event tick (unheard_yet request) None Start (silent_talks terms request) refl refl
