-- More of what a client says at the inputs of whole runs, as in `Rows`: outcomes that are shown,
-- losses while an outcome is asked for, settings that are kept, and an identifier that is
-- forgotten.
use Rattle.std.proofs.Common.{◌≡◌, true, false, List, [], ◌∷◌, map, Some, None, refl}
use Rattle.svc_values.specs.declared.value.Value.TheVariants as value
use Rattle.svc_values.specs.declared.statement.Statement.{Statement}
use Rattle.svc_values.specs.declared.answer.Answer.TheVariants as answer
use Rattle.svc_values.specs.declared.call.Call.{Call}
use Rattle.svc_values.specs.declared.call.Call.TheVariants as call
use Rattle.svc_values.specs.declared.frame.Up.TheVariants as up
use Rattle.svc_values.specs.declared.frame.Ahead.TheVariants as ahead
use Rattle.svc_values.specs.declared.frame.Down.TheVariants as down
use Rattle.request_bounds.specs.declared.rule.Why.TheVariants as why
use Rattle.request_bounds.specs.meaning.Rules.{dynamic_rules, auto_rules}
use Rattle.client_model.specs.declared.input.Input.TheVariants.{Start, Opened, Took, Gone}
use Rattle.client_model.specs.declared.act.Hold.TheVariants.{Keep, GiveBack, Drop}
use Rattle.client_model.specs.declared.act.Failed.TheVariants.{Disabled, Unknown}
use Rattle.client_model.specs.meaning.Terms.{requested}
use Rattle.client_model.specs.meaning.Conversation.{Timed, Done}
use Rattle.client_model.specs.Conversation.{steps_of, MayCome}
use Rattle.client_model.specs.meaning.Account.{account_of}
use Rattle.client_model.specs.Reasons.{Dynamic, reason_of}
use Rattle.client_model.specs.meaning.Tried.{tried_of}
use Rattle.client_model.proofs.RowWords.{x, act, outcome, terms}

-- a set, a commit shown by its outcome, and a call behind
abbrev calls_state_lost : (s1 : List Statement) → List Call
calls_state_lost s1 = ((call.Set (108 ∷ 97 ∷ 110 ∷ 103 ∷ []) (value.Text (100 ∷ 101 ∷ []))) ∷ (call.Work [] true) ∷ (call.Work s1 false) ∷ [])

abbrev inputs_state_lost : List Timed
inputs_state_lost =
    (Start, 0)
    ∷ ((Opened 1), 0)
    ∷ ((Took (down.Hello (x 1 1 0)) true), 0)
    ∷ ((Took (down.Reply ((answer.Done 1) ∷ []) [] (x 1 1 0)) true), 0)
    ∷ ((Gone 8), 0)
    ∷ ((Opened 1), 1)
    ∷ ((Took (down.Hello (x 1 2 0)) true), 2)
    ∷ ((Took (down.OutcomeIs true true) true), 3)
    ∷ []

abbrev steps_state_lost : (s1 : List Statement) → List Done
steps_state_lost s1 = steps_of (terms dynamic_rules 30 10 300 4 1000 256) (requested [] (calls_state_lost s1)) inputs_state_lost

state_lost : (s1 : List Statement) → map (λ done. done.act) (steps_state_lost s1) ≡
    (act [] None None Keep
    ∷ act (up.Connect ∷ []) None None Keep
    ∷ act ((up.Begin []) ∷ (up.Call false [] (call.Set (108 ∷ 97 ∷ 110 ∷ 103 ∷ []) (value.Text (100 ∷ 101 ∷ [])))) ∷ []) None None Keep
    ∷ act ((up.Call false [] (call.Work [] true)) ∷ []) (Some (record { answers = ((answer.Done 1) ∷ []); draws = []; ltxid = (x 1 1 0) })) None Keep
    ∷ act [] None None Keep
    ∷ act (up.Connect ∷ []) None None Keep
    ∷ act ((up.Outcome (x 1 1 0)) ∷ []) None None Keep
    ∷ act (up.Close ∷ []) (Some (record { answers = (answer.Committed ∷ []); draws = []; ltxid = (x 1 2 0) })) (Some (Disabled (why.StateLost 2) 8)) Drop
    ∷ [])
state_lost s1 = refl

state_lost_comes : (s1 : List Statement) → MayCome (terms dynamic_rules 30 10 300 4 1000 256) (requested [] (calls_state_lost s1)) false inputs_state_lost
state_lost_comes s1 = (refl, (refl, (refl, (refl, (refl, (refl, (refl, (refl, tt))))))))

state_lost_tried : (s1 : List Statement) → tried_of (steps_state_lost s1) ≡ (((x 1 1 0) ∷ []) ∷ [] ∷ [])
state_lost_tried s1 = refl

state_lost_outcomes : (s1 : List Statement) → (account_of (terms dynamic_rules 30 10 300 4 1000 256) (calls_state_lost s1) (steps_state_lost s1)).outcomes ≡ ((outcome (x 1 1 0) true true) ∷ [])
state_lost_outcomes s1 = refl

state_lost_reason : (s1 : List Statement) → reason_of Dynamic 256 (steps_state_lost s1) ≡ Some why.AfterCommit
state_lost_reason s1 = refl

-- a connection lost before its outcome was taken: the first loss stands
abbrev calls_lost_while_asked : (s1 : List Statement) → List Call
calls_lost_while_asked s1 = ((call.Work s1 false) ∷ (call.Work [] true) ∷ [])

abbrev inputs_lost_while_asked : List Timed
inputs_lost_while_asked =
    (Start, 0)
    ∷ ((Opened 1), 0)
    ∷ ((Took (down.Hello (x 1 1 0)) true), 0)
    ∷ ((Took (down.Reply ((answer.Done 1) ∷ []) [] (x 1 1 0)) true), 0)
    ∷ ((Gone 7), 0)
    ∷ ((Opened 1), 0)
    ∷ ((Took (down.Hello (x 1 2 0)) true), 0)
    ∷ ((Gone 12), 0)
    ∷ ((Opened 1), 1)
    ∷ ((Took (down.Hello (x 1 3 0)) true), 2)
    ∷ ((Took (down.OutcomeIs false false) true), 3)
    ∷ ((Took (down.Reply ((answer.Done 1) ∷ []) [] (x 1 3 0)) true), 4)
    ∷ ((Took (down.Reply (answer.Committed ∷ []) [] (x 1 3 1)) true), 5)
    ∷ []

abbrev steps_lost_while_asked : (s1 : List Statement) → List Done
steps_lost_while_asked s1 = steps_of (terms dynamic_rules 30 10 300 4 1000 256) (requested [] (calls_lost_while_asked s1)) inputs_lost_while_asked

lost_while_asked : (s1 : List Statement) → map (λ done. done.act) (steps_lost_while_asked s1) ≡
    (act [] None None Keep
    ∷ act (up.Connect ∷ []) None None Keep
    ∷ act ((up.Begin []) ∷ (up.Call false [] (call.Work s1 false)) ∷ []) None None Keep
    ∷ act ((up.Call false [] (call.Work [] true)) ∷ []) (Some (record { answers = ((answer.Done 1) ∷ []); draws = []; ltxid = (x 1 1 0) })) None Keep
    ∷ act [] None None Keep
    ∷ act (up.Connect ∷ []) None None Keep
    ∷ act ((up.Outcome (x 1 1 0)) ∷ []) None None Keep
    ∷ act [] None None Keep
    ∷ act (up.Connect ∷ []) None None Keep
    ∷ act ((up.Outcome (x 1 1 0)) ∷ []) None None Keep
    ∷ act ((up.Begin []) ∷ (up.Call true [] (call.Work s1 false)) ∷ []) None None Keep
    ∷ act ((up.Call false [] (call.Work [] true)) ∷ []) None None Keep
    ∷ act (up.End ∷ []) (Some (record { answers = (answer.Committed ∷ []); draws = []; ltxid = (x 1 3 1) })) None GiveBack
    ∷ [])
lost_while_asked s1 = refl

lost_while_asked_comes : (s1 : List Statement) → MayCome (terms dynamic_rules 30 10 300 4 1000 256) (requested [] (calls_lost_while_asked s1)) false inputs_lost_while_asked
lost_while_asked_comes s1 = (refl, (refl, (refl, (refl, (refl, (refl, (refl, (refl, (refl, (refl, (refl, (refl, (refl, tt)))))))))))))

lost_while_asked_tried : (s1 : List Statement) → tried_of (steps_lost_while_asked s1) ≡ (((x 1 1 0) ∷ (x 1 3 0) ∷ []) ∷ [] ∷ [])
lost_while_asked_tried s1 = refl

lost_while_asked_outcomes : (s1 : List Statement) → (account_of (terms dynamic_rules 30 10 300 4 1000 256) (calls_lost_while_asked s1) (steps_lost_while_asked s1)).outcomes ≡ ((outcome (x 1 1 0) false false) ∷ [])
lost_while_asked_outcomes s1 = refl

lost_while_asked_reason : (s1 : List Statement) → reason_of Dynamic 256 (steps_lost_while_asked s1) ≡ Some why.AfterCommit
lost_while_asked_reason s1 = refl

-- a rule that keeps settings: a set before the purge and one after it, both replayed on another
-- session
abbrev calls_kept_settings : (s1 : List Statement) → List Call
calls_kept_settings s1 = ((call.Set (108 ∷ 97 ∷ 110 ∷ 103 ∷ []) (value.Text (100 ∷ 101 ∷ []))) ∷ (call.Work [] true) ∷ (call.Set (108 ∷ 97 ∷ 110 ∷ 103 ∷ []) (value.Text (102 ∷ 114 ∷ []))) ∷ (call.Work s1 false) ∷ [])

abbrev inputs_kept_settings : List Timed
inputs_kept_settings =
    (Start, 0)
    ∷ ((Opened 1), 0)
    ∷ ((Took (down.Hello (x 1 1 0)) true), 0)
    ∷ ((Took (down.Reply ((answer.Done 1) ∷ []) [] (x 1 1 0)) true), 0)
    ∷ ((Took (down.Reply (answer.Committed ∷ []) [] (x 1 1 1)) true), 0)
    ∷ ((Took (down.Reply ((answer.Done 1) ∷ []) [] (x 1 1 1)) true), 0)
    ∷ ((Gone 12), 0)
    ∷ ((Opened 1), 1)
    ∷ ((Took (down.Hello (x 1 2 0)) true), 2)
    ∷ ((Took (down.OutcomeIs false false) true), 3)
    ∷ ((Took (down.Reply ((answer.Done 1) ∷ []) [] (x 1 2 0)) true), 4)
    ∷ ((Took (down.Reply ((answer.Rows (((value.Text (102 ∷ 114 ∷ [])) ∷ []) ∷ [])) ∷ []) [] (x 1 2 0)) true), 5)
    ∷ []

abbrev steps_kept_settings : (s1 : List Statement) → List Done
steps_kept_settings s1 = steps_of (terms auto_rules 30 10 300 4 1000 256) (requested [] (calls_kept_settings s1)) inputs_kept_settings

kept_settings : (s1 : List Statement) → map (λ done. done.act) (steps_kept_settings s1) ≡
    (act [] None None Keep
    ∷ act (up.Connect ∷ []) None None Keep
    ∷ act ((up.Begin []) ∷ (up.Call false [] (call.Set (108 ∷ 97 ∷ 110 ∷ 103 ∷ []) (value.Text (100 ∷ 101 ∷ [])))) ∷ []) None None Keep
    ∷ act ((up.Call false [] (call.Work [] true)) ∷ []) (Some (record { answers = ((answer.Done 1) ∷ []); draws = []; ltxid = (x 1 1 0) })) None Keep
    ∷ act ((up.Call false [] (call.Set (108 ∷ 97 ∷ 110 ∷ 103 ∷ []) (value.Text (102 ∷ 114 ∷ [])))) ∷ []) (Some (record { answers = (answer.Committed ∷ []); draws = []; ltxid = (x 1 1 1) })) None Keep
    ∷ act ((up.Call false [] (call.Work s1 false)) ∷ []) (Some (record { answers = ((answer.Done 1) ∷ []); draws = []; ltxid = (x 1 1 1) })) None Keep
    ∷ act [] None None Keep
    ∷ act (up.Connect ∷ []) None None Keep
    ∷ act ((up.Outcome (x 1 1 1)) ∷ []) None None Keep
    ∷ act ((up.Begin (((108 ∷ 97 ∷ 110 ∷ 103 ∷ []), (value.Text (100 ∷ 101 ∷ []))) ∷ [])) ∷ (up.Call true [] (call.Set (108 ∷ 97 ∷ 110 ∷ 103 ∷ []) (value.Text (102 ∷ 114 ∷ [])))) ∷ []) None None Keep
    ∷ act ((up.Call false [] (call.Work s1 false)) ∷ []) None None Keep
    ∷ act (up.End ∷ []) (Some (record { answers = ((answer.Rows (((value.Text (102 ∷ 114 ∷ [])) ∷ []) ∷ [])) ∷ []); draws = []; ltxid = (x 1 2 0) })) None GiveBack
    ∷ [])
kept_settings s1 = refl

kept_settings_comes : (s1 : List Statement) → MayCome (terms auto_rules 30 10 300 4 1000 256) (requested [] (calls_kept_settings s1)) false inputs_kept_settings
kept_settings_comes s1 = (refl, (refl, (refl, (refl, (refl, (refl, (refl, (refl, (refl, (refl, (refl, (refl, tt))))))))))))

kept_settings_tried : (s1 : List Statement) → tried_of (steps_kept_settings s1) ≡ (((x 1 1 0) ∷ []) ∷ [] ∷ [])
kept_settings_tried s1 = refl

kept_settings_outcomes : (s1 : List Statement) → (account_of (terms auto_rules 30 10 300 4 1000 256) (calls_kept_settings s1) (steps_kept_settings s1)).outcomes ≡ ((outcome (x 1 1 1) false false) ∷ [])
kept_settings_outcomes s1 = refl

-- a lost identifier that is forgotten
abbrev calls_forgotten : (s1 : List Statement) → List Call
calls_forgotten s1 = ((call.Work s1 false) ∷ (call.Work [] true) ∷ [])

abbrev inputs_forgotten : List Timed
inputs_forgotten =
    (Start, 0)
    ∷ ((Opened 1), 0)
    ∷ ((Took (down.Hello (x 1 1 0)) true), 0)
    ∷ ((Took (down.Reply ((answer.Done 1) ∷ []) [] (x 1 1 0)) true), 0)
    ∷ ((Gone 9), 0)
    ∷ ((Opened 2), 6)
    ∷ ((Took (down.Hello (x 2 1 0)) true), 6)
    ∷ ((Took (down.OutcomeRefused ahead.Forgotten 2) true), 6)
    ∷ []

abbrev steps_forgotten : (s1 : List Statement) → List Done
steps_forgotten s1 = steps_of (terms dynamic_rules 30 10 300 4 1000 256) (requested [] (calls_forgotten s1)) inputs_forgotten

forgotten : (s1 : List Statement) → map (λ done. done.act) (steps_forgotten s1) ≡
    (act [] None None Keep
    ∷ act (up.Connect ∷ []) None None Keep
    ∷ act ((up.Begin []) ∷ (up.Call false [] (call.Work s1 false)) ∷ []) None None Keep
    ∷ act ((up.Call false [] (call.Work [] true)) ∷ []) (Some (record { answers = ((answer.Done 1) ∷ []); draws = []; ltxid = (x 1 1 0) })) None Keep
    ∷ act [] None None Keep
    ∷ act (up.Connect ∷ []) None None Keep
    ∷ act ((up.Outcome (x 1 1 0)) ∷ []) None None Keep
    ∷ act (up.Close ∷ []) None (Some (Unknown (x 1 1 0))) Drop
    ∷ [])
forgotten s1 = refl

forgotten_comes : (s1 : List Statement) → MayCome (terms dynamic_rules 30 10 300 4 1000 256) (requested [] (calls_forgotten s1)) false inputs_forgotten
forgotten_comes s1 = (refl, (refl, (refl, (refl, (refl, (refl, (refl, (refl, tt))))))))

forgotten_tried : (s1 : List Statement) → tried_of (steps_forgotten s1) ≡ (((x 1 1 0) ∷ []) ∷ [])
forgotten_tried s1 = refl

forgotten_outcomes : (s1 : List Statement) → (account_of (terms dynamic_rules 30 10 300 4 1000 256) (calls_forgotten s1) (steps_forgotten s1)).outcomes ≡ []
forgotten_outcomes s1 = refl
