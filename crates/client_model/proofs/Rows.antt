-- What a client says at the inputs of whole runs. What is expected was written down from the rules
-- of the driver and not from the definitions; statements make no difference, so they are variables.
use Rattle.std.proofs.Common.{◌≡◌, pos, true, false, List, [], ◌∷◌, map, Some, None, refl}
use Rattle.svc_values.specs.declared.value.Value.TheVariants as value
use Rattle.svc_values.specs.declared.statement.Statement.{Statement}
use Rattle.svc_values.specs.declared.answer.Answer.TheVariants as answer
use Rattle.svc_values.specs.declared.call.Call.{Call}
use Rattle.svc_values.specs.declared.call.Call.TheVariants as call
use Rattle.svc_values.specs.declared.frame.Up.TheVariants as up
use Rattle.svc_values.specs.declared.frame.Down.TheVariants as down
use Rattle.request_bounds.specs.declared.rule.Why.TheVariants as why
use Rattle.request_bounds.specs.meaning.Rules.{static_rules, dynamic_rules}
use Rattle.client_model.specs.declared.input.Input.TheVariants.{Start, Opened, Took, Gone}
use Rattle.client_model.specs.declared.act.Hold.TheVariants.{Keep, GiveBack, Drop}
use Rattle.client_model.specs.declared.act.Failed.TheVariants.{Mismatch}
use Rattle.client_model.specs.meaning.Terms.{requested}
use Rattle.client_model.specs.meaning.Conversation.{Timed, Done}
use Rattle.client_model.specs.Conversation.{steps_of, MayCome}
use Rattle.client_model.specs.meaning.Account.{account_of}
use Rattle.client_model.specs.Reasons.{Dynamic, Static, reason_of}
use Rattle.client_model.specs.meaning.Tried.{tried_of}
use Rattle.client_model.proofs.RowWords.{x, act, outcome, terms}

-- a cut before a call was served
abbrev calls_cut_call : (s1 : List Statement) → List Call
calls_cut_call s1 = ((call.Work s1 false) ∷ (call.Work [] true) ∷ [])

abbrev inputs_cut_call : List Timed
inputs_cut_call =
    (Start, 0)
    ∷ ((Opened 1), 0)
    ∷ ((Took (down.Hello (x 1 1 0)) true), 0)
    ∷ ((Gone 4), 0)
    ∷ ((Opened 1), 1)
    ∷ ((Took (down.Hello (x 1 2 0)) true), 2)
    ∷ ((Took (down.OutcomeIs false false) true), 3)
    ∷ ((Took (down.Reply ((answer.Done 1) ∷ []) [] (x 1 2 0)) true), 4)
    ∷ ((Took (down.Reply (answer.Committed ∷ []) [] (x 1 2 1)) true), 5)
    ∷ []

abbrev steps_cut_call : (s1 : List Statement) → List Done
steps_cut_call s1 = steps_of (terms dynamic_rules 30 10 300 4 1000 256) (requested [] (calls_cut_call s1)) inputs_cut_call

cut_call : (s1 : List Statement) → map (λ done. done.act) (steps_cut_call s1) ≡
    (act [] None None Keep
    ∷ act (up.Connect ∷ []) None None Keep
    ∷ act ((up.Begin []) ∷ (up.Call false [] (call.Work s1 false)) ∷ []) None None Keep
    ∷ act [] None None Keep
    ∷ act (up.Connect ∷ []) None None Keep
    ∷ act ((up.Outcome (x 1 1 0)) ∷ []) None None Keep
    ∷ act ((up.Begin []) ∷ (up.Call false [] (call.Work s1 false)) ∷ []) None None Keep
    ∷ act ((up.Call false [] (call.Work [] true)) ∷ []) (Some (record { answers = ((answer.Done 1) ∷ []); draws = []; ltxid = (x 1 2 0) })) None Keep
    ∷ act (up.End ∷ []) (Some (record { answers = (answer.Committed ∷ []); draws = []; ltxid = (x 1 2 1) })) None GiveBack
    ∷ [])
cut_call s1 = refl

cut_call_comes : (s1 : List Statement) → MayCome (terms dynamic_rules 30 10 300 4 1000 256) (requested [] (calls_cut_call s1)) false inputs_cut_call
cut_call_comes s1 = (refl, (refl, (refl, (refl, (refl, (refl, (refl, (refl, (refl, tt)))))))))

cut_call_tried : (s1 : List Statement) → tried_of (steps_cut_call s1) ≡ (((x 1 2 0) ∷ []) ∷ [] ∷ [])
cut_call_tried s1 = refl

cut_call_outcomes : (s1 : List Statement) → (account_of (terms dynamic_rules 30 10 300 4 1000 256) (calls_cut_call s1) (steps_cut_call s1)).outcomes ≡ ((outcome (x 1 1 0) false false) ∷ [])
cut_call_outcomes s1 = refl

cut_call_reason : (s1 : List Statement) → reason_of Dynamic 256 (steps_cut_call s1) ≡ Some why.AfterCommit
cut_call_reason s1 = refl

-- a cut after a lone commit was served
abbrev calls_cut_commit : (s1 : List Statement) → List Call
calls_cut_commit s1 = ((call.Work s1 false) ∷ (call.Work [] true) ∷ [])

abbrev inputs_cut_commit : List Timed
inputs_cut_commit =
    (Start, 0)
    ∷ ((Opened 1), 0)
    ∷ ((Took (down.Hello (x 1 1 0)) true), 0)
    ∷ ((Took (down.Reply ((answer.Done 1) ∷ []) [] (x 1 1 0)) true), 0)
    ∷ ((Gone 8), 0)
    ∷ ((Opened 1), 1)
    ∷ ((Took (down.Hello (x 1 2 0)) true), 2)
    ∷ ((Took (down.OutcomeIs true true) true), 3)
    ∷ []

abbrev steps_cut_commit : (s1 : List Statement) → List Done
steps_cut_commit s1 = steps_of (terms dynamic_rules 30 10 300 4 1000 256) (requested [] (calls_cut_commit s1)) inputs_cut_commit

cut_commit : (s1 : List Statement) → map (λ done. done.act) (steps_cut_commit s1) ≡
    (act [] None None Keep
    ∷ act (up.Connect ∷ []) None None Keep
    ∷ act ((up.Begin []) ∷ (up.Call false [] (call.Work s1 false)) ∷ []) None None Keep
    ∷ act ((up.Call false [] (call.Work [] true)) ∷ []) (Some (record { answers = ((answer.Done 1) ∷ []); draws = []; ltxid = (x 1 1 0) })) None Keep
    ∷ act [] None None Keep
    ∷ act (up.Connect ∷ []) None None Keep
    ∷ act ((up.Outcome (x 1 1 0)) ∷ []) None None Keep
    ∷ act (up.End ∷ []) (Some (record { answers = (answer.Committed ∷ []); draws = []; ltxid = (x 1 2 0) })) None GiveBack
    ∷ [])
cut_commit s1 = refl

cut_commit_comes : (s1 : List Statement) → MayCome (terms dynamic_rules 30 10 300 4 1000 256) (requested [] (calls_cut_commit s1)) false inputs_cut_commit
cut_commit_comes s1 = (refl, (refl, (refl, (refl, (refl, (refl, (refl, (refl, tt))))))))

cut_commit_tried : (s1 : List Statement) → tried_of (steps_cut_commit s1) ≡ (((x 1 1 0) ∷ []) ∷ [] ∷ [])
cut_commit_tried s1 = refl

cut_commit_outcomes : (s1 : List Statement) → (account_of (terms dynamic_rules 30 10 300 4 1000 256) (calls_cut_commit s1) (steps_cut_commit s1)).outcomes ≡ ((outcome (x 1 1 0) true true) ∷ [])
cut_commit_outcomes s1 = refl

cut_commit_reason : (s1 : List Statement) → reason_of Dynamic 256 (steps_cut_commit s1) ≡ Some why.AfterCommit
cut_commit_reason s1 = refl

-- a repeated call that is answered otherwise
abbrev calls_differing : (s1 s2 : List Statement) → List Call
calls_differing s1 s2 = ((call.Work s1 false) ∷ (call.Work s2 true) ∷ [])

abbrev inputs_differing : List Timed
inputs_differing =
    (Start, 0)
    ∷ ((Opened 1), 0)
    ∷ ((Took (down.Hello (x 1 1 0)) true), 0)
    ∷ ((Took (down.Reply ((answer.Rows (((value.Int (pos 1)) ∷ (value.Int (pos 100)) ∷ []) ∷ [])) ∷ []) [] (x 1 1 0)) true), 0)
    ∷ ((Gone 7), 0)
    ∷ ((Opened 1), 1)
    ∷ ((Took (down.Hello (x 1 3 0)) true), 2)
    ∷ ((Took (down.OutcomeIs false false) true), 3)
    ∷ ((Took (down.Reply ((answer.Rows (((value.Int (pos 1)) ∷ (value.Int (pos 90)) ∷ []) ∷ [])) ∷ []) [] (x 1 3 0)) true), 4)
    ∷ []

abbrev steps_differing : (s1 s2 : List Statement) → List Done
steps_differing s1 s2 = steps_of (terms dynamic_rules 30 10 300 4 1000 256) (requested [] (calls_differing s1 s2)) inputs_differing

differing : (s1 s2 : List Statement) → map (λ done. done.act) (steps_differing s1 s2) ≡
    (act [] None None Keep
    ∷ act (up.Connect ∷ []) None None Keep
    ∷ act ((up.Begin []) ∷ (up.Call false [] (call.Work s1 false)) ∷ []) None None Keep
    ∷ act ((up.Call false [] (call.Work s2 true)) ∷ []) (Some (record { answers = ((answer.Rows (((value.Int (pos 1)) ∷ (value.Int (pos 100)) ∷ []) ∷ [])) ∷ []); draws = []; ltxid = (x 1 1 0) })) None Keep
    ∷ act [] None None Keep
    ∷ act (up.Connect ∷ []) None None Keep
    ∷ act ((up.Outcome (x 1 1 0)) ∷ []) None None Keep
    ∷ act ((up.Begin []) ∷ (up.Call true [] (call.Work s1 false)) ∷ []) None None Keep
    ∷ act (up.Close ∷ []) None (Some (Mismatch 0 (1 ∷ 1 ∷ 100 ∷ []) (1 ∷ 1 ∷ 90 ∷ []))) Drop
    ∷ [])
differing s1 s2 = refl

differing_comes : (s1 s2 : List Statement) → MayCome (terms dynamic_rules 30 10 300 4 1000 256) (requested [] (calls_differing s1 s2)) false inputs_differing
differing_comes s1 s2 = (refl, (refl, (refl, (refl, (refl, (refl, (refl, (refl, (refl, tt)))))))))

differing_tried : (s1 s2 : List Statement) → tried_of (steps_differing s1 s2) ≡ (((x 1 1 0) ∷ []) ∷ [])
differing_tried s1 s2 = refl

differing_outcomes : (s1 s2 : List Statement) → (account_of (terms dynamic_rules 30 10 300 4 1000 256) (calls_differing s1 s2) (steps_differing s1 s2)).outcomes ≡ ((outcome (x 1 1 0) false false) ∷ [])
differing_outcomes s1 s2 = refl

differing_reason : (s1 s2 : List Statement) → reason_of Dynamic 256 (steps_differing s1 s2) ≡ None
differing_reason s1 s2 = refl

-- two transactions, static
abbrev calls_two_static : (s1 s2 : List Statement) → List Call
calls_two_static s1 s2 = ((call.Work s1 false) ∷ (call.Work [] true) ∷ (call.Work s2 false) ∷ (call.Work [] true) ∷ [])

abbrev inputs_two_static : List Timed
inputs_two_static =
    (Start, 0)
    ∷ ((Opened 1), 0)
    ∷ ((Took (down.Hello (x 1 1 0)) true), 0)
    ∷ ((Took (down.Reply ((answer.Done 1) ∷ []) [] (x 1 1 0)) true), 0)
    ∷ ((Took (down.Reply (answer.Committed ∷ []) [] (x 1 1 1)) true), 0)
    ∷ ((Gone 9), 0)
    ∷ ((Opened 1), 1)
    ∷ ((Took (down.Hello (x 1 2 0)) true), 2)
    ∷ ((Took (down.OutcomeIs false false) true), 3)
    ∷ ((Took (down.Reply ((answer.Done 1) ∷ []) [] (x 1 2 0)) true), 4)
    ∷ ((Took (down.Reply (answer.Committed ∷ []) [] (x 1 2 1)) true), 5)
    ∷ []

abbrev steps_two_static : (s1 s2 : List Statement) → List Done
steps_two_static s1 s2 = steps_of (terms static_rules 30 10 300 4 1000 256) (requested [] (calls_two_static s1 s2)) inputs_two_static

two_static : (s1 s2 : List Statement) → map (λ done. done.act) (steps_two_static s1 s2) ≡
    (act [] None None Keep
    ∷ act (up.Connect ∷ []) None None Keep
    ∷ act ((up.Begin []) ∷ (up.Call false [] (call.Work s1 false)) ∷ []) None None Keep
    ∷ act ((up.Call false [] (call.Work [] true)) ∷ []) (Some (record { answers = ((answer.Done 1) ∷ []); draws = []; ltxid = (x 1 1 0) })) None Keep
    ∷ act ((up.Call false [] (call.Work s2 false)) ∷ []) (Some (record { answers = (answer.Committed ∷ []); draws = []; ltxid = (x 1 1 1) })) None Keep
    ∷ act [] None None Keep
    ∷ act (up.Connect ∷ []) None None Keep
    ∷ act ((up.Outcome (x 1 1 1)) ∷ []) None None Keep
    ∷ act ((up.Begin []) ∷ (up.Call false [] (call.Work s2 false)) ∷ []) None None Keep
    ∷ act ((up.Call false [] (call.Work [] true)) ∷ []) (Some (record { answers = ((answer.Done 1) ∷ []); draws = []; ltxid = (x 1 2 0) })) None Keep
    ∷ act (up.End ∷ []) (Some (record { answers = (answer.Committed ∷ []); draws = []; ltxid = (x 1 2 1) })) None GiveBack
    ∷ [])
two_static s1 s2 = refl

two_static_comes : (s1 s2 : List Statement) → MayCome (terms static_rules 30 10 300 4 1000 256) (requested [] (calls_two_static s1 s2)) false inputs_two_static
two_static_comes s1 s2 = (refl, (refl, (refl, (refl, (refl, (refl, (refl, (refl, (refl, (refl, (refl, tt)))))))))))

two_static_tried : (s1 s2 : List Statement) → tried_of (steps_two_static s1 s2) ≡ (((x 1 1 0) ∷ []) ∷ ((x 1 2 0) ∷ []) ∷ [] ∷ [])
two_static_tried s1 s2 = refl

two_static_outcomes : (s1 s2 : List Statement) → (account_of (terms static_rules 30 10 300 4 1000 256) (calls_two_static s1 s2) (steps_two_static s1 s2)).outcomes ≡ ((outcome (x 1 1 1) false false) ∷ [])
two_static_outcomes s1 s2 = refl

two_static_reason : (s1 s2 : List Statement) → reason_of Static 256 (steps_two_static s1 s2) ≡ None
two_static_reason s1 s2 = refl
