-- What a step notes: a call without the mark under the identifier that the request goes by, and the
-- answers of a reply that is shown.
use Rattle.std.proofs.Common.{◌≡◌, refl, sym, ap, subst, ◌∙◌, Bool, true, false, ℕ, ◌+◌, ◌≤◌, ◌&&◌, cond, length, fold, map, List, [], ◌∷◌, ◌++◌, Option, Some, None, arith}
use Rattle.std.specs.Prelude.{◌==◌, count_by}
use Rattle.std.specs.Cmp.Lexicographic.{pointwise}
use Rattle.std.specs.List.{list_all, list_any}
use Rattle.std.specs.Option.{option_map_or}
use Rattle.std.proofs.lemmas.Bool.{and_parts, and_from}
use Rattle.std.proofs.lemmas.List.{take-append-le, take_all}
use Rattle.std.proofs.lemmas.List.Sums.{sum_by_push}
use Rattle.svc_values.specs.declared.answer.Answer.{Answer}
use Rattle.svc_values.specs.declared.call.Call.{Call}
use Rattle.svc_values.specs.declared.entry.Ltxid.{Ltxid}
use Rattle.svc_values.specs.declared.frame.Down.TheVariants as down
use Rattle.svc_values.specs.declared.frame.Up.{Up}
use Rattle.svc_values.specs.declared.frame.Up.TheVariants as up
use Rattle.svc_values.specs.declared.value.Value.{Value}
use Rattle.svc_values.specs.meaning.Endings.{ends_transaction}
use Rattle.svc_values.specs.meaning.Identifiers.{same_ltxid}
use Rattle.svc_values.specs.meaning.Same.{same_call}
use Rattle.svc_values.specs.SameLaws.{same_answers_decide, same_call_decides, same_ltxid_decides}
use Rattle.outage_schedule.specs.declared.request.ShownCall.{ShownCall}
use Rattle.client_model.specs.declared.act.Shown.{Shown}
use Rattle.client_model.specs.declared.input.Input.{Input}
use Rattle.client_model.specs.declared.input.Input.TheVariants.{Start, Waiting, Lent, Opened, TryFailed, Took, Gone}
use Rattle.client_model.specs.meaning.Account.{Account, after_step}
use Rattle.client_model.specs.meaning.Conversation.{Done}
use Rattle.client_model.specs.meaning.Terms.{Terms}
use Rattle.client_model.specs.meaning.Tried.{Sending as Noted, replied, with_answer, over_after, sent_under}
use Rattle.client_model.specs.Tried.{sent_with, sent_in}
use Rattle.run_clauses.specs.meaning.Reports.{shown_call}
use Rattle.invariant_laws.specs.Once.{is_noted, same_taken, transaction_at}
use Rattle.world_model.specs.Parts.{Sending, answered, with_taken, is_unmarked_frame}
use Rattle.invariant_laws.proofs.entries.NotedLists.{IsNoted, noted_from}
use Rattle.world_model.proofs.Offered.{opening, eq_to, le_from}
use Rattle.invariant_laws.proofs.sendings.SendingsTaken.{taken_among}

-- PAIRS -------------------------------------------------------------------------------------------

taken_self : (taken : Option (List Answer)) → same_taken taken taken ≡ true
taken_self None = refl
taken_self (Some answers) = (same_answers_decide answers answers).1 refl

pub noted_to : (shown : List ShownCall) (noted : Noted) (sending : Sending) → IsNoted shown noted sending → is_noted shown noted sending ≡ true
noted_to shown noted sending is =
    and_from (same_ltxid noted.ltxid sending.ltxid) (same_call noted.call sending.call && (same_taken noted.reply sending.taken && (noted.transaction == transaction_at shown sending.at))) ((same_ltxid_decides noted.ltxid sending.ltxid).1 is.ltxid)
    (and_from (same_call noted.call sending.call) (same_taken noted.reply sending.taken && (noted.transaction == transaction_at shown sending.at)) ((same_call_decides noted.call sending.call).1 is.call)
    (and_from (same_taken noted.reply sending.taken) (noted.transaction == transaction_at shown sending.at) (subst (λ (taken : Option (List Answer)). same_taken noted.reply taken ≡ true) is.reply (taken_self noted.reply))
    (eq_to noted.transaction (transaction_at shown sending.at) is.transaction)))

abbrev pub Agrees : List ShownCall → List Noted → List Sending → Type 0
Agrees shown noted sendings = pointwise (is_noted shown) noted sendings ≡ true

-- A REPLY -----------------------------------------------------------------------------------------

taken_agrees : (shown : List ShownCall) (answers : List Answer) (noted : List Noted) (sendings : List Sending) → Agrees shown noted sendings → Agrees shown (with_answer answers noted) (with_taken answers sendings)
taken_agrees shown answers [] [] agrees = refl
taken_agrees shown answers [] (y ∷ ys) agrees = absurd (let none : ⊥ = cc in none)
taken_agrees shown answers (x ∷ xs) [] agrees = absurd (let none : ⊥ = cc in none)
taken_agrees shown answers (x ∷ xs) (y ∷ ys) agrees =
    let parts = and_parts (is_noted shown x y) (pointwise (is_noted shown) xs ys) agrees in
    let is : IsNoted shown x y = noted_from shown x y parts.0 in
    and_from (is_noted shown (record x { reply = Some answers }) (record y { taken = Some answers })) (pointwise (is_noted shown) xs ys)
    (noted_to shown (record x { reply = Some answers }) (record y { taken = Some answers }) (record { ltxid = is.ltxid; call = is.call; reply = refl; transaction = is.transaction })) parts.1

pub replied_agrees : (shown : List ShownCall) (input : Input) (one : Option Shown) (noted : List Noted) (sendings : List Sending) → Agrees shown noted sendings → Agrees shown (replied input one noted) (answered input one sendings)
replied_agrees shown (Took (down.Reply answers draws x) alive) (Some one) noted sendings agrees = taken_agrees shown answers noted sendings agrees
replied_agrees shown (Took (down.Reply answers draws x) alive) None noted sendings agrees = agrees
replied_agrees shown (Took (down.Hello x) alive) one noted sendings agrees = agrees
replied_agrees shown (Took (down.OutcomeIs committed completed) alive) one noted sendings agrees = agrees
replied_agrees shown (Took (down.OutcomeRefused ahead horizon) alive) one noted sendings agrees = agrees
replied_agrees shown (Took down.Blocked alive) one noted sendings agrees = agrees
replied_agrees shown (Took (down.Refused cause) alive) one noted sendings agrees = agrees
replied_agrees shown Start one noted sendings agrees = agrees
replied_agrees shown Waiting one noted sendings agrees = agrees
replied_agrees shown (Lent connection ltxid) one noted sendings agrees = agrees
replied_agrees shown (Opened connection) one noted sendings agrees = agrees
replied_agrees shown TryFailed one noted sendings agrees = agrees
replied_agrees shown (Gone event) one noted sendings agrees = agrees

-- A CALL THAT IS SHOWN ----------------------------------------------------------------------------

-- the places before it are of the transactions of before
pub place_before : (shown more : List ShownCall) (at : ℕ) → at ≤ length shown → transaction_at (shown ++ more) at ≡ transaction_at shown at
place_before shown more at most = ap (count_by (λ (call : ShownCall). ends_transaction call.answers)) (take-append-le at shown more most)

pub further_agrees : (shown more : List ShownCall) (noted : List Noted) (sendings : List Sending) → list_all (taken_among (length shown)) sendings ≡ true → Agrees shown noted sendings → Agrees (shown ++ more) noted sendings
further_agrees shown more [] [] most agrees = refl
further_agrees shown more [] (y ∷ ys) most agrees = absurd (let none : ⊥ = cc in none)
further_agrees shown more (x ∷ xs) [] most agrees = absurd (let none : ⊥ = cc in none)
further_agrees shown more (x ∷ xs) (y ∷ ys) most agrees =
    let parts = and_parts (is_noted shown x y) (pointwise (is_noted shown) xs ys) agrees in
    let all = and_parts (taken_among (length shown) y) (list_all (taken_among (length shown)) ys) most in
    let is : IsNoted shown x y = noted_from shown x y parts.0 in
    let least : y.at ≤ length shown = le_from y.at (length shown) (and_parts _ _ all.0).0 in
    and_from (is_noted (shown ++ more) x y) (pointwise (is_noted (shown ++ more)) xs ys)
    (noted_to (shown ++ more) x y (record { ltxid = is.ltxid; call = is.call; reply = is.reply; transaction = is.transaction ∙ sym (place_before shown more y.at least) })) (further_agrees shown more xs ys all.1 parts.1)

-- how many transactions are over behind it
pub over_more : (shown : List ShownCall) (one : Shown) (over : ℕ) → over ≡ transaction_at shown (length shown) → over_after over (Some one) ≡ transaction_at (shown ++ shown_call one ∷ []) (length (shown ++ shown_call one ∷ []))
over_more shown one over is =
    let ends = λ (call : ShownCall). ends_transaction call.answers in
    let before : over ≡ count_by ends shown = is ∙ ap (count_by ends) (take_all (length shown) shown (omega arith)) in
    let behind : transaction_at (shown ++ shown_call one ∷ []) (length (shown ++ shown_call one ∷ [])) ≡ count_by ends (shown ++ shown_call one ∷ []) =
    ap (count_by ends) (take_all (length (shown ++ shown_call one ∷ [])) (shown ++ shown_call one ∷ []) (omega arith)) in
    by (ends_transaction one.answers) ∙ (ap (λ (n : ℕ). n + cond (ends_transaction one.answers) 1 0) before ∙ (sym (sum_by_push (λ (call : ShownCall). cond (ends_transaction call.answers) 1 0) shown (shown_call one)) ∙ sym behind))
  where
    by : (test : Bool) → cond test (over + 1) over ≡ over + cond test 1 0
    by true = refl
    by false = omega arith

-- FRAMES ------------------------------------------------------------------------------------------

pub silent_noted : (held : Option Ltxid) (over : ℕ) (frames : List Up) (noted : List Noted) → list_any is_unmarked_frame frames ≡ false → fold (sent_under held over) noted frames ≡ noted
silent_noted held over [] noted none = refl
silent_noted held over (up.Call false kept call ∷ frames) noted none = absurd (let never : ⊥ = cc in never)
silent_noted None over (up.Call true kept call ∷ frames) noted none = silent_noted None over frames noted none
silent_noted None over (up.Connect ∷ frames) noted none = silent_noted None over frames noted none
silent_noted None over (up.Begin settings ∷ frames) noted none = silent_noted None over frames noted none
silent_noted None over (up.Outcome x ∷ frames) noted none = silent_noted None over frames noted none
silent_noted None over (up.End ∷ frames) noted none = silent_noted None over frames noted none
silent_noted None over (up.Close ∷ frames) noted none = silent_noted None over frames noted none
silent_noted (Some y) over (up.Call true kept call ∷ frames) noted none = silent_noted (Some y) over frames noted none
silent_noted (Some y) over (up.Connect ∷ frames) noted none = silent_noted (Some y) over frames noted none
silent_noted (Some y) over (up.Begin settings ∷ frames) noted none = silent_noted (Some y) over frames noted none
silent_noted (Some y) over (up.Outcome x ∷ frames) noted none = silent_noted (Some y) over frames noted none
silent_noted (Some y) over (up.End ∷ frames) noted none = silent_noted (Some y) over frames noted none
silent_noted (Some y) over (up.Close ∷ frames) noted none = silent_noted (Some y) over frames noted none

abbrev pub note : Call → ℕ → Ltxid → Noted
note call over x = record { call = call; transaction = over; ltxid = x; reply = None }

pub called_noted : (held : Option Ltxid) (over : ℕ) (begun : Bool) (settings : List (List ℕ × Value)) (call : Call) (noted : List Noted)
    → fold (sent_under held over) noted (opening begun settings ++ up.Call false [] call ∷ []) ≡ option_map_or (λ x. note call over x ∷ noted) held noted
called_noted None over true settings call noted = refl
called_noted None over false settings call noted = refl
called_noted (Some x) over true settings call noted = refl
called_noted (Some x) over false settings call noted = refl

pub called_sent : (held : Option Ltxid) (begun : Bool) (settings : List (List ℕ × Value)) (call : Call) (sent : List (Call × Option Ltxid)) → fold (sent_with held) sent (opening begun settings ++ up.Call false [] call ∷ []) ≡ (call, held) ∷ sent
called_sent held true settings call sent = refl
called_sent held false settings call sent = refl

-- what is noted of one, beside its place
abbrev pub noted_as : Noted → Call × Option Ltxid
noted_as one = (one.call, Some one.ltxid)

answered_same : (answers : List Answer) (noted : List Noted) → map noted_as (with_answer answers noted) ≡ map noted_as noted
answered_same answers [] = refl
answered_same answers (one ∷ earlier) = refl

pub replied_same : (input : Input) (shown : Option Shown) (noted : List Noted) → map noted_as (replied input shown noted) ≡ map noted_as noted
replied_same (Took (down.Reply answers draws ltxid) alive) (Some shown) noted = answered_same answers noted
replied_same _ _ noted = refl

-- one step more
pub sent_more : (terms : Terms) (calls : List Call) (a : Account) (sent : List (Call × Option Ltxid)) (dones : List Done) (done : Done)
    → sent_in terms calls a sent (dones ++ done ∷ []) ≡ fold (sent_with (after_step terms calls (fold (after_step terms calls) a dones) done).held) (sent_in terms calls a sent dones) done.act.send
sent_more terms calls a sent [] done = refl
sent_more terms calls a sent (first ∷ dones) done = sent_more terms calls (after_step terms calls a first) (fold (sent_with (after_step terms calls a first).held) sent first.act.send) dones done

abbrev first_held : List (Call × Option Ltxid) → Option Ltxid → Option Ltxid
first_held [] other = other
first_held (one ∷ rest) other = one.1

-- where the last thing that is noted is the call, it is under this identifier
pub head_held : (call : Call) (over : ℕ) (held account : Option Ltxid) (noted : List Noted) (sent : List (Call × Option Ltxid)) → map noted_as noted ≡ sent
    → map noted_as (option_map_or (λ x. note call over x ∷ noted) held noted) ≡ (call, account) ∷ sent → held ≡ account
head_held call over (Some x) account noted sent before behind = ap (λ (list : List (Call × Option Ltxid)). first_held list account) behind
head_held call over None account noted sent before behind =
    let same : length sent ≡ length ((call, account) ∷ sent) = ap length (sym before ∙ behind) in absurd (let never : ⊥ = omega (arith, same) in never)
