-- How a service answers the question for an outcome: it refuses it, or it tells what the table says
-- on its store.
use Rattle.std.proofs.Common.{◌≡◌, refl, sym, ap, ◌∙◌, true, ℕ, ◌||◌, List, [], ◌∷◌, ◌⊎◌, inl, inr}
use Rattle.std.specs.List.{list_any}
use Rattle.std.proofs.lemmas.Bool.{or_left, or_right, or_cases}
use Rattle.svc_values.specs.declared.entry.Ltxid.{Ltxid}
use Rattle.svc_values.specs.declared.entry.SessionId.{SessionId}
use Rattle.svc_values.specs.declared.frame.Up.{Up}
use Rattle.svc_values.specs.declared.frame.Up.TheVariants as up
use Rattle.svc_values.specs.declared.frame.Down.{Down}
use Rattle.svc_values.specs.declared.frame.Down.TheVariants as down
use Rattle.svc_values.specs.meaning.Identifiers.{same_ltxid}
use Rattle.svc_values.specs.SameLaws.{same_ltxid_decides}
use Rattle.ltxid_book.specs.meaning.Journal.{is_blocked}
use Rattle.ltxid_book.specs.declared.verdict.Verdict.{Verdict}
use Rattle.ltxid_book.specs.declared.verdict.Verdict.TheVariants as verdict
use Rattle.outage_schedule.specs.declared.note.AskResult.{AskResult}
use Rattle.outage_schedule.specs.declared.note.AskResult.TheVariants as told
use Rattle.run_clauses.specs.meaning.Tried.{holds}
use Rattle.server_model.specs.Core.{Core}
use Rattle.server_model.specs.Sessions.{Sess}
use Rattle.server_model.specs.meaning.Outcomes.{Telling, Says, Stopped}
use Rattle.server_model.specs.Outcomes.{Outcomes, IsTold, BlockStops, down_of, verdict_on, if_blocks}
use Rattle.server_model.specs.Serve.{Serve, Connects, Begins, Ends, Closes, Asks, Runs as Serves, Refuses}
use Rattle.server_model.specs.Runs.{Happened, Served, Asked, Server, Moves, Makes, Answers, Halts, Loses, AnswersAsk, HaltsInAsk, Reaps, Falls, Opens, StopsOpening}
use Rattle.world_model.specs.meaning.Serving.{outcome_frame}
use Rattle.world_model.proofs.number.GainedOne.{first_frame}

-- THE MOVE ----------------------------------------------------------------------------------------

-- an answer to the question for an outcome: it was refused, or is by the table on the store, which
-- gained no entry
abbrev pub IsAnswer : Core → Core → Ltxid → Down → Type 0
IsAnswer core after x frame = (frame ≡ down.Refused 2) ⊎ ((frame ≡ down_of (verdict_on core x)) × (after.entries ≡ core.entries))

pub blocks_none : (judged : Verdict) (core : Core) (x : Ltxid) → (if_blocks judged core x).entries ≡ core.entries
blocks_none verdict.BlockIt core x = refl
blocks_none verdict.AlreadyBlocked core x = refl
blocks_none (verdict.Committed completed) core x = refl
blocks_none (verdict.ServerAhead next) core x = refl
blocks_none (verdict.ClientAhead next) core x = refl
blocks_none (verdict.Forgotten horizon) core x = refl

says_same : (a b : Down) → Says a ≡ Says b → a ≡ b
says_same a b is = cc

asks_same : (a b : Ltxid) → up.Outcome a ≡ up.Outcome b → a ≡ b
asks_same a b is = cc

pub outcomes_answer : (core : Core) (y : Ltxid) (after : Core) (said : Telling) → Outcomes core y after said → (x : Ltxid) (frame : Down) → y ≡ x → said ≡ Says frame → IsAnswer core after x frame
outcomes_answer core y _ _ (IsTold judged is) x frame same says =
    let told : down_of judged ≡ frame = says_same (down_of judged) frame says in
    inr (sym told ∙ (ap down_of (sym is) ∙ ap (λ (z : Ltxid). down_of (verdict_on core z)) same), blocks_none judged core y)
outcomes_answer core y _ _ (BlockStops after is either) x frame same says = absurd (let none : ⊥ = cc in none)

serve_answer : (core : Core) (sess : Sess) (now : ℕ) (asked : Up) (after : Core) (t : Sess) (said : Telling) → Serve core sess now asked after t said → (x : Ltxid) (frame : Down) → asked ≡ up.Outcome x → said ≡ Says frame → IsAnswer core after x frame
serve_answer core sess now _ _ _ _ (Connects life) x frame is says = absurd (let none : ⊥ = cc in none)
serve_answer core sess now _ _ _ _ (Begins settings serving) x frame is says = absurd (let none : ⊥ = cc in none)
serve_answer core sess now _ _ _ _ (Ends serving) x frame is says = absurd (let none : ⊥ = cc in none)
serve_answer core sess now _ _ _ _ (Closes serving) x frame is says = absurd (let none : ⊥ = cc in none)
serve_answer core sess now _ _ _ _ (Asks y after said serving asked) x frame is says = outcomes_answer core y after said asked x frame (asks_same y x is) says
serve_answer core sess now _ _ _ _ (Serves replay kept called after t said begun calls) x frame is says = absurd (let none : ⊥ = cc in none)
serve_answer core sess now _ _ _ _ (Refuses asked out) x frame is says = inl (sym (says_same (down.Refused 2) frame says))

abbrev telling_in : Happened → Telling → Telling
telling_in (Served session now frame told) other = told
telling_in (Asked x told) other = told

abbrev first_telling : List Happened → Telling → Telling
first_telling [] other = other
first_telling (one ∷ rest) other = telling_in one other

turned_answer : (server after : Server) (core : Core) (x : Ltxid) (frame : Down) → after.core ≡ core → IsAnswer server.core core x frame → IsAnswer server.core after.core x frame
turned_answer server after core x frame is (inl refused) = inl refused
turned_answer server after core x frame is (inr answer) = inr (answer.0, ap (λ (c : Core). c.entries) is ∙ answer.1)

pub move_answer : (server after : Server) (more : List Happened) → Moves server more after → (session : SessionId) (now : ℕ) (x : Ltxid) (frame : Down) → more ≡ Served session now (up.Outcome x) (Says frame) ∷ [] → IsAnswer server.core after.core x frame
move_answer server _ _ (Makes on) session now x frame is = absurd (let none : ⊥ = cc in none)
move_answer server _ _ (Answers old new at one core said after on serve answered turns) session now x frame is =
    turned_answer server after core x frame (ap (λ (s : Server). s.core) turns.turned) (serve_answer server.core old at one core new said serve x frame (ap (λ (list : List Happened). first_frame list one) is) (ap (λ (list : List Happened). first_telling list said) is))
move_answer server _ _ (Halts old new at one core said after running serve turns) session now x frame is = absurd (let never : Stopped ≡ Says frame = ap (λ (list : List Happened). first_telling list Stopped) is in let none : ⊥ = cc in none)
move_answer server _ _ (Loses old at one after halted turns) session now x frame is = absurd (let never : Stopped ≡ Says frame = ap (λ (list : List Happened). first_telling list Stopped) is in let none : ⊥ = cc in none)
move_answer server _ _ (AnswersAsk y core said on asks) session now x frame is = absurd (let none : ⊥ = cc in none)
move_answer server _ _ (HaltsInAsk y core said running asks) session now x frame is = absurd (let none : ⊥ = cc in none)
move_answer server _ _ (Reaps front back sess split) session now x frame is = absurd (let none : ⊥ = cc in none)
move_answer server _ _ Falls session now x frame is = absurd (let none : ⊥ = cc in none)
move_answer server _ _ (Opens below off may) session now x frame is = absurd (let none : ⊥ = cc in none)
move_answer server _ _ (StopsOpening below core off may same) session now x frame is = absurd (let none : ⊥ = cc in none)

-- BLOCKS ------------------------------------------------------------------------------------------

same_turned : (x y : Ltxid) → same_ltxid x y ≡ true → same_ltxid y x ≡ true
same_turned x y is = (same_ltxid_decides y x).1 (sym ((same_ltxid_decides x y).0 is))

pub blocked_holds : (blocked : List Ltxid) (x : Ltxid) → is_blocked blocked x ≡ true → holds blocked x ≡ true
blocked_holds [] x is = absurd (let none : ⊥ = cc in none)
blocked_holds (one ∷ blocked) x is = by (or_cases (same_ltxid one x) (is_blocked blocked x) is) (λ later. blocked_holds blocked x later)
  where
    by : (same_ltxid one x ≡ true) ⊎ (is_blocked blocked x ≡ true) → (is_blocked blocked x ≡ true → holds blocked x ≡ true) → (same_ltxid x one || list_any (same_ltxid x) blocked) ≡ true
    by (inl here) again = or_left (same_ltxid x one) (list_any (same_ltxid x) blocked) (same_turned one x here)
    by (inr later) again = or_right (same_ltxid x one) (list_any (same_ltxid x) blocked) (again later)

-- no outcome refuses a frame
pub not_refused : (result : AskResult) → outcome_frame result ≡ down.Refused 2 → ⊥
not_refused (told.Committed completed) is = let none : ⊥ = cc in none
not_refused told.Uncommitted is = let none : ⊥ = cc in none
not_refused (told.ServerAhead next) is = let none : ⊥ = cc in none
not_refused (told.ClientAhead next) is = let none : ⊥ = cc in none
not_refused (told.Forgotten horizon) is = let none : ⊥ = cc in none
