-- What is told of a frame that is answered in order was added to the store.
use Rattle.std.proofs.Common.{◌≡◌, ◌≤◌, ℕ, ◌+◌, Bool, true, false, List, [], ◌∷◌, ◌++◌, Option, Some, None, length, refl, sym, ◌∙◌, subst, arith}
use Rattle.std.specs.Prelude.{◌||◌, not, cond}
use Rattle.std.proofs.lemmas.List.{append_cancel_left}
use Rattle.svc_values.specs.declared.answer.Answer.{Answer}
use Rattle.svc_values.specs.declared.call.Call.{Call}
use Rattle.svc_values.specs.declared.call.Call.TheVariants as call
use Rattle.svc_values.specs.declared.draw.Draw.{Draw}
use Rattle.svc_values.specs.declared.entry.Entry.{Entry}
use Rattle.svc_values.specs.declared.entry.Ltxid.{Ltxid}
use Rattle.svc_values.specs.declared.entry.SessionId.{SessionId}
use Rattle.svc_values.specs.declared.frame.Up.{Up}
use Rattle.svc_values.specs.declared.frame.Up.TheVariants as up
use Rattle.svc_values.specs.declared.frame.Down.{Down}
use Rattle.svc_values.specs.declared.frame.Down.TheVariants as down
use Rattle.svc_values.specs.declared.value.Value.{Value}
use Rattle.svc_values.specs.meaning.Endings.{ends_committed}
use Rattle.ltxid_book.specs.meaning.Journal.{is_blocked}
use Rattle.ltxid_book.specs.declared.verdict.Verdict.{Verdict}
use Rattle.ltxid_book.specs.declared.verdict.Verdict.TheVariants as verdict
use Rattle.outage_schedule.specs.declared.item.Item.TheVariants as item
use Rattle.outage_schedule.specs.declared.note.AskResult.{AskResult}
use Rattle.outage_schedule.specs.declared.note.AskResult.TheVariants as told
use Rattle.server_model.specs.meaning.Outcomes.{telling_of}
use Rattle.server_model.specs.Outcomes.{down_of}
use Rattle.server_model.specs.Runs.{Happened}
use Rattle.server_model.specs.Seen.{Store}
use Rattle.server_model.specs.ServiceCalls.{Gains, AddsLine, StoresTold}
use Rattle.world_model.specs.meaning.Crashing.{is_alert, is_new_block}
use Rattle.world_model.specs.meaning.Machines.{Server}
use Rattle.world_model.specs.meaning.Serving.{identifier, outcome_frame}
use Rattle.world_core.specs.Answering.{served_item, result_of}
use Rattle.world_core.specs.Stopping.{AreKnown}
use Rattle.world_core.proofs.frames.InOrder.{Answers, Connects, Begins, Replies, Blocks, Tells, Ends, Closes, commits_in}

false_true : {A : Type 0} → ◌≡◌ {A = Bool} false true → A
false_true e = absurd (let nothing : ⊥ = cc in nothing)

-- one is among what was added
pub one_added : {A : Type 0} (old more new : List A) (one : A) → new ≡ old ++ more → new ≡ old ++ one ∷ [] → 1 ≤ length more
one_added old more new one all is =
    let same : one ∷ [] ≡ more = append_cancel_left old (one ∷ []) more (sym is ∙ all) in
    subst (λ list. 1 ≤ length list) same (at_least 0)
  where
    at_least : (n : ℕ) → 1 ≤ n + 1
    at_least n = omega arith

-- COMMITS -----------------------------------------------------------------------------------------

-- what kind of answer a frame has in order
pub data Kind : Up → Option Down → Type 0 where
  Greets : (x : Ltxid) → Kind up.Connect (Some (down.Hello x))
  KindBegins : (settings : List (List ℕ × Value)) → Kind (up.Begin settings) None
  KindReplies : (replay : Bool) (kept : List Draw) (called : Call) (answers : List Answer) (draws : List Draw) (x : Ltxid) → Kind (up.Call replay kept called) (Some (down.Reply answers draws x))
  KindBlocks : (replay : Bool) (kept : List Draw) (called : Call) → Kind (up.Call replay kept called) (Some down.Blocked)
  KindTells : (x : Ltxid) (result : AskResult) → Kind (up.Outcome x) (Some (outcome_frame result))
  KindEnds : Kind up.End None
  KindCloses : Kind up.Close None

pub kind_added : (frame : Up) (reply : Option Down) (old new : Store) → Kind frame reply → StoresTold old frame (telling_of reply) new → commits_in reply ≡ true → (entry : Entry) × (new.entries ≡ old.entries ++ entry ∷ [])
kind_added _ _ old new (Greets x) stored is = false_true is
kind_added _ _ old new (KindBegins settings) stored is = false_true is
kind_added _ _ old new (KindReplies replay kept called answers draws x) stored is = stored.0 is
kind_added _ _ old new (KindBlocks replay kept called) stored is = false_true is
kind_added _ _ old new (KindTells x result) stored is = never result is
  where
    never : {A : Type 0} (result : AskResult) → commits_in (Some (outcome_frame result)) ≡ true → A
    never (told.Committed completed) e = false_true e
    never told.Uncommitted e = false_true e
    never (told.ServerAhead next) e = false_true e
    never (told.ClientAhead next) e = false_true e
    never (told.Forgotten horizon) e = false_true e
kind_added _ _ old new KindEnds stored is = false_true is
kind_added _ _ old new KindCloses stored is = false_true is

kind_by : (session : SessionId) (commits : ℕ) (frame : Up) (reply : Option Down) → Answers session commits frame reply → Kind frame reply
kind_by session commits _ _ Connects = Greets (identifier session commits)
kind_by session commits _ _ (Begins settings) = KindBegins settings
kind_by session commits _ _ (Replies replay kept called answers draws) = KindReplies replay kept called answers draws (identifier session (commits + cond (ends_committed answers) 1 0))
kind_by session commits _ _ (Blocks replay kept called) = KindBlocks replay kept called
kind_by session commits _ _ (Tells x result) = KindTells x result
kind_by session commits _ _ Ends = KindEnds
kind_by session commits _ _ Closes = KindCloses

pub entry_added : (session : SessionId) (commits : ℕ) (frame : Up) (reply : Option Down) (old new : Store) → Answers session commits frame reply → StoresTold old frame (telling_of reply) new → commits_in reply ≡ true
    → (entry : Entry) × (new.entries ≡ old.entries ++ entry ∷ [])
entry_added session commits frame reply old new answers stored is = kind_added frame reply old new (kind_by session commits frame reply answers) stored is

-- the frame that tells a verdict
pub same_frame : (judged : Verdict) → outcome_frame (result_of judged) ≡ down_of judged
same_frame (verdict.Committed completed) = refl
same_frame verdict.BlockIt = refl
same_frame verdict.AlreadyBlocked = refl
same_frame (verdict.ServerAhead next) = refl
same_frame (verdict.ClientAhead next) = refl
same_frame (verdict.Forgotten horizon) = refl

-- LINES AND BLOCKS --------------------------------------------------------------------------------

line_one : (called : Call) (replay : Bool) (answers : List Answer) (draws : List Draw) (server : Server) (happened : List Happened) (old new : Store) (gains : Gains happened old new) → AddsLine old called new
    → (is_alert (item.Call replay called answers draws) || is_new_block server (item.Call replay called answers draws)) ≡ true → 1 ≤ length gains.more_blocked + length gains.more_alerts
line_one (call.Alter line) replay answers draws server happened old new gains line_is is =
    let one = one_added old.alerts gains.more_alerts new.alerts line gains.alerts line_is in
    omega (arith, one)
line_one (call.Work statements commit) replay answers draws server happened old new gains line_is is = false_true is
line_one (call.Set name value) replay answers draws server happened old new gains line_is is = false_true is
line_one call.Disable replay answers draws server happened old new gains line_is is = false_true is
line_one call.Rollback replay answers draws server happened old new gains line_is is = false_true is

not_known : (known : Bool) → (false || not known) ≡ true → known ≡ false
not_known true e = false_true e
not_known false e = refl

unblocked : (blocked known : Bool) → (blocked ≡ true → known ≡ true) → known ≡ false → blocked ≡ false
unblocked true known all none = false_true (sym none ∙ all refl)
unblocked false known all none = refl

block_one : (x : Ltxid) (result : AskResult) (server : Server) (happened : List Happened) (old new : Store) (gains : Gains happened old new)
    → (is_blocked old.blocked x ≡ true → (is_blocked server.blocked x || is_blocked server.doubtful x) ≡ true) → StoresTold old (up.Outcome x) (telling_of (Some (outcome_frame result))) new
    → (is_alert (served_item (up.Outcome x) (Some (outcome_frame result))) || is_new_block server (served_item (up.Outcome x) (Some (outcome_frame result)))) ≡ true
    → 1 ≤ length gains.more_blocked + length gains.more_alerts
block_one x told.Uncommitted server happened old new gains known stored is =
    let free = unblocked (is_blocked old.blocked x) (is_blocked server.blocked x || is_blocked server.doubtful x) known (not_known (is_blocked server.blocked x || is_blocked server.doubtful x) is) in
    let one = one_added old.blocked gains.more_blocked new.blocked x gains.blocked (stored free) in
    omega (arith, one)
block_one x (told.Committed completed) server happened old new gains known stored is = false_true is
block_one x (told.ServerAhead next) server happened old new gains known stored is = false_true is
block_one x (told.ClientAhead next) server happened old new gains known stored is = false_true is
block_one x (told.Forgotten horizon) server happened old new gains known stored is = false_true is

-- a line that is answered, or a block that is new
pub others_added : (session : SessionId) (commits : ℕ) (frame : Up) (reply : Option Down) (server : Server) (happened : List Happened) (old new : Store) (gains : Gains happened old new) → Answers session commits frame reply
    → AreKnown server old.blocked → StoresTold old frame (telling_of reply) new
    → (is_alert (served_item frame reply) || is_new_block server (served_item frame reply)) ≡ true → 1 ≤ length gains.more_blocked + length gains.more_alerts
others_added session commits _ _ server happened old new gains Connects known stored is = false_true is
others_added session commits _ _ server happened old new gains (Begins settings) known stored is = false_true is
others_added session commits _ _ server happened old new gains (Replies replay kept called answers draws) known stored is = line_one called replay answers draws server happened old new gains stored.1 is
others_added session commits _ _ server happened old new gains (Blocks replay kept called) known stored is = false_true is
others_added session commits _ _ server happened old new gains (Tells x result) known stored is = block_one x result server happened old new gains (known x) stored is
others_added session commits _ _ server happened old new gains Ends known stored is = false_true is
others_added session commits _ _ server happened old new gains Closes known stored is = false_true is
