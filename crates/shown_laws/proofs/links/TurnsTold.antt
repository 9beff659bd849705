-- What a session served since its last Begin is not what is told of its connection's session,
-- replies and end.
use Rattle.std.proofs.Common.{◌≡◌, refl, sym, ap, subst, ◌∙◌, Bool, true, false, ℕ, zero, suc, ◌<◌, List, map, Option, Some, None, option_map}
use Rattle.svc_values.specs.declared.call.Call.{Call}
use Rattle.svc_values.specs.declared.entry.SessionId.{SessionId}
use Rattle.outage_schedule.specs.declared.item.Item.{Item}
use Rattle.outage_schedule.specs.declared.item.Item.TheVariants as item
use Rattle.shown_clauses.specs.meaning.Fronts.{changed_if, with_changed}
use Rattle.shown_clauses.specs.meaning.Links.{Link as Seen, has_session, link_of, in_turn, turn_begun, call_served, end_at, end_link, end_session}
use Rattle.world_model.specs.meaning.Links.{Link, link_at}
use Rattle.shown_laws.specs.Connections.{TellsReplies, TellsEnd, TellsLink, TellsAt, NoLink, Unnamed, Named}
use Rattle.shown_laws.proofs.links.ConnectionsTold.{AllTold}
use Rattle.shown_laws.proofs.links.EndsTold.{stays_at}
use Rattle.shown_laws.proofs.links.SeenLists.{link_changed, all_changed}

-- the same but for what was served since the last Begin, and who acquired it
pub record IsAlike (a b : Seen) : Type 0 where
  pub connection : b.connection ≡ a.connection
  pub session : b.session ≡ a.session
  pub replies : b.replies ≡ a.replies
  pub ended : b.ended ≡ a.ended

pub data IsTurned : Option Seen → Option Seen → Type 0 where
  NoneTurned : IsTurned None None
  OneTurned : (a b : Seen) → IsAlike a b → IsTurned (Some a) (Some b)

pub same_turned : (one : Option Seen) → IsTurned one one
same_turned None = NoneTurned
same_turned (Some a) = OneTurned a a (record { connection = refl; session = refl; replies = refl; ended = refl })

alike_told : (number : ℕ) (link : Link) (a b : Seen) → IsAlike a b → TellsLink number link a → TellsLink number link b
alike_told number link a b same is = record {
  connection = same.connection ∙ is.connection;
  session = is.session ∙ ap Some (sym same.session);
  replies = subst (TellsReplies link) (sym same.replies) is.replies;
  end = subst (TellsEnd link) (sym same.ended) is.end;
}

pub turned_told : (number : ℕ) (found : Option Link) (one other : Option Seen) → IsTurned one other → TellsAt number found one → TellsAt number found other
turned_told number found _ _ NoneTurned is = is
turned_told number found _ _ (OneTurned a b same) is = by found (Some a) refl is
  where
    by : (found : Option Link) (one : Option Seen) → one ≡ Some a → TellsAt number found one → TellsAt number found (Some b)
    by _ _ at NoLink = absurd (let none : ⊥ = cc in none)
    by _ _ at (Unnamed link here) = absurd (let none : ⊥ = cc in none)
    by _ _ at (Named link seen here) = let is_a : seen ≡ a = cc in Named link b (alike_told number link a b same (subst (TellsLink number link) is_a here))

-- A TURN ------------------------------------------------------------------------------------------

if_turned : (change : Seen → Seen) → ((one : Seen) → IsAlike one (change one)) → (test : Seen → Bool) (found : Option Seen) → IsTurned found (option_map (λ one. changed_if (test one) change one) found)
if_turned change alike test None = NoneTurned
if_turned change alike test (Some one) = by (test one)
  where
    by : (met : Bool) → IsTurned (Some one) (Some (changed_if met change one))
    by true = OneTurned one (change one) (alike one)
    by false = OneTurned one one (record { connection = refl; session = refl; replies = refl; ended = refl })

session_turned : (number : ℕ) (session : SessionId) (change : Seen → Seen) → ((one : Seen) → IsAlike one (change one)) → (told : List Seen) → IsTurned (link_of number told) (link_of number (with_changed (has_session session) change told))
session_turned number session change alike told =
    subst (IsTurned (link_of number told)) (sym (link_changed number (has_session session) change (λ one. (alike one).connection) told)) (if_turned change alike (has_session session) (link_of number told))

begun_alike : (one : Seen) → IsAlike one (turn_begun one)
begun_alike one = record { connection = refl; session = refl; replies = refl; ended = refl }

called_alike : (replay : Bool) (call : Call) (one : Seen) → IsAlike one (call_served replay call one)
called_alike replay call one = record { connection = refl; session = refl; replies = refl; ended = refl }

pub in_turn_is : (number : ℕ) (session : SessionId) (one : Item) (told : List Seen) → IsTurned (link_of number told) (link_of number (in_turn session one told))
in_turn_is number session (item.Begin settings) told = session_turned number session turn_begun begun_alike told
in_turn_is number session (item.Call replay call answers draws) told = session_turned number session (call_served replay call) (called_alike replay call) told
in_turn_is number session (item.Blocked call) told = session_turned number session (call_served false call) (called_alike false call) told
in_turn_is number session (item.CrashedCall replay call) told = session_turned number session (call_served replay call) (called_alike replay call) told
in_turn_is number session item.Connect told = same_turned (link_of number told)
in_turn_is number session (item.Outcome x result) told = same_turned (link_of number told)
in_turn_is number session item.End told = same_turned (link_of number told)
in_turn_is number session item.Close told = same_turned (link_of number told)
in_turn_is number session (item.Refused cause) told = same_turned (link_of number told)
in_turn_is number session (item.CrashedOutcome x) told = same_turned (link_of number told)

pub in_turn_told : (session : SessionId) (one : Item) (links : List Link) (told : List Seen) → AllTold links told → AllTold links (in_turn session one told)
in_turn_told session one links told all number = turned_told number (link_at links number) (link_of number told) (link_of number (in_turn session one told)) (in_turn_is number session one told) (all number)

-- ENDED TWICE -------------------------------------------------------------------------------------

pub end_turned : (event : ℕ) (one other : Option Seen) → IsTurned one other → IsTurned (option_map (end_link event) one) (option_map (end_link event) other)
end_turned event _ _ NoneTurned = NoneTurned
end_turned event _ _ (OneTurned a b same) = OneTurned (end_link event a) (end_link event b) (record { connection = same.connection; session = same.session; replies = same.replies; ended = ap (end_at event) same.ended })

end_twice : (event told : ℕ) → 0 < event → end_at event (end_at event told) ≡ end_at event told
end_twice event zero some = sym (stays_at event event some)
end_twice event (suc before) some = refl

ended_once : (event : ℕ) (test : Seen → Bool) (found : Option Seen) → 0 < event → option_map (end_link event) (option_map (λ one. changed_if (test one) (end_link event) one) found) ≡ option_map (end_link event) found
ended_once event test None some = refl
ended_once event test (Some one) some = by (test one)
  where
    by : (met : Bool) → ◌≡◌ {A = Option Seen} (Some (end_link event (changed_if met (end_link event) one))) (Some (end_link event one))
    by true = ap (λ (at : ℕ). Some (record one { ended = at })) (end_twice event one.ended some)
    by false = refl

all_ended : (number event : ℕ) (session : SessionId) (told : List Seen) → 0 < event → link_of number (map (end_link event) (with_changed (has_session session) (end_link event) told)) ≡ option_map (end_link event) (link_of number told)
all_ended number event session told some =
    all_changed number (end_link event) (λ one. refl) (with_changed (has_session session) (end_link event) told)
    ∙ (ap (option_map (end_link event)) (link_changed number (has_session session) (end_link event) (λ one. refl) told) ∙ ended_once event (has_session session) (link_of number told) some)

-- Where all end in an event, none is ended earlier by an item of it.
pub crash_ends : (number event : ℕ) (session : SessionId) (one : Item) (told : List Seen) → 0 < event → link_of number (map (end_link event) (end_session event session one told)) ≡ option_map (end_link event) (link_of number told)
crash_ends number event session (item.Blocked call) told some = all_ended number event session told some
crash_ends number event session (item.Refused cause) told some = all_ended number event session told some
crash_ends number event session (item.Begin settings) told some = all_changed number (end_link event) (λ seen. refl) told
crash_ends number event session (item.Call replay call answers draws) told some = all_changed number (end_link event) (λ seen. refl) told
crash_ends number event session (item.CrashedCall replay call) told some = all_changed number (end_link event) (λ seen. refl) told
crash_ends number event session item.Connect told some = all_changed number (end_link event) (λ seen. refl) told
crash_ends number event session (item.Outcome x result) told some = all_changed number (end_link event) (λ seen. refl) told
crash_ends number event session item.End told some = all_changed number (end_link event) (λ seen. refl) told
crash_ends number event session item.Close told some = all_changed number (end_link event) (λ seen. refl) told
crash_ends number event session (item.CrashedOutcome x) told some = all_changed number (end_link event) (λ seen. refl) told
