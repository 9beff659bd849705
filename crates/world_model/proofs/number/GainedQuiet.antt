-- A session whose frame an event does not serve gains no entry, and one that lives has as many as
-- it answered Committed.
use Rattle.std.proofs.Common.{◌≡◌, ◌≢◌, refl, sym, ap, subst, ◌∙◌, Bool, true, false, ℕ, ◌+◌, cond, List, [], ◌∷◌, ◌++◌, Option, Some, None, ◌⊎◌, inl, inr, if◌then◌else◌}
use Rattle.std.specs.Prelude.{All, Contains}
use Rattle.std.specs.Option.{option_map_or}
use Rattle.std.proofs.lemmas.List.Sums.{sum_by-append}
use Rattle.svc_values.specs.declared.entry.Entry.{Entry}
use Rattle.svc_values.specs.declared.entry.SessionId.{SessionId}
use Rattle.svc_values.specs.declared.frame.Up.{Up}
use Rattle.svc_values.specs.declared.frame.Up.TheVariants as up
use Rattle.svc_values.specs.meaning.Identifiers.{session_of, is_of_session}
use Rattle.outage_schedule.specs.declared.item.Served.{Served}
use Rattle.run_clauses.specs.meaning.EntryEvents.{entries_of}
use Rattle.server_model.specs.meaning.Outcomes.{Telling}
use Rattle.server_model.specs.Runs.{Happened, Served as ServedFrame, Asked as WasAsked}
use Rattle.server_model.specs.Laws.{CommitsAs}
use Rattle.server_model.specs.ServiceCalls.{CameFrom, IsOf}
use Rattle.server_model.specs.Seen.{Seen}
use Rattle.world_model.specs.Coupled.{Coupled, HasStored}
use Rattle.world_model.specs.records.Hold.{is_connect}
use Rattle.world_model.specs.meaning.Links.{Link, link_at}
use Rattle.world_model.specs.meaning.Machines.{Machine, next_session}
use Rattle.world_model.specs.meaning.Matching.{Noted, Went, ServedOn, CutOff, Reaped, Crashed, Opened, OpeningStopped, Ticked, RanOutside, Asked, Drained}
use Rattle.world_model.specs.Parts.{number_of}
use Rattle.world_model.specs.meaning.ServiceDid.{front_telling}
use Rattle.world_model.specs.ServiceDid.{front_served}
use Rattle.world_model.specs.meaning.Serving.{Front, front_at}
use Rattle.world_model.specs.Traced.{Traced}
use Rattle.world_model.proofs.events.AllLinks.{front_is}
use Rattle.world_model.proofs.number.Gaining.{commits_session, one_of, none_in, gains_none, DidOf}
use Rattle.std.proofs.lemmas.List.Elements.{All-contains}
use Rattle.world_model.proofs.events.Turning.{either}

-- COUNTS ------------------------------------------------------------------------------------------

pub entries_more : (entries more : List Entry) (session : SessionId) → entries_of (entries ++ more) session ≡ entries_of entries session + entries_of more session
entries_more entries more session = sum_by-append (λ (one : Entry). cond (is_of_session session one.ltxid) 1 0) entries more

pub number_named : (entries : List Entry) (link : Link) (session : SessionId) → link.session ≡ Some session → number_of entries link ≡ entries_of entries session
number_named entries link session is = ap (λ (one : Option SessionId). option_map_or (entries_of entries) one 0) is

pub number_none : (entries : List Entry) (link : Link) → link.session ≡ None → number_of entries link ≡ 0
number_none entries link is = ap (λ (one : Option SessionId). option_map_or (entries_of entries) one 0) is

-- one that lives has as many as it answered Committed
pub stored_now : (seen : Seen) (t : Traced) (number : ℕ) (link : Link) → Coupled seen t → link_at t.machine.links number ≡ Some link → link.is_living ≡ true → number_of t.entries link ≡ link.commits
stored_now seen t number link coupled there living =
    by link.session refl (subst (λ (lives : Bool). HasStored seen.state.store.entries (if lives then Some link.session else None) link.commits) living (coupled.stored number link there))
  where
    by : (found : Option SessionId) → link.session ≡ found → HasStored seen.state.store.entries (Some found) link.commits → number_of t.entries link ≡ link.commits
    by None is none = number_none t.entries link is ∙ sym none
    by (Some session) is count = number_named t.entries link session is ∙ (ap (λ (entries : List Entry). entries_of entries session) coupled.entries ∙ count)

-- QUIET SESSIONS ----------------------------------------------------------------------------------

-- the connection whose frame the event serves
abbrev pub serves_at : Noted → Option ℕ
serves_at (ServedOn number frame) = Some number
serves_at (Crashed number after failover down) = Some number
serves_at _ = None

-- it serves none of this connection
abbrev pub IsQuiet : Machine → List Served → Noted → ℕ → Type 0
IsQuiet m items kind number = (front : Front) (served : Served) (rest : List Served) → serves_at kind ≡ Some number → front_at m.links number ≡ Some front → items ≡ served ∷ rest → ⊥

module _ (t : Traced) (items : List Served) (more : List Entry) (happened : List Happened) (came : All (CameFrom happened) more)
    (apart : (i j : ℕ) (one other : Link) (a b : SessionId) → i ≢ j → link_at t.machine.links i ≡ Some one → link_at t.machine.links j ≡ Some other → one.session ≡ Some a → other.session ≡ Some b → a ≡ b → ⊥)
    (made : (number : ℕ) (link : Link) (a : SessionId) → link_at t.machine.links number ≡ Some link → link.session ≡ Some a → a ≡ next_session t.machine.server → ⊥) where
  -- the frame that is served is its connection's session's, if it is no Connect
  abbrev pub Owns : Noted → Type 0
  Owns kind = (front : Front) (served : Served) (rest : List Served) (number : ℕ) → serves_at kind ≡ Some number → front_at t.machine.links number ≡ Some front → items ≡ served ∷ rest → is_connect front.first.frame ≡ false → front.link.session ≡ Some served.session

  nothing : happened ≡ [] → (session : SessionId) → entries_of more session ≡ 0
  nothing is session = gains_none happened session more came (λ one contains entry commits same. none_in one (subst (λ (all : List Happened). Contains all one) is contains))

  unmarked_connects : (frame : Up) → is_connect frame ≡ true → (entry : Entry) (session : SessionId) (now : ℕ) (told : Telling) → CommitsAs entry (ServedFrame session now frame told) → ⊥
  unmarked_connects up.Connect is entry session now told commits = absurd commits
  unmarked_connects (up.Begin settings) is entry session now told commits = absurd commits
  unmarked_connects (up.Call replay kept called) is entry session now told commits = let none : ⊥ = cc in none
  unmarked_connects (up.Outcome x) is entry session now told commits = absurd commits
  unmarked_connects up.End is entry session now told commits = absurd commits
  unmarked_connects up.Close is entry session now told commits = absurd commits

  -- a frame that another connection's session served
  front_quiet : (at number : ℕ) (link : Link) (session : SessionId) (kind : Noted) → serves_at kind ≡ Some at → link_at t.machine.links number ≡ Some link → link.session ≡ Some session → IsQuiet t.machine items kind number → Owns kind
      → (front : Option Front) → front_at t.machine.links at ≡ front → (all : List Served) → items ≡ all → happened ≡ front_served t.machine.tick front all → entries_of more session ≡ 0
  front_quiet at number link session kind serves there has quiet owns None is all items_are done = nothing done session
  front_quiet at number link session kind serves there has quiet owns (Some front) is [] items_are done = nothing done session
  front_quiet at number link session kind serves there has quiet owns (Some front) is (served ∷ rest) items_are done =
      gains_none happened session more came
      (λ one contains entry commits same.
      let what : Happened = ServedFrame served.session t.machine.tick front.first.frame (front_telling front served) in
      let equal : what ≡ one = one_of what one (subst (λ (list : List Happened). Contains list one) done contains) in
      let so : CommitsAs entry what = subst (CommitsAs entry) (sym equal) commits in
      let its : served.session ≡ session = commits_session entry served.session t.machine.tick front.first.frame (front_telling front served) so ∙ same in
      by (either at number) (is_connect front.first.frame) refl entry so its)
    where
      by : (at ≡ number) ⊎ (at ≢ number) → (connects : Bool) → is_connect front.first.frame ≡ connects → (entry : Entry) → CommitsAs entry (ServedFrame served.session t.machine.tick front.first.frame (front_telling front served)) → served.session ≡ session → ⊥
      by which true connects entry so its = unmarked_connects front.first.frame connects entry served.session t.machine.tick (front_telling front served) so
      by (inl same) false connects entry so its = quiet front served rest (serves ∙ ap Some same) (ap (front_at t.machine.links) (sym same) ∙ is) items_are
      by (inr differ) false connects entry so its =
          apart at number front.link link served.session session differ (front_is t.machine.links at front is).there there (owns front served rest at serves is items_are connects) has its

  pub quiet_none : (number : ℕ) (link : Link) (session : SessionId) → link_at t.machine.links number ≡ Some link → link.session ≡ Some session → (kind : Noted) → DidOf t.machine items kind happened → IsQuiet t.machine items kind number → Owns kind → entries_of more session ≡ 0
  quiet_none number link session there has (Went client did) done quiet owns = nothing done session
  quiet_none number link session there has (ServedOn at frame) done quiet owns = front_quiet at number link session (ServedOn at frame) refl there has quiet owns (front_at t.machine.links at) refl items refl done
  quiet_none number link session there has (CutOff at up down reached) done quiet owns = nothing done session
  quiet_none number link session there has (Reaped at reaped) done quiet owns = nothing done session
  quiet_none number link session there has (Crashed at after failover down) done quiet owns = by t.machine.server.is_up done
    where
      by : (is_up : Bool) → happened ≡ (if is_up then front_served t.machine.tick (front_at t.machine.links at) items else []) → entries_of more session ≡ 0
      by true does = front_quiet at number link session (Crashed at after failover down) refl there has quiet owns (front_at t.machine.links at) refl items refl does
      by false does = nothing does session
  quiet_none number link session there has (Opened incarnation) done quiet owns = nothing done session
  quiet_none number link session there has (OpeningStopped stopped) done quiet owns = nothing done session
  quiet_none number link session there has Ticked done quiet owns = nothing done session
  quiet_none number link session there has (RanOutside None) done quiet owns = nothing done session
  quiet_none number link session there has (RanOutside (Some ran)) done quiet owns =
      gains_none happened session more came
      (λ one contains entry commits same.
      made number link session there has (sym same ∙ of_next one entry (All-contains (IsOf (next_session t.machine.server)) happened one done contains) commits))
    where
      of_next : (one : Happened) (entry : Entry) → IsOf (next_session t.machine.server) one → CommitsAs entry one → session_of entry.ltxid ≡ next_session t.machine.server
      of_next (ServedFrame session now frame told) entry is commits = sym (commits_session entry session now frame told commits) ∙ is
      of_next (WasAsked x told) entry is commits = absurd is
  quiet_none number link session there has (Asked x told) done quiet owns = gains_none happened session more came (λ one contains entry commits same. done one contains entry commits)
  quiet_none number link session there has (Drained closed) done quiet owns = nothing done session
