-- Wherever a run has come to, what the history has of a connection's session is what the connection
-- served, and it has nothing of a session that was not made.
use Rattle.std.proofs.Common.{◌≡◌, ◌≢◌, refl, sym, ap, subst, ◌∙◌, append-nil, Bool, true, false, ℕ, suc, zero, List, [], ◌∷◌, ◌++◌, map, Some, None, ◌⊎◌, inl, inr}
use Rattle.std.specs.List.{list_all}
use Rattle.std.proofs.lemmas.Bool.{and_parts}
use Rattle.std.proofs.lemmas.List.{map-append}
use Rattle.std.proofs.lemmas.List.Folds.{list_all-append}
use Rattle.svc_values.specs.declared.entry.SessionId.{SessionId}
use Rattle.svc_values.specs.declared.frame.Up.{Up}
use Rattle.outage_schedule.specs.declared.document.Document.{Document}
use Rattle.outage_schedule.specs.declared.event.Event.{Event}
use Rattle.outage_schedule.specs.declared.item.Served.{Served}
use Rattle.outage_schedule.specs.declared.note.Note.{Note}
use Rattle.server_model.specs.meaning.Outcomes.{Telling}
use Rattle.server_model.specs.Runs.{Happened, Served as ServedFrame}
use Rattle.server_model.specs.Seen.{Seen}
use Rattle.world_model.specs.records.Basic.{is_made, sessions_of}
use Rattle.world_model.specs.meaning.Frames.{Handled}
use Rattle.world_model.specs.records.Hold.{is_connect}
use Rattle.world_model.specs.Orderly.{Orderly}
use Rattle.world_model.specs.meaning.Links.{Link, link_at}
use Rattle.world_model.specs.meaning.Machines.{next_session}
use Rattle.world_model.specs.OneEvent.{OneEvent, session_outside}
use Rattle.world_model.specs.Reached.{Reached, Begins, GoesOn}
use Rattle.world_model.specs.records.Ready.{all_requests_right}
use Rattle.world_model.specs.RunLaws.{RunsAreOrderly}
use Rattle.invariant_laws.specs.SameLaws.{RunsServe}
use Rattle.world_model.specs.meaning.ServiceDid.{front_telling}
use Rattle.world_model.specs.meaning.Serving.{Front, front_at, is_of_front}
use Rattle.invariant_laws.specs.SessionHistory.{served_in, told_of, served_on}
use Rattle.world_model.specs.Traced.{Traced}
use Rattle.world_model.proofs.Offered.{front_is, at_link, all_wired, connect_first, session_in, made_before, at_event, made_law, grown, grows_made, other_session, is_wired, wired_sent, wired_right, serving, apart, made, same_some, connect_session, not_both}
use Rattle.invariant_laws.proofs.history.SessionLists.{served_more, one_own, one_other}
use Rattle.invariant_laws.proofs.history.SessionTurns.{IsAlike, IsMore, ComesOf, AtFront, Elsewhere, FrontTurned, Alone, Unnamed, Alike, AllAlone, HasNone, Adds, AddsFrame, AddsNone, event_adds}

-- what the history has of each connection's session is what it served
abbrev pub HasServed : Seen → Traced → Type 0
HasServed seen t = (number : ℕ) (link : Link) (session : SessionId) → link_at t.machine.links number ≡ Some link → link.session ≡ Some session → served_in seen.history session ≡ served_on link

-- nothing of a session that was not made
abbrev pub NoneUnmade : Seen → Traced → Type 0
NoneUnmade seen t = (session : SessionId) → is_made t session ≡ false → served_in seen.history session ≡ []

module _ (before after : Seen) (old new : Traced) (event : Event) (note : Note) (items left : List Served) (one : OneEvent before old event note items left after new) (inv : Orderly old) (has : HasServed before old)
    (unmade : NoneUnmade before old) where
  grows : (session : SessionId) → served_in after.history session ≡ served_in before.history session ++ served_in one.happened session
  grows session = ap (λ (all : List Happened). served_in all session) one.history ∙ served_more before.history one.happened session

  none_more : (session : SessionId) → served_in one.happened session ≡ [] → served_in after.history session ≡ served_in before.history session
  none_more session none = grows session ∙ ap (λ (more : List (Up × Telling)). served_in before.history session ++ more) none ∙ append-nil (served_in before.history session)

  -- a connection that served nothing
  alike_now : (number : ℕ) (was link : Link) (session : SessionId) → link_at old.machine.links number ≡ Some was → IsAlike was link → link.session ≡ Some session → served_in one.happened session ≡ []
      → served_in after.history session ≡ served_on link
  alike_now number was link session there alike its none =
      none_more session none ∙ has number was session there (sym alike.session ∙ its) ∙ ap (λ (served : List Handled). map told_of served) (sym alike.served)

  -- A FRAME ---------------------------------------------------------------------------------------

  module _ (number : ℕ) (front : Front) (served : Served) (at : front_at old.machine.links number ≡ Some front) (of_front : is_of_front (at_event old.machine) front served ≡ true)
      (happened : one.happened ≡ ServedFrame served.session old.machine.tick front.first.frame (front_telling front served) ∷ []) where
    there : link_at old.machine.links number ≡ Some front.link
    there = (front_is old.machine.links number front at).there

    next_made : is_made old (next_session old.machine.server) ≡ false
    next_made = by (is_made old (next_session old.machine.server)) refl
      where
        by : (test : Bool) → is_made old (next_session old.machine.server) ≡ test → is_made old (next_session old.machine.server) ≡ false
        by true is = absurd (made_before old.machine.server (next_session old.machine.server) is refl)
        by false is = is

    -- until then the history has of the session what the connection served
    had : (connects : Bool) → is_connect front.first.frame ≡ connects → served_in before.history served.session ≡ served_on front.link
    had true connects =
        let wired : is_wired front.link ≡ true = at_link is_wired old.machine.links number front.link (all_wired old.machine.links inv.wire.sent inv.wire.grammar inv.wire.replies inv.wire.handled) there in
        let none : front.link.served ≡ [] = connect_first front.link front.first front.later (wired_sent front.link wired) (wired_right front.link wired) (front_is old.machine.links number front at).up connects in
        ap (served_in before.history) (connect_session old.machine.server front.link front.first.frame served.session connects (serving (at_event old.machine) front served of_front))
        ∙ unmade (next_session old.machine.server) next_made ∙ ap (λ (all : List Handled). map told_of all) (sym none)
    had false other = has number front.link served.session there (other_session old.machine.server front.link front.first.frame served.session other (serving (at_event old.machine) front served of_front))

    front_now : (link : Link) (session : SessionId) → IsMore front served link → link.session ≡ Some session → served_in after.history session ≡ served_on link
    front_now link session more its =
        let same : served.session ≡ session = same_some served.session session (sym more.session ∙ its) in
        let it : Handled = record { sent = front.first; served = served; reply = more.reply } in
        ap (served_in after.history) (sym same) ∙ grows served.session
        ∙ ap (λ (all : List (Up × Telling)). all ++ served_in one.happened served.session) (had (is_connect front.first.frame) refl)
        ∙ ap (λ (all : List (Up × Telling)). served_on front.link ++ all)
        (ap (λ (all : List Happened). served_in all served.session) happened ∙ one_own served.session old.machine.tick front.first.frame (front_telling front served)
        ∙ ap (λ (told : Telling). (front.first.frame, told) ∷ []) more.told)
        ∙ sym (ap (λ (all : List Handled). map told_of all) more.more ∙ map-append told_of front.link.served (it ∷ []))

    -- another connection's session is another one
    others_apart : (connects : Bool) → is_connect front.first.frame ≡ connects → (other : ℕ) (link : Link) (session : SessionId) → other ≢ number → link_at old.machine.links other ≡ Some link → link.session ≡ Some session
        → served.session ≡ session → ⊥
    others_apart true connects other link session differ here its same =
        made before after old new event note items left one inv other link session here its
        (sym same ∙ connect_session old.machine.server front.link front.first.frame served.session connects (serving (at_event old.machine) front served of_front))
    others_apart false connects other link session differ here its same =
        apart before after old new event note items left one inv number other front.link link served.session session (λ equal. differ (sym equal)) there here
        (other_session old.machine.server front.link front.first.frame served.session connects (serving (at_event old.machine) front served of_front)) its same

    frame_now : FrontTurned old.machine.links number front served new.machine.links → HasServed after new
    frame_now turned other link session here its = by (turned.all other link here)
      where
        by : ComesOf old.machine.links number front served other link → served_in after.history session ≡ served_on link
        by (AtFront same more) = front_now link session more its
        by (Elsewhere differ was there alike) =
            alike_now other was link session there alike its
            (ap (λ (all : List Happened). served_in all session) happened
            ∙ one_other served.session session old.machine.tick front.first.frame (front_telling front served) (others_apart (is_connect front.first.frame) refl other was session differ there (sym alike.session ∙ its)))

  alone_now : HasNone old note one.happened → AllAlone old.machine.links new.machine.links → HasServed after new
  alone_now none alone number link session here its = by (alone number link here)
    where
      by : Alone old.machine.links number link → served_in after.history session ≡ served_on link
      by (Unnamed unnamed) = absurd (let both : None ≡ Some session = sym unnamed ∙ its in let never : ⊥ = cc in never)
      by (Alike was there alike) = alike_now number was link session there alike its (quiet (none session))
        where
          quiet : (served_in one.happened session ≡ []) ⊎ ((session ≡ next_session old.machine.server) × (session_outside old note ≡ session ∷ [])) → served_in one.happened session ≡ []
          quiet (inl is) = is
          quiet (inr made_now) = absurd (made before after old new event note items left one inv number was session there (sym alike.session ∙ its) made_now.0)

  pub served_now : HasServed after new
  served_now = by (event_adds before after old new event note items left one inv)
    where
      by : Adds old note new.machine.links one.happened → HasServed after new
      by (AddsFrame number front served at of_front happened turned) = frame_now number front served at of_front happened turned
      by (AddsNone none alone) = alone_now none alone

  -- SESSIONS THAT WERE NOT MADE -------------------------------------------------------------------

  still_unmade : (session : SessionId) → is_made new session ≡ false → is_made old session ≡ false
  still_unmade session none = by (is_made old session) refl
    where
      by : (test : Bool) → is_made old session ≡ test → is_made old session ≡ false
      by true is = absurd (not_both (is_made new session) (grows_made _ _ (grown before after old new event note items left one inv) session is) none)
      by false is = is

  all_made : (list_all (is_made new) (sessions_of new) ≡ true) × (list_all (is_made new) new.outside ≡ true)
  all_made = and_parts (list_all (is_made new) (sessions_of new)) (list_all (is_made new) new.outside) (made_law.at_event before after old new event note items left one inv)

  pub unmade_now : NoneUnmade after new
  unmade_now session none = none_more session (by (event_adds before after old new event note items left one inv)) ∙ unmade session (still_unmade session none)
    where
      outside : (served_in one.happened session ≡ []) ⊎ ((session ≡ next_session old.machine.server) × (session_outside old note ≡ session ∷ [])) → served_in one.happened session ≡ []
      outside (inl is) = is
      outside (inr made_now) =
          let last : list_all (is_made new) (old.outside ++ session ∷ []) ≡ true = subst (λ (all : List SessionId). list_all (is_made new) all ≡ true) (one.outside ∙ ap (λ (more : List SessionId). old.outside ++ more) made_now.1) all_made.1 in
          let both = and_parts (list_all (is_made new) old.outside) (list_all (is_made new) (session ∷ [])) (sym (list_all-append (is_made new) old.outside (session ∷ [])) ∙ last) in
          absurd (not_both (is_made new session) (and_parts (is_made new session) true both.1).0 none)

      by : Adds old note new.machine.links one.happened → served_in one.happened session ≡ []
      by (AddsFrame number front served at of_front happened turned) =
          ap (λ (all : List Happened). served_in all session) happened
          ∙ one_other served.session session old.machine.tick front.first.frame (front_telling front served)
          (λ same.
          let link = turned.there in
          let made_so : is_made new served.session ≡ true = session_in (is_made new) new.machine.links number link.0 served.session link.1.0 link.1.1 all_made.0 in
          not_both (is_made new session) (subst (λ (s : SessionId). is_made new s ≡ true) same made_so) none)
      by (AddsNone quiet alone) = outside (quiet session)

-- A RUN -------------------------------------------------------------------------------------------

pub none_at : {A : Type 0} (number : ℕ) (link : Link) → link_at [] number ≡ Some link → A
none_at zero link is = absurd (let none : ⊥ = cc in none)
none_at (suc index) link is = absurd (let none : ⊥ = cc in none)

pub reached_served : RunsAreOrderly → (document : Document) (events : List Event) (notes : List Note) (items : List Served) (seen : Seen) (t : Traced) → all_requests_right document ≡ true → Reached document events notes items seen t
    → HasServed seen t × NoneUnmade seen t
reached_served orderly document _ _ _ _ _ calls (Begins seen start history horizon coupled) =
    ((λ number link session there its. none_at number link there), λ session none. ap (λ (all : List Happened). served_in all session) history)
reached_served orderly document _ _ _ _ _ calls (GoesOn events notes items more before after old new event note reached one forgets) =
    let was = reached_served orderly document events notes items before old calls reached in
    let inv = orderly document events notes items before old calls reached in
    (served_now before after old new event note more [] one inv was.0 was.1, unmade_now before after old new event note more [] one inv was.0 was.1)

pub runs_serve : RunsAreOrderly → RunsServe
runs_serve orderly document events notes items seen t calls reached = (reached_served orderly document events notes items seen t calls reached).0
