-- A step that takes a frame, as the judge of causes reads it.
use Rattle.std.proofs.Common.{◌≡◌, refl, sym, ap, subst, ◌∙◌, Bool, true, false, ℕ, ◌&&◌, length, List, [], ◌∷◌, ◌++◌, cond, Option, Some, None}
use Rattle.std.specs.Prelude.{◌==◌, filter}
use Rattle.std.specs.List.{list_all, last_or, list_any}
use Rattle.std.specs.Option.{option_map_or}
use Rattle.std.proofs.lemmas.Bool.{and_parts, and_from}
use Rattle.svc_values.specs.declared.frame.Down.{Down}
use Rattle.svc_values.specs.declared.frame.Up.{Up}
use Rattle.client_model.specs.meaning.Account.{Account}
use Rattle.outage_schedule.specs.declared.item.Served.{Served}
use Rattle.world_model.specs.meaning.Clients.{Doing, Client, client_at}
use Rattle.world_model.specs.records.Conversing.{Talks}
use Rattle.world_model.specs.meaning.Frames.{Sent, Handled}
use Rattle.invariant_laws.specs.Invariant.{Invariant}
use Rattle.world_model.specs.meaning.Links.{Link, link_at}
use Rattle.world_model.specs.Sames.{owned_by, same_owners, same_up}
use Rattle.invariant_laws.specs.Shown.{is_call, calls_on, in_row, is_scripts, is_current, is_row, rows_on, stands}
use Rattle.world_model.specs.Traced.{Traced, course_now}
use Rattle.world_model.specs.Words.{held_in}
use Rattle.svc_values.specs.declared.entry.Ltxid.{Ltxid}
use Rattle.client_model.specs.meaning.Terms.{Terms, Phase, Idle, Unbegun, Queued, Seeking, Greeting, Asked, Running, Replaying}
use Rattle.client_model.proofs.Offered.{Fits}
use Rattle.outage_schedule.specs.declared.item.Item.{Item}
use Rattle.outage_schedule.specs.declared.item.Item.TheVariants as item
use Rattle.shown_clauses.specs.meaning.Causes.{is_had}
use Rattle.shown_clauses.specs.meaning.Links.{Link as Seen}
use Rattle.shown_clauses.specs.meaning.Steps.{Step as StepTold, asked_of}
use Rattle.svc_values.specs.declared.call.Call.{Call}
use Rattle.world_model.specs.Wanted.{Wanted, wanted_in}
use Rattle.caused_laws.specs.Telling.{WasLost, LostBy}
use Rattle.shown_laws.specs.ClientSteps.{TellsReply, TellsLost, LostTold, WasAsked}
use Rattle.shown_laws.proofs.heard.AwaitedFrame.{now_talks, heard, awaits, last_is, fits_now}
use Rattle.shown_laws.proofs.events.CourseNow.{course_holds}
use Rattle.shown_laws.proofs.steps.FrameAnswered.{LastIs, IsAnswer, answer_is}
use Rattle.shown_laws.proofs.links.HeldTold.{has_among, all_among, Among, lost_among}
use Rattle.shown_laws.proofs.links.SessionsApart.{at_link}

-- LISTS -------------------------------------------------------------------------------------------

-- what holds of all that meet a test holds of the last one, where it meets it
last_of_all : (kept test : Sent → Bool) (xs : List Sent) (x : Sent) (found : Option Sent) → (found ≡ Some x → kept x ≡ true → test x ≡ true) → list_all test (filter kept xs) ≡ true → last_or found xs ≡ Some x → kept x ≡ true → test x ≡ true
last_of_all kept test [] x found before all is met = before is met
last_of_all kept test (y ∷ xs) x found before all is met = last_of_all kept test xs x (Some y) (λ same its. by (kept y) refl all same its) (rest (kept y) all) is met
  where
    rest : (keeps : Bool) → list_all test (cond keeps (y ∷ filter kept xs) (filter kept xs)) ≡ true → list_all test (filter kept xs) ≡ true
    rest true all = (and_parts (test y) (list_all test (filter kept xs)) all).1
    rest false all = all

    by : (keeps : Bool) → kept y ≡ keeps → list_all test (cond keeps (y ∷ filter kept xs) (filter kept xs)) ≡ true → Some y ≡ Some x → kept x ≡ true → test x ≡ true
    by true keeps all same its = let equal : y ≡ x = cc in ap test (sym equal) ∙ (and_parts (test y) (list_all test (filter kept xs)) all).0
    by false drops all same its = absurd (let equal : y ≡ x = cc in let both : false ≡ true = sym drops ∙ (ap kept equal ∙ its) in let none : ⊥ = cc in none)

stands_at : (test : Handled → Bool) (before later : List Handled) (one : Handled) → list_all test (before ++ one ∷ later) ≡ true → test one ≡ true
stands_at test [] later one all = (and_parts (test one) (list_all test later) all).0
stands_at test (first ∷ before) later one all = stands_at test before later one (and_parts (test first) (list_all test (before ++ one ∷ later)) all).1

-- THE FRAME ---------------------------------------------------------------------------------------

module _ (t : Traced) (inv : Invariant t) (client : ℕ) (own : Client) (here : client_at t.machine.clients client ≡ Some own) (doing : Doing) (now : own.now ≡ Some doing) where
  pub talks_now : Talks t.setting.terms false doing
  talks_now = now_talks t.setting.terms t.machine.clients client own doing inv.orderly.script.talks here now

  -- what the request was told so far
  abbrev pub heard_now : Account
  heard_now = heard t.setting.terms doing talks_now

  module _ (connection : ℕ) (link : Link) (has : doing.connection ≡ Some connection) (there : link_at t.machine.links connection ≡ Some link) (frame : Down) (served : Served) (reply : TellsReply (record { client = client; place = length own.past }) doing.talk.phase link frame served) where
    alike : same_up reply.one.sent.frame reply.sent.frame ≡ true
    alike = (and_parts (reply.one.sent.call == reply.sent.call) (same_up reply.one.sent.frame reply.sent.frame) (and_parts (same_owners reply.one.sent.owner reply.sent.owner) _ reply.same).1).1

    scripted : is_call reply.sent.frame ≡ true → is_scripts (course_now t.setting client (length own.past) doing) reply.sent reply.sent.frame ≡ true
    scripted call =
        let rows : list_all (λ number. option_map_or (λ one. is_row (course_now t.setting client (length own.past) doing) (is_current (course_now t.setting client (length own.past) doing) number) (calls_on (course_now t.setting client (length own.past) doing) one)) (link_at t.machine.links number) false) (held_in doing.steps) ≡ true =
        course_holds (rows_on t) t client own doing inv.shown.rows here now in
        let at = all_among _ (held_in doing.steps) connection rows (has_among doing.steps connection (talks_now.has ∙ has)) in
        let row : is_row (course_now t.setting client (length own.past) doing) (is_current (course_now t.setting client (length own.past) doing) connection) (calls_on (course_now t.setting client (length own.past) doing) link) ≡ true =
        subst (λ (found : Option Link). option_map_or (λ one. is_row (course_now t.setting client (length own.past) doing) (is_current (course_now t.setting client (length own.past) doing) connection) (calls_on (course_now t.setting client (length own.past) doing) one)) found false ≡ true) there at in
        let all = (and_parts (list_all (λ sent. is_scripts (course_now t.setting client (length own.past) doing) sent sent.frame) (calls_on (course_now t.setting client (length own.past) doing) link)) _ (and_parts (in_row _ (calls_on (course_now t.setting client (length own.past) doing) link)) _ row).1).0 in
        last_of_all (λ sent. owned_by (record { client = client; place = length own.past }) sent && is_call sent.frame) (λ sent. is_scripts (course_now t.setting client (length own.past) doing) sent sent.frame) link.sent reply.sent None
        (λ never met. absurd (let none : ⊥ = cc in none)) all reply.last (and_from (owned_by (record { client = client; place = length own.past }) reply.sent) (is_call reply.sent.frame) reply.own call)

    last : LastIs reply.sent.frame heard_now.last
    last =
        last_is t.setting.terms doing talks_now reply.sent reply.sent.frame doing.talk.phase refl (awaits t.setting.terms doing talks_now) reply.awaited
        (λ mark kept call is. subst (λ (f : Up). is_scripts (course_now t.setting client (length own.past) doing) reply.sent f ≡ true) is (scripted (ap is_call is)))

    stand : stands t served.item ≡ true
    stand =
        let all : list_all (λ (one : Handled). stands t one.served.item) link.served ≡ true = at_link (λ l. list_all (λ (one : Handled). stands t one.served.item) l.served) t.machine.links connection link inv.shown.answers there in
        ap (λ (s : Served). stands t s.item) (sym reply.item)
        ∙ stands_at (λ (one : Handled). stands t one.served.item) reply.before reply.later reply.one (subst (λ (handled : List Handled). list_all (λ (one : Handled). stands t one.served.item) handled ≡ true) reply.among all)

    -- The reply answers the frame that was sent last.
    pub is_answer : IsAnswer heard_now.last served.item frame
    is_answer = answer_is t served.session reply.commits frame served.item reply.one.sent.frame reply.sent.frame heard_now.last reply.is_its alike last reply.says stand

-- THE LOSS ----------------------------------------------------------------------------------------

none_is : (wanted : Wanted) → ◌≡◌ {A = Option Wanted} None (Some wanted) → ⊥
none_is wanted is = let none : ⊥ = cc in none

-- the event that a request wants to know of is the one that it tells
ended_by : (terms : Terms) (calls : List Call) (a : Account) (gone : Bool) (phase : Phase) (wanted : Wanted) → Fits terms calls a gone phase → wanted_in phase ≡ Some wanted → a.ended ≡ Some wanted.event
ended_by terms calls a gone (Seeking (Some lost)) wanted fits is = fits.ended ∙ ap (λ (w : Wanted). Some w.event) (let same : ◌≡◌ {A = Wanted} (record { ltxid = lost.ltxid; event = lost.event }) wanted = cc in same)
ended_by terms calls a gone (Greeting (Some lost)) wanted fits is = fits.0.ended ∙ ap (λ (w : Wanted). Some w.event) (let same : ◌≡◌ {A = Wanted} (record { ltxid = lost.ltxid; event = lost.event }) wanted = cc in same)
ended_by terms calls a gone (Asked asking) wanted fits is = fits.0.ended ∙ ap (λ (w : Wanted). Some w.event) (let same : ◌≡◌ {A = Wanted} (record { ltxid = asking.ltxid; event = asking.event }) wanted = cc in same)
ended_by terms calls a gone (Seeking None) wanted fits is = absurd (none_is wanted is)
ended_by terms calls a gone (Greeting None) wanted fits is = absurd (none_is wanted is)
ended_by terms calls a gone Idle wanted fits is = absurd (none_is wanted is)
ended_by terms calls a gone Unbegun wanted fits is = absurd (none_is wanted is)
ended_by terms calls a gone (Queued from) wanted fits is = absurd (none_is wanted is)
ended_by terms calls a gone (Running state) wanted fits is = absurd (none_is wanted is)
ended_by terms calls a gone (Replaying state) wanted fits is = absurd (none_is wanted is)

module _ (t : Traced) (inv : Invariant t) (client : ℕ) (own : Client) (here : client_at t.machine.clients client ≡ Some own) (doing : Doing) (now : own.now ≡ Some doing)
    (steps : List StepTold) (all : (number : ℕ) → Among number (held_in doing.steps) → list_any (λ step. is_had number step.did) steps ≡ true) where
  was_lost : (x : Ltxid) (told : Option Seen) → TellsLost t (course_now t.setting client (length own.past) doing) x told → WasLost (heard_now t inv client own here doing now) steps told
  was_lost x told l =
      let fits = fits_now t.setting.terms doing (talks_now t inv client own here doing now) in
      record {
        link = l.seen;
        is_link = l.found;
        held =
            subst (λ (number : ℕ). list_any (λ step. is_had number step.did) steps ≡ true) (sym l.tells.connection)
            (all l.number (lost_among (course_now t.setting client (length own.past) doing) l.number l.among));
        is_event = l.some;
        ended =
            ended_by t.setting.terms doing.request.calls (heard_now t inv client own here doing now) fits.0 doing.talk.phase l.wanted fits.1 l.wants
            ∙ ap Some (sym l.ended);
      }

  -- Where an outcome is taken the request held the lost connection, and knows of the event that
  -- ended it.
  pub lost_is : (told : Option Seen) (one : Item) → LostTold t (course_now t.setting client (length own.past) doing) told (asked_of one) → LostBy (heard_now t inv client own here doing now) steps told one
  lost_is told (item.Outcome x result) (WasAsked _ l) = was_lost x told l
  lost_is told item.Connect is = tt
  lost_is told (item.Begin settings) is = tt
  lost_is told (item.Call marked call answers draws) is = tt
  lost_is told (item.Blocked call) is = tt
  lost_is told item.End is = tt
  lost_is told item.Close is = tt
  lost_is told (item.Refused cause) is = tt
  lost_is told (item.CrashedCall marked call) is = tt
  lost_is told (item.CrashedOutcome x) is = tt
