-- What a step of a client is told as.
use Rattle.std.proofs.Common.{◌≡◌, refl, sym, ap, subst, ◌∙◌, append_assoc, Bool, true, false, ℕ, zero, suc, ◌+◌, length, List, [], ◌∷◌, ◌++◌, append-nil, Option, Some, None, ◌⊎◌, inl, inr, option_and_then, option_map, if◌then◌else◌}
use Rattle.std.specs.Prelude.{◌==◌, slice_get, slice_set, is_some, is_none, unwrap_or}
use Rattle.std.specs.List.{list_all, list_any}
use Rattle.std.specs.Option.{option_map_or}
use Rattle.std.proofs.lemmas.Bool.{and_parts, or_cases, or_left, or_right}
use Rattle.std.proofs.lemmas.List.{length_push}
use Rattle.svc_values.specs.declared.entry.Ltxid.{Ltxid}
use Rattle.svc_values.specs.declared.frame.Up.TheVariants as up
use Rattle.svc_values.specs.meaning.Identifiers.{same_session, session_of}
use Rattle.svc_values.specs.meaning.Same.{same_bool}
use Rattle.pool_core.specs.declared.answers.Back.{Back}
use Rattle.pool_core.specs.declared.answers.Back.TheVariants as back
use Rattle.pool_core.specs.meaning.Slots.{Slots, give_back_answer}
use Rattle.client_model.specs.declared.act.Act.{Act}
use Rattle.client_model.specs.declared.act.Hold.{Hold}
use Rattle.client_model.specs.declared.act.Hold.TheVariants as hold
use Rattle.client_model.specs.declared.input.Input.TheVariants.{Waiting, Lent, Opened, TryFailed, Took, Gone}
use Rattle.client_model.specs.declared.input.Wants.{Wants}
use Rattle.client_model.specs.declared.input.Wants.TheVariants as wants
use Rattle.outage_schedule.specs.declared.item.Served.{Served}
use Rattle.outage_schedule.specs.declared.note.GoNote.{GoNote}
use Rattle.outage_schedule.specs.declared.note.GoNote.TheVariants as go
use Rattle.outage_schedule.specs.declared.note.Note.TheVariants as note
use Rattle.shown_clauses.specs.meaning.Fronts.{first_item}
use Rattle.shown_clauses.specs.meaning.Links.{Link as SeenLink, Seen, is_connect, is_hello, link_of}
use Rattle.shown_clauses.specs.meaning.Steps.{Step as StepTold, reply_at, greeted, asked_of, lost_at, step_at as told_at_step, steps_at}
use Rattle.world_model.specs.meaning.Acting.{closing, frames_of, steps}
use Rattle.world_model.specs.records.Basic.{first_is_connect, is_named}
use Rattle.world_model.specs.meaning.Clients.{Step, Doing, Client, client_at, with_client, step_at, heard, doing_of}
use Rattle.world_model.specs.meaning.Frames.{Reply}
use Rattle.world_model.specs.records.Hold.{holds_connection, waits_on, is_held}
use Rattle.invariant_laws.specs.Invariant.{Invariant}
use Rattle.world_model.specs.meaning.Links.{Link, link_at}
use Rattle.invariant_laws.specs.Lost.{without_last, has_last, lost_links, one_pending, wants_lost}
use Rattle.world_model.specs.meaning.Machines.{Machine}
use Rattle.world_model.specs.Parts.{is_closed, implies}
use Rattle.world_model.specs.Words.{held_in}
use Rattle.world_model.specs.Traced.{Traced, Course, course_now}
use Rattle.world_model.specs.records.Wire.{handled_from, is_answered_in_order}
use Rattle.caused_laws.specs.Telling.{SentBy}
use Rattle.shown_laws.specs.Closing.{IsUnclosed, AllUnclosed}
use Rattle.shown_laws.specs.ClientSteps.{TellsReply, LostTold, IsBare, HasBegun, now_at, after_now, ended_at, GoneBehind, GoesOn, IsOver, IsGone, TellsKind, Rested, FoundNone, Waited, WasLent, HasOpened, HasFailed, HasTaken, HasLost}
use Rattle.shown_laws.specs.Connections.{FoundBySession}
use Rattle.shown_laws.specs.Growth.{next_told}
use Rattle.shown_laws.proofs.events.ClientsMove.{GoesOn as GoesFurther, Moves, stepped, steps_move, TakenSo, Alive, Ended, Lost, unless_moves}
use Rattle.shown_laws.proofs.links.ConnectionsTold.{AllTold, told_at}
use Rattle.shown_laws.proofs.events.CourseNow.{course_holds, was_there}
use Rattle.shown_laws.proofs.events.Following.{at_event}
use Rattle.shown_laws.proofs.events.GoNotes.{IsDoing, Tries, FromQueue, Again, with_pool, with_new, next_number, taking, TooEarly, NoneFound, GoesAs, Idles, Rests, Waits, Lends, Opens, Fails, Takes, Loses}
use Rattle.shown_laws.proofs.links.LostTold.{held_session, lost_told}
use Rattle.shown_laws.proofs.steps.ReplyTaken.{waits_so, reply_told}
use Rattle.shown_laws.proofs.links.RepliesTold.{NextReply, next_reply}
use Rattle.shown_laws.proofs.links.SessionsApart.{at_link}

-- the step that a note of a client is told as
abbrev pub told_step : Traced → Seen → ℕ → GoNote → StepTold
told_step t seen client did = told_at_step seen.links (next_told t.machine (note.Go client did) []) client did

abbrev pub told_steps : Traced → Seen → ℕ → GoNote → List StepTold
told_steps t seen client did = steps_at seen (next_told t.machine (note.Go client did) []) (note.Go client did)

-- A client that is finished is told to make no step. Each other one is told, with what its request
-- did, and the request goes on or is over.
pub record Acts (t : Traced) (seen : Seen) (client : ℕ) (did : GoNote) (n : Machine) : Type 0 where
  pub own : Client
  pub here : client_at t.machine.clients client ≡ Some own
  pub doing : Doing
  pub does : doing_of t.setting.terms (t.machine.event + 1) t.machine.tick own ≡ Some doing
  pub acts : List Step
  pub tells : TellsKind t client (length own.past) doing (told_step t seen client did) acts
  pub after : Doing
  pub request : after.request ≡ doing.request
  pub steps : after.steps ≡ doing.steps ++ acts
  pub moves : Moves t.setting (at_event t.machine) n client own after
  pub told : told_steps t seen client did ≡ told_step t seen client did ∷ []

pub data StepTells (t : Traced) (seen : Seen) (client : ℕ) (did : GoNote) (n : Machine) : Type 0 where
  TellsNone : told_steps t seen client did ≡ [] → n.clients ≡ t.machine.clients → StepTells t seen client did n
  TellsOne : Acts t seen client did n → StepTells t seen client did n

bare : (t : Traced) (seen : Seen) (client : ℕ) (did : GoNote) → reply_at seen.links did ≡ None → (told_step t seen client did).session ≡ None → IsBare (told_step t seen client did)
bare t seen client did none session = record { taken = none; session = session; lost = ap (lost_at seen.links) none }

-- LOST CONNECTIONS --------------------------------------------------------------------------------

without_among : (numbers : List ℕ) (number : ℕ) → list_any (λ other. other == number) (without_last numbers) ≡ true → list_any (λ other. other == number) numbers ≡ true
without_among [] number among = absurd (let none : ⊥ = cc in none)
without_among (one ∷ []) number among = absurd (let none : ⊥ = cc in none)
without_among (one ∷ next ∷ numbers) number among = by (or_cases (one == number) (list_any (λ other. other == number) (without_last (next ∷ numbers))) among) (without_among (next ∷ numbers) number)
  where
    by : ((one == number) ≡ true) ⊎ (list_any (λ other. other == number) (without_last (next ∷ numbers)) ≡ true) → (list_any (λ other. other == number) (without_last (next ∷ numbers)) ≡ true → list_any (λ other. other == number) (next ∷ numbers) ≡ true)
        → list_any (λ other. other == number) (one ∷ next ∷ numbers) ≡ true
    by (inl here) rest = or_left (one == number) (list_any (λ other. other == number) (next ∷ numbers)) here
    by (inr there) rest = or_right (one == number) (list_any (λ other. other == number) (next ∷ numbers)) (rest there)

-- it held those that it lost
lost_held : (course : Course) (number : ℕ) → list_any (λ other. other == number) (lost_links course) ≡ true → list_any (λ other. other == number) (held_in course.steps) ≡ true
lost_held course number among = by (has_last course) among
  where
    by : (last : Bool) → list_any (λ other. other == number) (if last then without_last (held_in course.steps) else held_in course.steps) ≡ true → list_any (λ other. other == number) (held_in course.steps) ≡ true
    by true is = without_among (held_in course.steps) number is
    by false is = is

-- THE FRAMES --------------------------------------------------------------------------------------

-- the frames of an act go out, and Close where its connection is given back and closed
frames_sent : (pool : Slots) (connection : ℕ) (act : Act) → SentBy act (length (frames_of pool connection act))
frames_sent pool connection act = by act.hold refl (give_back_answer pool connection)
  where
    none : SentBy act (length (act.send ++ []))
    none = inl (ap length (append-nil act.send))

    by : (held : Hold) → act.hold ≡ held → (answer : Back) → SentBy act (length (act.send ++ closing held answer))
    by hold.Keep is answer = none
    by hold.Drop is answer = none
    by hold.GiveBack is back.Closed = inr (is, length_push act.send up.Close)
    by hold.GiveBack is answer = none

-- SAME CLIENTS ------------------------------------------------------------------------------------

set_same : (clients : List Client) (index : ℕ) (own : Client) → slice_get clients index ≡ Some own → clients ≡ slice_set clients index own
set_same [] index own is = absurd (let none : ⊥ = cc in none)
set_same (first ∷ clients) zero own is = let same : first ≡ own = cc in ap (λ (c : Client). c ∷ clients) same
set_same (first ∷ clients) (suc index) own is = ap (λ (rest : List Client). first ∷ rest) (set_same clients index own is)

same_clients : (clients : List Client) (number : ℕ) (own : Client) → client_at clients number ≡ Some own → clients ≡ with_client clients number own
same_clients clients zero own is = absurd (let none : ⊥ = cc in none)
same_clients clients (suc index) own is = set_same clients index own is

-- ONE STEP ----------------------------------------------------------------------------------------

module _ (t : Traced) (inv : Invariant t) (seen : Seen) (all : AllTold t.machine.links seen.links) (found : FoundBySession seen.links) (unclosed : AllUnclosed t.machine) (client : ℕ) where
  -- the request was there before
  old_doing : (doing : Doing) (is : IsDoing t.setting (at_event t.machine) client doing wants.Frame) → is.client.now ≡ Some doing
  old_doing doing is = was_there t.setting.terms (t.machine.event + 1) t.machine.tick wants.Frame is.client.now is.client.next doing is.does is.wants (λ same. let none : ⊥ = cc in none)

  rests_at : (doing : Doing) (did : GoNote) (own : Client) → client_at t.machine.clients client ≡ Some own → own.now ≡ Some doing → Moves t.setting (at_event t.machine) (at_event t.machine) client own doing
  rests_at doing did own here now = record {
    next = record own { now = Some doing };
    leads = GoesFurther;
    clients = same_clients t.machine.clients client own here ∙ ap (λ (held : Option Doing). with_client t.machine.clients client (record own { now = held })) now;
  }

  -- a request that is to get a slot, or to try again, has begun
  begun_slot : (doing : Doing) (is : IsDoing t.setting (at_event t.machine) client doing wants.Slot) → HasBegun t doing
  begun_slot doing is never = let both : wants.Slot ≡ wants.Request = sym is.wants ∙ never in let none : ⊥ = cc in none

  begun_try : (doing : Doing) (wanted : Wants) (pool : Slots) (is : IsDoing t.setting (at_event t.machine) client doing wanted) → Tries (at_event t.machine) client wanted pool → HasBegun t doing
  begun_try doing _ _ is (FromQueue answer) never = begun_slot doing is never
  begun_try doing _ _ is Again never = let both : wants.Try ≡ wants.Request = sym is.wants ∙ never in let none : ⊥ = cc in none

  -- LENT ------------------------------------------------------------------------------------------

  lent_session : (connection : ℕ) (link : Link) (ltxid : Ltxid) → link_at t.machine.links connection ≡ Some link → link.held ≡ Some ltxid
      → (option_map (λ (one : SeenLink). one.session) (link_of connection seen.links) ≡ link.session) × (link.session ≡ Some (session_of ltxid))
  lent_session connection link ltxid there held = (
    told_at (λ one. option_map (λ (other : SeenLink). other.session) one ≡ link.session) connection (link_at t.machine.links connection) (link_of connection seen.links) link (all connection) there
        (λ here. sym here.session) (λ one here. sym here.session),
    held_session link ltxid (at_link is_named t.machine.links connection link inv.orderly.basic.named there) held,
  )

  -- TAKEN -----------------------------------------------------------------------------------------

  -- the reply and what is told of it
  pub record Replied (connection sent : ℕ) (link : Link) (reply : Reply) (left : List Reply) (course : Course) : Type 0 where
    pub served : Served
    pub taken : reply_at seen.links (go.Took connection sent) ≡ Some served
    pub tells : TellsReply course.owner course.phase link reply.frame served

  module _ (doing : Doing) (own : Client) (here : client_at t.machine.clients client ≡ Some own) (now : own.now ≡ Some doing) (connection sent : ℕ) (link : Link) (reply : Reply) (left : List Reply) (has : doing.connection ≡ Some connection) (there : link_at t.machine.links connection ≡ Some link) (down : link.down ≡ reply ∷ left) where
    abbrev course : Course
    course = course_now t.setting client (length own.past) doing

    waits : waits_so (record { client = client; place = length own.past }) doing.talk.phase link ≡ true
    waits =
        let held : is_held t (course_now t.setting client (length own.past) doing) ≡ true = course_holds (is_held t) t client own doing inv.orderly.hold.held here now in
        let one = (and_parts (same_bool (is_some doing.connection) (holds_connection doing.talk.phase)) (option_map_or (λ number. option_map_or (waits_on (course_now t.setting client (length own.past) doing)) (link_at t.machine.links number) false) doing.connection true) held).1 in
        let two = subst (λ (c : Option ℕ). option_map_or (λ number. option_map_or (waits_on (course_now t.setting client (length own.past) doing)) (link_at t.machine.links number) false) c true ≡ true) has one in
        subst (λ (l : Option Link). option_map_or (waits_on (course_now t.setting client (length own.past) doing)) l false ≡ true) there two

    all_own : list_all (λ other. option_map_or (same_session other.served.session) link.session false) link.served ≡ true
    all_own =
        let named : is_named link ≡ true = at_link is_named t.machine.links connection link inv.orderly.basic.named there in
        let one = and_parts (same_bool (is_some link.session) (first_is_connect link.served)) _ named in
        let two = and_parts (implies (is_none link.session) (length link.served == 0)) _ one.1 in
        (and_parts (list_all (λ other. option_map_or (same_session other.served.session) link.session false) link.served) _ two.1).0

    replied : Replied connection sent link reply left (course_now t.setting client (length own.past) doing)
    replied =
        told_at (λ one. link_of connection seen.links ≡ one → Replied connection sent link reply left (course_now t.setting client (length own.past) doing)) connection (link_at t.machine.links connection) (link_of connection seen.links) link (all connection) there
        (λ none is. absurd (let both : [] ≡ reply ∷ left = sym none.down ∙ down in let no : ⊥ = cc in no))
        (λ one its is.
        let next : NextReply (Took reply.frame link.is_open) link reply left one.replies = next_reply (Took reply.frame link.is_open) link reply left one.replies its.replies down in
        record {
          served = next.one.served;
          taken = ap (option_and_then (λ (l : SeenLink). first_item l.replies)) is ∙ next.first;
          tells =
              reply_told (record { client = client; place = length own.past }) doing.talk.phase link reply left next.before next.later next.one waits down
              (at_link (λ l. handled_from 0 l.served) t.machine.links connection link inv.orderly.wire.handled there)
              (at_link is_answered_in_order t.machine.links connection link inv.orderly.wire.in_order there) all_own next.given next.is;
        }) refl

    -- the session of a Hello
    greets : (served : Served) → greeted (is_connect served.item) (Some served) ≡ (if is_connect served.item then Some served.session else None)
    greets served = by (is_connect served.item)
      where
        by : (test : Bool) → greeted test (Some served) ≡ (if test then Some served.session else None)
        by true = refl
        by false = refl

    session_told : (served : Served) → reply_at seen.links (go.Took connection sent) ≡ Some served → (told_step t seen client (go.Took connection sent)).session ≡ (if is_connect served.item then Some served.session else None)
    session_told served is = ap (λ (r : Option Served). greeted (is_hello r) r) is ∙ greets served

    -- one that it lost was not closed
    unclosed_lost : (number : ℕ) (lost : Link) → list_any (λ other. other == number) (lost_links (course_now t.setting client (length own.past) doing)) ≡ true → link_at t.machine.links number ≡ Some lost → is_closed lost ≡ false
    unclosed_lost number lost among at =
        let is : IsUnclosed t.machine.links doing number = unclosed client own doing here now number (lost_held (course_now t.setting client (length own.past) doing) number among) in
        let both : Some is.link ≡ Some lost = sym is.there ∙ at in
        let same : is.link ≡ lost = cc in
        ap is_closed (sym same) ∙ is.never

    lost_so : LostTold t (course_now t.setting client (length own.past) doing) (told_step t seen client (go.Took connection sent)).lost (asked_of replied.served.item)
    lost_so =
        subst (λ (l : Option SeenLink). LostTold t (course_now t.setting client (length own.past) doing) l (asked_of replied.served.item)) (sym (ap (lost_at seen.links) replied.taken))
        (lost_told t (course_now t.setting client (length own.past) doing) seen.links all found inv.orderly.basic.named
        (and_parts _ (wants_lost t (course_now t.setting client (length own.past) doing)) (course_holds (one_pending t) t client own doing inv.lost.pending here now)).1 inv.orderly.number.told
        (λ number lost among at. unclosed_lost number lost among at)
        (record { client = client; place = length own.past }) link reply.frame replied.served replied.tells)

    kind : (more : List Step) → SentBy (now_at t doing (Took reply.frame link.is_open)).done.act sent → GoneBehind t doing link reply.frame more → TellsKind t client (length own.past) doing (told_step t seen client (go.Took connection sent)) (now_at t doing (Took reply.frame link.is_open) ∷ more)
    kind more sends gone = HasTaken connection sent link reply.frame replied.served more refl sends has there replied.taken replied.tells (session_told replied.served replied.taken) lost_so gone

    -- it goes on, or is over, at the reply
    one_act : doing_of t.setting.terms (t.machine.event + 1) t.machine.tick own ≡ Some doing → SentBy (now_at t doing (Took reply.frame link.is_open)).done.act sent → (n : Machine) → GoneBehind t doing link reply.frame []
        → Moves t.setting (at_event t.machine) n client own (after_now t doing (Took reply.frame link.is_open)) → Acts t seen client (go.Took connection sent) n
    one_act does sends n behind moves = record {
      own = own;
      here = here;
      doing = doing;
      does = does;
      acts = now_at t doing (Took reply.frame link.is_open) ∷ [];
      tells = kind [] sends behind;
      after = after_now t doing (Took reply.frame link.is_open);
      request = refl;
      steps = refl;
      moves = moves;
      told = refl;
    }

    taken_acts : (does : doing_of t.setting.terms (t.machine.event + 1) t.machine.tick own ≡ Some doing) (sends : SentBy (now_at t doing (Took reply.frame link.is_open)).done.act sent) (a n : Machine) → a.event ≡ t.machine.event + 1 → a.tick ≡ t.machine.tick
        → TakenSo t.setting (at_event t.machine) client own here a n (after_now t doing (Took reply.frame link.is_open)) link (now_at t doing (Took reply.frame link.is_open)).done.act.hold → Acts t seen client (go.Took connection sent) n
    taken_acts does sends a n event tick (Alive opens clients moves) = one_act does sends n (GoesOn opens) moves
    taken_acts does sends a n event tick (Ended shut over moves) = one_act does sends n (IsOver shut over) moves
    taken_acts does sends a n event tick (Lost shut keeps moves) = record {
      own = own;
      here = here;
      doing = doing;
      does = does;
      acts = now_at t doing (Took reply.frame link.is_open) ∷ now_at t (after_now t doing (Took reply.frame link.is_open)) (Gone (ended_at link)) ∷ [];
      tells = kind (now_at t (after_now t doing (Took reply.frame link.is_open)) (Gone (ended_at link)) ∷ []) sends (IsGone shut keeps);
      after = heard t.setting.terms a.event a.tick (record (after_now t doing (Took reply.frame link.is_open)) { connection = None }) (Gone (unwrap_or link.ended 0));
      request = refl;
      steps =
          append_assoc doing.steps (now_at t doing (Took reply.frame link.is_open) ∷ []) (step_at t.setting.terms a.event a.tick (after_now t doing (Took reply.frame link.is_open)) (Gone (ended_at link)) ∷ [])
          ∙ (λ i. doing.steps ++ now_at t doing (Took reply.frame link.is_open) ∷ step_at t.setting.terms (event i) (tick i) (after_now t doing (Took reply.frame link.is_open)) (Gone (ended_at link)) ∷ []);
      moves = moves;
      told = refl;
    }

  -- the request that it is at did this, or nothing
  did_so : {wanted : Wants} (doing : Doing) (is : IsDoing t.setting (at_event t.machine) client doing wanted) (did : GoNote) (n : Machine) (acts : List Step) (after : Doing) → told_steps t seen client did ≡ told_step t seen client did ∷ [] → after.request ≡ doing.request
      → after.steps ≡ doing.steps ++ acts → TellsKind t client (length is.client.past) doing (told_step t seen client did) acts → Moves t.setting (at_event t.machine) n client is.client after → StepTells t seen client did n
  did_so doing is did n acts after told request steps tells moves =
      TellsOne (record { own = is.client; here = is.here; doing = doing; does = is.does; acts = acts; tells = tells; after = after; request = request; steps = steps; moves = moves; told = told })

  -- Each step of a client, by its note.
  pub step_tells : (did : GoNote) (n : Machine) → GoesAs t.setting (at_event t.machine) client did n → StepTells t seen client did n
  step_tells _ _ Idles = TellsNone refl refl
  step_tells _ _ (Rests doing _ _ is TooEarly) =
      did_so doing is go.Early _ [] doing refl refl (sym (append-nil doing.steps)) (Rested refl is.wants (bare t seen client go.Early refl refl))
      (rests_at doing go.Early is.client is.here (was_there t.setting.terms (t.machine.event + 1) t.machine.tick wants.Early is.client.now is.client.next doing is.does is.wants (λ same. let none : ⊥ = cc in none)))
  step_tells _ _ (Rests doing _ _ is NoneFound) =
      did_so doing is go.NoFrame _ [] doing refl refl (sym (append-nil doing.steps)) (FoundNone refl is.wants (bare t seen client go.NoFrame refl refl)) (rests_at doing go.NoFrame is.client is.here (old_doing doing is))
  step_tells _ _ (Waits doing is answer) =
      did_so doing is go.Wait _ (now_at t doing Waiting ∷ []) (after_now t doing Waiting) refl refl refl (Waited refl (begun_slot doing is) (bare t seen client go.Wait refl refl))
      (steps_move t.setting (at_event t.machine) client is.client is.here (with_pool (at_event t.machine) _) doing false Waiting refl)
  step_tells _ _ (Lends doing connection link ltxid is answer there held) =
      let session = lent_session connection link ltxid there held in
      did_so doing is (go.Lent connection) _ (now_at t doing (Lent connection ltxid) ∷ []) (after_now t (record doing { connection = Some connection }) (Lent connection ltxid)) refl refl refl
      (WasLent connection link ltxid refl (begun_slot doing is) there held refl session.0 (session.0 ∙ session.1) refl)
      (steps_move t.setting (at_event t.machine) client is.client is.here (with_pool (at_event t.machine) _) (record doing { connection = Some connection }) true (Lent connection ltxid) refl)
  step_tells _ _ (Opens doing wanted pool is tries) =
      let new : ℕ = next_number (at_event t.machine) in
      did_so doing is (go.Open new) _ (now_at t doing (Opened new) ∷ []) (after_now t (record doing { connection = Some new }) (Opened new)) refl refl refl
      (HasOpened new refl refl (begun_try doing wanted pool is tries) (bare t seen client (go.Open new) refl refl))
      (steps_move t.setting (at_event t.machine) client is.client is.here (with_new (at_event t.machine) pool) (record doing { connection = Some new }) true (Opened new) refl)
  step_tells _ _ (Fails doing wanted pool is tries) =
      did_so doing is go.Down _ (now_at t doing TryFailed ∷ []) (after_now t doing TryFailed) refl refl refl (HasFailed refl (begun_try doing wanted pool is tries) (bare t seen client go.Down refl refl))
      (steps_move t.setting (at_event t.machine) client is.client is.here (with_pool (at_event t.machine) pool) doing true TryFailed refl)
  step_tells _ _ (Takes doing connection sent link reply left is has there down frames) =
      TellsOne (taken_acts doing is.client is.here (old_doing doing is) connection sent link reply left has there down is.does
      (subst (SentBy (now_at t doing (Took reply.frame link.is_open)).done.act) (sym frames) (frames_sent t.machine.pool connection (now_at t doing (Took reply.frame link.is_open)).done.act))
      (steps t.setting (taking (at_event t.machine) connection link reply left) client doing true (Took reply.frame link.is_open)) _ refl refl
      (unless_moves t.setting (at_event t.machine) client is.client is.here (steps t.setting (taking (at_event t.machine) connection link reply left) client doing true (Took reply.frame link.is_open))
      (after_now t doing (Took reply.frame link.is_open)) link (now_at t doing (Took reply.frame link.is_open)).done.act.hold
      (stepped t.setting t.machine.clients client is.client (after_now t doing (Took reply.frame link.is_open)) (now_at t doing (Took reply.frame link.is_open)).done.act.hold is.here)))
  step_tells _ _ (Loses doing connection link is has there down shut) =
      did_so doing is (go.Lost connection) _ (now_at t doing (Gone (ended_at link)) ∷ []) (after_now t (record doing { connection = None }) (Gone (ended_at link))) refl refl refl
      (HasLost connection link refl has there shut (bare t seen client (go.Lost connection) refl refl))
      (steps_move t.setting (at_event t.machine) client is.client is.here (at_event t.machine) (record doing { connection = None }) true (Gone (unwrap_or link.ended 0)) refl)
