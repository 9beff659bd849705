-- The steps of a client, request by request, where it makes one more.
use Rattle.std.proofs.Common.{◌≡◌, ◌≢◌, refl, sym, ap, subst, ◌∙◌, append-nil, append_assoc, Bool, ℕ, zero, suc, ◌+◌, length, List, [], ◌∷◌, ◌++◌, cond, Option, Some, None, option_map, ◌⊎◌, inl, inr, arith}
use Rattle.std.specs.Prelude.{◌==◌, slice_set}
use Rattle.std.specs.Option.{option_or}
use Rattle.std.proofs.lemmas.List.{map-append}
use Rattle.std.proofs.lemmas.List.Elements.{filter-append}
use Rattle.outage_schedule.specs.declared.document.Request.{Request}
use Rattle.outage_schedule.specs.declared.note.GoNote.{GoNote}
use Rattle.outage_schedule.specs.declared.request.RequestReport.{RequestReport}
use Rattle.run_clauses.specs.meaning.Copies.{next_of}
use Rattle.shown_clauses.specs.meaning.Links.{Seen}
use Rattle.shown_clauses.specs.meaning.Steps.{Step as StepTold, steps_of}
use Rattle.world_model.specs.meaning.Clients.{Step, Doing, Past, Client, client_at, begun, past_of, script_at, reports_of, with_client}
use Rattle.invariant_laws.specs.Invariant.{Invariant}
use Rattle.world_model.specs.meaning.Machines.{Machine}
use Rattle.world_model.specs.meaning.Settings.{Setting}
use Rattle.world_model.specs.Traced.{Traced}
use Rattle.shown_laws.specs.Tellings.{Telling, steps_in_tellings, Begins, WasThere, BeginsNow, TellsStep, TellsRequest, NoneYet, OneMore, TellsPast, NonePast, OnePast, TellsNow, NoneNow, OneNow, joined, FollowsFrom, IsScripted, TellsClient, TellsClients}
use Rattle.shown_laws.proofs.events.ClientsMove.{Leads, GoesOn, IsOver, client_own, client_other}
use Rattle.shown_laws.proofs.events.Lookups.{either, eq_to, ne_to}
use Rattle.shown_laws.proofs.steps.StepsTold.{told_step, Acts}

-- REQUESTS ----------------------------------------------------------------------------------------

-- a request more is over
past_more : (setting : Setting) (client place : ℕ) (past : List Past) (told : List (List Telling)) (one : Past) (tellings : List Telling) → TellsPast setting client place past told → TellsRequest setting client (place + length past) one.request tellings one.steps
    → TellsPast setting client place (past ++ one ∷ []) (told ++ tellings ∷ [])
past_more setting client _ _ _ one tellings (NonePast place) is =
    let same : place + 0 ≡ place = omega arith in
    OnePast place one [] tellings [] (subst (λ (k : ℕ). TellsRequest setting client k one.request tellings one.steps) same is) (NonePast (place + 1))
past_more setting client _ _ _ one tellings (OnePast place first others own more its rest) is =
    let same : place + length (first ∷ others) ≡ (place + 1) + length others = omega arith in
    OnePast place first (others ++ one ∷ []) own (more ++ tellings ∷ []) its (past_more setting client (place + 1) others more one tellings rest (subst (λ (k : ℕ). TellsRequest setting client k one.request tellings one.steps) same is))

joined_more : (told : List (List Telling)) (tellings : List Telling) → joined (told ++ tellings ∷ []) ≡ joined told ++ tellings
joined_more [] tellings = append-nil tellings
joined_more (first ∷ told) tellings = ap (λ (rest : List Telling). first ++ rest) (joined_more told tellings) ∙ sym (append_assoc first (joined told) tellings)

-- the request that is there, or begins now, and what was told of it so far
record Current (t : Traced) (client : ℕ) (own : Client) (doing : Doing) (tellings : List Telling) : Type 0 where
  pub steps : List Step
  pub began : List Step
  pub begins : Begins t own doing steps began
  pub all : doing.steps ≡ steps ++ began
  pub told : TellsRequest t.setting client (length own.past) doing.request tellings steps

was_now : (t : Traced) (client : ℕ) (own : Client) (doing : Doing) (one : Doing) (tellings : List Telling) → own.now ≡ Some one → one ≡ doing → TellsRequest t.setting client (length own.past) one.request tellings one.steps → Current t client own doing tellings
was_now t client own doing one tellings now same told =
    let its : TellsRequest t.setting client (length own.past) doing.request tellings doing.steps = subst (λ (d : Doing). TellsRequest t.setting client (length own.past) d.request tellings d.steps) same told in
    record { steps = doing.steps; began = []; begins = WasThere (now ∙ ap Some same); all = sym (append-nil doing.steps); told = its }

current : (t : Traced) (client : ℕ) (own : Client) (doing : Doing) (now : Option Doing) (next : Option Request) (tellings : List Telling) → own.now ≡ now → own.next ≡ next
    → option_or now (option_map (begun t.setting.terms (t.machine.event + 1) t.machine.tick) next) ≡ Some doing → TellsNow t.setting client (length own.past) now tellings → Current t client own doing tellings
current t client own doing _ next _ is_now is_next does (OneNow one tellings told) = was_now t client own doing one tellings is_now (let same : one ≡ doing = cc in same) told
current t client own doing _ None _ is_now is_next does NoneNow = absurd (let none : ⊥ = cc in none)
current t client own doing _ (Some request) _ is_now is_next does NoneNow =
    let same : begun t.setting.terms (t.machine.event + 1) t.machine.tick request ≡ doing = cc in
    record { steps = []; began = _; begins = BeginsNow request is_now is_next (sym same); all = ap (λ (d : Doing). d.steps) (sym same); told = NoneYet }

set_long : (clients : List Client) (index : ℕ) (client : Client) → length (slice_set clients index client) ≡ length clients
set_long [] index client = refl
set_long (first ∷ clients) zero client = refl
set_long (first ∷ clients) (suc index) client = ap suc (set_long clients index client)

with_long : (clients : List Client) (number : ℕ) (client : Client) → length (with_client clients number client) ≡ length clients
with_long clients zero client = refl
with_long clients (suc index) client = set_long clients index client

-- ONE STEP MORE -----------------------------------------------------------------------------------

-- what is told of a client with one telling more, of the request in course or of one that is over
-- by it
pub data IsLonger (one : Telling) (past : List (List Telling)) (now : List Telling) : List (List Telling) → List Telling → Type 0 where
  InCourse : IsLonger one past now past (now ++ one ∷ [])
  AtEnd : IsLonger one past now (past ++ (now ++ one ∷ []) ∷ []) []

module _ (t : Traced) (inv : Invariant t) (seen : Seen) (client : ℕ) (did : GoNote) (n : Machine) (acts : Acts t seen client did n) where
  abbrev telling : List Step → Telling
  telling began = record { step = told_step t seen client did; acts = began ++ acts.acts }

  -- a step more of the request
  pub record More (tellings : List Telling) : Type 0 where
    pub steps : List Step
    pub one : Telling
    pub tells : TellsStep t.setting client (length acts.own.past) acts.doing.request steps one
    pub now : tells.t ≡ t
    pub step : one.step ≡ told_step t seen client did
    pub told : TellsRequest t.setting client (length acts.own.past) acts.after.request (tellings ++ one ∷ []) acts.after.steps

  request_more : (tellings : List Telling) → Current t client acts.own acts.doing tellings → More tellings
  request_more tellings is =
      let steps : acts.after.steps ≡ is.steps ++ (is.began ++ acts.acts) = acts.steps ∙ (ap (λ (s : List Step). s ++ acts.acts) is.all ∙ append_assoc is.steps is.began acts.acts) in
      let tells : TellsStep t.setting client (length acts.own.past) acts.doing.request is.steps (telling is.began) = record {
        t = t;
        inv = inv;
        of_run = refl;
        own = acts.own;
        here = acts.here;
        at = refl;
        doing = acts.doing;
        does = acts.does;
        same = refl;
        began = is.began;
        begins = is.begins;
        acts = acts.acts;
        all = refl;
        event = refl;
        tick = refl;
        whose = refl;
        kind = acts.tells;
      } in
      record {
        steps = is.steps;
        one = telling is.began;
        tells = tells;
        now = refl;
        step = refl;
        told =
            subst (λ (request : Request). TellsRequest t.setting client (length acts.own.past) request (tellings ++ telling is.began ∷ []) acts.after.steps) (sym acts.request)
            (subst (TellsRequest t.setting client (length acts.own.past) acts.doing.request (tellings ++ telling is.began ∷ [])) (sym steps) (OneMore tellings is.steps (telling is.began) is.told tells));
      }

  -- the request in course is the one that was next
  was_next : IsScripted (script_at t.setting client) acts.own → acts.own.next ≡ Some acts.doing.request
  was_next is = by acts.own.now acts.own.next refl refl acts.does
    where
      by : (now : Option Doing) (next : Option Request) → acts.own.now ≡ now → acts.own.next ≡ next → option_or now (option_map (begun t.setting.terms (t.machine.event + 1) t.machine.tick) next) ≡ Some acts.doing → acts.own.next ≡ Some acts.doing.request
      by (Some doing) next has is_next does = is.now acts.doing (has ∙ does)
      by None (Some request) has is_next does = is_next ∙ ap Some (let same : begun t.setting.terms (t.machine.event + 1) t.machine.tick request ≡ acts.doing = cc in ap (λ (d : Doing). d.request) same)
      by None None has is_next does = absurd (let none : ⊥ = cc in none)

  follows_on : (script : List Request) (before : List RequestReport) (past : List Past) (one : Past) → FollowsFrom script before past → next_of script (before ++ reports_of past) ≡ Some one.request → FollowsFrom script before (past ++ one ∷ [])
  follows_on script before [] one follows next = (ap (next_of script) (sym (append-nil before)) ∙ next, tt)
  follows_on script before (first ∷ past) one follows next =
      (follows.0, follows_on script (before ++ first.report ∷ []) past one follows.1 (ap (next_of script) (append_assoc before (first.report ∷ []) (reports_of past)) ∙ next))

  scripted_more : (next : Client) → Leads t.setting client acts.own acts.after next → IsScripted (script_at t.setting client) acts.own → IsScripted (script_at t.setting client) next
  scripted_more _ GoesOn is = record {
    past = is.past;
    next = is.next;
    now = λ doing has. was_next is ∙ ap Some (sym acts.request ∙ (let same : acts.after ≡ doing = cc in ap (λ (d : Doing). d.request) same));
  }
  scripted_more _ IsOver is = record {
    past = follows_on (script_at t.setting client) [] acts.own.past (past_of t.setting.terms acts.after) is.past (sym is.next ∙ (was_next is ∙ ap Some (sym acts.request)));
    next = refl;
    now = λ doing never. absurd (let none : ⊥ = cc in none);
  }

  -- what is told of the client then
  pub record ClientMore (told : List StepTold) (next : Client) (was : TellsClient t.setting client acts.own told) : Type 0 where
    pub tells : TellsClient t.setting client next (told ++ told_step t seen client did ∷ [])
    pub more : More was.now
    pub longer : IsLonger more.one was.past was.now tells.past tells.now

  pub client_more : (told : List StepTold) (next : Client) → Leads t.setting client acts.own acts.after next → (was : TellsClient t.setting client acts.own told) → ClientMore told next was
  client_more told next leads was = by next leads (scripted_more next leads was.scripted) (request_more was.now (current t client acts.own acts.doing acts.own.now acts.own.next was.now refl refl acts.does was.tells_now))
    where
      longer : (one : Telling) → one.step ≡ told_step t seen client did → told ++ told_step t seen client did ∷ [] ≡ steps_in_tellings (joined was.past ++ (was.now ++ one ∷ []))
      longer one same =
          ap (λ (s : List StepTold). s ++ told_step t seen client did ∷ []) was.all
          ∙ (ap (λ (s : StepTold). steps_in_tellings (joined was.past ++ was.now) ++ s ∷ []) (sym same)
          ∙ (sym (map-append (λ (x : Telling). x.step) (joined was.past ++ was.now) (one ∷ [])) ∙ ap steps_in_tellings (append_assoc (joined was.past) was.now (one ∷ []))))

      by : (next : Client) → Leads t.setting client acts.own acts.after next → IsScripted (script_at t.setting client) next → More was.now → ClientMore told next was
      by _ GoesOn scripted more = record {
        tells = record { past = was.past; now = was.now ++ more.one ∷ []; tells_past = was.tells_past; tells_now = OneNow acts.after (was.now ++ more.one ∷ []) more.told; all = longer more.one more.step; scripted = scripted };
        more = more;
        longer = InCourse;
      }
      by _ IsOver scripted more = record {
        tells = record {
          past = was.past ++ (was.now ++ more.one ∷ []) ∷ [];
          now = [];
          tells_past =
              let none : 0 + length acts.own.past ≡ length acts.own.past = omega arith in
              past_more t.setting client 0 acts.own.past was.past (past_of t.setting.terms acts.after) (was.now ++ more.one ∷ []) was.tells_past
              (subst (λ (k : ℕ). TellsRequest t.setting client k acts.after.request (was.now ++ more.one ∷ []) acts.after.steps) (sym none) more.told);
          tells_now = NoneNow;
          all = longer more.one more.step ∙ ap steps_in_tellings (sym (append-nil (joined (was.past ++ (was.now ++ more.one ∷ []) ∷ [])) ∙ joined_more was.past (was.now ++ more.one ∷ [])));
          scripted = scripted;
        };
        more = more;
        longer = AtEnd;
      }

  -- the steps of one client, where this one makes a step more
  own_steps : (told : List StepTold) → steps_of client (told ++ told_step t seen client did ∷ []) ≡ steps_of client told ++ told_step t seen client did ∷ []
  own_steps told =
      filter-append (λ (step : StepTold). step.client == client) told (told_step t seen client did ∷ [])
      ∙ ap (λ (test : Bool). steps_of client told ++ cond test (told_step t seen client did ∷ []) []) (eq_to client client refl)

  other_steps : (other : ℕ) → other ≢ client → (told : List StepTold) → steps_of other (told ++ told_step t seen client did ∷ []) ≡ steps_of other told
  other_steps other differ told =
      filter-append (λ (step : StepTold). step.client == other) told (told_step t seen client did ∷ [])
      ∙ (ap (λ (test : Bool). steps_of other told ++ cond test (told_step t seen client did ∷ []) []) (ne_to client other (λ same. differ (sym same))) ∙ append-nil (steps_of other told))

  -- What holds of each client and its steps holds then, where it goes on for this one.
  pub each_more : (P : ℕ → Client → List StepTold → Type 0) (told : List StepTold) → (P client acts.own (steps_of client told) → P client acts.moves.next (steps_of client told ++ told_step t seen client did ∷ []))
      → ((other : ℕ) (own : Client) → client_at t.machine.clients other ≡ Some own → P other own (steps_of other told))
      → (other : ℕ) (own : Client) → client_at n.clients other ≡ Some own → P other own (steps_of other (told ++ told_step t seen client did ∷ []))
  each_more P told goes_on before other own here = by (either other client)
    where
      by : (other ≡ client) ⊎ (other ≢ client) → P other own (steps_of other (told ++ told_step t seen client did ∷ []))
      by (inl same) =
          let at : client_at n.clients client ≡ Some acts.moves.next = ap (λ (c : List Client). client_at c client) acts.moves.clients ∙ client_own t.machine.clients client acts.own acts.moves.next acts.here in
          let both : Some acts.moves.next ≡ Some own = sym at ∙ (ap (client_at n.clients) (sym same) ∙ here) in
          let is : acts.moves.next ≡ own = cc in
          subst (λ (k : ℕ). P k own (steps_of k (told ++ told_step t seen client did ∷ []))) (sym same)
          (subst (P client own) (sym (own_steps told)) (subst (λ (c : Client). P client c (steps_of client told ++ told_step t seen client did ∷ [])) is (goes_on (before client acts.own acts.here))))
      by (inr differ) =
          subst (P other own) (sym (other_steps other differ told))
          (before other own (sym (client_other t.machine.clients client other acts.moves.next differ) ∙ (ap (λ (c : List Client). client_at c other) (sym acts.moves.clients) ∙ here)))

  -- All clients, where this one makes a step more.
  pub clients_more : (told : List StepTold) → TellsClients t.setting t.machine.clients told → TellsClients t.setting n.clients (told ++ told_step t seen client did ∷ [])
  clients_more told before = record {
    many = ap length acts.moves.clients ∙ (with_long t.machine.clients client acts.moves.next ∙ before.many);
    each = each_more (TellsClient t.setting) told (λ was. (client_more (steps_of client told) acts.moves.next acts.moves.leads was).tells) before.each;
  }
