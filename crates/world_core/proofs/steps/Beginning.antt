-- A request that begins.
use Rattle.std.proofs.Common.{◌≡◌, ℕ, zero, suc, true, false, List, [], ◌∷◌, Option, Some, None, IfSome, refl, sym, ap, ap₂, subst, ◌∙◌}
use Rattle.std.specs.Prelude.{slice_get, is_some, option_map}
use Rattle.std.specs.List.{AllByRecursion}
use Rattle.std.specs.Option.{option_or}
use Rattle.svc_values.specs.declared.frame.Up.{Up}
use Rattle.request_bounds.specs.meaning.Rules.{Rules}
use Rattle.outage_schedule.specs.declared.document.Request.{Request}
use Rattle.client_model.specs.declared.act.Hold.{Hold}
use Rattle.client_model.specs.declared.input.Input.TheVariants.{Start}
use Rattle.client_model.specs.meaning.Terms.{Terms, Talk, requested}
use Rattle.driver_core.specs.Driving.{Driving, terms_of, ArePast}
use Rattle.run_clauses.specs.meaning.Copies.{next_of}
use Rattle.transcript_core.specs.Drafts.{IsDraft}
use Rattle.transcript_core.specs.Following.{IsNext}
use Rattle.world_model.specs.meaning.Clients.{Doing, Client, reports_of, script_at, heard, begun, doing_of, after_hold}
use Rattle.world_model.specs.meaning.Settings.{Setting}
use Rattle.world_core.specs.declared.client.Course.{Course}
use Rattle.world_core.specs.Coursing.{Held, IsNow, IsBeside, IsClient, Hears, Begins}

-- what holds of all requests holds of the one at a place
pub one_of : {A : Type 0} (P : A → Type 0) (items : List A) (place : ℕ) (one : A) → AllByRecursion P items → Some one ≡ slice_get items place → P one
one_of P [] place one all there = absurd (let none : ⊥ = cc in none)
one_of P (a ∷ items) zero one all there = let same : a ≡ one = cc in subst P same all.0
one_of P (a ∷ items) (suc place) one all there = one_of P items place one all.1 there

-- the request as it is handed in
abbrev pub first_doing : Request → Doing
first_doing request = record { request = request; talk = requested request.settings request.calls; connection = None; steps = [] }

-- with an empty draft
abbrev pub IsBlank : Request → Option Course → Type 0
IsBlank request course = (terms : Terms) → IfSome course (λ c. (c.connection ≡ None) × IsDraft terms request [] c.draft)

module _ (R : Type 0) (rules : R → Rules) (setting : Setting) (number event tick : ℕ) (before between after : Held R) (client : Client) (request : Request) where
  -- the request is handed in
  pub record Submits : Type 0 where
    pub driver : between.driver ≡ record before.driver { talk = requested request.settings request.calls; gone_next = false }
    pub next : between.next ≡ before.next
    pub past : between.past ≡ before.past
    pub course : is_some between.course ≡ true
    pub draft : IsBlank request between.course

  module _ (submits : Submits) (is : IsClient R rules setting number tick false before client) where
    beside : IsBeside R rules setting number tick false between (record client { now = Some (first_doing request) })
    beside = record {
      terms = ap (λ (d : Driving R). terms_of (rules d.rule) d.limits d.recorded) submits.driver ∙ is.beside.terms;
      past = submits.past ∙ is.beside.past;
      following = subst (λ n. IsNext (script_at setting number) (reports_of client.past) n) (sym submits.next) is.beside.following;
      next = is.beside.next;
      ticks = subst (λ (d : Driving R). ArePast d.talk tick) (sym submits.driver) (record { tried = tt; queued = tt; submitted = tt });
      gone = ap (λ (d : Driving R). d.gone_next) submits.driver;
    }

    in_course : (course : Option Course) → is_some course ≡ true → IsBlank request course → IsNow setting.terms between.driver.talk course (Some (first_doing request))
    in_course None some blank = absurd (let none : ⊥ = cc in none)
    in_course (Some course) some blank = record { talk = ap (λ (d : Driving R). d.talk) submits.driver; connection = (blank setting.terms).0; draft = (blank setting.terms).1 }

    pub submitted : IsClient R rules setting number tick false between (record client { now = Some (first_doing request) })
    submitted = record { beside = beside; now = in_course between.course submits.course submits.draft }

  -- no request is in course
  resting_now : (course : Option Course) (now : Option Doing) (terms : Terms) (talk : Talk) → is_some course ≡ false → IsNow terms talk course now → now ≡ None
  resting_now None None terms talk none stands = refl
  resting_now None (Some doing) terms talk none stands = absurd stands
  resting_now (Some course) now terms talk none stands = absurd (let nothing : ⊥ = cc in nothing)

  pub begins_so : (script : List Request) (frames : List Up) (hold : Hold) → script ≡ script_at setting number → is_some before.course ≡ false → IsClient R rules setting number tick false before client → ((reports : _) → IsNext script reports before.next → Some request ≡ next_of script reports)
      → Hears R rules setting number event tick (record client { now = Some (first_doing request) }) (first_doing request) Start frames hold after
      → Begins R rules setting number tick client (doing_of setting.terms event tick client) true after
  begins_so script frames hold same none is found hears =
      let now : client.now ≡ None = resting_now before.course client.now setting.terms before.driver.talk none is.now in
      let next : client.next ≡ Some request =
      is.beside.next ∙ ap (λ (s : List Request). next_of s (reports_of client.past)) (sym same)
      ∙ sym (found (reports_of client.past) (subst (λ (s : List Request). IsNext s (reports_of client.past) before.next) (sym same) is.beside.following)) in
      let goes : doing_of setting.terms event tick client ≡ Some (begun setting.terms event tick request) = ap₂ (λ (a : Option Doing) (b : Option Request). option_or a (option_map (begun setting.terms event tick) b)) now next in
      let kept : IsClient R rules setting number tick false after (record client { now = Some (begun setting.terms event tick request) }) =
      subst (λ (h : Hold). IsClient R rules setting number tick false after (after_hold setting number (record client { now = Some (first_doing request) }) (heard setting.terms event tick (first_doing request) Start) h)) hears.hold hears.stands in
      subst (λ (d : Option Doing). Begins R rules setting number tick client d true after) (sym goes) (refl, kept)
