-- Which sending of a request a step answers: its last one, of the call whose reply is taken, or
-- none.
use Rattle.std.proofs.Common.{◌≡◌, refl, sym, ap, subst, ◌∙◌, Bool, true, false, ℕ, length, List, [], ◌∷◌, Option, Some, None}
use Rattle.std.specs.Prelude.{◌==◌, is_none}
use Rattle.std.proofs.lemmas.Bool.{and_parts}
use Rattle.svc_values.specs.declared.answer.Answer.{Answer}
use Rattle.svc_values.specs.declared.draw.Draw.{Draw}
use Rattle.svc_values.specs.declared.entry.Ltxid.{Ltxid}
use Rattle.svc_values.specs.declared.frame.Down.{Down}
use Rattle.svc_values.specs.declared.frame.Down.TheVariants as down
use Rattle.client_model.specs.declared.act.Hold.{Hold}
use Rattle.client_model.specs.declared.act.Shown.{Shown}
use Rattle.client_model.specs.declared.input.Input.{Input}
use Rattle.client_model.specs.declared.input.Input.TheVariants.{Start, Waiting, Lent, Opened, TryFailed, Took, Gone}
use Rattle.client_model.specs.meaning.States.{Living}
use Rattle.client_model.specs.meaning.Talk.{talk_step}
use Rattle.client_model.specs.meaning.Terms.{Running}
use Rattle.world_model.specs.meaning.Clients.{Doing, Step}
use Rattle.world_model.specs.meaning.Frames.{Owner}
use Rattle.world_model.specs.Orderly.{Orderly}
use Rattle.world_model.specs.meaning.Machines.{Machine}
use Rattle.invariant_laws.specs.Once.{are_apart}
use Rattle.world_model.specs.Parts.{Sending, Scan, answered, with_taken}
use Rattle.world_model.specs.Traced.{Traced}
use Rattle.world_model.proofs.Offered.{HasStepped, HeardOn, OfNone, OfIdle, OfNew, OfReply, OfEnded, is_frame, at_event, scan_by, heard_scan, first_step, first_doing, eq_from, none_is}
use Rattle.invariant_laws.proofs.sendings.FateSteps.{Taking}
use Rattle.invariant_laws.proofs.sendings.FateTops.{last_open, scan_on}
use Rattle.invariant_laws.proofs.talks.Placing.{said as spoken_frames}
use Rattle.invariant_laws.proofs.talks.TalkShows.{ShowsBy, ByReply, ByOutcome, taken_shows}
use Rattle.invariant_laws.proofs.talks.TalkTop.{top_open}

module _ (t : Traced) (inv : Orderly t) (apart : are_apart t ≡ true) (new : Traced) (who : ℕ) (step : HasStepped t.setting (at_event t.machine) who new.machine) where
  abbrev m : Machine
  m = at_event t.machine

  abbrev mine : Owner
  mine = record { client = who; place = length step.client.past }

  abbrev one : Step
  one = first_step t.setting m inv.script.talks who new.machine step

  abbrev before : Scan
  before = scan_by mine step.before.steps

  abbrev scan_now : Scan
  scan_now = heard_scan t.setting m inv.script.talks who new.machine step

  -- the reply to it is taken on its connection, and none was before
  pub record IsAnswered (top : Sending) (answers : List Answer) : Type 0 where
    pub taking : Taking t inv apart new who step
    pub draws : List Draw
    pub ltxid : Ltxid
    pub says : taking.reply.frame ≡ down.Reply answers draws ltxid
    pub on_it : top.connection ≡ taking.connection
    pub untaken : top.taken ≡ None

  pub data Answering : List Sending → List Sending → Type 0 where
    Unanswered : (list : List Sending) → Answering list list
    LastAnswered : (top : Sending) (rest : List Sending) (answers : List Answer) → before.sendings ≡ top ∷ rest → IsAnswered top answers → Answering (top ∷ rest) (record top { taken = Some answers } ∷ rest)

  -- where a reply is heard it is taken
  taken_at : (frame : Down) (alive : Bool) → step.input ≡ Took frame alive → (taking : Taking t inv apart new who step) × (taking.reply.frame ≡ frame)
  taken_at frame alive heard = by step.before.connection step.input step.after refl refl step.heard_on
    where
      by : {kept : Hold} (had : Option ℕ) (input : Input) (after : Doing) → step.before.connection ≡ had → step.input ≡ input → HeardOn t.setting m new.machine who (first_doing t.setting m inv.script.talks who new.machine step) kept (spoken_frames t.setting m who new.machine step) after had input
          → (taking : Taking t inv apart new who step) × (taking.reply.frame ≡ frame)
      by _ _ after was is (OfReply had connection link reply later some there down_is next back) =
          let both : Took reply.frame link.is_open ≡ Took frame alive = sym is ∙ heard in
          let same : reply.frame ≡ frame = cc in
          (record { connection = connection; link = link; reply = reply; later = later; has = was ∙ some; there = there; down_is = down_is; heard = is; after = next }, same)
      by _ _ after was is (OfNone had input none plain same) = absurd (let never : true ≡ false = ap is_frame (sym heard ∙ is) ∙ plain in let nothing : ⊥ = cc in nothing)
      by _ _ after was is (OfIdle had connection x answer same) = absurd (let never : Took frame alive ≡ Lent connection x = sym heard ∙ is in let nothing : ⊥ = cc in nothing)
      by _ _ after was is (OfNew had same) = absurd (let never : ◌≡◌ {A = Input} (Took frame alive) (Opened _) = sym heard ∙ is in let nothing : ⊥ = cc in nothing)
      by _ _ after was is (OfEnded had connection link some there shut next same) = absurd (let never : ◌≡◌ {A = Input} (Took frame alive) (Gone _) = sym heard ∙ is in let nothing : ⊥ = cc in nothing)

  pub answering : Answering before.sendings scan_now.sendings
  answering = by step.input one.done.act.shown refl refl
    where
      last_now : (answers : List Answer) (draws : List Draw) (x : Ltxid) (alive : Bool) → step.input ≡ Took (down.Reply answers draws x) alive → (state : Living) → step.before.talk.phase ≡ Running state → (list : List Sending) → before.sendings ≡ list
          → Answering list (with_taken answers list)
      last_now answers draws x alive heard state runs [] are = Unanswered []
      last_now answers draws x alive heard state runs (top ∷ rest) are =
          let found = taken_at (down.Reply answers draws x) alive heard in
          let opened = and_parts (top.connection == before.connection) (is_none top.taken) (subst (λ (list : List Sending). top_open before.connection list ≡ true) are (last_open t inv who new.machine step state runs)) in
          LastAnswered top rest answers are
          (record {
            taking = found.0;
            draws = draws;
            ltxid = x;
            says = found.1;
            on_it = eq_from top.connection before.connection opened.0 ∙ scan_on t inv who new.machine step state runs found.0.connection found.0.has found.0.link found.0.there;
            untaken = none_is top.taken opened.1;
          })

      by : (input : Input) (shown : Option Shown) → step.input ≡ input → one.done.act.shown ≡ shown → Answering before.sendings (answered input shown before.sendings)
      by (Took (down.Reply answers draws x) alive) (Some shown) is some =
          cases (taken_shows t.setting.terms step.before.talk step.before.talk.phase (down.Reply answers draws x) alive m.tick shown (sym (ap (λ (input : Input). (talk_step t.setting.terms step.before.talk input m.tick).1.shown) is) ∙ some))
        where
          cases : ShowsBy step.before.talk.phase (down.Reply answers draws x) shown → Answering before.sendings (with_taken answers before.sendings)
          cases (ByReply state runs same) = last_now answers draws x alive is state runs before.sendings refl
          cases (ByOutcome asking is_asked same committed) = absurd (let none : ⊥ = cc in none)
      by (Took (down.Reply answers draws x) alive) None is none = Unanswered before.sendings
      by (Took (down.Hello x) alive) shown is some = Unanswered before.sendings
      by (Took (down.OutcomeIs a b) alive) shown is some = Unanswered before.sendings
      by (Took (down.OutcomeRefused a b) alive) shown is some = Unanswered before.sendings
      by (Took down.Blocked alive) shown is some = Unanswered before.sendings
      by (Took (down.Refused cause) alive) shown is some = Unanswered before.sendings
      by Start shown is some = Unanswered before.sendings
      by Waiting shown is some = Unanswered before.sendings
      by (Lent connection x) shown is some = Unanswered before.sendings
      by (Opened connection) shown is some = Unanswered before.sendings
      by TryFailed shown is some = Unanswered before.sendings
      by (Gone event) shown is some = Unanswered before.sendings
