-- The call that a step shows is that of the item of its frame, or an outcome said that it was
-- committed and completed.
use Rattle.std.proofs.Common.{◌≡◌, refl, sym, ap, subst, ◌∙◌, Bool, true, false, ℕ, ◌&&◌, length, List, [], ◌∷◌, Option, Some, None}
use Rattle.std.specs.Prelude.{◌==◌, slice_get}
use Rattle.std.specs.List.{list_all, list_any, last_or}
use Rattle.std.specs.Option.{option_map_or}
use Rattle.std.proofs.lemmas.Bool.{and_parts, and_from}
use Rattle.svc_values.specs.declared.answer.Answer.TheVariants as answer
use Rattle.svc_values.specs.declared.call.Call.{Call}
use Rattle.svc_values.specs.declared.draw.Draw.{Draw}
use Rattle.svc_values.specs.declared.frame.Up.{Up}
use Rattle.svc_values.specs.declared.frame.Up.TheVariants as up
use Rattle.svc_values.specs.declared.frame.Down.{Down}
use Rattle.svc_values.specs.declared.frame.Down.TheVariants as down
use Rattle.svc_values.specs.meaning.Same.{same_bool, same_call}
use Rattle.svc_values.specs.SameLaws.{same_call_decides}
use Rattle.client_model.specs.declared.act.Hold.{Hold}
use Rattle.client_model.specs.declared.act.Shown.{Shown}
use Rattle.client_model.specs.declared.input.Input.{Input}
use Rattle.client_model.specs.declared.input.Input.TheVariants.{Took}
use Rattle.client_model.specs.meaning.States.{Living, Asking}
use Rattle.client_model.specs.meaning.Talk.{talk_step, takes}
use Rattle.client_model.specs.meaning.Terms.{Phase, Asked, Running}
use Rattle.client_model.proofs.Offered.{Fits}
use Rattle.run_clauses.specs.meaning.Reports.{shown_call}
use Rattle.world_model.specs.records.Conversing.{AllTalk}
use Rattle.world_model.specs.meaning.Clients.{Doing}
use Rattle.world_model.specs.meaning.Frames.{Owner, Sent, Reply, Handled}
use Rattle.world_model.specs.records.Hold.{is_awaited, is_call as is_awaited_call}
use Rattle.world_model.specs.meaning.Links.{Link, link_at}
use Rattle.world_model.specs.meaning.Machines.{Machine}
use Rattle.world_model.specs.Parts.{is_answered, is_rep}
use Rattle.world_model.specs.Sames.{is_of, owned_by, same_owner, same_owners, same_up, same_down, same_sent}
use Rattle.world_model.specs.meaning.Settings.{Setting}
use Rattle.invariant_laws.specs.Shown.{is_call, is_scripts, is_shown_item}
use Rattle.world_model.specs.Traced.{Course, course_now}
use Rattle.world_model.proofs.Offered.{is_frame, HasStepped, HeardOn, OfNone, OfIdle, OfNew, OfReply, OfEnded, Known, IsLast, account_now, first_step, eq_from, eq_to}
use Rattle.invariant_laws.proofs.losses.OutcomesTold.{told_more}
use Rattle.invariant_laws.proofs.losses.ReplyItems.{answering, answers_last, among_served, said_by, call_says}
use Rattle.invariant_laws.proofs.rows.RowCourses.{OnIt}
use Rattle.invariant_laws.proofs.rows.RowLast.{row_of, last_row}
use Rattle.invariant_laws.proofs.rows.RowSteps.{before_fits}
use Rattle.invariant_laws.proofs.talks.TalkShows.{ShowsBy, ByReply, ByOutcome, IsTaken, shows_taken, taken_shows}

-- the last one passes what all do
pub all_last : {A : Type 0} (test : A → Bool) (found : Option A) (xs : List A) (last : A) → ((x : A) → found ≡ Some x → test x ≡ true) → list_all test xs ≡ true → last_or found xs ≡ Some last → test last ≡ true
all_last test found [] last first all is = first last is
all_last {A} test found (x ∷ xs) last first all is =
    let parts = and_parts (test x) (list_all test xs) all in all_last test (Some x) xs last (λ y same. let e : x ≡ y = cc in subst (λ (z : A). test z ≡ true) e parts.0) parts.1 is

owner_alike : (owner : Owner) (a b : Option Owner) → ((x y : Owner) → same_owner x y ≡ true → x ≡ y) → same_owners a b ≡ true → is_of owner b ≡ true → is_of owner a ≡ true
owner_alike owner None None decides same is = is
owner_alike owner None (Some b) decides same is = absurd (let none : ⊥ = cc in none)
owner_alike owner (Some a) None decides same is = absurd (let none : ⊥ = cc in none)
owner_alike owner (Some a) (Some b) decides same is = subst (λ (x : Owner). same_owner owner x ≡ true) (sym (decides a b same)) is

-- a frame that is taken is the first one on its way, on the connection that the request has
pub record FirstReply (m : Machine) (had : Option ℕ) (frame : Down) : Type 0 where
  pub number : ℕ
  pub has : had ≡ Some number
  pub link : Link
  pub there : link_at m.links number ≡ Some link
  pub reply : Reply
  pub later : List Reply
  pub down : link.down ≡ reply ∷ later
  pub is : reply.frame ≡ frame

no_first : (sent : Sent) → None ≡ Some sent → ⊥
no_first sent is = let none : ⊥ = cc in none

pub first_reply : (setting : Setting) (m n : Machine) (who : ℕ) (first : Doing) (held : Hold) (said : List Sent) (after : Doing) (had : Option ℕ) (input : Input) → HeardOn setting m n who first held said after had input
    → (frame : Down) (alive : Bool) → input ≡ Took frame alive → FirstReply m had frame
first_reply setting m n who first held said after _ _ (OfNone had input none plain same) frame alive is = absurd (let e : is_frame input ≡ true = ap is_frame is in let never : ⊥ = cc in never)
first_reply setting m n who first held said after _ _ (OfIdle had connection ltxid answer same) frame alive is = absurd (let never : ⊥ = cc in never)
first_reply setting m n who first held said after _ _ (OfNew had same) frame alive is = absurd (let never : ⊥ = cc in never)
first_reply setting m n who first held said after _ _ (OfReply had connection link reply left has there down now behind) frame alive is =
    record { number = connection; has = has; link = link; there = there; reply = reply; later = left; down = down; is = let e : Took reply.frame link.is_open ≡ Took frame alive = is in cc }
first_reply setting m n who first held said after _ _ (OfEnded had connection link has there closed now same) frame alive is = absurd (let never : ⊥ = cc in never)

-- the call that is out, as it was sent
pub record OutCall (index : ℕ) (sent : Sent) : Type 0 where
  pub kept : List Draw
  pub call : Call
  pub frame : sent.frame ≡ up.Call false kept call
  pub at : sent.call ≡ index

out_frame_is : (index : ℕ) (sent : Sent) (frame : Up) → sent.frame ≡ frame → is_awaited_call false index sent frame ≡ true → OutCall index sent
out_frame_is index sent (up.Call false kept call) is awaited = record { kept = kept; call = call; frame = is; at = eq_from sent.call index (and_parts (same_bool false false) (sent.call == index) awaited).1 }
out_frame_is index sent (up.Call true kept call) is awaited = absurd (let none : ⊥ = cc in none)
out_frame_is index sent up.Connect is awaited = absurd (let none : ⊥ = cc in none)
out_frame_is index sent (up.Begin settings) is awaited = absurd (let none : ⊥ = cc in none)
out_frame_is index sent (up.Outcome x) is awaited = absurd (let none : ⊥ = cc in none)
out_frame_is index sent up.End is awaited = absurd (let none : ⊥ = cc in none)
out_frame_is index sent up.Close is awaited = absurd (let none : ⊥ = cc in none)

-- the script's call of this index
pub record ScriptCall (calls : List Call) (index : ℕ) (call : Call) : Type 0 where
  pub is : slice_get calls index ≡ Some call

script_call : (calls : List Call) (index : ℕ) (call : Call) → option_map_or (same_call call) (slice_get calls index) false ≡ true → ScriptCall calls index call
script_call calls index call here = by (slice_get calls index) refl here
  where
    by : (found : Option Call) → slice_get calls index ≡ found → option_map_or (same_call call) found false ≡ true → ScriptCall calls index call
    by None is here = absurd (let none : ⊥ = cc in none)
    by (Some one) is here = record { is = is ∙ ap Some (sym ((same_call_decides call one).0 here)) }

-- the item on a connection that shows it
pub record IsShownOn (links : List Link) (owner : Owner) (calls : List Call) (index : ℕ) (shown : Shown) (number : ℕ) : Type 0 where
  pub link : Link
  pub there : link_at links number ≡ Some link
  pub call : Call
  pub script : slice_get calls index ≡ Some call
  pub among : list_any (λ (one : Handled). owned_by owner one.sent && ((one.sent.call == index) && is_shown_item call (shown_call shown) one.served.item)) link.served ≡ true

module _ (setting : Setting) (m : Machine) (talks : AllTalk setting.terms m.clients) (number : ℕ) (n : Machine) (step : HasStepped setting m number n) where
  -- by an outcome
  pub record Completed (asking : Asking) (shown : Shown) : Type 0 where
    pub call : Call
    pub script : slice_get step.before.request.calls (length (account_now setting.terms step.before).shown) ≡ Some call
    pub commits : shown.answers ≡ answer.Committed ∷ []
    pub told : told_more step.input step.before.talk.phase ≡ record { ltxid = asking.ltxid; committed = true; completed = true } ∷ []
    pub alive : Bool
    pub input : step.input ≡ Took (down.OutcomeIs true true) alive

  -- one of these two
  pub data ShownNow (shown : Shown) : Type 0 where
    FromItem : (at : ℕ) → step.before.connection ≡ Some at → IsShownOn m.links (record { client = number; place = length step.client.past }) step.before.request.calls (length (account_now setting.terms step.before).shown) shown at → ShownNow shown
    FromOutcome : (asking : Asking) → step.before.talk.phase ≡ Asked asking → Completed asking shown → ShownNow shown

module _ (setting : Setting) (m : Machine) (talks : AllTalk setting.terms m.clients) (number : ℕ) (n : Machine) (step : HasStepped setting m number n) (decides : (x y : Owner) → same_owner x y ≡ true → x ≡ y)
    (on : (connection : ℕ) → step.before.connection ≡ Some connection → OnIt m.links (record { client = number; place = length step.client.past }) step.before.connection step.before.talk.phase)
    (known : (at : ℕ) (link : Link) → link_at m.links at ≡ Some link → Known link)
    (scripts : (at : ℕ) (link : Link) → step.before.connection ≡ Some at → link_at m.links at ≡ Some link
    → list_all (λ sent. is_scripts (course_now setting number (length step.client.past) step.before) sent sent.frame) (row_of (record { client = number; place = length step.client.past }) link.sent) ≡ true) where
  abbrev mine : Owner
  mine = record { client = number; place = length step.client.past }

  abbrev course : Course
  course = course_now setting number (length step.client.past) step.before

  abbrev shown_before : List Shown
  shown_before = (account_now setting.terms step.before).shown

  abbrev fits_of : Phase → Type 0
  fits_of p = Fits setting.terms step.before.request.calls (account_now setting.terms step.before) (before_fits setting m talks number n step).gone p

  fits_at : (p : Phase) → step.before.talk.phase ≡ p → fits_of p
  fits_at p is = subst fits_of is (before_fits setting m talks number n step).fits

  -- by a reply
  reply_shown : (frame : Down) (alive : Bool) → step.input ≡ Took frame alive → (shown : Shown) (state : Living) → step.before.talk.phase ≡ Running state → frame ≡ down.Reply shown.answers shown.draws shown.ltxid
      → (at : ℕ) × (step.before.connection ≡ Some at) × IsShownOn m.links mine step.before.request.calls (length shown_before) shown at
  reply_shown frame alive input shown state phase said =
      let first : FirstReply m step.before.connection frame = first_reply setting m n number _ _ _ step.after step.before.connection step.input step.heard_on frame alive input in
      let held : step.before.connection ≡ Some first.number = first.has in
      let it : OnIt m.links mine step.before.connection step.before.talk.phase = on first.number held in
      let e : Some it.number ≡ Some first.number = sym it.has ∙ held in
      let number_same : it.number ≡ first.number = cc in
      let there : link_at m.links first.number ≡ Some it.link = ap (link_at m.links) (sym number_same) ∙ it.there in
      let f : Some first.link ≡ Some it.link = sym first.there ∙ there in
      let link_same : first.link ≡ it.link = cc in
      let out : OutCall state.track.call it.last = out_frame_is state.track.call it.last it.last.frame refl (subst (λ (p : Phase). is_awaited p it.last ≡ true) phase it.awaited) in
      let down_is : it.link.down ≡ first.reply ∷ first.later = ap (λ (l : Link). l.down) (sym link_same) ∙ first.down in
      let rep : is_rep it.last ≡ true = ap is_answered out.frame in
      let knows : Known it.link = known first.number it.link there in
      let last : IsLast it.link first.reply = answering it.link knows first.reply first.later down_is it.last it.is rep in
      let sent_same : same_sent last.one.sent it.last ≡ true = answers_last it.link knows first.reply first.later down_is it.last it.is rep in
      let one = and_parts (same_owners last.one.sent.owner it.last.owner) ((last.one.sent.call == it.last.call) && same_up last.one.sent.frame it.last.frame) sent_same in
      let two = and_parts (last.one.sent.call == it.last.call) (same_up last.one.sent.frame it.last.frame) one.1 in
      let index : state.track.call ≡ length shown_before = (fits_at (Running state) phase).0.tracked.call in
      let place : last.one.sent.call ≡ length shown_before = eq_from last.one.sent.call it.last.call two.0 ∙ (out.at ∙ index) in
      let row_last : last_or None (row_of mine it.link.sent) ≡ Some it.last = last_row mine it.link.sent it.last it.is it.mine (ap is_call out.frame) in
      let so : is_scripts course it.last it.last.frame ≡ true =
      all_last (λ sent. is_scripts course sent sent.frame) None (row_of mine it.link.sent) it.last (λ x never. absurd (no_first x never)) (scripts first.number it.link held there) row_last in
      let called : option_map_or (same_call out.call) (slice_get step.before.request.calls it.last.call) false ≡ true = subst (λ (u : Up). is_scripts course it.last u ≡ true) out.frame so in
      let script : ScriptCall step.before.request.calls (length shown_before) out.call =
      script_call step.before.request.calls (length shown_before) out.call (subst (λ (k : ℕ). option_map_or (same_call out.call) (slice_get step.before.request.calls k) false ≡ true) (out.at ∙ index) called) in
      let says : is_shown_item out.call (shown_call shown) last.one.served.item ≡ true =
      call_says shown.answers shown.draws shown.ltxid out.kept out.call last.one.sent.frame last.one.served.item last.frame (subst (λ (u : Up). same_up last.one.sent.frame u ≡ true) out.frame two.1) (said_by it.link knows first.reply last)
      (subst (λ (g : Down). same_down g last.frame ≡ true) (first.is ∙ said) last.same) in
      let here : (owned_by mine last.one.sent && ((last.one.sent.call == length shown_before) && is_shown_item out.call (shown_call shown) last.one.served.item)) ≡ true =
      and_from (owned_by mine last.one.sent) ((last.one.sent.call == length shown_before) && is_shown_item out.call (shown_call shown) last.one.served.item) (owner_alike mine last.one.sent.owner it.last.owner decides one.0 it.mine)
      (and_from (last.one.sent.call == length shown_before) (is_shown_item out.call (shown_call shown) last.one.served.item) (eq_to last.one.sent.call (length shown_before) place) says) in (
        first.number,
        held,
        record {
          link = it.link;
          there = there;
          call = out.call;
          script = script.is;
          among = among_served it.link knows first.reply first.later down_is it.last it.is rep (λ (h : Handled). owned_by mine h.sent && ((h.sent.call == length shown_before) && is_shown_item out.call (shown_call shown) h.served.item)) here;
        },
      )

  -- why it was shown
  pub shown_by : (shown : Shown) → (first_step setting m talks number n step).done.act.shown ≡ Some shown → (frame : Down) × (alive : Bool) × (step.input ≡ Took frame alive) × ShowsBy step.before.talk.phase frame shown
  shown_by shown is =
      let taken : IsTaken step.input = shows_taken setting.terms step.before.talk m.tick shown step.input is in
      let takes_it : (takes setting.terms step.before.talk step.before.talk.phase taken.frame taken.alive m.tick).1.shown ≡ Some shown = subst (λ (i : Input). (talk_step setting.terms step.before.talk i m.tick).1.shown ≡ Some shown) taken.is is in
      (taken.frame, taken.alive, taken.is, taken_shows setting.terms step.before.talk step.before.talk.phase taken.frame taken.alive m.tick shown takes_it)

  outcome_shown : (frame : Down) (alive : Bool) → step.input ≡ Took frame alive → (shown : Shown) (asking : Asking) → step.before.talk.phase ≡ Asked asking → frame ≡ down.OutcomeIs true true → shown.answers ≡ answer.Committed ∷ []
      → Completed setting m talks number n step asking shown
  outcome_shown frame alive input shown asking phase said commits =
      let fits = fits_at (Asked asking) phase in
      let index : asking.track.call ≡ length shown_before = fits.0.tracked.call in
      record {
        call = fits.0.left.one;
        script = ap (slice_get step.before.request.calls) (sym index) ∙ fits.0.left.is;
        commits = commits;
        told = ap (λ (i : Input). told_more i step.before.talk.phase) (input ∙ ap (λ (f : Down). Took f alive) said) ∙ ap (λ (p : Phase). told_more (Took (down.OutcomeIs true true) alive) p) phase;
        alive = alive;
        input = input ∙ ap (λ (f : Down). Took f alive) said;
      }

  pub shown_now : (shown : Shown) → (first_step setting m talks number n step).done.act.shown ≡ Some shown → ShownNow setting m talks number n step shown
  shown_now shown is =
      let why = shown_by shown is in by why.0 why.1 why.2 why.3
    where
      by : (frame : Down) (alive : Bool) → step.input ≡ Took frame alive → ShowsBy step.before.talk.phase frame shown → ShownNow setting m talks number n step shown
      by frame alive input (ByReply state phase said) = let found = reply_shown frame alive input shown state phase said in FromItem found.0 found.1 found.2
      by frame alive input (ByOutcome asking phase said commits) = FromOutcome asking phase (outcome_shown frame alive input shown asking phase said commits)
