-- The answer that a request takes where it asked for an outcome: it says what the item of its
-- question does, and that item stands.
use Rattle.std.proofs.Common.{◌≡◌, refl, sym, ap, subst, ◌∙◌, Bool, true, false, ℕ, length, ◌∷◌, Some, None, if◌then◌else◌}
use Rattle.std.specs.Prelude.{◌==◌}
use Rattle.std.specs.List.{list_all}
use Rattle.std.proofs.lemmas.Bool.{and_parts}
use Rattle.svc_values.specs.declared.entry.Ltxid.{Ltxid}
use Rattle.svc_values.specs.declared.frame.Ahead.{Ahead}
use Rattle.svc_values.specs.declared.frame.Ahead.TheVariants as ahead
use Rattle.svc_values.specs.declared.frame.Down.{Down}
use Rattle.svc_values.specs.declared.frame.Down.TheVariants as down
use Rattle.svc_values.specs.declared.frame.Up.{Up}
use Rattle.svc_values.specs.declared.frame.Up.TheVariants as up
use Rattle.svc_values.specs.meaning.Same.{same_bool}
use Rattle.svc_values.specs.SameLaws.{same_ltxid_decides, same_bool_decides}
use Rattle.outage_schedule.specs.declared.item.Item.{Item}
use Rattle.outage_schedule.specs.declared.item.Item.TheVariants as item
use Rattle.outage_schedule.specs.declared.note.AskResult.{AskResult}
use Rattle.outage_schedule.specs.declared.note.AskResult.TheVariants as told
use Rattle.client_model.specs.declared.input.Input.{Input}
use Rattle.client_model.specs.declared.input.Input.TheVariants.{Took}
use Rattle.client_model.specs.meaning.States.{Asking}
use Rattle.client_model.specs.meaning.Terms.{Phase, Asked}
use Rattle.world_model.specs.meaning.Frames.{Handled}
use Rattle.world_model.specs.records.Hold.{is_ask, is_awaited}
use Rattle.world_model.specs.Orderly.{Orderly}
use Rattle.world_model.specs.meaning.Links.{Link, link_at}
use Rattle.world_model.specs.meaning.Machines.{Machine}
use Rattle.world_model.specs.Parts.{is_rep, served_reps}
use Rattle.world_model.specs.Sames.{same_ahead, same_down, same_owners, same_sent, same_up}
use Rattle.world_model.specs.meaning.Serving.{is_item_of, outcome_frame}
use Rattle.invariant_laws.specs.Shown.{stands, outcome_stands, answers_stand}
use Rattle.world_model.specs.Traced.{Traced}
use Rattle.world_model.proofs.Offered.{at_link, filter_all, HasStepped, at_event, known_of, Known, IsLast, first_step, first_doing}
use Rattle.invariant_laws.proofs.rows.KeptRows.{before_on}
use Rattle.invariant_laws.proofs.losses.OutcomesTold.{fits_input, input_fits}
use Rattle.invariant_laws.proofs.losses.ReplyFits.{is_expected}
use Rattle.invariant_laws.proofs.losses.ReplyItems.{answering, answers_last, IsSaidBy, said_by}
use Rattle.invariant_laws.proofs.rows.RowCourses.{OnIt}
use Rattle.invariant_laws.proofs.history.ServedPass.{served_pass}
use Rattle.invariant_laws.proofs.rows.ShownNow.{FirstReply, first_reply, all_last}
use Rattle.invariant_laws.proofs.talks.TalkPending.{no_ahead}

-- the item of the question, what it replied, and that this is the answer that was taken
pub record Answered (passes : Item → Bool) (x : Ltxid) (frame : Down) : Type 0 where
  pub asked : Up
  pub served : Up
  pub asks : is_ask x asked ≡ true
  pub alike : same_up served asked ≡ true
  pub one : Item
  pub said : Down
  pub by : IsSaidBy served one said
  pub same : same_down frame said ≡ true
  pub here : passes one ≡ true

-- what the item tells of the identifier, where its reply is an outcome
pub record TellsOutcome (passes : Item → Bool) (x : Ltxid) (committed completed : Bool) : Type 0 where
  pub result : AskResult
  pub tells : outcome_frame result ≡ down.OutcomeIs committed completed
  pub here : passes (item.Outcome x result) ≡ true

-- WHAT AN ITEM TELLS ------------------------------------------------------------------------------

-- the frame is that of the result
frame_is : (committed completed : Bool) (said : Down) (result : AskResult) → same_down (down.OutcomeIs committed completed) said ≡ true → same_down said (outcome_frame result) ≡ true → outcome_frame result ≡ down.OutcomeIs committed completed
frame_is committed completed (down.OutcomeIs c k) (told.Committed last) same replies =
    let one = and_parts (same_bool committed c) (same_bool completed k) same in
    let two = and_parts (same_bool c true) (same_bool k last) replies in
    let is : committed ≡ true = (same_bool_decides committed c).0 one.0 ∙ (same_bool_decides c true).0 two.0 in
    let so : completed ≡ last = (same_bool_decides completed k).0 one.1 ∙ (same_bool_decides k last).0 two.1 in
    λ i. down.OutcomeIs (sym is i) (sym so i)
frame_is committed completed (down.OutcomeIs c k) told.Uncommitted same replies =
    let one = and_parts (same_bool committed c) (same_bool completed k) same in
    let two = and_parts (same_bool c false) (same_bool k false) replies in
    let is : committed ≡ false = (same_bool_decides committed c).0 one.0 ∙ (same_bool_decides c false).0 two.0 in
    let so : completed ≡ false = (same_bool_decides completed k).0 one.1 ∙ (same_bool_decides k false).0 two.1 in
    λ i. down.OutcomeIs (sym is i) (sym so i)
frame_is committed completed said result same replies = absurd (let none : ⊥ = cc in none)

-- the outcome that an item's answer tells is of the identifier that was asked for
item_tells : (passes : Item → Bool) (x : Ltxid) (frame sent : Up) (one : Item) (said : Down) (committed completed : Bool) → is_ask x sent ≡ true → same_up frame sent ≡ true → IsSaidBy frame one said
    → same_down (down.OutcomeIs committed completed) said ≡ true → passes one ≡ true → TellsOutcome passes x committed completed
item_tells passes x (up.Outcome z) (up.Outcome y) (item.Outcome asked result) said committed completed ask alike by same here =
    let equal : asked ≡ x = (same_ltxid_decides asked z).0 by.is ∙ ((same_ltxid_decides z y).0 alike ∙ sym ((same_ltxid_decides x y).0 ask)) in
    record { result = result; tells = frame_is committed completed said result same by.replies; here = subst (λ (y : Ltxid). passes (item.Outcome y result) ≡ true) equal here }
item_tells passes x (up.Outcome z) (up.Outcome y) one said committed completed ask alike by same here = absurd (let e : is_item_of (up.Outcome z) one ≡ true = by.is in let none : ⊥ = cc in none)
item_tells passes x frame (up.Outcome y) one said committed completed ask alike by same here = absurd (let none : ⊥ = cc in none)
item_tells passes x frame sent one said committed completed ask alike by same here = absurd (let none : ⊥ = cc in none)

-- a result by its frame
result_is : (committed completed : Bool) (result : AskResult) → outcome_frame result ≡ down.OutcomeIs committed completed → result ≡ (if committed then told.Committed completed else told.Uncommitted)
result_is true completed (told.Committed last) is = let same : last ≡ completed = cc in ap told.Committed same
result_is false completed told.Uncommitted is = refl
result_is committed completed result is = absurd (let none : ⊥ = cc in none)

-- one that is refused is forgotten
refused_is : (who : Ahead) (next : ℕ) (said : Down) (horizon : ℕ) → same_down (down.OutcomeRefused who next) said ≡ true → same_down said (down.OutcomeRefused ahead.Forgotten horizon) ≡ true → who ≡ ahead.Forgotten
refused_is who next (down.OutcomeRefused other number) horizon same replies =
    forgotten who other (and_parts (same_ahead who other) (next == number) same).0 (and_parts (same_ahead other ahead.Forgotten) (number == horizon) replies).0
  where
    forgotten : (a b : Ahead) → same_ahead a b ≡ true → same_ahead b ahead.Forgotten ≡ true → a ≡ ahead.Forgotten
    forgotten ahead.Forgotten b one other = refl
    forgotten ahead.Server ahead.Server one other = absurd (let none : ⊥ = cc in none)
    forgotten ahead.Client ahead.Client one other = absurd (let none : ⊥ = cc in none)
    forgotten a b one other = absurd (let none : ⊥ = cc in none)
refused_is who next said horizon same replies = absurd (let none : ⊥ = cc in none)

result_forgotten : (t : Traced) (x : Ltxid) (who : Ahead) (next : ℕ) (said : Down) (result : AskResult) → same_down (down.OutcomeRefused who next) said ≡ true → same_down said (outcome_frame result) ≡ true → stands t (item.Outcome x result) ≡ true → who ≡ ahead.Forgotten
result_forgotten t x who next said (told.Forgotten horizon) same replies here = refused_is who next said horizon same replies
result_forgotten t x who next (down.OutcomeRefused other number) (told.Committed completed) same replies here = absurd (let none : ⊥ = cc in none)
result_forgotten t x who next (down.OutcomeRefused other number) told.Uncommitted same replies here = absurd (let none : ⊥ = cc in none)
result_forgotten t x who next said result same replies here = absurd (let none : ⊥ = cc in none)

refused_stands : (t : Traced) (x : Ltxid) (frame sent : Up) (one : Item) (said : Down) (who : Ahead) (next : ℕ) → is_ask x sent ≡ true → same_up frame sent ≡ true → IsSaidBy frame one said → same_down (down.OutcomeRefused who next) said ≡ true → stands t one ≡ true
    → who ≡ ahead.Forgotten
refused_stands t x (up.Outcome z) (up.Outcome y) (item.Outcome asked result) said who next ask alike by same here = result_forgotten t asked who next said result same by.replies here
refused_stands t x (up.Outcome z) (up.Outcome y) one said who next ask alike by same here = absurd (let e : is_item_of (up.Outcome z) one ≡ true = by.is in let none : ⊥ = cc in none)
refused_stands t x frame (up.Outcome y) one said who next ask alike by same here = absurd (let none : ⊥ = cc in none)
refused_stands t x frame sent one said who next ask alike by same here = absurd (let none : ⊥ = cc in none)

-- where it is awaited an outcome was asked
refused_asked : (phase : Phase) (who : Ahead) (next : ℕ) → is_expected phase (down.OutcomeRefused who next) ≡ true → (asking : Asking) × (phase ≡ Asked asking)
refused_asked (Asked asking) who next fits = (asking, refl)
refused_asked phase who next fits = absurd (let none : ⊥ = cc in none)

never_first : (one : Handled) → None ≡ Some one → ⊥
never_first one is = let none : ⊥ = cc in none

-- A STEP ------------------------------------------------------------------------------------------

module _ (t : Traced) (inv : Orderly t) (passes : Item → Bool) (items : list_all (served_pass passes) t.machine.links ≡ true) (number : ℕ) (n : Machine) (step : HasStepped t.setting (at_event t.machine) number n) where
  abbrev now : Machine
  now = at_event t.machine

  answered : (asking : Asking) (frame : Down) (alive : Bool) → step.input ≡ Took frame alive → step.before.talk.phase ≡ Asked asking → Answered passes asking.ltxid frame
  answered asking frame alive input phase =
      let first : FirstReply now step.before.connection frame =
      first_reply t.setting now n number (first_doing t.setting now inv.script.talks number n step) (first_step t.setting now inv.script.talks number n step).done.act.hold _ step.after step.before.connection step.input step.heard_on frame alive input in
      let it : OnIt t.machine.links (record { client = number; place = length step.client.past }) step.before.connection step.before.talk.phase =
      before_on t now number n step step.here inv.hold.held inv.wire.grammar first.number first.has in
      let e : Some it.number ≡ Some first.number = sym it.has ∙ first.has in
      let number_same : it.number ≡ first.number = cc in
      let there : link_at now.links first.number ≡ Some it.link = ap (link_at now.links) (sym number_same) ∙ it.there in
      let f : Some first.link ≡ Some it.link = sym first.there ∙ there in
      let link_same : first.link ≡ it.link = cc in
      let down_is : it.link.down ≡ first.reply ∷ first.later = ap (λ (l : Link). l.down) (sym link_same) ∙ first.down in
      let knows : Known it.link = known_of t inv first.number it.link there in
      let last : IsLast it.link first.reply = answering it.link knows first.reply first.later down_is it.last it.is it.answered in
      let sent_same : same_sent last.one.sent it.last ≡ true = answers_last it.link knows first.reply first.later down_is it.last it.is it.answered in
      let two = and_parts (last.one.sent.call == it.last.call) (same_up last.one.sent.frame it.last.frame) (and_parts (same_owners last.one.sent.owner it.last.owner) _ sent_same).1 in
      let all : served_pass passes it.link ≡ true = at_link (served_pass passes) t.machine.links first.number it.link items there in
      record {
        asked = it.last.frame;
        served = last.one.sent.frame;
        asks = subst (λ (p : Phase). is_awaited p it.last ≡ true) phase it.awaited;
        alike = two.1;
        one = last.one.served.item;
        said = last.frame;
        by = said_by it.link knows first.reply last;
        same = subst (λ (g : Down). same_down g last.frame ≡ true) first.is last.same;
        here =
            all_last (λ (h : Handled). passes h.served.item) None (served_reps it.link) last.one (λ y never. absurd (never_first y never))
            (filter_all (λ (h : Handled). passes h.served.item) (λ (h : Handled). is_rep h.sent) it.link.served all) last.last;
      }

  -- what it is told is that of an item that passes
  pub told_item : (asking : Asking) (committed completed alive : Bool) → step.input ≡ Took (down.OutcomeIs committed completed) alive → step.before.talk.phase ≡ Asked asking → TellsOutcome passes asking.ltxid committed completed
  told_item asking committed completed alive input phase =
      let it : Answered passes asking.ltxid (down.OutcomeIs committed completed) = answered asking (down.OutcomeIs committed completed) alive input phase in
      item_tells passes asking.ltxid it.served it.asked it.one it.said committed completed it.asks it.alike it.by it.same it.here

module _ (t : Traced) (inv : Orderly t) (answers : answers_stand t ≡ true) (number : ℕ) (n : Machine) (step : HasStepped t.setting (at_event t.machine) number n) where
  -- the outcome that it is told stands
  pub told_now : (asking : Asking) (committed completed alive : Bool) → step.input ≡ Took (down.OutcomeIs committed completed) alive → step.before.talk.phase ≡ Asked asking
      → outcome_stands t (record { ltxid = asking.ltxid; committed = committed; completed = completed }) ≡ true
  told_now asking committed completed alive input phase =
      let it : TellsOutcome (stands t) asking.ltxid committed completed = told_item t inv (stands t) answers number n step asking committed completed alive input phase in
      subst (λ (result : AskResult). stands t (item.Outcome asking.ltxid result) ≡ true) (result_is committed completed it.result it.tells) it.here

  -- and no session is said to be ahead of it, nor behind it
  pub never_ahead : no_ahead step.input ≡ true
  never_ahead = by step.input refl
    where
      forgotten : (who : Ahead) (next : ℕ) (alive : Bool) → step.input ≡ Took (down.OutcomeRefused who next) alive → who ≡ ahead.Forgotten
      forgotten who next alive is =
          let asked = refused_asked step.before.talk.phase who next (subst (λ (i : Input). fits_input step.before.talk.phase i ≡ true) is (input_fits t inv number n step)) in
          let it : Answered (stands t) asked.0.ltxid (down.OutcomeRefused who next) = answered t inv (stands t) answers number n step asked.0 (down.OutcomeRefused who next) alive is asked.1 in
          refused_stands t asked.0.ltxid it.served it.asked it.one it.said who next it.asks it.alike it.by it.same it.here

      by : (input : Input) → step.input ≡ input → no_ahead step.input ≡ true
      by (Took (down.OutcomeRefused ahead.Server next) alive) is = absurd (let never : ahead.Server ≡ ahead.Forgotten = forgotten ahead.Server next alive is in let none : ⊥ = cc in none)
      by (Took (down.OutcomeRefused ahead.Client next) alive) is = absurd (let never : ahead.Client ≡ ahead.Forgotten = forgotten ahead.Client next alive is in let none : ⊥ = cc in none)
      by input is = ap no_ahead is
