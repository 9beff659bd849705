-- What a connection serves, frame by frame: what each item tells of what its session did, and that
-- no call comes between a request's End and the next one's Begin.
use Rattle.std.proofs.Common.{◌≡◌, refl, sym, ap, subst, ◌∙◌, ℕ, ◌&&◌, ◌||◌, Bool, true, false, not, List, [], ◌∷◌, ◌++◌, map, fold, Option, Some, None, ◌⊎◌, inl, inr}
use Rattle.std.specs.Prelude.{is_none}
use Rattle.std.proofs.lemmas.Bool.{and_parts, and_from, or_cases}
use Rattle.svc_values.specs.declared.answer.Answer.{Answer}
use Rattle.svc_values.specs.declared.call.Call.{Call}
use Rattle.svc_values.specs.declared.draw.Draw.{Draw}
use Rattle.svc_values.specs.declared.entry.Ltxid.{Ltxid}
use Rattle.svc_values.specs.declared.entry.SessionId.{SessionId}
use Rattle.svc_values.specs.declared.frame.Down.{Down}
use Rattle.svc_values.specs.declared.frame.Down.TheVariants as down
use Rattle.svc_values.specs.declared.frame.Up.{Up}
use Rattle.svc_values.specs.declared.frame.Up.TheVariants as up
use Rattle.svc_values.specs.declared.value.Value.{Value}
use Rattle.svc_values.specs.meaning.Same.{same_answers, same_bool, same_call, same_draws}
use Rattle.svc_values.specs.SameLaws.{same_answers_decide, same_call_decides, same_draws_decide}
use Rattle.svc_values.specs.meaning.Identifiers.{same_ltxid}
use Rattle.outage_schedule.specs.declared.item.Item.{Item}
use Rattle.outage_schedule.specs.declared.item.Item.TheVariants as item
use Rattle.outage_schedule.specs.declared.note.AskResult.{AskResult}
use Rattle.server_model.specs.meaning.Items.{Thing, Connected, Began, Called, MetBlock, EndedRequest, Closed, Refused, CallStopped, OutcomeStopped, thing_of, of_outcome}
use Rattle.server_model.specs.meaning.Outcomes.{telling_of}
use Rattle.world_model.specs.meaning.Crashing.{is_crashed_item}
use Rattle.world_model.specs.meaning.Frames.{Owner, Sent, Handled}
use Rattle.world_model.specs.meaning.Links.{Link}
use Rattle.world_model.specs.Sames.{same_up, same_sent, same_owners, is_front}
use Rattle.world_model.specs.meaning.Serving.{is_item_of, reply_of}
use Rattle.invariant_laws.specs.SessionHistory.{told_with}
use Rattle.invariant_laws.specs.Shown.{is_call}
use Rattle.world_model.specs.records.Wire.{up_of, is_sent_front, same_replies, is_handled, Stage, New, Told, Repeated, Begun, Rested, Shut, Wrong, stage_if, next_stage, stage_of, is_right}
use Rattle.world_model.proofs.Offered.{same_frames, moved, wrong_stays, not_both}
use Rattle.invariant_laws.proofs.history.RanSettings.{settings_decide}

-- NO CALL BEHIND AN END ---------------------------------------------------------------------------

abbrev pub rests_behind : Bool → Up → Bool
rests_behind resting up.End = true
rests_behind resting (up.Begin settings) = false
rests_behind resting frame = resting

abbrev pub rests_rightly : Bool → List Up → Bool
rests_rightly resting [] = true
rests_rightly resting (frame ∷ frames) = not (resting && is_call frame) && rests_rightly (rests_behind resting frame) frames

same_rests : (resting : Bool) (a b : Up) → same_up a b ≡ true → (rests_behind resting a ≡ rests_behind resting b) × (is_call a ≡ is_call b)
same_rests resting up.Connect up.Connect same = (refl, refl)
same_rests resting (up.Begin settings) (up.Begin others) same = (refl, refl)
same_rests resting (up.Call replay kept call) (up.Call mark brought other) same = (refl, refl)
same_rests resting (up.Outcome x) (up.Outcome y) same = (refl, refl)
same_rests resting up.End up.End same = (refl, refl)
same_rests resting up.Close up.Close same = (refl, refl)
same_rests resting a b same = absurd (let never : ⊥ = cc in never)

-- behind an End, until the next Begin (or where the grammar was broken)
abbrev is_resting : Stage → Bool
is_resting (Rested one) = true
is_resting Shut = true
is_resting Wrong = true
is_resting stage = false

if_rests : (test : Bool) (stage : Stage) → is_resting stage ≡ true → is_resting (stage_if test stage) ≡ true
if_rests true stage is = is
if_rests false stage is = refl

end_rests : (stage : Stage) (owner : Option Owner) → is_resting (next_stage stage owner up.End) ≡ true
end_rests (Begun one) owner = if_rests (same_owners one owner) (Rested owner) refl
end_rests (Told one) owner = if_rests (same_owners one owner) (Rested owner) refl
end_rests (Repeated one) owner = if_rests (same_owners one owner) (Rested owner) refl
end_rests stage owner = refl

still_rests : (stage : Stage) (owner : Option Owner) (frame : Up) → is_resting stage ≡ true → (next_stage stage owner frame ≡ Wrong) ⊎ ((is_call frame ≡ false) × (rests_behind true frame ≡ true → is_resting (next_stage stage owner frame) ≡ true))
still_rests (Rested one) owner (up.Begin settings) is = inr (refl, λ rests. absurd (let never : ⊥ = cc in never))
still_rests (Rested one) owner up.Close is = inr (refl, λ rests. if_rests (is_none owner || same_owners one owner) Shut refl)
still_rests (Rested one) owner frame is = inl refl
still_rests Shut owner frame is = inl refl
still_rests Wrong owner frame is = inl refl
still_rests stage owner frame is = absurd (let never : ⊥ = cc in never)

right_rests : (stage : Stage) (resting : Bool) (sents : List Sent) → (resting ≡ true → is_resting stage ≡ true) → is_right (fold moved stage sents) ≡ true → rests_rightly resting (map (λ sent. sent.frame) sents) ≡ true
right_rests stage resting [] rests right = refl
right_rests stage resting (sent ∷ sents) rests right =
    and_from (not (resting && is_call sent.frame)) (rests_rightly (rests_behind resting sent.frame) (map (λ one. one.frame) sents)) (no_call resting refl)
    (right_rests (moved stage sent) (rests_behind resting sent.frame) sents (behind sent.frame refl) right)
  where
    wrong : {A : Type 0} → moved stage sent ≡ Wrong → A
    wrong is = absurd (not_both (is_right (fold moved Wrong sents)) (subst (λ (s : Stage). is_right (fold moved s sents) ≡ true) is right) (wrong_stays sents))

    no_call : (test : Bool) → resting ≡ test → not (test && is_call sent.frame) ≡ true
    no_call false is = refl
    no_call true is = by (still_rests stage sent.owner sent.frame (rests is))
      where
        by : (moved stage sent ≡ Wrong) ⊎ ((is_call sent.frame ≡ false) × (rests_behind true sent.frame ≡ true → is_resting (moved stage sent) ≡ true)) → not (is_call sent.frame) ≡ true
        by (inl is_wrong) = wrong is_wrong
        by (inr so) = ap not so.0

    -- a frame that leaves it so
    others : (frame : Up) → sent.frame ≡ frame → rests_behind resting frame ≡ resting → rests_behind resting frame ≡ true → is_resting (moved stage sent) ≡ true
    others frame is same rests_now = by (still_rests stage sent.owner sent.frame (rests (sym same ∙ rests_now)))
      where
        by : (moved stage sent ≡ Wrong) ⊎ ((is_call sent.frame ≡ false) × (rests_behind true sent.frame ≡ true → is_resting (moved stage sent) ≡ true)) → is_resting (moved stage sent) ≡ true
        by (inl is_wrong) = wrong is_wrong
        by (inr so) = so.1 (ap (rests_behind true) is ∙ ap (λ (test : Bool). rests_behind test frame) (sym (sym same ∙ rests_now)) ∙ rests_now)

    behind : (frame : Up) → sent.frame ≡ frame → rests_behind resting sent.frame ≡ true → is_resting (moved stage sent) ≡ true
    behind up.End is rests_now = ap (λ (f : Up). is_resting (next_stage stage sent.owner f)) is ∙ end_rests stage sent.owner
    behind (up.Begin settings) is rests_now = absurd (let none : false ≡ true = sym (ap (rests_behind resting) is) ∙ rests_now in let never : ⊥ = cc in never)
    behind up.Connect is rests_now = others up.Connect is refl (sym (ap (rests_behind resting) is) ∙ rests_now)
    behind (up.Call replay kept call) is rests_now = others (up.Call replay kept call) is refl (sym (ap (rests_behind resting) is) ∙ rests_now)
    behind (up.Outcome x) is rests_now = others (up.Outcome x) is refl (sym (ap (rests_behind resting) is) ∙ rests_now)
    behind up.Close is rests_now = others up.Close is refl (sym (ap (rests_behind resting) is) ∙ rests_now)

front_rests : (resting : Bool) (served : List Handled) (later sents : List Sent) → is_front same_sent (map (λ one. one.sent) served ++ later) sents ≡ true → rests_rightly resting (map (λ sent. sent.frame) sents) ≡ true
    → rests_rightly resting (map (λ one. one.sent.frame) served) ≡ true
front_rests resting [] later sents front rests = refl
front_rests resting (one ∷ served) later [] front rests = absurd (let never : ⊥ = cc in never)
front_rests resting (one ∷ served) later (sent ∷ sents) front rests =
    let parts = and_parts (same_sent one.sent sent) (is_front same_sent (map (λ h. h.sent) served ++ later) sents) front in
    let same = same_rests resting one.sent.frame sent.frame (same_frames one.sent sent parts.0) in
    let both = and_parts (not (resting && is_call sent.frame)) (rests_rightly (rests_behind resting sent.frame) (map (λ s. s.frame) sents)) rests in
    and_from (not (resting && is_call one.sent.frame)) (rests_rightly (rests_behind resting one.sent.frame) (map (λ h. h.sent.frame) served))
    (ap (λ (test : Bool). not (resting && test)) same.1 ∙ both.0)
    (front_rests (rests_behind resting one.sent.frame) served later sents parts.1 (ap (λ (test : Bool). rests_rightly test (map (λ (s : Sent). s.frame) sents)) same.0 ∙ both.1))

pub link_rests : (link : Link) → is_sent_front link ≡ true → is_right (stage_of link) ≡ true → rests_rightly false (map (λ one. one.sent.frame) link.served) ≡ true
link_rests link front right =
    front_rests false link.served link.up link.sent (and_parts (is_front same_sent (up_of link) link.sent) _ front).0 (right_rests New false link.sent (λ is. absurd (let never : ⊥ = cc in never)) right)

-- AN ITEM -----------------------------------------------------------------------------------------

-- what changes no transaction, of what a session did and of items
abbrev pub is_quiet_thing : Thing → Bool
is_quiet_thing (Began settings) = false
is_quiet_thing (Called replay kept call answers draws) = false
is_quiet_thing (CallStopped replay call) = false
is_quiet_thing thing = true

abbrev pub is_quiet_item : Item → Bool
is_quiet_item (item.Begin settings) = false
is_quiet_item (item.Call marked call answers draws) = false
is_quiet_item (item.CrashedCall marked call) = false
is_quiet_item item.End = false
is_quiet_item one = true

-- what the session did with the frame, by the item
pub data Deals : Up → Thing → Item → Type 0 where
  DealsBegin : (settings : List (List ℕ × Value)) → Deals (up.Begin settings) (Began settings) (item.Begin settings)
  DealsEnd : Deals up.End EndedRequest item.End
  DealsCall : (replay marked : Bool) (kept : List Draw) (call : Call) (answers : List Answer) (draws : List Draw) → Deals (up.Call replay kept call) (Called replay kept call answers draws) (item.Call marked call answers draws)
  DealsStop : (replay marked : Bool) (kept : List Draw) (call : Call) → Deals (up.Call replay kept call) (CallStopped replay call) (item.CrashedCall marked call)
  DealsQuietly : (frame : Up) (thing : Thing) (one : Item) → (resting : (test : Bool) → rests_behind test frame ≡ test) → is_quiet_thing thing ≡ true → is_quiet_item one ≡ true → Deals frame thing one

answer_deals : (replay marked : Bool) (kept : List Draw) (call served : Call) (answers : List Answer) (draws : List Draw) (x : Ltxid) (reply : Option Down) → served ≡ call → same_replies reply (Some (down.Reply answers draws x)) ≡ true
    → Deals (up.Call replay kept call) (thing_of (up.Call replay kept call) (telling_of reply)) (item.Call marked served answers draws)
answer_deals replay marked kept call served answers draws x (Some (down.Reply given drawn y)) same is =
    let parts = and_parts (same_answers given answers) _ is in
    let answers_are : given ≡ answers = (same_answers_decide given answers).0 parts.0 in
    let draws_are : drawn ≡ draws = (same_draws_decide drawn draws).0 (and_parts (same_draws drawn draws) (same_ltxid y x) parts.1).0 in
    subst (λ (c : Call). Deals (up.Call replay kept call) (Called replay kept call given drawn) (item.Call marked c answers draws)) (sym same)
    (subst (λ (a : List Answer). Deals (up.Call replay kept call) (Called replay kept call given drawn) (item.Call marked call a draws)) answers_are
    (subst (λ (d : List Draw). Deals (up.Call replay kept call) (Called replay kept call given drawn) (item.Call marked call given d)) draws_are (DealsCall replay marked kept call given drawn)))
answer_deals replay marked kept call served answers draws x reply same is = absurd (let never : ⊥ = cc in never)

block_deals : (replay : Bool) (kept : List Draw) (call served : Call) (reply : Option Down) → same_replies reply (Some down.Blocked) ≡ true → Deals (up.Call replay kept call) (thing_of (up.Call replay kept call) (telling_of reply)) (item.Blocked served)
block_deals replay kept call served (Some down.Blocked) is = DealsQuietly (up.Call replay kept call) (MetBlock replay call) (item.Blocked served) (λ test. refl) refl refl
block_deals replay kept call served reply is = absurd (let never : ⊥ = cc in never)

quiet_outcome : (x : Ltxid) (frame : Down) → is_quiet_thing (of_outcome x frame) ≡ true
quiet_outcome x (down.OutcomeIs committed completed) = refl
quiet_outcome x (down.OutcomeRefused ahead next) = refl
quiet_outcome x frame = refl

outcome_deals : (x asked : Ltxid) (result : AskResult) (reply : Option Down) → Deals (up.Outcome x) (thing_of (up.Outcome x) (telling_of reply)) (item.Outcome asked result)
outcome_deals x asked result None = DealsQuietly (up.Outcome x) (OutcomeStopped x) (item.Outcome asked result) (λ test. refl) refl refl
outcome_deals x asked result (Some frame) = DealsQuietly (up.Outcome x) (of_outcome x frame) (item.Outcome asked result) (λ test. refl) (quiet_outcome x frame) refl

connect_deals : (reply : Option Down) → Deals up.Connect (thing_of up.Connect (telling_of reply)) item.Connect
connect_deals None = DealsQuietly up.Connect Connected item.Connect (λ test. refl) refl refl
connect_deals (Some (down.Hello x)) = DealsQuietly up.Connect Connected item.Connect (λ test. refl) refl refl
connect_deals (Some frame) = DealsQuietly up.Connect Refused item.Connect (λ test. refl) refl refl

ordinary_deals : (session : SessionId) (commits : ℕ) (frame : Up) (one : Item) (reply : Option Down) → is_item_of frame one ≡ true → same_replies reply (reply_of session commits one) ≡ true → Deals frame (thing_of frame (told_with one reply)) one
ordinary_deals session commits up.Connect item.Connect reply is same = connect_deals reply
ordinary_deals session commits (up.Begin settings) (item.Begin begun) None is same =
    subst (λ (one : List (List ℕ × Value)). Deals (up.Begin settings) (Began settings) (item.Begin one)) (sym ((settings_decide begun settings).0 is)) (DealsBegin settings)
ordinary_deals session commits (up.Begin settings) (item.Begin begun) (Some frame) is same = absurd (let never : ⊥ = cc in never)
ordinary_deals session commits (up.Call replay kept call) (item.Call marked served answers draws) reply is same =
    answer_deals replay marked kept call served answers draws _ reply ((same_call_decides served call).0 (and_parts (same_bool marked replay) (same_call served call) is).1) same
ordinary_deals session commits (up.Call replay kept call) (item.Blocked served) reply is same = block_deals replay kept call served reply same
ordinary_deals session commits (up.Outcome x) (item.Outcome asked result) reply is same = outcome_deals x asked result reply
ordinary_deals session commits up.End item.End None is same = DealsEnd
ordinary_deals session commits up.End item.End (Some frame) is same = absurd (let never : ⊥ = cc in never)
ordinary_deals session commits up.Close item.Close None is same = DealsQuietly up.Close Closed item.Close (λ test. refl) refl refl
ordinary_deals session commits up.Close item.Close (Some frame) is same = absurd (let never : ⊥ = cc in never)
ordinary_deals session commits frame one reply is same = absurd (let never : ⊥ = cc in never)

crashed_deals : (frame : Up) (one : Item) (reply : Option Down) → is_crashed_item frame one ≡ true → Deals frame (thing_of frame (told_with one reply)) one
crashed_deals (up.Call replay kept call) (item.CrashedCall marked served) reply is =
    subst (λ (c : Call). Deals (up.Call replay kept call) (CallStopped replay call) (item.CrashedCall marked c)) (sym ((same_call_decides served call).0 (and_parts (same_bool marked replay) (same_call served call) is).1)) (DealsStop replay marked kept call)
crashed_deals (up.Outcome x) (item.CrashedOutcome asked) reply is = DealsQuietly (up.Outcome x) (OutcomeStopped x) (item.CrashedOutcome asked) (λ test. refl) refl refl
crashed_deals frame one reply is = absurd (let never : ⊥ = cc in never)

pub handled_deals : (commits : ℕ) (one : Handled) → is_handled commits one ≡ true → Deals one.sent.frame (thing_of one.sent.frame (told_with one.served.item one.reply)) one.served.item
handled_deals commits one is = by (or_cases (is_item_of one.sent.frame one.served.item && same_replies one.reply (reply_of one.served.session commits one.served.item)) (is_crashed_item one.sent.frame one.served.item && is_none one.reply) is)
  where
    by : ((is_item_of one.sent.frame one.served.item && same_replies one.reply (reply_of one.served.session commits one.served.item)) ≡ true) ⊎ ((is_crashed_item one.sent.frame one.served.item && is_none one.reply) ≡ true)
        → Deals one.sent.frame (thing_of one.sent.frame (told_with one.served.item one.reply)) one.served.item
    by (inl ordinary) = let parts = and_parts (is_item_of one.sent.frame one.served.item) _ ordinary in ordinary_deals one.served.session commits one.sent.frame one.served.item one.reply parts.0 parts.1
    by (inr crashed) = crashed_deals one.sent.frame one.served.item one.reply (and_parts (is_crashed_item one.sent.frame one.served.item) (is_none one.reply) crashed).0
