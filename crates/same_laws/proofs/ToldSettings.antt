-- What a history tells of a session's settings where a call comes next: they are those that its
-- connection ran to, whose requests end with none.
use Rattle.std.proofs.Common.{◌≡◌, refl, sym, ap, ◌∙◌, ℕ, ◌+◌, ◌&&◌, Bool, true, false, not, List, [], ◌∷◌, ◌++◌, map, fold, if◌then◌else◌}
use Rattle.std.proofs.lemmas.Bool.{and_parts}
use Rattle.svc_values.specs.declared.entry.Ltxid.{Ltxid}
use Rattle.svc_values.specs.declared.entry.SessionId.{SessionId}
use Rattle.svc_values.specs.declared.frame.Down.TheVariants as down
use Rattle.svc_values.specs.declared.frame.Up.{Up}
use Rattle.svc_values.specs.meaning.Endings.{ends_committed}
use Rattle.svc_values.specs.meaning.Identifiers.{same_session}
use Rattle.svc_values.specs.meaning.SettingsList.{NamedValues, with_set}
use Rattle.outage_schedule.specs.declared.item.Item.{Item}
use Rattle.server_model.specs.meaning.Items.{Thing, Began, Called, asked_of, thing_of}
use Rattle.server_model.specs.Items.{items_from}
use Rattle.server_model.specs.meaning.Outcomes.{Telling, Silent, Says, Stopped}
use Rattle.server_model.specs.Redraws.{set_by, set_in}
use Rattle.server_model.specs.Runs.{Happened, Served, Asked}
use Rattle.world_model.specs.meaning.Frames.{Sent, Handled}
use Rattle.invariant_laws.specs.Same.{ServedCall, Ran, did_all, ends_on_server, ran_item, with_call}
use Rattle.invariant_laws.specs.SessionHistory.{served_in, told_of, told_with}
use Rattle.invariant_laws.specs.Shown.{is_call}
use Rattle.world_model.specs.records.Wire.{counted_with, handled_from, is_handled}
use Rattle.invariant_laws.proofs.Offered.{Deals, DealsBegin, DealsEnd, DealsCall, DealsStop, DealsQuietly, handled_deals, is_quiet_thing, rests_behind, rests_rightly, quiet_item, set_settings}

-- THE HISTORY -------------------------------------------------------------------------------------

abbrev pub set_told : NamedValues → Up × Telling → NamedValues
set_told settings pair = set_by settings (thing_of pair.0 pair.1)

asked_same : (session : SessionId) (settings : NamedValues) (n : ℕ) (x : Ltxid) (told : Telling) → set_in session settings (asked_of n x told) ≡ settings
asked_same session settings n x Silent = refl
asked_same session settings n x Stopped = refl
asked_same session settings n x (Says (down.OutcomeIs committed completed)) = refl
asked_same session settings n x (Says (down.OutcomeRefused ahead next)) = refl
asked_same session settings n x (Says frame) = refl

-- the settings behind a history are told by what the session served
pub history_settings : (session : SessionId) (history : List Happened) (n : ℕ) (settings : NamedValues) → fold (set_in session) settings (items_from n history) ≡ fold set_told settings (served_in history session)
history_settings session [] n settings = refl
history_settings session (Asked x told ∷ history) n settings =
    ap (λ (s : NamedValues). fold (set_in session) s (items_from (n + 1) history)) (asked_same session settings n x told) ∙ history_settings session history (n + 1) settings
history_settings session (Served other now frame told ∷ history) n settings = by (same_session other session) (λ s. history_settings session history (n + 1) s)
  where
    by : (test : Bool) → ((s : NamedValues) → fold (set_in session) s (items_from (n + 1) history) ≡ fold set_told s (served_in history session))
        → fold (set_in session) (if test then set_by settings (thing_of frame told) else settings) (items_from (n + 1) history) ≡ fold set_told settings (if test then (frame, told) ∷ served_in history session else served_in history session)
    by true rest = rest (set_by settings (thing_of frame told))
    by false rest = rest settings

-- A CONNECTION ------------------------------------------------------------------------------------

-- behind what was served
abbrev pub set_handled : NamedValues → Handled → NamedValues
set_handled settings one = set_told settings (told_of one)

pub told_mapped : (served : List Handled) (settings : NamedValues) → fold set_told settings (map told_of served) ≡ fold set_handled settings served
told_mapped [] settings = refl
told_mapped (one ∷ served) settings = told_mapped served (set_handled settings one)

quiet_sets : (settings : NamedValues) (thing : Thing) → is_quiet_thing thing ≡ true → set_by settings thing ≡ settings
quiet_sets settings (Began first) is = absurd (let none : ⊥ = cc in none)
quiet_sets settings (Called replay kept call answers draws) is = absurd (let none : ⊥ = cc in none)
quiet_sets settings thing is = refl

-- WHAT IT RAN TO ----------------------------------------------------------------------------------

abbrev step : Ran → Handled → Ran
step ran one = ran_item ran one.sent one.served.item

-- but behind an End, until the next Begin
abbrev Agrees : Bool → NamedValues → Ran → Type 0
Agrees resting settings ran = resting ≡ false → settings ≡ ran.settings

did_settings : (ran : Ran) (committed ended : Bool) (dids : List ServedCall) → (did_all ran committed ended dids).settings ≡ ran.settings
did_settings ran true ended dids = refl
did_settings ran false true dids = refl
did_settings ran false false dids = refl

item_agrees : (resting : Bool) (settings : NamedValues) (ran : Ran) (sent : Sent) (frame : Up) (thing : Thing) (one : Item) → Deals frame thing one → Agrees resting settings ran → Agrees (rests_behind resting frame) (set_by settings thing) (ran_item ran sent one)
item_agrees resting settings ran sent _ _ _ (DealsBegin first) agrees = λ awake. refl
item_agrees resting settings ran sent _ _ _ DealsEnd agrees = λ awake. absurd (let none : ⊥ = cc in none)
item_agrees resting settings ran sent _ _ _ (DealsCall replay marked kept call answers draws) agrees = λ awake.
    ap (λ (s : NamedValues). with_set s call) (agrees awake) ∙ (sym (set_settings ran call) ∙ sym (did_settings (with_call ran call) (ends_committed answers) (ends_on_server answers) _))
item_agrees resting settings ran sent _ _ _ (DealsStop replay marked kept call) agrees = agrees
item_agrees resting settings ran sent _ _ _ (DealsQuietly frame thing one same quiet none) agrees = λ awake.
    quiet_sets settings thing quiet ∙ (agrees (sym (same resting) ∙ awake) ∙ ap (λ (r : Ran). r.settings) (sym (quiet_item ran sent one none)))

awake_at : (resting called : Bool) → not (resting && called) ≡ true → called ≡ true → resting ≡ false
awake_at true true is here = absurd (let none : ⊥ = cc in none)
awake_at true false is here = absurd (let none : ⊥ = cc in none)
awake_at false called is here = refl

-- where a call comes next
pub settings_ran : (front : List Handled) (last : Handled) (rest : List Handled) (commits : ℕ) (resting : Bool) (settings : NamedValues) (ran : Ran) → handled_from commits (front ++ last ∷ rest) ≡ true
    → rests_rightly resting (map (λ one. one.sent.frame) (front ++ last ∷ rest)) ≡ true → is_call last.sent.frame ≡ true → Agrees resting settings ran → fold set_handled settings front ≡ (fold step ran front).settings
settings_ran [] last rest commits resting settings ran handled rests called agrees =
    agrees (awake_at resting (is_call last.sent.frame) (and_parts (not (resting && is_call last.sent.frame)) (rests_rightly (rests_behind resting last.sent.frame) (map (λ one. one.sent.frame) rest)) rests).0 called)
settings_ran (one ∷ front) last rest commits resting settings ran handled rests called agrees =
    let now : ℕ = counted_with commits one.served.item in
    let parts = and_parts (is_handled now one) (handled_from now (front ++ last ∷ rest)) handled in
    let both = and_parts (not (resting && is_call one.sent.frame)) (rests_rightly (rests_behind resting one.sent.frame) (map (λ h. h.sent.frame) (front ++ last ∷ rest))) rests in
    settings_ran front last rest now (rests_behind resting one.sent.frame) (set_handled settings one) (step ran one) parts.1 both.1 called
    (item_agrees resting settings ran one.sent one.sent.frame (thing_of one.sent.frame (told_with one.served.item one.reply)) one.served.item (handled_deals now one parts.0) agrees)
