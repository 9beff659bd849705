-- What sendings share an identifier with others, where a client steps: one that is answered with no
-- more than before, one that is made with none.
use Rattle.std.proofs.Common.{◌≡◌, ◌≢◌, refl, sym, ap, subst, ◌∙◌, Bool, true, false, ℕ, ◌+◌, ◌<◌, ◌&&◌, ◌||◌, cond, filter, length, List, [], ◌∷◌, Option, Some, None, ◌⊎◌, inl, inr, arith, fold, ◌++◌}
use Rattle.std.specs.Prelude.{◌==◌, not, is_some}
use Rattle.std.specs.List.{list_all, list_any}
use Rattle.std.specs.Option.{option_map_or}
use Rattle.std.proofs.lemmas.Bool.{and_parts, and_from}
use Rattle.svc_values.specs.declared.answer.Answer.{Answer}
use Rattle.svc_values.specs.declared.entry.Ltxid.{Ltxid}
use Rattle.svc_values.specs.meaning.Calls.{has_commit}
use Rattle.svc_values.specs.meaning.Endings.{ends_committed}
use Rattle.client_model.specs.declared.input.Input.{Input}
use Rattle.world_model.specs.meaning.Clients.{Step}
use Rattle.world_model.specs.meaning.Frames.{Owner}
use Rattle.world_model.specs.Orderly.{Orderly}
use Rattle.world_model.specs.meaning.Machines.{Machine}
use Rattle.world_model.specs.Sames.{all_with, each_pair}
use Rattle.svc_values.specs.declared.call.Call.{Call}
use Rattle.svc_values.specs.declared.frame.Up.{Up}
use Rattle.svc_values.specs.declared.frame.Up.TheVariants as up
use Rattle.svc_values.specs.declared.value.Value.{Value}
use Rattle.client_model.specs.declared.act.Hold.{Hold}
use Rattle.client_model.specs.declared.act.Hold.TheVariants.{Keep}
use Rattle.world_model.specs.meaning.Clients.{Doing}
use Rattle.world_model.specs.records.Conversing.{connected}
use Rattle.world_model.specs.records.Hold.{is_idle}
use Rattle.world_model.specs.Parts.{is_unmarked_frame}
use Rattle.world_model.proofs.Offered.{at_link, HasStepped, HeardOn, OfNone, OfIdle, OfNew, OfReply, OfEnded, is_frame, held_now, all_orderly, ends_at, is_orderly, open_living, moves_next_number as next_number, lent_idle, at_event, scan_by, heard_scan, first_step, first_doing, opening, links_apart, eq_from, eq_to, same_session_is, some_same, either}
use Rattle.invariant_laws.proofs.losses.Answering.{Answering, Unanswered, LastAnswered, answering}
use Rattle.invariant_laws.proofs.sendings.FateLinks.{idle_waits}
use Rattle.invariant_laws.proofs.sendings.FateTaken.{plain_none, shown_behind, waits_at}
use Rattle.invariant_laws.proofs.losses.KeptGone.{new_apart}
use Rattle.invariant_laws.proofs.talks.Placing.{IsLent, lent_at, said as spoken_frames}
use Rattle.svc_values.specs.meaning.Identifiers.{same_ltxid, session_of}
use Rattle.svc_values.specs.SameLaws.{same_ltxid_decides}
use Rattle.world_model.specs.records.Basic.{sessions_differ, sessions_of}
use Rattle.world_model.specs.meaning.Links.{Link, link_at}
use Rattle.invariant_laws.specs.Once.{is_on_link, share, are_apart, is_open_or_committed}
use Rattle.world_model.specs.Parts.{Sending, Scan, held_number, sent_on}
use Rattle.world_model.specs.Traced.{Traced}
use Rattle.invariant_laws.proofs.sendings.FateSteps.{IsFated, fated, fated_from, no_connection, Taking, on, Says, Silent, CallsOne, says_at, silent_fold, called_fold, has_call}
use Rattle.invariant_laws.proofs.sendings.Fates.{Fate, Waits}
use Rattle.invariant_laws.proofs.sendings.SendingsMade.{made}
use Rattle.invariant_laws.proofs.sendings.KeptOnLinks.{on_from}

-- A NEW ONE ---------------------------------------------------------------------------------------

-- one that waits now shares its identifier with no other that is open or committed, where none of
-- the others waits there
module _ (t : Traced) (apart : sessions_differ t ≡ true) (made other : Sending) (made_on : is_on_link t made ≡ true) (other_on : is_on_link t other ≡ true) (made_fated : fated t.machine.links made ≡ true) (other_fated : fated t.machine.links other ≡ true)
    (untaken : made.taken ≡ None) (alone : made.connection ≡ other.connection → other.taken ≡ None → (link : Link) → link_at t.machine.links other.connection ≡ Some link → Waits other link → ⊥) where
  one_connection : made.ltxid ≡ other.ltxid → made.connection ≡ other.connection
  one_connection same = by (either made.connection other.connection)
    where
      by : (made.connection ≡ other.connection) ⊎ (made.connection ≢ other.connection) → made.connection ≡ other.connection
      by (inl equal) = equal
      by (inr differ) =
          let a = on_from t made made_on in
          let b = on_from t other other_on in
          absurd (links_apart t.machine.links made.connection other.connection a.link b.link a.session b.session differ a.there b.there a.has b.has (and_parts _ (list_all _ (sessions_of t)) apart).0
          (sym (same_session_is (session_of made.ltxid) a.session a.of) ∙ (ap session_of same ∙ same_session_is (session_of other.ltxid) b.session b.of)))

  closed : made.ltxid ≡ other.ltxid → is_open_or_committed other ≡ false
  closed same = by other.taken refl
    where
      at_made : IsFated t.machine.links made
      at_made = fated_from t.machine.links made made_fated

      at_other : IsFated t.machine.links other
      at_other = fated_from t.machine.links other other_fated

      one_link : at_made.link ≡ at_other.link
      one_link = some_same (link_at t.machine.links other.connection) at_made.link at_other.link (subst (λ (k : ℕ). link_at t.machine.links k ≡ Some at_made.link) (one_connection same) at_made.there) at_other.there

      by : (taken : Option (List Answer)) → other.taken ≡ taken → option_map_or ends_committed taken true ≡ false
      by None is = absurd (alone (one_connection same) is at_other.link at_other.there (at_other.fate.waits is))
      by (Some answers) is = cases (ends_committed answers) refl
        where
          cases : (commits : Bool) → ends_committed answers ≡ commits → commits ≡ false
          cases false ends = refl
          cases true ends =
              let below : other.ltxid.number < held_number at_other.link = at_other.fate.told answers is ends in
              let held : held_number at_made.link ≡ made.ltxid.number = ap (λ (h : Option Ltxid). option_map_or (λ (y : Ltxid). y.number) h 0) (at_made.fate.waits untaken).held in
              let link_same : held_number at_made.link ≡ held_number at_other.link = ap held_number one_link in
              let number : made.ltxid.number ≡ other.ltxid.number = ap (λ (y : Ltxid). y.number) same in
              absurd (let never : ⊥ = omega (arith, below, held, link_same, number) in never)

  not_both_open : (a b : Bool) → b ≡ false → not (a && b) ≡ true
  not_both_open true false is = refl
  not_both_open false b is = refl
  not_both_open true true is = absurd (let none : ⊥ = cc in none)

  pub made_shares : share made other ≡ true
  made_shares = by (same_ltxid made.ltxid other.ltxid) refl
    where
      by : (alike : Bool) → same_ltxid made.ltxid other.ltxid ≡ alike → (not alike || ((made.connection == other.connection) && not (is_open_or_committed made && is_open_or_committed other))) ≡ true
      by false is = refl
      by true is =
          let same : made.ltxid ≡ other.ltxid = (same_ltxid_decides made.ltxid other.ltxid).0 is in
          and_from (made.connection == other.connection) (not (is_open_or_committed made && is_open_or_committed other)) (eq_to made.connection other.connection (one_connection same)) (not_both_open (is_open_or_committed made) (is_open_or_committed other) (closed same))

-- ONE THAT IS ANSWERED ----------------------------------------------------------------------------

-- the last sending is answered, which was not before; or none is
pub data AnsweredAs : List Sending → List Sending → Type 0 where
  NoneNow : (list : List Sending) → AnsweredAs list list
  LastNow : (top : Sending) (rest : List Sending) (answers : List Answer) → top.taken ≡ None → AnsweredAs (top ∷ rest) (record top { taken = Some answers } ∷ rest)

weaker_share : (n c a b : Bool) → (n || (c && not (a && true))) ≡ true → (n || (c && not (a && b))) ≡ true
weaker_share true c a b is = refl
weaker_share false true false b is = refl
weaker_share false true true b is = absurd (let none : ⊥ = cc in none)
weaker_share false false a b is = absurd (let none : ⊥ = cc in none)

share_answered : (a top : Sending) (answers : List Answer) → top.taken ≡ None → share a top ≡ true → share a (record top { taken = Some answers }) ≡ true
share_answered a top answers none here =
    weaker_share (not (same_ltxid a.ltxid top.ltxid)) (a.connection == top.connection) (is_open_or_committed a) (ends_committed answers)
    (subst (λ (taken : Option (List Answer)). (not (same_ltxid a.ltxid top.ltxid) || ((a.connection == top.connection) && not (is_open_or_committed a && option_map_or ends_committed taken true))) ≡ true) none here)

pub share_turned : (a b : Sending) → share a b ≡ true → share b a ≡ true
share_turned a b here =
    by (same_ltxid a.ltxid b.ltxid) (same_ltxid b.ltxid a.ltxid) (a.connection == b.connection) (b.connection == a.connection) (is_open_or_committed a) (is_open_or_committed b)
    (λ is. (same_ltxid_decides a.ltxid b.ltxid).1 (sym ((same_ltxid_decides b.ltxid a.ltxid).0 is))) (λ is. eq_to b.connection a.connection (sym (eq_from a.connection b.connection is))) here
  where
    by : (m n c d x y : Bool) → (n ≡ true → m ≡ true) → (c ≡ true → d ≡ true) → (not m || (c && not (x && y))) ≡ true → (not n || (d && not (y && x))) ≡ true
    by m false c d x y back on is = refl
    by false true c d x y back on is = absurd (let never : false ≡ true = back refl in let none : ⊥ = cc in none)
    by true true false d x y back on is = absurd (let none : ⊥ = cc in none)
    by true true true false x y back on is = absurd (let never : false ≡ true = on refl in let none : ⊥ = cc in none)
    by true true true true true true back on is = absurd (let none : ⊥ = cc in none)
    by true true true true true false back on is = refl
    by true true true true false true back on is = refl
    by true true true true false false back on is = refl

abbrev pub commits : Sending → Bool
commits sending = has_commit sending.call

-- what stands so to the sendings before stands so to them behind
pub with_answered : (a : Sending) (old new : List Sending) → AnsweredAs old new → all_with (share a) (filter commits old) ≡ true → all_with (share a) (filter commits new) ≡ true
with_answered a _ _ (NoneNow list) all = all
with_answered a _ _ (LastNow top rest answers none) all = by (has_commit top.call) all
  where
    by : (test : Bool) → all_with (share a) (cond test (top ∷ filter commits rest) (filter commits rest)) ≡ true → all_with (share a) (cond test (record top { taken = Some answers } ∷ filter commits rest) (filter commits rest)) ≡ true
    by false all = all
    by true all = let both = and_parts (share a top) (all_with (share a) (filter commits rest)) all in and_from (share a (record top { taken = Some answers })) (all_with (share a) (filter commits rest)) (share_answered a top answers none both.0) both.1

pub each_answered : (old new : List Sending) → AnsweredAs old new → each_pair share (filter commits old) ≡ true → each_pair share (filter commits new) ≡ true
each_answered _ _ (NoneNow list) pairs = pairs
each_answered _ _ (LastNow top rest answers none) pairs = by (has_commit top.call) pairs
  where
    later : (list : List Sending) → all_with (share top) list ≡ true → all_with (share (record top { taken = Some answers })) list ≡ true
    later [] all = refl
    later (y ∷ list) all =
        let both = and_parts (share top y) (all_with (share top) list) all in
        and_from (share (record top { taken = Some answers }) y) (all_with (share (record top { taken = Some answers })) list)
        (share_turned y (record top { taken = Some answers }) (share_answered y top answers none (share_turned top y both.0))) (later list both.1)

    by : (test : Bool) → each_pair share (cond test (top ∷ filter commits rest) (filter commits rest)) ≡ true → each_pair share (cond test (record top { taken = Some answers } ∷ filter commits rest) (filter commits rest)) ≡ true
    by false pairs = pairs
    by true pairs =
        let both = and_parts (all_with (share top) (filter commits rest)) (each_pair share (filter commits rest)) pairs in
        and_from (all_with (share (record top { taken = Some answers })) (filter commits rest)) (each_pair share (filter commits rest)) (later (filter commits rest) both.0) both.1

-- A STEP ------------------------------------------------------------------------------------------

module _ (t : Traced) (inv : Orderly t) (apart : are_apart t ≡ true) (new : Traced) (who : ℕ) (step : HasStepped t.setting (at_event t.machine) who new.machine) where
  abbrev m : Machine
  m = at_event t.machine

  abbrev mine : Owner
  mine = record { client = who; place = length step.client.past }

  abbrev one : Step
  one = first_step t.setting m inv.script.talks who new.machine step

  abbrev sendings : List Sending
  sendings = (scan_by mine step.before.steps).sendings

  abbrev scan_now : Scan
  scan_now = heard_scan t.setting m inv.script.talks who new.machine step

  pub answered_as : AnsweredAs sendings scan_now.sendings
  answered_as = by sendings scan_now.sendings (answering t inv apart new who step)
    where
      by : (old now : List Sending) → Answering t inv apart new who step old now → AnsweredAs old now
      by _ _ (Unanswered list) = NoneNow list
      by _ _ (LastAnswered top rest answers are is) = LastNow top rest answers is.untaken

  -- the frames of the step make one, or none
  pub data PushedAs (list : List Sending) : List Sending → Type 0 where
    NoMore : PushedAs list list
    OneMade : (begun : Bool) (settings : List (List ℕ × Value)) (call : Call) (x : Ltxid) → one.done.act.send ≡ opening begun settings ++ up.Call false [] call ∷ [] → one.done.act.hold ≡ Keep → scan_now.held ≡ Some x → PushedAs list (made scan_now call x ∷ list)

  pub made_calls : (begun : Bool) (settings : List (List ℕ × Value)) (call : Call) → one.done.act.send ≡ opening begun settings ++ up.Call false [] call ∷ [] → list_any is_unmarked_frame one.done.act.send ≡ true
  made_calls begun settings call sends = ap (list_any is_unmarked_frame) sends ∙ has_call begun settings call

  pub pushed_as : PushedAs scan_now.sendings (fold (sent_on scan_now) scan_now.sendings one.done.act.send)
  pushed_as = by one.done.act.send one.done.act.hold refl refl (says_at t.setting.terms step.before.talk step.input m.tick)
    where
      by : (send : List Up) (held : Hold) → one.done.act.send ≡ send → one.done.act.hold ≡ held → Says send held → PushedAs scan_now.sendings (fold (sent_on scan_now) scan_now.sendings send)
      by _ _ is keeps (Silent send held none) = subst (PushedAs scan_now.sendings) (sym (silent_fold scan_now send scan_now.sendings none)) NoMore
      by _ _ is keeps (CallsOne begun settings call) = subst (PushedAs scan_now.sendings) (sym (called_fold scan_now begun settings call scan_now.sendings)) (found scan_now.held refl)
        where
          found : (held : Option Ltxid) → scan_now.held ≡ held → PushedAs scan_now.sendings (option_map_or (λ x. made scan_now call x ∷ scan_now.sendings) held scan_now.sendings)
          found None under = NoMore
          found (Some x) under = OneMade begun settings call x is keeps under

  -- no sending of before waits where a call is sent, at its place
  pub none_waits : list_any is_unmarked_frame one.done.act.send ≡ true → (sending : Sending) → fated t.machine.links sending ≡ true → sending.taken ≡ None → step.connection ≡ Some sending.connection → sending.at ≡ scan_now.shown → ⊥
  none_waits calls sending here untaken has place = by step.before.connection step.input step.after refl refl step.heard_on
    where
      at : IsFated t.machine.links sending
      at = fated_from t.machine.links sending here

      away : step.connection ≡ None → ⊥
      away none = let never : None ≡ Some sending.connection = sym none ∙ has in let nothing : ⊥ = cc in nothing

      by : {kept : Hold} (had : Option ℕ) (input : Input) (after : Doing) → step.before.connection ≡ had → step.input ≡ input
          → HeardOn t.setting m new.machine who (first_doing t.setting m inv.script.talks who new.machine step) kept (spoken_frames t.setting m who new.machine step) after had input → ⊥
      by _ _ after was is (OfNone had input none plain same) =
          away (sym step.connects ∙ (ap (λ (c : Option ℕ). connected c step.input) (no_connection t inv apart new who step (ap is_frame is ∙ plain)) ∙ (ap (connected None) is ∙ plain_none input none plain)))
      by _ _ after was is (OfIdle had connection x answer same) =
          let lent : IsLent t.setting m who new.machine step connection x = lent_at t.setting m who new.machine step connection x is in
          let both : Some sending.connection ≡ Some connection = sym has ∙ (sym step.connects ∙ ap (connected step.before.connection) is) in
          let number : sending.connection ≡ connection = cc in
          let link : at.link ≡ lent.link = some_same (link_at m.links connection) at.link lent.link (subst (λ (k : ℕ). link_at m.links k ≡ Some at.link) number at.there) lent.there in
          let idle : is_idle lent.link ≡ true = lent_idle m.pool who connection m.links lent.link answer (held_now t inv).idle lent.there in
          let orderly : is_orderly lent.link ≡ true = at_link is_orderly t.machine.links connection lent.link (all_orderly t.machine.links inv.wire.sent inv.wire.replies inv.wire.handled inv.basic.life) lent.there in
          let living : lent.link.is_living ≡ true = open_living t.machine.event lent.link (at_link (ends_at t.machine.event) t.machine.links connection lent.link inv.basic.ended lent.there) (and_parts lent.link.is_open _ idle).0 in
          idle_waits sending lent.link idle orderly living (subst (Waits sending) link (at.fate.waits untaken))
      by _ _ after was is (OfNew had same) =
          let both : Some sending.connection ≡ Some (next_number m) = sym has ∙ (sym step.connects ∙ ap (connected step.before.connection) is) in
          let number : sending.connection ≡ next_number m = cc in
          new_apart t.machine.links sending.connection at.link at.there number
      by _ _ after was is (OfReply had connection link reply later some there down_is next back) =
          let taking : Taking t inv apart new who step = record { connection = connection; link = link; reply = reply; later = later; has = was ∙ some; there = there; down_is = down_is; heard = is; after = next } in
          let both : Some sending.connection ≡ Some connection = sym has ∙ on t inv apart new who step taking in
          let number : sending.connection ≡ connection = cc in
          let same : at.link ≡ link = some_same (link_at m.links connection) at.link link (subst (λ (k : ℕ). link_at m.links k ≡ Some at.link) number at.there) there in
          let fate : Fate sending link = subst (Fate sending) same at.fate in
          let shown : is_some one.done.act.shown ≡ true = shown_behind t inv apart new who step taking calls sending untaken fate in
          let low : sending.at ≡ (scan_by mine step.before.steps).shown = waits_at t inv apart new who step taking sending untaken fate in
          let more : scan_now.shown ≡ (scan_by mine step.before.steps).shown + 1 = ap (λ (b : Bool). (scan_by mine step.before.steps).shown + cond b 1 0) shown in
          let never : ⊥ = omega (arith, place, low, more) in
          never
      by _ _ after was is (OfEnded had connection link some there shut next same) = away (sym step.connects ∙ ap (connected step.before.connection) is)
