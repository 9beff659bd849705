-- A reply to the call that runs.
use Rattle.std.proofs.Common.{◌≡◌, ℕ, ◌+◌, Bool, true, false, List, length, Option, Some, None, refl, sym, ap, subst, ◌∙◌}
use Rattle.std.specs.Prelude.{slice_get}
use Rattle.svc_values.specs.declared.value.Value.{Value}
use Rattle.svc_values.specs.declared.answer.Answer.{Answer}
use Rattle.svc_values.specs.declared.draw.Draw.{Draw}
use Rattle.svc_values.specs.declared.call.Call.{Call}
use Rattle.svc_values.specs.declared.entry.Ltxid.{Ltxid}
use Rattle.svc_values.specs.declared.frame.Up.TheVariants as up
use Rattle.svc_values.specs.declared.frame.Down.TheVariants as down
use Rattle.client_model.specs.meaning.States.{Living}
use Rattle.client_model.specs.declared.input.Input.TheVariants.{Took}
use Rattle.client_model.specs.declared.act.Shown.{Shown}
use Rattle.client_model.specs.declared.act.Hold.TheVariants.{Keep}
use Rattle.client_model.specs.meaning.Terms.{Terms, Talk, Running}
use Rattle.client_model.specs.meaning.Talk.{on_reply, next_call, with_shown, talk_shown}
use Rattle.client_model.specs.Conversation.{is_gone_next}
use Rattle.client_model.specs.meaning.Account.{Account, Session, hears, shows_call, shows_found}
use Rattle.client_model.specs.Laws.{FollowsOutcome, is_expected}
use Rattle.client_model.proofs.Fits.{Tracked, Fits, IsTalk}
use Rattle.client_model.proofs.Calming.{reply_calm}
use Rattle.client_model.proofs.Showing.{shown_tracked, length-last}
use Rattle.client_model.proofs.Left.{next_left, shown_talk}
use Rattle.client_model.proofs.Going.{Stands, tracked_same, talk_same, tracked_few, goes_on_good}
use Rattle.client_model.proofs.Stepped.{Stepped}

-- where one call more was shown, the same of the session
pub follows_shown : (n m : ℕ) (s : Session) → n ≡ m → FollowsOutcome n s → FollowsOutcome m s
follows_shown n m s e f = subst (λ k. FollowsOutcome k s) e f

module _ (terms : Terms) (settings : List (List ℕ × Value)) (calls : List Call) where
  pub reply_stepped : (a : Account) (state : Living) (answers : List Answer) (draws : List Draw) (ltxid : Ltxid) (alive : Bool) (now : ℕ) (talk : Talk)
      → IsTalk terms settings calls a talk → Fits terms calls a false (Running state)
      → (found : Option Call) → next_call talk ≡ found
      → Stepped terms settings calls a (Took (down.Reply answers draws ltxid) alive) now (on_reply terms talk state answers draws ltxid alive now found)
  reply_stepped a state answers draws ltxid alive now talk talks fits None is =
      let left : slice_get calls state.track.call ≡ Some fits.0.left.one = fits.0.left.is in
      let e : slice_get calls state.track.call ≡ next_call talk = next_left terms settings calls a talk state.track talks fits.0.tracked in
      absurd (let none : ⊥ = cc in none)
  reply_stepped a state answers draws ltxid alive now talk talks fits (Some call) is =
      let shown : Shown = record { answers = answers; draws = draws; ltxid = ltxid } in
      let moved : Account = record a { held = Some ltxid; ended = None } in
      let heard : Account = shows_call terms moved shown call in
      let next : Living = record { track = with_shown terms state.track call answers draws; ltxid = ltxid } in
      let here : slice_get calls state.track.call ≡ Some call = next_left terms settings calls a talk state.track talks fits.0.tracked ∙ is in
      let before : Tracked terms calls moved state.track = tracked_same terms settings calls a moved state.track refl refl refl refl refl fits.0.tracked in
      let tracked : Tracked terms calls heard next.track = shown_tracked terms calls moved state.track shown call before here in
      let behind : IsTalk terms settings calls heard (talk_shown terms talk call answers) =
      shown_talk terms settings calls moved talk shown call (talk_same terms settings calls a moved talk refl refl refl talks) (ap (slice_get calls) (sym before.call) ∙ here) in
      let stands : Stands terms settings calls heard (talk_shown terms talk call answers) next =
      record { talks = behind; tracked = tracked; begun = fits.0.begun; held = refl; ended = refl } in
      record {
        shown = Some shown;
        heard = heard;
        as_shown = λ one e. let same : shown ≡ one = cc in (fits.0.begun, (call, ap (λ (o : Shown). shows_call terms (hears terms a (Took (down.Reply answers draws ltxid) alive) now (Some o)) o call) same));
        is_heard = ap (shows_found terms moved shown) (ap (slice_get calls) (sym before.call) ∙ here);
        good = goes_on_good terms settings calls (Took (down.Reply answers draws ltxid) alive) now heard (talk_shown terms talk call answers) next alive (Some shown)
            (tracked_few terms settings calls heard next.track tracked) (next_left terms settings calls heard (talk_shown terms talk call answers) next.track behind tracked)
            (λ on. (stands, follows_shown (length a.shown + 1) (length heard.shown) a.session (sym (length-last a.shown shown)) (fits.1 refl).follows))
            (λ off. (stands, subst (λ b. is_gone_next (Took (down.Reply answers draws ltxid) b) Keep ≡ true) (sym off) refl))
            (reply_calm terms calls heard now answers draws ltxid alive (ap (λ l. is_expected l (down.Reply answers draws ltxid)) (fits.1 refl).sent.is)
            (λ index seen then c. let e : a.last ≡ Some (up.Call false (fits.1 refl).sent.kept (fits.1 refl).sent.one) = (fits.1 refl).sent.is in
            let f : a.last ≡ Some (up.Call true c.marked.0 c.marked.1) = c.marked.2 in let no : ⊥ = cc in no));
      }
