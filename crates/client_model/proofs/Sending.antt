-- Steps that end a request, and steps that send its next call.
use Rattle.std.proofs.Common.{◌≡◌, inl, inr, ℕ, ◌+◌, Bool, true, false, List, [], ◌∷◌, ◌++◌, length, Option, Some, None, refl, sym, ap, subst, ◌∙◌, arith}
use Rattle.std.specs.Prelude.{fold, IsSome}
use Rattle.std.specs.Option.{option_or}
use Rattle.std.proofs.lemmas.List.Sums.{fold-append}
use Rattle.svc_values.specs.declared.value.Value.{Value}
use Rattle.svc_values.specs.declared.call.Call.{Call}
use Rattle.svc_values.specs.declared.frame.Up.{Up}
use Rattle.svc_values.specs.declared.frame.Up.TheVariants as up
use Rattle.client_model.specs.declared.track.Track.{Track}
use Rattle.client_model.specs.meaning.States.{Living}
use Rattle.client_model.specs.declared.input.Input.{Input}
use Rattle.client_model.specs.declared.act.Shown.{Shown}
use Rattle.client_model.specs.declared.act.Hold.TheVariants.{Keep}
use Rattle.client_model.specs.declared.act.Failed.{Failed}
use Rattle.client_model.specs.meaning.Terms.{Terms, Talk, Running}
use Rattle.client_model.specs.meaning.Talk.{fails, ends, sends_call, with_submitted}
use Rattle.client_model.specs.Conversation.{is_gone_next}
use Rattle.client_model.specs.meaning.Account.{Account, Session, sends}
use Rattle.client_model.specs.Laws.{FollowsOutcome, MaySend, MaySendAll, BegunWith, settings_known, IsCaused}
use Rattle.client_model.proofs.Fits.{Tracked, Holds, Few, Fits, IsTalk, Good, Calm}

-- an option that is none from its first part
pub option_or-none : {T : Type 0} (a b : Option T) → option_or a b ≡ None → a ≡ None
option_or-none None b e = refl
option_or-none (Some v) b e = e

pub option_or-some : {T : Type 0} (a : Option T) (x : T) → IsSome (option_or a (Some x))
option_or-some None x = refl
option_or-some (Some v) x = refl

module _ (terms : Terms) (settings : List (List ℕ × Value)) (calls : List Call) where
  pub fails_good : (input : Input) (now : ℕ) (heard : Account) (talk : Talk) (alive : Bool) (shown : Option Shown) (failed : Failed)
      → Few terms heard → IsCaused terms calls heard input now failed
      → Good terms settings calls input now shown heard (fails talk alive shown failed)
  fails_good input now heard talk true shown failed few cause = record {
    shows = refl;
    fits = few;
    talks = λ e. absurd (let none : ⊥ = cc in none);
    may = tt;
    begun = tt;
    begins = λ b. inl b;
    holds = inr refl;
    calm = λ none. absurd (let no : ⊥ = cc in no);
    caused = λ other e. let same : failed ≡ other = cc in subst (λ f. IsCaused terms calls heard input now f) same cause;
  }
  fails_good input now heard talk false shown failed few cause = record {
    shows = refl;
    fits = few;
    talks = λ e. absurd (let none : ⊥ = cc in none);
    may = tt;
    begun = tt;
    begins = λ b. inl b;
    holds = inl refl;
    calm = λ none. absurd (let no : ⊥ = cc in no);
    caused = λ other e. let same : failed ≡ other = cc in subst (λ f. IsCaused terms calls heard input now f) same cause;
  }

  pub ends_good : (input : Input) (now : ℕ) (heard : Account) (talk : Talk) (alive : Bool) (shown : Option Shown)
      → Few terms heard → Calm terms calls heard input now → Good terms settings calls input now shown heard (ends talk alive shown)
  ends_good input now heard talk true shown few calm = record {
    shows = refl;
    fits = few;
    talks = λ e. absurd (let none : ⊥ = cc in none);
    may = tt;
    begun = tt;
    begins = λ b. inl b;
    holds = (refl, refl);
    calm = λ none. calm;
    caused = λ other e. absurd (let none : ⊥ = cc in none);
  }
  ends_good input now heard talk false shown few calm = record {
    shows = refl;
    fits = few;
    talks = λ e. absurd (let none : ⊥ = cc in none);
    may = tt;
    begun = tt;
    begins = λ b. inl b;
    holds = refl;
    calm = λ none. calm;
    caused = λ other e. absurd (let none : ⊥ = cc in none);
  }

  -- frames before a call
  pub may-last : (heard : Account) (before : List Up) (call : Call) → MaySendAll calls heard before → MaySend calls heard call → MaySendAll calls heard (before ++ up.Call false [] call ∷ [])
  may-last heard [] call all one = (one, tt)
  may-last heard (up.Connect ∷ before) call all one = may-last heard before call all one
  may-last heard (up.Begin st ∷ before) call all one = may-last heard before call all one
  may-last heard (up.Call true kept c ∷ before) call all one = may-last heard before call all one
  may-last heard (up.Call false kept c ∷ before) call all one = (all.0, may-last heard before call all.1 one)
  may-last heard (up.Outcome x ∷ before) call all one = may-last heard before call all one
  may-last heard (up.End ∷ before) call all one = may-last heard before call all one
  may-last heard (up.Close ∷ before) call all one = may-last heard before call all one

  pub begun-last : (known : List (List ℕ × Value)) (before : List Up) (mark : Bool) (kept : List _) (call : Call) → BegunWith known before → BegunWith known (before ++ up.Call mark kept call ∷ [])
  begun-last known [] mark kept call all = tt
  begun-last known (up.Connect ∷ before) mark kept call all = begun-last known before mark kept call all
  begun-last known (up.Begin st ∷ before) mark kept call all = (all.0, begun-last known before mark kept call all.1)
  begun-last known (up.Call m k c ∷ before) mark kept call all = begun-last known before mark kept call all
  begun-last known (up.Outcome x ∷ before) mark kept call all = begun-last known before mark kept call all
  begun-last known (up.End ∷ before) mark kept call all = begun-last known before mark kept call all
  begun-last known (up.Close ∷ before) mark kept call all = begun-last known before mark kept call all

  -- the session on which one call more was sent
  abbrev one_more : Session → Session
  one_more s = record s { sent = s.sent + 1 }

  follows_more : (n : ℕ) (s : Session) → FollowsOutcome n s → FollowsOutcome (n + 1) (one_more s)
  follows_more n s (inl e) = inl e
  follows_more n s (inr (ans, is, a)) = inr (
    ans,
    is,
    record {
      asked = a.asked;
      verified = a.verified;
      completed = a.completed;
      lost_call = λ u. let e : n ≡ ans.lost + s.sent = a.lost_call u in omega arith;
      next_call = λ u. let e : n ≡ ans.lost + s.sent + 1 = a.next_call u in omega arith;
    },
  )

  -- the track of a call that is submitted
  submitted_tracked : (now : ℕ) (after : Account) (k : Track) (call : Call) → Tracked terms calls after k
      → Tracked terms calls (sends terms now after (up.Call false [] call)) (with_submitted terms k call now)
  submitted_tracked now after k call t = record {
    call = t.call;
    why = let e : k.why ≡ after.reason = t.why in let f : k.call ≡ length after.shown = t.call in cc;
    recorded = λ none. t.recorded (option_or-none k.why (terms.rules.submit call k.call) none);
    within = t.within;
    replays = t.replays;
    few = t.few;
    first = let e : k.first ≡ after.first = t.first in cc;
    set_shown = t.set_shown;
    recalls = record { before = t.recalls.before; since = t.recalls.since; shown = t.recalls.shown; digests = t.recalls.digests };
  }

  -- `after` is the account behind the frames before the call
  pub sends_call_good : (input : Input) (now : ℕ) (heard : Account) (talk : Talk) (state : Living) (alive : Bool) (before : List Up) (shown : Option Shown) (call : Call) (after : Account)
      → fold (sends terms now) heard before ≡ after
      → (alive ≡ true → IsTalk terms settings calls after talk × Holds terms calls after state.track state.ltxid None × FollowsOutcome (length after.shown) after.session
      × MaySendAll calls heard before × BegunWith (settings_known terms settings calls heard) before × MaySend calls heard call)
      → (alive ≡ false → IsTalk terms settings calls heard talk × Holds terms calls heard state.track state.ltxid None × (is_gone_next input Keep ≡ true))
      → Calm terms calls heard input now
      → Good terms settings calls input now shown heard (sends_call terms talk state alive before shown now call)
  sends_call_good input now heard talk state true before shown call after e live dead calm = record {
    shows = refl;
    fits = subst (λ (a : Account). Fits terms calls a (is_gone_next input Keep) (Running (record state { track = with_submitted terms state.track call now }))) (sym path) (
      record { tracked = submitted_tracked now after state.track call h.tracked; left = record { one = h.left.one; is = h.left.is }; begun = h.begun; held = h.held; ended = h.ended },
      λ gone. record { follows = follows_more (length after.shown) after.session l.2; sent = record { kept = []; one = call; is = refl } },
    );
    talks = λ not_idle. subst (λ (a : Account). IsTalk terms settings calls a (record talk { phase = Running (record state { track = with_submitted terms state.track call now }) })) (sym path)
        (record { settings_are = l.0.settings_are; sets_are = l.0.sets_are; left_are = l.0.left_are; tries_are = l.0.tries_are; few_tries = l.0.few_tries });
    may = may-last heard before call l.3 l.5;
    begun = begun-last (settings_known terms settings calls heard) before false [] call l.4;
    begins = λ b. inr (subst (λ (a : Account). IsSome a.first) (sym path) (option_or-some after.first now));
    holds = refl;
    calm = λ none. calm;
    caused = λ other is. absurd (let none : ⊥ = cc in none);
  }
    where
      l : IsTalk terms settings calls after talk × Holds terms calls after state.track state.ltxid None × FollowsOutcome (length after.shown) after.session
          × MaySendAll calls heard before × BegunWith (settings_known terms settings calls heard) before × MaySend calls heard call
      l = live refl

      h : Holds terms calls after state.track state.ltxid None
      h = l.1

      path : fold (sends terms now) heard (before ++ up.Call false [] call ∷ []) ≡ sends terms now after (up.Call false [] call)
      path = fold-append (sends terms now) heard before (up.Call false [] call ∷ []) ∙ ap (λ (a : Account). sends terms now a (up.Call false [] call)) e
  sends_call_good input now heard talk state false before shown call after e live dead calm =
      let d : IsTalk terms settings calls heard talk × Holds terms calls heard state.track state.ltxid None × (is_gone_next input Keep ≡ true) = dead refl in
      record {
        shows = refl;
        fits = (record { tracked = d.1.tracked; left = d.1.left; begun = d.1.begun; held = d.1.held; ended = d.1.ended }, λ gone. absurd (let none : ⊥ = cc (d.2) in none));
        talks = λ not_idle. record { settings_are = d.0.settings_are; sets_are = d.0.sets_are; left_are = d.0.left_are; tries_are = d.0.tries_are; few_tries = d.0.few_tries };
        may = tt;
        begun = tt;
        begins = λ b. inl b;
        holds = refl;
        calm = λ none. calm;
        caused = λ other is. absurd (let none : ⊥ = cc in none);
      }
