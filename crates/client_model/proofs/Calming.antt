-- Steps at which no line of the causes holds.
use Rattle.std.proofs.Common.{◌≡◌, inl, inr, ℕ, Bool, true, false, List, Option, Some, None, refl, ap}
use Rattle.svc_values.specs.declared.answer.Answer.{Answer}
use Rattle.svc_values.specs.declared.draw.Draw.{Draw}
use Rattle.svc_values.specs.declared.call.Call.{Call}
use Rattle.svc_values.specs.declared.entry.Ltxid.{Ltxid}
use Rattle.svc_values.specs.declared.frame.Ahead.TheVariants as ahead
use Rattle.svc_values.specs.declared.frame.Down.{Down}
use Rattle.svc_values.specs.declared.frame.Down.TheVariants as down
use Rattle.client_model.specs.declared.input.Input.{Input}
use Rattle.client_model.specs.declared.input.Input.TheVariants.{Start, Waiting, Lent, Opened, TryFailed, Took, Gone}
use Rattle.client_model.specs.declared.act.Failed.TheVariants.{Disabled, Mismatch, Incomplete, Retries, ReplayTimeout, Replays, PoolWait, Unknown, BadPeer}
use Rattle.client_model.specs.meaning.Terms.{Terms}
use Rattle.client_model.specs.meaning.Account.{Account}
use Rattle.client_model.specs.Laws.{is_expected, IsCaused}
use Rattle.client_model.proofs.Fits.{Calm}

-- no frame, no failed try and no wait
abbrev pub is_plain : Input → Bool
is_plain Start = true
is_plain (Lent connection ltxid) = true
is_plain (Opened connection) = true
is_plain (Gone event) = true
is_plain _ = false

-- neither an outcome, told or refused, nor a reply
abbrev pub is_other : Down → Bool
is_other (down.OutcomeIs committed completed) = false
is_other (down.OutcomeRefused ahead next) = false
is_other (down.Reply answers draws ltxid) = false
is_other _ = true

abbrev frame_of : Input → Option Down
frame_of (Took frame alive) = Some frame
frame_of _ = None

module _ (terms : Terms) (calls : List Call) (heard : Account) (now : ℕ) where
  plain_not : (input other : Input) → is_plain input ≡ true → is_plain other ≡ false → input ≡ other → ⊥
  plain_not input other p q e = let r : is_plain input ≡ is_plain other = ap is_plain e in let no : ⊥ = cc in no

  pub plain_calm : (input : Input) → is_plain input ≡ true → Calm terms calls heard input now
  plain_calm input p (Retries tries) c = plain_not input TryFailed p refl c.failed
  plain_calm input p (Incomplete ltxid) c = plain_not input (Took (down.OutcomeIs true false) c.outcome.alive) p refl c.outcome.taken
  plain_calm input p (Disabled reason event) (w, inl c) = plain_not input (Took (down.OutcomeIs true true) c.2.outcome.alive) p refl c.2.outcome.taken
  plain_calm input p (Disabled reason event) (w, inr c) = plain_not input (Took (down.OutcomeIs false c.outcome.0) c.outcome.1.alive) p refl c.outcome.1.taken
  plain_calm input p (Replays limit event) (w, c) = plain_not input (Took (down.OutcomeIs false c.outcome.0) c.outcome.1.alive) p refl c.outcome.1.taken
  plain_calm input p (ReplayTimeout first ready) c = plain_not input (Took (down.OutcomeIs false c.outcome.0) c.outcome.1.alive) p refl c.outcome.1.taken
  plain_calm input p (Mismatch index seen then) c = plain_not input (Took (down.Reply c.taken.0 c.taken.1 c.taken.2) c.taken.3) p refl c.taken.4
  plain_calm input p (PoolWait first then) c = plain_not input Waiting p refl c.waits
  plain_calm input p (Unknown ltxid) c = plain_not input (Took (down.OutcomeRefused ahead.Forgotten c.horizon) c.alive) p refl c.taken
  plain_calm input p (BadPeer tag) c = plain_not input (Took c.frame c.alive) p refl c.taken

  other_not : (frame other : Down) (alive and : Bool) → is_other frame ≡ true → is_other other ≡ false → Took frame alive ≡ Took other and → ⊥
  other_not frame other alive and p q e = let same : frame ≡ other = cc in let r : is_other frame ≡ is_other other = ap is_other same in let no : ⊥ = cc in no

  -- the frame was to be expected
  expected_not : (frame other : Down) (alive and : Bool) → is_expected heard.last frame ≡ true → Took frame alive ≡ Took other and → is_expected heard.last other ≡ false → ⊥
  expected_not frame other alive and p e u = let same : frame ≡ other = cc in let r : is_expected heard.last frame ≡ is_expected heard.last other = ap (is_expected heard.last) same in let no : ⊥ = cc in no

  pub other_calm : (frame : Down) (alive : Bool) → is_other frame ≡ true → is_expected heard.last frame ≡ true → Calm terms calls heard (Took frame alive) now
  other_calm frame alive p x (Retries tries) c = let e : Took frame alive ≡ TryFailed = c.failed in let no : ⊥ = cc in no
  other_calm frame alive p x (Incomplete ltxid) c = other_not frame (down.OutcomeIs true false) alive c.outcome.alive p refl c.outcome.taken
  other_calm frame alive p x (Disabled reason event) (w, inl c) = other_not frame (down.OutcomeIs true true) alive c.2.outcome.alive p refl c.2.outcome.taken
  other_calm frame alive p x (Disabled reason event) (w, inr c) = other_not frame (down.OutcomeIs false c.outcome.0) alive c.outcome.1.alive p refl c.outcome.1.taken
  other_calm frame alive p x (Replays limit event) (w, c) = other_not frame (down.OutcomeIs false c.outcome.0) alive c.outcome.1.alive p refl c.outcome.1.taken
  other_calm frame alive p x (ReplayTimeout first ready) c = other_not frame (down.OutcomeIs false c.outcome.0) alive c.outcome.1.alive p refl c.outcome.1.taken
  other_calm frame alive p x (Mismatch index seen then) c = other_not frame (down.Reply c.taken.0 c.taken.1 c.taken.2) alive c.taken.3 p refl c.taken.4
  other_calm frame alive p x (PoolWait first then) c = let e : Took frame alive ≡ Waiting = c.waits in let no : ⊥ = cc in no
  other_calm frame alive p x (Unknown ltxid) c = other_not frame (down.OutcomeRefused ahead.Forgotten c.horizon) alive c.alive p refl c.taken
  other_calm frame alive p x (BadPeer tag) c = expected_not frame c.frame alive c.alive x c.taken c.unexpected

  -- a reply: of the lines only that of a differing one can hold
  pub reply_calm : (answers : List Answer) (draws : List Draw) (ltxid : Ltxid) (alive : Bool) → is_expected heard.last (down.Reply answers draws ltxid) ≡ true
      → ((index : ℕ) (seen then : List ℕ) → IsCaused terms calls heard (Took (down.Reply answers draws ltxid) alive) now (Mismatch index seen then) → ⊥)
      → Calm terms calls heard (Took (down.Reply answers draws ltxid) alive) now
  reply_calm answers draws ltxid alive x differs (Retries tries) c = let e : Took (down.Reply answers draws ltxid) alive ≡ TryFailed = c.failed in let no : ⊥ = cc in no
  reply_calm answers draws ltxid alive x differs (Incomplete other) c = let e : Took (down.Reply answers draws ltxid) alive ≡ Took (down.OutcomeIs true false) c.outcome.alive = c.outcome.taken in let no : ⊥ = cc in no
  reply_calm answers draws ltxid alive x differs (Disabled reason event) (w, inl c) = let e : Took (down.Reply answers draws ltxid) alive ≡ Took (down.OutcomeIs true true) c.2.outcome.alive = c.2.outcome.taken in let no : ⊥ = cc in no
  reply_calm answers draws ltxid alive x differs (Disabled reason event) (w, inr c) = let e : Took (down.Reply answers draws ltxid) alive ≡ Took (down.OutcomeIs false c.outcome.0) c.outcome.1.alive = c.outcome.1.taken in let no : ⊥ = cc in no
  reply_calm answers draws ltxid alive x differs (Replays limit event) (w, c) = let e : Took (down.Reply answers draws ltxid) alive ≡ Took (down.OutcomeIs false c.outcome.0) c.outcome.1.alive = c.outcome.1.taken in let no : ⊥ = cc in no
  reply_calm answers draws ltxid alive x differs (ReplayTimeout first ready) c = let e : Took (down.Reply answers draws ltxid) alive ≡ Took (down.OutcomeIs false c.outcome.0) c.outcome.1.alive = c.outcome.1.taken in let no : ⊥ = cc in no
  reply_calm answers draws ltxid alive x differs (Mismatch index seen then) c = differs index seen then c
  reply_calm answers draws ltxid alive x differs (PoolWait first then) c = let e : Took (down.Reply answers draws ltxid) alive ≡ Waiting = c.waits in let no : ⊥ = cc in no
  reply_calm answers draws ltxid alive x differs (Unknown other) c = let e : Took (down.Reply answers draws ltxid) alive ≡ Took (down.OutcomeRefused ahead.Forgotten c.horizon) c.alive = c.taken in let no : ⊥ = cc in no
  reply_calm answers draws ltxid alive x differs (BadPeer tag) c = expected_not (down.Reply answers draws ltxid) c.frame alive c.alive x c.taken c.unexpected

  pub outcome_calm : (committed completed alive : Bool) → is_expected heard.last (down.OutcomeIs committed completed) ≡ true
      → ((ltxid : Ltxid) → IsCaused terms calls heard (Took (down.OutcomeIs committed completed) alive) now (Incomplete ltxid) → ⊥)
      → ((reason : _) (event : ℕ) → IsCaused terms calls heard (Took (down.OutcomeIs committed completed) alive) now (Disabled reason event) → ⊥)
      → ((limit event : ℕ) → IsCaused terms calls heard (Took (down.OutcomeIs committed completed) alive) now (Replays limit event) → ⊥)
      → ((first ready : ℕ) → IsCaused terms calls heard (Took (down.OutcomeIs committed completed) alive) now (ReplayTimeout first ready) → ⊥)
      → Calm terms calls heard (Took (down.OutcomeIs committed completed) alive) now
  outcome_calm committed completed alive x incomplete disabled replays late (Retries tries) c = let e : Took (down.OutcomeIs committed completed) alive ≡ TryFailed = c.failed in let no : ⊥ = cc in no
  outcome_calm committed completed alive x incomplete disabled replays late (Incomplete other) c = incomplete other c
  outcome_calm committed completed alive x incomplete disabled replays late (Disabled reason event) c = disabled reason event c
  outcome_calm committed completed alive x incomplete disabled replays late (Replays limit event) c = replays limit event c
  outcome_calm committed completed alive x incomplete disabled replays late (ReplayTimeout first ready) c = late first ready c
  outcome_calm committed completed alive x incomplete disabled replays late (Mismatch index seen then) c = let e : Took (down.OutcomeIs committed completed) alive ≡ Took (down.Reply c.taken.0 c.taken.1 c.taken.2) c.taken.3 = c.taken.4 in let no : ⊥ = cc in no
  outcome_calm committed completed alive x incomplete disabled replays late (PoolWait first then) c = let e : Took (down.OutcomeIs committed completed) alive ≡ Waiting = c.waits in let no : ⊥ = cc in no
  outcome_calm committed completed alive x incomplete disabled replays late (Unknown other) c = let e : Took (down.OutcomeIs committed completed) alive ≡ Took (down.OutcomeRefused ahead.Forgotten c.horizon) c.alive = c.taken in let no : ⊥ = cc in no
  outcome_calm committed completed alive x incomplete disabled replays late (BadPeer tag) c = expected_not (down.OutcomeIs committed completed) c.frame alive c.alive x c.taken c.unexpected

  -- no frame
  abbrev pub is_frame : Input → Bool
  is_frame (Took frame alive) = true
  is_frame _ = false

  frame_not : (input : Input) (frame : Down) (alive : Bool) → is_frame input ≡ false → input ≡ Took frame alive → ⊥
  frame_not input frame alive p e = let r : is_frame input ≡ true = ap is_frame e in let no : ⊥ = cc in no

  pub input_calm : (input : Input) → is_frame input ≡ false
      → ((tries : ℕ) → IsCaused terms calls heard input now (Retries tries) → ⊥)
      → ((first then : ℕ) → IsCaused terms calls heard input now (PoolWait first then) → ⊥)
      → Calm terms calls heard input now
  input_calm input p retries waits (Retries tries) c = retries tries c
  input_calm input p retries waits (Incomplete ltxid) c = frame_not input (down.OutcomeIs true false) c.outcome.alive p c.outcome.taken
  input_calm input p retries waits (Disabled reason event) (w, inl c) = frame_not input (down.OutcomeIs true true) c.2.outcome.alive p c.2.outcome.taken
  input_calm input p retries waits (Disabled reason event) (w, inr c) = frame_not input (down.OutcomeIs false c.outcome.0) c.outcome.1.alive p c.outcome.1.taken
  input_calm input p retries waits (Replays limit event) (w, c) = frame_not input (down.OutcomeIs false c.outcome.0) c.outcome.1.alive p c.outcome.1.taken
  input_calm input p retries waits (ReplayTimeout first ready) c = frame_not input (down.OutcomeIs false c.outcome.0) c.outcome.1.alive p c.outcome.1.taken
  input_calm input p retries waits (Mismatch index seen then) c = frame_not input (down.Reply c.taken.0 c.taken.1 c.taken.2) c.taken.3 p c.taken.4
  input_calm input p retries waits (PoolWait first then) c = waits first then c
  input_calm input p retries waits (Unknown ltxid) c = frame_not input (down.OutcomeRefused ahead.Forgotten c.horizon) c.alive p c.taken
  input_calm input p retries waits (BadPeer tag) c = frame_not input c.frame c.alive p c.taken
