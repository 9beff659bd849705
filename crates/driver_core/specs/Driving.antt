-- What a driver holds, as it is seen.
use Rattle.std.specs.Prelude.{◌≤◌, ℕ, Bool, true, false, [], Option, None}
use Rattle.std.specs.Option.{option_and_then}
use Rattle.sha2.specs.Sha256.{sha256}
use Rattle.canon_bytes.specs.meaning.AnswerBytes.{spell_answers}
use Rattle.request_bounds.specs.declared.clocked.Clocked.{Clocked}
use Rattle.request_bounds.specs.Limits.{IsPast}
use Rattle.request_bounds.specs.meaning.Rules.{Rules}
use Rattle.svc_values.specs.Identifiers.{IsLtxid}
use Rattle.svc_values.specs.declared.frame.Down.TheVariants as down
use Rattle.client_model.specs.declared.act.Hold.{Hold}
use Rattle.client_model.specs.declared.act.Hold.TheVariants.{Keep}
use Rattle.client_model.specs.declared.input.Input.{Input}
use Rattle.client_model.specs.declared.input.Input.TheVariants.{Lent, Took}
use Rattle.client_model.specs.meaning.Terms.{Terms, Talk, Phase, Idle, Queued}
use Rattle.client_model.specs.Laws.{track_of}

-- A driver: its rule, its limits, how many calls it records; the conversation of its request; and
-- whether the connection has ended and its loss comes next.
pub record Driving (R : Type 0) : Type 0 where
  pub rule : R
  pub limits : Clocked
  pub recorded : ℕ
  pub talk : Talk
  pub gone_next : Bool

-- what a driver goes by: answers are told apart by SHA-256 of their canonical bytes
abbrev pub terms_of : Rules → Clocked → ℕ → Terms
terms_of rules limits recorded = record {
  rules = rules;
  limits = limits;
  recorded = recorded;
  digest = λ answers. sha256 (spell_answers answers);
}

-- no request was handed in yet
abbrev pub unasked : Talk
unasked = record { settings = []; sets = []; left = []; tries = 0; last_try = None; phase = Idle }

-- the tick at which a request was told to wait first
abbrev pub queued_at : Phase → Option ℕ
queued_at (Queued from) = from
queued_at _ = None

-- no tick that is kept is above now
pub record ArePast (talk : Talk) (now : ℕ) : Type 0 where
  pub tried : IsPast talk.last_try now
  pub queued : IsPast (queued_at talk.phase) now
  pub submitted : IsPast (option_and_then (λ track. track.first) (track_of talk.phase)) now

-- and at no later tick is one
abbrev pub StaysPast : Type 0
StaysPast = (talk : Talk) (now later : ℕ) → ArePast talk now → now ≤ later → ArePast talk later

-- each identifier that comes in is one
abbrev pub HasLtxids : Input → Type 0
HasLtxids (Lent connection ltxid) = IsLtxid ltxid
HasLtxids (Took (down.Hello ltxid) alive) = IsLtxid ltxid
HasLtxids (Took (down.Reply answers draws ltxid) alive) = IsLtxid ltxid
HasLtxids _ = Unit {0}

-- a frame from a connection that has ended
abbrev pub tells_end : Input → Bool
tells_end (Took frame false) = true
tells_end _ = false

-- its loss comes next where the request goes on
abbrev pub loses_next : Bool → Hold → Bool
loses_next true Keep = true
loses_next _ _ = false
