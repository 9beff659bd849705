-- Frames on their way, and which of them arrive whole.
use Rattle.std.specs.Prelude.{ℕ, ◌-◌, nat_le, List, [], ◌∷◌, length, Option, if◌then◌else◌}
use Rattle.svc_values.specs.declared.frame.Up.{Up}
use Rattle.svc_values.specs.declared.frame.Down.{Down}
use Rattle.canon_bytes.specs.meaning.UpBytes.{up_frame}
use Rattle.canon_bytes.specs.meaning.DownBytes.{down_frame}
use Rattle.outage_schedule.specs.declared.item.Served.{Served}

-- Whose frame it is: the client, by its number, and which of the requests that it submitted, from
-- 0.
pub record Owner : Type 0 where
  pub client : ℕ
  pub place : ℕ

-- A frame to the server. The Close of a drain is nobody's. `call` is the index in its request where
-- it is a call.
pub record Sent : Type 0 where
  pub owner : Option Owner
  pub call : ℕ
  pub frame : Up

-- a frame to the client, and the one that it answers
pub record Reply : Type 0 where
  pub to : Sent
  pub frame : Down

-- a frame that was served, its item, and the reply that the session gave, if it gave one
pub record Handled : Type 0 where
  pub sent : Sent
  pub served : Served
  pub reply : Option Down

abbrev pub up_size : Sent → ℕ
up_size sent = length (up_frame sent.frame)

abbrev pub down_size : Reply → ℕ
down_size reply = length (down_frame reply.frame)

-- those that lie whole in the first so many bytes
abbrev pub whole_front : {A : Type 0} → (A → ℕ) → ℕ → List A → List A
whole_front size bytes [] = []
whole_front size bytes (first ∷ later) =
    if nat_le (size first) bytes then first ∷ whole_front size (bytes - size first) later else []
