-- Conversations: what a client does over a list of inputs, each at its tick.
use Rattle.std.specs.Prelude.{ℕ}
use Rattle.client_model.specs.declared.input.Input.{Input}
use Rattle.client_model.specs.declared.act.Act.{Act}
use Rattle.client_model.specs.meaning.Terms.{Terms, Talk}
use Rattle.client_model.specs.meaning.Talk.{talk_step}

-- a step as it is told: the input, its tick, the act
pub record Done : Type 0 where
  pub input : Input
  pub now : ℕ
  pub act : Act

-- an input and its tick
abbrev pub Timed : Type 0
Timed = Input × ℕ

abbrev pub done_at : Terms → Talk → Timed → Done
done_at terms talk one = record {
  input = one.0;
  now = one.1;
  act = (talk_step terms talk one.0 one.1).1;
}

abbrev pub talk_at : Terms → Talk → Timed → Talk
talk_at terms talk one = (talk_step terms talk one.0 one.1).0
