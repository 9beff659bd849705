-- The invariant of a run.
use Rattle.std.specs.Prelude.{IsTrue}
use Rattle.world_model.specs.Traced.{Traced}
use Rattle.invariant_laws.specs.Shown.{Shown}
use Rattle.invariant_laws.specs.Lost.{Lost}
use Rattle.invariant_laws.specs.Once.{Once}
use Rattle.invariant_laws.specs.Begins.{are_followed, carry_settings}
use Rattle.invariant_laws.specs.FirstCalls.{begin_decided}
use Rattle.invariant_laws.specs.Same.{entries_ran, entries_started}
use Rattle.world_model.specs.Orderly.{Orderly}

-- What is kept as a whole: behind an event each part needs the others before it.
pub record Invariant (t : Traced) : Type 0 where
  pub orderly : Orderly t
  pub shown : Shown t
  pub lost : Lost t
  pub once : Once t
  -- each entry has the pieces of what its session ran, and the settings at the start of that
  pub ran : IsTrue (entries_ran t)
  pub started : IsTrue (entries_started t)
  -- each Begin carries its request's settings, changed by each `set` before the call that follows
  -- it at once
  pub settings : IsTrue (carry_settings t)
  pub followed : IsTrue (are_followed t)
  -- this is its first call, or behind one that was shown with a decided commit
  pub decided : IsTrue (begin_decided t)
