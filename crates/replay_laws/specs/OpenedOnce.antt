-- A request opens each connection once: the numbers of those that it opens rise, and none is beyond
-- the last connection.
use Rattle.std.specs.Prelude.{ℕ, ◌&&◌, Bool, true, nat_le, nat_lt, List, [], ◌∷◌, length}
use Rattle.std.specs.List.{list_all}
use Rattle.client_model.specs.declared.input.Input.{Input}
use Rattle.client_model.specs.declared.input.Input.TheVariants.{Opened}
use Rattle.world_model.specs.meaning.Clients.{Step}
use Rattle.world_model.specs.Traced.{Traced, courses_of}

-- if a connection is opened, it is behind this one
abbrev pub opens_above : ℕ → Input → Bool
opens_above last (Opened connection) = nat_lt last connection
opens_above last _ = true

abbrev pub last_opened : ℕ → Input → ℕ
last_opened last (Opened connection) = connection
last_opened last _ = last

-- behind this one each, and up to the limit
abbrev pub rise_within : ℕ → ℕ → List Step → Bool
rise_within last limit [] = nat_le last limit
rise_within last limit (step ∷ steps) = opens_above last step.done.input
    && rise_within (last_opened last step.done.input) limit steps

abbrev pub opened_once : Traced → Bool
opened_once t = list_all (λ course. rise_within 0 (length t.machine.links) course.steps)
    (courses_of t)
