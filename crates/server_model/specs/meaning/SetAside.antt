-- Values that lie in what is set aside of their sequences: an opening draws behind that, so it
-- draws none of them again.
use Rattle.std.specs.Prelude.{ℕ, ℤ, int_le, Bool, true, false, IsTrue, List, [], ◌∷◌, Option, Some, None, if◌then◌else◌}
use Rattle.std.specs.List.{list_all}
use Rattle.std.specs.Option.{option_map_or}
use Rattle.std.specs.Str.{bytes_eq}
use Rattle.svc_values.specs.declared.draw.Draw.{Draw}
use Rattle.svc_values.specs.declared.draw.Draw.TheVariants as draw
use Rattle.server_model.specs.meaning.Base.{Sequence}

-- where the values end that are set aside of the sequence of this name, if there is one
abbrev pub ends_in : List Sequence → List ℕ → Option ℤ
ends_in [] name = None
ends_in (sequence ∷ sequences) name = if bytes_eq sequence.name name then Some sequence.upto else
    ends_in sequences name

-- A value of a sequence is not past where these end. (Ticks and identifiers are not set aside.)
abbrev pub is_set_aside : (List ℕ → Option ℤ) → Draw → Bool
is_set_aside ends (draw.Seq name value) = option_map_or (int_le value) (ends name) false
is_set_aside ends (draw.Clock tick) = true
is_set_aside ends (draw.Id id) = true

abbrev pub is_no_less : Option ℤ → Option ℤ → Bool
is_no_less None end = true
is_no_less (Some before) end = option_map_or (int_le before) end false

-- Each of these values lies in what is set aside now, and of no sequence is that less than it was
-- before.
pub record SetAside (before : List Sequence) (ends : List ℕ → Option ℤ)
    (draws : List Draw) : Type 0 where
  pub drawn : IsTrue (list_all (is_set_aside ends) draws)
  pub kept : IsTrue (list_all (λ sequence. is_no_less (ends_in before sequence.name)
      (ends sequence.name)) before)
