-- `cut` and `reap`: a connection ends, and its session lives on as an orphan until it ends too.
use Rattle.std.specs.Prelude.{ℕ, Bool, true, false, min, List, sum_by, Option, Some, None, option_and_then, if◌then◌else◌}
use Rattle.std.specs.Option.{option_map_or}
use Rattle.pool_core.specs.meaning.Slots.{after_gone}
use Rattle.outage_schedule.specs.declared.note.Reached.{Reached}
use Rattle.svc_values.specs.meaning.Same.{same_bool}
use Rattle.world_model.specs.meaning.Frames.{up_size, down_size, whole_front}
use Rattle.world_model.specs.meaning.Links.{Link, link_at, with_link, changed, ends, is_orphan}
use Rattle.world_model.specs.meaning.Machines.{Machine}
use Rattle.world_model.specs.meaning.Noting.{only_if, same_reached}

-- so many bytes still arrive: those of the event, or all that are on their way where these are
-- fewer
abbrev pub reached_of : Link → ℕ → ℕ → Reached
reached_of link up down = record {
  up = min up (sum_by up_size link.up);
  down = min down (sum_by down_size link.down);
}

-- the frames that lie whole in these bytes have arrived
abbrev pub cut_link : ℕ → ℕ → ℕ → Link → Link
cut_link event up down link = record (ends event link) {
  is_cut = true;
  up =
      whole_front up_size up link.up;
  down = whole_front down_size down link.down;
}

abbrev pub after_cut : Machine → ℕ → ℕ → ℕ → Link → Machine
after_cut m number up down link = record m {
  links =
      with_link m.links number (cut_link m.event up down link);
  pool = after_gone m.pool number;
}

-- a connection that is open, if it is one
abbrev pub open_at : List Link → ℕ → Option Link
open_at links number = option_and_then (λ link. only_if link.is_open link) (link_at links number)

abbrev pub cuts : Machine → ℕ → ℕ → ℕ → Option Reached → Option Link → Option Machine
cuts m number up down None None = Some m
cuts m number up down (Some reached) (Some link) =
    only_if (same_reached reached (reached_of link up down)) (after_cut m number up down link)
cuts m number up down _ _ = None

abbrev pub follow_cut : Machine → ℕ → ℕ → ℕ → Option Reached → Option Machine
follow_cut m number up down reached = cuts m number up down reached (open_at m.links number)

-- the session ends, where it is that of an orphan
abbrev pub reaped_link : Link → Link
reaped_link link = record link { is_living = false }

abbrev pub has_orphan : List Link → ℕ → Bool
has_orphan links number = option_map_or is_orphan (link_at links number) false

abbrev pub follow_reap : Machine → ℕ → Bool → Option Machine
follow_reap m number reaped =
    only_if (same_bool reaped (has_orphan m.links number))
    (if reaped then record m { links = changed reaped_link m.links number } else m)
