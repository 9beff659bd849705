-- A cut leaves exactly the first bytes.
use Rattle.std.proofs.Common.{◌≡◌, ℕ, Bool, true, false, List, Option, Some, None, Result, Ok, Err, OnOk, get_or, sym, ap, ◌∙◌, subst}
use Rattle.std.specs.Prelude.{slice_get, slice_set, is_some}
use Rattle.outage_schedule.specs.declared.event.Event.{Event}
use Rattle.outage_schedule.specs.declared.event.Event.TheVariants as event
use Rattle.world_core.specs.declared.connection.Connection.{Connection}
use Rattle.world_core.specs.declared.traffic.Traffic.{Traffic}
use Rattle.world_core.specs.CutBytes.{KeepsFirst, KeepsFirstAt, CutsFirst}
use Rattle.world_core.specs.Linked.{connection_at}
use Rattle.world_core.proofs.Places.{slice_same}
use Rattle.world_core.proofs.Standing.{IsPlace, connection_there}

some_same : (a b : Connection) → ◌≡◌ {A = Option Connection} (Some a) (Some b) → a ≡ b
some_same a b is = cc

-- the one of this number is the one that was looked up
found_there : (all : List Connection) (number at : ℕ) (one held : Connection) → IsPlace all number at → one ≡ get_or all at one → connection_at all number ≡ Some held → one ≡ held
found_there all number at one held place is there = some_same one held (connection_there all number at one place is ∙ there)

pub cut_at : (all : List Connection) (number at : ℕ) (one next : Connection) (up down : ℕ) → IsPlace all number at → one ≡ get_or all at one → KeepsFirst up down one next → KeepsFirstAt number up down all (slice_set all at next)
cut_at all number at one next up down place is keeps held there unended =
    let found : slice_get all at ≡ Some one = sym (connection_there all number at one place is ∙ ap (connection_at all) place.0) in (
      next,
      (
        ap (connection_at (slice_set all at next)) place.0 ∙ slice_same all at one next found,
        subst (λ (c : Connection). KeepsFirst up down c next) (found_there all number at one held place is there) keeps,
      ),
    )

-- where none is open nothing is said
pub none_cut : (all after : List Connection) (number up down : ℕ) → connection_at all number ≡ None → KeepsFirstAt number up down all after
none_cut all after number up down none held there unended = absurd (let both : ◌≡◌ {A = Option Connection} None (Some held) = sym none ∙ there in let never : ⊥ = cc in never)

ended_none : (ended : Option ℕ) → ended ≡ None → is_some ended ≡ true → ⊥
ended_none None none some = let never : ⊥ = cc in never
ended_none (Some event) none some = let never : ⊥ = cc in never

pub ended_cut : (all after : List Connection) (number at : ℕ) (one : Connection) (up down : ℕ) → IsPlace all number at → one ≡ get_or all at one → is_some one.ended ≡ true → KeepsFirstAt number up down all after
ended_cut all after number at one up down place is ended held there unended =
    absurd (ended_none one.ended (ap (λ (c : Connection). c.ended) (found_there all number at one held place is there) ∙ unended) ended)

-- AN EVENT ----------------------------------------------------------------------------------------

abbrev pub is_cut : Event → Bool
is_cut (event.Cut connection up down) = true
is_cut _ = false

pub never_cuts : (one : Event) (before after : Traffic) → is_cut one ≡ false → CutsFirst one before after
never_cuts (event.Cut connection up down) before after other = absurd (let never : ⊥ = cc in never)
never_cuts one before after other = tt

-- one that is no cut
pub others_cut : {A E : Type 0} (result : Result A E) (one : Event) (before after : Traffic) → is_cut one ≡ false → OnOk result (CutsFirst one before after)
others_cut (Ok done) one before after other = never_cuts one before after other
others_cut (Err fault) one before after other = tt
