-- What a draw at the desk comes to, by what the source and the log answer.
use Rattle.std.proofs.Common.{◌≡◌, ℕ, ℤ, Bool, true, false, List, refl, sym, ◌∙◌, ap, subst}
use Rattle.std.specs.Prelude.{IsTrue, IsFalse, Some, Result, Ok, Err}
use Rattle.disk_model.specs.Disk.{DiskState}
use Rattle.svc_values.specs.declared.draw.Draw.{Draw}
use Rattle.svc_values.specs.declared.draw.DrawKind.{DrawKind}
use Rattle.mutable_values.specs.declared.source.Drawn.{Drawn}
use Rattle.mutable_values.specs.declared.source.Drawn.TheVariants as drawn
use Rattle.mutable_values.specs.Sources.{Opening, HasRoom, DrawnFrom, draw_of, may_reserve, names_of, reserved_to}
use Rattle.mutable_values.proofs.Offered.{gives_as_asked, gives_once_reserved, may_reserve_next}
use Rattle.commit_log.specs.declared.log.Log.{Log}
use Rattle.commit_log.specs.Logs.{is_live}
use Rattle.server_model.specs.declared.fault.ServeFault.{ServeFault}
use Rattle.server_model.specs.declared.fault.ServeFault.TheVariants as fault
use Rattle.server_session.specs.Dealing.{AtDesk, DealsAs, HasReserved, IsPrepared, IsReady, Reserves}
use Rattle.server_session.proofs.Dealing.{dealt_value, dealt_reserved, halted_in, lacked_at_once, lacked_behind, prepared_after}
use Rattle.server_session.proofs.Reserving.{asks_reservation, names_after, names_told, told_value}

-- a draw was answered
pub record HasAnswered (now : ℕ) (before : AtDesk) (asked : DrawKind) (result : Result Draw ServeFault) (after : AtDesk) : Type 0 where
  pub drawn : DealsAs now before asked result after
  pub names : names_of after.opening.sequences ≡ names_of before.opening.sequences
  pub ready : IsReady after.opening after.log after.disk

never_both : (b : Bool) → IsFalse b → IsTrue b → ⊥
never_both b dead live = let clash : ◌≡◌ {A = Bool} true false = sym live ∙ dead in cc

abbrev pub desk_at : Opening → List Draw → Log → DiskState → AtDesk
desk_at opening left log disk = record { opening = opening; left = left; log = log; disk = disk }

same_names : (a b : Opening) → a ≡ b → names_of a.sequences ≡ names_of b.sequences
same_names a b same = ap (λ (o : Opening). names_of o.sequences) same

-- what was told, by what it is
pub told_as : (opening : Opening) (left : List Draw) (asked : DrawKind) (now : ℕ) (answer other : Drawn) (later : Opening) (rest : List Draw) → draw_of opening left asked now ≡ Some (record { answer = answer; opening = later; kept = rest })
    → answer ≡ other → draw_of opening left asked now ≡ Some (record { answer = other; opening = later; kept = rest })
told_as opening left asked now answer other later rest told is = subst (λ (a : Drawn). draw_of opening left asked now ≡ Some (record { answer = a; opening = later; kept = rest })) is told

module _ (now : ℕ) (asked : DrawKind) (opening : Opening) (left : List Draw) (log : Log) (disk : DiskState) where
  -- the log was stopped before
  pub answered_dead : IsFalse (is_live log) → IsReady opening log disk → HasAnswered now (desk_at opening left log disk) asked (Err fault.Stopped) (desk_at opening left log disk)
  answered_dead dead ready = record { drawn = λ live. absurd (never_both (is_live log) dead live); names = refl; ready = ready }

  -- the source lacked memory
  pub answered_lacked : (later : Opening) (rest : List Draw) → later ≡ opening → IsReady opening log disk → HasAnswered now (desk_at opening left log disk) asked (Err fault.NoMemory) (desk_at later rest log disk)
  answered_lacked later rest same ready = record {
    drawn = lacked_at_once (desk_at opening left log disk) (desk_at later rest log disk) refl;
    names = same_names later opening same;
    ready = subst (λ (o : Opening). IsReady o log disk) (sym same) ready;
  }

  -- the source gave a value
  pub answered_value : (given : Draw) (later : Opening) (rest : List Draw) → IsPrepared opening log disk → HasRoom opening
      → draw_of opening left asked now ≡ Some (record { answer = drawn.Value given; opening = later; kept = rest }) → HasAnswered now (desk_at opening left log disk) asked (Ok given) (desk_at later rest log disk)
  answered_value given later rest prepared room is =
      let told : DrawnFrom = record { answer = drawn.Value given; opening = later; kept = rest } in
      let of_kind = gives_as_asked opening later left rest asked now given is in
      record {
        drawn = (of_kind, dealt_value now (desk_at opening left log disk) asked given later rest prepared room is of_kind);
        names = names_after opening left asked now told is;
        ready = λ live. prepared_after opening left asked now told log disk is prepared;
      }

  -- the source asked for a reservation
  module _ (name : List ℕ) (upto : ℤ) (between : Opening) (same : List Draw) (prepared : IsPrepared opening log disk)
      (wanted : draw_of opening left asked now ≡ Some (record { answer = drawn.Reserve name upto; opening = between; kept = same })) where
    abbrev pub told_between : DrawnFrom
    told_between = record { answer = drawn.Reserve name upto; opening = between; kept = same }

    pub prepared_between : IsPrepared between log disk
    prepared_between = prepared_after opening left asked now told_between log disk wanted prepared

    pub may_between : IsTrue (may_reserve between name upto)
    may_between = may_reserve_next opening left asked now name upto between same wanted

    names_between : names_of between.sequences ≡ names_of opening.sequences
    names_between = names_after opening left asked now told_between wanted

    -- which was not stored
    pub answered_unreserved : (error : ServeFault) (later : Opening) (last : Log) (end : DiskState) → Reserves name upto (Err error) between disk later last end
        → HasAnswered now (desk_at opening left log disk) asked (Err error) (desk_at later same last end)
    answered_unreserved fault.NoMemory later last end lacked = record {
      drawn = lacked_behind (desk_at opening left log disk) (desk_at later same last end) name upto lacked.moments lacked.faults;
      names = same_names later between lacked.same ∙ names_between;
      ready = λ live. lacked.prepared;
    }
    answered_unreserved fault.Stopped later last end halted = record {
      drawn = λ live. halted_in now (desk_at opening left log disk) (desk_at later same last end) asked name upto between same wanted halted.halted halted.same halted.ends;
      names = same_names later between halted.same ∙ names_between;
      ready = λ live. absurd (never_both (is_live last) halted.dead live);
    }

    -- which was stored
    module _ (later : Opening) (last : Log) (end : DiskState) (reserved : HasReserved name upto between disk later last end) where
      pub names_reserved : names_of later.sequences ≡ names_of opening.sequences
      names_reserved = same_names later (reserved_to between name upto) reserved.told ∙ names_told between name upto ∙ names_between

      -- and then the source lacked memory
      pub answered_lacked_behind : (after : Opening) (rest : List Draw) → after ≡ later → HasAnswered now (desk_at opening left log disk) asked (Err fault.NoMemory) (desk_at after rest last end)
      answered_lacked_behind after rest is = record {
        drawn = lacked_behind (desk_at opening left log disk) (desk_at after rest last end) name upto reserved.gained.moments reserved.gained.faults;
        names = same_names after later is ∙ names_reserved;
        ready = λ live. subst (λ (o : Opening). IsPrepared o last end) (sym is) reserved.prepared;
      }

      -- and it never asks again
      pub never_again : (other : List ℕ) (end_of : ℤ) (after : Opening) (rest : List Draw) → draw_of later same asked now ≡ Some (record { answer = drawn.Reserve other end_of; opening = after; kept = rest }) → ⊥
      never_again other end_of after rest is =
          let again : DrawnFrom = record { answer = drawn.Reserve other end_of; opening = after; kept = rest } in
          let asks = asks_reservation opening left asked now name upto between same wanted in
          let once = gives_once_reserved opening between left same asked now now name upto prepared.sequences wanted in
          let here : draw_of (reserved_to opening name upto) left asked now ≡ Some again =
          subst (λ (o : Opening). draw_of (reserved_to o name upto) left asked now ≡ Some again) asks.opening_is
          (subst (λ (o : Opening). draw_of o left asked now ≡ Some again) reserved.told (subst (λ (l : List Draw). draw_of later l asked now ≡ Some again) asks.left_is is)) in
          told_value _ _ _ other end_of after rest (sym once.3 ∙ here)

      -- or gave the value
      pub answered_reserved : (given : Draw) (after : Opening) (rest : List Draw) → HasRoom opening → draw_of later same asked now ≡ Some (record { answer = drawn.Value given; opening = after; kept = rest })
          → HasAnswered now (desk_at opening left log disk) asked (Ok given) (desk_at after rest last end)
      answered_reserved given after rest room is =
          let told : DrawnFrom = record { answer = drawn.Value given; opening = after; kept = rest } in
          let of_kind = gives_as_asked later after same rest asked now given is in
          let here : draw_of (reserved_to between name upto) left asked now ≡ Some told =
          subst (λ (o : Opening). draw_of o left asked now ≡ Some told) reserved.told
          (subst (λ (l : List Draw). draw_of later l asked now ≡ Some told) (asks_reservation opening left asked now name upto between same wanted).left_is is) in
          let stored : HasReserved name upto between disk (reserved_to between name upto) last end = subst (λ (o : Opening). HasReserved name upto between disk o last end) reserved.told reserved in
          record {
            drawn = (of_kind, dealt_reserved now (desk_at opening left log disk) asked name upto between same given after rest last end room wanted stored here of_kind);
            names = names_after later same asked now told is ∙ names_reserved;
            ready = λ live. prepared_after later same asked now told last end is reserved.prepared;
          }
