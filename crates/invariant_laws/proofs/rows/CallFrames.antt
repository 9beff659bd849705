-- Frames that are the same are calls alike, with the mark or without.
use Rattle.std.proofs.Common.{◌≡◌, refl, true, false, ◌&&◌}
use Rattle.std.specs.Prelude.{◌==◌}
use Rattle.std.proofs.lemmas.Bool.{and_parts}
use Rattle.svc_values.specs.declared.frame.Up.{Up}
use Rattle.svc_values.specs.declared.frame.Up.TheVariants as up
use Rattle.world_model.specs.meaning.Frames.{Sent}
use Rattle.world_model.specs.Parts.{is_answered, is_unmarked_frame}
use Rattle.world_model.specs.Sames.{same_owners, same_sent, same_up}
use Rattle.invariant_laws.specs.Shown.{is_call}
use Rattle.invariant_laws.proofs.losses.AskedNear.{owners_are}
use Rattle.world_model.proofs.Offered.{eq_from}
use Rattle.invariant_laws.specs.Begins.{is_begin_frame}

pub begin_alike : (a b : Up) → same_up a b ≡ true → is_begin_frame a ≡ is_begin_frame b
begin_alike (up.Begin x) (up.Begin y) same = refl
begin_alike up.Connect up.Connect same = refl
begin_alike (up.Call r k c) (up.Call s l d) same = refl
begin_alike (up.Outcome x) (up.Outcome y) same = refl
begin_alike up.End up.End same = refl
begin_alike up.Close up.Close same = refl
begin_alike a b same = absurd (let none : ⊥ = cc in none)

pub unmarked_called : (frame : Up) → is_unmarked_frame frame ≡ true → is_call frame ≡ true
unmarked_called (up.Call false kept call) is = refl
unmarked_called (up.Call true kept call) is = absurd (let none : ⊥ = cc in none)
unmarked_called frame is = absurd (let none : ⊥ = cc in none)

pub call_answered : (frame : Up) → is_call frame ≡ true → is_answered frame ≡ true
call_answered (up.Call replay kept call) is = refl
call_answered frame is = absurd (let none : ⊥ = cc in none)

pub calls_same : (a b : Up) → same_up a b ≡ true → is_call a ≡ is_call b
calls_same (up.Call r k c) (up.Call s l d) same = refl
calls_same up.Connect up.Connect same = refl
calls_same (up.Begin a) (up.Begin b) same = refl
calls_same (up.Outcome x) (up.Outcome y) same = refl
calls_same up.End up.End same = refl
calls_same up.Close up.Close same = refl
calls_same a b same = absurd (let none : ⊥ = cc in none)

pub unmarked_same : (a b : Up) → same_up a b ≡ true → is_unmarked_frame a ≡ is_unmarked_frame b
unmarked_same (up.Call true k c) (up.Call true l d) same = refl
unmarked_same (up.Call false k c) (up.Call false l d) same = refl
unmarked_same (up.Call true k c) (up.Call false l d) same = absurd (let none : ⊥ = cc in none)
unmarked_same (up.Call false k c) (up.Call true l d) same = absurd (let none : ⊥ = cc in none)
unmarked_same up.Connect up.Connect same = refl
unmarked_same (up.Begin a) (up.Begin b) same = refl
unmarked_same (up.Outcome x) (up.Outcome y) same = refl
unmarked_same up.End up.End same = refl
unmarked_same up.Close up.Close same = refl
unmarked_same a b same = absurd (let none : ⊥ = cc in none)

pub sent_parts : (a b : Sent) → same_sent a b ≡ true → (a.owner ≡ b.owner) × ((a.call ≡ b.call) × (same_up a.frame b.frame ≡ true))
sent_parts a b same =
    let one = and_parts (same_owners a.owner b.owner) ((a.call == b.call) && same_up a.frame b.frame) same in
    let two = and_parts (a.call == b.call) (same_up a.frame b.frame) one.1 in
    (owners_are a.owner b.owner one.0, (eq_from a.call b.call two.0, two.1))
