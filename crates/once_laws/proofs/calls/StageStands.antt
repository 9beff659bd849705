-- Where a session stands while it serves the frames of its connection in order: in a request, of
-- which one thing is known, or in none.
use Rattle.std.proofs.Common.{◌≡◌, refl, subst, Bool, true, false, ℕ, ◌&&◌, List, Option}
use Rattle.std.specs.Prelude.{not}
use Rattle.svc_values.specs.declared.call.Call.{Call}
use Rattle.svc_values.specs.declared.draw.Draw.{Draw}
use Rattle.svc_values.specs.declared.entry.Ltxid.{Ltxid}
use Rattle.svc_values.specs.declared.frame.Up.TheVariants as up
use Rattle.svc_values.specs.declared.value.Value.{Value}
use Rattle.world_model.specs.meaning.Frames.{Owner}
use Rattle.world_model.specs.Sames.{same_owners}
use Rattle.world_model.specs.records.Wire.{Stage, New, Greeted, Told, Repeated, Begun, Rested, Shut, Wrong, next_stage, stage_if, is_alter, is_right}
use Rattle.invariant_laws.proofs.Offered.{owners_are}

-- a call is of the owner whose request it is
if_same : (one owner : Option Owner) (also : Bool) (stage : Stage) → is_right (stage_if (same_owners one owner && also) stage) ≡ true → one ≡ owner
if_same one owner also stage right = by (same_owners one owner) refl right
  where
    by : (test : Bool) → same_owners one owner ≡ test → is_right (stage_if (test && also) stage) ≡ true → one ≡ owner
    by true is right = owners_are one owner is
    by false is right = absurd (let none : ⊥ = cc in none)

if_same_plain : (one owner : Option Owner) (stage : Stage) → is_right (stage_if (same_owners one owner) stage) ≡ true → one ≡ owner
if_same_plain one owner stage right = by (same_owners one owner) refl right
  where
    by : (test : Bool) → same_owners one owner ≡ test → is_right (stage_if test stage) ≡ true → one ≡ owner
    by true is right = owners_are one owner is
    by false is right = absurd (let none : ⊥ = cc in none)

-- `Within` is known in the request of an owner whose next call is of this index, and `Outside` in
-- none
module _ {A : Type 0} (Within : ℕ → Option Owner → A → Type 0) (Outside : A → Type 0) where
  abbrev pub StandsAt : Stage → ℕ → A → Type 0
  StandsAt (Repeated owner) n x = Within n owner x
  StandsAt (Begun owner) n x = Within n owner x
  StandsAt New n x = Outside x
  StandsAt (Greeted owner) n x = Outside x
  StandsAt (Told owner) n x = Outside x
  StandsAt (Rested owner) n x = Outside x
  StandsAt Shut n x = Outside x
  StandsAt Wrong n x = Outside x

  if_stands : (test : Bool) (stage : Stage) (n : ℕ) (x : A) → is_right (stage_if test stage) ≡ true → StandsAt stage n x → StandsAt (stage_if test stage) n x
  if_stands true stage n x right stands = stands
  if_stands false stage n x right stands = absurd (let none : ⊥ = cc in none)

  pub greeted_stands : (stage : Stage) (owner : Option Owner) (n : ℕ) (x : A) → is_right (next_stage stage owner up.Connect) ≡ true → StandsAt stage n x → StandsAt (next_stage stage owner up.Connect) n x
  greeted_stands New owner n x right stands = if_stands _ (Greeted owner) n x right stands
  greeted_stands stage owner n x right stands = absurd (let none : ⊥ = cc in none)

  pub asked_stands : (stage : Stage) (owner : Option Owner) (asked : Ltxid) (n : ℕ) (x : A) → is_right (next_stage stage owner (up.Outcome asked)) ≡ true → StandsAt stage n x → StandsAt (next_stage stage owner (up.Outcome asked)) n x
  asked_stands (Greeted one) owner asked n x right stands = if_stands (same_owners one owner) (Told owner) n x right stands
  asked_stands stage owner asked n x right stands = absurd (let none : ⊥ = cc in none)

  pub end_stands : (stage : Stage) (owner : Option Owner) (n : ℕ) (x : A) → is_right (next_stage stage owner up.End) ≡ true → Outside x → StandsAt (next_stage stage owner up.End) n x
  end_stands (Begun one) owner n x right none = if_stands (same_owners one owner) (Rested owner) n x right none
  end_stands (Told one) owner n x right none = if_stands (same_owners one owner) (Rested owner) n x right none
  end_stands (Repeated one) owner n x right none = if_stands (same_owners one owner) (Rested owner) n x right none
  end_stands stage owner n x right none = absurd (let never : ⊥ = cc in never)

  pub begin_stands : (stage : Stage) (owner : Option Owner) (settings : List (List ℕ × Value)) (n : ℕ) (x : A) → is_right (next_stage stage owner (up.Begin settings)) ≡ true → Within n owner x → StandsAt (next_stage stage owner (up.Begin settings)) n x
  begin_stands (Greeted one) owner settings n x right within = if_stands (same_owners one owner) (Begun owner) n x right within
  begin_stands (Told one) owner settings n x right within = if_stands (same_owners one owner) (Repeated owner) n x right within
  begin_stands (Rested one) owner settings n x right within = if_stands _ (Begun owner) n x right within
  begin_stands stage owner settings n x right within = absurd (let never : ⊥ = cc in never)

  -- before a call, and behind it
  pub was_within : (stage : Stage) (owner : Option Owner) (replay : Bool) (kept : List Draw) (call : Call) (n : ℕ) (x : A) → is_right (next_stage stage owner (up.Call replay kept call)) ≡ true → StandsAt stage n x → Within n owner x
  was_within (Repeated one) owner true kept call n x right stands = subst (λ (o : Option Owner). Within n o x) (if_same one owner (not (is_alter call)) (Repeated owner) right) stands
  was_within (Repeated one) owner false kept call n x right stands = subst (λ (o : Option Owner). Within n o x) (if_same_plain one owner (Begun owner) right) stands
  was_within (Begun one) owner false kept call n x right stands = subst (λ (o : Option Owner). Within n o x) (if_same_plain one owner (Begun owner) right) stands
  was_within stage owner replay kept call n x right stands = absurd (let none : ⊥ = cc in none)

  pub now_within : (stage : Stage) (owner : Option Owner) (replay : Bool) (kept : List Draw) (call : Call) (n : ℕ) (x : A) → is_right (next_stage stage owner (up.Call replay kept call)) ≡ true → Within n owner x → StandsAt (next_stage stage owner (up.Call replay kept call)) n x
  now_within (Repeated one) owner true kept call n x right within = if_stands (same_owners one owner && not (is_alter call)) (Repeated owner) n x right within
  now_within (Repeated one) owner false kept call n x right within = if_stands (same_owners one owner) (Begun owner) n x right within
  now_within (Begun one) owner false kept call n x right within = if_stands (same_owners one owner) (Begun owner) n x right within
  now_within stage owner replay kept call n x right within = absurd (let none : ⊥ = cc in none)
