-- What holds of the frames that were sent on a connection holds of those that it served: they keep
-- to the grammar, and a request's calls among them are in a row and its script's.
use Rattle.std.proofs.Common.{◌≡◌, refl, sym, ap, subst, ◌∙◌, Bool, true, false, ℕ, ◌+◌, ◌&&◌, List, [], ◌∷◌, filter, fold, Option, if◌then◌else◌}
use Rattle.std.specs.Prelude.{◌==◌, slice_get}
use Rattle.std.specs.Option.{option_map_or}
use Rattle.std.proofs.lemmas.Bool.{and_parts, and_from}
use Rattle.svc_values.specs.declared.call.Call.{Call}
use Rattle.svc_values.specs.declared.draw.Draw.{Draw}
use Rattle.svc_values.specs.declared.frame.Up.{Up}
use Rattle.svc_values.specs.declared.frame.Up.TheVariants as up
use Rattle.svc_values.specs.meaning.Same.{same_bool, same_call, same_draws}
use Rattle.svc_values.specs.SameLaws.{same_bool_decides, same_call_decides}
use Rattle.world_model.specs.meaning.Frames.{Owner, Sent}
use Rattle.world_model.specs.Parts.{implies}
use Rattle.world_model.specs.Sames.{is_of, owned_by, same_owners, same_up, same_sent, is_front}
use Rattle.invariant_laws.specs.Shown.{in_row, is_call, is_scripts}
use Rattle.world_model.specs.Traced.{Course}
use Rattle.world_model.specs.records.Wire.{Stage, Greeted, Told, Repeated, Begun, Rested, Wrong, next_stage, is_right}
use Rattle.invariant_laws.proofs.Offered.{owners_are, calls_same}
use Rattle.world_model.proofs.Offered.{moved, same_frames, wrong_stays, eq_from, not_both}

-- THE GRAMMAR -------------------------------------------------------------------------------------

begin_moves : (stage : Stage) (owner : Option Owner) (a b : _) → next_stage stage owner (up.Begin a) ≡ next_stage stage owner (up.Begin b)
begin_moves (Greeted one) owner a b = refl
begin_moves (Told one) owner a b = refl
begin_moves (Rested one) owner a b = refl
begin_moves stage owner a b = refl

kept_moves : (stage : Stage) (owner : Option Owner) (replay : Bool) (a b : List Draw) (call : Call) → next_stage stage owner (up.Call replay a call) ≡ next_stage stage owner (up.Call replay b call)
kept_moves (Repeated one) owner true a b call = refl
kept_moves (Repeated one) owner false a b call = refl
kept_moves (Begun one) owner true a b call = refl
kept_moves (Begun one) owner false a b call = refl
kept_moves stage owner replay a b call = refl

-- frames that are the same lead to one stage
moves_alike : (stage : Stage) (owner : Option Owner) (a b : Up) → same_up a b ≡ true → next_stage stage owner a ≡ next_stage stage owner b
moves_alike stage owner up.Connect up.Connect same = refl
moves_alike stage owner (up.Begin a) (up.Begin b) same = begin_moves stage owner a b
moves_alike stage owner (up.Call r k c) (up.Call s l d) same =
    let parts = and_parts (same_bool r s) (same_draws k l && same_call c d) same in
    ap (λ (mark : Bool). next_stage stage owner (up.Call mark k c)) ((same_bool_decides r s).0 parts.0)
    ∙ (ap (λ (call : Call). next_stage stage owner (up.Call s k call)) ((same_call_decides c d).0 (and_parts (same_draws k l) (same_call c d) parts.1).1) ∙ kept_moves stage owner s k l d)
moves_alike stage owner (up.Outcome x) (up.Outcome y) same = outcome stage
  where
    outcome : (s : Stage) → next_stage s owner (up.Outcome x) ≡ next_stage s owner (up.Outcome y)
    outcome (Greeted one) = refl
    outcome s = refl
moves_alike stage owner up.End up.End same = refl
moves_alike stage owner up.Close up.Close same = refl
moves_alike stage owner a b same = absurd (let never : ⊥ = cc in never)

sent_moves : (stage : Stage) (a b : Sent) → same_sent a b ≡ true → moved stage a ≡ moved stage b
sent_moves stage a b same =
    ap (λ (owner : Option Owner). next_stage stage owner a.frame) (owners_are a.owner b.owner (and_parts (same_owners a.owner b.owner) ((a.call == b.call) && same_up a.frame b.frame) same).0)
    ∙ moves_alike stage b.owner a.frame b.frame (same_frames a b same)

pub was_right : (stage : Stage) (sents : List Sent) → is_right (fold moved stage sents) ≡ true → is_right stage ≡ true
was_right Wrong sents right = absurd (not_both (is_right (fold moved Wrong sents)) right (wrong_stays sents))
was_right stage sents right = refl

pub front_right : (stage : Stage) (xs zs : List Sent) → is_front same_sent xs zs ≡ true → is_right (fold moved stage zs) ≡ true → is_right (fold moved stage xs) ≡ true
front_right stage [] zs front right = was_right stage zs right
front_right stage (x ∷ xs) [] front right = absurd (let none : ⊥ = cc in none)
front_right stage (x ∷ xs) (z ∷ zs) front right =
    let parts = and_parts (same_sent x z) (is_front same_sent xs zs) front in
    front_right (moved stage x) xs zs parts.1 (subst (λ (s : Stage). is_right (fold moved s zs) ≡ true) (sym (sent_moves stage x z parts.0)) right)

-- A REQUEST'S CALLS -------------------------------------------------------------------------------

module _ (course : Course) where
  abbrev pub is_mine : Sent → Bool
  is_mine sent = owned_by course.owner sent && is_call sent.frame

  -- if it is a call of the request, it is the script's of its index
  abbrev pub follows : Sent → Bool
  follows sent = implies (is_mine sent) (is_scripts course sent sent.frame)

  pub mine_alike : (a b : Sent) → same_sent a b ≡ true → is_mine a ≡ is_mine b
  mine_alike a b same =
      ap (λ (owner : Option Owner). is_of course.owner owner && is_call a.frame) (owners_are a.owner b.owner (and_parts (same_owners a.owner b.owner) ((a.call == b.call) && same_up a.frame b.frame) same).0)
      ∙ ap (λ (test : Bool). owned_by course.owner b && test) (calls_same a.frame b.frame (same_frames a b same))

  pub call_same : (a b : Sent) → same_sent a b ≡ true → a.call ≡ b.call
  call_same a b same =
      eq_from a.call b.call (and_parts (a.call == b.call) (same_up a.frame b.frame) (and_parts (same_owners a.owner b.owner) ((a.call == b.call) && same_up a.frame b.frame) same).1).0

  scripts_alike : (a b : Sent) (x y : Up) → a.call ≡ b.call → same_up x y ≡ true → is_scripts course a x ≡ is_scripts course b y
  scripts_alike a b (up.Call r k c) (up.Call s l d) at same =
      ap (λ (index : ℕ). option_map_or (same_call c) (slice_get course.request.calls index) false) at
      ∙ ap (λ (call : Call). option_map_or (same_call call) (slice_get course.request.calls b.call) false)
      ((same_call_decides c d).0 (and_parts (same_draws k l) (same_call c d) (and_parts (same_bool r s) (same_draws k l && same_call c d) same).1).1)
  scripts_alike a b up.Connect up.Connect at same = refl
  scripts_alike a b (up.Begin x) (up.Begin y) at same = refl
  scripts_alike a b (up.Outcome x) (up.Outcome y) at same = refl
  scripts_alike a b up.End up.End at same = refl
  scripts_alike a b up.Close up.Close at same = refl
  scripts_alike a b x y at same = absurd (let never : ⊥ = cc in never)

  pub follows_alike : (a b : Sent) → same_sent a b ≡ true → follows b ≡ true → follows a ≡ true
  follows_alike a b same is =
      ap (λ (test : Bool). implies test (is_scripts course a a.frame)) (mine_alike a b same)
      ∙ (ap (implies (is_mine b)) (scripts_alike a b a.frame b.frame (call_same a b same) (same_frames a b same)) ∙ is)

  pub front_row : (n : ℕ) (xs zs : List Sent) → is_front same_sent xs zs ≡ true → in_row n (filter is_mine zs) ≡ true → in_row n (filter is_mine xs) ≡ true
  front_row n [] zs front row = refl
  front_row n (x ∷ xs) [] front row = absurd (let none : ⊥ = cc in none)
  front_row n (x ∷ xs) (z ∷ zs) front row = by (is_mine z) (mine_alike x z parts.0) row (front_row n xs zs parts.1) (front_row (n + 1) xs zs parts.1)
    where
      parts : (same_sent x z ≡ true) × (is_front same_sent xs zs ≡ true)
      parts = and_parts (same_sent x z) (is_front same_sent xs zs) front

      by : (mine : Bool) → is_mine x ≡ mine → in_row n (if mine then z ∷ filter is_mine zs else filter is_mine zs) ≡ true → (in_row n (filter is_mine zs) ≡ true → in_row n (filter is_mine xs) ≡ true)
          → (in_row (n + 1) (filter is_mine zs) ≡ true → in_row (n + 1) (filter is_mine xs) ≡ true) → in_row n (if is_mine x then x ∷ filter is_mine xs else filter is_mine xs) ≡ true
      by true is now here later =
          let both = and_parts (z.call == n) (in_row (n + 1) (filter is_mine zs)) now in
          ap (λ (mine : Bool). in_row n (if mine then x ∷ filter is_mine xs else filter is_mine xs)) is
          ∙ and_from (x.call == n) (in_row (n + 1) (filter is_mine xs)) (ap (λ (call : ℕ). call == n) (call_same x z parts.0) ∙ both.0) (later both.1)
      by false is now here later = ap (λ (mine : Bool). in_row n (if mine then x ∷ filter is_mine xs else filter is_mine xs)) is ∙ here now
