-- When two frames, or two tagged frames, are the same one; fronts of lists.
use Rattle.std.specs.Prelude.{ℕ, ◌==◌, ◌&&◌, Bool, true, false, nat_le, List, [], ◌∷◌, Option, Some, None}
use Rattle.svc_values.specs.declared.frame.Ahead.{Ahead}
use Rattle.svc_values.specs.declared.frame.Ahead.TheVariants as ahead
use Rattle.svc_values.specs.declared.frame.Up.{Up}
use Rattle.svc_values.specs.declared.frame.Up.TheVariants as up
use Rattle.svc_values.specs.declared.frame.Down.{Down}
use Rattle.svc_values.specs.declared.frame.Down.TheVariants as down
use Rattle.svc_values.specs.meaning.SettingsList.{same_settings}
use Rattle.svc_values.specs.meaning.Identifiers.{same_ltxid}
use Rattle.svc_values.specs.meaning.Same.{same_answers, same_bool, same_call, same_draws}
use Rattle.world_model.specs.meaning.Frames.{Owner, Sent, Reply}

abbrev pub same_owner : Owner → Owner → Bool
same_owner a b = (a.client == b.client) && (a.place == b.place)

abbrev pub is_of : Owner → Option Owner → Bool
is_of owner None = false
is_of owner (Some other) = same_owner owner other

abbrev pub owned_by : Owner → Sent → Bool
owned_by owner sent = is_of owner sent.owner

abbrev pub same_owners : Option Owner → Option Owner → Bool
same_owners None None = true
same_owners (Some a) (Some b) = same_owner a b
same_owners _ _ = false

abbrev pub same_up : Up → Up → Bool
same_up up.Connect up.Connect = true
same_up (up.Begin a) (up.Begin b) = same_settings a b
same_up (up.Call r k c) (up.Call s l d) = same_bool r s && (same_draws k l && same_call c d)
same_up (up.Outcome x) (up.Outcome y) = same_ltxid x y
same_up up.End up.End = true
same_up up.Close up.Close = true
same_up _ _ = false

abbrev pub same_ahead : Ahead → Ahead → Bool
same_ahead ahead.Server ahead.Server = true
same_ahead ahead.Client ahead.Client = true
same_ahead ahead.Forgotten ahead.Forgotten = true
same_ahead _ _ = false

abbrev pub same_down : Down → Down → Bool
same_down (down.Hello x) (down.Hello y) = same_ltxid x y
same_down (down.Reply a d x) (down.Reply b e y) =
    same_answers a b && (same_draws d e && same_ltxid x y)
same_down (down.OutcomeIs a b) (down.OutcomeIs c d) = same_bool a c && same_bool b d
same_down (down.OutcomeRefused w n) (down.OutcomeRefused v m) = same_ahead w v && (n == m)
same_down down.Blocked down.Blocked = true
same_down (down.Refused a) (down.Refused b) = a == b
same_down _ _ = false

abbrev pub same_sent : Sent → Sent → Bool
same_sent a b = same_owners a.owner b.owner && ((a.call == b.call) && same_up a.frame b.frame)

abbrev pub same_reply : Reply → Reply → Bool
same_reply a b = same_sent a.to b.to && same_down a.frame b.frame

-- the second list begins with the first
abbrev pub is_front : {A : Type 0} → (A → A → Bool) → List A → List A → Bool
is_front same [] ys = true
is_front same (x ∷ xs) [] = false
is_front same (x ∷ xs) (y ∷ ys) = same x y && is_front same xs ys

abbrev pub all_with : {A : Type 0} → (A → Bool) → List A → Bool
all_with test [] = true
all_with test (x ∷ xs) = test x && all_with test xs

-- each of the list is in this relation to each later one
abbrev pub each_pair : {A : Type 0} → (A → A → Bool) → List A → Bool
each_pair test [] = true
each_pair test (x ∷ xs) = all_with (test x) xs && each_pair test xs

-- numbers rise, or stand
abbrev pub rise : List ℕ → Bool
rise numbers = each_pair nat_le numbers
