-- What holds of the Begins that were sent on a connection holds of those that it served, so its
-- transactions start with the settings of their request.
use Rattle.std.proofs.Common.{◌≡◌, refl, ap, ◌∙◌, Bool, true, false, ℕ, ◌&&◌, List, [], ◌∷◌, map, Option, Some, None, if◌then◌else◌}
use Rattle.std.specs.Prelude.{◌==◌}
use Rattle.std.specs.List.{list_all}
use Rattle.std.specs.Option.{option_map_or}
use Rattle.std.proofs.lemmas.Bool.{and_parts, and_from}
use Rattle.svc_values.specs.declared.frame.Up.{Up}
use Rattle.svc_values.specs.declared.frame.Up.TheVariants as up
use Rattle.svc_values.specs.meaning.SettingsList.{NamedValues, same_settings}
use Rattle.outage_schedule.specs.declared.document.Request.{Request}
use Rattle.invariant_laws.specs.Begins.{are_followed, begin_in, begins_followed, carries_on, carries_settings, carry_settings, followed_at_once, follows_begin, is_begin_frame, next_on, session_stands, sessions_stand, settings_before, starts_rightly, transactions_start}
use Rattle.world_model.specs.meaning.Frames.{Owner, Sent}
use Rattle.world_model.specs.Orderly.{Orderly}
use Rattle.world_model.specs.meaning.Links.{Link}
use Rattle.world_model.specs.Parts.{implies}
use Rattle.invariant_laws.specs.Same.{ran_by, test_at}
use Rattle.world_model.specs.Sames.{is_front, is_of, owned_by, same_owners, same_sent, same_up}
use Rattle.invariant_laws.specs.Shown.{in_rows, is_call}
use Rattle.world_model.specs.Traced.{Traced, Course, courses_of}
use Rattle.world_model.specs.records.Wire.{New, is_sent_front}
use Rattle.world_model.specs.Words.{held_in}
use Rattle.world_model.proofs.Offered.{at_link, at_all, same_frames}
use Rattle.invariant_laws.proofs.Offered.{front_all, owners_are, calls_same, kept_settings_carries as carries, none_ran, settings_decide, begin_alike}
use Rattle.once_laws.proofs.calls.RanCalls.{call_same}
use Rattle.once_laws.proofs.calls.RanStarts.{IsKnown, all_known, follows_so}
use Rattle.once_laws.proofs.calls.ServedRows.{InRow, held_so}
use Rattle.once_laws.proofs.calls.ServedSent.{sent_front}

-- FRAMES THAT ARE THE SAME ------------------------------------------------------------------------

pub owner_same : (a b : Sent) → same_sent a b ≡ true → a.owner ≡ b.owner
owner_same a b same = owners_are a.owner b.owner (and_parts (same_owners a.owner b.owner) ((a.call == b.call) && same_up a.frame b.frame) same).0

settings_alike : (request : Request) (index : ℕ) (a b : Up) → same_up a b ≡ true → carries_settings request index b ≡ true → carries_settings request index a ≡ true
settings_alike request index (up.Begin x) (up.Begin y) same carry = ap (λ (settings : NamedValues). same_settings settings (settings_before request index)) ((settings_decide x y).0 same) ∙ carry
settings_alike request index up.Connect up.Connect same carry = refl
settings_alike request index (up.Call r k c) (up.Call s l d) same carry = refl
settings_alike request index (up.Outcome x) (up.Outcome y) same carry = refl
settings_alike request index up.End up.End same carry = refl
settings_alike request index up.Close up.Close same carry = refl
settings_alike request index a b same carry = absurd (let none : ⊥ = cc in none)

module _ (course : Course) where
  carries_alike : (a b : Sent) → same_sent a b ≡ true → carries course b ≡ true → carries course a ≡ true
  carries_alike a b same carry =
      ap (λ (owner : Option Owner). implies (is_of course.owner owner) (carries_settings course.request a.call a.frame)) (owner_same a b same)
      ∙ (ap (λ (call : ℕ). implies (owned_by course.owner b) (carries_settings course.request call a.frame)) (call_same course a b same) ∙ by (owned_by course.owner b) carry)
    where
      by : (own : Bool) → implies own (carries_settings course.request b.call b.frame) ≡ true → implies own (carries_settings course.request b.call a.frame) ≡ true
      by false carry = refl
      by true carry = settings_alike course.request b.call a.frame b.frame (same_frames a b same) carry

  -- the Begin before it, in each of two rows that are the same
  pub data IsAlike : Option Sent → Option Sent → Type 0 where
    Neither : IsAlike None None
    Both : (a b : Sent) → same_sent a b ≡ true → IsAlike (Some a) (Some b)

  begins_alike : (a b : Sent) → same_sent a b ≡ true → IsAlike (begin_in a) (begin_in b)
  begins_alike a b same = by (is_begin_frame a.frame) (is_begin_frame b.frame) (begin_alike a.frame b.frame (same_frames a b same)) refl refl
    where
      by : (one other : Bool) → one ≡ other → is_begin_frame a.frame ≡ one → is_begin_frame b.frame ≡ other → IsAlike (if one then Some a else None) (if other then Some b else None)
      by true true equal is also = Both a b same
      by false false equal is also = Neither
      by true false equal is also = absurd (let none : ⊥ = cc in none)
      by false true equal is also = absurd (let none : ⊥ = cc in none)

  follower_alike : (a b x z : Sent) → same_sent a b ≡ true → same_sent x z ≡ true → follows_begin b z ≡ true → follows_begin a x ≡ true
  follower_alike a b x z begin same follow =
      let one = and_parts (is_call z.frame) ((z.call == b.call) && same_owners b.owner z.owner) follow in
      let two = and_parts (z.call == b.call) (same_owners b.owner z.owner) one.1 in
      and_from (is_call x.frame) ((x.call == a.call) && same_owners a.owner x.owner) (calls_same x.frame z.frame (same_frames x z same) ∙ one.0)
      (and_from (x.call == a.call) (same_owners a.owner x.owner) (ap (λ (n : ℕ). n == a.call) (call_same course x z same) ∙ (ap (λ (n : ℕ). z.call == n) (call_same course a b begin) ∙ two.0))
      (ap (λ (owner : Option Owner). same_owners owner x.owner) (owner_same a b begin) ∙ (ap (same_owners b.owner) (owner_same x z same) ∙ two.1)))

  pub front_follows : (begin other : Option Sent) (xs zs : List Sent) → IsAlike begin other → is_front same_sent xs zs ≡ true → followed_at_once other zs ≡ true → follows_so begin xs ≡ true
  front_follows begin other [] zs alike front follow = refl
  front_follows begin other (x ∷ xs) [] alike front follow = absurd (let none : ⊥ = cc in none)
  front_follows begin other (x ∷ xs) (z ∷ zs) alike front follow =
      let parts = and_parts (same_sent x z) (is_front same_sent xs zs) front in
      let two = and_parts (option_map_or (λ one. follows_begin one z) other true) (followed_at_once (begin_in z) zs) follow in
      and_from (option_map_or (λ one. follows_begin one x) begin true) (follows_so (begin_in x) xs) (by alike two.0 parts.0)
      (front_follows (begin_in x) (begin_in z) xs zs (begins_alike x z parts.0) parts.1 two.1)
    where
      by : {one two : Option Sent} → IsAlike one two → option_map_or (λ b. follows_begin b z) two true ≡ true → same_sent x z ≡ true → option_map_or (λ b. follows_begin b x) one true ≡ true
      by Neither here same = refl
      by (Both a b begin) here same = follower_alike a b x z begin same here

  -- A CONNECTION ----------------------------------------------------------------------------------

  -- of all that it served
  pub carried_on : (link : Link) → is_sent_front link ≡ true → carries_on course link ≡ true → list_all (carries course) (map (λ one. one.sent) link.served) ≡ true
  carried_on link sent carry = front_all (carries course) carries_alike (map (λ one. one.sent) link.served) link.sent (sent_front link sent) carry

  pub followed_on : (link : Link) → is_sent_front link ≡ true → begins_followed link ≡ true → follows_so None (map (λ one. one.sent) link.served) ≡ true
  followed_on link sent follow = front_follows None None (map (λ one. one.sent) link.served) link.sent Neither (sent_front link sent) follow

  link_starts : (link : Link) → is_sent_front link ≡ true → InRow course link.served → carries_on course link ≡ true → begins_followed link ≡ true → IsKnown course (ran_by link) (next_on course link)
  link_starts link sent row carry follow =
      all_known course link.served New row.start none_ran None 0 None row.handled row.lone row.right row.row row.scripts (carried_on link sent carry) (followed_on link sent follow) (record { pieces = refl; next_is = refl }) refl

-- A RUN -------------------------------------------------------------------------------------------

-- a test of each connection that a request held, which holds of what is known
module _ (t : Traced) (inv : Orderly t) (rows : in_rows t ≡ true) (carry : carry_settings t ≡ true) (follow : are_followed t ≡ true) (test : Course → Link → Bool)
    (from : (course : Course) (link : Link) → IsKnown course (ran_by link) (next_on course link) → test course link ≡ true) where
  on_held : list_all (λ course. list_all (test_at t (test course)) (held_in course.steps)) (courses_of t) ≡ true
  on_held =
      held_so t inv rows test
      (λ index course number link at there row.
      from course link
      (link_starts course link (at_link is_sent_front t.machine.links number link inv.wire.sent there) row
      (at_link (carries_on course) t.machine.links number link (at_all (λ c. list_all (carries_on c) t.machine.links) (courses_of t) index course carry at) there) (at_link begins_followed t.machine.links number link follow there)))

pub starts_known : (t : Traced) → Orderly t → in_rows t ≡ true → carry_settings t ≡ true → are_followed t ≡ true → transactions_start t ≡ true
starts_known t inv rows carry follow = on_held t inv rows carry follow starts_rightly (λ course link is. is.known)

pub sessions_known : (t : Traced) → Orderly t → in_rows t ≡ true → carry_settings t ≡ true → are_followed t ≡ true → sessions_stand t ≡ true
sessions_known t inv rows carry follow = on_held t inv rows carry follow session_stands (λ course link is. is.stands)
