-- A reply that was shown is shown still where more calls are; and whose the replies are that were
-- taken on a connection.
use Rattle.std.proofs.Common.{◌≡◌, refl, sym, ap, subst, ◌∙◌, Bool, true, false, ℕ, ◌&&◌, List, [], ◌∷◌, ◌++◌, map, Option, Some, None}
use Rattle.std.specs.Prelude.{◌==◌, not, slice_get}
use Rattle.std.specs.List.{list_all}
use Rattle.std.specs.Option.{option_map_or}
use Rattle.std.proofs.lemmas.Bool.{and_parts, and_from, or_right}
use Rattle.svc_values.specs.declared.entry.Ltxid.{Ltxid}
use Rattle.svc_values.specs.declared.frame.Up.{Up}
use Rattle.svc_values.specs.declared.frame.Up.TheVariants as up
use Rattle.svc_values.specs.declared.frame.Down.{Down}
use Rattle.svc_values.specs.declared.frame.Down.TheVariants as down
use Rattle.svc_values.specs.meaning.Same.{same_bool}
use Rattle.outage_schedule.specs.declared.request.ShownCall.{ShownCall}
use Rattle.client_model.specs.meaning.States.{Living}
use Rattle.client_model.specs.meaning.Terms.{Phase, Greeting, Asked, Running, Replaying}
use Rattle.world_model.specs.meaning.Frames.{Owner, Sent, Reply}
use Rattle.world_model.specs.records.Hold.{is_awaited, is_ask, is_connect, is_call}
use Rattle.world_model.specs.meaning.Links.{Link}
use Rattle.world_model.specs.Parts.{implies, is_rep, is_unmarked, is_unmarked_frame}
use Rattle.world_model.specs.Sames.{is_of, owned_by, same_owners, same_sent, same_up}
use Rattle.once_laws.specs.Showing.{is_as_told, shows_reply, is_shown_reply, shows_taken}
use Rattle.world_model.specs.Traced.{Course}
use Rattle.world_model.specs.records.Wire.{is_answered_in_order, reps_of}
use Rattle.world_model.proofs.Offered.{filter_all, get_further, is_strange, eq_from}
use Rattle.invariant_laws.proofs.Offered.{front_all, owners_are}

-- MORE CALLS --------------------------------------------------------------------------------------

found_further : (test : ShownCall → Bool) (shown more : List ShownCall) (index : ℕ) → option_map_or test (slice_get shown index) false ≡ true → option_map_or test (slice_get (shown ++ more) index) false ≡ true
found_further test shown more index here = by (slice_get shown index) refl here
  where
    by : (found : Option ShownCall) → slice_get shown index ≡ found → option_map_or test found false ≡ true → option_map_or test (slice_get (shown ++ more) index) false ≡ true
    by None is here = absurd (let never : ⊥ = cc in never)
    by (Some one) is here = subst (λ (found : Option ShownCall). option_map_or test found false ≡ true) (sym (get_further shown more index one is)) here

-- where more calls are shown
reply_further : (shown more : List ShownCall) (index : ℕ) (frame : Up) (reply : Down) → shows_reply shown index frame reply ≡ true → shows_reply (shown ++ more) index frame reply ≡ true
reply_further shown more index (up.Call false kept call) (down.Reply answers draws x) here = found_further (is_as_told answers draws x) shown more index here
reply_further shown more index frame reply here = refl

pub still_shown : (c d : Course) (more : List ShownCall) → d.owner ≡ c.owner → d.report.calls ≡ c.report.calls ++ more → (reply : Reply) → is_shown_reply c reply ≡ true → is_shown_reply d reply ≡ true
still_shown c d more owner same reply here = by (owned_by c.owner reply.to) (ap (λ (o : Owner). owned_by o reply.to) owner) here
  where
    by : (mine : Bool) → owned_by d.owner reply.to ≡ mine → implies mine (shows_reply c.report.calls reply.to.call reply.to.frame reply.frame) ≡ true → is_shown_reply d reply ≡ true
    by false is here = ap (λ (b : Bool). implies b (shows_reply d.report.calls reply.to.call reply.to.frame reply.frame)) is
    by true is here =
        or_right (not (owned_by d.owner reply.to)) (shows_reply d.report.calls reply.to.call reply.to.frame reply.frame)
        (subst (λ (shown : List ShownCall). shows_reply shown reply.to.call reply.to.frame reply.frame ≡ true) (sym same) (reply_further c.report.calls more reply.to.call reply.to.frame reply.frame here))

-- STRANGERS ---------------------------------------------------------------------------------------

not_owned : (owner : Owner) (a b : Sent) → same_sent a b ≡ true → not (owned_by owner b) ≡ true → not (owned_by owner a) ≡ true
not_owned owner a b same is = ap (λ (o : Option Owner). not (is_of owner o)) (owners_are a.owner b.owner (and_parts (same_owners a.owner b.owner) ((a.call == b.call) && same_up a.frame b.frame) same).0) ∙ is

pub strange_shown : (course : Course) (reply : Reply) → not (owned_by course.owner reply.to) ≡ true → is_shown_reply course reply ≡ true
strange_shown course reply is = by (owned_by course.owner reply.to) is
  where
    by : (mine : Bool) → not mine ≡ true → implies mine (shows_reply course.report.calls reply.to.call reply.to.frame reply.frame) ≡ true
    by false is = refl
    by true is = absurd (let none : ⊥ = cc in none)

taken_strange : (course : Course) (taken : List Reply) → list_all (λ (sent : Sent). not (owned_by course.owner sent)) (map (λ (reply : Reply). reply.to) taken) ≡ true → list_all (is_shown_reply course) taken ≡ true
taken_strange course [] all = refl
taken_strange course (reply ∷ taken) all =
    let parts = and_parts (not (owned_by course.owner reply.to)) (list_all (λ (sent : Sent). not (owned_by course.owner sent)) (map (λ (one : Reply). one.to) taken)) all in
    and_from (is_shown_reply course reply) (list_all (is_shown_reply course) taken) (strange_shown course reply parts.0) (taken_strange course taken parts.1)

front_taken : (test : Reply → Bool) (taken later : List Reply) → list_all test (taken ++ later) ≡ true → list_all test taken ≡ true
front_taken test [] later all = refl
front_taken test (reply ∷ taken) later all = let parts = and_parts (test reply) (list_all test (taken ++ later)) all in and_from (test reply) (list_all test taken) parts.0 (front_taken test taken later parts.1)

-- a request took no reply on a connection on which it sent nothing
pub strange_taken : (course : Course) (link : Link) → is_strange course.owner link ≡ true → is_answered_in_order link ≡ true → shows_taken course link ≡ true
strange_taken course link strange order =
    front_taken (is_shown_reply course) link.taken link.down
    (taken_strange course (link.taken ++ link.down)
    (front_all (λ (sent : Sent). not (owned_by course.owner sent)) (λ a b same is. not_owned course.owner a b same is) (map (λ (reply : Reply). reply.to) (link.taken ++ link.down)) (reps_of link) order
    (filter_all (λ (sent : Sent). not (owned_by course.owner sent)) is_rep link.sent strange)))

-- THE PHASE ---------------------------------------------------------------------------------------

-- a call without the mark is waited for by a request that runs
pub runs_unmarked : (phase : Phase) (sent : Sent) → is_awaited phase sent ≡ true → is_unmarked sent ≡ true → (state : Living) × ((phase ≡ Running state) × (sent.call ≡ state.track.call))
runs_unmarked phase sent awaited unmarked = by phase sent.frame awaited unmarked
  where
    connects : {A : Type 0} (frame : Up) → is_connect frame ≡ true → is_unmarked_frame frame ≡ true → A
    connects up.Connect is so = absurd (let none : ⊥ = cc in none)
    connects frame is so = absurd (let none : ⊥ = cc in none)

    asks : {A : Type 0} (x : Ltxid) (frame : Up) → is_ask x frame ≡ true → is_unmarked_frame frame ≡ true → A
    asks x (up.Outcome y) is so = absurd (let none : ⊥ = cc in none)
    asks x frame is so = absurd (let none : ⊥ = cc in none)

    called : (index : ℕ) (frame : Up) → is_call false index sent frame ≡ true → is_unmarked_frame frame ≡ true → sent.call ≡ index
    called index (up.Call false kept call) is so = eq_from sent.call index (and_parts (same_bool false false) (sent.call == index) is).1
    called index frame is so = absurd (let none : ⊥ = cc in none)

    by : (phase : Phase) (frame : Up) → is_awaited phase (record sent { frame = frame }) ≡ true → is_unmarked_frame frame ≡ true → (state : Living) × ((phase ≡ Running state) × (sent.call ≡ state.track.call))
    by (Running state) frame awaited so = (state, (refl, called state.track.call frame awaited so))
    by (Greeting lost) frame awaited so = connects frame awaited so
    by (Asked asking) frame awaited so = asks asking.ltxid frame awaited so
    by (Replaying state) (up.Call false kept call) awaited so = absurd (let none : ⊥ = cc in none)
    by (Replaying state) frame awaited so = absurd (let none : ⊥ = cc in none)
    by phase frame awaited so = absurd (let none : ⊥ = cc in none)
