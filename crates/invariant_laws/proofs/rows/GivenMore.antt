-- Calls that were shown are from items, or from outcomes, behind an event too.
use Rattle.std.proofs.Common.{◌≡◌, refl, sym, subst, ◌∙◌, Bool, true, false, ℕ, ◌+◌, ◌&&◌, length, List, [], ◌∷◌, ◌++◌, Option, Some, None, ⊎_elim, arith}
use Rattle.std.specs.Prelude.{◌==◌, slice_get}
use Rattle.std.specs.List.{list_any}
use Rattle.std.specs.Option.{option_map_or}
use Rattle.std.proofs.lemmas.Bool.{and_parts, and_from, or_right, or_cases, or_left}
use Rattle.std.proofs.lemmas.List.Folds.{list_any-append}
use Rattle.svc_values.specs.declared.call.Call.{Call}
use Rattle.svc_values.specs.meaning.Calls.{is_lone_commit}
use Rattle.outage_schedule.specs.declared.request.ShownCall.{ShownCall}
use Rattle.world_model.specs.meaning.Frames.{Owner, Handled}
use Rattle.world_model.specs.meaning.Links.{Link, link_at}
use Rattle.world_model.specs.Sames.{owned_by}
use Rattle.invariant_laws.specs.Shown.{is_shown_item, link_shows, is_from, all_from, shows_commit}
use Rattle.world_model.specs.Traced.{Traced, Course}
use Rattle.world_model.specs.Words.{held_in}
use Rattle.world_model.proofs.Offered.{any_goes}
use Rattle.invariant_laws.proofs.history.ServedGrows.{IsLonger}

-- an item of this request on a connection
abbrev pub shows_by : Owner → List Link → ℕ → Call → ShownCall → ℕ → Bool
shows_by owner links index call shown number = option_map_or (λ link. list_any (λ (one : Handled). owned_by owner one.sent && ((one.sent.call == index) && is_shown_item call shown one.served.item)) link.served) (link_at links number) false

module _ (old new : Traced) (longer : (number : ℕ) (link : Link) → link_at old.machine.links number ≡ Some link → IsLonger new.machine.links number link) where
  still_shows : (owner : Owner) (index : ℕ) (call : Call) (shown : ShownCall) (number : ℕ) → shows_by owner old.machine.links index call shown number ≡ true → shows_by owner new.machine.links index call shown number ≡ true
  still_shows owner index call shown number is = by (link_at old.machine.links number) refl is
    where
      among : Link → Bool
      among link = list_any (λ (one : Handled). owned_by owner one.sent && ((one.sent.call == index) && is_shown_item call shown one.served.item)) link.served

      by : (found : Option Link) → link_at old.machine.links number ≡ found
          → option_map_or (λ link. list_any (λ (one : Handled). owned_by owner one.sent && ((one.sent.call == index) && is_shown_item call shown one.served.item)) link.served) found false ≡ true → shows_by owner new.machine.links index call shown number ≡ true
      by None at here = absurd (let none : ⊥ = cc in none)
      by (Some link) at here =
          let next = longer number link at in
          subst (λ (found : Option Link). option_map_or (λ l. list_any (λ (one : Handled). owned_by owner one.sent && ((one.sent.call == index) && is_shown_item call shown one.served.item)) l.served) found false ≡ true) (sym next.there)
          (next.all (λ (one : Handled). owned_by owner one.sent && ((one.sent.call == index) && is_shown_item call shown one.served.item)) here)

  module _ (c d : Course) (owner : d.owner ≡ c.owner) (held : List ℕ) (held_are : held_in d.steps ≡ held_in c.steps ++ held) (before after : Bool) (told : before ≡ true → after ≡ true) (request : d.request.calls ≡ c.request.calls) where
    one_more : (index : ℕ) (call : Option Call) (shown : ShownCall) → is_from before old c index call shown ≡ true → is_from after new d index call shown ≡ true
    one_more index None shown is = is
    one_more index (Some call) shown is =
        ⊎_elim
        (λ item. or_left (list_any (link_shows new d index call shown) (held_in d.steps)) (is_lone_commit call && (shows_commit shown && after))
        (subst (λ (numbers : List ℕ). list_any (link_shows new d index call shown) numbers ≡ true) (sym held_are)
        (list_any-append (link_shows new d index call shown) (held_in c.steps) held
        ∙ or_left (list_any (link_shows new d index call shown) (held_in c.steps)) (list_any (link_shows new d index call shown) held)
        (any_goes (link_shows old c index call shown) (link_shows new d index call shown)
        (λ number here. subst (λ (o : Owner). shows_by o new.machine.links index call shown number ≡ true) (sym owner) (still_shows c.owner index call shown number here)) (held_in c.steps) item))))
        (λ lone.
        let one = and_parts (is_lone_commit call) (shows_commit shown && before) lone in
        let two = and_parts (shows_commit shown) before one.1 in
        or_right (list_any (link_shows new d index call shown) (held_in d.steps)) (is_lone_commit call && (shows_commit shown && after))
        (and_from (is_lone_commit call) (shows_commit shown && after) one.0 (and_from (shows_commit shown) after two.0 (told two.1))))
        (or_cases (list_any (link_shows old c index call shown) (held_in c.steps)) (is_lone_commit call && (shows_commit shown && before)) is)

    pub all_more : (index : ℕ) (shown : List ShownCall) → all_from before old c index shown ≡ true → all_from after new d index shown ≡ true
    all_more index [] all = refl
    all_more index (one ∷ shown) all =
        let parts = and_parts (is_from before old c index (slice_get c.request.calls index) one) (all_from before old c (index + 1) shown) all in
        and_from (is_from after new d index (slice_get d.request.calls index) one) (all_from after new d (index + 1) shown)
        (subst (λ (calls : List Call). is_from after new d index (slice_get calls index) one ≡ true) (sym request) (one_more index (slice_get c.request.calls index) one parts.0)) (all_more (index + 1) shown parts.1)

-- one call more
pub all_push : (completed : Bool) (t : Traced) (d : Course) (index place : ℕ) (shown : List ShownCall) (one : ShownCall) → place ≡ index + length shown → all_from completed t d index shown ≡ true
    → is_from completed t d place (slice_get d.request.calls place) one ≡ true → all_from completed t d index (shown ++ one ∷ []) ≡ true
all_push completed t d index place [] one same all here =
    let at : place ≡ index = omega arith in
    and_from (is_from completed t d index (slice_get d.request.calls index) one) true (subst (λ (k : ℕ). is_from completed t d k (slice_get d.request.calls k) one ≡ true) at here) refl
all_push completed t d index place (first ∷ shown) one same all here =
    let parts = and_parts (is_from completed t d index (slice_get d.request.calls index) first) (all_from completed t d (index + 1) shown) all in
    let further : place ≡ (index + 1) + length shown = omega arith in
    and_from (is_from completed t d index (slice_get d.request.calls index) first) (all_from completed t d (index + 1) (shown ++ one ∷ [])) parts.0 (all_push completed t d (index + 1) place shown one further parts.1 here)

-- as far as one test, or another one that holds where it does
pub all_weaker : (before after : Bool) (t : Traced) (d : Course) → (before ≡ true → after ≡ true) → (index : ℕ) (shown : List ShownCall) → all_from before t d index shown ≡ true → all_from after t d index shown ≡ true
all_weaker before after t d told index [] all = refl
all_weaker before after t d told index (one ∷ shown) all =
    let parts = and_parts (is_from before t d index (slice_get d.request.calls index) one) (all_from before t d (index + 1) shown) all in
    and_from (is_from after t d index (slice_get d.request.calls index) one) (all_from after t d (index + 1) shown) (by (slice_get d.request.calls index) parts.0) (all_weaker before after t d told (index + 1) shown parts.1)
  where
    lone : (a b : Bool) → (a && (b && before)) ≡ true → (a && (b && after)) ≡ true
    lone a b is = let first = and_parts a (b && before) is in let second = and_parts b before first.1 in and_from a (b && after) first.0 (and_from b after second.0 (told second.1))

    by : (call : Option Call) → is_from before t d index call one ≡ true → is_from after t d index call one ≡ true
    by None is = is
    by (Some call) is =
        ⊎_elim (λ item. or_left (list_any (link_shows t d index call one) (held_in d.steps)) (is_lone_commit call && (shows_commit one && after)) item)
        (λ other. or_right (list_any (link_shows t d index call one) (held_in d.steps)) (is_lone_commit call && (shows_commit one && after)) (lone (is_lone_commit call) (shows_commit one) other))
        (or_cases (list_any (link_shows t d index call one) (held_in d.steps)) (is_lone_commit call && (shows_commit one && before)) is)
