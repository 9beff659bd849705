-- What is read off the sessions and the items of all connections stays, but where a frame is
-- served.
use Rattle.std.proofs.Common.{◌≡◌, refl, ◌∙◌, Bool, true, false, ℕ, suc, zero, List, [], ◌∷◌, ◌++◌, map, fold, Option, Some, None, if◌then◌else◌}
use Rattle.std.specs.Prelude.{slice_get, slice_set, unwrap_or}
use Rattle.std.specs.Option.{option_map_or}
use Rattle.client_model.specs.declared.input.Input.{Input}
use Rattle.client_model.specs.declared.input.Input.TheVariants.{Waiting, Lent, Opened, TryFailed, Took, Gone}
use Rattle.pool_core.specs.meaning.Slots.{after_take}
use Rattle.world_model.specs.meaning.Settings.{Setting}
use Rattle.world_model.specs.meaning.Frames.{Sent}
use Rattle.world_model.specs.meaning.Links.{Link, new_link, link_at, with_link, changed, sends, takes}
use Rattle.world_model.specs.meaning.Clients.{Doing, doing_at, heard}
use Rattle.world_model.specs.meaning.Acting.{steps, act_at, sent_by, owner_at, call_in, frames_of, connection_of}
use Rattle.world_model.specs.meaning.Machines.{Machine}
use Rattle.world_model.specs.meaning.Going.{lost_at_once}
use Rattle.world_model.specs.meaning.Cutting.{cut_link}
use Rattle.world_model.proofs.basic.Ends.{sends_alike, cut_case}
use Rattle.world_model.proofs.events.Moves.{with_pool, with_new, next_number, takes_one, Goes, Rests, Waits, Lends, Opens, Fails, Takes, Loses}

-- of the same session, with the same items
pub record IsAlike (a b : Link) : Type 0 where
  pub session : b.session ≡ a.session
  pub served : b.served ≡ a.served

pub sends_as : (event : ℕ) (frames : List Sent) (link : Link) → IsAlike link (sends event frames link)
sends_as event frames link = sends_alike (IsAlike link) event frames link (record { session = refl; served = refl }) (record { session = refl; served = refl })

pub cut_as : (event up down : ℕ) (link : Link) → link.is_open ≡ true → IsAlike link (cut_link event up down link)
cut_as event up down link opens = cut_case (IsAlike link) event up down link opens (record { session = refl; served = refl })

module _ {X : Type 0} (view : List Link → X) (stays : (links : List Link) (index : ℕ) (old new : Link) → slice_get links index ≡ Some old → IsAlike old new → view (slice_set links index new) ≡ view links)
    (grows : (links : List Link) → view (links ++ new_link ∷ []) ≡ view links) where
  pub view_with : (links : List Link) (number : ℕ) (old new : Link) → link_at links number ≡ Some old → IsAlike old new → view (with_link links number new) ≡ view links
  view_with links zero old new is alike = refl
  view_with links (suc index) old new is alike = stays links index old new is alike

  found_changed : (change : Link → Link) (links : List Link) (number : ℕ) (found : Option Link) → link_at links number ≡ found → ((link : Link) → IsAlike link (change link))
      → view (option_map_or (λ link. with_link links number (change link)) found links) ≡ view links
  found_changed change links number None is alike = refl
  found_changed change links number (Some link) is alike = view_with links number link (change link) is (alike link)

  pub view_changed : (change : Link → Link) (links : List Link) (number : ℕ) → ((link : Link) → IsAlike link (change link)) → view (changed change links number) ≡ view links
  view_changed change links number alike = found_changed change links number (link_at links number) refl alike

  pub view_each : (change : Link → Link) (links : List Link) (numbers : List ℕ) → ((link : Link) → IsAlike link (change link)) → view (fold (changed change) links numbers) ≡ view links
  view_each change links [] alike = refl
  view_each change links (number ∷ numbers) alike = view_each change (changed change links number) numbers alike ∙ view_changed change links number alike

  view_steps : (setting : Setting) (a : Machine) (number : ℕ) (doing : Doing) (holds_slot : Bool) (input : Input) → view (steps setting a number doing holds_slot input).links ≡ view a.links
  view_steps setting a number doing holds_slot input =
      let after : Doing = heard setting.terms a.event a.tick doing input in
      let frames : List Sent = map (sent_by (owner_at a number) (call_in after.talk.phase)) (frames_of a.pool (connection_of after) (act_at setting a doing input)) in
      view_changed (sends a.event frames) a.links (connection_of after) (sends_as a.event frames)

  view_lost : (setting : Setting) (a : Machine) (number : ℕ) (ended : Option ℕ) (doing : Option Doing) → view (lost_at_once setting a number ended doing).links ≡ view a.links
  view_lost setting a number ended None = refl
  view_lost setting a number ended (Some doing) = view_steps setting a number (record doing { connection = None }) true (Gone (unwrap_or ended 0))

  view_unless : (setting : Setting) (a : Machine) (number : ℕ) (ended : Option ℕ) (doing : Option Doing) (is_open : Bool) → view (if is_open then a else lost_at_once setting a number ended doing).links ≡ view a.links
  view_unless setting a number ended doing true = refl
  view_unless setting a number ended doing false = view_lost setting a number ended doing

  pub view_goes : (setting : Setting) (m : Machine) (number : ℕ) (n : Machine) → Goes setting m number n → view n.links ≡ view m.links
  view_goes setting m number _ Rests = refl
  view_goes setting m number _ (Waits doing is_doing answer) = view_steps setting (with_pool m (after_take m.pool number)) number doing false Waiting
  view_goes setting m number _ (Lends doing connection link ltxid is_doing answer there held) =
      view_steps setting (with_pool m (after_take m.pool number)) number (record doing { connection = Some connection }) true (Lent connection ltxid)
  view_goes setting m number _ (Opens doing wanted pool is_doing tries up) =
      view_steps setting (with_new m pool) number (record doing { connection = Some (next_number m) }) true (Opened (next_number m)) ∙ grows m.links
  view_goes setting m number _ (Fails doing wanted pool is_doing tries down) = view_steps setting (with_pool m pool) number doing true TryFailed
  view_goes setting m number _ (Takes doing connection link reply left is_doing on down) =
      let input : Input = Took reply.frame link.is_open in
      let taken : Link = takes input reply left link in
      let a : Machine = takes_one setting m number doing connection link reply left in
      view_unless setting a number link.ended (doing_at a.clients number) link.is_open
      ∙ (view_steps setting (record m { links = with_link m.links connection taken }) number doing true input ∙ view_with m.links connection link taken on.there (record { session = refl; served = refl }))
  view_goes setting m number _ (Loses doing connection link is_doing on none closed) = view_steps setting m number (record doing { connection = None }) true (Gone (unwrap_or link.ended 0))
