-- What was served on each connection stays in every event that serves nothing there.
use Rattle.std.proofs.Common.{◌≡◌, ◌≢◌, refl, sym, ap, ◌∙◌, Bool, true, false, ℕ, ◌+◌, length, List, [], ◌∷◌, ◌++◌, map, fold, Option, Some, None, option_map, ◌⊎◌, inl, inr, if◌then◌else◌}
use Rattle.std.specs.Prelude.{unwrap_or}
use Rattle.std.specs.List.{list_any}
use Rattle.pool_core.specs.meaning.Slots.{after_take}
use Rattle.client_model.specs.declared.input.Input.{Input}
use Rattle.client_model.specs.declared.input.Input.TheVariants.{Waiting, Lent, Opened, TryFailed, Took, Gone}
use Rattle.outage_schedule.specs.declared.note.GoNote.{GoNote}
use Rattle.world_model.specs.meaning.Acting.{act_at, call_in, connection_of, frames_of, loses, owner_at, sent_by, steps}
use Rattle.world_model.specs.meaning.Clients.{Doing, doing_at, heard}
use Rattle.world_model.specs.meaning.Crashing.{fallen_link}
use Rattle.world_model.specs.meaning.Cutting.{cut_link, reaped_link}
use Rattle.world_model.specs.meaning.Frames.{Sent, Handled}
use Rattle.world_model.specs.meaning.Going.{lost_at_once, unless_open}
use Rattle.world_model.specs.meaning.Links.{Link, new_link, link_at, with_link, changed, is_close, ends, sends, takes}
use Rattle.world_model.specs.meaning.Machines.{Machine}
use Rattle.world_model.specs.meaning.Outside.{closed_by_drain}
use Rattle.world_model.specs.meaning.Settings.{Setting}
use Rattle.shown_laws.specs.TurnsServed.{served_in}
use Rattle.shown_laws.proofs.events.GoNotes.{GoesAs, Idles, Rests, Waits, Lends, Opens, Fails, Takes, Loses, next_number, taking, with_new, with_pool}
use Rattle.shown_laws.proofs.links.LinksSame.{SameRead, one_same, with_same, each_same, drained_same}
use Rattle.shown_laws.proofs.events.Lookups.{either, new_own, new_other, none_new}

abbrev pub all_at : ℕ → List Link → List Handled
all_at number links = served_in (link_at links number)

abbrev pub SameServed : List Link → List Link → Type 0
SameServed links news = SameRead served_in links news

abbrev pub KeepsServed : (Link → Link) → Type 0
KeepsServed change = (link : Link) → (change link).served ≡ link.served

-- ONE CHANGES, OR ALL -----------------------------------------------------------------------------

if_there : (change : Link → Link) → KeepsServed change → (found : Option Link) → served_in (option_map change found) ≡ served_in found
if_there change keeps None = refl
if_there change keeps (Some link) = keeps link

pub one_changed : (change : Link → Link) → KeepsServed change → (links : List Link) (number : ℕ) → SameServed links (changed change links number)
one_changed change keeps = one_same served_in change (if_there change keeps)

pub with_one : (links : List Link) (number : ℕ) (old new : Link) → link_at links number ≡ Some old → new.served ≡ old.served → SameServed links (with_link links number new)
with_one links number old new there kept = with_same served_in links number old new there kept

pub each_changed : (change : Link → Link) → KeepsServed change → (links : List Link) → SameServed links (map change links)
each_changed change keeps = each_same served_in change (if_there change keeps)

-- nothing was served on a new one
pub new_served : (links : List Link) → SameServed links (links ++ new_link ∷ [])
new_served links number = by (either number (length links + 1))
  where
    by : (number ≡ length links + 1) ⊎ (number ≢ length links + 1) → all_at number (links ++ new_link ∷ []) ≡ all_at number links
    by (inl same) =
        ap (λ (n : ℕ). all_at n (links ++ new_link ∷ [])) same
        ∙ (ap served_in (new_own links new_link) ∙ (ap served_in (sym (none_new links)) ∙ ap (λ (n : ℕ). all_at n links) (sym same)))
    by (inr differ) = ap served_in (new_other links new_link number differ)

-- WHAT KEEPS IT -----------------------------------------------------------------------------------

pub ends_served : (event : ℕ) → KeepsServed (ends event)
ends_served event link = by link.is_open
  where
    by : (opens : Bool) → (if opens then record link { is_open = false; ended = Some event } else link).served ≡ link.served
    by true = refl
    by false = refl

sends_served : (event : ℕ) (frames : List Sent) → KeepsServed (sends event frames)
sends_served event frames link = by (list_any (λ sent. is_close sent.frame) frames)
  where
    sending : Link
    sending = record link { sent = link.sent ++ frames; up = link.up ++ frames }

    by : (closes : Bool) → (if closes then ends event (record link { sent = link.sent ++ frames; up = link.up ++ frames }) else record link { sent = link.sent ++ frames; up = link.up ++ frames }).served ≡ link.served
    by true = ends_served event (record link { sent = link.sent ++ frames; up = link.up ++ frames })
    by false = refl

pub cut_served : (event up down : ℕ) → KeepsServed (cut_link event up down)
cut_served event up down link = ends_served event link

pub fallen_served : (event : ℕ) → KeepsServed (fallen_link event)
fallen_served event link = ends_served event link

pub reaped_served : KeepsServed reaped_link
reaped_served link = refl

pub drained_served : (event : ℕ) (numbers : List ℕ) (links : List Link) → SameServed links (fold (changed (sends event (closed_by_drain ∷ []))) links numbers)
drained_served event = drained_same served_in event (if_there (sends event (closed_by_drain ∷ [])) (sends_served event (closed_by_drain ∷ [])))

-- A STEP OF A CLIENT ------------------------------------------------------------------------------

module _ (setting : Setting) where
  steps_served : (a : Machine) (client : ℕ) (doing : Doing) (slot : Bool) (input : Input) → SameServed a.links (steps setting a client doing slot input).links
  steps_served a client doing slot input other =
      let after : Doing = heard setting.terms a.event a.tick doing input in
      let frames : List Sent = map (sent_by (owner_at a client) (call_in after.talk.phase)) (frames_of a.pool (connection_of after) (act_at setting a doing input)) in
      one_changed (sends a.event frames) (sends_served a.event frames) a.links (connection_of after) other

  lost_served : (a : Machine) (client : ℕ) (doing : Doing) (ended : Option ℕ) → SameServed a.links (loses setting a client doing ended).links
  lost_served a client doing ended other = steps_served a client (record doing { connection = None }) true (Gone (unwrap_or ended 0)) other

  at_once_served : (a : Machine) (client : ℕ) (ended : Option ℕ) (doing : Option Doing) → SameServed a.links (lost_at_once setting a client ended doing).links
  at_once_served a client ended None other = refl
  at_once_served a client ended (Some doing) other = lost_served a client doing ended other

  unless_served : (a : Machine) (client : ℕ) (link : Link) → SameServed a.links (unless_open setting a client link).links
  unless_served a client link other = by link.is_open
    where
      by : (opens : Bool) → all_at other (if opens then a else lost_at_once setting a client link.ended (doing_at a.clients client)).links ≡ all_at other a.links
      by true = refl
      by false = at_once_served a client link.ended (doing_at a.clients client) other

  pub goes_served : (m : Machine) (client : ℕ) (did : GoNote) (n : Machine) → GoesAs setting m client did n → SameServed m.links n.links
  goes_served m client _ _ Idles other = refl
  goes_served m client _ _ (Rests doing wanted did is rest) other = refl
  goes_served m client _ _ (Waits doing is answer) other = steps_served (with_pool m (after_take m.pool client)) client doing false Waiting other
  goes_served m client _ _ (Lends doing connection link ltxid is answer there held) other = steps_served (with_pool m (after_take m.pool client)) client (record doing { connection = Some connection }) true (Lent connection ltxid) other
  goes_served m client _ _ (Opens doing wanted pool is tries) other =
      steps_served (with_new m pool) client (record doing { connection = Some (next_number m) }) true (Opened (next_number m)) other ∙ new_served m.links other
  goes_served m client _ _ (Fails doing wanted pool is tries) other = steps_served (with_pool m pool) client doing true TryFailed other
  goes_served m client _ _ (Takes doing connection sent link reply left is has there down frames) other =
      unless_served (steps setting (taking m connection link reply left) client doing true (Took reply.frame link.is_open)) client link other
      ∙ (steps_served (taking m connection link reply left) client doing true (Took reply.frame link.is_open) other
      ∙ with_one m.links connection link (takes (Took reply.frame link.is_open) reply left link) there refl other)
  goes_served m client _ _ (Loses doing connection link is has there down shut) other = lost_served m client doing link.ended other
