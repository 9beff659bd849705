-- Who sent last on each connection, and the identifier that was taken last there, stay in every
-- event but a step of a client.
use Rattle.std.proofs.Common.{◌≡◌, refl, ap, ◌∙◌, Bool, true, false, ℕ, List, [], ◌∷◌, ◌++◌, map, fold, Option, Some, None, option_map, if◌then◌else◌}
use Rattle.std.specs.List.{list_any}
use Rattle.svc_values.specs.declared.frame.Down.{Down}
use Rattle.svc_values.specs.declared.frame.Up.{Up}
use Rattle.outage_schedule.specs.declared.item.Served.{Served}
use Rattle.world_model.specs.meaning.Acting.{sent_by}
use Rattle.world_model.specs.meaning.Crashing.{fallen_link}
use Rattle.world_model.specs.meaning.Cutting.{cut_link, reaped_link}
use Rattle.world_model.specs.meaning.Frames.{Owner, Sent}
use Rattle.world_model.specs.meaning.Links.{Link, link_at, with_link, changed, is_close, ends, sends}
use Rattle.world_model.specs.meaning.Outside.{closed_by_drain}
use Rattle.world_model.specs.meaning.Serving.{Front, is_blocked, reply_of, commits_after, after_front, handled}
use Rattle.invariant_laws.specs.UnservedBegins.{last_owner}
use Rattle.invariant_laws.proofs.Offered.{moves, last_more, stays_own}
use Rattle.shown_laws.specs.TurnOwners.{said_of}
use Rattle.shown_laws.proofs.links.LinksSame.{SameRead, one_same, with_same, each_same, drained_same}

-- WHO SENT LAST -----------------------------------------------------------------------------------

abbrev pub last_after : Option Owner → List Sent → Option Owner
last_after found sents = fold moves found sents

-- where something is said
pub record Speech (frames : List Up) : Type 0 where
  pub first : Up
  pub rest : List Up
  pub is : frames ≡ first ∷ rest

pub last_said : (owner : Owner) (call : ℕ) (found : Option Owner) (frames : List Up) → Speech frames → last_after found (map (sent_by owner call) frames) ≡ Some owner
last_said owner call found frames speech = ap (λ (said : List Up). last_after found (map (sent_by owner call) said)) speech.is ∙ stays_own owner call speech.rest

-- ONE CONNECTION ----------------------------------------------------------------------------------

abbrev pub KeepsSaid : (Link → Link) → Type 0
KeepsSaid change = (link : Link) → said_of (change link) ≡ said_of link

pub ends_said : (event : ℕ) → KeepsSaid (ends event)
ends_said event link = by link.is_open
  where
    by : (opens : Bool) → said_of (if opens then record link { is_open = false; ended = Some event } else link) ≡ said_of link
    by true = refl
    by false = refl

-- what is said comes behind what was
pub sends_said : (event : ℕ) (frames : List Sent) (link : Link) → said_of (sends event frames link) ≡ record { last = last_after (last_owner link.sent) frames; held = link.held }
sends_said event frames link = by (list_any (λ sent. is_close sent.frame) frames) ∙ ap (λ (last : Option Owner). record { last = last; held = link.held }) (last_more link.sent frames)
  where
    by : (closes : Bool) → said_of (if closes then ends event (record link { sent = link.sent ++ frames; up = link.up ++ frames }) else record link { sent = link.sent ++ frames; up = link.up ++ frames }) ≡ record { last = last_owner (link.sent ++ frames); held = link.held }
    by true = ends_said event (record link { sent = link.sent ++ frames; up = link.up ++ frames })
    by false = refl

pub silent_said : (event : ℕ) (frames : List Sent) → frames ≡ [] → KeepsSaid (sends event frames)
silent_said event frames none link = sends_said event frames link ∙ ap (λ (said : List Sent). record { last = last_after (last_owner link.sent) said; held = link.held }) none

pub drain_said : (event : ℕ) → KeepsSaid (sends event (closed_by_drain ∷ []))
drain_said event link = sends_said event (closed_by_drain ∷ []) link

pub cut_said : (event up down : ℕ) → KeepsSaid (cut_link event up down)
cut_said event up down link = ends_said event link

pub fallen_said : (event : ℕ) → KeepsSaid (fallen_link event)
fallen_said event link = ends_said event link

pub reaped_said : KeepsSaid reaped_link
reaped_said link = refl

pub front_said : (front : Front) (served : Served) (reply : Option Down) → said_of (after_front front served reply) ≡ said_of front.link
front_said front served reply = refl

pub handled_said : (event : ℕ) (front : Front) (served : Served) → said_of (handled event front served) ≡ said_of front.link
handled_said event front served = by (is_blocked served.item)
  where
    by : (blocked : Bool)
        → said_of (if blocked then ends event (after_front front served (reply_of served.session (commits_after front.link served.item) served.item)) else after_front front served (reply_of served.session (commits_after front.link served.item) served.item)) ≡ said_of front.link
    by true = ends_said event (after_front front served (reply_of served.session (commits_after front.link served.item) served.item))
    by false = refl

-- ALL CONNECTIONS ---------------------------------------------------------------------------------

abbrev pub SameSaid : List Link → List Link → Type 0
SameSaid links news = SameRead (option_map said_of) links news

if_said : (change : Link → Link) → KeepsSaid change → (found : Option Link) → option_map said_of (option_map change found) ≡ option_map said_of found
if_said change keeps None = refl
if_said change keeps (Some link) = ap Some (keeps link)

pub one_said : (change : Link → Link) → KeepsSaid change → (links : List Link) (number : ℕ) → SameSaid links (changed change links number)
one_said change keeps = one_same (option_map said_of) change (if_said change keeps)

pub with_said : (links : List Link) (number : ℕ) (old new : Link) → link_at links number ≡ Some old → said_of new ≡ said_of old → SameSaid links (with_link links number new)
with_said links number old new there kept = with_same (option_map said_of) links number old new there (ap Some kept)

pub each_said : (change : Link → Link) → KeepsSaid change → (links : List Link) → SameSaid links (map change links)
each_said change keeps = each_same (option_map said_of) change (if_said change keeps)

pub drained_said : (event : ℕ) (numbers : List ℕ) (links : List Link) → SameSaid links (fold (changed (sends event (closed_by_drain ∷ []))) links numbers)
drained_said event = drained_same (option_map said_of) event (if_said (sends event (closed_by_drain ∷ [])) (drain_said event))
