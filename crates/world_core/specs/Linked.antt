-- How a connection stands for one of the machine. What the machine remembers beside, as all that
-- was ever sent, no connection holds.
use Rattle.std.specs.Prelude.{◌≡◌, ◌⊎◌, ◌&&◌, ℕ, zero, suc, Bool, true, false, List, [], ◌∷◌, map, slice_get, Option, Some, None, IfSome, is_none, is_some}
use Rattle.std.specs.BTreeSet.{BTreeSet, contains}
use Rattle.std.specs.List.{AllByRecursion}
use Rattle.std.specs.Option.{option_map_or}
use Rattle.std.specs.Ordering.{nat_cmp}
use Rattle.svc_values.specs.declared.entry.Ltxid.{Ltxid}
use Rattle.svc_values.specs.Identifiers.{IsLtxid}
use Rattle.svc_values.specs.declared.frame.Up.{Up}
use Rattle.svc_values.specs.declared.frame.Down.{Down}
use Rattle.canon_bytes.specs.meaning.UpBytes.{spell_up}
use Rattle.canon_bytes.specs.UpBytes.{FitsUp, IsMadeUp}
use Rattle.canon_bytes.specs.meaning.DownBytes.{spell_down}
use Rattle.canon_bytes.specs.DownBytes.{FitsDown, IsMadeDown}
use Rattle.client_model.specs.declared.input.Input.TheVariants.{Took}
use Rattle.frame_wire.specs.Stream.{first_payload}
use Rattle.world_model.specs.meaning.Frames.{Sent, Reply}
use Rattle.outage_schedule.specs.declared.note.Reached.{Reached}
use Rattle.world_model.specs.meaning.Links.{Link, link_at, with_link, told_by, takes}
use Rattle.world_model.specs.meaning.Serving.{Front}
use Rattle.world_model.specs.meaning.Cutting.{reached_of, cut_link}
use Rattle.world_core.specs.declared.connection.Connection.{Connection}
use Rattle.world_core.specs.declared.connections.Connections.{Connections}
use Rattle.world_core.specs.Carrying.{Carries}

abbrev pub up_frames : List Sent → List Up
up_frames sent = map (λ one. one.frame) sent

abbrev pub down_frames : List Reply → List Down
down_frames replies = map (λ one. one.frame) replies

-- the identifier that comes with a frame
abbrev pub told_by_frame : Down → Option Ltxid
told_by_frame frame = told_by (Took frame true)

-- It stands as the machine says, and its bytes are those of the frames that may still be served and
-- taken. Frames keep the rules that their sender sees to, and so does the identifier that is held.
pub record IsLink (held : Connection) (link : Link) : Type 0 where
  pub is_open : link.is_open ≡ is_none held.ended
  pub ended : link.ended ≡ held.ended
  pub cut : link.is_cut ≡ held.is_cut
  pub living : link.is_living ≡ held.is_living
  pub session : link.session ≡ held.session
  pub ltxid : link.held ≡ held.held
  pub up : Carries spell_up FitsUp link.is_open (up_frames link.up) held.up
  pub made : AllByRecursion IsMadeUp (up_frames link.up)
  pub down : Carries spell_down FitsDown link.is_open (down_frames link.down) held.down
  pub told : AllByRecursion IsMadeDown (down_frames link.down)
  pub known : IfSome held.held IsLtxid

-- there is one of the machine that it stands for
abbrev pub IsSomeLink : Connection → Type 0
IsSomeLink held = (link : Link) × IsLink held link

-- its session lives on behind a cut
abbrev pub lives_on : Connection → Bool
lives_on held = held.is_living && held.is_cut

-- a whole frame stands there, and its session lives
abbrev pub may_be_served : Connection → Bool
may_be_served held = held.is_living && is_some (first_payload held.up.bytes)

-- the frame that is served next was taken off, where one may be served
abbrev pub GivesFront : Link → Option Front → Option Up → Connection → Type 0
GivesFront link None frame after = (frame ≡ None) × IsLink after link
GivesFront link (Some front) frame after = (frame ≡ Some front.first.frame)
    × IsLink after (record front.link { up = front.later })

-- the reply that stands first was taken, where one stands there
abbrev pub GivesReply : Link → List Reply → Option Down → Connection → Type 0
GivesReply link [] frame after = (frame ≡ None) × IsLink after link
GivesReply link (reply ∷ left) frame after = (frame ≡ Some reply.frame)
    × IsLink after (takes (Took reply.frame link.is_open) reply left link)

-- the connections are those of the machine, in order of opening
abbrev pub AreLinks : List Connection → List Link → Type 0
AreLinks [] [] = Unit {0}
AreLinks (held ∷ more) (link ∷ links) = IsLink held link × AreLinks more links
AreLinks _ _ = ⊥

-- ALL CONNECTIONS ---------------------------------------------------------------------------------

-- A crash ended it: its session lives no more, and of what is on its way only replies that a cut
-- let arrive are left.
pub record HasFallen (link : Link) : Type 0 where
  pub closed : link.is_open ≡ false
  pub dead : link.is_living ≡ false
  pub unserved : link.up ≡ []
  pub untold : link.is_cut ≡ false → link.down ≡ []

-- so it is with this many that were opened first
abbrev pub HaveFallen : ℕ → List Link → Type 0
HaveFallen zero links = Unit {0}
HaveFallen (suc many) [] = ⊥
HaveFallen (suc many) (link ∷ links) = HasFallen link × HaveFallen many links

-- the number of each whose session lives is among these
abbrev pub HasLiving : BTreeSet ℕ → List Link → Type 0
HasLiving living links = (number : ℕ) (link : Link) → link_at links number ≡ Some link
    → link.is_living ≡ true → contains nat_cmp living number ≡ true

pub record Stand (held : Connections) (links : List Link) : Type 0 where
  pub are : AreLinks held.all.items links
  pub fallen : HaveFallen held.fallen links
  pub living : HasLiving held.living links

-- there are some of the machine that they stand for
abbrev pub StandForSome : Connections → Type 0
StandForSome held = (links : List Link) × Stand held links

-- connections are numbered from 1
abbrev pub connection_at : List Connection → ℕ → Option Connection
connection_at all zero = None
connection_at all (suc index) = slice_get all index

-- the connection of this number, if there is one, meets the test
abbrev pub holds_at : (Connection → Bool) → List Connection → ℕ → Bool
holds_at test all number = option_map_or test (connection_at all number) false

-- the connection of this number, if there is one, is open where anything is sent on it
abbrev pub MaySend : Option Connection → List Up → Type 0
MaySend None frames = Unit {0}
MaySend (Some held) frames = (frames ≡ []) ⊎ (held.ended ≡ None)

-- one of this number is open, so that anything may be sent on it
abbrev pub IsOpenAt : List Connection → ℕ → Type 0
IsOpenAt all number = (frames : List Up) → MaySend (connection_at all number) frames

-- it is the one of the machine
abbrev pub IsFound : Option Connection → Option Link → Type 0
IsFound None None = Unit {0}
IsFound (Some held) (Some link) = IsLink held link
IsFound _ _ = ⊥

-- the frame that is served next on the connection of this number was taken off, where one may be
-- served
abbrev pub GivesFrontAt : List Link → ℕ → Option Front → Option Up → Connections → Type 0
GivesFrontAt links number None frame after = (frame ≡ None) × Stand after links
GivesFrontAt links number (Some front) frame after = (frame ≡ Some front.first.frame)
    × Stand after (with_link links number (record front.link { up = front.later }))

-- the reply that stands first on it was taken, where one stands there
abbrev pub GivesReplyAt : List Link → ℕ → Link → List Reply → Option Down → Connections → Type 0
GivesReplyAt links number link [] frame after = (frame ≡ None) × Stand after links
GivesReplyAt links number link (reply ∷ left) frame after = (frame ≡ Some reply.frame)
    × Stand after (with_link links number (takes (Took reply.frame link.is_open) reply left link))

-- it was cut, where it was open
abbrev pub CutsAt : List Link → ℕ → ℕ → ℕ → ℕ → Option Link → Option Reached → Connections → Type 0
CutsAt links number event up down None reached after = (reached ≡ None) × Stand after links
CutsAt links number event up down (Some link) reached after =
    (reached ≡ Some (reached_of link up down))
    × Stand after (with_link links number (cut_link event up down link))
