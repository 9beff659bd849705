-- Connections that stand for those of the machine, one by one.
use Rattle.std.proofs.Common.{◌≡◌, ℕ, zero, suc, ◌<◌, ◌≤◌, Bool, true, false, List, [], ◌∷◌, ◌++◌, Option, Some, None, Result, Ok, Err, OnOk, IfOk, length, get_or, map, ◌+◌, refl, sym, ap, ap₂, ◌∙◌, subst, inl, inr, arith}
use Rattle.std.specs.Prelude.{◌⊎◌, slice_get, slice_set, is_some, is_none, option_and_then}
use Rattle.std.specs.BTreeSet.{BTreeSet, Updates}
use Rattle.std.specs.Option.{option_map_or}
use Rattle.std.specs.Ordering.{nat_cmp}
use Rattle.std.specs.Vec.{with_item}
use Rattle.svc_values.specs.declared.frame.Up.{Up}
use Rattle.svc_values.specs.declared.frame.Down.{Down}
use Rattle.client_model.specs.declared.input.Input.TheVariants.{Took}
use Rattle.outage_schedule.specs.declared.note.Reached.{Reached}
use Rattle.world_model.specs.meaning.Frames.{Sent, Reply}
use Rattle.world_model.specs.meaning.Links.{Link, new_link, link_at, with_link, changed, takes, is_orphan}
use Rattle.world_model.specs.meaning.Noting.{only_if}
use Rattle.world_model.specs.meaning.Serving.{Front, front_of, front_at}
use Rattle.world_model.specs.meaning.Crashing.{fallen_link}
use Rattle.world_model.specs.meaning.Cutting.{reached_of, cut_link, open_at, has_orphan, reaped_link}
use Rattle.world_core.specs.declared.connection.Connection.{Connection}
use Rattle.world_core.specs.declared.connections.Connections.{Connections}
use Rattle.world_core.specs.Linked.{up_frames, IsLink, HaveFallen, HasLiving, AreLinks, Stand, connection_at, MaySend, GivesFront, GivesFrontAt, GivesReply, GivesReplyAt, CutsAt}
use Rattle.world_core.proofs.Ages.{Ages, ages_same, ages_front, ages_takes, ages_cut, ages_reaped, same_link, falls_once, with_fallen, before_fallen, more_fallen, living_kept, living_without, living_more}
use Rattle.world_core.proofs.frames.Fronts.{front_link}
use Rattle.world_core.proofs.Linking.{none_sent}

-- one more
pub links_more : (all : List Connection) (links : List Link) (one : Connection) (link : Link) → AreLinks all links → IsLink one link → AreLinks (all ++ one ∷ []) (links ++ link ∷ [])
links_more [] [] one link are is = (is, tt)
links_more [] (l ∷ links) one link are is = absurd are
links_more (c ∷ all) [] one link are is = absurd are
links_more (c ∷ all) (l ∷ links) one link are is = (are.0, links_more all links one link are.1 is)

pub same_length : (all : List Connection) (links : List Link) → AreLinks all links → length all ≡ length links
same_length [] [] are = refl
same_length [] (l ∷ links) are = absurd are
same_length (c ∷ all) [] are = absurd are
same_length (c ∷ all) (l ∷ links) are = ap suc (same_length all links are.1)

-- the one at a place
abbrev pub Standing : List Link → ℕ → Connection → Type 0
Standing links at one = (link : Link) × (slice_get links at ≡ Some link) × IsLink one link

standing_at : (all : List Connection) (links : List Link) (at : ℕ) (default : Connection) → AreLinks all links → at < length all → Standing links at (get_or all at default)
standing_at [] links at default are within = absurd (omega (arith, within))
standing_at (c ∷ all) [] at default are within = absurd are
standing_at (c ∷ all) (l ∷ links) zero default are within = (l, refl, are.0)
standing_at (c ∷ all) (l ∷ links) (suc at) default are within = standing_at all links at default are.1 (omega (arith, within))

set_at : (all : List Connection) (links : List Link) (at : ℕ) (one : Connection) (link : Link) → AreLinks all links → IsLink one link → AreLinks (slice_set all at one) (slice_set links at link)
set_at [] [] at one link are is = tt
set_at [] (l ∷ links) at one link are is = absurd are
set_at (c ∷ all) [] at one link are is = absurd are
set_at (c ∷ all) (l ∷ links) zero one link are is = (is, are.1)
set_at (c ∷ all) (l ∷ links) (suc at) one link are is = (are.0, set_at all links at one link are.1 is)

none_past : (all : List Connection) (links : List Link) (at : ℕ) → AreLinks all links → slice_get all at ≡ None → slice_get links at ≡ None
none_past [] [] at are none = refl
none_past [] (l ∷ links) at are none = absurd are
none_past (c ∷ all) [] at are none = absurd are
none_past (c ∷ all) (l ∷ links) zero are none = absurd (let nothing : ⊥ = cc in nothing)
none_past (c ∷ all) (l ∷ links) (suc at) are none = none_past all links at are.1 none

-- there is none of this number
pub no_link : (all : List Connection) (links : List Link) (number : ℕ) → connection_at all number ≡ None → AreLinks all links → link_at links number ≡ None
no_link all links zero none are = refl
no_link all links (suc at) none are = none_past all links at are none

-- one of the machine stands for one that is held
link_held : (all : List Connection) (links : List Link) (at : ℕ) (link : Link) → AreLinks all links → slice_get links at ≡ Some link → (one : Connection) × IsLink one link
link_held [] [] at link are e = absurd (let nothing : ⊥ = cc in nothing)
link_held [] (l ∷ links) at link are e = absurd are
link_held (c ∷ all) [] at link are e = absurd are
link_held (c ∷ all) (l ∷ links) zero link are e = (c, subst (IsLink c) (held_same l link e) are.0)
  where
    held_same : (a b : Link) → ◌≡◌ {A = Option Link} (Some a) (Some b) → a ≡ b
    held_same a b e = cc
link_held (c ∷ all) (l ∷ links) (suc at) link are e = link_held all links at link are.1 e

pub link_stands : (all : List Connection) (links : List Link) (number : ℕ) (link : Link) → AreLinks all links → link_at links number ≡ Some link → (one : Connection) × IsLink one link
link_stands all links zero link are e = absurd (let nothing : ⊥ = cc in nothing)
link_stands all links (suc at) link are e = link_held all links at link are e

-- the place of a number
abbrev pub IsPlace : List Connection → ℕ → ℕ → Type 0
IsPlace all number at = (number ≡ suc at) × (at < length all)

-- the one of this number
abbrev pub Found : List Link → ℕ → Connection → Type 0
Found links number one = (link : Link) × (link_at links number ≡ Some link) × IsLink one link

pub found_at : (all : List Connection) (number at : ℕ) (one : Connection) → IsPlace all number at → one ≡ get_or all at one → (links : List Link) → AreLinks all links → Found links number one
found_at all number at one place is links are =
    let there = standing_at all links at one are place.1 in
    subst (λ n. Found links n one) (sym place.0) (there.0, there.1, subst (λ c. IsLink c there.0) (sym is) there.2)

pub connection_there : (all : List Connection) (number at : ℕ) (one : Connection) → IsPlace all number at → one ≡ get_or all at one → Some one ≡ connection_at all number
connection_there all number at one place is = rw place.0 (sym (at_place all at one place.1 is))
  where
    at_place : (all : List Connection) (at : ℕ) (one : Connection) → at < length all → one ≡ get_or all at one → slice_get all at ≡ Some one
    at_place [] at one within is = absurd (omega (arith, within))
    at_place (c ∷ all) zero one within is = ap (λ x. Some x) (sym is)
    at_place (c ∷ all) (suc at) one within is = at_place all at one (omega (arith, within)) is

some_same : (a b : Connection) → ◌≡◌ {A = Option Connection} (Some a) (Some b) → a ≡ b
some_same a b e = cc

-- one connection is there
pub same_there : (all : List Connection) (number at : ℕ) (one other : Connection) → IsPlace all number at → one ≡ get_or all at one → other ≡ get_or all at other → one ≡ other
same_there all number at one other place a b = some_same one other (connection_there all number at one place a ∙ sym (connection_there all number at other place b))

-- with another at its place
pub stands_with : (all : List Connection) (number at : ℕ) (one : Connection) (links : List Link) (link : Link) → IsPlace all number at → AreLinks all links → IsLink one link → AreLinks (slice_set all at one) (with_link links number link)
stands_with all number at one links link place are is = subst (λ n. AreLinks (slice_set all at one) (with_link links n link)) (sym place.0) (set_at all links at one link are is)

-- there is none of this number to be changed
pub none_changed : (held : Connections) (number : ℕ) (change : Link → Link) → connection_at held.all.items number ≡ None → (links : List Link) → Stand held links → Stand held (changed change links number)
none_changed held number change none links stands =
    subst (λ l. Stand held l) (sym (ap (λ l. option_map_or (λ link. with_link links number (change link)) l links) (no_link held.all.items links number none stands.are))) stands

-- what may be sent
pub sends_open : (all : List Connection) (number at : ℕ) (one : Connection) (frames : List Up) → IsPlace all number at → one ≡ get_or all at one → MaySend (connection_at all number) frames → (frames ≡ []) ⊎ (one.ended ≡ None)
sends_open all number at one frames place is may = subst (λ c. MaySend c frames) (sym (connection_there all number at one place is)) may

-- so the machine sends nothing on one that has ended
pub sends_none : (one : Connection) (link : Link) (sent : List Sent) (frames : List Up) → up_frames sent ≡ frames → (frames ≡ []) ⊎ (one.ended ≡ None) → IsLink one link → (sent ≡ []) ⊎ (link.is_open ≡ true)
sends_none one link sent frames same (inl none) is = inl (none_sent sent (same ∙ none))
sends_none one link sent frames same (inr unended) is = inr (is.is_open ∙ ap (λ (e : Option ℕ). is_none e) unended)

-- ALL OF THEM -------------------------------------------------------------------------------------

-- with the first so many changed
abbrev pub first_changed : (Link → Link) → ℕ → List Link → List Link
first_changed change zero links = links
first_changed change (suc n) [] = []
first_changed change (suc n) (link ∷ links) = change link ∷ first_changed change n links

pub next_changed : (change : Link → Link) (all : List Connection) (links : List Link) (n : ℕ) (one after : Connection) → n < length all → one ≡ get_or all n one → ((link : Link) → IsLink one link → IsLink after (change link))
    → AreLinks all (first_changed change n links) → AreLinks (slice_set all n after) (first_changed change (suc n) links)
next_changed change [] links n one after within is changes are = absurd (omega (arith, within))
next_changed change (c ∷ all) [] zero one after within is changes are = absurd are
next_changed change (c ∷ all) (l ∷ links) zero one after within is changes are = (changes l (subst (λ x. IsLink x l) (sym is) are.0), are.1)
next_changed change (c ∷ all) [] (suc n) one after within is changes are = absurd are
next_changed change (c ∷ all) (l ∷ links) (suc n) one after within is changes are = (are.0, next_changed change all links n one after (omega (arith, within)) is changes are.1)

pub all_changed : (change : Link → Link) (n : ℕ) (links : List Link) → length links ≤ n → first_changed change n links ≡ map change links
all_changed change zero [] within = refl
all_changed change zero (l ∷ links) within = absurd (omega (arith, within))
all_changed change (suc n) [] within = refl
all_changed change (suc n) (l ∷ links) within = ap (λ r. change l ∷ r) (all_changed change n links (omega (arith, within)))

-- those that have fallen stay as they are
pub first_fallen : (event many : ℕ) (links : List Link) → HaveFallen many links → first_changed (fallen_link event) many links ≡ links
first_fallen event zero links have = refl
first_fallen event (suc many) [] have = refl
first_fallen event (suc many) (link ∷ links) have = ap₂ (λ one more. one ∷ more) (falls_once event link have.0) (first_fallen event many links have.1)

-- AT ONE NUMBER -----------------------------------------------------------------------------------

pub on_ok : {A E : Type 0} {P Q : Type 0} (result : Result A E) → (P → Q) → OnOk result P → OnOk result Q
on_ok (Ok x) f p = f p
on_ok (Err e) f p = p

pub if_ok : {A E : Type 0} {P Q : A → Type 0} (result : Result A E) → ((x : A) → P x → Q x) → IfOk result P → IfOk result Q
if_ok (Ok x) f p = f x p
if_ok (Err e) f p = p

with_same : (links : List Link) (number : ℕ) (link : Link) → link_at links number ≡ Some link → with_link links number link ≡ links
with_same links zero link e = refl
with_same links (suc at) link e = set_same links at e
  where
    set_same : (all : List Link) (k : ℕ) → slice_get all k ≡ Some link → slice_set all k link ≡ all
    set_same [] k e = refl
    set_same (l ∷ all) zero e = ap (λ x. x ∷ all) (sym (same_link l link e))
    set_same (l ∷ all) (suc k) e = ap (λ r. l ∷ r) (set_same all k e)

-- the connection is the one that is there
pub is_there : (all : List Connection) (number at : ℕ) (one : Connection) → IsPlace all number at → one ≡ get_or all at one → (links : List Link) (link : Link) → AreLinks all links → link_at links number ≡ Some link → IsLink one link
is_there all number at one place is_one links link are there =
    let here = found_at all number at one place is_one links are in
    subst (λ l. IsLink one l) (same_link here.0 link (sym here.1 ∙ there)) here.2

-- with another at a place
abbrev pub with_one : Connections → ℕ → Connection → Connections
with_one held at one = record held { all = with_item held.all at one }

module _ (held : Connections) (number at : ℕ) (one next : Connection) (place : IsPlace held.all.items number at) (is_one : one ≡ get_or held.all.items at one) where
  found : (links : List Link) → Stand held links → Found links number one
  found links stands = found_at held.all.items number at one place is_one links stands.are

  stand_as : (fallen : ℕ) (living : BTreeSet ℕ) (links : List Link) (link : Link) → Stand held links → IsLink next link → HaveFallen fallen (with_link links number link) → HasLiving living (with_link links number link)
      → Stand (record (with_one held at next) { fallen = fallen; living = living }) (with_link links number link)
  stand_as fallen living links link stands is have has = record { are = stands_with held.all.items number at next links link place stands.are is; fallen = have; living = has }

  -- served: it does not count as fallen, and its session is among those that live, or lives no more
  pub stand_served : (fallen : ℕ) (living : BTreeSet ℕ) → fallen ≤ held.fallen → fallen ≤ at → (links : List Link) (link : Link) → Stand held links → IsLink next link → HasLiving living (with_link links number link)
      → Stand (record (with_one held at next) { fallen = fallen; living = living }) (with_link links number link)
  stand_served fallen living fewer before links link stands is has =
      stand_as fallen living links link stands is (subst (λ n. HaveFallen fallen (with_link links n link)) (sym place.0) (before_fallen fallen held.fallen links at link fewer before stands.fallen)) has

  -- reaped: its session is not among those that live
  pub stand_reaped : (living : BTreeSet ℕ) → Updates nat_cmp held.living living number false → ((link : Link) → IsLink one link → IsLink next (reaped_link link)) → (links : List Link) → Stand held links
      → Stand (record (with_one held at next) { living = living }) (changed reaped_link links number)
  stand_reaped living updates reaps links stands =
      let here = found links stands in
      let link : Link = reaped_link here.0 in
      subst (λ l. Stand (record (with_one held at next) { living = living }) l) (sym (ap (λ l. option_map_or (λ link. with_link links number (reaped_link link)) l links) here.1))
      (stand_as held.fallen living links link stands (reaps here.0 here.2) (with_fallen held.fallen links number here.0 link here.1 (ages_reaped here.0).fallen stands.fallen)
      (living_without held.living living links number here.0 link here.1 refl updates stands.living))

  stand_with : (links : List Link) (old link : Link) → Stand held links → link_at links number ≡ Some old → Ages old link → IsLink next link → Stand (with_one held at next) (with_link links number link)
  stand_with links old link stands there ages is =
      stand_as held.fallen held.living links link stands is (with_fallen held.fallen links number old link there ages.fallen stands.fallen) (living_kept held.living links number old link there ages.living stands.living)

  -- it stands for the same again
  stand_same : (links : List Link) (link : Link) → Stand held links → link_at links number ≡ Some link → IsLink next link → Stand (with_one held at next) links
  stand_same links link stands there is = subst (Stand (with_one held at next)) (with_same links number link there) (stand_with links link link stands there (ages_same link) is)

  pub stand_changed : (change : Link → Link) → ((link : Link) → IsLink one link → Ages link (change link) × IsLink next (change link)) → (links : List Link) → Stand held links → Stand (with_one held at next) (changed change links number)
  stand_changed change changes links stands =
      let here = found links stands in
      let becomes = changes here.0 here.2 in
      subst (λ l. Stand (with_one held at next) l) (sym (ap (λ l. option_map_or (λ link. with_link links number (change link)) l links) here.1))
      (stand_with links here.0 (change here.0) stands here.1 becomes.0 becomes.1)

  -- the frame in front
  front_given : (frame : Option Up) (links : List Link) (link : Link) (front : Option Front) → Stand held links → link_at links number ≡ Some link → front_of link ≡ front → GivesFront link front frame next
      → GivesFrontAt links number front frame (with_one held at next)
  front_given frame links link None stands there is gives = (gives.0, stand_same links link stands there gives.1)
  front_given frame links link (Some front) stands there is gives =
      let lives = front_link link link.is_living front is in
      let ages : Ages link (record front.link { up = front.later }) = subst (λ (l : Link). Ages link (record l { up = front.later })) (sym lives.1) (ages_front link front.later lives.0) in
      (gives.0, stand_with links link (record front.link { up = front.later }) stands there ages gives.1)

  pub front_at_given : (frame : Option Up) → ((link : Link) → IsLink one link → GivesFront link (front_of link) frame next) → (links : List Link) → Stand held links → GivesFrontAt links number (front_at links number) frame (with_one held at next)
  front_at_given frame gives links stands =
      let here = found links stands in
      subst (λ front. GivesFrontAt links number front frame (with_one held at next)) (sym (ap (λ l. option_and_then front_of l) here.1))
      (front_given frame links here.0 (front_of here.0) stands here.1 refl (gives here.0 here.2))

  -- the reply in front
  reply_given : (reply : Option Down) (links : List Link) (link : Link) (replies : List Reply) → Stand held links → link_at links number ≡ Some link → link.down ≡ replies → GivesReply link replies reply next
      → GivesReplyAt links number link replies reply (with_one held at next)
  reply_given reply links link [] stands there is gives = (gives.0, stand_same links link stands there gives.1)
  reply_given reply links link (first ∷ left) stands there is gives =
      (gives.0, stand_with links link (takes (Took first.frame link.is_open) first left link) stands there (ages_takes (Took first.frame link.is_open) first left link is) gives.1)

  pub reply_at_given : (reply : Option Down) → ((link : Link) → IsLink one link → GivesReply link link.down reply next) → (links : List Link) (link : Link) → link_at links number ≡ Some link → Stand held links
      → GivesReplyAt links number link link.down reply (with_one held at next)
  reply_at_given reply gives links link there stands = reply_given reply links link link.down stands there refl (gives link (is_there held.all.items number at one place is_one links link stands.are there))

  -- cut, where it is open
  cut_given : (event up down : ℕ) (reached : Reached) (links : List Link) (link : Link) (b : Bool) → link.is_open ≡ b → b ≡ true → Stand held links → link_at links number ≡ Some link → (reached ≡ reached_of link up down) × IsLink next (cut_link event up down link)
      → CutsAt links number event up down (only_if b link) (Some reached) (with_one held at next)
  cut_given event up down reached links link true opened is stands there cut = (ap (λ r. Some r) cut.0, stand_with links link (cut_link event up down link) stands there (ages_cut event up down link opened) cut.1)
  cut_given event up down reached links link false opened is stands there cut = absurd (let none : ⊥ = cc in none)

  pub cut_at_given : (event up down : ℕ) (reached : Reached) → one.ended ≡ None → ((link : Link) → IsLink one link → (reached ≡ reached_of link up down) × IsLink next (cut_link event up down link))
      → (links : List Link) → Stand held links → CutsAt links number event up down (open_at links number) (Some reached) (with_one held at next)
  cut_at_given event up down reached unended cuts links stands =
      let here = found links stands in
      subst (λ link. CutsAt links number event up down link (Some reached) (with_one held at next)) (sym (ap (λ l. option_and_then (λ link. only_if link.is_open link) l) here.1))
      (cut_given event up down reached links here.0 here.0.is_open refl (here.2.is_open ∙ ap (λ (e : Option ℕ). is_none e) unended) stands here.1 (cuts here.0 here.2))

-- one more stands behind the others, and its session is among those that live
pub stand_more : (held after : Connections) (one : Connection) (number : ℕ) → after.all.items ≡ held.all.items ++ one ∷ [] → after.fallen ≡ held.fallen → number ≡ length held.all.items + 1 → Updates nat_cmp held.living after.living number true → IsLink one new_link
    → (links : List Link) → Stand held links → (number ≡ length links + 1) × Stand after (links ++ new_link ∷ [])
stand_more held after one number all same last updates is links stands =
    let long : length held.all.items ≡ length links = same_length held.all.items links stands.are in
    let next : number ≡ suc (length links) = omega (arith, last, long) in (
      omega (arith, next),
      record {
        are = subst (λ c. AreLinks c (links ++ new_link ∷ [])) (sym all) (links_more held.all.items links one new_link stands.are is);
        fallen = subst (λ many. HaveFallen many (links ++ new_link ∷ [])) (sym same) (more_fallen held.fallen links new_link stands.fallen);
        living = living_more held.living after.living links number next updates stands.living;
      },
    )

-- one that has ended is not open
ended_some : (e : Option ℕ) → is_some e ≡ true → is_none e ≡ false
ended_some None s = absurd (let none : ⊥ = cc in none)
ended_some (Some x) s = refl

pub closed_at : (all : List Connection) (number at : ℕ) (one : Connection) → IsPlace all number at → one ≡ get_or all at one → is_some one.ended ≡ true → (links : List Link) → AreLinks all links → open_at links number ≡ None
closed_at all number at one place is_one ended links are =
    let found = found_at all number at one place is_one links are in
    let shut : found.0.is_open ≡ false = found.2.is_open ∙ ended_some one.ended ended in
    ap (λ l. option_and_then (λ link. only_if link.is_open link) l) found.1 ∙ ap (λ b. only_if b found.0) shut

pub not_some : (e : Option ℕ) → is_some e ≡ false → e ≡ None
not_some None s = refl
not_some (Some x) s = absurd (let none : ⊥ = cc in none)

-- whether the one of a number is an orphan
pub orphan_at : (all : List Connection) (number at : ℕ) (one : Connection) (b : Bool) → IsPlace all number at → one ≡ get_or all at one → ((link : Link) → IsLink one link → b ≡ is_orphan link) → (links : List Link) → AreLinks all links → b ≡ has_orphan links number
orphan_at all number at one b place is_one is links are =
    let found = found_at all number at one place is_one links are in
    is found.0 found.2 ∙ sym (ap (λ l. option_map_or is_orphan l false) found.1)

-- there is none
pub none_there : {A : Type 0} (links : List Link) (number : ℕ) (link : Link) → link_at links number ≡ None → link_at links number ≡ Some link → A
none_there links number link none there = absurd (let nothing : ⊥ = cc in nothing)
