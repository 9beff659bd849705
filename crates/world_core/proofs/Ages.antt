-- What a change of one connection leaves of those that have fallen, and of those whose session
-- lives.
use Rattle.std.proofs.Common.{◌≡◌, ℕ, zero, suc, ◌+◌, ◌≤◌, Bool, true, false, List, [], ◌∷◌, ◌++◌, Option, Some, length, map, drop, cond, refl, sym, ap, ◌∙◌, subst, inl, inr, arith}
use Rattle.std.specs.Prelude.{◌⊎◌, slice_get, slice_set, if◌then◌else◌}
use Rattle.std.specs.BTreeMap.{is_at}
use Rattle.std.specs.BTreeSet.{BTreeSet, contains, Updates}
use Rattle.std.specs.List.{list_any}
use Rattle.std.specs.Ordering.{nat_cmp}
use Rattle.std.proofs.lemmas.List.{append-nil}
use Rattle.std.proofs.lemmas.Map.Lookups.{exact_unsigned}
use Rattle.std.proofs.lemmas.Map.Views.{tells_apart}
use Rattle.client_model.specs.declared.input.Input.{Input}
use Rattle.world_model.specs.meaning.Crashing.{fallen_link}
use Rattle.world_model.specs.meaning.Cutting.{cut_link, reaped_link}
use Rattle.world_model.specs.meaning.Frames.{Sent, Reply}
use Rattle.world_model.specs.meaning.Links.{Link, new_link, link_at, with_link, ends, is_close, sends, takes, open_from}
use Rattle.world_core.specs.Linked.{HasFallen, HaveFallen, HasLiving}
use Rattle.world_core.proofs.Linking.{ends_closed, ends_same}
use Rattle.world_core.proofs.Places.{slice_added, slice_changed}

clash : {A : Type 0} (b : Bool) → b ≡ false → b ≡ true → A
clash b f t = absurd (let both : false ≡ true = sym f ∙ t in let none : ⊥ = cc in none)

-- THE CHANGES -------------------------------------------------------------------------------------

-- one that has fallen is so still, and no session begins to live
pub record Ages (old new : Link) : Type 0 where
  pub fallen : HasFallen old → HasFallen new
  pub living : new.is_living ≡ true → old.is_living ≡ true

pub ages_same : (link : Link) → Ages link link
ages_same link = record { fallen = λ f. f; living = λ l. l }

ages_then : (a b c : Link) → Ages a b → Ages b c → Ages a c
ages_then a b c first later = record { fallen = λ f. later.fallen (first.fallen f); living = λ l. first.living (later.living l) }

-- one that is open has not fallen
ages_open : (old new : Link) → old.is_open ≡ true → new.is_living ≡ old.is_living → Ages old new
ages_open old new opened same = record { fallen = λ f. clash old.is_open f.closed opened; living = λ l. sym same ∙ l }

pub ages_ends : (event : ℕ) (link : Link) → Ages link (ends event link)
ages_ends event link = by link.is_open refl
  where
    by : (b : Bool) → link.is_open ≡ b → Ages link (if b then record link { is_open = false; ended = Some event } else link)
    by true opened = ages_open link (record link { is_open = false; ended = Some event }) opened refl
    by false closed = ages_same link

ages_sending : (sent : List Sent) (link : Link) → (sent ≡ []) ⊎ (link.is_open ≡ true) → Ages link (record link { sent = link.sent ++ sent; up = link.up ++ sent })
ages_sending sent link (inl none) = record {
  fallen = λ f. record { closed = f.closed; dead = f.dead; unserved = ap (λ (more : List Sent). link.up ++ more) none ∙ append-nil link.up ∙ f.unserved; untold = f.untold };
  living = λ l. l;
}
ages_sending sent link (inr opened) = ages_open link (record link { sent = link.sent ++ sent; up = link.up ++ sent }) opened refl

-- nothing is sent on one that has ended
pub ages_sends : (event : ℕ) (sent : List Sent) (link : Link) → (sent ≡ []) ⊎ (link.is_open ≡ true) → Ages link (sends event sent link)
ages_sends event sent link sends_open =
    let sending : Link = record link { sent = link.sent ++ sent; up = link.up ++ sent } in
    ages_then link sending (sends event sent link) (ages_sending sent link sends_open) (by sending (list_any (λ one. is_close one.frame) sent))
  where
    by : (sending : Link) (closes : Bool) → Ages sending (if closes then ends event sending else sending)
    by sending true = ages_ends event sending
    by sending false = ages_same sending

-- the frame in front is taken off one whose session lives
pub ages_front : (link : Link) (later : List Sent) → link.is_living ≡ true → Ages link (record link { up = later })
ages_front link later lives = record { fallen = λ f. clash link.is_living f.dead lives; living = λ l. l }

pub ages_takes : (input : Input) (reply : Reply) (left : List Reply) (link : Link) → link.down ≡ reply ∷ left → Ages link (takes input reply left link)
ages_takes input reply left link there = record {
  fallen = λ f. record { closed = f.closed; dead = f.dead; unserved = f.unserved; untold = λ uncut. absurd (let both : ◌≡◌ {A = List Reply} [] (reply ∷ left) = sym (f.untold uncut) ∙ there in let none : ⊥ = cc in none) };
  living = λ l. l;
}

pub ages_cut : (event up down : ℕ) (link : Link) → link.is_open ≡ true → Ages link (cut_link event up down link)
ages_cut event up down link opened = ages_open link (cut_link event up down link) opened (ends_same (λ l. l.is_living) event link refl)

pub ages_reaped : (link : Link) → Ages link (reaped_link link)
ages_reaped link = record { fallen = λ f. record { closed = f.closed; dead = refl; unserved = f.unserved; untold = f.untold }; living = λ l. clash false refl l }

-- HAVING FALLEN -----------------------------------------------------------------------------------

pub same_link : (a b : Link) → ◌≡◌ {A = Option Link} (Some a) (Some b) → a ≡ b
same_link a b e = cc

set_fallen : (many : ℕ) (links : List Link) (at : ℕ) (old new : Link) → slice_get links at ≡ Some old → (HasFallen old → HasFallen new) → HaveFallen many links → HaveFallen many (slice_set links at new)
set_fallen zero links at old new there keeps have = tt
set_fallen (suc many) [] at old new there keeps have = absurd have
set_fallen (suc many) (l ∷ links) zero old new there keeps have = (keeps (subst HasFallen (same_link l old there) have.0), have.1)
set_fallen (suc many) (l ∷ links) (suc at) old new there keeps have = (have.0, set_fallen many links at old new there keeps have.1)

pub with_fallen : (many : ℕ) (links : List Link) (number : ℕ) (old new : Link) → link_at links number ≡ Some old → (HasFallen old → HasFallen new) → HaveFallen many links → HaveFallen many (with_link links number new)
with_fallen many links zero old new there keeps have = have
with_fallen many links (suc at) old new there keeps have = set_fallen many links at old new there keeps have

-- of those before a place as many have fallen behind a change at it
pub before_fallen : (few many : ℕ) (links : List Link) (at : ℕ) (new : Link) → few ≤ many → few ≤ at → HaveFallen many links → HaveFallen few (slice_set links at new)
before_fallen zero many links at new fewer before have = tt
before_fallen (suc few) zero links at new fewer before have = absurd (omega arith)
before_fallen (suc few) (suc many) [] at new fewer before have = absurd have
before_fallen (suc few) (suc many) (l ∷ links) zero new fewer before have = absurd (omega arith)
before_fallen (suc few) (suc many) (l ∷ links) (suc at) new fewer before have = (have.0, before_fallen few many links at new (omega arith) (omega arith) have.1)

pub more_fallen : (many : ℕ) (links : List Link) (link : Link) → HaveFallen many links → HaveFallen many (links ++ link ∷ [])
more_fallen zero links link have = tt
more_fallen (suc many) [] link have = absurd have
more_fallen (suc many) (l ∷ links) link have = (have.0, more_fallen many links link have.1)

has_fallen : (event : ℕ) (link : Link) → HasFallen (fallen_link event link)
has_fallen event link = record {
  closed = ends_closed event link;
  dead = refl;
  unserved = refl;
  untold = λ uncut. ap (λ (b : Bool). if b then link.down else []) (sym (ends_same (λ l. l.is_cut) event link refl) ∙ uncut);
}

pub all_fallen : (event : ℕ) (links : List Link) → HaveFallen (length links) (map (fallen_link event) links)
all_fallen event [] = tt
all_fallen event (l ∷ links) = (has_fallen event l, all_fallen event links)

-- a further fall leaves it as it is
pub falls_once : (event : ℕ) (link : Link) → HasFallen link → fallen_link event link ≡ link
falls_once event link f =
    ap (λ (l : Link). record l { is_living = false; up = []; down = if link.is_cut then link.down else [] }) (ap (λ (b : Bool). if b then record link { is_open = false; ended = Some event } else link) f.closed)
    ∙ (λ i. record link { is_living = sym f.dead i; up = sym f.unserved i; down = kept link.is_cut refl i })
  where
    kept : (b : Bool) → link.is_cut ≡ b → (if b then link.down else []) ≡ link.down
    kept true cut = refl
    kept false uncut = sym (f.untold uncut)

-- those that have fallen are not open
pub open_behind : (many number : ℕ) (links : List Link) → HaveFallen many links → open_from number links ≡ open_from (many + number) (drop many links)
open_behind zero number links have = ap (λ (n : ℕ). open_from n links) (let same : number ≡ 0 + number = omega arith in same)
open_behind (suc many) number [] have = absurd have
open_behind (suc many) number (l ∷ links) have =
    rw have.0.closed (open_behind many (number + 1) links have.1 ∙ ap (λ (n : ℕ). open_from n (drop many links)) (let same : many + (number + 1) ≡ suc many + number = omega arith in same))

-- THE LIVING --------------------------------------------------------------------------------------

-- with another link at a number, where its own number is among them if its session lives, and those
-- of the others stay
living_changed : (living after : BTreeSet ℕ) (links : List Link) (number : ℕ) (old new : Link) → link_at links number ≡ Some old → (new.is_living ≡ true → contains nat_cmp after number ≡ true)
    → ((other : ℕ) → (other ≡ number → ⊥) → contains nat_cmp living other ≡ true → contains nat_cmp after other ≡ true) → HasLiving living links → HasLiving after (with_link links number new)
living_changed living after links zero old new there here others has = absurd (let none : ⊥ = cc in none)
living_changed living after links (suc at) old new there here others has = by
  where
    one_of : (other : ℕ) (link : Link) → link.is_living ≡ true → ((other ≡ at) × (new ≡ link)) ⊎ ((other ≡ at → ⊥) × (slice_get links other ≡ Some link)) → contains nat_cmp after (suc other) ≡ true
    one_of other link lives (inl is) = subst (λ (n : ℕ). contains nat_cmp after (suc n) ≡ true) (sym is.0) (here (ap (λ (l : Link). l.is_living) is.1 ∙ lives))
    one_of other link lives (inr is) = others (suc other) (λ same. is.0 (let less : other ≡ at = omega arith in less)) (has (suc other) link is.1 lives)

    by : (number : ℕ) (link : Link) → link_at (slice_set links at new) number ≡ Some link → link.is_living ≡ true → contains nat_cmp after number ≡ true
    by zero link found lives = absurd (let none : ⊥ = cc in none)
    by (suc other) link found lives = one_of other link lives (slice_changed links at other old new link there found)

pub living_kept : (living : BTreeSet ℕ) (links : List Link) (number : ℕ) (old new : Link) → link_at links number ≡ Some old → (new.is_living ≡ true → old.is_living ≡ true) → HasLiving living links → HasLiving living (with_link links number new)
living_kept living links number old new there keeps has = living_changed living living links number old new there (λ lives. has number old there (keeps lives)) (λ other apart was. was) has

apart_at : (number other : ℕ) → (other ≡ number → ⊥) → is_at (nat_cmp number) other ≡ false
apart_at number other apart = by (is_at (nat_cmp number) other) refl
  where
    by : (b : Bool) → is_at (nat_cmp number) other ≡ b → is_at (nat_cmp number) other ≡ false
    by true same = absurd (apart (sym (tells_apart exact_unsigned number other same)))
    by false differs = differs

-- one whose session lives no more is taken out
pub living_without : (living after : BTreeSet ℕ) (links : List Link) (number : ℕ) (old new : Link) → link_at links number ≡ Some old → new.is_living ≡ false → Updates nat_cmp living after number false → HasLiving living links
    → HasLiving after (with_link links number new)
living_without living after links number old new there dead updates has =
    living_changed living after links number old new there (λ lives. clash new.is_living dead lives) (λ other apart was. updates.2 other (apart_at number other apart) ∙ was) has

inserted_kept : (living after : BTreeSet ℕ) (number other : ℕ) → Updates nat_cmp living after number true → contains nat_cmp living other ≡ true → contains nat_cmp after other ≡ true
inserted_kept living after number other updates was = updates.0 other ∙ by (is_at (nat_cmp number) other)
  where
    by : (b : Bool) → cond b true (contains nat_cmp living other) ≡ true
    by true = refl
    by false = was

-- one whose session may live is put in
pub living_with : (living after : BTreeSet ℕ) (links : List Link) (number : ℕ) (old new : Link) → link_at links number ≡ Some old → Updates nat_cmp living after number true → HasLiving living links → HasLiving after (with_link links number new)
living_with living after links number old new there updates has =
    living_changed living after links number old new there (λ lives. updates.1) (λ other apart was. inserted_kept living after number other updates was) has

pub living_more : (living after : BTreeSet ℕ) (links : List Link) (number : ℕ) → number ≡ suc (length links) → Updates nat_cmp living after number true → HasLiving living links → HasLiving after (links ++ new_link ∷ [])
living_more living after links number is updates has = by
  where
    one_of : (other : ℕ) (link : Link) → link.is_living ≡ true → (slice_get links other ≡ Some link) ⊎ ((other ≡ length links) × (new_link ≡ link)) → contains nat_cmp after (suc other) ≡ true
    one_of other link lives (inl before) = inserted_kept living after number (suc other) updates (has (suc other) link before lives)
    one_of other link lives (inr last) = subst (λ (n : ℕ). contains nat_cmp after n ≡ true) (is ∙ sym (ap suc last.0)) updates.1

    by : (number : ℕ) (link : Link) → link_at (links ++ new_link ∷ []) number ≡ Some link → link.is_living ≡ true → contains nat_cmp after number ≡ true
    by zero link found lives = absurd (let none : ⊥ = cc in none)
    by (suc other) link found lives = one_of other link lives (slice_added links new_link other link found)

-- behind a crash no session lives
pub none_living : (event : ℕ) (living : BTreeSet ℕ) (links : List Link) → HasLiving living (map (fallen_link event) links)
none_living event living links = by
  where
    at_place : (links : List Link) (other : ℕ) (link : Link) → slice_get (map (fallen_link event) links) other ≡ Some link → link.is_living ≡ false
    at_place [] other link found = absurd (let none : ⊥ = cc in none)
    at_place (l ∷ links) zero link found = ap (λ (l : Link). l.is_living) (sym (same_link (fallen_link event l) link found))
    at_place (l ∷ links) (suc other) link found = at_place links other link found

    by : (number : ℕ) (link : Link) → link_at (map (fallen_link event) links) number ≡ Some link → link.is_living ≡ true → contains nat_cmp living number ≡ true
    by zero link found lives = absurd (let none : ⊥ = cc in none)
    by (suc other) link found lives = clash link.is_living (at_place links other link found) lives
