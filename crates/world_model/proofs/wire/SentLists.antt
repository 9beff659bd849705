-- What was sent on each connection, as lists in the order of connections.
use Rattle.std.proofs.Common.{◌≡◌, refl, sym, ap, ◌∙◌, Bool, true, false, ℕ, suc, zero, fold, List, [], ◌∷◌, ◌++◌, map, Option, Some, None, if◌then◌else◌}
use Rattle.std.specs.Prelude.{slice_get, slice_set}
use Rattle.std.specs.List.{list_any}
use Rattle.std.specs.Option.{option_map_or}
use Rattle.world_model.specs.meaning.Frames.{Sent}
use Rattle.world_model.specs.meaning.Links.{Link, link_at, with_link, changed, ends, is_close, sends}

abbrev pub sent_lists : List Link → List (List Sent)
sent_lists links = map (λ link. link.sent) links

-- these frames are sent on the connection of this index
abbrev pub spoken_at : List (List Sent) → ℕ → List Sent → List (List Sent)
spoken_at [] index frames = []
spoken_at (first ∷ later) zero frames = (first ++ frames) ∷ later
spoken_at (first ∷ later) (suc index) frames = first ∷ spoken_at later index frames

-- of this number, if there is one
abbrev pub spoken : List (List Sent) → ℕ → List Sent → List (List Sent)
spoken lists zero frames = lists
spoken lists (suc index) frames = spoken_at lists index frames

-- ONE CONNECTION ----------------------------------------------------------------------------------

set_same : (links : List Link) (index : ℕ) (old new : Link) → slice_get links index ≡ Some old → new.sent ≡ old.sent → sent_lists (slice_set links index new) ≡ sent_lists links
set_same [] index old new is same = refl
set_same (first ∷ links) zero old new is same =
    let here : first ≡ old = cc in ap (λ (sent : List Sent). sent ∷ sent_lists links) (same ∙ ap (λ (link : Link). link.sent) (sym here))
set_same (first ∷ links) (suc index) old new is same = ap (λ (lists : List (List Sent)). first.sent ∷ lists) (set_same links index old new is same)

pub with_same : (links : List Link) (number : ℕ) (old new : Link) → link_at links number ≡ Some old → new.sent ≡ old.sent → sent_lists (with_link links number new) ≡ sent_lists links
with_same links zero old new is same = refl
with_same links (suc index) old new is same = set_same links index old new is same

found_same : (change : Link → Link) (links : List Link) (number : ℕ) (found : Option Link) → link_at links number ≡ found → ((link : Link) → (change link).sent ≡ link.sent)
    → sent_lists (option_map_or (λ link. with_link links number (change link)) found links) ≡ sent_lists links
found_same change links number None is same = refl
found_same change links number (Some link) is same = with_same links number link (change link) is (same link)

pub changed_same : (change : Link → Link) (links : List Link) (number : ℕ) → ((link : Link) → (change link).sent ≡ link.sent) → sent_lists (changed change links number) ≡ sent_lists links
changed_same change links number same = found_same change links number (link_at links number) refl same

pub mapped_same : (change : Link → Link) (links : List Link) → ((link : Link) → (change link).sent ≡ link.sent) → sent_lists (map change links) ≡ sent_lists links
mapped_same change [] same = refl
mapped_same change (link ∷ links) same =
    ap (λ (sent : List Sent). sent ∷ sent_lists (map change links)) (same link) ∙ ap (λ (lists : List (List Sent)). link.sent ∷ lists) (mapped_same change links same)

-- FRAMES MORE -------------------------------------------------------------------------------------

set_more : (links : List Link) (index : ℕ) (old new : Link) (frames : List Sent) → slice_get links index ≡ Some old → new.sent ≡ old.sent ++ frames → sent_lists (slice_set links index new) ≡ spoken_at (sent_lists links) index frames
set_more [] index old new frames is more = refl
set_more (first ∷ links) zero old new frames is more =
    let here : first ≡ old = cc in ap (λ (sent : List Sent). sent ∷ sent_lists links) (more ∙ ap (λ (link : Link). link.sent ++ frames) (sym here))
set_more (first ∷ links) (suc index) old new frames is more = ap (λ (lists : List (List Sent)). first.sent ∷ lists) (set_more links index old new frames is more)

none_more : (links : List Link) (index : ℕ) (frames : List Sent) → slice_get links index ≡ None → spoken_at (sent_lists links) index frames ≡ sent_lists links
none_more [] index frames is = refl
none_more (first ∷ links) zero frames is = absurd (let never : ⊥ = cc in never)
none_more (first ∷ links) (suc index) frames is = ap (λ (lists : List (List Sent)). first.sent ∷ lists) (none_more links index frames is)

found_more : (change : Link → Link) (frames : List Sent) (links : List Link) (number : ℕ) (found : Option Link) → link_at links number ≡ found → ((link : Link) → (change link).sent ≡ link.sent ++ frames)
    → sent_lists (option_map_or (λ link. with_link links number (change link)) found links) ≡ spoken (sent_lists links) number frames
found_more change frames links zero None is more = refl
found_more change frames links (suc index) None is more = sym (none_more links index frames is)
found_more change frames links zero (Some link) is more = absurd (let never : ⊥ = cc in never)
found_more change frames links (suc index) (Some link) is more = set_more links index link (change link) frames is (more link)

pub changed_more : (change : Link → Link) (frames : List Sent) (links : List Link) (number : ℕ) → ((link : Link) → (change link).sent ≡ link.sent ++ frames) → sent_lists (changed change links number) ≡ spoken (sent_lists links) number frames
changed_more change frames links number more = found_more change frames links number (link_at links number) refl more

ended_sent : (event : ℕ) (link : Link) → (ends event link).sent ≡ link.sent
ended_sent event link = by link.is_open
  where
    by : (opens : Bool) → (if opens then record link { is_open = false; ended = Some event } else link).sent ≡ link.sent
    by true = refl
    by false = refl

pub sends_more : (event : ℕ) (frames : List Sent) (link : Link) → (sends event frames link).sent ≡ link.sent ++ frames
sends_more event frames link = by (list_any (λ sent. is_close sent.frame) frames)
  where
    sending : Link
    sending = record link { sent = link.sent ++ frames; up = link.up ++ frames }

    by : (closes : Bool) → (if closes then ends event sending else sending).sent ≡ link.sent ++ frames
    by true = ended_sent event sending
    by false = refl

pub each_more : (event : ℕ) (frames : List Sent) (links : List Link) (numbers : List ℕ)
    → sent_lists (fold (changed (sends event frames)) links numbers) ≡ fold (λ (lists : List (List Sent)) (number : ℕ). spoken lists number frames) (sent_lists links) numbers
each_more event frames links [] = refl
each_more event frames links (number ∷ numbers) =
    each_more event frames (changed (sends event frames) links number) numbers
    ∙ ap (λ (lists : List (List Sent)). fold (λ (all : List (List Sent)) (one : ℕ). spoken all one frames) lists numbers) (changed_more (sends event frames) frames links number (sends_more event frames))
