-- What an event leaves of a connection on which no Close is sent: it is closed as it was, and does
-- not open again.
use Rattle.std.proofs.Common.{◌≡◌, ◌≢◌, refl, sym, ap, subst, ◌∙◌, Bool, true, false, ℕ, ◌||◌, List, [], ◌∷◌, ◌++◌, map, fold, Option, Some, option_map, ◌⊎◌, inl, inr, if◌then◌else◌}
use Rattle.std.specs.List.{list_any}
use Rattle.std.proofs.lemmas.List.Folds.{list_any-append}
use Rattle.svc_values.specs.declared.frame.Down.{Down}
use Rattle.pool_core.specs.meaning.Slots.{is_among}
use Rattle.client_model.specs.declared.input.Input.{Input}
use Rattle.outage_schedule.specs.declared.item.Served.{Served}
use Rattle.world_model.specs.meaning.Crashing.{fallen_link}
use Rattle.world_model.specs.meaning.Cutting.{cut_link}
use Rattle.world_model.specs.meaning.Frames.{Sent, Reply}
use Rattle.world_model.specs.meaning.Links.{Link, link_at, with_link, changed, is_close, ends, sends, takes}
use Rattle.world_model.specs.Parts.{is_closed}
use Rattle.world_model.specs.meaning.Serving.{Front, is_blocked, reply_of, commits_after, after_front, handled}
use Rattle.shown_laws.proofs.links.EventsTold.{not_among}
use Rattle.shown_laws.proofs.events.Lookups.{either, with_own, with_other, changed_own, changed_other, all_changed}
use Rattle.shown_laws.proofs.links.RepliesTold.{ends_case}

-- it stays so
pub record Stays (a b : Link) : Type 0 where
  pub closed : is_closed b ≡ is_closed a
  pub shut : a.is_open ≡ false → b.is_open ≡ false

pub stays_self : (link : Link) → Stays link link
stays_self link = record { closed = refl; shut = λ shut. shut }

pub stays_then : (a b c : Link) → Stays a b → Stays b c → Stays a c
stays_then a b c one other = record { closed = other.closed ∙ one.closed; shut = λ shut. other.shut (one.shut shut) }

-- LINKS -------------------------------------------------------------------------------------------

pub ends_stays : (event : ℕ) (link : Link) → Stays link (ends event link)
ends_stays event link = ends_case (Stays link) event link (λ opens. record { closed = refl; shut = λ shut. refl }) (λ shut. stays_self link)

pub front_stays : (front : Front) (served : Served) (reply : Option Down) → Stays front.link (after_front front served reply)
front_stays front served reply = record { closed = refl; shut = λ shut. shut }

pub handled_stays : (event : ℕ) (front : Front) (served : Served) → Stays front.link (handled event front served)
handled_stays event front served = by (is_blocked served.item)
  where
    by : (blocked : Bool)
        → Stays front.link (if blocked then ends event (after_front front served (reply_of served.session (commits_after front.link served.item) served.item)) else after_front front served (reply_of served.session (commits_after front.link served.item) served.item))
    by true =
        stays_then front.link (after_front front served (reply_of served.session (commits_after front.link served.item) served.item)) (ends event (after_front front served (reply_of served.session (commits_after front.link served.item) served.item)))
        (front_stays front served (reply_of served.session (commits_after front.link served.item) served.item)) (ends_stays event (after_front front served (reply_of served.session (commits_after front.link served.item) served.item)))
    by false = front_stays front served (reply_of served.session (commits_after front.link served.item) served.item)

fallen_stays : (event : ℕ) (link : Link) → Stays link (fallen_link event link)
fallen_stays event link = let one : Stays link (ends event link) = ends_stays event link in record { closed = one.closed; shut = one.shut }

pub cut_stays : (event up down : ℕ) (link : Link) → Stays link (cut_link event up down link)
cut_stays event up down link = let one : Stays link (ends event link) = ends_stays event link in record { closed = one.closed; shut = one.shut }

pub takes_stays : (input : Input) (reply : Reply) (left : List Reply) (link : Link) → Stays link (takes input reply left link)
takes_stays input reply left link = record { closed = refl; shut = λ shut. shut }

-- Frames without a Close
pub sends_stays : (event : ℕ) (frames : List Sent) (link : Link) → list_any (λ sent. is_close sent.frame) frames ≡ false → Stays link (sends event frames link)
sends_stays event frames link none =
    subst (λ (test : Bool). Stays link (if test then ends event (record link { sent = link.sent ++ frames; up = link.up ++ frames }) else record link { sent = link.sent ++ frames; up = link.up ++ frames })) (sym none)
    (record {
      closed = list_any-append (λ (sent : Sent). is_close sent.frame) link.sent frames ∙ (ap (λ (b : Bool). is_closed link || b) none ∙ or_none (is_closed link));
      shut = λ shut. shut;
    })
  where
    or_none : (b : Bool) → (b || false) ≡ b
    or_none true = refl
    or_none false = refl

-- BY NUMBER ---------------------------------------------------------------------------------------

-- the connection of this number stays so
pub record StaysAt (links news : List Link) (number : ℕ) (link : Link) : Type 0 where
  pub next : Link
  pub there : link_at news number ≡ Some next
  pub stays : Stays link next

abbrev pub AllStay : List Link → List Link → ℕ → Type 0
AllStay links news number = (link : Link) → link_at links number ≡ Some link → StaysAt links news number link

pub same_stay : (links news : List Link) (number : ℕ) → link_at news number ≡ link_at links number → AllStay links news number
same_stay links news number same link there = record { next = link; there = same ∙ there; stays = stays_self link }

pub then_stay : (links between news : List Link) (number : ℕ) → AllStay links between number → AllStay between news number → AllStay links news number
then_stay links between news number one other link there =
    let first : StaysAt links between number link = one link there in
    let last : StaysAt between news number first.next = other first.next first.there in
    record { next = last.next; there = last.there; stays = stays_then link first.next last.next first.stays last.stays }

pub with_stay : (links : List Link) (number : ℕ) (old new : Link) → link_at links number ≡ Some old → Stays old new → (other : ℕ) → AllStay links (with_link links number new) other
with_stay links number old new at stays other = by (either other number)
  where
    by : (other ≡ number) ⊎ (other ≢ number) → AllStay links (with_link links number new) other
    by (inl same) link there =
        let both : Some old ≡ Some link = sym at ∙ (ap (link_at links) (sym same) ∙ there) in
        let is : old ≡ link = cc in
        record { next = new; there = ap (link_at (with_link links number new)) same ∙ with_own links number old new at; stays = subst (λ (l : Link). Stays l new) is stays }
    by (inr differ) link there = same_stay links (with_link links number new) other (with_other links number other new differ) link there

pub changed_stay : (change : Link → Link) (links : List Link) (number : ℕ) → ((link : Link) → link_at links number ≡ Some link → Stays link (change link)) → (other : ℕ) → AllStay links (changed change links number) other
changed_stay change links number stays other = by (either other number)
  where
    by : (other ≡ number) ⊎ (other ≢ number) → AllStay links (changed change links number) other
    by (inl same) link there =
        let at : link_at links number ≡ Some link = ap (link_at links) (sym same) ∙ there in
        record { next = change link; there = ap (link_at (changed change links number)) same ∙ (changed_own change links number ∙ ap (option_map change) at); stays = stays link at }
    by (inr differ) link there = same_stay links (changed change links number) other (changed_other change links number other differ) link there

pub fallen_stay : (event : ℕ) (links : List Link) (number : ℕ) → AllStay links (map (fallen_link event) links) number
fallen_stay event links number link there = record { next = fallen_link event link; there = all_changed (fallen_link event) links number ∙ ap (option_map (fallen_link event)) there; stays = fallen_stays event link }

-- one on which no drain sends a Close
pub drains_stay : (change : Link → Link) (numbers : List ℕ) (links : List Link) (number : ℕ) → is_among number numbers ≡ false → AllStay links (fold (changed change) links numbers) number
drains_stay change [] links number none = same_stay links links number refl
drains_stay change (other ∷ numbers) links number none =
    let parts = not_among number other numbers none in
    then_stay links (changed change links other) (fold (changed change) (changed change links other) numbers) number
    (same_stay links (changed change links other) number (changed_other change links other number parts.0)) (drains_stay change numbers (changed change links other) number parts.1)
