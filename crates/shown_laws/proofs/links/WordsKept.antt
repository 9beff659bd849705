-- What is read of each connection that is told stays, where a change leaves it.
use Rattle.std.proofs.Common.{◌≡◌, ◌≢◌, refl, sym, ap, ◌∙◌, Bool, true, false, ℕ, List, [], ◌∷◌, ◌++◌, map, Option, Some, None, option_map, ◌⊎◌, inl, inr}
use Rattle.std.specs.Option.{option_map_or}
use Rattle.svc_values.specs.declared.entry.SessionId.{SessionId}
use Rattle.outage_schedule.specs.declared.item.Item.{Item}
use Rattle.outage_schedule.specs.declared.item.Item.TheVariants as item
use Rattle.outage_schedule.specs.declared.item.Served.{Served}
use Rattle.outage_schedule.specs.declared.note.GoNote.{GoNote}
use Rattle.outage_schedule.specs.declared.note.GoNote.TheVariants as go
use Rattle.shown_clauses.specs.meaning.Fronts.{changed_if, with_changed}
use Rattle.shown_clauses.specs.meaning.Links.{Link, is_connect, has_session, is_link, link_of, new_link, add_reply, connected, served_on, stopped_connected, stopped_on, end_link, end_session, acquire, take_reply, after_go}
use Rattle.shown_laws.proofs.links.ConnectionsTold.{takes_kept}
use Rattle.shown_laws.proofs.events.Lookups.{either}
use Rattle.shown_laws.proofs.links.SeenLists.{KeepsNumber, link_changed, all_changed, new_own, new_others}

module _ {B : Type 0} (word : Link → Option B) where
  abbrev pub word_at : ℕ → List Link → Option B
  word_at number links = option_map_or word (link_of number links) None

  abbrev pub KeepsWord : (Link → Link) → Type 0
  KeepsWord change = (one : Link) → word (change one) ≡ word one

  -- SOME CHANGE, OR ALL ---------------------------------------------------------------------------

  if_kept : (change : Link → Link) → KeepsWord change → (test : Link → Bool) (found : Option Link) → option_map_or word (option_map (λ one. changed_if (test one) change one) found) None ≡ option_map_or word found None
  if_kept change keeps test None = refl
  if_kept change keeps test (Some one) = by (test one)
    where
      by : (met : Bool) → word (changed_if met change one) ≡ word one
      by true = keeps one
      by false = refl

  pub some_kept : (number : ℕ) (test : Link → Bool) (change : Link → Link) → KeepsNumber change → KeepsWord change → (links : List Link) → word_at number (with_changed test change links) ≡ word_at number links
  some_kept number test change same keeps links = ap (λ (found : Option Link). option_map_or word found None) (link_changed number test change same links) ∙ if_kept change keeps test (link_of number links)

  -- one ends, or all, or those of a session by an item
  abbrev pub KeptByEnds : Type 0
  KeptByEnds = (event : ℕ) → KeepsWord (end_link event)

  pub one_ended : KeptByEnds → (number other event : ℕ) (links : List Link) → word_at number (with_changed (is_link other) (end_link event) links) ≡ word_at number links
  one_ended ends number other event links = some_kept number (is_link other) (end_link event) (λ one. refl) (ends event) links

  pub all_ended : KeptByEnds → (number event : ℕ) (links : List Link) → word_at number (map (end_link event) links) ≡ word_at number links
  all_ended ends number event links = ap (λ (found : Option Link). option_map_or word found None) (all_changed number (end_link event) (λ one. refl) links) ∙ by (link_of number links)
    where
      by : (found : Option Link) → option_map_or word (option_map (end_link event) found) None ≡ option_map_or word found None
      by None = refl
      by (Some one) = ends event one

  pub session_ended : KeptByEnds → (number event : ℕ) (session : SessionId) (one : Item) (links : List Link) → word_at number (end_session event session one links) ≡ word_at number links
  session_ended ends number event session (item.Blocked call) links = some_kept number (has_session session) (end_link event) (λ one. refl) (ends event) links
  session_ended ends number event session (item.Refused cause) links = some_kept number (has_session session) (end_link event) (λ one. refl) (ends event) links
  session_ended ends number event session _ links = refl

  -- a step of a client
  pub gone_kept : ((client event : ℕ) → KeepsWord (acquire client event)) → ((client event : ℕ) → KeepsWord (take_reply client event)) → (number client event : ℕ) (did : GoNote) (links : List Link)
      → word_at number (after_go client event did links) ≡ word_at number links
  gone_kept lends takes number client event (go.Lent connection) links = some_kept number (is_link connection) (acquire client event) (λ one. refl) (lends client event) links
  gone_kept lends takes number client event (go.Took connection sent) links = some_kept number (is_link connection) (take_reply client event) (takes_kept client event) (takes client event) links
  gone_kept lends takes number client event _ links = refl

  -- WHAT AN ITEM IS TOLD AS -----------------------------------------------------------------------

  abbrev pub KeptByReplies : Type 0
  KeptByReplies = (one : Served) → KeepsWord (λ link. record link { replies = link.replies ++ one ∷ [] })

  replied_kept : KeptByReplies → (number connection : ℕ) (one : Served) (links : List Link) → word_at number (add_reply connection one links) ≡ word_at number links
  replied_kept adds number connection one links = some_kept number (is_link connection) _ (λ link. refl) (adds one) links

  -- an item but Connect's names none
  pub served_kept : KeptByReplies → (number connection : ℕ) (one : Served) (its : Item) (links : List Link) → is_connect its ≡ false → word_at number (served_on connection one its links) ≡ word_at number links
  served_kept adds number connection one item.Connect links is = absurd (let none : ⊥ = cc in none)
  served_kept adds number connection one (item.Call replay call answers draws) links is = replied_kept adds number connection one links
  served_kept adds number connection one (item.Blocked call) links is = replied_kept adds number connection one links
  served_kept adds number connection one (item.Outcome x result) links is = replied_kept adds number connection one links
  served_kept adds number connection one (item.Refused cause) links is = replied_kept adds number connection one links
  served_kept adds number connection one _ links is = refl

  pub stopped_kept : (number connection : ℕ) (one : Served) (its : Item) (links : List Link) → is_connect its ≡ false → word_at number (stopped_on connection one its links) ≡ word_at number links
  stopped_kept number connection one item.Connect links is = absurd (let none : ⊥ = cc in none)
  stopped_kept number connection one _ links is = refl

  -- and where one that is new has nothing to read, none changes it
  abbrev pub NoneIsNew : Type 0
  NoneIsNew = (connection : ℕ) (session : SessionId) (replies : List Served) → word (new_link connection session replies) ≡ None

  new_kept : NoneIsNew → (number connection : ℕ) (session : SessionId) (replies : List Served) (links : List Link) → link_of connection links ≡ None → word_at number (new_link connection session replies ∷ links) ≡ word_at number links
  new_kept fresh number connection session replies links none = by (either number connection)
    where
      by : (number ≡ connection) ⊎ (number ≢ connection) → word_at number (new_link connection session replies ∷ links) ≡ word_at number links
      by (inl same) =
          ap (λ (found : Option Link). option_map_or word found None) (new_own number (new_link connection session replies) links (sym same))
          ∙ (fresh connection session replies ∙ ap (λ (found : Option Link). option_map_or word found None) (sym (ap (λ (n : ℕ). link_of n links) same ∙ none)))
      by (inr differ) = ap (λ (found : Option Link). option_map_or word found None) (new_others number (new_link connection session replies) links differ)

  pub connected_kept : KeptByReplies → NoneIsNew → (number connection : ℕ) (one : Served) (links : List Link) → word_at number (connected connection one (link_of connection links) links) ≡ word_at number links
  connected_kept adds fresh number connection one links = by (link_of connection links) refl
    where
      by : (found : Option Link) → link_of connection links ≡ found → word_at number (connected connection one found links) ≡ word_at number links
      by None is = new_kept fresh number connection one.session (one ∷ []) links is
      by (Some link) is = replied_kept adds number connection one links

  pub crashed_kept : NoneIsNew → (number connection : ℕ) (one : Served) (links : List Link) → word_at number (stopped_connected connection one (link_of connection links) links) ≡ word_at number links
  crashed_kept fresh number connection one links = by (link_of connection links) refl
    where
      by : (found : Option Link) → link_of connection links ≡ found → word_at number (stopped_connected connection one found links) ≡ word_at number links
      by None is = new_kept fresh number connection one.session [] links is
      by (Some link) is = refl

  pub items_served : KeptByReplies → NoneIsNew → (number connection : ℕ) (one : Served) (its : Item) (links : List Link) → word_at number (served_on connection one its links) ≡ word_at number links
  items_served adds fresh number connection one item.Connect links = connected_kept adds fresh number connection one links
  items_served adds fresh number connection one its links = served_kept adds number connection one its links refl

  pub items_stopped : NoneIsNew → (number connection : ℕ) (one : Served) (its : Item) (links : List Link) → word_at number (stopped_on connection one its links) ≡ word_at number links
  items_stopped fresh number connection one item.Connect links = crashed_kept fresh number connection one links
  items_stopped fresh number connection one its links = stopped_kept number connection one its links refl
