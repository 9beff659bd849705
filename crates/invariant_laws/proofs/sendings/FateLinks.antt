-- The fate of a sending where its connection is lent, and where a reply is taken on it.
use Rattle.std.proofs.Common.{◌≡◌, refl, sym, ap, subst, ◌∙◌, true, false, ℕ, ◌+◌, ◌≤◌, ◌<◌, ◌&&◌, length, List, [], ◌∷◌, ◌++◌, Option, Some, None, ◌⊎◌, inl, inr, arith}
use Rattle.std.specs.Prelude.{◌==◌, not}
use Rattle.std.specs.List.{list_all, last_or}
use Rattle.std.specs.Option.{option_or, option_map_or}
use Rattle.std.proofs.lemmas.Bool.{and_parts, or_cases, or_right}
use Rattle.std.proofs.lemmas.List.Folds.{list_all-append}
use Rattle.svc_values.specs.declared.answer.Answer.{Answer}
use Rattle.svc_values.specs.declared.call.Call.{Call}
use Rattle.svc_values.specs.declared.draw.Draw.{Draw}
use Rattle.svc_values.specs.declared.entry.Ltxid.{Ltxid}
use Rattle.svc_values.specs.declared.frame.Down.{Down}
use Rattle.svc_values.specs.declared.frame.Down.TheVariants as down
use Rattle.svc_values.specs.declared.frame.Up.{Up}
use Rattle.svc_values.specs.declared.frame.Up.TheVariants as up
use Rattle.svc_values.specs.meaning.Endings.{ends_committed}
use Rattle.client_model.specs.declared.input.Input.TheVariants.{Took}
use Rattle.client_model.specs.meaning.Terms.{Phase, Greeting, Asked, Running, Replaying}
use Rattle.client_model.specs.meaning.States.{Living}
use Rattle.world_model.specs.meaning.Frames.{Owner, Sent, Reply}
use Rattle.world_model.specs.records.Hold.{is_idle, is_awaited, is_connect, is_ask, is_call}
use Rattle.world_model.specs.meaning.Links.{Link, told_by, sends, takes}
use Rattle.invariant_laws.specs.Once.{answered_blocked, is_blocked_reply}
use Rattle.world_model.specs.Parts.{Sending, is_answered, is_commit_call, is_commit_frame, is_unmarked, is_unmarked_frame, is_out, out_frame, held_number, count_reps, is_rep}
use Rattle.world_model.specs.Sames.{owned_by, is_of, same_owners, same_up, same_down}
use Rattle.world_model.specs.meaning.Serving.{is_commit}
use Rattle.world_model.proofs.Offered.{sends_alike, last_kept, last_pushed, loud, all_said_loud, Known, IsLast, taken_number, commit_rep, told_alive, is_orderly, idle_none, is_hushed, awaits, sends_none, same_owner_is, eq_from, not_both}
use Rattle.invariant_laws.proofs.sendings.Fates.{Fate, Waits}
use Rattle.invariant_laws.proofs.sendings.LinkFates.{held_rises, commit_above, shown_commits}
use Rattle.invariant_laws.proofs.losses.ReplyItems.{answering as answers_at, answers_last, said_by, call_says}

pub owned_same : (a b : Owner) (sent : Sent) → owned_by a sent ≡ true → owned_by b sent ≡ true → a ≡ b
owned_same a b sent one other = by sent.owner one other
  where
    by : (owner : Option Owner) → is_of a owner ≡ true → is_of b owner ≡ true → a ≡ b
    by None one other = absurd (let none : ⊥ = cc in none)
    by (Some owner) one other = same_owner_is a owner one ∙ sym (same_owner_is b owner other)

-- WHAT IS OUT -------------------------------------------------------------------------------------

-- what is out on the connection of a request is its own, and what its phase waits for
pub record OutOf (owner : Owner) (phase : Phase) (link : Link) : Type 0 where
  pub sent : Sent
  pub out : is_out link ≡ true
  pub last : last_or None link.sent ≡ Some sent
  pub frame : out_frame link ≡ Some sent
  pub own : owned_by owner sent ≡ true
  pub awaited : is_awaited phase sent ≡ true

pub out_of : (owner : Owner) (phase : Phase) (link : Link) → awaits owner phase link ≡ true → OutOf owner phase link
out_of owner phase link here = by (last_or None link.sent) refl parts.1
  where
    parts : (is_out link ≡ true) × (option_map_or (λ sent. is_answered sent.frame && (owned_by owner sent && is_awaited phase sent)) (last_or None link.sent) false ≡ true)
    parts = and_parts (is_out link) (option_map_or (λ sent. is_answered sent.frame && (owned_by owner sent && is_awaited phase sent)) (last_or None link.sent) false) here

    by : (found : Option Sent) → last_or None link.sent ≡ found → option_map_or (λ sent. is_answered sent.frame && (owned_by owner sent && is_awaited phase sent)) found false ≡ true → OutOf owner phase link
    by None is here = absurd (let none : ⊥ = cc in none)
    by (Some sent) is here =
        let one = and_parts (is_answered sent.frame) (owned_by owner sent && is_awaited phase sent) here in
        let two = and_parts (owned_by owner sent) (is_awaited phase sent) one.1 in
        record { sent = sent; out = parts.0; last = is; frame = last_kept is_rep None None link.sent (λ never. refl) (ap (λ (last : Option Sent). option_map_or is_rep last false) is ∙ one.0) ∙ is; own = two.0; awaited = two.1 }

-- a call with a commit is waited for by one that runs
pub runs_where : (phase : Phase) (sent : Sent) → is_awaited phase sent ≡ true → is_commit_call sent ≡ true → (state : Living) × (phase ≡ Running state)
runs_where phase sent awaited commits = by phase sent.frame awaited commits
  where
    connects : {A : Type 0} (frame : Up) → is_connect frame ≡ true → is_commit_frame frame ≡ true → A
    connects up.Connect is commits = absurd (let none : ⊥ = cc in none)
    connects frame is commits = absurd (let none : ⊥ = cc in none)

    asks : {A : Type 0} (x : Ltxid) (frame : Up) → is_ask x frame ≡ true → is_commit_frame frame ≡ true → A
    asks x (up.Outcome y) is commits = absurd (let none : ⊥ = cc in none)
    asks x frame is commits = absurd (let none : ⊥ = cc in none)

    repeats : {A : Type 0} (index : ℕ) (frame : Up) → is_call true index sent frame ≡ true → is_commit_frame frame ≡ true → A
    repeats index (up.Call false kept call) is commits = absurd (let none : ⊥ = cc in none)
    repeats index frame is commits = absurd (let none : ⊥ = cc in none)

    by : (phase : Phase) (frame : Up) → is_awaited phase (record sent { frame = frame }) ≡ true → is_commit_frame frame ≡ true → (state : Living) × (phase ≡ Running state)
    by (Running state) frame awaited commits = (state, refl)
    by (Greeting lost) frame awaited commits = connects frame awaited commits
    by (Asked asking) frame awaited commits = asks asking.ltxid frame awaited commits
    by (Replaying state) (up.Call false kept call) awaited commits = absurd (let none : ⊥ = cc in none)
    by (Replaying state) frame awaited commits = absurd (let none : ⊥ = cc in none)
    by phase frame awaited commits = absurd (let none : ⊥ = cc in none)

pub record CommitCall (sent : Sent) : Type 0 where
  pub kept : List Draw
  pub call : Call
  pub is : sent.frame ≡ up.Call false kept call

pub commit_call : (sent : Sent) → is_commit_call sent ≡ true → CommitCall sent
commit_call sent commits = by sent.frame refl commits
  where
    by : (frame : Up) → sent.frame ≡ frame → is_commit_frame frame ≡ true → CommitCall sent
    by (up.Call false kept call) is commits = record { kept = kept; call = call; is = is }
    by frame is commits = absurd (let none : ⊥ = cc in none)

pub unmarked_call : (sent : Sent) → is_commit_call sent ≡ true → is_unmarked sent ≡ true
unmarked_call sent commits = let it = commit_call sent commits in ap is_unmarked_frame it.is

-- LENT --------------------------------------------------------------------------------------------

last_loud : (found : Option Reply) (replies : List Reply) → (option_map_or (λ reply. is_blocked_reply reply.frame) found false ≡ false) → list_all loud replies ≡ true → option_map_or (λ reply. is_blocked_reply reply.frame) (last_or found replies) false ≡ false
last_loud found [] none all = none
last_loud found (reply ∷ replies) none all =
    let parts = and_parts (loud reply) (list_all loud replies) all in last_loud (Some reply) replies (by reply.frame parts.0) parts.1
  where
    by : (frame : Down) → not (is_hushed frame) ≡ true → is_blocked_reply frame ≡ false
    by down.Blocked is = absurd (let none : ⊥ = cc in none)
    by frame is = refl

-- one that lives was not told that a call was blocked
pub not_blocked : (link : Link) → is_orderly link ≡ true → link.is_living ≡ true → answered_blocked link ≡ false
not_blocked link orderly living =
    last_loud None link.taken refl (and_parts (list_all loud link.taken) (list_all loud link.down) (sym (list_all-append loud link.taken link.down) ∙ all_said_loud link orderly living)).0

-- so on one that is idle no sending waits
pub idle_waits : (sending : Sending) (link : Link) → is_idle link ≡ true → is_orderly link ≡ true → link.is_living ≡ true → Waits sending link → ⊥
idle_waits sending link idle orderly living waits = by (or_cases (is_out link) (answered_blocked link) waits.out)
  where
    by : (is_out link ≡ true) ⊎ (answered_blocked link ≡ true) → ⊥
    by (inl out) =
        let count : count_reps link.sent ≡ length link.taken + 1 = eq_from (count_reps link.sent) (length link.taken + 1) out in
        let same : count_reps link.sent ≡ length link.taken = idle_none link idle in
        let nothing : ⊥ = omega (arith, count, same) in
        nothing
    by (inr blocked) = not_both (answered_blocked link) blocked (not_blocked link orderly living)

pub idle_fate : (sending : Sending) (link : Link) (event : ℕ) (frames : List Sent) → is_idle link ≡ true → is_orderly link ≡ true → link.is_living ≡ true → Fate sending link → Fate sending (sends event frames link)
idle_fate sending link event frames idle orderly living fate =
    sends_alike (Fate sending) event frames link (record { low = fate.low; told = fate.told; waits = λ none. absurd (idle_waits sending link idle orderly living (fate.waits none)) })
    (record { low = fate.low; told = fate.told; waits = λ none. absurd (idle_waits sending link idle orderly living (fate.waits none)) })

-- TAKEN -------------------------------------------------------------------------------------------

module _ (link : Link) (reply : Reply) (later : List Reply) (known : Known link) (down_is : link.down ≡ reply ∷ later) (event : ℕ) (frames : List Sent) where
  abbrev next : Link
  next = sends event frames (takes (Took reply.frame link.is_open) reply later link)

  pub next_held : next.held ≡ option_or (told_by (Took reply.frame link.is_open)) link.held
  next_held = sends_alike (λ (l : Link). l.held ≡ option_or (told_by (Took reply.frame link.is_open)) link.held) event frames (takes (Took reply.frame link.is_open) reply later link) refl refl

  -- what is held rises
  pub next_rises : held_number link ≤ held_number next
  next_rises =
      let rises = held_rises link reply later known down_is in
      let same : held_number next ≡ option_map_or (λ (x : Ltxid). x.number) (option_or (told_by (Took reply.frame true)) link.held) 0 =
      ap (λ (held : Option Ltxid). option_map_or (λ (x : Ltxid). x.number) held 0) (next_held ∙ ap (λ (told : Option Ltxid). option_or told link.held) (told_alive reply.frame link.is_open)) in
      omega (arith, rises, same)

  -- a call that was blocked waits for no more
  pub blocked_fate : (sending : Sending) → frames ≡ [] → reply.frame ≡ down.Blocked → Fate sending link → sending.taken ≡ None → Fate sending next
  blocked_fate sending none blocked fate untaken =
      subst (Fate sending) (sym (ap (λ (sent : List Sent). sends event sent (takes (Took reply.frame link.is_open) reply later link)) none ∙ sends_none event (takes (Took reply.frame link.is_open) reply later link)))
      (record {
        low = let low = fate.low in omega (arith, low, number);
        told = λ answers taken commits. absurd (let never : None ≡ Some answers = sym untaken ∙ taken in let nothing : ⊥ = cc in nothing);
        waits = λ still.
            let waits = fate.waits untaken in
            record {
              out = or_right (count_reps link.sent == length (link.taken ++ reply ∷ []) + 1) (answered_blocked (takes (Took reply.frame link.is_open) reply later link))
                  (ap (λ (last : Option Reply). option_map_or (λ one. is_blocked_reply one.frame) last false) (last_pushed None link.taken reply) ∙ ap is_blocked_reply blocked);
              held = same ∙ waits.held;
              frame = waits.frame;
              last = waits.last;
              is = waits.is;
            };
      })
    where
      same : option_or (told_by (Took reply.frame link.is_open)) link.held ≡ link.held
      same = ap (λ (frame : Down). option_or (told_by (Took frame link.is_open)) link.held) blocked

      number : option_map_or (λ (x : Ltxid). x.number) (option_or (told_by (Took reply.frame link.is_open)) link.held) 0 ≡ held_number link
      number = ap (λ (held : Option Ltxid). option_map_or (λ (x : Ltxid). x.number) held 0) same

  -- a reply that says Committed is counted above what was held
  pub committed_above : (answers : List Answer) (draws : List Draw) (x : Ltxid) (last : Sent) (kept : List Draw) (call : Call) → reply.frame ≡ down.Reply answers draws x → last_or None link.sent ≡ Some last → last.frame ≡ up.Call false kept call → is_rep last ≡ true → ends_committed answers ≡ true
      → (held_number link < link.commits) × (held_number next ≡ link.commits)
  committed_above answers draws x last kept call says is calls rep ends = (commit_above link reply later known down_is answering commit, held ∙ taken_number link reply x known answering told)
    where
      answering : IsLast link reply
      answering = answers_at link known reply later down_is last is rep

      commit : is_commit answering.one.served.item ≡ true
      commit =
          let one = and_parts (same_owners answering.one.sent.owner last.owner) ((answering.one.sent.call == last.call) && same_up answering.one.sent.frame last.frame) (answers_last link known reply later down_is last is rep) in
          let two = and_parts (answering.one.sent.call == last.call) (same_up answering.one.sent.frame last.frame) one.1 in
          shown_commits call (record { answers = answers; draws = draws; ltxid = x }) answering.one.served.item
          (call_says answers draws x kept call answering.one.sent.frame answering.one.served.item answering.frame (subst (λ (frame : Up). same_up answering.one.sent.frame frame ≡ true) calls two.1) (said_by link known reply answering)
          (subst (λ (frame : Down). same_down frame answering.frame ≡ true) says answering.same)) ends

      told : told_by (Took reply.frame true) ≡ Some x
      told = ap (λ (frame : Down). told_by (Took frame true)) says

      held : held_number next ≡ x.number
      held = ap (λ (held : Option Ltxid). option_map_or (λ (y : Ltxid). y.number) held 0) (next_held ∙ ap (λ (frame : Down). option_or (told_by (Took frame link.is_open)) link.held) says)

  -- one that is answered now
  pub answered_fate : (sending : Sending) (answers : List Answer) (draws : List Draw) (x : Ltxid) (last : Sent) → reply.frame ≡ down.Reply answers draws x → last_or None link.sent ≡ Some last → is_commit_call last ≡ true → Fate sending link → sending.taken ≡ None
      → Fate (record sending { taken = Some answers }) next
  answered_fate sending answers draws x last says is commits fate untaken = record {
    low = let low = fate.low in let rises = next_rises in omega (arith, low, rises);
    told = λ others taken ends. above (let same : answers ≡ others = cc in ap ends_committed same ∙ ends);
    waits = λ never. absurd (let nothing : ⊥ = cc in nothing);
  }
    where
      above : ends_committed answers ≡ true → sending.ltxid.number < held_number next
      above ends =
          let it = commit_call last commits in
          let over = committed_above answers draws x last it.kept it.call says is it.is (commit_rep last commits) ends in
          let high : held_number link < link.commits = over.0 in
          let held : held_number next ≡ link.commits = over.1 in
          let mine : held_number link ≡ sending.ltxid.number = ap (λ (held : Option Ltxid). option_map_or (λ (y : Ltxid). y.number) held 0) (fate.waits untaken).held in
          omega (arith, high, held, mine)
