-- What became of a sending against its connection, as facts; and what keeps it.
use Rattle.std.proofs.Common.{◌≡◌, refl, sym, ap, subst, ◌∙◌, Bool, true, false, ℕ, ◌+◌, ◌≤◌, ◌<◌, ◌&&◌, ◌||◌, filter, length, List, [], ◌∷◌, ◌++◌, map, Option, Some, None, arith}
use Rattle.std.specs.Prelude.{◌==◌, nat_le, nat_lt, is_none}
use Rattle.std.specs.List.{last_or}
use Rattle.std.specs.Option.{option_map_or}
use Rattle.std.proofs.lemmas.Bool.{and_parts, and_from, or_left}
use Rattle.std.proofs.lemmas.List.Elements.{filter-append}
use Rattle.svc_values.specs.declared.answer.Answer.{Answer}
use Rattle.svc_values.specs.declared.call.Call.{Call}
use Rattle.svc_values.specs.declared.entry.Ltxid.{Ltxid}
use Rattle.svc_values.specs.declared.frame.Up.TheVariants as up
use Rattle.svc_values.specs.declared.value.Value.{Value}
use Rattle.svc_values.specs.meaning.Calls.{has_commit}
use Rattle.svc_values.specs.meaning.Endings.{ends_committed}
use Rattle.svc_values.specs.meaning.Identifiers.{same_ltxid}
use Rattle.svc_values.specs.SameLaws.{same_ltxid_decides}
use Rattle.world_model.specs.meaning.Acting.{sent_by}
use Rattle.world_model.specs.meaning.Frames.{Owner, Sent, Reply}
use Rattle.world_model.specs.meaning.Links.{Link, sends}
use Rattle.invariant_laws.specs.Once.{is_frame_of, is_blocked_reply, answered_blocked, has_fate}
use Rattle.world_model.specs.Parts.{Sending, Scan, implies, is_rep, count_reps, is_out, out_frame, held_number}
use Rattle.world_model.specs.Sames.{same_owner}
use Rattle.world_model.proofs.Offered.{sends_alike, last_pushed, implied, reps_more, owner_self, ltxid_self, opening, le_from, le_to, lt_from, lt_to, eq_to, implied_by, none_is}
use Rattle.invariant_laws.proofs.talks.Placing.{SameOut}
use Rattle.invariant_laws.proofs.sendings.SendingsMade.{made}

-- no reply was taken to it: it is what is out, or was blocked
pub record Waits (sending : Sending) (link : Link) : Type 0 where
  pub out : (is_out link || answered_blocked link) ≡ true
  pub held : link.held ≡ Some sending.ltxid
  pub frame : Sent
  pub last : out_frame link ≡ Some frame
  pub is : is_frame_of sending frame ≡ true

pub record Fate (sending : Sending) (link : Link) : Type 0 where
  pub low : sending.ltxid.number ≤ held_number link
  pub told : (answers : List Answer) → sending.taken ≡ Some answers → ends_committed answers ≡ true → sending.ltxid.number < held_number link
  pub waits : sending.taken ≡ None → Waits sending link

-- AS A TEST ---------------------------------------------------------------------------------------

held_from : (held : Option Ltxid) (x : Ltxid) → option_map_or (same_ltxid x) held false ≡ true → held ≡ Some x
held_from None x is = absurd (let none : ⊥ = cc in none)
held_from (Some y) x is = ap Some (sym ((same_ltxid_decides x y).0 is))

abbrev waits_test : Sending → Link → Bool
waits_test sending link = (is_out link || answered_blocked link) && (option_map_or (same_ltxid sending.ltxid) link.held false && option_map_or (is_frame_of sending) (out_frame link) false)

waits_from : (sending : Sending) (link : Link) → waits_test sending link ≡ true → Waits sending link
waits_from sending link here = by (out_frame link) refl two.1
  where
    one : ((is_out link || answered_blocked link) ≡ true) × ((option_map_or (same_ltxid sending.ltxid) link.held false && option_map_or (is_frame_of sending) (out_frame link) false) ≡ true)
    one = and_parts (is_out link || answered_blocked link) (option_map_or (same_ltxid sending.ltxid) link.held false && option_map_or (is_frame_of sending) (out_frame link) false) here

    two : (option_map_or (same_ltxid sending.ltxid) link.held false ≡ true) × (option_map_or (is_frame_of sending) (out_frame link) false ≡ true)
    two = and_parts (option_map_or (same_ltxid sending.ltxid) link.held false) (option_map_or (is_frame_of sending) (out_frame link) false) one.1

    by : (found : Option Sent) → out_frame link ≡ found → option_map_or (is_frame_of sending) found false ≡ true → Waits sending link
    by None last is = absurd (let none : ⊥ = cc in none)
    by (Some frame) last is = record { out = one.0; held = held_from link.held sending.ltxid two.0; frame = frame; last = last; is = is }

waits_to : (sending : Sending) (link : Link) → Waits sending link → waits_test sending link ≡ true
waits_to sending link waits =
    and_from (is_out link || answered_blocked link) (option_map_or (same_ltxid sending.ltxid) link.held false && option_map_or (is_frame_of sending) (out_frame link) false) waits.out
    (and_from (option_map_or (same_ltxid sending.ltxid) link.held false) (option_map_or (is_frame_of sending) (out_frame link) false)
    (ap (λ (held : Option Ltxid). option_map_or (same_ltxid sending.ltxid) held false) waits.held ∙ ltxid_self sending.ltxid) (ap (λ (found : Option Sent). option_map_or (is_frame_of sending) found false) waits.last ∙ waits.is))

abbrev taken_test : Sending → ℕ → Option (List Answer) → Bool
taken_test sending number taken = option_map_or (λ answers. implies (ends_committed answers) (nat_lt sending.ltxid.number number)) taken true

pub fate_from : (sending : Sending) (link : Link) → has_fate sending link ≡ true → Fate sending link
fate_from sending link here =
    let one = and_parts (nat_le sending.ltxid.number (held_number link)) (taken_test sending (held_number link) sending.taken && implies (is_none sending.taken) (waits_test sending link)) here in
    let two = and_parts (taken_test sending (held_number link) sending.taken) (implies (is_none sending.taken) (waits_test sending link)) one.1 in
    record {
      low = le_from sending.ltxid.number (held_number link) one.0;
      told = λ answers taken commits. lt_from sending.ltxid.number (held_number link)
          (implied (ends_committed answers) (nat_lt sending.ltxid.number (held_number link)) commits (subst (λ (t : Option (List Answer)). taken_test sending (held_number link) t ≡ true) taken two.0));
      waits = λ none. waits_from sending link (implied (is_none sending.taken) (waits_test sending link) (ap is_none none) two.1);
    }

pub fate_to : (sending : Sending) (link : Link) → Fate sending link → has_fate sending link ≡ true
fate_to sending link fate =
    and_from (nat_le sending.ltxid.number (held_number link)) (taken_test sending (held_number link) sending.taken && implies (is_none sending.taken) (waits_test sending link)) (le_to sending.ltxid.number (held_number link) fate.low)
    (and_from (taken_test sending (held_number link) sending.taken) (implies (is_none sending.taken) (waits_test sending link)) (by sending.taken refl)
    (implied_by (is_none sending.taken) (waits_test sending link) (λ none. waits_to sending link (fate.waits (none_is sending.taken none)))))
  where
    by : (taken : Option (List Answer)) → sending.taken ≡ taken → taken_test sending (held_number link) taken ≡ true
    by None is = refl
    by (Some answers) is = implied_by (ends_committed answers) (nat_lt sending.ltxid.number (held_number link)) (λ commits. lt_to sending.ltxid.number (held_number link) (fate.told answers is commits))

-- WHERE NOTHING IS SAID ---------------------------------------------------------------------------

pub same_fate : (sending : Sending) (a b : Link) → SameOut a b → Fate sending a → Fate sending b
same_fate sending a b same fate =
    let number : held_number b ≡ held_number a = ap (λ (held : Option Ltxid). option_map_or (λ x. x.number) held 0) same.held in
    record {
      low = omega (arith, fate.low, number);
      told = λ answers taken commits. let low = fate.told answers taken commits in omega (arith, low, number);
      waits = λ none.
          let waits = fate.waits none in
          record {
            out = ap (λ (n : ℕ). (n == length b.taken + 1) || answered_blocked b) same.count
                ∙ (ap (λ (taken : List Reply). (count_reps a.sent == length taken + 1) || option_map_or (λ reply. is_blocked_reply reply.frame) (last_or None taken) false) same.taken ∙ waits.out);
            held = same.held ∙ waits.held;
            frame = waits.frame;
            last = same.out ∙ waits.last;
            is = waits.is;
          };
    }

-- one that was answered keeps its fate where what is held rises
pub taken_fate : (sending : Sending) (answers : List Answer) (a b : Link) → sending.taken ≡ Some answers → held_number a ≤ held_number b → Fate sending a → Fate sending b
taken_fate sending answers a b taken rises fate = record {
  low = let low = fate.low in omega (arith, low, rises);
  told = λ others is commits. let low = fate.told others is commits in omega (arith, low, rises);
  waits = λ none. absurd (let never : None ≡ Some answers = sym none ∙ taken in let nothing : ⊥ = cc in nothing);
}

-- A CALL THAT IS SENT -----------------------------------------------------------------------------

-- with a Begin in front of it or not
abbrev pub call_frames : Owner → ℕ → Bool → List (List ℕ × Value) → Call → List Sent
call_frames owner place begun settings call = map (sent_by owner place) (opening begun settings ++ up.Call false [] call ∷ [])

module _ (owner : Owner) (place : ℕ) (settings : List (List ℕ × Value)) (call : Call) where
  abbrev sent : Sent
  sent = sent_by owner place (up.Call false [] call)

  one_rep : (begun : Bool) → count_reps (call_frames owner place begun settings call) ≡ 1
  one_rep true = refl
  one_rep false = refl

  rep_is : (begun : Bool) → filter is_rep (call_frames owner place begun settings call) ≡ sent ∷ []
  rep_is true = refl
  rep_is false = refl

  -- it is the last one that is answered
  pub last_call : (begun : Bool) (before : List Sent) → last_or None (filter is_rep (before ++ call_frames owner place begun settings call)) ≡ Some sent
  last_call begun before =
      ap (last_or None) (filter-append is_rep before (call_frames owner place begun settings call) ∙ ap (λ (more : List Sent). filter is_rep before ++ more) (rep_is begun)) ∙ last_pushed None (filter is_rep before) sent

  pub made_fate : (event : ℕ) (begun : Bool) (link : Link) (scan : Scan) (x : Ltxid) → count_reps link.sent ≡ length link.taken → link.held ≡ Some x → scan.owner ≡ owner → (place == scan.shown) ≡ true → has_commit call ≡ true
      → Fate (made scan call x) (sends event (call_frames owner place begun settings call) link)
  made_fate event begun link scan x none held mine at commits =
      sends_alike (Fate (made scan call x)) event (call_frames owner place begun settings call) link (record { low = low; told = told; waits = λ untaken. record { out = out; held = held; frame = sent; last = last_call begun link.sent; is = is } })
      (record { low = low; told = told; waits = λ untaken. record { out = out; held = held; frame = sent; last = last_call begun link.sent; is = is } })
    where
      low : x.number ≤ option_map_or (λ (y : Ltxid). y.number) link.held 0
      low = let number : option_map_or (λ (y : Ltxid). y.number) link.held 0 ≡ x.number = ap (λ (h : Option Ltxid). option_map_or (λ (y : Ltxid). y.number) h 0) held in omega (arith, number)

      told : (answers : List Answer) → None ≡ Some answers → ends_committed answers ≡ true → x.number < option_map_or (λ (y : Ltxid). y.number) link.held 0
      told answers never commits = absurd (let nothing : ⊥ = cc in nothing)

      out : ((count_reps (link.sent ++ call_frames owner place begun settings call) == length link.taken + 1) || option_map_or (λ reply. is_blocked_reply reply.frame) (last_or None link.taken) false) ≡ true
      out =
          or_left (count_reps (link.sent ++ call_frames owner place begun settings call) == length link.taken + 1) (option_map_or (λ reply. is_blocked_reply reply.frame) (last_or None link.taken) false)
          (eq_to (count_reps (link.sent ++ call_frames owner place begun settings call)) (length link.taken + 1)
          (reps_more link.sent (call_frames owner place begun settings call) ∙ (ap (λ (n : ℕ). n + count_reps (call_frames owner place begun settings call)) none ∙ ap (λ (n : ℕ). length link.taken + n) (one_rep begun))))

      is : is_frame_of (made scan call x) sent ≡ true
      is =
          and_from (has_commit call) (same_owner scan.owner owner && (place == scan.shown)) commits
          (and_from (same_owner scan.owner owner) (place == scan.shown) (ap (λ (o : Owner). same_owner o owner) mine ∙ owner_self owner) at)
