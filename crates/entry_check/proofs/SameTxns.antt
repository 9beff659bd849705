-- The transactions of a request, one after the other, with their settings and calls.
use Rattle.std.proofs.Common.{◌≡◌, ℕ, zero, suc, ◌+◌, ◌<◌, ◌≤◌, List, [], ◌∷◌, length, take, drop, get_or, Bool, true, false, not, cond, ◌&&◌, eqb, refl, sym, ap, ◌∙◌, arith, add-one}
use Rattle.std.specs.Prelude.{Some, None, position}
use Rattle.std.specs.List.{filter, list_all}
use Rattle.std.proofs.lemmas.Bool.{ne_eqb}
use Rattle.std.proofs.Math.ListN.{drop_of_length-le}
use Rattle.std.proofs.lemmas.List.{drop_more, length-take-le}
use Rattle.std.proofs.lemmas.List.Quantifiers.{position-Some}
use Rattle.svc_values.specs.declared.draw.Draw.{Draw}
use Rattle.svc_values.specs.declared.call.Call.{Call}
use Rattle.svc_values.specs.declared.entry.Ltxid.{Ltxid}
use Rattle.svc_values.specs.declared.entry.Entry.{Entry}
use Rattle.svc_values.specs.meaning.Endings.{ends_transaction}
use Rattle.svc_values.specs.meaning.SettingsList.{NamedValues, with_sets}
use Rattle.outage_schedule.specs.declared.request.ShownCall.{ShownCall}
use Rattle.run_clauses.specs.meaning.Transactions.{txns, put_first, with_tried}
use Rattle.run_clauses.specs.meaning.Once.{entries_in}
use Rattle.run_clauses.specs.meaning.Same.{is_same, are_same, is_any}
use Rattle.entry_check.specs.Once.{is_end}
use Rattle.entry_check.proofs.Spans.{drop_both}
use Rattle.entry_check.proofs.Granted.{filter_none}
use Rattle.entry_check.proofs.Placing.{each_found}

-- a list without an identifier
pub any_is : (ids : List Ltxid) → not (eqb (length ids) 0) ≡ is_any ids
any_is [] = refl
any_is (x ∷ ids) = ap not (ne_eqb (suc (length ids)) 0 (λ e. omega (arith, e)))

-- ---- parts

-- no call that is left ends its transaction
whole_left : (calls : List ShownCall) → filter is_end calls ≡ [] → txns calls ≡ calls ∷ []
unfolding is_end
whole_left [] none = refl
whole_left (call ∷ calls) none = by (ends_transaction call.answers) refl (λ left. whole_left calls left)
  where
    by : (b : Bool) → ends_transaction call.answers ≡ b → (filter is_end calls ≡ [] → txns calls ≡ calls ∷ []) → txns (call ∷ calls) ≡ (call ∷ calls) ∷ []
    by true is rest =
        let some : filter is_end (call ∷ calls) ≡ call ∷ filter is_end calls = ap (λ b. cond b (call ∷ filter is_end calls) (filter is_end calls)) is in
        absurd (let not : ◌≡◌ {A = List ShownCall} [] (call ∷ filter is_end calls) = sym none ∙ some in cc)
    by false is rest =
        let left : filter is_end calls ≡ [] = sym (ap (λ b. cond b (call ∷ filter is_end calls) (filter is_end calls)) is) ∙ none in
        ap (λ b. put_first b call (txns calls)) is ∙ ap (put_first false call) (rest left)

-- (any call)
unseen : ShownCall
unseen = record { answers = []; draws = []; ltxid = record { incarnation = 0; session = 0; number = 0 } }

pub none_ends : (calls : List ShownCall) → position is_end calls ≡ None → txns calls ≡ calls ∷ []
none_ends calls none = whole_left calls (filter_none is_end calls none)

-- the first part is up to the first that ends its transaction
cut_at : (calls : List ShownCall) (i : ℕ) (d : ShownCall) → i < length calls → is_end (get_or calls i d) ≡ true → ((k : ℕ) → k < i → is_end (get_or calls k d) ≡ false)
    → txns calls ≡ take (suc i) calls ∷ txns (drop (suc i) calls)
unfolding is_end
cut_at [] i d within here before = absurd (omega (arith, within))
cut_at (call ∷ calls) zero d within here before = ap (λ b. put_first b call (txns calls)) here
cut_at (call ∷ calls) (suc i) d within here before =
    ap (λ b. put_first b call (txns calls)) (before 0 (omega arith))
    ∙ ap (put_first false call) (cut_at calls i d (omega (arith, within)) here (λ k below. before (suc k) (omega (arith, below))))

pub first_ends : (calls : List ShownCall) (i : ℕ) → position is_end calls ≡ Some i → txns calls ≡ take (i + 1) calls ∷ txns (drop (i + 1) calls)
first_ends calls i some =
    let d = unseen in
    let first = position-Some is_end calls i d some in
    cut_at calls i d first.0 first.1 first.2 ∙ ap (λ n. take n calls ∷ txns (drop n calls)) (sym (add-one i))

-- there always is a part
first_part : (calls : List ShownCall) → (part : List ShownCall) × (parts : List (List ShownCall)) × (txns calls ≡ part ∷ parts)
first_part [] = ([], [], refl)
first_part (call ∷ calls) = by (ends_transaction call.answers) (txns calls)
  where
    by : (b : Bool) (all : List (List ShownCall)) → (part : List ShownCall) × (parts : List (List ShownCall)) × (put_first b call all ≡ part ∷ parts)
    by true all = (call ∷ [], all, refl)
    by false [] = (call ∷ [], [], refl)
    by false (part ∷ parts) = (call ∷ part, parts, refl)

-- ---- a step over the lists

module _ (granted : Draw → Bool) (entries : List Entry) where
  none_found : (p : Entry → Bool) → list_all p (entries_in entries []) ≡ true
  none_found p = sym (each_found p entries [])

  -- what is left, where no list is
  pub no_list : (settings : NamedValues) (script : List Call) (more : ℕ) (parts : List (List ShownCall)) → are_same granted entries settings script more (with_tried parts []) ≡ true
  no_list settings script more [] = refl
  no_list settings script more (part ∷ []) = none_found (is_same granted settings (take (length part + more) script) part)
  no_list settings script more (part ∷ next ∷ parts) =
      ap (λ b. b && are_same granted entries (with_sets settings (take (length part) script)) (drop (length part) script) more (with_tried (next ∷ parts) []))
      (none_found (is_same granted settings (take (length part) script) part))
      ∙ no_list (with_sets settings (take (length part) script)) (drop (length part) script) more (next ∷ parts)

  -- a transaction before others
  cut_same : (settings : NamedValues) (script : List Call) (more : ℕ) (part next : List ShownCall) (parts : List (List ShownCall)) (ids : List Ltxid) (lists : List (List Ltxid))
      → are_same granted entries settings script more (with_tried (part ∷ next ∷ parts) (ids ∷ lists))
      ≡ (list_all (is_same granted settings (take (length part) script) part) (entries_in entries ids)
      && are_same granted entries (with_sets settings (take (length part) script)) (drop (length part) script) more (with_tried (next ∷ parts) lists))
  cut_same settings script more part next parts ids [] = refl
  cut_same settings script more part next parts ids (more_ids ∷ lists) = refl

  -- the last transaction
  pub last_same : (settings : NamedValues) (script : List Call) (more : ℕ) (shown : List ShownCall) (ids : List Ltxid) (lists : List (List Ltxid)) → position is_end shown ≡ None
      → are_same granted entries settings script more (with_tried (txns shown) (ids ∷ lists))
      ≡ list_all (is_same granted settings (take (length shown + more) script) shown) (entries_in entries ids)
  last_same settings script more shown ids lists none =
      ap (λ (parts : List (List ShownCall)). are_same granted entries settings script more (with_tried parts (ids ∷ lists))) (none_ends shown none)

  -- and each before it
  pub next_same : (settings : NamedValues) (script : List Call) (more : ℕ) (shown : List ShownCall) (ids : List Ltxid) (lists : List (List Ltxid)) (i : ℕ) → position is_end shown ≡ Some i
      → are_same granted entries settings script more (with_tried (txns shown) (ids ∷ lists))
      ≡ (list_all (is_same granted settings (take (i + 1) script) (take (i + 1) shown)) (entries_in entries ids)
      && are_same granted entries (with_sets settings (take (i + 1) script)) (drop (i + 1) script) more (with_tried (txns (drop (i + 1) shown)) lists))
  next_same settings script more shown ids lists i some =
      let part = take (i + 1) shown in
      let behind = drop (i + 1) shown in
      let next = first_part behind in
      let within = (position-Some is_end shown i unseen some).0 in
      let long : length part ≡ i + 1 = length-take-le (i + 1) shown (omega (arith, within)) in
      ap (λ (parts : List (List ShownCall)). are_same granted entries settings script more (with_tried parts (ids ∷ lists))) (first_ends shown i some ∙ ap (λ (parts : List (List ShownCall)). part ∷ parts) next.2)
      ∙ cut_same settings script more part next.0 next.1 ids lists
      ∙ ap (λ n. list_all (is_same granted settings (take n script) part) (entries_in entries ids) && are_same granted entries (with_sets settings (take n script)) (drop n script) more (with_tried (next.0 ∷ next.1) lists)) long
      ∙ ap (λ (parts : List (List ShownCall)). list_all (is_same granted settings (take (i + 1) script) part) (entries_in entries ids) && are_same granted entries (with_sets settings (take (i + 1) script)) (drop (i + 1) script) more (with_tried parts lists)) (sym next.2)

  -- ---- a step, by what the code has at hand

  -- the lists, the script and the calls that were shown, each from a place on
  abbrev pub same_from : NamedValues → ℕ → List Call → ℕ → List ShownCall → ℕ → List (List Ltxid) → Bool
  same_from settings from script more all i items = are_same granted entries settings (drop from script) more (with_tried (txns (drop from all)) (drop i items))

  first_item : (items : List (List Ltxid)) (i : ℕ) (item ids : List Ltxid) → i < length items → item ≡ get_or items i item → ids ≡ item → drop i items ≡ ids ∷ drop (i + 1) items
  first_item items i item ids within is same = drop_more items i item within ∙ ap (λ (one : List Ltxid). one ∷ drop (i + 1) items) (sym is ∙ sym same)

  from_here : (settings : NamedValues) (from : ℕ) (script : List Call) (more : ℕ) (all : List ShownCall) (i : ℕ) (items : List (List Ltxid)) (item ids : List Ltxid)
      → i < length items → item ≡ get_or items i item → ids ≡ item → (left : List Call) → left ≡ drop from script → (shown : List ShownCall) → shown ≡ drop from all
      → same_from settings from script more all i items ≡ are_same granted entries settings left more (with_tried (txns shown) (ids ∷ drop (i + 1) items))
  from_here settings from script more all i items item ids within is same left left_is shown shown_is =
      ap (λ (lists : List (List Ltxid)). are_same granted entries settings (drop from script) more (with_tried (txns (drop from all)) lists)) (first_item items i item ids within is same)
      ∙ sym (ap (λ (calls : List Call). are_same granted entries settings calls more (with_tried (txns shown) (ids ∷ drop (i + 1) items))) left_is
      ∙ ap (λ (calls : List ShownCall). are_same granted entries settings (drop from script) more (with_tried (txns calls) (ids ∷ drop (i + 1) items))) shown_is)

  pub last_from : (settings : NamedValues) (from : ℕ) (script : List Call) (more : ℕ) (all : List ShownCall) (i : ℕ) (items : List (List Ltxid)) (item ids : List Ltxid)
      → i < length items → item ≡ get_or items i item → ids ≡ item → (left : List Call) → left ≡ drop from script → (shown : List ShownCall) → shown ≡ drop from all
      → position is_end shown ≡ None → (calls : List Call) → calls ≡ take (length shown + more) left
      → list_all (is_same granted settings calls shown) (entries_in entries ids) ≡ same_from settings from script more all i items
  last_from settings from script more all i items item ids within is same left left_is shown shown_is none calls calls_is =
      ap (λ (sent : List Call). list_all (is_same granted settings sent shown) (entries_in entries ids)) calls_is
      ∙ sym (last_same settings left more shown ids (drop (i + 1) items) none)
      ∙ sym (from_here settings from script more all i items item ids within is same left left_is shown shown_is)

  pub next_from : (settings : NamedValues) (from : ℕ) (script : List Call) (more : ℕ) (all : List ShownCall) (i : ℕ) (items : List (List Ltxid)) (item ids : List Ltxid)
      → i < length items → item ≡ get_or items i item → ids ≡ item → (left : List Call) → left ≡ drop from script → (shown : List ShownCall) → shown ≡ drop from all
      → (end : ℕ) → position is_end shown ≡ Some end → (calls : List Call) → calls ≡ take (end + 1) left → (part : List ShownCall) → part ≡ take (end + 1) shown
      → (now : NamedValues) → now ≡ with_sets settings calls
      → same_from settings from script more all i items ≡ (list_all (is_same granted settings calls part) (entries_in entries ids) && same_from now (from + (end + 1)) script more all (i + 1) items)
  next_from settings from script more all i items item ids within is same left left_is shown shown_is end some calls calls_is part part_is now now_is =
      let lists = drop (i + 1) items in
      let sent = take (end + 1) left in
      let behind : drop (end + 1) left ≡ drop (from + (end + 1)) script = ap (λ (list : List Call). drop (end + 1) list) left_is ∙ drop_both from (end + 1) script in
      let behind_too : drop (end + 1) shown ≡ drop (from + (end + 1)) all = ap (λ (list : List ShownCall). drop (end + 1) list) shown_is ∙ drop_both from (end + 1) all in
      from_here settings from script more all i items item ids within is same left left_is shown shown_is
      ∙ next_same settings left more shown ids lists end some
      ∙ ap (λ (list : List ShownCall). list_all (is_same granted settings sent list) (entries_in entries ids) && are_same granted entries (with_sets settings sent) (drop (end + 1) left) more (with_tried (txns (drop (end + 1) shown)) lists)) (sym part_is)
      ∙ ap (λ (list : List Call). list_all (is_same granted settings list part) (entries_in entries ids) && are_same granted entries (with_sets settings list) (drop (end + 1) left) more (with_tried (txns (drop (end + 1) shown)) lists)) (sym calls_is)
      ∙ ap (λ (values : NamedValues). list_all (is_same granted settings calls part) (entries_in entries ids) && are_same granted entries values (drop (end + 1) left) more (with_tried (txns (drop (end + 1) shown)) lists)) (sym now_is)
      ∙ ap (λ (list : List Call). list_all (is_same granted settings calls part) (entries_in entries ids) && are_same granted entries now list more (with_tried (txns (drop (end + 1) shown)) lists)) behind
      ∙ ap (λ (list : List ShownCall). list_all (is_same granted settings calls part) (entries_in entries ids) && are_same granted entries now (drop (from + (end + 1)) script) more (with_tried (txns list) lists)) behind_too

  pub none_from : (settings : NamedValues) (from : ℕ) (script : List Call) (more : ℕ) (all : List ShownCall) (i : ℕ) (items : List (List Ltxid)) → length items ≤ i → same_from settings from script more all i items ≡ true
  none_from settings from script more all i items past =
      ap (λ (lists : List (List Ltxid)). are_same granted entries settings (drop from script) more (with_tried (txns (drop from all)) lists)) (drop_of_length-le items past)
      ∙ no_list settings (drop from script) more (txns (drop from all))
