-- What the entries and blocks of a journal keep, with one more of either.
use Rattle.std.proofs.Common.{◌≡◌, ℕ, ◌+◌, ◌<◌, ◌≤◌, ◌||◌, Bool, true, false, List, [], ◌∷◌, ◌++◌, length, map, filter, refl, sym, ◌∙◌, ap, subst, arith, length-append, append-nil}
use Rattle.std.proofs.lemmas.List.{map-append, map_push, length-map}
use Rattle.std.proofs.lemmas.List.Elements.{All-nil, All-push, All-weaker, filter-append}
use Rattle.std.proofs.lemmas.List.FromFn.{map-range_with_len_more}
use Rattle.std.proofs.lemmas.Bool.Decides.{nat_tests}
use Rattle.std.specs.Prelude.{All, IsTrue, if◌then◌else◌}
use Rattle.std.specs.List.{range_with_len, list_any}
use Rattle.svc_values.specs.declared.schema.Schema.{Schema}
use Rattle.svc_values.specs.declared.entry.Entry.{Entry}
use Rattle.svc_values.specs.declared.entry.Ltxid.{Ltxid}
use Rattle.svc_values.specs.declared.entry.SessionId.{SessionId}
use Rattle.svc_values.specs.meaning.Identifiers.{is_of, same_ltxid, ltxid_of, session_of}
use Rattle.svc_values.specs.meaning.Fitting.{writes_fit}
use Rattle.ltxid_book.specs.meaning.Journal.{Committed, committed_of, commits_of, is_blocked, next_ltxid, state_of}
use Rattle.ltxid_book.specs.Journal.{BlocksStand}
use Rattle.ltxid_book.proofs.Offered.{May, commit_stands, block_stands, begins_untouched}
use Rattle.commit_log.specs.Keeping.{AreCommits, ltxids_of}

-- ---- lists that are counted

-- one more, last
pub counted_push : {X : Type 0} (nth : ℕ → X) (xs : List X) (x : X) → xs ≡ map nth (range_with_len 0 (length xs)) → x ≡ nth (length xs)
    → (xs ++ x ∷ []) ≡ map nth (range_with_len 0 (length (xs ++ x ∷ [])))
counted_push {X} nth xs x counted is =
    let more : length (xs ++ x ∷ []) ≡ length xs + 1 = length-append xs (x ∷ []) in
    ap (λ (l : List X). l ++ x ∷ []) counted
    ∙ ap (λ (y : X). map nth (range_with_len 0 (length xs)) ++ y ∷ []) is
    ∙ sym (map-range_with_len_more nth 0 (length xs) (length xs) (omega arith))
    ∙ ap (λ n. map nth (range_with_len 0 n)) (sym more)

none_pass : {X : Type 0} (test : X → Bool) (xs : List X) → list_any test xs ≡ false → filter test xs ≡ []
none_pass test [] e = refl
none_pass test (x ∷ xs) e = by (test x) (none_pass test xs) e
  where
    by : (b : Bool) → (list_any test xs ≡ false → filter test xs ≡ []) → (b || list_any test xs) ≡ false → (if b then x ∷ filter test xs else filter test xs) ≡ []
    by true later h = absurd (let none : ⊥ = cc in none)
    by false later h = later h

-- ---- identifiers

same_parts : (x y : Ltxid) → x.incarnation ≡ y.incarnation → x.session ≡ y.session → x.number ≡ y.number → x ≡ y
same_parts x y p q r = λ i. record { incarnation = p i; session = q i; number = r i }

own_incarnation : (x : Ltxid) (incarnation session : ℕ) → is_of x incarnation session ≡ true → x.incarnation ≡ incarnation
own_incarnation x incarnation session own = grind (arith, nat_tests)

own_session : (x : Ltxid) (incarnation session : ℕ) → is_of x incarnation session ≡ true → x.session ≡ session
own_session x incarnation session own = grind (arith, nat_tests)

is_of-self : (x : Ltxid) → is_of x x.incarnation x.session ≡ true
is_of-self x = grind (arith, nat_tests)

same_is : (x y : Ltxid) → same_ltxid x y ≡ true → x ≡ y
same_is x y same = same_parts x y (grind (arith, nat_tests)) (grind (arith, nat_tests)) (grind (arith, nat_tests))

-- an identifier that may commit is its session's next one
is_next : (commits : List Committed) (blocks : List Ltxid) (x : Ltxid) → May x (state_of commits blocks x.incarnation x.session) → x ≡ next_ltxid commits x.incarnation x.session
is_next commits blocks x may = same_parts x (next_ltxid commits x.incarnation x.session) refl refl may.number_is

-- and not blocked
is_free : (commits : List Committed) (blocks : List Ltxid) (x : Ltxid) → May x (state_of commits blocks x.incarnation x.session) → is_blocked blocks x ≡ false
is_free commits blocks x may = ap (is_blocked blocks) (is_next commits blocks x may) ∙ may.free

-- ---- the identifiers of a session

-- with one entry more
ltxids_more : (entries : List Entry) (entry : Entry) (session : SessionId) (own : Bool) → is_of entry.ltxid session.incarnation session.session ≡ own
    → ltxids_of (entries ++ entry ∷ []) session ≡ (if own then ltxids_of entries session ++ entry.ltxid ∷ [] else ltxids_of entries session)
ltxids_more entries entry session own is =
    ap (λ (l : List Committed). map (λ (c : Committed). c.ltxid) (commits_of l session.incarnation session.session)) (map_push committed_of entries entry)
    ∙ ap (map (λ (c : Committed). c.ltxid)) (filter-append (λ (c : Committed). is_of c.ltxid session.incarnation session.session) (map committed_of entries) (committed_of entry ∷ []))
    ∙ map-append (λ (c : Committed). c.ltxid) (commits_of (map committed_of entries) session.incarnation session.session) (filter (λ (c : Committed). is_of c.ltxid session.incarnation session.session) (committed_of entry ∷ []))
    ∙ ap (λ (b : Bool). ltxids_of entries session ++ map (λ (c : Committed). c.ltxid) (if b then committed_of entry ∷ [] else [])) is
    ∙ tail own
  where
    tail : (b : Bool) → ltxids_of entries session ++ map (λ (c : Committed). c.ltxid) (if b then committed_of entry ∷ [] else []) ≡ (if b then ltxids_of entries session ++ entry.ltxid ∷ [] else ltxids_of entries session)
    tail true = refl
    tail false = append-nil _

-- how many entries a session has
count_is : (entries : List Entry) (session : SessionId) → length (ltxids_of entries session) ≡ length (commits_of (map committed_of entries) session.incarnation session.session)
count_is entries session = length-map (commits_of (map committed_of entries) session.incarnation session.session) (λ (c : Committed). c.ltxid)

-- each entry's number is below its session's next one
abbrev pub AreBelow : List Entry → Type 0
AreBelow entries = All (λ (entry : Entry). entry.ltxid.number < length (ltxids_of entries (session_of entry.ltxid))) entries

-- ---- no entry and no block

pub no_commits : (schemas : List Schema) (incarnation : ℕ) → AreCommits schemas incarnation [] []
no_commits schemas incarnation = record {
  earlier = All-nil (λ (entry : Entry). entry.ltxid.incarnation ≤ incarnation);
  fitting = All-nil (λ (entry : Entry). IsTrue (writes_fit schemas entry.writes));
  counted = λ session. refl;
  standing = begins_untouched.1;
  free = All-nil (λ (entry : Entry). is_blocked [] entry.ltxid ≡ false);
  once = λ x. omega arith;
}

pub none_below : AreBelow []
none_below = All-nil (λ (entry : Entry). entry.ltxid.number < length (ltxids_of [] (session_of entry.ltxid)))

-- ---- a later incarnation

pub commits_later : (schemas : List Schema) (old new : ℕ) (entries : List Entry) (blocked : List Ltxid) → old ≤ new → AreCommits schemas old entries blocked → AreCommits schemas new entries blocked
commits_later schemas old new entries blocked up are = record {
  earlier = All-weaker (λ (entry : Entry). entry.ltxid.incarnation ≤ old) (λ (entry : Entry). entry.ltxid.incarnation ≤ new) (λ entry before. omega (arith, before, up)) entries are.earlier;
  fitting = are.fitting;
  counted = are.counted;
  standing = are.standing;
  free = are.free;
  once = are.once;
}

-- ---- one entry more

module _ (schemas : List Schema) (incarnation : ℕ) (entries : List Entry) (blocked : List Ltxid) (entry : Entry)
    (may : May entry.ltxid (state_of (map committed_of entries) blocked entry.ltxid.incarnation entry.ltxid.session)) where
  is_nth : (session : SessionId) → is_of entry.ltxid session.incarnation session.session ≡ true → entry.ltxid ≡ ltxid_of session (length (ltxids_of entries session))
  is_nth session own =
      let incarnation_is = own_incarnation entry.ltxid session.incarnation session.session own in
      let session_is = own_session entry.ltxid session.incarnation session.session own in
      let counts : length (commits_of (map committed_of entries) entry.ltxid.incarnation entry.ltxid.session) ≡ length (commits_of (map committed_of entries) session.incarnation session.session) =
      λ i. length (commits_of (map committed_of entries) (incarnation_is i) (session_is i)) in
      same_parts entry.ltxid (ltxid_of session (length (ltxids_of entries session))) incarnation_is session_is (may.number_is ∙ counts ∙ sym (count_is entries session))

  counted_on : (session : SessionId) (own : Bool) → is_of entry.ltxid session.incarnation session.session ≡ own
      → ltxids_of entries session ≡ map (ltxid_of session) (range_with_len 0 (length (ltxids_of entries session)))
      → ltxids_of (entries ++ entry ∷ []) session ≡ map (ltxid_of session) (range_with_len 0 (length (ltxids_of (entries ++ entry ∷ []) session)))
  counted_on session true own counted =
      subst (λ (l : List Ltxid). l ≡ map (ltxid_of session) (range_with_len 0 (length l))) (sym (ltxids_more entries entry session true own))
      (counted_push (ltxid_of session) (ltxids_of entries session) entry.ltxid counted (is_nth session own))
  counted_on session false other counted = subst (λ (l : List Ltxid). l ≡ map (ltxid_of session) (range_with_len 0 (length l))) (sym (ltxids_more entries entry session false other)) counted

  -- there is one entry more of its session, and of no other fewer
  no_fewer : (session : SessionId) (own : Bool) → is_of entry.ltxid session.incarnation session.session ≡ own → length (ltxids_of entries session) ≤ length (ltxids_of (entries ++ entry ∷ []) session)
  no_fewer session true own = omega (arith, ap length (ltxids_more entries entry session true own), length-append (ltxids_of entries session) (entry.ltxid ∷ []))
  no_fewer session false other = omega (arith, ap length (ltxids_more entries entry session false other))

  pub below_more : AreBelow entries → AreBelow (entries ++ entry ∷ [])
  below_more below =
      let own = is_of-self entry.ltxid in
      All-push (λ (e : Entry). e.ltxid.number < length (ltxids_of (entries ++ entry ∷ []) (session_of e.ltxid))) entries entry
      (All-weaker (λ (e : Entry). e.ltxid.number < length (ltxids_of entries (session_of e.ltxid))) (λ (e : Entry). e.ltxid.number < length (ltxids_of (entries ++ entry ∷ []) (session_of e.ltxid)))
      (λ e before. omega (arith, before, no_fewer (session_of e.ltxid) (is_of entry.ltxid e.ltxid.incarnation e.ltxid.session) refl)) entries below)
      (omega (
        arith,
        may.number_is,
        count_is entries (session_of entry.ltxid),
        ap length (ltxids_more entries entry (session_of entry.ltxid) true own),
        length-append (ltxids_of entries (session_of entry.ltxid)) (entry.ltxid ∷ []),
      ))

  pub commits_more : AreCommits schemas incarnation entries blocked → entry.ltxid.incarnation ≤ incarnation → IsTrue (writes_fit schemas entry.writes) → AreCommits schemas incarnation (entries ++ entry ∷ []) blocked
  commits_more are before fits = record {
    earlier = All-push (λ (e : Entry). e.ltxid.incarnation ≤ incarnation) entries entry are.earlier before;
    fitting = All-push (λ (e : Entry). IsTrue (writes_fit schemas e.writes)) entries entry are.fitting fits;
    counted = λ session. counted_on session (is_of entry.ltxid session.incarnation session.session) refl (are.counted session);
    standing = subst (λ (l : List Committed). BlocksStand l blocked) (sym (map_push committed_of entries entry)) (commit_stands (map committed_of entries) blocked (committed_of entry) are.standing may);
    free = All-push (λ (e : Entry). is_blocked blocked e.ltxid ≡ false) entries entry are.free (is_free (map committed_of entries) blocked entry.ltxid may);
    once = are.once;
  }

-- ---- one block more

module _ (schemas : List Schema) (incarnation : ℕ) (entries : List Entry) (blocked : List Ltxid) (x : Ltxid)
    (may : May x (state_of (map committed_of entries) blocked x.incarnation x.session)) where
  -- no entry has the identifier of a block that stands
  never_both : (blocks : List Ltxid) → BlocksStand (map committed_of entries) blocks → (e : Entry) → e.ltxid.number < length (ltxids_of entries (session_of e.ltxid)) → (b : Bool) → is_blocked blocks e.ltxid ≡ b → b ≡ false
  never_both blocks stand e below true is = absurd (omega (arith, stand e.ltxid is, count_is entries (session_of e.ltxid), below))
  never_both blocks stand e below false is = refl

  once_on : (y : Ltxid) (same : Bool) → same_ltxid x y ≡ same → length (filter (λ (block : Ltxid). same_ltxid block y) blocked) ≤ 1
      → length (filter (λ (block : Ltxid). same_ltxid block y) blocked) + length (if same then x ∷ [] else []) ≤ 1
  once_on y true is before =
      let none : filter (λ (block : Ltxid). same_ltxid block y) blocked ≡ [] = none_pass (λ (block : Ltxid). same_ltxid block y) blocked (ap (is_blocked blocked) (sym (same_is x y is)) ∙ is_free (map committed_of entries) blocked x may) in
      omega (arith, ap length none)
  once_on y false other before = omega (arith, before)

  pub blocks_more : AreBelow entries → AreCommits schemas incarnation entries blocked → AreCommits schemas incarnation entries (blocked ++ x ∷ [])
  blocks_more below are =
      let stand = block_stands (map committed_of entries) blocked x are.standing may in
      record {
        earlier = are.earlier;
        fitting = are.fitting;
        counted = are.counted;
        standing = stand;
        free = All-weaker (λ (e : Entry). e.ltxid.number < length (ltxids_of entries (session_of e.ltxid))) (λ (e : Entry). is_blocked (blocked ++ x ∷ []) e.ltxid ≡ false)
            (λ e before. never_both (blocked ++ x ∷ []) stand e before (is_blocked (blocked ++ x ∷ []) e.ltxid) refl) entries below;
        once = λ y.
            let apart = filter-append (λ (block : Ltxid). same_ltxid block y) blocked (x ∷ []) in
            let long = length-append (filter (λ (block : Ltxid). same_ltxid block y) blocked) (if same_ltxid x y then x ∷ [] else []) in
            let few = once_on y (same_ltxid x y) refl (are.once y) in
            omega (arith, ap length apart, long, few);
      }
