-- Walks over histories: what a thing that happened does to a walk, and lemmas on its parts.
use Rattle.std.specs.Prelude.{◌≡◌, ◌==◌, ◌<◌, ℕ, suc, Bool, true, false, List, [], ◌∷◌, ◌++◌, map, length, filter, Option, Some, None, if◌then◌else◌}
use Rattle.std.specs.Str.{bytes_eq}
use Rattle.std.proofs.Common.{refl, sym, ◌∙◌, ap, arith}
use Rattle.std.proofs.lemmas.Bool.Decides.{nat_tests}
use Rattle.svc_values.specs.declared.draw.Draw.{Draw}
use Rattle.svc_values.specs.declared.draw.Draw.TheVariants as draw
use Rattle.svc_values.specs.declared.entry.Ltxid.{Ltxid}
use Rattle.svc_values.specs.declared.entry.Entry.{Entry}
use Rattle.svc_values.specs.meaning.Identifiers.{is_of, same_ltxid, session_of, ltxid_of, same_session}
use Rattle.ltxid_book.specs.meaning.Journal.{commits_of, committed_of}
use Rattle.server_model.specs.meaning.Base.{Base}
use Rattle.svc_values.specs.declared.entry.SessionId.{SessionId}
use Rattle.server_model.specs.Sessions.{Life, Sess}
use Rattle.server_model.specs.Runs.{Happened}
use Rattle.server_model.specs.Items.{item_of}
use Rattle.server_model.specs.meaning.NewValues.{Numbers, Count, drawn_by, and_draws, one_drawn, left_by, origin_of, Origin, Kept, New, if_next, with_counts, counts_after, next_identifier, counted}
use Rattle.svc_values.specs.meaning.Same.{same_draw}
use Rattle.server_model.specs.meaning.Walk.{Walk, Transaction, or_same, transaction_in, with_transaction, number_of, deed_of, entered, after}
use Rattle.server_model.specs.ToldRight.{life_in, with_life}
use Rattle.server_model.proofs.Counts.{count}

-- ---- one thing, and a history

abbrev pub walk_behind : Base → Walk → Happened → Walk
walk_behind base walk happened = let item = item_of 0 happened in let here = entered walk item in after base here item (deed_of base here item)

unfoldable pub walked : Base → Walk → List Happened → Walk
walked base walk [] = walk
walked base walk (happened ∷ more) = walked base (walk_behind base walk happened) more

pub walked-more : (base : Base) (walk : Walk) (history more : List Happened) → walked base walk (history ++ more) ≡ walked base (walked base walk history) more
unfolding walked
walked-more base walk [] more = refl
walked-more base walk (happened ∷ history) more = walked-more base (walk_behind base walk happened) history more

-- ---- sessions

pub same-session : (a b : SessionId) → same_session a b ≡ true → a ≡ b
same-session a b is = λ i. record { incarnation = one i; session = other i }
  where
    one : a.incarnation ≡ b.incarnation
    one = grind (arith, nat_tests)

    other : a.session ≡ b.session
    other = grind (arith, nat_tests)

pub session-self : (a : SessionId) → same_session a a ≡ true
session-self a = grind (arith, nat_tests)

pub other-number : (a b : SessionId) → (b.session == a.session) ≡ false → same_session a b ≡ false
other-number a b other = grind (arith, nat_tests)

pub other-incarnation : (a b : SessionId) → a.incarnation < b.incarnation → same_session a b ≡ false
other-incarnation a b below = grind (arith, nat_tests)

pub above-number : (a b : SessionId) → a.session < b.session → same_session a b ≡ false
above-number a b below = grind (arith, nat_tests)

if-true : {A : Type 0} (b : Bool) (x y : A) → b ≡ true → (if b then x else y) ≡ x
if-true true x y is = refl
if-true false x y is = let none : ⊥ = cc in absurd none

if-false : {A : Type 0} (b : Bool) (x y : A) → b ≡ false → (if b then x else y) ≡ y
if-false true x y is = let none : ⊥ = cc in absurd none
if-false false x y is = refl

-- a list with something for each session: what is put is found, and what is of other sessions stays
pub found-same : (list : List (SessionId × Transaction)) (session : SessionId) (transaction : Transaction) → transaction_in (with_transaction list session transaction) session ≡ transaction
found-same [] session transaction = if-true (same_session session session) transaction _ (session-self session)
found-same (first ∷ rest) session transaction = by (found-same rest session transaction) (same_session first.0 session) refl
  where
    by : transaction_in (with_transaction rest session transaction) session ≡ transaction → (b : Bool) → same_session first.0 session ≡ b → transaction_in (if b then (session, transaction) ∷ rest else first ∷ with_transaction rest session transaction) session ≡ transaction
    by inner true is = if-true (same_session session session) transaction _ (session-self session)
    by inner false is = if-false (same_session first.0 session) first.1 _ is ∙ inner

-- an entry of the list that the first one hides is of the same session
hides : (a b c : SessionId) → same_session b c ≡ false → same_session a b ≡ true → same_session a c ≡ false
hides a b c other same = ap (λ s. same_session s c) (same-session a b same) ∙ other

pub found-other : (list : List (SessionId × Transaction)) (session other : SessionId) (transaction : Transaction) → same_session session other ≡ false → transaction_in (with_transaction list session transaction) other ≡ transaction_in list other
found-other [] session other transaction apart = if-false (same_session session other) transaction _ apart
found-other (first ∷ rest) session other transaction apart = by (found-other rest session other transaction apart) (same_session first.0 session) refl
  where
    by : transaction_in (with_transaction rest session transaction) other ≡ transaction_in rest other → (b : Bool) → same_session first.0 session ≡ b → transaction_in (if b then (session, transaction) ∷ rest else first ∷ with_transaction rest session transaction) other ≡ transaction_in (first ∷ rest) other
    by inner true is = if-false (same_session session other) transaction _ apart ∙ sym (if-false (same_session first.0 other) first.1 _ (hides first.0 session other apart is))
    by inner false is = ap (λ t. if same_session first.0 other then first.1 else t) inner

pub life-same : (list : List (SessionId × Life)) (session : SessionId) (life : Life) → life_in (with_life list session life) session ≡ life
life-same [] session life = if-true (same_session session session) life _ (session-self session)
life-same (first ∷ rest) session life = by (life-same rest session life) (same_session first.0 session) refl
  where
    by : life_in (with_life rest session life) session ≡ life → (b : Bool) → same_session first.0 session ≡ b → life_in (if b then (session, life) ∷ rest else first ∷ with_life rest session life) session ≡ life
    by inner true is = if-true (same_session session session) life _ (session-self session)
    by inner false is = if-false (same_session first.0 session) first.1 _ is ∙ inner

pub life-other : (list : List (SessionId × Life)) (session other : SessionId) (life : Life) → same_session session other ≡ false → life_in (with_life list session life) other ≡ life_in list other
life-other [] session other life apart = if-false (same_session session other) life _ apart
life-other (first ∷ rest) session other life apart = by (life-other rest session other life apart) (same_session first.0 session) refl
  where
    by : life_in (with_life rest session life) other ≡ life_in rest other → (b : Bool) → same_session first.0 session ≡ b → life_in (if b then (session, life) ∷ rest else first ∷ with_life rest session life) other ≡ life_in (first ∷ rest) other
    by inner true is = if-false (same_session session other) life _ apart ∙ sym (if-false (same_session first.0 other) first.1 _ (hides first.0 session other apart is))
    by inner false is = ap (λ t. if same_session first.0 other then first.1 else t) inner

-- ---- identifiers

number-list : (stored : List Entry) (incarnation session : ℕ) → length (filter (λ (entry : Entry). is_of entry.ltxid incarnation session) stored) ≡ count (map committed_of stored) incarnation session
number-list [] incarnation session = refl
number-list (entry ∷ stored) incarnation session = by (number-list stored incarnation session) (is_of entry.ltxid incarnation session)
  where
    by : length (filter (λ (e : Entry). is_of e.ltxid incarnation session) stored) ≡ count (map committed_of stored) incarnation session → (b : Bool) → length (if b then entry ∷ filter (λ (e : Entry). is_of e.ltxid incarnation session) stored else filter (λ (e : Entry). is_of e.ltxid incarnation session) stored)
        ≡ length (if b then committed_of entry ∷ commits_of (map committed_of stored) incarnation session else commits_of (map committed_of stored) incarnation session)
    by inner true = ap (λ n. suc n) inner
    by inner false = inner

-- the walk's next identifier of a session is the server's
pub next-same : (stored : List Entry) (sess : Sess) → sess.ltxid.number ≡ count (map committed_of stored) sess.ltxid.incarnation sess.ltxid.session → ltxid_of (session_of sess.ltxid) (number_of stored (session_of sess.ltxid)) ≡ sess.ltxid
next-same stored sess number = ap (ltxid_of (session_of sess.ltxid)) (number-list stored sess.ltxid.incarnation sess.ltxid.session ∙ sym number)

pub ltxid-self : (x : Ltxid) → same_ltxid x x ≡ true
ltxid-self x = grind (arith, nat_tests)

pub ltxid-later : (x y : Ltxid) → y.incarnation < x.incarnation → same_ltxid x y ≡ false
ltxid-later x y below = grind (arith, nat_tests)

-- ---- numbers keep their incarnation

abbrev pub KeptIn : Option Numbers → ℕ → Type 0
KeptIn None incarnation = Unit {0}
KeptIn (Some numbers) incarnation = numbers.incarnation ≡ incarnation

and-kept : (found : Option Numbers) (next : Numbers → Option Numbers) (incarnation : ℕ) → KeptIn found incarnation → ((numbers : Numbers) → numbers.incarnation ≡ incarnation → KeptIn (next numbers) incarnation) → KeptIn (and_draws found next) incarnation
and-kept None next incarnation kept more = tt
and-kept (Some numbers) next incarnation kept more = more numbers kept

if-kept : (b : Bool) (numbers : Numbers) (incarnation : ℕ) → numbers.incarnation ≡ incarnation → KeptIn (if b then Some numbers else None) incarnation
if-kept true numbers incarnation is = is
if-kept false numbers incarnation is = tt

with-kept : (numbers : Numbers) (counts : Option (List Count)) (incarnation : ℕ) → numbers.incarnation ≡ incarnation → KeptIn (with_counts numbers counts) incarnation
with-kept numbers None incarnation is = tt
with-kept numbers (Some counts) incarnation is = is

next-kept : (numbers : Numbers) (now : ℕ) (given : Draw) (incarnation : ℕ) → numbers.incarnation ≡ incarnation → KeptIn (if_next numbers now given) incarnation
next-kept numbers now (draw.Seq name value) incarnation is = with-kept numbers (counts_after numbers.counts name value) incarnation is
next-kept numbers now (draw.Clock tick) incarnation is = if-kept (tick == now) numbers incarnation is
next-kept numbers now (draw.Id id) incarnation is = if-kept (bytes_eq id (next_identifier numbers)) (counted numbers) incarnation is

one-kept : (now : ℕ) (given : Draw) (origin : Origin) (numbers : Numbers) (incarnation : ℕ) → numbers.incarnation ≡ incarnation → KeptIn (one_drawn now given origin numbers) incarnation
one-kept now given (Kept first left) numbers incarnation is = if-kept (same_draw given first) numbers incarnation is
one-kept now given New numbers incarnation is = next-kept numbers now given incarnation is

drawn-kept : (now : ℕ) (kept draws : List Draw) (numbers : Numbers) (incarnation : ℕ) → numbers.incarnation ≡ incarnation → KeptIn (drawn_by now kept draws numbers) incarnation
drawn-kept now kept [] numbers incarnation is = is
drawn-kept now kept (given ∷ more) numbers incarnation is =
    and-kept (one_drawn now given (origin_of given kept) numbers) (λ n. drawn_by now (left_by (origin_of given kept) kept) more n) incarnation (one-kept now given (origin_of given kept) numbers incarnation is)
    (λ n e. drawn-kept now (left_by (origin_of given kept) kept) more n incarnation e)

or-kept : (numbers : Numbers) (found : Option Numbers) → KeptIn found numbers.incarnation → (or_same numbers found).incarnation ≡ numbers.incarnation
or-kept numbers None kept = refl
or-kept numbers (Some after) kept = kept

pub draws-incarnation : (now : ℕ) (kept draws : List Draw) (numbers : Numbers) → (or_same numbers (drawn_by now kept draws numbers)).incarnation ≡ numbers.incarnation
draws-incarnation now kept draws numbers = or-kept numbers (drawn_by now kept draws numbers) (drawn-kept now kept draws numbers numbers.incarnation refl)
