-- A blocked identifier is its session's next one: what a service's store has it so.
use Rattle.std.proofs.Common.{◌≡◌, refl, sym, ap, subst, ◌∙◌, true, ℕ, ◌+◌, cond, length, List, [], ◌∷◌, map, count_by}
use Rattle.std.specs.Prelude.{◌==◌}
use Rattle.std.specs.List.{list_all}
use Rattle.std.proofs.lemmas.Bool.{and_from, or_left, or_right}
use Rattle.std.proofs.lemmas.List.Sums.{sum_by-cons, length-filter}
use Rattle.svc_values.specs.declared.entry.Ltxid.{Ltxid}
use Rattle.svc_values.specs.declared.entry.Entry.{Entry}
use Rattle.svc_values.specs.meaning.Identifiers.{is_of, same_ltxid, session_of}
use Rattle.svc_values.specs.SameLaws.{same_ltxid_decides}
use Rattle.ltxid_book.specs.meaning.Journal.{Committed, committed_of, commits_of, is_blocked}
use Rattle.ltxid_book.specs.Journal.{BlocksStand}
use Rattle.server_model.proofs.Offered.{service_stands}
use Rattle.run_clauses.specs.meaning.EntryEvents.{entries_of}
use Rattle.world_model.specs.OrderlyLaws.{IsOfService}
use Rattle.world_model.specs.records.Number.{blocks_next}
use Rattle.world_model.proofs.events.Tests.{eq_to}

-- the commits of a session are its entries
count_mapped : (x : Ltxid) (entries : List Entry) → count_by (λ one. is_of one.ltxid x.incarnation x.session) (map committed_of entries) ≡ entries_of entries (session_of x)
count_mapped x [] = refl
count_mapped x (entry ∷ entries) =
    sum_by-cons (λ (one : Committed). cond (is_of one.ltxid x.incarnation x.session) 1 0) (committed_of entry) (map committed_of entries)
    ∙ (ap (λ (n : ℕ). cond (is_of entry.ltxid x.incarnation x.session) 1 0 + n) (count_mapped x entries) ∙ sym (sum_by-cons (λ (one : Entry). cond (is_of one.ltxid x.incarnation x.session) 1 0) entry entries))

pub commits_count : (x : Ltxid) (entries : List Entry) → length (commits_of (map committed_of entries) x.incarnation x.session) ≡ entries_of entries (session_of x)
commits_count x entries = length-filter (λ (one : Committed). is_of one.ltxid x.incarnation x.session) (map committed_of entries) ∙ count_mapped x entries

pub all_next : (entries : List Entry) (blocked : List Ltxid) → ((x : Ltxid) → is_blocked blocked x ≡ true → x.number ≡ length (commits_of (map committed_of entries) x.incarnation x.session))
    → list_all (λ x. x.number == entries_of entries (session_of x)) blocked ≡ true
all_next entries [] each = refl
all_next entries (x ∷ blocked) each =
    and_from (x.number == entries_of entries (session_of x)) (list_all (λ y. y.number == entries_of entries (session_of y)) blocked)
    (eq_to x.number (entries_of entries (session_of x)) (each x (or_left (same_ltxid x x) (is_blocked blocked x) ((same_ltxid_decides x x).1 refl)) ∙ commits_count x entries))
    (all_next entries blocked (λ y is. each y (or_right (same_ltxid x y) (is_blocked blocked y) is)))

pub blocks_law : IsOfService blocks_next
blocks_law seen t coupled =
    all_next t.entries t.blocked
    (subst (λ (entries : List Entry). BlocksStand (map committed_of entries) t.blocked) (sym coupled.entries)
    (subst (λ (blocked : List Ltxid). BlocksStand (map committed_of seen.state.store.entries) blocked) (sym coupled.blocked) (service_stands seen coupled.sound coupled.history)))
