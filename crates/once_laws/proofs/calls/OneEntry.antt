-- Of one transaction of a request at most one identifier of its sendings has an entry.
use Rattle.std.proofs.Common.{◌≡◌, sym, ap, ◌∙◌, arith, true, false, ℕ, suc, ◌<◌, Option, Some, None}
use Rattle.std.specs.Prelude.{◌==◌, not, slice_get}
use Rattle.std.specs.List.{list_all, list_any}
use Rattle.std.specs.Option.{option_map_or}
use Rattle.std.proofs.lemmas.Bool.{and_parts, not-true}
use Rattle.svc_values.specs.declared.entry.Entry.{Entry}
use Rattle.svc_values.specs.declared.entry.Ltxid.{Ltxid}
use Rattle.svc_values.specs.declared.entry.SessionId.{SessionId}
use Rattle.svc_values.specs.meaning.Identifiers.{is_of_session, same_ltxid, session_of}
use Rattle.svc_values.specs.SameLaws.{same_ltxid_decides}
use Rattle.run_clauses.specs.meaning.Tried.{holds}
use Rattle.world_model.specs.records.Basic.{sessions_of}
use Rattle.invariant_laws.specs.Invariant.{Invariant}
use Rattle.world_model.specs.meaning.Links.{Link}
use Rattle.invariant_laws.specs.Once.{all_but_last, transaction_at}
use Rattle.world_model.specs.Parts.{commit_sendings, has_entry}
use Rattle.world_model.specs.Traced.{Traced, Course}
use Rattle.invariant_laws.proofs.Offered.{any_all, one_id, under_at}
use Rattle.world_model.proofs.Offered.{links_apart, same_session_is}

-- an identifier that has its entry is not blocked
pub entry_free : (t : Traced) → Invariant t → (x : Ltxid) → has_entry t.entries x ≡ true → holds t.blocked x ≡ false
entry_free t inv x there =
    let found = any_all (λ (entry : Entry). same_ltxid x entry.ltxid) (λ (entry : Entry). not (holds t.blocked entry.ltxid)) t.entries there inv.orderly.number.unblocked in
    ap (holds t.blocked) ((same_ltxid_decides x found.0.ltxid).0 found.1.0) ∙ not-true (holds t.blocked found.0.ltxid) found.1.1

pub one_stored : (t : Traced) → Invariant t → (course : Course) → all_but_last t course.report.calls (commit_sendings course) ≡ true → (transaction : ℕ) (x y : Ltxid) → has_entry t.entries x ≡ true → has_entry t.entries y ≡ true
    → list_any (under_at (λ at. transaction_at course.report.calls at == transaction) x) (commit_sendings course) ≡ true → list_any (under_at (λ at. transaction_at course.report.calls at == transaction) y) (commit_sendings course) ≡ true → x ≡ y
one_stored t inv course settled transaction x y here there one other = one_id t course.report.calls transaction x y (commit_sendings course) (entry_free t inv x here) (entry_free t inv y there) settled one other

named_by : (x : Ltxid) (found : Option SessionId) → option_map_or (λ session. is_of_session session x) found false ≡ true → found ≡ Some (session_of x)
named_by x None is = absurd (let none : ⊥ = cc in none)
named_by x (Some session) is = ap Some (sym (same_session_is (session_of x) session is))

-- so no two connections have sessions with an entry of it each
pub never_on_two : (t : Traced) → Invariant t → (index other : ℕ) (a b : Link) → index < other → slice_get t.machine.links index ≡ Some a → slice_get t.machine.links other ≡ Some b
    → (x y : Ltxid) → option_map_or (λ session. is_of_session session x) a.session false ≡ true → option_map_or (λ session. is_of_session session y) b.session false ≡ true → x ≡ y → ⊥
never_on_two t inv index other a b less at there x y first second same =
    links_apart t.machine.links (suc index) (suc other) a b (session_of x) (session_of y) (λ equal. let never : ⊥ = omega (arith, less, equal) in never) at there (named_by x a.session first) (named_by y b.session second)
    (and_parts _ (list_all _ (sessions_of t)) inv.orderly.basic.apart).0 (ap session_of same)
