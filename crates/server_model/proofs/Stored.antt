-- What a frame stores: an entry that comes from it, a block that it asked for, a line, or nothing.
use Rattle.std.specs.Prelude.{◌≡◌, ◌⊎◌, ℕ, IsTrue, List, [], ◌∷◌, ◌++◌, All}
use Rattle.std.proofs.Common.{refl, inl, inr, sym, ◌∙◌, subst, append-nil}
use Rattle.std.proofs.lemmas.List.{append_cancel_left}
use Rattle.std.proofs.lemmas.List.Elements.{All-cons, All-nil}
use Rattle.svc_values.specs.declared.entry.Ltxid.{Ltxid}
use Rattle.svc_values.specs.declared.entry.Entry.{Entry}
use Rattle.svc_values.specs.declared.frame.Up.{Up}
use Rattle.svc_values.specs.meaning.Identifiers.{session_of}
use Rattle.server_model.specs.Core.{Core}
use Rattle.server_model.specs.Sessions.{Sess}
use Rattle.server_model.specs.meaning.Outcomes.{Telling, Stopped}
use Rattle.server_model.specs.Serve.{Serve}
use Rattle.server_model.specs.Runs.{Happened, Served, is_answered}
use Rattle.server_model.specs.Laws.{CommitsAs}
use Rattle.server_model.specs.ServiceCalls.{AsksFor}
use Rattle.server_model.proofs.walks.BlocksTold.{BlocksAtMost, AddsNone, AddsOne, frame_blocks}
use Rattle.server_model.proofs.FromItems.{From, NoEntry, NewEntry, serve_from}
use Rattle.server_model.proofs.Fronts.{Adds, serve_adds}

-- what is added, and by what
pub record AddsBy (one : Happened) (core after : Core) : Type 0 where
  pub adds : Adds core after
  pub own : All (λ entry. CommitsAs entry one) adds.more_entries
  pub asked : All (λ x. AsksFor x one) adds.more_blocked

no_more : {A : Type 0} (list more : List A) → list ++ more ≡ list → [] ≡ more
no_more list more same = sym (append_cancel_left list more [] (same ∙ sym (append-nil list)))

own_entries : (one : Happened) (core after : Core) (adds : Adds core after) → (after.entries ≡ core.entries) ⊎ ((entry : Entry) × ((after.entries ≡ core.entries ++ entry ∷ []) × CommitsAs entry one)) → All (λ entry. CommitsAs entry one) adds.more_entries
own_entries one core after adds (inl same) = subst (All (λ (entry : Entry). CommitsAs entry one)) (no_more core.entries adds.more_entries (sym adds.entries ∙ same)) (All-nil (λ (entry : Entry). CommitsAs entry one))
own_entries one core after adds (inr more) =
    subst (All (λ (entry : Entry). CommitsAs entry one)) (append_cancel_left core.entries (more.0 ∷ []) adds.more_entries (sym more.1.0 ∙ adds.entries))
    (All-cons (λ (entry : Entry). CommitsAs entry one) more.0 [] more.1.1 (All-nil (λ (entry : Entry). CommitsAs entry one)))

asked_blocks : (one : Happened) (core after : Core) (adds : Adds core after) → (after.blocked ≡ core.blocked) ⊎ ((x : Ltxid) × ((after.blocked ≡ core.blocked ++ x ∷ []) × AsksFor x one)) → All (λ x. AsksFor x one) adds.more_blocked
asked_blocks one core after adds (inl same) = subst (All (λ (x : Ltxid). AsksFor x one)) (no_more core.blocked adds.more_blocked (sym adds.blocked ∙ same)) (All-nil (λ (x : Ltxid). AsksFor x one))
asked_blocks one core after adds (inr more) =
    subst (All (λ (x : Ltxid). AsksFor x one)) (append_cancel_left core.blocked (more.0 ∷ []) adds.more_blocked (sym more.1.0 ∙ adds.blocked))
    (All-cons (λ (x : Ltxid). AsksFor x one) more.0 [] more.1.1 (All-nil (λ (x : Ltxid). AsksFor x one)))

asks : (core : Core) (sess : Sess) (now : ℕ) (frame : Up) (after : Core) (told said : Telling) → BlocksAtMost core frame after told
    → (after.blocked ≡ core.blocked) ⊎ ((x : Ltxid) × ((after.blocked ≡ core.blocked ++ x ∷ []) × AsksFor x (Served (session_of sess.ltxid) now frame said)))
asks core sess now frame after told said (AddsNone same) = inl same
asks core sess now frame after told said (AddsOne x is more by) = inr (x, (more, subst (λ (f : Up). AsksFor x (Served (session_of sess.ltxid) now f said)) (sym is) refl))

-- answered
pub answered_adds : (core : Core) (sess : Sess) (now : ℕ) (frame : Up) (after : Core) (t : Sess) (told : Telling) → Serve core sess now frame after t told → IsTrue (is_answered told) → AddsBy (Served (session_of sess.ltxid) now frame told) core after
answered_adds core sess now frame after t told serve answered =
    let adds = serve_adds core sess now frame after t told serve in
    record {
      adds = adds;
      own = own_entries (Served (session_of sess.ltxid) now frame told) core after adds (by (serve_from core sess now frame after t told serve));
      asked = asked_blocks (Served (session_of sess.ltxid) now frame told) core after adds (asks core sess now frame after told told (frame_blocks core sess now frame after t told serve));
    }
  where
    by : From core sess now frame told after → (after.entries ≡ core.entries) ⊎ ((entry : Entry) × ((after.entries ≡ core.entries ++ entry ∷ []) × CommitsAs entry (Served (session_of sess.ltxid) now frame told)))
    by (NoEntry same) = inl same
    by (NewEntry entry more as_told as_stopped) = inr (entry, (more, as_told answered))

-- stopped in it, or behind it and before its answer went out
pub stopped_adds : (core : Core) (sess : Sess) (now : ℕ) (frame : Up) (after : Core) (t : Sess) (told : Telling) → Serve core sess now frame after t told → AddsBy (Served (session_of sess.ltxid) now frame Stopped) core after
stopped_adds core sess now frame after t told serve =
    let adds = serve_adds core sess now frame after t told serve in
    record {
      adds = adds;
      own = own_entries (Served (session_of sess.ltxid) now frame Stopped) core after adds (by (serve_from core sess now frame after t told serve));
      asked = asked_blocks (Served (session_of sess.ltxid) now frame Stopped) core after adds (asks core sess now frame after told Stopped (frame_blocks core sess now frame after t told serve));
    }
  where
    by : From core sess now frame told after → (after.entries ≡ core.entries) ⊎ ((entry : Entry) × ((after.entries ≡ core.entries ++ entry ∷ []) × CommitsAs entry (Served (session_of sess.ltxid) now frame Stopped)))
    by (NoEntry same) = inl same
    by (NewEntry entry more as_told as_stopped) = inr (entry, (more, as_stopped))
