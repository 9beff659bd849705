-- Frames that count as stopped, of whose records an image holds a front: the plain server beside
-- it.
use Rattle.std.proofs.Common.{◌≡◌, ◌≢◌, ◌∙◌, ◌⊎◌, ◌+◌, ◌≤◌, ℕ, zero, suc, refl, sym, ap, subst, inl, inr, List, [], ◌∷◌, ◌++◌, length, map, take, append_assoc, append-nil, arith}
use Rattle.std.specs.Prelude.{Result, Ok, IfOk}
use Rattle.disk_model.specs.Disk.{DiskState}
use Rattle.redo_store.specs.Records.{record_count}
use Rattle.redo_store.specs.meaning.Records.{records_of}
use Rattle.svc_values.specs.declared.entry.SessionId.{SessionId}
use Rattle.svc_values.specs.declared.frame.Up.{Up}
use Rattle.svc_values.specs.meaning.Calls.{sequences_in}
use Rattle.svc_values.specs.meaning.Identifiers.{session_of}
use Rattle.mutable_values.specs.declared.grants.Grants.{Grants}
use Rattle.commit_log.specs.declared.journal.Journal.{Journal}
use Rattle.commit_log.specs.declared.records.Record.{Record}
use Rattle.commit_log.specs.Growth.{HasAdded, IsGrown, with_payloads, with_records}
use Rattle.commit_log.specs.RecordBytes.{spell_record}
use Rattle.commit_log.specs.meaning.Journals.{journal_of}
use Rattle.commit_log.proofs.Offered.{has_itself}
use Rattle.server_model.specs.meaning.Base.{Base}
use Rattle.server_model.specs.meaning.Outcomes.{Stopped, Telling}
use Rattle.server_model.specs.Runs.{Happened, Runs, Served, Server, Halted, Then, Halts, Loses}
use Rattle.server_model.specs.ServiceCalls.{Gains}
use Rattle.server_model.specs.Sessions.{Sess, ended}
use Rattle.server_model.proofs.Offered.{serve_stays, stopped_adds}
use Rattle.server_session.specs.declared.shared.Core.{Core}
use Rattle.server_session.specs.Plain.{IsStored}
use Rattle.server_session.specs.SeenSession.{SeenSession as Session, sess_of}
use Rattle.server_session.specs.Serving.{StopsAtFronts, served_as}
use Rattle.service_core.specs.declared.notes.Notes.{Notes}
use Rattle.service_core.specs.Held.{Held}
use Rattle.service_core.specs.InnerHonest.{store_is}
use Rattle.service_core.specs.Seeing.{Came, store_in, store_of}
use Rattle.service_core.specs.Through.{Item, item, Through, Still, Then as Next}
use Rattle.service_core.specs.Unanswered.{LiesBetween}
use Rattle.service_core.proofs.Beside.{IsBeside, gains_on, through_beside}
use Rattle.service_core.proofs.halts.Fronting.{has_some}
use Rattle.service_core.proofs.Gained.{added_grew, adds_between, count_more}
use Rattle.service_core.proofs.halts.LostFrames.{StandsLost, lost_in, lost_last, lost_more, nothing_gained, through_added, through_lost}
use Rattle.service_core.proofs.halts.Unanswering.{grown_between, whole_grown}

-- The plain server is halted beside the image, and has a session with this identifier.
pub record LostAt (grants : Grants) (image : List ℕ) (id : SessionId) (server : Server) : Type 0 where
  pub halted : server.power ≡ Halted
  pub stored : IfOk (journal_of image) (IsStored server.core)
  pub granted : server.core.base.grants ≡ grants
  pub sess : Sess
  pub front : List Sess
  pub back : List Sess
  pub split : server.sessions ≡ front ++ sess ∷ back
  pub is : session_of sess.ltxid ≡ id

-- It has come to it, with what the store gains.
pub record FrontLost (grants : Grants) (start : Base) (history more : List Happened) (disk : DiskState) (image : List ℕ) (id : SessionId) : Type 0 where
  pub came : Came start (history ++ more) (LostAt grants image id)
  pub gains : Gains more (store_of disk.now.seen) (store_of image)

-- ---- where an image stands

behind : (front a b : List (List ℕ)) → front ++ a ≡ front ++ b → a ≡ b
behind [] a b e = e
behind (payload ∷ front) a b e = behind front a b cc

-- the first part is in the one list, or has all of it and more
data Stands (some more one other : List (List ℕ)) : Type 0 where
  Within : (rest : List (List ℕ)) → one ≡ some ++ rest → Stands some more one other
  Past : (rest : List (List ℕ)) → some ≡ one ++ rest → rest ++ more ≡ other → rest ≢ [] → Stands some more one other

stands_at : (some more one other : List (List ℕ)) → some ++ more ≡ one ++ other → Stands some more one other
stands_at [] more one other e = Within one refl
stands_at (payload ∷ some) more [] other e = Past (payload ∷ some) refl e (λ none. let no : ⊥ = cc in no)
stands_at (payload ∷ some) more (first ∷ one) other e = by (stands_at some more one other cc)
  where
    same : payload ≡ first
    same = cc

    by : Stands some more one other → Stands (payload ∷ some) more (first ∷ one) other
    by (Within rest is) = Within rest (ap (λ (p : List ℕ). p ∷ one) (sym same) ∙ ap (λ (l : List (List ℕ)). payload ∷ l) is)
    by (Past rest is others some_more) = Past rest (ap (λ (p : List ℕ). p ∷ some) same ∙ ap (λ (l : List (List ℕ)). first ∷ l) is) others some_more

ok_is : (a b : List (List ℕ)) (r : Result (List (List ℕ)) ℕ) → r ≡ Ok a → r ≡ Ok b → a ≡ b
ok_is a b r first second = cc

none_spelled : (rest more : List (List ℕ)) (records : List Record) → rest ++ more ≡ map spell_record records → rest ≢ [] → records ≢ []
none_spelled [] more records e some none = some refl
none_spelled (payload ∷ rest) more [] e some none = let no : ⊥ = cc in no
none_spelled (payload ∷ rest) more (one ∷ records) e some none = let no : ⊥ = cc in no

-- between the first two stores, or the last two
abbrev pub IsPart : (disk at left image : List ℕ) (second : List Record) → Type 0
IsPart disk at left image second = LiesBetween disk image at ⊎ (LiesBetween at image left × (second ≢ []))

pub part_of : (disk at left image : List ℕ) (first second : List Record) → HasAdded disk first at → HasAdded at second left → LiesBetween disk image left → IsPart disk at left image second
part_of disk at left image first second has more lies = by (stands_at lies.some lies.more (map spell_record first) (map spell_record second) split)
  where
    at_is : records_of at ≡ Ok (lies.records ++ map spell_record first)
    at_is = has.records ∙ ap (with_payloads first) lies.old_is

    left_is : records_of left ≡ Ok ((lies.records ++ map spell_record first) ++ map spell_record second)
    left_is = more.records ∙ ap (with_payloads second) at_is

    split : lies.some ++ lies.more ≡ map spell_record first ++ map spell_record second
    split =
        behind lies.records (lies.some ++ lies.more) (map spell_record first ++ map spell_record second)
        (sym (append_assoc lies.records lies.some lies.more) ∙ ok_is ((lies.records ++ lies.some) ++ lies.more) ((lies.records ++ map spell_record first) ++ map spell_record second) (records_of left) lies.new_is left_is
        ∙ append_assoc lies.records (map spell_record first) (map spell_record second))

    by : Stands lies.some lies.more (map spell_record first) (map spell_record second) → IsPart disk at left image second
    by (Within rest is) = inl (record { records = lies.records; some = lies.some; more = rest; old_is = lies.old_is; image_is = lies.image_is; new_is = at_is ∙ ap (λ (l : List (List ℕ)). Ok (lies.records ++ l)) is ∙ ap (λ (l : List (List ℕ)). Ok l) (sym (append_assoc lies.records lies.some rest)) })
    by (Past rest is others some_more) =
        inr (
          record {
            records = lies.records ++ map spell_record first;
            some = rest;
            more = lies.more;
            old_is = at_is;
            image_is = lies.image_is ∙ ap (λ (l : List (List ℕ)). Ok (lies.records ++ l)) is ∙ ap (λ (l : List (List ℕ)). Ok l) (sym (append_assoc lies.records (map spell_record first) rest));
            new_is = left_is ∙ ap (λ (l : List (List ℕ)). Ok ((lies.records ++ map spell_record first) ++ l)) (sym others) ∙ ap (λ (l : List (List ℕ)). Ok l) (sym (append_assoc (lies.records ++ map spell_record first) rest lies.more));
          },
          none_spelled rest lies.more second others some_more,
        )

-- ---- an image with nothing more

nothing_more : (old image : List ℕ) → IsGrown old [] image → HasAdded old [] image
nothing_more old image grown = by grown.count grown.within grown.has
  where
    by : (count : ℕ) → count ≤ 0 → HasAdded old (take count []) image → HasAdded old [] image
    by zero within has = has
    by (suc count) within has = absurd (omega (arith, within))

same_store : (old image : List ℕ) (journal : Journal) → journal_of old ≡ Ok journal → HasAdded old [] image → store_of image ≡ store_of old
same_store old image journal reads has =
    let later : journal_of image ≡ Ok journal = has.journal ∙ ap (with_records []) reads in
    let count : record_count (records_of image) ≡ record_count (records_of old) = omega (arith, count_more old [] image journal reads has) in
    store_is image journal later ∙ ap (λ (n : ℕ). store_in (Ok journal) n) count ∙ sym (store_is old journal reads)

-- ---- the frame in which the front ends

module _ (grants : Grants) (frame : Up) (now : ℕ) (core : Core) (disk : DiskState) (held : Held) (notes : Notes) (session : Session) (beside : IsBeside grants disk core held notes session) (records : List Record) (few : length records ≤ 1 + sequences_in frame)
    (fronts : StopsAtFronts (served_as frame now) session core disk records) (start : Base) (history : List Happened) (ready : Came start history (StandsLost disk core session)) (image : List ℕ) (grown : IsGrown disk.now.seen records image) where
  front_on : FrontLost grants start history (Served (session_of session.ltxid) now frame Stopped ∷ []) disk image (session_of session.ltxid)
  front_on =
      let own = ready.stands.own in
      let old_sess = sess_of session own.reads in
      let steps = fronts ready.server.core own.reads ready.stands.plain own.noted image grown in
      let stays = serve_stays ready.server.core old_sess now frame steps.0 (ended old_sess) Stopped steps.1.1 in
      let some = has_some disk.now.seen records (1 + sequences_in frame) image few grown in
      let grew = added_grew disk.now.seen some.added beside.up.fits.journal image beside.up.fits.reads some.has in
      let after : Server = record { power = Halted; core = steps.0; sessions = own.front ++ ended old_sess ∷ own.back; count = ready.server.count } in
      record {
        came = record {
          server = after;
          runs =
              Then history (Served (session_of session.ltxid) now frame Stopped ∷ []) ready.server after ready.runs
              (Halts old_sess (ended old_sess) now frame steps.0 Stopped after ready.stands.running steps.1.1 (record { front = own.front; back = own.back; split = own.split; turned = refl }));
          is_base = stays.base ∙ ready.is_base;
          stands = record {
            halted = refl;
            stored = steps.1.0;
            granted = ap (λ (b : Base). b.grants) stays.base ∙ ready.stands.plain.grants ∙ beside.up.granted;
            sess = ended old_sess;
            front = own.front;
            back = own.back;
            split = refl;
            is = refl;
          };
        };
        gains = (adds_between (Served (session_of session.ltxid) now frame Stopped) (1 + sequences_in frame) ready.server.core steps.0 (stopped_adds ready.server.core old_sess now frame steps.0 (ended old_sess) Stopped steps.1.1) disk.now.seen image some.added
            beside.up.fits.journal grew.later beside.up.fits.reads grew.reads (subst (λ (r : Result Journal ℕ). IfOk r (IsStored ready.server.core)) beside.up.fits.reads ready.stands.plain.stored)
            (subst (λ (r : Result Journal ℕ). IfOk r (IsStored steps.0)) grew.reads steps.1.0) (record { base = stays.base; incarnation = stays.incarnation; horizon = stays.horizon }) some.has some.few).gains;
      }

-- ---- those behind it

lost_behind : (grants : Grants) (start : Base) (history : List Happened) (disk : DiskState) (image : List ℕ) (id : SessionId) (now : ℕ) (items : List Item) (frame : Up) (told : Telling) → FrontLost grants start history (lost_in id now items) disk image id
    → FrontLost grants start history (lost_in id now (items ++ item frame told ∷ [])) disk image id
lost_behind grants start history disk image id now items frame told front =
    let server = front.came.server in
    let stands = front.came.stands in
    let after : Server = record { power = Halted; core = server.core; sessions = stands.front ++ ended stands.sess ∷ stands.back; count = server.count } in
    record {
      came = record {
        server = after;
        runs = subst (λ (h : List Happened). Runs start h after) (lost_more id (session_of stands.sess.ltxid) now history items frame told stands.is)
            (Then (history ++ lost_in id now items) (Served (session_of stands.sess.ltxid) now frame Stopped ∷ []) server after front.came.runs
            (Loses stands.sess now frame after stands.halted (record { front = stands.front; back = stands.back; split = stands.split; turned = refl })));
        is_base = front.came.is_base;
        stands = record { halted = refl; stored = stands.stored; granted = stands.granted; sess = ended stands.sess; front = stands.front; back = stands.back; split = refl; is = stands.is };
      };
      gains = subst (λ (l : List Happened). Gains l (store_of disk.now.seen) (store_of image)) (lost_last id (session_of stands.sess.ltxid) now items frame told stands.is)
          (gains_on (lost_in id now items) (Served (session_of stands.sess.ltxid) now frame Stopped ∷ []) (store_of disk.now.seen) (store_of image) (store_of image) front.gains
          (nothing_gained (Served (session_of stands.sess.ltxid) now frame Stopped ∷ []) (store_of image)));
    }

-- ---- frame after frame

module _ (grants : Grants) (now : ℕ) (session : Session) (core : Core) (disk : DiskState) (held : Held) (notes : Notes) (beside : IsBeside grants disk core held notes session) (start : Base) (history : List Happened) (ready : Came start history (StandsLost disk core session))
    (halted : ready.server.power ≡ Halted) where
  abbrev id : SessionId
  id = session_of session.ltxid

  -- with one more frame, of whose records the image holds a front
  pub then_front : (items : List Item) (mid : Session) (between : Core) (at : DiskState) → Through now session core disk items mid between at
      → ((image : List ℕ) → LiesBetween disk.now.seen image at.now.seen → FrontLost grants start history (lost_in id now items) disk image id)
      → (frame : Up) (told : Telling) (records : List Record) → length records ≤ 1 + sequences_in frame → (records ≢ [] → StopsAtFronts (served_as frame now) mid between at records) → (image left : List ℕ) → IsGrown at.now.seen records left → LiesBetween disk.now.seen image left
      → FrontLost grants start history (lost_in id now (items ++ item frame told ∷ [])) disk image id
  then_front items mid between at through earlier frame told records few fronts image left grown lies =
      by (part_of disk.now.seen at.now.seen left image added.0 (take grown.count records) added.1 grown.has lies)
    where
      added : (records : List Record) × HasAdded disk.now.seen records at.now.seen
      added = through_added grants now session core disk held notes beside start history ready items mid between at through

      beside_mid : IsBeside grants at between held notes mid
      beside_mid = through_beside grants now session core disk held notes beside items mid between at through

      some_of : (count : ℕ) (records : List Record) → take count records ≢ [] → records ≢ []
      some_of zero records some none = some refl
      some_of (suc count) [] some none = some refl
      some_of (suc count) (one ∷ records) some none = let no : ⊥ = cc in no

      by : IsPart disk.now.seen at.now.seen left image (take grown.count records) → FrontLost grants start history (lost_in id now (items ++ item frame told ∷ [])) disk image id
      by (inl within) = lost_behind grants start history disk image id now items frame told (earlier image within)
      by (inr past) =
          let first = (through_lost grants now session core disk held notes beside start history ready items mid between at through).0 in
          let own_grown = grown_between at.now.seen image left records beside_mid.up.fits.journal beside_mid.up.fits.reads grown past.0 in
          let last = front_on grants frame now between at held notes mid beside_mid records few (fronts (some_of grown.count records past.1)) start (history ++ lost_in id now items) first.came image own_grown in
          record {
            came = record {
              server = last.came.server;
              runs = subst (λ (h : List Happened). Runs start h last.came.server) (lost_more id (session_of mid.ltxid) now history items frame told first.same) last.came.runs;
              is_base = last.came.is_base;
              stands = record {
                halted = last.came.stands.halted;
                stored = last.came.stands.stored;
                granted = last.came.stands.granted;
                sess = last.came.stands.sess;
                front = last.came.stands.front;
                back = last.came.stands.back;
                split = last.came.stands.split;
                is = last.came.stands.is ∙ first.same;
              };
            };
            gains = subst (λ (l : List Happened). Gains l (store_of disk.now.seen) (store_of image)) (lost_last id (session_of mid.ltxid) now items frame told first.same)
                (gains_on (lost_in id now items) (Served (session_of mid.ltxid) now frame Stopped ∷ []) (store_of disk.now.seen) (store_of at.now.seen) (store_of image) first.gains last.gains);
          }

  pub front_lost : (items : List Item) (new : Session) (later : Core) (end : DiskState) → Through now session core disk items new later end → (image : List ℕ) → LiesBetween disk.now.seen image end.now.seen
      → FrontLost grants start history (lost_in id now items) disk image id
  front_lost _ _ _ _ Still image lies =
      let reads = beside.up.fits.reads in
      let has = nothing_more disk.now.seen image (grown_between disk.now.seen image disk.now.seen [] beside.up.fits.journal reads (record { count = 0; within = omega arith; has = has_itself disk.now.seen }) lies) in
      let own = ready.stands.own in
      let stored = subst (λ (r : Result Journal ℕ). IfOk r (IsStored ready.server.core)) reads ready.stands.plain.stored in
      record {
        came = record {
          server = ready.server;
          runs = subst (λ (h : List Happened). Runs start h ready.server) (sym (append-nil history)) ready.runs;
          is_base = ready.is_base;
          stands = record {
            halted = halted;
            stored = subst (λ (r : Result Journal ℕ). IfOk r (IsStored ready.server.core)) (sym (has.journal ∙ ap (with_records []) reads)) stored;
            granted = ready.stands.plain.grants ∙ beside.up.granted;
            sess = sess_of session own.reads;
            front = own.front;
            back = own.back;
            split = own.split;
            is = refl;
          };
        };
        gains = subst (Gains [] (store_of disk.now.seen)) (sym (same_store disk.now.seen image beside.up.fits.journal reads has)) (nothing_gained [] (store_of disk.now.seen));
      }
  front_lost _ _ _ _ (Next items mid between at frame told new later end through served answered) image lies =
      then_front items mid between at through (λ earlier within. front_lost items mid between at through earlier within) frame told served.records served.few served.fronts image end.now.seen
      (whole_grown at.now.seen end.now.seen end.now.seen served.records served.gained.added refl) lies
