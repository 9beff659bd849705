-- A transaction whose reads are unchanged runs the same now, and a transaction goes on by one call.
use Rattle.std.proofs.Common.{◌≡◌, List, [], ◌∷◌, ◌++◌, refl, sym, ap, ◌∙◌, subst, append-nil, append_assoc}
use Rattle.std.proofs.lemmas.List.Elements.{All-from_recursion, recursion_from_All}
use Rattle.std.specs.List.{AllByRecursion}
use Rattle.svc_values.specs.declared.schema.Shape.{Shape}
use Rattle.svc_values.specs.declared.entry.Write.{Write}
use Rattle.svc_values.specs.declared.tables.Place.{Place}
use Rattle.svc_values.specs.declared.tables.PlainRow.{PlainRow}
use Rattle.svc_values.specs.meaning.Tables.{rows_at, with_writes}
use Rattle.svc_values.specs.Tables.{AreTables, AgreeAt}
use Rattle.stmt_meaning.specs.meaning.Meaning.{Meant}
use Rattle.stmt_meaning.specs.meaning.Reads.{Read, reads_at}
use Rattle.stmt_meaning.specs.Reads.{ReadsStand}
use Rattle.stmt_meaning.specs.meaning.Serial.{Replays, Transaction}
use Rattle.stmt_meaning.specs.Serial.{RunWhole, CommitLast}
use Rattle.stmt_meaning.specs.Rerun.{CallAt, RanAt, AreOrdered, at_once, pieces_of, reads_of, reads_then}
use Rattle.svc_values.proofs.Offered.{AreTables-with_writes, with_writes-append}
use Rattle.stmt_meaning.proofs.MeanLocal.{mean-same, mean-tables, meant_on, AgreeAt-with_writes}
use Rattle.stmt_meaning.proofs.SerialSteps.{Transaction-whole}
use Rattle.svc_values.specs.meaning.SettingsList.{NamedValues}

-- ---- reads that stand

abbrev Stands : List PlainRow → Read → Type 0
Stands now read = rows_at now read.at ≡ read.found

split : (committed now : List PlainRow) (places : List Place) (more : List Read) → AllByRecursion (Stands now) (reads_at committed places ++ more) → AgreeAt committed now places × AllByRecursion (Stands now) more
split committed now [] more stand = (tt, stand)
split committed now (at ∷ places) more stand = let rest = split committed now places more stand.1 in ((sym stand.0, rest.0), rest.1)

-- what was read at one moment and stands is what both tables agree at
reads-stand : (committed now : List PlainRow) (places : List Place) (more : List Read) → ReadsStand (reads_at committed places ++ more) now → AgreeAt committed now places × ReadsStand more now
reads-stand committed now places more stand =
    let parts = split committed now places more (recursion_from_All (Stands now) (reads_at committed places ++ more) stand) in
    (parts.0, All-from_recursion (Stands now) more parts.1)

-- ---- the calls again

module _ (shape : Shape) (settings : NamedValues) (own : List Write) (moment : CallAt) (moments : List CallAt) where
  abbrev behind : Meant → List Read
  behind meant = reads_of shape meant.settings (own ++ meant.writes) moments

  -- what the first call read, and what the others did
  reads-first : (meant : Meant) → Replays shape (with_writes moment.committed own) settings moment.piece meant → reads_of shape settings own (moment ∷ moments) ≡ reads_at moment.committed meant.reads ++ behind meant
  reads-first meant replays = ap (reads_then moment.committed behind) replays.run

module _ (shape : Shape) (now : List PlainRow) (settings_after : NamedValues) (own_after : List Write) where
  -- the calls again, all on the tables of now
  pub RanAt-at_once : (settings : NamedValues) (own : List Write) (moments : List CallAt) → AreTables now → AreOrdered moments → RanAt shape settings own moments settings_after own_after → ReadsStand (reads_of shape settings own moments) now
      → RanAt shape settings own (at_once now moments) settings_after own_after
  RanAt-at_once settings own [] in_now ordered ran stand = ran
  RanAt-at_once settings own (moment ∷ moments) in_now ordered (meant, (replays, on)) stand =
      let more : List Read = reads_of shape meant.settings (own ++ meant.writes) moments in
      let both : ReadsStand (reads_at moment.committed meant.reads ++ more) now = subst (λ (reads : List Read). ReadsStand reads now) (reads-first shape settings own moment moments meant replays) stand in
      let same = reads-stand moment.committed now meant.reads more both in
      let agree : AgreeAt (with_writes moment.committed own) (with_writes now own) meant.reads = AgreeAt-with_writes moment.committed now own ordered.0 in_now meant.reads same.0 in
      let again = mean-same shape (with_writes moment.committed own) (with_writes now own) settings moment.piece.call moment.piece.draws meant (AreTables-with_writes moment.committed own ordered.0) (AreTables-with_writes now own in_now) replays.run agree in
      (meant_on (with_writes now own) meant, (record { run = again; draws = replays.draws; answers = replays.answers }, RanAt-at_once meant.settings (own ++ meant.writes) moments in_now ordered.1 on same.1))

  -- calls that ran at one moment are pieces that run whole
  pub RunWhole-at_once : (settings : NamedValues) (own : List Write) (moments : List CallAt) → RanAt shape settings own (at_once now moments) settings_after own_after → RunWhole shape (with_writes now own) settings (pieces_of moments) settings_after (with_writes now own_after)
  RunWhole-at_once settings own [] ran = (ran.0, ap (with_writes now) ran.1)
  RunWhole-at_once settings own (moment ∷ moments) (meant, (replays, on)) =
      let tables : with_writes now (own ++ meant.writes) ≡ meant.tables = with_writes-append now own meant.writes ∙ sym (mean-tables shape (with_writes now own) settings moment.piece.call moment.piece.draws meant replays.run) in
      (meant, (replays, subst (λ t. RunWhole shape t meant.settings (pieces_of moments) settings_after (with_writes now own_after)) tables (RunWhole-at_once meant.settings (own ++ meant.writes) moments on)))

  -- where no place that was read has changed, the pieces run whole now
  pub rerun-whole : (settings : NamedValues) (moments : List CallAt) → AreTables now → AreOrdered moments → RanAt shape settings [] moments settings_after own_after → ReadsStand (reads_of shape settings [] moments) now
      → RunWhole shape now settings (pieces_of moments) settings_after (with_writes now own_after)
  rerun-whole settings moments in_now ordered ran stand = RunWhole-at_once settings [] moments (RanAt-at_once settings [] moments in_now ordered ran stand)

  -- and are a transaction, if the last one commits and no other
  pub rerun-transaction : (settings : NamedValues) (moments : List CallAt) → AreTables now → AreOrdered moments → RanAt shape settings [] moments settings_after own_after → ReadsStand (reads_of shape settings [] moments) now → CommitLast (pieces_of moments)
      → Transaction shape now settings (pieces_of moments) (with_writes now own_after)
  rerun-transaction settings moments in_now ordered ran stand last =
      Transaction-whole shape now settings (pieces_of moments) settings_after (with_writes now own_after) (rerun-whole settings moments in_now ordered ran stand) last

-- ---- one call more

module _ (shape : Shape) (last : CallAt) (meant : Meant) where
  -- it ran behind no other
  alone : (settings settings_after : NamedValues) (own own_after : List Write) → RanAt shape settings own [] settings_after own_after → Replays shape (with_writes last.committed own_after) settings_after last.piece meant → Replays shape (with_writes last.committed own) settings last.piece meant
  alone settings settings_after own own_after ran replays =
      subst (λ o. Replays shape (with_writes last.committed o) settings last.piece meant) ran.1 (subst (λ s. Replays shape (with_writes last.committed own_after) s last.piece meant) ran.0 replays)

  pub RanAt-more : (moments : List CallAt) (settings settings_after : NamedValues) (own own_after : List Write) → RanAt shape settings own moments settings_after own_after → Replays shape (with_writes last.committed own_after) settings_after last.piece meant
      → RanAt shape settings own (moments ++ last ∷ []) meant.settings (own_after ++ meant.writes)
  RanAt-more [] settings settings_after own own_after ran replays = (meant, (alone settings settings_after own own_after ran replays, (refl, ap (λ o. o ++ meant.writes) ran.1)))
  RanAt-more (first ∷ moments) settings settings_after own own_after ran replays = (ran.0, (ran.1.0, RanAt-more moments ran.0.settings settings_after (own ++ ran.0.writes) own_after ran.1.1 replays))

  pub reads-more : (moments : List CallAt) (settings settings_after : NamedValues) (own own_after : List Write) → RanAt shape settings own moments settings_after own_after → Replays shape (with_writes last.committed own_after) settings_after last.piece meant
      → reads_of shape settings own (moments ++ last ∷ []) ≡ reads_of shape settings own moments ++ reads_at last.committed meant.reads
  reads-more [] settings settings_after own own_after ran replays = reads-first shape settings own last [] meant (alone settings settings_after own own_after ran replays) ∙ append-nil (reads_at last.committed meant.reads)
  reads-more (first ∷ moments) settings settings_after own own_after ran replays =
      let here : List Read = reads_at first.committed ran.0.reads in
      reads-first shape settings own first (moments ++ last ∷ []) ran.0 ran.1.0
      ∙ ap (λ more. here ++ more) (reads-more moments ran.0.settings settings_after (own ++ ran.0.writes) own_after ran.1.1 replays)
      ∙ sym (append_assoc here (reads_of shape ran.0.settings (own ++ ran.0.writes) moments) (reads_at last.committed meant.reads))
      ∙ ap (λ reads. reads ++ reads_at last.committed meant.reads) (sym (reads-first shape settings own first moments ran.0 ran.1.0))
