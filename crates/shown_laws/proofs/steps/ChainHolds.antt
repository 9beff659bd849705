-- What holds of each step that is told of a client holds of them all, where it makes one more.
use Rattle.std.proofs.Common.{◌≡◌, refl, ◌∙◌, Bool, true, ℕ, length, List, [], ◌∷◌, ◌++◌, Some}
use Rattle.std.specs.List.{list_all}
use Rattle.std.proofs.lemmas.Bool.{and_from}
use Rattle.std.proofs.lemmas.List.Folds.{list_all-append}
use Rattle.outage_schedule.specs.declared.note.GoNote.{GoNote}
use Rattle.shown_clauses.specs.meaning.Links.{Seen}
use Rattle.shown_clauses.specs.meaning.Steps.{Step as StepTold, steps_of}
use Rattle.world_model.specs.meaning.Clients.{Step, Client, client_at}
use Rattle.invariant_laws.specs.Invariant.{Invariant}
use Rattle.world_model.specs.meaning.Machines.{Machine}
use Rattle.world_model.specs.meaning.Settings.{Setting}
use Rattle.world_model.specs.Traced.{Traced}
use Rattle.shown_laws.specs.Identified.{TellsIdentified}
use Rattle.shown_laws.specs.Tellings.{Telling, TellsStep}
use Rattle.shown_laws.proofs.steps.ChainTold.{IsLonger, InCourse, AtEnd, ClientMore, client_more, each_more}
use Rattle.shown_laws.proofs.steps.StepsTold.{told_step, Acts}

-- what is told of each client, and holds of it
abbrev pub AllHold : Setting → (Telling → Bool) → List Client → List StepTold → Type 0
AllHold setting test clients told = (client : ℕ) (own : Client) → client_at clients client ≡ Some own → TellsIdentified setting test client own (steps_of client told)

one_more : {A : Type 0} (test : A → Bool) (xs : List A) (x : A) → list_all test xs ≡ true → test x ≡ true → list_all test (xs ++ x ∷ []) ≡ true
one_more test xs x all here = list_all-append test xs (x ∷ []) ∙ and_from (list_all test xs) (list_all test (x ∷ [])) all (and_from (test x) true here refl)

longer_holds : (test : Telling → Bool) (one : Telling) (past : List (List Telling)) (now : List Telling) (pasts : List (List Telling)) (nows : List Telling) → IsLonger one past now pasts nows → test one ≡ true → list_all (list_all test) past ≡ true → list_all test now ≡ true
    → (list_all (list_all test) pasts ≡ true) × (list_all test nows ≡ true)
longer_holds test one past now _ _ InCourse here before so_far = (before, one_more test now one so_far here)
longer_holds test one past now _ _ AtEnd here before so_far = (one_more (list_all test) past (now ++ one ∷ []) before (one_more test now one so_far here), refl)

module _ (test : Telling → Bool) (t : Traced) (inv : Invariant t) (seen : Seen) (client : ℕ) (did : GoNote) (n : Machine) (acts : Acts t seen client did n)
    (right : (steps : List Step) (one : Telling) (tells : TellsStep t.setting client (length acts.own.past) acts.doing.request steps one) → tells.t ≡ t → test one ≡ true) where
  -- what is told of the client then
  client_holds : (told : List StepTold) → TellsIdentified t.setting test client acts.own told → TellsIdentified t.setting test client acts.moves.next (told ++ told_step t seen client did ∷ [])
  client_holds told was =
      let is : ClientMore t inv seen client did n acts told acts.moves.next was.tells = client_more t inv seen client did n acts told acts.moves.next acts.moves.leads was.tells in
      let holds = longer_holds test is.more.one was.tells.past was.tells.now is.tells.past is.tells.now is.longer (right is.more.steps is.more.one is.more.tells is.more.now) was.past was.now in
      record { tells = is.tells; past = holds.0; now = holds.1 }

  -- All clients, where this one makes a step more.
  pub clients_hold : (told : List StepTold) → AllHold t.setting test t.machine.clients told → AllHold t.setting test n.clients (told ++ told_step t seen client did ∷ [])
  clients_hold told before = each_more t inv seen client did n acts (TellsIdentified t.setting test) told (client_holds (steps_of client told)) before
