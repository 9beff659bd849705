-- From a point at which a call with the mark is served to the end of the run: the request that sent
-- it goes on, and the report has served that call.
use Rattle.std.proofs.Common.{◌≡◌, sym, ap, subst, ◌∙◌, append-nil, append_assoc, true, false, List, [], ◌∷◌, ◌++◌, IsTrue}
use Rattle.std.proofs.lemmas.Bool.{or_left, or_right}
use Rattle.std.proofs.lemmas.List.Folds.{list_any-append}
use Rattle.svc_values.specs.declared.draw.Draw.{Draw}
use Rattle.outage_schedule.specs.declared.document.Document.{Document}
use Rattle.outage_schedule.specs.declared.item.Served.{Served}
use Rattle.shown_clauses.specs.meaning.KeptDraws.{has_marked, is_marked_item}
use Rattle.world_model.specs.meaning.Clients.{Step}
use Rattle.world_model.specs.meaning.Frames.{Owner}
use Rattle.world_model.specs.records.Ready.{all_requests_right}
use Rattle.shown_laws.specs.ByPlace.{RequestSteps, IsRequestOf}
use Rattle.shown_laws.specs.RequestsGrow.{GoesOnAs, RequestsGrow}
use Rattle.legal_laws.specs.MarksTold.{ServesMarked}
use Rattle.legal_laws.specs.Points.{Point, IsPoint, next_point, LeadsTo, IsThere, Onward}
use Rattle.legal_laws.proofs.ItemsTold.{items_left, items_joined}

module _ (document : Document) (last : Point) where
  -- what a request did at a point stays in front of what it did at the last
  pub leads_on : IsTrue (all_requests_right document) → RequestsGrow → (p : Point) → LeadsTo document last p → IsPoint document p → (owner : Owner) (one : RequestSteps) → IsRequestOf p.t.machine.clients owner one → GoesOnAs last.t.machine.clients owner one
  leads_on right grow _ IsThere here owner one is =
      record { more = []; is = subst (λ (steps : List Step). IsRequestOf last.t.machine.clients owner (record { request = one.request; steps = steps })) (sym (append-nil one.steps)) is }
  leads_on right grow _ (Onward p event note more after new happens point leads) here owner one is =
      let next : GoesOnAs new.machine.clients owner one = grow document p.events p.notes p.items more p.seen after p.t new event note right here happens owner one is in
      let end : GoesOnAs last.t.machine.clients owner (record { request = one.request; steps = one.steps ++ next.more }) =
      leads_on right grow (next_point p event note more after new) leads point owner (record { request = one.request; steps = one.steps ++ next.more }) next.is in
      record {
        more = next.more ++ end.more;
        is = subst (λ (steps : List Step). IsRequestOf last.t.machine.clients owner (record { request = one.request; steps = steps })) (append_assoc one.steps next.more end.more) end.is;
      }

  -- the last point has served it
  pub marked_there : (p : Point) (served : Served) (kept : List Draw) → ServesMarked document last p served kept → has_marked last.items ≡ true
  marked_there p served kept serves =
      ap has_marked (items_joined document last (next_point p serves.event serves.note (served ∷ []) serves.after serves.new) serves.leads)
      ∙ (list_any-append (λ (one : Served). is_marked_item one.item) (p.items ++ served ∷ []) rest
      ∙ or_left (has_marked (p.items ++ served ∷ [])) (has_marked rest)
      (list_any-append (λ (one : Served). is_marked_item one.item) p.items (served ∷ []) ∙ or_right (has_marked p.items) (has_marked (served ∷ [])) (or_left (is_marked_item served.item) false serves.marked)))
    where
      rest : List Served
      rest = items_left document last (next_point p serves.event serves.note (served ∷ []) serves.after serves.new) serves.leads
