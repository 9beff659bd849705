use Rattle.std.proofs.Common.{◌≡◌, ◌+◌, ◌∷◌, [], length, ⊎_elim, sym, ◌∙◌, ap, subst, arith, Err}
use Rattle.std.specs.Prelude.{IsTrue}
use Rattle.disk_model.specs.Moment.{with_bytes}
use Rattle.disk_model.specs.Disk.{DiskState, IsSettled}
use Rattle.disk_model.specs.declared.disk.DiskFault.{DiskFault}
use Rattle.redo_store.specs.meaning.Records.{records_of}
use Rattle.redo_store.specs.Records.{payload_in, record_count}
use Rattle.redo_store.specs.Store.{IsStore}
use Rattle.redo_store.specs.Redo.{StoreGoesOn}
use Rattle.redo_store.proofs.Gates.{tail_within, few_records, one_more, gate_open, added}
use Rattle.redo_store.proofs.Appending.{fault_cases, body_written, body_keeps, kept, still_store, gate_written, gate_keeps}
use Rattle.redo_store.proofs.redo.Redo.append_made.Goals as goal

pub returns-in-Err-clause-any_moment : goal.returns-in-Err-clause-any_moment
returns-in-Err-clause-any_moment g c =
    body_written (g.D.Disk.state c.args.disk.now) (g.D.Disk.state c.write_durably.new.disk) c.args.self.now.tail c.requires.ready.store (payload_in c.args.made.items) c.deref.result.now c.write_durably.ensures.meanwhile

pub returns-in-Err-write_durably-clause-refused : goal.returns-in-Err-write_durably-clause-refused
returns-in-Err-write_durably-clause-refused g c no_memory =
    let s = g.D.Disk.state c.args.disk.now in
    let t = g.D.Disk.state c.write_durably.new.disk in
    let kept_here = kept s t c.args.self.now.tail c.requires.ready.store (payload_in c.args.made.items) c.deref.result.now c.in_default.ensures.written in
    ⊎_elim
    (λ failed. let stopped = (c.refusal-in-Err-write_durably.ensures.stopped failed).0 in cc)
    (λ no. ap (λ (d : DiskState). records_of d.now.seen) (c.write_durably-2.ensures.refused (c.in-Err-write_durably.is ∙ ap (λ (f : DiskFault). Err f) no)) ∙ kept_here)
    (fault_cases c.in-Err-write_durably.fault)

pub returns-in-Err-write_durably-clause-goes_on : goal.returns-in-Err-write_durably-clause-goes_on
returns-in-Err-write_durably-clause-goes_on g c =
    let s = g.D.Disk.state c.args.disk.now in
    let t = g.D.Disk.state c.write_durably.new.disk in
    let u = g.D.Disk.state c.write_durably-2.new.disk in
    let old = c.args.self.now in
    let new = c.refusal-in-Err-write_durably.new.self in
    let tail = old.tail in
    let r = c.refusal-in-Err-write_durably.ensures in
    let still = still_store s t tail c.requires.ready.store (payload_in c.args.made.items) c.deref.result.now c.in_default.ensures.written in
    let same_records = kept s t tail c.requires.ready.store (payload_in c.args.made.items) c.deref.result.now c.in_default.ensures.written in
    ⊎_elim
    (λ failed. subst (λ f. StoreGoesOn (Err f) old new u) (sym (r.stopped failed).0) ((r.stopped failed).1, r.count, r.tail))
    (λ no.
    let same : t ≡ u = sym (c.write_durably-2.ensures.refused (c.in-Err-write_durably.is ∙ ap (λ (f : DiskFault). Err f) no)) in
    subst (λ f. StoreGoesOn (Err f) old new u) (sym (r.no_memory no).0) record {
      live = subst (λ b. IsTrue b) (sym (r.no_memory no).1) c.requires.ready.live;
      store = subst (λ n. IsStore n u.now.seen) (sym r.tail) (subst (λ (d : DiskState). IsStore tail d.now.seen) same still);
      counted = r.count ∙ c.requires.ready.counted ∙ ap record_count (sym same_records) ∙ ap (λ (d : DiskState). record_count (records_of d.now.seen)) same;
      settled = subst IsSettled same c.in_default.ensures.durable;
    })
    (fault_cases c.in-Err-write_durably.fault)

pub returns-in-Err-write_durably-clause-any_moment : goal.returns-in-Err-write_durably-clause-any_moment
returns-in-Err-write_durably-clause-any_moment g c =
    gate_written (g.D.Disk.state c.args.disk.now) (g.D.Disk.state c.write_durably.new.disk) c.args.self.now.tail c.requires.ready.store (payload_in c.args.made.items) c.deref.result.now c.in_default.ensures.written (g.D.Disk.state c.write_durably-2.new.disk)
    c.in_ok-body.ensures.short (c.deref.ensures.value ∙ c.in_ok-body.ensures.body) c.write_durably.ensures.meanwhile c.write_durably-2.ensures.meanwhile

pub returns-clause-added : goal.returns-clause-added
returns-clause-added g c =
    let s = g.D.Disk.state c.args.disk.now in
    let tail = c.args.self.now.tail in
    added tail s.now.seen c.requires.ready.store (payload_in c.args.made.items) c.deref.result.now c.in_ok-body.ensures.short (c.deref.ensures.value ∙ c.in_ok-body.ensures.body) _
    (c.in_default-write_durably.ensures.written ∙ ap (with_bytes tail (1 ∷ [])) c.in_default.ensures.written)

pub overflow_add-self-2 : goal.overflow_add-self-2
overflow_add-self-2 g c =
    let s = g.D.Disk.state c.args.disk.now in
    let body = c.in_ok-body.body in
    omega (arith, c.len.ensures, body.ok.1, body.small, tail_within c.args.self.now.tail s.now.seen c.requires.ready.store, g.met.D.Disk.bounded c.args.disk.now)

pub overflow_add-self-3 : goal.overflow_add-self-3
overflow_add-self-3 g c =
    let s = g.D.Disk.state c.args.disk.now in
    let tail = c.args.self.now.tail in
    omega (arith, c.requires.ready.counted, few_records tail s.now.seen c.requires.ready.store, tail_within tail s.now.seen c.requires.ready.store, g.met.D.Disk.bounded c.args.disk.now)

pub returns-clause-goes_on : goal.returns-clause-goes_on
returns-clause-goes_on g c =
    let s = g.D.Disk.state c.args.disk.now in
    let u = g.D.Disk.state c.write_durably-2.new.disk in
    let tail = c.args.self.now.tail in
    let payload = payload_in c.args.made.items in
    let body = c.deref.result.now in
    let store = gate_open tail s.now.seen c.requires.ready.store payload body c.in_ok-body.ensures.short (c.deref.ensures.value ∙ c.in_ok-body.ensures.body) u.now.seen
    (c.in_default-write_durably.ensures.written ∙ ap (with_bytes tail (1 ∷ [])) c.in_default.ensures.written) in
    let longer : tail + length body ≡ tail + c.len.result = ap (λ n. tail + n) (sym (c.len.ensures ∙ sym c.deref.ensures.len)) in
    let one : record_count (records_of u.now.seen) ≡ record_count (records_of s.now.seen) + 1 = ap record_count (returns-clause-added g c) ∙ one_more tail s.now.seen c.requires.ready.store payload in
    record {
      live = c.requires.ready.live;
      store = subst (λ n. IsStore n u.now.seen) longer store;
      counted = ap (λ n. n + 1) c.requires.ready.counted ∙ sym one;
      settled = c.in_default-write_durably.ensures.durable;
    }

pub returns-clause-any_moment : goal.returns-clause-any_moment
returns-clause-any_moment g c =
    gate_written (g.D.Disk.state c.args.disk.now) (g.D.Disk.state c.write_durably.new.disk) c.args.self.now.tail c.requires.ready.store (payload_in c.args.made.items) c.deref.result.now c.in_default.ensures.written (g.D.Disk.state c.write_durably-2.new.disk)
    c.in_ok-body.ensures.short (c.deref.ensures.value ∙ c.in_ok-body.ensures.body) c.write_durably.ensures.meanwhile c.write_durably-2.ensures.meanwhile

pub returns-in-Err-clause-front : goal.returns-in-Err-clause-front
returns-in-Err-clause-front g c =
    body_keeps (g.D.Disk.state c.args.disk.now) (g.D.Disk.state c.write_durably.new.disk) c.args.self.now.tail c.requires.ready.store (payload_in c.args.made.items) c.deref.result.now c.write_durably.ensures.meanwhile

pub returns-in-Err-write_durably-clause-front : goal.returns-in-Err-write_durably-clause-front
returns-in-Err-write_durably-clause-front g c =
    gate_keeps (g.D.Disk.state c.args.disk.now) (g.D.Disk.state c.write_durably.new.disk) c.args.self.now.tail c.requires.ready.store (payload_in c.args.made.items) c.deref.result.now c.in_default.ensures.written (g.D.Disk.state c.write_durably-2.new.disk)
    c.in_ok-body.ensures.short (c.deref.ensures.value ∙ c.in_ok-body.ensures.body) c.write_durably.ensures.meanwhile c.write_durably-2.ensures.meanwhile

pub returns-clause-front : goal.returns-clause-front
returns-clause-front g c =
    gate_keeps (g.D.Disk.state c.args.disk.now) (g.D.Disk.state c.write_durably.new.disk) c.args.self.now.tail c.requires.ready.store (payload_in c.args.made.items) c.deref.result.now c.in_default.ensures.written (g.D.Disk.state c.write_durably-2.new.disk)
    c.in_ok-body.ensures.short (c.deref.ensures.value ∙ c.in_ok-body.ensures.body) c.write_durably.ensures.meanwhile c.write_durably-2.ensures.meanwhile
