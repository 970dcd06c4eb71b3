use Rattle.std.proofs.Common.{◌≡◌, ◌++◌, ◌∷◌, [], ℕ, List, refl}
use Rattle.rg_record.specs.declared.fault.RecordFault.{RecordFault}
use Rattle.rg_record.specs.declared.fault.RecordFault.TheVariants.{NotARecord, NoMemory}
use Rattle.rg_record.specs.declared.record.Kind.TheVariants.{Commit}
use Rattle.rg_record.specs.declared.record.Record.{Record}
use Rattle.std.specs.List.{flat_map}
use Rattle.std.proofs.Common.{take, drop, ◌<◌}
use Rattle.rg_image.specs.Page.{spelt}
use Rattle.rg_log.specs.Read.{AreNone, IsNoEntry, StandAt}
use Rattle.rg_log.proofs.Append.{entries_more}
use Rattle.rg_log.proofs.Entry.{one_more, none_more}
use Rattle.rg_log.proofs.entries.entries_at.Goals as goal

some_record : Record
some_record = record {
  position = record { 0 = 0 };
  tran = record { 0 = 0 };
  back = record { 0 = 0 };
  kind = Commit;
}

none : (bytes rest : List ℕ) (count k : ℕ) (items : List Record) (fault : RecordFault) → k < count
    → IsNoEntry rest fault
    → ((rs : List Record) (tail : List ℕ) → StandAt bytes count rs tail
    → (items ≡ take k rs) × (rest ≡ flat_map spelt (drop k rs) ++ tail))
    → AreNone bytes count fault
none bytes rest count k items NoMemory lt missing so_far = tt
none bytes rest count k items NotARecord lt missing so_far = λ rs tail stand.
    none_more bytes rest tail count k items rs NotARecord some_record lt stand refl missing
    (so_far rs tail stand)

pub returns-in-Err-clause-fault : goal.returns-in-Err-clause-fault
returns-in-Err-clause-fault c =
    none c.args.bytes.now c.loop-k.rest.now c.args.count c.loop-k._k c.loop-k.records.items
    c.in-Err.fault c.loop-k-test.true
    c.in-Err.ensures.fault c.loop-k.invariant.found

pub loop-k-preserved : goal.loop-k-preserved
loop-k-preserved c =
    let items : c.push.new.self.items ≡ c.loop-k.records.items ++ c.in-Ok.entry ∷ [] =
    c.in_ok-push-in-Ok.ensures.items in
    rw items
    (record {
      entries = entries_more c.loop-k.records.items c.in-Ok.entry c.in-Ok.ensures.entry
          c.loop-k.invariant.entries;
      found = λ rs tail stand.
          one_more c.args.bytes.now c.loop-k.rest.now c.in-Ok.after.now tail c.args.count
          c.loop-k._k c.loop-k.records.items rs c.in-Ok.entry
          c.in-Ok.ensures.entry c.loop-k-test.true stand c.in-Ok.ensures.bytes
          (c.loop-k.invariant.found rs tail stand);
    })
