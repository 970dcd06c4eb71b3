use Rattle.std.proofs.Common.{◌≡◌, ◌++◌, ℕ, List, take, drop}
use Rattle.std.specs.List.{flat_map}
use Rattle.rg_record.specs.declared.record.Record.{Record}
use Rattle.rg_image.specs.Kept.{AreEntries}
use Rattle.rg_image.specs.Page.{spelt}
use Rattle.rg_log.specs.Read.{StandAt}
use Rattle.rg_log.proofs.entries.entries_at.Given as goal

abbrev pub invariant-loop-k : goal.invariant-loop-k
invariant-loop-k l = record {
  entries : AreEntries l.records.items;
  found : (rs : List Record) (rest : List ℕ) → StandAt l.bytes l.count rs rest
      → (l.records.items ≡ take l._k rs) × (l.rest ≡ flat_map spelt (drop l._k rs) ++ rest);
}
