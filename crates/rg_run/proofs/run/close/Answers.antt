use Rattle.rg_run.proofs.run.close.Goals as goal

pub returns-clause-left : goal.returns-clause-left
returns-clause-left g c =
    let parts = c.into_parts-volume.ensures in
    record {
      legal = parts.legal;
      count = c.into_parts-volume.result.3;
      recorded = parts.recorded;
      last = parts.left.last;
      part = record { start = parts.left.start; starts = parts.left.starts; run = parts.left.run };
    }
