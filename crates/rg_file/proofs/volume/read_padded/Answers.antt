use Rattle.rg_file.proofs.Padding.{pads_known}
use Rattle.rg_file.proofs.volume.read_padded.Goals as goal

pub returns-clause-bytes : goal.returns-clause-bytes
returns-clause-bytes g c = pads_known _ _ _ _ _ _ c.fill.auto.into c.in_ok-n.ensures.count
    c.in_ok-n.ensures.taken c.in_ok-n.ensures.end (c.fill-2.ensures.after (λ y e. e))
