use Rattle.std.proofs.Common.{◌≡◌, ◌-◌, ◌^◌, nat_lt}
use Rattle.rg_outside.specs.Calls.{Read, FailedRead, Told, read_of}
use Rattle.rg_outside.proofs.Brings.{told_after}
use Rattle.rg_mem.specs.Shown.{shown, told_of}
use Rattle.rg_mem.proofs.Noting.{told_if}
use Rattle.rg_mem.proofs.volume.MemVolumeVolume.read.Goals as goal

pub returns-then-is_some-clause-made : goal.returns-then-is_some-clause-made
returns-then-is_some-clause-made c = (FailedRead, tt, c.note.ensures.made)

pub returns-clause-content : goal.returns-clause-content
returns-clause-content c =
    let m = c.args.self.now in
    let Reads =
    λ (t : Told). c.content.result.now ≡ read_of t.first t.calls c.args.set c.args.page in
    let reads : Reads (shown m) =
    rw ((c.has_room.ensures.room.0 c.if-not-has_room.false).0) c.content.ensures in
    told_after Reads Reads (told_of m) (told_of c.note-2.new.self) Read
    (told_if (nat_lt m.past (2 ^ 64 - 1)) (shown m) Reads reads) c.note-2.ensures.made
    (λ t here. here)
