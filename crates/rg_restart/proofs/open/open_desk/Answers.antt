use Rattle.std.proofs.Common.{◌≡◌}
use Rattle.rg_log.specs.Open.{IsQuiet}
use Rattle.rg_space.specs.Memory.{list_seen, space_pages}
use Rattle.rg_space.specs.Space.{capacity_in, frames_of}
use Rattle.rg_desk.specs.Desk.{Opens}
use Rattle.rg_restart.specs.Opening.{OpensStored}
use Rattle.rg_engine.proofs.Leaving.{has_more}
use Rattle.rg_restart.proofs.Opened.{ok_both, opens_stored}
use Rattle.rg_restart.proofs.open.open_desk.Goals as goal

pub new-requires-clause-copy : goal.new-requires-clause-copy
new-requires-clause-copy g c = c.in-Ok.ensures.looks.finds.copy

-- looking makes more calls, and takes none back
pub new-requires-clause-counted : goal.new-requires-clause-counted
new-requires-clause-counted g c =
    has_more IsQuiet (g.V.Volume.seen c.args.volume).told (g.V.Volume.seen c.look.new.volume).told
    c.args.calls c.in-Ok.ensures.looks.calls.only c.requires.counted

pub returns-in-Ok-clause-opens : goal.returns-in-Ok-clause-opens
returns-in-Ok-clause-opens g c =
    let look = g.V.Volume.seen in
    let found = c.in-Ok.found in
    let volume = c.look.new.volume in
    let operator = c.args.operator in
    ok_both c.new.result
    (λ made. Opens look volume operator found.log found.copy (capacity_in found.space)
    (space_pages found.space) made.0)
    (λ made. (made.0.contents ≡ (list_seen (frames_of found.space)).pages)
    × (made.0.marks ≡ found.marks.items))
    (λ made. OpensStored look (look c.args.volume) operator made.0)
    (λ made opens both. opens_stored look (look c.args.volume) volume operator found made.0
    c.in-Ok.ensures.looks opens both.0 both.1)
    c.new.ensures.opens
    (ok_both c.new.result
    (λ made. made.0.contents ≡ (list_seen (frames_of found.space)).pages)
    (λ made. made.0.marks ≡ found.marks.items)
    (λ made. (made.0.contents ≡ (list_seen (frames_of found.space)).pages)
    × (made.0.marks ≡ found.marks.items)) (λ made contents marks. (contents, marks))
    c.new.ensures.contents c.new.ensures.marks)
