use Rattle.std.proofs.Common.{◌∙◌, subst, sym, ap, List, length}
use Rattle.std.specs.Option.{option_copied}
use Rattle.rg_page.specs.Content.{Content}
use Rattle.rg_record.specs.Applied.{parts_of, after_of}
use Rattle.rg_space.specs.Applied.{AllHeld}
use Rattle.rg_space.specs.Space.{frames_of, capacity_in}
use Rattle.rg_space.proofs.Applying.{entry_pages, entry_slots, all_there, stay_ready}
use Rattle.rg_space.proofs.space.Space.apply.Goals as goal

pub apply_parts-requires-clause-held : goal.apply_parts-requires-clause-held
apply_parts-requires-clause-held g c = subst (AllHeld (g.F.Frames.seen (frames_of c.args.self.now)))
    (sym c.parts.ensures) c.requires.held

pub returns-clause-pages : goal.returns-clause-pages
returns-clause-pages g c = λ can.
    entry_pages (g.F.Frames.seen (frames_of c.args.self.now)) (capacity_in c.args.self.now)
    c.args.entry.now (option_copied c.after.result) c.parts.result.now
    (g.F.Frames.seen (frames_of c.apply_parts.new.self)).pages c.requires.step.few c.parts.ensures
    c.after.ensures c.apply_parts.ensures.pages can

pub returns-clause-slots : goal.returns-clause-slots
returns-clause-slots g c = λ can.
    entry_slots (g.F.Frames.seen (frames_of c.args.self.now)) (capacity_in c.args.self.now)
    c.args.entry.now (option_copied c.after.result) c.parts.result.now
    (g.F.Frames.seen (frames_of c.apply_parts.new.self)).pages c.requires.step.few c.parts.ensures
    c.after.ensures c.apply_parts.ensures.pages can

pub returns-clause-count : goal.returns-clause-count
returns-clause-count g c = λ can there.
    let a = g.F.Frames.seen (frames_of c.args.self.now) in
    let entry = c.args.entry.now in
    ap (λ (ps : List Content). length ps) (entry_pages a (capacity_in c.args.self.now) entry
    (option_copied c.after.result) c.parts.result.now
    (g.F.Frames.seen (frames_of c.apply_parts.new.self)).pages c.requires.step.few c.parts.ensures
    c.after.ensures c.apply_parts.ensures.pages can)
    ∙ all_there a.copy entry.tran.0 (after_of entry.kind) entry.position.0 a.pages
    (parts_of entry.kind) there

pub returns-clause-stay : goal.returns-clause-stay
returns-clause-stay g c = λ same parts.
    stay_ready c.args.entry.now.position.0 (g.F.Frames.seen (frames_of c.args.self.now))
    (g.F.Frames.seen (frames_of c.apply_parts.new.self)) (capacity_in c.args.self.now) parts
    c.apply_parts.ensures.writes same
