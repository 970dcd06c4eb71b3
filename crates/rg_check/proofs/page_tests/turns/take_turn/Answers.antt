use Rattle.std.proofs.Common.{◌≡◌, ◌∙◌, true, Option, sym, ap, subst}
use Rattle.rg_base.specs.declared.place.Place.{Place}
use Rattle.rg_page.specs.Content.{slots_of}
use Rattle.rg_page.specs.Seen.{Seen}
use Rattle.rg_laws_pages.specs.UndoRoom.Needed.{Needed}
use Rattle.rg_space.specs.Space.{frames_of, summaries_of}
use Rattle.rg_undo.specs.Undoing.{CanUndoChange, written_of}
use Rattle.rg_check.specs.PageTests.Breach.{BreaksOf}
use Rattle.rg_check.proofs.PageTestsLemmas.Turning.{turn_can, turn_done}
use Rattle.rg_check.proofs.page_tests.turns.take_turn.Goals as goal

pub returns-in-Ok-undo-clause-turn : goal.returns-in-Ok-undo-clause-turn
returns-in-Ok-undo-clause-turn g c = λ sure proper.
    let a = g.F.Frames.seen (frames_of c.args.space.now) in
    let t = g.F.Frames.seen (frames_of c.breach_of.new.space) in
    let m = g.F.Frames.seen (frames_of c.reserve_undo.new.self) in
    let z = g.F.Frames.seen (frames_of c.undo_one-undo.new.space) in
    let y = g.F.Frames.seen (frames_of c.let_go.new.self) in
    let go = c.let_go.ensures.let_go in
    let entry = c.args.entry in
    let sure_z : z.sure ≡ true = sym go.sure ∙ sure in
    let sure_m : m.sure ≡ true = c.undo_one-undo.ensures.keeps.sure sure_z in
    let stays : m ≡ t = ap g.F.Frames.seen c.reserve_undo.ensures.frames in
    let sure_t : t.sure ≡ true = sym (ap (λ (s : Seen). s.sure) stays) ∙ sure_m in
    let same : m.pages ≡ a.pages =
    ap (λ (s : Seen). s.pages) stays ∙ c.breach_of.ensures.left.looked.reads.same sure_t in
    let copy : m.copy ≡ a.copy =
    ap (λ (s : Seen). s.copy) stays ∙ c.breach_of.ensures.left.looked.reads.keeps.copy in
    let index = c.reserve_undo.ensures.summaries ∙ c.breach_of.ensures.left.summaries in
    let needed_t : Needed (slots_of t.pages) (written_of entry) =
    subst (λ (o : Option Place). BreaksOf (slots_of t.pages) (written_of entry) o)
    c.in-Ok-None.field-0-is (c.in-Ok-None.ensures.breach sure_t) in
    let needed : Needed (slots_of m.pages) (written_of entry) =
    subst (λ (s : Seen). Needed (slots_of s.pages) (written_of entry)) (sym stays) needed_t in
    let ai = summaries_of c.args.space.now in
    let mi = summaries_of c.reserve_undo.new.self in
    let can : CanUndoChange m mi entry = turn_can a m ai mi entry same index proper needed in
    turn_done a m ai mi entry same index proper needed z y (summaries_of c.undo_one-undo.new.space)
    (summaries_of c.let_go.new.self) c.args.position.0 c.args.back.0 copy go.pages
    c.let_go.ensures.summaries (c.in-Ok-undo.ensures.undone sure_z can) c.in-Ok-undo.undo
    (c.in-Ok-undo.ensures.undo sure_z can)
