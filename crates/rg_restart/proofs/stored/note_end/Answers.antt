use Rattle.std.proofs.Common.{◌==◌, ◌&&◌, ◌||◌, ℕ, ◌∙◌, sym, ap}
use Rattle.std.specs.FinMap as map
use Rattle.rg_image.specs.Meaning.{is_commit}
use Rattle.rg_restart.proofs.Stores.{note_so}
use Rattle.rg_restart.proofs.stored.note_end.Goals as goal

pub returns-in-Ok : goal.returns-in-Ok
returns-in-Ok c = λ tran.
    ap (λ m. map.contains_key m tran) c.in-Ok.ensures.ok
    ∙ note_so c.args.ended.now c.from.result tran (is_commit c.args.entry.now.kind)
    (sym c.is_commit.ensures ∙ c.if-not-is_commit.false)
    ∙ ap
    (λ (n : ℕ). map.contains_key c.args.ended.now tran
    || (is_commit c.args.entry.now.kind && (n == tran))) c.from.ensures
